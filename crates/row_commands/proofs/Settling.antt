-- A row takes a step that changes one copy, where it lies, and removes it if nothing keeps it then.
use Rattle.std.proofs.Common.{◌≡◌, ℕ, Bool, true, false, cond, ◌&&◌, List, [], flat_map, map, Option, Some, None, is_some, option_map, refl, sym, ap, subst, ◌∙◌}
use Rattle.std.specs.Prelude.{option_to_list}
use Rattle.std.specs.Option.{option_map_or}
use Rattle.obj_id.specs.declared.ids.ObjectId.{ObjectId}
use Rattle.obj_id.specs.declared.commands.Reply.TheVariants as reply
use Rattle.private_store.specs.declared.inputs.Input.{Input}
use Rattle.private_store.specs.rules.Tables.{at}
use Rattle.private_store.specs.rules.Shape.{Copy, Shape, Change, Sending}
use Rattle.private_store.specs.rules.Copies.{is_held, is_granted, is_working, is_idle}
use Rattle.private_store.specs.rules.Room.{set_copy, drop_copy}
use Rattle.private_store.specs.rules.Change.{done, erasing, settled, keys_gone}
use Rattle.private_store.specs.rules.Contents.{Contents, View, judge, keeps_digest, bytes_brought, digest_brought, bytes_received}
use Rattle.private_store.specs.rules.Private.{Post, key_of, posts_of, view_after}
use Rattle.store_facts.proofs.Rows.{at-put_here}
use Rattle.store_facts.proofs.Tests.{T_true}
use Rattle.lru_evictor.proofs.ForCallers.{reordered-unused}
use Rattle.row_copy.specs.CopyViews.{CopyView}
use Rattle.job_row.specs.Row.{Row, copies_of, place_of, ArePlaced}
use Rattle.job_row.specs.Dropping.{dropped, settled_row, keys_settled}
use Rattle.row_copy.specs.Keeping.{is_over}
use Rattle.job_row.specs.Scope.{with_copy}
use Rattle.row_steps.specs.Shown.{seen, IsShown, RowGiven, RowStep}
use Rattle.job_row.proofs.ForCallers.{changed-found, at-copies_found, copies-changed}
use Rattle.row_steps.proofs.ForCallers.{there_still, bytes_stay, digests_stay, works_stay, listed_stay, keys_with, granted_stay, working-on, idle_same, change_left, moves_left, key_removed, TakesChange, moved, change, received_stays}
use Rattle.row_steps.specs.Beside.{SharedTables, shape_of}

-- what isn't doomed stays
pub settled-stays : (store : Shape) (id : ObjectId) (copy : Copy) → at store.copies id ≡ Some copy → copy.doomed ≡ false → settled store id ≡ store
settled-stays store id copy found sound =
    ap (λ o. option_map_or (λ copy. cond (copy.doomed && is_idle store id copy) (drop_copy store id) store) o store) found
    ∙ ap (λ b. cond (b && is_idle store id copy) (drop_copy store id) store) sound

-- the change of a copy leaves its place, its bytes and what stands on it
pub record IsMinor (f : CopyView → CopyView) (k : CopyView) : Type 0 where
  pub lies : (z : CopyView) → ((f z).copy.offset ≡ z.copy.offset) × ((f z).copy.length ≡ z.copy.length)
  pub digest : (f k).digest ≡ k.digest
  pub keeps : keeps_digest (f k).copy ≡ true → keeps_digest k.copy ≡ true
  pub working : (f k).working ≡ k.working
  pub granted : (f k).granted ≡ k.granted
  pub backed : (f k).copy.backed ≡ k.copy.backed

-- the input brings nothing where it is answered Ok
pub record BringsNothing (node : ℕ) (view : View) (x : Input) : Type 0 where
  pub bytes : bytes_brought view x (judge node view x) reply.Ok ≡ None
  pub digest : digest_brought node view x reply.Ok ≡ None
  pub received : bytes_received x ≡ None

-- one key, or none
pub one_key : (job : ℕ) (o : Option ℕ) → option_to_list (option_map (key_of job) o) ≡ map (key_of job) (option_to_list o)
one_key job None = refl
one_key job (Some n) = refl

-- a row that has moved so far removes its copy if nothing keeps it
module _ (node : ℕ) (row : Row) (beside : SharedTables) (contents : Contents) (h : IsShown row beside contents) (x : Input) (r : Row) (after : SharedTables) (store : Shape) (sent : List Sending) (posts : List Post)
    (m : TakesChange node row beside contents h x (erasing (shape_of row beside) (record (done store) { sent = sent })) (record { reply = reply.Ok; posts = posts; erased = [] }) r after)
    (id : ObjectId) (k : CopyView) (found : at r.copies id ≡ Some k) (there : at store.copies id ≡ Some k.copy) (alike : is_over k ≡ k.copy.doomed && is_idle store id k.copy)
    (key : keys_gone (copies_of row.copies) (drop_copy store id).copies ≡ option_to_list k.copy.backed) where
  abbrev done_if : Bool → Change
  done_if b = erasing (shape_of row beside) (record (done (cond b (drop_copy store id) store)) { sent = sent })

  settled_is : erasing (shape_of row beside) (record (done (settled store id)) { sent = sent }) ≡ done_if (is_over k)
  settled_is =
      ap (λ o. erasing (shape_of row beside) (record (done (option_map_or (λ (copy : Copy). cond (copy.doomed && is_idle store id copy) (drop_copy store id) store) o store)) { sent = sent })) there
      ∙ ap done_if (sym alike)

  -- the row, and what it gives, as the code leaves them
  abbrev row_settled : Bool → Row
  row_settled b = cond b (dropped r id) r

  abbrev gives : Bool → RowGiven
  gives b = record { reply = reply.Ok; posts = posts; erased = cond b (option_to_list (option_map (key_of row.job) k.copy.backed)) [] }

  settled_row-is : settled_row r id ≡ row_settled (is_over k)
  settled_row-is = ap (λ o. option_map_or (λ kept. cond (is_over kept) (dropped r id) r) o r) found

  keys-are : r.job ≡ row.job → keys_settled r id ≡ (gives (is_over k)).erased
  keys-are same =
      ap (λ o. option_map_or (λ kept. cond (is_over kept) (option_to_list (option_map (key_of r.job) kept.copy.backed)) []) o []) found
      ∙ ap (λ job. cond (is_over k) (option_to_list (option_map (key_of job) k.copy.backed)) []) same

  module _ (step_is : change node row beside contents h x ≡ erasing (shape_of row beside) (record (done (settled store id)) { sent = sent })) (posted : (o : View) → posts ≡ flat_map (posts_of node o x) sent) where
    -- what is shown after this change
    abbrev shows : Change → View
    shows d = view_after node (seen row beside contents) x (judge node (seen row beside contents) x) d

    -- a copy that something keeps, or that isn't doomed, stays
    pub moved_stays : is_over k ≡ false → RowStep node row beside contents x (record { reply = reply.Ok; posts = posts; erased = [] }) r after
    moved_stays is =
        moved node row beside contents h x (done_if false) (step_is ∙ settled_is ∙ ap done_if is) (record { reply = reply.Ok; posts = posts; erased = [] }) r after m (posted (shows (done_if false)))

    settled_so : ArePlaced r.window.placed (place_of r.copies) → (b : Bool) → is_over k ≡ b → RowStep node row beside contents x (gives b) (row_settled b) after
    settled_so placed false is = moved_stays is
    settled_so placed true is =
        let keys = keys_gone (copies_of row.copies) (drop_copy store id).copies in
        let response : RowGiven = record { reply = reply.Ok; posts = posts; erased = [] } in
        let gone = change_left node row beside contents h x (done_if false) response r after m refl placed id keys in
        moved node row beside contents h x gone (step_is ∙ settled_is ∙ ap done_if is) (gives true) (dropped r id) after
        (moves_left node row beside contents h x (done_if false) response r after m refl placed id keys (gives true) refl (one_key row.job k.copy.backed ∙ ap (map (key_of row.job)) (sym key)))
        (posted (shows gone))

    pub moved_settles : r.job ≡ row.job → ArePlaced r.window.placed (place_of r.copies) → RowStep node row beside contents x (record { reply = reply.Ok; posts = posts; erased = keys_settled r id }) (settled_row r id) after
    moved_settles same placed =
        subst (λ ks. RowStep node row beside contents x (record { reply = reply.Ok; posts = posts; erased = ks }) (settled_row r id) after) (sym (keys-are same))
        (subst (λ t. RowStep node row beside contents x (gives (is_over k)) t after) (sym settled_row-is) (settled_so placed (is_over k) refl))

module _ (node : ℕ) (row : Row) (beside : SharedTables) (contents : Contents) (h : IsShown row beside contents) (x : Input) (quiet : BringsNothing node (seen row beside contents) x)
    (id : ObjectId) (k : CopyView) (found : at row.copies id ≡ Some k) (f : CopyView → CopyView) (minor : IsMinor f k) (sent : List Sending) (posts : List Post) where
  abbrev s : Shape
  s = shape_of row beside

  abbrev now : Copy
  now = (f k).copy

  abbrev row_now : Row
  row_now = with_copy f row id

  abbrev c : Change
  c = erasing s (record (done (set_copy s id now)) { sent = sent })

  abbrev response : RowGiven
  response = record { reply = reply.Ok; posts = posts; erased = [] }

  m : TakesChange node row beside contents h x c response row_now beside
  m = record {
    shape = ap (λ t. record s { copies = t }) (sym (copies-changed f row.copies id k found));
    order = sym (reordered-unused row.order (copies_of row_now.copies) (there_still node row beside contents h x id k found f minor.lies row.order h.there));
    there = there_still node row beside contents h x id k found f minor.lies row.order h.there;
    listed = listed_stay node row beside contents h x id k found f minor.lies row.order h.listed;
    bytes = bytes_stay node row beside contents h x id k found f minor.lies c quiet.bytes;
    digests = digests_stay node row beside contents h x id k found f minor.lies c quiet.digest minor.digest minor.keeps;
    working = works_stay node row beside contents h x id k found f minor.lies minor.working;
    granted = granted_stay node row beside contents h x id k found f minor.lies minor.granted;
    received = received_stays node row beside contents h x quiet.received;
    reply = refl;
    erased = sym (ap (map (key_of row.job)) (keys_with (copies_of row.copies) id now));
  }

  over_is : is_over (f k) ≡ now.doomed && is_idle (set_copy s id now) id now
  over_is =
      ap (λ b. now.doomed && b)
      (idle_same (is_held now) (f k).granted (is_granted s id) (is_working s id) (f k).working
      (minor.granted ∙ h.granted id k found) (ap is_some (minor.working ∙ h.working id k found) ∙ working-on beside.works id))

  found_now : at row_now.copies id ≡ Some (f k)
  found_now = ap (λ t. at t id) (changed-found f id row.copies k found) ∙ at-put_here row.copies id (f k)

  key_is : keys_gone (copies_of row.copies) (drop_copy (set_copy s id now) id).copies ≡ option_to_list now.backed
  key_is = key_removed (copies_of row.copies) id k.copy now (T_true _ h.kept.kept.shape.by_id) (at-copies_found row.copies id k found) ∙ ap option_to_list (sym minor.backed)

  module _ (step_is : change node row beside contents h x ≡ erasing s (record (done (settled (set_copy s id now) id)) { sent = sent }))
      (posted : (o : View) → posts ≡ flat_map (posts_of node o x) sent) where
    -- a copy that something keeps, or that isn't doomed, stays
    pub stays_so : is_over (f k) ≡ false → RowStep node row beside contents x response row_now beside
    stays_so is = moved_stays node row beside contents h x row_now beside (set_copy s id now) sent posts m id (f k) found_now (at-put_here (copies_of row.copies) id now) over_is key_is step_is posted is

    pub settles : ArePlaced row_now.window.placed (place_of row_now.copies) → RowStep node row beside contents x (record { reply = reply.Ok; posts = posts; erased = keys_settled row_now id }) (settled_row row_now id) beside
    settles placed = moved_settles node row beside contents h x row_now beside (set_copy s id now) sent posts m id (f k) found_now (at-put_here (copies_of row.copies) id now) over_is key_is step_is posted refl placed
