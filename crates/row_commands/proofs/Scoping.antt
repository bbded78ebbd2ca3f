-- A row takes the commands that say what keeps an object in scope: Unpin, Borrow, GiveUp and Delete.
use Rattle.std.proofs.Common.{◌≡◌, ℕ, Bool, true, false, not, cond, ◌==◌, ◌&&◌, ◌||◌, List, [], ◌∷◌, ◌++◌, flat_map, Option, Some, None, refl, sym, ap, ◌∙◌, T}
use Rattle.std.specs.Prelude.{option_to_list}
use Rattle.std.specs.Option.{option_map_or, option_and_then}
use Rattle.std.specs.FinMap.Entries.{is_sorted, same_entries, is_sorted-put}
use Rattle.obj_id.specs.declared.ids.TaskNo.{TaskNo}
use Rattle.obj_id.specs.declared.ids.ObjectId.{ObjectId}
use Rattle.obj_id.specs.declared.refusals.Refusal.{Refusal}
use Rattle.obj_id.specs.declared.refusals.Refusal.TheVariants.{Gone, Absent}
use Rattle.obj_id.specs.declared.commands.Command.{Command}
use Rattle.obj_id.specs.declared.commands.Command.TheVariants as command
use Rattle.obj_id.specs.declared.commands.Reply.TheVariants as reply
use Rattle.obj_id.specs.declared.messages.DirectoryMessage.TheVariants.{RemoveLocation, Free}
use Rattle.obj_id.specs.Ids.{id_cmp, same_id, same_task}
use Rattle.obj_id.specs.Kinds.{is_primary}
use Rattle.store_facts.proofs.Ids.{id_cmp-IsTotalOrder, id_cmp-IsAntisymmetric}
use Rattle.private_store.specs.declared.inputs.Input.{Input}
use Rattle.private_store.specs.declared.inputs.Input.TheVariants as input
use Rattle.private_store.specs.rules.Tables.{ById, at, with_entry}
use Rattle.private_store.specs.rules.Shape.{Copy, Shape, Change, Sending, free, remove_location}
use Rattle.private_store.specs.rules.Marks.{without_borrower}
use Rattle.private_store.specs.rules.Copies.{in_scope, was_sealed}
use Rattle.private_store.specs.laws.Invariants.{is_remembered}
use Rattle.private_store.specs.rules.Room.{set_copy}
use Rattle.private_store.specs.rules.Change.{refused, done, checked, erasing, settled, doom, doom_notice, has_ended}
use Rattle.private_store.specs.rules.Change as changes
use Rattle.private_store.specs.rules.Commands.{unpin_checks, borrow_checks, give_up_checks, delete_checks, unpin, borrow, give_up, delete}
use Rattle.private_store.specs.rules.Commands as commands
use Rattle.private_store.specs.rules.Contents.{Contents, View, keeps_digest}
use Rattle.private_store.specs.rules.Private.{Post, posts_of}
use Rattle.private_store.specs.rules.Shared.{first_refusal}
use Rattle.store_facts.proofs.Checks.{checked-nil}
use Rattle.store_facts.proofs.Rows.{at-put, at-put_here}
use Rattle.store_facts.proofs.Tests.{T_true}
use Rattle.row_copy.specs.Checks.{unless_doomed}
use Rattle.job_row.specs.Checks.{unpin_check, borrow_check, row_borrow_check, give_up_check, delete_check}
use Rattle.job_row.specs.Dropping.{settled_row, keys_settled}
use Rattle.row_copy.specs.CopyViews.{CopyView, view_in_scope, after_doom, after_unpin, after_borrow, after_give_up}
use Rattle.job_row.specs.Row.{Row, place_of, ArePlaced}
use Rattle.row_copy.specs.Scope.{removal_notice}
use Rattle.job_row.specs.Scope.{removal_notice_at, notice_posts, with_copy}
use Rattle.row_steps.specs.Shown.{seen, IsShown, only, RowStep}
use Rattle.row_steps.proofs.ForCallers.{unless_refused, by-checks, first-check, in_sight, called, own, sending-is, past, there_all, change, stays}
use Rattle.job_row.proofs.ForCallers.{at-copies_found}
use Rattle.row_copy.proofs.ForCallers.{scoped-keeps}
use Rattle.row_commands.proofs.Settling.{IsMinor, BringsNothing, settled-stays, stays_so, settles}
use Rattle.row_copy.specs.Keeping.{is_idle_view}
use Rattle.row_steps.specs.Beside.{SharedTables, shape_of}

-- ---- what the changes leave as it was

pub doomed-minor : (k : CopyView) → IsMinor after_doom k
doomed-minor k = record {
  lies = λ z. (refl, refl);
  digest = refl;
  keeps = λ keep. keep;
  working = refl;
  granted = refl;
  backed = refl;
}

pub scoped-minor : (g : CopyView → CopyView) (k : CopyView) → IsMinor g k → IsMinor (λ z. view_in_scope (g z)) k
scoped-minor g k m = record {
  lies = λ z. (scoped-keeps (λ y. y.copy.offset) (λ y. refl) (g z) ∙ (m.lies z).0, scoped-keeps (λ y. y.copy.length) (λ y. refl) (g z) ∙ (m.lies z).1);
  digest = scoped-keeps (λ y. y.digest) (λ y. refl) (g k) ∙ m.digest;
  keeps = λ keep. m.keeps (by (in_scope (g k).copy) keep);
  working = scoped-keeps (λ y. y.working) (λ y. refl) (g k) ∙ m.working;
  granted = scoped-keeps (λ y. y.granted) (λ y. refl) (g k) ∙ m.granted;
  backed = scoped-keeps (λ y. y.copy.backed) (λ y. refl) (g k) ∙ m.backed;
}
  where
    by : (b : Bool) → keeps_digest (cond b (g k) (after_doom (g k))).copy ≡ true → keeps_digest (g k).copy ≡ true
    by true keep = keep
    by false keep = keep

-- ---- the definitions, of a copy that is there

-- of two entries put under one id the later stands
with-again : {X : Type 0} (es : ById X) (id : ObjectId) (a b : X) → T (is_sorted id_cmp es) → with_entry (with_entry es id a) id b ≡ with_entry es id b
with-again es id a b sorted =
    same_entries id_cmp id_cmp-IsTotalOrder id_cmp-IsAntisymmetric (with_entry (with_entry es id a) id b) (with_entry es id b)
    (is_sorted-put id_cmp id_cmp-IsTotalOrder id b (with_entry es id a) (is_sorted-put id_cmp id_cmp-IsTotalOrder id a es sorted))
    (is_sorted-put id_cmp id_cmp-IsTotalOrder id b es sorted)
    (λ q. at-put (with_entry es id a) id b q ∙ ap (λ o. cond (same_id q id) (Some b) o) (at-put es id a q) ∙ by (same_id q id) (at es q) ∙ sym (at-put es id b q))
  where
    by : (s : Bool) (o : Option _) → cond s (Some b) (cond s (Some a) o) ≡ cond s (Some b) o
    by true o = refl
    by false o = refl

-- what is sent of this copy where it is doomed
abbrev pub notice_of : ObjectId → Copy → Option Sending
notice_of id copy = cond (was_sealed copy.state && not copy.doomed) (cond (is_primary copy.kind) (Some (free id)) (Some (remove_location id))) None

no_more : {X : Type 0} (o : Option X) → option_to_list o ++ [] ≡ option_to_list o
no_more None = refl
no_more (Some x) = refl

pub doom-is : (s : Shape) (id : ObjectId) (a : Copy) → at s.copies id ≡ Some a
    → doom s id ≡ record (done (settled (set_copy s id (record a { doomed = true })) id)) { sent = option_to_list (notice_of id a) }
doom-is s id a found =
    sending-is (option_to_list (doom_notice s id)) (done (changes.doomed s id))
    ∙ ap (λ (o : Option Copy). record (done (option_map_or (λ copy. settled (set_copy s id (record copy { doomed = true })) id) o s)) { sent = option_to_list (option_map_or (notice_of id) o None) ++ [] }) found
    ∙ ap (λ l. record (done (settled (set_copy s id (record a { doomed = true })) id)) { sent = l }) (no_more (notice_of id a))

-- the copy, doomed unless it is in scope
abbrev pub scoped_copy : Copy → Copy
scoped_copy a = cond (in_scope a) a (record a { doomed = true })

abbrev pub scoped_notice : ObjectId → Copy → List Sending
scoped_notice id a = cond (in_scope a) [] (option_to_list (notice_of id a))

pub scoped-is : (s : Shape) (id : ObjectId) (a : Copy) → T (is_sorted id_cmp s.copies) → a.doomed ≡ false
    → commands.scoped s id a ≡ record (done (settled (set_copy s id (scoped_copy a)) id)) { sent = scoped_notice id a }
scoped-is s id a sorted sound = by (in_scope a)
  where
    by : (b : Bool) → cond b (done (set_copy s id a)) (doom (set_copy s id a) id)
        ≡ record (done (settled (set_copy s id (cond b a (record a { doomed = true }))) id)) { sent = cond b [] (option_to_list (notice_of id a)) }
    by true = ap done (sym (settled-stays (set_copy s id a) id a (at-put_here s.copies id a) sound))
    by false =
        doom-is (set_copy s id a) id a (at-put_here s.copies id a)
        ∙ ap (λ t. record (done (settled (record s { copies = t }) id)) { sent = option_to_list (notice_of id a) }) (with-again s.copies id a (record a { doomed = true }) sorted)

pub scoped-copy : (k : CopyView) → (view_in_scope k).copy ≡ scoped_copy k.copy
scoped-copy k = by (in_scope k.copy)
  where
    by : (b : Bool) → (cond b k (after_doom k)).copy ≡ cond b k.copy (record k.copy { doomed = true })
    by true = refl
    by false = refl

-- ---- messages

module _ (node : ℕ) (id : ObjectId) (o : View) (x : Input) where
  response-is : (k : CopyView) (a : Copy) → a.state ≡ k.copy.state → a.kind ≡ k.copy.kind → a.doomed ≡ false
      → notice_posts (removal_notice node id k) ≡ flat_map (posts_of node o x) (option_to_list (notice_of id a))
  response-is k a state kind sound =
      by (was_sealed k.copy.state) (is_primary k.copy.kind)
      ∙ sym (λ i. flat_map (posts_of node o x) (option_to_list (cond (was_sealed (state i) && not (sound i)) (cond (is_primary (kind i)) (Some (free id)) (Some (remove_location id))) None)))
    where
      by : (b p : Bool) → notice_posts (cond b (Some (cond p (Free id) (RemoveLocation id node))) None)
          ≡ flat_map (posts_of node o x) (option_to_list (cond (b && true) (cond p (Some (free id)) (Some (remove_location id))) None))
      by true true = refl
      by true false = refl
      by false p = refl

  pub scoped_told : (k : CopyView) (a : Copy) → a.state ≡ k.copy.state → a.kind ≡ k.copy.kind → a.doomed ≡ false → (copies : ById CopyView) → at copies id ≡ Some k
      → notice_posts (removal_notice_at node copies id (not (in_scope a))) ≡ flat_map (posts_of node o x) (scoped_notice id a)
  scoped_told k a state kind sound copies found = by (in_scope a)
    where
      by : (b : Bool) → notice_posts (removal_notice_at node copies id (not b)) ≡ flat_map (posts_of node o x) (cond b [] (option_to_list (notice_of id a)))
      by true = refl
      by false = ap (λ o. notice_posts (option_and_then (removal_notice node id) o)) found ∙ response-is k a state kind sound

-- ---- the commands

module _ (node : ℕ) (row : Row) (beside : SharedTables) (contents : Contents) (session : ℕ) (id : ObjectId) (mine : (id.job.0 == row.job) ≡ true) (h : IsShown row beside contents) where
  abbrev s : Shape
  s = shape_of row beside

  sorted : T (is_sorted id_cmp s.copies)
  sorted = T_true _ h.kept.kept.shape.by_id

  -- what is done with the copy that is there
  abbrev with_it : (Copy → Change) → Change
  with_it f = option_map_or f (at s.copies id) (refused s Absent)

  it : (f : Copy → Change) (k : CopyView) → at row.copies id ≡ Some k → with_it f ≡ f k.copy
  it f k found = ap (λ o. option_map_or f o (refused s Absent)) (at-copies_found row.copies id k found)

  -- a command that leaves the copy doomed unless it is in scope
  module _ (c : Command (List ℕ)) (quiet : BringsNothing node (seen row beside contents) (input.Call session c)) (g : CopyView → CopyView) (k : CopyView) (found : at row.copies id ≡ Some k)
      (minor : IsMinor g k) (same : ((g k).copy.state ≡ k.copy.state) × ((g k).copy.kind ≡ k.copy.kind)) (sound : (g k).copy.doomed ≡ false) where
    abbrev row_scoped : Row
    row_scoped = with_copy (λ z. view_in_scope (g z)) row id

    scoped_so : change node row beside contents h (input.Call session c) ≡ erasing s (commands.scoped s id (g k).copy)
        → (stays : Bool) → stays ≡ in_scope (g k).copy → (posts : List Post) → posts ≡ notice_posts (removal_notice_at node row.copies id (not stays))
        → ArePlaced row_scoped.window.placed (place_of row_scoped.copies)
        → RowStep node row beside contents (input.Call session c) (record { reply = reply.Ok; posts = posts; erased = keys_settled row_scoped id }) (settled_row row_scoped id) beside
    scoped_so is stays keeps posts response placed =
        settles node row beside contents h (input.Call session c) quiet id k found (λ z. view_in_scope (g z)) (scoped-minor g k minor) (scoped_notice id (g k).copy) posts
        (is ∙ ap (erasing s) (scoped-is s id (g k).copy sorted sound
        ∙ ap (λ a. record (done (settled (set_copy s id a) id)) { sent = scoped_notice id (g k).copy }) (sym (scoped-copy (g k)))))
        (λ o. response ∙ ap (λ b. notice_posts (removal_notice_at node row.copies id (not b))) keeps
        ∙ scoped_told node id o (input.Call session c) k (g k).copy same.0 same.1 sound row.copies found) placed

  -- ---- Unpin

  module _ (task : TaskNo) where
    abbrev unpin_done : Change
    unpin_done = with_it (λ copy. commands.scoped s id (record copy { pinned = false }))

    unpin-by : unpin s id task ≡ unless_refused s (unpin_check row.copies id task) unpin_done
    unpin-by =
        in_sight row beside id _ (λ k. first_refusal (unpin_checks k.copy (same_task task id.task))) unpin_done (λ k found seen.
        by-checks s (unpin_checks k.copy (same_task task id.task)) _ _ (sym (it (λ copy. commands.scoped s id (record copy { pinned = false })) k found)))

    unpin-is : (check : Option Refusal) → unpin_check row.copies id task ≡ check
        → change node row beside contents h (input.Call session (command.Unpin id task)) ≡ erasing s (unless_refused s check unpin_done)
    unpin-is check e = called row beside session (command.Unpin id task) ∙ ap (erasing s) (own row beside id _ mine ∙ unpin-by ∙ ap (λ o. unless_refused s o unpin_done) e)

    pub unpin_refused : (r : Refusal) → unpin_check row.copies id task ≡ Some r → RowStep node row beside contents (input.Call session (command.Unpin id task)) (only (reply.Refused r)) row beside
    unpin_refused r e = stays node row beside contents h (input.Call session (command.Unpin id task)) (reply.Refused r) (unpin-is (Some r) e) refl refl refl

    abbrev pub row_unpinned : Row
    row_unpinned = with_copy after_unpin row id

    pub unpin_done_so : unpin_check row.copies id task ≡ None → (keeps : Bool) → keeps ≡ option_map_or (λ (k : CopyView). in_scope (record k.copy { pinned = false })) (at row.copies id) false
        → (posts : List Post) → posts ≡ notice_posts (removal_notice_at node row.copies id (not keeps)) → ArePlaced row_unpinned.window.placed (place_of row_unpinned.copies)
        → RowStep node row beside contents (input.Call session (command.Unpin id task)) (record { reply = reply.Ok; posts = posts; erased = keys_settled row_unpinned id }) (settled_row row_unpinned id) beside
    unpin_done_so passed keeps is posts response placed =
        let k = there_all row.copies id (λ k. unless_doomed k (unpin_checks k.copy (same_task task id.task))) passed in
        scoped_so (command.Unpin id task) (record { bytes = refl; digest = refl; received = refl }) (λ z. record z { copy = record z.copy { pinned = false } }) k.0 k.1
        (record { lies = λ z. (refl, refl); digest = refl; keeps = λ keep. keep; working = refl; granted = refl; backed = refl })
        (refl, refl) k.2.0
        (unpin-is None passed ∙ ap (erasing s) (it (λ copy. commands.scoped s id (record copy { pinned = false })) k.0 k.1))
        keeps (is ∙ ap (λ o. option_map_or (λ (k : CopyView). in_scope (record k.copy { pinned = false })) o false) k.1) posts response placed

    pub unpin_ok : unpin_check row.copies id task ≡ None → (change node row beside contents h (input.Call session (command.Unpin id task))).reply ≡ reply.Ok
    unpin_ok passed =
        let k = there_all row.copies id (λ k. unless_doomed k (unpin_checks k.copy (same_task task id.task))) passed in
        ap (λ (c : Change). c.reply) (unpin-is None passed ∙ ap (erasing s) (it (λ copy. commands.scoped s id (record copy { pinned = false })) k.0 k.1
        ∙ scoped-is s id (record k.0.copy { pinned = false }) sorted k.2.0))

  -- ---- GiveUp

  module _ (task : TaskNo) where
    abbrev give_up_done : Change
    give_up_done = with_it (λ copy. commands.scoped s id (without_borrower copy task))

    give_up-by : give_up s id task ≡ unless_refused s (give_up_check row.copies id task) give_up_done
    give_up-by =
        in_sight row beside id _ (λ k. first_refusal (give_up_checks k.copy task)) give_up_done (λ k found seen.
        by-checks s (give_up_checks k.copy task) _ _ (sym (it (λ copy. commands.scoped s id (without_borrower copy task)) k found)))

    give_up-is : (check : Option Refusal) → give_up_check row.copies id task ≡ check
        → change node row beside contents h (input.Call session (command.GiveUp id task)) ≡ erasing s (unless_refused s check give_up_done)
    give_up-is check e = called row beside session (command.GiveUp id task) ∙ ap (erasing s) (own row beside id _ mine ∙ give_up-by ∙ ap (λ o. unless_refused s o give_up_done) e)

    pub give_up_refused : (r : Refusal) → give_up_check row.copies id task ≡ Some r → RowStep node row beside contents (input.Call session (command.GiveUp id task)) (only (reply.Refused r)) row beside
    give_up_refused r e = stays node row beside contents h (input.Call session (command.GiveUp id task)) (reply.Refused r) (give_up-is (Some r) e) refl refl refl

    abbrev pub row_given_up : Row
    row_given_up = with_copy (after_give_up task) row id

    pub give_up_done_so : give_up_check row.copies id task ≡ None → (keeps : Bool) → keeps ≡ option_map_or (λ (k : CopyView). in_scope (without_borrower k.copy task)) (at row.copies id) false
        → (posts : List Post) → posts ≡ notice_posts (removal_notice_at node row.copies id (not keeps)) → ArePlaced row_given_up.window.placed (place_of row_given_up.copies)
        → RowStep node row beside contents (input.Call session (command.GiveUp id task)) (record { reply = reply.Ok; posts = posts; erased = keys_settled row_given_up id }) (settled_row row_given_up id) beside
    give_up_done_so passed keeps is posts response placed =
        let k = there_all row.copies id (λ k. unless_doomed k (give_up_checks k.copy task)) passed in
        scoped_so (command.GiveUp id task) (record { bytes = refl; digest = refl; received = refl }) (λ z. record z { copy = without_borrower z.copy task }) k.0 k.1
        (record { lies = λ z. (refl, refl); digest = refl; keeps = λ keep. keep; working = refl; granted = refl; backed = refl })
        (refl, refl) k.2.0
        (give_up-is None passed ∙ ap (erasing s) (it (λ copy. commands.scoped s id (without_borrower copy task)) k.0 k.1))
        keeps (is ∙ ap (λ o. option_map_or (λ (k : CopyView). in_scope (without_borrower k.copy task)) o false) k.1) posts response placed

    pub give_up_ok : give_up_check row.copies id task ≡ None → (change node row beside contents h (input.Call session (command.GiveUp id task))).reply ≡ reply.Ok
    give_up_ok passed =
        let k = there_all row.copies id (λ k. unless_doomed k (give_up_checks k.copy task)) passed in
        ap (λ (c : Change). c.reply) (give_up-is None passed ∙ ap (erasing s) (it (λ copy. commands.scoped s id (without_borrower copy task)) k.0 k.1
        ∙ scoped-is s id (without_borrower k.0.copy task) sorted k.2.0))

  -- ---- Delete

  abbrev delete_done : Change
  delete_done = with_it (λ copy. doom s id)

  delete-by : delete s id ≡ unless_refused s (delete_check row.copies id) delete_done
  delete-by =
      in_sight row beside id _ (λ k. first_refusal (delete_checks k.granted)) delete_done (λ k found seen.
      ap (λ b. checked s (delete_checks b) (doom s id)) (sym (h.granted id k found)) ∙ by-checks s (delete_checks k.granted) _ _ (sym (it (λ copy. doom s id) k found)))

  delete-is : (check : Option Refusal) → delete_check row.copies id ≡ check
      → change node row beside contents h (input.Call session (command.Delete id)) ≡ erasing s (unless_refused s check delete_done)
  delete-is check e = called row beside session (command.Delete id) ∙ ap (erasing s) (own row beside id _ mine ∙ delete-by ∙ ap (λ o. unless_refused s o delete_done) e)

  pub delete_refused : (r : Refusal) → delete_check row.copies id ≡ Some r → RowStep node row beside contents (input.Call session (command.Delete id)) (only (reply.Refused r)) row beside
  delete_refused r e = stays node row beside contents h (input.Call session (command.Delete id)) (reply.Refused r) (delete-is (Some r) e) refl refl refl

  abbrev pub row_doomed : Row
  row_doomed = with_copy after_doom row id

  pub delete_done_so : delete_check row.copies id ≡ None → (posts : List Post) → posts ≡ notice_posts (removal_notice_at node row.copies id true) → ArePlaced row_doomed.window.placed (place_of row_doomed.copies)
      → RowStep node row beside contents (input.Call session (command.Delete id)) (record { reply = reply.Ok; posts = posts; erased = keys_settled row_doomed id }) (settled_row row_doomed id) beside
  delete_done_so passed posts response placed =
      let k = there_all row.copies id (λ k. unless_doomed k (delete_checks k.granted)) passed in
      settles node row beside contents h (input.Call session (command.Delete id)) (record { bytes = refl; digest = refl; received = refl }) id k.0 k.1 after_doom (doomed-minor k.0) (option_to_list (notice_of id k.0.copy)) posts
      (delete-is None passed ∙ ap (erasing s) (it (λ copy. doom s id) k.0 k.1 ∙ doom-is s id k.0.copy (at-copies_found row.copies id k.0 k.1)))
      (λ o. response ∙ ap (λ o. notice_posts (option_and_then (removal_notice node id) o)) k.1
      ∙ response-is node id o (input.Call session (command.Delete id)) k.0 k.0.copy refl refl k.2.0) placed

  pub delete_ok : delete_check row.copies id ≡ None → (change node row beside contents h (input.Call session (command.Delete id))).reply ≡ reply.Ok
  delete_ok passed =
      let k = there_all row.copies id (λ k. unless_doomed k (delete_checks k.granted)) passed in
      ap (λ (c : Change). c.reply) (delete-is None passed ∙ ap (erasing s) (it (λ copy. doom s id) k.0 k.1 ∙ doom-is s id k.0.copy (at-copies_found row.copies id k.0 k.1)))

  -- ---- Borrow

  module _ (task : TaskNo) where
    abbrev borrowed_copy : Copy → Copy
    borrowed_copy copy = record copy { borrowers = copy.borrowers ++ task ∷ [] }

    abbrev borrow_done : Change
    borrow_done = with_it (λ copy. done (set_copy s id (borrowed_copy copy)))

    borrow-by : borrow s id task ≡ unless_refused s (row_borrow_check row id task) borrow_done
    borrow-by =
        first-check s (has_ended s id.task || has_ended s task) Gone [] _ (borrow_check row.copies id task) borrow_done
        (checked-nil s _ ∙ in_sight row beside id _ (λ k. first_refusal (borrow_checks k.copy task)) borrow_done (λ k found seen.
        by-checks s (borrow_checks k.copy task) _ _ (sym (it (λ copy. done (set_copy s id (borrowed_copy copy))) k found))))

    borrow-is : (check : Option Refusal) → row_borrow_check row id task ≡ check
        → change node row beside contents h (input.Call session (command.Borrow id task)) ≡ erasing s (unless_refused s check borrow_done)
    borrow-is check e = called row beside session (command.Borrow id task) ∙ ap (erasing s) (own row beside id _ mine ∙ borrow-by ∙ ap (λ o. unless_refused s o borrow_done) e)

    pub borrow_refused : (r : Refusal) → row_borrow_check row id task ≡ Some r → RowStep node row beside contents (input.Call session (command.Borrow id task)) (only (reply.Refused r)) row beside
    borrow_refused r e = stays node row beside contents h (input.Call session (command.Borrow id task)) (reply.Refused r) (borrow-is (Some r) e) refl refl refl

    abbrev pub row_borrowed : Row
    row_borrowed = with_copy (after_borrow task) row id

    pub borrow_done_so : row_borrow_check row id task ≡ None → RowStep node row beside contents (input.Call session (command.Borrow id task)) (only reply.Ok) row_borrowed beside
    borrow_done_so passed =
        let alive = past (is_remembered row.ended_tasks id.task || is_remembered row.ended_tasks task) Gone _ passed in
        let k = there_all row.copies id (λ k. unless_doomed k (borrow_checks k.copy task)) alive.1 in
        stays_so node row beside contents h (input.Call session (command.Borrow id task)) (record { bytes = refl; digest = refl; received = refl }) id k.0 k.1 (after_borrow task)
        (record { lies = λ z. (refl, refl); digest = refl; keeps = λ keep. keep; working = refl; granted = refl; backed = refl })
        [] []
        (borrow-is None passed ∙ ap (erasing s) (it (λ copy. done (set_copy s id (borrowed_copy copy))) k.0 k.1
        ∙ ap done (sym (settled-stays (set_copy s id (borrowed_copy k.0.copy)) id (borrowed_copy k.0.copy) (at-put_here s.copies id (borrowed_copy k.0.copy)) k.2.0))))
        (λ o. refl) (ap (λ b. b && is_idle_view (after_borrow task k.0)) k.2.0)

    pub borrow_ok : row_borrow_check row id task ≡ None → (change node row beside contents h (input.Call session (command.Borrow id task))).reply ≡ reply.Ok
    borrow_ok passed =
        let alive = past (is_remembered row.ended_tasks id.task || is_remembered row.ended_tasks task) Gone _ passed in
        let k = there_all row.copies id (λ k. unless_doomed k (borrow_checks k.copy task)) alive.1 in
        ap (λ (c : Change). c.reply) (borrow-is None passed ∙ ap (erasing s) (it (λ copy. done (set_copy s id (borrowed_copy copy))) k.0 k.1))
