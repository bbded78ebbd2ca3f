-- A row takes EndTask: the grants of the task's own objects end, and two walks over all copies follow.
use Rattle.std.proofs.Common.{◌≡◌, ℕ, Bool, true, false, not, ◌&&◌, ◌||◌, ◌==◌, cond, List, [], ◌∷◌, ◌++◌, fold, filter, map, flat_map, take, Option, Some, None, is_some, is_none, option_map, unwrap_or, refl, sym, ap, subst, ◌∙◌, T, arith}
use Rattle.std.specs.Prelude.{option_to_list}
use Rattle.std.proofs.lemmas.List.{append-nil, append_assoc}
use Rattle.std.proofs.lemmas.Bool.Decides.{nat_tests}
use Rattle.std.specs.List.{cons_option}
use Rattle.std.specs.Option.{option_map_or, option_and_then}
use Rattle.std.specs.FinMap.Entries.{is_sorted, below_all}
use Rattle.obj_id.specs.declared.ids.TaskNo.{TaskNo}
use Rattle.obj_id.specs.declared.ids.ObjectId.{ObjectId}
use Rattle.obj_id.specs.declared.works.DeviceKey.{DeviceKey}
use Rattle.obj_id.specs.declared.refusals.Refusal.{Refusal}
use Rattle.obj_id.specs.declared.commands.Command.TheVariants as command
use Rattle.obj_id.specs.declared.commands.Reply.TheVariants as reply
use Rattle.obj_id.specs.declared.messages.DirectoryMessage.TheVariants.{RemoveLocation, Free}
use Rattle.obj_id.specs.Ids.{id_cmp, same_id, same_task}
use Rattle.obj_id.specs.Kinds.{is_primary}
use Rattle.store_facts.proofs.Ids.{same_id-equal}
use Rattle.private_store.specs.declared.inputs.Input.{Input}
use Rattle.private_store.specs.declared.inputs.Input.TheVariants as input
use Rattle.private_store.specs.rules.Tables.{ById, at, ids_of}
use Rattle.private_store.specs.rules.Shape.{Copy, Shape, Change, Sending, GrantGiven, free, remove_location}
use Rattle.private_store.specs.rules.Marks.{without_borrower}
use Rattle.private_store.specs.rules.Copies.{extent_of, in_scope, was_sealed}
use Rattle.private_store.specs.rules.Room.{set_copy}
use Rattle.private_store.specs.rules.Change.{done, sending, erasing, settled, keys_gone, doom, doom_notice}
use Rattle.private_store.specs.rules.Change as changes
use Rattle.private_store.specs.rules.Commands.{end_task_checks, at_each, give_up_one, of_task, task_ended, end_task, has_borrower}
use Rattle.private_store.specs.rules.Commands as commands
use Rattle.private_store.specs.rules.Contents.{Contents, View, judge, keeps_digest, no_digest}
use Rattle.private_store.specs.laws.Invariants.{has_grant}
use Rattle.private_store.specs.rules.Private.{Post, key_of, posts_of, view_after}
use Rattle.private_store.specs.rules.Step.{reordered}
use Rattle.store_facts.proofs.Filling.{filled}
use Rattle.store_facts.proofs.Tests.{T_true, and_right}
use Rattle.job_region.specs.Region.{region_bytes_at as placed_bytes}
use Rattle.lru_evictor.specs.Orders.{AreThere}
use Rattle.lru_evictor.proofs.ForCallers.{reordered-unused}
use Rattle.job_row.specs.Checks.{end_task_check}
use Rattle.job_row.specs.Dropping.{settled_row}
use Rattle.job_row.specs.EndingTasks.{task_row, doomed_row, doom_posts, given_up_row, give_up_posts, posts_of_each, keys_of_copies, gone_keys, gone_key}
use Rattle.row_copy.specs.CopyViews.{CopyView, after_doom, after_give_up, after_grants_ended}
use Rattle.job_row.specs.Row.{Row, copies_of, place_of, ArePlaced}
use Rattle.row_copy.specs.Scope.{removal_notice}
use Rattle.job_row.specs.Scope.{removal_notice_at, notice_posts, with_copy}
use Rattle.row_steps.specs.Shown.{seen, IsShown, RowGiven, only, RowStep}
use Rattle.row_steps.proofs.ForCallers.{called, by-checks, unless_refused, sending-is, TakesChange, moved, change, bytes_now, same_bytes, received_stays, stays}
use Rattle.job_row.proofs.ForCallers.{at-first, at-rest, at-copies, at-copies_found, at-copies_none, sorted-copies, same_part, copies-ended, from_ended, ended_placed}
use Rattle.row_commands.proofs.LeavingEach.{ids-copies}
use Rattle.row_commands.proofs.Scoping.{doom-is, scoped-is, scoped-copy, scoped_copy, scoped_told, scoped-minor, doomed-minor, notice_of}
use Rattle.row_commands.proofs.Settling.{IsMinor}
use Rattle.row_steps.specs.Beside.{SharedTables, shape_of, beside_ended, beside_after}
use Rattle.row_commands.proofs.Walking.{IsOnItsWay, touched-shape, touched, settled_shape, settled_on, untouched}

-- ---- the grants that end

module _ (job : ℕ) (task : TaskNo) where
  abbrev lasts : GrantGiven → Bool
  lasts grant = not (grant.id.job.0 == job && same_task task grant.id.task)

  has_grant-ended : (given : List GrantGiven) (id : ObjectId) → (id.job.0 == job) ≡ true → has_grant (filter lasts given) id ≡ cond (same_task task id.task) false (has_grant given id)
  has_grant-ended [] id mine = by (same_task task id.task)
    where
      by : (b : Bool) → false ≡ cond b false false
      by true = refl
      by false = refl
  has_grant-ended (grant ∷ given) id mine = by (same_id id grant.id) refl (has_grant-ended given id mine)
    where
      rest : List GrantGiven
      rest = filter lasts given

      other : same_id id grant.id ≡ false → (t : Bool) → has_grant (cond t (grant ∷ rest) rest) id ≡ has_grant rest id
      other s true = ap (λ b. b || has_grant rest id) s
      other s false = refl

      own : same_id id grant.id ≡ true → (t : Bool) → has_grant rest id ≡ cond t false (has_grant given id) → has_grant (cond (not t) (grant ∷ rest) rest) id ≡ cond t false true
      own s true later = later
      own s false later = ap (λ b. b || has_grant rest id) s

      of_it : same_id id grant.id ≡ true → (grant.id.job.0 == job && same_task task grant.id.task) ≡ same_task task id.task
      of_it s = ap (λ (i : ObjectId). i.job.0 == job && same_task task i.task) (sym (same_id-equal id grant.id s)) ∙ ap (λ b. b && same_task task id.task) mine

      by : (b : Bool) → same_id id grant.id ≡ b → has_grant rest id ≡ cond (same_task task id.task) false (has_grant given id)
          → has_grant (cond (lasts grant) (grant ∷ rest) rest) id ≡ cond (same_task task id.task) false (b || has_grant given id)
      by true s later = ap (λ c. has_grant (cond (not c) (grant ∷ rest) rest) id) (of_it s) ∙ own s (same_task task id.task) later
      by false s later = other s (lasts grant) ∙ later

-- ---- the definition's walks

abbrev Plain : Change → Type 0
Plain c = c ≡ record (done c.shape) { sent = c.sent }

doom-plain : (s : Shape) (id : ObjectId) → Plain (doom s id)
unfolding sending
doom-plain s id = refl

give_up-plain : (task : TaskNo) (s : Shape) (id : ObjectId) → Plain (give_up_one task s id)
give_up-plain task s id = by (at s.copies id)
  where
    scoped-plain : (copy : Copy) (b : Bool) → Plain (cond b (done (set_copy s id copy)) (doom (set_copy s id copy) id))
    scoped-plain copy true = refl
    scoped-plain copy false = doom-plain (set_copy s id copy) id

    one : (copy : Copy) (d b : Bool) → Plain (cond d (done (set_copy s id copy)) (cond b (commands.scoped s id copy) (done s)))
    one copy true b = refl
    one copy false true = scoped-plain copy (in_scope copy)
    one copy false false = refl

    by : (o : Option Copy) → Plain (option_map_or (λ copy.
        cond copy.doomed (done (set_copy s id (without_borrower copy task))) (cond (has_borrower copy task) (commands.scoped s id (without_borrower copy task)) (done s))) o (done s))
    by None = refl
    by (Some copy) = one (without_borrower copy task) copy.doomed (has_borrower copy task)

module _ (f : Shape → ObjectId → Change) (p : ObjectId → Bool) where
  -- the change at one id, if it is meant
  abbrev meant : Shape → ObjectId → Change
  meant s id = cond (p id) (f s id) (done s)

  abbrev shape_each : Shape → List ObjectId → Shape
  shape_each s ids = fold (λ t id. (meant t id).shape) s ids

  abbrev sent_each : Shape → List ObjectId → List Sending
  sent_each s [] = []
  sent_each s (id ∷ ids) = (meant s id).sent ++ sent_each (meant s id).shape ids

  at_each-is : ((s : Shape) (id : ObjectId) → Plain (f s id)) → (ids : List ObjectId) (s : Shape) (l : List Sending)
      → at_each f (filter p ids) (record (done s) { sent = l }) ≡ record (done (shape_each s ids)) { sent = l ++ sent_each s ids }
  at_each-is plain [] s l = ap (λ k. record (done s) { sent = k }) (sym (append-nil l))
  at_each-is plain (id ∷ ids) s l = by (p id) (at_each-is plain ids)
    where
      by : (b : Bool)
          → ((t : Shape) (k : List Sending) → at_each f (filter p ids) (record (done t) { sent = k }) ≡ record (done (shape_each t ids)) { sent = k ++ sent_each t ids })
          → at_each f (cond b (id ∷ filter p ids) (filter p ids)) (record (done s) { sent = l })
          ≡ record (done (shape_each (cond b (f s id) (done s)).shape ids)) { sent = l ++ ((cond b (f s id) (done s)).sent ++ sent_each (cond b (f s id) (done s)).shape ids) }
      by true later =
          ap (λ c. at_each f (filter p ids) c) (sending-is l (f s id) ∙ ap (λ (c : Change). record c { sent = l ++ c.sent }) (plain s id))
          ∙ later (f s id).shape (l ++ (f s id).sent)
          ∙ ap (λ k. record (done (shape_each (f s id).shape ids)) { sent = k }) (append_assoc l (f s id).sent (sent_each (f s id).shape ids))
      by false later = later s l

filter-all : (ids : List ObjectId) → filter (λ id. true) ids ≡ ids
filter-all [] = refl
filter-all (id ∷ ids) = ap (λ t. id ∷ t) (filter-all ids)

flat_map-append : {X Y : Type 0} (f : X → List Y) (xs ys : List X) → flat_map f (xs ++ ys) ≡ flat_map f xs ++ flat_map f ys
flat_map-append f [] ys = refl
flat_map-append f (x ∷ xs) ys = ap (λ t. f x ++ t) (flat_map-append f xs ys) ∙ sym (append_assoc (f x) (flat_map f xs) (flat_map f ys))

-- ---- what is told of one copy that is doomed

doom_told : (node : ℕ) (id : ObjectId) (o : View) (x : Input) (k : CopyView) → notice_posts (cond (not k.copy.doomed) (removal_notice node id k) None) ≡ flat_map (posts_of node o x) (option_to_list (notice_of id k.copy))
doom_told node id o x k = by (was_sealed k.copy.state) (is_primary k.copy.kind) k.copy.doomed
  where
    by : (b p d : Bool) → notice_posts (cond (not d) (cond b (Some (cond p (Free id) (RemoveLocation id node))) None) None)
        ≡ flat_map (posts_of node o x) (option_to_list (cond (b && not d) (cond p (Some (free id)) (Some (remove_location id))) None))
    by true true true = refl
    by true true false = refl
    by true false true = refl
    by true false false = refl
    by false p true = refl
    by false p false = refl

-- ---- a row on its way

module _ (node : ℕ) (row : Row) (beside : SharedTables) (contents : Contents) (h : IsShown row beside contents) (x : Input) (after : SharedTables) where
  abbrev s_of : Row → Shape
  s_of r = shape_of r after

  -- the row after this change, and what it tells
  record Fits (c : Change) (r : Row) (said : List Post) : Type 0 where
    pub underway : IsOnItsWay node row beside contents h x after r
    pub shape : c.shape ≡ s_of r
    pub response : (o : View) → said ≡ flat_map (posts_of node o x) c.sent

  fits_as : (c d : Change) (r t : Row) (said response : List Post) → c ≡ d → r ≡ t → said ≡ response → Fits d t response → Fits c r said
  fits_as c d r t said response cd rt st fits = subst (λ z. Fits z r said) (sym cd) (subst (λ z. Fits d z said) (sym rt) (subst (λ z. Fits d t z) (sym st) fits))

  -- ---- a walk

  module _ (f : Shape → ObjectId → Change) (p : ObjectId → Bool) (next : Row → ObjectId → Row) (says : Row → ObjectId → List Post)
      (one : (r : Row) → IsOnItsWay node row beside contents h x after r → (id : ObjectId) → Fits (meant f p (s_of r) id) (next r id) (says r id)) where
    each_on : (ids : List ObjectId) (r : Row) → IsOnItsWay node row beside contents h x after r → IsOnItsWay node row beside contents h x after (fold next r ids)
    each_on [] r g = g
    each_on (id ∷ ids) r g = each_on ids (next r id) (one r g id).underway

    each_shape : (ids : List ObjectId) (r : Row) → IsOnItsWay node row beside contents h x after r → shape_each f p (s_of r) ids ≡ s_of (fold next r ids)
    each_shape [] r g = refl
    each_shape (id ∷ ids) r g = ap (λ s. shape_each f p s ids) (one r g id).shape ∙ each_shape ids (next r id) (one r g id).underway

    each_told : (o : View) (ids : List ObjectId) (r : Row) → IsOnItsWay node row beside contents h x after r → posts_of_each next says r ids ≡ flat_map (posts_of node o x) (sent_each f p (s_of r) ids)
    each_told o [] r g = refl
    each_told o (id ∷ ids) r g =
        ap (λ t. t ++ posts_of_each next says (next r id) ids) ((one r g id).response o)
        ∙ ap (λ t. flat_map (posts_of node o x) (meant f p (s_of r) id).sent ++ t)
        (each_told o ids (next r id) (one r g id).underway ∙ ap (λ s. flat_map (posts_of node o x) (sent_each f p s ids)) (sym (one r g id).shape))
        ∙ sym (flat_map-append (posts_of node o x) (meant f p (s_of r) id).sent (sent_each f p (meant f p (s_of r) id).shape ids))

  -- ---- the first walk: the task's copies are doomed

  module _ (task : TaskNo) (r : Row) (g : IsOnItsWay node row beside contents h x after r) (id : ObjectId) where
    abbrev row_doomed : Row
    row_doomed = settled_row (with_copy after_doom r id) id

    abbrev doomed_said : Option CopyView → List Post
    doomed_said o = notice_posts (cond (not (option_map_or (λ (k : CopyView). k.copy.doomed) o false)) (option_and_then (removal_notice node id) o) None)

    doom_fits : Fits (doom (s_of r) id) row_doomed (doomed_said (at r.copies id))
    doom_fits = by (at r.copies id) refl
      where
        by : (o : Option CopyView) → at r.copies id ≡ o → Fits (doom (s_of r) id) row_doomed (doomed_said (at r.copies id))
        by None none =
            fits_as (doom (s_of r) id) (done (s_of r)) row_doomed r (doomed_said (at r.copies id)) []
            (sending-is (option_to_list (doom_notice (s_of r) id)) (done (changes.doomed (s_of r) id))
            ∙ ap (λ (o : Option Copy). record (done (option_map_or (λ copy. settled (set_copy (s_of r) id (record copy { doomed = true })) id) o (s_of r))) { sent = option_to_list (option_map_or (notice_of id) o None) ++ [] }) (at-copies_none r.copies id none))
            (untouched node row beside contents h x after r id after_doom none) (ap doomed_said none)
            (record { underway = g; shape = refl; response = λ o. refl })
        by (Some k) found =
            let again = touched node row beside contents h x after r g id k found after_doom doomed-minor in
            fits_as (doom (s_of r) id) (record (done (settled (set_copy (s_of r) id (record k.copy { doomed = true })) id)) { sent = option_to_list (notice_of id k.copy) }) row_doomed row_doomed (doomed_said (at r.copies id)) (doomed_said (Some k))
            (doom-is (s_of r) id k.copy (at-copies_found r.copies id k found)) refl (ap doomed_said found)
            (record {
              underway = settled_on node row beside contents h x after (with_copy after_doom r id) again id;
              shape = ap (λ t. settled t id) (sym (touched-shape node row beside contents h x after r g id k found after_doom doomed-minor)) ∙ settled_shape node row beside contents h x after (with_copy after_doom r id) again id;
              response = λ o. doom_told node id o x k;
            })

    first_fits : Fits (meant doom (λ id. same_task task id.task) (s_of r) id) (doomed_row task r id) (doom_posts node task r id)
    first_fits = by (same_task task id.task)
      where
        by : (b : Bool) → Fits (cond b (doom (s_of r) id) (done (s_of r))) (cond b row_doomed r)
            (notice_posts (removal_notice_at node r.copies id (b && not (option_map_or (λ (k : CopyView). k.copy.doomed) (at r.copies id) false))))
        by true = doom_fits
        by false = record { underway = g; shape = refl; response = λ o. refl }

    -- ---- the second walk: its borrows are given up

    abbrev row_given_up : Row
    row_given_up = with_copy (after_give_up task) r id

    abbrev given_up_said : Bool → Bool → Bool → List Post
    given_up_said d b i = notice_posts (removal_notice_at node r.copies id (not d && (b && not i)))

    module _ (k : CopyView) (found : at r.copies id ≡ Some k) where
      abbrev without : CopyView
      without = record k { copy = without_borrower k.copy task }

      minor : (z : CopyView) → IsMinor (after_give_up task) z
      minor z = scoped-minor (λ y. record y { copy = without_borrower y.copy task }) z
          (record { lies = λ y. (refl, refl); digest = refl; keeps = λ keep. keep; working = refl; granted = refl; backed = refl })

      again : IsOnItsWay node row beside contents h x after row_given_up
      again = touched node row beside contents h x after r g id k found (after_give_up task) minor

      shape_is : s_of row_given_up ≡ set_copy (s_of r) id (scoped_copy without.copy)
      shape_is = touched-shape node row beside contents h x after r g id k found (after_give_up task) minor ∙ ap (λ a. set_copy (s_of r) id a) (scoped-copy without)

      doomed_still : k.copy.doomed ≡ true → (b : Bool) → cond b without.copy (record without.copy { doomed = true }) ≡ without.copy
      doomed_still d true = refl
      doomed_still d false = ap (λ b. record without.copy { doomed = b }) (sym d)

      by_state : (d : Bool) → k.copy.doomed ≡ d → (b : Bool)
          → Fits (cond d (done (set_copy (s_of r) id without.copy)) (cond b (commands.scoped (s_of r) id without.copy) (done (s_of r))))
          (cond d row_given_up (cond b (settled_row row_given_up id) r)) (given_up_said d b (in_scope without.copy))
      by_state true d b = record {
        underway = again;
        shape = sym (shape_is ∙ ap (λ a. set_copy (s_of r) id a) (doomed_still d (in_scope without.copy)));
        response = λ o. refl;
      }
      by_state false d true =
          let is = scoped-is (s_of r) id without.copy g.sorted d in
          record {
            underway = settled_on node row beside contents h x after row_given_up again id;
            shape = ap (λ (c : Change). c.shape) is ∙ ap (λ t. settled t id) (sym shape_is) ∙ settled_shape node row beside contents h x after row_given_up again id;
            response = λ o. scoped_told node id o x k without.copy refl refl d r.copies found ∙ sym (ap (λ (c : Change). flat_map (posts_of node o x) c.sent) is);
          }
      by_state false d false = record { underway = g; shape = refl; response = λ o. refl }

    abbrev changed_by : Option Copy → Change
    changed_by o = option_map_or (λ copy.
        cond copy.doomed (done (set_copy (s_of r) id (without_borrower copy task))) (cond (has_borrower copy task) (commands.scoped (s_of r) id (without_borrower copy task)) (done (s_of r)))) o (done (s_of r))

    abbrev row_by : Option CopyView → Row
    row_by o = cond (option_map_or (λ (k : CopyView). k.copy.doomed) o false) row_given_up (cond (option_map_or (λ (k : CopyView). has_borrower k.copy task) o false) (settled_row row_given_up id) r)

    abbrev said_by : Option CopyView → List Post
    said_by o = given_up_said (option_map_or (λ (k : CopyView). k.copy.doomed) o false) (option_map_or (λ (k : CopyView). has_borrower k.copy task) o false) (option_map_or (λ (k : CopyView). in_scope (without_borrower k.copy task)) o false)

    second_fits : Fits (give_up_one task (s_of r) id) (given_up_row task r id) (give_up_posts node task r id)
    second_fits = by (at r.copies id) refl
      where
        by : (o : Option CopyView) → at r.copies id ≡ o → Fits (give_up_one task (s_of r) id) (given_up_row task r id) (give_up_posts node task r id)
        by None none =
            fits_as (give_up_one task (s_of r) id) (done (s_of r)) (given_up_row task r id) r (give_up_posts node task r id) []
            (ap changed_by (at-copies_none r.copies id none)) (ap row_by none) (ap said_by none)
            (record { underway = g; shape = refl; response = λ o. refl })
        by (Some k) found =
            fits_as (give_up_one task (s_of r) id) (changed_by (Some k.copy)) (given_up_row task r id) (row_by (Some k)) (give_up_posts node task r id) (said_by (Some k))
            (ap changed_by (at-copies_found r.copies id k found)) (ap row_by found) (ap said_by found)
            (by_state k found k.copy.doomed refl (has_borrower k.copy task))

-- ---- device keys

keys-gone : (row after : Row) (es : ById CopyView) → T (is_sorted id_cmp es) → ((q : ObjectId) (k : CopyView) → at es q ≡ Some k → at row.copies q ≡ Some k)
    → gone_keys after (keys_of_copies row (ids_of es)) ≡ map (key_of row.job) (keys_gone (copies_of es) (copies_of after.copies))
keys-gone row after [] sorted are = refl
keys-gone row after (e ∷ es) sorted are =
    flat_map-append (gone_key after) (keyed (option_and_then (λ (kept : CopyView). option_map (key_of row.job) kept.copy.backed) (at row.copies e.0))) (keys_of_copies row (ids_of es))
    ∙ (λ i. flat_map (gone_key after) (keyed (option_and_then (λ (kept : CopyView). option_map (key_of row.job) kept.copy.backed) (are e.0 e.1 (at-first e es) i)))
    ++ keys-gone row after es (and_right (below_all id_cmp e.0 es) _ sorted) (λ q k found. are q k (at-rest e es sorted q k found)) i)
    ∙ by e.1.copy.backed
    ∙ ap (λ o. map (key_of row.job) (cons_option (cond (is_none o) e.1.copy.backed None) rest)) (sym (at-copies after.copies e.0))
  where
    keyed : Option DeviceKey → List (ObjectId × DeviceKey)
    keyed o = option_to_list (option_map (λ key. (e.0, key)) o)

    rest : List ℕ
    rest = keys_gone (copies_of es) (copies_of after.copies)

    now : Option CopyView → Option ℕ → List DeviceKey
    now o n = map (key_of row.job) (cons_option (cond (is_none (option_map (λ (k : CopyView). k.copy) o)) n None) rest)

    none : (o : Option CopyView) → map (key_of row.job) rest ≡ now o None
    none None = refl
    none (Some k) = refl

    some : (n : ℕ) (o : Option CopyView) → (cond (is_some o) [] (key_of row.job n ∷ []) ++ []) ++ map (key_of row.job) rest ≡ now o (Some n)
    some n None = refl
    some n (Some k) = refl

    by : (n : Option ℕ) → flat_map (gone_key after) (keyed (option_map (key_of row.job) n)) ++ map (key_of row.job) rest ≡ now (at after.copies e.0) n
    by None = none (at after.copies e.0)
    by (Some n) = some n (at after.copies e.0)

-- ---- the step

same_number : (n : ℕ) → (n == n) ≡ true
same_number n = grind (arith, nat_tests)

module _ (node : ℕ) (row : Row) (beside : SharedTables) (contents : Contents) (session : ℕ) (task : TaskNo) (h : IsShown row beside contents) where
  abbrev s : Shape
  s = shape_of row beside

  abbrev x : Input
  x = input.Call session (command.EndTask task)

  abbrev after : SharedTables
  after = beside_ended row.job task beside

  abbrev pub r0 : Row
  r0 = task_row task row

  abbrev ids : List ObjectId
  ids = ids_of row.copies

  abbrev pub r1 : Row
  r1 = fold (doomed_row task) r0 ids

  abbrev pub r2 : Row
  r2 = fold (given_up_row task) r1 ids

  abbrev first_said : List Post
  first_said = posts_of_each (doomed_row task) (doom_posts node task) r0 ids

  abbrev second_said : List Post
  second_said = posts_of_each (given_up_row task) (give_up_posts node task) r1 ids

  abbrev pub given : RowGiven
  given = record { reply = reply.Ok; posts = first_said ++ second_said; erased = gone_keys r2 (keys_of_copies row ids) }

  -- why it is refused, and else what is done
  abbrev walks : Change
  walks = at_each (give_up_one task) (ids_of s.copies) (at_each doom (of_task task (ids_of s.copies)) (done (task_ended s task)))

  end_task-by : end_task s task ≡ unless_refused s (end_task_check row task) walks
  end_task-by = by-checks s (end_task_checks s.ended_tasks task) _ walks refl

  end_task-is : (check : Option Refusal) → end_task_check row task ≡ check → change node row beside contents h x ≡ erasing s (unless_refused s check walks)
  end_task-is check e = called row beside session (command.EndTask task) ∙ ap (erasing s) (end_task-by ∙ ap (λ o. unless_refused s o walks) e)

  -- both walks leave the answer
  answered_ok : (is : List ObjectId) → (at_each (give_up_one task) is (at_each doom (of_task task is) (done (task_ended s task)))).reply ≡ reply.Ok
  answered_ok is =
      let doomed_shape = shape_each doom (λ id. same_task task id.task) (task_ended s task) is in
      let said = sent_each doom (λ id. same_task task id.task) (task_ended s task) is in
      ap (λ c. (at_each (give_up_one task) is c).reply) (at_each-is doom (λ id. same_task task id.task) doom-plain is (task_ended s task) [])
      ∙ ap (λ qs. (at_each (give_up_one task) qs (record (done doomed_shape) { sent = said })).reply) (sym (filter-all is))
      ∙ ap (λ (c : Change). c.reply) (at_each-is (give_up_one task) (λ id. true) (give_up-plain task) is doomed_shape said)

  pub end_task_ok : end_task_check row task ≡ None → (change node row beside contents h x).reply ≡ reply.Ok
  end_task_ok passed = ap (λ (c : Change). c.reply) (end_task-is None passed) ∙ answered_ok (ids_of s.copies)

  refused_so : (r : Refusal) → end_task_check row task ≡ Some r → RowStep node row beside contents x (only (reply.Refused r)) row beside
  refused_so r e = stays node row beside contents h x (reply.Refused r) (end_task-is (Some r) e) refl refl refl

  pub end_task_refused : (r : Refusal) → end_task_check row task ≡ Some r → RowStep node row beside contents x (only (reply.Refused r)) row (beside_after row task beside)
  end_task_refused r e =
      subst (λ o. RowStep node row beside contents x (only (reply.Refused r)) row (option_map_or (λ (q : Refusal). beside) o after)) (sym e) (refused_so r e)

  -- where it isn't refused

  own : (q : ObjectId) (k : CopyView) → at row.copies q ≡ Some k → (q.job.0 == row.job) ≡ true
  own q k found = ap (λ n. n == row.job) (h.kept.kept.shape.each q k.copy (at-copies_found row.copies q k found)).own ∙ same_number row.job

  granted_now : (b : Bool) (q : ObjectId) (k : CopyView) → at row.copies q ≡ Some k → (cond b (after_grants_ended k) k).granted ≡ cond b false (has_grant beside.given q)
  granted_now true q k found = refl
  granted_now false q k found = h.granted q k found

  start_shape : task_ended s task ≡ shape_of r0 after
  start_shape = ap (λ t. record (shape_of r0 after) { copies = t }) (sym (copies-ended task row.copies))

  module _ (placed : ArePlaced row.window.placed (place_of row.copies)) where
    begins : IsOnItsWay node row beside contents h x after r0
    begins = record {
      moves = record {
        shape = refl;
        order = ap (λ t. reordered row.order t None) (copies-ended task row.copies) ∙ sym (reordered-unused row.order (copies_of row.copies) h.there);
        there = subst (λ t. AreThere t row.order) (sym (copies-ended task row.copies)) h.there;
        listed = λ q y found. let z = from_ended task row.copies q y found in h.listed q z.0 z.1;
        bytes = λ q y e found lies.
            let z = from_ended task row.copies q y found in
            let same = ap (λ (k : CopyView). k.copy) z.2 ∙ same_part task (λ k. k.copy) (λ k. refl) (same_task task q.task) z.0 in
            subst (λ c. extent_of c ≡ Some e → filled (at (bytes_now node row beside contents h x (done (shape_of r0 after))) q) c ≡ take c.length (placed_bytes e row.window.placed)) (sym same)
            (λ lies. same_bytes node row beside contents h x q z.0 e z.1 lies) lies;
        digests = λ q y found keep.
            let z = from_ended task row.copies q y found in
            let same = ap (λ (k : CopyView). k.copy) z.2 ∙ same_part task (λ k. k.copy) (λ k. refl) (same_task task q.task) z.0 in
            let digest = ap (λ (k : CopyView). k.digest) z.2 ∙ same_part task (λ k. k.digest) (λ k. refl) (same_task task q.task) z.0 in
            h.digests q z.0 z.1 (ap keeps_digest (sym same) ∙ keep) ∙ ap (λ d. unwrap_or d no_digest) (sym digest);
        working = λ q y found.
            let z = from_ended task row.copies q y found in
            ap (λ (k : CopyView). k.working) z.2 ∙ same_part task (λ k. k.working) (λ k. refl) (same_task task q.task) z.0 ∙ h.working q z.0 z.1;
        granted = λ q y found.
            let z = from_ended task row.copies q y found in
            ap (λ (k : CopyView). k.granted) z.2 ∙ granted_now (same_task task q.task) q z.0 z.1 ∙ sym (has_grant-ended row.job task beside.given q (own q z.0 z.1));
        received = received_stays node row beside contents h x refl;
        reply = refl;
        erased = refl;
      };
      placed = ended_placed task row.window.placed row.copies placed;
      sorted = subst (λ t. T (is_sorted id_cmp t)) (sym (copies-ended task row.copies)) (T_true _ h.kept.kept.shape.by_id);
    }

    one_doomed : (r : Row) → IsOnItsWay node row beside contents h x after r → (id : ObjectId)
        → Fits node row beside contents h x after (meant doom (λ id. same_task task id.task) (shape_of r after) id) (doomed_row task r id) (doom_posts node task r id)
    one_doomed r g id = first_fits node row beside contents h x after task r g id

    one_given_up : (r : Row) → IsOnItsWay node row beside contents h x after r → (id : ObjectId)
        → Fits node row beside contents h x after (meant (give_up_one task) (λ id. true) (shape_of r after) id) (given_up_row task r id) (give_up_posts node task r id)
    one_given_up r g id = second_fits node row beside contents h x after task r g id

    g1 : IsOnItsWay node row beside contents h x after r1
    g1 = each_on node row beside contents h x after doom (λ id. same_task task id.task) (doomed_row task) (doom_posts node task) one_doomed ids r0 begins

    g2 : IsOnItsWay node row beside contents h x after r2
    g2 = each_on node row beside contents h x after (give_up_one task) (λ id. true) (given_up_row task) (give_up_posts node task) one_given_up ids r1 g1

    abbrev first_sent : List Sending
    first_sent = sent_each doom (λ id. same_task task id.task) (shape_of r0 after) ids

    abbrev second_sent : List Sending
    second_sent = sent_each (give_up_one task) (λ id. true) (shape_of r1 after) ids

    abbrev ended_change : Change
    ended_change = record (done (shape_of r2 after)) { sent = first_sent ++ second_sent }

    first_walk : at_each doom (of_task task ids) (done (task_ended s task)) ≡ record (done (shape_of r1 after)) { sent = first_sent }
    first_walk =
        ap (λ t. at_each doom (of_task task ids) (done t)) start_shape
        ∙ at_each-is doom (λ id. same_task task id.task) doom-plain ids (shape_of r0 after) []
        ∙ ap (λ t. record (done t) { sent = first_sent }) (each_shape node row beside contents h x after doom (λ id. same_task task id.task) (doomed_row task) (doom_posts node task) one_doomed ids r0 begins)

    walks-are : walks ≡ ended_change
    walks-are =
        ap (λ is. at_each (give_up_one task) is (at_each doom (of_task task is) (done (task_ended s task)))) (ids-copies row.copies)
        ∙ ap (λ is. at_each (give_up_one task) is (at_each doom (of_task task ids) (done (task_ended s task)))) (sym (filter-all ids))
        ∙ ap (λ c. at_each (give_up_one task) (filter (λ id. true) ids) c) first_walk
        ∙ at_each-is (give_up_one task) (λ id. true) (give_up-plain task) ids (shape_of r1 after) first_sent
        ∙ ap (λ t. record (done t) { sent = first_sent ++ second_sent }) (each_shape node row beside contents h x after (give_up_one task) (λ id. true) (given_up_row task) (give_up_posts node task) one_given_up ids r1 g1)

    abbrev c : Change
    c = erasing s ended_change

    m : TakesChange node row beside contents h x c given r2 after
    m = record {
      shape = refl;
      order = g2.moves.order;
      there = g2.moves.there;
      listed = g2.moves.listed;
      bytes = g2.moves.bytes;
      digests = g2.moves.digests;
      working = g2.moves.working;
      granted = g2.moves.granted;
      received = g2.moves.received;
      reply = refl;
      erased = keys-gone row r2 row.copies (subst T (sorted-copies row.copies) (T_true _ h.kept.kept.shape.by_id)) (λ q k f. f);
    }

    said : (o : View) → first_said ++ second_said ≡ flat_map (posts_of node o x) (first_sent ++ second_sent)
    said o =
        (λ i. each_told node row beside contents h x after doom (λ id. same_task task id.task) (doomed_row task) (doom_posts node task) one_doomed o ids r0 begins i
        ++ each_told node row beside contents h x after (give_up_one task) (λ id. true) (given_up_row task) (give_up_posts node task) one_given_up o ids r1 g1 i)
        ∙ sym (flat_map-append (posts_of node o x) first_sent second_sent)

    pub end_task_done : end_task_check row task ≡ None → RowStep node row beside contents x given r2 (beside_after row task beside)
    end_task_done passed =
        subst (λ o. RowStep node row beside contents x given r2 (option_map_or (λ (q : Refusal). beside) o after)) (sym passed)
        (moved node row beside contents h x c (end_task-is None passed ∙ ap (erasing s) walks-are) given r2 after m
        (said (view_after node (seen row beside contents) x (judge node (seen row beside contents) x) c)))
