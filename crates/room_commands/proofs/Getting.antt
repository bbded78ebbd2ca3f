-- A row takes Get of a copy that is sealed.
use Rattle.std.proofs.Common.{◌≡◌, ℕ, ◌+◌, true, false, cond, ◌==◌, [], ◌∷◌, map, Option, Some, None, is_some, refl, sym, ap, subst, ◌∙◌, Bool, not}
use Rattle.obj_id.specs.declared.ids.ObjectId.{ObjectId}
use Rattle.obj_id.specs.declared.refusals.Failure.TheVariants.{Refused}
use Rattle.obj_id.specs.declared.refusals.Refusal.{Refusal}
use Rattle.obj_id.specs.declared.refusals.Refusal.TheVariants.{Absent, Gone, Pending, NotSealed}
use Rattle.obj_id.specs.declared.commands.CopyState.{CopyState}
use Rattle.obj_id.specs.declared.commands.CopyState.TheVariants.{Created, Sealed, Restoring, Fetching, Away}
use Rattle.obj_id.specs.declared.commands.Command.TheVariants as command
use Rattle.obj_id.specs.declared.commands.Reply.TheVariants as reply
use Rattle.private_store.specs.declared.inputs.Input.{Input}
use Rattle.private_store.specs.declared.inputs.Input.TheVariants as input
use Rattle.private_store.specs.rules.Tables.{ById, at, with_entry, is_among}
use Rattle.private_store.specs.rules.Shape.{Copy, Shape, Change}
use Rattle.private_store.specs.rules.Marks.{with_holds}
use Rattle.private_store.specs.rules.Copies.{is_sealed}
use Rattle.private_store.specs.rules.Room.{set_copy}
use Rattle.private_store.specs.rules.Change.{replied, refused, erasing, checked, needing, has_ended}
use Rattle.private_store.specs.rules.Commands.{hold_checks, get, get_copy, get_sealed, get_away, get_fetching, begin_fetch, holds_of}
use Rattle.private_store.specs.rules.Contents.{Contents, judge}
use Rattle.private_store.specs.rules.Private.{key_of}
use Rattle.private_store.specs.rules.Step.{step}
use Rattle.store_facts.proofs.Checks.{checked-true, checked-false, checked-nil}
use Rattle.store_facts.proofs.Rows.{at-put_here}
use Rattle.std.specs.Prelude.{IfOk, OnErr, Ok, Err}
use Rattle.std.specs.declared.result.Result.{Result}
use Rattle.private_store.specs.laws.Invariants.{is_remembered}
use Rattle.store_facts.proofs.Tests.{some_value, true_false, both_left, both_right, not_true}
use Rattle.lru_evictor.specs.Orders.{AreThere, last_used, touched}
use Rattle.lru_evictor.proofs.ForCallers.{reordered-used}
use Rattle.job_row.specs.Entries.{changed}
use Rattle.row_copy.specs.CopyViews.{CopyView, after_hold, is_ready}
use Rattle.job_row.specs.Row.{Row, copies_of}
use Rattle.row_copy.specs.Checks.{hold_check_of}
use Rattle.job_row.specs.Checks.{visible_state}
use Rattle.job_row.specs.Holding.{IsRowHeld, IsHoldRefusedAt}
use Rattle.row_steps.specs.Shown.{seen, IsShown, only, RowStep}
use Rattle.row_steps.proofs.ForCallers.{unless_refused, by-checks, called, own, there_still, bytes_stay, digests_stay, works_stay, listed_stay, keys_with, granted_stay, TakesChange, moved, stays, received_stays}
use Rattle.job_row.proofs.ForCallers.{at-copies_found, copies-changed}
use Rattle.room_commands.proofs.Orders.{touched-listed, there_last, listed_last}
use Rattle.row_steps.specs.Beside.{SharedTables, shape_of}

-- what is so of each answer
pub each_ok : {T E : Type 0} {P Q : T → Type 0} (r : Result T E) → ((t : T) → P t → Q t) → IfOk r P → IfOk r Q
each_ok (Ok t) f h = f t h
each_ok (Err e) f h = tt

-- the same, of two things
pub ok_both : {T E : Type 0} {P Q R : T → Type 0} (r : Result T E) → ((t : T) → P t → Q t → R t) → IfOk r P → IfOk r Q → IfOk r R
ok_both (Ok t) f p q = f t p q
ok_both (Err e) f p q = tt

-- what is so of each error
pub always_err : {T E : Type 0} {P : Type 0} (r : Result T E) → P → OnErr r P
always_err (Ok t) p = tt
always_err (Err e) p = p

pub each_err : {T E : Type 0} {P Q : Type 0} (r : Result T E) → (P → Q) → OnErr r P → OnErr r Q
each_err (Ok t) f h = tt
each_err (Err e) f h = f h

pub sealed_is : (state : CopyState) → is_sealed state ≡ true → state ≡ Sealed
sealed_is Created e = true_false e
sealed_is Sealed e = refl
sealed_is Restoring e = true_false e
sealed_is Fetching e = true_false e
sealed_is Away e = true_false e

abbrev looked : Bool → CopyView → Result (Option CopyState) Refusal
looked doomed k = cond doomed (Err Absent) (Ok (Some k.copy.state))

-- the copy whose state was looked up
pub record Visible (copies : ById CopyView) (id : ObjectId) (state : CopyState) : Type 0 where
  pub k : CopyView
  pub found : at copies id ≡ Some k
  pub stays : k.copy.doomed ≡ false
  pub is : k.copy.state ≡ state

pub some_at : (copies : ById CopyView) (id : ObjectId) (state : CopyState) → visible_state (at copies id) ≡ Ok (Some state) → Visible copies id state
some_at copies id state e = by (at copies id) refl e
  where
    seen : (k : CopyView) → at copies id ≡ Some k → (b : Bool) → k.copy.doomed ≡ b → looked b k ≡ Ok (Some state) → Visible copies id state
    seen k found true t e = absurd cc
    seen k found false t e = record { k = k; found = found; stays = t; is = cc }

    by : (o : Option CopyView) → at copies id ≡ o → visible_state o ≡ Ok (Some state) → Visible copies id state
    by (Some k) found e = seen k found k.copy.doomed refl e
    by None found e = absurd cc

-- of the copy that was found
pub seen_at : (copies : ById CopyView) (id : ObjectId) (state : CopyState) (k : CopyView) → at copies id ≡ Some k → visible_state (at copies id) ≡ Ok (Some state) → (k.copy.doomed ≡ false) × (k.copy.state ≡ state)
seen_at copies id state k found e =
    let v = some_at copies id state e in
    let same = some_value v.k k (sym v.found ∙ found) in
    (ap (λ (k : CopyView). k.copy.doomed) (sym same) ∙ v.stays, ap (λ (k : CopyView). k.copy.state) (sym same) ∙ v.is)

pub none_at : (copies : ById CopyView) (id : ObjectId) → visible_state (at copies id) ≡ Ok None → at copies id ≡ None
none_at copies id e = by (at copies id) e
  where
    seen : (k : CopyView) (b : Bool) → looked b k ≡ Ok None → Some k ≡ None
    seen k true e = absurd cc
    seen k false e = absurd cc

    by : (o : Option CopyView) → visible_state o ≡ Ok None → o ≡ None
    by (Some k) e = seen k k.copy.doomed e
    by None e = refl

-- the one refusal of a look-up is of a doomed copy
pub doomed_at : (copies : ById CopyView) (id : ObjectId) (r : Refusal) → visible_state (at copies id) ≡ Err r → (k : CopyView) × (at copies id ≡ Some k) × (k.copy.doomed ≡ true) × (r ≡ Absent)
doomed_at copies id r e = by (at copies id) refl e
  where
    seen : (k : CopyView) → at copies id ≡ Some k → (b : Bool) → k.copy.doomed ≡ b → looked b k ≡ Err r
        → (k : CopyView) × (at copies id ≡ Some k) × (k.copy.doomed ≡ true) × (r ≡ Absent)
    seen k found true t e = (k, found, t, cc)
    seen k found false t e = absurd cc

    by : (o : Option CopyView) → at copies id ≡ o → visible_state o ≡ Err r → (k : CopyView) × (at copies id ≡ Some k) × (k.copy.doomed ≡ true) × (r ≡ Absent)
    by (Some k) found e = seen k found k.copy.doomed refl e
    by None found e = absurd cc

-- of an object whose task has ended
pub gone_told : (node : ℕ) (row : Row) (beside : SharedTables) (contents : Contents) (session : ℕ) (id : ObjectId) → (id.job.0 == row.job) ≡ true → IsShown row beside contents → is_remembered row.ended_tasks id.task ≡ true
    → RowStep node row beside contents (input.Call session (command.Get id)) (only (reply.Refused Gone)) row beside
gone_told node row beside contents session id mine h ended =
    stays node row beside contents h (input.Call session (command.Get id)) (reply.Refused Gone)
    (called row beside session (command.Get id)
    ∙ ap (erasing (shape_of row beside)) (own row beside id (get row.order (shape_of row beside) session id) mine
    ∙ checked-true (shape_of row beside) (has_ended (shape_of row beside) id.task) Gone [] (elim (at (copies_of row.copies) id) [
      | None ↦ begin_fetch (shape_of row beside) id
      | Some copy ↦ checked (shape_of row beside) ((copy.doomed, Absent) ∷ []) (get_copy row.order (shape_of row beside) session id copy)
    ]) ended)) refl refl refl

module _ (node : ℕ) (row : Row) (beside : SharedTables) (contents : Contents) (session : ℕ) (id : ObjectId) (mine : (id.job.0 == row.job) ≡ true) (alive : is_remembered row.ended_tasks id.task ≡ false) (h : IsShown row beside contents) where
  abbrev pub s : Shape
  s = shape_of row beside

  abbrev pub x : Input
  x = input.Call session (command.Get id)

  -- what Get does with what is there
  abbrev pub by_copy : Option Copy → Change
  by_copy o = elim o [ None ↦ begin_fetch s id | Some copy ↦ checked s ((copy.doomed, Absent) ∷ []) (get_copy row.order s session id copy) ]

  pub get_is : step row.order s (judge node (seen row beside contents) x) ≡ erasing s (by_copy (at s.copies id))
  get_is =
      called row beside session (command.Get id)
      ∙ ap (erasing s) (own row beside id _ mine ∙ checked-false s (has_ended s id.task) Gone [] (by_copy (at s.copies id)) alive ∙ checked-nil s (by_copy (at s.copies id)))

  -- a doomed copy isn't there for who asks
  pub doomed_told : (k : CopyView) → at row.copies id ≡ Some k → k.copy.doomed ≡ true → RowStep node row beside contents x (only (reply.Refused Absent)) row beside
  doomed_told k found is =
      stays node row beside contents h x (reply.Refused Absent)
      (get_is ∙ ap (erasing s) (ap by_copy (at-copies_found row.copies id k found) ∙ checked-true s k.copy.doomed Absent [] (get_copy row.order s session id k.copy) is)) refl refl refl

  module _ (k : CopyView) (found : at row.copies id ≡ Some k) (unmarked : k.copy.doomed ≡ false) where
    pub get_found : step row.order s (judge node (seen row beside contents) x) ≡ erasing s (get_copy row.order s session id k.copy)
    get_found = get_is ∙ ap (erasing s) (ap by_copy (at-copies_found row.copies id k found) ∙ checked-false s k.copy.doomed Absent [] (get_copy row.order s session id k.copy) unmarked ∙ checked-nil s (get_copy row.order s session id k.copy))

    -- what Get does by the state of the copy
    abbrev pub by_state : CopyState → Change
    by_state state = elim state [
      | Created ↦ refused s NotSealed
      | Sealed ↦ get_sealed s session id k.copy
      | Restoring ↦ refused s Pending
      | Fetching ↦ needing s k.copy.fetch Absent (λ fetch. get_fetching row.order s id k.copy fetch fetch.phase)
      | Away ↦ get_away row.order s id k.copy
    ]

    pub get_at : (state : CopyState) → k.copy.state ≡ state → step row.order s (judge node (seen row beside contents) x) ≡ erasing s (by_state state)
    get_at state is = get_found ∙ ap (λ st. erasing s (by_state st)) is

    -- where the copy is being written, or is read back
    pub created_told : k.copy.state ≡ Created → RowStep node row beside contents x (only (reply.Refused NotSealed)) row beside
    created_told is = stays node row beside contents h x (reply.Refused NotSealed) (get_at Created is) refl refl refl

    pub restoring_told : k.copy.state ≡ Restoring → RowStep node row beside contents x (only (reply.Refused Pending)) row beside
    restoring_told is = stays node row beside contents h x (reply.Refused Pending) (get_at Restoring is) refl refl refl

    module _ (is : is_sealed k.copy.state ≡ true) where
      abbrev now : Copy
      now = with_holds k.copy session (holds_of k.copy session + 1)

      abbrev c : Change
      c = record (replied (set_copy s id now) (reply.Got k.copy.length)) { used = Some id }

      sealed_change : step row.order s (judge node (seen row beside contents) x) ≡ erasing s (unless_refused s (hold_check_of k) c)
      sealed_change =
          get_at Sealed (sealed_is k.copy.state is)
          ∙ ap (erasing s) (by-checks s (hold_checks k.copy) _ c refl)

      hold_refused : (r : Refusal) → hold_check_of k ≡ Some r → RowStep node row beside contents x (only (reply.Refused r)) row beside
      hold_refused r e = stays node row beside contents h x (reply.Refused r) (sealed_change ∙ ap (λ o. erasing s (unless_refused s o c)) e) refl refl refl

      keeps : (z : CopyView) → ((after_hold session z).copy.offset ≡ z.copy.offset) × ((after_hold session z).copy.length ≡ z.copy.length)
      keeps z = (refl, refl)

      abbrev row_held : Row
      row_held = record row { copies = changed (after_hold session) row.copies id; order = touched id row.order }

      copies_is : with_entry (copies_of row.copies) id now ≡ copies_of row_held.copies
      copies_is = sym (copies-changed (after_hold session) row.copies id k found)

      last : touched id row.order ≡ last_used id row.order
      last = touched-listed id row.order (h.listed id k found)

      here : is_some (at (copies_of row_held.copies) id) ≡ true
      here = ap (λ t. is_some (at t id)) (sym copies_is) ∙ ap is_some (at-put_here (copies_of row.copies) id now)

      m : TakesChange node row beside contents h x (erasing s c) (only (reply.Got k.copy.length)) row_held beside
      m = record {
        shape = ap (λ t. record s { copies = t }) copies_is;
        order = sym (last ∙ reordered-used row.order (copies_of row_held.copies) id (there_still node row beside contents h x id k found (after_hold session) keeps row.order h.there));
        there = subst (λ ids. AreThere (copies_of row_held.copies) ids) (sym last)
            (there_last (copies_of row_held.copies) id row.order (there_still node row beside contents h x id k found (after_hold session) keeps row.order h.there) here);
        listed = λ q y e. ap (λ ids. is_among ids q) last ∙ listed_last id q row.order (listed_stay node row beside contents h x id k found (after_hold session) keeps row.order h.listed q y e);
        bytes = bytes_stay node row beside contents h x id k found (after_hold session) keeps (erasing s c) refl;
        digests = digests_stay node row beside contents h x id k found (after_hold session) keeps (erasing s c) refl refl (λ e. e);
        working = works_stay node row beside contents h x id k found (after_hold session) keeps refl;
        granted = granted_stay node row beside contents h x id k found (after_hold session) keeps refl;
        received = received_stays node row beside contents h x refl;
        reply = refl;
        erased = sym (ap (map (key_of row.job)) (keys_with (copies_of row.copies) id now));
      }

      hold_done : hold_check_of k ≡ None → RowStep node row beside contents x (only (reply.Got k.copy.length)) row_held beside
      hold_done passed = moved node row beside contents h x (erasing s c) (sealed_change ∙ ap (λ o. erasing s (unless_refused s o c)) passed) (only (reply.Got k.copy.length)) row_held beside m refl

  sealed_of : (k : CopyView) → is_ready k.copy ≡ true → is_sealed k.copy.state ≡ true
  sealed_of k ready = both_left _ (not k.copy.doomed) ready

  unmarked_of : (k : CopyView) → is_ready k.copy ≡ true → k.copy.doomed ≡ false
  unmarked_of k ready = not_true k.copy.doomed (both_right (is_sealed k.copy.state) _ ready)

  -- a hold was given
  pub sealed_held : (n : ℕ) (new : Row) → IsRowHeld row session id n new → RowStep node row beside contents x (only (reply.Got n)) new beside
  sealed_held n new is =
      subst (λ r. RowStep node row beside contents x (only (reply.Got n)) r beside) (sym is.row)
      (subst (λ m. RowStep node row beside contents x (only (reply.Got m)) (row_held is.kept is.found (unmarked_of is.kept is.ready) (sealed_of is.kept is.ready)) beside) (sym is.length)
      (hold_done is.kept is.found (unmarked_of is.kept is.ready) (sealed_of is.kept is.ready) is.passed))

  -- it was refused
  pub sealed_refused : (r : Refusal) (new : Row) → IsHoldRefusedAt row.copies id (Refused r) new.copies → new ≡ row → RowStep node row beside contents x (only (reply.Refused r)) new beside
  sealed_refused r new is same =
      subst (λ t. RowStep node row beside contents x (only (reply.Refused r)) t beside) (sym same)
      (hold_refused is.kept is.found (unmarked_of is.kept is.ready) (sealed_of is.kept is.ready) r (is.refused r refl))
