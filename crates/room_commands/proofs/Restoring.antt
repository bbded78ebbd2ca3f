-- A copy that is away is read back, in a place that is made for it.
use Rattle.std.proofs.Common.{◌≡◌, ℕ, Bool, true, false, not, ◌&&◌, ◌||◌, ◌⊎◌, cond, nat_le, inl, inr, ◌==◌, nat_eq, List, [], ◌∷◌, ◌++◌, ◌+◌, ◌-◌, ◌<◌, ◌≤◌, Option, Some, None, is_some, option_map, Ok, Err, refl, sym, ap, subst, ◌∙◌, arith}
use Rattle.std.specs.Prelude.{is_ok}
use Rattle.std.proofs.lemmas.Bool.Decides.{nat_tests}
use Rattle.std.proofs.lemmas.List.{append-nil}
use Rattle.std.specs.Map.{lookup}
use Rattle.std.specs.Option.{option_map_or}
use Rattle.obj_id.specs.declared.ids.JobNo.{JobNo}
use Rattle.obj_id.specs.declared.ids.ObjectId.{ObjectId}
use Rattle.obj_id.specs.declared.commands.Command.TheVariants as command
use Rattle.obj_id.specs.declared.commands.CopyState.TheVariants.{Away}
use Rattle.obj_id.specs.declared.commands.Reply.TheVariants as reply
use Rattle.obj_id.specs.declared.refusals.Refusal.TheVariants.{Busy, Full, TooMany, Pending}
use Rattle.obj_id.specs.declared.works.WorkKind.TheVariants.{Write, Read}
use Rattle.obj_id.specs.Ids.{same_id}
use Rattle.store_facts.proofs.Ids.{same_id-itself}
use Rattle.private_store.specs.declared.inputs.Input.{Input}
use Rattle.private_store.specs.declared.inputs.Input.TheVariants as input
use Rattle.private_store.specs.rules.Change.{erasing, in_room, checked}
use Rattle.private_store.specs.rules.Commands.{restore, restoring as restored}
use Rattle.private_store.specs.rules.Contents.{Contents, judge, keeps_digest, is_sized}
use Rattle.private_store.specs.rules.Copies.{was_sealed, is_sealed}
use Rattle.private_store.specs.rules.Extents.{first}
use Rattle.private_store.specs.rules.Grants.{StandingGrant}
use Rattle.private_store.specs.laws.Invariants.{is_remembered, is_restoring, is_fetching, has_write, has_read}
use Rattle.private_store.specs.rules.Limits.{most_works, longest_object, has_numbers}
use Rattle.private_store.specs.rules.Room.{make_room, offset_without, works_left}
use Rattle.private_store.specs.rules.Shape.{Shape, Change, Fetch, WorkInFlight}
use Rattle.private_store.specs.rules.Step.{step}
use Rattle.private_store.specs.rules.Tables.{at, is_among}
use Rattle.store_facts.proofs.KeptCopy.{has_work-split}
use Rattle.store_facts.proofs.Checks.{checked-nil, checked-true, checked-false}
use Rattle.store_facts.proofs.Tests.{both, none_some, none_here, true_false}
use Rattle.spill_work.specs.Line.{WorkLine, AsksWork, ask_check, used_by, works_of, in_flight}
use Rattle.room_commands.specs.Asked.{HasAsked}
use Rattle.job_region.specs.Region.{extents_of}
use Rattle.job_row.specs.Evicting.{placed_without, replaced, removals}
use Rattle.row_copy.specs.CopyViews.{CopyView, after_restore_begun}
use Rattle.room_commands.specs.MadeRooms.{BringsNothing}
use Rattle.room_commands.specs.RoomPlans.{MakesPlace}
use Rattle.job_row.specs.Row.{Row, place_of, ArePlaced}
use Rattle.row_steps.specs.Shown.{seen, work_on, IsShown, only, RowStep}
use Rattle.room_commands.proofs.Asking.{work_before, work_after}
use Rattle.job_row.proofs.ForCallers.{at-copies_found}
use Rattle.row_steps.proofs.ForCallers.{working-on, stays}
use Rattle.room_commands.proofs.Faults.{fault_is}
use Rattle.room_commands.proofs.Pulling.{quiet_get}
use Rattle.room_commands.proofs.Rooms.{placed_done}
use Rattle.row_steps.specs.Beside.{SharedTables, beside_of, shape_of}

-- what is asked for is under way
one_work : (w : WorkInFlight) (id : ObjectId) → w.id ≡ id → w.writes ≡ false → work_on (w ∷ []) id ≡ Some Read
one_work w id own reads =
    (λ i. option_map (λ (w : WorkInFlight). cond w.writes Write Read) (cond (same_id id (own i)) (Some w) None))
    ∙ ap (λ b. option_map (λ (w : WorkInFlight). cond w.writes Write Read) (cond b (Some w) None)) (same_id-itself id)
    ∙ ap (λ b. Some (cond b Write Read)) reads

no_other : (w : WorkInFlight) (q : ObjectId) → same_id q w.id ≡ false → work_on (w ∷ []) q ≡ None
no_other w q other = ap (λ b. option_map (λ (w : WorkInFlight). cond w.writes Write Read) (cond b (Some w) None)) other

module _ (node : ℕ) (row : Row) (beside : SharedTables) (contents : Contents) (session : ℕ) (id : ObjectId) (mine : (id.job.0 == row.job) ≡ true) (alive : is_remembered row.ended_tasks id.task ≡ false) (h : IsShown row beside contents)
    (k : CopyView) (found : at row.copies id ≡ Some k) (unmarked : k.copy.doomed ≡ false) (is : k.copy.state ≡ Away) (sound : k.copy.fault ≡ None) where
  abbrev s : Shape
  s = shape_of row beside

  abbrev x : Input
  x = input.Call session (command.Get id)

  abbrev n : ℕ
  n = k.copy.length

  -- what is done with the place
  abbrev pub f : Shape → ℕ → Change
  f = restored id k.copy

  quiet : BringsNothing node (seen row beside contents) x
  quiet = quiet_get node row beside contents session id

  by_restore : step row.order s (judge node (seen row beside contents) x) ≡ erasing s (restore row.order s id k.copy)
  by_restore = fault_is node row beside contents session id mine alive h k found unmarked is None sound

  abbrev numbered : Change
  numbered = checked s ((is_ok (make_room row.order s n).offset && not (has_numbers s.works_asked 1), TooMany) ∷ []) (in_room (make_room row.order s n) f)

  pub busy_told : (works_left s == 0) ≡ true → RowStep node row beside contents x (only (reply.Refused Busy)) row beside
  busy_told none =
      stays node row beside contents h x (reply.Refused Busy)
      (by_restore ∙ ap (erasing s) (checked-true s (works_left s == 0) Busy [] numbered none)) refl refl refl

  module _ (idle : (works_left s == 0) ≡ false) where
    after_busy : step row.order s (judge node (seen row beside contents) x) ≡ erasing s numbered
    after_busy = by_restore ∙ ap (erasing s) (checked-false s (works_left s == 0) Busy [] numbered idle ∙ checked-nil s numbered)

    unchecked : (is_ok (make_room row.order s n).offset && not (has_numbers s.works_asked 1)) ≡ false → step row.order s (judge node (seen row beside contents) x) ≡ erasing s (in_room (make_room row.order s n) f)
    unchecked none =
        after_busy ∙ ap (erasing s) (checked-false s (is_ok (make_room row.order s n).offset && not (has_numbers s.works_asked 1)) TooMany [] (in_room (make_room row.order s n) f) none ∙ checked-nil s (in_room (make_room row.order s n) f))

    -- where there is no room numbers don't matter
    pub by_no_room : is_ok (make_room row.order s n).offset ≡ false → step row.order s (judge node (seen row beside contents) x) ≡ erasing s (in_room (make_room row.order s n) f)
    by_no_room none = unchecked (ap (λ b. b && not (has_numbers s.works_asked 1)) none)

    module _ (victims : List ObjectId) (makes : MakesPlace (make_room row.order s n) s n victims) where
      is_room : is_ok (make_room row.order s n).offset ≡ true
      is_room = ap (λ room. is_ok room.offset) makes.room_is ∙ by (offset_without s n victims) makes.place
        where
          by : (o : Option ℕ) → is_some o ≡ true → is_ok (option_map_or Ok o (Err Full)) ≡ true
          by None e = true_false e
          by (Some p) e = refl

      pub too_many_told : has_numbers s.works_asked 1 ≡ false → RowStep node row beside contents x (only (reply.Refused TooMany)) row beside
      too_many_told none =
          stays node row beside contents h x (reply.Refused TooMany)
          (after_busy ∙ ap (erasing s) (checked-true s (is_ok (make_room row.order s n).offset && not (has_numbers s.works_asked 1)) TooMany [] (in_room (make_room row.order s n) f)
          (both (is_ok (make_room row.order s n).offset) _ is_room (ap not none)))) refl refl refl

      module _ (left : has_numbers s.works_asked 1 ≡ true) (placed : ArePlaced row.window.placed (place_of row.copies)) (nowhere : place_of row.copies id ≡ None) (stays_here : is_among victims id ≡ false)
          (offset : ℕ) (least : first (extents_of (placed_without row victims)) row.window.quota n ≡ Some offset) (free : lookup (nat_eq offset) (placed_without row victims) ≡ None) where
        abbrev work : WorkInFlight
        work = record { number = s.works_asked + 1; id = id; writes = false }

        abbrev pub after : SharedTables
        after = record beside { works = beside.works ++ work ∷ []; used = beside.used + 1 }

        by_room : step row.order s (judge node (seen row beside contents) x) ≡ erasing s (in_room (make_room row.order s n) f)
        by_room = unchecked (ap (λ b. is_ok (make_room row.order s n).offset && not b) left ∙ none_and (is_ok (make_room row.order s n).offset))
          where
            none_and : (b : Bool) → (b && false) ≡ false
            none_and true = refl
            none_and false = refl

        -- no work is under way for what is away
        no_work : work_on beside.works id ≡ None
        no_work = none_here (work_on beside.works id) (working-on beside.works id ∙ has_work-split beside.works id ∙ (λ i. no_write i || no_read i))
          where
            no_read : has_read beside.works id ≡ false
            no_read = (h.kept.kept.shape.each id k.copy (at-copies_found row.copies id k found)).restored ∙ ap is_restoring is

            no_write : has_write beside.works id ≡ false
            no_write = by (has_write beside.works id) refl
              where
                by : (b : Bool) → has_write beside.works id ≡ b → b ≡ false
                by false e = refl
                by true e = true_false (sym (ap is_sealed is) ∙ ((h.kept.kept.shape.each id k.copy (at-copies_found row.copies id k found)).spilled e).0)

        keeps : keeps_digest k.copy ≡ true
        keeps = ap (λ st. cond (was_sealed st) true (option_map_or (λ (fetch : Fetch). is_sized fetch.phase) k.copy.fetch false)) is

        pub restore_done : RowStep node row beside contents x (record { reply = reply.Refused Pending; posts = removals node row.copies victims; erased = [] }) (replaced row None id (after_restore_begun offset k) n offset victims) after
        restore_done =
            subst (λ ps. RowStep node row beside contents x (record { reply = reply.Refused Pending; posts = ps; erased = [] }) (replaced row None id (after_restore_begun offset k) n offset victims) after) (append-nil (removals node row.copies victims))
            (placed_done node row beside contents h x quiet n f by_room victims makes placed id (after_restore_begun offset k) nowhere stays_here offset refl refl least free
            after.works after.used None refl refl (λ u none. none_some u none) (λ _. h.listed id k found) (λ now. h.digests id k found keeps)
            (sym (work_before beside.works (work ∷ []) id no_work ∙ one_work work id refl refl)) (λ q differs. work_after beside.works (work ∷ []) q (no_other work q differs)) (h.granted id k found) [] refl)

-- what a job sees once a read was asked for
pub asked_beside : (old new : WorkLine) (job number : ℕ) (id : ObjectId) (grants : List StandingGrant) (bytes : ObjectId → List ℕ) → AsksWork old (record { job = record { 0 = job }; number = number; id = id; kind = Read }) new
    → beside_of new grants bytes job ≡ record (beside_of old grants bytes job) { works = (beside_of old grants bytes job).works ++ record { number = used_by old (record { 0 = job }) + 1; id = id; writes = false } ∷ []; used = used_by old (record { 0 = job }) + 1 }
asked_beside old new job number id grants bytes asks =
    (λ i. record (beside_of old grants bytes job) { works = asks.own_works i; used = asks.own_used i })
    ∙ ap (λ m. record (beside_of old grants bytes job) { works = (beside_of old grants bytes job).works ++ record { number = m; id = id; writes = false } ∷ []; used = m }) asks.number

-- ---- works and numbers of the line

pub few_works : (line : WorkLine) (j : JobNo) (job : ℕ) → j ≡ record { 0 = job } → in_flight line j < most_works → (most_works - in_flight line (record { 0 = job }) == 0) ≡ false
few_works line j job own few =
    let here : in_flight line (record { 0 = job }) < most_works = subst (λ j. in_flight line j < most_works) own few in
    grind (arith, nat_tests, here)

pub may_ask : (line : WorkLine) (job : JobNo) → in_flight line job < most_works → has_numbers (used_by line job) 1 ≡ true → ask_check line job ≡ None
may_ask line job few numbers =
    let free : nat_le most_works (in_flight line job) ≡ false = grind (arith, nat_tests, few) in
    ap (λ b. cond b (Some Busy) (cond (has_numbers (used_by line job) 1) None (Some TooMany))) free ∙ ap (λ b. cond b None (Some TooMany)) numbers

pub all_works : (line : WorkLine) (j : JobNo) (job : ℕ) → j ≡ record { 0 = job } → most_works ≤ in_flight line j → (most_works - in_flight line (record { 0 = job }) == 0) ≡ true
all_works line j job own many =
    let here : most_works ≤ in_flight line (record { 0 = job }) = subst (λ j. most_works ≤ in_flight line j) own many in
    grind (arith, nat_tests, here)

pub no_number : (line : WorkLine) (j : JobNo) (job : ℕ) → j ≡ record { 0 = job } → used_by line j ≡ 18446744073709551615 → has_numbers (used_by line (record { 0 = job })) 1 ≡ false
no_number line j job own last = ap (λ j. has_numbers (used_by line j) 1) (sym own) ∙ ap (λ m. has_numbers m 1) last

-- a number is left where the last one wasn't used and there is a place
pub numbers_left : (place : Bool) (used : ℕ) → ((place ≡ true) × (used ≡ 18446744073709551615 → ⊥)) ⊎ (place ≡ false) → used < 18446744073709551616 → place ≡ true → has_numbers used 1 ≡ true
numbers_left place used (inl more) fits t = left (has_numbers used 1) refl
  where
    left : (b : Bool) → has_numbers used 1 ≡ b → has_numbers used 1 ≡ true
    left true e = e
    left false e = absurd (more.1 (grind (arith, nat_tests, e, fits)))
numbers_left place used (inr none) fits t = true_false (sym none ∙ t)

pub has_asked : (old new : WorkLine) (j : JobNo) (number : ℕ) (id : ObjectId) → AsksWork old (record { job = j; number = number; id = id; kind = Read }) new → HasAsked old j new
has_asked old new j number id asks = record {
  kind = Read;
  ids = id ∷ [];
  works = asks.works ∙ ap (λ m. old.works ++ record { asked = record { job = j; number = m; id = id; kind = Read }; taken = false } ∷ []) asks.number;
  own_works = asks.own_works ∙ ap (λ m. works_of old j ++ record { number = m; id = id; writes = false } ∷ []) asks.number;
}

-- nothing was asked for
pub asked_nothing : (line : WorkLine) (job : JobNo) → HasAsked line job line
asked_nothing line job = record { kind = Read; ids = []; works = sym (append-nil line.works); own_works = sym (append-nil (works_of line job)) }

-- what is away has bytes, and no more than the longest
pub sized_away : (row : Row) (beside : SharedTables) (contents : Contents) (h : IsShown row beside contents) (id : ObjectId) (k : CopyView) → at row.copies id ≡ Some k → k.copy.state ≡ Away → (0 < k.copy.length) × (k.copy.length ≤ longest_object)
sized_away row beside contents h id k found is = (h.kept.kept.shape.each id k.copy (at-copies_found row.copies id k found)).sized (ap is_fetching is)
