-- The plan for room in a row's window, from the plan of the rule of room.
use Rattle.std.proofs.Common.{◌≡◌, ℕ, ◌+◌, ◌<◌, ◌≤◌, Bool, true, false, cond, ◌==◌, List, [], ◌∷◌, ◌++◌, fold, length, take, Option, Some, None, option_map, is_some, refl, sym, ap, subst, ◌∙◌, arith}
use Rattle.std.specs.Prelude.{nat_lt, unwrap_or}
use Rattle.std.specs.List.{list_all}
use Rattle.std.proofs.lemmas.Bool.Decides.{nat_tests}
use Rattle.std.proofs.lemmas.List.{length-take}
use Rattle.obj_id.specs.declared.ids.JobNo.{JobNo}
use Rattle.obj_id.specs.declared.ids.ObjectId.{ObjectId}
use Rattle.obj_id.specs.declared.refusals.Refusal.TheVariants.{Pending, TooMany, DeviceFailed}
use Rattle.obj_id.specs.Ids.{same_id}
use Rattle.store_facts.proofs.Ids.{same_id-itself}
use Rattle.private_store.specs.rules.Limits.{has_numbers}
use Rattle.private_store.specs.rules.Tables.{ById, at, is_among}
use Rattle.private_store.specs.rules.Extents.{first}
use Rattle.private_store.specs.rules.Shape.{Shape}
use Rattle.private_store.specs.rules.Copies.{is_evictable, is_draining, is_spillable, device_used}
use Rattle.private_store.specs.rules.Contents.{Contents}
use Rattle.private_store.specs.laws.Invariants.{IsOrderOfUse}
use Rattle.private_store.specs.rules.Room.{Plan, fits, wait, full, busy, evict, spill, plan, shortest, shortest_from, victims, spilled, spill_plan, in_order, offset_without, bytes_of_copies, works_left, asked, no_room, spill_room, room_by, make_room}
use Rattle.store_facts.proofs.KeptLists.{count-take}
use Rattle.store_facts.proofs.KeptPlan.{AreChosen, fewer_chosen, shortest_chosen}
use Rattle.store_facts.proofs.VictimsMakeRoom.{victims_make_room}
use Rattle.store_facts.proofs.Tests.{both, or_left, or_right, true_false}
use Rattle.job_region.specs.Region.{Region, extents_of, place_for, without}
use Rattle.lru_evictor.specs.declared.facts.DeviceRoom.{DeviceRoom}
use Rattle.lru_evictor.specs.declared.facts.EvictionInfo.{EvictionInfo}
use Rattle.lru_evictor.specs.Facts.{Looked, fits_without}
use Rattle.lru_evictor.specs.Orders.{order_ids}
use Rattle.lru_evictor.specs.Plans.{IsDescribed, IsOfCopies}
use Rattle.lru_evictor.proofs.ForCallers.{offset-described}
use Rattle.spill_work.specs.Line.{WorkLine, works_of, in_flight, used_by}
use Rattle.row_copy.specs.CopyViews.{CopyView}
use Rattle.job_row.specs.Row.{Row, place_of, ArePlaced}
use Rattle.row_steps.specs.Shown.{IsShown}
use Rattle.job_row.specs.InSync.{InSync, AreListed}
use Rattle.lru_evictor.specs.declared.facts.Plan.{Plan as Kind}
use Rattle.lru_evictor.specs.declared.facts.Plan.TheVariants as kind
use Rattle.lru_evictor.specs.Plans.{plan_kind_of, listed}
use Rattle.room_commands.specs.RoomPlans.{IsPlanned, MakesPlace, by_kind, plan_by, planned_by, place_as_it_is}
use Rattle.job_row.specs.RowFacts.{row_facts_of}
use Rattle.job_row.specs.Usages.{total}
use Rattle.row_copy.specs.Usages.{device_bytes}
use Rattle.row_steps.proofs.ForCallers.{device_is, described, facts_at}
use Rattle.room_commands.specs.declared.room.RoomPlan.{RoomPlan}
use Rattle.room_commands.specs.declared.room.RoomPlan.TheVariants.{Fits, Evict, Ask, TellFailedSpill, Refuse}
use Rattle.row_steps.specs.Beside.{SharedTables, shape_of}

-- what is so of each among the ids is so of all
all_among : (p : ObjectId → Bool) (ids : List ObjectId) → ((q : ObjectId) → is_among ids q ≡ true → p q ≡ true) → list_all p ids ≡ true
all_among p [] h = refl
all_among p (id ∷ ids) h =
    both (p id) (list_all p ids) (h id (or_left (same_id id id) (is_among ids id) (same_id-itself id)))
    (all_among p ids (λ q t. h q (or_right (same_id q id) (is_among ids q) t)))

-- no beginning is shorter than none
at_once : {X : Type 0} (test : List X → Bool) (xs : List X) → test [] ≡ true → shortest test xs ≡ Some []
at_once test [] t = ap (λ b. cond b (Some []) None) t
at_once test (x ∷ xs) t = ap (λ b. elim b [ true ↦ Some [] | false ↦ shortest_from test ([] ++ x ∷ []) xs ]) t

module _ (order : List ObjectId) (once : IsOrderOfUse order) (store : Shape) (n : ℕ) where
  -- what a plan does is what is to be done
  abbrev IsDone : Plan → Type 0
  IsDone p = IsPlanned (room_by store n p) store n (plan_by store.works_asked store.spill_failed (place_as_it_is store n) p) (listed p)

  evicts : (ids : List ObjectId) → victims order store n ≡ Some ids → MakesPlace (room_by store n (evict ids)) store n ids
  evicts ids e =
      let chosen = shortest_chosen order once store (is_evictable store) (λ out. is_some (offset_without store n out)) ids e in
      record { room_is = refl; place = victims_make_room order store n ids e; evictable = all_among _ ids chosen.pass; once = chosen.once }

  spills : (ids : List ObjectId) → AreChosen store (is_spillable store) ids → 0 < length ids → length ids ≤ works_left store → IsDone (spill ids)
  spills ids chosen some few =
      elim store.spill_failed as (λ f. store.spill_failed ≡ f → IsPlanned (room_by store n (spill ids)) store n (cond f TellFailedSpill (cond (has_numbers store.works_asked (length ids)) (Ask (length ids)) (Refuse TooMany))) ids) [
        | true ↦ λ failed. spill_by true failed
        | false ↦ λ unfailed.
            elim (has_numbers store.works_asked (length ids)) as (λ b. has_numbers store.works_asked (length ids) ≡ b → IsPlanned (room_by store n (spill ids)) store n (cond b (Ask (length ids)) (Refuse TooMany)) ids) [
              | true ↦ λ t. record { room_is = spill_is unfailed true t; spillable = all_among _ ids chosen.pass; once = chosen.once; some = some; few = few; numbers = t }
              | false ↦ λ t. spill_is unfailed false t
            ] refl
      ] refl
    where
      spill_by : (f : Bool) → store.spill_failed ≡ f
          → spill_room store ids ≡ cond f (no_room (record store { spill_failed = false }) DeviceFailed) (cond (has_numbers store.works_asked (length ids)) (no_room (fold (asked true) store ids) Pending) (no_room store TooMany))
      spill_by f is =
          ap (λ f. cond f (no_room (record store { spill_failed = false }) DeviceFailed) (cond (has_numbers store.works_asked (length ids)) (no_room (fold (asked true) store ids) Pending) (no_room store TooMany))) is

      spill_is : store.spill_failed ≡ false → (b : Bool) → has_numbers store.works_asked (length ids) ≡ b → spill_room store ids ≡ cond b (no_room (fold (asked true) store ids) Pending) (no_room store TooMany)
      spill_is unfailed b t = spill_by false unfailed ∙ ap (λ b. cond b (no_room (fold (asked true) store ids) Pending) (no_room store TooMany)) t

  spills_first : (id : ObjectId) (ids : List ObjectId) → AreChosen store (is_spillable store) (id ∷ ids) → IsDone (spill_plan store (id ∷ ids))
  spills_first id ids chosen =
      elim (nat_lt store.quota.device (device_used store + bytes_of_copies store (id ∷ ids))) as (λ b. IsDone (cond b full (cond (works_left store == 0) busy (spill (take (works_left store) (id ∷ ids)))))) [
        | true ↦ refl
        | false ↦ elim (works_left store == 0) as (λ b. (works_left store == 0) ≡ b → IsDone (cond b busy (spill (take (works_left store) (id ∷ ids))))) [
          | true ↦ λ _. refl
          | false ↦ λ left.
              let long = length-take (works_left store) (id ∷ ids) in
              let more : 0 < works_left store = grind (arith, nat_tests, left) in
              let all : length (id ∷ ids) ≡ 1 + length ids = omega arith in
              spills (take (works_left store) (id ∷ ids)) (fewer_chosen store (is_spillable store) (id ∷ ids) (take (works_left store) (id ∷ ids)) chosen (λ q. count-take (same_id q) (works_left store) (id ∷ ids)))
              (omega (arith, long, more, all)) (omega (arith, long))
        ] refl
      ]

  abbrev then_spilled : Option (List ObjectId) → Plan
  then_spilled o = elim o [ Some [] ↦ wait | Some (id ∷ ids) ↦ spill_plan store (id ∷ ids) | None ↦ full ]

  spilled_done : (o : Option (List ObjectId)) → spilled order store n ≡ o → IsDone (then_spilled o)
  spilled_done None e = refl
  spilled_done (Some []) e = refl
  spilled_done (Some (id ∷ ids)) e = spills_first id ids (shortest_chosen order once store (is_spillable store)
      (λ out. is_some (offset_without store n ((in_order store order (is_evictable store) ++ in_order store order (is_draining store)) ++ out))) (id ∷ ids) e)

  pub plan_done : IsDone (plan order store n)
  plan_done = by (victims order store n) refl
    where
      by : (o : Option (List ObjectId)) → victims order store n ≡ o → IsDone (elim o [ Some [] ↦ fits | Some (id ∷ ids) ↦ evict (id ∷ ids) | None ↦ then_spilled (spilled order store n) ])
      by None e = spilled_done (spilled order store n) refl
      by (Some []) e = evicts [] e
      by (Some (id ∷ ids)) e = evicts (id ∷ ids) e

  -- nothing goes where the bytes fit as it is
  pub fits_planned : is_some (offset_without store n []) ≡ true → planned_by order store n ≡ Fits (place_as_it_is store n)
  fits_planned fit =
      ap (λ v. plan_by store.works_asked store.spill_failed (place_as_it_is store n) (elim v [ Some [] ↦ fits | Some (id ∷ ids) ↦ evict (id ∷ ids) | None ↦ then_spilled (spilled order store n) ]))
      (at_once (λ out. is_some (offset_without store n out)) (in_order store order (is_evictable store)) fit)

-- ---- of a row

pub none_go : (placed : List (ℕ × List ℕ)) → without [] placed ≡ placed
none_go [] = refl
none_go (p ∷ placed) = ap (λ ps. p ∷ ps) (none_go placed)

-- which kind of plan it is that evicts, or asks for so many writes
pub evicts-kind : (used : ℕ) (failed : Bool) (offset : ℕ) (k : Kind) → by_kind used failed offset k ≡ Evict → k ≡ kind.Evict
evicts-kind used failed offset kind.Fits e = absurd cc
evicts-kind used failed offset kind.Evict e = refl
evicts-kind used failed offset kind.Wait e = absurd cc
evicts-kind used failed offset kind.Full e = absurd cc
evicts-kind used failed offset kind.Busy e = absurd cc
evicts-kind used failed offset (kind.Spill count) e = by failed (has_numbers used count) e
  where
    by : (f fine : Bool) → cond f TellFailedSpill (cond fine (Ask count) (Refuse TooMany)) ≡ Evict → kind.Spill count ≡ kind.Evict
    by true fine e = absurd cc
    by false true e = absurd cc
    by false false e = absurd cc

pub asks-kind : (used : ℕ) (failed : Bool) (offset : ℕ) (k : Kind) (n : ℕ) → by_kind used failed offset k ≡ Ask n → k ≡ kind.Spill n
asks-kind used failed offset kind.Fits n e = absurd cc
asks-kind used failed offset kind.Evict n e = absurd cc
asks-kind used failed offset kind.Wait n e = absurd cc
asks-kind used failed offset kind.Full n e = absurd cc
asks-kind used failed offset kind.Busy n e = absurd cc
asks-kind used failed offset (kind.Spill count) n e = by failed (has_numbers used count) e
  where
    count_of : RoomPlan → ℕ
    count_of (Ask c) = c
    count_of (Fits o) = count
    count_of Evict = count
    count_of TellFailedSpill = count
    count_of (Refuse r) = count

    by : (f fine : Bool) → cond f TellFailedSpill (cond fine (Ask count) (Refuse TooMany)) ≡ Ask n → kind.Spill count ≡ kind.Spill n
    by true fine e = absurd cc
    by false true e = ap (λ p. kind.Spill (count_of p)) e
    by false false e = absurd cc

-- and they are no more than there are numbers for
pub asks-numbers : (used : ℕ) (failed : Bool) (offset : ℕ) (k : Kind) (n : ℕ) → by_kind used failed offset k ≡ Ask n → has_numbers used n ≡ true
asks-numbers used failed offset kind.Fits n e = absurd cc
asks-numbers used failed offset kind.Evict n e = absurd cc
asks-numbers used failed offset kind.Wait n e = absurd cc
asks-numbers used failed offset kind.Full n e = absurd cc
asks-numbers used failed offset kind.Busy n e = absurd cc
asks-numbers used failed offset (kind.Spill count) n e = by failed (has_numbers used count) refl e
  where
    count_of : RoomPlan → ℕ
    count_of (Ask c) = c
    count_of (Fits o) = count
    count_of Evict = count
    count_of TellFailedSpill = count
    count_of (Refuse r) = count

    by : (f fine : Bool) → has_numbers used count ≡ fine → cond f TellFailedSpill (cond fine (Ask count) (Refuse TooMany)) ≡ Ask n → has_numbers used n ≡ true
    by true fine is e = absurd cc
    by false true is e = ap (λ p. has_numbers used (count_of p)) (sym e) ∙ is
    by false false is e = absurd cc

-- it is the plan of an object that fits alone that places it as it is
pub fits-kind : (used : ℕ) (failed : Bool) (offset : ℕ) (k : Kind) (o : ℕ) → by_kind used failed offset k ≡ Fits o → k ≡ kind.Fits
fits-kind used failed offset kind.Fits o e = refl
fits-kind used failed offset kind.Evict o e = absurd cc
fits-kind used failed offset kind.Wait o e = absurd cc
fits-kind used failed offset kind.Full o e = absurd cc
fits-kind used failed offset kind.Busy o e = absurd cc
fits-kind used failed offset (kind.Spill count) o e = by failed (has_numbers used count) e
  where
    by : (f fine : Bool) → cond f TellFailedSpill (cond fine (Ask count) (Refuse TooMany)) ≡ Fits o → kind.Spill count ≡ kind.Fits
    by true fine e = absurd cc
    by false true e = absurd cc
    by false false e = absurd cc

-- which an object without a place doesn't have
pub fits-nowhere : (window : Region) (facts : Looked) (n : ℕ) (place : Option ℕ) → place ≡ place_for window n → place ≡ None → fits_without window facts n [] ≡ true → ⊥
fits-nowhere window facts n place is none there =
    true_false (sym (ap (λ ps. is_some (first (extents_of ps) window.quota n)) (none_go window.placed) ∙ ap is_some (sym is ∙ none)) ∙ there)

-- where it fits as it is
pub fits-at : (o p : ℕ) → Fits o ≡ Fits p → o ≡ p
fits-at o p e = ap place_of_plan e
  where
    place_of_plan : RoomPlan → ℕ
    place_of_plan (Fits x) = x
    place_of_plan Evict = o
    place_of_plan (Ask c) = o
    place_of_plan TellFailedSpill = o
    place_of_plan (Refuse r) = o

-- what room does is what is planned for it
pub planned : (row : Row) (beside : SharedTables) (contents : Contents) → IsShown row beside contents → (n : ℕ)
    → IsPlanned (make_room row.order (shape_of row beside) n) (shape_of row beside) n (planned_by row.order (shape_of row beside) n) (listed (plan row.order (shape_of row beside) n))
planned row beside contents h n = plan_done row.order h.kept.order (shape_of row beside) n

-- where the plan is known
pub planned_as : (row : Row) (beside : SharedTables) (contents : Contents) → IsShown row beside contents → (n : ℕ) (p q : RoomPlan) → p ≡ planned_by row.order (shape_of row beside) n → p ≡ q
    → IsPlanned (make_room row.order (shape_of row beside) n) (shape_of row beside) n q (listed (plan row.order (shape_of row beside) n))
planned_as row beside contents h n p q own is =
    subst (λ p. IsPlanned (make_room row.order (shape_of row beside) n) (shape_of row beside) n p (listed (plan row.order (shape_of row beside) n))) (sym own ∙ is) (planned row beside contents h n)

module _ (row : Row) (beside : SharedTables) (contents : Contents) (h : IsShown row beside contents) (placed : ArePlaced row.window.placed (place_of row.copies)) (n : ℕ) where
  abbrev s : Shape
  s = shape_of row beside

  -- each copy is in the order of use
  pub all_listed : AreListed row.copies row.order
  all_listed id some = by id (at row.copies id) refl some
    where
      by : (id : ObjectId) (o : Option CopyView) → at row.copies id ≡ o → is_some (option_map row_facts_of o) ≡ true → is_among row.order id ≡ true
      by id None found some = true_false some
      by id (Some k) found some = h.listed id k found

  -- the order of use has each copy as it stands
  pub of_copies : (copies : ById CopyView) → copies ≡ row.copies → (order : List (ObjectId × EvictionInfo)) → order_ids order ≡ row.order → InSync row.copies order → IsOfCopies order (facts_at copies)
  of_copies copies same order own followed = record {
    infos = subst (λ t. InSync t order) (sym same) followed;
    listed = λ id some. ap (λ ids. is_among ids id) own ∙ by id (at copies id) (ap (λ t. at t id) (sym same)) some;
  }
    where
      by : (id : ObjectId) (o : Option CopyView) → at row.copies id ≡ o → is_some (option_map row_facts_of o) ≡ true → is_among row.order id ≡ true
      by id None found some = true_false some
      by id (Some k) found some = h.listed id k found

  -- the row's device
  abbrev pub device_here : DeviceRoom
  device_here = record { quota = row.device; used = device_used s; works = length s.works }

  -- the row as its window and its copies have it
  pub described_as : (window : Region) → window ≡ row.window → (copies : ById CopyView) → copies ≡ row.copies → IsDescribed s window device_here (facts_at copies)
  described_as window here copies same =
      subst (λ w. IsDescribed s w device_here (facts_at copies)) (sym here) (subst (λ t. IsDescribed s row.window device_here (facts_at t)) (sym same) (described row beside contents h placed device_here refl refl refl))

  pub place_planned : (o : ℕ) → place_for row.window n ≡ Some o → planned_by row.order s n ≡ Fits o
  place_planned o found =
      let there : offset_without s n [] ≡ Some o =
      sym (offset-described s row.window device_here (facts_at row.copies) (described row beside contents h placed device_here refl refl refl) n [])
      ∙ ap (λ ps. first (extents_of ps) row.window.quota n) (none_go row.window.placed) ∙ found in
      fits_planned row.order h.kept.order s n (ap is_some there) ∙ ap (λ (p : Option ℕ). Fits (unwrap_or p 0)) there

  -- ---- the exits of the plan

  pub place_exit : (window : Region) → window ≡ row.window → (o : ℕ) → place_for window n ≡ Some o → planned_by row.order s n ≡ Fits o
  place_exit window here o found = place_planned o (ap (λ w. place_for w n) (sym here) ∙ found)

  module _ (job : JobNo) (own : job ≡ record { 0 = row.job }) where
    module _ (window : Region) (here : window ≡ row.window) (copies : ById CopyView) (same : copies ≡ row.copies) (quota used works : ℕ)
        (of_job : quota ≡ row.device) (walked : used ≡ total device_bytes copies) (line : WorkLine) (works_are : beside.works ≡ works_of line (record { 0 = row.job })) (used_is : beside.used ≡ used_by line (record { 0 = row.job })) (counted : works ≡ in_flight line job) where
      abbrev device : DeviceRoom
      device = record { quota = quota; used = used; works = works }

      as_described : IsDescribed s window device (facts_at copies)
      as_described =
          subst (λ w. IsDescribed s w device (facts_at copies)) (sym here) (subst (λ t. IsDescribed s row.window device (facts_at t)) (sym same)
          (described row beside contents h placed device of_job
          (walked ∙ ap (total device_bytes) same ∙ device_is row beside contents h) (counted ∙ ap (in_flight line) own ∙ ap length (sym works_are))))

      pub plan_exit : (p : Kind) → ((store : Shape) → IsDescribed store window device (facts_at copies) → p ≡ plan_kind_of (plan row.order store n))
          → (asked : ℕ) → asked ≡ used_by line job → (failed : Bool) → failed ≡ row.spill_failed → (response : RoomPlan) → ((offset : ℕ) → response ≡ by_kind asked failed offset p) → response ≡ planned_by row.order s n
      plan_exit p is_plan asked is_asked failed is_failed response is =
          is (place_as_it_is s n) ∙ (λ i. by_kind ((is_asked ∙ ap (used_by line) own ∙ sym used_is) i) (is_failed i) (place_as_it_is s n) (is_plan s as_described i))
