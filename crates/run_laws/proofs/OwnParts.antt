-- The part of a store that its own objects make: all but the grants of other jobs' objects. What making room does, it
-- does by this part.
use Rattle.std.proofs.Common.{◌≡◌, ℕ, Bool, true, false, not, cond, ◌==◌, ◌&&◌, ◌||◌, List, [], ◌∷◌, ◌++◌, filter, fold, length, Option, Some, None, Ok, Err, is_some, refl, sym, ap, ◌∙◌}
use Rattle.std.specs.Option.{option_map_or}
use Rattle.std.specs.List.{list_any}
use Rattle.obj_id.specs.declared.ids.ObjectId.{ObjectId}
use Rattle.obj_id.specs.declared.commands.CopyState.TheVariants.{Away}
use Rattle.obj_id.specs.declared.refusals.Refusal.{Refusal}
use Rattle.obj_id.specs.declared.refusals.Refusal.TheVariants.{Pending, DeviceFailed, TooMany}
use Rattle.obj_id.specs.Ids.{same_id}
use Rattle.obj_id.specs.Kinds.{is_primary}
use Rattle.store_facts.proofs.Ids.{same_id-equal}
use Rattle.private_store.specs.rules.Limits.{has_numbers}
use Rattle.private_store.specs.rules.Tables.{at}
use Rattle.private_store.specs.rules.Shape.{Copy, Shape, Change, Sending, GrantGiven}
use Rattle.private_store.specs.rules.Copies.{is_granted, is_idle, is_held, is_working, is_evictable, is_draining, is_spillable, may_evict, may_spill, may_drain}
use Rattle.private_store.specs.rules.Room.{Room, Plan, fits, wait, full, busy, evict, spill, shortest, in_order, offset_without, victims, spilled, spill_plan, plan, set_copy, drop_copy, evicted, asked, no_room, spill_room, evict_room, room_by, make_room}
use Rattle.private_store.specs.rules.Change.{refused, done, checked, needing, sending, in_room, settled, doomed, doom}
use Rattle.store_facts.proofs.Tests.{refuted}

-- the grants of own objects
abbrev pub own_grants : ℕ → List GrantGiven → List GrantGiven
own_grants job grants = filter (λ grant. grant.id.job.0 == job) grants

abbrev pub own_part : Shape → Shape
own_part store = record store { given = own_grants store.job store.given; received = [] }

abbrev pub own_change : Change → Change
own_change c = record c { shape = own_part c.shape }

abbrev pub own_room : Room → Room
own_room room = record room { shape = own_part room.shape }

-- the job's own object
abbrev pub IsOwn : Shape → ObjectId → Type 0
IsOwn store id = (id.job.0 == store.job) ≡ true

-- a store has copies of its own objects alone
abbrev pub HasOwn : Shape → Type 0
HasOwn store = (id : ObjectId) (copy : Copy) → at store.copies id ≡ Some copy → IsOwn store id

-- a test that only grants of the object pass
pub any_own : (job : ℕ) (id : ObjectId) (test : GrantGiven → Bool) → ((grant : GrantGiven) → test grant ≡ true → same_id id grant.id ≡ true) → (id.job.0 == job) ≡ true
    → (grants : List GrantGiven) → list_any test (own_grants job grants) ≡ list_any test grants
any_own job id test of own [] = refl
any_own job id test of own (grant ∷ grants) =
    elim (grant.id.job.0 == job) as (λ b. (grant.id.job.0 == job) ≡ b → list_any test (cond b (grant ∷ own_grants job grants) (own_grants job grants)) ≡ (test grant || list_any test grants)) [
      | true ↦ λ _. ap (λ b. test grant || b) (any_own job id test of own grants)
      | false ↦ λ foreign.
          any_own job id test of own grants
          ∙ sym (ap (λ b. b || list_any test grants) (refuted (test grant) (λ t. sym foreign ∙ ap (λ x. x.job.0 == job) (sym (same_id-equal id grant.id (of grant t))) ∙ own)))
    ] refl

pub granted_own : (store : Shape) (id : ObjectId) → IsOwn store id → is_granted (own_part store) id ≡ is_granted store id
granted_own store id own = any_own store.job id (λ grant. same_id id grant.id) (λ grant t. t) own store.given

-- ---- copies that go

pub settled_own : (store : Shape) (id : ObjectId) → IsOwn store id → settled (own_part store) id ≡ own_part (settled store id)
settled_own store id own =
    elim (at store.copies id) as (λ o. option_map_or (λ copy. cond (copy.doomed && is_idle (own_part store) id copy) (drop_copy (own_part store) id) (own_part store)) o (own_part store)
    ≡ own_part (option_map_or (λ copy. cond (copy.doomed && is_idle store id copy) (drop_copy store id) store) o store)) [
      | None ↦ refl
      | Some copy ↦
          ap (λ g. cond (copy.doomed && (not (is_held copy) && not g && not (is_working store id))) (drop_copy (own_part store) id) (own_part store)) (granted_own store id own)
          ∙ elim (copy.doomed && is_idle store id copy) as (λ b. cond b (drop_copy (own_part store) id) (own_part store) ≡ own_part (cond b (drop_copy store id) store)) [ true ↦ refl | false ↦ refl ]
    ]

pub doomed_own : (store : Shape) (id : ObjectId) → IsOwn store id → doomed (own_part store) id ≡ own_part (doomed store id)
doomed_own store id own =
    elim (at store.copies id) as (λ o. option_map_or (λ copy. settled (set_copy (own_part store) id (record copy { doomed = true })) id) o (own_part store)
    ≡ own_part (option_map_or (λ copy. settled (set_copy store id (record copy { doomed = true })) id) o store)) [
      | None ↦ refl
      | Some copy ↦ settled_own (set_copy store id (record copy { doomed = true })) id own
    ]

evicted_own : (store : Shape) (id : ObjectId) → evicted (own_part store) id ≡ own_part (evicted store id)
evicted_own store id =
    elim (at store.copies id) as (λ o. option_map_or (λ copy. cond (is_primary copy.kind) (set_copy (own_part store) id (record copy { state = Away; offset = None })) (drop_copy (own_part store) id)) o (own_part store)
    ≡ own_part (option_map_or (λ copy. cond (is_primary copy.kind) (set_copy store id (record copy { state = Away; offset = None })) (drop_copy store id)) o store)) [
      | None ↦ refl
      | Some copy ↦ elim (is_primary copy.kind) as (λ b. cond b (set_copy (own_part store) id (record copy { state = Away; offset = None })) (drop_copy (own_part store) id)
          ≡ own_part (cond b (set_copy store id (record copy { state = Away; offset = None })) (drop_copy store id))) [ true ↦ refl | false ↦ refl ]
    ]

fold_own : (f : Shape → ObjectId → Shape) → ((store : Shape) (id : ObjectId) → f (own_part store) id ≡ own_part (f store id)) → (store : Shape) (ids : List ObjectId) → fold f (own_part store) ids ≡ own_part (fold f store ids)
fold_own f each store [] = refl
fold_own f each store (id ∷ ids) = ap (λ mid. fold f mid ids) (each store id) ∙ fold_own f each (f store id) ids

-- ---- room

module _ (store : Shape) (has : HasOwn store) where
  -- a test of copies by whether they are granted
  by_granted : (test : ObjectId → Copy → Bool → Bool) → ◌≡◌ {A = ObjectId → Bool}
      (λ id. option_map_or (λ copy. test id copy (is_granted (own_part store) id)) (at store.copies id) false) (λ id. option_map_or (λ copy. test id copy (is_granted store id)) (at store.copies id) false)
  by_granted test = λ i id. one id i
    where
      one : (id : ObjectId) → option_map_or (λ copy. test id copy (is_granted (own_part store) id)) (at store.copies id) false ≡ option_map_or (λ copy. test id copy (is_granted store id)) (at store.copies id) false
      one id =
          elim (at store.copies id) as (λ o. at store.copies id ≡ o → option_map_or (λ copy. test id copy (is_granted (own_part store) id)) o false ≡ option_map_or (λ copy. test id copy (is_granted store id)) o false) [
            | None ↦ λ _. refl
            | Some copy ↦ λ e. ap (test id copy) (granted_own store id (has id copy e))
          ] refl

  evictable_own : (order : List ObjectId) → in_order (own_part store) order (is_evictable (own_part store)) ≡ in_order store order (is_evictable store)
  evictable_own order = ap (λ test. filter test order) (by_granted (λ id copy g. may_evict copy.state copy.kind copy.backed (not (is_held copy) && not g && not (is_working store id))))

  passing_own : (order : List ObjectId) → in_order (own_part store) order (is_draining (own_part store)) ≡ in_order store order (is_draining store)
  passing_own order = ap (λ test. filter test order) (by_granted (λ id copy g. may_drain (is_working store id) (is_some copy.offset) (is_held copy) g))

  spillable_own : (order : List ObjectId) → in_order (own_part store) order (is_spillable (own_part store)) ≡ in_order store order (is_spillable store)
  spillable_own order = ap (λ test. filter test order) (by_granted (λ id copy g. may_spill copy.state copy.kind copy.backed copy.doomed (not (is_held copy) && not g && not (is_working store id))))

  victims_own : (order : List ObjectId) (n : ℕ) → victims order (own_part store) n ≡ victims order store n
  victims_own order n = ap (shortest (λ out. is_some (offset_without store n out))) (evictable_own order)

  spilled_own : (order : List ObjectId) (n : ℕ) → spilled order (own_part store) n ≡ spilled order store n
  spilled_own order n = λ i. shortest (λ out. is_some (offset_without store n ((evictable_own order i ++ passing_own order i) ++ out))) (spillable_own order i)

  plan_own : (order : List ObjectId) (n : ℕ) → plan order (own_part store) n ≡ plan order store n
  plan_own order n = λ i. elim (victims_own order n i) [
    | Some [] ↦ fits
    | Some (id ∷ ids) ↦ evict (id ∷ ids)
    | None ↦ elim (spilled_own order n i) [
      | Some [] ↦ wait
      | Some (id ∷ ids) ↦ spill_plan store (id ∷ ids)
      | None ↦ full
    ]
  ]

  spill_own : (ids : List ObjectId) → spill_room (own_part store) ids ≡ own_room (spill_room store ids)
  spill_own ids =
      elim store.spill_failed as (λ b. cond b (no_room (record (own_part store) { spill_failed = false }) DeviceFailed) (cond (has_numbers store.works_asked (length ids)) (no_room (fold (asked true) (own_part store) ids) Pending) (no_room (own_part store) TooMany))
      ≡ own_room (cond b (no_room (record store { spill_failed = false }) DeviceFailed) (cond (has_numbers store.works_asked (length ids)) (no_room (fold (asked true) store ids) Pending) (no_room store TooMany)))) [
        | true ↦ refl
        | false ↦ elim (has_numbers store.works_asked (length ids)) as (λ b. cond b (no_room (fold (asked true) (own_part store) ids) Pending) (no_room (own_part store) TooMany)
            ≡ own_room (cond b (no_room (fold (asked true) store ids) Pending) (no_room store TooMany))) [
              | true ↦ ap (λ mid. no_room mid Pending) (fold_own (asked true) (λ mid id. refl) store ids)
              | false ↦ refl
            ]
      ]

  room_own : (n : ℕ) (p : Plan) → room_by (own_part store) n p ≡ own_room (room_by store n p)
  room_own n fits = refl
  room_own n (evict ids) = λ i. record (own_room (evict_room store n ids)) { shape = fold_own evicted evicted_own store ids i }
  room_own n wait = refl
  room_own n full = refl
  room_own n busy = refl
  room_own n (spill ids) = spill_own ids

  pub make_room_own : (order : List ObjectId) (n : ℕ) → make_room order (own_part store) n ≡ own_room (make_room order store n)
  make_room_own order n = ap (room_by (own_part store) n) (plan_own order n) ∙ room_own n (plan order store n)

  pub in_room_own : (order : List ObjectId) (n : ℕ) (f : Shape → ℕ → Change) → ((mid : Shape) (offset : ℕ) → f (own_part mid) offset ≡ own_change (f mid offset)) → in_room (make_room order (own_part store) n) f ≡ own_change (in_room (make_room order store n) f)
  unfolding in_room sending
  in_room_own order n f each =
      let room = make_room order store n in
      ap (λ r. in_room r f) (make_room_own order n)
      ∙ elim room.offset as (λ o. sending room.sent (elim o [ Ok offset ↦ f (own_part room.shape) offset | Err refusal ↦ refused (own_part room.shape) refusal ]) ≡ own_change (sending room.sent (elim o [ Ok offset ↦ f room.shape offset | Err refusal ↦ refused room.shape refusal ]))) [
        | Ok offset ↦ ap (sending room.sent) (each room.shape offset)
        | Err refusal ↦ refl
      ]

-- ---- checks

pub checked_own : (store : Shape) (checks : List (Bool × Refusal)) (c d : Change) → d ≡ own_change c → checked (own_part store) checks d ≡ own_change (checked store checks c)
unfolding checked
checked_own store [] c d e = e
checked_own store (check ∷ checks) c d e =
    elim check.0 as (λ b. cond b (refused (own_part store) check.1) (checked (own_part store) checks d) ≡ own_change (cond b (refused store check.1) (checked store checks c))) [
      | true ↦ refl
      | false ↦ checked_own store checks c d e
    ]

pub needing_own : {X : Type 0} (store : Shape) (o : Option X) (r : Refusal) (f g : X → Change) → ((x : X) → o ≡ Some x → g x ≡ own_change (f x)) → needing (own_part store) o r g ≡ own_change (needing store o r f)
unfolding needing
needing_own store None r f g each = refl
needing_own store (Some x) r f g each = each x refl

pub sending_own : (sent : List Sending) (c d : Change) → d ≡ own_change c → sending sent d ≡ own_change (sending sent c)
unfolding sending
sending_own sent c d e = ap (sending sent) e

pub doom_own : (store : Shape) (id : ObjectId) → IsOwn store id → doom (own_part store) id ≡ own_change (doom store id)
doom_own store id own = sending_own _ (done (doomed store id)) (done (doomed (own_part store) id)) (ap done (doomed_own store id own))
