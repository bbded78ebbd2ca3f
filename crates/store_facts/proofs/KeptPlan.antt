-- What making room for n bytes keeps, whatever the plan is.
use Rattle.std.proofs.Common.{◌≡◌, ℕ, ◌+◌, ◌≤◌, Bool, true, false, cond, List, [], ◌∷◌, ◌++◌, length, fold, Option, Some, None, Ok, Err, is_some, is_ok, refl, sym, ap, subst, ◌∙◌, arith}
use Rattle.std.specs.Prelude.{◌==◌, count_by, nat_lt, take}
use Rattle.std.proofs.lemmas.Bool.{ltb-true}
use Rattle.std.proofs.lemmas.List.{length-take}
use Rattle.obj_id.specs.declared.ids.ObjectId.{ObjectId}
use Rattle.obj_id.specs.declared.refusals.Refusal.{Refusal}
use Rattle.obj_id.specs.declared.refusals.Refusal.TheVariants.{DeviceFailed, Pending, TooMany, Full, Busy}
use Rattle.obj_id.specs.Ids.{same_id}
use Rattle.private_store.specs.rules.Limits.{has_numbers}
use Rattle.private_store.specs.rules.Tables.{is_among}
use Rattle.private_store.specs.rules.Shape.{Copy, Shape, Change}
use Rattle.private_store.specs.rules.Copies.{is_evictable, is_spillable, is_draining, device_used}
use Rattle.private_store.specs.rules.Room.{Room, Plan, fits, wait, full, busy, evict, spill, shortest, shortest_from, in_order, offset_without, victims, spilled, spill_plan, bytes_of_copies, works_left, plan, asked, no_room, spill_room, evict_room, room_by, make_room}
use Rattle.private_store.specs.rules.Change.{refused, in_room}
use Rattle.private_store.specs.laws.Invariants.{IsOrderOfUse}
use Rattle.store_facts.proofs.KeptLists.{count-cons, count-append, count-take, count-filter, some_counted, count_none}
use Rattle.store_facts.proofs.KeptRows.{IsLiveKept}
use Rattle.store_facts.proofs.KeptFold.{among-filter}
use Rattle.store_facts.proofs.KeptRoom.{IsMade, passes, evict_keeps, spills_keep, spillable_is}
use Rattle.store_facts.proofs.KeptStore.{Keeps, sending_keeps}
use Rattle.store_facts.proofs.Tests.{both_right, none_some, some_value, true_false}

-- ---- ids of the order of use

-- ids that pass the test, none of them twice
pub record AreChosen (store : Shape) (test : ObjectId → Copy → Bool) (ids : List ObjectId) : Type 0 where
  pub pass : (q : ObjectId) → is_among ids q ≡ true → passes store test q ≡ true
  pub once : IsOrderOfUse ids

module _ {X : Type 0} (test : List X → Bool) (p : X → Bool) where
  count-shortest : (taken xs ys : List X) → shortest_from test taken xs ≡ Some ys → count_by p ys ≤ count_by p taken + count_by p xs
  count-shortest taken [] ys e =
      elim (test taken) as (λ b. cond b (Some taken) None ≡ Some ys → count_by p ys ≤ count_by p taken + count_by p []) [
        | true ↦ λ f. let k : count_by p taken ≡ count_by p ys = ap (count_by p) (some_value taken ys f) in omega (arith, k)
        | false ↦ λ f. none_some ys f
      ] e
  count-shortest taken (x ∷ xs) ys e =
      elim (test taken) as (λ b. elim b [ true ↦ Some taken | false ↦ shortest_from test (taken ++ x ∷ []) xs ] ≡ Some ys → count_by p ys ≤ count_by p taken + count_by p (x ∷ xs)) [
        | true ↦ λ f. let k : count_by p taken ≡ count_by p ys = ap (count_by p) (some_value taken ys f) in omega (arith, k)
        | false ↦ λ f.
            let i = count-shortest (taken ++ x ∷ []) xs ys f in
            let a = count-append p taken (x ∷ []) in
            let c = count-cons p x xs in
            let d = count-cons p x [] in
            let z : count_by p [] ≡ 0 = refl in
            omega (arith, i, a, c, d, z)
      ] e

pub fewer_chosen : (store : Shape) (test : ObjectId → Copy → Bool) (ids fewer : List ObjectId) → AreChosen store test ids → ((q : ObjectId) → count_by (same_id q) fewer ≤ count_by (same_id q) ids) → AreChosen store test fewer
fewer_chosen store test ids fewer h le = record {
  pass = λ q t. h.pass q (among q t);
  once = λ q. let k = le q in let o = h.once q in omega (arith, k, o);
}
  where
    among : (q : ObjectId) → is_among fewer q ≡ true → is_among ids q ≡ true
    among q t = elim (is_among ids q) as (λ b. is_among ids q ≡ b → b ≡ true) [
      | true ↦ λ e. refl
      | false ↦ λ e. let n = count_none (same_id q) ids e in let s = some_counted (same_id q) fewer t in let k = le q in absurd (omega (arith, n, s, k))
    ] refl

module _ (order : List ObjectId) (once : IsOrderOfUse order) (store : Shape) where
  in_order_chosen : (test : ObjectId → Copy → Bool) → AreChosen store test (in_order store order test)
  in_order_chosen test = record {
    pass = λ q t. both_right (is_among order q) (passes store test q) (sym (among-filter (passes store test) order q) ∙ t);
    once = λ q. let k = count-filter (same_id q) (passes store test) order in let o = once q in omega (arith, k, o);
  }

  pub shortest_chosen : (test : ObjectId → Copy → Bool) (enough : List ObjectId → Bool) (ids : List ObjectId) → shortest enough (in_order store order test) ≡ Some ids → AreChosen store test ids
  shortest_chosen test enough ids e = fewer_chosen store test (in_order store order test) ids (in_order_chosen test)
      (λ q. let k = count-shortest enough (same_id q) [] (in_order store order test) ids e in let z : count_by (same_id q) [] ≡ 0 = refl in omega (arith, k, z))

  -- ---- plans

  pub record MaySpillAll (ids : List ObjectId) : Type 0 where
    chosen : AreChosen store (is_spillable store) ids
    few : length ids ≤ works_left store

  abbrev IsPlan : Plan → Type 0
  IsPlan fits = Unit {0}
  IsPlan wait = Unit {0}
  IsPlan full = Unit {0}
  IsPlan busy = Unit {0}
  IsPlan (evict ids) = AreChosen store (is_evictable store) ids
  IsPlan (spill ids) = MaySpillAll ids

  spill_plan_is : (ids : List ObjectId) → AreChosen store (is_spillable store) ids → IsPlan (spill_plan store ids)
  spill_plan_is ids h =
      elim (nat_lt store.quota.device (device_used store + bytes_of_copies store ids)) as (λ b. IsPlan (cond b full (cond (works_left store == 0) busy (spill (take (works_left store) ids))))) [
        | true ↦ tt
        | false ↦ elim (works_left store == 0) as (λ b. IsPlan (cond b busy (spill (take (works_left store) ids)))) [
          | true ↦ tt
          | false ↦ record {
            chosen = fewer_chosen store (is_spillable store) ids (take (works_left store) ids) h (λ q. count-take (same_id q) (works_left store) ids);
            few = let k = length-take (works_left store) ids in omega (arith, k);
          }
        ]
      ]

  spilled_is : (n : ℕ) (o : Option (List ObjectId)) → spilled order store n ≡ o → IsPlan (elim o [ Some [] ↦ wait | Some (id ∷ ids) ↦ spill_plan store (id ∷ ids) | None ↦ full ])
  spilled_is n None e = tt
  spilled_is n (Some []) e = tt
  spilled_is n (Some (id ∷ ids)) e = spill_plan_is (id ∷ ids) (shortest_chosen (is_spillable store)
      (λ out. is_some (offset_without store n ((in_order store order (is_evictable store) ++ in_order store order (is_draining store)) ++ out))) (id ∷ ids) e)

  plan_is : (n : ℕ) → IsPlan (plan order store n)
  plan_is n = by_victims (victims order store n) refl
    where
      by_victims : (o : Option (List ObjectId)) → victims order store n ≡ o → IsPlan (elim o [
        | Some [] ↦ fits
        | Some (id ∷ ids) ↦ evict (id ∷ ids)
        | None ↦ elim (spilled order store n) [ Some [] ↦ wait | Some (id ∷ ids) ↦ spill_plan store (id ∷ ids) | None ↦ full ]
      ])
      by_victims None e = spilled_is n (spilled order store n) refl
      by_victims (Some []) e = tt
      by_victims (Some (id ∷ ids)) e = shortest_chosen (is_evictable store) (λ out. is_some (offset_without store n out)) (id ∷ ids) e

  -- ---- room

  -- where there is room, copies went that may go; and in any case the store is kept
  pub record IsRoomKept (room : Room) : Type 0 where
    pub made : is_ok room.offset ≡ true → IsMade store room.shape
    pub kept : IsLiveKept room.shape

  module _ (h : IsLiveKept store) where
    refused_room : (room : Room) (refusal : Refusal) → room.offset ≡ Err refusal → IsLiveKept room.shape → IsRoomKept room
    refused_room room refusal e k = record { made = λ t. true_false (sym (ap is_ok e) ∙ t); kept = k }

    made_room : (room : Room) → IsMade store room.shape → IsRoomKept room
    made_room room m = record { made = λ _. m; kept = subst IsLiveKept (sym m.is) m.kept }

    unflagged : IsLiveKept (record store { spill_failed = false })
    unflagged = record { live = h.live; quota = h.quota; rows = h.rows; works = h.works; grants = h.grants; fetches = h.fetches; ended = h.ended }

    spill_room_keeps : (ids : List ObjectId) → MaySpillAll ids → IsRoomKept (spill_room store ids)
    spill_room_keeps ids m =
        elim store.spill_failed as (λ b. IsRoomKept (cond b (no_room (record store { spill_failed = false }) DeviceFailed) (cond (has_numbers store.works_asked (length ids)) (no_room (fold (asked true) store ids) Pending) (no_room store TooMany)))) [
          | true ↦ refused_room _ DeviceFailed refl unflagged
          | false ↦ elim (has_numbers store.works_asked (length ids)) as (λ b. has_numbers store.works_asked (length ids) ≡ b → IsRoomKept (cond b (no_room (fold (asked true) store ids) Pending) (no_room store TooMany))) [
            | true ↦ λ e. refused_room _ Pending refl (spills_keep ids store h (λ q t. spillable_is store q (m.chosen.pass q t)) m.chosen.once
                (let f = m.few in let w = h.works.few in omega (arith, f, w)) (ltb-true _ _ e))
            | false ↦ λ e. refused_room _ TooMany refl h
          ] refl
        ]

    evict_room_keeps : (n : ℕ) (ids : List ObjectId) → ((q : ObjectId) → is_among ids q ≡ true → passes store (is_evictable store) q ≡ true) → IsRoomKept (evict_room store n ids)
    evict_room_keeps n ids pass = made_room _ (evict_keeps store h ids pass)

    pub room_keeps : (n : ℕ) → IsRoomKept (make_room order store n)
    room_keeps n = by_plan (plan order store n) (plan_is n)
      where
        by_plan : (p : Plan) → IsPlan p → IsRoomKept (room_by store n p)
        by_plan fits m = evict_room_keeps n [] (λ q t. true_false t)
        by_plan (evict ids) m = evict_room_keeps n ids m.pass
        by_plan wait m = refused_room _ Pending refl h
        by_plan full m = refused_room _ Full refl h
        by_plan busy m = refused_room _ Busy refl h
        by_plan (spill ids) m = spill_room_keeps ids m

-- what is done in the room that was made
pub in_room_keeps : (store : Shape) (room : Room) (f : Shape → ℕ → Change) → (is_ok room.offset ≡ true → IsMade store room.shape) → IsLiveKept room.shape
    → ((offset : ℕ) (m : IsMade store room.shape) → is_ok room.offset ≡ true → Keeps (f (record store { copies = m.copies }) offset)) → Keeps (in_room room f)
unfolding in_room
in_room_keeps store room f made kept k =
    sending_keeps room.sent _ (elim room.offset as (λ o. room.offset ≡ o → Keeps (elim o [ Ok offset ↦ f room.shape offset | Err refusal ↦ refused room.shape refusal ])) [
      | Ok offset ↦ λ e. let m = made (ap is_ok e) in subst (λ s. Keeps (f s offset)) (sym m.is) (k offset m (ap is_ok e))
      | Err refusal ↦ λ e. record { is = kept }
    ] refl)
