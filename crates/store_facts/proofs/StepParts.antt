-- What steps are made of: edits and their answers, and the room that evictions make.
use Rattle.std.proofs.Common.{◌≡◌, ℕ, ◌+◌, Bool, true, false, not, cond, ◌==◌, nat_lt, take, ◌&&◌, ◌||◌, List, [], ◌∷◌, ◌++◌, length, filter, fold, Option, Some, None, Ok, Err, is_some, refl, sym, ap, subst, ◌∙◌, option_to_list, filter_map}
use Rattle.std.specs.Option.{option_map_or}
use Rattle.std.specs.List.{list_all, cons_option}
use Rattle.obj_id.specs.declared.ids.ObjectId.{ObjectId}
use Rattle.obj_id.specs.declared.ids.TaskNo.{TaskNo}
use Rattle.obj_id.specs.declared.commands.CopyState.TheVariants.{Away}
use Rattle.obj_id.specs.declared.commands.Reply.{Reply}
use Rattle.obj_id.specs.declared.commands.Reply.TheVariants as reply
use Rattle.obj_id.specs.declared.commands.Command.{Command}
use Rattle.obj_id.specs.declared.commands.Command.TheVariants as command
use Rattle.obj_id.specs.declared.refusals.Refusal.{Refusal}
use Rattle.obj_id.specs.declared.refusals.Refusal.TheVariants.{Pending, DeviceFailed, TooMany, Full, Busy}
use Rattle.obj_id.specs.Ids.{same_id}
use Rattle.private_store.specs.declared.inputs.Judged.{Judged}
use Rattle.private_store.specs.declared.faults.Fault.{Fault}
use Rattle.private_store.specs.declared.faults.FetchFault.{FetchFault}
use Rattle.private_store.specs.declared.faults.Fault.TheVariants as restore_fault
use Rattle.private_store.specs.declared.faults.FetchFault.TheVariants as fetch_fault
use Rattle.private_store.specs.rules.Limits.{has_numbers}
use Rattle.private_store.specs.rules.Tables.{at, ids_of}
use Rattle.private_store.specs.rules.Shape.{Copy, Shape, Change, Sending, remove_location, free}
use Rattle.obj_id.specs.Kinds.{is_primary}
use Rattle.private_store.specs.rules.Marks.{Mark, marked, with_holds, without_borrower}
use Rattle.private_store.specs.rules.Marks as mark
use Rattle.private_store.specs.rules.Copies.{is_sealed, is_evictable, is_idle, in_scope, device_used, was_sealed}
use Rattle.private_store.specs.rules.Room.{Room, shortest_from, in_order, fits, wait, full, busy, evict, spill, victims, spilled, spill_plan, bytes_of_copies, works_left, offset_without, set_copy, drop_copy, evicted, asked, no_room, spill_room, evict_room, room_by, make_room, eviction_notice}
use Rattle.private_store.specs.rules.Change.{replied, refused, done, checked, needing, sending, in_room, erasing, settled, doomed, doom, doom_notice}
use Rattle.private_store.specs.rules.Commands.{task_ended, leave, refusal_of, fetch_refusal, at_each, then_change, scoped, give_up_one, leave_one, has_borrower, of_task}
use Rattle.private_store.specs.laws.Made
use Rattle.private_store.specs.laws.Made.{is_want, Can, Edit, Edits, none, then_edit, marks, drops, asks, flags, ends_task, Response, response_ok, response_refused, IsUsedThere, IsMadeOf, changes_grants, is_calm, may_send}
use Rattle.store_facts.proofs.Checks.{Fails}
use Rattle.store_facts.proofs.Rows.{at-put, at-drop}
use Rattle.store_facts.proofs.Tests.{both, both_left, both_right, refuted, some_value, none_some}
use Rattle.store_facts.proofs.Ids.{same_id-equal, same_id-not_back}

-- ---- who is evicted

abbrev pub may_go : Shape → ObjectId → Bool
may_go store id = option_map_or (is_evictable store id) (at store.copies id) false

all_of_filter : (p : ObjectId → Bool) (ids : List ObjectId) → list_all p (filter p ids) ≡ true
all_of_filter p [] = refl
all_of_filter p (id ∷ ids) =
    elim (p id) as (λ b. p id ≡ b → list_all p (cond b (id ∷ filter p ids) (filter p ids)) ≡ true) [
      | true ↦ λ e. both (p id) (list_all p (filter p ids)) e (all_of_filter p ids)
      | false ↦ λ _. all_of_filter p ids
    ] refl

all_of_both : {X : Type 0} (p : X → Bool) (xs ys : List X) → list_all p xs ≡ true → list_all p ys ≡ true → list_all p (xs ++ ys) ≡ true
all_of_both p [] ys h k = k
all_of_both p (x ∷ xs) ys h k = both (p x) (list_all p (xs ++ ys)) (both_left (p x) (list_all p xs) h) (all_of_both p xs ys (both_right (p x) (list_all p xs) h) k)

all_of_shortest : (p : ObjectId → Bool) (test : List ObjectId → Bool) (taken xs ids : List ObjectId) → list_all p taken ≡ true → list_all p xs ≡ true → shortest_from test taken xs ≡ Some ids → list_all p ids ≡ true
all_of_shortest p test taken [] ids h k e =
    elim (test taken) as (λ b. cond b (Some taken) None ≡ Some ids → list_all p ids ≡ true) [
      | true ↦ λ e. subst (λ ys. list_all p ys ≡ true) (some_value taken ids e) h
      | false ↦ λ e. none_some ids e
    ] e
all_of_shortest p test taken (x ∷ xs) ids h k e =
    elim (test taken) as (λ b. elim b [ true ↦ Some taken | false ↦ shortest_from test (taken ++ x ∷ []) xs ] ≡ Some ids → list_all p ids ≡ true) [
      | true ↦ λ e. subst (λ ys. list_all p ys ≡ true) (some_value taken ids e) h
      | false ↦ λ e. all_of_shortest p test (taken ++ x ∷ []) xs ids (all_of_both p taken (x ∷ []) h (both (p x) true (both_left (p x) (list_all p xs) k) refl)) (both_right (p x) (list_all p xs) k) e
    ] e

pub victims_may : (order : List ObjectId) (store : Shape) (n : ℕ) (ids : List ObjectId) → victims order store n ≡ Some ids → list_all (may_go store) ids ≡ true
victims_may order store n ids e = all_of_shortest (may_go store) (λ out. is_some (offset_without store n out)) [] (in_order store order (is_evictable store)) ids refl (all_of_filter (may_go store) order) e

-- what isn't sealed isn't among them
stays_behind : (store : Shape) (id : ObjectId) (copy : Copy) → at store.copies id ≡ Some copy → is_sealed copy.state ≡ false → may_go store id ≡ false
stays_behind store id copy e s =
    ap (λ o. option_map_or (is_evictable store id) o false) e
    ∙ ap (λ b. b && is_idle store id copy && (not (is_primary copy.kind) || is_some copy.backed)) s

stays_one : (store : Shape) (q id : ObjectId) (copy : Copy) → same_id id q ≡ false → at store.copies id ≡ Some copy → at (evicted store q).copies id ≡ Some copy
stays_one store q id copy f e =
    elim (at store.copies q) as (λ o. at (option_map_or (λ c. cond (is_primary c.kind) (set_copy store q (record c { state = Away; offset = None })) (drop_copy store q)) o store).copies id ≡ Some copy) [
      | None ↦ e
      | Some c ↦ elim (is_primary c.kind) as (λ b. at (cond b (set_copy store q (record c { state = Away; offset = None })) (drop_copy store q)).copies id ≡ Some copy) [
        | true ↦ at-put store.copies q (record c { state = Away; offset = None }) id ∙ ap (λ b. cond b (Some (record c { state = Away; offset = None })) (at store.copies id)) f ∙ e
        | false ↦ at-drop store.copies q id ∙ ap (λ b. cond (not b) (at store.copies id) None) (same_id-not_back id q f) ∙ e
      ]
    ]

stays_evicted : (store : Shape) (id : ObjectId) (copy : Copy) → may_go store id ≡ false → (mid : Shape) (ids : List ObjectId) → list_all (may_go store) ids ≡ true → at mid.copies id ≡ Some copy → at (fold evicted mid ids).copies id ≡ Some copy
stays_evicted store id copy out mid [] may e = e
stays_evicted store id copy out mid (q ∷ ids) may e =
    stays_evicted store id copy out (evicted mid q) ids (both_right (may_go store q) (list_all (may_go store) ids) may)
    (stays_one mid q id copy (refuted (same_id id q) (λ t. sym out ∙ ap (may_go store) (same_id-equal id q t) ∙ both_left (may_go store q) (list_all (may_go store) ids) may)) e)

-- no fault is answered as NoMemory
pub never_want : (response : Fault) → is_want (refusal_of response) ≡ false
never_want restore_fault.DeviceFailed = refl
never_want restore_fault.Damaged = refl

pub fetch_never_wants : (response : FetchFault) → is_want (fetch_refusal response) ≡ false
fetch_never_wants fetch_fault.Absent = refl
fetch_never_wants fetch_fault.Damaged = refl

-- whether the command is answered with bytes
abbrev pub tells_bytes : Command ℕ → Bool
tells_bytes (command.Read id offset n) = true
tells_bytes (command.Peek id offset n) = true
tells_bytes _ = false

module _ (x : Judged) where
  -- ---- edits of a store

  module _ (used : Option ObjectId) where
    pub one : {store after : Shape} → Edit x used store after → Edits x used store after
    one e = then_edit none e

    pub edits_both : {a b c : Shape} → Edits x used a b → Edits x used b c → Edits x used a c
    edits_both h none = h
    edits_both h (then_edit k e) = then_edit (edits_both h k) e

    -- a copy is marked, over what went before
    pub set_edits : {store : Shape} (mid : Shape) (id : ObjectId) (copy : Copy) (m : Mark) → at mid.copies id ≡ Some copy → Can x m copy → Edits x used store mid → Edits x used store (set_copy mid id (marked m copy))
    set_edits mid id copy m e can h = then_edit h (marks id copy m e can)

    pub settled_edits : {store : Shape} (mid : Shape) (id : ObjectId) → Edits x used store mid → Edits x used store (settled mid id)
    settled_edits {store} mid id h =
        elim (at mid.copies id) as (λ o. at mid.copies id ≡ o → Edits x used store (option_map_or (λ copy. cond (copy.doomed && is_idle mid id copy) (drop_copy mid id) mid) o mid)) [
          | None ↦ λ _. h
          | Some copy ↦ λ e. elim (copy.doomed && is_idle mid id copy) as (λ b. (copy.doomed && is_idle mid id copy) ≡ b → Edits x used store (cond b (drop_copy mid id) mid)) [
            | true ↦ λ t. then_edit h (drops id copy e (Made.as_doomed t))
            | false ↦ λ _. h
          ] refl
        ] refl

    doomed_edits : {store : Shape} (mid : Shape) (id : ObjectId) → Edits x used store mid → Edits x used store (doomed mid id)
    doomed_edits {store} mid id h =
        elim (at mid.copies id) as (λ o. at mid.copies id ≡ o → Edits x used store (option_map_or (λ copy. settled (set_copy mid id (record copy { doomed = true })) id) o mid)) [
          | None ↦ λ _. h
          | Some copy ↦ λ e. settled_edits (set_copy mid id (marked mark.doomed copy)) id (set_edits mid id copy mark.doomed e tt h)
        ] refl

    evicted_edits : (store : Shape) (id : ObjectId) → Edits x used store (evicted store id)
    evicted_edits store id =
        elim (at store.copies id) as (λ o. at store.copies id ≡ o → Edits x used store (option_map_or (λ copy. cond (is_primary copy.kind) (set_copy store id (record copy { state = Away; offset = None })) (drop_copy store id)) o store)) [
          | None ↦ λ _. none
          | Some copy ↦ λ e. elim (is_primary copy.kind) as (λ b. is_primary copy.kind ≡ b → Edits x used store (cond b (set_copy store id (record copy { state = Away; offset = None })) (drop_copy store id))) [
            | true ↦ λ p. set_edits store id copy mark.evicted e p none
            | false ↦ λ s. one (drops id copy e (Made.as_secondary s))
          ] refl
        ] refl

    fold_edits : (f : Shape → ObjectId → Shape) → ((store : Shape) (id : ObjectId) → Edits x used store (f store id)) → (store : Shape) (ids : List ObjectId) → Edits x used store (fold f store ids)
    fold_edits f each store [] = none
    fold_edits f each store (id ∷ ids) = edits_both (each store id) (fold_edits f each (f store id) ids)

  -- ---- changes

  pub made_replied : (found store : Shape) (r : Reply ℕ) → Response x found r → IsMadeOf x found store (replied store r)
  made_replied found store r t = record { edits = none; response = t; used = tt; sent = refl }

  -- after these edits, and no copy is used
  pub made_done : (found : Shape) {store after : Shape} → Edits x None store after → IsMadeOf x found store (done after)
  made_done found h = record { edits = h; response = response_ok; used = tt; sent = refl }

  pub made_refused : (found : Shape) {store after : Shape} (r : Refusal) → is_want r ≡ false → Edits x None store after → IsMadeOf x found store (refused after r)
  made_refused found r t h = record { edits = h; response = response_refused r t; used = tt; sent = refl }

  abbrev NoneWants : List (Bool × Refusal) → Bool
  NoneWants checks = list_all (λ check. not (is_want check.1)) checks

  not_want : (a b : Bool) → not a && b ≡ true → a ≡ false
  not_want true b e = sym e
  not_want false b e = refl

  pub made_checked : (found store : Shape) (checks : List (Bool × Refusal)) (rest : Change) → NoneWants checks ≡ true → (Fails checks → IsMadeOf x found store rest) → IsMadeOf x found store (checked store checks rest)
  unfolding checked
  made_checked found store [] rest t k = k tt
  made_checked found store (check ∷ checks) rest t k =
      elim check.0 as (λ b. check.0 ≡ b → IsMadeOf x found store (cond b (refused store check.1) (checked store checks rest))) [
        | true ↦ λ _. made_refused found check.1 (not_want (is_want check.1) (NoneWants checks) t) none
        | false ↦ λ e. made_checked found store checks rest (both_right (not (is_want check.1)) (NoneWants checks) t) (λ fails. k (e, fails))
      ] refl

  pub made_needing : {X : Type 0} (found store : Shape) (o : Option X) (r : Refusal) (f : X → Change) → is_want r ≡ false → ((y : X) → o ≡ Some y → IsMadeOf x found store (f y)) → IsMadeOf x found store (needing store o r f)
  unfolding needing
  made_needing found store None r f t k = made_refused found r t none
  made_needing found store (Some y) r f t k = k y refl

  abbrev pub AreSent : List Sending → Type 0
  AreSent sent = list_all (may_send x) sent ≡ true

  pub one_sent : (m : Sending) → may_send x m ≡ true → AreSent (m ∷ [])
  one_sent m h = both (may_send x m) true h refl

  -- what an eviction may send, and what a doom may
  abbrev pub Evicts : Type 0
  Evicts = (id : ObjectId) → may_send x (remove_location id) ≡ true

  abbrev pub Dooms : Type 0
  Dooms = (id : ObjectId) → (may_send x (remove_location id) ≡ true) × (may_send x (free id) ≡ true)

  notices_sent : Evicts → (store : Shape) (ids : List ObjectId) → AreSent (filter_map (eviction_notice store) ids)
  notices_sent ev store [] = refl
  notices_sent ev store (id ∷ ids) =
      let rest = filter_map (eviction_notice store) ids in
      elim (at store.copies id) as (λ o. AreSent (cons_option (option_map_or (λ copy. cond (is_primary copy.kind) None (Some (remove_location id))) o None) rest)) [
        | None ↦ notices_sent ev store ids
        | Some copy ↦ elim (is_primary copy.kind) as (λ b. AreSent (cons_option (cond b None (Some (remove_location id))) rest)) [
          | true ↦ notices_sent ev store ids
          | false ↦ both (may_send x (remove_location id)) (list_all (may_send x) rest) (ev id) (notices_sent ev store ids)
        ]
      ]

  notice_sent : Dooms → (store : Shape) (id : ObjectId) → AreSent (option_to_list (doom_notice store id))
  notice_sent dm store id =
      elim (at store.copies id) as (λ o. AreSent (option_to_list (option_map_or (λ copy. cond (was_sealed copy.state && not copy.doomed) (cond (is_primary copy.kind) (Some (free id)) (Some (remove_location id))) None) o None))) [
        | None ↦ refl
        | Some copy ↦ elim (was_sealed copy.state && not copy.doomed) as (λ b. AreSent (option_to_list (cond b (cond (is_primary copy.kind) (Some (free id)) (Some (remove_location id))) None))) [
          | true ↦ elim (is_primary copy.kind) as (λ b. AreSent (option_to_list (cond b (Some (free id)) (Some (remove_location id))))) [ true ↦ one_sent (free id) (dm id).1 | false ↦ one_sent (remove_location id) (dm id).0 ]
          | false ↦ refl
        ]
      ]

  pub made_sending : (found store : Shape) (sent : List Sending) (c : Change) → AreSent sent → IsMadeOf x found store c → IsMadeOf x found store (sending sent c)
  unfolding sending
  made_sending found store sent c t k = record { edits = k.edits; response = k.response; used = k.used; sent = all_of_both (may_send x) sent c.sent t k.sent }

  pub made_erasing : (found store before : Shape) (c : Change) → IsMadeOf x found store c → IsMadeOf x found store (erasing before c)
  made_erasing found store before c k = record { edits = k.edits; response = k.response; used = k.used; sent = k.sent }

  -- ---- room

  pub record MakesRoom (store : Shape) (room : Room) : Type 0 where
    pub edits : (used : Option ObjectId) → Edits x used store room.shape
    pub refuses : (r : Refusal) → room.offset ≡ Err r → is_want r ≡ false
    pub sent : Evicts → AreSent room.sent
    -- only what is sealed is evicted
    pub stays : (offset : ℕ) → room.offset ≡ Ok offset → (id : ObjectId) (copy : Copy) → at store.copies id ≡ Some copy → is_sealed copy.state ≡ false → at room.shape.copies id ≡ Some copy

  no_room_made : (store after : Shape) (refusal : Refusal) → ((used : Option ObjectId) → Edits x used store after) → is_want refusal ≡ false → MakesRoom store (no_room after refusal)
  no_room_made store after refusal h t = record { edits = h; refuses = λ r e. let is : refusal ≡ r = cc in sym (ap is_want is) ∙ t; sent = λ _. refl; stays = λ offset e. cc }

  spill_room_made : is_calm x ≡ false → (store : Shape) (ids : List ObjectId) → MakesRoom store (spill_room store ids)
  spill_room_made stirs store ids =
      elim store.spill_failed as (λ b. MakesRoom store (cond b (no_room (record store { spill_failed = false }) DeviceFailed) (cond (has_numbers store.works_asked (length ids)) (no_room (fold (asked true) store ids) Pending) (no_room store TooMany)))) [
        | true ↦ no_room_made store (record store { spill_failed = false }) DeviceFailed (λ used. one used (flags false)) refl
        | false ↦ elim (has_numbers store.works_asked (length ids)) as (λ b. MakesRoom store (cond b (no_room (fold (asked true) store ids) Pending) (no_room store TooMany))) [
          | true ↦ no_room_made store (fold (asked true) store ids) Pending (λ used. fold_edits used (asked true) (λ s id. one used (asks true id stirs)) store ids) refl
          | false ↦ no_room_made store store TooMany (λ used. none) refl
        ]
      ]

  evict_room_made : (store : Shape) (n : ℕ) (ids : List ObjectId) → list_all (may_go store) ids ≡ true → MakesRoom store (evict_room store n ids)
  evict_room_made store n ids may = record {
    edits = λ used. fold_edits used evicted (evicted_edits used) store ids;
    refuses = λ r e. response (offset_without store n ids) r e;
    sent = λ ev. notices_sent ev store ids;
    stays = λ offset e id copy there unsealed. stays_evicted store id copy (stays_behind store id copy there unsealed) store ids may there;
  }
    where
      response : (o : Option ℕ) (r : Refusal) → option_map_or Ok o (Err Full) ≡ Err r → is_want r ≡ false
      response None r e = let is : Full ≡ r = cc in sym (ap is_want is)
      response (Some offset) r e = cc

  spill_plan_made : is_calm x ≡ false → (store : Shape) (n : ℕ) (ids : List ObjectId) → MakesRoom store (room_by store n (spill_plan store ids))
  spill_plan_made stirs store n ids =
      elim (nat_lt store.quota.device (device_used store + bytes_of_copies store ids)) as (λ b. MakesRoom store (room_by store n (cond b full (cond (works_left store == 0) busy (spill (take (works_left store) ids)))))) [
        | true ↦ no_room_made store store Full (λ used. none) refl
        | false ↦ elim (works_left store == 0) as (λ b. MakesRoom store (room_by store n (cond b busy (spill (take (works_left store) ids))))) [
          | true ↦ no_room_made store store Busy (λ used. none) refl
          | false ↦ spill_room_made stirs store (take (works_left store) ids)
        ]
      ]

  pub make_room_made : is_calm x ≡ false → (order : List ObjectId) (store : Shape) (n : ℕ) → MakesRoom store (make_room order store n)
  make_room_made stirs order store n = by_victims (victims order store n) refl
    where
      by_spilled : (o : Option (List ObjectId)) → MakesRoom store (room_by store n (elim o [ Some [] ↦ wait | Some (id ∷ ids) ↦ spill_plan store (id ∷ ids) | None ↦ full ]))
      by_spilled None = no_room_made store store Full (λ used. none) refl
      by_spilled (Some []) = no_room_made store store Pending (λ used. none) refl
      by_spilled (Some (id ∷ ids)) = spill_plan_made stirs store n (id ∷ ids)

      by_victims : (o : Option (List ObjectId)) → victims order store n ≡ o → MakesRoom store (room_by store n (elim o [
        | Some [] ↦ fits
        | Some (id ∷ ids) ↦ evict (id ∷ ids)
        | None ↦ elim (spilled order store n) [ Some [] ↦ wait | Some (id ∷ ids) ↦ spill_plan store (id ∷ ids) | None ↦ full ]
      ]))
      by_victims None e = by_spilled (spilled order store n)
      by_victims (Some []) e = evict_room_made store n [] refl
      by_victims (Some (id ∷ ids)) e = evict_room_made store n (id ∷ ids) (victims_may order store n (id ∷ ids) e)

  pub made_in_room : (found store : Shape) (room : Room) (f : Shape → ℕ → Change) → Evicts → MakesRoom store room → ((offset : ℕ) → room.offset ≡ Ok offset → IsMadeOf x found room.shape (f room.shape offset)) → IsMadeOf x found store (in_room room f)
  unfolding in_room sending
  made_in_room found store room f ev h k =
      elim room.offset as (λ o. room.offset ≡ o → IsMadeOf x found store (sending room.sent (elim o [ Ok offset ↦ f room.shape offset | Err refusal ↦ refused room.shape refusal ]))) [
        | Ok offset ↦ λ e. let m = k offset e in record { edits = edits_both _ (h.edits (f room.shape offset).used) m.edits; response = m.response; used = m.used; sent = all_of_both (may_send x) room.sent (f room.shape offset).sent (h.sent ev) m.sent }
        | Err refusal ↦ λ e. record { edits = h.edits None; response = response_refused refusal (h.refuses refusal e); used = tt; sent = all_of_both (may_send x) room.sent [] (h.sent ev) refl }
      ] refl

  -- ---- changes that are answered Ok and use no copy

  pub record MakesUnused (store : Shape) (c : Change) : Type 0 where
    pub edits : Edits x None store c.shape
    pub told : c.reply ≡ reply.Ok
    pub unused : c.used ≡ None
    pub sent : AreSent c.sent

  pub unused_made : (found store : Shape) (c : Change) → MakesUnused store c → IsMadeOf x found store c
  unused_made found store c k = record {
    edits = subst (λ o. Edits x o store c.shape) (sym k.unused) k.edits;
    response = subst (Response x found) (sym k.told) response_ok;
    used = subst (λ o. IsUsedThere o c.shape.copies) (sym k.unused) tt;
    sent = k.sent;
  }

  done_unused : {store after : Shape} → Edits x None store after → MakesUnused store (done after)
  done_unused h = record { edits = h; told = refl; unused = refl; sent = refl }

  pub doom_unused : Dooms → {store : Shape} (mid : Shape) (id : ObjectId) → Edits x None store mid → MakesUnused store (doom mid id)
  unfolding sending
  doom_unused dm mid id h = record { edits = doomed_edits None mid id h; told = refl; unused = refl; sent = all_of_both (may_send x) (option_to_list (doom_notice mid id)) [] (notice_sent dm mid id) refl }

  pub scoped_unused : Dooms → (store : Shape) (id : ObjectId) (copy : Copy) (m : Mark) → at store.copies id ≡ Some copy → Can x m copy → MakesUnused store (scoped store id (marked m copy))
  scoped_unused dm store id copy m e can =
      let d = marked m copy in
      let set = set_edits None store id copy m e can none in
      elim (in_scope d) as (λ b. MakesUnused store (cond b (done (set_copy store id d)) (doom (set_copy store id d) id))) [
        | true ↦ done_unused set
        | false ↦ doom_unused dm (set_copy store id d) id set
      ]

  pub give_up_one_unused : Dooms → (task : TaskNo) (store : Shape) (id : ObjectId) → MakesUnused store (give_up_one task store id)
  give_up_one_unused dm task store id =
      elim (at store.copies id) as (λ o. at store.copies id ≡ o → MakesUnused store (option_map_or (λ copy. cond copy.doomed (done (set_copy store id (without_borrower copy task))) (cond (has_borrower copy task) (scoped store id (without_borrower copy task)) (done store))) o (done store))) [
        | None ↦ λ _. done_unused none
        | Some copy ↦ λ e. elim copy.doomed as (λ b. MakesUnused store (cond b (done (set_copy store id (without_borrower copy task))) (cond (has_borrower copy task) (scoped store id (without_borrower copy task)) (done store)))) [
          | true ↦ done_unused (set_edits None store id copy (mark.given_up task) e tt none)
          | false ↦ elim (has_borrower copy task) as (λ b. MakesUnused store (cond b (scoped store id (without_borrower copy task)) (done store))) [
            | true ↦ scoped_unused dm store id copy (mark.given_up task) e tt
            | false ↦ done_unused none
          ]
        ]
      ] refl

  pub set_settled : (store : Shape) (id : ObjectId) (copy : Copy) (m : Mark) → at store.copies id ≡ Some copy → Can x m copy → MakesUnused store (done (settled (set_copy store id (marked m copy)) id))
  set_settled store id copy m e can = done_unused (settled_edits None (set_copy store id (marked m copy)) id (set_edits None store id copy m e can none))

  pub leave_one_unused : (session : ℕ) (store : Shape) (id : ObjectId) → MakesUnused store (leave_one session store id)
  leave_one_unused session store id =
      elim (at store.copies id) as (λ o. at store.copies id ≡ o → MakesUnused store (option_map_or (λ copy. done (settled (set_copy store id (with_holds copy session 0)) id)) o (done store))) [
        | None ↦ λ _. done_unused none
        | Some copy ↦ λ e. set_settled store id copy (mark.held session 0) e tt
      ] refl

  at_each_unused : {store : Shape} (f : Shape → ObjectId → Change) → ((mid : Shape) (id : ObjectId) → MakesUnused mid (f mid id)) → (ids : List ObjectId) (c : Change) → MakesUnused store c → MakesUnused store (at_each f ids c)
  unfolding sending
  at_each_unused f each [] c k = k
  at_each_unused f each (id ∷ ids) c k =
      let next = each c.shape id in
      at_each_unused f each ids (then_change c (λ s. f s id)) (record { edits = edits_both None k.edits next.edits; told = next.told; unused = next.unused; sent = all_of_both (may_send x) c.sent (f c.shape id).sent k.sent next.sent })

  pub leave_unused : (store : Shape) (session : ℕ) → MakesUnused store (leave store session)
  leave_unused store session = at_each_unused (leave_one session) (leave_one_unused session) (ids_of store.copies) _ (done_unused none)

  -- what an EndTask that isn't refused does
  abbrev pub task_left : Shape → TaskNo → Change
  task_left store task = let ids = ids_of store.copies in at_each (give_up_one task) ids (at_each doom (of_task task ids) (done (task_ended store task)))

  pub task_left_unused : Dooms → changes_grants x ≡ true → (store : Shape) (task : TaskNo) → MakesUnused store (task_left store task)
  task_left_unused dm g store task =
      let ids = ids_of store.copies in
      at_each_unused (give_up_one task) (give_up_one_unused dm task) ids _
      (at_each_unused doom (λ mid id. doom_unused dm mid id none) (of_task task ids) _ (done_unused (one None (ends_task task g))))
