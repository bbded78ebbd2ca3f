-- A step that refuses leaves the store as it was, but for what the refusal tells of and what a wait begins.
use Rattle.std.proofs.Common.{◌≡◌, ℕ, ◌+◌, Bool, true, false, not, cond, ◌==◌, nat_lt, take, ◌&&◌, List, [], ◌∷◌, length, filter, fold, Option, Some, None, Result, Ok, Err, is_some, is_none, refl, sym, ap, subst, ◌∙◌, T}
use Rattle.std.specs.Option.{option_map_or}
use Rattle.std.specs.List.{list_all}
use Rattle.obj_id.specs.declared.ids.ObjectId.{ObjectId}
use Rattle.obj_id.specs.declared.commands.CopyState.{CopyState}
use Rattle.obj_id.specs.declared.commands.CopyState.TheVariants.{Created, Sealed, Restoring, Fetching, Away}
use Rattle.obj_id.specs.declared.commands.Kind.{Kind}
use Rattle.obj_id.specs.declared.commands.Reply.TheVariants as reply
use Rattle.obj_id.specs.declared.refusals.Refusal.{Refusal}
use Rattle.obj_id.specs.declared.refusals.Refusal.TheVariants.{Pending, DeviceFailed, TooMany, Full, Busy, Absent, NotSealed, Stale, BadSize}
use Rattle.private_store.specs.rules.Limits.{has_numbers}
use Rattle.private_store.specs.rules.Tables.{at}
use Rattle.private_store.specs.declared.faults.FetchFault.TheVariants as fetch_fault
use Rattle.private_store.specs.rules.Shape.{Copy, Shape, Change, Fetch, Phase, locating, sized, pulling, failed, Sending}
use Rattle.obj_id.specs.Kinds.{is_primary}
use Rattle.private_store.specs.rules.Marks.{marked, read_mark, with_holds, without_borrower}
use Rattle.private_store.specs.rules.Marks as mark
use Rattle.private_store.specs.rules.Copies.{device_used}
use Rattle.private_store.specs.rules.Room.{Room, fits, wait, full, busy, evict, spill, victims, spilled, spill_plan, bytes_of_copies, works_left, offset_without, set_copy, drop_copy, evicted, asked, no_room, spill_room, evict_room, room_by, make_room}
use Rattle.obj_id.specs.declared.ids.TaskNo.{TaskNo}
use Rattle.obj_id.specs.declared.commands.Command.{Command}
use Rattle.obj_id.specs.declared.commands.Command.TheVariants as command
use Rattle.private_store.specs.rules.Copies.{in_scope}
use Rattle.private_store.specs.rules.Shape.{locate}
use Rattle.private_store.specs.rules.Change.{settled, doom}
use Rattle.private_store.specs.rules.Commands.{refusal_of, fetch_refusal, create, created, write, seal, get, read, release, unpin, borrow, give_up, delete, end_task, grant, grant_own, grant_foreign, withdraw, peek, leave, restore, restoring, get_away, get_fetching, get_copy, get_sealed, begin_pull, begin_fetch, fetch_begun, scoped}
use Rattle.obj_id.specs.declared.works.Quota.{Quota}
use Rattle.private_store.specs.declared.inputs.Source.{Source}
use Rattle.private_store.specs.declared.inputs.WorkVerdict.{WorkVerdict}
use Rattle.private_store.specs.declared.inputs.WorkVerdict.TheVariants as work
use Rattle.private_store.specs.declared.inputs.ChunkVerdict.{ChunkVerdict}
use Rattle.private_store.specs.declared.inputs.ChunkVerdict.TheVariants as chunk
use Rattle.private_store.specs.declared.inputs.Judged.{Judged}
use Rattle.private_store.specs.declared.inputs.Judged.TheVariants as judged
use Rattle.private_store.specs.rules.Limits.{is_quota}
use Rattle.private_store.specs.rules.Shape.{WorkInFlight, not_begun, live, ended, chunks, not_here, remove_source}
use Rattle.private_store.specs.rules.Copies.{visible}
use Rattle.private_store.specs.rules.Events.{begin, end_job_here, answer, written, without_work, located, with_fetch, fetch_of, chunk_taken, chunk_arrived, is_missing, not_here_arrived, fetch_failed, pull_answer, pull_arrived, quiet}
use Rattle.private_store.specs.rules.Step.{owned, commanded, if_live, step}
use Rattle.private_store.specs.rules.Change.{refused, done, checked, needing, sending, in_room, keys_gone, erasing}
use Rattle.store_laws.specs.Refusing.{Wait, Waits, none, then_wait, evicts, asks, restores, pulls, fetches, IsWaiting, IsExcused, unchanged, spill_told, fault_told, fetch_told, waits, RefusesCleanly}
use Rattle.store_facts.proofs.Tests.{both_left, both_right}
use Rattle.store_facts.proofs.StepParts.{may_go, victims_may, leave_unused, task_left_unused}
use Rattle.store_facts.proofs.ErasedKeys.{all_found, keys_none}
use Rattle.store_facts.proofs.VictimsMakeRoom.{victims_make_room}

-- ---- words

pub refused_clean : (store : Shape) (r : Refusal) → RefusesCleanly store (refused store r)
refused_clean store r q e = unchanged q (record { shape = refl; silent = refl; unused = refl }) refl

pub done_clean : (store after : Shape) → RefusesCleanly store (done after)
done_clean store after r e = cc

pub checked_clean : (store : Shape) (checks : List (Bool × Refusal)) (rest : Change) → RefusesCleanly store rest → RefusesCleanly store (checked store checks rest)
unfolding checked
checked_clean store [] rest h = h
checked_clean store (check ∷ checks) rest h =
    elim check.0 as (λ b. RefusesCleanly store (cond b (refused store check.1) (checked store checks rest))) [
      | true ↦ refused_clean store check.1
      | false ↦ checked_clean store checks rest h
    ]

pub needing_clean : {X : Type 0} (store : Shape) (o : Option X) (r : Refusal) (f : X → Change) → ((x : X) → o ≡ Some x → RefusesCleanly store (f x)) → RefusesCleanly store (needing store o r f)
unfolding needing
needing_clean store None r f h = refused_clean store r
needing_clean store (Some x) r f h = h x refl

-- a message before what isn't refused
pub sending_told : (store : Shape) (sent : List Sending) (c : Change) → ((r : Refusal) → c.reply ≡ reply.Refused r → T false) → RefusesCleanly store (sending sent c)
unfolding sending
sending_told store sent c h r e = absurd (h r e)

-- ---- what making room does: to all but the copies and the works nothing

-- all of a store but the copies, the works and their numbers
abbrev beside_copies : Shape → Shape
beside_copies store = record store { copies = []; works = []; works_asked = 0; fetches_begun = 0 }

wait_rest : (found store after : Shape) → Wait found store after → beside_copies after ≡ beside_copies store
wait_rest found store after (evicts id may) =
    elim (at store.copies id) as (λ o. beside_copies (option_map_or (λ copy. cond (is_primary copy.kind) (set_copy store id (record copy { state = Away; offset = None })) (drop_copy store id)) o store) ≡ beside_copies store) [
      | None ↦ refl
      | Some copy ↦ elim (is_primary copy.kind) as (λ b. beside_copies (cond b (set_copy store id (record copy { state = Away; offset = None })) (drop_copy store id)) ≡ beside_copies store) [ true ↦ refl | false ↦ refl ]
    ]
wait_rest found store after _ = refl

waits_rest : (found store after : Shape) → Waits found store after → beside_copies after ≡ beside_copies store
waits_rest found store after none = refl
waits_rest found store after (then_wait {mid} k w) = wait_rest found mid after w ∙ waits_rest found store mid k

waiting : (store : Shape) (c : Change) → Waits store store c.shape → IsWaiting store c
waiting store c w =
    let same : beside_copies c.shape ≡ beside_copies store = waits_rest store store c.shape w in
    record {
      changes = w;
      job = ap (λ s. s.job) same;
      life = ap (λ s. s.life) same;
      quota = ap (λ s. s.quota) same;
      flag = ap (λ s. s.spill_failed) same;
      ended = ap (λ s. s.ended_tasks) same;
      given = ap (λ s. s.given) same;
      received = ap (λ s. s.received) same;
    }

waits_both : {found a b c : Shape} → Waits found a b → Waits found b c → Waits found a c
waits_both h none = h
waits_both h (then_wait k w) = then_wait (waits_both h k) w

evicted_all : (found store : Shape) (ids : List ObjectId) → list_all (may_go found) ids ≡ true → Waits found store (fold evicted store ids)
evicted_all found store [] may = none
evicted_all found store (id ∷ ids) may =
    waits_both (then_wait none (evicts id (both_left (may_go found id) (list_all (may_go found) ids) may)))
    (evicted_all found (evicted store id) ids (both_right (may_go found id) (list_all (may_go found) ids) may))

-- ---- room

asked_all : (found store : Shape) (ids : List ObjectId) → Waits found store (fold (asked true) store ids)
asked_all found store [] = none
asked_all found store (id ∷ ids) = waits_both (then_wait none (asks true id)) (asked_all found (asked true store id) ids)

-- what a room's refusal may have changed, and that a room which has an offset changed nothing but copies
record RoomClean (store : Shape) (room : Room) : Type 0 where
  refuses : (r : Refusal) → room.offset ≡ Err r → IsExcused store (sending room.sent (refused room.shape r)) r
  grants : (offset : ℕ) → room.offset ≡ Ok offset → Waits store store room.shape

-- a room that refuses and is the store as it was
no_room_clean : (store : Shape) (refusal : Refusal) → RoomClean store (no_room store refusal)
unfolding sending
no_room_clean store refusal = record {
  refuses = λ r e. unchanged r (record { shape = refl; silent = refl; unused = refl }) refl;
  grants = λ offset e. cc;
}

spill_room_clean : (store : Shape) (ids : List ObjectId) → RoomClean store (spill_room store ids)
unfolding sending
spill_room_clean store ids =
    elim store.spill_failed as (λ b. RoomClean store (cond b (no_room (record store { spill_failed = false }) DeviceFailed) (cond (has_numbers store.works_asked (length ids)) (no_room (fold (asked true) store ids) Pending) (no_room store TooMany)))) [
      | true ↦ record {
        refuses = λ r e.
            let is : DeviceFailed ≡ r = cc in
            subst (λ q. IsExcused store (refused (record store { spill_failed = false }) q) q) is (spill_told (record { shape = refl; silent = refl; unused = refl }));
        grants = λ offset e. cc;
      }
      | false ↦ elim (has_numbers store.works_asked (length ids)) as (λ b. RoomClean store (cond b (no_room (fold (asked true) store ids) Pending) (no_room store TooMany))) [
        | true ↦ record {
          refuses = λ r e.
              let is : Pending ≡ r = cc in
              subst (λ q. IsExcused store (refused (fold (asked true) store ids) q) q) is (waits (waiting store (refused (fold (asked true) store ids) Pending) (asked_all store store ids)));
          grants = λ offset e. cc;
        }
        | false ↦ no_room_clean store TooMany
      ]
    ]

evict_room_clean : (store : Shape) (n : ℕ) (ids : List ObjectId) → list_all (may_go store) ids ≡ true → is_some (offset_without store n ids) ≡ true → RoomClean store (evict_room store n ids)
evict_room_clean store n ids may h = record {
  refuses = λ r e. absurd (no_error (offset_without store n ids) h r e);
  grants = λ offset e. evicted_all store store ids may;
}
  where
    no_error : (o : Option ℕ) → is_some o ≡ true → (r : Refusal) → option_map_or Ok o (Err Full) ≡ Err r → T false
    no_error None h r e = subst T (sym h) tt
    no_error (Some offset) h r e = cc

spill_plan_clean : (store : Shape) (n : ℕ) (ids : List ObjectId) → RoomClean store (room_by store n (spill_plan store ids))
spill_plan_clean store n ids =
    elim (nat_lt store.quota.device (device_used store + bytes_of_copies store ids)) as (λ b. RoomClean store (room_by store n (cond b full (cond (works_left store == 0) busy (spill (take (works_left store) ids)))))) [
      | true ↦ no_room_clean store Full
      | false ↦ elim (works_left store == 0) as (λ b. RoomClean store (room_by store n (cond b busy (spill (take (works_left store) ids))))) [
        | true ↦ no_room_clean store Busy
        | false ↦ spill_room_clean store (take (works_left store) ids)
      ]
    ]

make_room_clean : (order : List ObjectId) (store : Shape) (n : ℕ) → RoomClean store (make_room order store n)
make_room_clean order store n = by_victims (victims order store n) refl
  where
    by_spilled : (o : Option (List ObjectId)) → RoomClean store (room_by store n (elim o [ Some [] ↦ wait | Some (id ∷ ids) ↦ spill_plan store (id ∷ ids) | None ↦ full ]))
    by_spilled None = no_room_clean store Full
    by_spilled (Some []) = no_room_clean store Pending
    by_spilled (Some (id ∷ ids)) = spill_plan_clean store n (id ∷ ids)

    by_victims : (o : Option (List ObjectId)) → victims order store n ≡ o → RoomClean store (room_by store n (elim o [
      | Some [] ↦ fits
      | Some (id ∷ ids) ↦ evict (id ∷ ids)
      | None ↦ elim (spilled order store n) [ Some [] ↦ wait | Some (id ∷ ids) ↦ spill_plan store (id ∷ ids) | None ↦ full ]
    ]))
    by_victims None e = by_spilled (spilled order store n)
    by_victims (Some []) e = evict_room_clean store n [] refl (victims_make_room order store n [] e)
    by_victims (Some (id ∷ ids)) e = evict_room_clean store n (id ∷ ids) (victims_may order store n (id ∷ ids) e) (victims_make_room order store n (id ∷ ids) e)

-- ---- the commands that make room

-- what is done with an offset is answered, or waits
in_room_clean : (store : Shape) (room : Room) (f : Shape → ℕ → Change) → RoomClean store room
    → ((offset : ℕ) → Waits store store room.shape → RefusesCleanly store (sending room.sent (f room.shape offset)))
    → RefusesCleanly store (in_room room f)
unfolding in_room sending
in_room_clean store room f h k r e = by_offset room.offset refl e
  where
    by_offset : (o : Result ℕ Refusal) → room.offset ≡ o
        → (sending room.sent (elim o [ Ok offset ↦ f room.shape offset | Err refusal ↦ refused room.shape refusal ])).reply ≡ reply.Refused r
        → IsExcused store (sending room.sent (elim o [ Ok offset ↦ f room.shape offset | Err refusal ↦ refused room.shape refusal ])) r
    by_offset (Ok offset) is e = k offset (h.grants offset is) r e
    by_offset (Err refusal) is e =
        let same : refusal ≡ r = cc in
        subst (λ q. IsExcused store (sending room.sent (refused room.shape refusal)) q) same (h.refuses refusal is)

-- a change that waits, after messages
waits_after : (store : Shape) (sent : List Sending) (c : Change) → c.reply ≡ reply.Refused Pending → Waits store store c.shape → RefusesCleanly store (sending sent c)
unfolding sending
waits_after store sent c is h r e =
    let same : Pending ≡ r = cc in
    subst (λ q. IsExcused store (sending sent c) q) same (waits (waiting store (sending sent c) h))

create_clean : (order : List ObjectId) (store : Shape) (id : ObjectId) (kind : Kind) (n : ℕ) → RefusesCleanly store (create order store id kind n)
create_clean order store id kind n =
    checked_clean store _ _ (in_room_clean store (make_room order store n) (created id kind n) (make_room_clean order store n)
    (λ offset made. sending_told store _ _ (λ r e. cc)))

restore_clean : (order : List ObjectId) (store : Shape) (id : ObjectId) (copy : Copy) → at store.copies id ≡ Some copy → copy.state ≡ Away → RefusesCleanly store (restore order store id copy)
restore_clean order store id copy is away =
    checked_clean store _ _ (checked_clean store _ _ (in_room_clean store (make_room order store copy.length) (restoring id copy) (make_room_clean order store copy.length)
    (λ offset made. waits_after store _ _ refl (then_wait (then_wait made (restores id copy offset is away)) (asks false id)))))

get_away_clean : (order : List ObjectId) (store : Shape) (id : ObjectId) (copy : Copy) → at store.copies id ≡ Some copy → copy.state ≡ Away → RefusesCleanly store (get_away order store id copy)
get_away_clean order store id copy is away =
    elim copy.fault as (λ o. copy.fault ≡ o → RefusesCleanly store (elim o [ Some fault ↦ refused (set_copy store id (record copy { fault = None })) (refusal_of fault) | None ↦ restore order store id copy ])) [
      | Some fault ↦ λ f r e.
          let same : refusal_of fault ≡ r = cc in
          subst (λ q. IsExcused store (refused (set_copy store id (record copy { fault = None })) (refusal_of fault)) q) same
          (fault_told id copy fault is f (record { shape = refl; silent = refl; unused = refl }))
      | None ↦ λ f. restore_clean order store id copy is away
    ] refl

pull_waits : (store : Shape) (room : Room) (id : ObjectId) (copy : Copy) (fetch : Fetch) (source offset : ℕ) → at store.copies id ≡ Some copy → copy.fetch ≡ Some fetch → fetch.phase ≡ sized source → Waits store store room.shape
    → RefusesCleanly store (sending room.sent (begin_pull id copy fetch source room.shape offset))
unfolding sending
pull_waits store room id copy fetch source offset is f p made r e =
    let same : Pending ≡ r = cc in
    subst (λ q. IsExcused store (sending room.sent (begin_pull id copy fetch source room.shape offset)) q) same
    (waits (waiting store _ (then_wait made (pulls id copy fetch source offset is f p))))

get_fetching_clean : (order : List ObjectId) (store : Shape) (id : ObjectId) (copy : Copy) (fetch : Fetch) (phase : Phase) → at store.copies id ≡ Some copy → copy.fetch ≡ Some fetch → fetch.phase ≡ phase
    → RefusesCleanly store (get_fetching order store id copy fetch phase)
get_fetching_clean order store id copy fetch locating is f p = waits_after store _ _ refl none
get_fetching_clean order store id copy fetch (sized source) is f p =
    checked_clean store _ _ (in_room_clean store (make_room order store copy.length) (begin_pull id copy fetch source) (make_room_clean order store copy.length)
    (λ offset made. pull_waits store (make_room order store copy.length) id copy fetch source offset is f p made))
get_fetching_clean order store id copy fetch (pulling source missing) is f p = waits_after store _ _ refl none
get_fetching_clean order store id copy fetch (failed fault) is f p = λ r e.
    let same : fetch_refusal fault ≡ r = cc in
    subst (λ q. IsExcused store (refused (drop_copy store id) (fetch_refusal fault)) q) same
    (fetch_told id copy fetch fault is f p (record { shape = refl; silent = refl; unused = refl }))

get_copy_clean : (order : List ObjectId) (store : Shape) (session : ℕ) (id : ObjectId) (copy : Copy) (state : CopyState) → copy.state ≡ state → at store.copies id ≡ Some copy
    → RefusesCleanly store (elim state [
      | Created ↦ refused store NotSealed
      | Sealed ↦ get_sealed store session id copy
      | Restoring ↦ refused store Pending
      | Fetching ↦ needing store copy.fetch Absent (λ fetch. get_fetching order store id copy fetch fetch.phase)
      | Away ↦ get_away order store id copy
    ])
get_copy_clean order store session id copy Created state is = refused_clean store NotSealed
get_copy_clean order store session id copy Sealed state is = checked_clean store _ _ (λ r e. cc)
get_copy_clean order store session id copy Restoring state is = refused_clean store Pending
get_copy_clean order store session id copy Fetching state is =
    needing_clean store copy.fetch Absent _ (λ fetch f. get_fetching_clean order store id copy fetch fetch.phase is f refl)
get_copy_clean order store session id copy Away state is = get_away_clean order store id copy is state

fetch_waits : (store : Shape) (id : ObjectId) → at store.copies id ≡ None → RefusesCleanly store (record (sending (locate id (store.fetches_begun + 1) ∷ []) (refused (fetch_begun store id (store.fetches_begun + 1)) Pending)) { used = Some id })
unfolding sending
fetch_waits store id is r e =
    let same : Pending ≡ r = cc in
    subst (λ q. IsExcused store (record (sending (locate id (store.fetches_begun + 1) ∷ []) (refused (fetch_begun store id (store.fetches_begun + 1)) Pending)) { used = Some id }) q) same
    (waits (waiting store _ (then_wait none (fetches id is))))

get_clean : (order : List ObjectId) (store : Shape) (session : ℕ) (id : ObjectId) → RefusesCleanly store (get order store session id)
get_clean order store session id =
    checked_clean store _ _ (elim (at store.copies id) as (λ o. at store.copies id ≡ o → RefusesCleanly store (elim o [ None ↦ begin_fetch store id | Some copy ↦ checked store ((copy.doomed, Absent) ∷ []) (get_copy order store session id copy) ])) [
      | None ↦ λ is. checked_clean store _ _ (fetch_waits store id is)
      | Some copy ↦ λ is. checked_clean store _ _ (get_copy_clean order store session id copy copy.state refl is)
    ] refl)

-- ---- the other commands

abbrev ToldOk : Change → Type 0
ToldOk c = c.reply ≡ reply.Ok

ok_clean : (store : Shape) (c : Change) → c.reply ≡ reply.Ok → RefusesCleanly store c
ok_clean store c is r e = cc

doom_told : (store : Shape) (id : ObjectId) → (doom store id).reply ≡ reply.Ok
unfolding sending
doom_told store id = refl

scoped_told : (store : Shape) (id : ObjectId) (copy : Copy) → (scoped store id copy).reply ≡ reply.Ok
scoped_told store id copy =
    elim (in_scope copy) as (λ b. (cond b (done (set_copy store id copy)) (doom (set_copy store id copy) id)).reply ≡ reply.Ok) [
      | true ↦ refl
      | false ↦ doom_told (set_copy store id copy) id
    ]

end_task_clean : (store : Shape) (task : TaskNo) → RefusesCleanly store (end_task store task)
end_task_clean store task = checked_clean store _ _ (ok_clean store _ (task_left_unused (judged.Call 0 (command.EndTask task)) (λ q. (refl, refl)) refl store task).told)

module _ (store : Shape) where
  write_clean : (id : ObjectId) (offset n : ℕ) → RefusesCleanly store (write store id offset n)
  write_clean id offset n = checked_clean store _ _ (needing_clean store _ _ _ (λ copy is. checked_clean store _ _ (done_clean store store)))

  seal_clean : (id : ObjectId) → RefusesCleanly store (seal store id)
  seal_clean id = needing_clean store _ _ _ (λ copy is. checked_clean store _ _ (sending_told store _ _ (λ r e. cc)))

  read_clean : (session : ℕ) (id : ObjectId) (offset n : ℕ) → RefusesCleanly store (read store session id offset n)
  read_clean session id offset n = checked_clean store _ _ (needing_clean store _ _ _ (λ copy is. checked_clean store _ _ (λ r e. cc)))

  release_clean : (session : ℕ) (id : ObjectId) → RefusesCleanly store (release store session id)
  release_clean session id = needing_clean store _ _ _ (λ copy is. checked_clean store _ _ (done_clean store _))

  unpin_clean : (id : ObjectId) (task : TaskNo) → RefusesCleanly store (unpin store id task)
  unpin_clean id task = needing_clean store _ _ _ (λ copy is.
      let loose : Copy = record copy { pinned = false } in
      checked_clean store _ (scoped store id loose) (ok_clean store (scoped store id loose) (scoped_told store id loose)))

  borrow_clean : (id : ObjectId) (task : TaskNo) → RefusesCleanly store (borrow store id task)
  borrow_clean id task = checked_clean store _ _ (needing_clean store _ _ _ (λ copy is. checked_clean store _ _ (done_clean store _)))

  give_up_clean : (id : ObjectId) (task : TaskNo) → RefusesCleanly store (give_up store id task)
  give_up_clean id task = needing_clean store _ _ _ (λ copy is. checked_clean store _ _ (ok_clean store _ (scoped_told store id _)))

  delete_clean : (id : ObjectId) → RefusesCleanly store (delete store id)
  delete_clean id = needing_clean store _ _ _ (λ copy is. checked_clean store _ _ (ok_clean store _ (doom_told store id)))

  grant_clean : (id : ObjectId) (target : ℕ) → RefusesCleanly store (grant store id target)
  grant_clean id target =
      elim (id.job.0 == store.job) as (λ b. RefusesCleanly store (cond b (grant_own store id target) (grant_foreign store id target))) [
        | true ↦ checked_clean store _ _ (needing_clean store _ _ _ (λ copy is. checked_clean store _ _ (done_clean store _)))
        | false ↦ checked_clean store _ _ (needing_clean store _ _ _ (λ a_grant is. checked_clean store _ _ (done_clean store _)))
      ]

  withdraw_clean : (id : ObjectId) (target : ℕ) → RefusesCleanly store (withdraw store id target)
  withdraw_clean id target = checked_clean store _ _ (done_clean store _)

  peek_clean : (id : ObjectId) (offset n : ℕ) → RefusesCleanly store (peek store id offset n)
  peek_clean id offset n = checked_clean store _ _ (needing_clean store _ _ _ (λ seen is. checked_clean store _ _ (λ r e. cc)))

  leave_clean : (session : ℕ) → RefusesCleanly store (leave store session)
  leave_clean session = ok_clean store _ (leave_unused (judged.Call session command.Leave) store session).told

  owned_clean : (id : ObjectId) (c : Change) → RefusesCleanly store c → RefusesCleanly store (owned store id c)
  owned_clean id c h = checked_clean store _ _ h

  commanded_clean : (order : List ObjectId) (session : ℕ) (c : Command ℕ) → RefusesCleanly store (commanded order store session c)
  commanded_clean order session (command.Create id kind n) = owned_clean id _ (create_clean order store id kind n)
  commanded_clean order session (command.Write id offset n) = owned_clean id _ (write_clean id offset n)
  commanded_clean order session (command.Seal id) = owned_clean id _ (seal_clean id)
  commanded_clean order session (command.Get id) = owned_clean id _ (get_clean order store session id)
  commanded_clean order session (command.Read id offset n) = owned_clean id _ (read_clean session id offset n)
  commanded_clean order session (command.Release id) = owned_clean id _ (release_clean session id)
  commanded_clean order session (command.Unpin id task) = owned_clean id _ (unpin_clean id task)
  commanded_clean order session (command.Borrow id task) = owned_clean id _ (borrow_clean id task)
  commanded_clean order session (command.GiveUp id task) = owned_clean id _ (give_up_clean id task)
  commanded_clean order session (command.Delete id) = owned_clean id _ (delete_clean id)
  commanded_clean order session (command.EndTask task) = end_task_clean store task
  commanded_clean order session (command.Grant id target) = grant_clean id target.0
  commanded_clean order session (command.Withdraw id target) = withdraw_clean id target.0
  commanded_clean order session (command.Peek id offset n) = peek_clean id offset n
  commanded_clean order session command.List = λ r e. cc
  commanded_clean order session command.Usage = λ r e. cc
  commanded_clean order session command.Leave = leave_clean session

-- ---- erased keys

-- the keys that a command's change erases are none where it changes nothing
erasing_clean : (store : Shape) (c : Change) → RefusesCleanly store c → RefusesCleanly store (erasing store c)
erasing_clean store c h r e = by_excuse r (h r e)
  where
    by_excuse : (r : Refusal) → IsExcused store c r → IsExcused store (erasing store c) r
    by_excuse q (unchanged r left erases) =
        unchanged r (record { shape = left.shape; silent = left.silent; unused = left.unused })
        (ap (λ s. keys_gone store.copies s.copies) left.shape ∙ keys_none store.copies store.copies (all_found store.copies))
    by_excuse q (spill_told left) = spill_told (record { shape = left.shape; silent = left.silent; unused = left.unused })
    by_excuse q (fault_told id copy r is f left) = fault_told id copy r is f (record { shape = left.shape; silent = left.silent; unused = left.unused })
    by_excuse q (fetch_told id copy fetch r is f p left) = fetch_told id copy fetch r is f p (record { shape = left.shape; silent = left.silent; unused = left.unused })
    by_excuse q (waits w) = waits (record { changes = w.changes; job = w.job; life = w.life; quota = w.quota; flag = w.flag; ended = w.ended; given = w.given; received = w.received })

-- ---- all inputs

if_live_clean : (store : Shape) (c : Change) → RefusesCleanly store c → RefusesCleanly store (if_live store c)
if_live_clean store c h = checked_clean store _ _ h

-- what is done with a fetch is answered Ok
with_fetch_told : (store : Shape) (id : ObjectId) (number : ℕ) (f : Copy → Fetch → Change) → ((copy : Copy) (fetch : Fetch) → (f copy fetch).reply ≡ reply.Ok) → (with_fetch store id number f).reply ≡ reply.Ok
with_fetch_told store id number f each =
    elim (fetch_of store id number) as (λ o. (option_map_or (λ p. f p.0 p.1) o (done store)).reply ≡ reply.Ok) [ None ↦ refl | Some p ↦ each p.0 p.1 ]

module _ (store : Shape) where
  located_told : (id : ObjectId) (number : ℕ) (source : Option Source) → (located store id number source).reply ≡ reply.Ok
  located_told id number source = with_fetch_told store id number _ (λ copy fetch. by_phase copy fetch fetch.phase)
    where
      by_phase : (copy : Copy) (fetch : Fetch) (phase : Phase) → ToldOk (elim phase [ locating ↦ done (set_copy store id (marked (mark.located fetch source) copy)) | _ ↦ done store ])
      by_phase copy fetch locating = refl
      by_phase copy fetch (sized _) = refl
      by_phase copy fetch (pulling _ _) = refl
      by_phase copy fetch (failed _) = refl

  chunk_taken_told : (id : ObjectId) (copy : Copy) (fetch : Fetch) (source : ℕ) (missing : List ℕ) (verdict : ChunkVerdict) → (chunk_taken store id copy fetch source missing verdict).reply ≡ reply.Ok
  unfolding sending
  chunk_taken_told id copy fetch source missing chunk.Ignored = refl
  chunk_taken_told id copy fetch source (i ∷ missing) chunk.Part = refl
  chunk_taken_told id copy fetch source (i ∷ missing) chunk.Whole = refl
  chunk_taken_told id copy fetch source (i ∷ missing) chunk.Damaged = refl
  chunk_taken_told id copy fetch source [] chunk.Part = refl
  chunk_taken_told id copy fetch source [] chunk.Whole = refl
  chunk_taken_told id copy fetch source [] chunk.Damaged = refl

  chunk_told : (id : ObjectId) (number index from : ℕ) (verdict : ChunkVerdict) → (chunk_arrived store id number index from verdict).reply ≡ reply.Ok
  chunk_told id number index from verdict = with_fetch_told store id number _ (λ copy fetch. by_phase copy fetch fetch.phase)
    where
      by_phase : (copy : Copy) (fetch : Fetch) (phase : Phase) → ToldOk (elim phase [
        | pulling source missing ↦ cond (from == source && is_missing missing index) (chunk_taken store id copy fetch source (filter (λ i. not (i == index)) missing) verdict) (done store)
        | _ ↦ done store
      ])
      by_phase copy fetch locating = refl
      by_phase copy fetch (sized _) = refl
      by_phase copy fetch (failed _) = refl
      by_phase copy fetch (pulling source missing) =
          elim (from == source && is_missing missing index) as (λ b. (cond b (chunk_taken store id copy fetch source (filter (λ i. not (i == index)) missing) verdict) (done store)).reply ≡ reply.Ok) [
            | true ↦ chunk_taken_told id copy fetch source (filter (λ i. not (i == index)) missing) verdict
            | false ↦ refl
          ]

  not_here_told : (id : ObjectId) (number from : ℕ) → (not_here_arrived store id number from).reply ≡ reply.Ok
  unfolding sending
  not_here_told id number from = with_fetch_told store id number _ (λ copy fetch. by_phase copy fetch fetch.phase)
    where
      by_phase : (copy : Copy) (fetch : Fetch) (phase : Phase) → ToldOk (elim phase [
        | pulling source missing ↦ cond (from == source) (sending (remove_source id source ∷ []) (done (fetch_failed store id copy fetch fetch_fault.Absent))) (done store)
        | _ ↦ done store
      ])
      by_phase copy fetch locating = refl
      by_phase copy fetch (sized _) = refl
      by_phase copy fetch (failed _) = refl
      by_phase copy fetch (pulling source missing) =
          elim (from == source) as (λ b. (cond b (sending (remove_source id source ∷ []) (done (fetch_failed store id copy fetch fetch_fault.Absent))) (done store)).reply ≡ reply.Ok) [ true ↦ refl | false ↦ refl ]

  pull_answer_told : (order : List ObjectId) (id : ObjectId) (copy : Copy) (state : CopyState) → ToldOk (elim state [
    | Sealed ↦ sending (chunks id ∷ []) (done store)
    | Restoring ↦ done store
    | Away ↦ cond (is_none copy.fault) (quiet store (restore order store id copy)) (sending (not_here id ∷ []) (done store))
    | _ ↦ sending (not_here id ∷ []) (done store)
  ])
  unfolding sending
  pull_answer_told order id copy Created = refl
  pull_answer_told order id copy Fetching = refl
  pull_answer_told order id copy Sealed = refl
  pull_answer_told order id copy Restoring = refl
  pull_answer_told order id copy Away =
      elim (is_none copy.fault) as (λ b. (cond b (quiet store (restore order store id copy)) (sending (not_here id ∷ []) (done store))).reply ≡ reply.Ok) [ true ↦ refl | false ↦ refl ]

  pull_told : (order : List ObjectId) (id : ObjectId) (matches : Bool) → (pull_arrived order store id matches).reply ≡ reply.Ok
  unfolding sending
  pull_told order id matches =
      elim (visible store id) as (λ o. (option_map_or (λ copy. cond matches (pull_answer order store id copy) (sending (not_here id ∷ []) (done store))) o (sending (not_here id ∷ []) (done store))).reply ≡ reply.Ok) [
        | None ↦ refl
        | Some copy ↦ elim matches as (λ b. (cond b (pull_answer order store id copy) (sending (not_here id ∷ []) (done store))).reply ≡ reply.Ok) [
          | true ↦ pull_answer_told order id copy copy.state
          | false ↦ refl
        ]
      ]

  written_told : (rest : Shape) (w : WorkInFlight) (copy : Copy) (verdict : WorkVerdict) → (written rest w copy verdict).reply ≡ reply.Ok
  written_told rest w copy work.Failed = refl
  written_told rest w copy work.Fine = refl
  written_told rest w copy work.Damaged = refl

  answer_clean : (number : ℕ) (verdict : WorkVerdict) → RefusesCleanly store (answer store number verdict)
  answer_clean number verdict =
      needing_clean store _ _ _ (λ w _. needing_clean store _ _ _ (λ copy _.
      let rest = without_work store number in
      elim w.writes as (λ b. RefusesCleanly store (cond b (written rest w copy verdict) (erasing rest (done (settled (set_copy rest w.id (marked (read_mark verdict) copy)) w.id))))) [
        | true ↦ ok_clean store _ (written_told rest w copy verdict)
        | false ↦ λ r e. cc
      ]))

  begin_clean : (quota : Quota) → RefusesCleanly store (begin store quota)
  begin_clean quota =
      elim store.life as (λ l. RefusesCleanly store (elim l [ not_begun ↦ checked store ((not (is_quota quota), BadSize) ∷ []) (done (record store { life = live; quota = quota })) | _ ↦ refused store Stale ])) [
        | not_begun ↦ checked_clean store _ _ (done_clean store _)
        | live ↦ refused_clean store Stale
        | ended ↦ refused_clean store Stale
      ]

  end_told : ToldOk (erasing store (end_job_here store))
  unfolding sending
  end_told = refl

  -- each step of a job's store refuses cleanly
  pub step_clean : (order : List ObjectId) (x : Judged) → RefusesCleanly store (step order store x)
  step_clean order (judged.Begin quota) = begin_clean quota
  step_clean order (judged.Requota quota) = if_live_clean store _ (checked_clean store _ _ (done_clean store _))
  step_clean order (judged.Call session c) = checked_clean store _ _ (erasing_clean store _ (commanded_clean store order session c))
  step_clean order (judged.Answer number verdict) = answer_clean number verdict
  step_clean order (judged.Located id number source) = if_live_clean store _ (ok_clean store _ (located_told id number source))
  step_clean order (judged.Chunk id number index from verdict) = if_live_clean store _ (ok_clean store _ (chunk_told id number index from verdict))
  step_clean order (judged.Pull id number matches) = if_live_clean store _ (ok_clean store _ (pull_told order id matches))
  step_clean order (judged.NotHere id number from) = if_live_clean store _ (ok_clean store _ (not_here_told id number from))
  step_clean order (judged.Received id n grantor depth) = done_clean store _
  step_clean order (judged.Withdrawn id grantor depth) = done_clean store _
  step_clean order judged.End = if_live_clean store _ (ok_clean store _ end_told)
