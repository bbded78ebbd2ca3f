-- An input does to a store's own part what it does to the store, if it is no command of grants of others' objects.
use Rattle.std.proofs.Common.{◌≡◌, ℕ, Bool, true, false, not, cond, ◌==◌, ◌-◌, ◌&&◌, List, [], ◌∷◌, filter, Option, Some, None, is_none, is_ok, refl, sym, ap, ◌∙◌}
use Rattle.std.specs.Option.{option_map_or}
use Rattle.std.specs.List.{list_all}
use Rattle.obj_id.specs.declared.ids.ObjectId.{ObjectId}
use Rattle.obj_id.specs.declared.ids.TaskNo.{TaskNo}
use Rattle.obj_id.specs.declared.commands.CopyState.{CopyState}
use Rattle.obj_id.specs.declared.commands.CopyState.TheVariants.{Created, Sealed, Restoring, Fetching, Away}
use Rattle.obj_id.specs.declared.commands.Command.{Command}
use Rattle.obj_id.specs.declared.commands.Command.TheVariants as command
use Rattle.obj_id.specs.declared.refusals.Refusal.TheVariants.{Pending, TooMany, Absent, NotSealed, Granted, NotGranted, Stale, BadSize}
use Rattle.obj_id.specs.declared.works.Quota.{Quota}
use Rattle.obj_id.specs.Ids.{same_id, same_task}
use Rattle.private_store.specs.declared.faults.FetchFault.TheVariants as fetch_fault
use Rattle.private_store.specs.declared.inputs.Source.{Source}
use Rattle.private_store.specs.declared.inputs.Judged.{Judged}
use Rattle.private_store.specs.declared.inputs.Judged.TheVariants as judged
use Rattle.private_store.specs.declared.inputs.ChunkVerdict.{ChunkVerdict}
use Rattle.private_store.specs.declared.inputs.ChunkVerdict.TheVariants as chunk
use Rattle.private_store.specs.declared.inputs.WorkVerdict.{WorkVerdict}
use Rattle.private_store.specs.declared.inputs.WorkVerdict.TheVariants as work
use Rattle.private_store.specs.rules.Limits.{is_quota}
use Rattle.private_store.specs.rules.Tables.{ById, at, ids_of}
use Rattle.private_store.specs.rules.Shape.{Copy, Shape, Change, Fetch, Phase, locating, sized, pulling, failed, GrantGiven, WorkInFlight, not_begun, live, ended, chunks, not_here, remove_source}
use Rattle.private_store.specs.rules.Marks.{marked, read_mark, with_holds, without_borrower}
use Rattle.private_store.specs.rules.Marks as mark
use Rattle.private_store.specs.rules.Copies.{visible, in_scope}
use Rattle.private_store.specs.rules.Room.{set_copy}
use Rattle.private_store.specs.rules.Change.{refused, done, checked, needing, sending, in_room, erasing, settled, doom}
use Rattle.private_store.specs.rules.Commands.{create, created, write, seal, get, get_copy, get_sealed, get_away, get_fetching, begin_fetch, begin_pull, restore, restoring, refusal_of, read, release, unpin, borrow, give_up, delete, end_task, withdraw, leave, scoped, has_borrower, holds_of, at_each, then_change, give_up_one, leave_one, of_task, task_ended}
use Rattle.private_store.specs.rules.Events.{begin, end_job_here, answer, written, without_work, with_fetch, fetch_of, located, chunk_arrived, chunk_taken, fetch_failed, is_missing, not_here_arrived, quiet, pull_answer, pull_arrived}
use Rattle.private_store.specs.rules.Step.{owned, commanded, step}
use Rattle.store_facts.proofs.Tests.{true_false, both, both_left, both_right}
use Rattle.store_facts.proofs.Ids.{same_id-itself}
use Rattle.obj_id.specs.declared.commands.Kind.{Kind}
use Rattle.private_store.specs.rules.Limits.{has_numbers}
use Rattle.grants.proofs.ForCallers.{filter_filter}
use Rattle.run_laws.proofs.GrantsStay.{same_grants, doom_still, give_up_one_still, leave_one_still, at_each_still}
use Rattle.run_laws.proofs.OwnParts.{make_room_own, own_grants, own_part, own_change, IsOwn, HasOwn, any_own, granted_own, settled_own, in_room_own, checked_own, needing_own, sending_own, doom_own}

-- ---- one object after another

scoped_own : (store : Shape) (id : ObjectId) (d : Copy) → IsOwn store id → scoped (own_part store) id d ≡ own_change (scoped store id d)
scoped_own store id d own =
    elim (in_scope d) as (λ b. cond b (done (set_copy (own_part store) id d)) (doom (set_copy (own_part store) id d) id) ≡ own_change (cond b (done (set_copy store id d)) (doom (set_copy store id d) id))) [
      | true ↦ refl
      | false ↦ doom_own (set_copy store id d) id own
    ]

give_up_one_own : (task : TaskNo) (store : Shape) (id : ObjectId) → IsOwn store id → give_up_one task (own_part store) id ≡ own_change (give_up_one task store id)
give_up_one_own task store id own =
    elim (at store.copies id) as (λ o. option_map_or (λ copy. cond copy.doomed (done (set_copy (own_part store) id (without_borrower copy task))) (cond (has_borrower copy task) (scoped (own_part store) id (without_borrower copy task)) (done (own_part store)))) o (done (own_part store))
    ≡ own_change (option_map_or (λ copy. cond copy.doomed (done (set_copy store id (without_borrower copy task))) (cond (has_borrower copy task) (scoped store id (without_borrower copy task)) (done store))) o (done store))) [
      | None ↦ refl
      | Some copy ↦ elim copy.doomed as (λ b. cond b (done (set_copy (own_part store) id (without_borrower copy task))) (cond (has_borrower copy task) (scoped (own_part store) id (without_borrower copy task)) (done (own_part store)))
          ≡ own_change (cond b (done (set_copy store id (without_borrower copy task))) (cond (has_borrower copy task) (scoped store id (without_borrower copy task)) (done store)))) [
            | true ↦ refl
            | false ↦ elim (has_borrower copy task) as (λ b. cond b (scoped (own_part store) id (without_borrower copy task)) (done (own_part store)) ≡ own_change (cond b (scoped store id (without_borrower copy task)) (done store))) [
              | true ↦ scoped_own store id (without_borrower copy task) own
              | false ↦ refl
            ]
          ]
    ]

leave_one_own : (session : ℕ) (store : Shape) (id : ObjectId) → IsOwn store id → leave_one session (own_part store) id ≡ own_change (leave_one session store id)
leave_one_own session store id own =
    elim (at store.copies id) as (λ o. option_map_or (λ copy. done (settled (set_copy (own_part store) id (with_holds copy session 0)) id)) o (done (own_part store))
    ≡ own_change (option_map_or (λ copy. done (settled (set_copy store id (with_holds copy session 0)) id)) o (done store))) [
      | None ↦ refl
      | Some copy ↦ ap done (settled_own (set_copy store id (with_holds copy session 0)) id own)
    ]

then_own : (c : Change) (f : Shape → Change) → f (own_part c.shape) ≡ own_change (f c.shape) → then_change (own_change c) f ≡ own_change (then_change c f)
then_own c f e = sending_own c.sent (f c.shape) (f (own_part c.shape)) e

then_job : (c : Change) (f : Shape → Change) → (f c.shape).shape.job ≡ c.shape.job → (then_change c f).shape.job ≡ c.shape.job
unfolding sending
then_job c f e = e

at_each_own : (f : Shape → ObjectId → Change) → ((store : Shape) (id : ObjectId) → (f store id).shape.job ≡ store.job) → ((store : Shape) (id : ObjectId) → IsOwn store id → f (own_part store) id ≡ own_change (f store id))
    → (job : ℕ) (ids : List ObjectId) → list_all (λ id. id.job.0 == job) ids ≡ true → (c : Change) → c.shape.job ≡ job → at_each f ids (own_change c) ≡ own_change (at_each f ids c)
at_each_own f keeps each job [] all c is = refl
at_each_own f keeps each job (id ∷ ids) all c is =
    let g : Shape → Change = λ store. f store id in
    ap (at_each f ids) (then_own c g (each c.shape id (ap (λ j. id.job.0 == j) is ∙ both_left (id.job.0 == job) (list_all (λ id. id.job.0 == job) ids) all)))
    ∙ at_each_own f keeps each job ids (both_right (id.job.0 == job) (list_all (λ id. id.job.0 == job) ids) all) (then_change c g) (then_job c g (keeps c.shape id) ∙ is)

ids_own : (job : ℕ) (copies : ById Copy) → ((id : ObjectId) (copy : Copy) → at copies id ≡ Some copy → (id.job.0 == job) ≡ true) → list_all (λ id. id.job.0 == job) (ids_of copies) ≡ true
ids_own job [] has = refl
ids_own job (e ∷ copies) has =
    both (e.0.job.0 == job) (list_all (λ id. id.job.0 == job) (ids_of copies)) (has e.0 e.1 (ap (λ b. cond b (Some e.1) (at copies e.0)) (same_id-itself e.0)))
    (ids_own job copies (λ id copy is. elim (same_id id e.0) as (λ b. same_id id e.0 ≡ b → (id.job.0 == job) ≡ true) [
      | true ↦ λ t. has id e.1 (ap (λ b. cond b (Some e.1) (at copies id)) t)
      | false ↦ λ t. has id copy (ap (λ b. cond b (Some e.1) (at copies id)) t ∙ is)
    ] refl))

fewer_own : (job : ℕ) (test : ObjectId → Bool) (ids : List ObjectId) → list_all (λ id. id.job.0 == job) ids ≡ true → list_all (λ id. id.job.0 == job) (filter test ids) ≡ true
fewer_own job test [] all = refl
fewer_own job test (id ∷ ids) all =
    let rest = fewer_own job test ids (both_right (id.job.0 == job) (list_all (λ id. id.job.0 == job) ids) all) in
    elim (test id) as (λ b. list_all (λ id. id.job.0 == job) (cond b (id ∷ filter test ids) (filter test ids)) ≡ true) [
      | true ↦ both (id.job.0 == job) (list_all (λ id. id.job.0 == job) (filter test ids)) (both_left (id.job.0 == job) (list_all (λ id. id.job.0 == job) ids) all) rest
      | false ↦ rest
    ]

-- two tests of grants, one after another, in either order
filter_swap : (p q : GrantGiven → Bool) (grants : List GrantGiven) → filter p (filter q grants) ≡ filter q (filter p grants)
filter_swap p q grants = filter_filter p q grants ∙ (λ i. filter (λ grant. and_back (q grant) (p grant) i) grants) ∙ sym (filter_filter q p grants)
  where
    and_back : (a b : Bool) → (a && b) ≡ (b && a)
    and_back true true = refl
    and_back true false = refl
    and_back false true = refl
    and_back false false = refl

task_ended_own : (store : Shape) (task : TaskNo) → task_ended (own_part store) task ≡ own_part (task_ended store task)
task_ended_own store task =
    λ i. record (own_part (task_ended store task)) { given = filter_swap (λ grant. not (grant.id.job.0 == store.job && same_task task grant.id.task)) (λ grant. grant.id.job.0 == store.job) store.given i }

erasing_own : (store : Shape) (c d : Change) → d ≡ own_change c → erasing (own_part store) d ≡ own_change (erasing store c)
erasing_own store c d e = ap (erasing (own_part store)) e

owned_own : (store : Shape) (id : ObjectId) (c d : Change) → (IsOwn store id → d ≡ own_change c) → owned (own_part store) id d ≡ own_change (owned store id c)
unfolding checked
owned_own store id c d e =
    elim (id.job.0 == store.job) as (λ b. (id.job.0 == store.job) ≡ b → cond (not b) (refused (own_part store) NotGranted) d ≡ own_change (cond (not b) (refused store NotGranted) c)) [
      | true ↦ λ own. e own
      | false ↦ λ _. refl
    ] refl

module _ (store : Shape) (has : HasOwn store) where
  abbrev all_ids : list_all (λ id. id.job.0 == store.job) (ids_of store.copies) ≡ true
  all_ids = ids_own store.job store.copies has

  -- ---- commands

  create_own : (order : List ObjectId) (id : ObjectId) (kind : Kind) (n : ℕ) → create order (own_part store) id kind n ≡ own_change (create order store id kind n)
  create_own order id kind n = checked_own store _ _ _ (in_room_own store has order n (created id kind n) (λ mid offset. refl))

  write_own : (id : ObjectId) (offset n : ℕ) → write (own_part store) id offset n ≡ own_change (write store id offset n)
  write_own id offset n = checked_own store _ _ _ (needing_own store _ _ _ _ (λ copy _. checked_own store _ _ _ refl))

  seal_own : (id : ObjectId) → seal (own_part store) id ≡ own_change (seal store id)
  seal_own id = needing_own store _ _ _ _ (λ copy _. checked_own store _ _ _ (sending_own _ _ _ refl))

  restore_own : (order : List ObjectId) (id : ObjectId) (copy : Copy) → restore order (own_part store) id copy ≡ own_change (restore order store id copy)
  restore_own order id copy = checked_own store _ _ _
      (ap (λ r. checked (own_part store) ((is_ok r.offset && not (has_numbers store.works_asked 1), TooMany) ∷ []) (in_room r (restoring id copy))) (make_room_own store has order copy.length)
      ∙ checked_own store _ _ _ (sym (ap (λ r. in_room r (restoring id copy)) (make_room_own store has order copy.length)) ∙ in_room_own store has order copy.length (restoring id copy) (λ mid offset. refl)))

  get_away_own : (order : List ObjectId) (id : ObjectId) (copy : Copy) → get_away order (own_part store) id copy ≡ own_change (get_away order store id copy)
  get_away_own order id copy =
      elim copy.fault as (λ o. elim o [ Some fault ↦ refused (set_copy (own_part store) id (record copy { fault = None })) (refusal_of fault) | None ↦ restore order (own_part store) id copy ]
      ≡ own_change (elim o [ Some fault ↦ refused (set_copy store id (record copy { fault = None })) (refusal_of fault) | None ↦ restore order store id copy ])) [
        | Some fault ↦ refl
        | None ↦ restore_own order id copy
      ]

  get_fetching_own : (order : List ObjectId) (id : ObjectId) (copy : Copy) (fetch : Fetch) (phase : Phase) → get_fetching order (own_part store) id copy fetch phase ≡ own_change (get_fetching order store id copy fetch phase)
  unfolding sending
  get_fetching_own order id copy fetch locating = refl
  get_fetching_own order id copy fetch (sized source) = checked_own store _ _ _ (in_room_own store has order copy.length (begin_pull id copy fetch source) (λ mid offset. refl))
  get_fetching_own order id copy fetch (pulling source missing) = refl
  get_fetching_own order id copy fetch (failed fault) = refl

  get_copy_own : (order : List ObjectId) (session : ℕ) (id : ObjectId) (copy : Copy) (state : CopyState) → elim state [
    | Created ↦ refused (own_part store) NotSealed
    | Sealed ↦ get_sealed (own_part store) session id copy
    | Restoring ↦ refused (own_part store) Pending
    | Fetching ↦ needing (own_part store) copy.fetch Absent (λ fetch. get_fetching order (own_part store) id copy fetch fetch.phase)
    | Away ↦ get_away order (own_part store) id copy
  ] ≡ own_change (elim state [
    | Created ↦ refused store NotSealed
    | Sealed ↦ get_sealed store session id copy
    | Restoring ↦ refused store Pending
    | Fetching ↦ needing store copy.fetch Absent (λ fetch. get_fetching order store id copy fetch fetch.phase)
    | Away ↦ get_away order store id copy
  ])
  get_copy_own order session id copy Created = refl
  get_copy_own order session id copy Sealed = checked_own store _ _ _ refl
  get_copy_own order session id copy Restoring = refl
  get_copy_own order session id copy Fetching = needing_own store _ _ _ _ (λ fetch _. get_fetching_own order id copy fetch fetch.phase)
  get_copy_own order session id copy Away = get_away_own order id copy

  begin_fetch_own : (id : ObjectId) → begin_fetch (own_part store) id ≡ own_change (begin_fetch store id)
  unfolding sending
  begin_fetch_own id = checked_own store _ _ _ refl

  get_own : (order : List ObjectId) (session : ℕ) (id : ObjectId) → get order (own_part store) session id ≡ own_change (get order store session id)
  get_own order session id = checked_own store _ _ _
      (elim (at store.copies id) as (λ o. elim o [ None ↦ begin_fetch (own_part store) id | Some copy ↦ checked (own_part store) ((copy.doomed, Absent) ∷ []) (get_copy order (own_part store) session id copy) ]
      ≡ own_change (elim o [ None ↦ begin_fetch store id | Some copy ↦ checked store ((copy.doomed, Absent) ∷ []) (get_copy order store session id copy) ])) [
        | None ↦ begin_fetch_own id
        | Some copy ↦ checked_own store _ _ _ (get_copy_own order session id copy copy.state)
      ])

  read_own : (session : ℕ) (id : ObjectId) (offset n : ℕ) → read (own_part store) session id offset n ≡ own_change (read store session id offset n)
  read_own session id offset n = checked_own store _ _ _ (needing_own store _ _ _ _ (λ copy _. checked_own store _ _ _ refl))

  release_own : (session : ℕ) (id : ObjectId) → IsOwn store id → release (own_part store) session id ≡ own_change (release store session id)
  release_own session id own = needing_own store _ _ _ _ (λ copy _. checked_own store _ _ _ (ap done (settled_own (set_copy store id (with_holds copy session (holds_of copy session - 1))) id own)))

  unpin_own : (id : ObjectId) (task : TaskNo) → IsOwn store id → unpin (own_part store) id task ≡ own_change (unpin store id task)
  unpin_own id task own = needing_own store _ _ _ _ (λ copy _. checked_own store _ _ _ (scoped_own store id (record copy { pinned = false }) own))

  borrow_own : (id : ObjectId) (task : TaskNo) → borrow (own_part store) id task ≡ own_change (borrow store id task)
  borrow_own id task = checked_own store _ _ _ (needing_own store _ _ _ _ (λ copy _. checked_own store _ _ _ refl))

  give_up_own : (id : ObjectId) (task : TaskNo) → IsOwn store id → give_up (own_part store) id task ≡ own_change (give_up store id task)
  give_up_own id task own = needing_own store _ _ _ _ (λ copy _. checked_own store _ _ _ (scoped_own store id (without_borrower copy task) own))

  delete_own : (id : ObjectId) → IsOwn store id → delete (own_part store) id ≡ own_change (delete store id)
  delete_own id own = needing_own store _ _ _ _ (λ copy _.
      ap (λ g. checked (own_part store) ((g, Granted) ∷ []) (doom (own_part store) id)) (granted_own store id own) ∙ checked_own store _ _ _ (doom_own store id own))

  end_task_own : (task : TaskNo) → end_task (own_part store) task ≡ own_change (end_task store task)
  end_task_own task =
      let ids = ids_of store.copies in
      let start = task_ended store task in
      let doomed_ids = of_task task ids in
      checked_own store _ _ _
      (ap (λ s. at_each (give_up_one task) ids (at_each doom doomed_ids (done s))) (task_ended_own store task)
      ∙ ap (at_each (give_up_one task) ids) (at_each_own doom (λ s id. (doom_still s id).job) doom_own store.job doomed_ids (fewer_own store.job (λ id. same_task task id.task) ids all_ids) (done start) refl)
      ∙ at_each_own (give_up_one task) (λ s id. (give_up_one_still task s id).job) (give_up_one_own task) store.job ids all_ids (at_each doom doomed_ids (done start))
      (at_each_still doom doom_still start doomed_ids (done start) (same_grants start)).job)

  leave_own : (session : ℕ) → leave (own_part store) session ≡ own_change (leave store session)
  leave_own session = at_each_own (leave_one session) (λ s id. (leave_one_still session s id).job) (leave_one_own session) store.job (ids_of store.copies) all_ids (done store) refl

  withdraw_own : (id : ObjectId) (target : ℕ) → IsOwn store id → withdraw (own_part store) id target ≡ own_change (withdraw store id target)
  withdraw_own id target own =
      let keeps : GrantGiven → Bool = λ grant. not (same_id id grant.id && grant.target == target) in
      ap (λ g. checked (own_part store) ((not g, NotGranted) ∷ []) (done (settled (record (own_part store) { given = filter keeps (own_grants store.job store.given) }) id)))
      (any_own store.job id (λ grant. same_id id grant.id && grant.target == target) (λ grant t. both_left (same_id id grant.id) (grant.target == target) t) own store.given)
      ∙ checked_own store _ _ _
      (ap (λ gs. done (settled (record (own_part store) { given = gs }) id)) (filter_swap keeps (λ grant. grant.id.job.0 == store.job) store.given)
      ∙ ap done (settled_own (record store { given = filter keeps store.given }) id own))

  -- ---- other inputs

  begin_own : (quota : Quota) → begin (own_part store) quota ≡ own_change (begin store quota)
  begin_own quota =
      elim store.life as (λ l. elim l [ not_begun ↦ checked (own_part store) ((not (is_quota quota), BadSize) ∷ []) (done (record (own_part store) { life = live; quota = quota })) | _ ↦ refused (own_part store) Stale ]
      ≡ own_change (elim l [ not_begun ↦ checked store ((not (is_quota quota), BadSize) ∷ []) (done (record store { life = live; quota = quota })) | _ ↦ refused store Stale ])) [
        | not_begun ↦ checked_own store _ _ _ refl
        | live ↦ refl
        | ended ↦ refl
      ]

  written_own : (rest : Shape) (w : WorkInFlight) (copy : Copy) (verdict : WorkVerdict) → IsOwn rest w.id → written (own_part rest) w copy verdict ≡ own_change (written rest w copy verdict)
  written_own rest w copy work.Failed own = erasing_own rest (done (settled (record rest { spill_failed = true }) w.id)) _ (ap done (settled_own (record rest { spill_failed = true }) w.id own))
  written_own rest w copy work.Fine own = let backed = set_copy rest w.id (record copy { backed = Some w.number }) in erasing_own backed (done (settled backed w.id)) _ (ap done (settled_own backed w.id own))
  written_own rest w copy work.Damaged own = let backed = set_copy rest w.id (record copy { backed = Some w.number }) in erasing_own backed (done (settled backed w.id)) _ (ap done (settled_own backed w.id own))

  answer_own : (number : ℕ) (verdict : WorkVerdict) → answer (own_part store) number verdict ≡ own_change (answer store number verdict)
  answer_own number verdict = needing_own store _ _ _ _ (λ w _. needing_own store _ _ _ _ (λ copy e.
      let rest = without_work store number in
      elim w.writes as (λ b. cond b (written (own_part rest) w copy verdict) (erasing (own_part rest) (done (settled (set_copy (own_part rest) w.id (marked (read_mark verdict) copy)) w.id)))
      ≡ own_change (cond b (written rest w copy verdict) (erasing rest (done (settled (set_copy rest w.id (marked (read_mark verdict) copy)) w.id))))) [
        | true ↦ written_own rest w copy verdict (has w.id copy e)
        | false ↦ erasing_own rest (done (settled (set_copy rest w.id (marked (read_mark verdict) copy)) w.id)) _ (ap done (settled_own (set_copy rest w.id (marked (read_mark verdict) copy)) w.id (has w.id copy e)))
      ]))

  with_fetch_own : (id : ObjectId) (number : ℕ) (f g : Copy → Fetch → Change) → ((copy : Copy) (fetch : Fetch) → g copy fetch ≡ own_change (f copy fetch)) → with_fetch (own_part store) id number g ≡ own_change (with_fetch store id number f)
  with_fetch_own id number f g each =
      elim (fetch_of store id number) as (λ o. option_map_or (λ p. g p.0 p.1) o (done (own_part store)) ≡ own_change (option_map_or (λ p. f p.0 p.1) o (done store))) [ None ↦ refl | Some p ↦ each p.0 p.1 ]

  located_own : (id : ObjectId) (number : ℕ) (source : Option Source) → located (own_part store) id number source ≡ own_change (located store id number source)
  located_own id number source = with_fetch_own id number _ _ (λ copy fetch.
      elim fetch.phase as (λ p. elim p [ locating ↦ done (set_copy (own_part store) id (marked (mark.located fetch source) copy)) | _ ↦ done (own_part store) ] ≡ own_change (elim p [ locating ↦ done (set_copy store id (marked (mark.located fetch source) copy)) | _ ↦ done store ])) [
        | locating ↦ refl
        | sized _ ↦ refl
        | pulling _ _ ↦ refl
        | failed _ ↦ refl
      ])

  chunk_taken_own : (id : ObjectId) (copy : Copy) (fetch : Fetch) (source : ℕ) (missing : List ℕ) (verdict : ChunkVerdict) → chunk_taken (own_part store) id copy fetch source missing verdict ≡ own_change (chunk_taken store id copy fetch source missing verdict)
  unfolding sending
  chunk_taken_own id copy fetch source missing chunk.Ignored = refl
  chunk_taken_own id copy fetch source (i ∷ missing) chunk.Part = refl
  chunk_taken_own id copy fetch source (i ∷ missing) chunk.Whole = refl
  chunk_taken_own id copy fetch source (i ∷ missing) chunk.Damaged = refl
  chunk_taken_own id copy fetch source [] chunk.Part = refl
  chunk_taken_own id copy fetch source [] chunk.Whole = refl
  chunk_taken_own id copy fetch source [] chunk.Damaged = refl

  chunk_own : (id : ObjectId) (number index from : ℕ) (verdict : ChunkVerdict) → chunk_arrived (own_part store) id number index from verdict ≡ own_change (chunk_arrived store id number index from verdict)
  chunk_own id number index from verdict = with_fetch_own id number _ _ (λ copy fetch.
      elim fetch.phase as (λ p. elim p [
        | pulling source missing ↦ cond (from == source && is_missing missing index) (chunk_taken (own_part store) id copy fetch source (filter (λ i. not (i == index)) missing) verdict) (done (own_part store))
        | _ ↦ done (own_part store)
      ] ≡ own_change (elim p [
        | pulling source missing ↦ cond (from == source && is_missing missing index) (chunk_taken store id copy fetch source (filter (λ i. not (i == index)) missing) verdict) (done store)
        | _ ↦ done store
      ])) [
        | locating ↦ refl
        | sized _ ↦ refl
        | failed _ ↦ refl
        | pulling source missing ↦ elim (from == source && is_missing missing index) as (λ b. cond b (chunk_taken (own_part store) id copy fetch source (filter (λ i. not (i == index)) missing) verdict) (done (own_part store))
            ≡ own_change (cond b (chunk_taken store id copy fetch source (filter (λ i. not (i == index)) missing) verdict) (done store))) [
              | true ↦ chunk_taken_own id copy fetch source (filter (λ i. not (i == index)) missing) verdict
              | false ↦ refl
            ]
      ])

  not_here_own : (id : ObjectId) (number from : ℕ) → not_here_arrived (own_part store) id number from ≡ own_change (not_here_arrived store id number from)
  not_here_own id number from = with_fetch_own id number _ _ (λ copy fetch.
      elim fetch.phase as (λ p. elim p [
        | pulling source missing ↦ cond (from == source) (sending (remove_source id source ∷ []) (done (fetch_failed (own_part store) id copy fetch fetch_fault.Absent))) (done (own_part store))
        | _ ↦ done (own_part store)
      ] ≡ own_change (elim p [
        | pulling source missing ↦ cond (from == source) (sending (remove_source id source ∷ []) (done (fetch_failed store id copy fetch fetch_fault.Absent))) (done store)
        | _ ↦ done store
      ])) [
        | locating ↦ refl
        | sized _ ↦ refl
        | failed _ ↦ refl
        | pulling source missing ↦ elim (from == source) as (λ b. cond b (sending (remove_source id source ∷ []) (done (fetch_failed (own_part store) id copy fetch fetch_fault.Absent))) (done (own_part store))
            ≡ own_change (cond b (sending (remove_source id source ∷ []) (done (fetch_failed store id copy fetch fetch_fault.Absent))) (done store))) [
              | true ↦ sending_own _ _ _ refl
              | false ↦ refl
            ]
      ])

  pull_answer_own : (order : List ObjectId) (id : ObjectId) (copy : Copy) (state : CopyState) → elim state [
    | Sealed ↦ sending (chunks id ∷ []) (done (own_part store))
    | Restoring ↦ done (own_part store)
    | Away ↦ cond (is_none copy.fault) (quiet (own_part store) (restore order (own_part store) id copy)) (sending (not_here id ∷ []) (done (own_part store)))
    | _ ↦ sending (not_here id ∷ []) (done (own_part store))
  ] ≡ own_change (elim state [
    | Sealed ↦ sending (chunks id ∷ []) (done store)
    | Restoring ↦ done store
    | Away ↦ cond (is_none copy.fault) (quiet store (restore order store id copy)) (sending (not_here id ∷ []) (done store))
    | _ ↦ sending (not_here id ∷ []) (done store)
  ])
  pull_answer_own order id copy Created = sending_own _ _ _ refl
  pull_answer_own order id copy Fetching = sending_own _ _ _ refl
  pull_answer_own order id copy Sealed = sending_own _ _ _ refl
  pull_answer_own order id copy Restoring = refl
  pull_answer_own order id copy Away =
      elim (is_none copy.fault) as (λ b. cond b (quiet (own_part store) (restore order (own_part store) id copy)) (sending (not_here id ∷ []) (done (own_part store))) ≡ own_change (cond b (quiet store (restore order store id copy)) (sending (not_here id ∷ []) (done store)))) [
        | true ↦ ap (quiet (own_part store)) (restore_own order id copy)
        | false ↦ sending_own _ _ _ refl
      ]

  pull_own : (order : List ObjectId) (id : ObjectId) (matches : Bool) → pull_arrived order (own_part store) id matches ≡ own_change (pull_arrived order store id matches)
  pull_own order id matches =
      elim (visible store id) as (λ o. option_map_or (λ copy. cond matches (pull_answer order (own_part store) id copy) (sending (not_here id ∷ []) (done (own_part store)))) o (sending (not_here id ∷ []) (done (own_part store)))
      ≡ own_change (option_map_or (λ copy. cond matches (pull_answer order store id copy) (sending (not_here id ∷ []) (done store))) o (sending (not_here id ∷ []) (done store)))) [
        | None ↦ sending_own _ _ _ refl
        | Some copy ↦ elim matches as (λ b. cond b (pull_answer order (own_part store) id copy) (sending (not_here id ∷ []) (done (own_part store))) ≡ own_change (cond b (pull_answer order store id copy) (sending (not_here id ∷ []) (done store)))) [
          | true ↦ pull_answer_own order id copy copy.state
          | false ↦ sending_own _ _ _ refl
        ]
      ]

  end_job_own : end_job_here (own_part store) ≡ own_change (end_job_here store)
  end_job_own = sending_own _ _ _ refl

-- ---- all of them

-- the inputs that don't ask for grants of others' objects, nor grant
abbrev pub is_plain_command : ℕ → Command ℕ → Bool
is_plain_command job (command.Grant id target) = false
is_plain_command job (command.Withdraw id target) = id.job.0 == job
is_plain_command job (command.Peek id offset n) = false
is_plain_command job command.List = false
is_plain_command job _ = true

abbrev pub is_plain : ℕ → Judged → Bool
is_plain job (judged.Call session c) = is_plain_command job c
is_plain job (judged.Received id n grantor depth) = false
is_plain job (judged.Withdrawn id grantor depth) = false
is_plain job _ = true

commanded_own : (order : List ObjectId) (store : Shape) → HasOwn store → (session : ℕ) (c : Command ℕ) → is_plain_command store.job c ≡ true → commanded order (own_part store) session c ≡ own_change (commanded order store session c)
commanded_own order store has session (command.Create id kind n) p = owned_own store id _ _ (λ own. create_own store has order id kind n)
commanded_own order store has session (command.Write id offset n) p = owned_own store id _ _ (λ own. write_own store has id offset n)
commanded_own order store has session (command.Seal id) p = owned_own store id _ _ (λ own. seal_own store has id)
commanded_own order store has session (command.Get id) p = owned_own store id _ _ (λ own. get_own store has order session id)
commanded_own order store has session (command.Read id offset n) p = owned_own store id _ _ (λ own. read_own store has session id offset n)
commanded_own order store has session (command.Release id) p = owned_own store id _ _ (λ own. release_own store has session id own)
commanded_own order store has session (command.Unpin id task) p = owned_own store id _ _ (λ own. unpin_own store has id task own)
commanded_own order store has session (command.Borrow id task) p = owned_own store id _ _ (λ own. borrow_own store has id task)
commanded_own order store has session (command.GiveUp id task) p = owned_own store id _ _ (λ own. give_up_own store has id task own)
commanded_own order store has session (command.Delete id) p = owned_own store id _ _ (λ own. delete_own store has id own)
commanded_own order store has session (command.EndTask task) p = end_task_own store has task
commanded_own order store has session (command.Grant id target) p = true_false p
commanded_own order store has session (command.Withdraw id target) p = withdraw_own store has id target.0 p
commanded_own order store has session (command.Peek id offset n) p = true_false p
commanded_own order store has session command.List p = true_false p
commanded_own order store has session command.Usage p = refl
commanded_own order store has session command.Leave p = leave_own store has session

pub step_own : (order : List ObjectId) (store : Shape) → HasOwn store → (x : Judged) → is_plain store.job x ≡ true → step order (own_part store) x ≡ own_change (step order store x)
step_own order store has (judged.Begin quota) p = begin_own store has quota
step_own order store has (judged.Requota quota) p = checked_own store _ _ _ (checked_own store _ _ _ refl)
step_own order store has (judged.Call session c) p = checked_own store _ _ _ (erasing_own store (commanded order store session c) _ (commanded_own order store has session c p))
step_own order store has (judged.Answer number verdict) p = answer_own store has number verdict
step_own order store has (judged.Located id number source) p = checked_own store _ _ _ (located_own store has id number source)
step_own order store has (judged.Chunk id number index from verdict) p = checked_own store _ _ _ (chunk_own store has id number index from verdict)
step_own order store has (judged.Pull id number matches) p = checked_own store _ _ _ (pull_own store has order id matches)
step_own order store has (judged.NotHere id number from) p = checked_own store _ _ _ (not_here_own store has id number from)
step_own order store has (judged.Received id n grantor depth) p = true_false p
step_own order store has (judged.Withdrawn id grantor depth) p = true_false p
step_own order store has judged.End p = checked_own store _ _ _ (erasing_own store (end_job_here store) _ (end_job_own store has))
