-- Each step is made of edits and an answer: the one walk over every command and input.
use Rattle.std.proofs.Common.{◌≡◌, ℕ, ◌+◌, Bool, true, false, not, cond, ◌==◌, ◌&&◌, List, [], ◌∷◌, filter, Option, Some, None, is_some, is_none, refl, ap}
use Rattle.std.specs.Option.{option_map_or}
use Rattle.std.specs.List.{list_any}
use Rattle.obj_id.specs.declared.ids.ObjectId.{ObjectId}
use Rattle.obj_id.specs.declared.ids.TaskNo.{TaskNo}
use Rattle.obj_id.specs.declared.works.Quota.{Quota}
use Rattle.obj_id.specs.declared.commands.CopyState.{CopyState}
use Rattle.obj_id.specs.declared.commands.CopyState.TheVariants.{Created, Sealed, Restoring, Fetching, Away}
use Rattle.obj_id.specs.declared.commands.Kind.{Kind}
use Rattle.obj_id.specs.declared.commands.Command.{Command}
use Rattle.obj_id.specs.declared.commands.Command.TheVariants as command
use Rattle.obj_id.specs.declared.refusals.Refusal.TheVariants.{Pending, Absent, NotSealed, Stale, BadSize}
use Rattle.private_store.specs.declared.inputs.Source.{Source}
use Rattle.private_store.specs.declared.inputs.WorkVerdict.{WorkVerdict}
use Rattle.private_store.specs.declared.inputs.WorkVerdict.TheVariants as work
use Rattle.private_store.specs.declared.inputs.ChunkVerdict.{ChunkVerdict}
use Rattle.private_store.specs.declared.inputs.ChunkVerdict.TheVariants as chunk
use Rattle.private_store.specs.declared.inputs.Judged.{Judged}
use Rattle.private_store.specs.declared.inputs.Judged.TheVariants as judged
use Rattle.private_store.specs.declared.faults.FetchFault.{FetchFault}
use Rattle.private_store.specs.declared.faults.FetchFault.TheVariants as fetch_fault
use Rattle.private_store.specs.rules.Limits.{has_numbers, is_quota}
use Rattle.private_store.specs.rules.Tables.{at}
use Rattle.private_store.specs.rules.Shape.{Copy, Shape, Change, Fetch, Phase, locating, sized, pulling, failed, Sending, locate, chunks, not_here, remove_source, WorkInFlight, not_begun, live, ended, add_location, remove_location, free, end_job, pull}
use Rattle.private_store.specs.rules.Marks.{chunk_count, counted, marked, read_mark, with_holds}
use Rattle.private_store.specs.rules.Marks as mark
use Rattle.private_store.specs.rules.Copies.{is_sealed, visible, fits_quota}
use Rattle.private_store.specs.rules.Room.{set_copy, make_room}
use Rattle.private_store.specs.rules.Change.{refused, done, checked, needing, sending, erasing, settled}
use Rattle.private_store.specs.rules.Commands.{refusal_of, fetch_refusal, create, end_task, created, new_copy, get, grant, grant_own, grant_foreign, restore, restoring, get_away, get_fetching, get_copy, get_sealed, begin_pull, begin_fetch, fetched_copy}
use Rattle.private_store.specs.rules.Events.{is_live, begin, requota, end_job_here, answer, written, without_work, located, with_fetch, fetch_of, fetch_failed, chunk_taken, chunk_arrived, is_missing, not_here_arrived, quiet, pull_answer, pull_arrived, withdrawn, grant_ended, is_child_of, is_the_grant}
use Rattle.private_store.specs.rules.Step.{step, owned, commanded, if_live}
use Rattle.private_store.specs.laws.Invariants.{is_end}
use Rattle.private_store.specs.laws.Made
use Rattle.private_store.specs.laws.Made.{Can, Edit, Edits, none, then_edit, drops, creates, fetches, asks, finishes, flags, gives, leaves, receives, loses, begins, requotas, ends, response_ok, response_placed, response_got, response_bytes, response_list, response_usage, response_refused, IsMade, is_grant_command, changes_grants, is_calm_command, is_calm, command_sends, may_send}
use Rattle.store_facts.proofs.Checks.{visible_at, fetch_found}
use Rattle.store_facts.proofs.Rows.{at-put_here}
use Rattle.store_facts.proofs.Tests.{false_true, passed}
use Rattle.store_facts.proofs.StepParts.{never_want, fetch_never_wants, tells_bytes, one, set_edits, settled_edits, made_replied, made_done, made_refused, made_checked, made_needing, AreSent, one_sent, Evicts, Dooms, made_sending, made_erasing, make_room_made, made_in_room, unused_made, doom_unused, scoped_unused, set_settled, leave_unused, task_left_unused}

module _ (x : Judged) where
  -- ---- Create and Get

  -- what a Get may send
  abbrev Gets : ObjectId → Type 0
  Gets id = (m : Sending) → command_sends (command.Get id) m ≡ true → may_send x m ≡ true

  module _ (order : List ObjectId) (store : Shape) where
    create_made : is_calm x ≡ false → Evicts x → (id : ObjectId) (kind : Kind) (n : ℕ) → IsMade x store (create order store id kind n)
    create_made stirs ev id kind n =
        let room = make_room order store n in
        made_checked x store store _ _ refl (λ _. made_in_room x store store room (created id kind n) ev (make_room_made x stirs order store n) (λ offset _. record {
          edits = one x (Some id) (creates id kind n offset refl stirs);
          response = response_placed offset n;
          used = ap is_some (at-put_here room.shape.copies id (new_copy kind n offset));
          sent = refl;
        }))

    restore_made : is_calm x ≡ false → Evicts x → (id : ObjectId) (copy : Copy) → at store.copies id ≡ Some copy → is_sealed copy.state ≡ false → IsMade x store (restore order store id copy)
    restore_made stirs ev id copy e s =
        let room = make_room order store copy.length in
        let r = make_room_made x stirs order store copy.length in
        made_checked x store store _ _ refl (λ _. made_checked x store store _ _ refl (λ _. made_in_room x store store room (restoring id copy) ev r (λ offset f.
        made_refused x store Pending refl (then_edit (set_edits x None room.shape id copy (mark.restoring offset) (r.stays offset f id copy e s) stirs none) (asks false id stirs)))))

    get_away_made : is_calm x ≡ false → Evicts x → (id : ObjectId) (copy : Copy) → at store.copies id ≡ Some copy → is_sealed copy.state ≡ false → IsMade x store (get_away order store id copy)
    get_away_made stirs ev id copy e s =
        elim copy.fault as (λ o. copy.fault ≡ o → IsMade x store (elim o [ Some response ↦ refused (set_copy store id (record copy { fault = None })) (refusal_of response) | None ↦ restore order store id copy ])) [
          | Some response ↦ λ f. made_refused x store (refusal_of response) (never_want response) (set_edits x None store id copy mark.fault_told e tt none)
          | None ↦ λ f. restore_made stirs ev id copy e s
        ] refl

    get_fetching_made : is_calm x ≡ false → (id : ObjectId) → Gets id → (copy : Copy) (fetch : Fetch) (phase : Phase) → at store.copies id ≡ Some copy → is_sealed copy.state ≡ false → copy.fetch ≡ Some fetch → fetch.phase ≡ phase → IsMade x store (get_fetching order store id copy fetch phase)
    get_fetching_made stirs id g copy fetch locating e s f p = made_sending x store store _ _ (one_sent x _ (g _ refl)) (made_refused x store Pending refl none)
    get_fetching_made stirs id g copy fetch (sized source) e s f p =
        let room = make_room order store copy.length in
        let r = make_room_made x stirs order store copy.length in
        let missing = counted 0 (chunk_count copy.length) in
        made_checked x store store _ _ refl (λ _. made_in_room x store store room (begin_pull id copy fetch source) (λ q. g (remove_location q) refl) r (λ offset found.
        made_sending x store room.shape _ _ (one_sent x _ (g (pull id) refl)) (made_refused x store Pending refl (set_edits x None room.shape id copy (mark.pulled fetch offset source) (r.stays offset found id copy e s) (f, stirs) none))))
    get_fetching_made stirs id g copy fetch (pulling source missing) e s f p = made_sending x store store _ _ (one_sent x _ (g _ refl)) (made_refused x store Pending refl none)
    get_fetching_made stirs id g copy fetch (failed response) e s f p = made_refused x store (fetch_refusal response) (fetch_never_wants response) (one x None (drops id copy e (Made.as_failed fetch response f p)))

    get_copy_made : is_calm x ≡ false → (session : ℕ) (id : ObjectId) → Gets id → (copy : Copy) (state : CopyState) → at store.copies id ≡ Some copy → copy.state ≡ state
        → IsMade x store (elim state [
          | Created ↦ refused store NotSealed
          | Sealed ↦ get_sealed store session id copy
          | Restoring ↦ refused store Pending
          | Fetching ↦ needing store copy.fetch Absent (λ fetch. get_fetching order store id copy fetch fetch.phase)
          | Away ↦ get_away order store id copy
        ])
    get_copy_made stirs session id g copy Created e s = made_refused x store NotSealed refl none
    get_copy_made stirs session id g copy Sealed e s = made_checked x store store _ _ refl (λ _. record {
      edits = set_edits x (Some id) store id copy (mark.held session _) e tt none;
      response = response_got id copy e;
      used = ap is_some (at-put_here store.copies id (with_holds copy session _));
      sent = refl;
    })
    get_copy_made stirs session id g copy Restoring e s = made_refused x store Pending refl none
    get_copy_made stirs session id g copy Fetching e s =
        made_needing x store store copy.fetch Absent _ refl (λ fetch f. get_fetching_made stirs id g copy fetch fetch.phase e (ap is_sealed s) f refl)
    get_copy_made stirs session id g copy Away e s = get_away_made stirs (λ q. g (remove_location q) refl) id copy e (ap is_sealed s)

    begin_fetch_made : is_calm x ≡ false → (id : ObjectId) → Gets id → at store.copies id ≡ None → IsMade x store (begin_fetch store id)
    unfolding sending
    begin_fetch_made stirs id g e = made_checked x store store _ _ refl (λ fails. record {
      edits = one x (Some id) (fetches id refl e (passed (has_numbers store.fetches_begun 1) fails.1.0) stirs);
      response = response_refused Pending refl;
      used = ap is_some (at-put_here store.copies id (fetched_copy (store.fetches_begun + 1)));
      sent = one_sent x (locate id (store.fetches_begun + 1)) (g _ refl);
    })

    get_made : is_calm x ≡ false → (session : ℕ) (id : ObjectId) → Gets id → IsMade x store (get order store session id)
    get_made stirs session id g =
        made_checked x store store _ _ refl (λ _. elim (at store.copies id) as (λ o. at store.copies id ≡ o → IsMade x store (elim o [ None ↦ begin_fetch store id | Some copy ↦ checked store ((copy.doomed, Absent) ∷ []) (get_copy order store session id copy) ])) [
          | None ↦ λ e. begin_fetch_made stirs id g e
          | Some copy ↦ λ e. made_checked x store store _ _ refl (λ _. get_copy_made stirs session id g copy copy.state e refl)
        ] refl)

    -- ---- the commands that tell no bytes

    owned_made : (id : ObjectId) (c : Change) → IsMade x store c → IsMade x store (owned store id c)
    owned_made id c k = made_checked x store store _ _ refl (λ _. k)

    grant_made : changes_grants x ≡ true → (id : ObjectId) (target : ℕ) → IsMade x store (grant store id target)
    grant_made g id target =
        elim (id.job.0 == store.job) as (λ b. IsMade x store (cond b (grant_own store id target) (grant_foreign store id target))) [
          | true ↦ made_checked x store store _ _ refl (λ _. made_needing x store store _ _ _ refl (λ copy e. made_checked x store store _ _ refl (λ _. made_done x store (one x None (gives _ g)))))
          | false ↦ made_checked x store store _ _ refl (λ _. made_needing x store store _ _ _ refl (λ a_grant e. made_checked x store store _ _ refl (λ _. made_done x store (one x None (gives _ g)))))
        ]

    end_task_made : Dooms x → changes_grants x ≡ true → (task : TaskNo) → IsMade x store (end_task store task)
    end_task_made dm g task = made_checked x store store _ _ refl (λ _. unused_made x store store _ (task_left_unused x dm g store task))

    -- the input may do what the command may
    record May (c : Command ℕ) : Type 0 where
      sends : (m : Sending) → command_sends c m ≡ true → may_send x m ≡ true
      grants : is_grant_command c ≡ true → changes_grants x ≡ true
      stirs : is_calm_command c ≡ false → is_calm x ≡ false

    silent_made : (session : ℕ) (c : Command ℕ) → May c → tells_bytes c ≡ false → IsMade x store (commanded order store session c)
    silent_made session (command.Create id kind n) may t = owned_made id _ (create_made (may.stirs refl) (λ q. may.sends (remove_location q) refl) id kind n)
    silent_made session (command.Write id offset n) may t =
        owned_made id _ (made_checked x store store _ _ refl (λ _. made_needing x store store _ _ _ refl (λ copy e. made_checked x store store _ _ refl (λ _. made_done x store none))))
    silent_made session (command.Seal id) may t =
        owned_made id _ (made_needing x store store _ _ _ refl (λ copy e. made_checked x store store _ _ refl (λ _. made_sending x store store _ _ (one_sent x _ (may.sends (add_location id) refl))
        (made_done x store (set_edits x None store id copy mark.sealed (visible_at store id copy e) (may.stirs refl) none)))))
    silent_made session (command.Get id) may t = owned_made id _ (get_made (may.stirs refl) session id may.sends)
    silent_made session (command.Read id offset n) may t = false_true t
    silent_made session (command.Release id) may t =
        owned_made id _ (made_needing x store store _ _ _ refl (λ copy e. made_checked x store store _ _ refl (λ _. unused_made x store store _ (set_settled x store id copy (mark.held session _) e tt))))
    silent_made session (command.Unpin id task) may t =
        owned_made id _ (made_needing x store store _ _ _ refl (λ copy e. made_checked x store store _ _ refl (λ _. unused_made x store store _ (scoped_unused x (λ q. (may.sends (remove_location q) refl, may.sends (free q) refl)) store id copy mark.unpinned (visible_at store id copy e) tt))))
    silent_made session (command.Borrow id task) may t =
        owned_made id _ (made_checked x store store _ _ refl (λ _. made_needing x store store _ _ _ refl (λ copy e. made_checked x store store _ _ refl (λ _.
        made_done x store (set_edits x None store id copy (mark.borrowed task) (visible_at store id copy e) tt none)))))
    silent_made session (command.GiveUp id task) may t =
        owned_made id _ (made_needing x store store _ _ _ refl (λ copy e. made_checked x store store _ _ refl (λ _. unused_made x store store _ (scoped_unused x (λ q. (may.sends (remove_location q) refl, may.sends (free q) refl)) store id copy (mark.given_up task) (visible_at store id copy e) tt))))
    silent_made session (command.Delete id) may t =
        owned_made id _ (made_needing x store store _ _ _ refl (λ copy e. made_checked x store store _ _ refl (λ _. unused_made x store store _ (doom_unused x (λ q. (may.sends (remove_location q) refl, may.sends (free q) refl)) store id none))))
    silent_made session (command.EndTask task) may t = end_task_made (λ q. (may.sends (remove_location q) refl, may.sends (free q) refl)) (may.grants refl) task
    silent_made session (command.Grant id target) may t = grant_made (may.grants refl) id target.0
    silent_made session (command.Withdraw id target) may t =
        made_checked x store store _ _ refl (λ _. made_done x store (settled_edits x None _ id (one x None (leaves _ (may.grants refl)))))
    silent_made session (command.Peek id offset n) may t = false_true t
    silent_made session command.List may t = made_replied x store store _ response_list
    silent_made session command.Usage may t = made_replied x store store _ response_usage
    silent_made session command.Leave may t = unused_made x store store _ (leave_unused x store session)

    -- ---- the operator, and the grants that others give

    if_live_made : (c : Change) → IsMade x store c → IsMade x store (if_live store c)
    if_live_made c k = made_checked x store store _ _ refl (λ _. k)

    begin_made : (quota : Quota) → x ≡ judged.Begin quota → IsMade x store (begin store quota)
    begin_made quota is =
        elim store.life as (λ l. store.life ≡ l → IsMade x store (elim l [ not_begun ↦ checked store ((not (is_quota quota), BadSize) ∷ []) (done (record store { life = live; quota = quota })) | _ ↦ refused store Stale ])) [
          | not_begun ↦ λ l. made_checked x store store _ _ refl (λ fails. made_done x store (one x None (begins quota is l (passed (is_quota quota) fails.0))))
          | live ↦ λ _. made_refused x store Stale refl none
          | ended ↦ λ _. made_refused x store Stale refl none
        ] refl

    requota_made : (quota : Quota) → x ≡ judged.Requota quota → IsMade x store (requota store quota)
    requota_made quota is =
        made_checked x store store _ _ refl (λ fails. made_done x store (one x None (requotas quota is (passed (is_quota quota) fails.0) (passed (fits_quota store quota) fails.1.0))))

    end_made : is_end x ≡ true → may_send x end_job ≡ true → is_live store ≡ true → IsMade x store (end_job_here store)
    end_made e h lives = made_sending x store store _ _ (one_sent x end_job h) (made_done x store (one x None (ends e lives)))

    withdrawn_made : changes_grants x ≡ true → (id : ObjectId) (grantor depth : ℕ) → IsMade x store (withdrawn store id grantor depth)
    withdrawn_made g id grantor depth = made_done x store (
        elim (at store.received id) as (λ o. at store.received id ≡ o → Edits x None store (option_map_or (λ seen. cond (list_any (is_the_grant grantor depth) seen.grants) (grant_ended store id grantor depth seen) store) o store)) [
          | None ↦ λ _. none
          | Some seen ↦ λ e. elim (list_any (is_the_grant grantor depth) seen.grants) as (λ b. Edits x None store (cond b (grant_ended store id grantor depth seen) store)) [
            | true ↦ then_edit (one x None (loses id grantor depth seen e g)) (leaves (λ a_grant. not (is_child_of id grantor a_grant)) g)
            | false ↦ none
          ]
        ] refl)

    -- ---- device answers

    was_written : is_calm x ≡ false → (number : ℕ) (w : WorkInFlight) (copy : Copy) → at store.copies w.id ≡ Some copy
        → IsMade x store (erasing (set_copy (without_work store number) w.id (record copy { backed = Some w.number })) (done (settled (set_copy (without_work store number) w.id (record copy { backed = Some w.number })) w.id)))
    was_written stirs number w copy e =
        let rest = without_work store number in
        let d : Copy = record copy { backed = Some w.number } in
        made_erasing x store store (set_copy rest w.id d) _ (made_done x store (settled_edits x None (set_copy rest w.id d) w.id (set_edits x None rest w.id copy (mark.backed w.number) e stirs (one x None (finishes number)))))

    written_made : is_calm x ≡ false → (number : ℕ) (w : WorkInFlight) (copy : Copy) (verdict : WorkVerdict) → at store.copies w.id ≡ Some copy → IsMade x store (written (without_work store number) w copy verdict)
    written_made stirs number w copy work.Failed e =
        made_erasing x store store (without_work store number) _ (made_done x store (settled_edits x None (record (without_work store number) { spill_failed = true }) w.id (then_edit (one x None (finishes number)) (flags true))))
    written_made stirs number w copy work.Fine e = was_written stirs number w copy e
    written_made stirs number w copy work.Damaged e = was_written stirs number w copy e

    read_can : is_calm x ≡ false → (verdict : WorkVerdict) (copy : Copy) → Can x (read_mark verdict) copy
    read_can stirs work.Fine copy = stirs
    read_can stirs work.Failed copy = tt
    read_can stirs work.Damaged copy = tt

    answer_made : is_calm x ≡ false → (number : ℕ) (verdict : WorkVerdict) → IsMade x store (answer store number verdict)
    answer_made stirs number verdict =
        made_needing x store store _ _ _ refl (λ w _. made_needing x store store _ _ _ refl (λ copy e.
        let rest = without_work store number in
        elim w.writes as (λ b. IsMade x store (cond b (written rest w copy verdict) (erasing rest (done (settled (set_copy rest w.id (marked (read_mark verdict) copy)) w.id))))) [
          | true ↦ written_made stirs number w copy verdict e
          | false ↦ made_erasing x store store rest _ (made_done x store (settled_edits x None (set_copy rest w.id (marked (read_mark verdict) copy)) w.id
              (set_edits x None rest w.id copy (read_mark verdict) e (read_can stirs verdict copy) (one x None (finishes number)))))
        ]))

    -- ---- messages

    -- a fetch that is found, and its copy
    with_fetch_made : (id : ObjectId) (number : ℕ) (f : Copy → Fetch → Change) → ((copy : Copy) (fetch : Fetch) → at store.copies id ≡ Some copy → copy.fetch ≡ Some fetch → IsMade x store (f copy fetch)) → IsMade x store (with_fetch store id number f)
    with_fetch_made id number f each =
        elim (fetch_of store id number) as (λ o. fetch_of store id number ≡ o → IsMade x store (option_map_or (λ p. f p.0 p.1) o (done store))) [
          | None ↦ λ _. made_done x store none
          | Some p ↦ λ e. let found = fetch_found store id number p e in each p.0 p.1 found.0 found.1
        ] refl

    located_made : is_calm x ≡ false → (id : ObjectId) (number : ℕ) (source : Option Source) → IsMade x store (located store id number source)
    located_made stirs id number source = with_fetch_made id number _ (λ copy fetch e f.
        elim fetch.phase as (λ p. IsMade x store (elim p [ locating ↦ done (set_copy store id (marked (mark.located fetch source) copy)) | _ ↦ done store ])) [
          | locating ↦ made_done x store (set_edits x None store id copy (mark.located fetch source) e (f, stirs) none)
          | sized _ ↦ made_done x store none
          | pulling _ _ ↦ made_done x store none
          | failed _ ↦ made_done x store none
        ])

    failed_made : is_calm x ≡ false → (id : ObjectId) (copy : Copy) (fetch : Fetch) (response : FetchFault) → at store.copies id ≡ Some copy → copy.fetch ≡ Some fetch → IsMade x store (done (fetch_failed store id copy fetch response))
    failed_made stirs id copy fetch response e f = made_done x store (set_edits x None store id copy (mark.fetch_failed fetch response) e (f, stirs) none)

    part_made : (id : ObjectId) (copy : Copy) (fetch : Fetch) (source : ℕ) (missing : List ℕ) → at store.copies id ≡ Some copy → copy.fetch ≡ Some fetch → IsMade x store (done (set_copy store id (marked (mark.lacking fetch source missing) copy)))
    part_made id copy fetch source missing e f = made_done x store (set_edits x None store id copy (mark.lacking fetch source missing) e f none)

    whole_made : is_calm x ≡ false → (id : ObjectId) (copy : Copy) (sent : List Sending) → AreSent x sent → at store.copies id ≡ Some copy → IsMade x store (sending sent (done (set_copy store id (marked mark.brought copy))))
    whole_made stirs id copy sent t e = made_sending x store store sent _ t (made_done x store (set_edits x None store id copy mark.brought e stirs none))

    chunk_taken_made : is_calm x ≡ false → ((id : ObjectId) → may_send x (add_location id) ≡ true) → (id : ObjectId) (copy : Copy) (fetch : Fetch) (source : ℕ) (missing : List ℕ) (verdict : ChunkVerdict) → at store.copies id ≡ Some copy → copy.fetch ≡ Some fetch → IsMade x store (chunk_taken store id copy fetch source missing verdict)
    chunk_taken_made stirs adds id copy fetch source missing chunk.Ignored e f = made_done x store none
    chunk_taken_made stirs adds id copy fetch source (i ∷ missing) chunk.Part e f = part_made id copy fetch source (i ∷ missing) e f
    chunk_taken_made stirs adds id copy fetch source (i ∷ missing) chunk.Whole e f = part_made id copy fetch source (i ∷ missing) e f
    chunk_taken_made stirs adds id copy fetch source (i ∷ missing) chunk.Damaged e f = part_made id copy fetch source (i ∷ missing) e f
    chunk_taken_made stirs adds id copy fetch source [] chunk.Damaged e f = failed_made stirs id copy fetch fetch_fault.Damaged e f
    chunk_taken_made stirs adds id copy fetch source [] chunk.Part e f = whole_made stirs id copy _ (one_sent x (add_location id) (adds id)) e
    chunk_taken_made stirs adds id copy fetch source [] chunk.Whole e f = whole_made stirs id copy _ (one_sent x (add_location id) (adds id)) e

    chunk_made : is_calm x ≡ false → ((id : ObjectId) → may_send x (add_location id) ≡ true) → (id : ObjectId) (number index from : ℕ) (verdict : ChunkVerdict) → IsMade x store (chunk_arrived store id number index from verdict)
    chunk_made stirs adds id number index from verdict = with_fetch_made id number _ (λ copy fetch e f.
        elim fetch.phase as (λ p. IsMade x store (elim p [
          | pulling source missing ↦ cond (from == source && is_missing missing index) (chunk_taken store id copy fetch source (filter (λ i. not (i == index)) missing) verdict) (done store)
          | _ ↦ done store
        ])) [
          | locating ↦ made_done x store none
          | sized _ ↦ made_done x store none
          | pulling source missing ↦
              elim (from == source && is_missing missing index) as (λ b. IsMade x store (cond b (chunk_taken store id copy fetch source (filter (λ i. not (i == index)) missing) verdict) (done store))) [
                | true ↦ chunk_taken_made stirs adds id copy fetch source (filter (λ i. not (i == index)) missing) verdict e f
                | false ↦ made_done x store none
              ]
          | failed _ ↦ made_done x store none
        ])

    not_here_made : is_calm x ≡ false → ((id : ObjectId) (source : ℕ) → may_send x (remove_source id source) ≡ true) → (id : ObjectId) (number from : ℕ) → IsMade x store (not_here_arrived store id number from)
    not_here_made stirs forgets id number from = with_fetch_made id number _ (λ copy fetch e f.
        elim fetch.phase as (λ p. IsMade x store (elim p [
          | pulling source missing ↦ cond (from == source) (sending (remove_source id source ∷ []) (done (fetch_failed store id copy fetch fetch_fault.Absent))) (done store)
          | _ ↦ done store
        ])) [
          | locating ↦ made_done x store none
          | sized _ ↦ made_done x store none
          | pulling source missing ↦
              elim (from == source) as (λ b. IsMade x store (cond b (sending (remove_source id source ∷ []) (done (fetch_failed store id copy fetch fetch_fault.Absent))) (done store))) [
                | true ↦ made_sending x store store _ _ (one_sent x _ (forgets id source)) (failed_made stirs id copy fetch fetch_fault.Absent e f)
                | false ↦ made_done x store none
              ]
          | failed _ ↦ made_done x store none
        ])

    sent_made : (m : Sending) → may_send x m ≡ true → IsMade x store (sending (m ∷ []) (done store))
    sent_made m h = made_sending x store store (m ∷ []) (done store) (one_sent x m h) (made_done x store none)

    quiet_made : (c : Change) → IsMade x store c → IsMade x store (quiet store c)
    quiet_made c k = record { edits = then_edit k.edits (flags store.spill_failed); response = response_ok; used = k.used; sent = k.sent }

    -- what a Pull may send
    abbrev Pulls : Type 0
    Pulls = (id : ObjectId) → (may_send x (chunks id) ≡ true) × (may_send x (not_here id) ≡ true) × (may_send x (remove_location id) ≡ true)

    pull_answer_made : is_calm x ≡ false → Pulls → (id : ObjectId) (copy : Copy) (state : CopyState) → at store.copies id ≡ Some copy → copy.state ≡ state → IsMade x store (elim state [
      | Sealed ↦ sending (chunks id ∷ []) (done store)
      | Restoring ↦ done store
      | Away ↦ cond (is_none copy.fault) (quiet store (restore order store id copy)) (sending (not_here id ∷ []) (done store))
      | _ ↦ sending (not_here id ∷ []) (done store)
    ])
    pull_answer_made stirs p id copy Created e s = sent_made _ (p id).1
    pull_answer_made stirs p id copy Fetching e s = sent_made _ (p id).1
    pull_answer_made stirs p id copy Sealed e s = sent_made _ (p id).0
    pull_answer_made stirs p id copy Restoring e s = made_done x store none
    pull_answer_made stirs p id copy Away e s =
        elim (is_none copy.fault) as (λ b. IsMade x store (cond b (quiet store (restore order store id copy)) (sending (not_here id ∷ []) (done store)))) [
          | true ↦ quiet_made (restore order store id copy) (restore_made stirs (λ q. (p q).2) id copy e (ap is_sealed s))
          | false ↦ sent_made _ (p id).1
        ]

    pull_made : is_calm x ≡ false → Pulls → (id : ObjectId) (matches : Bool) → IsMade x store (pull_arrived order store id matches)
    pull_made stirs p id matches =
        elim (visible store id) as (λ o. visible store id ≡ o → IsMade x store (option_map_or (λ copy. cond matches (pull_answer order store id copy) (sending (not_here id ∷ []) (done store))) o (sending (not_here id ∷ []) (done store)))) [
          | None ↦ λ _. sent_made _ (p id).1
          | Some copy ↦ λ v. elim matches as (λ b. IsMade x store (cond b (pull_answer order store id copy) (sending (not_here id ∷ []) (done store)))) [
            | true ↦ pull_answer_made stirs p id copy copy.state (visible_at store id copy v) refl
            | false ↦ sent_made _ (p id).1
          ]
        ] refl

-- ---- every input

module _ (order : List ObjectId) (store : Shape) where
  commanded_made : (session : ℕ) (c : Command ℕ) → IsMade (judged.Call session c) store (commanded order store session c)
  commanded_made session (command.Read id offset n) =
      let x = judged.Call session (command.Read id offset n) in
      owned_made x order store id _ (made_checked x store store _ _ refl (λ few. made_needing x store store _ _ _ refl (λ copy e. made_checked x store store _ _ refl (λ fails.
      made_replied x store store _ (response_bytes n (refl, record { copy = copy; there = e; sealed = fails.0; held = fails.1.0; within = fails.1.1.0; few = few.0 }))))))
  commanded_made session (command.Peek id offset n) =
      let x = judged.Call session (command.Peek id offset n) in
      made_checked x store store _ _ refl (λ _. made_needing x store store _ _ _ refl (λ seen e. made_checked x store store _ _ refl (λ fails.
      made_replied x store store _ (response_bytes n (refl, record { seen = seen; there = e; few = fails.0; within = fails.1.0 })))))
  commanded_made session c = silent_made (judged.Call session c) order store session c (record { sends = λ m e. e; grants = λ e. e; stirs = λ e. e }) refl

  -- each input's change is made of edits and an answer
  pub step_made : (x : Judged) → IsMade x store (step order store x)
  step_made (judged.Begin quota) = begin_made (judged.Begin quota) order store quota refl
  step_made (judged.Requota quota) = if_live_made (judged.Requota quota) order store _ (requota_made (judged.Requota quota) order store quota refl)
  step_made (judged.Call session c) =
      let x = judged.Call session c in
      made_checked x store store _ _ refl (λ _. made_erasing x store store store _ (commanded_made session c))
  step_made (judged.Answer number verdict) = answer_made (judged.Answer number verdict) order store refl number verdict
  step_made (judged.Located id number source) = let x = judged.Located id number source in if_live_made x order store _ (located_made x order store refl id number source)
  step_made (judged.Chunk id number index from verdict) = let x = judged.Chunk id number index from verdict in if_live_made x order store _ (chunk_made x order store refl (λ q. refl) id number index from verdict)
  step_made (judged.Pull id number matches) = let x = judged.Pull id number matches in if_live_made x order store _ (pull_made x order store refl (λ q. (refl, refl, refl)) id matches)
  step_made (judged.NotHere id number from) = let x = judged.NotHere id number from in if_live_made x order store _ (not_here_made x order store refl (λ q n. refl) id number from)
  step_made (judged.Received id n grantor depth) = made_done (judged.Received id n grantor depth) store (one (judged.Received id n grantor depth) None (receives id n grantor depth refl))
  step_made (judged.Withdrawn id grantor depth) = withdrawn_made (judged.Withdrawn id grantor depth) order store refl id grantor.0 depth
  step_made judged.End = made_checked judged.End store store _ _ refl (λ fails. made_erasing judged.End store store store _ (end_made judged.End order store refl refl (passed (is_live store) fails.0)))

-- ---- how it is used

-- edits keep what each of them keeps
pub edits_keep : (I : Shape → Type 0) {x : Judged} {used : Option ObjectId} {store after : Shape} → ((mid next : Shape) → Edit x used mid next → I mid → I next) → Edits x used store after → I store → I after
edits_keep I each none h = h
edits_keep I each (then_edit k e) h = each _ _ e (edits_keep I each k h)

-- what each edit by an input keeps, the input keeps
pub input_keeps : (I : Shape → Type 0) (order : List ObjectId) (store : Shape) (x : Judged) → ((used : Option ObjectId) (mid next : Shape) → Edit x used mid next → I mid → I next) → I store → I (step order store x).shape
input_keeps I order store x each h = edits_keep I (each (step order store x).used) (step_made order store x).edits h
