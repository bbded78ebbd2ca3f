-- A Create or Get whose checks let it pass, and its plan for room where it has one, is due more than a refusal.
use Rattle.std.proofs.Common.{◌≡◌, ◌⊎◌, ℕ, ◌+◌, ◌<◌, Bool, true, false, not, ◌==◌, ◌&&◌, ◌||◌, inl, inr, List, [], ◌∷◌, ◌++◌, length, Some, None, Ok, Err, refl, sym, ap, ◌∙◌, arith}
use Rattle.std.specs.Prelude.{nat_lt, is_ok}
use Rattle.std.specs.declared.result.Result.{Result}
use Rattle.std.specs.Option.{option_map_or}
use Rattle.std.proofs.lemmas.Bool.Decides.{nat_tests}
use Rattle.memory_growth.specs.declared.OutOfMemory.{OutOfMemory}
use Rattle.obj_id.specs.declared.ids.ObjectId.{ObjectId}
use Rattle.obj_id.specs.declared.refusals.Failure.TheVariants.{Memory}
use Rattle.obj_id.specs.declared.messages.DirectoryMessage.TheVariants.{Locate}
use Rattle.obj_id.specs.declared.refusals.Refusal.{Refusal}
use Rattle.obj_id.specs.declared.refusals.Refusal.TheVariants.{BadSize, Busy, Pending, TooMany}
use Rattle.obj_id.specs.declared.commands.Kind.{Kind}
use Rattle.obj_id.specs.declared.commands.CopyState.TheVariants.{Sealed, Fetching, Away}
use Rattle.obj_id.specs.declared.commands.Command.{Command}
use Rattle.obj_id.specs.declared.commands.Command.TheVariants as command
use Rattle.obj_id.specs.declared.commands.Reply.TheVariants as reply
use Rattle.private_store.specs.declared.inputs.Input.{Input}
use Rattle.private_store.specs.declared.inputs.Input.TheVariants as input
use Rattle.private_store.specs.rules.Limits.{most_works, has_numbers}
use Rattle.private_store.specs.rules.Tables.{ById, at}
use Rattle.private_store.specs.rules.Shape.{Copy, Shape, Change, Fetch, Phase, locating, sized, pulling, failed, locate, pull}
use Rattle.private_store.specs.rules.Marks.{chunk_count, counted, with_holds}
use Rattle.private_store.specs.rules.Copies.{is_sealed}
use Rattle.private_store.specs.rules.Grants.{StandingGrant}
use Rattle.private_store.specs.laws.Invariants.{is_remembered}
use Rattle.private_store.specs.rules.Room.{Room, set_copy, works_left, make_room}
use Rattle.private_store.specs.rules.Change.{refused, replied, done, sending, in_room, erasing}
use Rattle.private_store.specs.rules.Commands.{hold_checks, is_length, created, holds_of, restore, restoring, get_fetching, begin_pull}
use Rattle.private_store.specs.rules.Contents.{Contents, View, judge}
use Rattle.private_store.specs.rules.Private.{Post, to_directory, posts_of, pull_of, pull_posts, view_after, view_step}
use Rattle.private_store.specs.rules.Step.{step}
use Rattle.store_facts.proofs.Checks.{checked-false, checked-nil}
use Rattle.store_facts.proofs.Rows.{at-put_here}
use Rattle.store_facts.proofs.Tests.{both_left, both_right, not_true, or_left, or_right, true_false}
use Rattle.spill_work.specs.Line.{WorkLine, in_flight, used_by}
use Rattle.row_copy.specs.CopyViews.{CopyView}
use Rattle.job_row.specs.Row.{Row}
use Rattle.job_row.specs.Checks.{create_check, fetch_check}
use Rattle.row_copy.specs.Checks.{hold_check_of}
use Rattle.job_row.specs.Holding.{IsHoldRefusedAt}
use Rattle.row_steps.specs.MemoryLast.{is_more, IsDueMore}
use Rattle.room_commands.specs.MadeRooms.{IsPlannedFor}
use Rattle.room_commands.specs.RoomPlans.{planned_by, refuses, makes_place}
use Rattle.row_steps.specs.Shown.{seen, IsShown}
use Rattle.room_commands.specs.declared.room.RoomPlan.{RoomPlan}
use Rattle.row_steps.proofs.ForCallers.{unless_refused, by-checks, own, sending-is, IsLate, more_by, late_by, some_last}
use Rattle.job_row.proofs.ForCallers.{at-copies_found}
use Rattle.room_commands.proofs.Creating.{by_room}
use Rattle.room_commands.proofs.Faults.{fault_is}
use Rattle.room_commands.proofs.Fetching.{fetch_done, phase_is}
use Rattle.room_commands.proofs.Getting.{get_at, sealed_is}
use Rattle.room_commands.proofs.Growing.{HasPlace, HasAskedWrites, room_grows}
use Rattle.room_commands.proofs.Pulling.{IsSized, own_job}
use Rattle.room_commands.proofs.Restoring.{few_works}
use Rattle.row_steps.specs.Beside.{SharedTables, beside_of, shape_of}

-- whether a Get of a fetch in this phase asks for something that it needn't make room for
abbrev pub is_asked : Phase → Bool
is_asked locating = true
is_asked (pulling source missing) = true
is_asked _ = false

-- ---- of each command

module _ (node : ℕ) (row : Row) (beside : SharedTables) (contents : Contents) (session : ℕ) (h : IsShown row beside contents) where
  abbrev s : Shape
  s = shape_of row beside

  abbrev w : View
  w = seen row beside contents

  abbrev asks : Command (List ℕ) → Input
  asks c = input.Call session c

  abbrev is_late : Command (List ℕ) → Type 0
  is_late = IsLate node row beside contents session h

  abbrev grows_by : Command (List ℕ) → Change → Bool
  grows_by = more_by node row beside contents session h

  -- what waits for room that is no refusal
  in_room_late : (c : Command (List ℕ)) (n : ℕ) (f : Shape → ℕ → Change) → refuses (planned_by row.order s n) ≡ false
      → (HasPlace s (make_room row.order s n) (planned_by row.order s n) → (offset : ℕ) → grows_by c (erasing s (sending (make_room row.order s n).sent (f (make_room row.order s n).shape offset))) ≡ true)
      → grows_by c (erasing s (in_room (make_room row.order s n) f)) ≡ true
  unfolding in_room
  in_room_late c n f may placed = by (room_grows row beside contents h n may)
    where
      room : Room
      room = make_room row.order s n

      at_offset : Result ℕ Refusal → Change
      at_offset o = elim o as (λ _. Change) [ Ok offset ↦ f room.shape offset | Err refusal ↦ refused room.shape refusal ]

      by : HasPlace s room (planned_by row.order s n) ⊎ HasAskedWrites s room → grows_by c (erasing s (sending room.sent (at_offset room.offset))) ≡ true
      by (inl there) = ap (λ o. grows_by c (erasing s (sending room.sent (at_offset o)))) there.is ∙ placed there there.offset
      by (inr asked) =
          ap (λ o. grows_by c (erasing s (sending room.sent (at_offset o)))) asked.is
          ∙ ap (λ d. grows_by c (erasing s d)) (sending-is room.sent (refused room.shape Pending))
          ∙ or_left (nat_lt s.works_asked room.shape.works_asked) _ asked.more

  pub create_late : (id : ObjectId) (kind : Kind) (n : ℕ) → (id.job.0 == row.job) ≡ true → create_check row id n ≡ None → refuses (planned_by row.order s n) ≡ false → is_late (command.Create id kind n)
  create_late id kind n mine passed may =
      late_by node row beside contents session h (command.Create id kind n) (in_room (make_room row.order s n) (created id kind n)) (by_room node row beside contents session id kind n mine h passed)
      (in_room_late (command.Create id kind n) n (created id kind n) may (λ there offset. ap (λ d. grows_by (command.Create id kind n) (erasing s d)) (sending-is (make_room row.order s n).sent (created id kind n (make_room row.order s n).shape offset))))

  pub held_late : (id : ObjectId) (mine : (id.job.0 == row.job) ≡ true) → is_remembered row.ended_tasks id.task ≡ false → (k : CopyView) → at row.copies id ≡ Some k → k.copy.doomed ≡ false → k.copy.state ≡ Sealed → hold_check_of k ≡ None → is_late (command.Get id)
  held_late id mine alive k found unmarked is passed =
      late_by node row beside contents session h (command.Get id) held
      (get_at node row beside contents session id mine alive h k found unmarked Sealed is
      ∙ ap (erasing s) (by-checks s (hold_checks k.copy) _ held refl ∙ ap (λ o. unless_refused s o held) passed)) refl
    where
      held : Change
      held = record (replied (set_copy s id (with_holds k.copy session (holds_of k.copy session + 1))) (reply.Got k.copy.length)) { used = Some id }

  -- a read is asked for where there is a place
  pub restore_late : (id : ObjectId) (k : CopyView) → step row.order s (judge node w (asks (command.Get id))) ≡ erasing s (restore row.order s id k.copy) → (works_left s == 0) ≡ false
      → (makes_place (planned_by row.order s k.copy.length) ≡ true → has_numbers s.works_asked 1 ≡ true) → refuses (planned_by row.order s k.copy.length) ≡ false → is_late (command.Get id)
  restore_late id k is idle numbered may =
      late_by node row beside contents session h (command.Get id) (in_room room (restoring id k.copy))
      (is ∙ ap (erasing s) (checked-false s (works_left s == 0) Busy [] _ idle ∙ checked-nil s _
      ∙ checked-false s (is_ok room.offset && not (has_numbers s.works_asked 1)) TooMany [] _ (fine (room_grows row beside contents h k.copy.length may)) ∙ checked-nil s _))
      (in_room_late (command.Get id) k.copy.length (restoring id k.copy) may (λ there offset.
      ap (λ d. grows_by (command.Get id) (erasing s d)) (sending-is room.sent (restoring id k.copy room.shape offset))
      ∙ or_left (nat_lt s.works_asked (room.shape.works_asked + 1)) _ (one_more s.works_asked room.shape.works_asked there.same)))
    where
      room : Room
      room = make_room row.order s k.copy.length

      fine : HasPlace s room (planned_by row.order s k.copy.length) ⊎ HasAskedWrites s room → (is_ok room.offset && not (has_numbers s.works_asked 1)) ≡ false
      fine (inl there) = λ i. is_ok (there.is i) && not (numbered there.by_plan i)
      fine (inr asked) = ap (λ o. is_ok o && not (has_numbers s.works_asked 1)) asked.is

      one_more : (before after : ℕ) → after ≡ before → nat_lt before (after + 1) ≡ true
      one_more before after same = grind (arith, nat_tests, same)

  -- what is sent is the question for chunks
  asks_chunks : (id : ObjectId) (copy : Copy) (fetch : Fetch) (source : ℕ) (missing : List ℕ) (view : View) → at view.shape.copies id ≡ Some copy → copy.fetch ≡ Some fetch → fetch.phase ≡ pulling source missing
      → nat_lt 0 (length (pull_posts view id ++ [])) ≡ true
  asks_chunks id copy fetch source missing view found fetched is =
      ap (λ o. nat_lt 0 (length (option_map_or (λ (c : Copy). option_map_or (λ (f : Fetch). pull_of view id c f f.phase) c.fetch []) o [] ++ []))) found
      ∙ ap (λ o. nat_lt 0 (length (option_map_or (λ (f : Fetch). pull_of view id copy f f.phase) o [] ++ []))) fetched
      ∙ ap (λ p. nat_lt 0 (length (pull_of view id copy fetch p ++ []))) is

  module _ (id : ObjectId) (mine : (id.job.0 == row.job) ≡ true) (alive : is_remembered row.ended_tasks id.task ≡ false) (k : CopyView) (found : at row.copies id ≡ Some k) (unmarked : k.copy.doomed ≡ false) where
    -- a fetch whose source is known asks it for all chunks
    pub pull_late : k.copy.state ≡ Fetching → (z : IsSized row.window.quota k.copy) → refuses (planned_by row.order s k.copy.length) ≡ false → is_late (command.Get id)
    pull_late is z may =
        late_by node row beside contents session h (command.Get id) (in_room room (begin_pull id k.copy z.fetch z.source))
        (phase_is node row beside contents session id mine alive h k found unmarked is z.fetch z.fetched (sized z.source) z.is
        ∙ ap (erasing s) (checked-false s (not (is_length s k.copy.length)) BadSize [] _ (ap not z.fine) ∙ checked-nil s _))
        (in_room_late (command.Get id) k.copy.length (begin_pull id k.copy z.fetch z.source) may (λ there offset.
        ap (λ d. grows_by (command.Get id) (erasing s (sending room.sent d))) (sending-is (pull id ∷ []) (refused (then offset) Pending))
        ∙ ap (λ d. grows_by (command.Get id) (erasing s d)) (sending-is room.sent (pulls offset))
        ∙ or_right (nat_lt s.works_asked room.shape.works_asked) _
        (some_last (posts_of node (after offset) (asks (command.Get id))) room.sent (pull id ∷ [])
        (asks_chunks id (now offset) asked z.source missing (after offset) (at-put_here room.shape.copies id (now offset)) refl refl))))
      where
        room : Room
        room = make_room row.order s k.copy.length

        missing : List ℕ
        missing = counted 0 (chunk_count k.copy.length)

        asked : Fetch
        asked = record z.fetch { phase = pulling z.source missing }

        now : ℕ → Copy
        now offset = record k.copy { offset = Some offset; fetch = Some asked }

        then : ℕ → Shape
        then offset = set_copy room.shape id (record k.copy { offset = Some offset; fetch = Some (record z.fetch { phase = pulling z.source missing }) })

        pulls : ℕ → Change
        pulls offset = record (refused (then offset) Pending) { sent = pull id ∷ [] }

        after : ℕ → View
        after offset = view_after node w (asks (command.Get id)) (judge node w (asks (command.Get id))) (erasing s (record (pulls offset) { sent = room.sent ++ pull id ∷ [] }))

    -- one that is under way asks again
    pub again_late : k.copy.state ≡ Fetching → (f : Fetch) → k.copy.fetch ≡ Some f → (phase : Phase) → f.phase ≡ phase → is_asked phase ≡ true → is_late (command.Get id)
    again_late is f fetched phase at_phase asked =
        late_by node row beside contents session h (command.Get id) (get_fetching row.order s id k.copy f phase) (phase_is node row beside contents session id mine alive h k found unmarked is f fetched phase at_phase) (by phase at_phase asked)
      where
        by : (phase : Phase) → f.phase ≡ phase → is_asked phase ≡ true → grows_by (command.Get id) (erasing s (get_fetching row.order s id k.copy f phase)) ≡ true
        by locating e t =
            ap (λ d. grows_by (command.Get id) (erasing s d)) (sending-is (locate id f.number ∷ []) (refused s Pending)) ∙ or_right (nat_lt s.works_asked s.works_asked) _ refl
        by (pulling source missing) e t =
            ap (λ d. grows_by (command.Get id) (erasing s d)) (sending-is (pull id ∷ []) (refused s Pending))
            ∙ or_right (nat_lt s.works_asked s.works_asked) _
            (asks_chunks id k.copy f source missing (view_after node w (asks (command.Get id)) (judge node w (asks (command.Get id))) (erasing s (record (refused s Pending) { sent = pull id ∷ [] })))
            (at-copies_found row.copies id k found) fetched e)
        by (sized source) e t = true_false t
        by (failed fault) e t = true_false t

  -- a fetch that begins asks where the object is
  pub fetch_late : (id : ObjectId) → (id.job.0 == row.job) ≡ true → is_remembered row.ended_tasks id.task ≡ false → at row.copies id ≡ None → fetch_check row.copies row.fetches_begun ≡ None → is_late (command.Get id)
  fetch_late id mine alive none passed =
      let done = fetch_done node row beside contents session id mine alive h none passed in
      let o = view_step node w (asks (command.Get id)) in
      let more = nat_lt s.works_asked o.view.shape.works_asked in
      let sent = to_directory (Locate id node (row.fetches_begun + 1)) in
      ap (λ (ps : List Post). is_more (more || nat_lt 0 (length ps)) o.reply) (sym done.posts) ∙ ap (is_more (more || nat_lt 0 (length sent))) (sym done.reply) ∙ or_right more _ refl

-- ---- on a row, whatever else stands beside it

module _ (node : ℕ) (row : Row) (line : WorkLine) where
  pub create_due : (id : ObjectId) (kind : Kind) (n : ℕ) → create_check row id n ≡ None → IsPlannedFor row line n → (id.job.0 == row.job) ≡ true → IsDueMore node row line (command.Create id kind n)
  create_due id kind n passed may mine session grants bytes contents h =
      create_late node row (beside_of line grants bytes row.job) contents session h id kind n mine passed (may grants bytes contents h)

  module _ (id : ObjectId) (alive : is_remembered row.ended_tasks id.task ≡ false) where
    abbrev IsGetDue : Type 0
    IsGetDue = (id.job.0 == row.job) ≡ true → IsDueMore node row line (command.Get id)

    -- a hold that was out of memory
    pub held_due : (m : OutOfMemory) (new : ById CopyView) → IsHoldRefusedAt row.copies id (Memory m) new → IsGetDue
    held_due m new refused mine session grants bytes contents h =
        held_late node row (beside_of line grants bytes row.job) contents session h id mine alive refused.kept refused.found
        (not_true refused.kept.copy.doomed (both_right (is_sealed refused.kept.copy.state) _ refused.ready)) (sealed_is refused.kept.copy.state (both_left _ (not refused.kept.copy.doomed) refused.ready)) (refused.late m refl)

    pub fetch_due : at row.copies id ≡ None → fetch_check row.copies row.fetches_begun ≡ None → IsGetDue
    fetch_due none passed mine session grants bytes contents h = fetch_late node row (beside_of line grants bytes row.job) contents session h id mine alive none passed

    module _ (k : CopyView) (found : at row.copies id ≡ Some k) (unmarked : k.copy.doomed ≡ false) where
      pub again_due : k.copy.state ≡ Fetching → (f : Fetch) → k.copy.fetch ≡ Some f → (phase : Phase) → f.phase ≡ phase → is_asked phase ≡ true → IsGetDue
      again_due is f fetched phase at_phase asked mine session grants bytes contents h =
          again_late node row (beside_of line grants bytes row.job) contents session h id mine alive k found unmarked is f fetched phase at_phase asked

      pub pull_due : k.copy.state ≡ Fetching → IsSized row.window.quota k.copy → IsPlannedFor row line k.copy.length → IsGetDue
      pull_due is z may mine session grants bytes contents h =
          pull_late node row (beside_of line grants bytes row.job) contents session h id mine alive k found unmarked is z (may grants bytes contents h)

      pub restore_due : k.copy.state ≡ Away → k.copy.fault ≡ None → in_flight line id.job < most_works → (n : ℕ) → n ≡ k.copy.length → (plan : RoomPlan)
          → ((grants : List StandingGrant) (bytes : ObjectId → List ℕ) (contents : Contents) → IsShown row (beside_of line grants bytes row.job) contents → plan ≡ planned_by row.order (shape_of row (beside_of line grants bytes row.job)) n)
          → (makes_place plan ≡ true → has_numbers (used_by line id.job) 1 ≡ true) → refuses plan ≡ false → IsGetDue
      restore_due is sound idle n long plan is_plan numbered may mine session grants bytes contents h =
          let beside = beside_of line grants bytes row.job in
          let own = own_job id.job row.job mine in
          let same = is_plan grants bytes contents h ∙ ap (planned_by row.order (shape_of row beside)) long in
          restore_late node row beside contents session h id k (fault_is node row beside contents session id mine alive h k found unmarked is None sound) (few_works line id.job row.job own idle)
          (λ placed. ap (λ j. has_numbers (used_by line j) 1) (sym own) ∙ numbered (ap makes_place same ∙ placed)) (sym (ap refuses same) ∙ may)
