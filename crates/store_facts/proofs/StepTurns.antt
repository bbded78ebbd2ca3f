-- Each step is one of the turns.
use Rattle.std.proofs.Common.{◌≡◌, ℕ, ◌+◌, ◌≤◌, Bool, true, false, not, cond, ◌==◌, ◌&&◌, ◌||◌, ◌⊎◌, inl, inr, List, [], ◌∷◌, filter, Option, Some, None, Ok, Err, is_some, is_none, refl, sym, ap, subst, ◌∙◌}
use Rattle.std.specs.Option.{option_map_or}
use Rattle.obj_id.specs.declared.ids.ObjectId.{ObjectId}
use Rattle.obj_id.specs.declared.commands.Kind.{Kind}
use Rattle.obj_id.specs.declared.commands.CopyState.{CopyState}
use Rattle.obj_id.specs.declared.commands.CopyState.TheVariants.{Created, Sealed, Restoring, Fetching, Away}
use Rattle.obj_id.specs.declared.refusals.Refusal.{Refusal}
use Rattle.obj_id.specs.declared.refusals.Refusal.TheVariants.{Absent, NotSealed, Pending, Stale, BadSize}
use Rattle.obj_id.specs.declared.works.Quota.{Quota}
use Rattle.obj_id.specs.declared.commands.Command.{Command}
use Rattle.obj_id.specs.declared.commands.Command.TheVariants as command
use Rattle.obj_id.specs.Ids.{same_id}
use Rattle.private_store.specs.declared.inputs.Source.{Source}
use Rattle.private_store.specs.declared.inputs.Judged.{Judged}
use Rattle.private_store.specs.declared.inputs.Judged.TheVariants as judged
use Rattle.private_store.specs.declared.inputs.ChunkVerdict.{ChunkVerdict}
use Rattle.private_store.specs.declared.inputs.ChunkVerdict.TheVariants as chunk
use Rattle.private_store.specs.declared.inputs.WorkVerdict.{WorkVerdict}
use Rattle.private_store.specs.declared.inputs.WorkVerdict.TheVariants as work
use Rattle.private_store.specs.rules.Tables.{at, with_entry}
use Rattle.private_store.specs.declared.faults.FetchFault.{FetchFault}
use Rattle.private_store.specs.declared.faults.FetchFault.TheVariants as fetch_fault
use Rattle.private_store.specs.rules.Limits.{is_quota}
use Rattle.private_store.specs.rules.Shape.{Copy, Shape, Change, Sending, WorkInFlight, Fetch, Phase, locating, sized, pulling, failed, not_begun, live, ended, chunks, not_here, remove_source}
use Rattle.private_store.specs.rules.Marks.{chunk_count, counted, marked, read_mark}
use Rattle.private_store.specs.rules.Marks as mark
use Rattle.private_store.specs.rules.Copies.{visible, is_sealed, fits_quota, is_idle}
use Rattle.private_store.specs.rules.Room.{Room, make_room, set_copy, drop_copy, asked}
use Rattle.private_store.specs.rules.Change.{refused, done, checked, needing, sending, in_room, settled, erasing}
use Rattle.private_store.specs.rules.Commands.{refusal_of, create, new_copy, seal, get, get_sealed, get_away, get_fetching, get_copy, begin_fetch, restore, fetched_copy}
use Rattle.private_store.specs.rules.Events.{begin, requota, end_job_here, written, without_work, work_of, answer, with_fetch, fetch_of, located, fetch_failed, chunk_taken, chunk_arrived, is_missing, not_here_arrived, quiet, pull_answer, pull_arrived}
use Rattle.private_store.specs.rules.Step.{step, owned, commanded, if_live}
use Rattle.private_store.specs.laws.Invariants.{IsShapeKept, has_write, has_extent, is_fetching, is_pulling}
use Rattle.store_facts.proofs.WorksHaveCopies.{works_have_copies}
use Rattle.store_facts.proofs.Tests.{none_here, passed, true_false}
use Rattle.store_facts.proofs.Checks.{visible_at, Fails, checked_past, needing_has}
pub use Rattle.store_facts.proofs.Checks.{fetch_found}
use Rattle.store_facts.proofs.Rows.{Quiet, quiet_stays, quiet_put, quiet_set, quiet_drop, quiet_settled}
use Rattle.store_facts.proofs.Clearing.{Cleared, SpillsIn, RoomDone, room_done}
use Rattle.store_facts.proofs.CalmSteps.{quiet_marked, quiet_rest, step_calm}
use Rattle.store_facts.proofs.Turns.{weight, weight_of, weight_less, weight_same, weightless, reads_write, found_any, unwritten, not_written, resident, nowhere, same, Puts, calm, spills, puts, requotas, empties, receives, IsTurn, put_turn, placed_stands, quiet_put_dropped}
use Rattle.store_facts.proofs.Ids.{same_id-itself}

-- ---- what a kept shape says of one copy

module _ (store : Shape) (sh : IsShapeKept store) (id : ObjectId) (copy : Copy) (e : at store.copies id ≡ Some copy) where
  away_nowhere : copy.state ≡ Away → copy.offset ≡ None
  away_nowhere s = none_here copy.offset ((sh.each id copy e).resident ∙ ap (λ x. has_extent x copy.fetch) s)

  pub fetch_fetching : (fetch : Fetch) → copy.fetch ≡ Some fetch → is_fetching copy.state ≡ true
  fetch_fetching fetch f = sym (sym (ap is_some f) ∙ (sh.each id copy e).in_fetch)

  pub fetching_unsealed : is_fetching copy.state ≡ true → is_sealed copy.state ≡ false
  fetching_unsealed t = by_state copy.state t
    where
      by_state : (state : CopyState) → is_fetching state ≡ true → is_sealed state ≡ false
      by_state Created t = refl
      by_state Sealed t = true_false t
      by_state Restoring t = refl
      by_state Fetching t = refl
      by_state Away t = refl

  -- a fetch that isn't pulled has no extent
  unpulled_nowhere : (fetch : Fetch) → copy.fetch ≡ Some fetch → is_pulling fetch.phase ≡ false → copy.offset ≡ None
  unpulled_nowhere fetch f p =
      none_here copy.offset ((sh.each id copy e).resident ∙ ap (has_extent copy.state) f ∙ by_state copy.state (fetch_fetching fetch f))
    where
      by_state : (state : CopyState) → is_fetching state ≡ true → has_extent state (Some fetch) ≡ false
      by_state Created t = true_false t
      by_state Sealed t = true_false t
      by_state Restoring t = true_false t
      by_state Fetching t = p
      by_state Away t = true_false t

  fetching_unbacked : (fetch : Fetch) → copy.fetch ≡ Some fetch → copy.backed ≡ None
  fetching_unbacked fetch f = let k = sh.each id copy e in (k.secondary (k.fetched (fetch_fetching fetch f))).2

  fetching_unwritten : (fetch : Fetch) → copy.fetch ≡ Some fetch → has_write store.works id ≡ false
  fetching_unwritten fetch f =
      elim (has_write store.works id) as (λ b. has_write store.works id ≡ b → b ≡ false) [
        | true ↦ λ w. true_false (sym (fetching_unsealed (fetch_fetching fetch f)) ∙ ((sh.each id copy e).spilled w).0)
        | false ↦ λ _. refl
      ] refl

-- ---- which copies a step may seal

abbrev pub Seals : (ObjectId → Bool) → Command ℕ → Type 0
Seals s (command.Seal id) = s id ≡ true
Seals s _ = Unit {0}

-- the copy whose bytes were read back rightly
abbrev pub ReadsBack : (ObjectId → Bool) → Shape → ℕ → WorkVerdict → Type 0
ReadsBack s store number work.Fine = (w : WorkInFlight) → work_of store number ≡ Some w → w.writes ≡ false → s w.id ≡ true
ReadsBack s store number _ = Unit {0}

abbrev pub is_taken : ChunkVerdict → Bool
is_taken chunk.Part = true
is_taken chunk.Whole = true
is_taken _ = false

-- the fetch of which a chunk leaves nothing missing
abbrev pub Completes : (ObjectId → Bool) → Shape → ObjectId → ℕ → ℕ → ChunkVerdict → Type 0
Completes s store id number index verdict =
    (p : Copy × Fetch) (source : ℕ) (missing : List ℕ) → fetch_of store id number ≡ Some p → p.1.phase ≡ pulling source missing → filter (λ i. not (i == index)) missing ≡ [] → is_taken verdict ≡ true → s id ≡ true

-- s has the copies that the step may seal, and all where it brings what another job granted
abbrev pub MaySeal : (ObjectId → Bool) → Shape → Judged → Type 0
MaySeal s store (judged.Call session c) = Seals s c
MaySeal s store (judged.Answer number verdict) = ReadsBack s store number verdict
MaySeal s store (judged.Chunk id number index from verdict) = Completes s store id number index verdict
MaySeal s store (judged.Received id n grantor depth) = (id : ObjectId) → s id ≡ true
MaySeal s store _ = Unit {0}

-- ---- the frames of a change

module _ (s : ObjectId → Bool) (store : Shape) where
  at_rest : (c : Change) → Quiet store c.shape → IsTurn s store c
  at_rest c q = record { is = calm q }

  refused_turn : (r : Refusal) → IsTurn s store (refused store r)
  refused_turn r = record { is = calm (quiet_stays store) }

  checked_turn : (checks : List (Bool × Refusal)) (rest : Change) → (Fails checks → IsTurn s store rest) → IsTurn s store (checked store checks rest)
  checked_turn checks rest k = checked_past (IsTurn s store) store checks rest refused_turn k

  needing_turn : {X : Type 0} (o : Option X) (r : Refusal) (f : X → Change) → ((x : X) → o ≡ Some x → IsTurn s store (f x)) → IsTurn s store (needing store o r f)
  needing_turn o r f k = needing_has (IsTurn s store) store o r f (refused_turn r) k

  sending_turn : (sent : List Sending) (c : Change) → IsTurn s store c → IsTurn s store (sending sent c)
  unfolding sending
  sending_turn sent c k = record { is = k.is }

  erasing_turn : (before : Shape) (c : Change) → IsTurn s store c → IsTurn s store (erasing before c)
  erasing_turn before c k = record { is = k.is }

  in_room_turn : (n : ℕ) (room : Room) (f : Shape → ℕ → Change) → RoomDone store n room → ((offset : ℕ) → Cleared store room.shape n offset → IsTurn s store (f room.shape offset)) → IsTurn s store (in_room room f)
  unfolding in_room
  in_room_turn n room f done k =
      sending_turn _ _ (elim room.offset as (λ o. room.offset ≡ o → IsTurn s store (elim o [ Ok offset ↦ f room.shape offset | Err refusal ↦ refused room.shape refusal ])) [
        | Ok offset ↦ λ e. k offset (done.found offset e)
        | Err refusal ↦ λ e. left refusal (done.refused refusal e)
      ] refl)
    where
      left : (refusal : Refusal) → Quiet store room.shape ⊎ SpillsIn store room.shape → IsTurn s store (refused room.shape refusal)
      left refusal (inl q) = record { is = calm q }
      left refusal (inr k) = record { is = spills k }

-- ---- commands and messages that place no seal

module _ (s : ObjectId → Bool) (store : Shape) (sh : IsShapeKept store) where
  no_copy : (id : ObjectId) → is_some (at store.copies id) ≡ false → at store.copies id ≡ None
  no_copy id e = none_here (at store.copies id) e

  new_weight : (works : List WorkInFlight) (id : ObjectId) (d : Copy) (m : ℕ) → (has_write works id ≡ true → has_write store.works id ≡ true) → at store.copies id ≡ None → d.backed ≡ None → weight works id d ≤ m
  new_weight works id d m writes none unbacked = weightless works id d m unbacked (not_written works store.works id writes (unwritten store.copies store.works id (works_have_copies store sh) none))

  create_turn : (order : List ObjectId) (id : ObjectId) (kind : Kind) (n : ℕ) → IsTurn s store (create order store id kind n)
  create_turn order id kind n =
      checked_turn s store _ _ (λ fails.
      in_room_turn s store n _ _ (room_done order store n) (λ offset room.
      let mid = (make_room order store n).shape in
      let d = new_copy kind n offset in
      let none = no_copy id fails.1.1.0 in
      record {
        is = puts id d (put_turn s store mid mid.works id d room.quiet (λ q e. e)
            (new_weight mid.works id d _ (room.quiet.writes id) none refl)
            (placed_stands s store mid n offset id d room refl refl refl (ap resident none)));
      }))

  known_weight : (works : List WorkInFlight) (id : ObjectId) (copy d : Copy) → (has_write works id ≡ true → has_write store.works id ≡ true) → at store.copies id ≡ Some copy → d.length ≡ copy.length → d.backed ≡ copy.backed → weight works id d ≤ weight_of store.works id (at store.copies id)
  known_weight works id copy d writes e length backed =
      subst (λ o. weight works id d ≤ weight_of store.works id o) (sym e) (weight_same store.works works id copy d length backed writes)

  restore_turn : (order : List ObjectId) (id : ObjectId) (copy : Copy) → at store.copies id ≡ Some copy → copy.state ≡ Away → IsTurn s store (restore order store id copy)
  restore_turn order id copy e away =
      checked_turn s store _ _ (λ _. checked_turn s store _ _ (λ _.
      in_room_turn s store copy.length _ _ (room_done order store copy.length) (λ offset room.
      let mid = (make_room order store copy.length).shape in
      let d : Copy = record copy { state = Restoring; offset = Some offset } in
      let after = asked false (set_copy mid id d) id in
      let reads : (q : ObjectId) → has_write after.works q ≡ true → has_write mid.works q ≡ true = λ q w. reads_write mid.works _ q refl w in
      record {
        is = puts id d (put_turn s store mid after.works id d room.quiet reads
            (known_weight after.works id copy d (λ w. room.quiet.writes id (reads id w)) e refl refl)
            (placed_stands s store mid copy.length offset id d room refl refl refl (ap resident e ∙ ap is_some (away_nowhere store sh id copy e away))));
      })))

  get_away_turn : (order : List ObjectId) (id : ObjectId) (copy : Copy) → at store.copies id ≡ Some copy → copy.state ≡ Away → IsTurn s store (get_away order store id copy)
  get_away_turn order id copy e away =
      elim copy.fault as (λ o. IsTurn s store (elim o [ Some fault ↦ refused (set_copy store id (record copy { fault = None })) (refusal_of fault) | None ↦ restore order store id copy ])) [
        | Some fault ↦ record { is = calm (quiet_marked store id copy (record copy { fault = None }) e refl refl refl refl) }
        | None ↦ restore_turn order id copy e away
      ]

  get_fetching_turn : (order : List ObjectId) (id : ObjectId) (copy : Copy) (fetch : Fetch) (phase : Phase) → at store.copies id ≡ Some copy → copy.fetch ≡ Some fetch → fetch.phase ≡ phase → IsTurn s store (get_fetching order store id copy fetch phase)
  get_fetching_turn order id copy fetch locating e f p = sending_turn s store _ _ (refused_turn s store Pending)
  get_fetching_turn order id copy fetch (sized source) e f p =
      checked_turn s store _ _ (λ _. in_room_turn s store copy.length _ _ (room_done order store copy.length) (λ offset room.
      let mid = (make_room order store copy.length).shape in
      let d : Copy = record copy { offset = Some offset; fetch = Some (record fetch { phase = pulling source (counted 0 (chunk_count copy.length)) }) } in
      let unsealed = fetching_unsealed store sh id copy e (fetch_fetching store sh id copy e fetch f) in
      let nowhere_yet = unpulled_nowhere store sh id copy e fetch f (ap is_pulling p) in
      sending_turn s store _ _ (record {
        is = puts id d (put_turn s store mid mid.works id d room.quiet (λ q w. w)
            (known_weight mid.works id copy d (room.quiet.writes id) e refl refl)
            (placed_stands s store mid copy.length offset id d room refl refl unsealed (ap resident e ∙ ap is_some nowhere_yet)));
      })))
  get_fetching_turn order id copy fetch (pulling source missing) e f p = sending_turn s store _ _ (refused_turn s store Pending)
  get_fetching_turn order id copy fetch (failed refusal) e f p = record { is = calm (quiet_drop store store id (quiet_stays store)) }

  begin_fetch_turn : (id : ObjectId) → at store.copies id ≡ None → IsTurn s store (begin_fetch store id)
  unfolding sending
  begin_fetch_turn id none =
      let d = fetched_copy (store.fetches_begun + 1) in
      checked_turn s store _ _ (λ _. record {
        is = puts id d (put_turn s store store store.works id d (quiet_stays store) (λ q w. w)
            (new_weight store.works id d _ (λ w. w) none refl) (nowhere refl refl));
      })

  get_copy_turn : (order : List ObjectId) (session : ℕ) (id : ObjectId) (copy : Copy) (state : CopyState) → at store.copies id ≡ Some copy → copy.state ≡ state
      → IsTurn s store (elim state [
        | Created ↦ refused store NotSealed
        | Sealed ↦ get_sealed store session id copy
        | Restoring ↦ refused store Pending
        | Fetching ↦ needing store copy.fetch Absent (λ fetch. get_fetching order store id copy fetch fetch.phase)
        | Away ↦ get_away order store id copy
      ])
  get_copy_turn order session id copy Created e is = refused_turn s store NotSealed
  get_copy_turn order session id copy Sealed e is = checked_turn s store _ _ (λ _. record { is = calm (quiet_marked store id copy _ e refl refl refl refl) })
  get_copy_turn order session id copy Restoring e is = refused_turn s store Pending
  get_copy_turn order session id copy Fetching e is = needing_turn s store _ _ _ (λ fetch f. get_fetching_turn order id copy fetch fetch.phase e f refl)
  get_copy_turn order session id copy Away e is = get_away_turn order id copy e is

  get_turn : (order : List ObjectId) (session : ℕ) (id : ObjectId) → IsTurn s store (get order store session id)
  get_turn order session id =
      checked_turn s store _ _ (λ _. elim (at store.copies id) as (λ o. at store.copies id ≡ o → IsTurn s store (elim o [ None ↦ begin_fetch store id | Some copy ↦ checked store ((copy.doomed, Absent) ∷ []) (get_copy order store session id copy) ])) [
        | None ↦ λ none. begin_fetch_turn id none
        | Some copy ↦ λ e. checked_turn s store _ _ (λ _. get_copy_turn order session id copy copy.state e refl)
      ] refl)

  -- the copy that stands there is sealed
  pub sealing_turn : (id : ObjectId) (copy : Copy) → s id ≡ true → at store.copies id ≡ Some copy → IsTurn s store (done (set_copy store id (record copy { state = Sealed })))
  sealing_turn id copy t e =
      let d : Copy = record copy { state = Sealed } in
      record {
        is = puts id d (put_turn s store store store.works id d (quiet_stays store) (λ q w. w)
            (known_weight store.works id copy d (λ w. w) e refl refl)
            (same copy e refl refl (λ f. true_false (sym f ∙ t))));
      }

  seal_turn : (id : ObjectId) → s id ≡ true → IsTurn s store (seal store id)
  seal_turn id t = needing_turn s store _ _ _ (λ copy v. checked_turn s store _ _ (λ _. sending_turn s store _ _ (sealing_turn id copy t (visible_at store id copy v))))

  -- a job's own object
  owned_turn : (id : ObjectId) (c : Change) → IsTurn s store c → IsTurn s store (owned store id c)
  owned_turn id c k = checked_turn s store _ _ (λ _. k)

  called_turn : (order : List ObjectId) (session : ℕ) (c : Command ℕ) → IsTurn s store (commanded order store session c) → IsTurn s store (step order store (judged.Call session c))
  called_turn order session c k = checked_turn s store _ _ (λ _. erasing_turn s store store (commanded order store session c) k)

  call_turn : (order : List ObjectId) (session : ℕ) (c : Command ℕ) → Seals s c → IsTurn s store (step order store (judged.Call session c))
  call_turn order session (command.Create id kind n) t = called_turn order session (command.Create id kind n) (owned_turn id _ (create_turn order id kind n))
  call_turn order session (command.Seal id) t = called_turn order session (command.Seal id) (owned_turn id _ (seal_turn id t))
  call_turn order session (command.Get id) t = called_turn order session (command.Get id) (owned_turn id _ (get_turn order session id))
  call_turn order session c t = at_rest s store _ (step_calm order store (judged.Call session c) refl)

  -- ---- device answers

  -- the copy is put, and goes at once if it is doomed and idle
  settled_turn : (mid : Shape) (id : ObjectId) (d : Copy) → Quiet store mid → Puts s store (with_entry mid.copies id d) mid.works mid.quota mid.received id d → IsTurn s store (done (settled (set_copy mid id d) id))
  settled_turn mid id d quiet put =
      elim (at (set_copy mid id d).copies id) as (λ o. IsTurn s store (done (option_map_or (λ copy. cond (copy.doomed && is_idle (set_copy mid id d) id copy) (drop_copy (set_copy mid id d) id) (set_copy mid id d)) o (set_copy mid id d)))) [
        | None ↦ record { is = puts id d put }
        | Some copy ↦ elim (copy.doomed && is_idle (set_copy mid id d) id copy) as (λ b. IsTurn s store (done (cond b (drop_copy (set_copy mid id d) id) (set_copy mid id d)))) [
          | true ↦ record { is = calm (quiet_put_dropped store mid id d quiet) }
          | false ↦ record { is = puts id d put }
        ]
      ]

  backed_turn : (number : ℕ) (w : WorkInFlight) (copy : Copy) → at store.copies w.id ≡ Some copy → has_write store.works w.id ≡ true
      → IsTurn s store (done (settled (set_copy (without_work store number) w.id (record copy { backed = Some w.number })) w.id))
  backed_turn number w copy e written =
      let rest = without_work store number in
      let d : Copy = record copy { backed = Some w.number } in
      settled_turn rest w.id d (quiet_rest store number) (put_turn s store rest rest.works w.id d (quiet_rest store number) (λ q h. h)
      (subst (λ o. weight rest.works w.id d ≤ weight_of store.works w.id o) (sym e)
      (weight_less store.works rest.works w.id copy d refl (λ _. counted (is_some copy.backed)) ((quiet_rest store number).writes w.id)))
      (same copy e refl refl (λ _. refl)))
    where
      counted : (b : Bool) → (b || has_write store.works w.id) ≡ true
      counted true = refl
      counted false = written

  written_turn : (number : ℕ) (w : WorkInFlight) (copy : Copy) (verdict : WorkVerdict) → at store.copies w.id ≡ Some copy → has_write store.works w.id ≡ true → IsTurn s store (written (without_work store number) w copy verdict)
  written_turn number w copy work.Failed e h = record { is = calm (quiet_settled store (record (without_work store number) { spill_failed = true }) w.id (quiet_rest store number)) }
  written_turn number w copy work.Fine e h = record { is = (backed_turn number w copy e h).is }
  written_turn number w copy work.Damaged e h = record { is = (backed_turn number w copy e h).is }

  read_turn : (number : ℕ) (w : WorkInFlight) (copy : Copy) (verdict : WorkVerdict) → ReadsBack s store number verdict → work_of store number ≡ Some w → w.writes ≡ false → at store.copies w.id ≡ Some copy
      → IsTurn s store (done (settled (set_copy (without_work store number) w.id (marked (read_mark verdict) copy)) w.id))
  read_turn number w copy work.Fine t is reads e =
      let rest = without_work store number in
      let d : Copy = record copy { state = Sealed } in
      settled_turn rest w.id d (quiet_rest store number) (put_turn s store rest rest.works w.id d (quiet_rest store number) (λ q h. h)
      (known_weight rest.works w.id copy d ((quiet_rest store number).writes w.id) e refl refl)
      (same copy e refl refl (λ f. true_false (sym f ∙ t w is reads))))
  read_turn number w copy work.Failed t is reads e =
      record { is = calm (quiet_settled store (set_copy (without_work store number) w.id (marked (read_mark work.Failed) copy)) w.id (quiet_put store (without_work store number) w.id copy (marked (read_mark work.Failed) copy) (quiet_rest store number) e (record { length = refl; backed = refl; stands = inr (refl, refl) }))) }
  read_turn number w copy work.Damaged t is reads e =
      record { is = calm (quiet_settled store (set_copy (without_work store number) w.id (marked (read_mark work.Damaged) copy)) w.id (quiet_put store (without_work store number) w.id copy (marked (read_mark work.Damaged) copy) (quiet_rest store number) e (record { length = refl; backed = refl; stands = inr (refl, refl) }))) }

  answer_turn : (number : ℕ) (verdict : WorkVerdict) → ReadsBack s store number verdict → IsTurn s store (answer store number verdict)
  answer_turn number verdict t =
      needing_turn s store _ _ _ (λ w is. needing_turn s store _ _ _ (λ copy e.
      let rest = without_work store number in
      elim w.writes as (λ b. w.writes ≡ b → IsTurn s store (cond b (written rest w copy verdict) (erasing rest (done (settled (set_copy rest w.id (marked (read_mark verdict) copy)) w.id))))) [
        | true ↦ λ writes. written_turn number w copy verdict e (found_any (λ work. work.number == number) (λ work. same_id w.id work.id && work.writes) store.works w is (ap (λ b. b && w.writes) (same_id-itself w.id) ∙ writes))
        | false ↦ λ reads. record { is = (read_turn number w copy verdict t is reads e).is }
      ] refl))

-- ---- messages

module _ (s : ObjectId → Bool) (store : Shape) (sh : IsShapeKept store) where
  with_fetch_turn : (id : ObjectId) (number : ℕ) (f : Copy → Fetch → Change) → ((copy : Copy) (fetch : Fetch) → fetch_of store id number ≡ Some (copy, fetch) → at store.copies id ≡ Some copy → copy.fetch ≡ Some fetch → IsTurn s store (f copy fetch)) → IsTurn s store (with_fetch store id number f)
  with_fetch_turn id number f k =
      elim (fetch_of store id number) as (λ o. fetch_of store id number ≡ o → IsTurn s store (option_map_or (λ p. f p.0 p.1) o (done store))) [
        | None ↦ λ _. at_rest s store (done store) (quiet_stays store)
        | Some p ↦ λ e. let found = fetch_found store id number p e in k p.0 p.1 e found.0 found.1
      ] refl

  located_turn : (id : ObjectId) (number : ℕ) (source : Option Source) → IsTurn s store (located store id number source)
  located_turn id number source = with_fetch_turn id number _ (λ copy fetch is e f. by_phase copy fetch fetch.phase e f refl)
    where
      placeless : (copy : Copy) (fetch : Fetch) (source : Option Source) → copy.offset ≡ None → (marked (mark.located fetch source) copy).offset ≡ None
      placeless copy fetch None e = e
      placeless copy fetch (Some _) e = e

      unsealed : (copy : Copy) (fetch : Fetch) (source : Option Source) → is_sealed copy.state ≡ false → is_sealed (marked (mark.located fetch source) copy).state ≡ false
      unsealed copy fetch None e = e
      unsealed copy fetch (Some _) e = e

      unbacked : (copy : Copy) (fetch : Fetch) (source : Option Source) → copy.backed ≡ None → (marked (mark.located fetch source) copy).backed ≡ None
      unbacked copy fetch None e = e
      unbacked copy fetch (Some _) e = e

      by_phase : (copy : Copy) (fetch : Fetch) (phase : Phase) → at store.copies id ≡ Some copy → copy.fetch ≡ Some fetch → fetch.phase ≡ phase → IsTurn s store (elim phase [ locating ↦ done (set_copy store id (marked (mark.located fetch source) copy)) | _ ↦ done store ])
      by_phase copy fetch locating e f p =
          let d = marked (mark.located fetch source) copy in
          record {
            is = puts id d (put_turn s store store store.works id d (quiet_stays store) (λ q w. w)
                (weightless store.works id d _ (unbacked copy fetch source (fetching_unbacked store sh id copy e fetch f)) (fetching_unwritten store sh id copy e fetch f))
                (nowhere (placeless copy fetch source (unpulled_nowhere store sh id copy e fetch f (ap is_pulling p))) (unsealed copy fetch source (fetching_unsealed store sh id copy e (fetch_fetching store sh id copy e fetch f)))));
          }
      by_phase copy fetch (sized _) e f p = at_rest s store (done store) (quiet_stays store)
      by_phase copy fetch (pulling _ _) e f p = at_rest s store (done store) (quiet_stays store)
      by_phase copy fetch (failed _) e f p = at_rest s store (done store) (quiet_stays store)

  failed_quiet : (id : ObjectId) (copy : Copy) (fetch : Fetch) (refusal : FetchFault) → at store.copies id ≡ Some copy → copy.fetch ≡ Some fetch → Quiet store (fetch_failed store id copy fetch refusal)
  failed_quiet id copy fetch refusal e f =
      quiet_set store id copy (record copy { offset = None; fetch = Some (record fetch { phase = failed refusal }) }) e
      (record { length = refl; backed = refl; stands = inr (refl, fetching_unsealed store sh id copy e (fetch_fetching store sh id copy e fetch f)) })

  chunk_taken_turn : (id : ObjectId) (copy : Copy) (fetch : Fetch) (source : ℕ) (missing : List ℕ) (verdict : ChunkVerdict) → (missing ≡ [] → is_taken verdict ≡ true → s id ≡ true) → at store.copies id ≡ Some copy → copy.fetch ≡ Some fetch → IsTurn s store (chunk_taken store id copy fetch source missing verdict)
  chunk_taken_turn id copy fetch source missing verdict t e f = by_verdict missing verdict t
    where
      gap : (missing : List ℕ) → IsTurn s store (done (set_copy store id (marked (mark.lacking fetch source missing) copy)))
      gap missing = record { is = calm (quiet_marked store id copy (record copy { fetch = Some (record fetch { phase = pulling source missing }) }) e refl refl refl refl) }

      whole : s id ≡ true → IsTurn s store (done (set_copy store id (record copy { state = Sealed; fetch = None })))
      whole t =
          let d : Copy = record copy { state = Sealed; fetch = None } in
          record {
            is = puts id d (put_turn s store store store.works id d (quiet_stays store) (λ q w. w)
                (subst (λ o. weight store.works id d ≤ weight_of store.works id o) (sym e) (weight_same store.works store.works id copy d refl refl (λ w. w)))
                (same copy e refl refl (λ h. true_false (sym h ∙ t))));
          }

      by_verdict : (missing : List ℕ) (verdict : ChunkVerdict) → (missing ≡ [] → is_taken verdict ≡ true → s id ≡ true) → IsTurn s store (chunk_taken store id copy fetch source missing verdict)
      by_verdict missing chunk.Ignored t = at_rest s store (done store) (quiet_stays store)
      by_verdict (i ∷ missing) chunk.Part t = gap (i ∷ missing)
      by_verdict (i ∷ missing) chunk.Whole t = gap (i ∷ missing)
      by_verdict (i ∷ missing) chunk.Damaged t = gap (i ∷ missing)
      by_verdict [] chunk.Part t = sending_turn s store _ _ (whole (t refl refl))
      by_verdict [] chunk.Whole t = sending_turn s store _ _ (whole (t refl refl))
      by_verdict [] chunk.Damaged t = at_rest s store (done (fetch_failed store id copy fetch fetch_fault.Damaged)) (failed_quiet id copy fetch fetch_fault.Damaged e f)

  chunk_turn : (id : ObjectId) (number index from : ℕ) (verdict : ChunkVerdict) → Completes s store id number index verdict → IsTurn s store (chunk_arrived store id number index from verdict)
  chunk_turn id number index from verdict t = with_fetch_turn id number _ (λ copy fetch is e f. by_phase copy fetch fetch.phase is e f refl)
    where
      by_phase : (copy : Copy) (fetch : Fetch) (phase : Phase) → fetch_of store id number ≡ Some (copy, fetch) → at store.copies id ≡ Some copy → copy.fetch ≡ Some fetch → fetch.phase ≡ phase → IsTurn s store (elim phase [
        | pulling source missing ↦ cond (from == source && is_missing missing index) (chunk_taken store id copy fetch source (filter (λ i. not (i == index)) missing) verdict) (done store)
        | _ ↦ done store
      ])
      by_phase copy fetch locating is e f p = at_rest s store (done store) (quiet_stays store)
      by_phase copy fetch (sized _) is e f p = at_rest s store (done store) (quiet_stays store)
      by_phase copy fetch (failed _) is e f p = at_rest s store (done store) (quiet_stays store)
      by_phase copy fetch (pulling source missing) is e f p =
          elim (from == source && is_missing missing index) as (λ b. IsTurn s store (cond b (chunk_taken store id copy fetch source (filter (λ i. not (i == index)) missing) verdict) (done store))) [
            | true ↦ chunk_taken_turn id copy fetch source (filter (λ i. not (i == index)) missing) verdict (t (copy, fetch) source missing is p) e f
            | false ↦ at_rest s store (done store) (quiet_stays store)
          ]

  not_here_turn : (id : ObjectId) (number from : ℕ) → IsTurn s store (not_here_arrived store id number from)
  not_here_turn id number from = with_fetch_turn id number _ (λ copy fetch is e f. by_phase copy fetch fetch.phase e f)
    where
      by_phase : (copy : Copy) (fetch : Fetch) (phase : Phase) → at store.copies id ≡ Some copy → copy.fetch ≡ Some fetch → IsTurn s store (elim phase [
        | pulling source missing ↦ cond (from == source) (sending (remove_source id source ∷ []) (done (fetch_failed store id copy fetch fetch_fault.Absent))) (done store)
        | _ ↦ done store
      ])
      by_phase copy fetch locating e f = at_rest s store (done store) (quiet_stays store)
      by_phase copy fetch (sized _) e f = at_rest s store (done store) (quiet_stays store)
      by_phase copy fetch (failed _) e f = at_rest s store (done store) (quiet_stays store)
      by_phase copy fetch (pulling source missing) e f =
          elim (from == source) as (λ b. IsTurn s store (cond b (sending (remove_source id source ∷ []) (done (fetch_failed store id copy fetch fetch_fault.Absent))) (done store))) [
            | true ↦ sending_turn s store _ _ (at_rest s store (done (fetch_failed store id copy fetch fetch_fault.Absent)) (failed_quiet id copy fetch fetch_fault.Absent e f))
            | false ↦ at_rest s store (done store) (quiet_stays store)
          ]

  sent_turn : (sent : List Sending) → IsTurn s store (sending sent (done store))
  sent_turn sent = sending_turn s store _ _ (at_rest s store (done store) (quiet_stays store))

  pull_answer_turn : (order : List ObjectId) (id : ObjectId) (copy : Copy) (state : CopyState) → at store.copies id ≡ Some copy → copy.state ≡ state → IsTurn s store (elim state [
    | Sealed ↦ sending (chunks id ∷ []) (done store)
    | Restoring ↦ done store
    | Away ↦ cond (is_none copy.fault) (quiet store (restore order store id copy)) (sending (not_here id ∷ []) (done store))
    | _ ↦ sending (not_here id ∷ []) (done store)
  ])
  pull_answer_turn order id copy Created e is = sent_turn _
  pull_answer_turn order id copy Fetching e is = sent_turn _
  pull_answer_turn order id copy Sealed e is = sent_turn _
  pull_answer_turn order id copy Restoring e is = at_rest s store (done store) (quiet_stays store)
  pull_answer_turn order id copy Away e is =
      elim (is_none copy.fault) as (λ b. IsTurn s store (cond b (quiet store (restore order store id copy)) (sending (not_here id ∷ []) (done store)))) [
        | true ↦ record { is = (restore_turn s store sh order id copy e is).is }
        | false ↦ sent_turn _
      ]

  pull_turn : (order : List ObjectId) (id : ObjectId) (matches : Bool) → IsTurn s store (pull_arrived order store id matches)
  pull_turn order id matches =
      elim (visible store id) as (λ o. visible store id ≡ o → IsTurn s store (option_map_or (λ copy. cond matches (pull_answer order store id copy) (sending (not_here id ∷ []) (done store))) o (sending (not_here id ∷ []) (done store)))) [
        | None ↦ λ _. sent_turn _
        | Some copy ↦ λ v. elim matches as (λ b. IsTurn s store (cond b (pull_answer order store id copy) (sending (not_here id ∷ []) (done store)))) [
          | true ↦ pull_answer_turn order id copy copy.state (visible_at store id copy v) refl
          | false ↦ sent_turn _
        ]
      ] refl

  -- ---- the operator

  begin_turn : (quota : Quota) → IsTurn s store (begin store quota)
  begin_turn quota =
      elim store.life as (λ l. store.life ≡ l → IsTurn s store (elim l [ not_begun ↦ checked store ((not (is_quota quota), BadSize) ∷ []) (done (record store { life = live; quota = quota })) | _ ↦ refused store Stale ])) [
        | not_begun ↦ λ e. checked_turn s store _ _ (λ _. record { is = empties (sh.dead (ap (λ l. elim l [ live ↦ true | _ ↦ false ]) e)).0 refl })
        | live ↦ λ _. refused_turn s store Stale
        | ended ↦ λ _. refused_turn s store Stale
      ] refl

  requota_turn : (quota : Quota) → IsTurn s store (requota store quota)
  requota_turn quota = checked_turn s store _ _ (λ fails. record { is = requotas refl refl refl (passed (fits_quota store quota) fails.1.0) })

  end_turn : IsTurn s store (end_job_here store)
  end_turn = sending_turn s store _ _ (record { is = empties refl refl })

  if_live_turn : (c : Change) → IsTurn s store c → IsTurn s store (if_live store c)
  if_live_turn c k = checked_turn s store _ _ (λ _. k)

  pub step_turn : (order : List ObjectId) (x : Judged) → MaySeal s store x → IsTurn s store (step order store x)
  step_turn order (judged.Begin quota) t = begin_turn quota
  step_turn order (judged.Requota quota) t = if_live_turn _ (requota_turn quota)
  step_turn order (judged.Call session c) t = call_turn s store sh order session c t
  step_turn order (judged.Answer number verdict) t = answer_turn s store sh number verdict t
  step_turn order (judged.Located id number source) t = if_live_turn _ (located_turn id number source)
  step_turn order (judged.Chunk id number index from verdict) t = if_live_turn _ (chunk_turn id number index from verdict t)
  step_turn order (judged.Pull id number matches) t = if_live_turn _ (pull_turn order id matches)
  step_turn order (judged.NotHere id number from) t = if_live_turn _ (not_here_turn id number from)
  step_turn order (judged.Received id n grantor depth) t = record { is = receives t refl refl refl }
  step_turn order (judged.Withdrawn id grantor depth) t = at_rest s store _ (step_calm order store (judged.Withdrawn id grantor depth) refl)
  step_turn order judged.End t = if_live_turn _ (erasing_turn s store store (end_job_here store) end_turn)

-- where all copies may be sealed
pub all_may : (store : Shape) (x : Judged) → MaySeal (λ _. true) store x
all_may store (judged.Begin quota) = tt
all_may store (judged.Requota quota) = tt
all_may store (judged.Call session c) = by_command c
  where
    by_command : (c : Command ℕ) → Seals (λ _. true) c
    by_command (command.Seal id) = refl
    by_command _ = tt
all_may store (judged.Answer number verdict) = by_verdict verdict
  where
    by_verdict : (verdict : WorkVerdict) → ReadsBack (λ _. true) store number verdict
    by_verdict work.Fine = λ w is reads. refl
    by_verdict _ = tt
all_may store (judged.Located id number source) = tt
all_may store (judged.Chunk id number index from verdict) = λ p source missing is phase none taken. refl
all_may store (judged.Pull id number matches) = tt
all_may store (judged.NotHere id number from) = tt
all_may store (judged.Received id n grantor depth) = λ q. refl
all_may store (judged.Withdrawn id grantor depth) = tt
all_may store judged.End = tt
