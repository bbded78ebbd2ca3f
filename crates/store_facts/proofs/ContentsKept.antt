-- Each step keeps the contents of a job's store: each resident copy has its bytes, and each sealed copy the
-- digest of its own.
use Rattle.std.proofs.Common.{◌≡◌, ℕ, ◌+◌, ◌-◌, ◌*◌, ◌/◌, ◌≤◌, ◌<◌, min, nat_lt, Bool, true, false, not, cond, ◌==◌, ◌&&◌, ◌||◌, List, [], ◌∷◌, ◌++◌, length, filter, Option, Some, None, is_some, unwrap_or, option_map, refl, sym, ap, subst, ◌∙◌, T, arith}
use Rattle.std.specs.Option.{option_map_or, option_and_then}
use Rattle.std.specs.List.{list_any, list_all}
use Rattle.std.specs.FinMap.{is_sorted}
use Rattle.std.proofs.lemmas.Bool.{ltb-true, ltb-false}
use Rattle.std.proofs.lemmas.Bool.Decides.{Decides-eqb}
use Rattle.std.proofs.lemmas.Slice.Eq.{bytes_eq-Decides}
use Rattle.std.specs.FinMap.Entries.{is_sorted-put}
use Rattle.sha2.specs.Sha256.{sha256}
use Rattle.obj_id.specs.declared.ids.ObjectId.{ObjectId}
use Rattle.obj_id.specs.declared.ids.JobNo.{JobNo}
use Rattle.obj_id.specs.declared.refusals.Refusal.{Refusal}
use Rattle.obj_id.specs.declared.messages.Digest.{Digest}
use Rattle.obj_id.specs.declared.messages.Location.{Location}
use Rattle.obj_id.specs.declared.messages.PeerMessage.{PeerMessage}
use Rattle.obj_id.specs.declared.messages.PeerMessage.TheVariants as peer
use Rattle.obj_id.specs.declared.messages.Arrival.TheVariants as arrival
use Rattle.obj_id.specs.declared.commands.Command.{Command}
use Rattle.obj_id.specs.declared.commands.Command.TheVariants as command
use Rattle.obj_id.specs.declared.commands.CopyState.{CopyState}
use Rattle.obj_id.specs.declared.commands.CopyState.TheVariants.{Created, Sealed, Restoring, Fetching, Away}
use Rattle.obj_id.specs.declared.works.DeviceAnswer.{DeviceAnswer}
use Rattle.obj_id.specs.declared.works.DeviceAnswer.TheVariants as device
use Rattle.obj_id.specs.declared.refusals.Refusal.TheVariants.{Absent}
use Rattle.obj_id.specs.Ids.{id_cmp, same_id}
use Rattle.private_store.specs.declared.inputs.Input.{Input}
use Rattle.private_store.specs.declared.inputs.Input.TheVariants as input
use Rattle.private_store.specs.declared.inputs.Judged.{Judged}
use Rattle.private_store.specs.declared.inputs.Judged.TheVariants as judged
use Rattle.private_store.specs.declared.inputs.ChunkVerdict.{ChunkVerdict}
use Rattle.private_store.specs.declared.inputs.ChunkVerdict.TheVariants as chunk
use Rattle.private_store.specs.declared.inputs.WorkVerdict.{WorkVerdict}
use Rattle.private_store.specs.declared.inputs.WorkVerdict.TheVariants as work
use Rattle.private_store.specs.rules.Tables.{at, with_entry}
use Rattle.private_store.specs.rules.Limits.{chunk_size}
use Rattle.private_store.specs.rules.Shape.{Sending, Copy, Change, Seen, Fetch, Phase, locating, sized, pulling, failed, WorkInFlight}
use Rattle.private_store.specs.rules.Marks.{chunk_count}
use Rattle.private_store.specs.rules.Copies.{is_sealed, is_created}
use Rattle.private_store.specs.rules.Change.{refused, done, sending}
use Rattle.private_store.specs.rules.Commands.{write, seal}
use Rattle.private_store.specs.rules.Events.{grants_of, work_of, fetch_of, is_missing}
use Rattle.private_store.specs.rules.Step.{step, owned}
use Rattle.private_store.specs.rules.Contents.{has_digest, is_read_back, work_verdict, read_verdict, write_verdict, chunk_verdict, pulled_verdict, gap_verdict, with_chunk, chunk_length, source_in, entry_elsewhere, is_locating, peer_arrival, View, bytes_at, digest_at, digest_of, overwritten, judge, without_payload, contents_after, brought}
use Rattle.private_store.specs.rules.Private.{view_step, no_store}
use Rattle.private_store.specs.laws.Invariants.{IsShapeKept, AreContentsKept, has_extent, has_read, is_restoring, are_gaps, is_fetching, is_pulling}
use Rattle.private_store.specs.rules.Room.{set_copy}
use Rattle.store_facts.proofs.Tests.{true_false, some_value, none_some, both_left, both_right, passed}
use Rattle.store_facts.proofs.Ids.{id_cmp-IsTotalOrder, same_id-equal, same_id-itself}
use Rattle.store_facts.proofs.Checks.{visible_at, checked_past, needing_has}
use Rattle.store_facts.proofs.Sound.{step_sound}
use Rattle.store_facts.proofs.Rows.{at-put, quiet_stays}
use Rattle.store_facts.proofs.Turns.{found_any, resident, calm, IsTurn}
use Rattle.store_facts.proofs.StepTurns.{is_taken, ReadsBack, sealing_turn, step_turn, MaySeal, fetch_found, fetch_fetching, fetching_unsealed}
use Rattle.store_facts.proofs.Filling.{IsFilled, refilled, refilled_kept}
use Rattle.store_facts.proofs.Bringing.{nothing, brings_none, brings_bytes, brings_digest, unsealed_filled, sealed_filled, digest_filled}
use Rattle.store_facts.proofs.RowContents.{steady_bytes, RowTurn, steady, bare, begun, length-overwritten, plain_filled}

-- the contents after the change are kept
record Fills (node : ℕ) (view : View) (x : Input) (y : Judged) (c : Change) : Type 0 where
  is : AreContentsKept c.shape (contents_after node view x y c.reply c.shape)

-- ---- digests and verdicts

digest_right : (bytes : List ℕ) (digest : Digest) → has_digest bytes digest ≡ true → digest ≡ digest_of bytes
digest_right bytes digest t = let e : sha256 bytes ≡ digest.0 = (bytes_eq-Decides (sha256 bytes) digest.0).0 t in λ i. record { 0 = sym e i }

fine : (b : Bool) → cond b work.Fine work.Damaged ≡ work.Fine → b ≡ true
fine true e = refl
fine false e = cc

-- ---- chunks

abbrev missing_of : Phase → List ℕ
missing_of (pulling source missing) = missing
missing_of _ = []

whole_part : (b : Bool) → cond b chunk.Whole chunk.Damaged ≡ chunk.Part → false ≡ true
whole_part true e = cc
whole_part false e = cc

chunk_fits : (n i m : ℕ) → i < (n + 65535) / 65536 → m ≡ min 65536 (n - 65536 * i) → 65536 * i + m ≤ n
chunk_fits n i m lt e = omega arith

missing_passes : (P : ℕ → Bool) (xs : List ℕ) (index : ℕ) → list_any (λ i. i == index) xs ≡ true → list_all P xs ≡ true → P index ≡ true
missing_passes P [] index t all = true_false t
missing_passes P (x ∷ xs) index t all =
    elim (x == index) as (λ b. (x == index) ≡ b → (b || list_any (λ i. i == index) xs) ≡ true → P index ≡ true) [
      | true ↦ λ is _. ap P (sym ((Decides-eqb x index).0 is)) ∙ both_left (P x) _ all
      | false ↦ λ _ t. missing_passes P xs index t (both_right (P x) _ all)
    ] refl t

-- ---- the inputs

-- an id that isn't this one
other_than : (id : ObjectId) → (other : ObjectId) × (same_id other id ≡ false)
other_than id =
    let other : ObjectId = record id { index = id.index + 1 } in (
      other,
      elim (same_id other id) as (λ b. same_id other id ≡ b → b ≡ false) [
        | true ↦ λ t. absurd (past id.index (ap (λ x. x.index) (same_id-equal other id t)))
        | false ↦ λ _. refl
      ] refl,
    )
  where
    past : (n : ℕ) → n + 1 ≡ n → ⊥
    past n e = omega arith

module _ (node : ℕ) (view : View) (sh : IsShapeKept view.shape) (h : AreContentsKept view.shape view.contents) where
  abbrev after : Judged → Change
  after y = step view.order view.shape y

  in_order : T (is_sorted id_cmp view.shape.copies)
  in_order = subst T (sym sh.by_id) tt

  still_sorted : (y : Judged) → T (is_sorted id_cmp (after y).shape.copies)
  still_sorted y = (step_sound view.shape in_order view.order y).is.in_order

  turn : (s : ObjectId → Bool) (y : Judged) → MaySeal s view.shape y → IsTurn s view.shape (after y)
  turn s y may = step_turn s view.shape sh view.order y may

  plain : (y : Judged) → MaySeal nothing view.shape y → AreContentsKept (after y).shape (refilled (after y).shape view.contents.bytes view.contents.digests view.contents.received (still_sorted y))
  plain y may = brings_none view sh h (after y) (turn nothing y may) (still_sorted y)

  -- ---- Write and Seal

  stays : AreContentsKept view.shape (refilled view.shape view.contents.bytes view.contents.digests view.contents.received in_order)
  stays = brings_none view sh h (done view.shape) (record { is = calm (quiet_stays view.shape) }) in_order

  created_stands : (id : ObjectId) (copy : Copy) → at view.shape.copies id ≡ Some copy → is_created copy.state ≡ true → is_some copy.offset ≡ true
  created_stands id copy e c = (sh.each id copy e).resident ∙ by_state copy.state c
    where
      by_state : (state : CopyState) → is_created state ≡ true → has_extent state copy.fetch ≡ true
      by_state Created c = refl
      by_state Sealed c = refl
      by_state Restoring c = refl
      by_state Fetching c = true_false c
      by_state Away c = true_false c

  created_unsealed : (state : CopyState) → is_created state ≡ true → is_sealed state ≡ false
  created_unsealed Created c = refl
  created_unsealed Sealed c = true_false c
  created_unsealed Restoring c = refl
  created_unsealed Fetching c = refl
  created_unsealed Away c = refl

  write_fills : (session : ℕ) (id : ObjectId) (offset : ℕ) (bytes : List ℕ) → let x = input.Call session (command.Write id offset bytes) in Fills node view x (judge node view x) (after (judge node view x))
  write_fills session id offset bytes =
      let x : Input = input.Call session (command.Write id offset bytes) in
      let y = judge node view x in
      let P : Change → Type 0 = Fills node view x y in
      let refuses : (r : Refusal) → P (refused view.shape r) = λ r. record { is = stays } in
      let inner : P (write view.shape id offset (length bytes)) =
      checked_past P view.shape _ _ refuses (λ _. needing_has P view.shape _ _ _ (refuses Absent) (λ copy v. checked_past P view.shape _ _ refuses (λ fails. record { is = written copy (visible_at view.shape id copy v) fails.0 fails.1.0 }))) in
      let owned_by : P (owned view.shape id (write view.shape id offset (length bytes))) = checked_past P view.shape _ _ refuses (λ _. inner) in
      checked_past P view.shape _ _ refuses (λ _. record { is = owned_by.is })
    where
      written : (copy : Copy) → at view.shape.copies id ≡ Some copy → not (is_created copy.state) ≡ false → nat_lt copy.length (offset + length bytes) ≡ false
          → AreContentsKept view.shape (refilled view.shape (with_entry view.contents.bytes id (overwritten (bytes_at view.contents.bytes id) offset bytes)) view.contents.digests view.contents.received in_order)
      written copy e c fits =
          let created : is_created copy.state ≡ true = passed (is_created copy.state) c in
          let stands = created_stands id copy e created in
          let long : length (bytes_at view.contents.bytes id) ≡ copy.length = (h.each id copy e).bytes stands in
          let within : offset + length bytes ≤ copy.length = ltb-false copy.length (offset + length bytes) fits in
          let room : offset + length bytes ≤ length (bytes_at view.contents.bytes id) = subst (λ n. offset + length bytes ≤ n) (sym long) within in
          brings_bytes view sh h nothing id (overwritten (bytes_at view.contents.bytes id) offset bytes) (λ q f. refl) (λ id. (id, refl)) (done view.shape) (record { is = calm (quiet_stays view.shape) }) in_order
          (λ d t. unsealed_filled view sh h id (overwritten (bytes_at view.contents.bytes id) offset bytes) copy d e stands (created_unsealed copy.state created) (length-overwritten (bytes_at view.contents.bytes id) offset bytes room ∙ long) t)

  unfold_sent : (x : Input) (y : Judged) (sent : List Sending) (c : Change) → Fills node view x y c → Fills node view x y (sending sent c)
  unfolding sending
  unfold_sent x y sent c k = record { is = k.is }

  seal_fills : (session : ℕ) (id : ObjectId) → let x = input.Call session (command.Seal id) in Fills node view x (judge node view x) (after (judge node view x))
  seal_fills session id =
      let x : Input = input.Call session (command.Seal id) in
      let y = judge node view x in
      let P : Change → Type 0 = Fills node view x y in
      let refuses : (r : Refusal) → P (refused view.shape r) = λ r. record { is = stays } in
      let inner : P (seal view.shape id) =
      needing_has P view.shape _ _ _ (refuses Absent) (λ copy v. checked_past P view.shape _ _ refuses (λ fails. unfold_sent x y _ _ (record { is = sealed copy (visible_at view.shape id copy v) fails.0 }))) in
      let owned_by : P (owned view.shape id (seal view.shape id)) = checked_past P view.shape _ _ refuses (λ _. inner) in
      checked_past P view.shape _ _ refuses (λ _. record { is = owned_by.is })
    where
      sealed : (copy : Copy) → at view.shape.copies id ≡ Some copy → not (is_created copy.state) ≡ false
          → let c = done (set_copy view.shape id (record copy { state = Sealed })) in
          AreContentsKept c.shape (refilled c.shape view.contents.bytes (with_entry view.contents.digests id (digest_of (bytes_at view.contents.bytes id))) view.contents.received (is_sorted-put id_cmp id_cmp-IsTotalOrder id (record copy { state = Sealed }) view.shape.copies in_order))
      sealed copy e c =
          let s : ObjectId → Bool = λ q. same_id q id in
          let created : is_created copy.state ≡ true = passed (is_created copy.state) c in
          let stands = created_stands id copy e created in
          brings_digest view sh h s id (digest_of (bytes_at view.contents.bytes id)) (λ q f. f) (λ _. other_than id) (done (set_copy view.shape id (record copy { state = Sealed }))) (sealing_turn s view.shape sh id copy (same_id-itself id) e)
          (is_sorted-put id_cmp id_cmp-IsTotalOrder id (record copy { state = Sealed }) view.shape.copies in_order) (λ d t. by_turn d stands t)
        where
          by_turn : (d : Copy) → is_some copy.offset ≡ true → RowTurn (λ q. same_id q id) view.shape id d → IsFilled (at view.contents.bytes id) (Some (digest_of (bytes_at view.contents.bytes id))) d
          by_turn d stands (steady b is len offset state) =
              let row : b ≡ copy = some_value b copy (sym is ∙ e) in
              let there : is_some b.offset ≡ true = ap (λ x. is_some x.offset) row ∙ stands in
              let bytes = steady_bytes view.shape view.contents sh h id b d is len there in
              record {
                long = λ r. ap length bytes ∙ (h.each id b is).bytes there ∙ sym len;
                stands = λ t. ap is_some offset ∙ there;
                right = λ t. ap digest_of (sym bytes);
              }
          by_turn d stands (bare none unsealed) = record {
            long = λ r. true_false (sym (ap is_some none) ∙ r);
            stands = λ t. true_false (sym unsealed ∙ t);
            right = λ t. true_false (sym unsealed ∙ t);
          }
          by_turn d stands (begun unsealed absent) = true_false (sym absent ∙ ap resident e ∙ stands)

  -- ---- device answers

  reads_back : (s : ObjectId → Bool) (number : ℕ) (v : WorkVerdict) → ((w : WorkInFlight) → work_of view.shape number ≡ Some w → w.writes ≡ false → v ≡ work.Fine → s w.id ≡ true) → ReadsBack s view.shape number v
  reads_back s number work.Fine k = λ w is reads. k w is reads refl
  reads_back s number work.Failed k = tt
  reads_back s number work.Damaged k = tt

  verdict_of_read : (number : ℕ) (a : DeviceAnswer) (w : WorkInFlight) → work_of view.shape number ≡ Some w → w.writes ≡ false → work_verdict view number a ≡ read_verdict view w.id a
  verdict_of_read number a w is reads =
      ap (λ o. option_map_or (λ w. cond w.writes (write_verdict a) (read_verdict view w.id a)) o work.Failed) is ∙ ap (λ b. cond b (write_verdict a) (read_verdict view w.id a)) reads

  -- bytes that were read back rightly are the copy's
  own_bytes : (id : ObjectId) (bytes : List ℕ) → is_read_back view id bytes ≡ true → (c : Copy) × (at view.shape.copies id ≡ Some c) × (length bytes ≡ c.length) × (digest_at view.contents.digests id ≡ digest_of bytes)
  own_bytes id bytes t = by_copy (at view.shape.copies id) refl t
    where
      by_copy : (o : Option Copy) → at view.shape.copies id ≡ o → option_map_or (λ copy. length bytes == copy.length && has_digest bytes (digest_at view.contents.digests id)) o false ≡ true
          → (c : Copy) × (at view.shape.copies id ≡ Some c) × (length bytes ≡ c.length) × (digest_at view.contents.digests id ≡ digest_of bytes)
      by_copy None e t = true_false t
      by_copy (Some c) e t = (c, e, (Decides-eqb (length bytes) c.length).0 (both_left _ _ t), digest_right bytes (digest_at view.contents.digests id) (both_right (length bytes == c.length) _ t))

  restoring_stands : (number : ℕ) (w : WorkInFlight) (c : Copy) → work_of view.shape number ≡ Some w → w.writes ≡ false → at view.shape.copies w.id ≡ Some c → is_some c.offset ≡ true
  restoring_stands number w c is reads e =
      let k = sh.each w.id c e in
      let read : has_read view.shape.works w.id ≡ true = found_any (λ work. work.number == number) (λ work. same_id w.id work.id && not work.writes) view.shape.works w is (ap (λ b. b && not w.writes) (same_id-itself w.id) ∙ ap not reads) in
      k.resident ∙ by_state c.state (sym k.restored ∙ read)
    where
      by_state : (state : CopyState) → is_restoring state ≡ true → has_extent state c.fetch ≡ true
      by_state Created t = refl
      by_state Sealed t = refl
      by_state Restoring t = refl
      by_state Fetching t = true_false t
      by_state Away t = true_false t

  -- the contents once bytes were read back
  abbrev ReadTaken : ℕ → Option (ObjectId × List ℕ) → Type 0
  ReadTaken number o =
      let y = judged.Answer number work.Fine in
      AreContentsKept (after y).shape (refilled (after y).shape (brought view.contents.bytes o) view.contents.digests view.contents.received (still_sorted y))

  read_fills : (number : ℕ) (bytes : List ℕ) (v : WorkVerdict) → work_verdict view number (device.Bytes bytes) ≡ v → Fills node view (input.Answer number (device.Bytes bytes)) (judged.Answer number v) (after (judged.Answer number v))
  read_fills number bytes work.Failed e = record { is = plain (judged.Answer number work.Failed) tt }
  read_fills number bytes work.Damaged e = record { is = plain (judged.Answer number work.Damaged) tt }
  read_fills number bytes work.Fine e = record { is = by_work (work_of view.shape number) refl }
    where
      by_writes : (w : WorkInFlight) → work_of view.shape number ≡ Some w → (b : Bool) → w.writes ≡ b → ReadTaken number (cond b None (Some (w.id, bytes)))
      by_writes w is true writes = plain (judged.Answer number work.Fine) (λ v other reads. true_false (sym reads ∙ ap (λ x. x.writes) (some_value v w (sym other ∙ is)) ∙ writes))
      by_writes w is false reads =
          let s : ObjectId → Bool = λ q. same_id q w.id in
          let own = own_bytes w.id bytes (fine (is_read_back view w.id bytes) (sym (verdict_of_read number (device.Bytes bytes) w is reads) ∙ e)) in
          let y = judged.Answer number work.Fine in
          let may : ReadsBack s view.shape number work.Fine = λ v other _. ap (λ x. same_id x.id w.id) (some_value v w (sym other ∙ is)) ∙ same_id-itself w.id in
          brings_bytes view sh h s w.id bytes (λ q f. f) (λ _. other_than w.id) (after y) (turn s y may) (still_sorted y)
          (λ d t. sealed_filled view sh h s w.id bytes own.0 d own.1 (restoring_stands number w own.0 is reads own.1) own.2 own.3 t)

      by_work : (o : Option WorkInFlight) → work_of view.shape number ≡ o → ReadTaken number (option_and_then (λ w. cond w.writes None (Some (w.id, bytes))) o)
      by_work None none = plain (judged.Answer number work.Fine) (λ w is reads. none_some w (sym none ∙ is))
      by_work (Some w) is = by_writes w is w.writes refl

  answer_plain : (number : ℕ) (a : DeviceAnswer) → ((w : WorkInFlight) → read_verdict view w.id a ≡ work.Failed) → let y = judge node view (input.Answer number a) in AreContentsKept (after y).shape (refilled (after y).shape view.contents.bytes view.contents.digests view.contents.received (still_sorted y))
  answer_plain number a none =
      plain (judge node view (input.Answer number a)) (reads_back nothing number (work_verdict view number a) (λ w is reads fine. failed_fine (sym (none w) ∙ sym (verdict_of_read number a w is reads) ∙ fine)))
    where
      failed_fine : work.Failed ≡ work.Fine → false ≡ true
      failed_fine e = cc

  answer_fills : (number : ℕ) (a : DeviceAnswer) → let x = input.Answer number a in Fills node view x (judge node view x) (after (judge node view x))
  answer_fills number device.Done = record { is = answer_plain number device.Done (λ w. refl) }
  answer_fills number (device.Bytes bytes) = read_fills number bytes (work_verdict view number (device.Bytes bytes)) refl
  answer_fills number device.Failed = record { is = answer_plain number device.Failed (λ w. refl) }

  -- ---- chunks

  -- what a chunk that is taken fills
  record Taken (id : ObjectId) (number index : ℕ) (bytes : List ℕ) (v : ChunkVerdict) : Type 0 where
    copy : Copy
    fetch : Fetch
    source : ℕ
    missing : List ℕ
    found : fetch_of view.shape id number ≡ Some (copy, fetch)
    phase : fetch.phase ≡ pulling source missing
    gap : is_missing missing index ≡ true
    long : length bytes ≡ chunk_length copy.length index
    verdict : gap_verdict view id index bytes (filter (λ i. not (i == index)) missing) ≡ v

  taken : (id : ObjectId) (number index : ℕ) (bytes : List ℕ) (from : ℕ) (v : ChunkVerdict) → is_taken v ≡ true → chunk_verdict view id number index bytes from ≡ v → Taken id number index bytes v
  taken id number index bytes from v t e = by_fetch (fetch_of view.shape id number) refl e
    where
      ignored : {C : Type 0} → chunk.Ignored ≡ v → C
      ignored i = true_false (ap is_taken i ∙ t)

      by_test : (copy : Copy) (fetch : Fetch) (source : ℕ) (missing : List ℕ) → fetch_of view.shape id number ≡ Some (copy, fetch) → fetch.phase ≡ pulling source missing
          → (b : Bool) → (from == source && is_missing missing index && length bytes == chunk_length copy.length index) ≡ b
          → cond b (gap_verdict view id index bytes (filter (λ i. not (i == index)) missing)) chunk.Ignored ≡ v → Taken id number index bytes v
      by_test copy fetch source missing is p true test e = record {
        copy = copy;
        fetch = fetch;
        source = source;
        missing = missing;
        found = is;
        phase = p;
        gap = both_right (from == source) _ (both_left (from == source && is_missing missing index) _ test);
        long = (Decides-eqb (length bytes) (chunk_length copy.length index)).0 (both_right (from == source && is_missing missing index) _ test);
        verdict = e;
      }
      by_test copy fetch source missing is p false test e = ignored e

      by_phase : (copy : Copy) (fetch : Fetch) (phase : Phase) → fetch_of view.shape id number ≡ Some (copy, fetch) → fetch.phase ≡ phase → pulled_verdict view id index bytes from copy phase ≡ v → Taken id number index bytes v
      by_phase copy fetch locating is p e = ignored e
      by_phase copy fetch (sized _) is p e = ignored e
      by_phase copy fetch (failed _) is p e = ignored e
      by_phase copy fetch (pulling source missing) is p e = by_test copy fetch source missing is p (from == source && is_missing missing index && length bytes == chunk_length copy.length index) refl e

      by_fetch : (o : Option (Copy × Fetch)) → fetch_of view.shape id number ≡ o → option_map_or (λ p. pulled_verdict view id index bytes from p.0 p.1.phase) o chunk.Ignored ≡ v → Taken id number index bytes v
      by_fetch None is e = ignored e
      by_fetch (Some p) is e = by_phase p.0 p.1 p.1.phase is refl e

  pulling_stands : (id : ObjectId) (copy : Copy) (fetch : Fetch) (source : ℕ) (missing : List ℕ) → at view.shape.copies id ≡ Some copy → copy.fetch ≡ Some fetch → fetch.phase ≡ pulling source missing → is_some copy.offset ≡ true
  pulling_stands id copy fetch source missing e f p =
      (sh.each id copy e).resident ∙ ap (has_extent copy.state) f ∙ by_state copy.state (fetch_fetching view.shape sh id copy e fetch f)
    where
      by_state : (state : CopyState) → is_fetching state ≡ true → has_extent state (Some fetch) ≡ true
      by_state Created t = true_false t
      by_state Sealed t = true_false t
      by_state Restoring t = true_false t
      by_state Fetching t = ap is_pulling p
      by_state Away t = true_false t

  -- the chunk lies within the copy
  chunk_within : (id : ObjectId) (copy : Copy) (fetch : Fetch) (source : ℕ) (missing : List ℕ) (index m : ℕ) → at view.shape.copies id ≡ Some copy → copy.fetch ≡ Some fetch → fetch.phase ≡ pulling source missing → is_missing missing index ≡ true → m ≡ chunk_length copy.length index
      → chunk_size * index + m ≤ copy.length
  chunk_within id copy fetch source missing index m e f p gap long =
      let gaps : are_gaps copy.length (pulling source missing) ≡ true = ap (are_gaps copy.length) (sym p) ∙ ap (λ o. option_map_or (λ f. are_gaps copy.length f.phase) o true) (sym f) ∙ (sh.each id copy e).gaps in
      let all : list_all (λ i. nat_lt i (chunk_count copy.length)) missing ≡ true = both_right (nat_lt 0 (length missing)) _ (both_left _ _ (both_left _ _ gaps)) in
      chunk_fits copy.length index m (ltb-true index (chunk_count copy.length) (missing_passes (λ i. nat_lt i (chunk_count copy.length)) missing index gap all)) long

  -- the copy's bytes with the chunk
  chunk_long : (id : ObjectId) (index : ℕ) (bytes : List ℕ) (copy : Copy) → at view.shape.copies id ≡ Some copy → is_some copy.offset ≡ true → chunk_size * index + length bytes ≤ copy.length → length (with_chunk view id index bytes) ≡ copy.length
  chunk_long id index bytes copy e stands within =
      let long : length (bytes_at view.contents.bytes id) ≡ copy.length = (h.each id copy e).bytes stands in
      length-overwritten (bytes_at view.contents.bytes id) (chunk_size * index) bytes (subst (λ n. chunk_size * index + length bytes ≤ n) (sym long) within) ∙ long

  chunk_fills : (from : ℕ) (id : ObjectId) (number index : ℕ) (bytes : List ℕ) (v : ChunkVerdict) → chunk_verdict view id number index bytes from ≡ v
      → let y = judged.Chunk id number index from v in Fills node view (input.Arrive (arrival.FromPeer from (peer.Chunk id number index bytes))) y (after y)
  chunk_fills from id number index bytes chunk.Ignored e = record { is = plain (judged.Chunk id number index from chunk.Ignored) (λ p source missing is phase none t. t) }
  chunk_fills from id number index bytes chunk.Damaged e = record { is = plain (judged.Chunk id number index from chunk.Damaged) (λ p source missing is phase none t. t) }
  chunk_fills from id number index bytes chunk.Part e =
      let y = judged.Chunk id number index from chunk.Part in
      let k = taken id number index bytes from chunk.Part refl e in
      let found = fetch_found view.shape id number (k.copy, k.fetch) k.found in
      let stands = pulling_stands id k.copy k.fetch k.source k.missing found.0 found.1 k.phase in
      let within = chunk_within id k.copy k.fetch k.source k.missing index (length bytes) found.0 found.1 k.phase k.gap k.long in
      record {
        is = brings_bytes view sh h nothing id (with_chunk view id index bytes) (λ q f. refl) (λ id. (id, refl)) (after y)
            (turn nothing y (λ p source missing is phase none t. not_last k p source missing is phase none)) (still_sorted y)
            (λ d t. unsealed_filled view sh h id (with_chunk view id index bytes) k.copy d found.0 stands (fetching_unsealed view.shape sh id k.copy found.0 (fetch_fetching view.shape sh id k.copy found.0 k.fetch found.1)) (chunk_long id index bytes k.copy found.0 stands within) t);
      }
    where
      not_last : (k : Taken id number index bytes chunk.Part) (p : Copy × Fetch) (source : ℕ) (missing : List ℕ) → fetch_of view.shape id number ≡ Some p → p.1.phase ≡ pulling source missing → filter (λ i. not (i == index)) missing ≡ [] → false ≡ true
      not_last k p source missing is phase none =
          let same : ◌≡◌ {A = Copy × Fetch} (k.copy, k.fetch) p = some_value (k.copy, k.fetch) p (sym k.found ∙ is) in
          let phases : pulling k.source k.missing ≡ pulling source missing = sym k.phase ∙ ap (λ x. x.1.phase) same ∙ phase in
          whole_part (has_digest (with_chunk view id index bytes) (digest_at view.contents.digests id))
          (sym (ap (gap_verdict view id index bytes) (ap (λ m. filter (λ i. not (i == index)) m) (ap missing_of phases) ∙ none)) ∙ k.verdict)
  chunk_fills from id number index bytes chunk.Whole e =
      let s : ObjectId → Bool = λ q. same_id q id in
      let y = judged.Chunk id number index from chunk.Whole in
      let k = taken id number index bytes from chunk.Whole refl e in
      let found = fetch_found view.shape id number (k.copy, k.fetch) k.found in
      let stands = pulling_stands id k.copy k.fetch k.source k.missing found.0 found.1 k.phase in
      let within = chunk_within id k.copy k.fetch k.source k.missing index (length bytes) found.0 found.1 k.phase k.gap k.long in
      record {
        is = brings_bytes view sh h s id (with_chunk view id index bytes) (λ q f. f) (λ _. other_than id) (after y)
            (turn s y (λ p source missing is phase none t. same_id-itself id)) (still_sorted y)
            (λ d t. sealed_filled view sh h s id (with_chunk view id index bytes) k.copy d found.0 stands (chunk_long id index bytes k.copy found.0 stands within)
            (digest_right (with_chunk view id index bytes) (digest_at view.contents.digests id) (whole_right (filter (λ i. not (i == index)) k.missing) k.verdict)) t);
      }
    where
      whole_right : (missing : List ℕ) → gap_verdict view id index bytes missing ≡ chunk.Whole → has_digest (with_chunk view id index bytes) (digest_at view.contents.digests id) ≡ true
      whole_right [] e = by_test (has_digest (with_chunk view id index bytes) (digest_at view.contents.digests id)) e
        where
          by_test : (b : Bool) → cond b chunk.Whole chunk.Damaged ≡ chunk.Whole → b ≡ true
          by_test true e = refl
          by_test false e = true_false (ap is_taken e)
      whole_right (_ ∷ _) e = cc

  -- ---- other messages, and what others grant

  -- the contents once a source is known
  abbrev LocatedTaken : ObjectId → ℕ → List Location → Option (ObjectId × Digest) → Type 0
  LocatedTaken id number entries o =
      let y = judged.Located id number (source_in node entries) in
      AreContentsKept (after y).shape (refilled (after y).shape view.contents.bytes (brought view.contents.digests o) view.contents.received (still_sorted y))

  located_fills : (id : ObjectId) (number : ℕ) (entries : List Location) → let x = input.Arrive (arrival.Located id number entries) in Fills node view x (judge node view x) (after (judge node view x))
  located_fills id number entries = record { is = by_fetch (fetch_of view.shape id number) refl }
    where
      by_entry : (p : Copy × Fetch) → fetch_of view.shape id number ≡ Some p → (o : Option Location) → LocatedTaken id number entries (option_map (λ entry. (id, entry.digest)) o)
      by_entry p is None = plain (judged.Located id number (source_in node entries)) tt
      by_entry p is (Some entry) =
          let y = judged.Located id number (source_in node entries) in
          let found = fetch_found view.shape id number p is in
          brings_digest view sh h nothing id entry.digest (λ q f. refl) (λ id. (id, refl)) (after y) (turn nothing y tt) (still_sorted y)
          (λ d t. digest_filled view sh h id entry.digest p.0 d found.0 (fetching_unsealed view.shape sh id p.0 found.0 (fetch_fetching view.shape sh id p.0 found.0 p.1 found.1)) t)

      by_fetch : (o : Option (Copy × Fetch)) → fetch_of view.shape id number ≡ o → LocatedTaken id number entries (option_and_then (λ p. cond (is_locating p.1.phase) (option_map (λ entry. (id, entry.digest)) (entry_elsewhere node entries)) None) o)
      by_fetch None is = plain (judged.Located id number (source_in node entries)) tt
      by_fetch (Some p) is =
          elim (is_locating p.1.phase) as (λ b. LocatedTaken id number entries (cond b (option_map (λ entry. (id, entry.digest)) (entry_elsewhere node entries)) None)) [
            | true ↦ by_entry p is (entry_elsewhere node entries)
            | false ↦ plain (judged.Located id number (source_in node entries)) tt
          ]

  received_fills : (id : ObjectId) (bytes : List ℕ) (grantor : JobNo) (depth : ℕ) → let x = input.Received id bytes grantor depth in Fills node view x (judge node view x) (after (judge node view x))
  received_fills id bytes grantor depth = record {
    is = refilled_kept (after (judged.Received id (length bytes) grantor depth)).shape view.contents.bytes view.contents.digests (with_entry view.contents.received id bytes) in_order
        (λ q d e. plain_filled view.shape view.contents sh h nothing q d refl (steady d e refl refl (λ _. refl)))
        seen;
  }
    where
      seen : (q : ObjectId) (was : Seen) → at (after (judged.Received id (length bytes) grantor depth)).shape.received q ≡ Some was → length (bytes_at (with_entry view.contents.received id bytes) q) ≡ was.length
      seen q was e =
          let new : Seen = record { length = length bytes; grants = grants_of view.shape id ++ record { grantor = grantor.0; depth = depth } ∷ [] } in
          ap (λ o. length (unwrap_or o [])) (at-put view.contents.received id bytes q)
          ∙ elim (same_id q id) as (λ b. cond b (Some new) (at view.shape.received q) ≡ Some was → length (unwrap_or (cond b (Some bytes) (at view.contents.received q)) []) ≡ was.length) [
            | true ↦ λ e. ap (λ x. x.length) (some_value new was e)
            | false ↦ λ e. h.received q was e
          ] (sym (at-put view.shape.received id new q) ∙ e)

  -- ---- all

  called_fills : (session : ℕ) (c : Command (List ℕ)) → let x = input.Call session c in Fills node view x (judge node view x) (after (judge node view x))
  called_fills session (command.Write id offset bytes) = write_fills session id offset bytes
  called_fills session (command.Seal id) = seal_fills session id
  called_fills session c = record { is = plain (judged.Call session (without_payload c)) tt }

  peer_fills : (from : ℕ) (m : PeerMessage) → let x = input.Arrive (arrival.FromPeer from m) in Fills node view x (judge node view x) (after (judge node view x))
  peer_fills from (peer.Pull id number n digest indexes) = record { is = plain (peer_arrival view from (peer.Pull id number n digest indexes)) tt }
  peer_fills from (peer.Chunk id number index bytes) = chunk_fills from id number index bytes (chunk_verdict view id number index bytes from) refl
  peer_fills from (peer.NotHere id number) = record { is = plain (judged.NotHere id number from) tt }

  fills : (x : Input) → Fills node view x (judge node view x) (after (judge node view x))
  fills (input.Begin quota) = record { is = plain (judged.Begin quota) tt }
  fills (input.Requota quota) = record { is = plain (judged.Requota quota) tt }
  fills (input.Call session c) = called_fills session c
  fills (input.Answer number a) = answer_fills number a
  fills (input.Arrive (arrival.Located id number entries)) = located_fills id number entries
  fills (input.Arrive (arrival.FromPeer from m)) = peer_fills from m
  fills (input.Received id bytes grantor depth) = received_fills id bytes grantor depth
  fills (input.Withdrawn id grantor depth) = record { is = plain (judged.Withdrawn id grantor depth) tt }
  fills input.End = record { is = plain judged.End tt }

-- the contents stay the copies' own
pub contents_keep : (node : ℕ) (view : View) (x : Input) → IsShapeKept view.shape → AreContentsKept view.shape view.contents
    → AreContentsKept (view_step node view x).view.shape (view_step node view x).view.contents
contents_keep node view x shape kept = (fills node view shape kept x).is

pub no_contents_kept : (job : ℕ) → AreContentsKept (no_store job).shape (no_store job).contents
no_contents_kept job = record {
  each = λ id copy e. none_some copy e;
  resident = λ id e. true_false e;
  received = λ id seen e. none_some seen e;
}
