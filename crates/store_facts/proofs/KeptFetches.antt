-- The messages of a fetch, and those to its source, keep the store.
use Rattle.std.proofs.Common.{◌≡◌, ℕ, Bool, true, false, not, cond, ◌&&◌, ◌==◌, List, [], ◌∷◌, length, filter, Option, Some, None, is_some, is_none, refl, sym, ap, ◌∙◌, arith}
use Rattle.std.specs.Prelude.{nat_le, nat_lt, option_and_then}
use Rattle.std.specs.Option.{option_map_or}
use Rattle.std.specs.List.{list_all}
use Rattle.std.proofs.lemmas.Bool.{leb-true, ltb-true, lt-ltb}
use Rattle.obj_id.specs.declared.ids.ObjectId.{ObjectId}
use Rattle.obj_id.specs.declared.commands.CopyState.{CopyState}
use Rattle.obj_id.specs.declared.commands.CopyState.TheVariants.{Created, Sealed, Restoring, Fetching, Away}
use Rattle.private_store.specs.declared.inputs.Source.{Source}
use Rattle.private_store.specs.declared.inputs.ChunkVerdict.{ChunkVerdict}
use Rattle.private_store.specs.declared.inputs.ChunkVerdict.TheVariants as chunk
use Rattle.private_store.specs.rules.Limits.{longest_object}
use Rattle.private_store.specs.rules.Tables.{at}
use Rattle.private_store.specs.declared.faults.FetchFault.{FetchFault}
use Rattle.private_store.specs.declared.faults.FetchFault.TheVariants as fetch_fault
use Rattle.private_store.specs.rules.Shape.{Copy, Shape, Change, Fetch, Phase, locating, sized, pulling, failed, chunks, not_here, remove_source}
use Rattle.private_store.specs.rules.Marks.{chunk_count, marked}
use Rattle.private_store.specs.rules.Marks as mark
use Rattle.private_store.specs.rules.Copies.{visible}
use Rattle.private_store.specs.rules.Room.{set_copy}
use Rattle.private_store.specs.rules.Change.{done, sending}
use Rattle.private_store.specs.rules.Commands.{restore}
use Rattle.private_store.specs.rules.Events.{with_fetch, fetch_of, located, fetch_failed, chunk_taken, chunk_arrived, is_missing, not_here_arrived, quiet, pull_answer, pull_arrived}
use Rattle.private_store.specs.laws.Invariants.{IsOrderOfUse, IsCopyKept, are_gaps, has_extent, is_pulling}
use Rattle.store_facts.proofs.KeptCopy.{fetching_is, none_of}
use Rattle.store_facts.proofs.KeptLists.{all-filter}
use Rattle.store_facts.proofs.KeptRows.{IsLiveKept}
use Rattle.store_facts.proofs.KeptGet.{restore_keeps}
use Rattle.store_facts.proofs.KeptChanges.{visible_at, fetched_on, arrived_copy}
use Rattle.store_facts.proofs.KeptStore.{Keeps, same_keeps, sending_keeps, set_keeps, kept_copy}
use Rattle.store_facts.proofs.Tests.{both, both_left, both_right, some_value, true_false}

-- the copy and the fetch that a message is of
record IsFetchOf (store : Shape) (id : ObjectId) (copy : Copy) (fetch : Fetch) : Type 0 where
  is : at store.copies id ≡ Some copy
  fetched : copy.fetch ≡ Some fetch

fetch_at : (store : Shape) (id : ObjectId) (number : ℕ) (p : Copy × Fetch) → fetch_of store id number ≡ Some p → IsFetchOf store id p.0 p.1
fetch_at store id number p e = by_copy (at store.copies id) refl e
  where
    by_number : (copy : Copy) (fetch : Fetch) → at store.copies id ≡ Some copy → copy.fetch ≡ Some fetch → (b : Bool) → ◌≡◌ {A = Option (Copy × Fetch)} (cond b (Some (copy, fetch)) None) (Some p) → IsFetchOf store id p.0 p.1
    by_number copy fetch a f true e =
        let same : ◌≡◌ {A = Copy × Fetch} (copy, fetch) p = some_value {A = Copy × Fetch} (copy, fetch) p e in
        record { is = a ∙ ap (λ x. Some x.0) same; fetched = sym (ap (λ x. x.0.fetch) same) ∙ f ∙ ap (λ x. Some x.1) same }
    by_number copy fetch a f false e = true_false (ap is_some e)

    by_fetch : (copy : Copy) → at store.copies id ≡ Some copy → (o : Option Fetch) → copy.fetch ≡ o
        → ◌≡◌ {A = Option (Copy × Fetch)} (option_and_then (λ fetch. cond (fetch.number == number) (Some (copy, fetch)) None) o) (Some p) → IsFetchOf store id p.0 p.1
    by_fetch copy a None f e = true_false (ap is_some e)
    by_fetch copy a (Some fetch) f e = by_number copy fetch a f (fetch.number == number) e

    by_copy : (o : Option Copy) → at store.copies id ≡ o
        → ◌≡◌ {A = Option (Copy × Fetch)} (option_and_then (λ copy. option_and_then (λ fetch. cond (fetch.number == number) (Some (copy, fetch)) None) copy.fetch) o) (Some p) → IsFetchOf store id p.0 p.1
    by_copy None a e = true_false (ap is_some e)
    by_copy (Some copy) a e = by_fetch copy a copy.fetch refl e

module _ {store : Shape} (h : IsLiveKept store) where
  with_fetch_keeps : (id : ObjectId) (number : ℕ) (f : Copy → Fetch → Change) → ((copy : Copy) (fetch : Fetch) → IsFetchOf store id copy fetch → Keeps (f copy fetch)) → Keeps (with_fetch store id number f)
  with_fetch_keeps id number f k =
      elim (fetch_of store id number) as (λ o. fetch_of store id number ≡ o → Keeps (option_map_or (λ p. f p.0 p.1) o (done store))) [
        | None ↦ λ _. same_keeps h (done store) refl
        | Some p ↦ λ e. k p.0 p.1 (fetch_at store id number p e)
      ] refl

  module _ (id : ObjectId) (copy : Copy) (fetch : Fetch) (f : IsFetchOf store id copy fetch) where
    kept : IsCopyKept store.job store.works store.given store.ended_tasks id copy
    kept = kept_copy h id copy f.is

    on_its_way : copy.state ≡ Fetching
    on_its_way = fetching_is copy.state (sym kept.in_fetch ∙ ap is_some f.fetched)

    in_place : is_some copy.offset ≡ is_pulling fetch.phase
    in_place = kept.resident ∙ ap (λ s. has_extent s copy.fetch) on_its_way ∙ ap (λ o. has_extent Fetching o) f.fetched

    gaps_kept : are_gaps copy.length fetch.phase ≡ true
    gaps_kept = sym (ap (λ o. option_map_or (λ g. are_gaps copy.length g.phase) o true) f.fetched) ∙ kept.gaps

    -- the fetch goes on
    goes_on : (n : ℕ) (offset : Option ℕ) (phase : Phase) → is_some offset ≡ is_pulling phase → are_gaps n phase ≡ true
        → IsLiveKept (set_copy store id (record copy { length = n; offset = offset; fetch = Some (record fetch { phase = phase }) }))
    goes_on n offset phase r g = set_keeps h id copy (record copy { length = n; offset = offset; fetch = Some (record fetch { phase = phase }) }) f.is
        (fetched_on copy kept on_its_way n offset (record fetch { phase = phase }) r g)

    located_keep : (source : Option Source) → fetch.phase ≡ locating → IsLiveKept (set_copy store id (marked (mark.located fetch source) copy))
    located_keep None p = goes_on copy.length copy.offset (failed fetch_fault.Absent) (in_place ∙ ap is_pulling p) refl
    located_keep (Some source) p = goes_on source.length copy.offset (sized source.node) (in_place ∙ ap is_pulling p) refl

    failed_keep : (refusal : FetchFault) → IsLiveKept (fetch_failed store id copy fetch refusal)
    failed_keep refusal = goes_on copy.length None (failed refusal) refl refl

    -- a chunk has come, and these are missing still
    record AreLeft (missing : List ℕ) : Type 0 where
      here : is_some copy.offset ≡ true
      chunks_of : list_all (λ i. nat_lt i (chunk_count copy.length)) missing ≡ true
      some : nat_lt 0 copy.length ≡ true
      within : nat_le copy.length longest_object ≡ true

    pulled_on : (source i : ℕ) (missing : List ℕ) → AreLeft (i ∷ missing) → IsLiveKept (set_copy store id (record copy { fetch = Some (record fetch { phase = pulling source (i ∷ missing) }) }))
    pulled_on source i missing l = goes_on copy.length copy.offset (pulling source (i ∷ missing)) l.here
        (both (nat_lt 0 (length (i ∷ missing)) && list_all (λ j. nat_lt j (chunk_count copy.length)) (i ∷ missing) && nat_lt 0 copy.length) (nat_le copy.length longest_object)
        (both (nat_lt 0 (length (i ∷ missing)) && list_all (λ j. nat_lt j (chunk_count copy.length)) (i ∷ missing)) (nat_lt 0 copy.length)
        (both (nat_lt 0 (length (i ∷ missing))) (list_all (λ j. nat_lt j (chunk_count copy.length)) (i ∷ missing)) (lt-ltb 0 (length (i ∷ missing)) (omega arith)) l.chunks_of) l.some) l.within)

    arrived : AreLeft [] → IsLiveKept (set_copy store id (record copy { state = Sealed; fetch = None }))
    arrived l = set_keeps h id copy (record copy { state = Sealed; fetch = None }) f.is
        (arrived_copy copy kept on_its_way l.here (ltb-true 0 copy.length l.some, leb-true copy.length longest_object l.within))

    taken_keeps : (source : ℕ) (missing : List ℕ) (verdict : ChunkVerdict) → AreLeft missing → Keeps (chunk_taken store id copy fetch source missing verdict)
    taken_keeps source missing chunk.Ignored l = same_keeps h _ refl
    taken_keeps source (i ∷ missing) chunk.Part l = record { is = pulled_on source i missing l }
    taken_keeps source (i ∷ missing) chunk.Whole l = record { is = pulled_on source i missing l }
    taken_keeps source (i ∷ missing) chunk.Damaged l = record { is = pulled_on source i missing l }
    taken_keeps source [] chunk.Part l = sending_keeps _ _ (record { is = arrived l })
    taken_keeps source [] chunk.Whole l = sending_keeps _ _ (record { is = arrived l })
    taken_keeps source [] chunk.Damaged l = record { is = failed_keep fetch_fault.Damaged }

    left_after : (source index : ℕ) (missing : List ℕ) → fetch.phase ≡ pulling source missing → AreLeft (filter (λ i. not (i == index)) missing)
    left_after source index missing p =
        let g : are_gaps copy.length (pulling source missing) ≡ true = sym (ap (are_gaps copy.length) p) ∙ gaps_kept in
        let three : nat_lt 0 (length missing) && list_all (λ i. nat_lt i (chunk_count copy.length)) missing && nat_lt 0 copy.length ≡ true = both_left _ (nat_le copy.length longest_object) g in
        let two : nat_lt 0 (length missing) && list_all (λ i. nat_lt i (chunk_count copy.length)) missing ≡ true = both_left _ (nat_lt 0 copy.length) three in
        record {
          here = in_place ∙ ap is_pulling p;
          chunks_of = all-filter (λ i. nat_lt i (chunk_count copy.length)) (λ i. not (i == index)) missing (both_right (nat_lt 0 (length missing)) (list_all (λ i. nat_lt i (chunk_count copy.length)) missing) two);
          some = both_right (nat_lt 0 (length missing) && list_all (λ i. nat_lt i (chunk_count copy.length)) missing) (nat_lt 0 copy.length) three;
          within = both_right (nat_lt 0 (length missing) && list_all (λ i. nat_lt i (chunk_count copy.length)) missing && nat_lt 0 copy.length) (nat_le copy.length longest_object) g;
        }

  pub located_keeps : (id : ObjectId) (number : ℕ) (source : Option Source) → Keeps (located store id number source)
  located_keeps id number source = with_fetch_keeps id number _ (λ copy fetch f. by_phase copy fetch f fetch.phase refl)
    where
      by_phase : (copy : Copy) (fetch : Fetch) → IsFetchOf store id copy fetch → (phase : Phase) → fetch.phase ≡ phase → Keeps (elim phase [ locating ↦ done (set_copy store id (marked (mark.located fetch source) copy)) | _ ↦ done store ])
      by_phase copy fetch f locating p = record { is = located_keep id copy fetch f source p }
      by_phase copy fetch f (sized _) p = same_keeps h _ refl
      by_phase copy fetch f (pulling _ _) p = same_keeps h _ refl
      by_phase copy fetch f (failed _) p = same_keeps h _ refl

  pub chunk_keeps : (id : ObjectId) (number index from : ℕ) (verdict : ChunkVerdict) → Keeps (chunk_arrived store id number index from verdict)
  chunk_keeps id number index from verdict = with_fetch_keeps id number _ (λ copy fetch f. by_phase copy fetch f fetch.phase refl)
    where
      by_phase : (copy : Copy) (fetch : Fetch) → IsFetchOf store id copy fetch → (phase : Phase) → fetch.phase ≡ phase → Keeps (elim phase [
        | pulling source missing ↦ cond (from == source && is_missing missing index) (chunk_taken store id copy fetch source (filter (λ i. not (i == index)) missing) verdict) (done store)
        | _ ↦ done store
      ])
      by_phase copy fetch f locating p = same_keeps h _ refl
      by_phase copy fetch f (sized _) p = same_keeps h _ refl
      by_phase copy fetch f (failed _) p = same_keeps h _ refl
      by_phase copy fetch f (pulling source missing) p =
          elim (from == source && is_missing missing index) as (λ b. Keeps (cond b (chunk_taken store id copy fetch source (filter (λ i. not (i == index)) missing) verdict) (done store))) [
            | true ↦ taken_keeps id copy fetch f source (filter (λ i. not (i == index)) missing) verdict (left_after id copy fetch f source index missing p)
            | false ↦ same_keeps h _ refl
          ]

  pub not_here_keeps : (id : ObjectId) (number from : ℕ) → Keeps (not_here_arrived store id number from)
  not_here_keeps id number from = with_fetch_keeps id number _ (λ copy fetch f. by_phase copy fetch f fetch.phase)
    where
      by_phase : (copy : Copy) (fetch : Fetch) → IsFetchOf store id copy fetch → (phase : Phase) → Keeps (elim phase [
        | pulling source missing ↦ cond (from == source) (sending (remove_source id source ∷ []) (done (fetch_failed store id copy fetch fetch_fault.Absent))) (done store)
        | _ ↦ done store
      ])
      by_phase copy fetch f locating = same_keeps h _ refl
      by_phase copy fetch f (sized _) = same_keeps h _ refl
      by_phase copy fetch f (failed _) = same_keeps h _ refl
      by_phase copy fetch f (pulling source missing) =
          elim (from == source) as (λ b. Keeps (cond b (sending (remove_source id source ∷ []) (done (fetch_failed store id copy fetch fetch_fault.Absent))) (done store))) [
            | true ↦ sending_keeps _ _ (record { is = failed_keep id copy fetch f fetch_fault.Absent })
            | false ↦ same_keeps h _ refl
          ]

  -- ---- the serving side

  nothing_keeps : (id : ObjectId) → Keeps (sending (not_here id ∷ []) (done store))
  nothing_keeps id = sending_keeps _ _ (same_keeps h _ refl)

  quiet_keeps : (c : Change) → Keeps c → Keeps (quiet store c)
  quiet_keeps c k = record { is = record { live = k.is.live; quota = k.is.quota; rows = k.is.rows; works = k.is.works; grants = k.is.grants; fetches = k.is.fetches; ended = k.is.ended } }

  pull_answer_keeps : (order : List ObjectId) → IsOrderOfUse order → (id : ObjectId) (copy : Copy) (state : CopyState) → at store.copies id ≡ Some copy → copy.state ≡ state → Keeps (elim state [
    | Sealed ↦ sending (chunks id ∷ []) (done store)
    | Restoring ↦ done store
    | Away ↦ cond (is_none copy.fault) (quiet store (restore order store id copy)) (sending (not_here id ∷ []) (done store))
    | _ ↦ sending (not_here id ∷ []) (done store)
  ])
  pull_answer_keeps order once id copy Created e s = nothing_keeps id
  pull_answer_keeps order once id copy Fetching e s = nothing_keeps id
  pull_answer_keeps order once id copy Sealed e s = sending_keeps _ _ (same_keeps h _ refl)
  pull_answer_keeps order once id copy Restoring e s = same_keeps h _ refl
  pull_answer_keeps order once id copy Away e s =
      elim (is_none copy.fault) as (λ b. is_none copy.fault ≡ b → Keeps (cond b (quiet store (restore order store id copy)) (sending (not_here id ∷ []) (done store)))) [
        | true ↦ λ f. quiet_keeps (restore order store id copy) (restore_keeps order once h id copy e s (none_of copy.fault f))
        | false ↦ λ _. nothing_keeps id
      ] refl

  pub pull_keeps : (order : List ObjectId) → IsOrderOfUse order → (id : ObjectId) (matches : Bool) → Keeps (pull_arrived order store id matches)
  pull_keeps order once id matches =
      elim (visible store id) as (λ o. visible store id ≡ o → Keeps (option_map_or (λ copy. cond matches (pull_answer order store id copy) (sending (not_here id ∷ []) (done store))) o (sending (not_here id ∷ []) (done store)))) [
        | None ↦ λ _. nothing_keeps id
        | Some copy ↦ λ v. elim matches as (λ b. Keeps (cond b (pull_answer order store id copy) (sending (not_here id ∷ []) (done store)))) [
          | true ↦ pull_answer_keeps order once id copy copy.state (visible_at (at store.copies id) copy v).0 refl
          | false ↦ nothing_keeps id
        ]
      ] refl
