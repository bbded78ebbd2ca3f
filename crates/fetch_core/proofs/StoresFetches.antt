-- A store's fetch and the one at this end, over each message.
use Rattle.std.proofs.Common.{◌≡◌, ℕ, ◌+◌, ◌-◌, ◌*◌, min, Bool, true, false, not, cond, if◌then◌else◌, ◌==◌, ◌&&◌, List, [], ◌∷◌, ◌++◌, length, take, drop, filter, Option, Some, None, is_some, refl, sym, ap, subst, ◌∙◌, arith, length-append, T}
use Rattle.std.specs.Option.{option_map, option_map_or, option_and_then}
use Rattle.std.proofs.lemmas.List.{length-take, length-drop}
use Rattle.std.proofs.Math.Facts.{eqb_yes}
use Rattle.obj_id.specs.declared.ids.ObjectId.{ObjectId}
use Rattle.obj_id.specs.declared.messages.Digest.{Digest}
use Rattle.obj_id.specs.declared.messages.Location.{Location}
use Rattle.obj_id.specs.declared.commands.CopyState.{CopyState}
use Rattle.obj_id.specs.declared.commands.CopyState.TheVariants.{Created, Sealed, Restoring, Fetching, Away}
use Rattle.private_store.specs.declared.inputs.ChunkVerdict.{ChunkVerdict}
use Rattle.private_store.specs.declared.inputs.ChunkVerdict.TheVariants as verdict
use Rattle.private_store.specs.declared.faults.FetchFault.TheVariants.{Absent, Damaged}
use Rattle.private_store.specs.rules.Tables.{at}
use Rattle.private_store.specs.rules.Shape.{Copy, Shape, Change, Fetch, Phase, locating, sized, pulling, failed, remove_source}
use Rattle.private_store.specs.rules.Marks.{marked}
use Rattle.private_store.specs.rules.Marks as mark
use Rattle.private_store.specs.rules.Change.{done, sending}
use Rattle.private_store.specs.rules.Room.{set_copy}
use Rattle.private_store.specs.rules.Commands.{begin_pull}
use Rattle.private_store.specs.rules.Events.{fetch_of, is_missing, fetch_failed, not_here_arrived, chunk_arrived}
use Rattle.private_store.specs.rules.Events as events
use Rattle.private_store.specs.rules.Contents.{View, source_in, entry_elsewhere, overwritten, chunk_length, chunk_verdict, pulled_verdict, gap_verdict, with_chunk, bytes_at, digest_at, has_digest, is_sized}
use Rattle.private_store.specs.laws.Invariants.{IsViewKept, is_fetching, is_pulling, has_extent}
use Rattle.store_facts.proofs.Rows.{at-put_here}
use Rattle.store_facts.proofs.Tests.{true_false}
use Rattle.fetch_core.specs.Fetching as fetching
use Rattle.fetch_core.specs.Fetching.{missing_of, failed_with, fetch_after_located, sized_by, pull_begun, fetch_chunk_taken, fills_one, is_whole, is_pulled_from}
use Rattle.fetch_core.specs.Stores.{IsFetchAt, IsLedTo, store_after_chunk}

-- the fetch of a store's copy, with a digest
abbrev fetching_of : Copy → Fetch → Option Digest → fetching.Fetching
fetching_of copy fetch digest = record { number = fetch.number; phase = fetch.phase; length = copy.length; digest = digest }

same : (store : Shape) (id : ObjectId) (f : fetching.Fetching) (is : IsFetchAt store id f) → f ≡ fetching_of is.copy is.fetch f.digest
same store id f is = λ i. record { number = is.number i; phase = is.phase i; length = is.length i; digest = f.digest }

itself : (n : ℕ) → (n == n) ≡ true
itself n = grind arith

numbers_turn : (a b : ℕ) → (a == b) ≡ (b == a)
numbers_turn a b = grind arith

module _ (store : Shape) (id : ObjectId) (copy : Copy) (fetch : Fetch) (there : at store.copies id ≡ Some copy) (in_fetch : copy.fetch ≡ Some fetch) (digest : Option Digest) where
  abbrev f : fetching.Fetching
  f = fetching_of copy fetch digest

  stays : IsFetchAt store id f
  stays = record { copy = copy; fetch = fetch; there = there; in_fetch = in_fetch; number = refl; phase = refl; length = refl }

  fetch_is : (number : ℕ) → fetch_of store id number ≡ cond (number == fetch.number) (Some (copy, fetch)) None
  fetch_is number =
      ap (λ o. option_and_then (λ (c : Copy). option_and_then (λ (p : Fetch). cond (p.number == number) (Some (c, p)) None) c.fetch) o) there
      ∙ ap (λ o. option_and_then (λ (p : Fetch). cond (p.number == number) (Some (copy, p)) None) o) in_fetch
      ∙ ap (λ b. cond b (Some (copy, fetch)) None) (numbers_turn fetch.number number)

  -- what the copy of the object has become, in a store that has it in this phase
  in_phase : (room : Shape) (c : Copy) (p : Phase) (d : Option Digest) → c.fetch ≡ Some (record fetch { phase = p })
      → IsFetchAt (set_copy room id c) id (record { number = fetch.number; phase = p; length = c.length; digest = d })
  in_phase room c p d e =
      record { copy = c; fetch = record fetch { phase = p }; there = at-put_here room.copies id c; in_fetch = e; number = refl; phase = refl; length = refl }

  -- ---- a source becomes known

  module _ (node : ℕ) (entries : List Location) where
    abbrev located_in : Phase → Change
    located_in p = elim p [ locating ↦ done (set_copy store id (marked (mark.located fetch (source_in node entries)) copy)) | _ ↦ done store ]

    abbrev sized_in : Phase → fetching.Fetching
    sized_in p = elim p [ locating ↦ sized_by f (entry_elsewhere node entries) | _ ↦ f ]

    by_entry : (o : Option Location)
        → IsFetchAt (set_copy store id (marked (mark.located fetch (option_map (λ (e : Location). record { node = e.node; length = e.length }) o)) copy)) id (sized_by f o)
    by_entry None = in_phase store _ (failed Absent) None refl
    by_entry (Some e) = in_phase store _ (sized e.node) (Some e.digest) refl

    by_phase : (p : Phase) → IsFetchAt (located_in p).shape id (sized_in p)
    by_phase locating = by_entry (entry_elsewhere node entries)
    by_phase (sized source) = stays
    by_phase (pulling source missing) = stays
    by_phase (failed fault) = stays

    by_number : (b : Bool) → IsFetchAt (option_map_or (λ (p : Copy × Fetch). elim p.1.phase [ locating ↦ done (set_copy store id (marked (mark.located p.1 (source_in node entries)) p.0)) | _ ↦ done store ]) (cond b (Some (copy, fetch)) None) (done store)).shape id
        (cond b (sized_in fetch.phase) f)
    by_number true = by_phase fetch.phase
    by_number false = stays

    located_at : (number : ℕ) → IsFetchAt (events.located store id number (source_in node entries)).shape id (fetch_after_located node number entries f)
    located_at number =
        subst (λ o. IsFetchAt (option_map_or (λ (p : Copy × Fetch). elim p.1.phase [ locating ↦ done (set_copy store id (marked (mark.located p.1 (source_in node entries)) p.0)) | _ ↦ done store ]) o (done store)).shape id (fetch_after_located node number entries f))
        (sym (fetch_is number)) (by_number (number == fetch.number))

  -- ---- the source has none

  module _ (from : ℕ) where
    abbrev refusal_taken : Phase → Change
    refusal_taken p =
        elim p [
          | pulling source missing ↦ cond (from == source) (sending (remove_source id source ∷ []) (done (fetch_failed store id copy fetch Absent))) (done store)
          | _ ↦ done store
        ]

    abbrev is_asked : Phase → Bool
    is_asked p = elim p [ pulling source missing ↦ from == source | _ ↦ false ]

    refused_phase : (p : Phase) → IsFetchAt (refusal_taken p).shape id (cond (is_asked p) (failed_with f Absent) f)
    unfolding sending
    refused_phase (pulling source missing) = by_source (from == source)
      where
        by_source : (b : Bool) → IsFetchAt (cond b (sending (remove_source id source ∷ []) (done (fetch_failed store id copy fetch Absent))) (done store)).shape id (cond b (failed_with f Absent) f)
        by_source true = in_phase store _ (failed Absent) None refl
        by_source false = stays
    refused_phase locating = stays
    refused_phase (sized source) = stays
    refused_phase (failed fault) = stays

    abbrev refused_change : Option (Copy × Fetch) → Change
    refused_change o =
        option_map_or (λ (p : Copy × Fetch). elim p.1.phase [
          | pulling source missing ↦ cond (from == source) (sending (remove_source id source ∷ []) (done (fetch_failed store id p.0 p.1 Absent))) (done store)
          | _ ↦ done store
        ]) o (done store)

    refused_number : (p : Phase) (b : Bool) → fetch.phase ≡ p → IsFetchAt (refused_change (cond b (Some (copy, fetch)) None)).shape id (cond (elim p [ pulling source missing ↦ b && from == source | _ ↦ false ]) (failed_with f Absent) f)
    refused_number p true e =
        subst (λ q. IsFetchAt (refusal_taken q).shape id (cond (elim p [ pulling source missing ↦ from == source | _ ↦ false ]) (failed_with f Absent) f)) (sym e) (refused_phase p)
    refused_number (pulling source missing) false e = stays
    refused_number locating false e = stays
    refused_number (sized source) false e = stays
    refused_number (failed fault) false e = stays

    refused_at : (number : ℕ) → IsFetchAt (not_here_arrived store id number from).shape id (cond (is_pulled_from number from f) (failed_with f Absent) f)
    refused_at number =
        subst (λ o. IsFetchAt (refused_change o).shape id (cond (is_pulled_from number from f) (failed_with f Absent) f))
        (sym (fetch_is number)) (refused_number fetch.phase (number == fetch.number) refl)

  -- ---- the chunks are asked for

  begun_at : (room : Shape) (source offset : ℕ) (p : Phase) → p ≡ sized source → IsFetchAt (begin_pull id copy fetch source room offset).shape id (pull_begun (record f { phase = p }))
  unfolding sending
  begun_at room source offset p e =
      subst (λ q. IsFetchAt (begin_pull id copy fetch source room offset).shape id (pull_begun (record f { phase = q }))) (sym e)
      (in_phase room _ (pulling source _) digest refl)

pub fetch_located : (store : Shape) (id : ObjectId) (node number : ℕ) (entries : List Location) (g : fetching.Fetching) → IsFetchAt store id g
    → IsFetchAt (events.located store id number (source_in node entries)).shape id (fetch_after_located node number entries g)
fetch_located store id node number entries g is =
    subst (λ f. IsFetchAt (events.located store id number (source_in node entries)).shape id (fetch_after_located node number entries f)) (sym (same store id g is))
    (located_at store id is.copy is.fetch is.there is.in_fetch g.digest node entries number)

pub fetch_refused : (store : Shape) (id : ObjectId) (number from : ℕ) (g : fetching.Fetching) → IsFetchAt store id g
    → IsFetchAt (not_here_arrived store id number from).shape id (cond (is_pulled_from number from g) (failed_with g Absent) g)
fetch_refused store id number from g is =
    subst (λ f. IsFetchAt (not_here_arrived store id number from).shape id (cond (is_pulled_from number from f) (failed_with f Absent) f)) (sym (same store id g is))
    (refused_at store id is.copy is.fetch is.there is.in_fetch g.digest from number)

pub fetch_begun_at : (store room : Shape) (id : ObjectId) (source offset : ℕ) (g : fetching.Fetching) (is : IsFetchAt store id g) → g.phase ≡ sized source
    → IsFetchAt (begin_pull id is.copy is.fetch source room offset).shape id (pull_begun g)
fetch_begun_at store room id source offset g is e =
    subst (λ f. IsFetchAt (begin_pull id is.copy is.fetch source room offset).shape id (pull_begun f)) (sym (same store id g is))
    (begun_at store id is.copy is.fetch is.there is.in_fetch g.digest room source offset is.fetch.phase (sym is.phase ∙ e))

-- ---- a chunk

sums : (o k n : ℕ) → k ≡ min 65536 (n - o) → min o n + k + (n - (o + k)) ≡ n
sums o k n e = omega arith

-- a chunk in its place makes the bytes no longer
chunk_in_place : (bytes : List ℕ) (o n : ℕ) (new : List ℕ) → length bytes ≡ n → length new ≡ min 65536 (n - o) → length (overwritten bytes o new) ≡ n
chunk_in_place bytes o n new is e =
    length-append (take o bytes ++ new) (drop (o + length new) bytes) ∙ parts (length (take o bytes ++ new)) (length (take o bytes)) (length (drop (o + length new) bytes))
    (length-append (take o bytes) new) (length-take o bytes) (length-drop (o + length new) bytes)
  where
    parts : (front first last : ℕ) → front ≡ first + length new → first ≡ min o (length bytes) → last ≡ length bytes - (o + length new) → front + last ≡ n
    parts front first last a b c = omega (arith, a, b, c, is, e)

resident_pull : (state : CopyState) (fetch : Option Fetch) (f : Fetch) (source : ℕ) (missing : List ℕ) → fetch ≡ Some f → f.phase ≡ pulling source missing → is_some fetch ≡ is_fetching state → has_extent state fetch ≡ true
resident_pull Created fetch f source missing e p t = refl
resident_pull Sealed fetch f source missing e p t = refl
resident_pull Restoring fetch f source missing e p t = refl
resident_pull Fetching fetch f source missing e p t = ap (λ o. option_map_or (λ (f : Fetch). is_pulling f.phase) o false) e ∙ ap is_pulling p
resident_pull Away fetch f source missing e p t = true_false (sym t ∙ ap is_some e)

module _ (view : View) (id : ObjectId) (copy : Copy) (fetch : Fetch) (there : at view.shape.copies id ≡ Some copy) (in_fetch : copy.fetch ≡ Some fetch) (digest : Option Digest)
    (index from : ℕ) (chunk : List ℕ) where
  -- the fetch at this end, in this phase
  abbrev now_in : Phase → fetching.Fetching
  now_in p = record { number = fetch.number; phase = p; length = copy.length; digest = digest }

  -- the object's bytes with the chunk
  abbrev whole : List ℕ
  whole = with_chunk view id index chunk

  abbrev taken_change : Copy → Fetch → Phase → ChunkVerdict → Change
  taken_change c f p v =
      elim p [
        | pulling source missing ↦ cond (from == source && is_missing missing index) (events.chunk_taken view.shape id c f source (filter (λ i. not (i == index)) missing) v) (done view.shape)
        | _ ↦ done view.shape
      ]

  unchanged : (p : Phase) → fetch.phase ≡ p → IsFetchAt view.shape id (now_in p)
  unchanged p e = record { copy = copy; fetch = fetch; there = there; in_fetch = in_fetch; number = refl; phase = sym e; length = refl }

  module _ (source : ℕ) (right : length whole ≡ copy.length) (d : digest ≡ Some (digest_at view.contents.digests id)) where
    abbrev left : List ℕ → fetching.Fetching
    left gaps = now_in (pulling source gaps)

    is_whole_by : (gaps : List ℕ) → is_whole (left gaps) whole ≡ has_digest whole (digest_at view.contents.digests id)
    is_whole_by gaps =
        ap (λ n. n == copy.length && option_map_or (has_digest whole) digest false) right
        ∙ ap (λ b. b && option_map_or (has_digest whole) digest false) (itself copy.length)
        ∙ ap (λ o. option_map_or (has_digest whole) o false) d

    abbrev outcome : List ℕ → fetching.Fetching → Option fetching.Fetching
    outcome gaps taken = elim gaps [ _ ∷ _ ↦ Some taken | [] ↦ cond (is_whole taken whole) None (Some (failed_with taken Damaged)) ]

    last_chunk : (b : Bool) → IsLedTo (events.chunk_taken view.shape id copy fetch source [] (cond b verdict.Whole verdict.Damaged)).shape id (cond b None (Some (failed_with (left []) Damaged)))
    unfolding sending
    last_chunk true =
        record { copy = record copy { state = Sealed; fetch = None }; there = at-put_here view.shape.copies id (record copy { state = Sealed; fetch = None }); sealed = refl; over = refl }
    last_chunk false = in_phase view.shape id copy fetch there in_fetch digest view.shape _ (failed Damaged) None refl

    gap_closed : (gaps : List ℕ) → IsLedTo (events.chunk_taken view.shape id copy fetch source gaps (gap_verdict view id index chunk gaps)).shape id (outcome gaps (left gaps))
    gap_closed (i ∷ gaps) = in_phase view.shape id copy fetch there in_fetch digest view.shape _ (pulling source (i ∷ gaps)) digest refl
    gap_closed [] =
        subst (λ b. IsLedTo (events.chunk_taken view.shape id copy fetch source [] (gap_verdict view id index chunk [])).shape id (cond b None (Some (failed_with (left []) Damaged))))
        (sym (is_whole_by [])) (last_chunk (has_digest whole (digest_at view.contents.digests id)))

  ignored : (source : ℕ) (gaps : List ℕ) (p : Phase) → fetch.phase ≡ p → IsFetchAt (events.chunk_taken view.shape id copy fetch source gaps verdict.Ignored).shape id (now_in p)
  ignored source [] p e = unchanged p e
  ignored source (i ∷ gaps) p e = unchanged p e

  -- what becomes of the fetch, by whether the message has its number
  abbrev fills_in : Bool → Phase → Bool
  fills_in b p = elim p [ pulling source missing ↦ b && from == source && is_missing missing index && length chunk == chunk_length copy.length index | _ ↦ false ]

  abbrev taken_in : Bool → Phase → fetching.Fetching → fetching.Fetching
  taken_in b p g =
      elim p [
        | pulling source missing ↦ if b && from == source && is_missing missing index && length chunk == chunk_length copy.length index then record g { phase = pulling source (filter (λ i. not (i == index)) missing) } else g
        | _ ↦ g
      ]

  abbrev after_in : Bool → Phase → Option fetching.Fetching
  after_in b p =
      let taken = taken_in b p (now_in p) in
      cond (not (fills_in b p)) (Some (now_in p)) (elim (missing_of taken.phase) [
        | _ ∷ _ ↦ Some taken
        | [] ↦ cond (is_whole taken whole) None (Some (failed_with taken Damaged))
      ])

  module _ (source : ℕ) (missing : List ℕ) (e : fetch.phase ≡ pulling source missing) (d : digest ≡ Some (digest_at view.contents.digests id)) (l : length (bytes_at view.contents.bytes id) ≡ copy.length) where
    abbrev gaps : List ℕ
    gaps = filter (λ i. not (i == index)) missing

    abbrev after_test : Bool → Option fetching.Fetching
    after_test t =
        let taken = cond t (now_in (pulling source gaps)) (now_in (pulling source missing)) in
        cond (not t) (Some (now_in (pulling source missing))) (elim (missing_of taken.phase) [
          | _ ∷ _ ↦ Some taken
          | [] ↦ cond (is_whole taken whole) None (Some (failed_with taken Damaged))
        ])

    by_tests : (a m k : Bool) → (k ≡ true → length whole ≡ copy.length)
        → IsLedTo (cond (a && m) (events.chunk_taken view.shape id copy fetch source gaps (cond (a && m && k) (gap_verdict view id index chunk gaps) verdict.Ignored)) (done view.shape)).shape id (after_test (a && m && k))
    by_tests true true true right = gap_closed source (right refl) d gaps
    by_tests true true false right = ignored source gaps (pulling source missing) e
    by_tests true false k right = unchanged (pulling source missing) e
    by_tests false m k right = unchanged (pulling source missing) e

    fits : (length chunk == chunk_length copy.length index) ≡ true → length whole ≡ copy.length
    fits t = chunk_in_place (bytes_at view.contents.bytes id) (65536 * index) copy.length chunk l (eqb_yes (subst T (sym t) tt))

  led_true : (p : Phase) → fetch.phase ≡ p → (is_sized p ≡ true → digest ≡ Some (digest_at view.contents.digests id)) → (is_pulling p ≡ true → length (bytes_at view.contents.bytes id) ≡ copy.length)
      → IsLedTo (taken_change copy fetch p (pulled_verdict view id index chunk from copy p)).shape id (after_in true p)
  led_true (pulling source missing) e d l =
      by_tests source missing e (d refl) (l refl) (from == source) (is_missing missing index) (length chunk == chunk_length copy.length index) (fits source missing e (d refl) (l refl))
  led_true locating e d l = unchanged locating e
  led_true (sized source) e d l = unchanged (sized source) e
  led_true (failed fault) e d l = unchanged (failed fault) e

  led_false : (p : Phase) → fetch.phase ≡ p → IsLedTo view.shape id (after_in false p)
  led_false (pulling source missing) e = unchanged (pulling source missing) e
  led_false locating e = unchanged locating e
  led_false (sized source) e = unchanged (sized source) e
  led_false (failed fault) e = unchanged (failed fault) e

  abbrev arrived : Option (Copy × Fetch) → Change
  arrived o = option_map_or (λ (q : Copy × Fetch). taken_change q.0 q.1 q.1.phase (option_map_or (λ (r : Copy × Fetch). pulled_verdict view id index chunk from r.0 r.1.phase) o verdict.Ignored)) o (done view.shape)

  taken_at : (number : ℕ) → (is_sized fetch.phase ≡ true → digest ≡ Some (digest_at view.contents.digests id)) → (is_pulling fetch.phase ≡ true → length (bytes_at view.contents.bytes id) ≡ copy.length)
      → IsLedTo (chunk_arrived view.shape id number index from (chunk_verdict view id number index chunk from)).shape id (store_after_chunk number from index chunk whole (now_in fetch.phase))
  taken_at number d l =
      subst (λ o. IsLedTo (arrived o).shape id (after_in (number == fetch.number) fetch.phase))
      (sym (fetch_is view.shape id copy fetch there in_fetch digest number)) (by (number == fetch.number))
    where
      by : (b : Bool) → IsLedTo (arrived (cond b (Some (copy, fetch)) None)).shape id (after_in b fetch.phase)
      by true = led_true fetch.phase refl d l
      by false = led_false fetch.phase refl

pub fetch_takes : (view : View) (id : ObjectId) (number index from : ℕ) (chunk : List ℕ) (g : fetching.Fetching) → IsViewKept view → IsFetchAt view.shape id g
    → (is_sized g.phase ≡ true → g.digest ≡ Some (digest_at view.contents.digests id))
    → IsLedTo (chunk_arrived view.shape id number index from (chunk_verdict view id number index chunk from)).shape id (store_after_chunk number from index chunk (with_chunk view id index chunk) g)
fetch_takes view id number index from chunk g h is d =
    subst (λ f. IsLedTo (chunk_arrived view.shape id number index from (chunk_verdict view id number index chunk from)).shape id (store_after_chunk number from index chunk (with_chunk view id index chunk) f))
    (sym (same view.shape id g is))
    (taken_at view id is.copy is.fetch is.there is.in_fetch g.digest index from chunk number (λ t. d (ap is_sized is.phase ∙ t)) (λ t. filled is.fetch.phase refl t))
  where
    filled : (p : Phase) → is.fetch.phase ≡ p → is_pulling p ≡ true → length (bytes_at view.contents.bytes id) ≡ is.copy.length
    filled (pulling source missing) e t =
        (h.kept.filled.each id is.copy is.there).bytes
        ((h.kept.shape.each id is.copy is.there).resident ∙ resident_pull is.copy.state is.copy.fetch is.fetch source missing is.in_fetch e (h.kept.shape.each id is.copy is.there).in_fetch)
    filled locating e t = true_false t
    filled (sized source) e t = true_false t
    filled (failed fault) e t = true_false t
