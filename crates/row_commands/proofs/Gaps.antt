-- A row takes a chunk of a copy that is on its way.
use Rattle.std.proofs.Common.{◌≡◌, ℕ, ◌+◌, ◌*◌, ◌-◌, ◌≤◌, ◌<◌, min, Bool, true, false, not, cond, ◌&&◌, ◌||◌, ◌==◌, nat_lt, nat_le, inl, inr, List, [], ◌∷◌, filter, take, length, Option, Some, None, is_some, unwrap_or, refl, sym, ap, subst, ◌∙◌, arith}
use Rattle.std.specs.Prelude.{option_to_list, option_map, ◌^◌}
use Rattle.std.specs.List.{list_any, list_all}
use Rattle.std.specs.Option.{option_map_or}
use Rattle.std.proofs.lemmas.Bool.Decides.{nat_tests}
use Rattle.obj_id.specs.declared.ids.ObjectId.{ObjectId}
use Rattle.obj_id.specs.declared.works.Extent.{Extent}
use Rattle.obj_id.specs.declared.messages.Digest.{Digest}
use Rattle.obj_id.specs.declared.messages.Location.{Location}
use Rattle.obj_id.specs.declared.messages.Arrival.TheVariants as arrival
use Rattle.obj_id.specs.declared.messages.PeerMessage.TheVariants as peer
use Rattle.obj_id.specs.declared.messages.DirectoryMessage.TheVariants.{AddLocation}
use Rattle.obj_id.specs.declared.commands.CopyState.{CopyState}
use Rattle.obj_id.specs.declared.commands.CopyState.TheVariants.{Created, Sealed, Restoring, Fetching, Away}
use Rattle.obj_id.specs.declared.commands.Reply.TheVariants as reply
use Rattle.obj_id.specs.Ids.{same_id}
use Rattle.store_facts.proofs.Ids.{same_id-flip}
use Rattle.private_store.specs.declared.faults.FetchFault.TheVariants as fault
use Rattle.private_store.specs.declared.inputs.ChunkVerdict.{ChunkVerdict}
use Rattle.private_store.specs.declared.inputs.ChunkVerdict.TheVariants as verdict
use Rattle.private_store.specs.declared.inputs.Judged.TheVariants as judged
use Rattle.private_store.specs.declared.inputs.Input.{Input}
use Rattle.private_store.specs.declared.inputs.Input.TheVariants as input
use Rattle.private_store.specs.rules.Limits.{longest_object}
use Rattle.private_store.specs.rules.Tables.{at}
use Rattle.private_store.specs.rules.Shape.{Copy, Shape, Change, Fetch, Phase, locating, sized, pulling, failed, Sending, add_location}
use Rattle.private_store.specs.rules.Marks.{chunk_count, marked}
use Rattle.private_store.specs.rules.Marks as mark
use Rattle.private_store.specs.rules.Copies.{extent_of, was_sealed}
use Rattle.private_store.specs.rules.Extents.{rounded}
use Rattle.private_store.specs.rules.Room.{set_copy}
use Rattle.private_store.specs.rules.Change.{done}
use Rattle.private_store.specs.rules.Events.{fetch_of, is_missing, chunk_arrived, fetch_failed}
use Rattle.private_store.specs.rules.Events as events
use Rattle.private_store.specs.rules.Contents.{Contents, View, judge, digest_at, no_digest, has_digest, chunk_length, with_chunk, gap_verdict, pulled_verdict, chunk_verdict, bytes_brought, brought as brought_to, keeps_digest, is_sized}
use Rattle.private_store.specs.rules.Private.{Post, to_directory, length_at}
use Rattle.private_store.specs.laws.Invariants.{is_fetching, is_pulling, are_gaps}
use Rattle.store_facts.proofs.Filling.{filled}
use Rattle.store_facts.proofs.Rows.{at-put, at-put_here}
use Rattle.store_facts.proofs.Tests.{some_value, true_false, false_true, both_left, both_right}
use Rattle.job_region.specs.Region.{without, region_bytes_at as placed_bytes}
use Rattle.fetch_core.specs.Fetching.{fills_one, fetch_chunk_taken, missing_of}
use Rattle.row_copy.specs.Arriving.{fetch_of_length, fills, lacks_only, after_chunk, after_last_chunk}
use Rattle.job_row.specs.Arriving.{unfetched_row, row_written}
use Rattle.row_copy.specs.CopyViews.{CopyView, store_fetch_of as fetch_kept}
use Rattle.job_row.specs.Row.{Row, copies_of, place_of, ArePlaced}
use Rattle.job_row.specs.Scope.{with_copy}
use Rattle.row_steps.specs.Shown.{seen, IsShown, RowGiven, only, RowStep}
use Rattle.row_steps.proofs.ForCallers.{numbers_turn, IsOf, fetch_is, fetch_case, is_on_way, resides, live_is, ignored, copy_changes, arrives, arrived, sending-is, placed_at, place_found, TakesChange, change, moved, shown_now, same_bytes}
use Rattle.job_row.proofs.ForCallers.{changed-found, at-copies_found, found_left}
use Rattle.row_commands.proofs.Overwriting.{is_place, fits, written_here, written_elsewhere}
use Rattle.row_commands.proofs.Unfetching.{fails}
use Rattle.row_steps.specs.Beside.{SharedTables, shape_of}

-- ---- the gaps

abbrev others : ℕ → List ℕ → List ℕ
others index missing = filter (λ i. not (i == index)) missing

none_left : (index : ℕ) (missing : List ℕ) → list_all (λ i. i == index) missing ≡ true → others index missing ≡ []
none_left index [] e = refl
none_left index (i ∷ missing) e =
    ap (λ b. cond (not b) (i ∷ others index missing) (others index missing)) (both_left (i == index) (list_all (λ i. i == index) missing) e)
    ∙ none_left index missing (both_right (i == index) (list_all (λ i. i == index) missing) e)

some_left : (index : ℕ) (missing : List ℕ) → list_all (λ i. i == index) missing ≡ false → (i : ℕ) × (rest : List ℕ) × (others index missing ≡ i ∷ rest)
some_left index [] e = false_true e
some_left index (i ∷ missing) e = by (i == index) refl (some_left index missing) e
  where
    by : (b : Bool) → (i == index) ≡ b → (list_all (λ i. i == index) missing ≡ false → (j : ℕ) × (rest : List ℕ) × (others index missing ≡ j ∷ rest)) → (b && list_all (λ i. i == index) missing) ≡ false → (j : ℕ) × (rest : List ℕ) × (others index (i ∷ missing) ≡ j ∷ rest)
    by true t rest e =
        let left = rest e in
        (left.0, left.1, ap (λ b. cond (not b) (i ∷ others index missing) (others index missing)) t ∙ left.2)
    by false t rest e = (i, others index missing, ap (λ b. cond (not b) (i ∷ others index missing) (others index missing)) t)

-- a missing chunk is one of the object's
one_of : (n index : ℕ) (missing : List ℕ) → list_all (λ i. nat_lt i (chunk_count n)) missing ≡ true → is_missing missing index ≡ true → nat_lt index (chunk_count n) ≡ true
one_of n index [] each missed = true_false missed
one_of n index (i ∷ missing) each missed = by (i == index) refl (one_of n index missing (both_right (nat_lt i (chunk_count n)) (list_all (λ i. nat_lt i (chunk_count n)) missing) each)) missed
  where
    by : (b : Bool) → (i == index) ≡ b → (is_missing missing index ≡ true → nat_lt index (chunk_count n) ≡ true) → (b || list_any (λ i. i == index) missing) ≡ true → nat_lt index (chunk_count n) ≡ true
    by true t rest e = ap (λ j. nat_lt j (chunk_count n)) (sym (same i index t)) ∙ both_left (nat_lt i (chunk_count n)) (list_all (λ i. nat_lt i (chunk_count n)) missing) each
      where
        same : (a b : ℕ) → (a == b) ≡ true → a ≡ b
        same a b e = grind (arith, nat_tests, e)
    by false t rest e = rest e

-- it lies within the object
within_object : (n index len : ℕ) → nat_lt index (chunk_count n) ≡ true → len ≡ chunk_length n index → 65536 * index + len ≤ n
within_object n index len before long = let b : index < chunk_count n = grind (arith, nat_tests, before) in let l : len ≤ n - 65536 * index = subst (λ m. m ≤ n - 65536 * index) (sym long) (least 65536 (n - 65536 * index)) in omega (arith, b, l)
  where
    least : (a b : ℕ) → min a b ≤ b
    least a b = omega arith

-- a chunk that fills a gap of a fetch
pub record IsFilled (row : Row) (id : ObjectId) (number from index n : ℕ) : Type 0 where
  pub of : IsOf row id number
  pub source : ℕ
  pub missing : List ℕ
  pub pulled : of.fetch.phase ≡ pulling source missing
  pub itself : (from == source) ≡ true
  pub missed : is_missing missing index ≡ true
  pub long : (n == chunk_length of.k.copy.length index) ≡ true

pub filled_at : (row : Row) (id : ObjectId) (number from index n : ℕ) → option_map_or (fills number from index n) (at row.copies id) false ≡ true → IsFilled row id number from index n
filled_at row id number from index n e = by (at row.copies id) refl e
  where
    by_phase : (k : CopyView) → at row.copies id ≡ Some k → (fetch : Fetch) → k.copy.fetch ≡ Some fetch → (p : Phase) → fetch.phase ≡ p → fills_one number from index n (fetch_of_length k.copy.length (record fetch { phase = p })) ≡ true → IsFilled row id number from index n
    by_phase k found fetch fetched (pulling source missing) is t =
        let long = n == chunk_length k.copy.length index in
        let gap = both_left (number == fetch.number && from == source && is_missing missing index) long t in
        let asked = both_left (number == fetch.number && from == source) (is_missing missing index) gap in
        record {
          of = record { k = k; fetch = fetch; found = found; fetched = fetched; numbered = numbers_turn number fetch.number (both_left (number == fetch.number) (from == source) asked) };
          source = source;
          missing = missing;
          pulled = is;
          itself = both_right (number == fetch.number) (from == source) asked;
          missed = both_right (number == fetch.number && from == source) (is_missing missing index) gap;
          long = both_right (number == fetch.number && from == source && is_missing missing index) long t;
        }
    by_phase k found fetch fetched locating is t = true_false t
    by_phase k found fetch fetched (sized source) is t = true_false t
    by_phase k found fetch fetched (failed fault) is t = true_false t

    by_fetch : (k : CopyView) → at row.copies id ≡ Some k → (o : Option Fetch) → k.copy.fetch ≡ o → option_map_or (λ (fetch : Fetch). fills_one number from index n (fetch_of_length k.copy.length fetch)) o false ≡ true → IsFilled row id number from index n
    by_fetch k found None fetched t = true_false t
    by_fetch k found (Some fetch) fetched t = by_phase k found fetch fetched fetch.phase refl t

    by : (o : Option CopyView) → at row.copies id ≡ o → option_map_or (fills number from index n) o false ≡ true → IsFilled row id number from index n
    by None found t = true_false t
    by (Some k) found t = by_fetch k found k.copy.fetch refl (both_right (is_fetching k.copy.state) (option_map_or (λ (fetch : Fetch). fills_one number from index n (fetch_of_length k.copy.length fetch)) k.copy.fetch false) t)

-- ---- the step

module _ (node : ℕ) (row : Row) (beside : SharedTables) (contents : Contents) (h : IsShown row beside contents) (id : ObjectId) (number from index : ℕ) (bytes : List ℕ) where
  abbrev x : Input
  x = input.Arrive (arrival.FromPeer from (peer.Chunk id number index bytes))

  abbrev s : Shape
  s = shape_of row beside

  abbrev v : View
  v = seen row beside contents

  abbrev told_verdict : ChunkVerdict
  told_verdict = chunk_verdict v id number index bytes from

  abbrev by_gap : ChunkVerdict → Copy → Fetch → ℕ → List ℕ → Bool → Change
  by_gap w copy fetch source missing b = cond b (events.chunk_taken s id copy fetch source (others index missing) w) (done s)

  abbrev by_phase : ChunkVerdict → Copy → Fetch → Phase → Change
  by_phase w copy fetch p = elim p [ pulling source missing ↦ by_gap w copy fetch source missing (from == source && is_missing missing index) | _ ↦ done s ]

  abbrev of_fetch : ChunkVerdict → Option (Copy × Fetch) → Change
  of_fetch w o = option_map_or (λ p. by_phase w p.0 p.1 p.1.phase) o (done s)

  step_is : (o : Option (Copy × Fetch)) → fetch_of s id number ≡ o → (w : ChunkVerdict) → told_verdict ≡ w → change node row beside contents h x ≡ of_fetch w o
  step_is o e w is =
      live_is node row beside contents h x refl (chunk_arrived s id number index from told_verdict)
      ∙ ap (λ w. of_fetch w (fetch_of s id number)) is ∙ ap (of_fetch w) e

  abbrev verdict_of : Option (Copy × Fetch) → ChunkVerdict
  verdict_of o = option_map_or (λ p. pulled_verdict v id index bytes from p.0 p.1.phase) o verdict.Ignored

  brings : (w : ChunkVerdict) → told_verdict ≡ w → bytes_brought v x (judge node v x) reply.Ok ≡ bytes_brought v x (judged.Chunk id number index from w) reply.Ok
  brings w is = ap (λ w. bytes_brought v x (judged.Chunk id number index from w) reply.Ok) is

  -- ---- one that fills none

  ignored_all : (o : Option (Copy × Fetch)) → of_fetch verdict.Ignored o ≡ done s
  ignored_all None = refl
  ignored_all (Some p) = by p.1.phase
    where
      by_list : (source : ℕ) (missing : List ℕ) → events.chunk_taken s id p.0 p.1 source missing verdict.Ignored ≡ done s
      by_list source [] = refl
      by_list source (i ∷ missing) = refl

      by_test : (source : ℕ) (missing : List ℕ) (b : Bool) → by_gap verdict.Ignored p.0 p.1 source missing b ≡ done s
      by_test source missing true = by_list source (others index missing)
      by_test source missing false = refl

      by : (q : Phase) → by_phase verdict.Ignored p.0 p.1 q ≡ done s
      by (pulling source missing) = by_test source missing (from == source && is_missing missing index)
      by locating = refl
      by (sized source) = refl
      by (failed fault) = refl

  fills_is : (of : IsOf row id number) (source : ℕ) (missing : List ℕ) → of.fetch.phase ≡ pulling source missing → (from == source) ≡ true → is_missing missing index ≡ true → (length bytes == chunk_length of.k.copy.length index) ≡ true
      → fills number from index (length bytes) of.k ≡ true
  fills_is of source missing is itself missed long =
      (λ i. is_on_way row beside contents h id of.k of.found of.fetch of.fetched i && option_map_or (λ (fetch : Fetch). fills_one number from index (length bytes) (fetch_of_length of.k.copy.length fetch)) (of.fetched i) false)
      ∙ ap (λ p. fills_one number from index (length bytes) (record (fetch_of_length of.k.copy.length of.fetch) { phase = p })) is
      ∙ (λ i. numbers_turn of.fetch.number number of.numbered i && itself i && missed i && long i)

  pub not_filled_is : option_map_or (fills number from index (length bytes)) (at row.copies id) false ≡ false → told_verdict ≡ verdict.Ignored
  not_filled_is e = elim (fetch_case row beside id number) [ inl none ↦ ap verdict_of none | inr of ↦ ap verdict_of (fetch_is row beside id number of) ∙ by of of.fetch.phase refl ]
    where
      by_test : (of : IsOf row id number) (source : ℕ) (missing : List ℕ) → of.fetch.phase ≡ pulling source missing → (a m l : Bool) → (from == source) ≡ a → is_missing missing index ≡ m → (length bytes == chunk_length of.k.copy.length index) ≡ l
          → cond (a && m && l) (gap_verdict v id index bytes (others index missing)) verdict.Ignored ≡ verdict.Ignored
      by_test of source missing is true true true a m l = false_true (sym (fills_is of source missing is a m l) ∙ sym (ap (λ o. option_map_or (fills number from index (length bytes)) o false) of.found) ∙ e)
      by_test of source missing is true true false a m l = refl
      by_test of source missing is true false l' a m l = refl
      by_test of source missing is false m' l' a m l = refl

      by : (of : IsOf row id number) (p : Phase) → of.fetch.phase ≡ p → pulled_verdict v id index bytes from of.k.copy p ≡ verdict.Ignored
      by of (pulling source missing) is = by_test of source missing is (from == source) (is_missing missing index) (length bytes == chunk_length of.k.copy.length index) refl refl refl
      by of locating is = refl
      by of (sized source) is = refl
      by of (failed fault) is = refl

  pub not_filled : option_map_or (fills number from index (length bytes)) (at row.copies id) false ≡ false → RowStep node row beside contents x (only reply.Ok) row beside
  not_filled e =
      let is_ignored = not_filled_is e in
      ignored node row beside contents h x refl (step_is (fetch_of s id number) refl verdict.Ignored is_ignored ∙ ignored_all (fetch_of s id number)) (brings verdict.Ignored is_ignored) refl

  -- ---- one that fills a gap

  module _ (a : IsFilled row id number from index (length bytes)) where
    abbrev k : CopyView
    k = a.of.k

    abbrev fetch : Fetch
    fetch = a.of.fetch

    abbrev left : List ℕ
    left = others index a.missing

    verdict_is : told_verdict ≡ gap_verdict v id index bytes left
    verdict_is =
        ap verdict_of (fetch_is row beside id number a.of) ∙ ap (pulled_verdict v id index bytes from k.copy) a.pulled
        ∙ (λ i. cond (a.itself i && a.missed i && a.long i) (gap_verdict v id index bytes left) verdict.Ignored)

    change_is : (w : ChunkVerdict) → told_verdict ≡ w → change node row beside contents h x ≡ events.chunk_taken s id k.copy fetch a.source left w
    change_is w is =
        step_is (Some (k.copy, fetch)) (fetch_is row beside id number a.of) w is ∙ ap (by_phase w k.copy fetch) a.pulled
        ∙ (λ i. by_gap w k.copy fetch a.source a.missing (a.itself i && a.missed i))

    pub resident : is_some k.copy.offset ≡ true
    resident = resides row beside contents h id k a.of.found fetch a.of.fetched ∙ ap is_pulling a.pulled

    abbrev pub e : Extent
    e = (placed_at k.copy resident).0

    lies : extent_of k.copy ≡ Some e
    lies = (placed_at k.copy resident).1

    gaps : are_gaps k.copy.length (pulling a.source a.missing) ≡ true
    gaps =
        sym (ap (λ o. option_map_or (λ (f : Fetch). are_gaps k.copy.length f.phase) o true) a.of.fetched ∙ ap (are_gaps k.copy.length) a.pulled)
        ∙ (h.kept.kept.shape.each id k.copy (at-copies_found row.copies id k a.of.found)).gaps

    abbrev some_gap : Bool
    some_gap = nat_lt 0 (length a.missing)

    abbrev all_within : Bool
    all_within = list_all (λ i. nat_lt i (chunk_count k.copy.length)) a.missing

    one : nat_lt index (chunk_count k.copy.length) ≡ true
    one = one_of k.copy.length index a.missing (both_right some_gap all_within (both_left (some_gap && all_within) (nat_lt 0 k.copy.length) (both_left (some_gap && all_within && nat_lt 0 k.copy.length) (nat_le k.copy.length longest_object) gaps))) a.missed

    within : 65536 * index + length bytes ≤ k.copy.length
    within = within_object k.copy.length index (length bytes) one (same (length bytes) (chunk_length k.copy.length index) a.long)
      where
        same : (a b : ℕ) → (a == b) ≡ true → a ≡ b
        same a b e = grind (arith, nat_tests, e)

    pub small : 65536 * index < 2 ^ 32
    small =
        let b : index < chunk_count k.copy.length = grind (arith, nat_tests, one) in
        let l : k.copy.length ≤ 16777216 = grind (arith, nat_tests, both_right (some_gap && all_within && nat_lt 0 k.copy.length) (nat_le k.copy.length longest_object) gaps) in
        omega (arith, b, l)

    long : e.length ≡ rounded k.copy.length
    long = (placed_at k.copy resident).2

    pub in_place : place_of row.copies id ≡ Some e
    in_place = is_place row beside contents h id k a.of.found e lies long (65536 * index) bytes within

    pub in_extent : 65536 * index + length bytes ≤ e.length
    in_extent = fits row beside contents h id k a.of.found e lies long (65536 * index) bytes within

    abbrev pub wrote : Row
    wrote = row_written row e (65536 * index) bytes

    -- what a body knows that put the chunk where the copy of the id lay, and then compared the digest of its bytes
    pub record IsPut (copy : CopyView) (digest : Digest) (now : Row) (right : Bool) : Type 0 where
      pub same : k ≡ copy
      pub written : now ≡ wrote
      pub known : k.digest ≡ Some digest
      pub test : has_digest (take k.copy.length (placed_bytes e wrote.window.placed)) digest ≡ right

    pub put_so : (copy : CopyView) → at row.copies id ≡ Some copy → (digest : Digest) → copy.digest ≡ Some digest → (place : Option Extent) → place ≡ extent_of copy.copy
        → (now : Row) → now.copies ≡ row.copies → ((f : Extent) → place ≡ Some f → 65536 * index < 2 ^ 32 → 65536 * index + length bytes ≤ f.length → now ≡ row_written row f (65536 * index) bytes)
        → (right : Bool) → ((z : CopyView) (f : Extent) → at now.copies id ≡ Some z → extent_of z.copy ≡ Some f → right ≡ has_digest (take z.copy.length (placed_bytes f now.window.placed)) digest) → IsPut copy digest now right
    put_so copy found digest known place lay now copies put right tested =
        let same = some_value k copy (sym a.of.found ∙ found) in
        let wrote_so = put e (lay ∙ ap (λ (z : CopyView). extent_of z.copy) (sym same) ∙ lies) small in_extent in
        record {
          same = same;
          written = wrote_so;
          known = ap (λ (z : CopyView). z.digest) same ∙ known;
          test = ap (λ (r : Row). has_digest (take k.copy.length (placed_bytes e r.window.placed)) digest) (sym wrote_so)
              ∙ sym (tested k e (ap (λ t. at t id) copies ∙ a.of.found) lies);
        }

    abbrev whole : List ℕ
    whole = with_chunk v id index bytes

    keeps_now : keeps_digest k.copy ≡ true
    keeps_now = by k.copy.state (is_on_way row beside contents h id k a.of.found fetch a.of.fetched)
      where
        by : (st : CopyState) → is_fetching st ≡ true → cond (was_sealed st) true (option_map_or (λ (fetch : Fetch). is_sized fetch.phase) k.copy.fetch false) ≡ true
        by Fetching t = ap (λ o. option_map_or (λ (fetch : Fetch). is_sized fetch.phase) o false) a.of.fetched ∙ ap is_sized a.pulled
        by Created t = true_false t
        by Sealed t = true_false t
        by Restoring t = true_false t
        by Away t = true_false t

    lacks_is : option_map_or (lacks_only index) (at row.copies id) false ≡ list_all (λ i. i == index) a.missing
    lacks_is =
        ap (λ o. option_map_or (lacks_only index) o false) a.of.found ∙ ap (λ o. option_map_or (λ (f : Fetch). list_all (λ i. i == index) (missing_of f.phase)) o false) a.of.fetched
        ∙ ap (λ p. list_all (λ i. i == index) (missing_of p)) a.pulled

    rest_left : option_map_or (lacks_only index) (at row.copies id) false ≡ false → (i : ℕ) × (rest : List ℕ) × (left ≡ i ∷ rest)
    rest_left lacks = some_left index a.missing (sym lacks_is ∙ lacks)

    pub part_is : option_map_or (lacks_only index) (at row.copies id) false ≡ false → told_verdict ≡ verdict.Part
    part_is lacks = verdict_is ∙ ap (gap_verdict v id index bytes) (rest_left lacks).2

    module _ (placed : ArePlaced row.window.placed (place_of row.copies)) where
      here : take k.copy.length (placed_bytes e wrote.window.placed) ≡ whole
      here = written_here row beside contents h id k a.of.found e lies long (65536 * index) bytes within placed

      -- the bytes of the copy, and of another one, where the chunk is brought
      shows_here : (table : Option (ObjectId × List ℕ)) → table ≡ Some (id, whole) → (copy : Copy) (f : Extent) → copy.length ≡ k.copy.length → f ≡ e → filled (at (brought_to contents.bytes table) id) copy ≡ take copy.length (placed_bytes f wrote.window.placed)
      shows_here table is copy f same at_e =
          ap (λ o. filled (at (brought_to contents.bytes o) id) copy) is ∙ ap (λ o. filled o copy) (at-put_here contents.bytes id whole) ∙ sym here
          ∙ ap (λ m. take m (placed_bytes e wrote.window.placed)) (sym same) ∙ ap (λ g. take copy.length (placed_bytes g wrote.window.placed)) (sym at_e)

      shows_elsewhere : (q : ObjectId) (z : CopyView) (f : Extent) → same_id q id ≡ false → at row.copies q ≡ Some z → extent_of z.copy ≡ Some f → filled (at contents.bytes q) z.copy ≡ take z.copy.length (placed_bytes f wrote.window.placed)
      shows_elsewhere q z f differs was there =
          same_bytes node row beside contents h x q z f was there
          ∙ ap (take z.copy.length) (sym (written_elsewhere row beside contents h id k a.of.found e lies long (65536 * index) bytes within placed q z f differs was there))

      shows_others : (table : Option (ObjectId × List ℕ)) → table ≡ Some (id, whole) → (q : ObjectId) (z : CopyView) (f : Extent) → same_id q id ≡ false → at row.copies q ≡ Some z → extent_of z.copy ≡ Some f → filled (at (brought_to contents.bytes table) q) z.copy ≡ take z.copy.length (placed_bytes f wrote.window.placed)
      shows_others table is q z f differs was there =
          ap (λ o. filled (at (brought_to contents.bytes o) q) z.copy) is
          ∙ ap (λ o. filled o z.copy) (at-put contents.bytes id whole q ∙ ap (λ b. cond b (Some whole) (at contents.bytes q)) differs)
          ∙ shows_elsewhere q z f differs was there

      -- ---- others are missing still

      abbrev closed : CopyView → CopyView
      closed z = after_chunk number from index (length bytes) z

      abbrev taken_in : Phase → Fetch
      taken_in p = fetch_kept (fetch_chunk_taken number from index (length bytes) (record (fetch_of_length k.copy.length fetch) { phase = p }))

      closed_is : (closed k).copy ≡ record k.copy { fetch = Some (record fetch { phase = pulling a.source left }) }
      closed_is =
          ap (λ o. record k.copy { fetch = option_map (λ (f : Fetch). fetch_kept (fetch_chunk_taken number from index (length bytes) (fetch_of_length k.copy.length f))) o }) a.of.fetched
          ∙ ap (λ p. record k.copy { fetch = Some (taken_in p) }) a.pulled
          ∙ (λ i. record k.copy {
            fetch = Some (fetch_kept (cond (numbers_turn fetch.number number a.of.numbered i && a.itself i && a.missed i && a.long i)
                (record (fetch_of_length k.copy.length fetch) { phase = pulling a.source left }) (record (fetch_of_length k.copy.length fetch) { phase = pulling a.source a.missing })));
          })

      pub part_done : option_map_or (lacks_only index) (at row.copies id) false ≡ false → RowStep node row beside contents x (only reply.Ok) (with_copy closed wrote id) beside
      part_done lacks =
          let rest = rest_left lacks in
          let is = part_is lacks in
          arrived node row beside contents h x refl id k a.of.found closed wrote.window.placed [] [] refl refl
          (λ f there. shows_here _ (brings verdict.Part is) (closed k).copy f refl (some_value f e (sym there ∙ lies)))
          (λ q z f differs was there. shows_others _ (brings verdict.Part is) q z f differs was there)
          (λ keeps. h.digests id k a.of.found keeps_now) (λ q differs. refl)
          (change_is verdict.Part is ∙ ap (λ l. events.chunk_taken s id k.copy fetch a.source l verdict.Part) rest.2
          ∙ ap (λ l. done (set_copy s id (marked (mark.lacking fetch a.source l) k.copy))) (sym rest.2) ∙ ap (λ copy. done (set_copy s id copy)) (sym closed_is)) (λ o. refl)

      -- ---- it was the last one

      module _ (lacks : option_map_or (lacks_only index) (at row.copies id) false ≡ true) (digest : Digest) (has : k.digest ≡ Some digest) where
        none : left ≡ []
        none = none_left index a.missing (sym lacks_is ∙ lacks)

        digest_is : digest_at contents.digests id ≡ digest
        digest_is = h.digests id k a.of.found keeps_now ∙ ap (λ o. unwrap_or o no_digest) has

        pub last_is : (b : Bool) → has_digest (take k.copy.length (placed_bytes e wrote.window.placed)) digest ≡ b → told_verdict ≡ cond b verdict.Whole verdict.Damaged
        last_is b is =
            verdict_is ∙ ap (gap_verdict v id index bytes) none
            ∙ ap (λ t. cond t verdict.Whole verdict.Damaged) (ap (has_digest whole) digest_is ∙ ap (λ bs. has_digest bs digest) (sym here) ∙ is)

        last_change : (w : ChunkVerdict) → told_verdict ≡ w → change node row beside contents h x ≡ events.chunk_taken s id k.copy fetch a.source [] w
        last_change w is = change_is w is ∙ ap (λ l. events.chunk_taken s id k.copy fetch a.source l w) none

        pub damaged_done : has_digest (take k.copy.length (placed_bytes e wrote.window.placed)) digest ≡ false → ArePlaced wrote.window.placed (place_of row.copies)
            → RowStep node row beside contents x (only reply.Ok) (unfetched_row fault.Damaged wrote id) beside
        damaged_done wrong now =
            let is = last_is false wrong in
            fails node row beside contents h id number a.of fault.Damaged x refl (without (option_to_list (place_of row.copies id)) wrote.window.placed) [] [] refl
            (λ q z f differs was there.
            ap (λ o. filled (at (brought_to contents.bytes o) q) z.copy) (brings verdict.Damaged is)
            ∙ shows_elsewhere q z f differs was there
            ∙ ap (λ o. take z.copy.length (unwrap_or o [])) (sym (found_left wrote.window.placed row.copies now id q f (same_id-flip id q ∙ differs) (place_found row.copies q z was ∙ there))))
            (last_change verdict.Damaged is) (λ o. refl)

        abbrev sent : List Sending
        sent = add_location id ∷ []

        module _ (right : has_digest (take k.copy.length (placed_bytes e wrote.window.placed)) digest ≡ true) (entry : Location) (posts : List Post) where
          abbrev response : RowGiven
          response = record { reply = reply.Ok; posts = posts; erased = [] }

          abbrev c_now : Change
          c_now = copy_changes node row beside contents h x refl id k a.of.found after_last_chunk wrote.window.placed sent posts

          is : told_verdict ≡ verdict.Whole
          is = last_is true right

          change_now : change node row beside contents h x ≡ c_now
          change_now = last_change verdict.Whole is ∙ sending-is sent (done (set_copy s id (after_last_chunk k).copy))

          m : TakesChange node row beside contents h x c_now response (with_copy after_last_chunk wrote id) beside
          m =
              arrives node row beside contents h x refl id k a.of.found after_last_chunk wrote.window.placed sent posts refl refl
              (λ f there. shows_here _ (brings verdict.Whole is) (after_last_chunk k).copy f refl (some_value f e (sym there ∙ lies)))
              (λ q z f differs was there. shows_others _ (brings verdict.Whole is) q z f differs was there)
              (λ keeps. h.digests id k a.of.found keeps_now) (λ q differs. refl)

          there_now : at (with_copy after_last_chunk wrote id).copies id ≡ Some (after_last_chunk k)
          there_now = ap (λ t. at t id) (changed-found after_last_chunk id row.copies k a.of.found) ∙ at-put_here row.copies id (after_last_chunk k)

          pub whole_done : entry ≡ record { node = node; length = k.copy.length; digest = digest } → posts ≡ to_directory (AddLocation id entry)
              → RowStep node row beside contents x response (with_copy after_last_chunk wrote id) beside
          whole_done entry_is said =
              moved node row beside contents h x c_now change_now response (with_copy after_last_chunk wrote id) beside m
              (said ∙ ap (λ en. to_directory (AddLocation id en)) (entry_is
              ∙ ap (λ n. record { node = node; length = n; digest = digest }) (sym (ap (λ p. option_map_or (λ (copy : Copy). copy.length) p 0) (at-put_here (copies_of row.copies) id (after_last_chunk k).copy)))
              ∙ ap (λ d. record { node = node; length = length_at c_now.shape id; digest = d }) (sym ((shown_now node row beside contents h x c_now change_now response (with_copy after_last_chunk wrote id) beside m).digests id (after_last_chunk k) there_now refl ∙ ap (λ o. unwrap_or o no_digest) has))))
