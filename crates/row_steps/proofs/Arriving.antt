-- A row takes a message for a copy that is on its way: what is so of each, and the directory's answer.
use Rattle.std.proofs.Common.{◌≡◌, ℕ, Bool, true, false, not, cond, ◌&&◌, ◌==◌, ◌⊎◌, inl, inr, List, [], flat_map, take, Option, Some, None, is_some, is_none, unwrap_or, refl, sym, ap, subst, ◌∙◌, T, arith}
use Rattle.std.specs.Prelude.{option_map}
use Rattle.std.specs.Option.{option_map_or, option_and_then}
use Rattle.std.proofs.lemmas.Bool.Decides.{nat_tests}
use Rattle.std.specs.FinMap.Entries.{is_sorted, same_entries, is_sorted-put}
use Rattle.obj_id.specs.declared.ids.ObjectId.{ObjectId}
use Rattle.obj_id.specs.declared.works.Extent.{Extent}
use Rattle.obj_id.specs.declared.messages.Digest.{Digest}
use Rattle.obj_id.specs.declared.messages.Location.{Location}
use Rattle.private_store.specs.declared.faults.FetchFault.TheVariants.{Absent}
use Rattle.obj_id.specs.declared.messages.Arrival.TheVariants as arrival
use Rattle.obj_id.specs.declared.refusals.Refusal.TheVariants.{Stale}
use Rattle.obj_id.specs.declared.commands.CopyState.{CopyState}
use Rattle.obj_id.specs.declared.commands.CopyState.TheVariants.{Created, Sealed, Restoring, Fetching, Away}
use Rattle.obj_id.specs.declared.commands.Reply.TheVariants as reply
use Rattle.obj_id.specs.Ids.{id_cmp, same_id}
use Rattle.store_facts.proofs.Ids.{id_cmp-IsTotalOrder, id_cmp-IsAntisymmetric, same_id-equal}
use Rattle.private_store.specs.declared.inputs.Input.{Input}
use Rattle.private_store.specs.declared.inputs.Input.TheVariants as input
use Rattle.private_store.specs.rules.Tables.{ById, at, with_entry, is_among}
use Rattle.private_store.specs.rules.Shape.{Copy, Shape, Change, Fetch, Phase, locating, sized, pulling, failed, Sending}
use Rattle.private_store.specs.rules.Marks.{marked}
use Rattle.private_store.specs.rules.Marks as mark
use Rattle.private_store.specs.rules.Copies.{extent_of}
use Rattle.private_store.specs.rules.Room.{set_copy}
use Rattle.private_store.specs.rules.Change.{done, erasing}
use Rattle.private_store.specs.rules.Step.{if_live}
use Rattle.private_store.specs.rules.Events.{is_live, fetch_of}
use Rattle.private_store.specs.rules.Events as events
use Rattle.private_store.specs.rules.Contents.{Contents, View, judge, source_in, entry_elsewhere, is_locating, is_sized, keeps_digest, no_digest, bytes_brought, digest_brought, brought, bytes_received}
use Rattle.private_store.specs.rules.Private.{Post, posts_of, view_after}
use Rattle.private_store.specs.laws.Invariants.{has_grant, is_fetching, is_pulling, has_extent}
use Rattle.store_facts.proofs.Checks.{checked-false, checked-nil}
use Rattle.store_facts.proofs.Filling.{filled}
use Rattle.store_facts.proofs.ErasedKeys.{keys_none, all_found}
use Rattle.store_facts.proofs.Rows.{at-put, at-put_here}
use Rattle.store_facts.proofs.Tests.{none_some, some_value, true_false, false_true, T_true, both_left, both_right, none_here}
use Rattle.job_region.specs.Region.{region_bytes_at as placed_bytes}
use Rattle.lru_evictor.specs.Orders.{AreThere}
use Rattle.lru_evictor.proofs.ForCallers.{reordered-unused}
use Rattle.row_copy.specs.Arriving.{awaits_source, in_phase, after_located, after_source}
use Rattle.job_row.specs.Entries.{changed}
use Rattle.row_copy.specs.CopyViews.{CopyView}
use Rattle.job_row.specs.Row.{Row, copies_of}
use Rattle.job_row.specs.Scope.{with_copy}
use Rattle.row_steps.specs.Shown.{seen, work_on, IsShown, RowGiven, only, RowStep}
use Rattle.job_row.proofs.ForCallers.{changed-found, changed-absent, at-copies_none, at-copies_found, copies-changed, sorted-copies}
use Rattle.row_copy.proofs.ForCallers.{awaits_parts}
use Rattle.row_steps.proofs.Changing.{there_with}
use Rattle.row_steps.proofs.Stepping.{TakesChange, moved, change, stays, same_bytes, bytes_now, digests_now, received_stays}
use Rattle.row_steps.specs.Beside.{SharedTables, shape_of}

-- a table with an entry that it has
pub put_same : {X : Type 0} (es : ById X) (id : ObjectId) (x : X) → T (is_sorted id_cmp es) → at es id ≡ Some x → with_entry es id x ≡ es
put_same es id x sorted found =
    same_entries id_cmp id_cmp-IsTotalOrder id_cmp-IsAntisymmetric (with_entry es id x) es (is_sorted-put id_cmp id_cmp-IsTotalOrder id x es sorted) sorted
    (λ q. at-put es id x q ∙ by q (same_id q id) refl)
  where
    by : (q : ObjectId) (b : Bool) → same_id q id ≡ b → cond b (Some x) (at es q) ≡ at es q
    by q true t = sym (ap (at es) (same_id-equal q id t) ∙ found)
    by q false t = refl

-- ---- the fetch that a message is of

-- the row has a fetch of this number for the object
pub record IsOf (row : Row) (id : ObjectId) (number : ℕ) : Type 0 where
  pub k : CopyView
  pub fetch : Fetch
  pub found : at row.copies id ≡ Some k
  pub fetched : k.copy.fetch ≡ Some fetch
  pub numbered : (fetch.number == number) ≡ true

module _ (row : Row) (beside : SharedTables) (id : ObjectId) (number : ℕ) where
  abbrev by_number : Copy → Option Fetch → Option (Copy × Fetch)
  by_number copy o = option_and_then (λ (fetch : Fetch). cond (fetch.number == number) (Some (copy, fetch)) None) o

  abbrev by_copy : Option Copy → Option (Copy × Fetch)
  by_copy o = option_and_then (λ (copy : Copy). by_number copy copy.fetch) o

  pub fetch_is : (of : IsOf row id number) → fetch_of (shape_of row beside) id number ≡ Some (of.k.copy, of.fetch)
  fetch_is of =
      ap by_copy (at-copies_found row.copies id of.k of.found) ∙ ap (by_number of.k.copy) of.fetched
      ∙ ap (λ b. cond b (Some (of.k.copy, of.fetch)) None) of.numbered

  pub fetch_case : (fetch_of (shape_of row beside) id number ≡ None) ⊎ IsOf row id number
  fetch_case = of_copy (at row.copies id) refl
    where
      of_number : (k : CopyView) → at row.copies id ≡ Some k → (fetch : Fetch) → k.copy.fetch ≡ Some fetch → (b : Bool) → (fetch.number == number) ≡ b
          → (fetch_of (shape_of row beside) id number ≡ None) ⊎ IsOf row id number
      of_number k found fetch fetched true n = inr (record { k = k; fetch = fetch; found = found; fetched = fetched; numbered = n })
      of_number k found fetch fetched false n =
          inl (ap by_copy (at-copies_found row.copies id k found) ∙ ap (by_number k.copy) fetched ∙ ap (λ b. cond b (Some (k.copy, fetch)) None) n)

      of_fetch : (k : CopyView) → at row.copies id ≡ Some k → (o : Option Fetch) → k.copy.fetch ≡ o → (fetch_of (shape_of row beside) id number ≡ None) ⊎ IsOf row id number
      of_fetch k found None none = inl (ap by_copy (at-copies_found row.copies id k found) ∙ ap (by_number k.copy) none)
      of_fetch k found (Some fetch) fetched = of_number k found fetch fetched (fetch.number == number) refl

      of_copy : (o : Option CopyView) → at row.copies id ≡ o → (fetch_of (shape_of row beside) id number ≡ None) ⊎ IsOf row id number
      of_copy None none = inl (ap by_copy (at-copies_none row.copies id none))
      of_copy (Some k) found = of_fetch k found k.copy.fetch refl

pub numbers_turn : (a b : ℕ) → (a == b) ≡ true → (b == a) ≡ true
numbers_turn a b e = grind (arith, nat_tests, e)

-- what is in a fetch is Fetching
module _ (row : Row) (beside : SharedTables) (contents : Contents) (h : IsShown row beside contents) (id : ObjectId) (k : CopyView) (found : at row.copies id ≡ Some k) (fetch : Fetch) (fetched : k.copy.fetch ≡ Some fetch) where
  pub is_on_way : is_fetching k.copy.state ≡ true
  is_on_way = sym (h.kept.kept.shape.each id k.copy (at-copies_found row.copies id k found)).in_fetch ∙ ap is_some fetched

  -- and resident while it is pulled
  pub resides : is_some k.copy.offset ≡ is_pulling fetch.phase
  resides = (h.kept.kept.shape.each id k.copy (at-copies_found row.copies id k found)).resident ∙ by k.copy.state is_on_way ∙ ap (λ o. option_map_or (λ (f : Fetch). is_pulling f.phase) o false) fetched
    where
      by : (st : CopyState) → is_fetching st ≡ true → has_extent st k.copy.fetch ≡ option_map_or (λ (f : Fetch). is_pulling f.phase) k.copy.fetch false
      by Fetching e = refl
      by Created e = true_false e
      by Sealed e = true_false e
      by Restoring e = true_false e
      by Away e = true_false e

-- ---- the step

module _ (node : ℕ) (row : Row) (beside : SharedTables) (contents : Contents) (h : IsShown row beside contents) (x : Input) (none : bytes_received x ≡ None) where
  abbrev s : Shape
  s = shape_of row beside

  pub live_is : (c : Change) → if_live s c ≡ c
  live_is c = checked-false s (not (is_live s)) Stale [] c refl ∙ checked-nil s c

  done_is : done s ≡ erasing s (done s)
  done_is = ap (λ ks. record (done s) { erased = ks }) (sym (keys_none (copies_of row.copies) (copies_of row.copies) (all_found (copies_of row.copies))))

  -- the message changes nothing
  pub ignored : change node row beside contents h x ≡ done s → bytes_brought (seen row beside contents) x (judge node (seen row beside contents) x) reply.Ok ≡ None → digest_brought node (seen row beside contents) x reply.Ok ≡ None
      → RowStep node row beside contents x (only reply.Ok) row beside
  ignored is bytes digests = stays node row beside contents h x reply.Ok (is ∙ done_is) bytes digests none

  -- one copy is changed, and perhaps what lies in the window
  module _ (id : ObjectId) (k : CopyView) (found : at row.copies id ≡ Some k) (f : CopyView → CopyView) (placed : List (ℕ × List ℕ)) (sent : List Sending) (posts : List Post) where
    abbrev now : CopyView
    now = f k

    abbrev pub row_now : Row
    row_now = record row { window = record row.window { placed = placed }; copies = changed f row.copies id }

    abbrev pub copy_changes : Change
    copy_changes = record (done (set_copy s id now.copy)) { sent = sent }

    abbrev pub response : RowGiven
    response = record { reply = reply.Ok; posts = posts; erased = [] }

    -- what is so of the changed copy, and of the others, is so of each
    each_now : (P : ObjectId → CopyView → Type 0) → P id now → ((q : ObjectId) (z : CopyView) → same_id q id ≡ false → at row.copies q ≡ Some z → P q z)
        → (q : ObjectId) (y : CopyView) → at row_now.copies q ≡ Some y → P q y
    each_now P here others q y is = by (same_id q id) refl (sym (at-put row.copies id now q) ∙ ap (λ t. at t q) (sym (changed-found f id row.copies k found)) ∙ is)
      where
        by : (b : Bool) → same_id q id ≡ b → cond b (Some now) (at row.copies q) ≡ Some y → P q y
        by true t e = subst (λ p. P p y) (sym (same_id-equal q id t)) (subst (P id) (some_value now y e) here)
        by false t e = others q y t e

    there_now : AreThere (copies_of row_now.copies) row.order
    there_now = subst (λ t. AreThere t row.order) (sym (copies-changed f row.copies id k found)) (there_with (copies_of row.copies) id now.copy row.order h.there)

    module _ (working : now.working ≡ k.working) (granted : now.granted ≡ k.granted)
        (here : (e : Extent) → extent_of now.copy ≡ Some e → filled (at (bytes_now node row beside contents h x copy_changes) id) now.copy ≡ take now.copy.length (placed_bytes e placed))
        (elsewhere : (q : ObjectId) (z : CopyView) (e : Extent) → same_id q id ≡ false → at row.copies q ≡ Some z → extent_of z.copy ≡ Some e → filled (at (bytes_now node row beside contents h x copy_changes) q) z.copy ≡ take z.copy.length (placed_bytes e placed))
        (digest : keeps_digest now.copy ≡ true → unwrap_or (at (digests_now node row beside contents h x copy_changes) id) no_digest ≡ unwrap_or now.digest no_digest)
        (digests : (q : ObjectId) → same_id q id ≡ false → at (digests_now node row beside contents h x copy_changes) q ≡ at contents.digests q) where
      pub arrives : TakesChange node row beside contents h x copy_changes response row_now beside
      arrives = record {
        shape = ap (λ t. record s { copies = t }) (sym (copies-changed f row.copies id k found));
        order = sym (reordered-unused row.order (copies_of row_now.copies) there_now);
        there = there_now;
        listed = each_now (λ q y. is_among row.order q ≡ true) (h.listed id k found) (λ q z differs was. h.listed q z was);
        bytes = λ q y e is.
            each_now (λ q y. extent_of y.copy ≡ Some e → filled (at (bytes_now node row beside contents h x copy_changes) q) y.copy ≡ take y.copy.length (placed_bytes e placed))
            (here e) (λ q z differs was. elsewhere q z e differs was) q y is;
        digests = each_now (λ q y. keeps_digest y.copy ≡ true → unwrap_or (at (digests_now node row beside contents h x copy_changes) q) no_digest ≡ unwrap_or y.digest no_digest)
            digest (λ q z differs was keeps. ap (λ o. unwrap_or o no_digest) (digests q differs) ∙ h.digests q z was keeps);
        working = each_now (λ q y. y.working ≡ work_on beside.works q) (working ∙ h.working id k found) (λ q z differs was. h.working q z was);
        granted = each_now (λ q y. y.granted ≡ has_grant beside.given q) (granted ∙ h.granted id k found) (λ q z differs was. h.granted q z was);
        received = received_stays node row beside contents h x none;
        reply = refl;
        erased = refl;
      }

      pub arrived : change node row beside contents h x ≡ copy_changes → ((o : View) → posts ≡ flat_map (posts_of node o x) sent) → RowStep node row beside contents x response row_now beside
      arrived is posted = moved node row beside contents h x copy_changes is response row_now beside arrives (posted (view_after node (seen row beside contents) x (judge node (seen row beside contents) x) copy_changes))

-- ---- the directory's answer

pub record IsAwaited (row : Row) (id : ObjectId) (number : ℕ) : Type 0 where
  pub of : IsOf row id number
  pub nowhere : of.k.copy.offset ≡ None
  pub at_begin : of.fetch.phase ≡ locating

is_locating-only : (p : Phase) → is_locating p ≡ true → p ≡ locating
is_locating-only locating e = refl
is_locating-only (sized source) e = true_false e
is_locating-only (pulling source missing) e = true_false e
is_locating-only (failed fault) e = true_false e

none_is : {A : Type 0} (o : Option A) → is_none o ≡ true → o ≡ None
none_is None e = refl
none_is (Some a) e = true_false e

pub awaited : (row : Row) (id : ObjectId) (number : ℕ) (k : CopyView) → at row.copies id ≡ Some k → awaits_source number k ≡ true → IsAwaited row id number
awaited row id number k found e = by k.copy.fetch refl (awaits_parts number k e).1
  where
    by : (o : Option Fetch) → k.copy.fetch ≡ o → option_map_or (λ (fetch : Fetch). fetch.number == number && is_locating fetch.phase) o false ≡ true → IsAwaited row id number
    by None fetched t = true_false t
    by (Some fetch) fetched t = record {
      of = record { k = k; fetch = fetch; found = found; fetched = fetched; numbered = both_left (fetch.number == number) _ t };
      nowhere = none_is k.copy.offset (awaits_parts number k e).0;
      at_begin = is_locating-only fetch.phase (both_right (fetch.number == number) _ t);
    }

module _ (node : ℕ) (row : Row) (beside : SharedTables) (contents : Contents) (h : IsShown row beside contents) (id : ObjectId) (number : ℕ) (entries : List Location) where
  abbrev y : Input
  y = input.Arrive (arrival.Located id number entries)

  abbrev t : Shape
  t = shape_of row beside

  abbrev entry : Option Location
  entry = entry_elsewhere node entries

  abbrev by_phase : Copy → Fetch → Phase → Change
  by_phase copy fetch p = elim p [ locating ↦ done (set_copy t id (marked (mark.located fetch (source_in node entries)) copy)) | _ ↦ done t ]

  abbrev of_fetch : Option (Copy × Fetch) → Change
  of_fetch o = option_map_or (λ p. by_phase p.0 p.1 p.1.phase) o (done t)

  abbrev digest_of_fetch : Option (Copy × Fetch) → Option (ObjectId × Digest)
  digest_of_fetch o = option_and_then (λ (p : Copy × Fetch). cond (is_locating p.1.phase) (option_map (λ (entry : Location). (id, entry.digest)) entry) None) o

  step_is : (o : Option (Copy × Fetch)) → fetch_of t id number ≡ o → change node row beside contents h y ≡ of_fetch o
  step_is o e = live_is node row beside contents h y refl (events.located t id number (source_in node entries)) ∙ ap of_fetch e

  -- of no fetch, or of one whose source is known
  late : (o : Option (Copy × Fetch)) → fetch_of t id number ≡ o → of_fetch o ≡ done t → digest_of_fetch o ≡ None → RowStep node row beside contents y (only reply.Ok) row beside
  late o e same none = ignored node row beside contents h y refl (step_is o e ∙ same) refl (ap digest_of_fetch e ∙ none)

  awaits_is : (of : IsOf row id number) → of.fetch.phase ≡ locating → awaits_source number of.k ≡ true
  awaits_is of at_begin =
      (λ i. is_on_way row beside contents h id of.k of.found of.fetch of.fetched i && none_so i && option_map_or (λ (fetch : Fetch). fetch.number == number && is_locating fetch.phase) (of.fetched i) false)
      ∙ (λ i. of.numbered i && is_locating (at_begin i))
    where
      none_so : is_none of.k.copy.offset ≡ true
      none_so = ap is_none (none_here of.k.copy.offset (resides row beside contents h id of.k of.found of.fetch of.fetched ∙ ap is_pulling at_begin))

  not_awaited : option_map_or (awaits_source number) (at row.copies id) false ≡ false → RowStep node row beside contents y (only reply.Ok) row beside
  not_awaited e = elim (fetch_case row beside id number) [ inl none ↦ late None none refl refl | inr of ↦ by of of.fetch.phase refl ]
    where
      by : (of : IsOf row id number) (p : Phase) → of.fetch.phase ≡ p → RowStep node row beside contents y (only reply.Ok) row beside
      by of locating is = false_true (sym (awaits_is of is) ∙ sym (ap (λ o. option_map_or (awaits_source number) o false) of.found) ∙ e)
      by of (sized source) is = late (Some (of.k.copy, of.fetch)) (fetch_is row beside id number of) (ap (by_phase of.k.copy of.fetch) is) (ap (λ p. cond (is_locating p) (option_map (λ (entry : Location). (id, entry.digest)) entry) None) is)
      by of (pulling source missing) is = late (Some (of.k.copy, of.fetch)) (fetch_is row beside id number of) (ap (by_phase of.k.copy of.fetch) is) (ap (λ p. cond (is_locating p) (option_map (λ (entry : Location). (id, entry.digest)) entry) None) is)
      by of (failed fault) is = late (Some (of.k.copy, of.fetch)) (fetch_is row beside id number of) (ap (by_phase of.k.copy of.fetch) is) (ap (λ p. cond (is_locating p) (option_map (λ (entry : Location). (id, entry.digest)) entry) None) is)

  module _ (a : IsAwaited row id number) (awaits : awaits_source number a.of.k ≡ true) where
    abbrev k : CopyView
    k = a.of.k

    abbrev f : CopyView → CopyView
    f z = after_located node number entries z

    now_is : f k ≡ after_source entry k
    now_is = ap (λ b. cond b (after_source entry k) k) awaits

    abbrev moved_to : Change
    moved_to = done (set_copy t id (f k).copy)

    copy_is : (o : Option Location) → marked (mark.located a.of.fetch (option_map (λ (e : Location). record { node = e.node; length = e.length }) o)) k.copy ≡ (after_source o k).copy
    copy_is None = ap (λ p. record k.copy { fetch = in_phase (failed Absent) p }) (sym a.of.fetched)
    copy_is (Some e) = ap (λ p. record k.copy { length = e.length; fetch = in_phase (sized e.node) p }) (sym a.of.fetched)

    change_is : change node row beside contents h y ≡ moved_to
    change_is =
        step_is (Some (k.copy, a.of.fetch)) (fetch_is row beside id number a.of) ∙ ap (by_phase k.copy a.of.fetch) a.at_begin
        ∙ ap (λ copy. done (set_copy t id copy)) (copy_is entry ∙ ap (λ z. z.copy) (sym now_is))

    abbrev brings : Option Location → Option (ObjectId × Digest)
    brings o = option_map (λ (e : Location). (id, e.digest)) o

    digest_is : digest_brought node (seen row beside contents) y reply.Ok ≡ brings entry
    digest_is = ap digest_of_fetch (fetch_is row beside id number a.of) ∙ ap (λ p. cond (is_locating p) (brings entry) None) a.at_begin

    nowhere_now : (o : Option Location) → (after_source o k).copy.offset ≡ None
    nowhere_now None = a.nowhere
    nowhere_now (Some e) = a.nowhere

    no_extent : (copy : Copy) (e : Extent) → copy.offset ≡ None → extent_of copy ≡ Some e → ◌≡◌ {A = Option Extent} None (Some e)
    no_extent copy e none lies = sym (ap (λ p. extent_of (record copy { offset = p })) none) ∙ lies

    digest_now : (o : Option Location) → keeps_digest (after_source o k).copy ≡ true → unwrap_or (at (brought contents.digests (brings o)) id) no_digest ≡ unwrap_or (after_source o k).digest no_digest
    digest_now None keeps = true_false (sym (gone k.copy.state (is_on_way row beside contents h id k a.of.found a.of.fetch a.of.fetched)) ∙ keeps)
      where
        gone : (st : CopyState) → is_fetching st ≡ true → keeps_digest (record (after_source None k).copy { state = st }) ≡ false
        gone Fetching e = ap (λ p. option_map_or (λ (fetch : Fetch). is_sized fetch.phase) (in_phase (failed Absent) p) false) a.of.fetched
        gone Created e = true_false e
        gone Sealed e = true_false e
        gone Restoring e = true_false e
        gone Away e = true_false e
    digest_now (Some e) keeps = ap (λ o. unwrap_or o no_digest) (at-put_here contents.digests id e.digest)

    digests_other : (o : Option Location) (q : ObjectId) → same_id q id ≡ false → at (brought contents.digests (brings o)) q ≡ at contents.digests q
    digests_other None q differs = refl
    digests_other (Some e) q differs = at-put contents.digests id e.digest q ∙ ap (λ b. cond b (Some e.digest) (at contents.digests q)) differs

    same_marks : (o : Option Location) → ((after_source o k).working ≡ k.working) × ((after_source o k).granted ≡ k.granted)
    same_marks None = (refl, refl)
    same_marks (Some e) = (refl, refl)

    takes : RowStep node row beside contents y (only reply.Ok) (with_copy f row id) beside
    takes =
        arrived node row beside contents h y refl id k a.of.found f row.window.placed [] []
        (ap (λ z. z.working) now_is ∙ (same_marks entry).0) (ap (λ z. z.granted) now_is ∙ (same_marks entry).1)
        (λ e lies. none_some e (no_extent (f k).copy e (ap (λ z. z.copy.offset) now_is ∙ nowhere_now entry) lies))
        (λ q z e differs was lies. same_bytes node row beside contents h y q z e was lies)
        (λ keeps.
        ap (λ d. unwrap_or (at (brought contents.digests d) id) no_digest) digest_is
        ∙ digest_now entry (ap (λ z. keeps_digest z.copy) (sym now_is) ∙ keeps)
        ∙ ap (λ z. unwrap_or z.digest no_digest) (sym now_is))
        (λ q differs. ap (λ d. at (brought contents.digests d) q) digest_is ∙ digests_other entry q differs)
        change_is (λ o. refl)

  pub located_done : RowStep node row beside contents y (only reply.Ok) (with_copy (after_located node number entries) row id) beside
  located_done = by (at row.copies id) refl
    where
      unchanged : (k : CopyView) → at row.copies id ≡ Some k → awaits_source number k ≡ false → with_copy (after_located node number entries) row id ≡ row
      unchanged k found e =
          ap (λ t. record row { copies = t })
          (changed-found (after_located node number entries) id row.copies k found
          ∙ ap (λ b. with_entry row.copies id (cond b (after_source entry k) k)) e
          ∙ put_same row.copies id k (subst T (sorted-copies row.copies) (T_true _ h.kept.kept.shape.by_id)) found)

      by_test : (k : CopyView) → at row.copies id ≡ Some k → (b : Bool) → awaits_source number k ≡ b → RowStep node row beside contents y (only reply.Ok) (with_copy (after_located node number entries) row id) beside
      by_test k found true e =
          let a = awaited row id number k found e in
          takes a (ap (awaits_source number) (some_value a.of.k k (sym a.of.found ∙ found)) ∙ e)
      by_test k found false e =
          subst (λ r. RowStep node row beside contents y (only reply.Ok) r beside) (sym (unchanged k found e))
          (not_awaited (ap (λ o. option_map_or (awaits_source number) o false) found ∙ e))

      by : (o : Option CopyView) → at row.copies id ≡ o → RowStep node row beside contents y (only reply.Ok) (with_copy (after_located node number entries) row id) beside
      by None none =
          subst (λ r. RowStep node row beside contents y (only reply.Ok) r beside) (sym (ap (λ t. record row { copies = t }) (changed-absent (after_located node number entries) id row.copies none)))
          (not_awaited (ap (λ o. option_map_or (awaits_source number) o false) none))
      by (Some k) found = by_test k found (awaits_source number k) refl
