-- A row takes a message that ends a fetch without a copy.
use Rattle.std.proofs.Common.{◌≡◌, ℕ, Bool, true, false, cond, ◌&&◌, ◌==◌, inl, inr, List, [], ◌∷◌, flat_map, take, Option, Some, None, unwrap_or, refl, sym, ap, ◌∙◌}
use Rattle.std.specs.Prelude.{option_to_list}
use Rattle.std.specs.Option.{option_map_or}
use Rattle.std.proofs.lemmas.Bool.{eqb-true}
use Rattle.obj_id.specs.declared.ids.ObjectId.{ObjectId}
use Rattle.obj_id.specs.declared.works.Extent.{Extent}
use Rattle.obj_id.specs.declared.messages.Arrival.TheVariants as arrival
use Rattle.obj_id.specs.declared.messages.PeerMessage.TheVariants as peer
use Rattle.obj_id.specs.declared.messages.DirectoryMessage.TheVariants.{RemoveLocation}
use Rattle.obj_id.specs.declared.commands.CopyState.{CopyState}
use Rattle.obj_id.specs.declared.commands.CopyState.TheVariants.{Created, Sealed, Restoring, Fetching, Away}
use Rattle.obj_id.specs.declared.commands.Reply.TheVariants as reply
use Rattle.obj_id.specs.Ids.{same_id}
use Rattle.store_facts.proofs.Ids.{same_id-flip}
use Rattle.private_store.specs.declared.faults.FetchFault.{FetchFault}
use Rattle.private_store.specs.declared.faults.FetchFault.TheVariants.{Absent}
use Rattle.private_store.specs.declared.inputs.Input.{Input}
use Rattle.private_store.specs.declared.inputs.Input.TheVariants as input
use Rattle.private_store.specs.rules.Tables.{at}
use Rattle.private_store.specs.rules.Shape.{Copy, Shape, Change, Fetch, Phase, locating, sized, pulling, failed, Sending, remove_source}
use Rattle.private_store.specs.rules.Copies.{extent_of}
use Rattle.private_store.specs.rules.Room.{set_copy}
use Rattle.private_store.specs.rules.Change.{done, sending}
use Rattle.private_store.specs.rules.Events.{fetch_of, fetch_failed, not_here_arrived}
use Rattle.private_store.specs.rules.Contents.{Contents, View, keeps_digest, is_sized, digest_brought, brought, bytes_received}
use Rattle.private_store.specs.rules.Private.{Post, posts_of, to_directory}
use Rattle.private_store.specs.laws.Invariants.{is_fetching}
use Rattle.store_facts.proofs.Filling.{filled}
use Rattle.store_facts.proofs.Tests.{none_some, true_false, false_true, both_left, both_right}
use Rattle.job_region.specs.Region.{without, region_bytes_at as placed_bytes}
use Rattle.fetch_core.specs.Fetching.{is_pulled_from}
use Rattle.row_copy.specs.Arriving.{in_phase, fetch_of_length, asks, after_failed_fetch}
use Rattle.job_row.specs.Arriving.{unfetched_row}
use Rattle.job_row.specs.Entries.{changed}
use Rattle.row_copy.specs.CopyViews.{CopyView}
use Rattle.job_row.specs.Row.{Row, place_of, ArePlaced}
use Rattle.row_steps.specs.Shown.{seen, IsShown, only, RowStep}
use Rattle.row_steps.proofs.ForCallers.{numbers_turn, IsOf, fetch_is, fetch_case, is_on_way, live_is, ignored, arrived, sending-is, place_found, change, bytes_now, same_bytes}
use Rattle.job_row.proofs.ForCallers.{found_left}
use Rattle.row_steps.specs.Beside.{SharedTables, shape_of}

-- ---- the step

module _ (node : ℕ) (row : Row) (beside : SharedTables) (contents : Contents) (h : IsShown row beside contents) (id : ObjectId) (number : ℕ) (of : IsOf row id number) (fault : FetchFault) where
  abbrev k : CopyView
  k = of.k

  on_way : is_fetching k.copy.state ≡ true
  on_way = is_on_way row beside contents h id k of.found of.fetch of.fetched

  -- the store's copy after its fetch failed
  pub failed_is : fetch_failed (shape_of row beside) id k.copy of.fetch fault ≡ set_copy (shape_of row beside) id (after_failed_fetch fault k).copy
  failed_is = ap (λ o. set_copy (shape_of row beside) id (record k.copy { offset = None; fetch = in_phase (failed fault) o })) (sym of.fetched)

  no_digest_left : keeps_digest (after_failed_fetch fault k).copy ≡ false
  no_digest_left = by k.copy.state on_way
    where
      by : (st : CopyState) → is_fetching st ≡ true → keeps_digest (record (after_failed_fetch fault k).copy { state = st }) ≡ false
      by Fetching e = ap (λ o. option_map_or (λ (fetch : Fetch). is_sized fetch.phase) (in_phase (failed fault) o) false) of.fetched
      by Created e = true_false e
      by Sealed e = true_false e
      by Restoring e = true_false e
      by Away e = true_false e

  -- what lies in the window is as it was but for the place of the copy
  module _ (x : Input) (none : bytes_received x ≡ None) (placed : List (ℕ × List ℕ)) (sent : List Sending) (posts : List Post)
      (digest : digest_brought node (seen row beside contents) x reply.Ok ≡ None)
      (elsewhere : (q : ObjectId) (z : CopyView) (e : Extent) → same_id q id ≡ false → at row.copies q ≡ Some z → extent_of z.copy ≡ Some e
      → filled (at (bytes_now node row beside contents h x (record (done (set_copy (shape_of row beside) id (after_failed_fetch fault k).copy)) { sent = sent })) q) z.copy ≡ take z.copy.length (placed_bytes e placed)) where
    pub fails : change node row beside contents h x ≡ record (done (fetch_failed (shape_of row beside) id k.copy of.fetch fault)) { sent = sent }
        → ((o : View) → posts ≡ flat_map (posts_of node o x) sent)
        → RowStep node row beside contents x (record { reply = reply.Ok; posts = posts; erased = [] }) (record row { window = record row.window { placed = placed }; copies = changed (after_failed_fetch fault) row.copies id }) beside
    fails is posted =
        arrived node row beside contents h x none id k of.found (after_failed_fetch fault) placed sent posts refl refl
        (λ e lies. none_some e lies) elsewhere
        (λ keeps. true_false (sym no_digest_left ∙ keeps))
        (λ q differs. ap (λ d. at (brought contents.digests d) q) digest)
        (is ∙ ap (λ store. record (done store) { sent = sent }) failed_is) posted

-- ---- the source has no such copy

pub record IsAsked (row : Row) (id : ObjectId) (number from : ℕ) : Type 0 where
  pub of : IsOf row id number
  pub source : ℕ
  pub missing : List ℕ
  pub pulled : of.fetch.phase ≡ pulling source missing
  pub itself : (from == source) ≡ true

pub asked : (row : Row) (id : ObjectId) (number from : ℕ) (k : CopyView) → at row.copies id ≡ Some k → asks number from k ≡ true → IsAsked row id number from
asked row id number from k found e = by k.copy.fetch refl (both_right (is_fetching k.copy.state) (option_map_or (λ (fetch : Fetch). is_pulled_from number from (fetch_of_length k.copy.length fetch)) k.copy.fetch false) e)
  where
    by_phase : (fetch : Fetch) → k.copy.fetch ≡ Some fetch → (p : Phase) → fetch.phase ≡ p → is_pulled_from number from (fetch_of_length k.copy.length (record fetch { phase = p })) ≡ true → IsAsked row id number from
    by_phase fetch fetched (pulling source missing) is t = record {
      of = record { k = k; fetch = fetch; found = found; fetched = fetched; numbered = numbers_turn number fetch.number (both_left (number == fetch.number) (from == source) t) };
      source = source;
      missing = missing;
      pulled = is;
      itself = both_right (number == fetch.number) (from == source) t;
    }
    by_phase fetch fetched locating is t = true_false t
    by_phase fetch fetched (sized source) is t = true_false t
    by_phase fetch fetched (failed fault) is t = true_false t

    by : (o : Option Fetch) → k.copy.fetch ≡ o → option_map_or (λ (fetch : Fetch). is_pulled_from number from (fetch_of_length k.copy.length fetch)) o false ≡ true → IsAsked row id number from
    by None fetched t = true_false t
    by (Some fetch) fetched t = by_phase fetch fetched fetch.phase refl t

module _ (node : ℕ) (row : Row) (beside : SharedTables) (contents : Contents) (h : IsShown row beside contents) (id : ObjectId) (number from : ℕ) where
  abbrev x : Input
  x = input.Arrive (arrival.FromPeer from (peer.NotHere id number))

  abbrev s : Shape
  s = shape_of row beside

  abbrev refused_by : Copy → Fetch → ℕ → Bool → Change
  refused_by copy fetch source b = cond b (sending (remove_source id source ∷ []) (done (fetch_failed s id copy fetch Absent))) (done s)

  abbrev by_phase : Copy → Fetch → Phase → Change
  by_phase copy fetch p = elim p [ pulling source missing ↦ refused_by copy fetch source (from == source) | _ ↦ done s ]

  abbrev of_fetch : Option (Copy × Fetch) → Change
  of_fetch o = option_map_or (λ p. by_phase p.0 p.1 p.1.phase) o (done s)

  step_is : (o : Option (Copy × Fetch)) → fetch_of s id number ≡ o → change node row beside contents h x ≡ of_fetch o
  step_is o e = live_is node row beside contents h x refl (not_here_arrived s id number from) ∙ ap of_fetch e

  asks_is : (of : IsOf row id number) (source : ℕ) (missing : List ℕ) → of.fetch.phase ≡ pulling source missing → (from == source) ≡ true → asks number from of.k ≡ true
  asks_is of source missing is itself =
      (λ i. is_on_way row beside contents h id of.k of.found of.fetch of.fetched i && option_map_or (λ (fetch : Fetch). is_pulled_from number from (fetch_of_length of.k.copy.length fetch)) (of.fetched i) false)
      ∙ ap (λ p. is_pulled_from number from (record (fetch_of_length of.k.copy.length of.fetch) { phase = p })) is
      ∙ (λ i. numbers_turn of.fetch.number number of.numbered i && itself i)

  pub not_asked : option_map_or (asks number from) (at row.copies id) false ≡ false → RowStep node row beside contents x (only reply.Ok) row beside
  not_asked e = elim (fetch_case row beside id number) [ inl none ↦ late None none refl | inr of ↦ by of of.fetch.phase refl ]
    where
      late : (o : Option (Copy × Fetch)) → fetch_of s id number ≡ o → of_fetch o ≡ done s → RowStep node row beside contents x (only reply.Ok) row beside
      late o e same = ignored node row beside contents h x refl (step_is o e ∙ same) refl refl

      by_source : (of : IsOf row id number) (source : ℕ) (missing : List ℕ) → of.fetch.phase ≡ pulling source missing → (b : Bool) → (from == source) ≡ b → RowStep node row beside contents x (only reply.Ok) row beside
      by_source of source missing is true t = false_true (sym (asks_is of source missing is t) ∙ sym (ap (λ o. option_map_or (asks number from) o false) of.found) ∙ e)
      by_source of source missing is false t = late (Some (of.k.copy, of.fetch)) (fetch_is row beside id number of) (ap (by_phase of.k.copy of.fetch) is ∙ ap (refused_by of.k.copy of.fetch source) t)

      by : (of : IsOf row id number) (p : Phase) → of.fetch.phase ≡ p → RowStep node row beside contents x (only reply.Ok) row beside
      by of (pulling source missing) is = by_source of source missing is (from == source) refl
      by of locating is = late (Some (of.k.copy, of.fetch)) (fetch_is row beside id number of) (ap (by_phase of.k.copy of.fetch) is)
      by of (sized source) is = late (Some (of.k.copy, of.fetch)) (fetch_is row beside id number of) (ap (by_phase of.k.copy of.fetch) is)
      by of (failed fault) is = late (Some (of.k.copy, of.fetch)) (fetch_is row beside id number of) (ap (by_phase of.k.copy of.fetch) is)

  module _ (a : IsAsked row id number from) (placed : ArePlaced row.window.placed (place_of row.copies)) where
    change_is : change node row beside contents h x ≡ record (done (fetch_failed s id a.of.k.copy a.of.fetch Absent)) { sent = remove_source id a.source ∷ [] }
    change_is =
        step_is (Some (a.of.k.copy, a.of.fetch)) (fetch_is row beside id number a.of) ∙ ap (by_phase a.of.k.copy a.of.fetch) a.pulled ∙ ap (refused_by a.of.k.copy a.of.fetch a.source) a.itself
        ∙ sending-is (remove_source id a.source ∷ []) (done (fetch_failed s id a.of.k.copy a.of.fetch Absent))

    pub not_here_done : (posts : List Post) → posts ≡ to_directory (RemoveLocation id from)
        → RowStep node row beside contents x (record { reply = reply.Ok; posts = posts; erased = [] }) (unfetched_row Absent row id) beside
    not_here_done posts said =
        fails node row beside contents h id number a.of Absent x refl (without (option_to_list (place_of row.copies id)) row.window.placed) (remove_source id a.source ∷ []) posts refl
        (λ q z e differs was lies.
        same_bytes node row beside contents h x q z e was lies
        ∙ ap (λ o. take z.copy.length (unwrap_or o [])) (sym (found_left row.window.placed row.copies placed id q e (same_id-flip id q ∙ differs) (place_found row.copies q z was ∙ lies))))
        change_is (λ o. said ∙ ap (λ n. to_directory (RemoveLocation id n)) (eqb-true from a.source a.itself))

  pub not_here_at : ArePlaced row.window.placed (place_of row.copies) → option_map_or (asks number from) (at row.copies id) false ≡ true → (posts : List Post) → posts ≡ to_directory (RemoveLocation id from)
      → RowStep node row beside contents x (record { reply = reply.Ok; posts = posts; erased = [] }) (unfetched_row Absent row id) beside
  not_here_at placed e posts said = by (at row.copies id) refl e
    where
      by : (o : Option CopyView) → at row.copies id ≡ o → option_map_or (asks number from) o false ≡ true → RowStep node row beside contents x (record { reply = reply.Ok; posts = posts; erased = [] }) (unfetched_row Absent row id) beside
      by None found t = true_false t
      by (Some k) found t = not_here_done (asked row id number from k found t) placed posts said
