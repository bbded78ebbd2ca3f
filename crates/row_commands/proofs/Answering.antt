-- A row takes the answer of a device to a work.
use Rattle.std.proofs.Common.{◌≡◌, ℕ, ◌+◌, ◌≤◌, Bool, true, false, not, ◌&&◌, cond, inl, inr, ◌==◌, nat_eq, List, [], ◌∷◌, filter, take, drop, length, Option, Some, None, is_some, unwrap_or, option_map, refl, sym, ap, subst, ◌∙◌, T, arith}
use Rattle.std.specs.Prelude.{option_to_list, count_by}
use Rattle.std.specs.List.{find}
use Rattle.std.specs.Option.{option_map_or, option_and_then}
use Rattle.std.specs.Map.{set_value}
use Rattle.std.specs.FinMap.Entries.{is_sorted, same_entries, is_sorted-put}
use Rattle.std.proofs.Math.Seq.{take-append_seam}
use Rattle.std.proofs.lemmas.Bool.{eqb-true}
use Rattle.obj_id.specs.declared.ids.ObjectId.{ObjectId}
use Rattle.obj_id.specs.declared.refusals.Refusal.TheVariants.{Stale}
use Rattle.obj_id.specs.declared.commands.Reply.TheVariants as reply
use Rattle.obj_id.specs.declared.works.DeviceAnswer.{DeviceAnswer}
use Rattle.obj_id.specs.declared.works.DeviceAnswer.TheVariants as device
use Rattle.obj_id.specs.declared.works.Extent.{Extent}
use Rattle.obj_id.specs.declared.works.WorkKind.{WorkKind}
use Rattle.obj_id.specs.declared.works.WorkKind.TheVariants.{Write, Read}
use Rattle.obj_id.specs.Ids.{id_cmp, same_id}
use Rattle.store_facts.proofs.Ids.{id_cmp-IsTotalOrder, id_cmp-IsAntisymmetric, same_id-equal, same_id-itself, same_id-flip}
use Rattle.private_store.specs.declared.faults.Fault.{Fault}
use Rattle.private_store.specs.declared.faults.Fault.TheVariants.{DeviceFailed, Damaged}
use Rattle.private_store.specs.declared.inputs.Input.{Input}
use Rattle.private_store.specs.declared.inputs.Input.TheVariants as input
use Rattle.private_store.specs.declared.inputs.Judged.TheVariants as judged
use Rattle.private_store.specs.declared.inputs.WorkVerdict.{WorkVerdict}
use Rattle.private_store.specs.declared.inputs.WorkVerdict.TheVariants as work
use Rattle.private_store.specs.rules.Tables.{ById, at, with_entry}
use Rattle.private_store.specs.rules.Extents.{rounded}
use Rattle.private_store.specs.rules.Shape.{Copy, Shape, Change, WorkInFlight}
use Rattle.private_store.specs.rules.Marks.{marked, read_mark}
use Rattle.private_store.specs.rules.Copies.{extent_of, is_sealed, is_held, is_granted, is_working, is_idle}
use Rattle.private_store.specs.rules.Room.{set_copy, drop_copy}
use Rattle.private_store.specs.rules.Change.{refused, done, needing, erasing, settled, keys_gone}
use Rattle.private_store.specs.rules.Events.{work_of, without_work}
use Rattle.private_store.specs.rules.Events as events
use Rattle.private_store.specs.rules.Contents.{Contents, View, judge, digest_at, keeps_digest, no_digest, has_digest, overwritten, bytes_brought, brought, write_verdict, work_verdict, is_read_back}
use Rattle.private_store.specs.rules.Contents as contents_of
use Rattle.private_store.specs.rules.Grants.{StandingGrant}
use Rattle.private_store.specs.laws.Invariants.{IsCopyKept, has_extent, has_grant, is_restoring}
use Rattle.private_store.specs.rules.Private.{key_of}
use Rattle.private_store.specs.rules.Step.{step}
use Rattle.store_facts.proofs.Filling.{filled}
use Rattle.store_facts.proofs.KeptCopy.{restoring_is}
use Rattle.store_facts.proofs.KeptLists.{count-yes, count-no, none_counted, some_counted, find-any, filter_none}
use Rattle.store_facts.proofs.KeptRows.{IsLiveKept, to_live}
use Rattle.store_facts.proofs.KeptWorks.{rest_free}
use Rattle.store_facts.proofs.ErasedKeys.{keys_none, all_found}
use Rattle.store_facts.proofs.RowContents.{length-overwritten}
use Rattle.store_facts.proofs.Rows.{at-put, at-put_here}
use Rattle.store_facts.proofs.Tests.{T_true, true_false, none_here, none_some, some_value, both_left}
use Rattle.job_region.specs.Region.{without, region_bytes_at as placed_bytes}
use Rattle.lru_evictor.specs.Orders.{AreThere}
use Rattle.lru_evictor.proofs.ForCallers.{reordered-unused}
use Rattle.spill_work.specs.declared.queue.IoRequest.{IoRequest}
use Rattle.spill_work.specs.Line.{WorkLine, shown, used_by, Finishes}
use Rattle.obj_id.specs.Works.{is_write}
use Rattle.row_copy.specs.Answering.{is_in_work, has_bytes, view_read_verdict, work_verdict_of}
use Rattle.job_row.specs.Answering.{written_row, refilled, lost_row, read_row}
use Rattle.object_state.specs.Laws.{has_failed}
use Rattle.job_row.specs.Dropping.{dropped, settled_row, keys_settled}
use Rattle.row_copy.specs.Keeping.{is_over}
use Rattle.job_row.specs.Entries.{changed}
use Rattle.row_copy.specs.CopyViews.{CopyView, after_write, after_restore, after_failed_restore}
use Rattle.job_row.specs.Row.{Row, copies_of, place_of, ArePlaced}
use Rattle.row_steps.specs.Shown.{seen, work_on, IsShown, RowGiven, only, RowStep}
use Rattle.row_copy.specs.Usages.{is_spilling}
use Rattle.row_steps.proofs.ForCallers.{needing-by, From, from_changed, there_with, keys_with, bytes_stay, working-on, idle_same, change_left, moves_left, key_dropped, key_removed, placed_at, place_found, sealed_resides, TakesChange, moved, same_bytes, received_stays}
use Rattle.job_row.proofs.ForCallers.{changed-found, at-copies_found, at-copies_none, copies-changed, bytes-written, bytes-other, long_at, written_placed, changed_placed, at_most_rounded, found_left, lost_placed}
use Rattle.row_commands.proofs.Settling.{one_key}
use Rattle.row_steps.specs.Beside.{SharedTables, beside_of, shape_of}
use Rattle.row_commands.specs.EndedWorks.{ended_row}

-- ---- works

abbrev kind_of : WorkInFlight → WorkKind
kind_of w = cond w.writes Write Read

-- a work that is found is the one of its object
work_found : (number : ℕ) (ws : List WorkInFlight) (w : WorkInFlight) → find (λ v. v.number == number) ws ≡ Some w → count_by (λ v. same_id w.id v.id) ws ≤ 1 → work_on ws w.id ≡ Some (kind_of w)
work_found number [] w found one = none_some w found
work_found number (v ∷ ws) w found one = by (work_found number ws w) (v.number == number) found (same_id w.id v.id) refl
  where
    here : v ≡ w → work_on (v ∷ ws) w.id ≡ Some (kind_of w)
    here is =
        subst (λ u. work_on (v ∷ ws) u.id ≡ Some (kind_of u)) is
        (ap (λ b. option_map kind_of (cond b (Some v) (find (λ u. same_id v.id u.id) ws))) (same_id-itself v.id))

    by : (find (λ v. v.number == number) ws ≡ Some w → count_by (λ v. same_id w.id v.id) ws ≤ 1 → work_on ws w.id ≡ Some (kind_of w))
        → (b : Bool) → cond b (Some v) (find (λ v. v.number == number) ws) ≡ Some w → (s : Bool) → same_id w.id v.id ≡ s → work_on (v ∷ ws) w.id ≡ Some (kind_of w)
    by rest true is s t = here (some_value v w is)
    by rest false is true t =
        let more = count-yes (λ (u : WorkInFlight). same_id w.id u.id) v ws t in
        let some = some_counted (λ (u : WorkInFlight). same_id w.id u.id) ws (find-any (λ u. u.number == number) (λ u. same_id w.id u.id) ws w is (same_id-itself w.id)) in
        absurd (omega (arith, more, some, one))
    by rest false is false t =
        let less = count-no (λ (u : WorkInFlight). same_id w.id u.id) v ws t in
        ap (λ b. option_map kind_of (cond b (Some v) (find (λ u. same_id w.id u.id) ws))) t
        ∙ rest is (omega (arith, less, one))

-- the works of another object stay
work_left : (number : ℕ) (ws : List WorkInFlight) (w : WorkInFlight) → find (λ v. v.number == number) ws ≡ Some w → count_by (λ v. v.number == number) ws ≤ 1
    → (q : ObjectId) → same_id q w.id ≡ false → work_on (filter (λ v. not (v.number == number)) ws) q ≡ work_on ws q
work_left number [] w found one q other = refl
work_left number (v ∷ ws) w found one q other = by (λ found few. work_left number ws w found few q other) (v.number == number) refl found
  where
    left : List WorkInFlight
    left = filter (λ v. not (v.number == number)) ws

    by_id : (b : Bool) → work_on left q ≡ work_on ws q
        → option_map kind_of (cond b (Some v) (find (λ u. same_id q u.id) left)) ≡ option_map kind_of (cond b (Some v) (find (λ u. same_id q u.id) ws))
    by_id true h = refl
    by_id false h = h

    by : (find (λ v. v.number == number) ws ≡ Some w → count_by (λ v. v.number == number) ws ≤ 1 → work_on left q ≡ work_on ws q)
        → (b : Bool) → (v.number == number) ≡ b → cond b (Some v) (find (λ v. v.number == number) ws) ≡ Some w
        → work_on (cond (not b) (v ∷ left) left) q ≡ work_on (v ∷ ws) q
    by rest true t is =
        let more = count-yes (λ (u : WorkInFlight). u.number == number) v ws t in
        ap (λ us. work_on us q) (filter_none (λ u. u.number == number) ws (none_counted (λ u. u.number == number) ws (omega (arith, more, one))))
        ∙ sym (ap (λ b. option_map kind_of (cond b (Some v) (find (λ u. same_id q u.id) ws))) (ap (λ (u : WorkInFlight). same_id q u.id) (some_value v w is) ∙ other))
    by rest false t is =
        let less = count-no (λ (u : WorkInFlight). u.number == number) v ws t in
        by_id (same_id q v.id) (rest is (omega (arith, less, one)))

-- an entry put in its own place
with-same : {X : Type 0} (es : ById X) (id : ObjectId) (x : X) → T (is_sorted id_cmp es) → at es id ≡ Some x → with_entry es id x ≡ es
with-same es id x sorted found =
    same_entries id_cmp id_cmp-IsTotalOrder id_cmp-IsAntisymmetric (with_entry es id x) es
    (is_sorted-put id_cmp id_cmp-IsTotalOrder id x es sorted) sorted
    (λ q. at-put es id x q ∙ by q (same_id q id) refl)
  where
    by : (q : ObjectId) (b : Bool) → same_id q id ≡ b → cond b (Some x) (at es q) ≡ at es q
    by q true t = sym (ap (at es) (same_id-equal q id t) ∙ found)
    by q false t = refl

-- ---- the copy that a work is in flight for

module _ (row : Row) (beside : SharedTables) (contents : Contents) (h : IsShown row beside contents) (number : ℕ) (w : WorkInFlight) (flying : work_of (shape_of row beside) number ≡ Some w) where
  pub copy_at_work : (k : CopyView) × (at row.copies w.id ≡ Some k)
  copy_at_work = by (at row.copies w.id) refl
    where
      by : (o : Option CopyView) → at row.copies w.id ≡ o → (k : CopyView) × (at row.copies w.id ≡ Some k)
      by None none =
          true_false (sym (h.kept.kept.shape.works_of_copies w.id (at-copies_none row.copies w.id none))
          ∙ find-any (λ v. v.number == number) (λ v. same_id w.id v.id) beside.works w flying (same_id-itself w.id))
      by (Some k) found = (k, found)

  module _ (k : CopyView) (found : at row.copies w.id ≡ Some k) where
    kept_at_work : IsCopyKept row.job beside.works beside.given row.ended_tasks w.id k.copy
    kept_at_work = h.kept.kept.shape.each w.id k.copy (at-copies_found row.copies w.id k found)

    -- what is written is sealed
    sealed_written : w.writes ≡ true → is_sealed k.copy.state ≡ true
    sealed_written writes =
        (kept_at_work.spilled (find-any (λ v. v.number == number) (λ v. same_id w.id v.id && v.writes) beside.works w flying (ap (λ b. b && w.writes) (same_id-itself w.id) ∙ writes))).0

    pub spilling : w.writes ≡ true → is_spilling k ≡ true
    spilling writes =
        ap (λ o. option_map_or is_write o false)
        (h.working w.id k found ∙ work_found number beside.works w flying (h.kept.kept.shape.one_work w.id) ∙ ap (λ b. Some (cond b Write Read)) writes)

    pub restoring : w.writes ≡ false → is_restoring k.copy.state ≡ true
    restoring reads =
        sym kept_at_work.restored ∙ find-any (λ v. v.number == number) (λ v. same_id w.id v.id && not v.writes) beside.works w flying (ap (λ b. b && not w.writes) (same_id-itself w.id) ∙ ap not reads)

    resident : (b : Bool) → w.writes ≡ b → is_some k.copy.offset ≡ true
    resident true writes = kept_at_work.resident ∙ sealed_resides k.copy.state k.copy.fetch (sealed_written writes)
    resident false reads = kept_at_work.resident ∙ ap (λ state. has_extent state k.copy.fetch) (restoring_is k.copy.state (restoring reads))

    -- it has a place
    pub place_at_work : (e : Extent) × (extent_of k.copy ≡ Some e) × (e.length ≡ rounded k.copy.length)
    place_at_work = placed_at k.copy (resident w.writes refl)

-- ---- a work of a copy ends

module _ (node : ℕ) (row : Row) (beside : SharedTables) (contents : Contents) (h : IsShown row beside contents) (number : ℕ) (answer : DeviceAnswer)
    (w : WorkInFlight) (flying : work_of (shape_of row beside) number ≡ Some w) (k : CopyView) (found : at row.copies w.id ≡ Some k) where
  abbrev s : Shape
  s = shape_of row beside

  abbrev x : Input
  x = input.Answer number answer

  abbrev id : ObjectId
  id = w.id

  abbrev view : View
  view = seen row beside contents

  -- what stands beside the row then
  abbrev pub after : SharedTables
  after = record beside { works = filter (λ v. not (v.number == number)) beside.works }

  abbrev rest : Shape
  rest = without_work s number

  live : IsLiveKept s
  live = to_live s h.kept.kept.shape refl

  found_copy : at s.copies id ≡ Some k.copy
  found_copy = at-copies_found row.copies id k found

  sorted : T (is_sorted id_cmp s.copies)
  sorted = T_true _ h.kept.kept.shape.by_id

  no_work : is_working rest id ≡ false
  no_work = rest_free s.works s.works_asked number w live.works flying

  -- what is done, by the verdict
  abbrev ended_by : WorkVerdict → Copy → Change
  ended_by v copy = cond w.writes (events.written rest w copy v) (erasing rest (done (settled (set_copy rest id (marked (read_mark v) copy)) id)))

  -- what is done with the work that is found
  abbrev with_work : WorkVerdict → WorkInFlight → Change
  with_work v u = needing s (at s.copies u.id) Stale (λ copy.
      cond u.writes (events.written rest u copy v) (erasing rest (done (settled (set_copy rest u.id (marked (read_mark v) copy)) u.id))))

  change_is : (v : WorkVerdict) → work_verdict view number answer ≡ v → step row.order s (judge node view x) ≡ ended_by v k.copy
  change_is v is =
      ap (λ v. step row.order s (judged.Answer number v)) is
      ∙ needing-by s (work_of s number) Stale (with_work v)
      ∙ ap (λ o. option_map_or (with_work v) o (refused s Stale)) flying
      ∙ needing-by s (at s.copies id) Stale (ended_by v)
      ∙ ap (λ o. option_map_or (ended_by v) o (refused s Stale)) found_copy

  -- ---- the copy changed, and removed if nothing keeps it then

  module _ (f : CopyView → CopyView) (flag : Bool) (placed_now : List (ℕ × List ℕ)) where
    abbrev base : Shape
    base = set_copy (record rest { spill_failed = flag }) id (f k).copy

    abbrev row_now : Row
    row_now = record row { window = record row.window { placed = placed_now }; copies = changed f row.copies id; spill_failed = flag }

    -- what has to be shown of the change
    pub record Ends : Type 0 where
      free : (f k).working ≡ None
      granted : (f k).granted ≡ k.granted
      digest : (f k).digest ≡ k.digest
      keeps : keeps_digest (f k).copy ≡ true → keeps_digest k.copy ≡ true
      bytes : (q : ObjectId) (y : CopyView) (e : Extent) → at (changed f row.copies id) q ≡ Some y → extent_of y.copy ≡ Some e
          → filled (at (brought contents.bytes (bytes_brought view x (judge node view x) reply.Ok)) q) y.copy ≡ take y.copy.length (placed_bytes e placed_now)
      -- where keys are looked for, and what is found
      looked : Shape
      is : step row.order s (judge node view x) ≡ erasing looked (done (settled base id))
      none_gone : keys_gone looked.copies base.copies ≡ []
      one_gone : keys_gone looked.copies (drop_copy base id).copies ≡ option_to_list (f k).copy.backed
      placed : ArePlaced placed_now (place_of (changed f row.copies id))

    module _ (ends : Ends) where
      was : (q : ObjectId) (y : CopyView) → at row_now.copies q ≡ Some y → (z : CopyView) × (at row.copies q ≡ Some z) × From f row.copies id q y z
      was = from_changed f row.copies id k found

      copies_is : copies_of row_now.copies ≡ with_entry s.copies id (f k).copy
      copies_is = copies-changed f row.copies id k found

      there_now : AreThere (copies_of row_now.copies) row.order
      there_now = subst (λ t. AreThere t row.order) (sym copies_is) (there_with s.copies id (f k).copy row.order h.there)

      -- of the copy itself, and of any other
      of_each : (P : ObjectId → CopyView → Type 0) → P id (f k) → ((q : ObjectId) (z : CopyView) → same_id q id ≡ false → at row.copies q ≡ Some z → P q z) → (q : ObjectId) (y : CopyView) → at row_now.copies q ≡ Some y → P q y
      of_each P here others q y is = by (was q y is).0 (was q y is).1 (was q y is).2
        where
          by : (z : CopyView) → at row.copies q ≡ Some z → From f row.copies id q y z → P q y
          by z e (inl t) =
              let same : q ≡ id = same_id-equal q id t.0 in
              let z_is : z ≡ k = some_value z k (sym e ∙ ap (at row.copies) same ∙ found) in
              subst (λ p. P p y) (sym same) (subst (λ y. P id y) (sym (t.1 ∙ ap f z_is)) here)
          by z e (inr t) = subst (λ y. P q y) (sym t.1) (others q z t.0 e)

      abbrev response : RowGiven
      response = only reply.Ok

      m : TakesChange node row beside contents h x (done base) response row_now after
      m = record {
        shape = ap (λ t. record rest { copies = t; spill_failed = flag }) (sym copies_is);
        order = sym (reordered-unused row.order (copies_of row_now.copies) there_now);
        there = there_now;
        listed = λ q y is. h.listed q (was q y is).0 (was q y is).1;
        bytes = ends.bytes;
        digests = of_each (λ q y. keeps_digest y.copy ≡ true → digest_at contents.digests q ≡ unwrap_or y.digest no_digest)
            (λ keep. h.digests id k found (ends.keeps keep) ∙ ap (λ d. unwrap_or d no_digest) (sym ends.digest))
            (λ q z other e keep. h.digests q z e keep);
        working = of_each (λ q y. y.working ≡ work_on after.works q)
            (ends.free ∙ sym (none_here (work_on after.works id) (working-on after.works id ∙ no_work)))
            (λ q z other e. h.working q z e ∙ sym (work_left number beside.works w flying (live.works.one_number number) q other));
        granted = of_each (λ q y. y.granted ≡ has_grant beside.given q) (ends.granted ∙ h.granted id k found) (λ q z other e. h.granted q z e);
        received = received_stays node row beside contents h x refl;
        reply = refl;
        erased = refl;
      }

      abbrev goes : Bool
      goes = is_over (f k)

      over_is : goes ≡ (f k).copy.doomed && is_idle base id (f k).copy
      over_is =
          ap (λ b. (f k).copy.doomed && b)
          (idle_same (is_held (f k).copy) (f k).granted (is_granted s id) (is_working rest id) (f k).working
          (ends.granted ∙ h.granted id k found) (ap is_some ends.free ∙ sym no_work))

      abbrev shape_if : Bool → Shape
      shape_if b = cond b (drop_copy base id) base

      settled_is : settled base id ≡ shape_if goes
      settled_is =
          ap (λ o. option_map_or (λ copy. cond (copy.doomed && is_idle base id copy) (drop_copy base id) base) o base) (at-put_here s.copies id (f k).copy)
          ∙ ap shape_if (sym over_is)

      abbrev keys : List ℕ
      keys = option_to_list (f k).copy.backed

      -- the row, and what it gives, as the code leaves them
      abbrev row_if : Bool → Row
      row_if b = cond b (dropped row_now id) row_now

      abbrev gives : Bool → RowGiven
      gives b = record { reply = reply.Ok; posts = []; erased = cond b (option_to_list (option_map (key_of row.job) (f k).copy.backed)) [] }

      found_now : at row_now.copies id ≡ Some (f k)
      found_now = ap (λ t. at t id) (changed-found f id row.copies k found) ∙ at-put_here row.copies id (f k)

      row_is : settled_row row_now id ≡ row_if goes
      row_is = ap (λ o. option_map_or (λ kept. cond (is_over kept) (dropped row_now id) row_now) o row_now) found_now

      keys_are : keys_settled row_now id ≡ (gives goes).erased
      keys_are = ap (λ o. option_map_or (λ kept. cond (is_over kept) (option_to_list (option_map (key_of row.job) kept.copy.backed)) []) o []) found_now

      by_goes : (b : Bool) → goes ≡ b → RowStep node row beside contents x (gives b) (row_if b) after
      by_goes false stays =
          moved node row beside contents h x (done base)
          (ends.is ∙ ap (λ t. erasing ends.looked (done t)) (settled_is ∙ ap shape_if stays) ∙ ap (λ ks. record (done base) { erased = ks }) ends.none_gone)
          response row_now after m refl
      by_goes true over =
          moved node row beside contents h x (change_left node row beside contents h x (done base) response row_now after m refl ends.placed id keys)
          (ends.is ∙ ap (λ t. erasing ends.looked (done t)) (settled_is ∙ ap shape_if over) ∙ ap (λ ks. record (done (drop_copy base id)) { erased = ks }) ends.one_gone)
          (gives true) (dropped row_now id) after
          (moves_left node row beside contents h x (done base) response row_now after m refl ends.placed id keys (gives true) refl (one_key row.job (f k).copy.backed)) refl

      pub ended_so : RowStep node row beside contents x (record { reply = reply.Ok; posts = []; erased = keys_settled row_now id }) (settled_row row_now id) after
      ended_so =
          subst (λ ks. RowStep node row beside contents x (record { reply = reply.Ok; posts = []; erased = ks }) (settled_row row_now id) after) (sym keys_are)
          (subst (λ r. RowStep node row beside contents x (gives goes) r after) (sym row_is) (by_goes goes refl))

  -- ---- a write

  module _ (writes : w.writes ≡ true) where
    pub write_judged : work_verdict view number answer ≡ write_verdict answer
    write_judged =
        ap (λ o. option_map_or (λ (u : WorkInFlight). cond u.writes (write_verdict answer) (contents_of.read_verdict view u.id answer)) o work.Failed) flying
        ∙ ap (λ b. cond b (write_verdict answer) (contents_of.read_verdict view id answer)) writes

    -- what is written brings the row nothing
    nothing : (a : DeviceAnswer) (v : WorkVerdict) → bytes_brought view (input.Answer number a) (judged.Answer number v) reply.Ok ≡ None
    nothing device.Done v = refl
    nothing (device.Bytes bytes) work.Fine = ap (option_and_then (λ (u : WorkInFlight). cond u.writes None (Some (u.id, bytes)))) flying ∙ ap (λ b. cond b None (Some (id, bytes))) writes
    nothing (device.Bytes bytes) work.Failed = refl
    nothing (device.Bytes bytes) work.Damaged = refl
    nothing device.Failed v = refl

    abbrev g : Bool → CopyView → CopyView
    g failed = after_write w.number failed

    write_bytes : (failed : Bool) (q : ObjectId) (y : CopyView) (e : Extent) → at (changed (g failed) row.copies id) q ≡ Some y → extent_of y.copy ≡ Some e
        → filled (at (brought contents.bytes (bytes_brought view x (judge node view x) reply.Ok)) q) y.copy ≡ take y.copy.length (placed_bytes e row.window.placed)
    write_bytes failed = bytes_stay node row beside contents h x id k found (g failed) (λ z. (refl, refl)) (done s) (nothing answer (work_verdict view number answer))

    module _ (placed : ArePlaced row.window.placed (place_of row.copies)) where
      write_placed : (failed : Bool) → ArePlaced row.window.placed (place_of (changed (g failed) row.copies id))
      write_placed failed = changed_placed row.window.placed row.copies placed (g failed) (λ z. refl) id

      -- a write that was made
      wrote : (v : WorkVerdict) → write_verdict answer ≡ v → events.written rest w k.copy v ≡ erasing (base (g false) row.spill_failed row.window.placed) (done (settled (base (g false) row.spill_failed row.window.placed) id))
          → Ends (g false) row.spill_failed row.window.placed
      wrote v is made = record {
        free = refl;
        granted = refl;
        digest = refl;
        keeps = λ keep. keep;
        bytes = write_bytes false;
        looked = base (g false) row.spill_failed row.window.placed;
        is = change_is v (write_judged ∙ is) ∙ ap (λ b. cond b (events.written rest w k.copy v) (erasing rest (done (settled (set_copy rest id (marked (read_mark v) k.copy)) id)))) writes ∙ made;
        none_gone = keys_none (with_entry s.copies id (g false k).copy) (with_entry s.copies id (g false k).copy) (all_found (with_entry s.copies id (g false k).copy));
        one_gone = key_dropped (with_entry s.copies id (g false k).copy) id (g false k).copy (is_sorted-put id_cmp id_cmp-IsTotalOrder id (g false k).copy s.copies sorted) (at-put_here s.copies id (g false k).copy);
        placed = write_placed false;
      }

      -- one that failed
      unwritten : write_verdict answer ≡ work.Failed → Ends (g true) true row.window.placed
      unwritten is = record {
        free = refl;
        granted = refl;
        digest = refl;
        keeps = λ keep. keep;
        bytes = write_bytes true;
        looked = rest;
        is =
            change_is work.Failed (write_judged ∙ is)
            ∙ ap (λ b. cond b (events.written rest w k.copy work.Failed) (erasing rest (done (settled (set_copy rest id (marked (read_mark work.Failed) k.copy)) id)))) writes
            ∙ ap (λ t. erasing rest (done (settled (record rest { copies = t; spill_failed = true }) id))) (sym (with-same s.copies id k.copy sorted found_copy));
        none_gone = keys_with s.copies id k.copy;
        one_gone = key_removed s.copies id k.copy k.copy sorted found_copy;
        placed = write_placed true;
      }

      abbrev row_written : WorkVerdict → Row
      row_written v = written_row w.number (has_failed v) row id

      by_verdict : (v : WorkVerdict) → write_verdict answer ≡ v
          → RowStep node row beside contents x (record { reply = reply.Ok; posts = []; erased = keys_settled (row_written v) id }) (settled_row (row_written v) id) after
      by_verdict work.Fine is = ended_so (g false) row.spill_failed row.window.placed (wrote work.Fine is refl)
      by_verdict work.Damaged is = ended_so (g false) row.spill_failed row.window.placed (wrote work.Damaged is refl)
      by_verdict work.Failed is = ended_so (g true) true row.window.placed (unwritten is)

      pub write_done : RowStep node row beside contents x (record { reply = reply.Ok; posts = []; erased = keys_settled (row_written (write_verdict answer)) id }) (settled_row (row_written (write_verdict answer)) id) after
      write_done = by_verdict (write_verdict answer) refl

  -- ---- a read

  module _ (reads : w.writes ≡ false) where
    keeps : keeps_digest k.copy ≡ true
    keeps = ap (λ st. keeps_digest (record k.copy { state = st })) (restoring_is k.copy.state (restoring row beside contents h number w flying k found reads))

    abbrev e : Extent
    e = (place_at_work row beside contents h number w flying k found).0

    lies : extent_of k.copy ≡ Some e
    lies = (place_at_work row beside contents h number w flying k found).1

    -- what is read is judged as the row does
    read_is : (a : DeviceAnswer) → contents_of.read_verdict view id a ≡ view_read_verdict k a
    read_is device.Done = refl
    read_is (device.Bytes bytes) =
        ap (λ o. cond (option_map_or (λ (copy : Copy). (length bytes == copy.length) && has_digest bytes (digest_at contents.digests id)) o false) work.Fine work.Damaged) found_copy
        ∙ ap (λ d. cond ((length bytes == k.copy.length) && has_digest bytes d) work.Fine work.Damaged) (h.digests id k found keeps)
    read_is device.Failed = refl

    pub read_judged : work_verdict view number answer ≡ view_read_verdict k answer
    read_judged =
        ap (λ o. option_map_or (λ (u : WorkInFlight). cond u.writes (write_verdict answer) (contents_of.read_verdict view u.id answer)) o work.Failed) flying
        ∙ ap (λ b. cond b (write_verdict answer) (contents_of.read_verdict view id answer)) reads
        ∙ read_is answer

    read_change : (v : WorkVerdict) → view_read_verdict k answer ≡ v → step row.order s (judge node view x) ≡ erasing rest (done (settled (set_copy rest id (marked (read_mark v) k.copy)) id))
    read_change v is =
        change_is v (read_judged ∙ is) ∙ ap (λ b. cond b (events.written rest w k.copy v) (erasing rest (done (settled (set_copy rest id (marked (read_mark v) k.copy)) id)))) reads

    module _ (placed : ArePlaced row.window.placed (place_of row.copies)) where
      is_place : place_of row.copies id ≡ Some e
      is_place = place_found row.copies id k found ∙ lies

      -- ---- that brought no bytes

      abbrev placed_left : List (ℕ × List ℕ)
      placed_left = without (option_to_list (place_of row.copies id)) row.window.placed

      module _ (fault : Fault) (v : WorkVerdict) (is : view_read_verdict k answer ≡ v) (back : marked (read_mark v) k.copy ≡ (after_failed_restore fault k).copy) (nothing : bytes_brought view x (judged.Answer number v) reply.Ok ≡ None) where
        lost_bytes : (q : ObjectId) (y : CopyView) (f : Extent) → at (changed (after_failed_restore fault) row.copies id) q ≡ Some y → extent_of y.copy ≡ Some f
            → filled (at (brought contents.bytes (bytes_brought view x (judge node view x) reply.Ok)) q) y.copy ≡ take y.copy.length (placed_bytes f placed_left)
        lost_bytes q y f there in_f = by (was_one q y there).0 (was_one q y there).1 (was_one q y there).2
          where
            was_one : (q : ObjectId) (y : CopyView) → at (changed (after_failed_restore fault) row.copies id) q ≡ Some y → (z : CopyView) × (at row.copies q ≡ Some z) × From (after_failed_restore fault) row.copies id q y z
            was_one = from_changed (after_failed_restore fault) row.copies id k found

            by : (z : CopyView) → at row.copies q ≡ Some z → From (after_failed_restore fault) row.copies id q y z
                → filled (at (brought contents.bytes (bytes_brought view x (judge node view x) reply.Ok)) q) y.copy ≡ take y.copy.length (placed_bytes f placed_left)
            by z e (inl t) = none_some f (sym (ap (λ (y : CopyView). extent_of y.copy) t.1) ∙ in_f)
            by z e (inr t) =
                let at_f : extent_of z.copy ≡ Some f = ap (λ (y : CopyView). extent_of y.copy) (sym t.1) ∙ in_f in
                ap (λ v. filled (at (brought contents.bytes (bytes_brought view x (judged.Answer number v) reply.Ok)) q) y.copy) (read_judged ∙ is)
                ∙ ap (λ b. filled (at (brought contents.bytes b) q) y.copy) nothing
                ∙ ap (λ (y : CopyView). filled (at contents.bytes q) y.copy) t.1
                ∙ same_bytes node row beside contents h x q z f e at_f
                ∙ ap (λ o. take z.copy.length (unwrap_or o [])) (sym (found_left row.window.placed row.copies placed id q f (same_flip t.0) (place_found row.copies q z e ∙ at_f)))
                ∙ ap (λ (y : CopyView). take y.copy.length (placed_bytes f placed_left)) (sym t.1)
              where
                same_flip : same_id q id ≡ false → same_id id q ≡ false
                same_flip other = same_id-flip id q ∙ other

        lost_ends : Ends (after_failed_restore fault) row.spill_failed placed_left
        lost_ends = record {
          free = refl;
          granted = refl;
          digest = refl;
          keeps = λ _. keeps;
          bytes = lost_bytes;
          looked = rest;
          is = read_change v is ∙ ap (λ copy. erasing rest (done (settled (set_copy rest id copy) id))) back;
          none_gone = keys_with s.copies id (after_failed_restore fault k).copy;
          one_gone = key_removed s.copies id k.copy (after_failed_restore fault k).copy sorted found_copy;
          placed = lost_placed row.window.placed row.copies placed id fault;
        }

        pub lost_done : RowStep node row beside contents x (record { reply = reply.Ok; posts = []; erased = keys_settled (lost_row fault row id) id }) (settled_row (lost_row fault row id) id) after
        lost_done = ended_so (after_failed_restore fault) row.spill_failed placed_left lost_ends

      -- ---- that brought its bytes

      module _ (bytes : List ℕ) (brought_are : answer ≡ device.Bytes bytes) (own : has_bytes k bytes ≡ true) where
        long : length bytes ≡ k.copy.length
        long = eqb-true (length bytes) k.copy.length (both_left (length bytes == k.copy.length) _ own)

        pub within : length bytes ≤ e.length
        within = let a = at_most_rounded k.copy.length in let b = (place_at_work row beside contents h number w flying k found).2 in omega (arith, a, b, long)

        abbrev old_bytes : List ℕ
        old_bytes = placed_bytes e row.window.placed

        abbrev placed_full : List (ℕ × List ℕ)
        placed_full = set_value (nat_eq e.offset) row.window.placed (overwritten old_bytes 0 bytes)

        fine : view_read_verdict k answer ≡ work.Fine
        fine = ap (view_read_verdict k) brought_are ∙ ap (λ b. cond b work.Fine work.Damaged) own

        brings : bytes_brought view x (judge node view x) reply.Ok ≡ Some (id, bytes)
        brings =
            ap (λ v. bytes_brought view x (judged.Answer number v) reply.Ok) (read_judged ∙ fine)
            ∙ ap (λ a. bytes_brought view (input.Answer number a) (judged.Answer number work.Fine) reply.Ok) brought_are
            ∙ ap (option_and_then (λ (u : WorkInFlight). cond u.writes None (Some (u.id, bytes)))) flying ∙ ap (λ b. cond b None (Some (id, bytes))) reads

        long_old : length old_bytes ≡ e.length
        long_old = long_at row.window.placed e (placed.there id e is_place)

        -- what is written shows as the copy's own bytes
        here : take k.copy.length (overwritten old_bytes 0 bytes) ≡ bytes
        here = ap (λ n. take n (overwritten old_bytes 0 bytes)) (sym long) ∙ take-append_seam bytes (drop (0 + length bytes) old_bytes)

        full_bytes : (q : ObjectId) (y : CopyView) (f : Extent) → at (changed after_restore row.copies id) q ≡ Some y → extent_of y.copy ≡ Some f
            → filled (at (brought contents.bytes (bytes_brought view x (judge node view x) reply.Ok)) q) y.copy ≡ take y.copy.length (placed_bytes f placed_full)
        full_bytes q y f there in_f =
            ap (λ b. filled (at (brought contents.bytes b) q) y.copy) brings
            ∙ ap (λ o. filled o y.copy) (at-put contents.bytes id bytes q)
            ∙ by (was_one q y there).0 (was_one q y there).1 (was_one q y there).2
          where
            was_one : (q : ObjectId) (y : CopyView) → at (changed after_restore row.copies id) q ≡ Some y → (z : CopyView) × (at row.copies q ≡ Some z) × From after_restore row.copies id q y z
            was_one = from_changed after_restore row.copies id k found

            by : (z : CopyView) → at row.copies q ≡ Some z → From after_restore row.copies id q y z
                → filled (cond (same_id q id) (Some bytes) (at contents.bytes q)) y.copy ≡ take y.copy.length (placed_bytes f placed_full)
            by z is (inl t) =
                let z_is : z ≡ k = some_value z k (sym is ∙ ap (at row.copies) (same_id-equal q id t.0) ∙ found) in
                let y_is : y ≡ after_restore k = t.1 ∙ ap after_restore z_is in
                let f_is : f ≡ e = some_value f e (sym in_f ∙ ap (λ (y : CopyView). extent_of y.copy) y_is ∙ lies) in
                ap (λ b. filled (cond b (Some bytes) (at contents.bytes q)) y.copy) t.0
                ∙ sym (ap (λ (y : CopyView). take y.copy.length (placed_bytes f placed_full)) y_is
                ∙ ap (λ g. take k.copy.length (placed_bytes g placed_full)) f_is
                ∙ ap (take k.copy.length) (bytes-written row.window.placed e (placed.there id e is_place) (overwritten old_bytes 0 bytes))
                ∙ here)
            by z is (inr t) =
                let at_f : extent_of z.copy ≡ Some f = ap (λ (y : CopyView). extent_of y.copy) (sym t.1) ∙ in_f in
                ap (λ b. filled (cond b (Some bytes) (at contents.bytes q)) y.copy) t.0
                ∙ ap (λ (y : CopyView). filled (at contents.bytes q) y.copy) t.1
                ∙ same_bytes node row beside contents h x q z f is at_f
                ∙ ap (take z.copy.length) (sym (bytes-other row.window.placed e (placed.there id e is_place) (overwritten old_bytes 0 bytes) f (λ same.
                true_false (sym t.0 ∙ ap (λ p. same_id p id) (sym (placed.apart id q e f is_place (place_found row.copies q z is ∙ at_f) same)) ∙ same_id-itself id))))
                ∙ ap (λ (y : CopyView). take y.copy.length (placed_bytes f placed_full)) (sym t.1)

        full_ends : Ends after_restore row.spill_failed placed_full
        full_ends = record {
          free = refl;
          granted = refl;
          digest = refl;
          keeps = λ _. keeps;
          bytes = full_bytes;
          looked = rest;
          is = read_change work.Fine fine;
          none_gone = keys_with s.copies id (after_restore k).copy;
          one_gone = key_removed s.copies id k.copy (after_restore k).copy sorted found_copy;
          placed = changed_placed placed_full row.copies
              (written_placed row.window.placed (place_of row.copies) placed id e is_place (overwritten old_bytes 0 bytes) (length-overwritten old_bytes 0 bytes (omega (arith, long_old, within)) ∙ long_old))
              after_restore (λ z. refl) id;
        }

        full_done : RowStep node row beside contents x (record { reply = reply.Ok; posts = []; erased = keys_settled (refilled e bytes row id) id }) (settled_row (refilled e bytes row id) id) after
        full_done = ended_so after_restore row.spill_failed placed_full full_ends

      abbrev Taken : Row → Type 0
      Taken r = RowStep node row beside contents x (record { reply = reply.Ok; posts = []; erased = keys_settled r id }) (settled_row r id) after

      -- the verdict brings nothing
      brings_none : (a : DeviceAnswer) (v : WorkVerdict) → answer ≡ a → bytes_brought view (input.Answer number a) (judged.Answer number v) reply.Ok ≡ None → bytes_brought view x (judged.Answer number v) reply.Ok ≡ None
      brings_none a v is none = ap (λ a. bytes_brought view (input.Answer number a) (judged.Answer number v) reply.Ok) is ∙ none

      by_answer : (a : DeviceAnswer) → answer ≡ a → Taken (read_row e k a row id)
      by_answer device.Done is = lost_done DeviceFailed work.Failed (ap (view_read_verdict k) is) refl (brings_none device.Done work.Failed is refl)
      by_answer device.Failed is = lost_done DeviceFailed work.Failed (ap (view_read_verdict k) is) refl (brings_none device.Failed work.Failed is refl)
      by_answer (device.Bytes bytes) is = by_own (has_bytes k bytes) refl
        where
          by_own : (b : Bool) → has_bytes k bytes ≡ b → Taken (cond b (refilled e bytes row id) (lost_row Damaged row id))
          by_own true own = full_done bytes is own
          by_own false other =
              lost_done Damaged work.Damaged (ap (view_read_verdict k) is ∙ ap (λ b. cond b work.Fine work.Damaged) other) refl (brings_none (device.Bytes bytes) work.Damaged is refl)

      pub read_done : Taken (read_row e k answer row id)
      read_done = by_answer answer refl

-- ---- the work that left the line

module _ (node : ℕ) (row : Row) (line after : WorkLine) (grants : List StandingGrant) (bytes : ObjectId → List ℕ) (contents : Contents) (h : IsShown row (beside_of line grants bytes row.job) contents)
    (number : ℕ) (answer : DeviceAnswer) (asked : IoRequest) (over : Finishes line (record { 0 = row.job }) number asked after) where
  abbrev beside : SharedTables
  beside = beside_of line grants bytes row.job

  flying : work_of (shape_of row beside) number ≡ Some (shown asked)
  flying = over.own_work

  has : (k : CopyView) × (at row.copies asked.id ≡ Some k)
  has = copy_at_work row beside contents h number (shown asked) flying

  abbrev k : CopyView
  k = has.0

  after_is : record beside { works = filter (λ v. not (v.number == number)) beside.works } ≡ beside_of after grants bytes row.job
  after_is =
      (λ i. record beside { works = sym over.own_works i; used = used i })
    where
      used : used_by line (record { 0 = row.job }) ≡ used_by after (record { 0 = row.job })
      used = ap (λ (l : WorkLine). used_by l (record { 0 = row.job })) (sym over.line)

  abbrev Finished : Row → Type 0
  Finished r = RowStep node row beside contents (input.Answer number answer) (record { reply = reply.Ok; posts = []; erased = keys_settled r asked.id }) (settled_row r asked.id) (beside_of after grants bytes row.job)

  abbrev place : Extent
  place = (place_at_work row beside contents h number (shown asked) flying k has.1).0

  lies_there : extent_of k.copy ≡ Some place
  lies_there = (place_at_work row beside contents h number (shown asked) flying k has.1).1

  in_work : (kind : WorkKind) → asked.kind ≡ kind → is_in_work asked.kind k ≡ true
  in_work Write is = ap (λ kind. is_in_work kind k) is ∙ spilling row beside contents h number (shown asked) flying k has.1 (ap is_write is)
  in_work Read is = ap (λ kind. is_in_work kind k) is ∙ restoring row beside contents h number (shown asked) flying k has.1 (ap is_write is)

  module _ (placed : ArePlaced row.window.placed (place_of row.copies)) (new : Row)
      (ended : (k : CopyView) (e : Extent) → at row.copies asked.id ≡ Some k → extent_of k.copy ≡ Some e → is_in_work asked.kind k ≡ true → new ≡ ended_row asked e k answer row) where
    new_is : new ≡ ended_row asked place k answer row
    new_is = ended k place has.1 lies_there (in_work asked.kind refl)

    abbrev Ended : SharedTables → Row → Type 0
    Ended b r = RowStep node row beside contents (input.Answer number answer) (record { reply = reply.Ok; posts = []; erased = keys_settled r asked.id }) (settled_row r asked.id) b

    by_kind : (kind : WorkKind) → asked.kind ≡ kind → Finished (ended_row (record asked { kind = kind }) place k answer row)
    by_kind Write is =
        subst (λ b. Ended b (written_row asked.number (has_failed (write_verdict answer)) row asked.id)) after_is
        (write_done node row beside contents h number answer (shown asked) flying k has.1 (ap is_write is) placed)
    by_kind Read is =
        subst (λ b. Ended b (read_row place k answer row asked.id)) after_is
        (read_done node row beside contents h number answer (shown asked) flying k has.1 (ap is_write is) placed)

    pub finish_done : Finished new
    finish_done = subst Finished (sym new_is) (by_kind asked.kind refl)

  -- what the answer is to the work
  pub finish_judged : (v : WorkVerdict) → ((k : CopyView) → at row.copies asked.id ≡ Some k → is_in_work asked.kind k ≡ true → v ≡ work_verdict_of asked.kind k answer) → v ≡ work_verdict (seen row beside contents) number answer
  finish_judged v judged = judged k has.1 (in_work asked.kind refl) ∙ by asked.kind refl
    where
      by : (kind : WorkKind) → asked.kind ≡ kind → work_verdict_of kind k answer ≡ work_verdict (seen row beside contents) number answer
      by Write is = sym (write_judged node row beside contents h number answer (shown asked) flying k has.1 (ap is_write is))
      by Read is = sym (read_judged node row beside contents h number answer (shown asked) flying k has.1 (ap is_write is))
