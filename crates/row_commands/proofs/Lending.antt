-- The bytes of a copy that a session holds.
use Rattle.std.proofs.Common.{◌≡◌, ℕ, ◌==◌, true, false, List, [], ◌∷◌, take, length, Some, None, is_some, unwrap_or, refl, sym, ap, ◌∙◌}
use Rattle.std.specs.Ordering.{nat_cmp}
use Rattle.std.specs.FinMap.{find}
use Rattle.obj_id.specs.declared.ids.ObjectId.{ObjectId}
use Rattle.obj_id.specs.declared.works.Extent.{Extent}
use Rattle.obj_id.specs.declared.refusals.Refusal.TheVariants.{Absent}
use Rattle.private_store.specs.rules.Tables.{at}
use Rattle.private_store.specs.rules.Shape.{Copy}
use Rattle.private_store.specs.rules.Copies.{extent_of, is_sealed}
use Rattle.private_store.specs.rules.Commands.{bytes_checks, holds_of}
use Rattle.private_store.specs.rules.Shared.{first_refusal}
use Rattle.private_store.specs.rules.Contents.{Contents, bytes_at}
use Rattle.private_store.specs.laws.Invariants.{are_held}
use Rattle.store_facts.proofs.Tests.{some_value}
use Rattle.job_region.specs.Region.{region_bytes_at as placed_bytes}
use Rattle.row_copy.specs.CopyViews.{CopyView}
use Rattle.job_row.specs.Row.{Row, copies_of}
use Rattle.job_row.specs.Checks.{lend_check}
use Rattle.row_steps.specs.Shown.{IsShown, IsLent}
use Rattle.job_row.proofs.ForCallers.{at-copies_found, lend-by}
use Rattle.row_steps.proofs.ForCallers.{all_failed, there, placed_at, sealed_resides}
use Rattle.row_steps.specs.Beside.{SharedTables}

-- a session that has a hold is among the holds
some_hold : (session : ℕ) (holds : List (ℕ × ℕ)) → (unwrap_or (find nat_cmp session holds) 0 == 0) ≡ false → are_held holds ≡ true
some_hold session [] e = absurd cc
some_hold session (hold ∷ holds) e = refl

module _ (row : Row) (beside : SharedTables) (contents : Contents) (h : IsShown row beside contents) (session : ℕ) (id : ObjectId) where
  module _ (k : CopyView) (found : at row.copies id ≡ Some k) (held : (holds_of k.copy session == 0) ≡ false) where
    -- what is held is sealed
    held_sealed : is_sealed k.copy.state ≡ true
    held_sealed = (h.kept.kept.shape.each id k.copy (at-copies_found row.copies id k found)).held (some_hold session k.copy.holds held)

    resident : is_some k.copy.offset ≡ true
    resident = (h.kept.kept.shape.each id k.copy (at-copies_found row.copies id k found)).resident ∙ sealed_resides k.copy.state k.copy.fetch held_sealed

    pub held_shown : (shown : List ℕ) → ((k : CopyView) (e : Extent) → at row.copies id ≡ Some k → extent_of k.copy ≡ Some e → shown ≡ take k.copy.length (placed_bytes e row.window.placed)) → shown ≡ bytes_at contents.bytes id
    held_shown shown are =
        let p = placed_at k.copy resident in
        are k p.0 found p.1 ∙ sym (h.bytes id k p.0 found p.1)

    held_whole : length (bytes_at contents.bytes id) ≡ k.copy.length
    held_whole = (h.kept.kept.filled.each id k.copy (at-copies_found row.copies id k found)).bytes resident

  module _ (passed : lend_check (copies_of row.copies) session id ≡ None) where
    got : (k : CopyView) × (at row.copies id ≡ Some k) × (first_refusal (bytes_checks k.copy session) ≡ None)
    got = there (λ k. first_refusal (bytes_checks k.copy session)) Absent (at row.copies id) (sym (lend-by row.copies session id (at row.copies id) refl) ∙ passed)

    has : (holds_of got.0.copy session == 0) ≡ false
    has = (all_failed (bytes_checks got.0.copy session) got.2).1.0

    pub lent_so : (shown : List ℕ) → ((k : CopyView) (e : Extent) → at row.copies id ≡ Some k → extent_of k.copy ≡ Some e → shown ≡ take k.copy.length (placed_bytes e row.window.placed)) → IsLent (copies_of row.copies) contents session id shown
    lent_so shown are =
        let is = held_shown got.0 got.1 has shown are in
        record {
          passed = passed;
          bytes = is;
          whole = λ copy found. ap length is ∙ held_whole got.0 got.1 has ∙ ap (λ (c : Copy). c.length) (some_value got.0.copy copy (sym (at-copies_found row.copies id got.0 got.1) ∙ found));
        }
