-- Bytes that are written over a resident copy: what then lies in the window.
use Rattle.std.proofs.Common.{◌≡◌, ℕ, ◌+◌, ◌≤◌, false, nat_eq, List, length, take, Some, sym, ap, ◌∙◌, arith}
use Rattle.std.specs.Map.{set_value}
use Rattle.obj_id.specs.declared.ids.ObjectId.{ObjectId}
use Rattle.obj_id.specs.declared.works.Extent.{Extent}
use Rattle.obj_id.specs.Ids.{same_id}
use Rattle.store_facts.proofs.Ids.{same_id-itself}
use Rattle.private_store.specs.rules.Tables.{at}
use Rattle.private_store.specs.rules.Extents.{rounded}
use Rattle.private_store.specs.rules.Copies.{extent_of}
use Rattle.private_store.specs.rules.Contents.{Contents, bytes_at, overwritten}
use Rattle.store_facts.proofs.Tests.{true_false}
use Rattle.job_region.specs.Region.{region_bytes_at as placed_bytes}
use Rattle.job_region.proofs.ForCallers.{part_over_within}
use Rattle.row_copy.specs.CopyViews.{CopyView}
use Rattle.job_row.specs.Row.{Row, place_of, ArePlaced}
use Rattle.row_steps.specs.Shown.{IsShown}
use Rattle.row_steps.proofs.ForCallers.{place_found}
use Rattle.job_row.proofs.ForCallers.{bytes-written, bytes-other, long_at, at_most_rounded}
use Rattle.row_steps.specs.Beside.{SharedTables}

module _ (row : Row) (beside : SharedTables) (contents : Contents) (h : IsShown row beside contents) (id : ObjectId) (k : CopyView) (found : at row.copies id ≡ Some k)
    (e : Extent) (lies : extent_of k.copy ≡ Some e) (long : e.length ≡ rounded k.copy.length) (offset : ℕ) (bytes : List ℕ) (within : offset + length bytes ≤ k.copy.length) where
  abbrev old_bytes : List ℕ
  old_bytes = placed_bytes e row.window.placed

  -- what lies in the window then
  abbrev pub placed_now : List (ℕ × List ℕ)
  placed_now = set_value (nat_eq e.offset) row.window.placed (overwritten old_bytes offset bytes)

  pub is_place : place_of row.copies id ≡ Some e
  is_place = place_found row.copies id k found ∙ lies

  pub fits : offset + length bytes ≤ e.length
  fits = let a = at_most_rounded k.copy.length in omega (arith, a, long, within)

  module _ (placed : ArePlaced row.window.placed (place_of row.copies)) where
    old_long : length old_bytes ≡ e.length
    old_long = long_at row.window.placed e (placed.there id e is_place)

    -- what is written shows in the copy's own bytes
    pub written_here : take k.copy.length (placed_bytes e placed_now) ≡ overwritten (bytes_at contents.bytes id) offset bytes
    written_here =
        let a = at_most_rounded k.copy.length in
        let z : offset ≡ 0 + offset = omega arith in
        ap (take k.copy.length) (bytes-written row.window.placed e (placed.there id e is_place) (overwritten old_bytes offset bytes))
        ∙ ap (λ o. take k.copy.length (overwritten old_bytes o bytes)) z
        ∙ part_over_within old_bytes (record { offset = 0; length = k.copy.length }) offset bytes (omega (arith, a, long, old_long)) within
        ∙ ap (λ bs. overwritten bs offset bytes) (sym (h.bytes id k e found lies))

    -- and in no other copy's
    pub written_elsewhere : (q : ObjectId) (z : CopyView) (f : Extent) → same_id q id ≡ false → at row.copies q ≡ Some z → extent_of z.copy ≡ Some f → placed_bytes f placed_now ≡ placed_bytes f row.window.placed
    written_elsewhere q z f differs was place =
        bytes-other row.window.placed e (placed.there id e is_place) (overwritten old_bytes offset bytes) f (λ same.
        true_false (sym differs ∙ ap (λ y. same_id y id) (sym (placed.apart id q e f is_place (place_found row.copies q z was ∙ place) same)) ∙ same_id-itself id))
