-- Where an object goes, without victims and with them.
use Rattle.std.proofs.Common.{◌≡◌, ℕ, List, [], Option, Some, refl, sym, ap, subst, ◌∙◌, arith}
use Rattle.std.specs.List.Sorted.{IsNonDecreasingBy, IsPermutation}
use Rattle.obj_id.specs.declared.ids.ObjectId.{ObjectId}
use Rattle.obj_id.specs.declared.works.Extent.{Extent}
use Rattle.private_store.specs.rules.Extents.{first}
use Rattle.private_store.specs.rules.Tables.{ById}
use Rattle.job_region.specs.Region.{Region, extents_of, place_for, without}
use Rattle.job_row.specs.Evicting.{IsPlacement, placed_without}
use Rattle.row_copy.specs.CopyViews.{CopyView}
use Rattle.job_row.specs.Row.{Row}
use Rattle.job_row.specs.declared.placement.Placement.{Placement}
use Rattle.room_commands.proofs.Planning.{none_go}
use Rattle.job_row.proofs.ForCallers.{gone, left_sorted}

-- as it is
pub no_victims : (row : Row) (n : ℕ) (p : Placement) → p.victims ≡ [] → p.gone.items ≡ [] → place_for row.window n ≡ Some p.offset → IsPlacement row n p
no_victims row n p none gone place = record {
  gone = ap (λ gs. without gs row.window.placed) gone ∙ ap (placed_without row) (sym none);
  rising = subst (IsNonDecreasingBy (λ (e : Extent). e.offset)) (sym gone) (λ i j d le lt. absurd (omega (arith, lt)));
  first = ap (λ vs. first (extents_of (placed_without row vs)) row.window.quota n) none ∙ ap (λ ps. first (extents_of ps) row.window.quota n) (none_go row.window.placed) ∙ place;
}

-- once these copies are evicted
pub left_without : (row : Row) (es : ById CopyView) → es ≡ row.copies → (victims : List ObjectId) (sorted : List Extent) → IsPermutation (gone es victims) sorted → without sorted row.window.placed ≡ placed_without row victims
left_without row es same victims sorted moved = left_sorted es victims row.window.placed sorted sorted moved refl ∙ ap (λ t. without (gone t victims) row.window.placed) same

pub place_without : (row : Row) (n : ℕ) (victims : List ObjectId) (taken : List Extent) → without taken row.window.placed ≡ placed_without row victims → (window : Region) → window ≡ row.window
    → (o : Option ℕ) → o ≡ first (extents_of (without taken window.placed)) window.quota n → first (extents_of (placed_without row victims)) row.window.quota n ≡ o
place_without row n victims taken left window here o is =
    ap (λ ps. first (extents_of ps) row.window.quota n) (sym left) ∙ ap (λ (w : Region). first (extents_of (without taken w.placed)) w.quota n) (sym here) ∙ sym is
