-- What is left of a window once extents are given back, and the hole there that an object goes into.
use Rattle.std.proofs.Common.{◌≡◌, ℕ, ◌<◌, List, Some, None, refl, ap, ◌∙◌, sym, arith}
use Rattle.std.specs.Option.{option_map}
use Rattle.std.proofs.lemmas.Option.{none-some}
use Rattle.obj_id.specs.declared.works.Extent.{Extent}
use Rattle.private_store.specs.rules.Extents.{rounded}
use Rattle.private_store.specs.rules.Extents as extents
use Rattle.hole_tree.specs.declared.Hole.{Hole}
use Rattle.hole_tree.specs.Holes.{first_fitting, hole_at, AreHolesRising}
use Rattle.job_region.specs.Gaps.{gaps}
use Rattle.job_region.specs.Layout.{zipped, LaidFrom, AreFilled, staying}
use Rattle.job_region.specs.Region.{Region, extents_of, place_for, without}
use Rattle.job_region.proofs.Found.{place_is}
use Rattle.job_region.proofs.Kept.{kept_laid}
use Rattle.job_region.proofs.Placing.{IsFoundIn, found_there}
use Rattle.job_region.proofs.Zipped.{memory_of, memory_whole, memory_view}

-- of the extents of a window that shows a region some were given back: these are left, with their buffers and holes
pub record AreFreed (q : ℕ) (gone es es1 left : List Extent) (bs bs1 buffers : List (List ℕ)) (hs : List Hole) (v : Region) : Type 0 where
  pub same_extents : es1 ≡ es
  pub same_buffers : bs1 ≡ bs
  pub left_is : left ≡ staying gone es1
  pub placed_is : zipped left buffers ≡ without gone (zipped es1 bs1)
  pub laid : LaidFrom q 0 es
  pub view : ◌≡◌ {A = Region} (record { quota = q; placed = zipped es bs }) v
  pub filled : AreFilled left buffers
  pub free : hs ≡ gaps q 0 left

module _ {q : ℕ} {gone es es1 left : List Extent} {bs bs1 buffers : List (List ℕ)} {hs : List Hole} {v : Region} (f : AreFreed q gone es es1 left bs bs1 buffers hs v) where
  pub left_stays : left ≡ staying gone es
  left_stays = f.left_is ∙ ap (staying gone) f.same_extents

  pub left_laid : LaidFrom q 0 left
  left_laid = rw left_stays (kept_laid gone q 0 es f.laid)

  pub left_placed : zipped left buffers ≡ without gone v.placed
  left_placed =
      f.placed_is
      ∙ ap (λ (xs : List Extent). without gone (zipped xs bs1)) f.same_extents
      ∙ ap (λ (xs : List (List ℕ)). without gone (zipped es xs)) f.same_buffers
      ∙ ap (λ (r : Region). without gone r.placed) f.view

  -- where an object of `len` bytes goes among what is left
  module _ (len need o : ℕ) (is : need ≡ rounded len) (some : 0 < len) (rising : AreHolesRising hs) (first : extents.first (extents_of (without gone v.placed)) v.quota len ≡ Some o) where
    place : place_for (record { quota = q; placed = zipped left buffers }) len ≡ Some o
    place =
        ap (λ n. extents.first (extents_of (zipped left buffers)) n len) (ap (λ (r : Region). r.quota) f.view)
        ∙ ap (λ (ps : List (ℕ × List ℕ)). extents.first (extents_of ps) v.quota len) left_placed
        ∙ first

    some_need : 0 < need
    some_need = omega (arith, is, some)

    pub hole_found : first_fitting need hs ≡ hole_at o hs
    hole_found = found_there q left buffers len need hs is some_need left_laid f.filled f.free rising o place

    pub found_in : (h : Hole) → hole_at o hs ≡ Some h → IsFoundIn q left buffers len need hs h
    found_in h at = record { is = is; some = some_need; laid = left_laid; filled = f.filled; free = f.free; found = hole_found ∙ at }

    -- first fit finds one
    pub none_found : first_fitting need hs ≡ None → ⊥
    none_found none =
        let r : Region = record { quota = q; placed = zipped left buffers } in
        let begins = place_is (memory_of q left buffers) q len need left hs is (memory_whole q left buffers left_laid f.filled) left_laid some_need f.free r (memory_view q left buffers left_laid f.filled r refl) in
        none-some o (ap (option_map (λ (h : Hole). h.offset)) (sym none) ∙ sym begins ∙ place)
