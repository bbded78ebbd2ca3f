-- What a store uses of a window and of the device.
use Rattle.std.proofs.Common.{◌≡◌, ℕ, ◌+◌, nat_le, true, ◌&&◌, List, [], ◌∷◌, map, filter, filter_map, sum, Some, None, is_some, cond, option_map, refl, sym, ap, ◌∙◌}
use Rattle.std.specs.List.{sum_by}
use Rattle.std.proofs.lemmas.List.Sums.{sum_by-cons, sum-map}
use Rattle.obj_id.specs.declared.works.Extent.{Extent}
use Rattle.std.specs.List.{list_all, cons_option}
use Rattle.std.specs.Option.{option_map_or}
use Rattle.std.specs.Map.{values_of}
use Rattle.obj_id.specs.declared.ids.ObjectId.{ObjectId}
use Rattle.private_store.specs.rules.Shape.{Copy}
use Rattle.private_store.specs.rules.Extents.{rounded, end_of}
use Rattle.private_store.specs.rules.Copies.{extent_of}
use Rattle.plain_store.specs.Using.{has_extent_within}

abbrev pub rounded_length : ObjectId × Copy → ℕ
rounded_length e = rounded e.1.length

extents-by : (es : List (ObjectId × Copy)) → sum_by rounded_length (filter (λ e. is_some e.1.offset) es) ≡ sum_by (λ (x : Extent). x.length) (filter_map (λ e. extent_of e.1) es)
extents-by [] = refl
extents-by (e ∷ es) = elim (e.1.offset) as (λ o. sum_by rounded_length (cond (is_some o) (e ∷ filter (λ e. is_some e.1.offset) es) (filter (λ e. is_some e.1.offset) es)) ≡ sum_by (λ (x : Extent). x.length) (cons_option (option_map (λ o. record { offset = o; length = rounded e.1.length }) o) (filter_map (λ e. extent_of e.1) es))) [
  | None ↦ extents-by es
  | Some o ↦ sum_by-cons rounded_length e (filter (λ e. is_some e.1.offset) es) ∙ ap (λ n. rounded e.1.length + n) (extents-by es) ∙ sym (sum_by-cons (λ (x : Extent). x.length) (record { offset = o; length = rounded e.1.length }) (filter_map (λ e. extent_of e.1) es))
]

-- the extents' lengths are those of the resident copies
pub sum-extents : (es : List (ObjectId × Copy)) → sum (map (λ e. rounded e.1.length) (filter (λ e. is_some e.1.offset) es)) ≡ sum (map (λ e. e.length) (filter_map (λ e. extent_of e.1) es))
sum-extents es = sum-map rounded_length (filter (λ e. is_some e.1.offset) es) ∙ extents-by es ∙ sym (sum-map (λ (x : Extent). x.length) (filter_map (λ e. extent_of e.1) es))

-- each extent is within the window if that of each copy is
pub all-extents : (window : ℕ) (es : List (ObjectId × Copy)) → list_all (has_extent_within window) (values_of es) ≡ list_all (λ x. nat_le (end_of x) window) (filter_map (λ e. extent_of e.1) es)
all-extents window [] = refl
all-extents window (e ∷ es) = elim (extent_of e.1) as (λ o. (option_map_or (λ x. nat_le (end_of x) window) o true && list_all (has_extent_within window) (values_of es)) ≡ list_all (λ x. nat_le (end_of x) window) (cons_option o (filter_map (λ e. extent_of e.1) es))) [
  | None ↦ all-extents window es
  | Some x ↦ ap (λ b. nat_le (end_of x) window && b) (all-extents window es)
]
