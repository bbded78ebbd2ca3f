-- A copy that waits for a place, and one that has taken it.
use Rattle.std.proofs.Common.{◌≡◌, ℕ, true, false, not, ◌==◌, List, [], ◌∷◌, ◌++◌, filter, Option, Some, None, is_none, refl, sym, ap, ◌∙◌, arith}
use Rattle.std.specs.Option.{option_map_or, option_and_then}
use Rattle.std.proofs.lemmas.Bool.Decides.{nat_tests}
use Rattle.obj_id.specs.declared.ids.ObjectId.{ObjectId}
use Rattle.private_store.specs.rules.Tables.{ById, at}
use Rattle.private_store.specs.rules.Copies.{extent_of}
use Rattle.private_store.specs.rules.Extents.{rounded}
use Rattle.obj_id.specs.declared.works.Extent.{Extent}
use Rattle.store_facts.proofs.Tests.{both_left, both_right, true_false}
use Rattle.job_row.specs.Evicting.{used_last}
use Rattle.row_copy.specs.CopyViews.{CopyView, waits_for_place, after_placing}
use Rattle.row_copy.specs.declared.marks.Awaited.{Awaited}
use Rattle.row_copy.specs.declared.marks.Awaited.TheVariants.{Chunks, Device}
use Rattle.job_row.specs.Row.{place_of}

-- a copy that waits for a place of n bytes
pub record Waits (copies : ById CopyView) (id : ObjectId) (n : ℕ) : Type 0 where
  pub k : CopyView
  pub found : at copies id ≡ Some k
  pub nowhere : place_of copies id ≡ None
  pub long : k.copy.length ≡ n

pub waiting : (copies : ById CopyView) (id : ObjectId) (n : ℕ) → option_map_or (waits_for_place n) (at copies id) false ≡ true → Waits copies id n
waiting copies id n e = by (at copies id) refl e
  where
    nowhere : (k : CopyView) (p : Option ℕ) → k.copy.offset ≡ p → is_none p ≡ true → extent_of k.copy ≡ None
    nowhere k None t e = ap (λ p. extent_of (record k.copy { offset = p })) t
    nowhere k (Some o) t e = true_false e

    level : (a b : ℕ) → (a == b) ≡ true → a ≡ b
    level a b t = grind (arith, nat_tests, t)

    by : (o : Option CopyView) → at copies id ≡ o → option_map_or (waits_for_place n) o false ≡ true → Waits copies id n
    by None f t = true_false t
    by (Some k) f t = record {
      k = k;
      found = f;
      nowhere = ap (option_and_then (λ (k : CopyView). extent_of k.copy)) f ∙ nowhere k k.copy.offset refl (both_left (is_none k.copy.offset) _ t);
      long = level k.copy.length n (both_right (is_none k.copy.offset) _ t);
    }

-- an order in which nothing was used
pub unused : (order : List ObjectId) → order ≡ used_last None order
unused order = sym (by order)
  where
    by : (ids : List ObjectId) → filter (λ x. not false) ids ++ [] ≡ ids
    by [] = refl
    by (x ∷ ids) = ap (λ ys. x ∷ ys) (by ids)

-- where it lies then
pub placed_lies : (awaited : Awaited) (offset : ℕ) (k : CopyView) (n : ℕ) → k.copy.length ≡ n → extent_of (after_placing awaited offset k).copy ≡ Some (record { offset = offset; length = rounded n })
placed_lies awaited offset k n long = by awaited ∙ ap (λ m. Some (at_offset m)) long
  where
    at_offset : ℕ → Extent
    at_offset m = record { offset = offset; length = rounded m }

    by : (awaited : Awaited) → extent_of (after_placing awaited offset k).copy ≡ Some (at_offset k.copy.length)
    by (Chunks missing) = refl
    by Device = refl
