-- A table each entry of which was changed.
use Rattle.std.proofs.Common.{◌≡◌, ℕ, Bool, true, false, cond, List, [], ◌∷◌, Option, Some, None, is_some, option_map, refl, sym, ap, subst, ◌∙◌}
use Rattle.std.specs.Option.{option_and_then}
use Rattle.obj_id.specs.declared.ids.ObjectId.{ObjectId}
use Rattle.obj_id.specs.Ids.{same_id}
use Rattle.private_store.specs.rules.Tables.{ById, at}
use Rattle.private_store.specs.rules.Copies.{extent_of}
use Rattle.store_facts.proofs.Tests.{some_value, none_some}
use Rattle.job_row.specs.Entries.{all_changed}
use Rattle.row_copy.specs.CopyViews.{CopyView, after_leave}
use Rattle.job_row.specs.Row.{place_of, ArePlaced}
use Rattle.job_row.proofs.Places.{same_places}

module _ {X : Type 0} (f : X → X) where
  pub at-all : (es : ById X) (q : ObjectId) → at (all_changed f es) q ≡ option_map f (at es q)
  at-all [] q = refl
  at-all (e ∷ es) q = by (same_id q e.0) (at-all es q)
    where
      by : (b : Bool) → at (all_changed f es) q ≡ option_map f (at es q) → cond b (Some (f e.1)) (at (all_changed f es) q) ≡ option_map f (cond b (Some e.1) (at es q))
      by true h = refl
      by false h = h

  pub from_all : (es : ById X) (q : ObjectId) (y : X) → at (all_changed f es) q ≡ Some y → (z : X) × (at es q ≡ Some z) × (y ≡ f z)
  from_all es q y e = by (at es q) (sym (at-all es q) ∙ e)
    where
      by : (o : Option X) → option_map f o ≡ Some y → (z : X) × (o ≡ Some z) × (y ≡ f z)
      by (Some z) e = (z, refl, sym (some_value (f z) y e))
      by None e = none_some y e

  -- what is there stays there
  pub found_all : (es : ById X) (q : ObjectId) → is_some (at es q) ≡ true → is_some (at (all_changed f es) q) ≡ true
  found_all es q h = ap is_some (at-all es q) ∙ by (at es q) h
    where
      by : (o : Option X) → is_some o ≡ true → is_some (option_map f o) ≡ true
      by (Some z) h = refl
      by None h = h

-- ---- where copies lie without a session's holds

pub places-left : (session : ℕ) (es : ById CopyView) (q : ObjectId) → place_of (all_changed (after_leave session) es) q ≡ place_of es q
places-left session es q = ap (λ o. option_and_then (λ kept. extent_of kept.copy) o) (at-all (after_leave session) es q) ∙ by (at es q)
  where
    by : (o : Option CopyView) → option_and_then (λ kept. extent_of kept.copy) (option_map (after_leave session) o) ≡ option_and_then (λ kept. extent_of kept.copy) o
    by None = refl
    by (Some k) = refl

pub left_placed : (placed : List (ℕ × List ℕ)) (es : ById CopyView) → ArePlaced placed (place_of es) → (session : ℕ) (now : ById CopyView) → now ≡ all_changed (after_leave session) es → ArePlaced placed (place_of now)
left_placed placed es h session now is =
    subst (λ t. ArePlaced placed (place_of t)) (sym is) (same_places placed (place_of es) (place_of (all_changed (after_leave session) es)) (places-left session es) h)
