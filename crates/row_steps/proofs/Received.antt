-- The bytes of what others granted, where none are brought, and where those of one object are.
use Rattle.std.proofs.Common.{◌≡◌, ℕ, Bool, true, false, cond, List, [], ◌∷◌, map, Option, Some, is_some, unwrap_or, refl, sym, ap, ◌∙◌}
use Rattle.std.specs.List.{list_all}
use Rattle.obj_id.specs.declared.ids.ObjectId.{ObjectId}
use Rattle.obj_id.specs.Ids.{same_id}
use Rattle.store_facts.proofs.Ids.{same_id-itself, same_id-equal}
use Rattle.private_store.specs.rules.Tables.{ById, at, with_entry}
use Rattle.private_store.specs.rules.Shape.{Seen}
use Rattle.private_store.specs.rules.Contents.{kept}
use Rattle.store_facts.proofs.Rows.{at-put}
use Rattle.store_facts.proofs.Tests.{both, both_left, both_right}
use Rattle.store_facts.proofs.KeptLists.{all_weaker}

-- each entry of a table is found in it
pub all_there : (table : ById Seen) → list_all (λ e. is_some (at table e.0)) table ≡ true
all_there [] = refl
all_there (e ∷ table) =
    both _ _ (ap (λ b. is_some (cond b (Some e.1) (at table e.0))) (same_id-itself e.0))
    (all_weaker (λ x. is_some (at table x.0)) (λ x. is_some (at (e ∷ table) x.0)) table (λ x. later (same_id x.0 e.0) (at table x.0)) (all_there table))
  where
    later : (b : Bool) (o : Option Seen) → is_some o ≡ true → is_some (cond b (Some e.1) o) ≡ true
    later true o there = refl
    later false o there = there

module _ (bytes : ObjectId → List ℕ) where
  abbrev pub filled : ById Seen → ById (List ℕ)
  filled table = map (λ e. (e.0, bytes e.0)) table

  pub filled_at : (table : ById Seen) (q : ObjectId) → is_some (at table q) ≡ true → at (filled table) q ≡ Some (bytes q)
  filled_at [] q there = absurd cc
  filled_at (e ∷ table) q there = by (same_id q e.0) refl (filled_at table q) there
    where
      by : (b : Bool) → same_id q e.0 ≡ b → (is_some (at table q) ≡ true → at (filled table) q ≡ Some (bytes q)) → is_some (cond b (Some e.1) (at table q)) ≡ true → cond b (Some (bytes e.0)) (at (filled table) q) ≡ Some (bytes q)
      by true same rest there = ap (λ id. Some (bytes id)) (sym (same_id-equal q e.0 same))
      by false same rest there = rest there

  -- a table of bytes that has those of the objects that are there
  abbrev pub Fills : ById (List ℕ) → ById Seen → Type 0
  Fills found table = (q : ObjectId) → is_some (at table q) ≡ true → at found q ≡ Some (bytes q)

  each_filled : (found : ById (List ℕ)) (table entries : ById Seen) → Fills found table → list_all (λ e. is_some (at table e.0)) entries ≡ true → kept (λ seen. true) (λ seen. []) found entries ≡ filled entries
  each_filled found table [] has there = refl
  each_filled found table (e ∷ entries) has there =
      ap (λ o. (e.0, unwrap_or o []) ∷ kept (λ (seen : Seen). true) (λ seen. []) found entries) (has e.0 (both_left _ (list_all (λ e. is_some (at table e.0)) entries) there))
      ∙ ap (λ es. (e.0, bytes e.0) ∷ es) (each_filled found table entries has (both_right (is_some (at table e.0)) _ there))

  kept_where : (found : ById (List ℕ)) (table : ById Seen) → Fills found table → kept (λ seen. true) (λ seen. []) found table ≡ filled table
  kept_where found table has = each_filled found table table has (all_there table)

  -- the bytes of what is still granted are kept as they are
  pub kept_as_they_are : (table : ById Seen) → kept (λ seen. true) (λ seen. []) (filled table) table ≡ filled table
  kept_as_they_are table = kept_where (filled table) table (filled_at table)

  -- also where less is granted than before
  pub kept_of_fewer : (table fewer : ById Seen) → ((q : ObjectId) → is_some (at fewer q) ≡ true → is_some (at table q) ≡ true) → kept (λ seen. true) (λ seen. []) (filled table) fewer ≡ filled fewer
  kept_of_fewer table fewer within = kept_where (filled table) fewer (λ q there. filled_at table q (within q there))

  -- and those of one object more are brought
  pub kept_with_more : (table : ById Seen) (id : ObjectId) (seen : Seen) → kept (λ seen. true) (λ seen. []) (with_entry (filled table) id (bytes id)) (with_entry table id seen) ≡ filled (with_entry table id seen)
  kept_with_more table id seen = kept_where (with_entry (filled table) id (bytes id)) (with_entry table id seen)
      (λ q there. at-put (filled table) id (bytes id) q ∙ by q (same_id q id) refl (sym (ap is_some (at-put table id seen q)) ∙ there))
    where
      by : (q : ObjectId) (b : Bool) → same_id q id ≡ b → is_some (cond b (Some seen) (at table q)) ≡ true → cond b (Some (bytes id)) (at (filled table) q) ≡ Some (bytes q)
      by q true same there = ap (λ i. Some (bytes i)) (sym (same_id-equal q id same))
      by q false same there = filled_at table q there
