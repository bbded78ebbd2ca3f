-- A copy that is looked at: what something keeps stays, and what nothing keeps is removed.
use Rattle.std.proofs.Common.{◌≡◌, Bool, true, false, not, cond, List, [], Option, Some, None, option_map, refl, sym, ap, ◌∙◌}
use Rattle.std.specs.Prelude.{option_to_list}
use Rattle.std.specs.Option.{option_map_or}
use Rattle.std.specs.Map.{lookup, set_value}
use Rattle.obj_id.specs.declared.ids.ObjectId.{ObjectId}
use Rattle.obj_id.specs.Ids.{id_eq}
use Rattle.lru_evictor.specs.Facts.{info_of, nowhere, info_at}
use Rattle.store_facts.proofs.Ids.{same_id-itself}
use Rattle.store_facts.proofs.Rows.{at-drop}
use Rattle.store_facts.proofs.Tests.{none_some}
use Rattle.private_store.specs.rules.Tables.{ById, at, without_entry}
use Rattle.private_store.specs.rules.Private.{key_of}
use Rattle.row_copy.specs.CopyViews.{CopyView}
use Rattle.job_row.specs.Row.{Row}
use Rattle.job_row.specs.RowFacts.{row_facts_of}
use Rattle.job_row.specs.InSync.{facts_in}
use Rattle.job_row.specs.Entries.{by_rising_id, changed}
use Rattle.job_row.specs.Dropping.{dropped, is_over_at, over_copy, settled_copies, settled_row, keys_settled}
use Rattle.row_copy.specs.Keeping.{is_over}
use Rattle.job_row.proofs.Changes.{written, found_rising, changed-absent, at-changed_here}

pub row_kept : (row : Row) (id : ObjectId) → is_over_at row.copies id ≡ false → settled_row row id ≡ row
row_kept row id kept = by (at row.copies id) kept
  where
    by : (o : Option CopyView) → option_map_or is_over o false ≡ false → option_map_or (λ k. cond (is_over k) (dropped row id) row) o row ≡ row
    by None h = refl
    by (Some k) h = ap (λ b. cond b (dropped row id) row) h

pub keys_kept : (row : Row) (id : ObjectId) → is_over_at row.copies id ≡ false → keys_settled row id ≡ []
keys_kept row id kept = by (at row.copies id) kept
  where
    by : (o : Option CopyView) → option_map_or is_over o false ≡ false → option_map_or (λ k. cond (is_over k) (option_to_list (option_map (key_of row.job) k.copy.backed)) []) o [] ≡ []
    by None h = refl
    by (Some k) h = ap (λ b. cond b (option_to_list (option_map (key_of row.job) k.copy.backed)) []) h

-- ---- the copy that is removed

module _ (copies : ById CopyView) (id : ObjectId) where
  -- if there is none
  pub none_over : over_copy copies id ≡ None → is_over_at copies id ≡ false
  none_over none = by (at copies id) none
    where
      here : (k : CopyView) (b : Bool) → cond b (Some k) None ≡ None → b ≡ false
      here k true h = none_some k (sym h)
      here k false h = refl

      by : (o : Option CopyView) → cond (option_map_or is_over o false) o None ≡ None → option_map_or is_over o false ≡ false
      by None h = refl
      by (Some k) h = here k (is_over k) h

  -- if there is one
  pub one_over : (k : CopyView) → over_copy copies id ≡ Some k → (at copies id ≡ Some k) × (is_over_at copies id ≡ true)
  one_over k one = by (at copies id) one
    where
      here : (x : CopyView) (b : Bool) → cond b (Some x) None ≡ Some k → (Some x ≡ Some k) × (b ≡ true)
      here x true h = (h, refl)
      here x false h = none_some k h

      by : (o : Option CopyView) → cond (option_map_or is_over o false) o None ≡ Some k → (o ≡ Some k) × (option_map_or is_over o false ≡ true)
      by None h = none_some k h
      by (Some x) h = here x (is_over x) h

  pub copies_kept : is_over_at copies id ≡ false → settled_copies copies id ≡ copies
  copies_kept kept = ap (λ b. cond b (without_entry copies id) copies) kept

  pub copies_over : is_over_at copies id ≡ true → settled_copies copies id ≡ without_entry copies id
  copies_over over = ap (λ b. cond b (without_entry copies id) copies) over

-- ---- a copy that a change may leave to nothing

-- there is none
module _ (f : CopyView → CopyView) (id : ObjectId) (now : ById CopyView) (none : at now id ≡ None) where
  not_over : is_over_at (changed f now id) id ≡ false
  not_over = ap (λ t. is_over_at t id) (changed-absent f id now none) ∙ ap (λ o. option_map_or is_over o false) none

  pub settled_absent : settled_copies (changed f now id) id ≡ now
  settled_absent = copies_kept (changed f now id) id not_over ∙ changed-absent f id now none

  pub over_absent : over_copy (changed f now id) id ≡ None
  over_absent = ap (λ b. cond b (at (changed f now id) id) None) not_over

  pub info_absent : info_at (facts_in now) id ≡ nowhere
  info_absent = ap (λ o. option_map_or info_of (option_map row_facts_of o) nowhere) none

-- it is written through what the map of the table lends
module _ (f : CopyView → CopyView) (id : ObjectId) (es : List (ObjectId × CopyView)) (now : ById CopyView) (seen : by_rising_id es ≡ now) (x y : CopyView) (found : lookup (id_eq id) es ≡ Some x) (is : y ≡ f x)
    (new : List (ObjectId × CopyView)) (set : new ≡ set_value (id_eq id) es y) where
  abbrev after : ById CopyView
  after = changed f now id

  told : by_rising_id new ≡ after
  told = written f id es now seen new x y found is set

  there : at after id ≡ Some y
  there = at-changed_here f id now x (found_rising id es now seen x found) ∙ ap Some (sym is)

  over_there : is_over_at after id ≡ is_over y
  over_there = ap (λ o. option_map_or is_over o false) there

  -- and stays
  module _ (kept : is_over y ≡ false) where
    pub settled_stays : by_rising_id new ≡ settled_copies after id
    settled_stays = told ∙ sym (copies_kept after id (over_there ∙ kept))

    pub over_stays : over_copy after id ≡ None
    over_stays = ap (λ b. cond b (at after id) None) (over_there ∙ kept)

    pub info_stays : info_at (facts_in (by_rising_id new)) id ≡ info_of (row_facts_of y)
    info_stays = ap (λ o. option_map_or info_of (option_map row_facts_of o) nowhere) (ap (λ t. at t id) told ∙ there)

  -- or goes
  module _ (over : is_over y ≡ true) (left : ById CopyView) (gone : left ≡ without_entry (by_rising_id new) id) where
    pub settled_goes : left ≡ settled_copies after id
    settled_goes = gone ∙ ap (λ t. without_entry t id) told ∙ sym (copies_over after id (over_there ∙ over))

    pub over_goes : over_copy after id ≡ Some y
    over_goes = ap (λ b. cond b (at after id) None) (over_there ∙ over) ∙ there

    pub info_goes : info_at (facts_in left) id ≡ nowhere
    info_goes =
        ap (λ t. option_map_or info_of (option_map row_facts_of (at t id)) nowhere) gone
        ∙ ap (λ o. option_map_or info_of (option_map row_facts_of o) nowhere) (at-drop (by_rising_id new) id id ∙ ap (λ b. cond (not b) (at (by_rising_id new) id) None) (same_id-itself id))
