-- The copies of a table without contents, found one after the other by their items.
use Rattle.std.proofs.Common.{◌≡◌, List, [], ◌∷◌, ◌++◌, map, Option, Some, refl, ap, ◌∙◌, T, arith}
use Rattle.std.specs.Prelude.{Contains, option_map, option_to_list}
use Rattle.std.specs.Map.{lookup}
use Rattle.std.specs.FinMap.{is_sorted}
use Rattle.std.proofs.lemmas.List.Elements.{Contains-get_or, Contains-append_right}
use Rattle.std.proofs.lemmas.Map.Views.{lookup-from_Contains}
use Rattle.obj_id.specs.declared.ids.ObjectId.{ObjectId}
use Rattle.obj_id.specs.declared.commands.OwnItem.{OwnItem}
use Rattle.obj_id.specs.Ids.{id_cmp}
use Rattle.store_facts.proofs.Ids.{id_eq_equiv, same_id-id_eq}
use Rattle.private_store.specs.rules.Tables.{ById, at}
use Rattle.private_store.specs.rules.Shape.{Copy}
use Rattle.store_facts.proofs.ObjectMaps.{at-lookup}
use Rattle.row_copy.specs.CopyViews.{CopyView}
use Rattle.job_row.specs.Row.{copies_of}
use Rattle.row_copy.specs.Usages.{own_item_of}
use Rattle.job_row.proofs.ForCallers.{distinct_from_sorted}

-- the copy of this id, if there is one
abbrev pub found : ById CopyView → ObjectId → List (ObjectId × Copy)
found table id = option_to_list (option_map (λ (k : CopyView). (id, k.copy)) (at table id))

abbrev pub gathered : ById CopyView → List OwnItem → ById Copy
gathered table [] = []
gathered table (item ∷ items) = found table item.id ++ gathered table items

module _ (table : ById CopyView) (rising : T (is_sorted id_cmp table)) where
  own : (e : ObjectId × CopyView) → Contains table e → at table e.0 ≡ Some e.1
  own e there =
      at-lookup e.0 table ∙ ap (λ test. lookup test table) (λ i k. same_id-id_eq e.0 k i)
      ∙ lookup-from_Contains id_eq_equiv e.0 e.1 table (distinct_from_sorted table rising) there

  each : (es : ById CopyView) → ((e : ObjectId × CopyView) → Contains es e → Contains table e) → gathered table (map own_item_of es) ≡ copies_of es
  each [] within = refl
  each (e ∷ es) within =
      let here = own e (within e (Contains-get_or (e ∷ es) 0 e (omega arith))) in
      ap (λ (o : Option CopyView). option_to_list (option_map (λ (k : CopyView). (e.0, k.copy)) o) ++ gathered table (map own_item_of es)) here
      ∙ ap (λ r. (e.0, e.1.copy) ∷ r) (each es (λ x there. within x (Contains-append_right (e ∷ []) es x there)))

  pub gathered_all : gathered table (map own_item_of table) ≡ copies_of table
  gathered_all = each table (λ e there. there)
