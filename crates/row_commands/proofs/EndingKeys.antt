-- The keys that the end of a job leaves are those of the copies that are gone with it.
use Rattle.std.proofs.Common.{◌≡◌, ◌++◌, ◌∷◌, [], map, Option, Some, None, option_map, refl, ap, ◌∙◌, T}
use Rattle.std.specs.Prelude.{ℕ, option_to_list}
use Rattle.std.specs.List.{cons_option}
use Rattle.std.specs.Option.{option_and_then}
use Rattle.std.specs.FinMap.Entries.{is_sorted, below_all}
use Rattle.obj_id.specs.declared.ids.ObjectId.{ObjectId}
use Rattle.obj_id.specs.Ids.{id_cmp}
use Rattle.private_store.specs.rules.Tables.{ById, at, ids_of}
use Rattle.private_store.specs.rules.Change.{keys_gone}
use Rattle.private_store.specs.rules.Private.{key_of}
use Rattle.store_facts.proofs.Tests.{and_right}
use Rattle.job_row.specs.Ending.{keys_backed}
use Rattle.row_copy.specs.CopyViews.{CopyView}
use Rattle.job_row.specs.Row.{Row, copies_of}
use Rattle.job_row.proofs.ForCallers.{at-first, at-rest}

pub keys-backed : (row : Row) (es : ById CopyView) → T (is_sorted id_cmp es) → ((q : ObjectId) (k : CopyView) → at es q ≡ Some k → at row.copies q ≡ Some k) → keys_backed row (ids_of es) ≡ map (key_of row.job) (keys_gone (copies_of es) [])
keys-backed row [] sorted are = refl
keys-backed row (e ∷ es) sorted are =
    ap (λ o. option_to_list (option_and_then (λ (kept : CopyView). option_map (key_of row.job) kept.copy.backed) o) ++ keys_backed row (ids_of es)) (are e.0 e.1 (at-first e es))
    ∙ ap (λ ks. option_to_list (option_map (key_of row.job) e.1.copy.backed) ++ ks) (keys-backed row es (and_right (below_all id_cmp e.0 es) _ sorted) (λ q k found. are q k (at-rest e es sorted q k found)))
    ∙ by e.1.copy.backed
  where
    by : (o : Option ℕ) → option_to_list (option_map (key_of row.job) o) ++ map (key_of row.job) (keys_gone (copies_of es) []) ≡ map (key_of row.job) (cons_option o (keys_gone (copies_of es) []))
    by None = refl
    by (Some n) = refl
