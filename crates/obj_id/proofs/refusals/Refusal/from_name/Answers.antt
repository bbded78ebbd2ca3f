use Rattle.std.proofs.Common.{rules, tests, ℕ, List, nat_eq, ◌∙◌, ap, sym}
use Rattle.std.proofs.lemmas.Iterator.{YieldsList-from_slice}
use Rattle.std.proofs.lemmas.Iterator.Search.{find_from_yields_List}
use Rattle.std.specs.Prelude.{find}
use Rattle.std.specs.Cmp.Lexicographic.{pointwise}
use Rattle.obj_id.specs.Refusals.{name_of, all_refusals}
use Rattle.obj_id.specs.declared.refusals.Refusal.{Refusal}
use Rattle.obj_id.proofs.RefusalTables.{find-name_of}
use Rattle.obj_id.proofs.refusals.Refusal.from_name.Goals as goal

pub returns-clause-found : goal.returns-clause-found
returns-clause-found c refusal is =
    c.copied.ensures
    ∙ find_from_yields_List (λ (x : Refusal). pointwise nat_eq (name_of x) c.args.name.now) _ _ c.find.result c.find.ensures.ran (YieldsList-from_slice all_refusals cc) (λ x b q k. search (rules, tests))
    ∙ ap (λ (text : List ℕ). find (λ x. pointwise nat_eq (name_of x) text) all_refusals) (sym is) ∙ find-name_of refusal
