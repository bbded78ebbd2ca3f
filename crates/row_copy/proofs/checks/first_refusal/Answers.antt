use Rattle.std.proofs.Common.{◌≡◌, rules, tests, Bool, true, false, List, [], ◌∷◌, Some, cond, option_map, refl, sym, ap, ◌∙◌}
use Rattle.std.specs.Prelude.{find}
use Rattle.std.proofs.lemmas.Iterator.{YieldsList-from_slice}
use Rattle.std.proofs.lemmas.Iterator.Search.{find_from_yields_List}
use Rattle.obj_id.specs.declared.refusals.Refusal.{Refusal}
use Rattle.private_store.specs.rules.Shared.{first_refusal}
use Rattle.row_copy.proofs.checks.first_refusal.Goals as goal

-- the first check that holds, and what it refuses
first_found : (checks : List (Bool × Refusal)) → option_map (λ check. check.1) (find (λ check. check.0) checks) ≡ first_refusal checks
first_found [] = refl
first_found (check ∷ checks) =
    elim check.0 as (λ b. option_map (λ check. check.1) (cond b (Some check) (find (λ check. check.0) checks)) ≡ cond b (Some check.1) (first_refusal checks)) [ true ↦ refl | false ↦ first_found checks ]

pub returns-in_err-check : goal.returns-in_err-check
returns-in_err-check c =
    c.from_residual.ensures ∙ ap (λ o. option_map (λ check. check.1) (option_map (λ x. x.now) o)) (sym c.in_err-check.was)
    ∙ ap (option_map (λ check. check.1)) (find_from_yields_List (λ check. check.0) _ _ c.find.result c.find.ensures.ran (YieldsList-from_slice c.args.checks.now cc) (λ x b q k. search (rules, tests))) ∙ first_found c.args.checks.now

pub returns : goal.returns
returns c =
    ap (λ o. option_map (λ check. check.1) (option_map (λ x. x.now) o)) (sym c.in_ok-check.was)
    ∙ ap (option_map (λ check. check.1)) (find_from_yields_List (λ check. check.0) _ _ c.find.result c.find.ensures.ran (YieldsList-from_slice c.args.checks.now cc) (λ x b q k. search (rules, tests))) ∙ first_found c.args.checks.now
