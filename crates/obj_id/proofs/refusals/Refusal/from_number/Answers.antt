use Rattle.std.proofs.Common.{rules, ◌≡◌, ◌+◌, ◌-◌, ap, ◌∙◌, sym, arith}
use Rattle.std.specs.Prelude.{slice_get}
use Rattle.obj_id.specs.Refusals.{all_refusals}
use Rattle.obj_id.proofs.RefusalTables.{number_at, option_copied-item, refusal_at}
use Rattle.obj_id.proofs.refusals.Refusal.from_number.Goals as goal

looked_up : (c : goal.After-copied) → c.copied.result ≡ slice_get all_refusals (c.args.number - 1)
looked_up c =
    let place : c.from.result ≡ c.args.number - 1 = search rules in
    c.copied.ensures ∙ option_copied-item all_refusals c.from.result c.get.result c.get.ensures.lookup ∙ ap (slice_get all_refusals) place

pub returns-clause-numbered : goal.returns-clause-numbered
returns-clause-numbered c =
    let number : 1 + (c.args.number - 1) ≡ c.args.number = omega (arith, c.in_ok-index.ensures.0) in
    rw (looked_up c) (rw number at (number_at (c.args.number - 1)))

pub returns-clause-found : goal.returns-clause-found
returns-clause-found c refusal is = looked_up c ∙ ap (λ n. slice_get all_refusals (n - 1)) (sym is) ∙ refusal_at refusal
