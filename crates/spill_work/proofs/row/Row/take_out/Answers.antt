use Rattle.std.proofs.Common.{rules, not, filter, ap, ◌∙◌}
use Rattle.std.proofs.lemmas.Fn.{filter_same}
use Rattle.spill_work.specs.Turns.{has_number}
use Rattle.spill_work.proofs.row.Row.take_out.Goals as goal

pub returns : goal.returns
returns c =
    filter_same _ (λ t. not (has_number c.args.number t)) _ (λ x b f' k. search rules) _ _ c.retain.ensures.filtered
    ∙ ap (filter (λ t. not (has_number c.args.number t))) c.self.view_is
