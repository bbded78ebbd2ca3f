use Rattle.std.proofs.Common.{rules, ◌≡◌}
use Rattle.program_lines.specs.declared.control_lines.ControlLine.TheVariants as asked
use Rattle.program_lines.specs.declared.operator.Order.TheVariants as order
use Rattle.operator_service.proofs.ClosedServers.{close_answered}
use Rattle.operator_service.proofs.attending.answer_asked.Goals as goal

pub returns-in-Order-Close-clause-made : goal.returns-in-Order-Close-clause-made
returns-in-Order-Close-clause-made g c =
    let is : c.args.asked ≡ asked.Order order.Close = search rules in
    close_answered _ _ _ _ _ _ _ is c.close.result c.close.ensures c.last_answer.result c.last_answer.ensures
