use Rattle.std.proofs.Common.{◌≡◌, rules}
use Rattle.schedule_text.specs.Lines.{with_line_feed}
use Rattle.program_lines.specs.declared.operator.Order.TheVariants as order
use Rattle.program_lines.specs.Orders.{IsOrder}
use Rattle.operator_service.proofs.Stepping.{spelled_step, stopped_step}
use Rattle.operator_service.proofs.serving.serve_line.Goals as goal

pub returns-in-Ok-clause-ok : goal.returns-in-Ok-clause-ok
returns-in-Ok-clause-ok g c =
    let response = c.in-Ok.ensures.ok in
    record {
      obeyed = record { text = c.in-Some-eq10-default.text.now; node = c.in-Ok-Some-Change.node; change = c.in-Ok-Some-Change.change; reply = response.reply; receipt = response.receipt };
      is_text = search rules;
      spelled = search rules;
      carried = response.carried;
      steps = response.steps;
      written = response.written;
    }

pub returns-in-Err-answer_change-clause-stopped : goal.returns-in-Err-answer_change-clause-stopped
returns-in-Err-answer_change-clause-stopped g c =
    let text = c.in-Some-eq10-default.text.now in
    let node = c.in-Ok-Some-Change.node in
    let change = c.in-Ok-Some-Change.change in
    let is_text : c.args.line.now ≡ with_line_feed text = search rules in
    let spelled : IsOrder c.args.count text (order.Change node change) = search rules in
    let stopped = c.in-Err-answer_change.ensures in
    stopped_step _ _ _ _ _ c.in-Err-answer_change.fault stopped.err (spelled_step c.args.count c.args.line.now text node change _ _ is_text spelled stopped.stopped)
