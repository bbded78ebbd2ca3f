use Rattle.std.proofs.Common.{◌∙◌}
use Rattle.schedules.proofs.Spoken.{calls_by}
use Rattle.schedules.proofs.commands.command_of.Goals as goal

pub returns : goal.returns
returns c =
    calls_by c.args.text.now c.as_str.result.now c.in_ok-read.read c.in-Some.line (c.as_str.ensures.value ∙ c.in_ok-line.ensures) c.in_ok-read.ensures c.in-Some.is c.called.result c.called.ensures
