use Rattle.std.proofs.Common.{sym, refl, ◌∙◌}
use Rattle.world_core.specs.WorldSteps.{to_directory, past_directory}
use Rattle.world_core.proofs.World.deliver_to_directory.Goals as goal

pub returns-in_default-clause-ok : goal.returns-in_default-clause-ok
returns-in_default-clause-ok c = past_directory (sym c.for_directory.ensures ∙ c.in_default.is) refl

pub returns-clause-ok : goal.returns-clause-ok
returns-clause-ok c = to_directory c.in-Some.response (sym c.for_directory.ensures ∙ c.in-Some.is) c.in_ok-tell_directory.ensures.ok
