use Rattle.std.proofs.Common.{is_some, ap, ◌∙◌}
use Rattle.std.specs.List.{list_any}
use Rattle.grants.specs.Table.{shows}
use Rattle.node_core.specs.Hosted.{Hosted}
use Rattle.node_core.proofs.Peeks.{found_any}
use Rattle.node_core.proofs.Node.sees.Goals as goal

pub returns : goal.returns
returns c =
    c.is_some.ensures ∙ ap is_some c.seen_by.ensures.grant ∙ found_any (shows c.args.id.now c.args.job.0) c.self.inside.grants
    ∙ ap (λ (n : Hosted). list_any (shows c.args.id.now c.args.job.0) n.grants) c.self.view_is
