use Rattle.std.proofs.Common.{sym, ap, ◌∙◌}
use Rattle.std.specs.Map.{set_value}
use Rattle.std.specs.Option.{option_copied_mut}
use Rattle.std.proofs.lemmas.Map.Steps.{set_value_same}
use Rattle.private_store.specs.rules.Jobs.{same_job}
use Rattle.node_core.proofs.Views.{node_of}
use Rattle.node_core.proofs.Node.share_copy.Goals as goal

pub returns : goal.returns
returns c =
    let rows = c.self.inside.rows.entries in
    let found = sym c.get_mut.ensures.value ∙ ap option_copied_mut c.in-Some.is in
    let wrote = c.get_mut.follows.holds c.share_copy.new.row in
    let stay = wrote.0 ∙ ap (set_value (same_job c.args.job) rows) c.share_copy.ensures ∙ set_value_same (same_job c.args.job) rows c.in-Some.row.now found in
    ap (node_of c.self.inside.number c.self.inside.admission c.self.inside.works c.self.inside.grants) stay ∙ c.self.view_is
