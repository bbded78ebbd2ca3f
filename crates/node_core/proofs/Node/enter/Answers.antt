use Rattle.std.proofs.Common.{◌≡◌, refl, subst}
use Rattle.std.specs.Prelude.{◌↔◌}
use Rattle.job_admission.specs.Admissions.{entered}
use Rattle.node_core.specs.Hosted.{AreHosted, Shows}
use Rattle.node_core.proofs.Entering.{either_way, greatest_stays, entered_hosted, entered_shows}
use Rattle.node_core.proofs.Views.{node_of}
use Rattle.node_core.proofs.Node.enter.Goals as goal

pub invariant_of-self : goal.invariant_of-self
invariant_of-self c = record {
  jobs = either_way (λ b. AreHosted b c.self.inside.rows.entries) c.enter.result c.self.inside.admission c.enter.new.self (entered c.self.inside.admission c.args.job)
      c.enter.ensures.ok c.enter.ensures.err c.self.invariant.jobs (entered_hosted c.self.inside.admission c.args.job c.self.inside.rows.entries c.self.invariant.jobs);
  table = c.self.invariant.table;
}

pub returns-clause-views : goal.returns-clause-views
returns-clause-views c q view =
    let a = c.self.inside.admission in
    subst (λ old. Shows (node_of c.self.inside.number c.enter.new.self c.self.inside.works c.self.inside.grants c.self.inside.rows.entries) q view ↔ Shows old q view) c.self.view_is
    (entered_shows c.self.inside.number a c.enter.new.self c.self.inside.works c.self.inside.grants c.self.inside.rows.entries
    (either_way (λ b. b.greatest ≡ a.greatest) c.enter.result a c.enter.new.self (entered a c.args.job) c.enter.ensures.ok c.enter.ensures.err refl (greatest_stays a c.args.job)) q view)
