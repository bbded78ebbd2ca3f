use Rattle.std.proofs.Common.{refl, sym, ap, subst, ◌∙◌}
use Rattle.private_store.specs.rules.Grants.{is_given_by}
use Rattle.grants.specs.Table.{AreGrants, ends_found}
use Rattle.grants.proofs.ForCallers.{left_are_grants}
use Rattle.node_core.specs.Hosted.{Hosted}
use Rattle.node_core.specs.JobEnds.{LetsJobGo}
use Rattle.node_core.proofs.Ending.{finished_hosted}
use Rattle.node_core.proofs.Views.{node_of}
use Rattle.node_core.proofs.Node.let_job_go.Goals as goal

pub take_out-requires : goal.take_out-requires
take_out-requires c = record {
  test = is_given_by c.args.job.0;
  found = c.requires.found ∙ ap (λ (n : Hosted). ends_found (is_given_by c.args.job.0) n.grants) (sym c.self.view_is);
}

pub invariant_of-self : goal.invariant_of-self
invariant_of-self c =
    let test = is_given_by c.args.job.0 in
    let left = c.take_out.ensures.left test (c.requires.found ∙ ap (λ (n : Hosted). ends_found test n.grants) (sym c.self.view_is)) in
    record {
      jobs = finished_hosted c.self.inside.admission c.finish_job.new.self c.args.job c.self.inside.rows.entries c.shift_remove.new.self.entries c.self.invariant.jobs c.in-Ok.ensures.ok c.shift_remove.ensures.entries;
      table = subst AreGrants (sym left) (left_are_grants test c.self.inside.grants c.self.invariant.table);
    }

pub returns : goal.returns
returns c =
    let test = is_given_by c.args.job.0 in
    let left = c.take_out.ensures.left test (c.requires.found ∙ ap (λ (n : Hosted). ends_found test n.grants) (sym c.self.view_is)) in
    subst (λ old. LetsJobGo old c.args.job (node_of c.self.inside.number c.finish_job.new.self c.drop_job.new.self c.take_out.new.self c.shift_remove.new.self.entries)) c.self.view_is (record {
      number = refl;
      admissions = c.in-Ok.ensures.ok;
      lives = c.in-Ok.ensures.lives;
      works = c.drop_job.ensures;
      grants = left;
      rows = c.shift_remove.ensures.updates.0;
    })
