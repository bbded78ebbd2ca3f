use Rattle.std.proofs.Common.{refl, sym, subst}
use Rattle.job_admission.specs.Admissions.{entered, lives_of}
use Rattle.node_journal.specs.Recorded.{IsRecorded}
use Rattle.node_journal.proofs.RecordedSteps.{entered_greatest, entered_lives, entered_memory, part_same, shows_recorded}
use Rattle.node_journal.proofs.gate.RecordedJournaledNode.enter.Goals as goal

pub invariant_of-self : goal.invariant_of-self
invariant_of-self g c =
    let nodes = g.S.ClusterShape.nodes in
    let memory = g.S.ClusterShape.memory in
    let old = c.self.inside.kept in
    let new = c.enter.new.self in
    let done = c.enter.ensures in
    let place = c.self.inside.place in
    let a = entered old.node.admissions c.args.job in
    let shown = shows_recorded nodes memory old.node new.node old.number old.count place
    (part_same c.enter.result old.node new.node a (λ n. n.number) refl done.ok done.err)
    (part_same c.enter.result old.node new.node a (λ n. n.admissions.memory) (entered_memory old.node.admissions c.args.job) done.ok done.err)
    (part_same c.enter.result old.node new.node a (λ n. lives_of n.admissions.live) (entered_lives old.node.admissions c.args.job) done.ok done.err)
    (part_same c.enter.result old.node new.node a (λ n. n.admissions.greatest) (entered_greatest old.node.admissions c.args.job) done.ok done.err)
    (part_same c.enter.result old.node new.node a (λ n. n.grants) refl done.ok done.err)
    (part_same c.enter.result old.node new.node a (λ n. n.works) refl done.ok done.err)
    done.views c.self.invariant
    in
    subst (λ k. IsRecorded nodes memory new.node k new.count place) (sym done.journal.2)
    (subst (λ k. IsRecorded nodes memory new.node old.number k place) (sym done.journal.1) shown)
