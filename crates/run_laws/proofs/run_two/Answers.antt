use Rattle.run_laws.proofs.Replied.{others_dont_show_in_runs}
use Rattle.run_laws.proofs.run_two.Goals as goal

pub returns-clause-grants : goal.returns-clause-grants
returns-clause-grants c = λ job.
    let one = c.in_ok-first.ensures in
    let other = c.in_ok-second.ensures in
    others_dont_show_in_runs c.args.shape.nodes c.args.shape.memory job c.args.first.items c.args.second.items c.in_ok-first.first c.in_ok-second.second
    (record { steps = one.steps; replied = one.replied; shared = one.shared; private = one.private })
    (record { steps = other.steps; replied = other.replied; shared = other.shared; private = other.private })
