use Rattle.std.proofs.Common.{sym, ap, ◌∙◌}
use Rattle.pins_holds.proofs.SessionLemmas.{cleared}
use Rattle.pins_holds.specs.Sessions.{count_of}
use Rattle.pins_holds.proofs.holds.Holds.clear.Goals as goal

pub invariant_of-self : goal.invariant_of-self
invariant_of-self c =
    let i = c.self.inside in
    cleared c.args.session c.of-held.result i.all i.by_session.entries c.remove_from.new.by_session.entries c.self.invariant.0 c.self.invariant.1
    (c.of-held.ensures.of ∙ ap (λ es. count_of es c.args.session) (sym c.self.view_is))
    c.remove_from.ensures
