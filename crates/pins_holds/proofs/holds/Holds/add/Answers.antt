use Rattle.std.proofs.Common.{◌<◌, sym, ap, subst, ◌∙◌}
use Rattle.pins_holds.proofs.SessionLemmas.{added}
use Rattle.pins_holds.specs.Sessions.{count_of, sessions_total}
use Rattle.pins_holds.proofs.holds.Holds.add.Goals as goal

pub invariant_of-self-2 : goal.invariant_of-self-2
invariant_of-self-2 c =
    let i = c.self.inside in
    added c.args.session c.of-held.result i.all i.by_session.entries c.insert_into.new.by_session.entries c.self.invariant.0 c.self.invariant.1
    (subst (λ es. sessions_total es < 64) (sym c.self.view_is) c.requires)
    (c.of-held.ensures.of ∙ ap (λ es. count_of es c.args.session) (sym c.self.view_is))
    c.in_ok-insert_into.ensures.ok
