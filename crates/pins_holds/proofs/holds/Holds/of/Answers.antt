use Rattle.std.proofs.Common.{◌≤◌, sym, ap, subst, ◌∙◌}
use Rattle.pins_holds.specs.Sessions.{count_of, sessions_total}
use Rattle.pins_holds.proofs.SessionLemmas.{count-total}
use Rattle.pins_holds.proofs.holds.Holds.of.Goals as goal

pub returns-clause-few : goal.returns-clause-few
returns-clause-few c =
    subst (λ n. n ≤ sessions_total c.args.self.now) (sym (c.count_in.ensures ∙ ap (λ es. count_of es c.args.session) c.self.view_is))
    (count-total c.args.session c.args.self.now)
