use Rattle.std.proofs.Common.{◌≤◌, length, sym, ap, subst, ◌∙◌}
use Rattle.node_core.specs.Foreseen.{grantees_of}
use Rattle.node_core.proofs.Calling.{if_ok}
use Rattle.node_core.proofs.GrantMoves.{event_is}
use Rattle.node_core.proofs.Small.{few_told}
use Rattle.node_core.proofs.Node.grantees.Goals as goal

pub returns-in-Some-clause-grantees : goal.returns-in-Some-clause-grantees
returns-in-Some-clause-grantees c =
    let moved = event_is c.args.event.now c.in-Some.grant_move (sym c.of.ensures ∙ c.in-Some.is) in
    if_ok c.told.result c.told.ensures (λ jobs told. told ∙ ap (grantees_of c.args.self.now.grants) moved)

pub returns-in-Some-clause-few : goal.returns-in-Some-clause-few
returns-in-Some-clause-few c =
    let moved = event_is c.args.event.now c.in-Some.grant_move (sym c.of.ensures ∙ c.in-Some.is) in
    if_ok c.told.result c.told.ensures (λ jobs told v shows.
    subst (λ jobs. length jobs ≤ 4096) (sym (told ∙ ap (grantees_of c.args.self.now.grants) moved))
    (few_told c.args.self.now.grants c.args.event.now (c.few_stand.ensures v shows)))
