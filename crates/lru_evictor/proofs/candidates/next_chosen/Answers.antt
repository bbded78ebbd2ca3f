use Rattle.std.proofs.Common.{sym, subst, ◌∙◌}
use Rattle.std.specs.Map.Iter.{TakesFirst}
use Rattle.lru_evictor.specs.Indexed.{chosen_ids}
use Rattle.lru_evictor.proofs.Uses.{walk-ends, walk-goes-on}
use Rattle.lru_evictor.proofs.candidates.next_chosen.Goals as goal

pub returns-in_err-found : goal.returns-in_err-found
returns-in_err-found c =
    let none = walk-ends c.args.class c.args.below.now c.args.uses.now (sym c.last.ensures.last ∙ c.in_err-found.was) in
    subst (λ r. TakesFirst (λ x. x) (chosen_ids c.args.class c.args.below.now c.args.uses.now) r (chosen_ids c.args.class c.args.below.now c.args.uses.now)) (sym c.from_residual.ensures) (none, none)

pub returns : goal.returns
returns c = walk-goes-on c.args.class c.args.below.now c.args.uses.now c.in_ok-found.found c.last.ensures.rising (sym c.last.ensures.last ∙ c.in_ok-found.was)
