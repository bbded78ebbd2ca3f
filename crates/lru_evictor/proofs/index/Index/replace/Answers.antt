use Rattle.std.proofs.Common.{ap, subst, sym, ◌∙◌, ◌∷◌, is_some}
use Rattle.store_facts.proofs.Tests.{true_false}
use Rattle.use_tree.specs.Uses.{AreUsesRising, take_use, has_use}
use Rattle.lru_evictor.specs.Indexed.{use_of}
use Rattle.lru_evictor.proofs.Spread.{spread-front, front-apart}
use Rattle.lru_evictor.proofs.Uses.{use-taken, use-there}
use Rattle.lru_evictor.proofs.index.Index.replace.Goals as goal

pub returns-in_default : goal.returns-in_default
returns-in_default c es found is =
    true_false (ap is_some (sym c.in_default.is) ∙ c.take_use.ensures.there ∙ ap (has_use c.args.before.turn) is.uses ∙ use-there c.args.id c.args.before es found)

pub returns : goal.returns
returns c es found is =
    let id = c.args.id in
    let before = c.args.before in
    let after = c.args.after in
    let taken = c.in-Some.ensures.uses in
    let stands = c.stand.ensures.stands id before.turn after.turn es found (ap (λ p. p.2) c.push_use.ensures ∙ ap (λ p. p.2) taken ∙ is.residents) is.apart in
    record {
      uses =
          c.stand.ensures.same.0 ∙ ap (λ p. p.0) c.push_use.ensures
          ∙ ap (λ us. use_of (id, after) ∷ us) (ap (λ p. p.0) taken ∙ ap (take_use before.turn) is.uses ∙ use-taken id before es (subst AreUsesRising is.uses c.in-Some.ensures.rising) found);
      residents = stands.0 ∙ sym (spread-front id before after es found stands.1);
      apart = front-apart id before after es found stands.1;
    }
