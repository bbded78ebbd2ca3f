use Rattle.std.proofs.Common.{ap, subst, ◌∙◌}
use Rattle.use_tree.specs.Uses.{AreUsesRising, take_use}
use Rattle.lru_evictor.proofs.Spread.{spread-vacated, apart-removed}
use Rattle.lru_evictor.proofs.Uses.{use-taken}
use Rattle.lru_evictor.proofs.index.Index.remove.Goals as goal

pub returns : goal.returns
returns c id es found is =
    let place = c.args.place in
    let stands = c.stand.ensures.stands id place.turn place.turn es found is.residents is.apart in
    let uses = c.stand.ensures.same.0 ∙ is.uses in
    record {
      uses = ap (λ p. p.0) c.take_use.ensures.uses ∙ ap (take_use place.turn) uses ∙ use-taken id place es (subst AreUsesRising uses c.take_use.ensures.rising) found;
      residents = ap (λ p. p.2) c.take_use.ensures.uses ∙ stands.0 ∙ spread-vacated id place place.eviction_info.classes place.turn es found;
      apart = apart-removed id place es is.apart;
    }
