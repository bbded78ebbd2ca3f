use Rattle.std.proofs.Common.{ap, subst, sym, ◌∙◌}
use Rattle.use_tree.specs.Uses.{AreUsesRising, use_with_classes}
use Rattle.extent_tree.specs.Residents.{has_resident, put_resident}
use Rattle.lru_evictor.specs.declared.facts.EvictionInfo.{EvictionInfo}
use Rattle.lru_evictor.proofs.Spread.{lying, spread-settled, apart-settled}
use Rattle.lru_evictor.proofs.Uses.{use-chosen}
use Rattle.lru_evictor.proofs.index.Index.insert_resident.Goals as goal

pub returns-clause-settled : goal.returns-clause-settled
returns-clause-settled c on id es found is =
    let place = c.args.place in
    let resident = c.args.resident in
    let now : EvictionInfo = lying resident.extent resident.classes in
    let put = c.put.ensures.placed c.if-not-put.false in
    let uses = ap (λ p. p.0) c.self.view_is ∙ is.uses in
    let shown = ap (λ p. p.2) c.self.view_is ∙ is.residents in
    let clear = sym (ap (has_resident resident.extent.offset) shown) ∙ put.1 in
    record {
      uses = ap (λ p. p.0) c.set_use_classes.ensures.uses ∙ ap (use_with_classes place.turn resident.classes) uses ∙ use-chosen id place now es (subst AreUsesRising uses c.set_use_classes.ensures.rising) found;
      residents = ap (λ p. p.2) c.set_use_classes.ensures.uses ∙ put.0 ∙ ap (put_resident resident) shown ∙ sym (spread-settled id place resident.extent resident.classes place.turn c.requires es clear found);
      apart = apart-settled id place resident.extent resident.classes place.turn c.requires es is.apart clear found;
    }
