use Rattle.std.proofs.Common.{ap, subst, ◌∙◌}
use Rattle.use_tree.specs.Uses.{AreUsesRising, use_with_classes}
use Rattle.lru_evictor.proofs.Uses.{use-chosen}
use Rattle.lru_evictor.proofs.index.Index.set_info.Goals as goal

pub returns : goal.returns
returns c id es found is =
    let stands = c.stand.ensures.stands id c.args.place.turn c.args.place.turn es found (ap (λ p. p.2) c.set_use_classes.ensures.uses ∙ is.residents) is.apart in
    record {
      uses =
          c.stand.ensures.same.0 ∙ ap (λ p. p.0) c.set_use_classes.ensures.uses ∙ ap (use_with_classes c.args.place.turn c.args.eviction_info.classes) is.uses
          ∙ use-chosen id c.args.place c.args.eviction_info es (subst AreUsesRising is.uses c.set_use_classes.ensures.rising) found;
      residents = stands.0;
      apart = stands.1;
    }
