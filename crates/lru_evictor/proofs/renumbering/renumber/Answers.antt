use Rattle.std.proofs.Common.{◌++◌, ap, refl, ◌∙◌, arith, map}
use Rattle.lru_evictor.specs.Indexed.{use_of}
use Rattle.lru_evictor.proofs.Turning.{turning-starts, turning-on, turning-ends, ends}
use Rattle.lru_evictor.proofs.renumbering.renumber.Goals as goal

pub loop-more-init : goal.loop-more-init
loop-more-init c = record {
  turning = turning-starts c.args.slots.now.entries c.args.slots.now.entries c.take_uses-old.new.self c.take_uses-old.result c.len-more.result c.len-more.ensures.len refl (c.take_uses-old.ensures.uses ∙ c.requires.of.uses) (ap (λ p. p.0) c.take_uses-old.ensures.empty) (ap (λ p. p.1) c.take_uses-old.ensures.empty);
  residents = ap (λ p. p.2) c.take_uses-old.ensures.empty;
  cap = refl;
}

pub loop-more-preserved : goal.loop-more-preserved
loop-more-preserved c =
    let t = c.loop-more.invariant.turning in
    let e = ends t.rest (omega (arith, t.count, c.loop-more-test.true)) in
    let is = t.entries_are ∙ ap (λ xs. t.done ++ xs) e.is in
    let olds = t.old_are ∙ ap (map use_of) e.is in
    record {
      turning = turning-on c.args.slots.now.entries c.loop-more.slots.entries c.loop-more.index c.loop-more.old c.loop-more.more t e c.renumber_last.new.slots.entries c.renumber_last.new.index c.renumber_last.new.old
          (c.renumber_last.ensures.entries t.done e.front e.last is olds) (c.renumber_last.ensures.uses t.done e.front e.last is olds t.fresh_are) (c.renumber_last.ensures.old t.done e.front e.last is olds) (c.renumber_last.ensures.left t.done e.front e.last is olds);
      residents = c.renumber_last.ensures.residents ∙ c.loop-more.invariant.residents;
      cap = c.renumber_last.ensures.cap ∙ c.loop-more.invariant.cap;
    }

pub returns-clause-of : goal.returns-clause-of
returns-clause-of c =
    (turning-ends c.args.slots.now.entries c.loop-more.slots.entries c.loop-more.index c.loop-more.old c.loop-more.more c.loop-more.invariant.turning (omega (arith, c.loop-more-test.false)) c.requires.few c.args.index.now c.requires.of c.loop-more.invariant.residents).1
