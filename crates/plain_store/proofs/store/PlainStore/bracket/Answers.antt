use Rattle.std.proofs.Common.{◌≡◌, ◌∙◌, length, sym, ap, arith}
use Rattle.std.proofs.lemmas.List.{take_all}
use Rattle.plain_store.specs.Fits.{is_room_without}
use Rattle.plain_store.proofs.Shortest.{fewer_fail, room_stays}
use Rattle.plain_store.proofs.store.PlainStore.bracket.Goals as goal

pub returns-then-branch-2-clause-some : goal.returns-then-branch-2-clause-some
returns-then-branch-2-clause-some c =
    let ids = c.args.ids.now in
    let inside = c.loop-most.invariant in
    record {
      rising = omega (arith, inside.rising, inside.within);
      within = omega arith;
      enough = ap (is_room_without c.args.self.now.shape c.args.length c.args.out.now) (take_all (length ids) ids (omega arith)) ∙ sym c.in_ok-has_room_without-2.ensures ∙ c.if-branch-2.true;
      few = inside.few;
    }

pub loop-most-preserved : goal.loop-most-preserved
loop-most-preserved c =
    let store = c.args.self.now.shape in
    record {
      rising = omega (arith, c.loop-most-test.true, c.min-most.ensures);
      within = omega (arith, c.min-most.ensures);
      few = λ j lt.
          fewer_fail (is_room_without store c.args.length c.args.out.now) (room_stays store c.args.length c.args.out.now) c.args.ids.now j c.loop-most.most (omega (arith, lt))
          (sym c.in_ok-has_room_without.ensures ∙ c.if-branch.false);
    }
