use Rattle.std.proofs.Common.{◌≡◌, ◌+◌, ◌-◌, ◌/◌, ◌∙◌, sym, arith}
use Rattle.plain_store.specs.Fits.{is_room_without}
use Rattle.plain_store.proofs.Shortest.{fewer_fail, room_stays}
use Rattle.plain_store.proofs.store.PlainStore.bisect.Goals as goal

pub loop-least-preserved : goal.loop-least-preserved
loop-least-preserved c =
    let store = c.args.self.now.shape in
    let middle = c.loop-least.least + (c.loop-least.most - c.loop-least.least) / 2 in
    record {
      rising = omega (arith, c.loop-least-test.true);
      within = c.loop-least.invariant.within;
      enough = c.loop-least.invariant.enough;
      few = λ j lt.
          fewer_fail (is_room_without store c.args.length c.args.out.now) (room_stays store c.args.length c.args.out.now) c.args.ids.now j middle (omega (arith, lt))
          (sym c.in_ok-has_room_without.ensures ∙ c.if-branch.false);
    }
