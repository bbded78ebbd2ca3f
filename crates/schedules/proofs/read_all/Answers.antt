use Rattle.std.proofs.Common.{arith, subst}
use Rattle.std.specs.Prelude.{All}
use Rattle.std.specs.String.{string_bytes}
use Rattle.std.proofs.lemmas.List.{take_all}
use Rattle.schedules.specs.Vectors.{IsFrameLine}
use Rattle.schedules.proofs.OneMore.{fewer_more, right_more}
use Rattle.schedules.proofs.read_all.Goals as goal

pub loop-line-preserved : goal.loop-line-preserved
loop-line-preserved c =
    let fault = c.in_ok-fault_at.field-0 in
    let old = c.loop-line.tally.differing in
    let new = c.add.new.self.differing in
    record {
      all = omega (arith, c.add.ensures.compared, c.loop-line.invariant.all);
      fewer = fewer_more fault old new c.loop-line.tally.compared c.add.new.self.compared c.add.ensures.same c.add.ensures.differs c.add.ensures.compared c.loop-line.invariant.fewer;
      right = right_more (λ line. IsFrameLine (string_bytes line.text)) c.args.lines.now c.loop-line.line-index c.line-item.result fault old new
          c.loop-line-test.true c.line-item.is c.in_ok-fault_at.ensures c.add.ensures.same c.add.ensures.differs c.loop-line.invariant.right;
    }

pub returns-clause-right : goal.returns-clause-right
returns-clause-right c = λ zero.
    subst (All (λ line. IsFrameLine (string_bytes line.text))) (take_all c.loop-line.line-index c.args.lines.now c.loop-line-test.false) (c.loop-line.invariant.right zero)
