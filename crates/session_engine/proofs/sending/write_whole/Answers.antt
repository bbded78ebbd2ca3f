use Rattle.std.proofs.Common.{rules, drop_of_length-le}
use Rattle.session_engine.proofs.Writing.{begun, begun_on, begun_kept, written_whole, written_in_part}
use Rattle.session_engine.proofs.sending.write_whole.Goals as goal
use Rattle.session_engine.proofs.sending.write_whole.Goals.{in-Ok, in-Err+else-ne}

pub loop-init : goal.loop-init
loop-init g c = begun _ _

pub loop-preserved : goal.loop-preserved
loop-preserved g c = elim c.match-write.branch [
  | in-Ok w ↦ rw w.rest-is (begun_on _ _ _ _ c.loop.invariant w.in-Ok.count _ w.in-Ok.ensures.bytes)
  | in-Err+else-ne w ↦ rw w.rest-is (begun_kept _ _ _ _ c.loop.invariant _ w.in-Err.ensures.bytes)
]

pub returns-then-is_empty : goal.returns-then-is_empty
returns-then-is_empty g c = written_whole _ _ _ _ c.loop.invariant (drop_of_length-le c.loop.rest.now {i = 0} (search rules))

pub returns-in-Ok-eq0 : goal.returns-in-Ok-eq0
returns-in-Ok-eq0 g c = written_in_part _ _ _ _ (begun_on _ _ _ _ c.loop.invariant c.in-Ok-eq0.field-0 _ c.in-Ok-eq0.ensures.bytes)

pub returns-then-ne : goal.returns-then-ne
returns-then-ne g c = written_in_part _ _ _ _ (begun_kept _ _ _ _ c.loop.invariant _ c.in-Err.ensures.bytes)

pub returns : goal.returns
returns g c = written_in_part _ _ _ _ c.loop.invariant
