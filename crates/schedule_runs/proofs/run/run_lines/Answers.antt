use Rattle.std.proofs.Common.{subst}
use Rattle.schedule_runs.specs.Runs.{RunsLine, StopsRun}
use Rattle.schedule_runs.proofs.Running.{begun, no_world, reading_failed, input_ended, line_stopped, line_more, too_many}
use Rattle.schedule_runs.proofs.run.run_lines.Goals as goal

pub returns-in_default : goal.returns-in_default
returns-in_default g c = no_world c.args.shape.nodes c.args.shape.memory _ _ _ _

pub returns-in_default-new : goal.returns-in_default-new
returns-in_default-new g c = no_world c.args.shape.nodes c.args.shape.memory _ _ _ _

pub loop-number-init : goal.loop-number-init
loop-number-init g c = begun c.args.shape.nodes c.args.shape.memory c.in-Ok.world c.in-Ok-new.workers _ c.args.journal.now _ _ c.in-Ok.ensures.ok c.in-Ok-new.ensures c.requires.journal

pub returns-in-Err : goal.returns-in-Err
returns-in-Err g c = reading_failed _ _ _ _ _ _ _ _ _ _ _ c.loop-number.invariant _ _ c.next_line.ensures.consumed c.in-Err.fault _ c.in-Err.ensures.fault

pub returns-in-Ok-false : goal.returns-in-Ok-false
returns-in-Ok-false g c = input_ended _ _ _ _ _ _ _ _ _ _ _ c.loop-number.invariant _ _ c.next_line.ensures.consumed (c.in-Ok-false.ensures.end c.in-Ok-false.field-0-test)

pub returns-in-Err-run_line : goal.returns-in-Err-run_line
returns-in-Err-run_line g c =
    line_stopped _ _ _ _ _ _ _ _ _ _ _ c.loop-number.invariant _ _ c.next_line.ensures.consumed c.in-Ok-true.ensures.whole _ c.in-Err-run_line.fault _
    (subst (λ b. StopsRun c.args.shape.nodes c.loop-number.number b (g.W.Write.contents c.loop-number.writer) (g.W.Write.contents c.run_line.new.writer) c.in-Err-run_line.fault)
    c.deref.ensures.value c.in-Err-run_line.ensures.err)

pub loop-number-preserved : goal.loop-number-preserved
loop-number-preserved g c =
    line_more _ _ _ _ _ _ _ _ _ _ _ c.loop-number.invariant _ _ c.next_line.ensures.consumed _ _ _ _ c.next_line.ensures.one
    (subst (λ b. RunsLine c.args.shape.nodes b c.loop-number.world c.loop-number.workers c.loop-number.journal c.run_line.new.world c.run_line.new.workers c.run_line.new.journal (g.W.Write.contents c.loop-number.writer) (g.W.Write.contents c.run_line.new.writer))
    c.deref.ensures.value c.in-Ok-run_line.ensures.ok)

pub returns : goal.returns
returns g c = too_many _ _ _ _ _ _ _ _ _ _ _ c.loop-number.invariant
