use Rattle.std.proofs.Common.{rules, ◌≡◌, ◌<◌, true, OnOk, sym, subst}
use Rattle.schedule_text.specs.declared.line.Line.TheVariants as line
use Rattle.world_core.specs.Worlds.{is_within}
use Rattle.schedule_runs.specs.Lines.{Says}
use Rattle.schedule_runs.specs.Runs.{RunsStep}
use Rattle.schedule_runs.proofs.Running.{nothing_line, step_line, finish_line}
use Rattle.schedule_runs.proofs.Within.{said_within, said_finish_within, finish_within}
use Rattle.schedule_runs.proofs.run.run_line.Goals as goal

pub returns-in-Ok-Nothing-clause-ok : goal.returns-in-Ok-Nothing-clause-ok
returns-in-Ok-Nothing-clause-ok g c = nothing_line c.args.nodes c.args.line.now c.in-Some-eq10-default.text.now c.args.world.now c.args.workers.now c.args.journal.now _ (search rules) (search rules)

pub run_step-requires : goal.run_step-requires
run_step-requires g c =
    let said : Says c.args.nodes c.in-Some-eq10-default.text.now (line.Step c.in-Ok-Step.step) = search rules in
    subst (λ n. is_within n c.in-Ok-Step.step ≡ true) (sym c.requires.world) (said_within c.args.nodes c.in-Some-eq10-default.text.now c.in-Ok-Step.step said)

pub returns-in-Ok-Step-clause-ok : goal.returns-in-Ok-Step-clause-ok
returns-in-Ok-Step-clause-ok g c =
    step_line c.args.nodes c.args.line.now c.in-Some-eq10-default.text.now c.args.world.now c.run_step.new.world c.args.workers.now c.run_step.new.workers c.args.journal.now c.run_step.new.journal _ _ c.run_step.result (search rules)
    c.in-Ok-Step.step (search rules) c.run_step.ensures.ok

pub hand_in-requires : goal.hand_in-requires
hand_in-requires g c =
    let said : Says c.args.nodes c.in-Some-eq10-default.text.now (line.Finish c.in-Ok-Finish.node c.in-Ok-Finish.job c.in-Ok-Finish.number c.in-Ok-Finish.outcome) = search rules in
    subst (λ n. c.in-Ok-Finish.node < n) (sym c.requires.workers) (finish_within c.args.nodes c.in-Some-eq10-default.text.now c.in-Ok-Finish.node c.in-Ok-Finish.job c.in-Ok-Finish.number c.in-Ok-Finish.outcome said)

pub run_step-requires-in-Ok-Finish : goal.run_step-requires-in-Ok-Finish
run_step-requires-in-Ok-Finish g c =
    let said : Says c.args.nodes c.in-Some-eq10-default.text.now (line.Finish c.in-Ok-Finish.node c.in-Ok-Finish.job c.in-Ok-Finish.number c.in-Ok-Finish.outcome) = search rules in
    subst (λ n. is_within n c.finish.result ≡ true) (sym c.requires.world)
    (subst (λ s. is_within c.args.nodes s ≡ true) (sym c.finish.ensures)
    (said_finish_within c.args.nodes c.in-Some-eq10-default.text.now c.in-Ok-Finish.node c.in-Ok-Finish.job c.in-Ok-Finish.number c.in-Ok-Finish.outcome c.in-Ok.answer said))

pub returns-in-Ok-clause-ok : goal.returns-in-Ok-clause-ok
returns-in-Ok-clause-ok g c =
    finish_line c.args.nodes c.args.line.now c.in-Some-eq10-default.text.now c.args.world.now c.run_step-in-Ok-Finish.new.world c.args.workers.now c.run_step-in-Ok-Finish.new.workers c.args.journal.now c.run_step-in-Ok-Finish.new.journal _ _ c.run_step-in-Ok-Finish.result (search rules)
    c.hand_in.new.self c.in-Ok-Finish.node c.in-Ok-Finish.job c.in-Ok-Finish.number c.in-Ok-Finish.outcome c.in-Ok.answer (search rules) c.in-Ok.ensures.answer c.in-Ok.ensures.calls
    (subst (λ s. OnOk c.run_step-in-Ok-Finish.result (RunsStep c.args.world.now c.hand_in.new.self c.args.journal.now s c.run_step-in-Ok-Finish.new.world c.run_step-in-Ok-Finish.new.workers c.run_step-in-Ok-Finish.new.journal (g.W.Write.contents c.args.writer.now) (g.W.Write.contents c.run_step-in-Ok-Finish.new.writer)))
    c.finish.ensures c.run_step-in-Ok-Finish.ensures.ok)
