use Rattle.std.proofs.Common.{is_some, sym, ap, subst, ◌∙◌}
use Rattle.std.specs.Prelude.{option_map}
use Rattle.std.specs.Map.{lookup}
use Rattle.std.specs.Option.{option_copied_mut}
use Rattle.obj_id.specs.declared.commands.Reply.TheVariants as reply
use Rattle.obj_id.specs.declared.refusals.Refusal.TheVariants.{Stale}
use Rattle.private_store.specs.rules.Jobs.{same_job}
use Rattle.private_store.specs.declared.schedules.Event.TheVariants as event
use Rattle.row_steps.specs.Outcomes.{row_given_of}
use Rattle.row_steps.specs.Shown.{only}
use Rattle.private_store.specs.rules.Contents.{judge}
use Rattle.node_core.specs.Hosted.{Hosted, Shows}
use Rattle.node_core.specs.OneJob.{event_input_of, NodeStepOne}
use Rattle.node_core.proofs.Finishing.{Finished, stale_steps, finish_steps, finish_judged}
use Rattle.node_core.proofs.Views.{node_of}
use Rattle.node_core.proofs.Node.finish.Goals as goal

pub returns-in_default-clause-ok : goal.returns-in_default-clause-ok
returns-in_default-clause-ok c =
    let rows = c.get_mut.follows.lender-at-none.entries in
    let same = ap (λ r. r.entries) c.get_mut.follows.holds-at-none in
    let none = ap (lookup (same_job c.args.job)) same ∙ sym c.get_mut.ensures.value ∙ ap option_copied_mut c.in_default.is in
    let e = event.Finish c.args.job c.args.number c.args.answer.now in
    let all = node_of c.self.inside.number c.self.inside.admission c.self.inside.works c.self.inside.grants in
    subst (λ given. NodeStepOne c.args.self.now e given (all rows)) (sym c.only.ensures)
    (subst (λ old. NodeStepOne old e (only (reply.Refused Stale)) (all rows)) (ap all same ∙ c.self.view_is)
    (stale_steps c.self.inside.number c.self.inside.admission c.self.inside.works c.self.inside.grants c.args.job c.args.number c.args.answer.now rows none))

pub returns-clause-ok : goal.returns-clause-ok
returns-clause-ok c =
    let rows = c.self.inside.rows.entries in
    let after = c.finish-answered.new.row in
    let works = c.finish-answered.new.works in
    let response = row_given_of c.finish-answered.result.outcome in
    let new = (c.get_mut.follows.lender after).entries in
    let found = sym c.get_mut.ensures.value ∙ ap option_copied_mut c.in-Some.is in
    let wrote = c.get_mut.follows.holds after in
    let done = c.finish-answered.ensures in
    let finished : Finished c.self.inside.number c.self.inside.admission c.self.inside.works c.self.inside.grants c.args.job c.args.number c.args.answer.now c.in-Some.row.now after works response c.finish-answered.result.verdict c.in-Some.row.now.job = record {
      step = λ passed bytes contents shown. done.step passed c.self.inside.number c.self.inside.grants bytes contents shown;
      judged = λ passed bytes contents shown. done.verdict passed c.self.inside.grants bytes contents shown;
      line_is = done.line;
      others = done.others;
      stale = done.stale;
      same = done.same;
      same_line = done.works;
    } in
    subst (λ old. NodeStepOne old (event.Finish c.args.job c.args.number c.args.answer.now) response
    (node_of c.self.inside.number c.self.inside.admission works c.self.inside.grants new)) c.self.view_is
    (finish_steps c.self.inside.number c.self.inside.admission c.self.inside.works c.self.inside.grants c.args.job c.args.number c.args.answer.now c.self.invariant.table rows new c.in-Some.row.now after works response c.finish-answered.result.verdict
    found (wrote.3 (ap is_some found)).0 wrote.0 finished)

pub returns-clause-judged : goal.returns-clause-judged
returns-clause-judged c view h =
    let rows = c.self.inside.rows.entries in
    let after = c.finish-answered.new.row in
    let works = c.finish-answered.new.works in
    let response = row_given_of c.finish-answered.result.outcome in
    let new = (c.get_mut.follows.lender after).entries in
    let found = sym c.get_mut.ensures.value ∙ ap option_copied_mut c.in-Some.is in
    let wrote = c.get_mut.follows.holds after in
    let done = c.finish-answered.ensures in
    let finished : Finished c.self.inside.number c.self.inside.admission c.self.inside.works c.self.inside.grants c.args.job c.args.number c.args.answer.now c.in-Some.row.now after works response c.finish-answered.result.verdict c.in-Some.row.now.job = record {
      step = λ passed bytes contents shown. done.step passed c.self.inside.number c.self.inside.grants bytes contents shown;
      judged = λ passed bytes contents shown. done.verdict passed c.self.inside.grants bytes contents shown;
      line_is = done.line;
      others = done.others;
      stale = done.stale;
      same = done.same;
      same_line = done.works;
    } in
    ap (λ (n : Hosted). option_map (judge n.number view) (event_input_of (event.Finish c.args.job c.args.number c.args.answer.now) response.reply)) (sym c.self.view_is)
    ∙ finish_judged c.self.inside.number c.self.inside.admission c.self.inside.works c.self.inside.grants c.args.job c.args.number c.args.answer.now c.self.invariant.table rows new c.in-Some.row.now after works response c.finish-answered.result.verdict
    found (wrote.3 (ap is_some found)).0 wrote.0 finished view (subst (λ n. Shows n c.args.job.0 view) (sym c.self.view_is) h) ∙ sym c.if_ok-judged.ensures
