use Rattle.std.proofs.Common.{sym, ap, subst, ◌∙◌}
use Rattle.pins_holds.proofs.ForCallers.{insert_key-new}
use Rattle.private_store.specs.laws.Invariants.{is_remembered}
use Rattle.private_store.specs.rules.Tables.{at}
use Rattle.job_row.specs.EndingTasks.{task_row}
use Rattle.job_row.specs.Row.{Row, place_of, ArePlaced}
use Rattle.job_row.proofs.FollowsCopies.{none_gone, lies_keeps, all_keep}
use Rattle.job_row.proofs.row.JobRow.remember_end.Goals as goal
use Rattle.job_row.proofs.Ungranting.{ended, at-ended, ended-place, ended_placed}

pub invariant_of-self-2 : goal.invariant_of-self-2
invariant_of-self-2 c = (
  subst (λ t. ArePlaced c.self.inside.window.placed (place_of t)) (sym c.end_grants.ensures)
      (ended_placed c.args.task c.self.inside.window.placed c.self.inside.copies c.self.invariant.0),
  c.sync_all.ensures.infos c.self.inside.copies
      (none_gone (ended c.args.task) c.self.inside.copies c.end_grants.new.self (λ x. ap (λ t. at t x) c.end_grants.ensures ∙ at-ended c.args.task c.self.inside.copies x))
      (all_keep (ended c.args.task) (λ x. lies_keeps (ended c.args.task x) (ended-place c.args.task x)) c.self.inside.copies c.end_grants.new.self (λ x. ap (λ t. at t x) c.end_grants.ensures ∙ at-ended c.args.task c.self.inside.copies x)) c.self.invariant.1,
)

pub returns-clause-ok : goal.returns-clause-ok
returns-clause-ok c =
    let task = c.args.task in
    let keys = c.in_ok-insert.ensures.keys ∙ insert_key-new task c.self.inside.ended_tasks.keys (ap (λ (r : Row). is_remembered r.ended_tasks task) c.self.view_is ∙ c.requires) in
    (λ i. record {
      job = c.self.inside.job.0;
      window = c.self.inside.window;
      device = c.self.inside.device_quota;
      copies = c.end_grants.ensures i;
      order = c.sync_all.ensures.ids i;
      fetches_begun = c.self.inside.fetches_begun;
      spill_failed = c.self.inside.spill_failed;
      ended_tasks = keys i;
    })
    ∙ ap (task_row task) c.self.view_is
