use Rattle.std.proofs.Common.{◌++◌, ◌∷◌, [], List, take, get_or, map, sym, ap, subst, ◌∙◌}
use Rattle.std.specs.Prelude.{All, filter}
use Rattle.std.proofs.lemmas.List.{take_more}
use Rattle.std.proofs.lemmas.List.Elements.{filter-append}
use Rattle.obj_id.specs.declared.ids.JobNo.{JobNo}
use Rattle.node_core.specs.Hosted.{Hosted}
use Rattle.node_gate.specs.declared.journaled.LiveJob.{LiveJob}
use Rattle.node_journal.specs.Looking.{IsUsageShown, is_live_now}
use Rattle.node_journal.proofs.looking.live_jobs_of.Goals as goal

abbrev none : JobNo
none = record { 0 = 0 }

pub loop-job-preserved : goal.loop-job-preserved
loop-job-preserved g c =
    let node = c.args.kept.now.node in
    let jobs = c.as_slice-job-items.result.now in
    let i = c.loop-job.job-index in
    let next = get_or jobs i none ∷ [] in
    record {
      listed = c.in_ok-add_live.ensures.listed
          ∙ ap (λ (n : Hosted). map (λ (l : LiveJob). l.job) c.loop-job.live.items ++ filter (is_live_now n) next) c.node.ensures
          ∙ ap (λ (xs : List JobNo). xs ++ filter (is_live_now node) next) c.loop-job.invariant.listed
          ∙ sym (filter-append (is_live_now node) (take i jobs) next)
          ∙ ap (filter (is_live_now node)) (sym (take_more jobs i none c.loop-job-test.true));
      used = subst (λ (n : Hosted). All (IsUsageShown n) c.loop-job.live.items → All (IsUsageShown n) c.add_live.new.live.items) c.node.ensures c.in_ok-add_live.ensures.used c.loop-job.invariant.used;
    }
