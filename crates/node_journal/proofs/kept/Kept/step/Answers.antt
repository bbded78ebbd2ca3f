use Rattle.std.proofs.Common.{◌+◌, ◌==◌, ◌≤◌, length, refl, sym, ap, subst, ◌∙◌}
use Rattle.std.proofs.lemmas.Result.{IfOk-weaker}
use Rattle.private_store.specs.declared.schedules.NodeEvent.TheVariants.{Own}
use Rattle.node_core.specs.Steps.{job_at}
use Rattle.node_journal.specs.Journals.{Journal, AreEntriesNumbered, is_folded_by, most_lines}
use Rattle.node_journal.specs.Logs.{journal_of, list_of}
use Rattle.node_journal.proofs.Recording.{both_ok, either_way}
use Rattle.node_journal.proofs.Telling.{all_told, told_alike, call_never_wants, call_small}
use Rattle.node_journal.proofs.Numbering.{all_numbered}
use Rattle.node_journal.proofs.kept.Kept.step.Goals as goal

pub invariant_of-self : goal.invariant_of-self
invariant_of-self g c =
    let old = c.args.self.now in
    let done = c.record.ensures in
    let made = c.record.result in
    let e = c.args.event.now in
    either_way made _ _ _ (both_ok made _ _ done.node (both_ok made _ _ done.judged (both_ok made _ _ done.logs (both_ok made _ _ done.few done.count)))) done.err done.unchanged
    (λ _ did. record {
      seated = old.seated;
      blank = old.blank;
      named = did.0.number ∙ old.named;
      numbered = λ job. subst (λ n. AreEntriesNumbered n (journal_of c.record.new.logs job)) (sym did.1.1.1.1)
          (all_numbered old.count job (job_at old.node.works.works (Own e) == job) (is_folded_by old.node (Own e) job (list_of old.logs job)) _ _ _ _ refl (did.1.1.0 job) (old.numbered job));
      few = did.1.1.1.0;
      response = all_told old.node _ e _ (old.count + 1) did.0 _ did.1.0 _ _ (λ job. is_folded_by old.node (Own e) job (list_of old.logs job)) did.1.1.0 old.response;
    })
    (λ same unchanged. record {
      seated = old.seated;
      blank = old.blank;
      named = ap (λ n. n.number) same.0 ∙ old.named;
      numbered = λ job. subst (λ n. AreEntriesNumbered n (journal_of c.record.new.logs job)) (sym same.1) (subst (AreEntriesNumbered old.count) (sym (unchanged job)) (old.numbered job));
      few = λ job. subst (λ (j : Journal). length j.list ≤ most_lines) (sym (unchanged job)) (old.few job);
      response = told_alike old.node _ _ _ same.0 unchanged old.response;
    })

pub returns-clause-answered : goal.returns-clause-answered
returns-clause-answered g c =
    let old = c.args.self.now in
    let done = c.record.ensures in
    let made = c.record.result in
    IfOk-weaker made _ _ (λ _ did call. call_never_wants old.node _ c.args.event.now _ (old.count + 1) did.0 _ did.1 _ call old.response) (both_ok made _ _ done.node done.judged)

pub returns-clause-small : goal.returns-clause-small
returns-clause-small g c = IfOk-weaker c.record.result _ _ (λ _ small call. call_small c.args.self.now.node c.args.event.now _ _ small call c.args.self.now.response) c.record.ensures.small
