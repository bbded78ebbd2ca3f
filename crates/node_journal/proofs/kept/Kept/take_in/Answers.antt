use Rattle.std.proofs.Common.{◌+◌, ◌==◌, ◌≤◌, length, refl, sym, ap, subst, ◌∙◌}
use Rattle.std.proofs.lemmas.Result.{IfOk-weaker}
use Rattle.private_store.specs.declared.schedules.NodeEvent.TheVariants.{Arrive}
use Rattle.node_core.specs.Outcomes.{inputs_noted}
use Rattle.node_journal.specs.Journals.{Journal, AreEntriesNumbered, is_folded_by, most_lines}
use Rattle.node_journal.specs.Logs.{journal_of, list_of}
use Rattle.node_journal.proofs.Recording.{both_ok, either_way}
use Rattle.node_journal.proofs.Telling.{arrival_told, told_alike}
use Rattle.node_journal.proofs.Numbering.{all_numbered}
use Rattle.node_journal.proofs.Posting.{entry_is_of}
use Rattle.node_journal.proofs.kept.Kept.take_in.Goals as goal

pub invariant_of-self : goal.invariant_of-self
invariant_of-self g c =
    let old = c.args.self.now in
    let done = c.record_arrival.ensures in
    let made = c.record_arrival.result in
    let to = c.args.job in
    let a = c.args.arrival.now in
    either_way made _ _ _ (both_ok made _ _ done.node (both_ok made _ _ done.judged (both_ok made _ _ done.silent (both_ok made _ _ done.stale (both_ok made _ _ done.logs (both_ok made _ _ done.few done.count)))))) done.err done.unchanged
    (λ _ did. record {
      seated = old.seated;
      blank = old.blank;
      named = did.0.number ∙ old.named;
      numbered = λ job. subst (λ n. AreEntriesNumbered n (journal_of c.record_arrival.new.logs job)) (sym did.1.1.1.1.1.1)
          (all_numbered old.count job (to.0 == job) (is_folded_by old.node (Arrive to a) job (list_of old.logs job)) _ _ _ _ refl (did.1.1.1.1.0 job) (old.numbered job));
      few = did.1.1.1.1.1.0;
      response = arrival_told old.node _ to a _ (old.count + 1) did.0 _ did.1.0 did.1.1.1.0 (ap inputs_noted did.1.1.0) _ _ (λ job. is_folded_by old.node (Arrive to a) job (list_of old.logs job)) did.1.1.1.1.0 old.response;
    })
    (λ same unchanged. record {
      seated = old.seated;
      blank = old.blank;
      named = ap (λ n. n.number) same.0 ∙ old.named;
      numbered = λ job. subst (λ n. AreEntriesNumbered n (journal_of c.record_arrival.new.logs job)) (sym same.1) (subst (AreEntriesNumbered old.count) (sym (unchanged job)) (old.numbered job));
      few = λ job. subst (λ (j : Journal). length j.list ≤ most_lines) (sym (unchanged job)) (old.few job);
      response = told_alike old.node _ _ _ same.0 unchanged old.response;
    })

pub returns-clause-entered : goal.returns-clause-entered
returns-clause-entered g c =
    IfOk-weaker c.record_arrival.result _ _ (λ _ judged. entry_is_of c.args.self.now.node c.args.job c.args.arrival.now _ _ _ judged c.args.self.now.response) c.record_arrival.ensures.judged
