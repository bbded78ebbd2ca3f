use Rattle.std.proofs.Common.{ℕ, sym, ap, ◌∙◌}
use Rattle.obj_id.specs.declared.ids.JobNo.{JobNo}
use Rattle.node_core.specs.Outcomes.{node_given_of}
use Rattle.node_journal.specs.declared.entries.Entry.{Entry}
use Rattle.node_journal.specs.Journals.{entry_for}
use Rattle.node_journal.specs.Posts.{is_entered}
use Rattle.node_journal.proofs.kept.Kept.arrive_made.Goals as goal

pub returns-clause-once : goal.returns-clause-once
returns-clause-once g c a is =
    let made = c.in_ok-made.made in
    let done = c.in_ok-made.ensures in
    let response = c.into_parts.ensures in
    let kept = ap (λ r. r.entry) response.receipt ∙ done.receipt.2 a is in
    record {
      step = record {
        given = node_given_of made.outcome;
        was = made.outcome.judged;
        answer = sym response.reply;
        posts = sym response.mail;
        node = done.node a is;
        count = done.count;
        journals = done.journal a is;
        of_job = ap (λ r. r.job.0) response.receipt ∙ done.receipt.1;
        entry = kept ∙ ap (entry_for _ _ made.outcome.judged) (sym response.reply);
        whole = ap (λ r. r.whole.value) response.receipt ∙ done.whole ∙ sym response.reply;
      };
      entered = (λ i. is_entered a (response.reply i) (kept i).input) ∙ done.entered a is;
    }

pub returns-clause-arrived : goal.returns-clause-arrived
returns-clause-arrived g c a is =
    let arrival = returns-clause-once g c a is in
    let numbered : ℕ → JobNo = λ n. record { 0 = n } in
    record {
      of_job = ap numbered arrival.step.of_job;
      named = ap (λ (e : Entry). e.event) arrival.step.entry;
      response = c.into_parts.result.reply;
      answer = ap (λ (e : Entry). e.reply) arrival.step.entry;
      whole = arrival.step.whole;
      input = arrival.entered;
    }
