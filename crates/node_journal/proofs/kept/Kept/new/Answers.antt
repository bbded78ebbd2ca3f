use Rattle.std.proofs.Common.{◌≡◌, ℕ, ap, subst, sym, length, ◌≤◌, arith}
use Rattle.node_journal.specs.Journals.{AreEntriesNumbered, Journal, fresh, most_lines}
use Rattle.node_journal.specs.Logs.{journal_of}
use Rattle.node_journal.proofs.Telling.{told_at_first}
use Rattle.node_journal.proofs.Numbering.{none_numbered}
use Rattle.node_journal.proofs.kept.Kept.new.Goals as goal

pub invariant_of-result : goal.invariant_of-result
invariant_of-result g c =
    let none : (job : ℕ) → journal_of c.new-2.result job ≡ fresh job = λ job. ap (λ logs. journal_of logs job) c.new-2.ensures in
    record {
      seated = c.requires.ledger_share.0;
      blank = c.requires.ledger_share.1;
      named = c.new.ensures.number;
      numbered = λ job. subst (λ n. AreEntriesNumbered n (journal_of c.new-2.result job)) (sym c.new-3.ensures) (none_numbered job _ (none job));
      few = λ job. subst (λ (j : Journal). length j.list ≤ most_lines) (sym (none job)) (omega arith);
      response = told_at_first c.new.result _ c.new.ensures.works c.new.ensures.shows none;
    }
