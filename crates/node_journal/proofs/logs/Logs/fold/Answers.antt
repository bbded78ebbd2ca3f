use Rattle.std.proofs.Common.{◌==◌, [], ◌≤◌, is_some, sym, ap, subst, ◌∙◌}
use Rattle.std.specs.Map.{lookup}
use Rattle.std.specs.Option.{option_copied_mut}
use Rattle.private_store.specs.rules.Jobs.{same_job}
use Rattle.node_journal.specs.Journals.{folded, folded_if, last_of, base_after}
use Rattle.node_journal.specs.Logs.{journal_of, spare_of}
use Rattle.node_journal.proofs.Logging.{journal_in, spare_in, journal_moved, spare_kept, none_folded}
use Rattle.node_journal.proofs.logs.Logs.fold.Goals as goal

pub returns-clause-journal : goal.returns-clause-journal
returns-clause-journal c = λ other.
    let job = c.args.job.0 in
    let found = sym c.get_mut.ensures.value ∙ ap option_copied_mut c.in-Some.is in
    let was = ap (journal_in job) (sym found) in
    let base = c.requires ∙ sym (ap (λ m. base_after (journal_of m job)) c.self.view_is) in
    let wrote = c.get_mut.follows.holds c.fold.new.self in
    journal_moved c.args.job c.self.inside.logs.entries (c.get_mut.follows.lender c.fold.new.self).entries c.fold.new.self (wrote.3 (ap is_some found)).0 folded
    (c.fold.ensures.journal ∙ (λ i. record { base = base i; covered = last_of (was i).covered (was i).list; list = [] })) other
    ∙ ap (λ m. folded_if (job == other) (journal_of m other)) c.self.view_is

pub returns-clause-spare : goal.returns-clause-spare
returns-clause-spare c = λ other.
    let found = sym c.get_mut.ensures.value ∙ ap option_copied_mut c.in-Some.is in
    let wrote = c.get_mut.follows.holds c.fold.new.self in
    subst (λ m. spare_of m other ≤ spare_of (c.get_mut.follows.lender c.fold.new.self).entries other) c.self.view_is
    (spare_kept c.args.job c.self.inside.logs.entries (c.get_mut.follows.lender c.fold.new.self).entries c.fold.new.self (wrote.3 (ap is_some found)).0
    (subst (λ o. spare_in o ≤ c.fold.new.self.spare) (sym found) c.fold.ensures.spare) other)

pub returns-in_default-clause-journal : goal.returns-in_default-clause-journal
returns-in_default-clause-journal c = λ other.
    let at_first = ap (λ m. m.entries) c.get_mut.follows.holds-at-none in
    let none = ap (lookup (same_job c.args.job)) at_first ∙ sym c.get_mut.ensures.value ∙ ap option_copied_mut c.in_default.is in
    none_folded c.args.job c.get_mut.follows.lender-at-none.entries none other
    ∙ ap (λ m. folded_if (c.args.job.0 == other) (journal_of m other)) (at_first ∙ c.self.view_is)
