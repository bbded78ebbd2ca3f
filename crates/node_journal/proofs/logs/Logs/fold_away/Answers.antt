use Rattle.std.proofs.Common.{◌==◌, [], is_some, sym, ap, ◌∙◌}
use Rattle.std.specs.Map.{lookup}
use Rattle.std.specs.Option.{option_copied_mut}
use Rattle.private_store.specs.rules.Jobs.{same_job}
use Rattle.node_journal.specs.Journals.{folded, folded_if, last_of, base_after}
use Rattle.node_journal.specs.Logs.{journal_of}
use Rattle.node_journal.proofs.Logging.{journal_in, journal_moved, none_folded}
use Rattle.node_journal.proofs.logs.Logs.fold_away.Goals as goal

pub returns : goal.returns
returns c = λ other.
    let job = c.args.job.0 in
    let found = sym c.get_mut.ensures.value ∙ ap option_copied_mut c.in-Some.is in
    let was = ap (journal_in job) (sym found) in
    let base = c.requires ∙ sym (ap (λ m. base_after (journal_of m job)) c.self.view_is) in
    let wrote = c.get_mut.follows.holds c.fold_away.new.self in
    journal_moved c.args.job c.self.inside.logs.entries (c.get_mut.follows.lender c.fold_away.new.self).entries c.fold_away.new.self (wrote.3 (ap is_some found)).0 folded
    (c.fold_away.ensures ∙ (λ i. record { base = base i; covered = last_of (was i).covered (was i).list; list = [] })) other
    ∙ ap (λ m. folded_if (job == other) (journal_of m other)) c.self.view_is

pub returns-in_default : goal.returns-in_default
returns-in_default c = λ other.
    let at_first = ap (λ m. m.entries) c.get_mut.follows.holds-at-none in
    let none = ap (lookup (same_job c.args.job)) at_first ∙ sym c.get_mut.ensures.value ∙ ap option_copied_mut c.in_default.is in
    none_folded c.args.job c.get_mut.follows.lender-at-none.entries none other
    ∙ ap (λ m. folded_if (c.args.job.0 == other) (journal_of m other)) (at_first ∙ c.self.view_is)
