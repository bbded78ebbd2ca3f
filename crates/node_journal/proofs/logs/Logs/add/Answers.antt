use Rattle.std.proofs.Common.{List, ◌∷◌, [], ◌≤◌, ◌+◌, sym, ap, subst, ◌∙◌}
use Rattle.node_journal.specs.declared.entries.Line.{Line}
use Rattle.node_journal.specs.Journals.{Journal, with_lines}
use Rattle.node_journal.proofs.Logging.{journal_in, spare_in, journal_moved, spare_left, found_there, written_there}
use Rattle.node_journal.proofs.logs.Logs.add.Goals as goal

pub returns-clause-journal : goal.returns-clause-journal
returns-clause-journal c = λ other.
    let more : List Line = c.args.line ∷ [] in
    let own = c.pair_mut-log.ensures in
    let stands = c.in-Some.ensures.stands in
    let found = found_there c.self.inside.logs c.args.self.now c.self.view_is c.args.job c.in-Some.place stands _ _ own.value in
    journal_moved c.args.job c.args.self.now _ c.add.new.self (written_there c.self.inside.logs c.args.self.now c.self.view_is c.args.job c.in-Some.place stands c.add.new.self own.unique) (λ (journal : Journal). with_lines journal more)
    (c.add.ensures.journal ∙ ap (λ o. with_lines (journal_in c.args.job.0 o) more) (sym found)) other

pub returns-clause-spare : goal.returns-clause-spare
returns-clause-spare c = λ other.
    let own = c.pair_mut-log.ensures in
    let stands = c.in-Some.ensures.stands in
    let found = found_there c.self.inside.logs c.args.self.now c.self.view_is c.args.job c.in-Some.place stands _ _ own.value in
    spare_left c.args.job c.args.self.now _ c.add.new.self (written_there c.self.inside.logs c.args.self.now c.self.view_is c.args.job c.in-Some.place stands c.add.new.self own.unique) 1
    (subst (λ o. spare_in o ≤ c.add.new.self.spare + 1) (sym found) c.add.ensures.spare) other
