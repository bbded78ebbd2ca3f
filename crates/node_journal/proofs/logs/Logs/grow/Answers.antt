use Rattle.std.proofs.Common.{◌≤◌, OnOk, sym, ap, subst, ◌∙◌, arith}
use Rattle.std.specs.Map.{lookup}
use Rattle.private_store.specs.rules.Jobs.{same_job}
use Rattle.node_journal.specs.Logs.{journal_of, spare_of}
use Rattle.node_journal.proofs.Logging.{journal_in, spare_in, journal_kept, spare_kept, spare_here, found_there, written_there}
use Rattle.node_journal.proofs.logs.Logs.grow.Goals as goal
use Rattle.node_journal.proofs.logs.Logs.grow.Goals.{in-Ok, in-Err}

pub returns-in-Some-clause-journals : goal.returns-in-Some-clause-journals
returns-in-Some-clause-journals c = λ other.
    let own = c.pair_mut-log.ensures in
    let stands = c.in-Some.ensures.stands in
    let found = found_there c.self.inside.logs c.args.self.now c.self.view_is c.args.job c.in-Some.place stands _ _ own.value in
    journal_kept c.args.job c.args.self.now _ c.reserve.new.self (written_there c.self.inside.logs c.args.self.now c.self.view_is c.args.job c.in-Some.place stands c.reserve.new.self own.unique)
    (c.reserve.ensures.journal ∙ ap (journal_in c.args.job.0) (sym found)) other

pub returns-in-Some-clause-spare : goal.returns-in-Some-clause-spare
returns-in-Some-clause-spare c = λ other.
    let own = c.pair_mut-log.ensures in
    let stands = c.in-Some.ensures.stands in
    let found = found_there c.self.inside.logs c.args.self.now c.self.view_is c.args.job c.in-Some.place stands _ _ own.value in
    spare_kept c.args.job c.args.self.now _ c.reserve.new.self (written_there c.self.inside.logs c.args.self.now c.self.view_is c.args.job c.in-Some.place stands c.reserve.new.self own.unique)
    (subst (λ o. spare_in o ≤ c.reserve.new.self.spare) (sym found) c.reserve.ensures.spare) other

pub returns-in-Some-clause-room : goal.returns-in-Some-clause-room
returns-in-Some-clause-room c =
    let own = c.pair_mut-log.ensures in
    let stands = c.in-Some.ensures.stands in
    let written = written_there c.self.inside.logs c.args.self.now c.self.view_is c.args.job c.in-Some.place stands c.reserve.new.self own.unique in
    subst (λ n. OnOk c.reserve.result (c.args.more ≤ n)) (sym (spare_here c.args.job c.args.self.now _ c.reserve.new.self written)) c.reserve.ensures.room

pub returns-clause-journals : goal.returns-clause-journals
returns-clause-journals c = λ other. elim c.match-insert.branch [
  | in-Ok w ↦
      (let entries = c.self.inside.logs.entries in
      let none = ap (lookup (same_job c.args.job)) c.self.view_is ∙ c.in_default.ensures.none in
      let updates = rw w.in-Ok.is at c.insert.ensures.updates in
      journal_kept c.args.job entries c.insert.new.table.entries c.reserve-2.new.self updates.0
      (c.in_ok-reserve.ensures.journal ∙ c.new-log.ensures ∙ ap (journal_in c.args.job.0) (sym none)) other
      ∙ ap (λ es. journal_of es other) c.self.view_is)
  | in-Err w ↦ ap (λ es. journal_of es other) ((rw w.in-Err.is at c.insert.ensures.err) ∙ c.self.view_is)
]

pub returns-clause-spare : goal.returns-clause-spare
returns-clause-spare c = λ other. elim c.match-insert.branch [
  | in-Ok w ↦
      (let entries = c.self.inside.logs.entries in
      let none = ap (lookup (same_job c.args.job)) c.self.view_is ∙ c.in_default.ensures.none in
      let updates = rw w.in-Ok.is at c.insert.ensures.updates in
      subst (λ m. spare_of m other ≤ spare_of c.insert.new.table.entries other) c.self.view_is
      (spare_kept c.args.job entries c.insert.new.table.entries c.reserve-2.new.self updates.0
      (subst (λ o. spare_in o ≤ c.reserve-2.new.self.spare) (sym none) (omega arith)) other))
  | in-Err w ↦
      subst (λ m. spare_of c.args.self.now other ≤ spare_of m other) (sym ((rw w.in-Err.is at c.insert.ensures.err) ∙ c.self.view_is)) (omega arith)
]
