use Rattle.std.proofs.Common.{rules, suc, ap, ◌∙◌}
use Rattle.journal_replay.specs.Replays.{JournalRead}
use Rattle.journal_replay.proofs.Replaying.{adds, found-first, found-kept}
use Rattle.journal_replay.proofs.replay.Replay.add.Goals as goal

pub returns-in_ok-self : goal.returns-in_ok-self
returns-in_ok-self c =
    let line : JournalRead = record { text = c.args.text.now; entry = c.args.entry } in
    adds c.args.self.now.version c.args.self.now.jobs c.step.new.self line c.in_ok-due.due c.args.self.now.difference c.in_ok-self.field-0 c.place-place.result c.judged_of-input.result
    c.place-place.ensures c.judged_of-input.ensures
    (λ before is found. found-first c.args.self.now.version before line c.in_ok-due.due is c.args.self.now.difference c.in_ok-self.field-0 c.if-is_none.ensures c.in_ok-self.ensures found)
    (c.is_next.ensures.0 (search rules) ∙ ap suc c.last.ensures) c.in_ok-due.ensures.states c.in_ok-due.ensures.due

pub returns-else-is_none : goal.returns-else-is_none
returns-else-is_none c =
    let line : JournalRead = record { text = c.args.text.now; entry = c.args.entry } in
    adds c.args.self.now.version c.args.self.now.jobs c.step.new.self line c.in_ok-due.due c.args.self.now.difference c.args.self.now.difference c.place-place.result c.judged_of-input.result
    c.place-place.ensures c.judged_of-input.ensures
    (λ before is found. found-kept c.args.self.now.version before line c.args.self.now.difference c.if-is_none.ensures found)
    (c.is_next.ensures.0 (search rules) ∙ ap suc c.last.ensures) c.in_ok-due.ensures.states c.in_ok-due.ensures.due
