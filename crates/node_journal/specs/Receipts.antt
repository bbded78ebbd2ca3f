-- What a receipt is worth: the journal has its entry, whose answer is the one that is due.
use Rattle.std.specs.Prelude.{◌≡◌, true, List, ◌∷◌, ◌++◌, map, Some}
use Rattle.private_store.specs.declared.inputs.Judged.{Judged}
use Rattle.private_store.specs.rules.Replay.{Line as Replayed, replay_step, replayed}
use Rattle.node_journal.specs.declared.entries.Entry.{Entry}
use Rattle.node_journal.specs.declared.entries.Line.{Line}
use Rattle.node_journal.specs.declared.entries.Line.TheVariants as line
use Rattle.node_journal.specs.Replies.{unlisted}
use Rattle.node_journal.specs.Journals.{IsTimely, Journal, is_take, lateness, lines_of, take_due, taken_from}

-- this entry stands in the journal; and if its event was an input of the job, its answer is that of the job's private store, without
-- contents, after the inputs that the journal tells of up to there; if it was a Take, its answer is the first work of that store which isn't
-- taken, or that there is none; a Finish and a message are answered Stale, and are no input, exactly if that store has no such work that is
-- taken, or isn't live
pub record IsDueIn (journal : Journal) (entry : Entry) : Type 0 where
  pub before : List Line
  pub after : List Line
  pub stands : journal.list ≡ before ++ line.Entry entry ∷ after
  pub due : (x : Judged) → entry.input ≡ Some x → entry.reply ≡ unlisted (replay_step (replayed journal.base.store (lines_of before)) x).reply
  pub given : is_take entry.event ≡ true → entry.reply ≡ take_due (replayed journal.base.store (lines_of before)) (taken_from journal.base.taken before)
  pub timely : IsTimely (lateness (replayed journal.base.store (lines_of before)) (taken_from journal.base.taken before) entry.event) entry

-- what came before the entry, as inputs of its job
abbrev pub inputs_before : {journal : Journal} {entry : Entry} → IsDueIn journal entry → List Judged
inputs_before d = map (λ (l : Replayed). l.input) (lines_of d.before)

-- of two journals that begin with the same store, two entries of one input after the same inputs have the same answer
abbrev pub AnswersAgree : Journal → Journal → Entry → Entry → Type 0
AnswersAgree first second a b =
    (d : IsDueIn first a) (e : IsDueIn second b) → first.base.store ≡ second.base.store → inputs_before d ≡ inputs_before e
    → (x : Judged) → a.input ≡ Some x → b.input ≡ Some x → a.reply ≡ b.reply
