-- What is said of a replay.
use Rattle.std.specs.Prelude.{◌≡◌, ℕ, List, ◌++◌, codes, decimal, Option, None, Some, Result, Ok, Err, ⊤}
use Rattle.std.specs.Io.KnownBytes.{Appends, Keeps}
use Rattle.std.specs.String.{string_bytes}
use Rattle.journal_text.specs.declared.entry.Address.{Address}
use Rattle.journal_text.specs.declared.entry.Version.{Version}
use Rattle.journal_text.specs.Printing.{journal_answer_text}
use Rattle.journal_replay.specs.declared.fault.ReplayFault.{ReplayFault}
use Rattle.journal_replay.specs.declared.fault.ReplayFault.TheVariants.{NotAnEntry, Input, Output, NoMemory}
use Rattle.journal_replay.specs.declared.replay.Difference.{Difference}
use Rattle.journal_replay.specs.declared.replay.ReplayResult.{ReplayResult}
use Rattle.journal_replay.specs.declared.program.Verdict.{Verdict}
use Rattle.journal_replay.specs.declared.program.Verdict.TheVariants.{Agrees, Differs}
use Rattle.journal_replay.specs.Journals.{IsJournal, JournalEnds}

-- the line of a fault, without its line feed
abbrev pub replay_fault_text : ReplayFault → List ℕ
replay_fault_text (NotAnEntry line) = codes "store: line " ++ decimal line ++ codes ": not an entry"
replay_fault_text Input = codes "store: input failed"
replay_fault_text Output = codes "store: output failed"
replay_fault_text NoMemory = codes "store: no memory"

-- ---- answers

-- where a line stands
abbrev pub place_text : Address → List ℕ
place_text x = codes "entry " ++ decimal x.number ++ codes " of j" ++ decimal x.job.0 ++ codes " at n" ++ decimal x.node

-- the line of a difference: the answer as it stands there, and the one that is due as a journal of that form spells it
abbrev pub difference_text : Version → Difference → List ℕ
difference_text version x =
    place_text x.address ++ codes ": had " ++ string_bytes x.had ++ codes ", should be " ++ journal_answer_text version x.address.job.0 x.due ++ codes "\n"

abbrev pub found_text : Version → ℕ → Option Difference → List ℕ
found_text version lines None = codes "replayed " ++ decimal lines ++ codes "\n"
found_text version lines (Some difference) = difference_text version difference

-- the line that is written of a replay
abbrev pub replay_text : ReplayResult → List ℕ
replay_text x = found_text x.version x.lines x.difference

abbrev pub replay_verdict_of : Option Difference → Verdict
replay_verdict_of None = Agrees
replay_verdict_of (Some difference) = Differs

-- a replay's line is written, and the verdict is that of the journal that was read
pub record TellsReplay (read_old written_old written_new : Option (List ℕ)) (verdict : Verdict) : Type 0 where
  pub outcome : ReplayResult
  pub journal : IsJournal read_old outcome
  pub verdict_is : verdict ≡ replay_verdict_of outcome.difference
  pub written : Appends written_old written_new (replay_text outcome)

-- a whole replay: nothing is written after a fault, unless the output failed
abbrev pub Replays : Option (List ℕ) → Option (List ℕ) → Option (List ℕ) → Option (List ℕ) → Result Verdict ReplayFault → Type 0
Replays read_old read_new written_old written_new (Ok verdict) = TellsReplay read_old written_old written_new verdict
Replays read_old read_new written_old written_new (Err (NotAnEntry number)) = JournalEnds read_old read_new (Err (NotAnEntry number)) × Keeps written_old written_new
Replays read_old read_new written_old written_new (Err Input) = Keeps written_old written_new
Replays read_old read_new written_old written_new (Err Output) = ⊤
Replays read_old read_new written_old written_new (Err NoMemory) = Keeps written_old written_new

-- 0 if every line has the answer that is due
abbrev pub replay_status_of : Result Verdict ReplayFault → ℕ
replay_status_of (Ok Agrees) = 0
replay_status_of (Ok Differs) = 1
replay_status_of (Err fault) = 1
