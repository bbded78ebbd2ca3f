-- The stores of all jobs at all nodes, as lines lead to them. Entries stand newest first.
use Rattle.std.specs.Prelude.{◌≡◌, ℕ, List, length, Option, unwrap_or}
use Rattle.std.specs.Map.{lookup}
use Rattle.private_store.specs.rules.Replay.{ReplayState, unbegun_replay}
use Rattle.journal_text.specs.declared.entry.Entry.{Entry}
use Rattle.journal_text.specs.declared.entry.Version.{Version}
use Rattle.schedule_text.specs.declared.lines.JobAt.{JobAt}
use Rattle.journal_replay.specs.declared.replay.Difference.{Difference}
use Rattle.journal_text.specs.Saved.{same_job_place}
use Rattle.journal_replay.specs.Replays.{IsFound, JournalRead, entries_of, replayed_lines_of, replayed_store_of}

-- what is kept of a job at a node: the number of its last line, or 0, and its store without contents
pub record JobState : Type 0 where
  pub last : ℕ
  pub store : ReplayState

abbrev pub state_of : List (JobAt × JobState) → JobAt → JobState
state_of jobs place = unwrap_or (lookup (same_job_place place) jobs) (record { last = 0; store = unbegun_replay place.job.0 })

-- they are what these lines lead to
abbrev pub AreAfter : Version → List Entry → List (JobAt × JobState) → Type 0
AreAfter version entries jobs =
    (place : JobAt) → state_of jobs place ≡ record { last = length (replayed_lines_of version place entries); store = replayed_store_of version place entries }

-- a replay so far
pub record IsStateAfter (version : Version) (lines : List JournalRead) (jobs : List (JobAt × JobState)) (difference : Option Difference) : Type 0 where
  pub states : AreAfter version (entries_of lines) jobs
  pub found : IsFound version lines difference
