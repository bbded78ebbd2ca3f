-- What the operator is shown of what was counted.
use Rattle.std.specs.Prelude.{◌≡◌, ◌⊎◌, ℕ, List, [], ◌∷◌, ◌++◌, codes, decimal}
use Rattle.obj_id.specs.Refusals.{number_of}
use Rattle.obj_id.specs.declared.commands.Reply.TheVariants as reply
use Rattle.obj_id.specs.declared.refusals.Refusal.TheVariants.{NotAdmitted}
use Rattle.private_store.specs.declared.schedules.StepAnswer.TheVariants.{Response}
use Rattle.schedule_text.specs.declared.prefixes.Prefix.TheVariants.{Operator}
use Rattle.schedule_text.specs.Lines.{with_line_feed}
use Rattle.schedule_text.specs.Printing.{line_text}
use Rattle.command_kinds.specs.Kinds.{kind_word}
use Rattle.node_housekeeping.specs.declared.counts.NodeCounts.{NodeCounts}
use Rattle.node_housekeeping.specs.declared.job_counts.Count.{Count}
use Rattle.node_housekeeping.specs.declared.job_counts.CountName.{CountName}
use Rattle.node_housekeeping.specs.declared.job_counts.CountName.TheVariants as name
use Rattle.node_housekeeping.specs.declared.job_counts.JobEvent.{JobEvent}
use Rattle.node_housekeeping.specs.declared.job_counts.JobEvent.TheVariants as event

abbrev pub event_word : JobEvent → List ℕ
event_word event.BytesIn = codes "bytes-in"
event_word event.BytesOut = codes "bytes-out"
event_word event.Spill = codes "spills"
event_word event.SpillFailed = codes "spills-failed"
event_word event.Restore = codes "restores"
event_word event.RestoreFailed = codes "restores-failed"
event_word event.Pull = codes "pulls"
event_word event.Arrival = codes "arrivals"
event_word event.Locate = codes "locates"
event_word event.Fetched = codes "fetched"
event_word event.SourceGone = codes "sources-gone"
event_word event.ChunkSent = codes "chunks-sent"
event_word event.NotHere = codes "not-here"
event_word event.Evicted = codes "evictions"
event_word event.Removed = codes "removals"

-- a refusal by its number
abbrev pub name_text : CountName → List ℕ
name_text (name.Command of) = kind_word of
name_text (name.Refused refusal) = codes "refused." ++ decimal (number_of refusal)
name_text (name.Event of) = event_word of

-- a count, after a space
abbrev pub count_text : Count → List ℕ
count_text count = codes " " ++ name_text count.name ++ codes ":" ++ decimal count.number

abbrev pub counts_text : List Count → List ℕ
counts_text [] = []
counts_text (count ∷ counts) = count_text count ++ counts_text counts

abbrev pub job_counts_line : ℕ → ℕ → List Count → List ℕ
job_counts_line node job counts = with_line_feed (codes "n" ++ decimal node ++ codes " op counts " ++ decimal job ++ counts_text counts)

-- a node's own, of its sessions, of its lock and of its journal
abbrev pub sessions_text : NodeCounts → List ℕ
sessions_text counts = codes " hellos:" ++ decimal counts.hellos ++ codes " hellos-refused:" ++ decimal counts.hellos_refused ++ codes " malformed:" ++ decimal counts.malformed

abbrev pub lock_text : NodeCounts → List ℕ
lock_text counts = codes " lock-waits:" ++ decimal counts.lock_waits ++ codes " lock-sleeps:" ++ decimal counts.lock_sleeps

abbrev pub folds_text : NodeCounts → List ℕ
folds_text counts = codes " end-folds:" ++ decimal counts.end_folds

abbrev pub own_text : NodeCounts → List ℕ
own_text counts = sessions_text counts ++ lock_text counts ++ folds_text counts

abbrev pub node_counts_line : ℕ → NodeCounts → List ℕ
node_counts_line node counts = with_line_feed (codes "n" ++ decimal node ++ codes " op counts" ++ own_text counts)

pub record IsNodeCountsLine (node : ℕ) (line : List ℕ) : Type 0 where
  pub counts : NodeCounts
  pub is : line ≡ node_counts_line node counts

-- the job's counts, or that it isn't live
abbrev pub IsJobCountsLine : ℕ → ℕ → List ℕ → Type 0
IsJobCountsLine node job line = ((counts : List Count) × (line ≡ job_counts_line node job counts)) ⊎ (line ≡ line_text (Operator node) (Response (reply.Refused NotAdmitted)))
