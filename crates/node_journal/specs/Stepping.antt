-- What is done with a node that is locked: one step, or nothing.
use Rattle.std.specs.Prelude.{◌≡◌, ◌⊎◌, ℕ, ◌+◌, ◌==◌, Bool, true, List, Option, Some, None}
use Rattle.obj_id.specs.declared.ids.JobNo.{JobNo}
use Rattle.obj_id.specs.declared.commands.Reply.{Reply}
use Rattle.obj_id.specs.declared.messages.Arrival.{Arrival}
use Rattle.private_store.specs.declared.inputs.Judged.{Judged}
use Rattle.private_store.specs.declared.schedules.NodeEvent.{NodeEvent}
use Rattle.private_store.specs.declared.schedules.NodeEvent.TheVariants as node_event
use Rattle.private_store.specs.rules.Private.{Post}
use Rattle.node_core.specs.Hosted.{Hosted}
use Rattle.node_core.specs.Steps.{NodeGiven, NodeStep, job_at}
use Rattle.node_journal.specs.Journals.{entry_for, event_name, folded_if, journal_after}
use Rattle.node_journal.specs.Logs.{JobLog, journal_of}
use Rattle.node_journal.specs.Posts.{is_entered}
use Rattle.node_journal.specs.Witnesses.{Witness}

-- what a contract sees of a node with its journal: the node, how many entries there are, and the journals of all jobs
pub record Locked : Type 0 where
  pub node : Hosted
  pub count : ℕ
  pub logs : List (JobNo × JobLog)

abbrev pub seen_node : Hosted → ℕ → List (JobNo × JobLog) → Locked
seen_node node count logs = record { node = node; count = count; logs = logs }

-- nothing was done
pub record IsUntouched (old new : Locked) : Type 0 where
  pub node : new.node ≡ old.node
  pub count : new.count ≡ old.count
  pub journals : (job : ℕ) → journal_of new.logs job ≡ journal_of old.logs job

-- one step was made, of this event, and no other: with this answer, these messages and this entry
pub record IsOneStep (e : NodeEvent) (response : Reply (List ℕ)) (sent : List Post) (witness : Witness) (old new : Locked) : Type 0 where
  pub given : NodeGiven
  pub was : Option Judged
  pub answer : given.reply ≡ response
  pub posts : given.posts ≡ sent
  pub node : NodeStep old.node e given new.node
  pub count : new.count ≡ old.count + 1
  pub journals : (job : ℕ) → journal_of new.logs job ≡ journal_after old.node (old.count + 1) e was given job (journal_of old.logs job)
  pub of_job : witness.job.0 ≡ job_at old.node.works.works e
  pub entry : witness.entry ≡ entry_for (old.count + 1) (event_name e) was response
  pub whole : witness.whole ≡ response

-- the journal of the job of this number was folded, or nothing was done
pub record IsFolded (job : ℕ) (old new : Locked) : Type 0 where
  pub node : new.node ≡ old.node
  pub count : new.count ≡ old.count
  pub journals : (other : ℕ) → (journal_of new.logs other ≡ folded_if (job == other) (journal_of old.logs other)) ⊎ (journal_of new.logs other ≡ journal_of old.logs other)

-- a message arrived, and its entry is of it
pub record IsOneArrival (job : JobNo) (a : Arrival) (response : Reply (List ℕ)) (sent : List Post) (witness : Witness) (old new : Locked) : Type 0 where
  pub step : IsOneStep (node_event.Arrive job a) response sent witness old new
  pub entered : is_entered a response witness.entry.input ≡ true
