-- What the line of an answer begins with.
use Rattle.std.specs.Prelude.{ℕ, List, ◌++◌, codes, decimal, Option, Some, None}
use Rattle.private_store.specs.declared.schedules.Event.{Event}
use Rattle.private_store.specs.declared.schedules.Event.TheVariants as event
use Rattle.private_store.specs.declared.schedules.Step.{Step}
use Rattle.private_store.specs.declared.schedules.Step.TheVariants as «step»
use Rattle.schedule_text.specs.declared.line.Line.{Line}
use Rattle.schedule_text.specs.declared.line.Line.TheVariants as line
use Rattle.schedule_text.specs.declared.prefixes.Prefix.{Prefix}
use Rattle.schedule_text.specs.declared.prefixes.Prefix.TheVariants.{Operator, Session, Device, Network}

-- who is answered, of each event at a node
abbrev pub prefix_at : ℕ → Event → Prefix
prefix_at node (event.Admit job quota key) = Operator node
prefix_at node (event.Requota job quota) = Operator node
prefix_at node (event.JobEnd job) = Operator node
prefix_at node event.Take = Device node
prefix_at node (event.Finish job number answer) = Device node
prefix_at node (event.Call job session command) = Session node job session

-- and of each step
abbrev pub prefix_of : Step → Prefix
prefix_of («step».At node event) = prefix_at node event
prefix_of («step».Deliver job sender receiver number damaged) = Network

-- and of each line
abbrev pub line_prefix : Line → Option Prefix
line_prefix line.Skipped = None
line_prefix (line.Step step) = Some (prefix_of step)
line_prefix (line.Finish node job number outcome) = Some (Device node)

abbrev pub prefix_text : Prefix → List ℕ
prefix_text (Operator node) = codes "n" ++ decimal node ++ codes " op"
prefix_text (Session node job session) = codes "n" ++ decimal node ++ codes " j" ++ decimal job.0 ++ codes " s" ++ decimal session
prefix_text (Device node) = codes "n" ++ decimal node ++ codes " dev"
prefix_text Network = codes "net"

-- the job that speaks; 0, which is no job, in a line of no session
abbrev pub speaker : Prefix → ℕ
speaker (Operator node) = 0
speaker (Session node job session) = job.0
speaker (Device node) = 0
speaker Network = 0
