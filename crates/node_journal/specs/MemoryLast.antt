-- When a journaled step may want memory: its entry always, and the step itself only if no other refusal is due; and when its journal has
-- no number for an entry.
use Rattle.std.specs.Prelude.{ℕ, ◌+◌, ◌≤◌, ◌^◌, ⊤}
use Rattle.private_store.specs.declared.schedules.Event.{Event}
use Rattle.private_store.specs.declared.schedules.NodeEvent.TheVariants.{Own}
use Rattle.node_core.specs.Hosted.{Hosted}
use Rattle.node_core.specs.MemoryLast.{IsMemoryLast}
use Rattle.node_journal.specs.declared.not_stepped.NotStepped.{NotStepped}
use Rattle.node_journal.specs.declared.not_stepped.NotStepped.TheVariants.{Entry, Step, Ended}

-- what an error is of a step of the node by the event, whose journal has so many entries
abbrev pub IsStepLast : Hosted → ℕ → Event → NotStepped → Type 0
IsStepLast node count e (Entry refused) = ⊤
IsStepLast node count e (Step refused) = IsMemoryLast node (Own e)
IsStepLast node count e (Ended ended) = 2 ^ 60 ≤ count + 1
