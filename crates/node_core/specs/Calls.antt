-- What a command is to the job of its session.
use Rattle.std.specs.Prelude.{◌≡◌, ℕ, ◌==◌, Bool, true, false, List, Option}
use Rattle.std.specs.Option.{option_map_or}
use Rattle.obj_id.specs.declared.ids.ObjectId.{ObjectId}
use Rattle.obj_id.specs.declared.commands.Command.{Command}
use Rattle.obj_id.specs.declared.commands.Command.TheVariants as command
use Rattle.command_kinds.specs.Kinds.{kind_of, subject_of, traits_of}
use Rattle.command_kinds.specs.declared.command_kind.Carrier.{Carrier}
use Rattle.command_kinds.specs.declared.command_kind.Carrier.TheVariants as by
use Rattle.command_kinds.specs.declared.outline.Subject.{Subject}
use Rattle.command_kinds.specs.declared.outline.Subject.TheVariants as subject
use Rattle.private_store.specs.declared.inputs.Input.TheVariants as input
use Rattle.private_store.specs.declared.schedules.Event.{Event}
use Rattle.private_store.specs.declared.schedules.Event.TheVariants as event
use Rattle.private_store.specs.rules.Contents.{Contents}
use Rattle.private_store.specs.rules.Grants.{StandingGrant}
use Rattle.spill_work.specs.Line.{WorkLine}
use Rattle.job_row.specs.Row.{Row}
use Rattle.row_steps.specs.Shown.{IsShown, RowGiven, RowStep}
use Rattle.job_row.specs.Usages.{total}
use Rattle.row_copy.specs.Usages.{doomed_one}
use Rattle.node_core.specs.Hosted.{Hosted, row_at}
use Rattle.row_steps.specs.Beside.{beside_of}

-- whether it is no object that must be the job's own and isn't
abbrev pub is_own_subject : ℕ → Subject → Bool
is_own_subject job (subject.OwnObject id) = id.job.0 == job
is_own_subject job (subject.AnyObject id) = true
is_own_subject job (subject.Task task) = true
is_own_subject job subject.All = true

-- whether the object that the command names, if it must name an own one, is the job's
abbrev pub is_own : ℕ → Command (List ℕ) → Bool
is_own job c = is_own_subject job (subject_of c)

abbrev pub is_row : Carrier → Bool
is_row by.RowAndWorks = true
is_row by.Row = true
is_row by.Node = false
is_row by.Grants = false

-- the commands that a row carries out, with the line of works
abbrev pub is_of_row : Command (List ℕ) → Bool
is_of_row c = is_row (traits_of (kind_of c)).by

abbrev pub is_row_alone : Carrier → Bool
is_row_alone by.RowAndWorks = false
is_row_alone by.Row = true
is_row_alone by.Node = false
is_row_alone by.Grants = false

-- those of them that ask for no work
abbrev pub is_plain : Command (List ℕ) → Bool
is_plain c = is_row_alone (traits_of (kind_of c)).by

-- the job's row and works take the command's step, whatever grants stand and contents it shows
abbrev pub CallStep : ℕ → ℕ → Row → WorkLine → ℕ → Command (List ℕ) → RowGiven → Row → WorkLine → Type 0
CallStep node job old line session c response new after =
    (grants : List StandingGrant) (bytes : ObjectId → List ℕ) (contents : Contents) → old.job ≡ job → IsShown old (beside_of line grants bytes job) contents
    → RowStep node old (beside_of line grants bytes job) contents (input.Call session c) response new (beside_of after grants bytes job)

-- a command that takes no memory of a job with this row, or none, and so is never refused for it: Leave takes some
-- where a copy is doomed
abbrev pub takes_no_memory : Option Row → Command (List ℕ) → Bool
takes_no_memory row (command.Write id offset bytes) = true
takes_no_memory row (command.Release id) = true
takes_no_memory row command.Usage = true
takes_no_memory row command.Leave = option_map_or (λ r. total doomed_one r.copies == 0) row true
takes_no_memory row _ = false

-- an event that takes none
abbrev pub needs_no_memory : Hosted → Event → Bool
needs_no_memory node (event.Call job session c) = takes_no_memory (row_at node job) c
needs_no_memory node (event.Finish job number a) = true
needs_no_memory node _ = false
