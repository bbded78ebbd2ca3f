-- The table of kinds of commands says how many messages a command sends at most.
use Rattle.std.proofs.Common.{◌≡◌, ℕ, List, Option, refl}
use Rattle.obj_id.specs.declared.commands.Command.{Command}
use Rattle.obj_id.specs.declared.commands.Command.TheVariants as command
use Rattle.command_kinds.specs.Kinds.{kind_of, traits_of}
use Rattle.job_row.specs.Row.{Row}
use Rattle.node_core.specs.Foreseen.{most_by_command, most_sent}

pub most_is : (own : Option Row) (c : Command (List ℕ)) → most_sent own (traits_of (kind_of c)).sends ≡ most_by_command own c
most_is own (command.Create id kind n) = refl
most_is own _ = refl
