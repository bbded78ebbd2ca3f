use Rattle.std.proofs.Common.{◌≡◌, ◌++◌, drop}
use Rattle.job_row.specs.Evicting.{removals}
use Rattle.room_commands.proofs.create_command.removals.Given as goal

-- those so far and those of what is left are all
abbrev pub invariant-loop-id : goal.invariant-loop-id
invariant-loop-id l = l.messages ++ removals l.fn.node l.fn.copies (drop l.id-index l.fn.ids) ≡ removals l.fn.node l.fn.copies l.fn.ids
