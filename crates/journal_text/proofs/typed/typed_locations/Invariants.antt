use Rattle.std.proofs.Common.{take}
use Rattle.std.specs.Prelude.{All}
use Rattle.journal_text.specs.Writable.{FitsLocation}
use Rattle.journal_text.proofs.typed.typed_locations.Given as goal

abbrev pub invariant-loop-entry : goal.invariant-loop-entry
invariant-loop-entry l = All FitsLocation (take l.entry-index l.entries)
