use Rattle.std.proofs.Common.{take}
use Rattle.std.specs.Prelude.{All}
use Rattle.journal_text.specs.Typed.{FitsOwn}
use Rattle.journal_text.proofs.typed.typed_own.Given as goal

abbrev pub invariant-loop-item : goal.invariant-loop-item
invariant-loop-item l = All FitsOwn (take l.item-index l.items)
