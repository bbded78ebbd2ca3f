use Rattle.std.proofs.Common.{◌≡◌, ◌++◌, drop}
use Rattle.std.specs.String.{string_bytes}
use Rattle.schedule_text.specs.Printing.{granted_items_text}
use Rattle.schedule_text.proofs.items.granted_items.Given as goal

abbrev pub invariant-loop-item : goal.invariant-loop-item
invariant-loop-item l = string_bytes l.text ++ granted_items_text l.job.0 (drop l.item-index l.items) ≡ granted_items_text l.job.0 l.items
