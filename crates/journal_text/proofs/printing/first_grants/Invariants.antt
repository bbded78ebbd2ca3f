use Rattle.std.proofs.Common.{◌≡◌, ◌++◌, drop}
use Rattle.std.specs.String.{string_bytes}
use Rattle.journal_text.specs.Printing.{first_grants_text}
use Rattle.journal_text.proofs.printing.first_grants.Given as goal

abbrev pub invariant-loop-item : goal.invariant-loop-item
invariant-loop-item l = string_bytes l.text ++ first_grants_text l.job.0 (drop l.item-index l.items) ≡ first_grants_text l.job.0 l.items
