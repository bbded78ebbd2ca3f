use Rattle.std.proofs.Common.{◌≡◌, ◌++◌, drop}
use Rattle.std.specs.String.{string_bytes}
use Rattle.operator_service.specs.Counts.{counts_text}
use Rattle.operator_service.proofs.counting.counts_text.Given as goal

abbrev pub invariant-loop-count : goal.invariant-loop-count
invariant-loop-count l = string_bytes l.text ++ counts_text (drop l.count-index l.counts) ≡ counts_text l.counts
