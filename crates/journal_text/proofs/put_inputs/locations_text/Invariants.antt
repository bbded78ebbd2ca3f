use Rattle.std.proofs.Common.{◌≡◌, ◌++◌, drop, map}
use Rattle.std.specs.String.{string_bytes}
use Rattle.journal_text.specs.Printing.{location_field, spaced_text}
use Rattle.journal_text.proofs.put_inputs.locations_text.Given as goal

abbrev pub invariant-loop-entry : goal.invariant-loop-entry
invariant-loop-entry l = string_bytes l.text ++ spaced_text (map location_field (drop l.entry-index l.entries)) ≡ spaced_text (map location_field l.entries)
