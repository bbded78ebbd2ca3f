use Rattle.std.proofs.Common.{map, drop}
use Rattle.journal_text.specs.Locations.{IsLocation}
use Rattle.journal_text.proofs.EachField.{IsReadUpTo}
use Rattle.journal_text.proofs.locations.locations.Given as goal

abbrev pub invariant-loop-field : goal.invariant-loop-field
invariant-loop-field l = IsReadUpTo IsLocation (map (λ field. field.now) l.fields) (map (λ field. field.now) (drop l.field-index l.fields)) l.entries
