use Rattle.std.proofs.Common.{map, drop}
use Rattle.journal_text.specs.Items.{IsItem}
use Rattle.journal_text.proofs.EachField.{IsReadUpTo}
use Rattle.journal_text.proofs.items.items.Given as goal

abbrev pub invariant-loop-field : goal.invariant-loop-field
invariant-loop-field l = IsReadUpTo (IsItem l.version l.job.0) (map (λ field. field.now) l.fields) (map (λ field. field.now) (drop l.field-index l.fields)) l.items
