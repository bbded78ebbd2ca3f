use Rattle.std.proofs.Common.{rules}
use Rattle.row_copy.specs.Marks.{marked_by}
use Rattle.job_row.proofs.copies.Copies.apply.Goals as goal

pub update-requires : goal.update-requires
update-requires c = λ p here. let ready = c.requires p.now here in search rules

pub returns-clause-copies : goal.returns-clause-copies
returns-clause-copies c = c.update.ensures.copies (marked_by c.args.mark) (λ p q post. search rules)
