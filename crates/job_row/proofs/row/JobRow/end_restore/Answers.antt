use Rattle.std.proofs.Common.{sym, ap, ◌∙◌}
use Rattle.private_store.specs.rules.Tables.{at}
use Rattle.row_copy.specs.CopyViews.{after_restore}
use Rattle.job_row.specs.Scope.{with_copy}
use Rattle.job_row.proofs.row.JobRow.end_restore.Goals as goal

pub apply-requires-clause-can : goal.apply-requires-clause-can
apply-requires-clause-can c k found = c.requires k (ap (λ t. at t c.args.id.now) (sym c.put_all_bytes.ensures.copies) ∙ found)

pub returns-clause-absent : goal.returns-clause-absent
returns-clause-absent c none = c.apply.ensures.row ∙ ap (λ r. with_copy after_restore r c.args.id.now) (c.put_all_bytes.ensures.absent none)

pub returns-clause-outside : goal.returns-clause-outside
returns-clause-outside c e lies long = c.apply.ensures.row ∙ ap (λ r. with_copy after_restore r c.args.id.now) (c.put_all_bytes.ensures.outside e lies long)

pub returns-clause-row : goal.returns-clause-row
returns-clause-row c e lies fits = c.apply.ensures.row ∙ ap (λ r. with_copy after_restore r c.args.id.now) (c.put_all_bytes.ensures.row e lies fits)
