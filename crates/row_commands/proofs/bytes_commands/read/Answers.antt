use Rattle.std.proofs.Common.{take, drop, sym, ap, ◌∙◌}
use Rattle.job_row.specs.Checks.{read_check}
use Rattle.row_commands.proofs.Writing.{read_refused, read_done, read_found}
use Rattle.row_commands.proofs.bytes_commands.read.Goals as goal

pub returns-in-Some-clause-ok : goal.returns-in-Some-clause-ok
returns-in-Some-clause-ok c node beside contents mine h =
    read_refused node c.args.row.now beside contents c.args.session c.args.id.now c.args.offset mine h c.args.len c.in-Some.refusal
    (ap (λ t. read_check t c.args.session c.args.id.now c.args.offset c.args.len) (sym c.copies.ensures.copies) ∙ sym c.read_check.ensures ∙ c.in-Some.is)

pub returns-clause-ok : goal.returns-clause-ok
returns-clause-ok c node beside contents mine h =
    let passed = ap (λ t. read_check t c.args.session c.args.id.now c.args.offset c.args.len) (sym c.copies.ensures.copies) ∙ sym c.read_check.ensures ∙ c.in_default.is in
    read_done node c.args.row.now beside contents c.args.session c.args.id.now c.args.offset mine h c.args.len passed c.in_ok-bytes.bytes
    (c.in_ok-bytes.ensures ∙ ap (λ bs. take c.args.len (drop c.args.offset bs)) (read_found node c.args.row.now beside contents c.args.session c.args.id.now c.args.offset mine h c.args.len passed c.lent.result.bytes.now c.lent.ensures.bytes))
