use Rattle.std.proofs.Common.{sym, ap, ◌∙◌, arith}
use Rattle.std.specs.Option.{option_copied}
use Rattle.job_region.proofs.Resized.{last_end-got}
use Rattle.job_region.proofs.extents.end_of_last.Goals as goal

pub overflow_add-result : goal.overflow_add-result
overflow_add-result c =
    let found = last_end-got c.args.at c.args.extents.now c.in-Some.last.now (sym (ap option_copied c.in-Some.is) ∙ c.last.ensures.value) in
    omega (arith, found, c.requires)

pub returns-in-Some : goal.returns-in-Some
returns-in-Some c = sym (last_end-got c.args.at c.args.extents.now c.in-Some.last.now (sym (ap option_copied c.in-Some.is) ∙ c.last.ensures.value))
