use Rattle.std.proofs.Common.{rules, ◌≡◌, codes}
use Rattle.program_lines.proofs.Asking.{counts_read, usage_reads}
use Rattle.program_lines.proofs.control_lines.look_after.Goals as goal

pub returns-then-eq-3 : goal.returns-then-eq-3
returns-then-eq-3 c =
    let is : c.args.word.now ≡ codes "usage" = search rules in
    usage_reads c.args.nodes c.args.word.now is _ _ c.job_look.ensures

pub returns-then-eq-5 : goal.returns-then-eq-5
returns-then-eq-5 c =
    let is : c.args.word.now ≡ codes "counts" = search rules in
    counts_read c.args.nodes c.args.word.now is _ _ c.counts_look.ensures
