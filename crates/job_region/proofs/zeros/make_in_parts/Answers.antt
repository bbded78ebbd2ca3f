use Rattle.std.proofs.Common.{◌*◌, ◌+◌, ◌≤◌, ◌∙◌, arith}
use Rattle.job_region.proofs.Refilled.{more_zeros}
use Rattle.job_region.proofs.zeros.make_in_parts.Goals as goal

pub loop-count-preserved : goal.loop-count-preserved
loop-count-preserved c =
    let zeros = c.loop-count.zeros in
    let made = c.loop-count.count * 65536 in
    let more : made ≤ (c.loop-count.count + 1) * 65536 = omega arith in
    c.in_ok-resize.ensures.items ∙ more_zeros zeros.items zeros.len made ((c.loop-count.count + 1) * 65536) zeros.ok.0 c.loop-count.invariant more

pub returns : goal.returns
returns c =
    let zeros = c.loop-count.zeros in
    let made = c.loop-count.count * 65536 in
    let done = c.loop-count.auto.count-end in
    let within : made ≤ c.args.len = omega arith in
    c.in_ok-resize-2.ensures.items ∙ more_zeros zeros.items zeros.len made c.args.len zeros.ok.0 c.loop-count.invariant within
