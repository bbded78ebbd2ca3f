use Rattle.std.proofs.Common.{◌≡◌, ◌*◌, ◌/◌, ◌+◌, ◌-◌, take, take-add, length, ap, arith}
use Rattle.std.proofs.lemmas.List.{take-append-drop, take_rest}
use Rattle.hashed_bytes.proofs.digest_in_parts.Goals as goal

pub loop-i-preserved : goal.loop-i-preserved
loop-i-preserved c =
    let step = c.update_blocks.ensures (take (16384 * c.loop-i.i) c.args.bytes.now) c.loop-i.invariant in
    let width : 16384 * (c.loop-i.i + 1) - 16384 * c.loop-i.i ≡ 16384 = omega arith in
    let end : 16384 * (c.loop-i.i + 1) ≡ 16384 * c.loop-i.i + 16384 = omega arith in
    rw (end, take-add (16384 * c.loop-i.i) 16384 c.args.bytes.now) (rw width at step)

pub returns : goal.returns
returns c =
    let all = c.finish.ensures (take (16384 * c.loop-i.i) c.args.bytes.now) c.loop-i.invariant in
    let count : length c.args.bytes.now / 16384 ≡ c.loop-i.i = omega arith in
    ap (λ d. record { 0 = d }) (rw (count, take_rest c.args.bytes.now (16384 * c.loop-i.i), take-append-drop (16384 * c.loop-i.i) c.args.bytes.now) at all)
