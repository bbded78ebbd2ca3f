use Rattle.std.proofs.Common.{◌≡◌, ◌+◌, ◌-◌, ◌≤◌, length, take, drop, ap, subst, ◌∙◌, arith}
use Rattle.private_store.specs.rules.Frames.{number_at}
use Rattle.wire_frames.specs.Finishing.{IsFilled}
use Rattle.wire_frames.proofs.Finishing.{completed, rest_taken}
use Rattle.wire_frames.proofs.reader.complete.Goals as goal

pub returns-clause-ok : goal.returns-clause-ok
returns-clause-ok c =
    let piece = c.args.piece.now in
    let taken = c.in_ok-taken.taken in
    let more = c.in_ok-fill_to.field-0 in
    let size = c.number_at-size.result in
    let middle = c.fill_to.new.kept.items in
    let after = c.fill_to-2.new.kept.items in
    let long : 4 ≤ length middle = omega (arith, c.if-len-lt4.false, c.len.ensures.value) in
    let number : size ≡ number_at middle 0 = c.number_at-size.ensures ∙ ap (λ b. number_at b 0) c.as_slice.ensures in
    let following = take (length piece - taken) (drop taken piece) in
    let kept : IsFilled (4 + size) middle following more after =
    subst (λ b. IsFilled (4 + size) b following more after) c.reserve.ensures.items c.in_ok-fill_to.ensures.ok in
    let filled : IsFilled (4 + size) middle (drop taken piece) more after =
    subst (λ b. IsFilled (4 + size) middle b more after) (rest_taken piece taken) kept in
    completed c.args.kept.now.items piece taken more size middle after c.requires c.in_ok-taken.ensures.ok long number filled
