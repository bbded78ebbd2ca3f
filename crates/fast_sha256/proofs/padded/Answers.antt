use Rattle.std.proofs.Common.{◌≡◌, ◌-◌, length, arith, ◌∙◌}
use Rattle.fast_sha256.proofs.Messages.{length_after}
use Rattle.fast_sha256.proofs.padded.Goals as goal

pub returns-clause-one : goal.returns-clause-one
returns-clause-one c = λ short.
    let end : c.padded_length-end.result ≡ 64 = c.padded_length-end.ensures.one short in
    length_after c.args.tail.now _ _ _ _ _ (55 - length c.args.tail.now) 64 c.marked-last.ensures (omega arith)
    (c.copy_from_slice.ensures.after ∙ c.to_be_bytes.ensures) (omega arith) (omega arith) (omega arith)

pub returns-clause-two : goal.returns-clause-two
returns-clause-two c = λ long.
    let end : c.padded_length-end.result ≡ 128 = c.padded_length-end.ensures.two long in
    length_after c.args.tail.now _ _ _ _ _ (119 - length c.args.tail.now) 128 c.marked-last.ensures (omega arith)
    (c.copy_from_slice.ensures.after ∙ c.to_be_bytes.ensures) (omega arith) (omega arith) (omega arith)
