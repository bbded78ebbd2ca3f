use Rattle.std.proofs.Common.{rules, arith, ◌∙◌}
use Rattle.std.proofs.lemmas.Slice.{overwrites}
use Rattle.sha2.specs.Sha256.{digest_bytes}
use Rattle.sha2.proofs.Absorbing256.{digest_more}
use Rattle.fast_sha256.proofs.Writing.{all_eight}
use Rattle.fast_sha256.proofs.bytes_of.Goals as goal

pub loop-i-init : goal.loop-i-init
unfolding digest_bytes
loop-i-init c = search rules

pub loop-i-preserved : goal.loop-i-preserved
loop-i-preserved c =
    let state = c.args.state.now in
    let written = c.copy_from_slice.ensures.after ∙ c.to_be_bytes.ensures in
    let begun = c.loop-i.invariant in
    (search (rules, overwrites), digest_more c.loop-i.bytes state _ c.loop-i.i _ begun.1 (omega (arith, begun.0)) written)

pub returns : goal.returns
returns c = all_eight c.args.state.now c.loop-i.bytes c.loop-i.i (omega arith) c.loop-i.invariant
