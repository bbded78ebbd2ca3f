use Rattle.std.proofs.Common.{◌≡◌, ◌++◌, ◌+◌, ◌-◌, ◌*◌, ◌/◌, ◌%◌, length, length-append, arith, refl, ap, ◌∙◌}
use Rattle.sha2.specs.Sha256.{hash_after, initial_hash_256}
use Rattle.fast_sha256.proofs.Messages.{Holds_from, Holds_length, Holds_state, Holds_whole, none_yet, one_block_more}
use Rattle.fast_sha256.proofs.Sha256.update_blocks.Goals as goal

pub loop-i-init : goal.loop-i-init
loop-i-init c = (
  refl,
  λ message held.
      Holds_state c.args.self.now message held ∙ none_yet message c.args.blocks.now (Holds_whole c.args.self.now message held),
)

pub loop-i-preserved : goal.loop-i-preserved
loop-i-preserved c =
    let blocks = c.args.blocks.now in
    let width : 64 * c.loop-i.i + 64 - 64 * c.loop-i.i ≡ 64 = omega arith in (
      c.loop-i.invariant.0,
      λ message held.
          rw (c.take_in.ensures, width)
          (one_block_more message blocks c.loop-i.self.state c.loop-i.i (Holds_whole c.args.self.now message held) (c.loop-i.invariant.1 message held)),
    )

pub returns : goal.returns
returns c = λ message held.
    let blocks = c.args.blocks.now in
    let whole : length message % 64 ≡ 0 = Holds_whole c.args.self.now message held in
    let long : length (message ++ blocks) ≡ length message + length blocks = length-append message blocks in
    let count : length message / 64 + c.loop-i.i ≡ length (message ++ blocks) / 64 = omega arith in
    Holds_from _ (message ++ blocks) (omega arith) (omega (arith, Holds_length c.args.self.now message held))
    (c.loop-i.invariant.1 message held ∙ ap (hash_after initial_hash_256 (message ++ blocks)) count)
