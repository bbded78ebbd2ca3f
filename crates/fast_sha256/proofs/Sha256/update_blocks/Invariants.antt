use Rattle.std.proofs.Common.{◌≡◌, ℕ, ◌++◌, ◌+◌, ◌/◌, ◌%◌, ◌^◌, List, length}
use Rattle.sha2.specs.Sha256.{hash_after, initial_hash_256}
use Rattle.fast_sha256.specs.Messages.{Holds}
use Rattle.fast_sha256.proofs.Sha256.update_blocks.Given as goal

abbrev pub invariant-loop-i : goal.invariant-loop-i
invariant-loop-i l =
    (l.self.length ≡ (l.fn.self.length + length l.blocks) % 2 ^ 64)
    × ((message : List ℕ) → Holds l.fn.self message
    → l.self.state ≡ hash_after initial_hash_256 (message ++ l.blocks) (length message / 64 + l.i))
