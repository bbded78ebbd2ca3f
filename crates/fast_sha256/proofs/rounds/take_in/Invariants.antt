use Rattle.std.proofs.Common.{◌≡◌, ◌+◌, ◌*◌}
use Rattle.sha2.specs.Sha256.{rounds, schedule}
use Rattle.fast_sha256.specs.Words.{AreSums, AreWords}
use Rattle.fast_sha256.proofs.rounds.take_in.Given as goal

abbrev pub invariant-turns : goal.invariant-turns
invariant-turns l =
    AreWords l.w0 (16 * l.turn) (schedule l.block 48) × AreWords l.w1 (16 * l.turn + 4) (schedule l.block 48)
    × AreWords l.w2 (16 * l.turn + 8) (schedule l.block 48) × AreWords l.w3 (16 * l.turn + 12) (schedule l.block 48)
    × AreSums l.sums (16 * l.turn + 16) (schedule l.block 48)
    × (l.v ≡ rounds l.state (schedule l.block 48) (16 * l.turn))
