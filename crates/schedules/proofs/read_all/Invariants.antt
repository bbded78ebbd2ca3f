use Rattle.std.proofs.Common.{◌≡◌, ◌≤◌, take}
use Rattle.std.specs.Prelude.{All}
use Rattle.std.specs.String.{string_bytes}
use Rattle.schedules.specs.Vectors.{IsFrameLine}
use Rattle.schedules.proofs.read_all.Given as goal

abbrev pub invariant-loop-line : goal.invariant-loop-line
invariant-loop-line l = record {
  all : l.tally.compared ≡ l.line-index;
  fewer : l.tally.differing ≤ l.tally.compared;
  right : l.tally.differing ≡ 0 → All (λ line. IsFrameLine (string_bytes line.text)) (take l.line-index l.lines);
}
