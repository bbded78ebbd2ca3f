use Rattle.std.proofs.Common.{◌≡◌, ◌≤◌, ◌+◌, ◌-◌, ◌++◌, drop, length, vec_len}
use Rattle.std.specs.Vec.{vec_capacity}
use Rattle.spill_work.specs.Turns.{timed}
use Rattle.spill_work.proofs.row.push_timed.Given as goal

-- those that are there, and those that are left, are all, and the numbers and turns count on
abbrev pub invariant-loop-id : goal.invariant-loop-id
invariant-loop-id l = record {
  all : l.works.items ++ timed l.fn.job l.fn.kind l.number l.turn (drop l.id-index l.fn.ids) ≡ l.fn.works.items ++ timed l.fn.job l.fn.kind l.fn.last l.fn.turn l.fn.ids;
  number : l.number ≡ l.fn.last + l.id-index;
  turn : l.turn ≡ l.fn.turn + l.id-index;
  room : vec_len l.works + (length l.fn.ids - l.id-index) ≤ vec_capacity l.works;
}
