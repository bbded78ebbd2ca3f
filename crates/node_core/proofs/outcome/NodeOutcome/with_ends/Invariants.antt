use Rattle.std.proofs.Common.{◌≡◌, ◌≤◌, ◌++◌, drop, length, map}
use Rattle.std.specs.Prelude.{vec_len, vec_capacity}
use Rattle.node_core.specs.Outcomes.{inputs_noted, end_noted}
use Rattle.node_core.proofs.outcome.NodeOutcome.with_ends.Given as goal

-- those so far and those of what is left are all, and there is room for each
abbrev pub invariant-loop-grant : goal.invariant-loop-grant
invariant-loop-grant l = record {
  response : inputs_noted l.notes.items ++ map end_noted (drop l.grant-index l.fn.ended) ≡ map end_noted l.fn.ended;
  few : vec_len l.notes ≤ l.grant-index;
  room : length l.fn.ended ≤ vec_capacity l.notes;
}
