use Rattle.std.proofs.Common.{◌≡◌, not, filter}
use Rattle.obj_id.specs.Ids.{same_task}
use Rattle.pins_holds.specs.Pinned.{are_borrowing}
use Rattle.pins_holds.proofs.borrowers.Borrowers.has_other.Given as goal

-- what is left has another task if all have
abbrev pub invariant-loop-other : goal.invariant-loop-other
invariant-loop-other l = record {
  same : are_borrowing (filter (λ t. not (same_task l.fn.task t)) l.other-iterator) ≡ are_borrowing (filter (λ t. not (same_task l.fn.task t)) l.self);
}
