use Rattle.std.proofs.Common.{◌≡◌, ◌++◌, true, length, map, reverse}
use Rattle.std.specs.List.{list_all}
use Rattle.std.specs.Vec.Iter.{into_iter_items, into_iter_len}
use Rattle.world_core.specs.Worlds.{is_within, IsAfter}
use Rattle.world_core.specs.Runs.{all_replied}
use Rattle.world_core.proofs.runs.run.Given as goal

abbrev pub invariant-loop-step : goal.invariant-loop-step
invariant-loop-step l = record {
  after : IsAfter l.fn.shape.nodes l.fn.shape.memory l.world (reverse l.trace);
  steps : map (λ entry. entry.step) l.trace ++ into_iter_items l.step-iterator ≡ l.fn.schedule.items;
  replied : all_replied l.trace ≡ true;
  places : list_all (is_within l.fn.shape.nodes) (into_iter_items l.step-iterator) ≡ true;
  left : into_iter_len l.step-iterator ≡ length (into_iter_items l.step-iterator);
}
