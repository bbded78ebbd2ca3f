use Rattle.std.proofs.Common.{◌≡◌, ◌≤◌, ◌++◌, ◌-◌, take, length}
use Rattle.use_tree.specs.declared.classes.VictimClass.TheVariants.{Spillable}
use Rattle.lru_evictor.specs.Indexed.{chosen_ids}
use Rattle.lru_evictor.proofs.plans.spillable.Given as goal

-- those so far and the first of those that are left are all
abbrev pub invariant-loop-id : goal.invariant-loop-id
invariant-loop-id l = record {
  within : length l.ids.items ≤ l.count;
  all : l.ids.items ++ take (l.count - length l.ids.items) l.id-iterator ≡ take l.count (chosen_ids Spillable 4611686018427387904 l.index.0);
}
