use Rattle.std.proofs.Common.{◌≡◌, ◌≤◌, ◌++◌, drop, fold, length, map}
use Rattle.std.specs.Prelude.{vec_len, vec_capacity}
use Rattle.job_row.specs.Dropping.{left_row, keys_left}
use Rattle.row_commands.proofs.hold_commands.leave_each.Given as goal

-- once those that are left are done it is all done, and there is room for a key of each
abbrev pub invariant-loop-item : goal.invariant-loop-item
invariant-loop-item l = record {
  row : fold (left_row l.session) l.row (map (λ item. item.id) (drop l.item-index l.items)) ≡ fold (left_row l.session) l.initial.row (map (λ item. item.id) l.items);
  keys : l.keys.items ++ keys_left l.session l.row (map (λ item. item.id) (drop l.item-index l.items)) ≡ keys_left l.session l.initial.row (map (λ item. item.id) l.items);
  few : vec_len l.keys ≤ l.item-index;
  room : length l.items ≤ vec_capacity l.keys;
}
