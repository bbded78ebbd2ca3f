use Rattle.std.proofs.Common.{◌≡◌, ◌+◌, ◌-◌, ◌^◌, ◌≤◌}
use Rattle.std.specs.Prelude.{min}
use Rattle.private_store.specs.rules.Copies.{device_used}
use Rattle.plain_store.proofs.store.PlainStore.device_used_or_max.Given as goal

abbrev pub invariant-loop-id : goal.invariant-loop-id
invariant-loop-id l = record {
  rest : min (l.used + device_used (record l.self.shape { copies = l.id-iterator })) (2 ^ 64 - 1) ≡ min (device_used l.self.shape) (2 ^ 64 - 1);
  fits : l.used ≤ 2 ^ 64 - 1;
}
