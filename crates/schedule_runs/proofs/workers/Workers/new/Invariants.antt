use Rattle.std.proofs.Common.{◌≡◌, [], replicate}
use Rattle.schedule_runs.proofs.workers.Workers.new.Given as goal

abbrev pub invariant-loop : goal.invariant-loop
invariant-loop l = l.devices.items ≡ replicate l.counter (record { stored = []; failures = 0 })
