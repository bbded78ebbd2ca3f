use Rattle.std.proofs.Common.{◌≡◌, refl, subst, Some, rules}
use Rattle.spill_device.specs.Held.{Held, Becomes}
use Rattle.spill_device.proofs.memory.MemoryDeviceSpillDevice.write.Goals as goal

pub returns-clause-gives : goal.returns-clause-gives
returns-clause-gives c =
    let new : Held = record { stored = c.insert.new.map.entries; failures = c.self.inside.failures } in
    let whole : c.in_ok-copied.copied ≡ c.args.bytes.now = search rules in
    subst (λ held. Becomes held c.args.key (Some c.args.bytes.now) new) c.self.view_is
    (rw (← whole) (record { bytes = search rules; failures = refl }))
