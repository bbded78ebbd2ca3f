use Rattle.std.proofs.Common.{refl, subst, None, rules}
use Rattle.spill_device.specs.Held.{Held, Becomes}
use Rattle.spill_device.proofs.memory.MemoryDeviceSpillDevice.erase.Goals as goal

pub returns-clause-gives : goal.returns-clause-gives
returns-clause-gives c =
    let new : Held = record { stored = c.remove.new.self.entries; failures = c.self.inside.failures } in
    subst (λ held. Becomes held c.args.key None new) c.self.view_is (record { bytes = search rules; failures = refl })
