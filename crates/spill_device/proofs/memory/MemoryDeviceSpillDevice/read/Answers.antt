use Rattle.std.proofs.Common.{◌≡◌, ◌==◌, true, Some, length, refl, rules}
use Rattle.std.proofs.lemmas.Result.{err_from_is_err_and}
use Rattle.spill_device.specs.Held.{held_bytes_at}
use Rattle.spill_device.proofs.HeldLemmas.{holds_bytes}
use Rattle.spill_device.proofs.memory.MemoryDeviceSpillDevice.read.Goals as goal

pub returns-in_err-again-clause-gives : goal.returns-in_err-again-clause-gives
returns-in_err-again-clause-gives c =
    let p = err_from_is_err_and c.from_residual.result c.from_residual.ensures.1 in
    let bytes = c.in-Some.bytes.now in
    let at : held_bytes_at c.args.self.now c.args.key ≡ Some bytes = search rules in
    let long : (length bytes == c.args.len) ≡ true = search rules in
    rw (p.1, p.2) (holds_bytes c.args.self.now c.args.key c.args.len bytes at long, refl)
