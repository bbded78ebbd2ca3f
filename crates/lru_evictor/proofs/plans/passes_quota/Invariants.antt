use Rattle.std.proofs.Common.{◌≡◌, ◌+◌, take, nat_lt}
use Rattle.lru_evictor.specs.Facts.{spilled_bytes}
use Rattle.lru_evictor.proofs.plans.passes_quota.Given as goal

-- all pass the quota if those that are still to be counted pass what is left of it
abbrev pub invariant-loop-id : goal.invariant-loop-id
invariant-loop-id g l =
    nat_lt l.left (spilled_bytes (g.C.CopyLookup.facts l.copies) (take l.more l.id-iterator))
    ≡ nat_lt l.fn.device.quota (l.fn.device.used + spilled_bytes (g.C.CopyLookup.facts l.copies) (take l.fn.count l.fn.candidates))
