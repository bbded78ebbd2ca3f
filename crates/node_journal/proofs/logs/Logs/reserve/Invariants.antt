use Rattle.std.proofs.Common.{◌≡◌, ℕ, ◌≤◌, ◌+◌, true, take, length}
use Rattle.std.specs.List.{list_any}
use Rattle.obj_id.specs.declared.ids.JobNo.{JobNo}
use Rattle.private_store.specs.rules.Jobs.{same_job}
use Rattle.node_journal.specs.Logs.{journal_of, spare_of}
use Rattle.node_journal.proofs.logs.Logs.reserve.Given as goal

-- the journals stand, and those before have room
abbrev pub invariant-loop-grantee : goal.invariant-loop-grantee
invariant-loop-grantee l =
    ((other : ℕ) → journal_of l.self other ≡ journal_of l.fn.self other)
    × ((grantee : JobNo) → list_any (same_job grantee) (take l.grantee-index l.grantees) ≡ true → length l.grantees + 1 ≤ spare_of l.self grantee.0)
