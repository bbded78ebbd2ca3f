use Rattle.std.proofs.Common.{◌≡◌, drop, length, fold}
use Rattle.obj_id.specs.declared.ids.ObjectId.{ObjectId}
use Rattle.grants.specs.Private.{with_taken}
use Rattle.node_core.specs.Hosted.{bytes_here}
use Rattle.node_snapshot.proofs.job_grants.received.Given as goal
use Rattle.row_steps.specs.Beside.{received_by}

-- those so far and those of what is left are all
abbrev pub invariant-loop-grant : goal.invariant-loop-grant
invariant-loop-grant l =
    fold (with_taken (λ (id : ObjectId). length (bytes_here l.fn.node.rows id))) l.seen.entries (drop l.grant-index l.grant-items) ≡ received_by (bytes_here l.fn.node.rows) l.fn.node.grants l.fn.job.0
