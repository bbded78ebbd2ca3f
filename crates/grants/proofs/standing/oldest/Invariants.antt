use Rattle.std.proofs.Common.{◌≡◌, drop}
use Rattle.std.specs.Prelude.{find}
use Rattle.grants.specs.Table.{shows}
use Rattle.grants.proofs.standing.oldest.Given as goal

abbrev pub invariant-loop-grant : goal.invariant-loop-grant
invariant-loop-grant l = find (shows l.id l.job.0) l.grants.items ≡ find (shows l.id l.job.0) (drop l.grant-index l.grants.items)
