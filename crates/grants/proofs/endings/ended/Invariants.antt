use Rattle.std.proofs.Common.{◌≡◌, [], drop}
use Rattle.private_store.specs.rules.Grants.{ended_from}
use Rattle.grants.specs.Table.{is_ended_by}
use Rattle.grants.proofs.endings.ended.Given as goal

abbrev pub invariant-loop-grant : goal.invariant-loop-grant
invariant-loop-grant l = ended_from (is_ended_by l.ending) l.gone (drop l.grant-index l.grants.items) ≡ ended_from (is_ended_by l.ending) [] l.grants.items
