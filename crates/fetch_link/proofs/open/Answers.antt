use Rattle.std.proofs.Common.{rules}
use Rattle.fetch_link.proofs.Steps.{IsInOrder-new, Forks-roles}
use Rattle.fetch_link.proofs.open.Goals as goal

pub bounded_with-requires-clause-rule : goal.bounded_with-requires-clause-rule
bounded_with-requires-clause-rule g c = IsInOrder-new

pub another-other-requires-clause-rule : goal.another-other-requires-clause-rule
another-other-requires-clause-rule g c = Forks-roles _ _ (search rules) (search rules)
