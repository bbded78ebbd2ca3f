use Rattle.std.proofs.Common.{rules}
use Rattle.std.proofs.lemmas.List.{append_assoc}
use Rattle.operator_service.proofs.counting.lock_text.Goals as goal

pub returns : goal.returns
returns c = simp append_assoc (search rules)
