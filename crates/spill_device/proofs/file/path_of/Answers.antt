use Rattle.std.proofs.Common.{rules}
use Rattle.std.proofs.lemmas.List.{append_assoc}
use Rattle.spill_device.proofs.file.path_of.Goals as goal

pub returns : goal.returns
returns c = simp append_assoc (search rules)
