use Rattle.std.proofs.Common.{rules}
use Rattle.std.proofs.lemmas.List.{append_assoc}
use Rattle.journal_replay.proofs.program.place_text.Goals as goal

pub returns : goal.returns
returns c = simp append_assoc (search rules)
