use Rattle.std.proofs.Common.{◌≢◌, ◌∷◌, ℕ, List, arith}
use Rattle.std.proofs.lemmas.Str.Pattern.{strip_prefix_char}
use Rattle.journal_text.proofs.Marks.{Reads-uncounted}
use Rattle.journal_text.proofs.fields.count.Goals as goal

pub returns-in_err-strip_prefix : goal.returns-in_err-strip_prefix
returns-in_err-strip_prefix c =
    let stripped = strip_prefix_char 35 c.args.field.now c.strip_prefix.result c.strip_prefix.ensures.cases (omega arith) in
    let unmarked : (rest : List ℕ) → c.args.field.now ≢ 35 ∷ rest = rw c.in_err-strip_prefix.was at stripped in
    rw c.from_residual.ensures (Reads-uncounted _ unmarked)
