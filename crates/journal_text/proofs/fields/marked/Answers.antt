use Rattle.std.proofs.Common.{◌≢◌, ◌∷◌, ℕ, List}
use Rattle.std.proofs.lemmas.Str.Pattern.{strip_prefix_char}
use Rattle.journal_text.proofs.Marks.{Reads-unmarked}
use Rattle.journal_text.proofs.fields.marked.Goals as goal

pub returns-in_err-strip_prefix : goal.returns-in_err-strip_prefix
returns-in_err-strip_prefix c =
    let stripped = strip_prefix_char c.args.mark c.args.field.now c.strip_prefix.result c.strip_prefix.ensures.cases c.requires in
    let unmarked : (rest : List ℕ) → c.args.field.now ≢ c.args.mark ∷ rest = rw c.in_err-strip_prefix.was at stripped in
    rw c.from_residual.ensures (Reads-unmarked _ _ unmarked)
