use Rattle.std.proofs.Common.{sym, subst}
use Rattle.std.proofs.lemmas.Str.{IsUtf8-string_bytes}
use Rattle.std.specs.Str.{IsUtf8}
use Rattle.journal_text.specs.Saved.{IsTypedLine}
use Rattle.journal_text.proofs.saved.line_text.Goals as goal

pub returns-clause-typed : goal.returns-clause-typed
returns-clause-typed c =
    subst (IsTypedLine c.args.place c.args.number) (sym c.in-Some.is) (c.typed.ensures, subst IsUtf8 c.in_ok-text.ensures (IsUtf8-string_bytes c.in_ok-text.text))
