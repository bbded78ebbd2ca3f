use Rattle.std.proofs.Common.{rules, tests, ℕ, List, nat_eq, ◌∙◌, ap, sym}
use Rattle.std.proofs.lemmas.Iterator.{YieldsList-from_slice}
use Rattle.std.proofs.lemmas.Iterator.Search.{find_from_yields_List}
use Rattle.std.specs.Prelude.{find}
use Rattle.std.specs.Cmp.Lexicographic.{pointwise}
use Rattle.command_kinds.specs.Kinds.{kind_word}
use Rattle.command_kinds.specs.declared.command_kind.CommandKind.{CommandKind}
use Rattle.schedule_text.specs.Words.{all_kinds}
use Rattle.schedule_text.proofs.WordTables.{find-kind_word}
use Rattle.schedule_text.proofs.words.kind_named.Goals as goal

pub returns : goal.returns
returns c = record {
  sound = search rules;
  whole = λ kind is.
      c.copied.ensures
      ∙ find_from_yields_List (λ (x : CommandKind). pointwise nat_eq (kind_word x) c.args.field.now) _ _ c.find.result c.find.ensures.ran (YieldsList-from_slice all_kinds cc) (λ x b q k. search (rules, tests))
      ∙ ap (λ (text : List ℕ). find (λ x. pointwise nat_eq (kind_word x) text) all_kinds) (sym is) ∙ find-kind_word kind;
}
