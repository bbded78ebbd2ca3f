use Rattle.std.proofs.Common.{rules, tests, ℕ, List, nat_eq, ◌∙◌, ap, sym}
use Rattle.std.proofs.lemmas.Iterator.{YieldsList-from_slice}
use Rattle.std.proofs.lemmas.Iterator.Search.{find_from_yields_List}
use Rattle.std.specs.Prelude.{find}
use Rattle.std.specs.Cmp.Lexicographic.{pointwise}
use Rattle.schedule_text.specs.Words.{all_verbs, verb_text}
use Rattle.schedule_text.specs.declared.words.Verb.{Verb}
use Rattle.schedule_text.proofs.WordTables.{find-verb_text}
use Rattle.schedule_text.proofs.words.Verb.read.Goals as goal

pub returns : goal.returns
returns c = record {
  sound = search rules;
  whole = λ word is.
      c.copied.ensures
      ∙ find_from_yields_List (λ (x : Verb). pointwise nat_eq (verb_text x) c.args.field.now) _ _ c.find.result c.find.ensures.ran (YieldsList-from_slice all_verbs cc) (λ x b q k. search (rules, tests))
      ∙ ap (λ (text : List ℕ). find (λ x. pointwise nat_eq (verb_text x) text) all_verbs) (sym is) ∙ find-verb_text word;
}
