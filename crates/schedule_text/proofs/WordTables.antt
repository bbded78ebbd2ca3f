-- A kind of command is found by its word, and a verb by its text.
use Rattle.std.proofs.Common.{◌≡◌, nat_eq, Some, refl}
use Rattle.std.specs.Prelude.{find}
use Rattle.std.specs.Cmp.Lexicographic.{pointwise}
use Rattle.command_kinds.specs.Kinds.{kind_word}
use Rattle.command_kinds.specs.declared.command_kind.CommandKind.{CommandKind}
use Rattle.command_kinds.specs.declared.command_kind.CommandKind.TheVariants as kinds
use Rattle.schedule_text.specs.Words.{all_kinds, all_verbs, verb_text}
use Rattle.schedule_text.specs.declared.words.Verb.{Verb}
use Rattle.schedule_text.specs.declared.words.Verb.TheVariants.{Admit, Quota, End, Cmd, Take, Finish, Deliver}

-- the first kind of a kind's word is that kind
pub find-kind_word : (kind : CommandKind) → find (λ x. pointwise nat_eq (kind_word x) (kind_word kind)) all_kinds ≡ Some kind
find-kind_word kinds.Create = refl
find-kind_word _ = refl

-- and the first verb of a verb's text
pub find-verb_text : (verb : Verb) → find (λ x. pointwise nat_eq (verb_text x) (verb_text verb)) all_verbs ≡ Some verb
find-verb_text Admit = refl
find-verb_text Quota = refl
find-verb_text End = refl
find-verb_text Cmd = refl
find-verb_text Take = refl
find-verb_text Finish = refl
find-verb_text Deliver = refl
