-- The words of the schedule.
use Rattle.std.specs.Prelude.{ℕ, List, [], ◌∷◌, codes}
use Rattle.command_kinds.specs.declared.command_kind.CommandKind.{CommandKind}
use Rattle.command_kinds.specs.declared.command_kind.CommandKind.TheVariants as kinds
use Rattle.command_kinds.specs.Kinds.{kind_word}
use Rattle.schedule_text.specs.declared.words.Word.{Word}
use Rattle.schedule_text.specs.declared.words.Word.TheVariants.{Of, Copy}
use Rattle.schedule_text.specs.declared.words.Verb.{Verb}
use Rattle.schedule_text.specs.declared.words.Verb.TheVariants.{Admit, Quota, End, Cmd, Take, Finish, Deliver}
use Rattle.schedule_text.specs.declared.line.FinishWord.{FinishWord}
use Rattle.schedule_text.specs.declared.line.FinishWord.TheVariants as outcome

-- what a command begins with
abbrev pub word_text : Word → List ℕ
word_text (Of kind) = kind_word kind
word_text Copy = codes "copy"

-- what a line begins with
abbrev pub verb_text : Verb → List ℕ
verb_text Admit = codes "admit"
verb_text Quota = codes "quota"
verb_text End = codes "end"
verb_text Cmd = codes "cmd"
verb_text Take = codes "take"
verb_text Finish = codes "finish"
verb_text Deliver = codes "deliver"

abbrev pub outcome_text : FinishWord → List ℕ
outcome_text outcome.Ok = codes "ok"
outcome_text outcome.Fail = codes "fail"
outcome_text outcome.Damage = codes "damage"

abbrev pub all_kinds : List CommandKind
all_kinds =
    kinds.Create
    ∷ kinds.Write
    ∷ kinds.Seal
    ∷ kinds.Get
    ∷ kinds.Read
    ∷ kinds.Release
    ∷ kinds.Unpin
    ∷ kinds.Borrow
    ∷ kinds.GiveUp
    ∷ kinds.Delete
    ∷ kinds.EndTask
    ∷ kinds.Grant
    ∷ kinds.Withdraw
    ∷ kinds.Peek
    ∷ kinds.List
    ∷ kinds.Usage
    ∷ kinds.Leave
    ∷ kinds.GetWait
    ∷ kinds.CreateWait
    ∷ []

abbrev pub all_verbs : List Verb
all_verbs = Admit ∷ Quota ∷ End ∷ Cmd ∷ Take ∷ Finish ∷ Deliver ∷ []
