-- The commands of sessions, with the number of written bytes in place of the bytes.
use Rattle.std.specs.Prelude.{◌≡◌, ℕ, List, [], ◌∷◌, codes}
use Rattle.obj_id.specs.declared.ids.ObjectId.{ObjectId}
use Rattle.obj_id.specs.declared.commands.Command.{Command}
use Rattle.obj_id.specs.declared.commands.Command.TheVariants as command
use Rattle.command_kinds.specs.declared.command_kind.CommandKind.TheVariants as kinds
use Rattle.schedule_text.specs.declared.words.Word.{Word}
use Rattle.schedule_text.specs.declared.words.Word.TheVariants as word
use Rattle.schedule_text.specs.Fields.{IsFieldMade, IsTarget}
use Rattle.schedule_text.specs.Words.{word_text}
use Rattle.schedule_text.specs.Reading.{IsPlainCommand}
use Rattle.journal_text.specs.Fields.{IsCount, HasMark}

-- `ID OFF #N`
abbrev pub IsIdCount : ℕ → List (List ℕ) → (ObjectId × ℕ) × ℕ → Type 0
IsIdCount job (id ∷ offset ∷ count ∷ []) x = IsTarget job id offset x.0 × IsCount count x.1
IsIdCount job _ x = ⊥

-- the command that a word and the fields after it spell, for the job that speaks
abbrev pub IsCommandWithoutPayloadOf : ℕ → Word → List (List ℕ) → Command ℕ → Type 0
IsCommandWithoutPayloadOf job (word.Of kinds.Write) fields c = IsFieldMade (IsIdCount job fields) (λ x. command.Write x.0.0 x.0.1 x.1) c
IsCommandWithoutPayloadOf job word fields c = IsPlainCommand job word fields c

-- the same, with the word's field
pub record IsCommandWithoutPayloadText (job : ℕ) (field : List ℕ) (fields : List (List ℕ)) (c : Command ℕ) : Type 0 where
  pub word : Word
  pub named : word_text word ≡ field
  pub spelled : IsCommandWithoutPayloadOf job word fields c

abbrev pub IsCommandWithoutPayload : ℕ → List (List ℕ) → Command ℕ → Type 0
IsCommandWithoutPayload job [] c = ⊥
IsCommandWithoutPayload job (field ∷ fields) c = IsCommandWithoutPayloadText job field fields c

-- `sSESSION` and a command
abbrev pub IsCallText : ℕ → List ℕ → List (List ℕ) → ℕ × Command ℕ → Type 0
IsCallText job field fields x = HasMark (codes "s") field x.0 × IsCommandWithoutPayload job fields x.1
