-- A command that carries no bytes.
use Rattle.std.proofs.Common.{◌≡◌, ℕ, List, Option, refl, sym, subst}
use Rattle.obj_id.specs.declared.commands.Command.{Command}
use Rattle.command_kinds.specs.declared.command_kind.CommandKind.{CommandKind}
use Rattle.command_kinds.specs.declared.command_kind.CommandKind.TheVariants as kinds
use Rattle.schedule_text.specs.declared.words.Word.{Word}
use Rattle.schedule_text.specs.declared.words.Word.TheVariants.{Of, Copy}
use Rattle.schedule_text.specs.Fields.{Reads}
use Rattle.schedule_text.specs.Reading.{IsCommand, IsPlainCommand}

-- every word but `write` is read as in a text of another form
of_kind : (job : ℕ) (kind : CommandKind) (fields : List (List ℕ)) (read : Option (Command (List ℕ))) → (kind ≡ kinds.Write → ⊥)
    → Reads read (IsPlainCommand job (Of kind) fields) → Reads read (IsCommand job (Of kind) fields)
of_kind job kinds.Write fields read other reads = absurd (other refl)
of_kind job _ fields read other reads = reads

pub Reads-command_without_payload : (job : ℕ) (word : Word) (kind : CommandKind) (fields : List (List ℕ)) (read : Option (Command (List ℕ))) → word ≡ Of kind → (kind ≡ kinds.Write → ⊥)
    → Reads read (IsPlainCommand job (Of kind) fields) → Reads read (IsCommand job word fields)
Reads-command_without_payload job word kind fields read is other reads =
    subst (λ w. Reads read (IsCommand job w fields)) (sym is) (of_kind job kind fields read other reads)

pub Reads-command_without_payload-copy : (job : ℕ) (word : Word) (fields : List (List ℕ)) (read : Option (Command (List ℕ))) → word ≡ Copy
    → Reads read (IsPlainCommand job word fields) → Reads read (IsCommand job word fields)
Reads-command_without_payload-copy job word fields read is reads =
    subst (λ w. Reads read (IsCommand job w fields)) (sym is) (subst (λ w. Reads read (IsPlainCommand job w fields)) is reads)
