-- What is made before a command's step, by the table and by what the command is about.
use Rattle.std.proofs.Common.{◌≡◌, ℕ, Option, refl, ◌∙◌}
use Rattle.obj_id.specs.declared.commands.Command.{Command}
use Rattle.obj_id.specs.declared.commands.Command.TheVariants as command
use Rattle.command_kinds.specs.Kinds.{kind_of, length_of, preparation_of, prepared, subject_of, traits_of}
use Rattle.command_kinds.specs.declared.command_kind.Prepares.{Prepares}
use Rattle.command_kinds.specs.declared.outline.Subject.{Subject}

by_table : {P : Type 0} (c : Command P) → preparation_of c ≡ prepared (traits_of (kind_of c)).prepares (subject_of c) (length_of c)
by_table (command.Create id kind n) = refl
by_table (command.Write id offset bytes) = refl
by_table (command.Seal id) = refl
by_table (command.Get id) = refl
by_table (command.Read id offset n) = refl
by_table (command.Release id) = refl
by_table (command.Unpin id task) = refl
by_table (command.Borrow id task) = refl
by_table (command.GiveUp id task) = refl
by_table (command.Delete id) = refl
by_table (command.EndTask task) = refl
by_table (command.Grant id target) = refl
by_table (command.Withdraw id target) = refl
by_table (command.Peek id offset n) = refl
by_table command.List = refl
by_table command.Usage = refl
by_table command.Leave = refl

pub preparation_of-parts : {P : Type 0} (c : Command P) (p : Prepares) (s : Subject) (n : Option ℕ)
    → (traits_of (kind_of c)).prepares ≡ p → subject_of c ≡ s → length_of c ≡ n → preparation_of c ≡ prepared p s n
preparation_of-parts c p s n same_prepares same_subject same_length = by_table c ∙ (λ i. prepared (same_prepares i) (same_subject i) (same_length i))
