-- A line of a schedule, and the command in it.
use Rattle.std.proofs.Common.{◌≡◌, List, ℕ, ◌++◌, Option, Some, None, IfSome, subst}
use Rattle.std.specs.Prelude.{codes}
use Rattle.obj_id.specs.declared.commands.Command.{Command}
use Rattle.schedule_text.specs.declared.line.Line.{Line}
use Rattle.schedule_text.specs.Fields.{Reads}
use Rattle.schedule_text.specs.Reading.{IsLine}
use Rattle.schedules.specs.Vectors.{VectorCalls, line_calling}

pub calls_by : (text whole : List ℕ) (read : Option Line) (x : Line) → whole ≡ codes "cmd 0 1 1 " ++ text → Reads read (IsLine 1 whole) → read ≡ Some x
    → (found : Option (Command (List ℕ))) → IfSome found (λ c. x ≡ line_calling c) → IfSome found (λ c. VectorCalls text c)
calls_by text whole read x whole_is reads is None calling = tt
calls_by text whole read x whole_is reads is (Some c) calling =
    let P : Option Line → Type 0 = λ o. IfSome o (IsLine 1 whole) in
    let line : IsLine 1 whole x = subst P is reads.sound in
    record { spelled = subst (λ l. IsLine 1 l (line_calling c)) whole_is (subst (λ y. IsLine 1 whole y) calling line) }
