-- What a function read that may lack memory.
use Rattle.std.proofs.Common.{Option, IfOk, Ok, Err}
use Rattle.std.specs.declared.result.Result.{Result}
use Rattle.schedule_text.specs.Fields.{Reads}

-- what is read of one thing is read of another
pub IfOk-reads : {X E : Type 0} {IsPart IsSpelled : X → Type 0} (result : Result (Option X) E) → ((read : Option X) → Reads read IsPart → Reads read IsSpelled)
    → IfOk result (λ read. Reads read IsPart) → IfOk result (λ read. Reads read IsSpelled)
IfOk-reads (Ok read) made reads = made read reads
IfOk-reads (Err e) made reads = tt
