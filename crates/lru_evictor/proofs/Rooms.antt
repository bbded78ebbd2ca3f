-- What follows from an answer that was given.
use Rattle.std.specs.Prelude.{Result, Ok, Err, IfOk}

pub ok_then : {X E : Type 0} {P Q : X → Type 0} → ((x : X) → P x → Q x) → (r : Result X E) → IfOk r P → IfOk r Q
ok_then f (Ok x) h = f x h
ok_then f (Err e) h = tt
