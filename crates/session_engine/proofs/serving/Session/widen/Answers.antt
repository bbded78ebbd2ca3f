use Rattle.std.proofs.Common.{◌≡◌, ℕ, ◌<◌, length, replicate, ap, ◌∙◌, arith}
use Rattle.std.specs.Prelude.{Vec, vec_len}
use Rattle.std.proofs.lemmas.List.{length-replicate}
use Rattle.session_engine.proofs.serving.Session.widen.Goals as goal

filled_some : {X Z : Type 0} (list : Vec X Z) (n : ℕ) (x : X) → list.items ≡ replicate n x → 0 < n → 0 < vec_len list
filled_some list n x are some =
    let len = ap length are ∙ length-replicate n x in
    omega (arith, len, some, list.ok)

pub returns-in-Ok : goal.returns-in-Ok
returns-in-Ok c = filled_some c.in-Ok.wider 66560 0 c.in-Ok.ensures (omega arith)
