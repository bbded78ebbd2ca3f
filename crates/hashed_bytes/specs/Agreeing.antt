-- Bytes of which the first are those of other bytes.
use Rattle.std.specs.Prelude.{◌≡◌, ℕ, List, Option, IfSome, take}

-- bytes, if there are any, and how many of them are known to be the same
pub record Agreement : Type 0 where
  pub bytes : Option (List ℕ)
  pub same : ℕ

-- so many of the first of them are those of these bytes
abbrev pub Agrees : Agreement → List ℕ → Type 0
Agrees agreement others = IfSome agreement.bytes (λ bytes. take agreement.same bytes ≡ take agreement.same others)
