-- One more line that was read, and whether it is right.
use Rattle.std.proofs.Common.{◌≡◌, ◌+◌, ◌<◌, ◌≤◌, ◌∙◌, ℕ, List, length, take, get_or, Option, Some, None, refl, sym, subst, arith}
use Rattle.std.specs.Prelude.{All, IsSome}
use Rattle.std.proofs.lemmas.List.Elements.{All-more}

pub right_more : {X : Type 0} (P : X → Type 0) (xs : List X) (i : ℕ) (x : X) (fault : Option ℕ) (old new : ℕ) → i < length xs → x ≡ get_or xs i x
    → (fault ≡ None → P x) → (fault ≡ None → new ≡ old) → (IsSome fault → new ≡ old + 1) → (old ≡ 0 → All P (take i xs)) → new ≡ 0 → All P (take (i + 1) xs)
right_more P xs i x None old new less is right same differs before zero = All-more P xs i x less (before (sym (same refl) ∙ zero)) (subst P is (right refl))
right_more P xs i x (Some f) old new less is right same differs before zero = let more = differs refl in absurd (omega (arith, more, zero))

-- and no more of them differ than there are
pub fewer_more : (fault : Option ℕ) (old new : ℕ) (before after : ℕ) → (fault ≡ None → new ≡ old) → (IsSome fault → new ≡ old + 1) → after ≡ before + 1 → old ≤ before → new ≤ after
fewer_more None old new before after same differs more fewer = let is = same refl in omega (arith, is, more, fewer)
fewer_more (Some f) old new before after same differs more fewer = let is = differs refl in omega (arith, is, more, fewer)
