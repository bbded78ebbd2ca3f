-- A line that is read byte by byte.
use Rattle.std.proofs.Common.{◌≡◌, ◌≢◌, ℕ, ◌<◌, ◌≤◌, Bool, true, false, List, [], ◌∷◌, ◌++◌, length, Option, ◌⊎◌, inl, inr, refl, sym, ap, subst, ◌∙◌, arith, length-append}
use Rattle.std.specs.Io.KnownBytes.{Consumes}
use Rattle.std.proofs.lemmas.List.Elements.{All-append, All-from_recursion}
use Rattle.store_facts.proofs.Tests.{true_false}
use Rattle.store_facts.proofs.KnownBytes.{Consumes-then}
use Rattle.program_lines.specs.declared.taking.TheConstants.{LONGEST_LINE}
use Rattle.program_lines.specs.TakenLines.{HasTakenPart, IsKeptByte, IsTaking, IsUnbroken}

unbroken_more : (part : List ℕ) (byte : ℕ) → IsUnbroken part → byte ≢ 10 → IsUnbroken (part ++ byte ∷ [])
unbroken_more part byte h other = All-append (λ b. b ≢ 10) part (byte ∷ []) h (All-from_recursion (λ b. b ≢ 10) (byte ∷ []) (other, tt))

module _ (a r : Option (List ℕ)) (line : List ℕ) (is_long : Bool) (so_far : IsTaking a r line is_long) (r1 : Option (List ℕ)) (byte : ℕ) (read : Consumes r r1 (byte ∷ [])) (other : byte ≢ 10) where
  -- of a byte that isn't kept
  pub byte_part : HasTakenPart a r1
  byte_part = record { part = so_far.part ++ byte ∷ []; unbroken = unbroken_more so_far.part byte so_far.unbroken other; consumed = Consumes-then a r r1 so_far.part (byte ∷ []) so_far.consumed read }

  longer : (n : ℕ) → n ≤ length so_far.part → n < length (so_far.part ++ byte ∷ [])
  longer n h = omega (arith, length-append so_far.part (byte ∷ []))

  pub byte_more : (line1 : List ℕ) (is_longer : Bool) → IsKeptByte is_long line byte line1 is_longer → IsTaking a r1 line1 is_longer
  byte_more line1 false is =
      record {
        part = so_far.part ++ byte ∷ [];
        unbroken = unbroken_more so_far.part byte so_far.unbroken other;
        consumed = Consumes-then a r r1 so_far.part (byte ∷ []) so_far.consumed read;
        kept = λ h. is.1 ∙ ap (λ l. l ++ byte ∷ []) (so_far.kept is.0);
        within = is.2;
        long = λ h. cc;
      }
  byte_more line1 true is =
      record {
        part = so_far.part ++ byte ∷ [];
        unbroken = unbroken_more so_far.part byte so_far.unbroken other;
        consumed = Consumes-then a r r1 so_far.part (byte ∷ []) so_far.consumed read;
        kept = λ h. cc;
        within = subst (λ l. length l ≤ LONGEST_LINE) (sym is.0) so_far.within;
        long = λ h. longer LONGEST_LINE (at_least is_long refl is.1);
      }
    where
      at_least : (b : Bool) → is_long ≡ b → (is_long ≡ true) ⊎ (LONGEST_LINE ≤ length line) → LONGEST_LINE ≤ length so_far.part
      at_least true h was = let l = so_far.long h in omega arith
      at_least false h (inl was) = true_false (sym h ∙ was)
      at_least false h (inr was) = subst (λ l. LONGEST_LINE ≤ length l) (so_far.kept h) was
