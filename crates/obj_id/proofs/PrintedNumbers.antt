-- Texts that spell a number as it is printed.
use Rattle.std.proofs.Common.{◌≡◌, ◌≢◌, ℕ, zero, suc, ◌^◌, ◌<◌, ◌≤◌, Bool, true, false, List, [], ◌∷◌, length, get_or, Result, Ok, Err, Some, decimal, refl, sym, ap, subst, ◌∙◌, arith}
use Rattle.std.specs.Prelude.{not, nat_eq, if◌then◌else◌, unwrap_or}
use Rattle.std.specs.Str.Parse.{AllDigits, IsNumeral, ParsesUnsigned, digits_value, without_leading_plus}
use Rattle.std.specs.Result.{result_ok}
use Rattle.std.proofs.lemmas.Bool.Decides.{nat_tests}
use Rattle.std.proofs.lemmas.Fmt.{decimal_digit, decimal-digits_value, first_decimal, parse-decimal}
use Rattle.std.proofs.Math.Pow.{pow_mono}
use Rattle.std.proofs.lemmas.Str.Parse.{numerals_by_value, tells_digits, without_leading_plus_none}
use Rattle.obj_id.specs.Texts.{starts_as_printed}

-- no plus begins such a text, and no zero a longer one
no_plus : (text : List ℕ) → starts_as_printed text ≡ true → get_or text 0 0 ≢ 43
no_plus [] h = cc
no_plus (first ∷ rest) h = by (nat_eq first 48) refl h
  where
    by : (b : Bool) → nat_eq first 48 ≡ b → (if b then nat_eq (length rest) 0 else not (nat_eq first 43)) ≡ true → first ≢ 43
    by true t h e = grind (arith, nat_tests, t, e)
    by false t h e = grind (arith, nat_tests, h, e)

no_zero : (text : List ℕ) → starts_as_printed text ≡ true → get_or text 0 0 ≡ 48 → length text ≡ 1
no_zero [] h e = cc
no_zero (first ∷ rest) h e =
    let zero_first : nat_eq first 48 ≡ true = grind (arith, nat_tests, e) in
    let none : nat_eq (length rest) 0 ≡ true = sym (ap (λ b. if b then nat_eq (length rest) 0 else not (nat_eq first 43)) zero_first) ∙ h in
    grind (arith, nat_tests, none)

-- what is printed of a number begins so
printed_begins : (number : ℕ) → number < 2 ^ 64 → starts_as_printed (decimal number) ≡ true
printed_begins zero small = ap starts_as_printed (decimal_digit 0 (omega arith))
printed_begins (suc number) small = after_zero (decimal (suc number)) (first_decimal (suc number) (omega arith) small)
  where
    after_zero : (text : List ℕ) → 48 < get_or text 0 0 → starts_as_printed text ≡ true
    after_zero [] h = absurd (omega (arith, h))
    after_zero (first ∷ rest) h =
        let other : nat_eq first 48 ≡ false = grind (arith, nat_tests, h) in
        let unsigned : nat_eq first 43 ≡ false = grind (arith, nat_tests, h) in
        rw (other, unsigned) refl

below : (k n : ℕ) → k ≤ 64 → n < 2 ^ k → n < 2 ^ 64
below k n wide fits =
    let most : 2 ^ k ≤ 18446744073709551616 = pow_mono wide in
    omega (arith, fits, most)

module _ (k : ℕ) (text : List ℕ) (wide : k ≤ 64) where
  -- a text that begins so is what is printed of the number that it spells
  pub spelled_as_printed : {E : Type 0} (number : ℕ) (parsed : Result ℕ E) → ParsesUnsigned k 10 text parsed → result_ok parsed ≡ Some number → starts_as_printed text ≡ true → decimal number ≡ text
  spelled_as_printed number (Ok n) parses is plain =
      let same : without_leading_plus text ≡ text = without_leading_plus_none text (no_plus text plain) in
      let numeral = subst (λ ds. IsNumeral 10 ds × (digits_value 10 ds < 2 ^ k)) same parses.0 in
      let number_is : number ≡ n = ap (λ o. unwrap_or o n) (sym is) in
      let value : number ≡ digits_value 10 text = number_is ∙ parses.1 ∙ ap (digits_value 10) same in
      ap decimal value ∙ decimal-digits_value (numerals_by_value (AllDigits 10) tells_digits) text numeral.0.1 numeral.0.0 (no_zero text plain) (below k (digits_value 10 text) wide numeral.1)
  spelled_as_printed number (Err error) parses is plain = cc

  -- what is printed of a number spells it, and begins so
  pub printed_parses : {E : Type 0} (number : ℕ) (parsed : Result ℕ E) → ParsesUnsigned k 10 text parsed → number < 2 ^ k → decimal number ≡ text → (parsed ≡ Ok number) × (starts_as_printed text ≡ true)
  printed_parses number parsed parses fits is =
      let small = below k number wide fits in
      (parse-decimal k number text parsed fits small (sym is) parses, ap starts_as_printed (sym is) ∙ printed_begins number small)
