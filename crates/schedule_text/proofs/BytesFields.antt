-- The bytes that a field spells.
use Rattle.std.proofs.Common.{◌≡◌, ℕ, ◌/◌, ◌<◌, List, [], ◌∷◌, length, get_or, codes, Some, None, Ok, false, refl, sym, ap, subst, ◌∙◌, arith}
use Rattle.std.specs.Prelude.{is_ok}
use Rattle.hex.specs.Hex.{decode_sized, encode_lower, lower_digits}
use Rattle.hex.proofs.HexLemmas.{decode_sized-encode_lower, length-encode_with}
use Rattle.schedule_text.specs.Fields.{IsBytesField, Reads}
use Rattle.schedule_text.specs.Printing.{bytes_text}

-- only no bytes are spelled by `-`
dash-none : (bytes : List ℕ) → bytes_text bytes ≡ codes "-" → [] ≡ bytes
dash-none [] spelled = refl
dash-none (byte ∷ bytes) spelled = let even = length-encode_with lower_digits (byte ∷ bytes) in absurd (omega (arith, even, ap length spelled))

-- `-` is read as no bytes
pub Reads-dash : (field : List ℕ) → field ≡ codes "-" → Reads {X = List ℕ} (Some []) (IsBytesField field)
Reads-dash field dash = record {
  sound = record { are_bytes = λ i. omega arith; spelled = sym dash };
  whole = λ bytes is. ap Some (dash-none bytes (is.spelled ∙ dash));
}

-- another field spells what its digits are decoded to, is printed for it, and isn't empty
record IsDigitsOf (field bytes : List ℕ) : Type 0 where
  decoded : decode_sized field (length field / 2) ≡ Ok bytes
  printed : encode_lower bytes ≡ field
  some : 0 < length field

digits_of : (field bytes : List ℕ) → (field ≡ codes "-" → ⊥) → IsBytesField field bytes → IsDigitsOf field bytes
digits_of field [] other is = absurd (other (sym is.spelled))
digits_of field (byte ∷ bytes) other is =
    let whole : List ℕ = byte ∷ bytes in
    let even = length-encode_with lower_digits whole in
    let P : List ℕ → Type 0 = λ text. decode_sized text (length text / 2) ≡ Ok whole in
    record {
      decoded = subst P is.spelled (decode_sized-encode_lower whole (length (encode_lower whole) / 2) (omega (arith, even)) is.are_bytes);
      printed = is.spelled;
      some = omega (arith, even, ap length is.spelled);
    }

bytes_text-digits : (bytes field : List ℕ) → encode_lower bytes ≡ field → 0 < length field → bytes_text bytes ≡ field
bytes_text-digits [] field printed some = let none = length-encode_with lower_digits [] in absurd (omega (arith, none, ap length printed))
bytes_text-digits (byte ∷ bytes) field printed some = printed

-- a field that isn't decoded spells nothing
pub Reads-undecoded : (field : List ℕ) → is_ok (decode_sized field (length field / 2)) ≡ false → (field ≡ codes "-" → ⊥) → Reads {X = List ℕ} None (IsBytesField field)
Reads-undecoded field undecoded other = record {
  sound = tt;
  whole = λ bytes is. let decoded = (digits_of field bytes other is).decoded in absurd (let no = ap is_ok decoded in cc);
}

module _ (field bytes : List ℕ) (decoded : decode_sized field (length field / 2) ≡ Ok bytes) (other : field ≡ codes "-" → ⊥) where
  same : (read : List ℕ) → IsBytesField field read → bytes ≡ read
  same read is = let again = (digits_of field read other is).decoded in cc

  -- nor does an empty one, or one that is printed otherwise
  pub Reads-unprinted : (0 < length field → encode_lower bytes ≡ field → ⊥) → Reads {X = List ℕ} None (IsBytesField field)
  Reads-unprinted unprinted = record {
    sound = tt;
    whole = λ read is. absurd (unprinted (digits_of field read other is).some (ap encode_lower (same read is) ∙ (digits_of field read other is).printed));
  }

  -- every other one is read
  pub Reads-printed : ((i : ℕ) → get_or bytes i 0 < 256) → encode_lower bytes ≡ field → 0 < length field → Reads {X = List ℕ} (Some bytes) (IsBytesField field)
  Reads-printed are_bytes printed some = record {
    sound = record { are_bytes = are_bytes; spelled = bytes_text-digits bytes field printed some };
    whole = λ read is. ap Some (same read is);
  }
