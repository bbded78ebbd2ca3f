-- The names of keys' files.
use Rattle.std.proofs.Common.{◌≡◌, ◌≢◌, ℕ, ◌<◌, ◌^◌, List, [], ◌∷◌, ◌++◌, length, get_or, refl, sym, ap, ◌∙◌, arith, decimal, codes}
use Rattle.std.proofs.lemmas.List.{append_assoc, append_cancel_left}
use Rattle.std.proofs.lemmas.Fmt.{decimal_injective, decimal_is_IsNumeral}
use Rattle.std.proofs.lemmas.Str.Parse.{digit_from_value}
use Rattle.std.specs.Str.Parse.{AllDigits}
use Rattle.obj_id.specs.declared.works.DeviceKey.{DeviceKey}
use Rattle.spill_device.specs.Folders.{file_path, IsKey}

-- the decimal digits of a number are digits
digits_of : (n : ℕ) → n < 2 ^ 64 → AllDigits 10 (decimal n)
digits_of n fits = (decimal_is_IsNumeral n fits).0.1

-- what two lists begin with, and what follows
head-cons : (x y : ℕ) (xs ys : List ℕ) → x ∷ xs ≡ y ∷ ys → x ≡ y
head-cons x y xs ys e = ap (λ zs. get_or zs 0 0) e

tail-cons : (x y : ℕ) (xs ys : List ℕ) → x ∷ xs ≡ y ∷ ys → xs ≡ ys
tail-cons x y xs ys e = ap tail_of e
  where
    tail_of : List ℕ → List ℕ
    tail_of [] = []
    tail_of (z ∷ zs) = zs

-- a byte that is no digit parts two lists in one way
parted : (c : ℕ) (xs ys us vs : List ℕ) → c < 48 → AllDigits 10 xs → AllDigits 10 ys → xs ++ (c ∷ us) ≡ ys ++ (c ∷ vs) → (xs ≡ ys) × (us ≡ vs)
parted c [] [] us vs low dx dy e = (refl, tail-cons c c us vs e)
parted c [] (y ∷ ys) us vs low dx dy e = absurd (omega (arith, head-cons c y us (ys ++ (c ∷ vs)) e, digit_from_value y dy.0))
parted c (x ∷ xs) [] us vs low dx dy e = absurd (omega (arith, head-cons x c (xs ++ (c ∷ us)) vs e, digit_from_value x dx.0))
parted c (x ∷ xs) (y ∷ ys) us vs low dx dy e =
    let first = head-cons x y (xs ++ (c ∷ us)) (ys ++ (c ∷ vs)) e in
    let rest = parted c xs ys us vs low dx.1 dy.1 (tail-cons x y (xs ++ (c ∷ us)) (ys ++ (c ∷ vs)) e) in
    ((λ i. first i ∷ rest.0 i), rest.1)

-- digits alone are no digits before a byte that is none
not_followed : (c : ℕ) (xs ys zs : List ℕ) → c < 48 → AllDigits 10 xs → AllDigits 10 ys → xs ++ (c ∷ zs) ≢ ys
not_followed c [] [] zs low dx dy e = absurd (omega (arith, ap length e))
not_followed c [] (y ∷ ys) zs low dx dy e = absurd (omega (arith, head-cons c y zs ys e, digit_from_value y dy.0))
not_followed c (x ∷ xs) [] zs low dx dy e = absurd (omega (arith, ap length e))
not_followed c (x ∷ xs) (y ∷ ys) zs low dx dy e = not_followed c xs ys zs low dx.1 dy.1 (tail-cons x y (xs ++ (c ∷ zs)) ys e)

-- the path without parentheses
file_path-parts : (folder : List ℕ) (key : DeviceKey) → file_path folder key ≡ folder ++ (codes "/" ++ (decimal key.job.0 ++ (codes "." ++ decimal key.number)))
file_path-parts folder key = simp append_assoc refl

-- a path names one key
pub file_path-injective : (folder : List ℕ) (a b : DeviceKey) → IsKey a → IsKey b → file_path folder a ≡ file_path folder b → a ≡ b
file_path-injective folder a b fits_a fits_b e = λ i. record { job = record { 0 = job i }; number = number i }
  where
    inner : decimal a.job.0 ++ (46 ∷ decimal a.number) ≡ decimal b.job.0 ++ (46 ∷ decimal b.number)
    inner = append_cancel_left (codes "/") _ _ (append_cancel_left folder _ _ (sym (file_path-parts folder a) ∙ e ∙ file_path-parts folder b))

    split : (decimal a.job.0 ≡ decimal b.job.0) × (decimal a.number ≡ decimal b.number)
    split = parted 46 (decimal a.job.0) (decimal b.job.0) (decimal a.number) (decimal b.number) (omega arith) (digits_of a.job.0 (omega (arith, fits_a.0))) (digits_of b.job.0 (omega (arith, fits_b.0))) inner

    job : a.job.0 ≡ b.job.0
    job = decimal_injective a.job.0 b.job.0 (omega (arith, fits_a.0)) (omega (arith, fits_b.0)) split.0

    number : a.number ≡ b.number
    number = decimal_injective a.number b.number fits_a.1 fits_b.1 split.1

-- what is written beside a key's file is no key's
pub part-apart : (folder : List ℕ) (a b : DeviceKey) → IsKey a → IsKey b → file_path folder a ++ codes ".part" ≢ file_path folder b
part-apart folder a b fits_a fits_b e = not_followed 46 (decimal a.number) (decimal b.number) (codes "part") (omega arith) (digits_of a.number fits_a.1) (digits_of b.number fits_b.1) split.1
  where
    parts : file_path folder a ++ codes ".part" ≡ folder ++ (codes "/" ++ (decimal a.job.0 ++ (codes "." ++ (decimal a.number ++ codes ".part"))))
    parts = simp append_assoc refl

    inner : decimal a.job.0 ++ (46 ∷ (decimal a.number ++ codes ".part")) ≡ decimal b.job.0 ++ (46 ∷ decimal b.number)
    inner = append_cancel_left (codes "/") _ _ (append_cancel_left folder _ _ (sym parts ∙ e ∙ file_path-parts folder b))

    split : (decimal a.job.0 ≡ decimal b.job.0) × (decimal a.number ++ codes ".part" ≡ decimal b.number)
    split = parted 46 (decimal a.job.0) (decimal b.job.0) (decimal a.number ++ codes ".part") (decimal b.number) (omega arith) (digits_of a.job.0 (omega (arith, fits_a.0))) (digits_of b.job.0 (omega (arith, fits_b.0))) inner
