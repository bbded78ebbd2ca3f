-- A part of a sum is no more than the whole.
use Rattle.std.proofs.Common.{cond, true, false, ◌||◌, filter, is_some, ◌≡◌, ℕ, zero, suc, ◌+◌, ◌<◌, ◌≤◌, List, [], ◌∷◌, length, take, get_or, map, sym, ap, ◌∙◌, ◌-◌, ◌^◌, arith}
use Rattle.std.specs.Prelude.{sum, min, if◌then◌else◌}
use Rattle.std.proofs.lemmas.List.Sums.{sum_by-cons}
use Rattle.obj_id.specs.declared.ids.ObjectId.{ObjectId}
use Rattle.private_store.specs.rules.Tables.{ById}
use Rattle.private_store.specs.rules.Shape.{Copy, Shape}
use Rattle.private_store.specs.rules.Extents.{rounded}
use Rattle.private_store.specs.rules.Copies.{is_writing, device_used}

sum-cons : (n : ℕ) (ns : List ℕ) → sum (n ∷ ns) ≡ n + sum ns
sum-cons n ns = sum_by-cons (λ m. m) n ns

pub sum-take : {X : Type 0} (f : X → ℕ) (xs : List X) (i : ℕ) (x : X) → i < length xs → x ≡ get_or xs i x → sum (map f (take i xs)) + f x ≤ sum (map f xs)
sum-take f [] i x within at = absurd (omega (arith, within))
sum-take f (y ∷ ys) zero x within at =
    let same : f x ≡ f y = ap f at in
    let whole = sum-cons (f y) (map f ys) in
    omega (arith, same, whole)
sum-take f (y ∷ ys) (suc i) x within at =
    let rest = sum-take f ys i x (omega (arith, within)) at in
    let whole = sum-cons (f y) (map f ys) in
    let part = sum-cons (f y) (map f (take i ys)) in
    omega (arith, rest, whole, part)

-- ---- the device bytes that are used

abbrev with_entries : Shape → ById Copy → Shape
with_entries store copies = record store { copies = copies }

abbrev counted : Shape → ById Copy → ById Copy
counted store es = filter (λ e. is_some e.1.backed || is_writing store e.0) es

device-cons : (store : Shape) (e : ObjectId × Copy) (es : ById Copy)
    → device_used (with_entries store (e ∷ es)) ≡ (if is_some e.1.backed || is_writing store e.0 then rounded e.1.length else 0) + device_used (with_entries store es)
device-cons store e es =
    elim (is_some e.1.backed || is_writing store e.0) as (λ b. sum (map (λ e. rounded e.1.length) (cond b (e ∷ counted store es) (counted store es))) ≡ cond b (rounded e.1.length) 0 + sum (map (λ e. rounded e.1.length) (counted store es))) [
      | true ↦ sum-cons (rounded e.1.length) (map (λ e. rounded e.1.length) (counted store es))
      | false ↦ omega arith
    ]

capped : (used more rest all sum : ℕ) → sum ≡ min (used + more) (2 ^ 64 - 1) → min (used + (more + rest)) (2 ^ 64 - 1) ≡ all → min (sum + rest) (2 ^ 64 - 1) ≡ all
capped used more rest all sum is so = omega (arith, is, so)

-- one more entry of the sum that stops at the greatest number of 64 bits
pub device_more : (store : Shape) (e : ObjectId × Copy) (left es : ById Copy) (used more sum all : ℕ) → left ≡ e ∷ es → more ≡ (if is_some e.1.backed || is_writing store e.0 then rounded e.1.length else 0)
    → sum ≡ min (used + more) (2 ^ 64 - 1) → min (used + device_used (with_entries store left)) (2 ^ 64 - 1) ≡ all → min (sum + device_used (with_entries store es)) (2 ^ 64 - 1) ≡ all
device_more store e left es used more sum all starts bytes is so =
    capped used more (device_used (with_entries store es)) all sum is
    (ap (λ n. min (used + (n + device_used (with_entries store es))) (2 ^ 64 - 1)) bytes
    ∙ ap (λ n. min (used + n) (2 ^ 64 - 1)) (sym (device-cons store e es))
    ∙ ap (λ entries. min (used + device_used (with_entries store entries)) (2 ^ 64 - 1)) (sym starts)
    ∙ so)
