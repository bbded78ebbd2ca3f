-- The span of extents that are laid tells whether first fit finds a place among them.
use Rattle.std.proofs.Common.{◌≡◌, ℕ, ◌+◌, ◌-◌, ◌<◌, ◌≤◌, Bool, true, false, ◌||◌, List, [], ◌∷◌, length, Option, Some, None, refl, sym, ap, ◌∙◌, arith, is_some}
use Rattle.std.specs.Prelude.{nat_le, max, if◌then◌else◌, replicate}
use Rattle.std.proofs.lemmas.Bool.Decides.{nat_tests}
use Rattle.std.proofs.lemmas.List.{length-replicate}
use Rattle.obj_id.specs.declared.works.Extent.{Extent}
use Rattle.private_store.specs.rules.Extents.{rounded, first}
use Rattle.job_region.specs.Layout.{placed_in, LaidFrom, gap}
use Rattle.job_region.proofs.ForCallers.{first-is, gap_is_first, extents-placed}
use Rattle.extent_tree.specs.declared.spans.Span.{Span}
use Rattle.extent_tree.specs.Residents.{joined, span_of, has_gap}

same_bool : (a b : Bool) → (a ≡ true → b ≡ true) → (b ≡ true → a ≡ true) → a ≡ b
same_bool true b f g = sym (f refl)
same_bool false true f g = sym (sym (g refl))
same_bool false false f g = refl

or_any : (a b : Bool) → a || b ≡ true → (c : Bool) → (a ≡ true → c ≡ true) → (b ≡ true → c ≡ true) → c ≡ true
or_any true b h c f g = f refl
or_any false b h c f g = g h

left_or : (a b : Bool) → a ≡ true → a || b ≡ true
left_or a b h = ap (λ x. x || b) h

right_or : (a b : Bool) → b ≡ true → a || b ≡ true
right_or true b h = refl
right_or false b h = h

module _ (q n : ℕ) (some : 0 < n) where
  -- whether n bytes are free from an offset on, among extents of this span that come after
  abbrev free_from : ℕ → Option Span → Bool
  free_from at None = nat_le (at + n) q
  free_from at (Some s) = nat_le (at + n) s.start || (nat_le n s.widest || nat_le (s.end + n) q)

  wider : (w s e : ℕ) → nat_le n (max (max 0 w) (s - e)) ≡ nat_le (e + n) s || nat_le n w
  wider w s e = same_bool (nat_le n (max (max 0 w) (s - e))) (nat_le (e + n) s || nat_le n w) to from
    where
      to : nat_le n (max (max 0 w) (s - e)) ≡ true → nat_le (e + n) s || nat_le n w ≡ true
      to h = by (nat_le (e + n) s) refl
        where
          by : (b : Bool) → nat_le (e + n) s ≡ b → b || nat_le n w ≡ true
          by true t = refl
          by false t =
              let le : n ≤ max (max 0 w) (s - e) = grind (arith, nat_tests, h) in
              let lt : s < e + n = grind (arith, nat_tests, t) in
              let fits : n ≤ w = omega (arith, le, lt, some) in
              grind (arith, nat_tests, fits)

      from : nat_le (e + n) s || nat_le n w ≡ true → nat_le n (max (max 0 w) (s - e)) ≡ true
      from h = or_any (nat_le (e + n) s) (nat_le n w) h (nat_le n (max (max 0 w) (s - e)))
          (λ t. let le : e + n ≤ s = grind (arith, nat_tests, t) in let fits : n ≤ max (max 0 w) (s - e) = omega (arith, le) in grind (arith, nat_tests, fits))
          (λ t. let le : n ≤ w = grind (arith, nat_tests, t) in let fits : n ≤ max (max 0 w) (s - e) = omega (arith, le) in grind (arith, nat_tests, fits))

  or_assoc : (a b c : Bool) → (a || b) || c ≡ a || (b || c)
  or_assoc true b c = refl
  or_assoc false b c = refl

  gap-free : (at : ℕ) (es : List Extent) → is_some (gap q n at es) ≡ free_from at (span_of es)
  gap-free at [] = elim (nat_le (at + n) q) as (λ b. is_some (if b then Some at else None) ≡ b) [ true ↦ refl | false ↦ refl ]
  gap-free at (e ∷ es) = by (gap-free (e.offset + e.length) es) (span_of es) refl
    where
      none : nat_le n 0 ≡ false
      none = grind (arith, nat_tests, some)

      first_or : (b : Bool) (g : Option ℕ) → is_some (if b then Some at else g) ≡ b || is_some g
      first_or true g = refl
      first_or false g = refl

      by : is_some (gap q n (e.offset + e.length) es) ≡ free_from (e.offset + e.length) (span_of es) → (o : Option Span) → span_of es ≡ o
          → is_some (gap q n at (e ∷ es)) ≡ free_from at (joined (Some (record { start = e.offset; end = e.offset + e.length; widest = 0 })) (span_of es))
      by rest None is =
          first_or (nat_le (at + n) e.offset) (gap q n (e.offset + e.length) es)
          ∙ ap (λ b. nat_le (at + n) e.offset || b) (rest ∙ ap (free_from (e.offset + e.length)) is)
          ∙ ap (λ b. nat_le (at + n) e.offset || (b || nat_le (e.offset + e.length + n) q)) (sym none)
          ∙ ap (λ o. free_from at (joined (Some (record { start = e.offset; end = e.offset + e.length; widest = 0 })) o)) (sym is)
      by rest (Some s) is =
          first_or (nat_le (at + n) e.offset) (gap q n (e.offset + e.length) es)
          ∙ ap (λ b. nat_le (at + n) e.offset || b) (rest ∙ ap (free_from (e.offset + e.length)) is)
          ∙ ap (λ b. nat_le (at + n) e.offset || b) (sym (or_assoc (nat_le (e.offset + e.length + n) s.start) (nat_le n s.widest) (nat_le (s.end + n) q)))
          ∙ ap (λ b. nat_le (at + n) e.offset || (b || nat_le (s.end + n) q)) (sym (wider s.widest s.start (e.offset + e.length)))
          ∙ ap (λ o. free_from at (joined (Some (record { start = e.offset; end = e.offset + e.length; widest = 0 })) o)) (sym is)

  gap-begins : (s : Option Span) → free_from 0 s ≡ has_gap q n s
  gap-begins None = let none : 0 + n ≡ n = omega arith in ap (λ m. nat_le m q) none
  gap-begins (Some s) = let none : 0 + n ≡ n = omega arith in ap (λ m. nat_le m s.start || (nat_le n s.widest || nat_le (s.end + n) q)) none

pub first-gap : (q n : ℕ) (es : List Extent) → 0 < n → LaidFrom q 0 es → is_some (first es q n) ≡ has_gap q (rounded n) (span_of es)
first-gap q n es some laid =
    let memory : List ℕ = replicate q 0 in
    let whole : length memory ≡ q = length-replicate q 0 in
    let more : 0 < rounded n = omega (arith, some) in
    ap (λ xs. is_some (first xs q n)) (sym (extents-placed memory q 0 whole es laid))
    ∙ ap is_some (first-is (placed_in memory es) q n ∙ gap_is_first memory q (rounded n) es whole laid)
    ∙ gap-free q (rounded n) more 0 es
    ∙ gap-begins q (rounded n) more (span_of es)
