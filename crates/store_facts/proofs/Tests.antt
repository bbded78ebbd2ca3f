-- Facts on tests and options that the proofs of what a store keeps use.
use Rattle.std.proofs.Common.{◌≡◌, Bool, true, false, not, ◌&&◌, ◌||◌, ◌⊎◌, inl, inr, Option, Some, None, is_some, unwrap_or, refl, sym, ap, subst, T}
use Rattle.std.specs.Ordering.{is_lt}
use Rattle.std.specs.declared.cmp.Ordering.{Ordering}
use Rattle.std.specs.declared.cmp.Ordering.TheVariants.{Less, Equal, Greater}

pub true_false : {B : Type 0} → false ≡ true → B
true_false e = absurd (subst T (sym e) tt)

pub false_true : {B : Type 0} → true ≡ false → B
false_true e = absurd (subst T e tt)

pub some_value : {A : Type 0} (x y : A) → Some x ≡ Some y → x ≡ y
some_value x y e = ap (λ o. unwrap_or o x) e

pub none_some : {A : Type 0} {B : Type 0} (x : A) → None ≡ Some x → B
none_some x e = absurd (subst T (ap is_some (sym e)) tt)

pub none_here : {A : Type 0} (o : Option A) → is_some o ≡ false → o ≡ None
none_here None e = refl
none_here (Some x) e = true_false (sym e)

pub both_left : (a b : Bool) → (a && b) ≡ true → a ≡ true
both_left true b e = refl
both_left false b e = e

pub both_right : (a b : Bool) → (a && b) ≡ true → b ≡ true
both_right true b e = e
both_right false b e = true_false e

pub both : (a b : Bool) → a ≡ true → b ≡ true → (a && b) ≡ true
both true b e f = f
both false b e f = e

pub and_left : (a b : Bool) → T (a && b) → T a
and_left true b h = tt
and_left false b h = h

pub and_right : (a b : Bool) → T (a && b) → T b
and_right true b h = h
and_right false b h = absurd h

pub neither : (a b : Bool) → a ≡ false → b ≡ false → (a || b) ≡ false
neither false b e f = f
neither true b e f = e

pub or_cases : (a b : Bool) → (a || b) ≡ true → (a ≡ true) ⊎ (b ≡ true)
or_cases true b e = inl refl
or_cases false b e = inr e

pub or_left : (a b : Bool) → a ≡ true → (a || b) ≡ true
or_left true b e = refl
or_left false b e = true_false e

pub or_right : (a b : Bool) → b ≡ true → (a || b) ≡ true
or_right true b e = refl
or_right false b e = e

pub or_swaps : (a b : Bool) → (a || b) ≡ true → (b || a) ≡ true
or_swaps true true e = refl
or_swaps true false e = refl
or_swaps false true e = refl
or_swaps false false e = e

pub or_false : (b : Bool) → (b || false) ≡ b
or_false true = refl
or_false false = refl

-- what a test that failed says
pub passed : (b : Bool) → not b ≡ false → b ≡ true
passed true e = refl
passed false e = sym e

pub or_false_left : (a b : Bool) → a || b ≡ false → a ≡ false
or_false_left true b e = false_true e
or_false_left false b e = refl

pub or_false_right : (a b : Bool) → a || b ≡ false → b ≡ false
or_false_right true b e = false_true e
or_false_right false b e = e

pub and_rest : (a b : Bool) → a ≡ true → a && b ≡ false → b ≡ false
and_rest true b e f = f
and_rest false b e f = true_false e

pub not_true : (a : Bool) → not a ≡ true → a ≡ false
not_true true e = true_false e
not_true false e = refl

-- what isn't so where it would lead to a contradiction
pub refuted : (a : Bool) → (a ≡ true → false ≡ true) → a ≡ false
refuted true f = true_false (f refl)
refuted false f = refl

pub true_T : (b : Bool) → T b → b ≡ true
true_T true h = refl
true_T false h = absurd h

pub T_true : (b : Bool) → b ≡ true → T b
T_true b e = subst T (sym e) tt

-- what comes first is less
pub less_is : (r : Ordering) → T (is_lt r) → r ≡ Less
less_is Less h = refl
less_is Equal h = absurd h
less_is Greater h = absurd h
