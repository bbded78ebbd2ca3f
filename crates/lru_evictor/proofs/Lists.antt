-- Changes of lists of extents by rising offset, one after another.
use Rattle.std.proofs.Common.{◌≡◌, ◌≢◌, ℕ, ◌<◌, ◌≤◌, Bool, true, false, ◌||◌, List, [], ◌∷◌, refl, sym, ap, ◌∙◌, arith}
use Rattle.std.specs.Prelude.{nat_lt, nat_eq, if◌then◌else◌}
use Rattle.std.proofs.lemmas.Bool.Decides.{nat_tests}
use Rattle.use_tree.specs.declared.classes.VictimClasses.{VictimClasses}
use Rattle.extent_tree.specs.declared.residents.Resident.{Resident}
use Rattle.augmented_tree.proofs.ForCallers.{all_put, all_above, put_least}
use Rattle.extent_tree.specs.Residents.{resident_offset, AreResidentsRising, put_resident, take_resident, has_resident, resident_with_classes}

pub rising-put : (x : Resident) (xs : List Resident) → AreResidentsRising xs → AreResidentsRising (put_resident x xs)
rising-put x [] h = (tt, tt)
rising-put x (y ∷ ys) h = (elim (nat_lt x.extent.offset y.extent.offset) as (λ b. nat_lt x.extent.offset y.extent.offset ≡ b → AreResidentsRising (if b then x ∷ y ∷ ys else (if nat_lt y.extent.offset x.extent.offset then y ∷ put_resident x ys else x ∷ ys))) [
  | true ↦ λ t. let lt : x.extent.offset < y.extent.offset = grind (arith, nat_tests, t) in
      ((lt, all_above resident_offset x.extent.offset y.extent.offset ys (omega (arith, lt)) h.0), h)
  | false ↦ λ t. (elim (nat_lt y.extent.offset x.extent.offset) as (λ b. nat_lt y.extent.offset x.extent.offset ≡ b → AreResidentsRising (if b then y ∷ put_resident x ys else x ∷ ys)) [
    | true ↦ λ u. let lt : y.extent.offset < x.extent.offset = grind (arith, nat_tests, u) in
        (all_put resident_offset (λ z. y.extent.offset < z.extent.offset) x ys lt h.0, rising-put x ys h.1)
    | false ↦ λ u. let same : x.extent.offset ≤ y.extent.offset = grind (arith, nat_tests, u) in
        (all_above resident_offset x.extent.offset y.extent.offset ys same h.0, h.1)
  ]) refl
]) refl

-- the three ways in which offsets lie
pub data Ways (a b : ℕ) : Type 0 where
  below : nat_lt a b ≡ true → nat_eq a b ≡ false → nat_eq b a ≡ false → nat_lt b a ≡ false → Ways a b
  above : nat_lt a b ≡ false → nat_eq a b ≡ false → nat_eq b a ≡ false → nat_lt b a ≡ true → Ways a b
  level : nat_lt a b ≡ false → nat_eq a b ≡ true → nat_eq b a ≡ true → nat_lt b a ≡ false → a ≡ b → Ways a b

pub ways : (a b : ℕ) → Ways a b
ways a b = by (nat_lt a b) refl (nat_lt b a) refl
  where
    by : (s : Bool) → nat_lt a b ≡ s → (t : Bool) → nat_lt b a ≡ t → Ways a b
    by true e t f = let lt : a < b = grind (arith, nat_tests, e) in below e (grind (arith, nat_tests, lt)) (grind (arith, nat_tests, lt)) (grind (arith, nat_tests, lt))
    by false e true f = let lt : b < a = grind (arith, nat_tests, f) in above e (grind (arith, nat_tests, lt)) (grind (arith, nat_tests, lt)) f
    by false e false f = let same : a ≡ b = grind (arith, nat_tests, e, f) in level e (grind (arith, nat_tests, same)) (grind (arith, nat_tests, same)) f same

differ : (o p : ℕ) → o ≢ p → nat_eq o p ≡ false
differ o p unlike = by (nat_eq o p) refl
  where
    by : (b : Bool) → nat_eq o p ≡ b → nat_eq o p ≡ false
    by false e = e
    by true e = let same : o ≡ p = grind (arith, nat_tests, e) in absurd (unlike same)

-- ---- whether one is there

pub has-put : (o : ℕ) (x : Resident) (xs : List Resident) → has_resident o (put_resident x xs) ≡ nat_eq o x.extent.offset || has_resident o xs
has-put o x [] = refl
has-put o x (y ∷ ys) = by (has-put o x ys) (ways x.extent.offset y.extent.offset)
  where
    swap : (a b c : Bool) → a || (b || c) ≡ b || (a || c)
    swap true true c = refl
    swap true false c = refl
    swap false b c = refl

    twice : (a b : Bool) → a || b ≡ a || (a || b)
    twice true b = refl
    twice false b = refl

    by : has_resident o (put_resident x ys) ≡ nat_eq o x.extent.offset || has_resident o ys → Ways x.extent.offset y.extent.offset → has_resident o (put_resident x (y ∷ ys)) ≡ nat_eq o x.extent.offset || (nat_eq o y.extent.offset || has_resident o ys)
    by rest (below l e f m) = rw l refl
    by rest (above l e f m) = rw (l, m) (ap (λ b. nat_eq o y.extent.offset || b) rest ∙ swap (nat_eq o y.extent.offset) (nat_eq o x.extent.offset) (has_resident o ys))
    by rest (level l e f m same) = rw (l, m) (twice (nat_eq o x.extent.offset) (has_resident o ys) ∙ ap (λ p. nat_eq o x.extent.offset || (nat_eq o p || has_resident o ys)) same)

pub has-take : (o p : ℕ) (xs : List Resident) → has_resident p xs ≡ false → has_resident p (take_resident o xs) ≡ false
has-take o p [] h = refl
has-take o p (y ∷ ys) h = by (has-take o p ys) (nat_eq p y.extent.offset) refl h
  where
    by : (has_resident p ys ≡ false → has_resident p (take_resident o ys) ≡ false) → (b : Bool) → nat_eq p y.extent.offset ≡ b → b || has_resident p ys ≡ false → has_resident p (take_resident o (y ∷ ys)) ≡ false
    by rest true e h = cc
    by rest false e h = elim (nat_eq o y.extent.offset) as (λ b. has_resident p (if b then ys else y ∷ take_resident o ys) ≡ false) [
      | true ↦ h
      | false ↦ rw e (rest h)
    ]

pub has-set_info : (o p : ℕ) (m : VictimClasses) (xs : List Resident) → has_resident p (resident_with_classes o m xs) ≡ has_resident p xs
has-set_info o p m [] = refl
has-set_info o p m (y ∷ ys) = elim (nat_eq o y.extent.offset) as (λ b. has_resident p (if b then record y { classes = m } ∷ ys else y ∷ resident_with_classes o m ys) ≡ nat_eq p y.extent.offset || has_resident p ys) [
  | true ↦ refl
  | false ↦ ap (λ b. nat_eq p y.extent.offset || b) (has-set_info o p m ys)
]

-- ---- after one was put in its place

module _ (x : Resident) where
  pub take-put : (xs : List Resident) → has_resident x.extent.offset xs ≡ false → take_resident x.extent.offset (put_resident x xs) ≡ xs
  take-put [] h = let t : nat_eq x.extent.offset x.extent.offset ≡ true = grind (arith, nat_tests) in rw t refl
  take-put (y ∷ ys) h = by (take-put ys) (ways x.extent.offset y.extent.offset)
    where
      by : (has_resident x.extent.offset ys ≡ false → take_resident x.extent.offset (put_resident x ys) ≡ ys) → Ways x.extent.offset y.extent.offset → take_resident x.extent.offset (put_resident x (y ∷ ys)) ≡ y ∷ ys
      by rest (below l e f m) = let t : nat_eq x.extent.offset x.extent.offset ≡ true = grind (arith, nat_tests) in rw (l, t) refl
      by rest (above l e f m) = rw (l, m, e) (ap (λ r. y ∷ r) (rest (ap (λ b. b || has_resident x.extent.offset ys) (sym e) ∙ h)))
      by rest (level l e f m same) = let no : true ≡ false = ap (λ b. b || has_resident x.extent.offset ys) (sym e) ∙ h in cc

  pub set_info-put : (m : VictimClasses) (xs : List Resident) → has_resident x.extent.offset xs ≡ false → resident_with_classes x.extent.offset m (put_resident x xs) ≡ put_resident (record x { classes = m }) xs
  set_info-put m [] h = let t : nat_eq x.extent.offset x.extent.offset ≡ true = grind (arith, nat_tests) in rw t refl
  set_info-put m (y ∷ ys) h = by (set_info-put m ys) (ways x.extent.offset y.extent.offset)
    where
      by : (has_resident x.extent.offset ys ≡ false → resident_with_classes x.extent.offset m (put_resident x ys) ≡ put_resident (record x { classes = m }) ys) → Ways x.extent.offset y.extent.offset → resident_with_classes x.extent.offset m (put_resident x (y ∷ ys)) ≡ put_resident (record x { classes = m }) (y ∷ ys)
      by rest (below l e f n) = let t : nat_eq x.extent.offset x.extent.offset ≡ true = grind (arith, nat_tests) in rw (l, t) refl
      by rest (above l e f n) = rw (l, n, e) (ap (λ r. y ∷ r) (rest (ap (λ b. b || has_resident x.extent.offset ys) (sym e) ∙ h)))
      by rest (level l e f n same) = let no : true ≡ false = ap (λ b. b || has_resident x.extent.offset ys) (sym e) ∙ h in cc

  module _ (o : ℕ) (other : o ≢ x.extent.offset) where
    off : nat_eq o x.extent.offset ≡ false
    off = differ o x.extent.offset other

    pub take-put_other : (xs : List Resident) → AreResidentsRising xs → take_resident o (put_resident x xs) ≡ put_resident x (take_resident o xs)
    take-put_other [] h = rw off refl
    take-put_other (y ∷ ys) h = by (take-put_other ys h.1) (ways x.extent.offset y.extent.offset)
      where
        by : take_resident o (put_resident x ys) ≡ put_resident x (take_resident o ys) → Ways x.extent.offset y.extent.offset → take_resident o (put_resident x (y ∷ ys)) ≡ put_resident x (take_resident o (y ∷ ys))
        by rest (below l e f m) =
            let lt : x.extent.offset < y.extent.offset = grind (arith, nat_tests, l) in
            rw (l, off) (elim (nat_eq o y.extent.offset) as (λ b. x ∷ (if b then ys else y ∷ take_resident o ys) ≡ put_resident x (if b then ys else y ∷ take_resident o ys)) [
              | true ↦ sym (put_least resident_offset x ys (all_above resident_offset x.extent.offset y.extent.offset ys (omega (arith, lt)) h.0))
              | false ↦ rw l refl
            ])
        by rest (above l e f m) =
            rw (l, m) (elim (nat_eq o y.extent.offset) as (λ b. (if b then put_resident x ys else y ∷ take_resident o (put_resident x ys)) ≡ put_resident x (if b then ys else y ∷ take_resident o ys)) [
              | true ↦ refl
              | false ↦ rw (l, m) (ap (λ r. y ∷ r) rest)
            ])
        by rest (level l e f m same) =
            let t : nat_eq o y.extent.offset ≡ false = ap (λ p. nat_eq o p) (sym same) ∙ off in
            rw (l, m, off, t) (rw (l, m) refl)

    pub set_info-put_other : (m : VictimClasses) (xs : List Resident) → resident_with_classes o m (put_resident x xs) ≡ put_resident x (resident_with_classes o m xs)
    set_info-put_other m [] = rw off refl
    set_info-put_other m (y ∷ ys) = by (set_info-put_other m ys) (ways x.extent.offset y.extent.offset)
      where
        by : resident_with_classes o m (put_resident x ys) ≡ put_resident x (resident_with_classes o m ys) → Ways x.extent.offset y.extent.offset → resident_with_classes o m (put_resident x (y ∷ ys)) ≡ put_resident x (resident_with_classes o m (y ∷ ys))
        by rest (below l e f n) =
            rw (l, off) (elim (nat_eq o y.extent.offset) as (λ b. x ∷ (if b then record y { classes = m } ∷ ys else y ∷ resident_with_classes o m ys) ≡ put_resident x (if b then record y { classes = m } ∷ ys else y ∷ resident_with_classes o m ys)) [
              | true ↦ rw l refl
              | false ↦ rw l refl
            ])
        by rest (above l e f n) =
            rw (l, n) (elim (nat_eq o y.extent.offset) as (λ b. (if b then record y { classes = m } ∷ put_resident x ys else y ∷ resident_with_classes o m (put_resident x ys)) ≡ put_resident x (if b then record y { classes = m } ∷ ys else y ∷ resident_with_classes o m ys)) [
              | true ↦ rw (l, n) refl
              | false ↦ rw (l, n) (ap (λ r. y ∷ r) rest)
            ])
        by rest (level l e f n same) =
            let t : nat_eq o y.extent.offset ≡ false = ap (λ p. nat_eq o p) (sym same) ∙ off in
            rw (l, n, off, t) (rw (l, n) refl)

-- where one goes
put-below : (x y : Resident) (ys : List Resident) → nat_lt x.extent.offset y.extent.offset ≡ true → put_resident x (y ∷ ys) ≡ x ∷ y ∷ ys
put-below x y ys l = rw l refl

put-above : (x y : Resident) (ys : List Resident) → nat_lt x.extent.offset y.extent.offset ≡ false → nat_lt y.extent.offset x.extent.offset ≡ true → put_resident x (y ∷ ys) ≡ y ∷ put_resident x ys
put-above x y ys l m = rw (l, m) refl

put-level : (x y : Resident) (ys : List Resident) → nat_lt x.extent.offset y.extent.offset ≡ false → nat_lt y.extent.offset x.extent.offset ≡ false → put_resident x (y ∷ ys) ≡ x ∷ ys
put-level x y ys l m = rw (l, m) refl

-- two at different offsets, in either order
put_in_order : (x z : Resident) → x.extent.offset < z.extent.offset → (xs : List Resident) → put_resident x (put_resident z xs) ≡ put_resident z (put_resident x xs)
put_in_order x z lt [] =
    let l : nat_lt x.extent.offset z.extent.offset ≡ true = grind (arith, nat_tests, lt) in
    let m : nat_lt z.extent.offset x.extent.offset ≡ false = grind (arith, nat_tests, lt) in
    put-below x z [] l ∙ sym (put-above z x [] m l)
put_in_order x z lt (y ∷ ys) = by (put_in_order x z lt ys) (ways x.extent.offset y.extent.offset) (ways z.extent.offset y.extent.offset)
  where
    first : nat_lt x.extent.offset z.extent.offset ≡ true
    first = grind (arith, nat_tests, lt)

    second : nat_lt z.extent.offset x.extent.offset ≡ false
    second = grind (arith, nat_tests, lt)

    past : y.extent.offset ≤ x.extent.offset → z.extent.offset ≤ y.extent.offset → ⊥
    past a b = omega (arith, lt, a, b)

    -- all that comes after x
    after : nat_lt x.extent.offset y.extent.offset ≡ true → (ws : List Resident) → put_resident z (y ∷ ys) ≡ ws → put_resident x ws ≡ x ∷ ws → put_resident x (put_resident z (y ∷ ys)) ≡ put_resident z (put_resident x (y ∷ ys))
    after l ws is front =
        ap (put_resident x) is ∙ front ∙ sym (ap (put_resident z) (put-below x y ys l) ∙ put-above z x (y ∷ ys) second first ∙ ap (λ (r : List Resident). x ∷ r) is)

    by : put_resident x (put_resident z ys) ≡ put_resident z (put_resident x ys) → Ways x.extent.offset y.extent.offset → Ways z.extent.offset y.extent.offset → put_resident x (put_resident z (y ∷ ys)) ≡ put_resident z (put_resident x (y ∷ ys))
    by rest (below a b c d) (below a2 b2 c2 d2) = after a (z ∷ y ∷ ys) (put-below z y ys a2) (put-below x z (y ∷ ys) first)
    by rest (below a b c d) (above a2 b2 c2 d2) = after a (y ∷ put_resident z ys) (put-above z y ys a2 d2) (put-below x y (put_resident z ys) a)
    by rest (below a b c d) (level a2 b2 c2 d2 same) = after a (z ∷ ys) (put-level z y ys a2 d2) (put-below x z ys first)
    by rest (above a b c d) (above a2 b2 c2 d2) =
        ap (put_resident x) (put-above z y ys a2 d2) ∙ put-above x y (put_resident z ys) a d ∙ ap (λ (r : List Resident). y ∷ r) rest ∙ sym (ap (put_resident z) (put-above x y ys a d) ∙ put-above z y (put_resident x ys) a2 d2)
    by rest (level a b c d same) (above a2 b2 c2 d2) =
        ap (put_resident x) (put-above z y ys a2 d2) ∙ put-level x y (put_resident z ys) a d ∙ sym (ap (put_resident z) (put-level x y ys a d) ∙ put-above z x ys second first)
    by rest (above a b c d) (below a2 b2 c2 d2) = let p : y.extent.offset < x.extent.offset = grind (arith, nat_tests, d) in let q : z.extent.offset < y.extent.offset = grind (arith, nat_tests, a2) in absurd (past (omega (arith, p)) (omega (arith, q)))
    by rest (above a b c d) (level a2 b2 c2 d2 same) = let p : y.extent.offset < x.extent.offset = grind (arith, nat_tests, d) in absurd (past (omega (arith, p)) (omega (arith, same)))
    by rest (level a b c d same) (below a2 b2 c2 d2) = let q : z.extent.offset < y.extent.offset = grind (arith, nat_tests, a2) in absurd (past (omega (arith, same)) (omega (arith, q)))
    by rest (level a b c d same) (level a2 b2 c2 d2 same2) = absurd (past (omega (arith, same)) (omega (arith, same2)))

pub put-put : (x z : Resident) → x.extent.offset ≢ z.extent.offset → (xs : List Resident) → put_resident x (put_resident z xs) ≡ put_resident z (put_resident x xs)
put-put x z unlike xs = by (ways x.extent.offset z.extent.offset)
  where
    by : Ways x.extent.offset z.extent.offset → put_resident x (put_resident z xs) ≡ put_resident z (put_resident x xs)
    by (below l e f m) = put_in_order x z (grind (arith, nat_tests, l)) xs
    by (above l e f m) = sym (put_in_order z x (grind (arith, nat_tests, m)) xs)
    by (level l e f m same) = absurd (unlike same)
