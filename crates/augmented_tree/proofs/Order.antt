-- Lists of items: parts, and what a change does to them.
use Rattle.std.proofs.Common.{◌≡◌, ℕ, ◌<◌, ◌≤◌, true, false, ◌||◌, List, [], ◌∷◌, ◌++◌, Option, Some, None, is_some, refl, ap, ◌∙◌, arith}
use Rattle.std.specs.Prelude.{nat_lt, nat_eq, if◌then◌else◌}
use Rattle.std.proofs.lemmas.Bool.Decides.{nat_tests}
use Rattle.augmented_tree.specs.Lists.{AllOf, IsRisingBy, put_item, take_item, has_item, find_item, change_item}

module _ {A : Type 0} where
  module _ (P : A → Type 0) where
    pub all_both : (xs ys : List A) → AllOf P xs → AllOf P ys → AllOf P (xs ++ ys)
    all_both [] ys a b = b
    all_both (x ∷ xs) ys a b = (a.0, all_both xs ys a.1 b)

    pub all_front : (xs ys : List A) → AllOf P (xs ++ ys) → AllOf P xs
    all_front [] ys a = tt
    all_front (x ∷ xs) ys a = (a.0, all_front xs ys a.1)

    pub all_back : (xs ys : List A) → AllOf P (xs ++ ys) → AllOf P ys
    all_back [] ys a = a
    all_back (x ∷ xs) ys a = all_back xs ys a.1

  pub all_map : (P Q : A → Type 0) → ((x : A) → P x → Q x) → (xs : List A) → AllOf P xs → AllOf Q xs
  all_map P Q f [] a = tt
  all_map P Q f (x ∷ xs) a = (f x a.0, all_map P Q f xs a.1)

module _ {A : Type 0} (key : A → ℕ) where
  module _ (P : A → Type 0) where
    pub all_put : (x : A) (xs : List A) → P x → AllOf P xs → AllOf P (put_item key x xs)
    all_put x [] p a = (p, tt)
    all_put x (y ∷ ys) p a = elim (nat_lt (key x) (key y)) as (λ b. AllOf P (if b then x ∷ y ∷ ys else (if nat_lt (key y) (key x) then y ∷ put_item key x ys else x ∷ ys))) [
      | true ↦ (p, a)
      | false ↦ elim (nat_lt (key y) (key x)) as (λ b. AllOf P (if b then y ∷ put_item key x ys else x ∷ ys)) [
        | true ↦ (a.0, all_put x ys p a.1)
        | false ↦ (p, a.1)
      ]
    ]

    pub all_taken : (k : ℕ) (xs : List A) → AllOf P xs → AllOf P (take_item key k xs)
    all_taken k [] a = tt
    all_taken k (y ∷ ys) a = elim (nat_eq k (key y)) as (λ b. AllOf P (if b then ys else y ∷ take_item key k ys)) [
      | true ↦ a.1
      | false ↦ (a.0, all_taken k ys a.1)
    ]

    -- what holds of an item and of the changed one
    pub all_changed : (f : A → A) (k : ℕ) (xs : List A) → ((x : A) → P x → P (f x)) → AllOf P xs → AllOf P (change_item key f k xs)
    all_changed f k [] g a = tt
    all_changed f k (y ∷ ys) g a = elim (nat_eq k (key y)) as (λ b. AllOf P (if b then f y ∷ ys else y ∷ change_item key f k ys)) [
      | true ↦ (g y a.0, a.1)
      | false ↦ (a.0, all_changed f k ys g a.1)
    ]

  -- what is above b is above all that b is above
  pub all_above : (a b : ℕ) (xs : List A) → a ≤ b → AllOf (λ y. b < key y) xs → AllOf (λ y. a < key y) xs
  all_above a b xs le h = all_map (λ y. b < key y) (λ y. a < key y) (λ y p. omega (arith, p, le)) xs h

  pub rising_front : (xs ys : List A) → IsRisingBy key (xs ++ ys) → IsRisingBy key xs
  rising_front [] ys h = tt
  rising_front (x ∷ xs) ys h = (all_front (λ y. key x < key y) xs ys h.0, rising_front xs ys h.1)

  pub rising_back : (xs ys : List A) → IsRisingBy key (xs ++ ys) → IsRisingBy key ys
  rising_back [] ys h = h
  rising_back (x ∷ xs) ys h = rising_back xs ys h.1

  -- items below m and items from m on
  pub rising_both : (m : ℕ) (xs ys : List A) → IsRisingBy key xs → IsRisingBy key ys → AllOf (λ x. key x < m) xs → AllOf (λ y. m ≤ key y) ys → IsRisingBy key (xs ++ ys)
  rising_both m [] ys a b low high = b
  rising_both m (x ∷ xs) ys a b low high = (
    all_both (λ y. key x < key y) xs ys a.0 (all_map (λ y. m ≤ key y) (λ y. key x < key y) (λ y p. omega (arith, p, low.0)) ys high),
    rising_both m xs ys a.1 b low.1 high,
  )

  -- below all others it goes to the front
  pub put_least : (x : A) (xs : List A) → AllOf (λ y. key x < key y) xs → put_item key x xs ≡ x ∷ xs
  put_least x [] h = refl
  put_least x (y ∷ ys) h = let e : nat_lt (key x) (key y) ≡ true = grind (arith, nat_tests, h.0) in rw e refl

  pub put_front : (x : A) (xs ys : List A) → AllOf (λ y. key x < key y) ys → put_item key x (xs ++ ys) ≡ put_item key x xs ++ ys
  put_front x [] ys h = put_least x ys h
  put_front x (z ∷ zs) ys h =
      ap (λ (r : List A). if nat_lt (key x) (key z) then x ∷ z ∷ (zs ++ ys) else (if nat_lt (key z) (key x) then z ∷ r else x ∷ (zs ++ ys))) (put_front x zs ys h)
      ∙ elim (nat_lt (key x) (key z)) as (λ b. (if b then x ∷ z ∷ (zs ++ ys) else (if nat_lt (key z) (key x) then z ∷ (put_item key x zs ++ ys) else x ∷ (zs ++ ys))) ≡ (if b then x ∷ z ∷ zs else (if nat_lt (key z) (key x) then z ∷ put_item key x zs else x ∷ zs)) ++ ys) [
        | true ↦ refl
        | false ↦ elim (nat_lt (key z) (key x)) as (λ b. (if b then z ∷ (put_item key x zs ++ ys) else x ∷ (zs ++ ys)) ≡ (if b then z ∷ put_item key x zs else x ∷ zs) ++ ys) [
          | true ↦ refl
          | false ↦ refl
        ]
      ]

  pub put_back : (x : A) (xs ys : List A) → AllOf (λ y. key y < key x) xs → put_item key x (xs ++ ys) ≡ xs ++ put_item key x ys
  put_back x [] ys h = refl
  put_back x (z ∷ zs) ys h =
      let e : nat_lt (key x) (key z) ≡ false = grind (arith, nat_tests, h.0) in
      let u : nat_lt (key z) (key x) ≡ true = grind (arith, nat_tests, h.0) in
      rw (e, u) (ap (λ (r : List A). z ∷ r) (put_back x zs ys h.1))

  -- not of the key
  pub take_back : (k : ℕ) (xs ys : List A) → AllOf (λ y. key y < k) xs → take_item key k (xs ++ ys) ≡ xs ++ take_item key k ys
  take_back k [] ys h = refl
  take_back k (z ∷ zs) ys h =
      let e : nat_eq k (key z) ≡ false = grind (arith, nat_tests, h.0) in
      rw e (ap (λ (r : List A). z ∷ r) (take_back k zs ys h.1))

  take_none : (k : ℕ) (xs : List A) → AllOf (λ y. k < key y) xs → take_item key k xs ≡ xs
  take_none k [] h = refl
  take_none k (z ∷ zs) h =
      let e : nat_eq k (key z) ≡ false = grind (arith, nat_tests, h.0) in
      rw e (ap (λ (r : List A). z ∷ r) (take_none k zs h.1))

  pub take_front : (k : ℕ) (xs ys : List A) → AllOf (λ y. k < key y) ys → take_item key k (xs ++ ys) ≡ take_item key k xs ++ ys
  take_front k [] ys h = take_none k ys h
  take_front k (z ∷ zs) ys h =
      ap (λ (r : List A). if nat_eq k (key z) then zs ++ ys else z ∷ r) (take_front k zs ys h)
      ∙ elim (nat_eq k (key z)) as (λ b. (if b then zs ++ ys else z ∷ (take_item key k zs ++ ys)) ≡ (if b then zs else z ∷ take_item key k zs) ++ ys) [
        | true ↦ refl
        | false ↦ refl
      ]

  module _ (f : A → A) where
    pub change_back : (k : ℕ) (xs ys : List A) → AllOf (λ y. key y < k) xs → change_item key f k (xs ++ ys) ≡ xs ++ change_item key f k ys
    change_back k [] ys h = refl
    change_back k (z ∷ zs) ys h =
        let e : nat_eq k (key z) ≡ false = grind (arith, nat_tests, h.0) in
        rw e (ap (λ (r : List A). z ∷ r) (change_back k zs ys h.1))

    change_none : (k : ℕ) (xs : List A) → AllOf (λ y. k < key y) xs → change_item key f k xs ≡ xs
    change_none k [] h = refl
    change_none k (z ∷ zs) h =
        let e : nat_eq k (key z) ≡ false = grind (arith, nat_tests, h.0) in
        rw e (ap (λ (r : List A). z ∷ r) (change_none k zs h.1))

    pub change_front : (k : ℕ) (xs ys : List A) → AllOf (λ y. k < key y) ys → change_item key f k (xs ++ ys) ≡ change_item key f k xs ++ ys
    change_front k [] ys h = change_none k ys h
    change_front k (z ∷ zs) ys h =
        ap (λ (r : List A). if nat_eq k (key z) then f z ∷ (zs ++ ys) else z ∷ r) (change_front k zs ys h)
        ∙ elim (nat_eq k (key z)) as (λ b. (if b then f z ∷ (zs ++ ys) else z ∷ (change_item key f k zs ++ ys)) ≡ (if b then f z ∷ zs else z ∷ change_item key f k zs) ++ ys) [
          | true ↦ refl
          | false ↦ refl
        ]

  pub has_none_above : (k : ℕ) (xs : List A) → AllOf (λ y. k < key y) xs → has_item key k xs ≡ false
  has_none_above k [] h = refl
  has_none_above k (z ∷ zs) h =
      let e : nat_eq k (key z) ≡ false = grind (arith, nat_tests, h.0) in
      rw e (has_none_above k zs h.1)

  pub has_none_below : (k : ℕ) (xs : List A) → AllOf (λ y. key y < k) xs → has_item key k xs ≡ false
  has_none_below k [] h = refl
  has_none_below k (z ∷ zs) h =
      let e : nat_eq k (key z) ≡ false = grind (arith, nat_tests, h.0) in
      rw e (has_none_below k zs h.1)

  pub has_both : (k : ℕ) (xs ys : List A) → has_item key k (xs ++ ys) ≡ has_item key k xs || has_item key k ys
  has_both k [] ys = refl
  has_both k (z ∷ zs) ys = elim (nat_eq k (key z)) as (λ b. b || has_item key k (zs ++ ys) ≡ (b || has_item key k zs) || has_item key k ys) [
    | true ↦ refl
    | false ↦ has_both k zs ys
  ]

  pub find_back : (k : ℕ) (xs ys : List A) → AllOf (λ y. key y < k) xs → find_item key k (xs ++ ys) ≡ find_item key k ys
  find_back k [] ys h = refl
  find_back k (z ∷ zs) ys h =
      let e : nat_eq k (key z) ≡ false = grind (arith, nat_tests, h.0) in
      rw e (find_back k zs ys h.1)

  find_none : (k : ℕ) (xs : List A) → AllOf (λ y. k < key y) xs → find_item key k xs ≡ None
  find_none k [] h = refl
  find_none k (z ∷ zs) h =
      let e : nat_eq k (key z) ≡ false = grind (arith, nat_tests, h.0) in
      rw e (find_none k zs h.1)

  pub find_front : (k : ℕ) (xs ys : List A) → AllOf (λ y. k < key y) ys → find_item key k (xs ++ ys) ≡ find_item key k xs
  find_front k [] ys h = find_none k ys h
  find_front k (z ∷ zs) ys h = ap (λ (r : Option A). if nat_eq k (key z) then Some z else r) (find_front k zs ys h)

  -- one is found if there is one
  pub found_has : (k : ℕ) (xs : List A) → is_some (find_item key k xs) ≡ has_item key k xs
  found_has k [] = refl
  found_has k (z ∷ zs) = elim (nat_eq k (key z)) as (λ b. is_some (if b then Some z else find_item key k zs) ≡ b || has_item key k zs) [
    | true ↦ refl
    | false ↦ found_has k zs
  ]
