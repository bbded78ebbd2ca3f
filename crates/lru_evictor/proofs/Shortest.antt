-- The shortest beginning that passes a test.
use Rattle.std.proofs.Common.{◌≡◌, ℕ, zero, suc, ◌<◌, ◌≤◌, Bool, true, false, List, [], ◌∷◌, ◌++◌, take, length, Option, Some, None, refl, sym, ap, ◌∙◌, arith, cond, append_assoc}
use Rattle.std.specs.Prelude.{if◌then◌else◌, unwrap_or}
use Rattle.private_store.specs.rules.Room.{shortest_from, shortest}

append_nil : {Y : Type 0} (ys : List Y) → ys ++ [] ≡ ys
append_nil [] = refl
append_nil (y ∷ ys) = ap (λ zs. y ∷ zs) (append_nil ys)

-- a list begins with another
pub record Begins {X : Type 0} (ys xs : List X) : Type 0 where
  pub rest : List X
  pub is : ys ++ rest ≡ xs

-- a beginning of a beginning is as many of the first
pub taken-begins : {X : Type 0} (w : ℕ) (ys xs : List X) → Begins ys xs → take w ys ≡ take (length (take w ys)) xs
taken-begins w ys xs b = from w ys b.rest ∙ ap (take (length (take w ys))) b.is
  where
    from : {Y : Type 0} (w : ℕ) (ys rest : List Y) → take w ys ≡ take (length (take w ys)) (ys ++ rest)
    from zero ys rest = refl
    from (suc w) [] rest = refl
    from (suc w) (y ∷ ys) rest = ap (λ zs. y ∷ zs) (from w ys rest)

module _ {X : Type 0} (test : List X → Bool) where
  shortest_from-found : (taken xs : List X) (k : ℕ) → k ≤ length xs → test (taken ++ take k xs) ≡ true → ((j : ℕ) → j < k → test (taken ++ take j xs) ≡ false) → shortest_from test taken xs ≡ Some (taken ++ take k xs)
  shortest_from-found taken [] zero le good bad =
      ap (λ b. cond b (Some taken) None) (ap test (sym (append_nil taken)) ∙ good) ∙ ap Some (sym (append_nil taken))
  shortest_from-found taken [] (suc k) le good bad = absurd (omega arith)
  shortest_from-found taken (x ∷ xs) zero le good bad =
      ap (λ b. elim b [ true ↦ Some taken | false ↦ shortest_from test (taken ++ x ∷ []) xs ]) (ap test (sym (append_nil taken)) ∙ good) ∙ ap Some (sym (append_nil taken))
  shortest_from-found taken (x ∷ xs) (suc k) le good bad =
      let on : (j : ℕ) → (taken ++ x ∷ []) ++ take j xs ≡ taken ++ take (suc j) (x ∷ xs) = λ j. append_assoc taken (x ∷ []) (take j xs) in
      ap (λ b. elim b [ true ↦ Some taken | false ↦ shortest_from test (taken ++ x ∷ []) xs ]) (ap test (sym (append_nil taken)) ∙ bad 0 (omega arith))
      ∙ shortest_from-found (taken ++ x ∷ []) xs k (omega arith) (ap test (on k) ∙ good) (λ j lt. ap test (on j) ∙ bad (suc j) (omega arith))
      ∙ ap Some (on k)

  shortest_from-none : (taken xs : List X) → ((j : ℕ) → j ≤ length xs → test (taken ++ take j xs) ≡ false) → shortest_from test taken xs ≡ None
  shortest_from-none taken [] bad = ap (λ b. cond b (Some taken) None) (ap test (sym (append_nil taken)) ∙ bad 0 (omega arith))
  shortest_from-none taken (x ∷ xs) bad =
      let on : (j : ℕ) → (taken ++ x ∷ []) ++ take j xs ≡ taken ++ take (suc j) (x ∷ xs) = λ j. append_assoc taken (x ∷ []) (take j xs) in
      ap (λ b. elim b [ true ↦ Some taken | false ↦ shortest_from test (taken ++ x ∷ []) xs ]) (ap test (sym (append_nil taken)) ∙ bad 0 (omega arith))
      ∙ shortest_from-none (taken ++ x ∷ []) xs (λ j le. ap test (on j) ∙ bad (suc j) (omega arith))

  pub shortest-found : (xs : List X) (k : ℕ) → k ≤ length xs → test (take k xs) ≡ true → ((j : ℕ) → j < k → test (take j xs) ≡ false) → shortest test xs ≡ Some (take k xs)
  shortest-found xs k le good bad = shortest_from-found [] xs k le good bad

  pub shortest-none : (xs : List X) → ((j : ℕ) → j ≤ length xs → test (take j xs) ≡ false) → shortest test xs ≡ None
  shortest-none xs bad = shortest_from-none [] xs bad

  -- what is found passes, and is a beginning
  found-from : (taken xs ys : List X) → shortest_from test taken xs ≡ Some ys → (test ys ≡ true) × Begins ys (taken ++ xs)
  found-from taken [] ys e =
      (elim (test taken) as (λ b. test taken ≡ b → (if b then Some taken else None) ≡ Some ys → (test ys ≡ true) × Begins ys (taken ++ [])) [
        | true ↦ λ t is. let same = ap (λ o. unwrap_or o taken) is in (ap test (sym same) ∙ t, record { rest = []; is = ap (λ zs. zs ++ []) (sym same) })
        | false ↦ λ t is. absurd cc
      ]) refl e
  found-from taken (x ∷ xs) ys e =
      (elim (test taken) as (λ b. test taken ≡ b → elim b as (λ _. Option (List X)) [ true ↦ Some taken | false ↦ shortest_from test (taken ++ x ∷ []) xs ] ≡ Some ys → (test ys ≡ true) × Begins ys (taken ++ x ∷ xs)) [
        | true ↦ λ t is. let same = ap (λ o. unwrap_or o taken) is in (ap test (sym same) ∙ t, record { rest = x ∷ xs; is = ap (λ zs. zs ++ x ∷ xs) (sym same) })
        | false ↦ λ t is. let on = found-from (taken ++ x ∷ []) xs ys is in (on.0, record { rest = on.1.rest; is = on.1.is ∙ append_assoc taken (x ∷ []) xs })
      ]) refl e

  pub shortest-passes : (xs ys : List X) → shortest test xs ≡ Some ys → test ys ≡ true
  shortest-passes xs ys e = (found-from [] xs ys e).0

  pub shortest-begins : (xs ys : List X) → shortest test xs ≡ Some ys → Begins ys xs
  shortest-begins xs ys e = (found-from [] xs ys e).1

  -- if none is found, all of them fail
  fails-from : (taken xs : List X) → shortest_from test taken xs ≡ None → test (taken ++ xs) ≡ false
  fails-from taken [] e =
      (elim (test taken) as (λ b. test taken ≡ b → (if b then Some taken else None) ≡ None → test (taken ++ []) ≡ false) [
        | true ↦ λ t is. absurd cc
        | false ↦ λ t is. ap test (append_nil taken) ∙ t
      ]) refl e
  fails-from taken (x ∷ xs) e =
      (elim (test taken) as (λ b. elim b as (λ _. Option (List X)) [ true ↦ Some taken | false ↦ shortest_from test (taken ++ x ∷ []) xs ] ≡ None → test (taken ++ x ∷ xs) ≡ false) [
        | true ↦ λ is. absurd cc
        | false ↦ λ is. ap test (sym (append_assoc taken (x ∷ []) xs)) ∙ fails-from (taken ++ x ∷ []) xs is
      ]) e

  pub shortest-fails : (xs : List X) → shortest test xs ≡ None → test xs ≡ false
  shortest-fails xs e = fails-from [] xs e
