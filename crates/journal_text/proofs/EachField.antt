-- One thing is read of each field, in order.
use Rattle.std.proofs.Common.{◌≡◌, ℕ, List, [], ◌∷◌, ◌++◌, Option, Some, None, IfSome, Bor, map, drop, get_or, length, ◌+◌, ◌<◌, ◌≤◌, refl, sym, ap, subst, ◌∙◌}
use Rattle.std.proofs.lemmas.List.{append_assoc, append-nil, at_drop_more, drop_all}
use Rattle.schedule_text.specs.Fields.{Reads}
use Rattle.journal_text.specs.Each.{IsEach}

-- what a whole list of things is after those that were read
pub record IsContinued {X : Type 0} (IsSpelled : List ℕ → X → Type 0) (rest : List (List ℕ)) (xs zs : List X) : Type 0 where
  pub ys : List X
  pub joined : xs ++ ys ≡ zs
  pub spelled : IsEach IsSpelled rest ys

-- these were read, and the rest of the fields is left
pub record IsReadUpTo {X : Type 0} (IsSpelled : List ℕ → X → Type 0) (fields rest : List (List ℕ)) (xs : List X) : Type 0 where
  pub sound : (ys : List X) → IsEach IsSpelled rest ys → IsEach IsSpelled fields (xs ++ ys)
  pub whole : (zs : List X) → IsEach IsSpelled fields zs → IsContinued IsSpelled rest xs zs

module _ {X : Type 0} (IsSpelled : List ℕ → X → Type 0) (fields : List (List ℕ)) where
  pub IsReadUpTo-begin : IsReadUpTo IsSpelled fields fields []
  IsReadUpTo-begin = record {
    sound = λ ys is. is;
    whole = λ zs is. record { ys = zs; joined = refl; spelled = is };
  }

  module _ (field : List ℕ) (rest : List (List ℕ)) (xs : List X) (before : IsReadUpTo IsSpelled fields (field ∷ rest) xs) where
    one_more : (x : X) → ((y : X) → IsSpelled field y → x ≡ y) → (ys zs : List X) → xs ++ ys ≡ zs → IsEach IsSpelled (field ∷ rest) ys → IsContinued IsSpelled rest (xs ++ x ∷ []) zs
    one_more x same [] zs joined is = absurd is
    one_more x same (y ∷ ys) zs joined is = record {
      ys = ys;
      joined = append_assoc xs (x ∷ []) ys ∙ ap (λ z. xs ++ z ∷ ys) (same y is.0) ∙ joined;
      spelled = is.1;
    }

    pub IsReadUpTo-more : (x : X) → IsSpelled field x → ((y : X) → IsSpelled field y → x ≡ y) → IsReadUpTo IsSpelled fields rest (xs ++ x ∷ [])
    IsReadUpTo-more x is same = record {
      sound = λ ys each. subst (IsEach IsSpelled fields) (sym (append_assoc xs (x ∷ []) ys)) (before.sound (x ∷ ys) (is, each));
      whole = λ zs each. let then = before.whole zs each in one_more x same then.ys zs then.joined then.spelled;
    }

    none_more : ((y : X) → IsSpelled field y → ⊥) → (ys : List X) → IsEach IsSpelled (field ∷ rest) ys → ⊥
    none_more unspelled [] is = is
    none_more unspelled (y ∷ ys) is = unspelled y is.0

    pub Reads-stopped : ((y : X) → IsSpelled field y → ⊥) → Reads {X = List X} None (IsEach IsSpelled fields)
    Reads-stopped unspelled = record {
      sound = tt;
      whole = λ zs each. let then = before.whole zs each in absurd (none_more unspelled then.ys then.spelled);
    }

  all_read : (xs ys zs : List X) → xs ++ ys ≡ zs → IsEach IsSpelled [] ys → xs ≡ zs
  all_read xs [] zs joined is = sym (append-nil xs) ∙ joined
  all_read xs (y ∷ ys) zs joined is = absurd is

  pub Reads-each : (xs : List X) → IsReadUpTo IsSpelled fields [] xs → Reads (Some xs) (IsEach IsSpelled fields)
  Reads-each xs read = record {
    sound = subst (IsEach IsSpelled fields) (append-nil xs) (read.sound [] tt);
    whole = λ zs each. let then = read.whole zs each in ap Some (all_read xs then.ys zs then.joined then.spelled);
  }

-- ---- a loop over the fields

module _ {X : Type 0} (IsSpelled : List ℕ → X → Type 0) (fields : List (Bor (List ℕ))) (i : ℕ) (xs : List X)
    (read : IsReadUpTo IsSpelled (map (λ field. field.now) fields) (map (λ field. field.now) (drop i fields)) xs) where
  module _ (d : Bor (List ℕ)) (inside : i < length fields) (found : Option X) (reads : Reads found (IsSpelled (get_or fields i d).now)) where
    unread : IsReadUpTo IsSpelled (map (λ field. field.now) fields) ((get_or fields i d).now ∷ map (λ field. field.now) (drop (i + 1) fields)) xs
    unread = subst (λ rest. IsReadUpTo IsSpelled (map (λ field. field.now) fields) rest xs) (at_drop_more (map (λ field. field.now)) fields i d inside) read

    -- one more is read
    pub IsReadUpTo-next : (x : X) → found ≡ Some x → IsReadUpTo IsSpelled (map (λ field. field.now) fields) (map (λ field. field.now) (drop (i + 1) fields)) (xs ++ x ∷ [])
    IsReadUpTo-next x is =
        let P : Option X → Type 0 = λ o. IfSome o (IsSpelled (get_or fields i d).now) in
        IsReadUpTo-more IsSpelled _ _ _ xs unread x (subst P is reads.sound) (λ y spelled. let whole = reads.whole y spelled in cc)

    -- or none is
    pub Reads-no_more : found ≡ None → Reads {X = List X} None (IsEach IsSpelled (map (λ field. field.now) fields))
    Reads-no_more none = Reads-stopped IsSpelled _ _ _ xs unread (λ y spelled. let whole = reads.whole y spelled in absurd (cc))

  -- all are read
  pub Reads-all : length fields ≤ i → Reads (Some xs) (IsEach IsSpelled (map (λ field. field.now) fields))
  Reads-all end =
      let P : List (Bor (List ℕ)) → Type 0 = λ rest. IsReadUpTo IsSpelled (map (λ field. field.now) fields) (map (λ field. field.now) rest) xs in
      Reads-each IsSpelled _ xs (subst P (drop_all i fields end) read)
