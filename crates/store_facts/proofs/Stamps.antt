-- The order by stamp after a step is the order before without what is gone or was used, and then what was used.
use Rattle.std.proofs.Common.{◌≡◌, ℕ, ◌<◌, ◌≤◌, nat_lt, Bool, true, false, not, cond, ◌&&◌, List, [], ◌∷◌, ◌++◌, map, filter, Option, Some, None, is_some, unwrap_or, refl, sym, ap, subst, ◌∙◌, T, arith}
use Rattle.std.proofs.lemmas.Bool.{ltb-true, lt-ltb, ltb-false}
use Rattle.std.specs.Ordering.{eq_by_cmp, is_eq, is_lt}
use Rattle.std.specs.declared.cmp.Ordering.{Ordering}
use Rattle.std.specs.declared.cmp.Ordering.TheVariants.{Less, Equal, Greater}
use Rattle.std.specs.Cmp.{IsTotalOrder, tied_itself}
use Rattle.std.specs.FinMap.{IsAntisymmetric, find, is_sorted}
use Rattle.std.specs.FinMap.Entries.{below_all, where_key, find-where_key, is_sorted-where_key, same_entries}
use Rattle.std.proofs.lemmas.List.{map-append}
use Rattle.std.proofs.Common.{MatchOption}
use Rattle.store_facts.proofs.Ids.{id_cmp-IsAntisymmetric, id_cmp-IsTotalOrder}
use Rattle.obj_id.specs.declared.ids.ObjectId.{ObjectId}
use Rattle.obj_id.specs.Ids.{id_cmp, same_id}
use Rattle.private_store.specs.rules.Tables.{ById, at}
use Rattle.private_store.specs.rules.Step.{is_used, reordered}
use Rattle.private_store.specs.rules.Private.{placed, stamps_sorted, by_stamp, restamped}
use Rattle.store_facts.proofs.Tests.{and_left, and_right, less_is, none_some, some_value}

module _ {K : Type 0} where
  -- no stamp of the list is below n
  abbrev AtLeast : ℕ → List (K × ℕ) → Type 0
  AtLeast n [] = Unit {0}
  AtLeast n (e ∷ es) = (n ≤ e.1) × AtLeast n es

  -- each stamp of the list is below n
  abbrev pub AllBelow : ℕ → List (K × ℕ) → Type 0
  AllBelow n [] = Unit {0}
  AllBelow n (e ∷ es) = (e.1 < n) × AllBelow n es

  abbrev Rising : List (K × ℕ) → Type 0
  Rising [] = Unit {0}
  Rising (e ∷ es) = AtLeast e.1 es × Rising es

  at_least_less : (m n : ℕ) (es : List (K × ℕ)) → m ≤ n → AtLeast n es → AtLeast m es
  at_least_less m n [] le h = tt
  at_least_less m n (e ∷ es) le h = (omega (arith, h.0), at_least_less m n es le h.1)

  AtLeast-placed : (n : ℕ) (e : K × ℕ) (fs : List (K × ℕ)) → n ≤ e.1 → AtLeast n fs → AtLeast n (placed e fs)
  AtLeast-placed n e [] le h = (le, tt)
  AtLeast-placed n e (f ∷ fs) le h =
      elim (nat_lt e.1 f.1) as (λ b. AtLeast n (cond b (e ∷ f ∷ fs) (f ∷ placed e fs))) [
        | true ↦ (le, h)
        | false ↦ (h.0, AtLeast-placed n e fs le h.1)
      ]

  Rising-placed : (e : K × ℕ) (fs : List (K × ℕ)) → Rising fs → Rising (placed e fs)
  Rising-placed e [] h = (tt, tt)
  Rising-placed e (f ∷ fs) h =
      elim (nat_lt e.1 f.1) as (λ b. nat_lt e.1 f.1 ≡ b → Rising (cond b (e ∷ f ∷ fs) (f ∷ placed e fs))) [
        | true ↦ λ is. let lt : e.1 < f.1 = ltb-true e.1 f.1 is in ((omega (arith, lt), at_least_less e.1 f.1 fs (omega (arith, lt)) h.0), h)
        | false ↦ λ is. (AtLeast-placed f.1 e fs (ltb-false e.1 f.1 is) h.0, Rising-placed e fs h.1)
      ] refl

  Rising-sorted : (es : List (K × ℕ)) → Rising (stamps_sorted es)
  Rising-sorted [] = tt
  Rising-sorted (e ∷ es) = Rising-placed e (stamps_sorted es) (Rising-sorted es)

  AtLeast-filter : (p : K × ℕ → Bool) (n : ℕ) (es : List (K × ℕ)) → AtLeast n es → AtLeast n (filter p es)
  AtLeast-filter p n [] h = tt
  AtLeast-filter p n (e ∷ es) h =
      elim (p e) as (λ b. AtLeast n (cond b (e ∷ filter p es) (filter p es))) [
        | true ↦ (h.0, AtLeast-filter p n es h.1)
        | false ↦ AtLeast-filter p n es h.1
      ]

  AllBelow-filter : (p : K × ℕ → Bool) (n : ℕ) (es : List (K × ℕ)) → AllBelow n es → AllBelow n (filter p es)
  AllBelow-filter p n [] h = tt
  AllBelow-filter p n (e ∷ es) h =
      elim (p e) as (λ b. AllBelow n (cond b (e ∷ filter p es) (filter p es))) [
        | true ↦ (h.0, AllBelow-filter p n es h.1)
        | false ↦ AllBelow-filter p n es h.1
      ]

  AllBelow-placed : (n : ℕ) (e : K × ℕ) (fs : List (K × ℕ)) → e.1 < n → AllBelow n fs → AllBelow n (placed e fs)
  AllBelow-placed n e [] lt h = (lt, tt)
  AllBelow-placed n e (f ∷ fs) lt h =
      elim (nat_lt e.1 f.1) as (λ b. AllBelow n (cond b (e ∷ f ∷ fs) (f ∷ placed e fs))) [
        | true ↦ (lt, h)
        | false ↦ (h.0, AllBelow-placed n e fs lt h.1)
      ]

  AllBelow-sorted : (n : ℕ) (es : List (K × ℕ)) → AllBelow n es → AllBelow n (stamps_sorted es)
  AllBelow-sorted n [] h = tt
  AllBelow-sorted n (e ∷ es) h = AllBelow-placed n e (stamps_sorted es) h.0 (AllBelow-sorted n es h.1)

  -- what is below all others goes to the front
  placed-front : (e : K × ℕ) (fs : List (K × ℕ)) (n : ℕ) → e.1 < n → AtLeast n fs → placed e fs ≡ e ∷ fs
  placed-front e [] n lt h = refl
  placed-front e (f ∷ fs) n lt h = ap (λ b. cond b (e ∷ f ∷ fs) (f ∷ placed e fs)) (lt-ltb e.1 f.1 (omega (arith, lt, h.0)))

  filter-placed : (p : K × ℕ → Bool) (e : K × ℕ) (fs : List (K × ℕ)) → Rising fs
      → filter p (placed e fs) ≡ cond (p e) (placed e (filter p fs)) (filter p fs)
  filter-placed p e [] h = refl
  filter-placed p e (f ∷ fs) h =
      elim (nat_lt e.1 f.1) as (λ b. nat_lt e.1 f.1 ≡ b → filter p (cond b (e ∷ f ∷ fs) (f ∷ placed e fs)) ≡ cond (p e) (placed e (filter p (f ∷ fs))) (filter p (f ∷ fs))) [
        | true ↦ λ is. ap (λ gs. cond (p e) gs (filter p (f ∷ fs)))
            (sym (placed-front e (filter p (f ∷ fs)) f.1 (ltb-true e.1 f.1 is) (AtLeast-filter p f.1 (f ∷ fs) (omega arith, h.0))))
        | false ↦ λ is. elim (p f) as (λ c. cond c (f ∷ filter p (placed e fs)) (filter p (placed e fs)) ≡ cond (p e) (placed e (cond c (f ∷ filter p fs) (filter p fs))) (cond c (f ∷ filter p fs) (filter p fs))) [
          | true ↦ ap (λ gs. f ∷ gs) (filter-placed p e fs h.1) ∙ later (p e) is
          | false ↦ filter-placed p e fs h.1
        ]
      ] refl
    where
      later : (c : Bool) → nat_lt e.1 f.1 ≡ false → f ∷ cond c (placed e (filter p fs)) (filter p fs) ≡ cond c (placed e (f ∷ filter p fs)) (f ∷ filter p fs)
      later true is = sym (ap (λ b. cond b (e ∷ f ∷ filter p fs) (f ∷ placed e (filter p fs))) is)
      later false is = refl

  filter-sorted : (p : K × ℕ → Bool) (es : List (K × ℕ)) → filter p (stamps_sorted es) ≡ stamps_sorted (filter p es)
  filter-sorted p [] = refl
  filter-sorted p (e ∷ es) =
      filter-placed p e (stamps_sorted es) (Rising-sorted es)
      ∙ elim (p e) as (λ b. cond b (placed e (filter p (stamps_sorted es))) (filter p (stamps_sorted es)) ≡ stamps_sorted (cond b (e ∷ filter p es) (filter p es))) [
        | true ↦ ap (placed e) (filter-sorted p es)
        | false ↦ filter-sorted p es
      ]

  placed-last : (k : K) (n : ℕ) (fs : List (K × ℕ)) → AllBelow n fs → placed (k, n) fs ≡ fs ++ (k, n) ∷ []
  placed-last k n [] h = refl
  placed-last k n (f ∷ fs) h =
      ap (λ b. cond b ((k, n) ∷ f ∷ fs) (f ∷ placed (k, n) fs)) (not_below n f.1 h.0) ∙ ap (λ gs. f ∷ gs) (placed-last k n fs h.1)
    where
      not_below : (a b : ℕ) → b < a → nat_lt a b ≡ false
      not_below a b lt = elim (nat_lt a b) as (λ c. nat_lt a b ≡ c → c ≡ false) [
        | true ↦ λ is. absurd (omega (arith, lt, ltb-true a b is))
        | false ↦ λ is. refl
      ] refl

  placed_before_last : (e : K × ℕ) (k : K) (n : ℕ) (fs : List (K × ℕ)) → e.1 < n → placed e (fs ++ (k, n) ∷ []) ≡ placed e fs ++ (k, n) ∷ []
  placed_before_last e k n [] lt = ap (λ b. cond b (e ∷ (k, n) ∷ []) ((k, n) ∷ e ∷ [])) (lt-ltb e.1 n lt)
  placed_before_last e k n (f ∷ fs) lt =
      elim (nat_lt e.1 f.1) as (λ b. cond b (e ∷ f ∷ fs ++ (k, n) ∷ []) (f ∷ placed e (fs ++ (k, n) ∷ [])) ≡ cond b (e ∷ f ∷ fs) (f ∷ placed e fs) ++ (k, n) ∷ []) [
        | true ↦ refl
        | false ↦ ap (λ gs. f ∷ gs) (placed_before_last e k n fs lt)
      ]

  map-filter_keys : (p : K → Bool) (es : List (K × ℕ)) → filter p (map (λ e. e.0) es) ≡ map (λ e. e.0) (filter (λ e. p e.0) es)
  map-filter_keys p [] = refl
  map-filter_keys p (e ∷ es) =
      elim (p e.0) as (λ b. cond b (e.0 ∷ filter p (map (λ e. e.0) es)) (filter p (map (λ e. e.0) es)) ≡ map (λ e. e.0) (cond b (e ∷ filter (λ e. p e.0) es) (filter (λ e. p e.0) es))) [
        | true ↦ ap (λ ks. e.0 ∷ ks) (map-filter_keys p es)
        | false ↦ map-filter_keys p es
      ]

tied : (r : Ordering) → is_eq r ≡ true → r ≡ Equal
tied Less e = absurd (subst T (sym e) tt)
tied Equal e = refl
tied Greater e = absurd (subst T (sym e) tt)

module _ {K : Type 0} {R : K → K → Ordering} (o : IsTotalOrder R) (same : IsAntisymmetric R) where
  ties : K → K → Bool
  ties k x = eq_by_cmp R k x

  -- no key after k ties with it
  rest_apart : (k : K) (e : K × ℕ) (es : List (K × ℕ)) → R k e.0 ≡ Equal → T (below_all R e.0 es)
      → filter (λ f. not (eq_by_cmp R k f.0)) es ≡ es
  rest_apart k e [] t h = refl
  rest_apart k e (f ∷ fs) t h =
      let less : R k f.0 ≡ Less = o.congr k e.0 f.0 t ∙ less_is (R e.0 f.0) (and_left _ _ h) in
      ap (λ r. cond (not (is_eq r)) (f ∷ filter (λ g. not (eq_by_cmp R k g.0)) fs) (filter (λ g. not (eq_by_cmp R k g.0)) fs)) less
      ∙ ap (λ gs. f ∷ gs) (rest_apart k e fs t (and_right _ _ h))

  abbrev others : K → List (K × ℕ) → List (K × ℕ)
  others k es = filter (λ f. not (eq_by_cmp R k f.0)) es

  -- the entry of the key, where it stands first
  sorted-last_here : (k : K) (n : ℕ) (e : K × ℕ) (es : List (K × ℕ)) → T (below_all R e.0 es) → R k e.0 ≡ Equal → e.1 ≡ n → AllBelow n (others k es)
      → placed e (stamps_sorted es) ≡ stamps_sorted (others k es) ++ (k, n) ∷ []
  sorted-last_here k n e es h t is below =
      let entry : ◌≡◌ {A = K × ℕ} e (k, n) = λ i. (sym (same k e.0 t) i, is i) in
      let apart : others k es ≡ es = rest_apart k e es t h in
      ap (λ x. placed x (stamps_sorted es)) entry
      ∙ placed-last k n (stamps_sorted es) (AllBelow-sorted n es (subst (AllBelow n) apart below))
      ∙ ap (λ gs. stamps_sorted gs ++ (k, n) ∷ []) (sym apart)

  -- the entry with the greatest stamp goes last
  sorted-last : (k : K) (n : ℕ) (fs : List (K × ℕ)) → T (is_sorted R fs) → find R k fs ≡ Some n → AllBelow n (others k fs)
      → stamps_sorted fs ≡ stamps_sorted (others k fs) ++ (k, n) ∷ []
  sorted-last k n [] h is below = none_some n is
  sorted-last k n (e ∷ es) h is below =
      elim (eq_by_cmp R k e.0) as (λ b. eq_by_cmp R k e.0 ≡ b → cond b (Some e.1) (find R k es) ≡ Some n → AllBelow n (cond (not b) (e ∷ others k es) (others k es))
      → placed e (stamps_sorted es) ≡ stamps_sorted (cond (not b) (e ∷ others k es) (others k es)) ++ (k, n) ∷ []) [
        | true ↦ λ t i l. sorted-last_here k n e es (and_left _ _ h) (tied _ t) (some_value e.1 n i) l
        | false ↦ λ t i l. ap (placed e) (sorted-last k n es (and_right _ _ h) i l.1) ∙ placed_before_last e k n (stamps_sorted (others k es)) l.0
      ] refl is below

  module _ {X : Type 0} where
    pub find-map : (g : K → ℕ) (q : K) (cs : List (K × X)) → find R q (map (λ e. (e.0, g e.0)) cs) ≡ cond (is_some (find R q cs)) (Some (g q)) None
    find-map g q [] = refl
    find-map g q (e ∷ es) =
        elim (eq_by_cmp R q e.0) as (λ b. eq_by_cmp R q e.0 ≡ b → cond b (Some (g e.0)) (find R q (map (λ e. (e.0, g e.0)) es)) ≡ cond (is_some (cond b (Some e.1) (find R q es))) (Some (g q)) None) [
          | true ↦ λ t. ap (λ x. Some (g x)) (sym (same q e.0 (tied _ t)))
          | false ↦ λ t. find-map g q es
        ] refl

    below_all-map : (g : K → ℕ) (k : K) (cs : List (K × X)) → below_all R k (map (λ e. (e.0, g e.0)) cs) ≡ below_all R k cs
    below_all-map g k [] = refl
    below_all-map g k (e ∷ es) = ap (λ b. is_lt (R k e.0) && b) (below_all-map g k es)

    pub is_sorted-map : (g : K → ℕ) (cs : List (K × X)) → is_sorted R (map (λ e. (e.0, g e.0)) cs) ≡ is_sorted R cs
    is_sorted-map g [] = refl
    is_sorted-map g (e ∷ es) = λ i. below_all-map g e.0 es i && is_sorted-map g es i

  -- the same for all keys that are used: one or none
  abbrev uses : Option K → K → Bool
  uses None x = false
  uses (Some k) x = eq_by_cmp R k x

  abbrev stamp_of : ℕ → Option K → List (K × ℕ) → K → ℕ
  stamp_of n u es x = cond (uses u x) n (unwrap_or (find R x es) 0)

  uses_alike : (u : Option K) (q x : K) → R q x ≡ Equal → uses u x ≡ uses u q
  uses_alike u q x t = ap (uses u) (sym (same q x t))

  module _ {X : Type 0} (n : ℕ) (u : Option K) (es : List (K × ℕ)) (cs : List (K × X)) where
    abbrev fresh : List (K × ℕ)
    fresh = map (λ e. (e.0, stamp_of n u es e.0)) cs

    abbrev stays : K → Bool
    stays x = is_some (find R x cs) && not (uses u x)

    agree : (b c : Bool) (f : Option ℕ) → (c ≡ true → b ≡ false → is_some f ≡ true)
        → cond (not b) (cond c (Some (cond b n (unwrap_or f 0))) None) None ≡ cond (c && not b) f None
    agree true true f h = refl
    agree true false f h = refl
    agree false false f h = refl
    agree false true None h = absurd (subst T (sym (h refl refl)) tt)
    agree false true (Some x) h = refl

    -- apart from what was used, the table is the old one without what is gone
    same_table : T (is_sorted R es) → T (is_sorted R cs) → ((q : K) → is_some (find R q cs) ≡ true → uses u q ≡ false → is_some (find R q es) ≡ true)
        → where_key R (λ x. not (uses u x)) fresh ≡ where_key R stays es
    same_table old new had =
        same_entries R o same (where_key R (λ x. not (uses u x)) fresh) (where_key R stays es)
        (is_sorted-where_key R (λ x. not (uses u x)) fresh (subst T (sym (is_sorted-map (stamp_of n u es) cs)) new))
        (is_sorted-where_key R stays es old)
        (λ q. find-where_key R (λ x. not (uses u x)) q (λ x t. ap not (uses_alike u q x t)) fresh
        ∙ ap (λ f. cond (not (uses u q)) f None) (find-map (stamp_of n u es) q cs)
        ∙ agree (uses u q) (is_some (find R q cs)) (find R q es) (had q)
        ∙ sym (find-where_key R stays q (λ x t. ap stays (sym (same q x t))) es))

all_stay : {A : Type 0} (xs : List A) → filter (λ x. true) xs ≡ xs
all_stay [] = refl
all_stay (x ∷ xs) = ap (λ ys. x ∷ ys) (all_stay xs)

append-nil : {A : Type 0} (xs : List A) → xs ++ [] ≡ xs
append-nil [] = refl
append-nil (x ∷ xs) = ap (λ ys. x ∷ ys) (append-nil xs)

-- the copies that stay or are used were there, or are what was used; and what was used is there
pub record IsStepped {X : Type 0} (n : ℕ) (used : Option ObjectId) (stamps : ById ℕ) (copies : ById X) : Type 0 where
  pub below : AllBelow n stamps
  pub old_sorted : T (is_sorted id_cmp stamps)
  pub new_sorted : T (is_sorted id_cmp copies)
  pub had : (id : ObjectId) → is_some (at copies id) ≡ true → is_used used id ≡ false → is_some (at stamps id) ≡ true
  pub there : MatchOption used (Unit {0}) (λ id. is_some (at copies id) ≡ true)

-- sorted by stamp after a step is the order of use after it
pub by_stamp-restamped : {X : Type 0} (n : ℕ) (used : Option ObjectId) (stamps : ById ℕ) (copies : ById X) → IsStepped n used stamps copies
    → by_stamp (restamped n used stamps copies) ≡ reordered (by_stamp stamps) copies used
by_stamp-restamped n None stamps copies h =
    let o = id_cmp-IsTotalOrder in
    let same = id_cmp-IsAntisymmetric in
    ap by_stamp (sym (all_stay (restamped n None stamps copies)) ∙ same_table o same n None stamps copies h.old_sorted h.new_sorted h.had)
    ∙ ap (map (λ e. e.0)) (sym (filter-sorted (λ e. is_some (at copies e.0) && true) stamps))
    ∙ sym (map-filter_keys (λ id. is_some (at copies id) && true) (stamps_sorted stamps))
    ∙ sym (append-nil _)
by_stamp-restamped n (Some id) stamps copies h =
    let o = id_cmp-IsTotalOrder in
    let same = id_cmp-IsAntisymmetric in
    let stays : ObjectId → Bool = λ x. is_some (at copies x) && not (same_id id x) in
    let table = same_table o same n (Some id) stamps copies h.old_sorted h.new_sorted h.had in
    ap (map (λ e. e.0)) (sorted-last o same id n (restamped n (Some id) stamps copies)
    (subst T (sym (is_sorted-map o same (stamp_of o same n (Some id) stamps) copies)) h.new_sorted)
    (find-map o same (stamp_of o same n (Some id) stamps) id copies ∙ found (is_some (at copies id)) h.there)
    (subst (AllBelow n) (sym table) (AllBelow-filter (λ e. stays e.0) n stamps h.below)))
    ∙ map-append (λ e. e.0) (stamps_sorted (others o same id (restamped n (Some id) stamps copies))) ((id, n) ∷ [])
    ∙ ap (λ es. map (λ e. e.0) (stamps_sorted es) ++ id ∷ []) table
    ∙ ap (λ es. map (λ e. e.0) es ++ id ∷ []) (sym (filter-sorted (λ e. stays e.0) stamps))
    ∙ ap (λ ids. ids ++ id ∷ []) (sym (map-filter_keys stays (stamps_sorted stamps)))
  where
    found : (b : Bool) → b ≡ true → cond b (Some (stamp_of id_cmp-IsTotalOrder id_cmp-IsAntisymmetric n (Some id) stamps id)) None ≡ Some n
    found b is =
        ap (λ c. cond c (Some (stamp_of id_cmp-IsTotalOrder id_cmp-IsAntisymmetric n (Some id) stamps id)) None) is
        ∙ ap (λ r. Some (cond (is_eq r) n (unwrap_or (at stamps id) 0))) (tied_itself id_cmp-IsTotalOrder id)
