-- The exchange that adds an entry keeps the rule of the book.
use Rattle.std.proofs.Common.{◌≡◌, ◌≢◌, ℕ, zero, suc, ◌+◌, ◌<◌, ◌≤◌, ◌==◌, Bool, true, false, cond, List, [], ◌∷◌, ◌++◌, append_assoc, length, filter, reverse, slice_set, refl, ap, sym, subst, ◌∙◌, arith, inl, None, length-append}
use Rattle.std.specs.Prelude.{MatchBool}
use Rattle.std.proofs.lemmas.List.{append-nil, reverse-append}
use Rattle.std.proofs.lemmas.List.Elements.{filter-append}
use Rattle.std.proofs.lemmas.Bool.Decides.{nat_tests}
use mathlib.Core.List.{IsPrefix}
use prog.Atomic.{either}
use Rattle.logbook.specs.Pages.{Cell, cell, keeps, no_nib, step, Moves, Goes}
use Rattle.private_store.specs.declared.schedules.Traced.{Traced}
use Rattle.world_core.proofs.ForCallers.{length-slice_set}
use Rattle.cluster_history.specs.Histories.{stands_at, count_at, IsGrown}
use Rattle.cluster_history.specs.Rules.{IsKept, Added, Adds, MayFollow, GoesOn}

abbrev pub shown : List Traced → List Traced
shown log = []

abbrev pub moved : List Traced → List Traced → ℕ → Type 0
moved xs ys n = Unit {0}

-- ---- cells

cell_set : (cs : List Cell) (k : ℕ) (c : Cell) → k < length cs → cell (slice_set cs k c) k ≡ c
cell_set [] k c lt = absurd (omega (arith, lt))
cell_set (x ∷ cs) zero c lt = refl
cell_set (x ∷ cs) (suc k) c lt = cell_set cs k c (omega (arith, lt))

cell_set_other : (cs : List Cell) (k j : ℕ) (c : Cell) → j ≢ k → cell (slice_set cs k c) j ≡ cell cs j
cell_set_other [] k j c apart = refl
cell_set_other (x ∷ cs) zero zero c apart = absurd (apart refl)
cell_set_other (x ∷ cs) zero (suc j) c apart = refl
cell_set_other (x ∷ cs) (suc k) zero c apart = refl
cell_set_other (x ∷ cs) (suc k) (suc j) c apart = cell_set_other cs k j c (λ e. apart (ap (λ n. suc n) e))

-- ---- how many entries stand at a place

pub count_append : (nodes place : ℕ) (xs ys : List Traced) → count_at nodes place (xs ++ ys) ≡ count_at nodes place xs + count_at nodes place ys
count_append nodes place xs ys =
    ap length (filter-append (λ (entry : Traced). stands_at nodes entry.step == place) xs ys)
    ∙ length-append (filter (λ (entry : Traced). stands_at nodes entry.step == place) xs) (filter (λ (entry : Traced). stands_at nodes entry.step == place) ys)

count_if : (nodes place : ℕ) (e : Traced) (b : Bool) → (stands_at nodes e.step == place) ≡ b → count_at nodes place (e ∷ []) ≡ cond b 1 0
count_if nodes place e b is = ap (λ t. length (cond t (e ∷ []) [])) is ∙ by b
  where
    by : (t : Bool) → length (cond t (e ∷ []) []) ≡ cond t 1 0
    by true = refl
    by false = refl

pub count_here : (nodes place : ℕ) (e : Traced) → stands_at nodes e.step ≡ place → count_at nodes place (e ∷ []) ≡ 1
count_here nodes place e of = count_if nodes place e true (grind (arith, nat_tests))

pub count_there : (nodes place : ℕ) (e : Traced) → stands_at nodes e.step ≢ place → count_at nodes place (e ∷ []) ≡ 0
count_there nodes place e of = count_if nodes place e false (grind (arith, nat_tests))

-- none is left out where a list begins with another and as many stand there
rest_none : (nodes place : ℕ) (xs ys : List Traced) (n : ℕ) → count_at nodes place xs ≡ n → count_at nodes place (xs ++ ys) ≡ n → count_at nodes place ys ≡ 0
rest_none nodes place xs ys n a b = omega (arith, count_append nodes place xs ys, a, b)

-- ---- the step

module _ (nodes memory place : ℕ) (within : place < nodes + 1) (known v : List Traced) (begins : IsPrefix known v) (e : Traced) (old : ℕ) (of : stands_at nodes e.step ≡ place)
    (counted : count_at nodes place known ≡ old) (follows : MayFollow nodes memory place known v e) (cs : List Cell) (log : List Traced) (kept : IsKept nodes memory cs log) (pre : IsPrefix v log) where
  is_count : (cell cs place).0 ≡ count_at nodes place log
  is_count = ap (λ (c : Cell). c.0) (kept.words place within)

  -- the words after more entries
  kept_with : (more : List Traced) (n : ℕ) → n ≡ count_at nodes place (log ++ more) → ((other : ℕ) → other ≢ place → count_at nodes other more ≡ 0) → ∥ IsGrown nodes memory (reverse (log ++ more)) ∥₁
      → IsKept nodes memory (slice_set cs place (n, true)) (log ++ more)
  kept_with more n is others grown = record {
    places = length-slice_set cs place (n, true) ∙ kept.places;
    words = λ other lt. by other lt (other == place) refl;
    grown = grown;
  }
    where
      by : (other : ℕ) → other < nodes + 1 → (b : Bool) → (other == place) ≡ b → cell (slice_set cs place (n, true)) other ≡ (count_at nodes other (log ++ more), true)
      by other lt true t =
          let same : other ≡ place = grind (arith, nat_tests) in
          ap (cell (slice_set cs place (n, true))) same ∙ cell_set cs place (n, true) (omega (arith, within, kept.places)) ∙ ap (λ k. (k, true)) (is ∙ ap (λ k. count_at nodes k (log ++ more)) (sym same))
      by other lt false t =
          let apart : other ≢ place = grind (arith, nat_tests) in
          cell_set_other cs place other (n, true) apart ∙ kept.words other lt
          ∙ ap (λ k. (k, true)) (omega (arith, count_append nodes other log more, others other apart))

  goes : (b : Bool) → ((cell cs place).0 == old) ≡ b
      → Goes (IsKept nodes memory) shown moved place (v, (no_nib, None)) (λ n. either (n == old) (old + 1) n) (Adds nodes memory (step place old (old + 1) e) (v, (no_nib, None))) cs log
  goes true is =
      let here : (cell cs place).0 ≡ old = grind (arith, nat_tests) in
      let rest : List Traced = begins.0 ++ pre.0 in
      let split : known ++ rest ≡ log = sym (append_assoc known begins.0 pre.0) ∙ (ap (λ l. l ++ pre.0) begins.1 ∙ pre.1) in
      let none : count_at nodes place rest ≡ 0 = rest_none nodes place known rest old counted (ap (count_at nodes place) split ∙ sym is_count ∙ here) in
      let next : ∥ IsGrown nodes memory (e ∷ reverse log) ∥₁ =
      subst (λ l. ∥ IsGrown nodes memory (e ∷ reverse l) ∥₁) split
      (follows rest none (subst (IsPrefix v) (sym split) pre) (subst (λ l. ∥ IsGrown nodes memory (reverse l) ∥₁) (sym split) kept.grown))
      in
      let value : either ((cell cs place).0 == old) (old + 1) (cell cs place).0 ≡ count_at nodes place (log ++ e ∷ []) =
      ap (λ b. either b (old + 1) (cell cs place).0) is ∙ omega (arith, count_append nodes place log (e ∷ []), count_here nodes place e of, is_count, here)
      in
      let added : Added nodes memory (step place old (old + 1) e) v (log ++ e ∷ []) = record {
        between = pre.0;
        log = ap (λ w. w ++ e ∷ []) (sym pre.1);
        count = ap (count_at nodes place) pre.1 ∙ sym is_count ∙ here;
        grown = subst (λ l. ∥ IsGrown nodes memory (reverse l) ∥₁) (sym pre.1) kept.grown;
      } in (
        keeps,
        e ∷ [],
        None,
        tt,
        kept_with (e ∷ []) _ value (λ other apart. count_there nodes other e (λ is. apart (sym is ∙ of))) (subst (λ l. ∥ IsGrown nodes memory l ∥₁) (sym (reverse-append log (e ∷ []))) next),
        inl (refl, refl),
        subst (λ b. MatchBool b (Added nodes memory (step place old (old + 1) e) v (log ++ e ∷ [])) (Unit {0})) (sym is) added,
      )
  goes false is =
      let value : either ((cell cs place).0 == old) (old + 1) (cell cs place).0 ≡ count_at nodes place (log ++ []) =
      ap (λ b. either b (old + 1) (cell cs place).0) is ∙ is_count ∙ ap (count_at nodes place) (sym (append-nil log))
      in (
        keeps,
        [],
        None,
        tt,
        kept_with [] _ value (λ other apart. refl) (subst (λ l. ∥ IsGrown nodes memory (reverse l) ∥₁) (sym (append-nil log)) kept.grown),
        inl (refl, refl),
        subst (λ b. MatchBool b (Added nodes memory (step place old (old + 1) e) v (log ++ [])) (Unit {0})) (sym is) tt,
      )

-- whatever the history is by now
pub adds_moves : (nodes memory place : ℕ) → place < nodes + 1 → (known v : List Traced) → IsPrefix known v → (e : Traced) (old : ℕ) → stands_at nodes e.step ≡ place → count_at nodes place known ≡ old
    → MayFollow nodes memory place known v e
    → Moves (IsKept nodes memory) shown moved place (v, (no_nib, None)) (λ n. either (n == old) (old + 1) n) (Adds nodes memory (step place old (old + 1) e) (v, (no_nib, None)))
adds_moves nodes memory place within known v begins e old of counted follows cs log kept pre away = (
  omega (arith, within, kept.places),
  ap (λ (c : Cell). c.1) (kept.words place within),
  goes nodes memory place within known v begins e old of counted follows cs log kept pre ((cell cs place).0 == old) refl,
)

-- one more stands at the place afterwards
pub count_more : (nodes memory place : ℕ) (known other now : List Traced) (e : Traced) → GoesOn nodes memory place known other now e → stands_at nodes e.step ≡ place
    → count_at nodes place now ≡ count_at nodes place known + 1
count_more nodes memory place known other now e g of =
    omega (arith, ap (count_at nodes place) g.log, count_append nodes place (known ++ g.between) (e ∷ []), count_append nodes place known g.between, g.none, count_here nodes place e of)
