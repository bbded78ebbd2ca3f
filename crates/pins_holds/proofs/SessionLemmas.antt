-- Holds by rising session: the map's words and the private store's are the same, and how a change of one
-- session's number changes the sum.
use Rattle.std.proofs.Common.{◌≡◌, ℕ, ◌+◌, ◌-◌, ◌<◌, ◌≤◌, Bool, true, false, not, cond, ◌&&◌, ◌==◌, List, [], ◌∷◌, Some, None, unwrap_or, refl, sym, ap, subst, ◌∙◌, T, arith}
use Rattle.std.specs.declared.cmp.Ordering.{Ordering}
use Rattle.std.specs.declared.cmp.Ordering.TheVariants.{Less, Equal, Greater}
use Rattle.std.specs.Ordering.{nat_cmp, is_lt, is_eq, match_ordering}
use Rattle.std.specs.Cmp.{nat_cmp_total, unsigned_ties}
use Rattle.std.specs.FinMap.{find, put, is_sorted, nat_cmp-IsAntisymmetric}
use Rattle.std.specs.FinMap.Entries.{below_all, by_order}
use Rattle.std.specs.Map.{remove_entry, set_value}
use Rattle.std.specs.BTreeMap.{is_at, insert_entry}
use Rattle.std.proofs.lemmas.List.Sums.{sum_by-cons}
use Rattle.std.proofs.lemmas.Bool.Decides.{nat_tests}
use Rattle.obj_id.specs.declared.commands.CopyState.TheVariants.{Sealed}
use Rattle.private_store.specs.rules.Marks.{without_session}
use Rattle.store_facts.proofs.KeptHolds.{holds_keep}
use Rattle.pins_holds.specs.Sessions.{count_of, with_count, sessions_total, AreHolds}
use Rattle.store_facts.proofs.Tests.{T_true, both_left}

less_is : (r : Ordering) → T (is_lt r) → r ≡ Less
less_is Less h = refl
less_is Equal h = absurd h
less_is Greater h = absurd h

T_left : (a b : Bool) → T (a && b) → T a
T_left true b h = tt
T_left false b h = h

T_right : (a b : Bool) → T (a && b) → T b
T_right true b h = h
T_right false b h = absurd h

-- ---- the map's words

-- an insertion into the map is one into the list
pub insert_entry-put : (k v : ℕ) (es : List (ℕ × ℕ)) → insert_entry nat_cmp es k v ≡ put nat_cmp k v es
insert_entry-put k v [] = refl
insert_entry-put k v (e ∷ es) =
    elim (nat_cmp k e.0) as (λ r. match_ordering r ((k, v) ∷ e ∷ es) ((e.0, v) ∷ es) (e ∷ insert_entry nat_cmp es k v) ≡ by_order r ((k, v) ∷ e ∷ es) ((e.0, v) ∷ es) (e ∷ put nat_cmp k v es)) [
      | Less ↦ refl
      | Equal ↦ refl
      | Greater ↦ ap (λ r. e ∷ r) (insert_entry-put k v es)
    ]

-- a number below all is none of them
below_none : (k : ℕ) (e : ℕ × ℕ) (es : List (ℕ × ℕ)) → nat_cmp k e.0 ≡ Less → T (below_all nat_cmp e.0 es) → find nat_cmp k es ≡ None
below_none k e [] l h = refl
below_none k e (f ∷ es) l h =
    let less : nat_cmp k f.0 ≡ Less = nat_cmp_total.trans k e.0 f.0 l (less_is (nat_cmp e.0 f.0) (T_left _ _ h)) in
    ap (λ r. cond (is_eq r) (Some f.1) (find nat_cmp k es)) less ∙ below_none k e es l (T_right (is_lt (nat_cmp e.0 f.0)) _ h)

-- a write at a number that is there is an insertion
pub set_value-put : (k v : ℕ) (es : List (ℕ × ℕ)) → T (is_sorted nat_cmp es) → 0 < count_of es k → set_value (is_at (nat_cmp k)) es v ≡ put nat_cmp k v es
set_value-put k v [] h there = absurd (omega arith)
set_value-put k v (e ∷ es) h there =
    (elim (nat_cmp k e.0) as (λ r. nat_cmp k e.0 ≡ r → 0 < unwrap_or (cond (is_eq r) (Some e.1) (find nat_cmp k es)) 0
    → cond (is_eq r) ((e.0, v) ∷ es) (e ∷ set_value (is_at (nat_cmp k)) es v) ≡ by_order r ((k, v) ∷ e ∷ es) ((e.0, v) ∷ es) (e ∷ put nat_cmp k v es)) [
      | Less ↦ λ l some.
          let n : unwrap_or (find nat_cmp k es) 0 ≡ 0 = ap (λ o. unwrap_or o 0) (below_none k e es l (T_left _ _ h)) in
          absurd (omega arith)
      | Equal ↦ λ _ _. refl
      | Greater ↦ λ _ some. ap (λ r. e ∷ r) (set_value-put k v es (T_right (below_all nat_cmp e.0 es) _ h) some)
    ]) refl there

eqb_symmetric : (a k : ℕ) → (a == k) ≡ (k == a)
eqb_symmetric a k = grind (arith, nat_tests)

same_number : (a k : ℕ) → (a == k) ≡ is_eq (nat_cmp k a)
same_number a k = eqb_symmetric a k ∙ unsigned_ties k a

-- a number below all is no one's
without-below : (k : ℕ) (es : List (ℕ × ℕ)) → T (below_all nat_cmp k es) → without_session es k ≡ es
without-below k [] h = refl
without-below k (e ∷ es) h =
    let less = less_is (nat_cmp k e.0) (T_left _ _ h) in
    ap (λ b. cond (not b) (e ∷ without_session es k) (without_session es k)) (same_number e.0 k ∙ ap is_eq less)
    ∙ ap (λ r. e ∷ r) (without-below k es (T_right (is_lt (nat_cmp k e.0)) _ h))

-- taking the first entry of a session takes all that it has
pub remove_entry-without : (k : ℕ) (es : List (ℕ × ℕ)) → T (is_sorted nat_cmp es) → remove_entry (is_at (nat_cmp k)) es ≡ without_session es k
remove_entry-without k [] h = refl
remove_entry-without k (e ∷ es) h =
    let rest = ap (λ r. e ∷ r) (remove_entry-without k es (T_right (below_all nat_cmp e.0 es) _ h)) in
    (elim (nat_cmp k e.0) as (λ r. nat_cmp k e.0 ≡ r → cond (is_eq r) es (e ∷ remove_entry (is_at (nat_cmp k)) es) ≡ cond (not (is_eq r)) (e ∷ without_session es k) (without_session es k)) [
      | Less ↦ λ _. rest
      | Equal ↦ λ q. sym (without-below k es (subst (λ x. T (below_all nat_cmp x es)) (sym (nat_cmp-IsAntisymmetric k e.0 q)) (T_left _ _ h)))
      | Greater ↦ λ _. rest
    ]) refl
    ∙ ap (λ b. cond (not b) (e ∷ without_session es k) (without_session es k)) (sym (same_number e.0 k))

-- ---- the sum

pub total-put : (k v : ℕ) (es : List (ℕ × ℕ)) → T (is_sorted nat_cmp es) → sessions_total (put nat_cmp k v es) + count_of es k ≡ sessions_total es + v
total-put k v [] h = let s = sum_by-cons {X = ℕ × ℕ} (λ e. e.1) (k, v) [] in omega (arith, s)
total-put k v (e ∷ es) h =
    let c = sum_by-cons (λ (x : ℕ × ℕ). x.1) e es in
    elim (nat_cmp k e.0) as (λ r. nat_cmp k e.0 ≡ r → sessions_total (by_order r ((k, v) ∷ e ∷ es) ((e.0, v) ∷ es) (e ∷ put nat_cmp k v es)) + unwrap_or (cond (is_eq r) (Some e.1) (find nat_cmp k es)) 0 ≡ sessions_total (e ∷ es) + v) [
      | Less ↦ λ l.
          let s = sum_by-cons (λ (x : ℕ × ℕ). x.1) (k, v) (e ∷ es) in
          let n : unwrap_or (find nat_cmp k es) 0 ≡ 0 = ap (λ o. unwrap_or o 0) (below_none k e es l (T_left _ _ h)) in
          omega (arith, s, n)
      | Equal ↦ λ _. let s = sum_by-cons (λ (x : ℕ × ℕ). x.1) (e.0, v) es in omega (arith, s, c)
      | Greater ↦ λ _. let s = sum_by-cons (λ (x : ℕ × ℕ). x.1) e (put nat_cmp k v es) in let i = total-put k v es (T_right (below_all nat_cmp e.0 es) _ h) in omega (arith, s, c, i)
    ] refl

total-remove_entry : (k : ℕ) (es : List (ℕ × ℕ)) → sessions_total (remove_entry (is_at (nat_cmp k)) es) + count_of es k ≡ sessions_total es
total-remove_entry k [] = refl
total-remove_entry k (e ∷ es) =
    let c = sum_by-cons (λ (x : ℕ × ℕ). x.1) e es in
    elim (is_eq (nat_cmp k e.0)) as (λ b. sessions_total (cond b es (e ∷ remove_entry (is_at (nat_cmp k)) es)) + unwrap_or (cond b (Some e.1) (find nat_cmp k es)) 0 ≡ sessions_total (e ∷ es)) [
      | true ↦ omega (arith, c)
      | false ↦ let s = sum_by-cons (λ (x : ℕ × ℕ). x.1) e (remove_entry (is_at (nat_cmp k)) es) in let i = total-remove_entry k es in omega (arith, s, c, i)
    ]

-- no session has more than all
pub count-total : (k : ℕ) (es : List (ℕ × ℕ)) → count_of es k ≤ sessions_total es
count-total k es = let i = total-remove_entry k es in omega arith

pub total-without : (k : ℕ) (es : List (ℕ × ℕ)) → T (is_sorted nat_cmp es) → sessions_total (without_session es k) + count_of es k ≡ sessions_total es
total-without k es h = ap (λ xs. sessions_total xs + count_of es k) (sym (remove_entry-without k es h)) ∙ total-remove_entry k es

-- ---- what always holds

pub rising : (es : List (ℕ × ℕ)) → AreHolds es → T (is_sorted nat_cmp es)
rising es h = T_true _ (both_left _ _ h.sessions)

not_none : (n : ℕ) → 0 < n → (n == 0) ≡ false
not_none n some = grind (arith, nat_tests)

-- where a session has some, the list is that with its number put in
pub with_count-some : (k n : ℕ) (es : List (ℕ × ℕ)) → 0 < n → with_count es k n ≡ put nat_cmp k n es
with_count-some k n es some = ap (λ b. cond b (without_session es k) (put nat_cmp k n es)) (not_none n some)

pub put_keeps : (k n : ℕ) (es : List (ℕ × ℕ)) → AreHolds es → 0 < n → n + sessions_total es ≤ 64 + count_of es k → AreHolds (put nat_cmp k n es)
put_keeps k n es h some few = subst AreHolds (with_count-some k n es some) (holds_keep Sealed es k n h (λ _. refl) few)

pub without_keeps : (k : ℕ) (es : List (ℕ × ℕ)) → AreHolds es → AreHolds (without_session es k)
without_keeps k es h = holds_keep Sealed es k 0 h (λ _. refl) (let i = h.few_holds in omega arith)

-- ---- the three changes, with the sum that is kept beside the list

pub added : (k n all : ℕ) (es new : List (ℕ × ℕ)) → AreHolds es → all ≡ sessions_total es → sessions_total es < 64 → n ≡ count_of es k → new ≡ put nat_cmp k (n + 1) es
    → AreHolds new × (all + 1 ≡ sessions_total new)
added k n all es new kept sum few here is =
    let s = total-put k (n + 1) es (rising es kept) in
    subst (λ xs. AreHolds xs × (all + 1 ≡ sessions_total xs)) (sym is) (put_keeps k (n + 1) es kept (omega arith) (omega arith), omega arith)

pub lowered : (k n all : ℕ) (es new : List (ℕ × ℕ)) → AreHolds es → all ≡ sessions_total es → n ≡ count_of es k → 1 < n → new ≡ put nat_cmp k (n - 1) es
    → AreHolds new × (all - 1 ≡ sessions_total new)
lowered k n all es new kept sum here some is =
    let s = total-put k (n - 1) es (rising es kept) in
    let c = count-total k es in
    let few : sessions_total es ≤ 64 = kept.few_holds in
    subst (λ xs. AreHolds xs × (all - 1 ≡ sessions_total xs)) (sym is) (put_keeps k (n - 1) es kept (omega arith) (omega arith), omega arith)

pub cleared : (k n all : ℕ) (es new : List (ℕ × ℕ)) → AreHolds es → all ≡ sessions_total es → n ≡ count_of es k → new ≡ without_session es k
    → AreHolds new × (all - n ≡ sessions_total new)
cleared k n all es new kept sum here is =
    let s = total-without k es (rising es kept) in
    subst (λ xs. AreHolds xs × (all - n ≡ sessions_total xs)) (sym is) (without_keeps k es kept, omega arith)
