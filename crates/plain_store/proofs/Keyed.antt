-- Holds by session: the map's words and the private store's are the same.
use Rattle.std.proofs.Common.{◌≡◌, ℕ, ◌+◌, ◌==◌, ◌≤◌, false, cond, if◌then◌else◌, List, [], ◌∷◌, sum, Some, refl, sym, ap, ◌∙◌, zero-add, arith}
use Rattle.std.specs.List.{fold, sum_by}
use Rattle.std.specs.declared.cmp.Ordering.{Ordering}
use Rattle.std.specs.declared.cmp.Ordering.TheVariants.{Less, Equal, Greater}
use Rattle.std.specs.Ordering.{nat_cmp, match_ordering}
use Rattle.std.specs.FinMap.{find, put}
use Rattle.std.specs.FinMap.Entries.{by_order}
use Rattle.std.specs.Map.{lookup, values_of}
use Rattle.std.specs.BTreeMap.{is_at, insert_entry}
use Rattle.std.proofs.lemmas.List.Sums.{sum_by_from, sum-map}
use Rattle.private_store.specs.rules.Marks.{with_holds, without_session}
use Rattle.private_store.specs.rules.Shape.{Copy}
use Rattle.obj_id.specs.declared.ids.TaskNo.{TaskNo}

-- a look-up
pub find-lookup : {K X : Type 0} (R : K → K → Ordering) (k : K) (es : List (K × X)) → find R k es ≡ lookup (is_at (R k)) es
find-lookup R k [] = refl
find-lookup R k (e ∷ es) = ap (λ o. cond (is_at (R k) e.0) (Some e.1) o) (find-lookup R k es)

-- an insertion
pub insert_entry-put : {K X : Type 0} (R : K → K → Ordering) (k : K) (x : X) (es : List (K × X)) → insert_entry R es k x ≡ put R k x es
insert_entry-put R k x [] = refl
insert_entry-put R k x (e ∷ es) =
    elim (R k e.0) as (λ r. match_ordering r ((k, x) ∷ e ∷ es) ((e.0, x) ∷ es) (e ∷ insert_entry R es k x) ≡ by_order r ((k, x) ∷ e ∷ es) ((e.0, x) ∷ es) (e ∷ put R k x es)) [
      | Less ↦ refl
      | Equal ↦ refl
      | Greater ↦ ap (λ r. e ∷ r) (insert_entry-put R k x es)
    ]

-- a copy with other holds
abbrev pub with_all_holds : Copy → List (ℕ × ℕ) → Copy
with_all_holds copy holds = record copy { holds = holds }

abbrev pub with_borrowers : Copy → List TaskNo → Copy
with_borrowers copy borrowers = record copy { borrowers = borrowers }

-- some holds are an entry
pub some_holds : (copy : Copy) (session n : ℕ) → 1 ≤ n → with_all_holds copy (put nat_cmp session n copy.holds) ≡ with_holds copy session n
some_holds copy session n some =
    let none : (n == 0) ≡ false = grind arith in
    sym (ap (λ b. with_all_holds copy (if b then without_session copy.holds session else put nat_cmp session n copy.holds)) none)

-- the holds of all are their sum
pub sum-holds : (holds : List (ℕ × ℕ)) → sum (values_of holds) ≡ fold (λ n (e : ℕ × ℕ). n + e.1) 0 holds
sum-holds holds = sum-map (λ (e : ℕ × ℕ). e.1) holds ∙ sym (zero-add (sum_by (λ (e : ℕ × ℕ). e.1) holds)) ∙ sym (sum_by_from (λ (e : ℕ × ℕ). e.1) 0 holds)
