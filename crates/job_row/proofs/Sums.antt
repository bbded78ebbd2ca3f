-- What copies take, as the entries of their map change.
use Rattle.std.proofs.Common.{◌≡◌, ℕ, zero, suc, ◌+◌, ◌-◌, ◌*◌, ◌^◌, ◌≤◌, ◌<◌, Bool, true, false, cond, List, [], ◌∷◌, map, length, get_or, slice_get, position, Option, Some, None, refl, sym, ap, subst, ◌∙◌, arith}
use Rattle.std.specs.Prelude.{sum_by, swap_remove, OnOk, OnErr, Ok, Err}
use Rattle.std.specs.declared.result.Result.{Result}
use Rattle.std.specs.List.{IsDistinct}
use Rattle.std.specs.Option.{option_map_or}
use Rattle.std.specs.Map.{lookup, set_value, keys_of, values_of}
use Rattle.std.proofs.lemmas.List.Sums.{sum_by-cons, sum_by-swap_remove}
use Rattle.indexmap.specs.IndexMap.{insert_entry, swap_remove_entry}
use Rattle.indexmap.proofs.MapLemmas.{Found-position, Missing-position}
use Rattle.obj_id.specs.declared.ids.ObjectId.{ObjectId}
use Rattle.obj_id.specs.Ids.{id_eq}
use Rattle.private_store.specs.rules.Tables.{ById}
use Rattle.store_facts.proofs.Tests.{some_value}
use Rattle.job_row.specs.declared.footprint.Footprint.{Footprint}
use Rattle.job_row.specs.Entries.{by_rising_id}
use Rattle.row_copy.specs.CopyViews.{CopyView}
use Rattle.row_copy.specs.Usages.{window_bytes, device_bytes}
use Rattle.job_row.specs.Usages.{total}
use Rattle.job_row.specs.Counted.{capped, nothing, footprint_by, capped_sum, footprint_of, exchanged, CanExchange}
use Rattle.job_row.proofs.Rising.{total-rising}

-- ---- a sum over entries

value_at : {K X : Type 0} (es : List (K × X)) (i : ℕ) (d : K × X) → i < length es → slice_get (values_of es) i ≡ Some (get_or es i d).1
value_at [] i d le = absurd (omega (arith, le))
value_at (e ∷ es) zero d le = refl
value_at (e ∷ es) (suc i) d le = value_at es i d (omega (arith, le))

module _ {K X : Type 0} (f : X → ℕ) where
  abbrev weights : List (K × X) → ℕ
  weights es = sum_by (λ e. f e.1) es

  -- what a look-up finds is a part of it
  found-le : (test : K → Bool) (es : List (K × X)) → option_map_or f (lookup test es) 0 ≤ weights es
  found-le test [] = omega arith
  found-le test (e ∷ es) = by (test e.0) (sum_by-cons (λ (e : K × X). f e.1) e es) (found-le test es)
    where
      by : (b : Bool) → weights (e ∷ es) ≡ f e.1 + weights es → option_map_or f (lookup test es) 0 ≤ weights es → option_map_or f (cond b (Some e.1) (lookup test es)) 0 ≤ weights (e ∷ es)
      by true all rest = omega (arith, all)
      by false all rest = omega (arith, all, rest)

  weights-set_value : (test : K → Bool) (es : List (K × X)) (x y : X) → lookup test es ≡ Some x → weights (set_value test es y) + f x ≡ weights es + f y
  weights-set_value test [] x y found = absurd cc
  weights-set_value test (e ∷ es) x y found = by (test e.0) found (weights-set_value test es x y)
    where
      by : (b : Bool) → cond b (Some e.1) (lookup test es) ≡ Some x → (lookup test es ≡ Some x → weights (set_value test es y) + f x ≡ weights es + f y)
          → weights (cond b ((e.0, y) ∷ es) (e ∷ set_value test es y)) + f x ≡ weights (e ∷ es) + f y
      by true here rest =
          let is = ap f (some_value e.1 x here) in
          let old = sum_by-cons (λ (e : K × X). f e.1) e es in
          let new = sum_by-cons (λ (e : K × X). f e.1) (e.0, y) es in
          omega (arith, is, old, new)
      by false here rest =
          let later = rest here in
          let old = sum_by-cons (λ (e : K × X). f e.1) e es in
          let new = sum_by-cons (λ (e : K × X). f e.1) e (set_value test es y) in
          omega (arith, later, old, new)

  weights-insert_entry : (eq : K → K → Bool) (es : List (K × X)) (k : K) (y : X) → weights (insert_entry eq es k y) + option_map_or f (lookup (eq k) es) 0 ≡ weights es + f y
  weights-insert_entry eq [] k y = omega arith
  weights-insert_entry eq (e ∷ es) k y = by (eq k e.0) (weights-insert_entry eq es k y)
    where
      by : (b : Bool) → weights (insert_entry eq es k y) + option_map_or f (lookup (eq k) es) 0 ≡ weights es + f y
          → weights (cond b ((e.0, y) ∷ es) (e ∷ insert_entry eq es k y)) + option_map_or f (cond b (Some e.1) (lookup (eq k) es)) 0 ≡ weights (e ∷ es) + f y
      by true rest =
          let old = sum_by-cons (λ (e : K × X). f e.1) e es in
          let new = sum_by-cons (λ (e : K × X). f e.1) (e.0, y) es in
          omega (arith, old, new)
      by false rest =
          let old = sum_by-cons (λ (e : K × X). f e.1) e es in
          let new = sum_by-cons (λ (e : K × X). f e.1) e (insert_entry eq es k y) in
          omega (arith, rest, old, new)

  weights-swap_remove_entry : (test : K → Bool) (es : List (K × X)) → weights (swap_remove_entry test es) + option_map_or f (lookup test es) 0 ≡ weights es
  weights-swap_remove_entry test [] = refl
  weights-swap_remove_entry test (e ∷ es) = by (position test (keys_of (e ∷ es))) refl
    where
      by : (o : Option ℕ) → position test (keys_of (e ∷ es)) ≡ o
          → weights (option_map_or (λ i. swap_remove (e ∷ es) i e) o (e ∷ es)) + option_map_or f (lookup test (e ∷ es)) 0 ≡ weights (e ∷ es)
      by None p =
          let none = ap (λ o. option_map_or f o 0) (Missing-position test (e ∷ es) p).value in
          omega (arith, none)
      by (Some i) p =
          let found = Found-position test (e ∷ es) i p in
          ap (λ o. weights (swap_remove (e ∷ es) i e) + option_map_or f o 0) (found.value ∙ value_at (e ∷ es) i e found.within)
          ∙ sum_by-swap_remove (λ (e : K × X). f e.1) (e ∷ es) i e found.within

  weights-changed : (g : K → X → X) → ((k : K) (x : X) → f (g k x) ≡ f x) → (es : List (K × X)) → weights (map (λ e. (e.0, g e.0 e.1)) es) ≡ weights es
  weights-changed g same [] = refl
  weights-changed g same (e ∷ es) =
      let one = same e.0 e.1 in
      let rest = weights-changed g same es in
      let old = sum_by-cons (λ (e : K × X). f e.1) e es in
      let new = sum_by-cons (λ (e : K × X). f e.1) (e.0, g e.0 e.1) (map (λ e. (e.0, g e.0 e.1)) es) in
      omega (arith, one, rest, old, new)

-- ---- capped sums

module _ (bytes : CopyView → ℕ) where
  abbrev one : CopyView → ℕ
  one k = capped (bytes k)

  sum-bound : (es : ById CopyView) → capped_sum bytes es ≤ 18446744073709551615 * length es
  sum-bound [] = omega arith
  sum-bound (e ∷ es) =
      let rest = sum-bound es in
      let all = sum_by-cons (λ (e : ObjectId × CopyView). capped (bytes e.1)) e es in
      omega (arith, rest, all)

  sum-capped : (es : ById CopyView) → capped (capped_sum bytes es) ≡ total bytes es
  sum-capped [] = refl
  sum-capped (e ∷ es) =
      let rest = sum-capped es in
      let all = sum_by-cons (λ (e : ObjectId × CopyView). capped (bytes e.1)) e es in
      let plain = sum_by-cons (λ (e : ObjectId × CopyView). bytes e.1) e es in
      omega (arith, rest, all, plain)

  -- what is told of the sum
  pub response : (es : List (ObjectId × CopyView)) (now : ById CopyView) → by_rising_id es ≡ now → IsDistinct id_eq (keys_of es) → capped (capped_sum bytes es) ≡ total bytes now
  response es now seen distinct =
      sum-capped es ∙ ap capped (sym (total-rising (λ (e : ObjectId × CopyView). bytes e.1) es distinct)) ∙ ap (total bytes) seen

-- ---- exchanges

-- what a table takes at most of one copy
abbrev pub IsSmall : Footprint → Type 0
IsSmall taken = (taken.window ≤ 18446744073709551615) × (taken.device ≤ 18446744073709551615)

pub small_by : (k : CopyView) → IsSmall (footprint_by k)
small_by k = (omega arith, omega arith)

pub small_nothing : IsSmall nothing
small_nothing = (omega arith, omega arith)

-- what the copy took that a look-up finds
abbrev pub taken_any : Option CopyView → Footprint
taken_any o = option_map_or footprint_by o nothing

any_window : (o : Option CopyView) → (taken_any o).window ≡ option_map_or (λ k. capped (window_bytes k)) o 0
any_window None = refl
any_window (Some k) = refl

any_device : (o : Option CopyView) → (taken_any o).device ≡ option_map_or (λ k. capped (device_bytes k)) o 0
any_device None = refl
any_device (Some k) = refl

swapped : (sum new before after : ℕ) → before ≤ sum → new + before ≡ sum + after → sum - before + after ≡ new
swapped sum new before after le is = omega (arith, le, is)

module _ (test : ObjectId → Bool) (es : List (ObjectId × CopyView)) (taken before after : Footprint) (has : taken ≡ footprint_of es) (was : before ≡ taken_any (lookup test es)) where
  window-le : (taken_any (lookup test es)).window ≤ capped_sum window_bytes es
  window-le = let le = found-le (λ k. capped (window_bytes k)) test es in let is = any_window (lookup test es) in omega (arith, le, is)

  device-le : (taken_any (lookup test es)).device ≤ capped_sum device_bytes es
  device-le = let le = found-le (λ k. capped (device_bytes k)) test es in let is = any_device (lookup test es) in omega (arith, le, is)

  pub can_exchange : IsSmall after → length es < 2 ^ 63 → CanExchange taken before after
  can_exchange small few =
      let w = sum-bound window_bytes es in
      let d = sum-bound device_bytes es in
      let a = small.0 in
      let b = small.1 in
      subst (λ t. CanExchange t before after) (sym has)
      (subst (λ t. CanExchange (footprint_of es) t after) (sym was)
      (record { window = window-le; device = device-le; window_fits = omega (arith, w, a, few); device_fits = omega (arith, d, b, few) }))

  module _ (result : Footprint) (is : result ≡ exchanged taken before after) (new : List (ObjectId × CopyView)) where
    by_sums : capped_sum window_bytes new + (taken_any (lookup test es)).window ≡ capped_sum window_bytes es + after.window
        → capped_sum device_bytes new + (taken_any (lookup test es)).device ≡ capped_sum device_bytes es + after.device → result ≡ footprint_of new
    by_sums window device =
        is ∙ (λ i. exchanged (has i) (was i) after)
        ∙ (λ i. record {
          window = swapped (capped_sum window_bytes es) (capped_sum window_bytes new) (taken_any (lookup test es)).window after.window window-le window i;
          device = swapped (capped_sum device_bytes es) (capped_sum device_bytes new) (taken_any (lookup test es)).device after.device device-le device i;
        })

    -- the copy that is there is another one now
    pub taken-set : (x y : CopyView) → lookup test es ≡ Some x → after ≡ footprint_by y → new ≡ set_value test es y → result ≡ footprint_of new
    taken-set x y found now set = by_sums (sum window_bytes (λ (t : Footprint). t.window) any_window refl) (sum device_bytes (λ (t : Footprint). t.device) any_device refl)
      where
        sum : (bytes : CopyView → ℕ) (part : Footprint → ℕ) → ((o : Option CopyView) → part (taken_any o) ≡ option_map_or (λ k. capped (bytes k)) o 0) → part (footprint_by y) ≡ capped (bytes y)
            → capped_sum bytes new + part (taken_any (lookup test es)) ≡ capped_sum bytes es + part after
        sum bytes part any one =
            let all = weights-set_value (λ k. capped (bytes k)) test es x y found in
            let here = ap (capped_sum bytes) set in
            let old = any (lookup test es) ∙ ap (λ o. option_map_or (λ k. capped (bytes k)) o 0) found in
            let next = ap part now ∙ one in
            omega (arith, all, here, old, next)

    -- the copy is put
    pub taken-insert : (eq : ObjectId → ObjectId → Bool) (id : ObjectId) → test ≡ eq id → (y : CopyView) → after ≡ footprint_by y → new ≡ insert_entry eq es id y → result ≡ footprint_of new
    taken-insert eq id own y now put = by_sums (sum window_bytes (λ (t : Footprint). t.window) any_window refl) (sum device_bytes (λ (t : Footprint). t.device) any_device refl)
      where
        sum : (bytes : CopyView → ℕ) (part : Footprint → ℕ) → ((o : Option CopyView) → part (taken_any o) ≡ option_map_or (λ k. capped (bytes k)) o 0) → part (footprint_by y) ≡ capped (bytes y)
            → capped_sum bytes new + part (taken_any (lookup test es)) ≡ capped_sum bytes es + part after
        sum bytes part any one =
            let all = weights-insert_entry (λ k. capped (bytes k)) eq es id y in
            let here = ap (capped_sum bytes) put in
            let old = any (lookup test es) ∙ ap (λ t. option_map_or (λ k. capped (bytes k)) (lookup t es) 0) own in
            let next = ap part now ∙ one in
            omega (arith, all, here, old, next)

    -- the copy is removed
    pub taken-remove : after ≡ nothing → new ≡ swap_remove_entry test es → result ≡ footprint_of new
    taken-remove now gone = by_sums (sum window_bytes (λ (t : Footprint). t.window) any_window refl) (sum device_bytes (λ (t : Footprint). t.device) any_device refl)
      where
        sum : (bytes : CopyView → ℕ) (part : Footprint → ℕ) → ((o : Option CopyView) → part (taken_any o) ≡ option_map_or (λ k. capped (bytes k)) o 0) → part nothing ≡ 0
            → capped_sum bytes new + part (taken_any (lookup test es)) ≡ capped_sum bytes es + part after
        sum bytes part any one =
            let all = weights-swap_remove_entry (λ k. capped (bytes k)) test es in
            let here = ap (capped_sum bytes) gone in
            let old = any (lookup test es) in
            let next = ap part now ∙ one in
            omega (arith, all, here, old, next)

-- ---- changes that take as much as before

-- of one copy
pub taken-same : (test : ObjectId → Bool) (es new : List (ObjectId × CopyView)) (taken : Footprint) (x y : CopyView) → lookup test es ≡ Some x → new ≡ set_value test es y → footprint_by y ≡ footprint_by x → taken ≡ footprint_of es → taken ≡ footprint_of new
taken-same test es new taken x y found set same has =
    has ∙ (λ i. record { window = sym (sum window_bytes (ap (λ (t : Footprint). t.window) same)) i; device = sym (sum device_bytes (ap (λ (t : Footprint). t.device) same)) i })
  where
    sum : (bytes : CopyView → ℕ) → capped (bytes y) ≡ capped (bytes x) → capped_sum bytes new ≡ capped_sum bytes es
    sum bytes one =
        let all = weights-set_value (λ k. capped (bytes k)) test es x y found in
        let here = ap (capped_sum bytes) set in
        omega (arith, all, here, one)

-- of each
pub taken-each : (g : ObjectId → CopyView → CopyView) → ((id : ObjectId) (k : CopyView) → footprint_by (g id k) ≡ footprint_by k) → (es new : List (ObjectId × CopyView)) (taken : Footprint) → new ≡ map (λ e. (e.0, g e.0 e.1)) es → taken ≡ footprint_of es → taken ≡ footprint_of new
taken-each g same es new taken each has =
    has
    ∙ (λ i. record {
      window = sym (weights-changed (λ k. capped (window_bytes k)) g (λ id k. ap (λ (t : Footprint). t.window) (same id k)) es) i;
      device = sym (weights-changed (λ k. capped (device_bytes k)) g (λ id k. ap (λ (t : Footprint). t.device) (same id k)) es) i;
    })
    ∙ sym (ap footprint_of each)

-- of one copy, unless that was refused
pub taken-either : {R E : Type 0} (r : Result R E) (f : CopyView → CopyView) (x y : CopyView) → OnOk r (y ≡ f x) → OnErr r (y ≡ x) → footprint_by (f x) ≡ footprint_by x → footprint_by y ≡ footprint_by x
taken-either (Ok v) f x y ok err same = ap footprint_by ok ∙ same
taken-either (Err e) f x y ok err same = ap footprint_by err
