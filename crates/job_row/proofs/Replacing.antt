-- Where the copies of a row lie after some of them went and a new one took a place.
use Rattle.std.proofs.Common.{◌≡◌, ◌≢◌, ℕ, ◌+◌, ◌^◌, ◌<◌, Bool, true, false, not, ◌||◌, cond, nat_eq, List, [], ◌∷◌, ◌++◌, length, replicate, Contains, ◌⊎◌, inl, inr, Option, Some, None, option_map, refl, sym, ap, subst, ◌∙◌, arith}
use Rattle.std.specs.Prelude.{IsSomeAnd, nat_lt}
use Rattle.std.specs.List.{cons_option}
use Rattle.std.specs.List.Sorted.{IsPermutation}
use Rattle.std.proofs.lemmas.List.Elements.{filter-append}
use Rattle.std.specs.Option.{option_and_then}
use Rattle.std.specs.Map.{lookup}
use Rattle.std.proofs.lemmas.Bool.Decides.{nat_tests}
use Rattle.std.proofs.lemmas.List.{length-replicate}
use Rattle.obj_id.specs.declared.ids.ObjectId.{ObjectId}
use Rattle.obj_id.specs.declared.works.Extent.{Extent}
use Rattle.obj_id.specs.Kinds.{is_primary}
use Rattle.obj_id.specs.Ids.{same_id}
use Rattle.store_facts.proofs.Ids.{same_id-equal, same_id-itself}
use Rattle.private_store.specs.rules.Tables.{ById, at, with_entry, is_among}
use Rattle.private_store.specs.rules.Extents.{rounded}
use Rattle.private_store.specs.rules.Copies.{extent_of}
use Rattle.store_facts.proofs.Rows.{at-put}
use Rattle.store_facts.proofs.Tests.{true_false, false_true, some_value, none_some}
use Rattle.job_region.specs.Region.{extents_of, without, put_in, IsAt}
use Rattle.job_region.proofs.ForCallers.{lookup-put_in, lookup-put_in_other}
use Rattle.lru_evictor.specs.Facts.{gone_of}
use Rattle.lru_evictor.specs.Orders.{without_id, last_used}
use Rattle.lru_evictor.proofs.ForCallers.{goes, without-permuted}
use Rattle.job_row.specs.Evicting.{all_evicted}
use Rattle.job_row.specs.InSync.{LiesAlone}
use Rattle.row_copy.specs.CopyViews.{CopyView, after_eviction}
use Rattle.job_row.specs.RowFacts.{row_facts_of}
use Rattle.job_row.specs.Row.{place_of, ArePlaced}
use Rattle.job_row.proofs.Evicting.{evicted_of, at-evicted}
use Rattle.job_row.proofs.Members.{first_in, later_in, one_of, nothing_in}

same_offset : (n : ℕ) → nat_eq n n ≡ true
same_offset n = grind (arith, nat_tests)

level : (m n : ℕ) → nat_eq m n ≡ true → m ≡ n
level m n t = grind (arith, nat_tests, t)

-- ---- the extents that go

module _ (es : ById CopyView) where
  abbrev pub gone : List ObjectId → List Extent
  gone victims = gone_of (λ id. option_map row_facts_of (at es id)) victims

  extent_is : (v : ObjectId) → option_and_then (λ f. f.extent) (option_map row_facts_of (at es v)) ≡ place_of es v
  extent_is v = by (at es v)
    where
      by : (o : Option CopyView) → option_and_then (λ f. f.extent) (option_map row_facts_of o) ≡ option_and_then (λ kept. extent_of kept.copy) o
      by None = refl
      by (Some k) = refl

  gone_first : (v : ObjectId) (victims : List ObjectId) → gone (v ∷ victims) ≡ cons_option (place_of es v) (gone victims)
  gone_first v victims = ap (λ o. cons_option o (gone victims)) (extent_is v)

  -- a victim's extent goes
  goes_of : (victims : List ObjectId) (v : ObjectId) (e : Extent) → is_among victims v ≡ true → place_of es v ≡ Some e → goes (gone victims) e.offset ≡ true
  goes_of [] v e among lies = true_false among
  goes_of (x ∷ victims) v e among lies = ap (λ gs. goes gs e.offset) (gone_first x victims) ∙ by (same_id v x) refl (goes_of victims v e) among
    where
      more : (o : Option Extent) → goes (gone victims) e.offset ≡ true → goes (cons_option o (gone victims)) e.offset ≡ true
      more None t = t
      more (Some y) t = or_true (nat_eq y.offset e.offset) t
        where
          or_true : (a : Bool) → goes (gone victims) e.offset ≡ true → a || goes (gone victims) e.offset ≡ true
          or_true true t = refl
          or_true false t = t

      by : (b : Bool) → same_id v x ≡ b → (is_among victims v ≡ true → place_of es v ≡ Some e → goes (gone victims) e.offset ≡ true) → b || is_among victims v ≡ true → goes (cons_option (place_of es x) (gone victims)) e.offset ≡ true
      by true t rest among =
          ap (λ o. goes (cons_option o (gone victims)) e.offset) (ap (place_of es) (sym (same_id-equal v x t)) ∙ lies)
          ∙ ap (λ b. b || goes (gone victims) e.offset) (same_offset e.offset)
      by false t rest among = more (place_of es x) (rest among lies)

  record Victim (victims : List ObjectId) (o : ℕ) : Type 0 where
    id : ObjectId
    extent : Extent
    among : is_among victims id ≡ true
    lies : place_of es id ≡ Some extent
    here : extent.offset ≡ o

  -- and nothing else
  goes_by : (victims : List ObjectId) (o : ℕ) → goes (gone victims) o ≡ true → Victim victims o
  goes_by [] o t = true_false t
  goes_by (x ∷ victims) o t = by (place_of es x) refl (goes_by victims o) (ap (λ gs. goes gs o) (sym (gone_first x victims)) ∙ t)
    where
      later : Victim victims o → Victim (x ∷ victims) o
      later v = record { id = v.id; extent = v.extent; among = or_true (same_id v.id x) v.among; lies = v.lies; here = v.here }
        where
          or_true : (a : Bool) → is_among victims v.id ≡ true → a || is_among victims v.id ≡ true
          or_true true t = refl
          or_true false t = t

      by : (p : Option Extent) → place_of es x ≡ p → (goes (gone victims) o ≡ true → Victim victims o) → goes (cons_option p (gone victims)) o ≡ true → Victim (x ∷ victims) o
      by None lies rest t = later (rest t)
      by (Some y) lies rest t =
          elim (nat_eq y.offset o) as (λ b. nat_eq y.offset o ≡ b → b || goes (gone victims) o ≡ true → Victim (x ∷ victims) o) [
            | true ↦ λ same _. record { id = x; extent = y; among = ap (λ b. b || is_among victims x) (same_id-itself x); lies = lies; here = level y.offset o same }
            | false ↦ λ _ t. later (rest t)
          ] refl t

-- ---- what lies in the window without them

pub lookup-without : (gs : List Extent) (placed : List (ℕ × List ℕ)) (o : ℕ) → goes gs o ≡ false → lookup (nat_eq o) (without gs placed) ≡ lookup (nat_eq o) placed
lookup-without gs [] o stays = refl
lookup-without gs (p ∷ placed) o stays =
    elim (goes gs p.0) as (λ b. goes gs p.0 ≡ b → lookup (nat_eq o) (cond (not b) (p ∷ without gs placed) (without gs placed)) ≡ cond (nat_eq o p.0) (Some p.1) (lookup (nat_eq o) placed)) [
      | true ↦ λ t. lookup-without gs placed o stays ∙ sym (ap (λ b. cond b (Some p.1) (lookup (nat_eq o) placed)) (other (nat_eq o p.0) refl t))
      | false ↦ λ t. ap (cond (nat_eq o p.0) (Some p.1)) (lookup-without gs placed o stays)
    ] refl
  where
    other : (b : Bool) → nat_eq o p.0 ≡ b → goes gs p.0 ≡ true → b ≡ false
    other true t goes_here = false_true (sym goes_here ∙ ap (goes gs) (sym (level o p.0 t)) ∙ stays)
    other false t goes_here = refl

-- an extent that is left was there, and doesn't go
pub left_in : (gs : List Extent) (placed : List (ℕ × List ℕ)) (e : Extent) → Contains (extents_of (without gs placed)) e → Contains (extents_of placed) e × (goes gs e.offset ≡ false)
left_in gs [] e inside = absurd (nothing_in e inside)
left_in gs (p ∷ placed) e inside = by (goes gs p.0) refl (left_in gs placed e) inside
  where
    here : Extent
    here = record { offset = p.0; length = length p.1 }

    later : Contains (extents_of placed) e × (goes gs e.offset ≡ false) → Contains (here ∷ extents_of placed) e × (goes gs e.offset ≡ false)
    later r = (later_in here e (extents_of placed) r.0, r.1)

    by : (b : Bool) → goes gs p.0 ≡ b → (Contains (extents_of (without gs placed)) e → Contains (extents_of placed) e × (goes gs e.offset ≡ false)) → Contains (extents_of (cond (not b) (p ∷ without gs placed) (without gs placed))) e → Contains (here ∷ extents_of placed) e × (goes gs e.offset ≡ false)
    by true t rest inside = later (rest inside)
    by false t rest inside = elim (one_of here e (extents_of (without gs placed)) inside) [
      | inl same ↦ (subst (Contains (here ∷ extents_of placed)) same (first_in here (extents_of placed)), ap (λ (x : Extent). goes gs x.offset) (sym same) ∙ t)
      | inr c ↦ later (rest c)
    ]

-- an extent beside a new one
beside : (p : ℕ × List ℕ) (placed : List (ℕ × List ℕ)) (e : Extent) → Contains (extents_of (put_in p placed)) e → (record { offset = p.0; length = length p.1 } ≡ e) ⊎ Contains (extents_of placed) e
beside p [] e inside = elim (one_of (record { offset = p.0; length = length p.1 }) e [] inside) [ inl same ↦ inl same | inr c ↦ absurd (nothing_in e c) ]
beside p (x ∷ placed) e inside = by (nat_lt x.0 p.0) (beside p placed e) inside
  where
    there : Extent
    there = record { offset = x.0; length = length x.1 }

    by : (b : Bool) → (Contains (extents_of (put_in p placed)) e → (record { offset = p.0; length = length p.1 } ≡ e) ⊎ Contains (extents_of placed) e) → Contains (extents_of (cond b (x ∷ put_in p placed) (p ∷ x ∷ placed))) e → (record { offset = p.0; length = length p.1 } ≡ e) ⊎ Contains (extents_of (x ∷ placed)) e
    by true rest inside = elim (one_of there e (extents_of (put_in p placed)) inside) [
      | inl same ↦ inr (subst (Contains (there ∷ extents_of placed)) same (first_in there (extents_of placed)))
      | inr c ↦ elim (rest c) [ inl same ↦ inl same | inr c ↦ inr (later_in there e (extents_of placed) c) ]
    ]
    by false rest inside = one_of (record { offset = p.0; length = length p.1 }) e (extents_of (x ∷ placed)) inside

-- ---- the copies

module _ (es : ById CopyView) (placed : List (ℕ × List ℕ)) (h : ArePlaced placed (place_of es)) (victims : List ObjectId)
    (id : ObjectId) (k : CopyView) (n offset : ℕ) (nowhere : place_of es id ≡ None) (stays : is_among victims id ≡ false)
    (lies_there : extent_of k.copy ≡ Some (record { offset = offset; length = rounded n }))
    (fresh : lookup (nat_eq offset) (without (gone es victims) placed) ≡ None) where
  abbrev pub es_now : ById CopyView
  es_now = all_evicted victims (with_entry es id k)

  abbrev pub placed_now : List (ℕ × List ℕ)
  placed_now = put_in (offset, replicate (rounded n) 0) (without (gone es victims) placed)

  abbrev new : Extent
  new = record { offset = offset; length = rounded n }

  abbrev entered : ObjectId → Option CopyView
  entered q = cond (same_id q id) (Some k) (at es q)

  pub at_now : (q : ObjectId) → at es_now q ≡ cond (is_among victims q) (option_and_then evicted_of (entered q)) (entered q)
  at_now q = at-evicted victims (with_entry es id k) q ∙ ap (λ o. cond (is_among victims q) (option_and_then evicted_of o) o) (at-put es id k q)

  pub id_now : at es_now id ≡ Some k
  id_now = at_now id ∙ (λ i. cond (stays i) (option_and_then evicted_of (entered id)) (cond (same_id-itself id i) (Some k) (at es id)))

  -- an entry of another object: it was there, and is no victim, or gave up its place
  pub record Was (q : ObjectId) (y : CopyView) : Type 0 where
    pub was : CopyView
    pub other : same_id q id ≡ false
    pub found : at es q ≡ Some was
    pub is : ((is_among victims q ≡ false) × (was ≡ y)) ⊎ ((is_among victims q ≡ true) × (is_primary was.copy.kind ≡ true) × (after_eviction was ≡ y))

  abbrev pub Stands : ObjectId → CopyView → Type 0
  Stands q y = ((same_id q id ≡ true) × (k ≡ y)) ⊎ Was q y

  pub stands : (q : ObjectId) (y : CopyView) → at es_now q ≡ Some y → Stands q y
  stands q y found = by (same_id q id) refl (is_among victims q) refl (at es q) refl (sym (at_now q) ∙ found)
    where
      kind : (z : CopyView) (p : Bool) → is_primary z.copy.kind ≡ p → cond p (Some (after_eviction z)) None ≡ Some y → (is_primary z.copy.kind ≡ true) × (after_eviction z ≡ y)
      kind z true p e = (p, some_value (after_eviction z) y e)
      kind z false p e = none_some y e

      by : (s : Bool) → same_id q id ≡ s → (a : Bool) → is_among victims q ≡ a → (o : Option CopyView) → at es q ≡ o
          → cond a (option_and_then evicted_of (cond s (Some k) o)) (cond s (Some k) o) ≡ Some y → Stands q y
      by true s true v o f e = true_false (sym (sym v ∙ ap (is_among victims) (same_id-equal q id s) ∙ stays))
      by true s false v o f e = inl (s, some_value k y e)
      by false s true v None f e = none_some y e
      by false s true v (Some z) f e = let p = kind z (is_primary z.copy.kind) refl e in inr (record { was = z; other = s; found = f; is = inr (v, p.0, p.1) })
      by false s false v None f e = none_some y e
      by false s false v (Some z) f e = inr (record { was = z; other = s; found = f; is = inl (v, some_value z y e) })

  -- where an old copy lies nothing goes
  unmoved : (q : ObjectId) (e : Extent) → is_among victims q ≡ false → place_of es q ≡ Some e → goes (gone es victims) e.offset ≡ false
  unmoved q e kept lies = by (goes (gone es victims) e.offset) refl
    where
      by : (b : Bool) → goes (gone es victims) e.offset ≡ b → b ≡ false
      by false t = refl
      by true t =
          let v = goes_by es victims e.offset t in
          false_true (sym v.among ∙ ap (is_among victims) (h.apart v.id q v.extent e v.lies lies v.here) ∙ kept)

  -- its bytes are found as before
  pub found_still : (q : ObjectId) (e : Extent) → is_among victims q ≡ false → place_of es q ≡ Some e → (offset ≢ e.offset) × (lookup (nat_eq e.offset) placed_now ≡ lookup (nat_eq e.offset) placed)
  found_still q e kept lies = (apart, lookup-put_in_other e.offset (offset, replicate (rounded n) 0) (without (gone es victims) placed) (λ same. apart (sym same)) ∙ still)
    where
      still : lookup (nat_eq e.offset) (without (gone es victims) placed) ≡ lookup (nat_eq e.offset) placed
      still = lookup-without (gone es victims) placed e.offset (unmoved q e kept lies)

      nothing : (o : Option (List ℕ)) → IsSomeAnd o (λ bytes. length bytes ≡ e.length) → o ≡ None → ⊥
      nothing (Some x) at none = none_some x (sym none)
      nothing None at none = absurd at

      apart : offset ≢ e.offset
      apart same = nothing (lookup (nat_eq e.offset) placed) (h.there q e lies) (sym still ∙ ap (λ o. lookup (nat_eq o) (without (gone es victims) placed)) (sym same) ∙ fresh)

  place_now : (q : ObjectId) (e : Extent) → place_of es_now q ≡ Some e → ((q ≡ id) × (new ≡ e)) ⊎ ((is_among victims q ≡ false) × (place_of es q ≡ Some e))
  place_now q e lies = by (at es_now q) refl lies
    where
      of : (y : CopyView) → Stands q y → extent_of y.copy ≡ Some e → ((q ≡ id) × (new ≡ e)) ⊎ ((is_among victims q ≡ false) × (place_of es q ≡ Some e))
      of y (inl t) lies = inl (same_id-equal q id t.0, some_value new e (sym lies_there ∙ ap (λ (k : CopyView). extent_of k.copy) t.1 ∙ lies))
      of y (inr w) lies = elim w.is [
        | inl t ↦ inr (t.0, ap (option_and_then (λ (k : CopyView). extent_of k.copy)) (w.found ∙ ap Some t.1) ∙ lies)
        | inr t ↦ none_some e (ap (λ (k : CopyView). extent_of k.copy) t.2 ∙ lies)
      ]

      by : (o : Option CopyView) → at es_now q ≡ o → option_and_then (λ (k : CopyView). extent_of k.copy) o ≡ Some e → ((q ≡ id) × (new ≡ e)) ⊎ ((is_among victims q ≡ false) × (place_of es q ≡ Some e))
      by None found lies = none_some e lies
      by (Some y) found lies = of y (stands q y found) lies

  pub new_lies : place_of es_now id ≡ Some new
  new_lies = ap (option_and_then (λ (k : CopyView). extent_of k.copy)) id_now ∙ lies_there

  old_lies : (q : ObjectId) (e : Extent) → is_among victims q ≡ false → place_of es q ≡ Some e → place_of es_now q ≡ Some e
  old_lies q e kept lies = ap (option_and_then (λ (k : CopyView). extent_of k.copy)) (at_now q ∙ ap (λ a. cond a (option_and_then evicted_of (entered q)) (entered q)) kept) ∙ by (same_id q id) refl
    where
      by : (b : Bool) → same_id q id ≡ b → option_and_then (λ (k : CopyView). extent_of k.copy) (cond b (Some k) (at es q)) ≡ Some e
      by true t = none_some e (sym nowhere ∙ ap (place_of es) (sym (same_id-equal q id t)) ∙ lies)
      by false t = lies

  there_now : (q : ObjectId) (e : Extent) → place_of es_now q ≡ Some e → IsAt e placed_now
  there_now q e lies = elim (place_now q e lies) [
    | inl t ↦ subst (λ x. IsAt x placed_now) t.1 (subst (λ o. IsSomeAnd o (λ bytes. length bytes ≡ rounded n)) (sym (lookup-put_in (offset, replicate (rounded n) 0) (without (gone es victims) placed))) (length-replicate {A = ℕ} (rounded n) 0))
    | inr t ↦ subst (λ o. IsSomeAnd o (λ bytes. length bytes ≡ e.length)) (sym (found_still q e t.0 t.1).1) (h.there q e t.1)
  ]

  apart_now : (a b : ObjectId) (e f : Extent) → place_of es_now a ≡ Some e → place_of es_now b ≡ Some f → e.offset ≡ f.offset → a ≡ b
  apart_now a b e f in_a in_b same = by (place_now a e in_a) (place_now b f in_b)
    where
      by : ((a ≡ id) × (new ≡ e)) ⊎ ((is_among victims a ≡ false) × (place_of es a ≡ Some e)) → ((b ≡ id) × (new ≡ f)) ⊎ ((is_among victims b ≡ false) × (place_of es b ≡ Some f)) → a ≡ b
      by (inl s) (inl t) = s.0 ∙ sym t.0
      by (inl s) (inr t) = absurd ((found_still b f t.0 t.1).0 (ap (λ x. x.offset) s.1 ∙ same))
      by (inr s) (inl t) = absurd ((found_still a e s.0 s.1).0 (ap (λ x. x.offset) t.1 ∙ sym same))
      by (inr s) (inr t) = h.apart a b e f s.1 t.1 same

  owned_now : (e : Extent) → Contains (extents_of placed_now) e → (q : ObjectId) × (place_of es_now q ≡ Some e)
  owned_now e inside = by (beside (offset, replicate (rounded n) 0) (without (gone es victims) placed) e inside)
    where
      kept : (q : ObjectId) → place_of es q ≡ Some e → goes (gone es victims) e.offset ≡ false → (b : Bool) → is_among victims q ≡ b → b ≡ false
      kept q lies left true among = false_true (sym (goes_of es victims q e among lies) ∙ left)
      kept q lies left false among = refl

      by : (record { offset = offset; length = length (replicate {A = ℕ} (rounded n) 0) } ≡ e) ⊎ Contains (extents_of (without (gone es victims) placed)) e → (q : ObjectId) × (place_of es_now q ≡ Some e)
      by (inl same) = (id, new_lies ∙ ap Some ((λ i. record { offset = offset; length = sym (length-replicate {A = ℕ} (rounded n) 0) i }) ∙ same))
      by (inr c) =
          let left = left_in (gone es victims) placed e c in
          let o = h.owned e left.0 in
          (o.0, old_lies o.0 e (kept o.0 o.1 left.1 (is_among victims o.0) refl) o.1)

  pub replaced_placed : ArePlaced placed_now (place_of es_now)
  replaced_placed = record { there = there_now; apart = apart_now; owned = owned_now }

-- where copies are placed, one that lies there lies alone
pub alone : (placed : List (ℕ × List ℕ)) (es : ById CopyView) (id : ObjectId) (e : Extent) → ArePlaced placed (place_of es) → place_of es id ≡ Some e → e.offset + e.length < 2 ^ 29 → LiesAlone es id e
alone placed es id e h lies small = record { lies = lies; apart = λ x f there same. h.apart x id f e there lies same; small = small }

-- ---- what goes, in another order

pub left_sorted : (es : ById CopyView) (victims : List ObjectId) (placed : List (ℕ × List ℕ)) (sorted taken : List Extent) → IsPermutation (gone es victims) sorted → taken ≡ sorted → without taken placed ≡ without (gone es victims) placed
left_sorted es victims placed sorted taken moved is = ap (λ gs. without gs placed) is ∙ without-permuted (gone es victims) sorted placed moved

-- ---- an id that is in an order no more

pub forgotten : (id : ObjectId) (order : List ObjectId) → is_among order id ≡ false → without_id id (last_used id order) ≡ order
forgotten id order none = filter-append (λ x. not (same_id id x)) (without_id id order) (id ∷ []) ∙ ap (λ ys. without_id id (without_id id order) ++ ys) (ap (λ b. cond (not b) (id ∷ []) []) (same_id-itself id))
    ∙ append_nil (without_id id (without_id id order)) ∙ ap (without_id id) (others order none) ∙ others order none
  where
    append_nil : {Y : Type 0} (ys : List Y) → ys ++ [] ≡ ys
    append_nil [] = refl
    append_nil (y ∷ ys) = ap (λ zs. y ∷ zs) (append_nil ys)

    others : (xs : List ObjectId) → is_among xs id ≡ false → without_id id xs ≡ xs
    others [] h = refl
    others (x ∷ xs) h = by (same_id id x) (others xs) h
      where
        by : (b : Bool) → (is_among xs id ≡ false → without_id id xs ≡ xs) → b || is_among xs id ≡ false → cond (not b) (x ∷ without_id id xs) (without_id id xs) ≡ x ∷ xs
        by true rest h = false_true h
        by false rest h = ap (λ ys. x ∷ ys) (rest h)
