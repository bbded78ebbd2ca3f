-- Every input keeps the lists of a store: by the edits that it is made of.
use Rattle.std.proofs.Common.{◌≡◌, ℕ, ◌+◌, ◌≤◌, ◌<◌, Bool, true, false, not, cond, ◌&&◌, ◌⊎◌, inl, inr, nat_le, nat_lt, List, [], ◌∷◌, ◌++◌, filter, length, Option, Some, None, is_some, refl, sym, ap, subst, ◌∙◌, arith}
use Rattle.std.specs.Prelude.{count_by}
use Rattle.std.specs.Option.{option_map_or}
use Rattle.std.specs.List.{list_all}
use Rattle.std.specs.FinMap.Entries.{is_sorted-where_key, is_sorted-put}
use Rattle.std.proofs.lemmas.Bool.{leb-true, le-leb, lt-ltb}
use Rattle.std.proofs.lemmas.List.{append-nil}
use Rattle.obj_id.specs.declared.ids.ObjectId.{ObjectId}
use Rattle.obj_id.specs.Ids.{id_cmp, same_id}
use Rattle.private_store.specs.declared.inputs.Judged.{Judged}
use Rattle.private_store.specs.rules.Tables.{ById, at, with_entry, without_entry}
use Rattle.private_store.specs.rules.Shape.{Copy, Shape, GrantTaken, WorkInFlight, Seen, unbegun}
use Rattle.private_store.specs.rules.Marks.{Mark, marked}
use Rattle.private_store.specs.rules.Marks as mark
use Rattle.private_store.specs.rules.Commands.{new_copy, fetched_copy}
use Rattle.private_store.specs.rules.Events.{grants_of, is_the_grant}
use Rattle.private_store.specs.rules.Step.{step, is_used, reordered, order_after}
use Rattle.private_store.specs.laws.Made.{Can, Edit, marks, drops, creates, fetches, asks, finishes, receives, loses, ends, IsUsedThere}
use Rattle.private_store.specs.laws.Listed.{IsOrderOf, fetch_number, AreFetchesKept, are_rising, AreWorksRising, AreSeenKept, AreListsKept}
use Rattle.store_facts.proofs.EachStep.{step_made, input_keeps}
use Rattle.store_facts.proofs.Sound.{step_adds}
use Rattle.store_facts.proofs.KeptLists.{count-cons, count-append, all-filter, all_weaker}
use Rattle.store_facts.proofs.Rows.{put_rows, drop_rows}
use Rattle.store_facts.proofs.Tests.{both, both_left, both_right, none_some, some_value, true_false, false_true, true_T, T_true}
use Rattle.store_facts.proofs.Ids.{id_cmp-IsTotalOrder, same_id-equal, same_id-itself, same_id-flip}

-- ---- the order of use

-- how often an id stands in what is left of a list of ids
left_of : (a b s : Bool) (all rest left more : ℕ) → (s ≡ true → b ≡ a) → left ≡ cond a rest 0 → all ≡ cond s 1 0 + rest → more ≡ cond s 1 0 + left → cond b more left ≡ cond a all 0
left_of true true s all rest left more h i j k = omega (arith, i, j, k)
left_of false false s all rest left more h i j k = i
left_of true false true all rest left more h i j k = true_false (h refl)
left_of false true true all rest left more h i j k = false_true (h refl)
left_of true false false all rest left more h i j k = omega (arith, i, j, k)
left_of false true false all rest left more h i j k = omega (arith, i, j, k)

count-left : (q : ObjectId) (r : ObjectId → Bool) (ids : List ObjectId) → count_by (same_id q) (filter r ids) ≡ cond (r q) (count_by (same_id q) ids) 0
count-left q r [] = let z : ℕ = 0 in elim (r q) as (λ b. z ≡ cond b z z) [ true ↦ refl | false ↦ refl ]
count-left q r (id ∷ ids) =
    let i = count-left q r ids in
    let all = count-cons (same_id q) id ids in
    let left = count-cons (same_id q) id (filter r ids) in
    elim (r id) as (λ b. r id ≡ b → count_by (same_id q) (cond b (id ∷ filter r ids) (filter r ids)) ≡ cond (r q) (count_by (same_id q) (id ∷ ids)) 0) [
      | true ↦ λ e. left_of (r q) true (same_id q id) _ _ _ _ (λ s. sym e ∙ ap r (sym (same_id-equal q id s))) i all left
      | false ↦ λ e. left_of (r q) false (same_id q id) _ _ _ _ (λ s. sym e ∙ ap r (sym (same_id-equal q id s))) i all left
    ] refl

once_more : (now s was : Bool) (before left all : ℕ) → before ≡ cond was 1 0 → left ≡ cond (now && not s) before 0 → all ≡ left + cond s 1 0 → (s ≡ true → now ≡ true) → (now ≡ true → s ≡ false → was ≡ true) → all ≡ cond now 1 0
once_more true true was before left all h i j k l = omega (arith, i, j)
once_more true false true before left all h i j k l = omega (arith, h, i, j)
once_more true false false before left all h i j k l = true_false (l refl refl)
once_more false true was before left all h i j k l = true_false (k refl)
once_more false false was before left all h i j k l = omega (arith, i, j)

order_is_kept : (order : List ObjectId) (copies new : ById Copy) (used : Option ObjectId) → IsOrderOf order copies
    → ((q : ObjectId) → is_some (at new q) ≡ true → (is_some (at copies q) ≡ true) ⊎ (is_used used q ≡ true)) → IsUsedThere used new → IsOrderOf (reordered order new used) new
order_is_kept order copies new None h adds there q =
    let stays : ObjectId → Bool = λ id. is_some (at new id) && not (is_used None id) in
    once_more (is_some (at new q)) false (is_some (at copies q)) (count_by (same_id q) order) (count_by (same_id q) (filter stays order)) (count_by (same_id q) (filter stays order ++ [])) (h q) (count-left q stays order)
    (ap (count_by (same_id q)) (append-nil (filter stays order)) ∙ omega arith) (λ t. true_false t) (λ t _. elim (adds q t) [ inl was ↦ was | inr now ↦ true_false now ])
order_is_kept order copies new (Some id) h adds there q =
    let stays : ObjectId → Bool = λ p. is_some (at new p) && not (is_used (Some id) p) in
    let both_ways = same_id-flip id q in
    let more = count-append (same_id q) (filter stays order) (id ∷ []) in
    let last = count-cons (same_id q) id [] in
    let nothing : count_by (same_id q) [] ≡ 0 = refl in
    once_more (is_some (at new q)) (same_id id q) (is_some (at copies q)) (count_by (same_id q) order) (count_by (same_id q) (filter stays order)) (count_by (same_id q) (filter stays order ++ id ∷ [])) (h q) (count-left q stays order)
    (subst (λ b. count_by (same_id q) (filter stays order ++ id ∷ []) ≡ count_by (same_id q) (filter stays order) + cond b 1 0) (sym both_ways) (omega (arith, more, last, nothing)))
    (λ t. ap (λ p. is_some (at new p)) (sym (same_id-equal id q t)) ∙ there)
    (λ t f. elim (adds q t) [ inl was ↦ was | inr now ↦ true_false (sym f ∙ now) ])

-- ---- the numbers of fetches

mark_number : (x : Judged) (m : Mark) (copy : Copy) (n : ℕ) → Can x m copy → fetch_number (Some (marked m copy)) ≡ Some n → fetch_number (Some copy) ≡ Some n
mark_number x (mark.located fetch None) copy n f t = ap (λ o. fetch_number (Some (record copy { fetch = o }))) f.0 ∙ t
mark_number x (mark.located fetch (Some source)) copy n f t = ap (λ o. fetch_number (Some (record copy { fetch = o }))) f.0 ∙ t
mark_number x (mark.pulled fetch offset source) copy n f t = ap (λ o. fetch_number (Some (record copy { fetch = o }))) f.0 ∙ t
mark_number x (mark.lacking fetch source missing) copy n f t = ap (λ o. fetch_number (Some (record copy { fetch = o }))) f ∙ t
mark_number x (mark.fetch_failed fetch fault) copy n f t = ap (λ o. fetch_number (Some (record copy { fetch = o }))) f.0 ∙ t
mark_number x mark.brought copy n can t = none_some n t
mark_number x _ copy n can t = t

-- no number is new
fewer_fetches : {old new : ById Copy} {begun : ℕ} → ((q : ObjectId) (n : ℕ) → fetch_number (at new q) ≡ Some n → fetch_number (at old q) ≡ Some n) → AreFetchesKept old begun → AreFetchesKept new begun
fewer_fetches was h = record { numbered = λ q n t. h.numbered q n (was q n t); apart = λ a b n s t. h.apart a b n (was a n s) (was b n t) }

next_fetch : (copies : ById Copy) (begun : ℕ) (id : ObjectId) → AreFetchesKept copies begun → AreFetchesKept (with_entry copies id (fetched_copy (begun + 1))) (begun + 1)
next_fetch copies begun id h = record {
  numbered = λ q n t. elim (new q n t) [
    | inl now ↦ let e = now.1 in (omega (arith, e), omega (arith, e))
    | inr was ↦ let k = h.numbered q n was in (k.0, omega (arith, k.1))
  ];
  apart = λ a b n s t. by_both a b n (new a n s) (new b n t);
}
  where
    New : ObjectId → ℕ → Type 0
    New q n = ((same_id q id ≡ true) × (n ≡ begun + 1)) ⊎ (fetch_number (at copies q) ≡ Some n)

    new : (q : ObjectId) (n : ℕ) → fetch_number (at (with_entry copies id (fetched_copy (begun + 1))) q) ≡ Some n → ((same_id q id ≡ true) × (n ≡ begun + 1)) ⊎ (fetch_number (at copies q) ≡ Some n)
    new q n = put_rows (λ q o. fetch_number o ≡ Some n → ((same_id q id ≡ true) × (n ≡ begun + 1)) ⊎ (fetch_number (at copies q) ≡ Some n)) copies id (fetched_copy (begun + 1))
        (λ t. inl (same_id-itself id, sym (some_value (begun + 1) n t))) (λ q _ t. inr t) q

    old : (q : ObjectId) (n : ℕ) → fetch_number (at copies q) ≡ Some n → n ≡ begun + 1 → ⊥
    old q n t e = let k = (h.numbered q n t).1 in omega (arith, k, e)

    by_both : (a b : ObjectId) (n : ℕ) → ((same_id a id ≡ true) × (n ≡ begun + 1)) ⊎ (fetch_number (at copies a) ≡ Some n) → ((same_id b id ≡ true) × (n ≡ begun + 1)) ⊎ (fetch_number (at copies b) ≡ Some n) → same_id a b ≡ true
    by_both a b n (inl s) (inl t) = ap (λ y. same_id a y) (same_id-equal b id t.0) ∙ s.0
    by_both a b n (inl s) (inr t) = absurd (old b n t s.1)
    by_both a b n (inr s) (inl t) = absurd (old a n s t.1)
    by_both a b n (inr s) (inr t) = h.apart a b n s t

edit_fetches : {x : Judged} (used : Option ObjectId) (store after : Shape) → Edit x used store after → AreFetchesKept store.copies store.fetches_begun → AreFetchesKept after.copies after.fetches_begun
edit_fetches used store after (marks id copy m e can) h =
    fewer_fetches (λ q n. put_rows (λ q o. fetch_number o ≡ Some n → fetch_number (at store.copies q) ≡ Some n) store.copies id (marked m copy) (λ t. ap fetch_number e ∙ mark_number _ m copy n can t) (λ q _ t. t) q) h
edit_fetches used store after (drops id copy e g) h =
    fewer_fetches (λ q n. drop_rows (λ q o. fetch_number o ≡ Some n → fetch_number (at store.copies q) ≡ Some n) store.copies id (λ q t. none_some n t) (λ q t. t) q) h
edit_fetches used store after (creates id kind n offset u stirs) h =
    fewer_fetches (λ q m. put_rows (λ q o. fetch_number o ≡ Some m → fetch_number (at store.copies q) ≡ Some m) store.copies id (new_copy kind n offset) (λ t. none_some m t) (λ q _ t. t) q) h
edit_fetches used store after (fetches id u e n stirs) h = next_fetch store.copies store.fetches_begun id h
edit_fetches used store after (ends e lives) h = record { numbered = λ q n t. none_some n t; apart = λ a b n s t. none_some n s }
edit_fetches used store after _ h = h

-- ---- the works

all_append : (p : WorkInFlight → Bool) (works : List WorkInFlight) (w : WorkInFlight) → list_all p works ≡ true → p w ≡ true → list_all p (works ++ w ∷ []) ≡ true
all_append p [] w h t = both (p w) true t refl
all_append p (v ∷ works) w h t = both (p v) (list_all p (works ++ w ∷ [])) (both_left (p v) (list_all p works) h) (all_append p works w (both_right (p v) (list_all p works) h) t)

rising_append : (works : List WorkInFlight) (asked : ℕ) (w : WorkInFlight) → list_all (λ v. nat_le v.number asked) works ≡ true → are_rising works ≡ true → asked < w.number → are_rising (works ++ w ∷ []) ≡ true
rising_append [] asked w used h lt = refl
rising_append (v ∷ works) asked w used h lt =
    let first : v.number ≤ asked = leb-true v.number asked (both_left (nat_le v.number asked) (list_all (λ u. nat_le u.number asked) works) used) in
    both (list_all (λ u. nat_lt v.number u.number) (works ++ w ∷ [])) (are_rising (works ++ w ∷ []))
    (all_append (λ u. nat_lt v.number u.number) works w (both_left (list_all (λ u. nat_lt v.number u.number) works) (are_rising works) h) (lt-ltb v.number w.number (omega (arith, first, lt))))
    (rising_append works asked w (both_right (nat_le v.number asked) (list_all (λ u. nat_le u.number asked) works) used) (both_right (list_all (λ u. nat_lt v.number u.number) works) (are_rising works) h) lt)

rising_filter : (p : WorkInFlight → Bool) (works : List WorkInFlight) → are_rising works ≡ true → are_rising (filter p works) ≡ true
rising_filter p [] h = refl
rising_filter p (v ∷ works) h =
    let rest = rising_filter p works (both_right (list_all (λ u. nat_lt v.number u.number) works) (are_rising works) h) in
    elim (p v) as (λ b. are_rising (cond b (v ∷ filter p works) (filter p works)) ≡ true) [
      | true ↦ both (list_all (λ u. nat_lt v.number u.number) (filter p works)) (are_rising (filter p works))
          (all-filter (λ u. nat_lt v.number u.number) p works (both_left (list_all (λ u. nat_lt v.number u.number) works) (are_rising works) h)) rest
      | false ↦ rest
    ]

edit_works : {x : Judged} (used : Option ObjectId) (store after : Shape) → Edit x used store after → AreWorksRising store.works store.works_asked → AreWorksRising after.works after.works_asked
edit_works used store after (asks writes id stirs) h =
    let n = store.works_asked in
    let w : WorkInFlight = record { number = n + 1; id = id; writes = writes } in
    record {
      rising = rising_append store.works n w h.numbered h.rising (omega arith);
      numbered = all_append (λ v. nat_le v.number (n + 1)) store.works w
          (all_weaker (λ v. nat_le v.number n) (λ v. nat_le v.number (n + 1)) store.works (λ v t. let k = leb-true v.number n t in le-leb v.number (n + 1) (omega (arith, k))) h.numbered)
          (le-leb (n + 1) (n + 1) (omega arith));
    }
edit_works used store after (finishes number) h = record { rising = rising_filter _ store.works h.rising; numbered = all-filter _ _ store.works h.numbered }
edit_works used store after (ends e lives) h = record { rising = refl; numbered = refl }
edit_works used store after _ h = h

-- ---- what others granted

some_grants : (grants : List GrantTaken) (grant : GrantTaken) → 0 < length (grants ++ grant ∷ [])
some_grants [] grant = omega arith
some_grants (h ∷ grants) grant = let k = some_grants grants grant in omega (arith, k)

put_seen : (received : ById Seen) (id : ObjectId) (seen : Seen) → 0 < length seen.grants → AreSeenKept received → AreSeenKept (with_entry received id seen)
put_seen received id seen some h = record {
  by_id = true_T _ (is_sorted-put id_cmp id_cmp-IsTotalOrder id seen received (T_true _ h.by_id));
  by_grants = λ q s. put_rows (λ q o. o ≡ Some s → 0 < length s.grants) received id seen (λ e. subst (λ y. 0 < length y.grants) (some_value seen s e) some) (λ q _ e. h.by_grants q s e) q;
}

drop_seen : (received : ById Seen) (id : ObjectId) → AreSeenKept received → AreSeenKept (without_entry received id)
drop_seen received id h = record {
  by_id = true_T _ (is_sorted-where_key id_cmp (λ x. not (same_id id x)) received (T_true _ h.by_id));
  by_grants = λ q s. drop_rows (λ q o. o ≡ Some s → 0 < length s.grants) received id (λ q e. none_some s e) (λ q e. h.by_grants q s e) q;
}

pub lost_seen : (received : ById Seen) (id : ObjectId) (seen : Seen) (grants : List GrantTaken) → AreSeenKept received
    → AreSeenKept (option_map_or (λ left. with_entry received id left) (elim grants [ [] ↦ None | grant ∷ grants ↦ Some (record seen { grants = grant ∷ grants }) ]) (without_entry received id))
lost_seen received id seen [] h = drop_seen received id h
lost_seen received id seen (grant ∷ grants) h = put_seen received id (record seen { grants = grant ∷ grants }) (omega arith) h

edit_seen : {x : Judged} (used : Option ObjectId) (store after : Shape) → Edit x used store after → AreSeenKept store.received → AreSeenKept after.received
edit_seen used store after (receives id n grantor depth is) h = put_seen store.received id _ (some_grants (grants_of store id) (record { grantor = grantor.0; depth = depth })) h
edit_seen used store after (loses id grantor depth seen e is) h = lost_seen store.received id seen (filter (λ grant. not (is_the_grant grantor depth grant)) seen.grants) h
edit_seen used store after _ h = h

-- ---- all of them

pub lists_keep : (order : List ObjectId) (store : Shape) (x : Judged) → AreListsKept store → AreListsKept (step order store x).shape
lists_keep order store x h =
    input_keeps AreListsKept order store x (λ used mid after e k. record {
      fetches = edit_fetches used mid after e k.fetches;
      works = edit_works used mid after e k.works;
      seen = edit_seen used mid after e k.seen;
    }) h

pub order_keeps : (order : List ObjectId) (store : Shape) (x : Judged) → IsOrderOf order store.copies → IsOrderOf (order_after order (step order store x)) (step order store x).shape.copies
order_keeps order store x h = order_is_kept order store.copies (step order store x).shape.copies (step order store x).used h (step_adds order store x) (step_made order store x).used

pub unbegun_lists : (job : ℕ) → AreListsKept (unbegun job)
unbegun_lists job = record {
  fetches = record { numbered = λ q n t. none_some n t; apart = λ a b n s t. none_some n s };
  works = record { rising = refl; numbered = refl };
  seen = record { by_id = refl; by_grants = λ id seen e. none_some seen e };
}
