-- Each step keeps the device bytes that count, of copies that are backed or being written, within the quota.
use Rattle.std.proofs.Common.{◌≡◌, ℕ, zero, suc, ◌+◌, ◌≤◌, Bool, true, false, not, cond, ◌&&◌, ◌||◌, List, [], ◌∷◌, ◌++◌, map, filter, take, fold, sum, Option, Some, None, is_some, refl, sym, ap, subst, ◌∙◌, T, arith}
use Rattle.std.specs.Option.{option_map_or}
use Rattle.std.specs.FinMap.{is_sorted}
use Rattle.std.specs.FinMap.Entries.{below_all, is_sorted-where_key}
use Rattle.std.proofs.lemmas.Bool.{leb-true}
use Rattle.std.proofs.lemmas.List.Folds.{list_any-append}
use Rattle.std.proofs.lemmas.List.Sums.{sum_by-cons}
use Rattle.obj_id.specs.declared.ids.ObjectId.{ObjectId}
use Rattle.obj_id.specs.Ids.{id_cmp, same_id}
use Rattle.private_store.specs.declared.inputs.Judged.{Judged}
use Rattle.private_store.specs.rules.Tables.{ById, at, without_entry}
use Rattle.private_store.specs.rules.Extents.{rounded}
use Rattle.private_store.specs.rules.Shape.{Copy, Shape, Change, WorkInFlight, unbegun}
use Rattle.private_store.specs.rules.Copies.{device_used, is_range_within}
use Rattle.private_store.specs.rules.Room.{asked}
use Rattle.private_store.specs.rules.Step.{step}
use Rattle.private_store.specs.laws.Invariants.{IsShapeKept, IsDeviceKept, has_write}
use Rattle.store_facts.proofs.Tests.{both_right, and_left, and_right, or_false}
use Rattle.store_facts.proofs.Sound.{step_sound}
use Rattle.store_facts.proofs.Rows.{at-drop, Tame}
use Rattle.store_facts.proofs.Turns.{weight, weight_of, weight_same, Turn, calm, spills, puts, requotas, empties, receives, IsTurn}
use Rattle.store_facts.proofs.StepTurns.{step_turn, all_may}
use Rattle.store_facts.proofs.Filling.{below_none}
use Rattle.store_facts.proofs.Ids.{same_id-equal, same_id-itself, same_id-not_back}

-- ---- the sum over a table

sum_first : (x : ℕ) (xs : List ℕ) → sum (x ∷ xs) ≡ x + sum xs
sum_first x xs = sum_by-cons (λ n. n) x xs

abbrev total : List WorkInFlight → ById Copy → ℕ
total works [] = 0
total works (e ∷ es) = weight works e.0 e.1 + total works es

used_is : (works : List WorkInFlight) (es : ById Copy) → sum (map (λ e. rounded e.1.length) (filter (λ e. is_some e.1.backed || has_write works e.0) es)) ≡ total works es
used_is works [] = refl
used_is works (e ∷ es) =
    elim (is_some e.1.backed || has_write works e.0) as (λ b. sum (map (λ e. rounded e.1.length) (cond b (e ∷ filter (λ e. is_some e.1.backed || has_write works e.0) es) (filter (λ e. is_some e.1.backed || has_write works e.0) es))) ≡ cond b (rounded e.1.length) 0 + total works es) [
      | true ↦ sum_first (rounded e.1.length) (map (λ e. rounded e.1.length) (filter (λ e. is_some e.1.backed || has_write works e.0) es)) ∙ ap (λ n. rounded e.1.length + n) (used_is works es)
      | false ↦ zero_more _ _ (used_is works es)
    ]
  where
    zero_more : (m n : ℕ) → m ≡ n → m ≡ 0 + n
    zero_more m n e = omega arith

abbrev bytes_of : ById Copy → ObjectId → ℕ
bytes_of table id = option_map_or (λ copy. rounded copy.length) (at table id) 0

-- one row, and the others
total_split : (works : List WorkInFlight) (k : ObjectId) (es : ById Copy) → T (is_sorted id_cmp es) → total works es ≡ weight_of works k (at es k) + total works (without_entry es k)
total_split works k [] h = refl
total_split works k (e ∷ es) h =
    let rest = total_split works k es (and_right (below_all id_cmp e.0 es) _ h) in
    elim (same_id k e.0) as (λ b. same_id k e.0 ≡ b → weight works e.0 e.1 + total works es ≡ weight_of works k (cond b (Some e.1) (at es k)) + total works (cond (not b) (e ∷ without_entry es k) (without_entry es k))) [
      | true ↦ λ t.
          let none : at es k ≡ None = ap (at es) (same_id-equal k e.0 t) ∙ below_none e.0 es (and_left _ _ h) in
          here (weight works e.0 e.1) (weight works k e.1) _ _ _ (ap (λ x. weight works x e.1) (sym (same_id-equal k e.0 t))) (ap (weight_of works k) none) rest
      | false ↦ λ f. later _ _ _ _ rest
    ] refl
  where
    here : (v w m l n : ℕ) → v ≡ w → l ≡ 0 → m ≡ l + n → v + m ≡ w + n
    here v w m l n e z r = omega arith

    later : (v m l n : ℕ) → m ≡ l + n → v + m ≡ l + (v + n)
    later v m l n r = omega arith

-- a table no row of which counts more
total_less : (works works' : List WorkInFlight) (new old : ById Copy) → T (is_sorted id_cmp new) → T (is_sorted id_cmp old)
    → ((q : ObjectId) → weight_of works' q (at new q) ≤ weight_of works q (at old q)) → total works' new ≤ total works old
total_less works works' [] old g h less = omega arith
total_less works works' (e ∷ es) old g h less =
    let head : weight works' e.0 e.1 ≤ weight_of works e.0 (at old e.0) = subst (λ o. weight_of works' e.0 o ≤ weight_of works e.0 (at old e.0)) (ap (λ b. cond b (Some e.1) (at es e.0)) (same_id-itself e.0)) (less e.0) in
    let rest = total_less works works' es (without_entry old e.0) (and_right (below_all id_cmp e.0 es) _ g) (is_sorted-where_key id_cmp (λ x. not (same_id e.0 x)) old h) others in
    joined _ _ _ _ _ head rest (total_split works e.0 old h)
  where
    joined : (v m w n t : ℕ) → v ≤ w → m ≤ n → t ≡ w + n → v + m ≤ t
    joined v m w n t p q r = omega arith

    others : (q : ObjectId) → weight_of works' q (at es q) ≤ weight_of works q (at (without_entry old e.0) q)
    others q =
        subst (λ o. weight_of works' q (at es q) ≤ weight_of works q o) (sym (at-drop old e.0 q))
        (elim (same_id e.0 q) as (λ b. same_id e.0 q ≡ b → weight_of works' q (at es q) ≤ weight_of works q (cond (not b) (at old q) None)) [
          | true ↦ λ t.
              let none : at es q ≡ None = ap (at es) (sym (same_id-equal e.0 q t)) ∙ below_none e.0 es (and_left _ _ g) in
              subst (λ o. weight_of works' q o ≤ 0) (sym none) (omega arith)
          | false ↦ λ f. subst (λ o. weight_of works' q o ≤ weight_of works q (at old q)) (ap (λ b. cond b (Some e.1) (at es q)) (same_id-not_back e.0 q f)) (less q)
        ] refl)

-- ---- writes that are asked for

abbrev with_write : List WorkInFlight → WorkInFlight → List WorkInFlight
with_write works w = works ++ w ∷ []

written_else : (works : List WorkInFlight) (w : WorkInFlight) (q : ObjectId) → same_id q w.id ≡ false → has_write (with_write works w) q ≡ true → has_write works q ≡ true
written_else works w q f e =
    sym (list_any-append (λ work. same_id q work.id && work.writes) works (w ∷ [])
    ∙ ap (λ b. has_write works q || (b && w.writes || false)) f ∙ or_false (has_write works q)) ∙ e

tame_weight : (works works' : List WorkInFlight) (q : ObjectId) (o p : Option Copy) → (has_write works' q ≡ true → has_write works q ≡ true) → Tame o p → weight_of works' q p ≤ weight_of works q o
tame_weight works works' q o None w h = omega arith
tame_weight works works' q None (Some d) w h = absurd h
tame_weight works works' q (Some c) (Some d) w h = weight_same works works' q c d h.length h.backed w

one_more : (works : List WorkInFlight) (w : WorkInFlight) (table : ById Copy) → T (is_sorted id_cmp table) → total (with_write works w) table ≤ total works table + bytes_of table w.id
one_more works w table h =
    let sorted = is_sorted-where_key id_cmp (λ x. not (same_id w.id x)) table h in
    let rest = total_less works (with_write works w) (without_entry table w.id) (without_entry table w.id) sorted sorted others in
    joined _ _ _ _ _ _ _ (total_split (with_write works w) w.id table h) (total_split works w.id table h) (at_most (at table w.id)) rest
  where
    joined : (t' v' m' t v m b : ℕ) → t' ≡ v' + m' → t ≡ v + m → v' ≤ b → m' ≤ m → t' ≤ t + b
    joined t' v' m' t v m b e f g k = omega arith

    at_most : (o : Option Copy) → weight_of (with_write works w) w.id o ≤ option_map_or (λ copy. rounded copy.length) o 0
    at_most None = omega arith
    at_most (Some copy) = counted (is_some copy.backed || has_write (with_write works w) w.id) (rounded copy.length)
      where
        counted : (b : Bool) (n : ℕ) → cond b n 0 ≤ n
        counted true n = omega arith
        counted false n = omega arith

    same_row : (q : ObjectId) (o : Option Copy) → same_id q w.id ≡ false → weight_of (with_write works w) q o ≤ weight_of works q o
    same_row q None f = omega arith
    same_row q (Some copy) f = weight_same works (with_write works w) q copy copy refl refl (written_else works w q f)

    others : (q : ObjectId) → weight_of (with_write works w) q (at (without_entry table w.id) q) ≤ weight_of works q (at (without_entry table w.id) q)
    others q =
        subst (λ o. weight_of (with_write works w) q o ≤ weight_of works q o) (sym (at-drop table w.id q))
        (elim (same_id w.id q) as (λ b. same_id w.id q ≡ b → weight_of (with_write works w) q (cond (not b) (at table q) None) ≤ weight_of works q (cond (not b) (at table q) None)) [
          | true ↦ λ _. omega arith
          | false ↦ λ f. same_row q (at table q) (same_id-not_back w.id q f)
        ] refl)

all_asked : (store : Shape) (ids : List ObjectId) → T (is_sorted id_cmp store.copies) → total (fold (asked true) store ids).works store.copies ≤ total store.works store.copies + sum (map (bytes_of store.copies) ids)
all_asked store [] h = omega arith
all_asked store (id ∷ ids) h =
    let w : WorkInFlight = record { number = store.works_asked + 1; id = id; writes = true } in
    joined (total (fold (asked true) (asked true store id) ids).works store.copies) (total (with_write store.works w) store.copies) (sum (map (bytes_of store.copies) ids)) (total store.works store.copies) (bytes_of store.copies id) _
    (all_asked (asked true store id) ids h) (one_more store.works w store.copies h) (sum_first (bytes_of store.copies id) (map (bytes_of store.copies) ids))
  where
    joined : (a b c d e f : ℕ) → a ≤ b + c → b ≤ d + e → f ≡ e + c → a ≤ d + f
    joined a b c d e f p q r = omega arith

fewer : (w : ObjectId → ℕ) (k : ℕ) (ids : List ObjectId) → sum (map w (take k ids)) ≤ sum (map w ids)
fewer w zero ids = omega arith
fewer w (suc k) [] = omega arith
fewer w (suc k) (id ∷ ids) = more (w id) _ _ _ _ (fewer w k ids) (sum_first (w id) (map w (take k ids))) (sum_first (w id) (map w ids))
  where
    more : (a b c d e : ℕ) → b ≤ c → d ≡ a + b → e ≡ a + c → d ≤ e
    more a b c d e h f g = omega arith

-- ---- the turns

module _ (s : ObjectId → Bool) (store : Shape) (in_order : T (is_sorted id_cmp store.copies)) (kept : total store.works store.copies ≤ store.quota.device) where
  turn_total : (c : Change) → T (is_sorted id_cmp c.shape.copies) → IsTurn s store c → total c.shape.works c.shape.copies ≤ c.shape.quota.device
  turn_total c sorted k = by_turn k.is
    where
      same_tables : c.shape.copies ≡ store.copies → c.shape.works ≡ store.works → total c.shape.works c.shape.copies ≡ total store.works store.copies
      same_tables e w = λ i. total (w i) (e i)

      within : total c.shape.works c.shape.copies ≤ total store.works store.copies → c.shape.quota ≡ store.quota → total c.shape.works c.shape.copies ≤ c.shape.quota.device
      within less q = subst (λ x. total c.shape.works c.shape.copies ≤ x.device) (sym q) (both _ _ _ less kept)
        where
          both : (a b c : ℕ) → a ≤ b → b ≤ c → a ≤ c
          both a b c p q = omega arith

      by_turn : Turn s store c.shape.copies c.shape.works c.shape.quota c.shape.received → total c.shape.works c.shape.copies ≤ c.shape.quota.device
      by_turn (calm q) = within (total_less store.works c.shape.works c.shape.copies store.copies sorted in_order (λ id. tame_weight store.works c.shape.works id (at store.copies id) (at c.shape.copies id) (q.writes id) (q.row id))) q.quota
      by_turn (spills p) =
          let less : total c.shape.works c.shape.copies ≤ total store.works store.copies + sum (map (bytes_of store.copies) (take p.taken p.ids)) =
          subst (λ t. total c.shape.works t ≤ total store.works store.copies + sum (map (bytes_of store.copies) (take p.taken p.ids))) (sym p.copies)
          (subst (λ w. total w store.copies ≤ total store.works store.copies + sum (map (bytes_of store.copies) (take p.taken p.ids))) (sym p.works) (all_asked store (take p.taken p.ids) in_order)) in
          subst (λ x. total c.shape.works c.shape.copies ≤ x.device) (sym p.quota)
          (chained _ _ _ _ _ _ less (fewer (bytes_of store.copies) p.taken p.ids) p.device (used_is store.works store.copies))
        where
          chained : (t u a b d v : ℕ) → t ≤ u + a → a ≤ b → v + b ≤ d → v ≡ u → t ≤ d
          chained t u a b d v p q r e = omega arith
      by_turn (puts id d p) = within (total_less store.works c.shape.works c.shape.copies store.copies sorted in_order rows) p.quota
        where
          rows : (q : ObjectId) → weight_of c.shape.works q (at c.shape.copies q) ≤ weight_of store.works q (at store.copies q)
          rows q =
              elim (same_id q id) as (λ b. same_id q id ≡ b → weight_of c.shape.works q (at c.shape.copies q) ≤ weight_of store.works q (at store.copies q)) [
                | true ↦ λ t. subst (λ x. weight_of c.shape.works x (at c.shape.copies x) ≤ weight_of store.works x (at store.copies x)) (sym (same_id-equal q id t)) (subst (λ o. weight_of c.shape.works id o ≤ weight_of store.works id (at store.copies id)) (sym p.here) p.weight)
                | false ↦ λ f. tame_weight store.works c.shape.works q (at store.copies q) (at c.shape.copies q) (p.writes q) (p.others q f)
              ] refl
      by_turn (requotas e w r fit) = subst (λ n. n ≤ c.shape.quota.device) (used_is store.works store.copies ∙ sym (same_tables e w)) (leb-true (device_used store) c.shape.quota.device (both_right (is_range_within store c.shape.quota.window) _ fit))
      by_turn (empties e r) = subst (λ t. total c.shape.works t ≤ c.shape.quota.device) (sym e) (omega arith)
      by_turn (receives t e w q) = within (subst (λ n. n ≤ total store.works store.copies) (sym (same_tables e w)) (omega arith)) q

-- the device bytes that count stay within the quota
pub device_keeps : (order : List ObjectId) (store : Shape) (x : Judged) → IsShapeKept store → IsDeviceKept store → IsDeviceKept (step order store x).shape
device_keeps order store x shape kept =
    let c = step order store x in
    let in_order : T (is_sorted id_cmp store.copies) = subst T (sym shape.by_id) tt in
    let all : ObjectId → Bool = λ _. true in
    subst (λ n. n ≤ c.shape.quota.device) (sym (used_is c.shape.works c.shape.copies))
    (turn_total all store in_order (subst (λ n. n ≤ store.quota.device) (used_is store.works store.copies) kept) c (step_sound store in_order order x).is.in_order (step_turn all store shape order x (all_may store x)))

pub unbegun_device : (job : ℕ) → IsDeviceKept (unbegun job)
unbegun_device job = omega arith
