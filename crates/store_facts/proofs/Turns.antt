-- What a step may do to the extents and device bytes of a job's store: nothing; ask for writes; put one
-- copy; change the quota; or empty the store.
use Rattle.std.proofs.Common.{◌≡◌, ℕ, ◌≤◌, Bool, true, false, not, cond, ◌&&◌, ◌||◌, inl, inr, List, [], ◌∷◌, ◌++◌, filter, find, Option, Some, None, is_some, unwrap_or, refl, sym, ap, subst, ◌∙◌, arith}
use Rattle.std.specs.Option.{option_map_or}
use Rattle.std.specs.List.{list_any, list_all}
use Rattle.std.proofs.lemmas.List.Folds.{list_any-append}
use Rattle.obj_id.specs.declared.ids.ObjectId.{ObjectId}
use Rattle.obj_id.specs.declared.works.Quota.{Quota}
use Rattle.obj_id.specs.Ids.{same_id}
use Rattle.private_store.specs.rules.Tables.{ById, at, with_entry}
use Rattle.private_store.specs.rules.Extents.{rounded}
use Rattle.private_store.specs.rules.Shape.{Copy, Shape, Change, WorkInFlight, Seen}
use Rattle.private_store.specs.rules.Copies.{is_sealed, extent_of, fits_quota}
use Rattle.private_store.specs.rules.Room.{set_copy, drop_copy}
use Rattle.private_store.specs.laws.Invariants.{has_write, is_placed, are_apart}
use Rattle.store_facts.proofs.Tests.{true_false, none_some, both_left, both_right, or_cases, or_left, or_right, or_false}
use Rattle.store_facts.proofs.Rows.{at-put, at-put_here, at-drop, Tame, SeenRow, Quiet}
use Rattle.store_facts.proofs.Clearing.{extent_at, Cleared, Spills}
use Rattle.store_facts.proofs.Ids.{same_id-equal, same_id-not_back}

-- ---- the device bytes of one copy

abbrev pub weight : List WorkInFlight → ObjectId → Copy → ℕ
weight works id copy = cond (is_some copy.backed || has_write works id) (rounded copy.length) 0

abbrev pub weight_of : List WorkInFlight → ObjectId → Option Copy → ℕ
weight_of works id None = 0
weight_of works id (Some copy) = weight works id copy

counted_le : (b c : Bool) (m n : ℕ) → (b ≡ true → c ≡ true) → m ≡ n → cond b m 0 ≤ cond c n 0
counted_le false c m n h e = omega arith
counted_le true c m n h e = subst (λ x. m ≤ cond x n 0) (sym (h refl)) (omega (arith, e))

pub weight_less : (works works' : List WorkInFlight) (id : ObjectId) (c d : Copy) → d.length ≡ c.length → (is_some d.backed ≡ true → (is_some c.backed || has_write works id) ≡ true) → (has_write works' id ≡ true → has_write works id ≡ true) → weight works' id d ≤ weight works id c
weight_less works works' id c d length backed writes =
    counted_le (is_some d.backed || has_write works' id) (is_some c.backed || has_write works id) (rounded d.length) (rounded c.length)
    (λ e. elim (or_cases (is_some d.backed) (has_write works' id) e) [ inl b ↦ backed b | inr w ↦ or_right (is_some c.backed) (has_write works id) (writes w) ])
    (ap rounded length)

pub weight_same : (works works' : List WorkInFlight) (id : ObjectId) (c d : Copy) → d.length ≡ c.length → d.backed ≡ c.backed → (has_write works' id ≡ true → has_write works id ≡ true) → weight works' id d ≤ weight works id c
weight_same works works' id c d length backed writes =
    weight_less works works' id c d length (λ b. or_left (is_some c.backed) (has_write works id) (ap is_some (sym backed) ∙ b)) writes

pub weightless : (works : List WorkInFlight) (id : ObjectId) (d : Copy) (m : ℕ) → d.backed ≡ None → has_write works id ≡ false → weight works id d ≤ m
weightless works id d m b w =
    subst (λ x. cond x (rounded d.length) 0 ≤ m) (sym (ap (λ x. is_some x || has_write works id) b ∙ w)) (omega arith)

-- ---- works

never : (b : Bool) → (b && false) ≡ false
never true = refl
never false = refl

-- a read that is asked for writes nothing
pub reads_write : (works : List WorkInFlight) (w : WorkInFlight) (id : ObjectId) → w.writes ≡ false → has_write (works ++ w ∷ []) id ≡ true → has_write works id ≡ true
reads_write works w id r e =
    sym (list_any-append (λ work. same_id id work.id && work.writes) works (w ∷ [])
    ∙ ap (λ b. has_write works id || (b || false)) (ap (λ b. same_id id w.id && b) r ∙ never (same_id id w.id)) ∙ or_false (has_write works id)) ∙ e

pub filtered_any : {X : Type 0} (test keep : X → Bool) (xs : List X) → list_any test (filter keep xs) ≡ true → list_any test xs ≡ true
filtered_any test keep [] e = e
filtered_any test keep (x ∷ xs) e =
    elim (keep x) as (λ b. list_any test (cond b (x ∷ filter keep xs) (filter keep xs)) ≡ true → (test x || list_any test xs) ≡ true) [
      | true ↦ λ e. elim (or_cases (test x) (list_any test (filter keep xs)) e) [ inl h ↦ or_left (test x) (list_any test xs) h | inr k ↦ or_right (test x) (list_any test xs) (filtered_any test keep xs k) ]
      | false ↦ λ e. or_right (test x) (list_any test xs) (filtered_any test keep xs e)
    ] e

pub found_any : {X : Type 0} (test other : X → Bool) (xs : List X) (x : X) → find test xs ≡ Some x → other x ≡ true → list_any other xs ≡ true
found_any test other [] x e t = none_some x e
found_any test other (y ∷ ys) x e t =
    elim (test y) as (λ b. cond b (Some y) (find test ys) ≡ Some x → (other y || list_any other ys) ≡ true) [
      | true ↦ λ e. or_left (other y) (list_any other ys) (ap other (ap (λ o. unwrap_or o x) e) ∙ t)
      | false ↦ λ e. or_right (other y) (list_any other ys) (found_any test other ys x e t)
    ] e

-- what has no copy isn't written
pub unwritten : (copies : ById Copy) (works : List WorkInFlight) (id : ObjectId) → list_all (λ work. is_some (at copies work.id)) works ≡ true → at copies id ≡ None → has_write works id ≡ false
unwritten copies [] id h none = refl
unwritten copies (w ∷ ws) id h none =
    elim (same_id id w.id) as (λ b. same_id id w.id ≡ b → ((b && w.writes) || has_write ws id) ≡ false) [
      | true ↦ λ t. true_false (sym (ap is_some (sym (ap (at copies) (same_id-equal id w.id t)) ∙ none)) ∙ both_left (is_some (at copies w.id)) (list_all (λ work. is_some (at copies work.id)) ws) h)
      | false ↦ λ t. unwritten copies ws id (both_right (is_some (at copies w.id)) (list_all (λ work. is_some (at copies work.id)) ws) h) none
    ] refl

pub not_written : (works' works : List WorkInFlight) (id : ObjectId) → (has_write works' id ≡ true → has_write works id ≡ true) → has_write works id ≡ false → has_write works' id ≡ false
not_written works' works id h e = elim (has_write works' id) as (λ b. (b ≡ true → has_write works id ≡ true) → b ≡ false) [ true ↦ λ h. sym (h refl) ∙ e | false ↦ λ _. refl ] h

-- ---- one copy is put

abbrev pub resident : Option Copy → Bool
resident o = option_map_or (λ copy. is_some copy.offset) o false

-- where the copy stands: nowhere; at a place that was found for it; or where one stood, and then it is
-- sealed by the step only if s says that it may be
pub data Stands (s : ObjectId → Bool) (store : Shape) (copies : ById Copy) (id : ObjectId) (d : Copy) : Type 0 where
  nowhere : d.offset ≡ None → is_sealed d.state ≡ false → Stands s store copies id d
  fresh : (offset : ℕ) → d.offset ≡ Some offset → is_sealed d.state ≡ false → resident (at store.copies id) ≡ false
      → is_placed store.quota.window (extent_at offset d.length) ≡ true
      → ((q : ObjectId) (c : Copy) → same_id q id ≡ false → at copies q ≡ Some c → are_apart (Some (extent_at offset d.length)) (extent_of c) ≡ true)
      → Stands s store copies id d
  same : (c : Copy) → at store.copies id ≡ Some c → d.length ≡ c.length → d.offset ≡ c.offset → (s id ≡ false → d.state ≡ c.state) → Stands s store copies id d

pub record Puts (s : ObjectId → Bool) (store : Shape) (copies : ById Copy) (works : List WorkInFlight) (new_quota : Quota) (received : ById Seen) (id : ObjectId) (d : Copy) : Type 0 where
  pub others : (q : ObjectId) → same_id q id ≡ false → Tame (at store.copies q) (at copies q)
  pub here : at copies id ≡ Some d
  pub writes : (q : ObjectId) → has_write works q ≡ true → has_write store.works q ≡ true
  pub quota : new_quota ≡ store.quota
  pub seen : (q : ObjectId) → SeenRow (at store.received q) (at received q)
  pub weight : weight works id d ≤ weight_of store.works id (at store.copies id)
  pub stands : Stands s store copies id d

-- ---- a step

pub data Turn (s : ObjectId → Bool) (store : Shape) (copies : ById Copy) (works : List WorkInFlight) (new_quota : Quota) (received : ById Seen) : Type 0 where
  calm : Quiet store (record store { copies = copies; works = works; quota = new_quota; received = received }) → Turn s store copies works new_quota received
  spills : Spills store copies works new_quota received → Turn s store copies works new_quota received
  puts : (id : ObjectId) (d : Copy) → Puts s store copies works new_quota received id d → Turn s store copies works new_quota received
  requotas : copies ≡ store.copies → works ≡ store.works → received ≡ store.received → fits_quota store new_quota ≡ true → Turn s store copies works new_quota received
  empties : copies ≡ [] → received ≡ store.received → Turn s store copies works new_quota received
  receives : ((id : ObjectId) → s id ≡ true) → copies ≡ store.copies → works ≡ store.works → new_quota ≡ store.quota → Turn s store copies works new_quota received

pub record IsTurn (s : ObjectId → Bool) (store : Shape) (c : Change) : Type 0 where
  pub is : Turn s store c.shape.copies c.shape.works c.shape.quota c.shape.received

pub put_turn : (s : ObjectId → Bool) (store mid : Shape) (works : List WorkInFlight) (id : ObjectId) (d : Copy) → Quiet store mid → ((q : ObjectId) → has_write works q ≡ true → has_write mid.works q ≡ true)
    → weight works id d ≤ weight_of store.works id (at store.copies id) → Stands s store (with_entry mid.copies id d) id d
    → Puts s store (with_entry mid.copies id d) works mid.quota mid.received id d
put_turn s store mid works id d quiet writes w stands = record {
  others = λ q f. subst (Tame (at store.copies q)) (sym (at-put mid.copies id d q ∙ ap (λ b. cond b (Some d) (at mid.copies q)) f)) (quiet.row q);
  here = at-put_here mid.copies id d;
  writes = λ q e. quiet.writes q (writes q e);
  quota = quiet.quota;
  seen = quiet.seen;
  weight = w;
  stands = stands;
}

-- a copy stands where room was made for it
pub placed_stands : (s : ObjectId → Bool) (store mid : Shape) (n offset : ℕ) (id : ObjectId) (d : Copy) → Cleared store mid n offset → d.length ≡ n → d.offset ≡ Some offset → is_sealed d.state ≡ false → resident (at store.copies id) ≡ false → Stands s store (with_entry mid.copies id d) id d
placed_stands s store mid n offset id d room length place unsealed absent =
    fresh offset place unsealed absent
    (subst (λ m. is_placed store.quota.window (extent_at offset m) ≡ true) (sym length) room.placed)
    (λ q c f e. subst (λ m. are_apart (Some (extent_at offset m)) (extent_of c) ≡ true) (sym length)
    (room.apart q c (sym (at-put mid.copies id d q ∙ ap (λ b. cond b (Some d) (at mid.copies q)) f) ∙ e)))

-- the copy is put and goes at once
pub quiet_put_dropped : (store mid : Shape) (id : ObjectId) (d : Copy) → Quiet store mid → Quiet store (drop_copy (set_copy mid id d) id)
quiet_put_dropped store mid id d h = record {
  row = λ q. subst (Tame (at store.copies q)) (sym (gone q)) (once q (same_id id q));
  writes = h.writes;
  quota = h.quota;
  seen = h.seen;
}
  where
    gone : (q : ObjectId) → at (drop_copy (set_copy mid id d) id).copies q ≡ cond (not (same_id id q)) (at mid.copies q) None
    gone q = at-drop (with_entry mid.copies id d) id q
        ∙ elim (same_id id q) as (λ b. same_id id q ≡ b → cond (not b) (at (with_entry mid.copies id d) q) None ≡ cond (not b) (at mid.copies q) None) [
          | true ↦ λ _. refl
          | false ↦ λ t. at-put mid.copies id d q ∙ ap (λ b. cond b (Some d) (at mid.copies q)) (same_id-not_back id q t)
        ] refl

    once : (q : ObjectId) (b : Bool) → Tame (at store.copies q) (cond (not b) (at mid.copies q) None)
    once q true = tt
    once q false = h.row q
