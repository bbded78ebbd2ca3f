-- Copies of a row after some of them were evicted, and the order of use then.
use Rattle.std.proofs.Common.{◌≡◌, ℕ, ◌≤◌, Bool, true, false, not, ◌&&◌, ◌||◌, cond, List, [], ◌∷◌, filter, map, fold, length, Option, Some, None, is_some, is_none, refl, sym, ap, subst, ◌∙◌, T, suc, flat_map}
use Rattle.std.specs.Prelude.{filter_map}
use Rattle.std.specs.List.{cons_option}
use Rattle.std.specs.Option.{option_map, option_map_or, option_and_then}
use Rattle.std.specs.FinMap.Entries.{is_sorted, below_all}
use Rattle.obj_id.specs.declared.ids.ObjectId.{ObjectId}
use Rattle.obj_id.specs.declared.commands.CopyState.TheVariants.{Away}
use Rattle.obj_id.specs.Ids.{id_cmp, same_id}
use Rattle.obj_id.specs.Kinds.{is_primary}
use Rattle.store_facts.proofs.Ids.{same_id-equal, same_id-itself, same_id-flip}
use Rattle.private_store.specs.rules.Tables.{ById, at, with_entry, without_entry, is_among}
use Rattle.private_store.specs.rules.Shape.{Copy, Shape, remove_location}
use Rattle.private_store.specs.rules.Room.{evicted, eviction_notice, set_copy, drop_copy}
use Rattle.private_store.specs.rules.Change.{keys_gone}
use Rattle.private_store.specs.rules.Private.{to_directory}
use Rattle.obj_id.specs.declared.messages.DirectoryMessage.TheVariants.{RemoveLocation}
use Rattle.store_facts.proofs.KeptLists.{length-filter-le}
use Rattle.store_facts.proofs.Rows.{at-put, at-drop}
use Rattle.store_facts.proofs.Tests.{and_right, none_some, some_value, or_right}
use Rattle.lru_evictor.specs.Orders.{without_id}
use Rattle.job_row.specs.Entries.{changed}
use Rattle.job_row.specs.Evicting.{has_secondary, evicted_one, all_evicted, removals, without_missing}
use Rattle.row_copy.specs.CopyViews.{CopyView, can_go_away, after_eviction}
use Rattle.job_row.specs.Row.{copies_of}
use Rattle.job_row.proofs.Changes.{changed-found, changed-absent}
use Rattle.job_row.proofs.CopyTables.{at-first, at-rest, at-copies, copies-changed, copies-without}

-- ---- one copy

-- what is left of a copy that is evicted
abbrev pub evicted_of : CopyView → Option CopyView
evicted_of kept = cond (is_primary kept.copy.kind) (Some (after_eviction kept)) None

-- a place is given up once
pub once_more : (k : CopyView) → after_eviction (after_eviction k) ≡ after_eviction k
once_more k = by (can_go_away k) refl
  where
    away : Bool → CopyView
    away b = record k { copy = record k.copy { state = cond b Away k.copy.state; offset = None } }

    by : (b : Bool) → can_go_away k ≡ b → after_eviction (away b) ≡ away b
    by true t = refl
    by false t = ap away t

twice : (o : Option CopyView) → option_and_then evicted_of (option_and_then evicted_of o) ≡ option_and_then evicted_of o
twice None = refl
twice (Some k) = by (is_primary k.copy.kind) refl
  where
    by : (b : Bool) → is_primary k.copy.kind ≡ b → option_and_then evicted_of (cond b (Some (after_eviction k)) None) ≡ cond b (Some (after_eviction k)) None
    by true t = ap (λ b. cond b (Some (after_eviction (after_eviction k))) None) t ∙ ap Some (once_more k)
    by false t = refl

-- ---- a table of copies

at-one : (es : ById CopyView) (id q : ObjectId) → at (evicted_one es id) q ≡ cond (same_id q id) (option_and_then evicted_of (at es q)) (at es q)
at-one es id q = by (at es id) refl
  where
    by : (o : Option CopyView) → at es id ≡ o → at (cond (option_map_or (λ (k : CopyView). not (is_primary k.copy.kind)) o false) (without_entry es id) (changed after_eviction es id)) q ≡ cond (same_id q id) (option_and_then evicted_of (at es q)) (at es q)
    by None none = ap (λ t. at t q) (changed-absent after_eviction id es none) ∙ here (same_id q id) refl
      where
        here : (b : Bool) → same_id q id ≡ b → at es q ≡ cond b (option_and_then evicted_of (at es q)) (at es q)
        here true t = let nothing = ap (at es) (same_id-equal q id t) ∙ none in nothing ∙ sym (ap (option_and_then evicted_of) nothing)
        here false t = refl
    by (Some k) found = kind (is_primary k.copy.kind) refl
      where
        kind : (p : Bool) → is_primary k.copy.kind ≡ p → at (cond (not p) (without_entry es id) (changed after_eviction es id)) q ≡ cond (same_id q id) (option_and_then evicted_of (at es q)) (at es q)
        kind true p = ap (λ t. at t q) (changed-found after_eviction id es k found) ∙ at-put es id (after_eviction k) q ∙ here (same_id q id) refl
          where
            here : (b : Bool) → same_id q id ≡ b → cond b (Some (after_eviction k)) (at es q) ≡ cond b (option_and_then evicted_of (at es q)) (at es q)
            here true t = sym (ap (option_and_then evicted_of) (ap (at es) (same_id-equal q id t) ∙ found) ∙ ap (λ b. cond b (Some (after_eviction k)) None) p)
            here false t = refl
        kind false p = at-drop es id q ∙ ap (λ b. cond (not b) (at es q) None) (same_id-flip id q) ∙ here (same_id q id) refl
          where
            here : (b : Bool) → same_id q id ≡ b → cond (not b) (at es q) None ≡ cond b (option_and_then evicted_of (at es q)) (at es q)
            here true t = sym (ap (option_and_then evicted_of) (ap (at es) (same_id-equal q id t) ∙ found) ∙ ap (λ b. cond b (Some (after_eviction k)) None) p)
            here false t = refl

pub at-evicted : (ids : List ObjectId) (es : ById CopyView) (q : ObjectId) → at (all_evicted ids es) q ≡ cond (is_among ids q) (option_and_then evicted_of (at es q)) (at es q)
at-evicted [] es q = refl
at-evicted (id ∷ ids) es q =
    at-evicted ids (evicted_one es id) q
    ∙ ap (λ o. cond (is_among ids q) (option_and_then evicted_of o) o) (at-one es id q)
    ∙ by (same_id q id) (is_among ids q)
  where
    by : (s a : Bool) → cond a (option_and_then evicted_of (cond s (option_and_then evicted_of (at es q)) (at es q))) (cond s (option_and_then evicted_of (at es q)) (at es q)) ≡ cond (s || a) (option_and_then evicted_of (at es q)) (at es q)
    by true true = twice (at es q)
    by true false = refl
    by false true = refl
    by false false = refl

-- ---- the store's copies

-- each of the ids that has a primary can go away, or went
abbrev pub CanGo : List ObjectId → ById CopyView → Type 0
CanGo ids es = (q : ObjectId) (k : CopyView) → is_among ids q ≡ true → at es q ≡ Some k → is_primary k.copy.kind ≡ true → (after_eviction k).copy.state ≡ Away

module _ (s : Shape) where
  one : (es : ById CopyView) (id : ObjectId) → ((k : CopyView) → at es id ≡ Some k → is_primary k.copy.kind ≡ true → (after_eviction k).copy.state ≡ Away)
      → evicted (record s { copies = copies_of es }) id ≡ record s { copies = copies_of (evicted_one es id) }
  one es id away =
      ap (λ o. option_map_or after o store) (at-copies es id) ∙ by (at es id) refl
    where
      store : Shape
      store = record s { copies = copies_of es }

      after : Copy → Shape
      after copy = cond (is_primary copy.kind) (set_copy store id (record copy { state = Away; offset = None })) (drop_copy store id)

      by : (o : Option CopyView) → at es id ≡ o
          → option_map_or after (option_map (λ k. k.copy) o) store ≡ record s { copies = copies_of (cond (option_map_or (λ (k : CopyView). not (is_primary k.copy.kind)) o false) (without_entry es id) (changed after_eviction es id)) }
      by None none = ap (λ t. record s { copies = copies_of t }) (sym (changed-absent after_eviction id es none))
      by (Some k) found = kind (is_primary k.copy.kind) refl
        where
          kind : (p : Bool) → is_primary k.copy.kind ≡ p → cond p (set_copy store id (record k.copy { state = Away; offset = None })) (drop_copy store id) ≡ record s { copies = copies_of (cond (not p) (without_entry es id) (changed after_eviction es id)) }
          kind true p =
              ap (λ state. record s { copies = with_entry (copies_of es) id (record k.copy { state = state; offset = None }) }) (sym (away k found p))
              ∙ ap (λ t. record s { copies = t }) (sym (copies-changed after_eviction es id k found))
          kind false p = ap (λ t. record s { copies = t }) (sym (copies-without es id))

  pub store_evicted : (ids : List ObjectId) (es : ById CopyView) → CanGo ids es → fold evicted (record s { copies = copies_of es }) ids ≡ record s { copies = copies_of (all_evicted ids es) }
  store_evicted [] es can = refl
  store_evicted (id ∷ ids) es can =
      ap (λ t. fold evicted t ids) (one es id (λ k found p. can id k (ap (λ b. b || is_among ids id) (same_id-itself id)) found p))
      ∙ store_evicted ids (evicted_one es id) later
    where
      of : (q : ObjectId) (k : CopyView) (o : Option CopyView) → ((z : CopyView) → o ≡ Some z → is_primary z.copy.kind ≡ true → (after_eviction z).copy.state ≡ Away) → (b : Bool) → cond b (option_and_then evicted_of o) o ≡ Some k → is_primary k.copy.kind ≡ true → (after_eviction k).copy.state ≡ Away
      of q k o can false e p = can k e p
      of q k None can true e p = none_some k e
      of q k (Some z) can true e p = kind (is_primary z.copy.kind) refl e
        where
          kind : (b : Bool) → is_primary z.copy.kind ≡ b → cond b (Some (after_eviction z)) None ≡ Some k → (after_eviction k).copy.state ≡ Away
          kind true t e =
              let is : after_eviction z ≡ k = some_value (after_eviction z) k e in
              ap (λ (y : CopyView). (after_eviction y).copy.state) (sym is) ∙ ap (λ (y : CopyView). y.copy.state) (once_more z) ∙ can z refl t
          kind false t e = none_some k e

      later : CanGo ids (evicted_one es id)
      later q k among found p = of q k (at es q) (λ z there. can q z (or_right (same_id q id) (is_among ids q) among) there) (same_id q id) (sym (at-one es id q) ∙ found) p

-- the directory is notified of each secondary
pub evictions_told : (s : Shape) (es : ById CopyView) (ids : List ObjectId) → filter_map (eviction_notice (record s { copies = copies_of es })) ids ≡ map remove_location (filter (has_secondary es) ids)
evictions_told s es [] = refl
evictions_told s es (id ∷ ids) =
    (λ i. cons_option (option_map_or (λ copy. cond (is_primary copy.kind) None (Some (remove_location id))) (at-copies es id i) None) (evictions_told s es ids i)) ∙ by (at es id)
  where
    rest : List ObjectId
    rest = filter (has_secondary es) ids

    by : (o : Option CopyView) → cons_option (option_map_or (λ (copy : Copy). cond (is_primary copy.kind) None (Some (remove_location id))) (option_map (λ k. k.copy) o) None) (map remove_location rest)
        ≡ map remove_location (cond (option_map_or (λ (k : CopyView). not (is_primary k.copy.kind)) o false) (id ∷ rest) rest)
    by None = refl
    by (Some k) = kind (is_primary k.copy.kind)
      where
        kind : (p : Bool) → cons_option (cond p None (Some (remove_location id))) (map remove_location rest) ≡ map remove_location (cond (not p) (id ∷ rest) rest)
        kind true = refl
        kind false = refl

-- no key is erased where no copy that is gone was on the device
pub none_erased : (es : ById CopyView) (after : ById Copy) → T (is_sorted id_cmp es) → ((q : ObjectId) (k : CopyView) → at es q ≡ Some k → at after q ≡ None → k.copy.backed ≡ None) → keys_gone (copies_of es) after ≡ []
none_erased [] after sorted h = refl
none_erased (e ∷ es) after sorted h =
    by (at after e.0) (h e.0 e.1 (at-first e es))
    ∙ none_erased es after (and_right (below_all id_cmp e.0 es) _ sorted) (λ q k found. h q k (at-rest e es sorted q k found))
  where
    by : (o : Option Copy) → (o ≡ None → e.1.copy.backed ≡ None) → cons_option (cond (is_none o) e.1.copy.backed None) (keys_gone (copies_of es) after) ≡ keys_gone (copies_of es) after
    by None none = ap (λ o. cons_option o (keys_gone (copies_of es) after)) (none refl)
    by (Some copy) none = refl

-- ---- the order of use

-- where the first of the ids has no copy
pub missing-more : (table : ById CopyView) (id : ObjectId) (ids order : List ObjectId) → at table id ≡ None → without_missing table ids (without_id id order) ≡ without_missing table (id ∷ ids) order
missing-more table id ids [] none = refl
missing-more table id ids (x ∷ xs) none =
    elim (same_id id x) as (λ b. same_id id x ≡ b → without_missing table ids (cond (not b) (x ∷ without_id id xs) (without_id id xs)) ≡ cond (not ((same_id x id || is_among ids x) && is_none (at table x))) (x ∷ without_missing table (id ∷ ids) xs) (without_missing table (id ∷ ids) xs)) [
      | true ↦ λ t. missing-more table id ids xs none
          ∙ sym (λ i. cond (not (((same_id-flip x id ∙ t) i || is_among ids x) && is_none ((ap (at table) (sym (same_id-equal id x t)) ∙ none) i))) (x ∷ without_missing table (id ∷ ids) xs) (without_missing table (id ∷ ids) xs))
      | false ↦ λ t.
          ap (λ ys. cond (not (is_among ids x && is_none (at table x))) (x ∷ ys) ys) (missing-more table id ids xs none)
          ∙ sym (ap (λ b. cond (not ((b || is_among ids x) && is_none (at table x))) (x ∷ without_missing table (id ∷ ids) xs) (without_missing table (id ∷ ids) xs)) (same_id-flip x id ∙ t))
    ] refl

-- and where it has one
pub missing-stays : (table : ById CopyView) (id : ObjectId) (ids order : List ObjectId) → is_none (at table id) ≡ false → without_missing table ids order ≡ without_missing table (id ∷ ids) order
missing-stays table id ids [] there = refl
missing-stays table id ids (x ∷ xs) there =
    ap (λ ys. cond (not (is_among ids x && is_none (at table x))) (x ∷ ys) ys) (missing-stays table id ids xs there)
    ∙ by (same_id x id) refl
  where
    more : List ObjectId
    more = without_missing table (id ∷ ids) xs

    none_both : (a b : Bool) → b ≡ false → a && b ≡ false
    none_both true b e = e
    none_both false b e = refl

    by : (b : Bool) → same_id x id ≡ b → cond (not (is_among ids x && is_none (at table x))) (x ∷ more) more ≡ cond (not ((b || is_among ids x) && is_none (at table x))) (x ∷ more) more
    by true t = ap (λ b. cond (not b) (x ∷ more) more) (none_both (is_among ids x) (is_none (at table x)) here ∙ sym here)
      where
        here : is_none (at table x) ≡ false
        here = ap (λ y. is_none (at table y)) (same_id-equal x id t) ∙ there
    by false t = refl

pub missing-none : (table : ById CopyView) (order : List ObjectId) → without_missing table [] order ≡ order
missing-none table [] = refl
missing-none table (x ∷ xs) = ap (λ ys. x ∷ ys) (missing-none table xs)

-- ---- how many messages there are

pub length-removals : (node : ℕ) (es : ById CopyView) (ids : List ObjectId) → length (removals node es ids) ≤ length ids
length-removals node es ids = let few = length-filter-le (has_secondary es) ids in subst (λ n. n ≤ length ids) (sym (each (filter (has_secondary es) ids))) few
  where
    each : (xs : List ObjectId) → length (flat_map (λ id. to_directory (RemoveLocation id node)) xs) ≡ length xs
    each [] = refl
    each (x ∷ xs) = ap suc (each xs)

-- no copy, by a test
pub not_there : (o : Option CopyView) → is_some o ≡ false → o ≡ None
not_there None e = refl
not_there (Some k) e = cc

pub is_there : (o : Option CopyView) → is_some o ≡ true → is_none o ≡ false
is_there None e = cc
is_there (Some k) e = refl
