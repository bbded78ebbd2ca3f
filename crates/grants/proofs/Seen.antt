-- What List shows of the objects that a job was granted: the oldest grant of each, by the table of grants.
use Rattle.std.proofs.Common.{◌≡◌, ℕ, Bool, true, false, cond, List, [], ◌∷◌, ◌++◌, map, fold, Option, Some, None, refl, sym, ap, subst, ◌∙◌, T}
use Rattle.std.specs.Option.{option_map_or, option_and_then}
use Rattle.std.specs.Ordering.{is_eq, is_lt, ordering_reverse}
use Rattle.std.specs.declared.cmp.Ordering.{Ordering}
use Rattle.std.specs.declared.cmp.Ordering.TheVariants.{Less, Equal, Greater}
use Rattle.std.specs.FinMap.{is_sorted}
use Rattle.std.specs.FinMap.Entries.{by_order, below_all, is_sorted-put}
use Rattle.obj_id.specs.declared.ids.ObjectId.{ObjectId}
use Rattle.obj_id.specs.declared.commands.GrantedItem.{GrantedItem}
use Rattle.obj_id.specs.Ids.{id_cmp, same_id}
use Rattle.store_facts.proofs.Ids.{id_cmp-IsTotalOrder, id_cmp-IsAntisymmetric, same_id-equal, same_id-itself}
use Rattle.private_store.specs.rules.Commands.{granted_items}
use Rattle.private_store.specs.rules.Grants.{StandingGrant}
use Rattle.private_store.specs.rules.Shape.{Shape, Seen, GrantTaken}
use Rattle.private_store.specs.rules.Tables.{ById, at, with_entry}
use Rattle.store_facts.proofs.Filling.{below_none}
use Rattle.store_facts.proofs.Tests.{both, and_left, and_right, none_some, true_T, T_true, less_is}
use Rattle.grants.specs.Private.{as_taken, with_taken, taken_by}
use Rattle.grants.specs.Table.{given_to, with_seen, seen_from, seen_list}

abbrev grants_at : Option Seen → List GrantTaken
grants_at o = option_map_or (λ seen. seen.grants) o []

abbrev first_grant : List GrantTaken → Option GrantTaken
first_grant grants = elim grants [ [] ↦ None | grant ∷ _ ↦ Some grant ]

abbrev first_of : Option Seen → Option GrantTaken
first_of o = option_and_then (λ seen. first_grant seen.grants) o

abbrev depth_of : Option GrantTaken → ℕ
depth_of o = option_map_or (λ grant. grant.depth) o 0

-- ---- entries of a table by rising id are found in it

abbrev Finds : ById Seen → ById Seen → Type 0
Finds whole [] = Unit {0}
Finds whole (e ∷ es) = (at whole e.0 ≡ Some e.1) × Finds whole es

found_still : (e : ObjectId × Seen) (whole : ById Seen) → T (below_all id_cmp e.0 whole) → (es : ById Seen) → Finds whole es → Finds (e ∷ whole) es
found_still e whole below [] f = tt
found_still e whole below (d ∷ es) f = (
  elim (same_id d.0 e.0) as (λ b. same_id d.0 e.0 ≡ b → by_test b ≡ Some d.1) [
    | true ↦ λ t. none_some d.1 (sym (below_none e.0 whole below) ∙ ap (at whole) (sym (same_id-equal d.0 e.0 t)) ∙ f.0)
    | false ↦ λ t. f.0
  ] refl,
  found_still e whole below es f.1,
)
  where
    by_test : Bool → Option Seen
    by_test b = cond b (Some e.1) (at whole d.0)

all_found : (table : ById Seen) → T (is_sorted id_cmp table) → Finds table table
all_found [] h = tt
all_found (e ∷ es) h =
    (ap (λ b. cond b (Some e.1) (at es e.0)) (same_id-itself e.0), found_still e es (and_left _ _ h) es (all_found es (and_right _ _ h)))

-- what is below an id is below all that are above it
below_more : (x y : ObjectId) (es : ById Seen) → id_cmp x y ≡ Less → T (below_all id_cmp y es) → T (below_all id_cmp x es)
below_more x y [] p h = tt
below_more x y (e ∷ es) p h =
    T_true _ (both (is_lt (id_cmp x e.0)) (below_all id_cmp x es) (ap is_lt (id_cmp-IsTotalOrder.trans x y e.0 p (less_is (id_cmp y e.0) (and_left _ _ h)))) (true_T _ (below_more x y es p (and_right _ _ h))))

-- ---- grant by grant

module _ (lengths : ObjectId → ℕ) where
  -- the entry of the object whose oldest grant this is
  record IsOldest (e : ObjectId × Seen) (oldest : StandingGrant) : Type 0 where
    pub id : e.0 ≡ oldest.id
    pub length : e.1.length ≡ lengths oldest.id
    pub rest : List GrantTaken
    pub grants : e.1.grants ≡ as_taken oldest ∷ rest

  abbrev AreOldest : ById Seen → List StandingGrant → Type 0
  AreOldest [] [] = Unit {0}
  AreOldest (e ∷ es) (h ∷ hs) = IsOldest e h × AreOldest es hs
  AreOldest _ _ = ⊥

  -- a grant more, where the entry has one grant more than before
  one_more : (es : ById Seen) (hs : List StandingGrant) (h : StandingGrant) (x : Seen) → T (is_sorted id_cmp es) → AreOldest es hs → x.length ≡ lengths h.id → x.grants ≡ grants_at (at es h.id) ++ as_taken h ∷ []
      → AreOldest (with_entry es h.id x) (with_seen h hs)
  one_more [] [] h x sorted are long is = (record { id = refl; length = long; rest = []; grants = is }, tt)
  one_more [] (g ∷ hs) h x sorted are long is = absurd are
  one_more (e ∷ es) [] h x sorted are long is = absurd are
  one_more (e ∷ es) (g ∷ hs) h x sorted are long is =
      by (λ later. one_more es hs h x (and_right _ _ sorted) are.1 long later) (id_cmp h.id e.0) refl
    where
      -- as the grant's own list compares them
      back : id_cmp g.id h.id ≡ ordering_reverse (id_cmp h.id e.0)
      back = ap (λ i. id_cmp i h.id) (sym are.0.id) ∙ id_cmp-IsTotalOrder.antisymm e.0 h.id

      below_first : id_cmp h.id e.0 ≡ Less → T (below_all id_cmp h.id (e ∷ es))
      below_first r = T_true _ (both (is_lt (id_cmp h.id e.0)) (below_all id_cmp h.id es) (ap is_lt r) (true_T _ (below_more h.id e.0 es r (and_left _ _ sorted))))

      Later : Type 0
      Later = x.grants ≡ grants_at (at es h.id) ++ as_taken h ∷ [] → AreOldest (with_entry es h.id x) (with_seen h hs)

      Put : Ordering → Ordering → Type 0
      Put r s =
          AreOldest (by_order r ((h.id, x) ∷ e ∷ es) ((e.0, x) ∷ es) (e ∷ with_entry es h.id x))
          (cond (is_eq s) (g ∷ hs) (cond (is_lt s) (g ∷ with_seen h hs) (h ∷ g ∷ hs)))

      by_both : Later → (r : Ordering) → id_cmp h.id e.0 ≡ r → Put r (ordering_reverse r)
      by_both later Less r =
          let none : at (e ∷ es) h.id ≡ None = below_none h.id (e ∷ es) (below_first r) in
          (record { id = refl; length = long; rest = []; grants = is ∙ ap (λ o. grants_at o ++ as_taken h ∷ []) none }, are)
      by_both later Equal r =
          let same : h.id ≡ e.0 = id_cmp-IsAntisymmetric h.id e.0 r in
          let found : at (e ∷ es) h.id ≡ Some e.1 = ap (λ o. cond (is_eq o) (Some e.1) (at es h.id)) r in (
            record {
              id = are.0.id;
              length = long ∙ ap lengths (same ∙ are.0.id);
              rest = are.0.rest ++ as_taken h ∷ [];
              grants = is ∙ ap (λ o. grants_at o ++ as_taken h ∷ []) found ∙ ap (λ grants. grants ++ as_taken h ∷ []) are.0.grants;
            },
            are.1,
          )
      by_both later Greater r = (are.0, later (is ∙ ap (λ o. grants_at o ++ as_taken h ∷ []) (ap (λ o. cond (is_eq o) (Some e.1) (at es h.id)) r)))

      by : Later → (r : Ordering) → id_cmp h.id e.0 ≡ r → AreOldest (with_entry (e ∷ es) h.id x) (with_seen h (g ∷ hs))
      by later r is_r = subst (Put (id_cmp h.id e.0)) (sym back) (subst (λ o. Put o (ordering_reverse o)) (sym is_r) (by_both later r is_r))

  all_oldest : (hs : List StandingGrant) (table : ById Seen) (seen : List StandingGrant) → T (is_sorted id_cmp table) → AreOldest table seen → AreOldest (fold (with_taken lengths) table hs) (seen_from seen hs) × T (is_sorted id_cmp (fold (with_taken lengths) table hs))
  all_oldest [] table seen sorted are = (are, sorted)
  all_oldest (h ∷ hs) table seen sorted are =
      let x : Seen = record { length = lengths h.id; grants = grants_at (at table h.id) ++ as_taken h ∷ [] } in
      all_oldest hs (with_entry table h.id x) (with_seen h seen) (is_sorted-put id_cmp id_cmp-IsTotalOrder h.id x table sorted) (one_more table seen h x sorted are refl refl)

  -- ---- as List shows them

  abbrev pub seen_item : StandingGrant → GrantedItem
  seen_item grant = record { id = grant.id; length = lengths grant.id; depth = grant.depth }

  items_of : (whole es : ById Seen) (hs : List StandingGrant) → Finds whole es → AreOldest es hs
      → map (λ e. record { id = e.0; length = e.1.length; depth = depth_of (first_of (at whole e.0)) }) es ≡ map seen_item hs
  items_of whole [] [] f are = refl
  items_of whole [] (h ∷ hs) f are = absurd are
  items_of whole (e ∷ es) [] f are = absurd are
  items_of whole (e ∷ es) (h ∷ hs) f are =
      let depth : depth_of (first_of (at whole e.0)) ≡ h.depth = ap (λ o. depth_of (first_of o)) f.0 ∙ ap (λ grants. depth_of (first_grant grants)) are.0.grants in
      λ i. record { id = are.0.id i; length = are.0.length i; depth = depth i } ∷ items_of whole es hs f.1 are.1 i

  pub seen_items : (job : ℕ) (grants : List StandingGrant) (store : Shape) → store.received ≡ taken_by lengths job grants → granted_items store ≡ map seen_item (seen_list job grants)
  seen_items job grants store is =
      let table = taken_by lengths job grants in
      let all = all_oldest (given_to job grants) [] [] tt tt in
      ap (λ t. map (λ (e : ObjectId × Seen). record { id = e.0; length = e.1.length; depth = depth_of (first_of (at t e.0)) }) t) is
      ∙ items_of table table (seen_list job grants) (all_found table all.1) all.0
