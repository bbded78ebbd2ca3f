-- The rows of a job's tables before and after a change: what stays of them where nothing new is placed,
-- filled or sealed.
use Rattle.std.proofs.Common.{◌≡◌, true, false, not, cond, ◌&&◌, ◌⊎◌, inl, inr, List, [], ◌∷◌, fold, Option, Some, None, refl, sym, ap, subst, ◌∙◌}
use Rattle.std.specs.Option.{option_map_or}
use Rattle.std.specs.FinMap.Entries.{find-put, find-where_key}
use Rattle.obj_id.specs.declared.ids.ObjectId.{ObjectId}
use Rattle.obj_id.specs.declared.works.Quota.{Quota}
use Rattle.obj_id.specs.Ids.{id_cmp, same_id}
use Rattle.obj_id.specs.declared.commands.CopyState.TheVariants.{Away}
use Rattle.private_store.specs.rules.Tables.{ById, at, with_entry, without_entry}
use Rattle.private_store.specs.rules.Shape.{Copy, Shape, WorkInFlight, Seen}
use Rattle.obj_id.specs.Kinds.{is_primary}
use Rattle.private_store.specs.rules.Copies.{is_sealed, is_idle}
use Rattle.private_store.specs.rules.Room.{set_copy, drop_copy, evicted}
use Rattle.private_store.specs.rules.Change.{settled}
use Rattle.private_store.specs.laws.Invariants.{has_write}
use Rattle.store_facts.proofs.Ids.{id_cmp-IsAntisymmetric, id_cmp-IsTotalOrder, same_id-equal, same_id-itself}

-- ---- ids and tables

pub at-put : {X : Type 0} (table : ById X) (id : ObjectId) (x : X) (q : ObjectId) → at (with_entry table id x) q ≡ cond (same_id q id) (Some x) (at table q)
at-put table id x q = find-put id_cmp id_cmp-IsTotalOrder q id x table

pub at-drop : {X : Type 0} (table : ById X) (id q : ObjectId) → at (without_entry table id) q ≡ cond (not (same_id id q)) (at table q) None
at-drop table id q = find-where_key id_cmp (λ x. not (same_id id x)) q (λ x t. ap (λ y. not (same_id id y)) (sym (id_cmp-IsAntisymmetric q x t))) table

pub at-put_here : {X : Type 0} (table : ById X) (id : ObjectId) (x : X) → at (with_entry table id x) id ≡ Some x
at-put_here table id x = at-put table id x id ∙ ap (λ b. cond b (Some x) (at table id)) (same_id-itself id)

-- a fact of each row of a table with an entry put
pub put_rows : {X : Type 0} (P : ObjectId → Option X → Type 0) (table : ById X) (id : ObjectId) (x : X) → P id (Some x) → ((q : ObjectId) → same_id q id ≡ false → P q (at table q)) → (q : ObjectId) → P q (at (with_entry table id x) q)
put_rows P table id x here others q =
    subst (P q) (sym (at-put table id x q))
    (elim (same_id q id) as (λ b. same_id q id ≡ b → P q (cond b (Some x) (at table q))) [
      | true ↦ λ t. subst (λ y. P y (Some x)) (sym (same_id-equal q id t)) here
      | false ↦ λ t. others q t
    ] refl)

pub drop_rows : {X : Type 0} (P : ObjectId → Option X → Type 0) (table : ById X) (id : ObjectId) → ((q : ObjectId) → P q None) → ((q : ObjectId) → P q (at table q)) → (q : ObjectId) → P q (at (without_entry table id) q)
drop_rows P table id gone others q =
    subst (P q) (sym (at-drop table id q))
    (elim (not (same_id id q)) as (λ b. P q (cond b (at table q) None)) [ true ↦ others q | false ↦ gone q ])

-- ---- a copy that stays

-- the same bytes, if it has any still
pub record IsTame (c d : Copy) : Type 0 where
  pub length : d.length ≡ c.length
  pub backed : d.backed ≡ c.backed
  pub stands : ((d.offset ≡ c.offset) × (d.state ≡ c.state)) ⊎ ((d.offset ≡ None) × (is_sealed d.state ≡ false))

abbrev pub Tame : Option Copy → Option Copy → Type 0
Tame o None = Unit {0}
Tame None (Some d) = ⊥
Tame (Some c) (Some d) = IsTame c d

tame_copy : (c : Copy) → IsTame c c
tame_copy c = record { length = refl; backed = refl; stands = inl (refl, refl) }

tame_stays : (o : Option Copy) → Tame o o
tame_stays None = tt
tame_stays (Some c) = tame_copy c

tame_both : (b c d : Copy) → IsTame b c → IsTame c d → IsTame b d
tame_both b c d h k = record { length = k.length ∙ h.length; backed = k.backed ∙ h.backed; stands = stands h.stands k.stands }
  where
    stands : ((c.offset ≡ b.offset) × (c.state ≡ b.state)) ⊎ ((c.offset ≡ None) × (is_sealed c.state ≡ false)) → ((d.offset ≡ c.offset) × (d.state ≡ c.state)) ⊎ ((d.offset ≡ None) × (is_sealed d.state ≡ false)) → ((d.offset ≡ b.offset) × (d.state ≡ b.state)) ⊎ ((d.offset ≡ None) × (is_sealed d.state ≡ false))
    stands x (inr y) = inr y
    stands (inl x) (inl y) = inl (y.0 ∙ x.0, y.1 ∙ x.1)
    stands (inr x) (inl y) = inr (y.0 ∙ x.0, ap is_sealed y.1 ∙ x.1)

tame_then : (o p q : Option Copy) → Tame o p → Tame p q → Tame o q
tame_then o p None h k = tt
tame_then o None (Some d) h k = absurd k
tame_then None (Some c) (Some d) h k = absurd h
tame_then (Some b) (Some c) (Some d) h k = tame_both b c d h k

-- ---- a store that stays

abbrev pub SeenRow : Option Seen → Option Seen → Type 0
SeenRow o None = Unit {0}
SeenRow None (Some s) = ⊥
SeenRow (Some r) (Some s) = s.length ≡ r.length

pub seen_stays : (o : Option Seen) → SeenRow o o
seen_stays None = tt
seen_stays (Some s) = refl

seen_then : (o p q : Option Seen) → SeenRow o p → SeenRow p q → SeenRow o q
seen_then o p None h k = tt
seen_then o None (Some d) h k = absurd k
seen_then None (Some c) (Some d) h k = absurd h
seen_then (Some b) (Some c) (Some d) h k = k ∙ h

-- no copy is new, each has the bytes that it had or none, no write is new, and the quota is the same
pub record Calm (copies : ById Copy) (works : List WorkInFlight) (old_quota : Quota) (received : ById Seen) (copies' : ById Copy) (works' : List WorkInFlight) (new_quota : Quota) (received' : ById Seen) : Type 0 where
  pub row : (id : ObjectId) → Tame (at copies id) (at copies' id)
  pub writes : (id : ObjectId) → has_write works' id ≡ true → has_write works id ≡ true
  pub quota : new_quota ≡ old_quota
  pub seen : (id : ObjectId) → SeenRow (at received id) (at received' id)

abbrev pub Quiet : Shape → Shape → Type 0
Quiet store after = Calm store.copies store.works store.quota store.received after.copies after.works after.quota after.received

pub quiet_stays : (store : Shape) → Quiet store store
quiet_stays store = record { row = λ id. tame_stays (at store.copies id); writes = λ id e. e; quota = refl; seen = λ id. seen_stays (at store.received id) }

pub quiet_then : (store mid after : Shape) → Quiet store mid → Quiet mid after → Quiet store after
quiet_then store mid after h k = record {
  row = λ id. tame_then (at store.copies id) (at mid.copies id) (at after.copies id) (h.row id) (k.row id);
  writes = λ id e. h.writes id (k.writes id e);
  quota = k.quota ∙ h.quota;
  seen = λ id. seen_then (at store.received id) (at mid.received id) (at after.received id) (h.seen id) (k.seen id);
}

-- a copy that was there is put, over what went before
pub quiet_put : (store mid : Shape) (id : ObjectId) (c d : Copy) → Quiet store mid → at store.copies id ≡ Some c → IsTame c d → Quiet store (set_copy mid id d)
quiet_put store mid id c d h e t = record {
  row = put_rows (λ q o. Tame (at store.copies q) o) mid.copies id d (subst (λ o. Tame o (Some d)) (sym e) t) (λ q _. h.row q);
  writes = h.writes;
  quota = h.quota;
  seen = h.seen;
}

pub quiet_drop : (store mid : Shape) (id : ObjectId) → Quiet store mid → Quiet store (drop_copy mid id)
quiet_drop store mid id h = record {
  row = drop_rows (λ q o. Tame (at store.copies q) o) mid.copies id (λ q. tt) h.row;
  writes = h.writes;
  quota = h.quota;
  seen = h.seen;
}

pub quiet_set : (store : Shape) (id : ObjectId) (c d : Copy) → at store.copies id ≡ Some c → IsTame c d → Quiet store (set_copy store id d)
quiet_set store id c d e t = quiet_put store store id c d (quiet_stays store) e t

pub quiet_settled : (store mid : Shape) (id : ObjectId) → Quiet store mid → Quiet store (settled mid id)
quiet_settled store mid id h =
    elim (at mid.copies id) as (λ o. Quiet store (option_map_or (λ copy. cond (copy.doomed && is_idle mid id copy) (drop_copy mid id) mid) o mid)) [
      | None ↦ h
      | Some copy ↦ elim (copy.doomed && is_idle mid id copy) as (λ b. Quiet store (cond b (drop_copy mid id) mid)) [ true ↦ quiet_drop store mid id h | false ↦ h ]
    ]

pub quiet_evicted : (store : Shape) (id : ObjectId) → Quiet store (evicted store id)
quiet_evicted store id =
    elim (at store.copies id) as (λ o. at store.copies id ≡ o → Quiet store (option_map_or (λ copy. cond (is_primary copy.kind) (set_copy store id (record copy { state = Away; offset = None })) (drop_copy store id)) o store)) [
      | None ↦ λ _. quiet_stays store
      | Some copy ↦ λ e. elim (is_primary copy.kind) as (λ b. Quiet store (cond b (set_copy store id (record copy { state = Away; offset = None })) (drop_copy store id))) [
        | true ↦ quiet_set store id copy (record copy { state = Away; offset = None }) e (record { length = refl; backed = refl; stands = inr (refl, refl) })
        | false ↦ quiet_drop store store id (quiet_stays store)
      ]
    ] refl

pub quiet_fold : (f : Shape → ObjectId → Shape) → ((store : Shape) (id : ObjectId) → Quiet store (f store id)) → (store : Shape) (ids : List ObjectId) → Quiet store (fold f store ids)
quiet_fold f each store [] = quiet_stays store
quiet_fold f each store (id ∷ ids) = quiet_then store (f store id) (fold f (f store id) ids) (each store id) (quiet_fold f each (f store id) ids)
