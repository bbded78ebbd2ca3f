-- A change of one row of a job's table of copies, and what the rows and the lists of a store keep.
use Rattle.std.proofs.Common.{◌≡◌, ℕ, ◌+◌, ◌≤◌, ◌<◌, Bool, true, false, not, cond, ◌&&◌, ◌||◌, List, length, Option, Some, None, is_some, is_none, refl, sym, ap, subst, ◌∙◌, T, arith}
use Rattle.std.specs.Prelude.{IsTrue, ◌==◌, ◌^◌, nat_lt, nat_le, count_by}
use Rattle.std.specs.List.{list_all}
use Rattle.std.specs.FinMap.{is_sorted}
use Rattle.std.specs.FinMap.Entries.{find-where_key, is_sorted-where_key, is_sorted-put, find-put, length-put, length_without}
use Rattle.obj_id.specs.declared.ids.ObjectId.{ObjectId}
use Rattle.obj_id.specs.declared.ids.TaskNo.{TaskNo}
use Rattle.obj_id.specs.Ids.{id_cmp, same_id}
use Rattle.private_store.specs.rules.Limits.{most_copies, most_works, most_grants, most_ended_tasks, is_quota}
use Rattle.private_store.specs.rules.Tables.{ById, at, with_entry, without_entry}
use Rattle.private_store.specs.rules.Shape.{Copy, WorkInFlight, GrantGiven, Shape}
use Rattle.private_store.specs.rules.Events.{is_live}
use Rattle.private_store.specs.laws.Invariants.{IsShapeKept}
use Rattle.store_facts.proofs.Ids.{id_cmp-IsAntisymmetric, id_cmp-IsTotalOrder, same_id-equal, same_id-itself, same_id-not_back}
use Rattle.store_facts.proofs.KeptCopy.{SameFor, IsRowKept, row_carried}
use Rattle.store_facts.proofs.Tests.{T_true, true_T, true_false}

-- ---- a change of one row

-- the row of the id is o now, and the other rows are as they were
pub record IsRowChange (most : ℕ) (copies : ById Copy) (id : ObjectId) (o : Option Copy) (new : ById Copy) : Type 0 where
  pub in_order : T (is_sorted id_cmp new)
  pub rows : (q : ObjectId) → at new q ≡ cond (same_id q id) o (at copies q)
  pub few : length new ≤ most

pub row_here : {most : ℕ} {copies : ById Copy} {id : ObjectId} {o : Option Copy} {new : ById Copy} → IsRowChange most copies id o new → at new id ≡ o
row_here {copies} {id} {o} {new} h = h.rows id ∙ ap (λ b. cond b o (at copies id)) (same_id-itself id)

put_size : (most : ℕ) (b : Bool) (n : ℕ) → n ≤ most → (b ≡ false → n < most) → cond b n (n + 1) ≤ most
put_size most true n h k = h
put_size most false n h k = omega (arith, k refl)

-- the entry is put in its place
pub row_put : {most : ℕ} (copies : ById Copy) (id : ObjectId) (copy : Copy) → T (is_sorted id_cmp copies) → length copies ≤ most → (is_some (at copies id) ≡ false → length copies < most) → IsRowChange most copies id (Some copy) (with_entry copies id copy)
row_put {most} copies id copy h n k = record {
  in_order = is_sorted-put id_cmp id_cmp-IsTotalOrder id copy copies h;
  rows = λ q. find-put id_cmp id_cmp-IsTotalOrder q id copy copies;
  few = subst (λ m. m ≤ most) (sym (length-put id_cmp id_cmp-IsTotalOrder id copy copies h)) (put_size most (is_some (at copies id)) (length copies) n k);
}

without_at : (a b : Bool) (o : Option Copy) → a ≡ b → cond (not a) o None ≡ cond b None o
without_at true b o e = ap (λ t. cond t None o) e
without_at false b o e = ap (λ t. cond t None o) e

less_by : (most a b n : ℕ) → a + b ≡ n → n ≤ most → b ≤ most
less_by most a b n e h = omega (arith, e, h)

pub same_both : (a b : ObjectId) → same_id a b ≡ same_id b a
same_both a b =
    elim (same_id b a) as (λ t. same_id b a ≡ t → same_id a b ≡ t) [
      | true ↦ λ t. ap (λ x. same_id a x) (same_id-equal b a t) ∙ same_id-itself a
      | false ↦ λ t. same_id-not_back b a t
    ] refl

-- the entry is taken out
pub row_drop : {most : ℕ} (copies : ById Copy) (id : ObjectId) → T (is_sorted id_cmp copies) → length copies ≤ most → IsRowChange most copies id None (without_entry copies id)
row_drop {most} copies id h n = record {
  in_order = is_sorted-where_key id_cmp (λ x. not (same_id id x)) copies h;
  rows = λ q. find-where_key id_cmp (λ x. not (same_id id x)) q (λ x t. ap (λ y. not (same_id id y)) (sym (id_cmp-IsAntisymmetric q x t))) copies
      ∙ without_at (same_id id q) (same_id q id) (at copies q) (same_both id q);
  few = less_by most _ _ _ (length_without id_cmp id_cmp-IsTotalOrder id copies h) n;
}

-- nothing is changed
pub row_same : {most : ℕ} (copies : ById Copy) (id : ObjectId) (o : Option Copy) → T (is_sorted id_cmp copies) → length copies ≤ most → at copies id ≡ o → IsRowChange most copies id o copies
row_same copies id o h n e = record {
  in_order = h;
  rows = λ q. elim (same_id q id) as (λ b. same_id q id ≡ b → at copies q ≡ cond b o (at copies q)) [
    | true ↦ λ t. ap (at copies) (same_id-equal q id t) ∙ e
    | false ↦ λ t. refl
  ] refl;
  few = n;
}

-- one change after another of the same row
pub row_then : {most other : ℕ} {copies : ById Copy} {id : ObjectId} {o p : Option Copy} {mid new : ById Copy} → IsRowChange other copies id o mid → IsRowChange most mid id p new → IsRowChange most copies id p new
row_then {copies} {id} {o} {p} {mid} {new} h k = record {
  in_order = k.in_order;
  rows = λ q. k.rows q ∙ ap (λ r. cond (same_id q id) p r) (h.rows q)
      ∙ elim (same_id q id) as (λ b. cond b p (cond b o (at copies q)) ≡ cond b p (at copies q)) [ true ↦ refl | false ↦ refl ];
  few = k.few;
}

-- ---- what the rows keep

pub record AreRowsKept (job : ℕ) (works : List WorkInFlight) (given : List GrantGiven) (ended : List TaskNo) (copies : ById Copy) : Type 0 where
  pub in_order : T (is_sorted id_cmp copies)
  pub each : (id : ObjectId) → IsRowKept job works given ended id (at copies id)
  pub few : length copies ≤ most_copies

-- a row changes, and with it the works and the grants of that id alone
pub rows_moved : {job : ℕ} {works old_works : List WorkInFlight} {given old_given : List GrantGiven} {ended : List TaskNo} {copies : ById Copy} {id : ObjectId} {o : Option Copy} {new : ById Copy}
    → AreRowsKept job old_works old_given ended copies → IsRowChange most_copies copies id o new → ((q : ObjectId) → same_id q id ≡ false → SameFor works old_works given old_given q)
    → IsRowKept job works given ended id o → AreRowsKept job works given ended new
rows_moved {job} {works} {old_works} {given} {old_given} {ended} {copies} {id} {o} {new} h c same r = record {
  in_order = c.in_order;
  each = λ q. subst (IsRowKept job works given ended q) (sym (c.rows q))
      (elim (same_id q id) as (λ b. same_id q id ≡ b → IsRowKept job works given ended q (cond b o (at copies q))) [
        | true ↦ λ t. subst (λ x. IsRowKept job works given ended x o) (sym (same_id-equal q id t)) r
        | false ↦ λ t. row_carried job ended (same q t) (at copies q) (h.each q)
      ] refl);
  few = c.few;
}

pub same_lists : (works : List WorkInFlight) (given : List GrantGiven) (q : ObjectId) → SameFor works works given given q
same_lists works given q = record { work = refl; write = refl; read = refl; grant = refl }

pub rows_changed : {job : ℕ} {works : List WorkInFlight} {given : List GrantGiven} {ended : List TaskNo} {copies : ById Copy} {id : ObjectId} {o : Option Copy} {new : ById Copy}
    → AreRowsKept job works given ended copies → IsRowChange most_copies copies id o new → IsRowKept job works given ended id o → AreRowsKept job works given ended new
rows_changed {works = works} {given = given} h c r = rows_moved h c (λ q _. same_lists works given q) r

-- ---- what the lists keep

pub record AreWorksKept (works : List WorkInFlight) (asked : ℕ) : Type 0 where
  pub one_work : (id : ObjectId) → count_by (λ work. same_id id work.id) works ≤ 1
  pub numbers_used : IsTrue (list_all (λ work. nat_lt 0 work.number && nat_le work.number asked) works)
  pub one_number : (n : ℕ) → count_by (λ work. work.number == n) works ≤ 1
  pub numbers_end : asked < 2 ^ 64
  pub few : length works ≤ most_works

pub record AreGrantsKept (job : ℕ) (given : List GrantGiven) : Type 0 where
  pub own_grants : IsTrue (list_all (λ grant. not (grant.id.job.0 == job) || is_none grant.parent) given)
  pub few : length given ≤ most_grants

-- a live store
pub record IsLiveKept (store : Shape) : Type 0 where
  pub live : is_live store ≡ true
  pub quota : is_quota store.quota ≡ true
  pub rows : AreRowsKept store.job store.works store.given store.ended_tasks store.copies
  pub works : AreWorksKept store.works store.works_asked
  pub grants : AreGrantsKept store.job store.given
  pub fetches : store.fetches_begun < 2 ^ 64
  pub ended : length store.ended_tasks ≤ most_ended_tasks

rows_of : (store : Shape) → IsShapeKept store → AreRowsKept store.job store.works store.given store.ended_tasks store.copies
rows_of store h = record {
  in_order = T_true _ h.by_id;
  each = λ id. elim (at store.copies id) as (λ o. at store.copies id ≡ o → IsRowKept store.job store.works store.given store.ended_tasks id o) [
    | None ↦ λ e. record { no_work = h.works_of_copies id e; no_grant = λ j. h.grants_of_copies id j e }
    | Some copy ↦ λ e. h.each id copy e
  ] refl;
  few = h.most_copies;
}

pub to_live : (store : Shape) → IsShapeKept store → is_live store ≡ true → IsLiveKept store
to_live store h l = record {
  live = l;
  quota = h.quota l;
  rows = rows_of store h;
  works = record { one_work = h.one_work; numbers_used = h.numbers_used; one_number = h.one_number; numbers_end = h.numbers_end.0; few = h.most_works };
  grants = record { own_grants = h.own_grants; few = h.most_grants };
  fetches = h.numbers_end.1;
  ended = h.most_ended;
}

pub from_live : (store : Shape) → IsLiveKept store → IsShapeKept store
from_live store h = record {
  dead = λ d. true_false (sym d ∙ h.live);
  quota = λ l. h.quota;
  by_id = true_T _ h.rows.in_order;
  each = λ id copy e. subst (IsRowKept store.job store.works store.given store.ended_tasks id) e (h.rows.each id);
  works_of_copies = λ id e. (subst (IsRowKept store.job store.works store.given store.ended_tasks id) e (h.rows.each id)).no_work;
  one_work = h.works.one_work;
  numbers_used = h.works.numbers_used;
  one_number = h.works.one_number;
  numbers_end = (h.works.numbers_end, h.fetches);
  grants_of_copies = λ id j e. (subst (IsRowKept store.job store.works store.given store.ended_tasks id) e (h.rows.each id)).no_grant j;
  own_grants = h.grants.own_grants;
  most_copies = h.rows.few;
  most_works = h.works.few;
  most_grants = h.grants.few;
  most_ended = h.ended;
}
