-- What others grant and take back keeps the store, live or not.
use Rattle.std.proofs.Common.{◌≡◌, ℕ, Bool, true, false, not, cond, ◌&&◌, ◌||◌, ◌==◌, [], filter, Option, Some, None, is_none, refl, sym, ap, subst, ◌∙◌, arith}
use Rattle.std.specs.Option.{option_map_or}
use Rattle.std.specs.List.{list_any}
use Rattle.std.proofs.lemmas.Bool.{eq-eqb}
use Rattle.obj_id.specs.declared.ids.ObjectId.{ObjectId}
use Rattle.obj_id.specs.Ids.{same_id}
use Rattle.private_store.specs.rules.Tables.{ById, at}
use Rattle.private_store.specs.rules.Shape.{Copy, Shape, GrantGiven, Seen}
use Rattle.private_store.specs.rules.Events.{is_live, received, withdrawn, is_the_grant, is_child_of, grant_ended}
use Rattle.private_store.specs.laws.Invariants.{IsShapeKept}
use Rattle.store_facts.proofs.KeptCopy.{SameFor, IsRowKept, copy_carried}
use Rattle.store_facts.proofs.KeptLists.{any-filter-all, any-filter-le, all-filter, all_weaker, length-filter-le}
use Rattle.store_facts.proofs.KeptRows.{IsLiveKept, to_live, from_live}
use Rattle.store_facts.proofs.Tests.{true_false}
use Rattle.store_facts.proofs.Ids.{same_id-equal}

-- other grants are received
pub seen_keeps : (store : Shape) (seen : ById Seen) → IsShapeKept store → IsShapeKept (record store { received = seen })
seen_keeps store seen h = record {
  dead = h.dead;
  quota = h.quota;
  by_id = h.by_id;
  each = h.each;
  works_of_copies = h.works_of_copies;
  one_work = h.one_work;
  numbers_used = h.numbers_used;
  one_number = h.one_number;
  numbers_end = h.numbers_end;
  grants_of_copies = h.grants_of_copies;
  own_grants = h.own_grants;
  most_copies = h.most_copies;
  most_works = h.most_works;
  most_grants = h.most_grants;
  most_ended = h.most_ended;
}

pub received_keeps : (store : Shape) (id : ObjectId) (n grantor depth : ℕ) → IsShapeKept store → IsShapeKept (received store id n grantor depth).shape
received_keeps store id n grantor depth h = seen_keeps store _ h

module _ (store : Shape) (id : ObjectId) (grantor : ℕ) where
  abbrev keep : GrantGiven → Bool
  keep grant = not (is_child_of id grantor grant)

  -- a grant of an own object hangs on nothing
  own_stays : (q : ObjectId) → q.job.0 ≡ store.job → (grant : GrantGiven) → not (grant.id.job.0 == store.job) || is_none grant.parent ≡ true → not (same_id q grant.id) || keep grant ≡ true
  own_stays q own grant e = by_same (same_id q grant.id) refl
    where
      by_none : (o : Option ℕ) (b : Bool) → is_none o ≡ true → not (b && option_map_or (λ g. g == grantor) o false) ≡ true
      by_none None true t = refl
      by_none None false t = refl
      by_none (Some g) b t = true_false t

      by_same : (b : Bool) → same_id q grant.id ≡ b → not b || keep grant ≡ true
      by_same false s = refl
      by_same true s =
          let mine : (grant.id.job.0 == store.job) ≡ true = eq-eqb grant.id.job.0 store.job (sym (ap (λ x. x.job.0) (same_id-equal q grant.id s)) ∙ own) in
          by_none grant.parent (same_id id grant.id) (sym (ap (λ b. not b || is_none grant.parent) mine) ∙ e)

  row_stays : (h : IsLiveKept store) (q : ObjectId) (o : Option Copy) → IsRowKept store.job store.works store.given store.ended_tasks q o → IsRowKept store.job store.works (filter keep store.given) store.ended_tasks q o
  row_stays h q None k = record { no_work = k.no_work; no_grant = λ j. any-filter-le (λ grant. same_id q grant.id) keep store.given (k.no_grant j) }
  row_stays h q (Some copy) k =
      let same : SameFor store.works store.works (filter keep store.given) store.given q = record {
        work = refl;
        write = refl;
        read = refl;
        grant = any-filter-all (λ grant. same_id q grant.id) keep store.given (all_weaker _ (λ grant. not (same_id q grant.id) || keep grant) store.given (own_stays q k.own) h.grants.own_grants);
      } in
      copy_carried store.job store.ended_tasks same copy k

  live_ended : (seen : ById Seen) → IsLiveKept store → IsLiveKept (record store { received = seen; given = filter keep store.given })
  live_ended seen h = record {
    live = h.live;
    quota = h.quota;
    rows = record { in_order = h.rows.in_order; each = λ q. row_stays h q (at store.copies q) (h.rows.each q); few = h.rows.few };
    works = h.works;
    grants = record {
      own_grants = all-filter _ keep store.given h.grants.own_grants;
      few = let l = length-filter-le keep store.given in let f = h.grants.few in omega (arith, l, f);
    };
    fetches = h.fetches;
    ended = h.ended;
  }

  ended_keeps : (seen : ById Seen) → IsShapeKept store → IsShapeKept (record store { received = seen; given = filter keep store.given })
  ended_keeps seen h = by_life (is_live store) refl
    where
      by_life : (b : Bool) → is_live store ≡ b → IsShapeKept (record store { received = seen; given = filter keep store.given })
      by_life true l = from_live (record store { received = seen; given = filter keep store.given }) (live_ended seen (to_live store h l))
      by_life false l =
          let none : store.given ≡ [] = (h.dead l).2 in
          subst (λ g. IsShapeKept (record store { received = seen; given = g })) (none ∙ sym (ap (filter keep) none)) (seen_keeps store seen h)

pub withdrawn_keeps : (store : Shape) (id : ObjectId) (grantor depth : ℕ) → IsShapeKept store → IsShapeKept (withdrawn store id grantor depth).shape
withdrawn_keeps store id grantor depth h =
    elim (at store.received id) as (λ o. IsShapeKept (option_map_or (λ seen. cond (list_any (is_the_grant grantor depth) seen.grants) (grant_ended store id grantor depth seen) store) o store)) [
      | None ↦ h
      | Some seen ↦ elim (list_any (is_the_grant grantor depth) seen.grants) as (λ b. IsShapeKept (cond b (grant_ended store id grantor depth seen) store)) [ true ↦ ended_keeps store id grantor _ h | false ↦ h ]
    ]
