-- Grant and Withdraw keep the store.
use Rattle.std.proofs.Common.{◌≡◌, ℕ, Bool, true, false, not, cond, ◌&&◌, ◌||◌, ◌==◌, [], ◌∷◌, ◌++◌, length, filter, Option, Some, None, is_none, refl, sym, ap, subst, ◌∙◌, arith}
use Rattle.std.specs.Prelude.{nat_le}
use Rattle.std.specs.Option.{option_map_or}
use Rattle.std.proofs.lemmas.Bool.{leb-false, eqb-false}
use Rattle.std.proofs.lemmas.List.{length_push}
use Rattle.std.proofs.lemmas.List.Folds.{list_all-append}
use Rattle.obj_id.specs.declared.ids.ObjectId.{ObjectId}
use Rattle.obj_id.specs.Ids.{same_id}
use Rattle.private_store.specs.rules.Limits.{most_grants, greatest_depth}
use Rattle.private_store.specs.rules.Tables.{at}
use Rattle.private_store.specs.rules.Shape.{Copy, Shape, GrantGiven}
use Rattle.obj_id.specs.Kinds.{is_primary}
use Rattle.private_store.specs.rules.Copies.{is_sealed, is_idle}
use Rattle.private_store.specs.rules.Room.{drop_copy}
use Rattle.private_store.specs.rules.Change.{settled}
use Rattle.private_store.specs.rules.Commands.{grant, grant_own, grant_foreign, is_sealed_primary, has_given, withdraw}
use Rattle.private_store.specs.laws.Invariants.{IsCopyKept}
use Rattle.store_facts.proofs.KeptCopy.{SameFor, IsAbsentKept, IsRowKept, IsLoose}
use Rattle.store_facts.proofs.KeptLists.{any-filter, any-filter-le, any-filter-only, all-filter, length-filter-le}
use Rattle.store_facts.proofs.KeptRows.{AreGrantsKept, IsLiveKept, rows_moved, row_same, same_both}
use Rattle.store_facts.proofs.KeptWorks.{pushed_no}
use Rattle.store_facts.proofs.KeptChanges.{visible_at}
use Rattle.store_facts.proofs.KeptStore.{IsFrameKept, in_frame, settle_moved, kept_copy, Keeps, checked_keeps, check_keeps, checks_keep, needing_keeps}
use Rattle.store_facts.proofs.Tests.{both, both_left, both_right, or_false_right, or_left, or_right, passed, true_false}
use Rattle.store_facts.proofs.Ids.{same_id-equal}

module _ {store : Shape} (h : IsLiveKept store) where
  -- ---- grants

  same_given : (a_grant : GrantGiven) (q : ObjectId) → same_id q a_grant.id ≡ false → SameFor store.works store.works (store.given ++ a_grant ∷ []) store.given q
  same_given a_grant q e = record { work = refl; write = refl; read = refl; grant = pushed_no (λ x. same_id q x.id) store.given a_grant e }

  -- a grant that hangs on nothing, or is of another job's object
  abbrev is_well_hung : GrantGiven → Bool
  is_well_hung a_grant = not (a_grant.id.job.0 == store.job) || is_none a_grant.parent

  give_keeps : (a_grant : GrantGiven) → is_well_hung a_grant ≡ true → nat_le most_grants (length store.given) ≡ false
      → IsRowKept store.job store.works (store.given ++ a_grant ∷ []) store.ended_tasks a_grant.id (at store.copies a_grant.id) → IsLiveKept (record store { given = store.given ++ a_grant ∷ [] })
  give_keeps a_grant hung few r = record {
    live = h.live;
    quota = h.quota;
    rows = rows_moved {o = at store.copies a_grant.id} h.rows (row_same store.copies a_grant.id (at store.copies a_grant.id) h.rows.in_order h.rows.few refl) (λ q e. same_given a_grant q e) r;
    works = h.works;
    grants = record {
      own_grants = list_all-append is_well_hung store.given (a_grant ∷ []) ∙ both _ _ h.grants.own_grants (both (is_well_hung a_grant) true hung refl);
      few = let l = length_push store.given a_grant in let f = leb-false most_grants (length store.given) few in omega (arith, l, f);
    };
    fetches = h.fetches;
    ended = h.ended;
  }

  granted_copy : (a_grant : GrantGiven) (copy : Copy) → is_sealed copy.state ≡ true → is_primary copy.kind ≡ true → copy.doomed ≡ false
      → IsCopyKept store.job store.works store.given store.ended_tasks a_grant.id copy → IsCopyKept store.job store.works (store.given ++ a_grant ∷ []) store.ended_tasks a_grant.id copy
  granted_copy a_grant copy s p d k = record {
    own = k.own;
    form = k.form;
    marks = k.marks;
    holds = k.holds;
    uses = record { granted = λ _. (s, p); spilled = k.spilled; restored = k.restored };
    scope = k.scope;
    doomed = λ t. true_false (sym d ∙ t);
  }

  -- another job's object has no copy here
  foreign_row : (a_grant : GrantGiven) → (a_grant.id.job.0 == store.job) ≡ false → (o : Option Copy) → IsRowKept store.job store.works store.given store.ended_tasks a_grant.id o → IsRowKept store.job store.works (store.given ++ a_grant ∷ []) store.ended_tasks a_grant.id o
  foreign_row a_grant f None k = record { no_work = k.no_work; no_grant = λ j. absurd (eqb-false a_grant.id.job.0 store.job f j) }
  foreign_row a_grant f (Some copy) k = absurd (eqb-false a_grant.id.job.0 store.job f k.own)

  grant_own_keeps : (id : ObjectId) (target : ℕ) → Keeps (grant_own store id target)
  grant_own_keeps id target = checked_keeps h _ _ (needing_keeps h _ _ _ (λ copy v.
      let e = (visible_at (at store.copies id) copy v).0 in
      let a_grant : GrantGiven = record { id = id; target = target; parent = None } in
      check_keeps h (not (is_sealed_primary copy)) _ _ _ (λ s. check_keeps h (has_given store id target) _ _ _ (λ _. check_keeps h (nat_le most_grants (length store.given)) _ [] _ (λ few. checks_keep h _ (record {
        is =
            let t : is_primary copy.kind && is_sealed copy.state ≡ true = passed (is_sealed_primary copy) s in
            give_keeps a_grant (or_right (not (id.job.0 == store.job)) true refl) few
            (subst (IsRowKept store.job store.works (store.given ++ a_grant ∷ []) store.ended_tasks id) (sym e)
            (granted_copy a_grant copy (both_right (is_primary copy.kind) (is_sealed copy.state) t) (both_left (is_primary copy.kind) (is_sealed copy.state) t) (visible_at (at store.copies id) copy v).1 (kept_copy h id copy e)));
      }))))))

  grant_foreign_keeps : (id : ObjectId) (target : ℕ) → (id.job.0 == store.job) ≡ false → Keeps (grant_foreign store id target)
  grant_foreign_keeps id target f = checked_keeps h _ _ (needing_keeps h _ _ _ (λ taken e.
      let a_grant : GrantGiven = record { id = id; target = target; parent = Some taken.grantor } in
      check_keeps h (has_given store id target) _ _ _ (λ _. check_keeps h (nat_le greatest_depth taken.depth || nat_le most_grants (length store.given)) _ [] _ (λ few. checks_keep h _ (record {
        is = give_keeps a_grant (or_left (not (id.job.0 == store.job)) false (ap not f)) (or_false_right (nat_le greatest_depth taken.depth) (nat_le most_grants (length store.given)) few)
            (foreign_row a_grant f (at store.copies id) (h.rows.each id));
      })))))

  pub grant_keeps : (id : ObjectId) (target : ℕ) → Keeps (grant store id target)
  grant_keeps id target =
      elim (id.job.0 == store.job) as (λ b. (id.job.0 == store.job) ≡ b → Keeps (cond b (grant_own store id target) (grant_foreign store id target))) [
        | true ↦ λ _. grant_own_keeps id target
        | false ↦ λ f. grant_foreign_keeps id target f
      ] refl

  -- ---- grants that end

  abbrev pub without_grants : (GrantGiven → Bool) → Shape
  without_grants keep = record store { given = filter keep store.given }

  grants_left : (keep : GrantGiven → Bool) → AreGrantsKept store.job (filter keep store.given)
  grants_left keep = record {
    own_grants = all-filter is_well_hung keep store.given h.grants.own_grants;
    few = let l = length-filter-le keep store.given in let f = h.grants.few in omega (arith, l, f);
  }

  frame_left : (keep : GrantGiven → Bool) → IsFrameKept (without_grants keep)
  frame_left keep = record { live = h.live; quota = h.quota; works = h.works; grants = grants_left keep; fetches = h.fetches; ended = h.ended }

  same_left : (keep : GrantGiven → Bool) (q : ObjectId) → ((a_grant : GrantGiven) → same_id q a_grant.id ≡ true → keep a_grant ≡ true) → SameFor store.works store.works (filter keep store.given) store.given q
  same_left keep q k = record { work = refl; write = refl; read = refl; grant = any-filter (λ a_grant. same_id q a_grant.id) keep store.given k }

  loose_left : (keep : GrantGiven → Bool) (id : ObjectId) (copy : Copy) → IsCopyKept store.job store.works store.given store.ended_tasks id copy → IsLoose store.job store.works (filter keep store.given) store.ended_tasks id copy
  loose_left keep id copy k = record {
    bare = record {
      own = k.own;
      form = k.form;
      marks = k.marks;
      holds = k.holds;
      uses = record { granted = λ g. k.granted (any-filter-only (λ a_grant. same_id id a_grant.id) keep store.given g); spilled = k.spilled; restored = k.restored };
    };
    scope = k.scope;
  }

  -- grants of one object end, and it goes if it is doomed and nothing keeps it
  pub grants_end : (keep : GrantGiven → Bool) (id : ObjectId) → ((q : ObjectId) → same_id q id ≡ false → (a_grant : GrantGiven) → same_id q a_grant.id ≡ true → keep a_grant ≡ true) → IsLiveKept (settled (without_grants keep) id)
  grants_end keep id others = by_row (at store.copies id) refl
    where
      by_row : (o : Option Copy) → at store.copies id ≡ o → IsLiveKept (settled (without_grants keep) id)
      by_row None e =
          let S = without_grants keep in
          let k : IsAbsentKept store.job store.works store.given id = subst (IsRowKept store.job store.works store.given store.ended_tasks id) e (h.rows.each id) in
          subst (λ o. IsLiveKept (option_map_or (λ copy. cond (copy.doomed && is_idle S id copy) (drop_copy S id) S) o S)) (sym e)
          (in_frame S store.copies (frame_left keep) (rows_moved {o = None} h.rows (row_same store.copies id None h.rows.in_order h.rows.few e) (λ q t. same_left keep q (others q t))
          (record { no_work = k.no_work; no_grant = λ j. any-filter-le (λ a_grant. same_id id a_grant.id) keep store.given (k.no_grant j) })))
      by_row (Some copy) e =
          settle_moved (without_grants keep) id copy (frame_left keep) h.rows (row_same store.copies id (Some copy) h.rows.in_order h.rows.few e) (λ q t. same_left keep q (others q t))
          (loose_left keep id copy (kept_copy h id copy e))

  not_this : (q id a_grant : ObjectId) (b : Bool) → same_id q id ≡ false → same_id q a_grant ≡ true → not (same_id id a_grant && b) ≡ true
  not_this q id a_grant b f t = ap (λ c. not (c && b)) (same_both id a_grant ∙ ap (λ x. same_id x id) (sym (same_id-equal q a_grant t)) ∙ f)

  pub withdraw_keeps : (id : ObjectId) (target : ℕ) → Keeps (withdraw store id target)
  withdraw_keeps id target = checked_keeps h _ _ (record {
    is = grants_end (λ a_grant. not (same_id id a_grant.id && a_grant.target == target)) id (λ q f a_grant t. not_this q id a_grant.id (a_grant.target == target) f t);
  })
