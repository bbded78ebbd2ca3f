-- What a job was given, grant by grant and by its objects.
use Rattle.std.proofs.Common.{◌≡◌, ℕ, ◌==◌, Bool, true, false, cond, ◌&&◌, List, [], ◌∷◌, ◌++◌, map, filter, fold, Some, refl, sym, ap, ◌∙◌, T}
use Rattle.std.specs.Prelude.{IsTrue}
use Rattle.std.specs.FinMap.{is_sorted}
use Rattle.std.specs.FinMap.Entries.{same_entries, is_sorted-put}
use Rattle.std.proofs.lemmas.List.{append-nil, append_assoc}
use Rattle.obj_id.specs.declared.ids.ObjectId.{ObjectId}
use Rattle.obj_id.specs.Ids.{id_cmp, same_id}
use Rattle.store_facts.proofs.Ids.{id_cmp-IsTotalOrder, id_cmp-IsAntisymmetric, same_id-equal}
use Rattle.private_store.specs.rules.Shape.{Shape, Seen, GrantTaken}
use Rattle.private_store.specs.rules.Tables.{ById, at}
use Rattle.private_store.specs.rules.Grants.{StandingGrant}
use Rattle.store_facts.proofs.Rows.{at-put}
use Rattle.store_facts.proofs.Tests.{T_true}
use Rattle.grants.specs.Table.{shows, given_by, given_to}
use Rattle.grants.specs.Private.{as_given, as_taken, seen_by, with_taken, taken_by, HasGrants}
use Rattle.grants.proofs.Private.{seen_grants, grants_seen, seen_more}

module _ (lengths : ObjectId → ℕ) where
  -- after more grants the table has those of an object after the ones that it had
  at_taken : (hs : List StandingGrant) (table : ById Seen) (q : ObjectId) (old : List GrantTaken) → at table q ≡ seen_by (lengths q) old
      → at (fold (with_taken lengths) table hs) q ≡ seen_by (lengths q) (old ++ map as_taken (filter (λ h. same_id q h.id) hs))
  at_taken [] table q old is = is ∙ ap (seen_by (lengths q)) (sym (append-nil old))
  at_taken (h ∷ hs) table q old is =
      let rest = map as_taken (filter (λ h. same_id q h.id) hs) in
      let entry : Seen = record { length = lengths h.id; grants = seen_grants (at table h.id) ++ as_taken h ∷ [] } in
      (elim (same_id q h.id) as (λ b. same_id q h.id ≡ b → at (fold (with_taken lengths) (with_taken lengths table h) hs) q
      ≡ seen_by (lengths q) (old ++ map as_taken (cond b (h ∷ filter (λ h. same_id q h.id) hs) (filter (λ h. same_id q h.id) hs)))) [
        | true ↦ λ same.
            at_taken hs (with_taken lengths table h) q (old ++ as_taken h ∷ [])
            (at-put table h.id entry q
            ∙ ap (λ b. cond b (Some entry) (at table q)) same
            ∙ (λ i. Some (record { length = lengths (sym (same_id-equal q h.id same) i); grants = seen_grants (at table (sym (same_id-equal q h.id same) i)) ++ as_taken h ∷ [] }))
            ∙ ap (λ grants. Some (record { length = lengths q; grants = grants ++ as_taken h ∷ [] })) (ap seen_grants is ∙ grants_seen (lengths q) old)
            ∙ seen_more (lengths q) old (as_taken h))
            ∙ ap (seen_by (lengths q)) (append_assoc old (as_taken h ∷ []) rest)
        | false ↦ λ other. at_taken hs (with_taken lengths table h) q old (at-put table h.id entry q ∙ ap (λ b. cond b (Some entry) (at table q)) other ∙ is)
      ]) refl

  given_shown : (q : ObjectId) (job : ℕ) (hs : List StandingGrant) → filter (λ h. same_id q h.id) (given_to job hs) ≡ filter (shows q job) hs
  given_shown q job [] = refl
  given_shown q job (h ∷ hs) =
      elim (h.grantee == job) as (λ b. filter (λ h. same_id q h.id) (cond b (h ∷ given_to job hs) (given_to job hs)) ≡ cond (same_id q h.id && b) (h ∷ filter (shows q job) hs) (filter (shows q job) hs)) [
        | true ↦
            (λ i. cond (same_id q h.id) (h ∷ given_shown q job hs i) (given_shown q job hs i))
            ∙ ap (λ b. cond b (h ∷ filter (shows q job) hs) (filter (shows q job) hs)) (sym (and_true (same_id q h.id)))
        | false ↦ given_shown q job hs ∙ ap (λ b. cond b (h ∷ filter (shows q job) hs) (filter (shows q job) hs)) (sym (and_false (same_id q h.id)))
      ]
    where
      and_true : (b : Bool) → (b && true) ≡ b
      and_true true = refl
      and_true false = refl

      and_false : (b : Bool) → (b && false) ≡ false
      and_false true = refl
      and_false false = refl

  pub taken_shown : (job : ℕ) (grants : List StandingGrant) (q : ObjectId) → at (taken_by lengths job grants) q ≡ seen_by (lengths q) (map as_taken (filter (shows q job) grants))
  taken_shown job grants q = at_taken (given_to job grants) [] q [] refl ∙ ap (λ hs. seen_by (lengths q) (map as_taken hs)) (given_shown q job grants)

  pub taken_sorted : (hs : List StandingGrant) (table : ById Seen) → T (is_sorted id_cmp table) → T (is_sorted id_cmp (fold (with_taken lengths) table hs))
  taken_sorted [] table h = h
  taken_sorted (x ∷ xs) table h =
      taken_sorted xs (with_taken lengths table x) (is_sorted-put id_cmp id_cmp-IsTotalOrder x.id (record { length = lengths x.id; grants = seen_grants (at table x.id) ++ as_taken x ∷ [] }) table h)

  pub has_grants : (grants : List StandingGrant) (store : Shape) → store.given ≡ map as_given (given_by store.job grants) → store.received ≡ taken_by lengths store.job grants → HasGrants lengths grants store
  has_grants grants store given received = record { given = given; taken = λ q. ap (λ table. at table q) received ∙ taken_shown store.job grants q }

  pub taken_is : (grants : List StandingGrant) (store : Shape) → HasGrants lengths grants store → IsTrue (is_sorted id_cmp store.received) → store.received ≡ taken_by lengths store.job grants
  taken_is grants store has sorted =
      same_entries id_cmp id_cmp-IsTotalOrder id_cmp-IsAntisymmetric store.received (taken_by lengths store.job grants) (T_true (is_sorted id_cmp store.received) sorted) (taken_sorted (given_to store.job grants) [] tt)
      (λ q. has.taken q ∙ sym (taken_shown store.job grants q))
