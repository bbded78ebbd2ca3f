-- What a row is shown beside counts by the job's works, what the job gave, and what it was granted with the bytes of it:
-- two that agree in these show the same.
use Rattle.std.proofs.Common.{◌≡◌, ℕ, ◌==◌, Bool, true, false, cond, ◌||◌, List, [], ◌∷◌, ◌++◌, length, filter, fold, Some, is_some, unwrap_or, refl, sym, ap, subst, ◌∙◌}
use Rattle.std.specs.List.{list_all, list_any}
use Rattle.std.specs.Option.{option_map_or}
use Rattle.obj_id.specs.declared.ids.ObjectId.{ObjectId}
use Rattle.obj_id.specs.Ids.{same_id}
use Rattle.store_facts.proofs.Ids.{same_id-itself}
use Rattle.private_store.specs.rules.Contents.{Contents, bytes_at}
use Rattle.private_store.specs.rules.Grants.{StandingGrant}
use Rattle.private_store.specs.laws.Invariants.{IsViewKept, has_grant}
use Rattle.private_store.specs.rules.Shape.{Seen}
use Rattle.private_store.specs.rules.Tables.{ById, at, with_entry}
use Rattle.store_facts.proofs.Rows.{at-put, put_rows}
use Rattle.store_facts.proofs.Tests.{some_value, none_some, both_left, both_right, or_left, or_right}
use Rattle.store_facts.proofs.KeptLists.{any-filter-only}
use Rattle.grants.specs.Private.{with_taken}
use Rattle.spill_work.specs.Line.{WorkLine, IsSameFor}
use Rattle.job_row.specs.Row.{Row}
use Rattle.row_steps.specs.Shown.{work_on, IsShown}
use Rattle.row_steps.proofs.ForCallers.{filled, filled_at, all_there}
use Rattle.row_steps.specs.Beside.{SharedTables, received_by, beside_of, received_bytes, shape_of}

pub record IsAlike (a b : SharedTables) : Type 0 where
  pub works : a.works ≡ b.works
  pub used : a.used ≡ b.used
  pub given : a.given ≡ b.given
  pub received : a.received ≡ b.received
  pub bytes : received_bytes a ≡ received_bytes b

module _ (a b : SharedTables) (same : IsAlike a b) where
  pub alike_shape : (row : Row) → shape_of row a ≡ shape_of row b
  alike_shape row = λ i. record (shape_of row a) { works = same.works i; works_asked = same.used i; given = same.given i; received = same.received i }

  pub alike_shown : (row : Row) (contents : Contents) → IsShown row a contents → IsShown row b contents
  alike_shown row contents h = record {
    kept = subst (λ s. IsViewKept (record { shape = s; order = row.order; contents = contents })) (alike_shape row) h.kept;
    there = h.there;
    listed = h.listed;
    bytes = h.bytes;
    digests = h.digests;
    working = λ id k found. h.working id k found ∙ ap (λ ws. work_on ws id) same.works;
    granted = λ id k found. h.granted id k found ∙ ap (λ grants. has_grant grants id) same.given;
    received = h.received ∙ same.bytes;
  }

-- ---- with other bytes

abbrev pub is_of : ObjectId → StandingGrant → Bool
is_of id grant = same_id id grant.id

-- what was granted is of the grants
found_of : (bytes : ObjectId → List ℕ) (hs : List StandingGrant) (table : ById Seen) (id : ObjectId) → is_some (at table id) ≡ false → is_some (at (fold (with_taken (λ id. length (bytes id))) table hs) id) ≡ true → list_any (is_of id) hs ≡ true
found_of bytes [] table id none there = sym none ∙ there
found_of bytes (h ∷ hs) table id none there = by (same_id id h.id) refl (found_of bytes hs (with_taken (λ id. length (bytes id)) table h) id)
  where
    more : Seen
    more = record {
      length = length (bytes h.id);
      grants = option_map_or (λ seen. seen.grants) (at table h.id) [] ++ record { grantor = h.grantor; depth = h.depth } ∷ [];
    }

    by : (b : Bool) → same_id id h.id ≡ b → (is_some (at (with_taken (λ id. length (bytes id)) table h) id) ≡ false → is_some (at (fold (with_taken (λ id. length (bytes id))) (with_taken (λ id. length (bytes id)) table h) hs) id) ≡ true → list_any (is_of id) hs ≡ true) → (b || list_any (is_of id) hs) ≡ true
    by true is rest = refl
    by false is rest = rest (ap is_some (at-put table h.id more id ∙ ap (λ b. cond b (Some more) (at table id)) is) ∙ none) there

module _ (a b : ObjectId → List ℕ) where
  same_fold : (hs : List StandingGrant) (table : ById Seen) → ((id : ObjectId) → list_any (is_of id) hs ≡ true → a id ≡ b id) → fold (with_taken (λ id. length (a id))) table hs ≡ fold (with_taken (λ id. length (b id))) table hs
  same_fold [] table agree = refl
  same_fold (h ∷ hs) table agree =
      ap (λ bs. fold (with_taken (λ id. length (a id))) (with_entry table h.id (record {
        length = length bs;
        grants = option_map_or (λ seen. seen.grants) (at table h.id) [] ++ record { grantor = h.grantor; depth = h.depth } ∷ [];
      })) hs) (agree h.id (or_left (same_id h.id h.id) (list_any (is_of h.id) hs) (same_id-itself h.id)))
      ∙ same_fold hs (with_taken (λ id. length (b id)) table h) (λ id later. agree id (or_right (same_id id h.id) (list_any (is_of id) hs) later))

  same_filled : (p : ObjectId → Bool) (table : ById Seen) → ((id : ObjectId) → p id ≡ true → a id ≡ b id) → list_all (λ e. p e.0) table ≡ true → filled a table ≡ filled b table
  same_filled p [] agree all = refl
  same_filled p (e ∷ table) agree all =
      λ i. (e.0, agree e.0 (both_left (p e.0) (list_all (λ e. p e.0) table) all) i) ∷ same_filled p table agree (both_right (p e.0) (list_all (λ e. p e.0) table) all) i

  -- where the objects of standing grants have the same bytes, and the line is the same to the job
  pub alike_bytes : (line after : WorkLine) (grants : List StandingGrant) (q : ℕ) → IsSameFor (record { 0 = q }) line after → ((id : ObjectId) → list_any (is_of id) grants ≡ true → a id ≡ b id) → IsAlike (beside_of line grants a q) (beside_of after grants b q)
  alike_bytes line after grants q same agree = record {
    works = sym same.works;
    used = sym same.used;
    given = refl;
    received = received;
    bytes = same_filled (λ id. is_some (at (received_by a grants q) id)) (received_by a grants q) agree_there (all_there (received_by a grants q)) ∙ ap (filled b) received;
  }
    where
      to_job : List StandingGrant
      to_job = filter (λ grant. grant.grantee == q) grants

      agree_to : (id : ObjectId) → list_any (is_of id) to_job ≡ true → a id ≡ b id
      agree_to id there = agree id (any-filter-only (is_of id) (λ grant. grant.grantee == q) grants there)

      received : received_by a grants q ≡ received_by b grants q
      received = same_fold to_job [] agree_to

      agree_there : (id : ObjectId) → is_some (at (received_by a grants q) id) ≡ true → a id ≡ b id
      agree_there id there = agree_to id (found_of a to_job [] id refl there)

-- ---- lengths

-- what was granted has the length of its bytes
length_of : (bytes : ObjectId → List ℕ) (hs : List StandingGrant) (table : ById Seen) → ((id : ObjectId) (x : Seen) → at table id ≡ Some x → length (bytes id) ≡ x.length) → (id : ObjectId) (x : Seen) → at (fold (with_taken (λ id. length (bytes id))) table hs) id ≡ Some x → length (bytes id) ≡ x.length
length_of bytes [] table before = before
length_of bytes (h ∷ hs) table before =
    let more : Seen = record {
      length = length (bytes h.id);
      grants = option_map_or (λ seen. seen.grants) (at table h.id) [] ++ record { grantor = h.grantor; depth = h.depth } ∷ [];
    } in
    length_of bytes hs (with_taken (λ id. length (bytes id)) table h) (put_rows (λ id o. (x : Seen) → o ≡ Some x → length (bytes id) ≡ x.length) table h.id more (λ x is. ap (λ (s : Seen). s.length) (some_value more x is)) (λ q other. before q))

pub granted_length : (bytes : ObjectId → List ℕ) (grants : List StandingGrant) (q : ℕ) (id : ObjectId) (x : Seen) → at (received_by bytes grants q) id ≡ Some x → length (bytes_at (filled bytes (received_by bytes grants q)) id) ≡ x.length
granted_length bytes grants q id x found =
    ap (λ o. length (unwrap_or o [])) (filled_at bytes (received_by bytes grants q) id (ap is_some found))
    ∙ length_of bytes (filter (λ grant. grant.grantee == q) grants) [] (λ id x none. none_some x none) id x found
