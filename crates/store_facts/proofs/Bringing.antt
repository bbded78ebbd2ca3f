-- What a change does to the contents of a job's store, by what it brings: nothing, or bytes or a digest of
-- one copy.
use Rattle.std.proofs.Common.{◌≡◌, ℕ, Bool, true, false, cond, List, length, Some, is_some, refl, sym, ap, subst, ◌∙◌, T}
use Rattle.std.specs.FinMap.{is_sorted}
use Rattle.obj_id.specs.declared.ids.ObjectId.{ObjectId}
use Rattle.obj_id.specs.declared.messages.Digest.{Digest}
use Rattle.obj_id.specs.Ids.{id_cmp, same_id}
use Rattle.private_store.specs.rules.Tables.{ById, at, with_entry}
use Rattle.private_store.specs.rules.Shape.{Copy, Change, Seen}
use Rattle.private_store.specs.rules.Copies.{is_sealed}
use Rattle.private_store.specs.rules.Contents.{View, bytes_at, digest_at, digest_of}
use Rattle.private_store.specs.laws.Invariants.{IsShapeKept, AreContentsKept}
use Rattle.store_facts.proofs.Tests.{true_false, some_value}
use Rattle.store_facts.proofs.Rows.{at-put, at-put_here, SeenRow}
use Rattle.store_facts.proofs.Turns.{resident, IsTurn}
use Rattle.store_facts.proofs.Filling.{IsFilled, refilled, refilled_kept}
use Rattle.store_facts.proofs.RowContents.{RowTurn, steady, bare, begun, row_turns, seen_turns, plain_filled, plain_seen}
use Rattle.store_facts.proofs.Ids.{same_id-equal}

-- no copy may be sealed
abbrev pub nothing : ObjectId → Bool
nothing id = false

module _ (view : View) (sh : IsShapeKept view.shape) (h : AreContentsKept view.shape view.contents) where
  abbrev pub B : ById (List ℕ)
  B = view.contents.bytes

  abbrev pub D : ById Digest
  D = view.contents.digests

  abbrev pub R : ById (List ℕ)
  R = view.contents.received

  seen_filled : (c : Change) → ((id : ObjectId) → SeenRow (at view.shape.received id) (at c.shape.received id)) → (id : ObjectId) (seen : Seen) → at c.shape.received id ≡ Some seen → length (bytes_at R id) ≡ seen.length
  seen_filled c rows id seen e = plain_seen view.shape view.contents sh h (at c.shape.received id) id seen (rows id) e

  -- nothing
  pub brings_none : (c : Change) → IsTurn nothing view.shape c → (sorted : T (is_sorted id_cmp c.shape.copies)) → AreContentsKept c.shape (refilled c.shape B D R sorted)
  brings_none c k sorted =
      refilled_kept c.shape B D R sorted
      (λ id d e. plain_filled view.shape view.contents sh h nothing id d refl (row_turns nothing view.shape c k id d e))
      (seen_filled c (seen_turns nothing view.shape c k (λ id. (id, refl))))

  -- bytes or a digest for one copy
  brings_one : (s : ObjectId → Bool) (id : ObjectId) (B' : ById (List ℕ)) (D' : ById Digest)
      → ((q : ObjectId) → same_id q id ≡ false → (s q ≡ false) × (at B' q ≡ at B q) × (at D' q ≡ at D q))
      → ((id : ObjectId) → (other : ObjectId) × (s other ≡ false)) → (c : Change) → IsTurn s view.shape c → (sorted : T (is_sorted id_cmp c.shape.copies))
      → ((d : Copy) → RowTurn s view.shape id d → IsFilled (at B' id) (at D' id) d)
      → AreContentsKept c.shape (refilled c.shape B' D' R sorted)
  brings_one s id B' D' rest left c k sorted here =
      refilled_kept c.shape B' D' R sorted rows (seen_filled c (seen_turns s view.shape c k left))
    where
      rows : (q : ObjectId) (d : Copy) → at c.shape.copies q ≡ Some d → IsFilled (at B' q) (at D' q) d
      rows q d e =
          elim (same_id q id) as (λ b. same_id q id ≡ b → IsFilled (at B' q) (at D' q) d) [
            | true ↦ λ t.
                let is : q ≡ id = same_id-equal q id t in
                subst (λ x. IsFilled (at B' x) (at D' x) d) (sym is) (here d (row_turns s view.shape c k id d (ap (at c.shape.copies) (sym is) ∙ e)))
            | false ↦ λ f.
                let same = rest q f in
                let plain = plain_filled view.shape view.contents sh h s q d same.0 (row_turns s view.shape c k q d e) in
                subst (λ o. IsFilled o (at D' q) d) (sym same.1) (subst (λ o. IsFilled (at B q) o d) (sym same.2) plain)
          ] refl

  put_elsewhere : {X : Type 0} (table : ById X) (id : ObjectId) (x : X) (q : ObjectId) → same_id q id ≡ false → at (with_entry table id x) q ≡ at table q
  put_elsewhere table id x q f = at-put table id x q ∙ ap (λ b. cond b (Some x) (at table q)) f

  -- bytes of a copy, which the step may seal if s says so
  pub brings_bytes : (s : ObjectId → Bool) (id : ObjectId) (bytes : List ℕ) → ((q : ObjectId) → same_id q id ≡ false → s q ≡ false) → ((id : ObjectId) → (other : ObjectId) × (s other ≡ false))
      → (c : Change) → IsTurn s view.shape c → (sorted : T (is_sorted id_cmp c.shape.copies))
      → ((d : Copy) → RowTurn s view.shape id d → IsFilled (Some bytes) (at D id) d)
      → AreContentsKept c.shape (refilled c.shape (with_entry B id bytes) D R sorted)
  brings_bytes s id bytes out left c k sorted here =
      brings_one s id (with_entry B id bytes) D (λ q f. (out q f, put_elsewhere B id bytes q f, refl)) left c k sorted
      (λ d turn. subst (λ o. IsFilled o (at D id) d) (sym (at-put_here B id bytes)) (here d turn))

  pub brings_digest : (s : ObjectId → Bool) (id : ObjectId) (digest : Digest) → ((q : ObjectId) → same_id q id ≡ false → s q ≡ false) → ((id : ObjectId) → (other : ObjectId) × (s other ≡ false))
      → (c : Change) → IsTurn s view.shape c → (sorted : T (is_sorted id_cmp c.shape.copies))
      → ((d : Copy) → RowTurn s view.shape id d → IsFilled (at B id) (Some digest) d)
      → AreContentsKept c.shape (refilled c.shape B (with_entry D id digest) R sorted)
  brings_digest s id digest out left c k sorted here =
      brings_one s id B (with_entry D id digest) (λ q f. (out q f, refl, put_elsewhere D id digest q f)) left c k sorted
      (λ d turn. subst (λ o. IsFilled (at B id) o d) (sym (at-put_here D id digest)) (here d turn))

  -- bytes of the right length for a copy that stays unsealed
  pub unsealed_filled : (id : ObjectId) (bytes : List ℕ) (c d : Copy) → at view.shape.copies id ≡ Some c → is_some c.offset ≡ true → is_sealed c.state ≡ false → length bytes ≡ c.length → RowTurn nothing view.shape id d → IsFilled (Some bytes) (at D id) d
  unsealed_filled id bytes c d e stands unsealed long (steady b is len offset state) =
      let row : b ≡ c = some_value b c (sym is ∙ e) in
      let sealed : is_sealed d.state ≡ false = ap is_sealed (state refl) ∙ ap (λ x. is_sealed x.state) row ∙ unsealed in
      record {
        long = λ _. long ∙ sym (ap (λ x. x.length) row) ∙ sym len;
        stands = λ t. true_false (sym sealed ∙ t);
        right = λ t. true_false (sym sealed ∙ t);
      }
  unsealed_filled id bytes c d e stands unsealed long (bare none sealed) = record {
    long = λ r. true_false (sym (ap is_some none) ∙ r);
    stands = λ t. true_false (sym sealed ∙ t);
    right = λ t. true_false (sym sealed ∙ t);
  }
  unsealed_filled id bytes c d e stands unsealed long (begun sealed absent) = true_false (sym absent ∙ ap resident e ∙ stands)

  -- bytes with the copy's length and digest, where it may be sealed
  pub sealed_filled : (s : ObjectId → Bool) (id : ObjectId) (bytes : List ℕ) (c d : Copy) → at view.shape.copies id ≡ Some c → is_some c.offset ≡ true → length bytes ≡ c.length → digest_at D id ≡ digest_of bytes → RowTurn s view.shape id d → IsFilled (Some bytes) (at D id) d
  sealed_filled s id bytes c d e stands long right (steady b is len offset state) =
      let row : b ≡ c = some_value b c (sym is ∙ e) in
      record {
        long = λ _. long ∙ sym (ap (λ x. x.length) row) ∙ sym len;
        stands = λ t. ap is_some offset ∙ ap (λ x. is_some x.offset) row ∙ stands;
        right = λ t. right;
      }
  sealed_filled s id bytes c d e stands long right (bare none sealed) = record {
    long = λ r. true_false (sym (ap is_some none) ∙ r);
    stands = λ t. true_false (sym sealed ∙ t);
    right = λ t. true_false (sym sealed ∙ t);
  }
  sealed_filled s id bytes c d e stands long right (begun sealed absent) = true_false (sym absent ∙ ap resident e ∙ stands)

  -- a digest for a copy that stays unsealed
  pub digest_filled : (id : ObjectId) (digest : Digest) (c d : Copy) → at view.shape.copies id ≡ Some c → is_sealed c.state ≡ false → RowTurn nothing view.shape id d → IsFilled (at B id) (Some digest) d
  digest_filled id digest c d e unsealed turn =
      let k = plain_filled view.shape view.contents sh h nothing id d refl turn in
      let sealed : is_sealed d.state ≡ false = by_turn turn in
      record { long = k.long; stands = k.stands; right = λ t. true_false (sym sealed ∙ t) }
    where
      by_turn : RowTurn nothing view.shape id d → is_sealed d.state ≡ false
      by_turn (steady b is len offset state) = ap is_sealed (state refl) ∙ ap (λ x. is_sealed x.state) (some_value b c (sym is ∙ e)) ∙ unsealed
      by_turn (bare none sealed) = sealed
      by_turn (begun sealed absent) = sealed
