-- What each turn does to the contents of one copy: where nothing is brought for it, it keeps its bytes and
-- its digest, has zeros, or is neither resident nor sealed.
use Rattle.std.proofs.Common.{◌≡◌, ℕ, ◌+◌, ◌-◌, ◌≤◌, Bool, true, false, inl, inr, List, [], length, replicate, min, Option, Some, None, is_some, unwrap_or, refl, sym, ap, subst, ◌∙◌, arith}
use Rattle.std.proofs.lemmas.List.{length-append, length-take, length-drop, length-replicate}
use Rattle.obj_id.specs.declared.ids.ObjectId.{ObjectId}
use Rattle.obj_id.specs.declared.commands.CopyState.{CopyState}
use Rattle.obj_id.specs.declared.commands.CopyState.TheVariants.{Created, Sealed, Restoring, Fetching, Away}
use Rattle.obj_id.specs.Ids.{same_id}
use Rattle.private_store.specs.rules.Tables.{ById, at}
use Rattle.private_store.specs.rules.Shape.{Copy, Shape, Change, Seen}
use Rattle.private_store.specs.rules.Copies.{is_sealed}
use Rattle.private_store.specs.rules.Contents.{Contents, bytes_at, digest_of, overwritten}
use Rattle.private_store.specs.laws.Invariants.{IsShapeKept, AreContentsKept, has_extent}
use Rattle.store_facts.proofs.Tests.{true_false, some_value, none_some}
use Rattle.store_facts.proofs.Rows.{Tame, SeenRow, seen_stays}
use Rattle.store_facts.proofs.Turns.{resident, Stands, nowhere, fresh, same, Turn, calm, spills, puts, requotas, empties, receives, IsTurn}
use Rattle.store_facts.proofs.Filling.{filled, IsFilled}
use Rattle.store_facts.proofs.Ids.{same_id-equal}

-- ---- what a turn does to one row

pub data RowTurn (s : ObjectId → Bool) (store : Shape) (id : ObjectId) (d : Copy) : Type 0 where
  steady : (c : Copy) → at store.copies id ≡ Some c → d.length ≡ c.length → d.offset ≡ c.offset → (s id ≡ false → d.state ≡ c.state) → RowTurn s store id d
  bare : d.offset ≡ None → is_sealed d.state ≡ false → RowTurn s store id d
  begun : is_sealed d.state ≡ false → resident (at store.copies id) ≡ false → RowTurn s store id d

module _ (s : ObjectId → Bool) (store : Shape) where
  tame_turns : (id : ObjectId) (d : Copy) (o : Option Copy) → at store.copies id ≡ o → Tame o (Some d) → RowTurn s store id d
  tame_turns id d None e h = absurd h
  tame_turns id d (Some c) e h =
      elim h.stands [ inl kept ↦ steady c e h.length kept.0 (λ _. kept.1) | inr gone ↦ bare gone.0 gone.1 ]

  same_turns : (copies : ById Copy) → copies ≡ store.copies → (id : ObjectId) (d : Copy) → at copies id ≡ Some d → RowTurn s store id d
  same_turns copies is id d e = steady d (ap (λ t. at t id) (sym is) ∙ e) refl refl (λ _. refl)

  stand_turns : (copies : ById Copy) (id : ObjectId) (d : Copy) → Stands s store copies id d → RowTurn s store id d
  stand_turns copies id d (nowhere none unsealed) = bare none unsealed
  stand_turns copies id d (fresh offset place unsealed absent is_in clear) = begun unsealed absent
  stand_turns copies id d (same c e length offset state) = steady c e length offset state

  put_turns : (copies : ById Copy) (id : ObjectId) (d : Copy) → at copies id ≡ Some d → RowTurn s store id d → ((q : ObjectId) → same_id q id ≡ false → Tame (at store.copies q) (at copies q)) → (q : ObjectId) (c : Copy) → at copies q ≡ Some c → RowTurn s store q c
  put_turns copies id d here turned others q c e =
      elim (same_id q id) as (λ b. same_id q id ≡ b → RowTurn s store q c) [
        | true ↦ λ t.
            let is : q ≡ id = same_id-equal q id t in
            let row : d ≡ c = some_value d c (sym here ∙ ap (at copies) (sym is) ∙ e) in
            subst (λ x. RowTurn s store x c) (sym is) (subst (RowTurn s store id) row turned)
        | false ↦ λ f. tame_turns q c (at store.copies q) refl (subst (Tame (at store.copies q)) e (others q f))
      ] refl

  pub row_turns : (c : Change) → IsTurn s store c → (id : ObjectId) (d : Copy) → at c.shape.copies id ≡ Some d → RowTurn s store id d
  row_turns c k id d e = by_turn k.is
    where
      by_turn : Turn s store c.shape.copies c.shape.works c.shape.quota c.shape.received → RowTurn s store id d
      by_turn (calm q) = tame_turns id d (at store.copies id) refl (subst (Tame (at store.copies id)) e (q.row id))
      by_turn (spills p) = same_turns c.shape.copies p.copies id d e
      by_turn (puts q x p) = put_turns c.shape.copies q x p.here (stand_turns c.shape.copies q x p.stands) p.others id d e
      by_turn (requotas is w r fit) = same_turns c.shape.copies is id d e
      by_turn (empties is r) = none_some d (ap (λ t. at t id) (sym is) ∙ e)
      by_turn (receives t is w q) = same_turns c.shape.copies is id d e

  -- where s leaves a copy out, the step brings nothing that another job granted
  pub seen_turns : (c : Change) → IsTurn s store c → ((id : ObjectId) → (other : ObjectId) × (s other ≡ false)) → (id : ObjectId) → SeenRow (at store.received id) (at c.shape.received id)
  seen_turns c k left id = by_turn k.is
    where
      stays : c.shape.received ≡ store.received → SeenRow (at store.received id) (at c.shape.received id)
      stays is = subst (λ t. SeenRow (at store.received id) (at t id)) (sym is) (seen_stays (at store.received id))

      by_turn : Turn s store c.shape.copies c.shape.works c.shape.quota c.shape.received → SeenRow (at store.received id) (at c.shape.received id)
      by_turn (calm q) = q.seen id
      by_turn (spills p) = stays p.received
      by_turn (puts q x p) = p.seen id
      by_turn (requotas is w r fit) = stays r
      by_turn (empties is r) = stays r
      by_turn (receives t is w q) = true_false (sym (left id).1 ∙ t (left id).0)

-- ---- lists of bytes

-- zeros in the place of bytes that there are none of
pub default_same : (o : Option (List ℕ)) (n : ℕ) → length (unwrap_or o []) ≡ n → unwrap_or o (replicate n 0) ≡ unwrap_or o []
default_same (Some x) n e = refl
default_same None n e = ap (λ m. replicate m 0) (sym e)

pub length-overwritten : (bytes : List ℕ) (offset : ℕ) (new : List ℕ) → offset + length new ≤ length bytes → length (overwritten bytes offset new) ≡ length bytes
length-overwritten bytes offset new h = simp (length-append, length-take, length-drop) (sums offset (length new) (length bytes) h)
  where
    sums : (o n m : ℕ) → o + n ≤ m → min o m + n + (m - (o + n)) ≡ m
    sums o n m h = omega arith

-- ---- what is kept of one row

module _ (store : Shape) (contents : Contents) (sh : IsShapeKept store) (h : AreContentsKept store contents) where
  sealed_resides : (id : ObjectId) (c : Copy) → at store.copies id ≡ Some c → is_sealed c.state ≡ true → is_some c.offset ≡ true
  sealed_resides id c e s = (sh.each id c e).resident ∙ by_state c.state s
    where
      by_state : (state : CopyState) → is_sealed state ≡ true → has_extent state c.fetch ≡ true
      by_state Created s = refl
      by_state Sealed s = refl
      by_state Restoring s = refl
      by_state Fetching s = true_false s
      by_state Away s = true_false s

  pub steady_bytes : (id : ObjectId) (c d : Copy) → at store.copies id ≡ Some c → d.length ≡ c.length → is_some c.offset ≡ true → filled (at contents.bytes id) d ≡ bytes_at contents.bytes id
  steady_bytes id c d e length r = default_same (at contents.bytes id) d.length ((h.each id c e).bytes r ∙ sym length)

  -- a row for which nothing is brought
  pub plain_filled : (s : ObjectId → Bool) (id : ObjectId) (d : Copy) → s id ≡ false → RowTurn s store id d → IsFilled (at contents.bytes id) (at contents.digests id) d
  plain_filled s id d f (steady c e len offset state) =
      let k = h.each id c e in
      record {
        long = λ r. let stood : is_some c.offset ≡ true = ap is_some (sym offset) ∙ r in ap length (steady_bytes id c d e len stood) ∙ k.bytes stood ∙ sym len;
        stands = λ t. ap is_some offset ∙ sealed_resides id c e (ap is_sealed (sym (state f)) ∙ t);
        right = λ t. let was : is_sealed c.state ≡ true = ap is_sealed (sym (state f)) ∙ t in k.sealed was ∙ ap digest_of (sym (steady_bytes id c d e len (sealed_resides id c e was)));
      }
  plain_filled s id d f (bare none unsealed) = record {
    long = λ r. true_false (sym (ap is_some none) ∙ r);
    stands = λ t. true_false (sym unsealed ∙ t);
    right = λ t. true_false (sym unsealed ∙ t);
  }
  plain_filled s id d f (begun unsealed absent) = record {
    long = λ _. by_bytes (at contents.bytes id) (h.resident id);
    stands = λ t. true_false (sym unsealed ∙ t);
    right = λ t. true_false (sym unsealed ∙ t);
  }
    where
      by_bytes : (o : Option (List ℕ)) → (is_some o ≡ true → resident (at store.copies id) ≡ true) → length (filled o d) ≡ d.length
      by_bytes None k = length-replicate d.length 0
      by_bytes (Some bytes) k = true_false (sym absent ∙ k refl)

  pub plain_seen : (o : Option Seen) (id : ObjectId) (seen : Seen) → SeenRow (at store.received id) o → o ≡ Some seen → length (bytes_at contents.received id) ≡ seen.length
  plain_seen o id seen r e = by_row (at store.received id) refl (subst (SeenRow (at store.received id)) e r)
    where
      by_row : (p : Option Seen) → at store.received id ≡ p → SeenRow p (Some seen) → length (bytes_at contents.received id) ≡ seen.length
      by_row None e r = absurd r
      by_row (Some was) e r = h.received id was e ∙ sym r
