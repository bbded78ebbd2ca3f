-- The contents after a step, look-up by look-up, and what of each row makes them the copies' own.
use Rattle.std.proofs.Common.{◌≡◌, ℕ, Bool, true, false, cond, List, [], ◌∷◌, map, filter, length, replicate, Option, Some, None, is_some, unwrap_or, refl, sym, ap, ◌∙◌, T}
use Rattle.std.specs.Option.{option_map_or}
use Rattle.std.specs.Ordering.{is_eq, is_lt}
use Rattle.std.specs.declared.cmp.Ordering.{Ordering}
use Rattle.std.specs.declared.cmp.Ordering.TheVariants.{Less, Equal, Greater}
use Rattle.std.specs.FinMap.{is_sorted}
use Rattle.std.specs.FinMap.Entries.{below_all}
use Rattle.obj_id.specs.declared.ids.ObjectId.{ObjectId}
use Rattle.obj_id.specs.declared.commands.CopyState.{CopyState}
use Rattle.obj_id.specs.declared.commands.CopyState.TheVariants.{Created, Sealed, Restoring, Fetching, Away}
use Rattle.obj_id.specs.declared.messages.Digest.{Digest}
use Rattle.obj_id.specs.Ids.{id_cmp, same_id}
use Rattle.private_store.specs.rules.Tables.{ById, at}
use Rattle.private_store.specs.rules.Shape.{Copy, Shape, Seen}
use Rattle.private_store.specs.rules.Copies.{is_sealed, was_sealed}
use Rattle.private_store.specs.rules.Contents.{Contents, bytes_at, digest_of, no_digest, kept, keeps_digest, is_sized}
use Rattle.private_store.specs.laws.Invariants.{IsContentKept, AreContentsKept}
use Rattle.store_facts.proofs.Tests.{and_left, and_right}
use Rattle.store_facts.proofs.Turns.{resident}
use Rattle.store_facts.proofs.Ids.{same_id-equal}

-- ---- look-ups in what is kept

less_apart : (r : Ordering) → T (is_lt r) → is_eq r ≡ false
less_apart Less h = refl
less_apart Equal h = absurd h
less_apart Greater h = absurd h

-- what is below all keys isn't among them
pub below_none : {X : Type 0} (q : ObjectId) (es : ById X) → T (below_all id_cmp q es) → at es q ≡ None
below_none q [] h = refl
below_none q (e ∷ es) h =
    ap (λ b. cond b (Some e.1) (at es q)) (less_apart (id_cmp q e.0) (and_left _ _ h)) ∙ below_none q es (and_right (is_lt (id_cmp q e.0)) _ h)

module _ {X : Type 0} {Y : Type 0} (test : X → Bool) (default : X → Y) (table : ById Y) where
  abbrev pub kept_row : ObjectId → Option X → Option Y
  kept_row q None = None
  kept_row q (Some x) = cond (test x) (Some (unwrap_or (at table q) (default x))) None

  pub at-kept : (es : ById X) → T (is_sorted id_cmp es) → (q : ObjectId) → at (kept test default table es) q ≡ kept_row q (at es q)
  at-kept [] h q = refl
  at-kept (e ∷ es) h q =
      let rest = at-kept es (and_right (below_all id_cmp e.0 es) _ h) q in
      let f = filter (λ e. test e.1) es in
      let g : ObjectId × X → ObjectId × Y = λ e. (e.0, unwrap_or (at table e.0) (default e.1)) in
      elim (same_id q e.0) as (λ b. same_id q e.0 ≡ b → at (map g (cond (test e.1) (e ∷ f) f)) q ≡ kept_row q (cond b (Some e.1) (at es q))) [
        | true ↦ λ t. elim (test e.1) as (λ c. at (map g (cond c (e ∷ f) f)) q ≡ cond c (Some (unwrap_or (at table q) (default e.1))) None) [
          | true ↦ ap (λ b. cond b (Some (unwrap_or (at table e.0) (default e.1))) (at (map g f) q)) t ∙ ap (λ x. Some (unwrap_or (at table x) (default e.1))) (sym (same_id-equal q e.0 t))
          | false ↦ rest ∙ ap (kept_row q) (ap (at es) (same_id-equal q e.0 t) ∙ below_none e.0 es (and_left _ _ h))
        ]
        | false ↦ λ t. elim (test e.1) as (λ c. at (map g (cond c (e ∷ f) f)) q ≡ kept_row q (at es q)) [
          | true ↦ ap (λ b. cond b (Some (unwrap_or (at table e.0) (default e.1))) (at (map g f) q)) t ∙ rest
          | false ↦ rest
        ]
      ] refl

-- where all rows are kept, in whatever order they stand
module _ {X : Type 0} {Y : Type 0} (default : X → Y) (table : ById Y) where
  abbrev all_row : ObjectId → Option X → Option Y
  all_row q None = None
  all_row q (Some x) = Some (unwrap_or (at table q) (default x))

  at-all : (es : ById X) (q : ObjectId) → at (kept (λ x. true) default table es) q ≡ all_row q (at es q)
  at-all [] q = refl
  at-all (e ∷ es) q =
      elim (same_id q e.0) as (λ b. same_id q e.0 ≡ b → cond b (Some (unwrap_or (at table e.0) (default e.1))) (at (kept (λ x. true) default table es) q) ≡ all_row q (cond b (Some e.1) (at es q))) [
        | true ↦ λ t. ap (λ x. Some (unwrap_or (at table x) (default e.1))) (sym (same_id-equal q e.0 t))
        | false ↦ λ t. at-all es q
      ] refl

-- ---- one row

-- the bytes that the table has for a copy, or zeros
abbrev pub filled : Option (List ℕ) → Copy → List ℕ
filled o copy = unwrap_or o (replicate copy.length 0)

pub record IsFilled (bytes : Option (List ℕ)) (digest : Option Digest) (copy : Copy) : Type 0 where
  pub long : is_some copy.offset ≡ true → length (filled bytes copy) ≡ copy.length
  pub stands : is_sealed copy.state ≡ true → is_some copy.offset ≡ true
  pub right : is_sealed copy.state ≡ true → unwrap_or digest no_digest ≡ digest_of (filled bytes copy)

abbrev pub zeros : Copy → List ℕ
zeros copy = replicate copy.length 0

abbrev pub resides : Copy → Bool
resides copy = is_some copy.offset

module _ (after : Shape) (bytes : ById (List ℕ)) (digests : ById Digest) (received : ById (List ℕ)) (sorted : T (is_sorted id_cmp after.copies)) where
  abbrev pub refilled : Contents
  refilled = record {
    bytes = kept resides zeros bytes after.copies;
    digests = kept keeps_digest (λ copy. no_digest) digests after.copies;
    received = kept (λ seen. true) (λ seen. []) received after.received;
  }

  bytes_there : (id : ObjectId) (copy : Copy) → at after.copies id ≡ Some copy → is_some copy.offset ≡ true → at refilled.bytes id ≡ Some (filled (at bytes id) copy)
  bytes_there id copy e s = at-kept resides zeros bytes after.copies sorted id ∙ ap (kept_row resides zeros bytes id) e ∙ ap (λ b. cond b (Some (filled (at bytes id) copy)) None) s

  pub digest_there : (id : ObjectId) (copy : Copy) → at after.copies id ≡ Some copy → keeps_digest copy ≡ true → at refilled.digests id ≡ Some (unwrap_or (at digests id) no_digest)
  digest_there id copy e s = at-kept keeps_digest (λ copy. no_digest) digests after.copies sorted id ∙ ap (kept_row keeps_digest (λ copy. no_digest) digests id) e ∙ ap (λ b. cond b (Some (unwrap_or (at digests id) no_digest)) None) s

  pub sealed_keeps : (copy : Copy) → is_sealed copy.state ≡ true → keeps_digest copy ≡ true
  sealed_keeps copy e = ap (λ b. cond b true (option_map_or (λ fetch. is_sized fetch.phase) copy.fetch false)) (was copy.state e)
    where
      was : (state : CopyState) → is_sealed state ≡ true → was_sealed state ≡ true
      was Created e = e
      was Sealed e = refl
      was Restoring e = refl
      was Fetching e = e
      was Away e = refl

  one_filled : (id : ObjectId) (copy : Copy) → at after.copies id ≡ Some copy → IsFilled (at bytes id) (at digests id) copy → IsContentKept refilled id copy
  one_filled id copy e h = record {
    bytes = λ s. ap (λ o. length (unwrap_or o [])) (bytes_there id copy e s) ∙ h.long s;
    digest = λ k. ap is_some (digest_there id copy e k);
    sealed = λ s. ap (λ o. unwrap_or o no_digest) (digest_there id copy e (sealed_keeps copy s)) ∙ h.right s ∙ ap digest_of (sym (ap (λ o. unwrap_or o []) (bytes_there id copy e (h.stands s))));
  }

  only_resident : (id : ObjectId) → is_some (at refilled.bytes id) ≡ true → resident (at after.copies id) ≡ true
  only_resident id s = by_row (at after.copies id) (sym (ap is_some (at-kept resides zeros bytes after.copies sorted id)) ∙ s)
    where
      by_row : (o : Option Copy) → is_some (kept_row resides zeros bytes id o) ≡ true → resident o ≡ true
      by_row None s = s
      by_row (Some copy) s = elim (resides copy) as (λ b. is_some (cond b (Some (filled (at bytes id) copy)) None) ≡ true → b ≡ true) [ true ↦ λ _. refl | false ↦ λ s. s ] s

  pub refilled_kept : ((id : ObjectId) (copy : Copy) → at after.copies id ≡ Some copy → IsFilled (at bytes id) (at digests id) copy)
      → ((id : ObjectId) (seen : Seen) → at after.received id ≡ Some seen → length (bytes_at received id) ≡ seen.length)
      → AreContentsKept after refilled
  refilled_kept rows seen = record {
    each = λ id copy e. one_filled id copy e (rows id copy e);
    resident = only_resident;
    received = λ id s e. ap (λ o. length (unwrap_or o [])) (at-all (λ seen. []) received after.received id ∙ ap (all_row (λ seen. []) received id) e) ∙ seen id s e;
  }
