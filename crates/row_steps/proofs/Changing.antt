-- A step that changes one copy where it lies, and brings no bytes.
use Rattle.std.proofs.Common.{◌≡◌, ℕ, Bool, true, false, cond, ◌⊎◌, inl, inr, List, [], take, Some, None, is_some, unwrap_or, refl, sym, ap, subst, ◌∙◌, T}
use Rattle.obj_id.specs.declared.ids.ObjectId.{ObjectId}
use Rattle.obj_id.specs.declared.works.Extent.{Extent}
use Rattle.obj_id.specs.Ids.{same_id}
use Rattle.store_facts.proofs.Ids.{same_id-equal}
use Rattle.private_store.specs.declared.inputs.Input.{Input}
use Rattle.private_store.specs.rules.Tables.{ById, at, with_entry, is_among}
use Rattle.private_store.specs.laws.Invariants.{has_grant}
use Rattle.private_store.specs.rules.Shape.{Copy, Change}
use Rattle.private_store.specs.rules.Copies.{extent_of}
use Rattle.private_store.specs.rules.Change.{keys_gone}
use Rattle.private_store.specs.rules.Contents.{Contents, judge, bytes_brought, digest_brought, brought, keeps_digest, no_digest}
use Rattle.store_facts.proofs.Filling.{filled}
use Rattle.store_facts.proofs.ErasedKeys.{keys_none, all_found}
use Rattle.store_facts.proofs.KeptLists.{all_weaker}
use Rattle.store_facts.proofs.Rows.{at-put}
use Rattle.store_facts.proofs.Tests.{some_value, true_T}
use Rattle.job_region.specs.Region.{region_bytes_at as placed_bytes}
use Rattle.lru_evictor.specs.Orders.{AreThere}
use Rattle.job_row.specs.Entries.{changed}
use Rattle.row_copy.specs.CopyViews.{CopyView}
use Rattle.job_row.specs.Row.{Row, copies_of}
use Rattle.row_steps.specs.Shown.{seen, work_on, IsShown}
use Rattle.job_row.proofs.ForCallers.{changed-found, copies-changed}
use Rattle.row_steps.proofs.Stepping.{same_bytes, digests_now, bytes_now}
use Rattle.row_steps.specs.Beside.{SharedTables}

-- ---- a table with one entry changed

module _ {X : Type 0} (f : X → X) (es : ById X) (id : ObjectId) where
  -- the entry of another id, or the changed one
  abbrev pub From : ObjectId → X → X → Type 0
  From q y x = ((same_id q id ≡ true) × (y ≡ f x)) ⊎ ((same_id q id ≡ false) × (y ≡ x))

  pub from_changed : (x : X) → at es id ≡ Some x → (q : ObjectId) (y : X) → at (changed f es id) q ≡ Some y → (z : X) × (at es q ≡ Some z) × From q y z
  from_changed x found q y e = by (same_id q id) refl (sym (at-put es id (f x) q) ∙ ap (λ t. at t q) (sym (changed-found f id es x found)) ∙ e)
    where
      by : (b : Bool) → same_id q id ≡ b → cond b (Some (f x)) (at es q) ≡ Some y → (z : X) × (at es q ≡ Some z) × From q y z
      by true t e = (x, ap (at es) (same_id-equal q id t) ∙ found, inl (t, sym (some_value (f x) y e)))
      by false t e = (y, e, inr (t, refl))

-- what is there stays there with an entry put
pub found_with : {X : Type 0} (es : ById X) (id : ObjectId) (x : X) (q : ObjectId) → is_some (at es q) ≡ true → is_some (at (with_entry es id x) q) ≡ true
found_with es id x q h = ap is_some (at-put es id x q) ∙ by (same_id q id)
  where
    by : (b : Bool) → is_some (cond b (Some x) (at es q)) ≡ true
    by true = refl
    by false = h

pub there_with : (es : ById Copy) (id : ObjectId) (copy : Copy) (order : List ObjectId) → AreThere es order → AreThere (with_entry es id copy) order
there_with es id copy order h = all_weaker (λ q. is_some (at es q)) (λ q. is_some (at (with_entry es id copy) q)) order (found_with es id copy) h

-- no key is erased where a copy is put
pub keys_with : (es : ById Copy) (id : ObjectId) (copy : Copy) → keys_gone es (with_entry es id copy) ≡ []
keys_with es id copy = keys_none es (with_entry es id copy) (subst T (sym (all_weaker (λ e. is_some (at es e.0)) (λ e. is_some (at (with_entry es id copy) e.0)) es (λ e. found_with es id copy e.0) (true_T _ (all_found es)))) tt)

-- ---- the step

module _ (node : ℕ) (row : Row) (beside : SharedTables) (contents : Contents) (h : IsShown row beside contents) (x : Input)
    (id : ObjectId) (k : CopyView) (found : at row.copies id ≡ Some k) (f : CopyView → CopyView)
    (keeps : (z : CopyView) → ((f z).copy.offset ≡ z.copy.offset) × ((f z).copy.length ≡ z.copy.length)) where
  copies_is : copies_of (changed f row.copies id) ≡ with_entry (copies_of row.copies) id (f k).copy
  copies_is = copies-changed f row.copies id k found

  pub there_still : (order : List ObjectId) → AreThere (copies_of row.copies) order → AreThere (copies_of (changed f row.copies id)) order
  there_still order h = subst (λ t. AreThere t order) (sym copies_is) (there_with (copies_of row.copies) id (f k).copy order h)

  one : (q : ObjectId) (y : CopyView) → at (changed f row.copies id) q ≡ Some y → (z : CopyView) × (at row.copies q ≡ Some z) × From f row.copies id q y z
  one = from_changed f row.copies id k found

  lies_still : (q : ObjectId) (y z : CopyView) → From f row.copies id q y z → (y.copy.offset ≡ z.copy.offset) × (y.copy.length ≡ z.copy.length)
  lies_still q y z (inl t) = (ap (λ y. y.copy.offset) t.1 ∙ (keeps z).0, ap (λ y. y.copy.length) t.1 ∙ (keeps z).1)
  lies_still q y z (inr t) = (ap (λ y. y.copy.offset) t.1, ap (λ y. y.copy.length) t.1)

  same_extent : (y z : CopyView) → y.copy.offset ≡ z.copy.offset → y.copy.length ≡ z.copy.length → extent_of y.copy ≡ extent_of z.copy
  same_extent y z o l = ap (λ p. extent_of (record y.copy { offset = p })) o ∙ ap (λ n. extent_of (record z.copy { length = n })) l

  -- where no bytes are brought
  pub bytes_stay : (c : Change) → bytes_brought (seen row beside contents) x (judge node (seen row beside contents) x) c.reply ≡ None
      → (q : ObjectId) (y : CopyView) (e : Extent) → at (changed f row.copies id) q ≡ Some y → extent_of y.copy ≡ Some e → filled (at (bytes_now node row beside contents h x c) q) y.copy ≡ take y.copy.length (placed_bytes e row.window.placed)
  bytes_stay c none q y e is lies =
      let z = one q y is in
      let same = lies_still q y z.0 z.2 in
      ap (λ b. filled (at (brought contents.bytes b) q) y.copy) none
      ∙ ap (λ n. filled (at contents.bytes q) (record z.0.copy { length = n })) same.1
      ∙ same_bytes node row beside contents h x q z.0 e z.1 (sym (same_extent y z.0 same.0 same.1) ∙ lies)
      ∙ ap (λ n. take n (placed_bytes e row.window.placed)) (sym same.1)

  -- where no digest is brought, and the change keeps it
  pub digests_stay : (c : Change) → digest_brought node (seen row beside contents) x c.reply ≡ None → ((f k).digest ≡ k.digest) → (keeps_digest (f k).copy ≡ true → keeps_digest k.copy ≡ true)
      → (q : ObjectId) (y : CopyView) → at (changed f row.copies id) q ≡ Some y → keeps_digest y.copy ≡ true → unwrap_or (at (digests_now node row beside contents h x c) q) no_digest ≡ unwrap_or y.digest no_digest
  digests_stay c none digest still q y is keep =
      ap (λ d. unwrap_or (at (brought contents.digests d) q) no_digest) none ∙ by (one q y is).0 (one q y is).1 (one q y is).2
    where
      by : (z : CopyView) → at row.copies q ≡ Some z → From f row.copies id q y z → unwrap_or (at contents.digests q) no_digest ≡ unwrap_or y.digest no_digest
      by z e (inr t) = h.digests q z e (ap (λ y. keeps_digest y.copy) (sym t.1) ∙ keep) ∙ ap (λ y. unwrap_or y.digest no_digest) (sym t.1)
      by z e (inl t) =
          let is : z ≡ k = some_value z k (sym e ∙ ap (at row.copies) (same_id-equal q id t.0) ∙ found) in
          let now : y ≡ f k = t.1 ∙ ap f is in
          h.digests q z e (ap (λ z. keeps_digest z.copy) is ∙ still (ap (λ y. keeps_digest y.copy) (sym now) ∙ keep))
          ∙ ap (λ z. unwrap_or z.digest no_digest) is ∙ ap (λ d. unwrap_or d no_digest) (sym digest) ∙ ap (λ y. unwrap_or y.digest no_digest) (sym now)

  -- where the works are the same
  pub works_stay : ((f k).working ≡ k.working) → (q : ObjectId) (y : CopyView) → at (changed f row.copies id) q ≡ Some y → y.working ≡ work_on beside.works q
  works_stay same q y is = by (one q y is).0 (one q y is).1 (one q y is).2
    where
      by : (z : CopyView) → at row.copies q ≡ Some z → From f row.copies id q y z → y.working ≡ work_on beside.works q
      by z e (inr t) = ap (λ y. y.working) t.1 ∙ h.working q z e
      by z e (inl t) =
          let is : z ≡ k = some_value z k (sym e ∙ ap (at row.copies) (same_id-equal q id t.0) ∙ found) in
          ap (λ y. y.working) (t.1 ∙ ap f is) ∙ same ∙ ap (λ z. z.working) (sym is) ∙ h.working q z e

  -- where the copy is granted or not, as before
  pub granted_stay : ((f k).granted ≡ k.granted) → (q : ObjectId) (y : CopyView) → at (changed f row.copies id) q ≡ Some y → y.granted ≡ has_grant beside.given q
  granted_stay same q y is = by (one q y is).0 (one q y is).1 (one q y is).2
    where
      by : (z : CopyView) → at row.copies q ≡ Some z → From f row.copies id q y z → y.granted ≡ has_grant beside.given q
      by z e (inr t) = ap (λ y. y.granted) t.1 ∙ h.granted q z e
      by z e (inl t) =
          let is : z ≡ k = some_value z k (sym e ∙ ap (at row.copies) (same_id-equal q id t.0) ∙ found) in
          ap (λ y. y.granted) (t.1 ∙ ap f is) ∙ same ∙ ap (λ z. z.granted) (sym is) ∙ h.granted q z e

  -- the same ids are in the order
  pub listed_stay : (order : List ObjectId) → ((q : ObjectId) (z : CopyView) → at row.copies q ≡ Some z → is_among order q ≡ true) → (q : ObjectId) (y : CopyView) → at (changed f row.copies id) q ≡ Some y → is_among order q ≡ true
  listed_stay order listed q y is = listed q (one q y is).0 (one q y is).1
