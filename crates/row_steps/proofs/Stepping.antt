-- A row takes a step: what has to be shown of it, and what is so of a step that brings and changes nothing.
use Rattle.std.proofs.Common.{◌≡◌, ℕ, true, cond, List, [], flat_map, map, take, length, replicate, Option, Some, None, is_some, unwrap_or, refl, sym, ap, subst, ◌∙◌, T}
use Rattle.std.specs.FinMap.{is_sorted}
use Rattle.obj_id.specs.declared.ids.ObjectId.{ObjectId}
use Rattle.obj_id.specs.declared.works.Extent.{Extent}
use Rattle.obj_id.specs.declared.messages.Digest.{Digest}
use Rattle.obj_id.specs.declared.commands.Reply.{Reply}
use Rattle.obj_id.specs.Ids.{id_cmp}
use Rattle.private_store.specs.declared.inputs.Input.{Input}
use Rattle.private_store.specs.rules.Tables.{ById, at, is_among}
use Rattle.private_store.specs.rules.Shape.{Copy, Seen, Change, Sending}
use Rattle.private_store.specs.rules.Copies.{extent_of}
use Rattle.private_store.specs.rules.Change.{replied, erasing}
use Rattle.private_store.specs.rules.Step.{step, reordered}
use Rattle.private_store.specs.rules.Contents.{Contents, View, judge, bytes_at, keeps_digest, no_digest, bytes_brought, digest_brought, bytes_received, brought, kept, whole_reply}
use Rattle.private_store.specs.rules.Private.{Post, posts_of, key_of, view_step, view_after}
use Rattle.private_store.specs.laws.Invariants.{IsViewKept, has_grant}
use Rattle.store_facts.proofs.Filling.{at-kept, kept_row, filled}
use Rattle.store_facts.proofs.RowContents.{default_same}
use Rattle.store_facts.proofs.ErasedKeys.{keys_none, all_found}
use Rattle.store_facts.proofs.StepsKept.{view_keeps}
use Rattle.job_region.specs.Region.{region_bytes_at as placed_bytes}
use Rattle.lru_evictor.specs.Orders.{AreThere}
use Rattle.lru_evictor.proofs.ForCallers.{reordered-unused}
use Rattle.row_copy.specs.CopyViews.{CopyView}
use Rattle.job_row.specs.Row.{Row, copies_of}
use Rattle.row_steps.specs.Shown.{seen, work_on, IsShown, RowGiven, only, RowStep}
use Rattle.job_row.proofs.ForCallers.{at-copies_found}
use Rattle.row_steps.proofs.Received.{kept_as_they_are}
use Rattle.row_steps.specs.Beside.{SharedTables, received_bytes, shape_of}

module _ (node : ℕ) (row : Row) (beside : SharedTables) (contents : Contents) (h : IsShown row beside contents) (x : Input) where
  abbrev pub before : View
  before = seen row beside contents

  abbrev pub change : Change
  change = step row.order (shape_of row beside) (judge node before x)

  -- the tables of bytes and digests with what the input brings
  abbrev pub bytes_now : Change → ById (List ℕ)
  bytes_now c = brought contents.bytes (bytes_brought before x (judge node before x) c.reply)

  abbrev pub digests_now : Change → ById Digest
  digests_now c = brought contents.digests (digest_brought node before x c.reply)

  -- what has to be shown of the row after a step whose change this is
  pub record TakesChange (c : Change) (response : RowGiven) (new : Row) (after : SharedTables) : Type 0 where
    pub shape : c.shape ≡ shape_of new after
    pub order : reordered row.order (copies_of new.copies) c.used ≡ new.order
    pub there : AreThere (copies_of new.copies) new.order
    pub listed : (id : ObjectId) (k : CopyView) → at new.copies id ≡ Some k → is_among new.order id ≡ true
    pub bytes : (id : ObjectId) (k : CopyView) (e : Extent) → at new.copies id ≡ Some k → extent_of k.copy ≡ Some e → filled (at (bytes_now c) id) k.copy ≡ take k.copy.length (placed_bytes e new.window.placed)
    pub digests : (id : ObjectId) (k : CopyView) → at new.copies id ≡ Some k → keeps_digest k.copy ≡ true → unwrap_or (at (digests_now c) id) no_digest ≡ unwrap_or k.digest no_digest
    pub working : (id : ObjectId) (k : CopyView) → at new.copies id ≡ Some k → k.working ≡ work_on after.works id
    pub granted : (id : ObjectId) (k : CopyView) → at new.copies id ≡ Some k → k.granted ≡ has_grant after.given id
    pub received : kept (λ seen. true) (λ seen. []) (brought contents.received (bytes_received x)) after.received ≡ received_bytes after
    pub reply : response.reply ≡ whole_reply before x c.reply
    pub erased : response.erased ≡ map (key_of row.job) c.erased

  module _ (c : Change) (is : change ≡ c) (response : RowGiven) (new : Row) (after : SharedTables) (m : TakesChange c response new after) where
    abbrev pub view_then : View
    view_then = view_after node before x (judge node before x) c

    same_view : (view_step node before x).view ≡ view_then
    same_view = ap (λ d. view_after node before x (judge node before x) d) is

    order_is : view_then.order ≡ new.order
    order_is = ap (λ s. reordered row.order s.copies c.used) m.shape ∙ m.order

    seen_is : view_then ≡ seen new after view_then.contents
    seen_is = ap (λ s. record { shape = s; order = view_then.order; contents = view_then.contents }) m.shape ∙ ap (λ ids. record { shape = shape_of new after; order = ids; contents = view_then.contents }) order_is

    kept_now : IsViewKept (seen new after view_then.contents)
    kept_now = subst IsViewKept seen_is (subst IsViewKept same_view (view_keeps node before x h.kept))

    sorted : T (is_sorted id_cmp c.shape.copies)
    sorted = subst (λ s. T (is_sorted id_cmp s.copies)) (sym m.shape) (subst T (sym kept_now.kept.shape.by_id) tt)

    copy_at : (id : ObjectId) (k : CopyView) → at new.copies id ≡ Some k → at c.shape.copies id ≡ Some k.copy
    copy_at id k e = ap (λ s. at s.copies id) m.shape ∙ at-copies_found new.copies id k e

    resides : (copy : Copy) (e : Extent) → extent_of copy ≡ Some e → is_some copy.offset ≡ true
    resides copy e is = by copy.offset is
      where
        by : (p : Option ℕ) → extent_of (record copy { offset = p }) ≡ Some e → is_some p ≡ true
        by (Some offset) is = refl
        by None is = cc

    pub shown_now : IsShown new after view_then.contents
    shown_now = record {
      kept = kept_now;
      there = m.there;
      listed = m.listed;
      bytes = λ id k e found lies.
          ap (λ p. unwrap_or p []) (at-kept (λ copy. is_some copy.offset) (λ copy. replicate copy.length 0) (bytes_now c) c.shape.copies sorted id
          ∙ ap (λ p. kept_row (λ copy. is_some copy.offset) (λ copy. replicate copy.length 0) (bytes_now c) id p) (copy_at id k found)
          ∙ ap (λ b. cond b (Some (filled (at (bytes_now c) id) k.copy)) None) (resides k.copy e lies))
          ∙ m.bytes id k e found lies;
      digests = λ id k found keeps.
          ap (λ p. unwrap_or p no_digest) (at-kept keeps_digest (λ copy. no_digest) (digests_now c) c.shape.copies sorted id
          ∙ ap (λ p. kept_row keeps_digest (λ copy. no_digest) (digests_now c) id p) (copy_at id k found)
          ∙ ap (λ b. cond b (Some (unwrap_or (at (digests_now c) id) no_digest)) None) keeps)
          ∙ m.digests id k found keeps;
      working = m.working;
      granted = m.granted;
      received = ap (λ s. kept (λ seen. true) (λ seen. []) (brought contents.received (bytes_received x)) s.received) m.shape ∙ m.received;
    }

    pub moved : response.posts ≡ flat_map (posts_of node view_then x) c.sent → RowStep node row beside contents x response new after
    moved posts = record {
      shape = ap (λ v. v.shape) same_view ∙ m.shape;
      order = ap (λ v. v.order) same_view ∙ order_is;
      shown = subst (λ v. IsShown new after v.contents) (sym same_view) shown_now;
      reply = m.reply ∙ sym (ap (λ d. whole_reply before x d.reply) is);
      posts = posts ∙ sym (ap (λ d. flat_map (posts_of node (view_after node before x (judge node before x) d) x) d.sent) is);
      erased = m.erased ∙ sym (ap (λ d. map (key_of row.job) d.erased) is);
    }

  -- ---- where nothing is brought for a copy, and it stays

  length_of : (id : ObjectId) (k : CopyView) → at row.copies id ≡ Some k → is_some k.copy.offset ≡ true → length (bytes_at contents.bytes id) ≡ k.copy.length
  length_of id k found lies = (h.kept.kept.filled.each id k.copy (at-copies_found row.copies id k found)).bytes lies

  pub same_bytes : (id : ObjectId) (k : CopyView) (e : Extent) → at row.copies id ≡ Some k → extent_of k.copy ≡ Some e → filled (at contents.bytes id) k.copy ≡ take k.copy.length (placed_bytes e row.window.placed)
  same_bytes id k e found lies = default_same (at contents.bytes id) k.copy.length (length_of id k found (by k.copy.offset lies)) ∙ h.bytes id k e found lies
    where
      by : (p : Option ℕ) → extent_of (record k.copy { offset = p }) ≡ Some e → is_some p ≡ true
      by (Some offset) is = refl
      by None is = cc

  -- what others granted stays, if nothing is brought of it
  pub received_stays : bytes_received x ≡ None → kept (λ seen. true) (λ seen. []) (brought contents.received (bytes_received x)) beside.received ≡ received_bytes beside
  received_stays none =
      ap (λ o. kept (λ (seen : Seen). true) (λ seen. []) (brought contents.received o) beside.received) none
      ∙ ap (λ t. kept (λ (seen : Seen). true) (λ seen. []) t beside.received) h.received ∙ kept_as_they_are beside.bytes beside.received

  -- a step that leaves the store as it was, and sends these messages
  abbrev pub telling : Reply ℕ → List Sending → Change
  telling r sent = erasing (shape_of row beside) (record (replied (shape_of row beside) r) { sent = sent })

  module _ (r : Reply ℕ) (sent : List Sending) (posts : List Post)
      (bytes : bytes_brought before x (judge node before x) r ≡ None) (digests : digest_brought node before x r ≡ None) (none : bytes_received x ≡ None) where
    pub same_moves : TakesChange (telling r sent) (record { reply = whole_reply before x r; posts = posts; erased = [] }) row beside
    same_moves = record {
      shape = refl;
      order = sym (reordered-unused row.order (copies_of row.copies) h.there);
      there = h.there;
      listed = h.listed;
      bytes = λ id k e found lies. ap (λ b. filled (at (brought contents.bytes b) id) k.copy) bytes ∙ same_bytes id k e found lies;
      digests = λ id k found keeps. ap (λ d. unwrap_or (at (brought contents.digests d) id) no_digest) digests ∙ h.digests id k found keeps;
      working = h.working;
      granted = h.granted;
      received = received_stays none;
      reply = refl;
      erased = sym (ap (map (key_of row.job)) (keys_none (copies_of row.copies) (copies_of row.copies) (all_found (copies_of row.copies))));
    }

    pub tells : (is : change ≡ telling r sent) → posts ≡ flat_map (posts_of node (view_then (telling r sent) is (record { reply = whole_reply before x r; posts = posts; erased = [] }) row beside same_moves) x) sent
        → RowStep node row beside contents x (record { reply = whole_reply before x r; posts = posts; erased = [] }) row beside
    tells is said = moved (telling r sent) is (record { reply = whole_reply before x r; posts = posts; erased = [] }) row beside same_moves said

  -- one that sends nothing
  pub stays : (r : Reply ℕ) → change ≡ erasing (shape_of row beside) (replied (shape_of row beside) r) → bytes_brought before x (judge node before x) r ≡ None → digest_brought node before x r ≡ None → bytes_received x ≡ None
      → RowStep node row beside contents x (only (whole_reply before x r)) row beside
  stays r is bytes digests none = tells r [] [] bytes digests none is refl
