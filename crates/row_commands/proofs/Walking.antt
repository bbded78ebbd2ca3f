-- A row on its way through a step: one copy after another is changed where it lies, and removed if nothing keeps it.
use Rattle.std.proofs.Common.{◌≡◌, ℕ, Bool, true, false, not, ◌&&◌, cond, List, [], ◌∷◌, ◌++◌, filter, take, Option, Some, None, is_some, unwrap_or, inl, inr, refl, sym, ap, subst, ◌∙◌, T}
use Rattle.std.specs.Option.{option_map_or}
use Rattle.std.specs.FinMap.Entries.{is_sorted, is_sorted-put, is_sorted-where_key}
use Rattle.obj_id.specs.declared.ids.ObjectId.{ObjectId}
use Rattle.obj_id.specs.declared.works.Extent.{Extent}
use Rattle.obj_id.specs.declared.commands.Reply.TheVariants as reply
use Rattle.obj_id.specs.Ids.{id_cmp, same_id}
use Rattle.store_facts.proofs.Ids.{same_id-equal, id_cmp-IsTotalOrder}
use Rattle.private_store.specs.declared.inputs.Input.{Input}
use Rattle.private_store.specs.rules.Tables.{ById, at, with_entry, is_among}
use Rattle.private_store.specs.rules.Shape.{Copy, Shape}
use Rattle.private_store.specs.rules.Copies.{extent_of, is_held, is_granted, is_working, is_idle}
use Rattle.private_store.specs.rules.Room.{set_copy, drop_copy}
use Rattle.private_store.specs.rules.Change.{done, settled}
use Rattle.private_store.specs.rules.Contents.{Contents, keeps_digest, no_digest}
use Rattle.private_store.specs.laws.Invariants.{has_grant}
use Rattle.private_store.specs.rules.Step.{reordered}
use Rattle.store_facts.proofs.Filling.{filled}
use Rattle.job_region.specs.Region.{region_bytes_at as placed_bytes}
use Rattle.lru_evictor.specs.Orders.{AreThere}
use Rattle.job_row.specs.Dropping.{dropped, settled_row}
use Rattle.row_copy.specs.Keeping.{is_over}
use Rattle.row_copy.specs.CopyViews.{CopyView}
use Rattle.job_row.specs.Row.{Row, copies_of, place_of, ArePlaced}
use Rattle.job_row.specs.Scope.{with_copy}
use Rattle.row_steps.specs.Shown.{work_on, IsShown, only}
use Rattle.job_row.proofs.ForCallers.{changed-absent, at-copies_found, at-copies_none, copies-changed, copies-without, changed_placed, left_placed}
use Rattle.row_steps.proofs.ForCallers.{From, from_changed, there_with, working-on, idle_same, moves_left, TakesChange, bytes_now, digests_now}
use Rattle.row_commands.proofs.Settling.{IsMinor}
use Rattle.row_steps.specs.Beside.{SharedTables, shape_of}
use Rattle.store_facts.proofs.Rows.{at-put}

-- the order of use where a copy that was there is put again
pub reordered-with : (order : List ObjectId) (copies : ById Copy) (id : ObjectId) (now : Copy) → is_some (at copies id) ≡ true → reordered order (with_entry copies id now) None ≡ reordered order copies None
reordered-with order copies id now there = ap (λ ids. ids ++ []) (same order)
  where
    there_too : (q : ObjectId) → is_some (at (with_entry copies id now) q) ≡ is_some (at copies q)
    there_too q = ap is_some (at-put copies id now q) ∙ by (same_id q id) refl
      where
        by : (b : Bool) → same_id q id ≡ b → is_some (cond b (Some now) (at copies q)) ≡ is_some (at copies q)
        by true s = sym (ap (λ i. is_some (at copies i)) (same_id-equal q id s) ∙ there)
        by false s = refl

    same : (ids : List ObjectId) → filter (λ q. is_some (at (with_entry copies id now) q) && true) ids ≡ filter (λ q. is_some (at copies q) && true) ids
    same [] = refl
    same (q ∷ ids) = λ i. cond (there_too q i && true) (q ∷ same ids i) (same ids i)

module _ (node : ℕ) (row : Row) (beside : SharedTables) (contents : Contents) (h : IsShown row beside contents) (x : Input) (after : SharedTables) where
  abbrev pub s_of : Row → Shape
  s_of r = shape_of r after

  -- what the step has done so far made this row of the store; its copies are where the window has them, and by rising id
  pub record IsOnItsWay (r : Row) : Type 0 where
    pub moves : TakesChange node row beside contents h x (done (s_of r)) (only reply.Ok) r after
    pub placed : ArePlaced r.window.placed (place_of r.copies)
    pub sorted : T (is_sorted id_cmp (copies_of r.copies))

  -- one copy is changed where it lies
  module _ (r : Row) (g : IsOnItsWay r) (id : ObjectId) (k : CopyView) (found : at r.copies id ≡ Some k) (f : CopyView → CopyView) (minor : (z : CopyView) → IsMinor f z) where
    abbrev r_now : Row
    r_now = with_copy f r id

    copies_is : copies_of r_now.copies ≡ with_entry (copies_of r.copies) id (f k).copy
    copies_is = copies-changed f r.copies id k found

    pub touched-shape : s_of r_now ≡ set_copy (s_of r) id (f k).copy
    touched-shape = ap (λ t. record (s_of r) { copies = t }) copies_is

    carried : (P : CopyView → Type 0) → ((z : CopyView) → P z → P (f z)) → (q : ObjectId) (y : CopyView) → at r_now.copies q ≡ Some y → ((z : CopyView) → at r.copies q ≡ Some z → P z) → P y
    carried P still q y e was = by (from_changed f r.copies id k found q y e)
      where
        by : (z : CopyView) × (at r.copies q ≡ Some z) × From f r.copies id q y z → P y
        by (z, there, inl t) = subst P (sym t.1) (still z (was z there))
        by (z, there, inr t) = subst P (sym t.1) (was z there)

    same_extent : (z : CopyView) → extent_of (f z).copy ≡ extent_of z.copy
    same_extent z = ap (λ p. extent_of (record (f z).copy { offset = p })) ((minor z).lies z).0 ∙ ap (λ n. extent_of (record z.copy { length = n })) ((minor z).lies z).1

    pub touched : IsOnItsWay r_now
    touched = record {
      moves = record {
        shape = refl;
        order =
            ap (λ t. reordered row.order t None) copies_is
            ∙ reordered-with row.order (copies_of r.copies) id (f k).copy (ap is_some (at-copies_found r.copies id k found)) ∙ g.moves.order;
        there = subst (λ t. AreThere t r.order) (sym copies_is) (there_with (copies_of r.copies) id (f k).copy r.order g.moves.there);
        listed = λ q y e. carried (λ z. is_among r.order q ≡ true) (λ z p. p) q y e (λ z there. g.moves.listed q z there);
        bytes = λ q y e found lies.
            carried (λ z. (e : Extent) → extent_of z.copy ≡ Some e → filled (at (bytes_now node row beside contents h x (done (s_of r))) q) z.copy ≡ take z.copy.length (placed_bytes e r.window.placed))
            (λ z p e lies.
            ap (λ n. filled (at (bytes_now node row beside contents h x (done (s_of r))) q) (record z.copy { length = n })) ((minor z).lies z).1
            ∙ p e (sym (same_extent z) ∙ lies) ∙ ap (λ n. take n (placed_bytes e r.window.placed)) (sym ((minor z).lies z).1))
            q y found (λ z there e lies. g.moves.bytes q z e there lies) e lies;
        digests = λ q y found keeps.
            carried (λ z. keeps_digest z.copy ≡ true → unwrap_or (at (digests_now node row beside contents h x (done (s_of r))) q) no_digest ≡ unwrap_or z.digest no_digest)
            (λ z p keep. p ((minor z).keeps keep) ∙ ap (λ d. unwrap_or d no_digest) (sym (minor z).digest)) q y found (λ z there keep. g.moves.digests q z there keep) keeps;
        working = λ q y found. carried (λ z. z.working ≡ work_on after.works q) (λ z p. (minor z).working ∙ p) q y found (λ z there. g.moves.working q z there);
        granted = λ q y found. carried (λ z. z.granted ≡ has_grant after.given q) (λ z p. (minor z).granted ∙ p) q y found (λ z there. g.moves.granted q z there);
        received = g.moves.received;
        reply = g.moves.reply;
        erased = g.moves.erased;
      };
      placed = changed_placed r.window.placed r.copies g.placed f same_extent id;
      sorted = subst (λ t. T (is_sorted id_cmp t)) (sym copies_is) (is_sorted-put id_cmp id_cmp-IsTotalOrder id (f k).copy (copies_of r.copies) g.sorted);
    }

  -- and removed if nothing keeps it
  module _ (r : Row) (g : IsOnItsWay r) (id : ObjectId) where
    over_is : (k : CopyView) → at r.copies id ≡ Some k → is_over k ≡ k.copy.doomed && is_idle (s_of r) id k.copy
    over_is k found =
        ap (λ b. k.copy.doomed && b)
        (idle_same (is_held k.copy) k.granted (is_granted (s_of r) id) (is_working (s_of r) id) k.working (g.moves.granted id k found) (ap is_some (g.moves.working id k found) ∙ working-on after.works id))

    left : TakesChange node row beside contents h x (done (drop_copy (s_of r) id)) (only reply.Ok) (dropped r id) after
    left = moves_left node row beside contents h x (done (s_of r)) (only reply.Ok) r after g.moves refl g.placed id [] (only reply.Ok) refl refl

    dropped_on : IsOnItsWay (dropped r id)
    dropped_on = record {
      moves = subst (λ s. TakesChange node row beside contents h x (done s) (only reply.Ok) (dropped r id) after) left.shape left;
      placed = left_placed r.window.placed r.copies g.placed id;
      sorted = subst (λ t. T (is_sorted id_cmp t)) (sym (copies-without r.copies id)) (is_sorted-where_key id_cmp (λ k. not (same_id id k)) (copies_of r.copies) g.sorted);
    }

    pub settled_shape : settled (s_of r) id ≡ s_of (settled_row r id)
    settled_shape = by (at r.copies id) refl
      where
        last : (b : Bool) → cond b (drop_copy (s_of r) id) (s_of r) ≡ s_of (cond b (dropped r id) r)
        last true = left.shape
        last false = refl

        by : (o : Option CopyView) → at r.copies id ≡ o → settled (s_of r) id ≡ s_of (option_map_or (λ kept. cond (is_over kept) (dropped r id) r) o r)
        by None none = ap (λ o. option_map_or (λ (copy : Copy). cond (copy.doomed && is_idle (s_of r) id copy) (drop_copy (s_of r) id) (s_of r)) o (s_of r)) (at-copies_none r.copies id none)
        by (Some k) found =
            ap (λ o. option_map_or (λ (copy : Copy). cond (copy.doomed && is_idle (s_of r) id copy) (drop_copy (s_of r) id) (s_of r)) o (s_of r)) (at-copies_found r.copies id k found)
            ∙ ap (λ b. cond b (drop_copy (s_of r) id) (s_of r)) (sym (over_is k found)) ∙ last (is_over k)

    pub settled_on : IsOnItsWay (settled_row r id)
    settled_on = by (at r.copies id)
      where
        over : (b : Bool) → IsOnItsWay (cond b (dropped r id) r)
        over true = dropped_on
        over false = g

        by : (o : Option CopyView) → IsOnItsWay (option_map_or (λ kept. cond (is_over kept) (dropped r id) r) o r)
        by None = g
        by (Some k) = over (is_over k)

  pub untouched : (r : Row) (id : ObjectId) (f : CopyView → CopyView) → at r.copies id ≡ None → settled_row (with_copy f r id) id ≡ r
  untouched r id f none =
      ap (λ t. settled_row (record r { copies = t }) id) (changed-absent f id r.copies none)
      ∙ ap (λ o. option_map_or (λ kept. cond (is_over kept) (dropped r id) r) o r) none
