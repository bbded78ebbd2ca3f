-- A row takes Leave copy by copy, where there are doomed ones.
use Rattle.std.proofs.Common.{◌≡◌, ℕ, Bool, true, false, not, cond, List, [], ◌∷◌, ◌++◌, fold, map, flat_map, Option, Some, None, is_none, option_map, refl, sym, ap, subst, ◌∙◌, T}
use Rattle.std.specs.Prelude.{option_to_list}
use Rattle.std.proofs.lemmas.List.{map-append}
use Rattle.std.specs.List.{cons_option}
use Rattle.std.specs.Option.{option_map_or}
use Rattle.std.specs.FinMap.Entries.{is_sorted, below_all}
use Rattle.obj_id.specs.declared.ids.ObjectId.{ObjectId}
use Rattle.obj_id.specs.declared.commands.Command.TheVariants as command
use Rattle.obj_id.specs.declared.commands.OwnItem.{OwnItem}
use Rattle.obj_id.specs.declared.commands.Reply.TheVariants as reply
use Rattle.obj_id.specs.Ids.{id_cmp, same_id}
use Rattle.store_facts.proofs.Ids.{same_id-itself, same_id-equal, same_id-flip}
use Rattle.private_store.specs.declared.inputs.Input.{Input}
use Rattle.private_store.specs.declared.inputs.Input.TheVariants as input
use Rattle.private_store.specs.rules.Tables.{ById, at, with_entry, ids_of}
use Rattle.private_store.specs.rules.Shape.{Copy, Shape, Change}
use Rattle.private_store.specs.rules.Marks.{with_holds}
use Rattle.private_store.specs.rules.Room.{set_copy}
use Rattle.private_store.specs.rules.Change.{done, sending, erasing, settled, keys_gone}
use Rattle.private_store.specs.rules.Commands.{leave_one, at_each}
use Rattle.private_store.specs.rules.Contents.{Contents, judge}
use Rattle.private_store.specs.rules.Private.{key_of}
use Rattle.private_store.specs.rules.Step.{step}
use Rattle.store_facts.proofs.Filling.{below_none}
use Rattle.store_facts.proofs.Rows.{at-put, at-put_here, at-drop}
use Rattle.store_facts.proofs.Tests.{T_true, and_left, and_right, none_some, some_value}
use Rattle.lru_evictor.proofs.ForCallers.{reordered-unused}
use Rattle.row_copy.specs.CopyViews.{CopyView, after_leave}
use Rattle.job_row.specs.Row.{Row, copies_of, place_of, ArePlaced}
use Rattle.job_row.specs.Dropping.{dropped, settled_row, keys_settled, unheld_row, left_row, keys_left}
use Rattle.row_copy.specs.Keeping.{is_over}
use Rattle.row_steps.specs.Shown.{seen, IsShown, RowGiven, only, RowStep}
use Rattle.row_copy.specs.Usages.{own_item_of}
use Rattle.row_steps.proofs.ForCallers.{called, TakesChange, moved, same_bytes, received_stays}
use Rattle.job_row.proofs.ForCallers.{changed-found, at-first, at-rest, at-copies, at-copies_found, at-copies_none, sorted-copies}
use Rattle.row_steps.specs.Beside.{SharedTables, shape_of}
use Rattle.row_commands.proofs.Walking.{IsOnItsWay, touched-shape, touched, settled_shape, settled_on, untouched}
use Rattle.row_commands.proofs.Settling.{IsMinor}
use Rattle.job_row.specs.Scope.{with_copy}

-- ---- the definition, copy by copy

module _ (session : ℕ) where
  abbrev unheld : Copy → Copy
  unheld copy = with_holds copy session 0

  abbrev pub left_shape : Shape → ObjectId → Shape
  left_shape store id = option_map_or (λ copy. settled (set_copy store id (unheld copy)) id) (at store.copies id) store

  leaves-one : (store : Shape) (id : ObjectId) → sending [] (leave_one session store id) ≡ done (left_shape store id)
  unfolding sending
  leaves-one store id = by (at store.copies id)
    where
      by : (o : Option Copy) → sending [] (option_map_or (λ copy. done (settled (set_copy store id (unheld copy)) id)) o (done store)) ≡ done (option_map_or (λ copy. settled (set_copy store id (unheld copy)) id) o store)
      by None = refl
      by (Some copy) = refl

  pub leaves-each : (ids : List ObjectId) (store : Shape) → at_each (leave_one session) ids (done store) ≡ done (fold left_shape store ids)
  leaves-each [] store = refl
  leaves-each (id ∷ ids) store = ap (λ c. at_each (leave_one session) ids c) (leaves-one store id) ∙ leaves-each ids (left_shape store id)

-- ---- one copy after another

module _ (node : ℕ) (row : Row) (beside : SharedTables) (contents : Contents) (h : IsShown row beside contents) (x : Input) (session : ℕ) where
  abbrev IsUnderway : Row → Type 0
  IsUnderway r = IsOnItsWay node row beside contents h x beside r

  minor : (z : CopyView) → IsMinor (after_leave session) z
  minor z = record { lies = λ y. (refl, refl); digest = refl; keeps = λ keep. keep; working = refl; granted = refl; backed = refl }

  module _ (r : Row) (g : IsUnderway r) (id : ObjectId) where
    abbrev one_left : Option Copy → Shape
    one_left o = option_map_or (λ copy. settled (set_copy (shape_of r beside) id (unheld session copy)) id) o (shape_of r beside)

    one_moves : IsUnderway (left_row session r id) × (left_shape session (shape_of r beside) id ≡ shape_of (left_row session r id) beside)
    one_moves = by (at r.copies id) refl
      where
        by : (o : Option CopyView) → at r.copies id ≡ o → IsUnderway (left_row session r id) × (left_shape session (shape_of r beside) id ≡ shape_of (left_row session r id) beside)
        by None none =
            let same = untouched node row beside contents h x beside r id (after_leave session) none in
            (subst IsUnderway (sym same) g, ap one_left (at-copies_none r.copies id none) ∙ ap (λ t. shape_of t beside) (sym same))
        by (Some k) found =
            let again = touched node row beside contents h x beside r g id k found (after_leave session) minor in
            let now = with_copy (after_leave session) r id in (
              settled_on node row beside contents h x beside now again id,
              ap one_left (at-copies_found r.copies id k found)
                  ∙ ap (λ t. settled t id) (sym (touched-shape node row beside contents h x beside r g id k found (after_leave session) minor))
                  ∙ settled_shape node row beside contents h x beside now again id,
            )

  pub each_moves : (ids : List ObjectId) (r : Row) → IsUnderway r
      → IsUnderway (fold (left_row session) r ids) × (fold (left_shape session) (shape_of r beside) ids ≡ shape_of (fold (left_row session) r ids) beside)
  each_moves [] r g = (g, refl)
  each_moves (id ∷ ids) r g =
      let one = one_moves r g id in
      let rest = each_moves ids (left_row session r id) one.0 in
      (rest.0, ap (λ s. fold (left_shape session) s ids) one.1 ∙ rest.1)

-- ---- other copies

module _ (session : ℕ) where
  unheld_other : (r : Row) (id q : ObjectId) → same_id id q ≡ false → at (unheld_row session r id).copies q ≡ at r.copies q
  unheld_other r id q other = by (at r.copies id)
    where
      by : (o : Option CopyView) → at (option_map_or (λ k. with_entry r.copies id (after_leave session k)) o r.copies) q ≡ at r.copies q
      by None = refl
      by (Some k) = at-put r.copies id (after_leave session k) q ∙ ap (λ b. cond b (Some (after_leave session k)) (at r.copies q)) (same_id-flip q id ∙ other)

  settled_other : (r : Row) (id q : ObjectId) → same_id id q ≡ false → at (settled_row r id).copies q ≡ at r.copies q
  settled_other r id q other = by (at r.copies id)
    where
      over : (b : Bool) → at (cond b (dropped r id) r).copies q ≡ at r.copies q
      over true = at-drop r.copies id q ∙ ap (λ b. cond (not b) (at r.copies q) None) other
      over false = refl

      by : (o : Option CopyView) → at (option_map_or (λ kept. cond (is_over kept) (dropped r id) r) o r).copies q ≡ at r.copies q
      by None = refl
      by (Some k) = over (is_over k)

  left_other : (r : Row) (id q : ObjectId) → same_id id q ≡ false → at (left_row session r id).copies q ≡ at r.copies q
  left_other r id q other = settled_other (unheld_row session r id) id q other ∙ unheld_other r id q other

  settled_job : (r : Row) (id : ObjectId) → (settled_row r id).job ≡ r.job
  settled_job r id = by (at r.copies id)
    where
      over : (b : Bool) → (cond b (dropped r id) r).job ≡ r.job
      over true = refl
      over false = refl

      by : (o : Option CopyView) → (option_map_or (λ kept. cond (is_over kept) (dropped r id) r) o r).job ≡ r.job
      by None = refl
      by (Some k) = over (is_over k)

  unheld_found : (r : Row) (id : ObjectId) (k : CopyView) → at r.copies id ≡ Some k → at (unheld_row session r id).copies id ≡ Some (after_leave session k)
  unheld_found r id k found = ap (λ t. at t id) (changed-found (after_leave session) id r.copies k found) ∙ at-put_here r.copies id (after_leave session k)

  left_found : (r : Row) (id : ObjectId) (k : CopyView) → at r.copies id ≡ Some k → is_none (at (left_row session r id).copies id) ≡ is_over (after_leave session k)
  left_found r id k found =
      ap (λ o. is_none (at (option_map_or (λ kept. cond (is_over kept) (dropped (unheld_row session r id) id) (unheld_row session r id)) o (unheld_row session r id)).copies id)) (unheld_found r id k found)
      ∙ by (is_over (after_leave session k))
    where
      by : (b : Bool) → is_none (at (cond b (dropped (unheld_row session r id) id) (unheld_row session r id)).copies id) ≡ b
      by true = ap is_none (at-drop (unheld_row session r id).copies id id ∙ ap (λ b. cond (not b) (at (unheld_row session r id).copies id) None) (same_id-itself id))
      by false = ap is_none (unheld_found r id k found)

  -- ---- all copies, by rising id

  -- an entry after the first has another id
  later_id : (e : ObjectId × CopyView) (es : ById CopyView) → T (below_all id_cmp e.0 es) → (q : ObjectId) (k : CopyView) → at es q ≡ Some k → same_id e.0 q ≡ false
  later_id e es below q k found = by (same_id e.0 q) refl
    where
      by : (b : Bool) → same_id e.0 q ≡ b → b ≡ false
      by true s = none_some k (sym (below_none e.0 es below) ∙ ap (at es) (same_id-equal e.0 q s) ∙ found)
      by false s = refl

  -- each entry is one of the row's
  abbrev AreOf : ById CopyView → Row → Type 0
  AreOf es r = (q : ObjectId) (k : CopyView) → at es q ≡ Some k → at r.copies q ≡ Some k

  rest_of : (e : ObjectId × CopyView) (es : ById CopyView) (r : Row) → T (is_sorted id_cmp (e ∷ es)) → AreOf (e ∷ es) r → AreOf es (left_row session r e.0)
  rest_of e es r sorted are q k found =
      left_other r e.0 q (later_id e es (and_left (below_all id_cmp e.0 es) _ sorted) q k found) ∙ are q k (at-rest e es sorted q k found)

  fold_other : (es : ById CopyView) (r : Row) (q : ObjectId) → at es q ≡ None → at (fold (left_row session) r (ids_of es)).copies q ≡ at r.copies q
  fold_other [] r q none = refl
  fold_other (e ∷ es) r q none = by (same_id q e.0) refl none (λ rest. fold_other es (left_row session r e.0) q rest)
    where
      by : (b : Bool) → same_id q e.0 ≡ b → cond b (Some e.1) (at es q) ≡ None → (at es q ≡ None → at (fold (left_row session) (left_row session r e.0) (ids_of es)).copies q ≡ at (left_row session r e.0).copies q)
          → at (fold (left_row session) (left_row session r e.0) (ids_of es)).copies q ≡ at r.copies q
      by true s none rest = none_some e.1 (sym none)
      by false s none rest = rest none ∙ left_other r e.0 q (same_id-flip e.0 q ∙ s)

  fold_found : (es : ById CopyView) (r : Row) → T (is_sorted id_cmp es) → AreOf es r → (q : ObjectId) (k : CopyView) → at es q ≡ Some k → is_none (at (fold (left_row session) r (ids_of es)).copies q) ≡ is_over (after_leave session k)
  fold_found [] r sorted are q k found = none_some k found
  fold_found (e ∷ es) r sorted are q k found =
      by (same_id q e.0) refl found (λ rest. fold_found es (left_row session r e.0) (and_right (below_all id_cmp e.0 es) _ sorted) (rest_of e es r sorted are) q k rest)
    where
      after : Row
      after = fold (left_row session) (left_row session r e.0) (ids_of es)

      by : (b : Bool) → same_id q e.0 ≡ b → cond b (Some e.1) (at es q) ≡ Some k → (at es q ≡ Some k → is_none (at after.copies q) ≡ is_over (after_leave session k)) → is_none (at after.copies q) ≡ is_over (after_leave session k)
      by true s found rest =
          ap (λ i. is_none (at after.copies i)) (same_id-equal q e.0 s)
          ∙ ap is_none (fold_other es (left_row session r e.0) e.0 (below_none e.0 es (and_left (below_all id_cmp e.0 es) _ sorted)))
          ∙ left_found r e.0 e.1 (are e.0 e.1 (at-first e es)) ∙ ap (λ z. is_over (after_leave session z)) (some_value e.1 k found)
      by false s found rest = rest found

  -- ---- device keys

  -- the number of the key that is gone with a copy
  abbrev over_keys : CopyView → List ℕ
  over_keys k = cond (is_over (after_leave session k)) (option_to_list k.copy.backed) []

  abbrev all_over : ById CopyView → List ℕ
  all_over es = flat_map (λ e. over_keys e.1) es

  keys_by_row : (es : ById CopyView) (r : Row) → T (is_sorted id_cmp es) → AreOf es r → keys_left session r (ids_of es) ≡ map (key_of r.job) (all_over es)
  keys_by_row [] r sorted are = refl
  keys_by_row (e ∷ es) r sorted are =
      (λ i. first i ++ (keys_by_row es (left_row session r e.0) (and_right (below_all id_cmp e.0 es) _ sorted) (rest_of e es r sorted are) ∙ ap (λ n. map (key_of n) (all_over es)) (settled_job (unheld_row session r e.0) e.0)) i)
      ∙ sym (map-append (key_of r.job) (over_keys e.1) (all_over es))
    where
      one : (b : Bool) (o : Option ℕ) → cond b (option_to_list (option_map (key_of r.job) o)) [] ≡ map (key_of r.job) (cond b (option_to_list o) [])
      one true None = refl
      one true (Some n) = refl
      one false o = refl

      first : keys_settled (unheld_row session r e.0) e.0 ≡ map (key_of r.job) (over_keys e.1)
      first =
          ap (λ o. option_map_or (λ kept. cond (is_over kept) (option_to_list (option_map (key_of r.job) kept.copy.backed)) []) o []) (unheld_found r e.0 e.1 (are e.0 e.1 (at-first e es)))
          ∙ one (is_over (after_leave session e.1)) e.1.copy.backed

  keys_by_table : (es : ById CopyView) (after : ById Copy) → T (is_sorted id_cmp es) → ((q : ObjectId) (k : CopyView) → at es q ≡ Some k → is_none (at after q) ≡ is_over (after_leave session k)) → keys_gone (copies_of es) after ≡ all_over es
  keys_by_table [] after sorted gone = refl
  keys_by_table (e ∷ es) after sorted gone =
      ap (λ b. cons_option (cond b e.1.copy.backed None) (keys_gone (copies_of es) after)) (gone e.0 e.1 (at-first e es))
      ∙ ap (cons_option (cond (is_over (after_leave session e.1)) e.1.copy.backed None)) (keys_by_table es after (and_right (below_all id_cmp e.0 es) _ sorted) (λ q k found. gone q k (at-rest e es sorted q k found)))
      ∙ by (is_over (after_leave session e.1)) e.1.copy.backed
    where
      by : (b : Bool) (o : Option ℕ) → cons_option (cond b o None) (all_over es) ≡ cond b (option_to_list o) [] ++ all_over es
      by true None = refl
      by true (Some n) = refl
      by false o = refl

-- ---- the step

pub ids-listed : (es : ById CopyView) → map (λ (item : OwnItem). item.id) (map own_item_of es) ≡ ids_of es
ids-listed [] = refl
ids-listed (e ∷ es) = ap (λ ids. e.0 ∷ ids) (ids-listed es)

pub ids-copies : (es : ById CopyView) → ids_of (copies_of es) ≡ ids_of es
ids-copies [] = refl
ids-copies (e ∷ es) = ap (λ ids. e.0 ∷ ids) (ids-copies es)

module _ (node : ℕ) (row : Row) (beside : SharedTables) (contents : Contents) (session : ℕ) (h : IsShown row beside contents) (placed : ArePlaced row.window.placed (place_of row.copies)) where
  abbrev s : Shape
  s = shape_of row beside

  abbrev x : Input
  x = input.Call session command.Leave

  abbrev pub row_after : Row
  row_after = fold (left_row session) row (ids_of row.copies)

  abbrev shape_after : Shape
  shape_after = fold (left_shape session) s (ids_of row.copies)

  abbrev pub given : RowGiven
  given = record { reply = reply.Ok; posts = []; erased = keys_left session row (ids_of row.copies) }

  sorted : T (is_sorted id_cmp row.copies)
  sorted = subst T (sorted-copies row.copies) (T_true _ h.kept.kept.shape.by_id)

  begins : IsOnItsWay node row beside contents h x beside row
  begins = record {
    moves = record {
      shape = refl;
      order = sym (reordered-unused row.order (copies_of row.copies) h.there);
      there = h.there;
      listed = h.listed;
      bytes = same_bytes node row beside contents h x;
      digests = h.digests;
      working = h.working;
      granted = h.granted;
      received = received_stays node row beside contents h x refl;
      reply = refl;
      erased = refl;
    };
    placed = placed;
    sorted = T_true _ h.kept.kept.shape.by_id;
  }

  walk : IsOnItsWay node row beside contents h x beside row_after × (shape_after ≡ shape_of row_after beside)
  walk = each_moves node row beside contents h x session (ids_of row.copies) row begins

  ends : TakesChange node row beside contents h x (done (shape_of row_after beside)) (only reply.Ok) row_after beside
  ends = walk.0.moves

  gone : (q : ObjectId) (k : CopyView) → at row.copies q ≡ Some k → is_none (at shape_after.copies q) ≡ is_over (after_leave session k)
  gone q k found =
      ap (λ t. is_none (at t.copies q)) walk.1 ∙ ap is_none (at-copies row_after.copies q) ∙ none_too (at row_after.copies q)
      ∙ fold_found session row.copies row sorted (λ q k f. f) q k found
    where
      none_too : (o : Option CopyView) → is_none (option_map (λ (k : CopyView). k.copy) o) ≡ is_none o
      none_too None = refl
      none_too (Some k) = refl

  abbrev c : Change
  c = erasing s (done shape_after)

  keys : given.erased ≡ map (key_of row.job) c.erased
  keys = keys_by_row session row.copies row sorted (λ q k f. f) ∙ ap (map (key_of row.job)) (sym (keys_by_table session row.copies shape_after.copies sorted gone))

  step_is : step row.order s (judge node (seen row beside contents) x) ≡ c
  step_is =
      called row beside session command.Leave
      ∙ ap (erasing s) (leaves-each session (ids_of s.copies) s ∙ ap (λ ids. done (fold (left_shape session) s ids)) (ids-copies row.copies))

  m : TakesChange node row beside contents h x c given row_after beside
  m = record {
    shape = walk.1;
    order = ends.order;
    there = ends.there;
    listed = ends.listed;
    bytes = ends.bytes;
    digests = ends.digests;
    working = ends.working;
    granted = ends.granted;
    received = ends.received;
    reply = refl;
    erased = keys;
  }

  pub each_left : RowStep node row beside contents x given row_after beside
  each_left = moved node row beside contents h x c step_is given row_after beside m refl
