-- A row takes Leave: each of its copies is changed once, by rising id.
use Rattle.std.proofs.Common.{◌≡◌, ℕ, Bool, true, false, cond, List, [], ◌∷◌, fold, map, take, Option, Some, None, is_some, unwrap_or, refl, sym, ap, ◌∙◌, T, arith}
use Rattle.std.specs.Option.{option_map_or}
use Rattle.std.specs.Prelude.{◌-◌, ◌^◌, min, sum_by}
use Rattle.std.specs.List.{list_all}
use Rattle.std.specs.Ordering.{is_eq, is_lt, ordering_reverse}
use Rattle.std.specs.declared.cmp.Ordering.TheVariants.{Less}
use Rattle.std.specs.Cmp.{tied_itself}
use Rattle.std.specs.FinMap.{is_sorted}
use Rattle.std.specs.FinMap.Entries.{below_all, by_order}
use Rattle.std.proofs.lemmas.List.Sums.{sum_by-cons}
use Rattle.obj_id.specs.declared.ids.ObjectId.{ObjectId}
use Rattle.obj_id.specs.declared.commands.Command.TheVariants as command
use Rattle.obj_id.specs.declared.commands.Reply.TheVariants as reply
use Rattle.obj_id.specs.Ids.{id_cmp, same_id}
use Rattle.store_facts.proofs.Ids.{id_cmp-IsTotalOrder}
use Rattle.private_store.specs.declared.inputs.Input.{Input}
use Rattle.private_store.specs.declared.inputs.Input.TheVariants as input
use Rattle.private_store.specs.rules.Tables.{ById, at, with_entry, ids_of}
use Rattle.private_store.specs.rules.Shape.{Copy, Shape, Change}
use Rattle.private_store.specs.rules.Marks.{with_holds}
use Rattle.private_store.specs.rules.Copies.{extent_of}
use Rattle.private_store.specs.rules.Room.{set_copy}
use Rattle.private_store.specs.rules.Change.{done, sending, erasing, settled}
use Rattle.private_store.specs.rules.Commands.{leave, leave_one, at_each}
use Rattle.private_store.specs.rules.Contents.{Contents, judge, keeps_digest, no_digest}
use Rattle.private_store.specs.rules.Private.{key_of}
use Rattle.private_store.specs.rules.Step.{step}
use Rattle.store_facts.proofs.Filling.{filled}
use Rattle.store_facts.proofs.KeptLists.{all_weaker}
use Rattle.store_facts.proofs.ErasedKeys.{keys_none, all_found}
use Rattle.store_facts.proofs.Rows.{at-put, at-put_here}
use Rattle.store_facts.proofs.Tests.{and_left, and_right, both, some_value, none_some, less_is, true_T, T_true}
use Rattle.job_region.specs.Region.{region_bytes_at as placed_bytes}
use Rattle.lru_evictor.specs.Orders.{AreThere}
use Rattle.lru_evictor.proofs.ForCallers.{reordered-unused}
use Rattle.job_row.specs.Entries.{changed, all_changed}
use Rattle.row_copy.specs.CopyViews.{CopyView, after_leave}
use Rattle.job_row.specs.Row.{Row, copies_of}
use Rattle.row_steps.specs.Shown.{seen, IsShown, only, RowStep}
use Rattle.job_row.specs.Usages.{total}
use Rattle.row_copy.specs.Usages.{doomed_one}
use Rattle.row_steps.proofs.ForCallers.{called, TakesChange, moved, same_bytes, received_stays}
use Rattle.row_commands.proofs.Settling.{settled-stays}
use Rattle.job_row.proofs.ForCallers.{from_all, found_all}
use Rattle.row_steps.specs.Beside.{SharedTables, shape_of}

-- ---- a table whose entries are changed one after another

module _ {X : Type 0} (f : X → X) where
  abbrev turns : ById X → List ObjectId → ById X
  turns es ids = fold (λ t id. changed f t id) es ids

  -- an id above the first is changed among the rest
  changed-above : (e : ObjectId × X) (es : ById X) (id : ObjectId) → id_cmp e.0 id ≡ Less → changed f (e ∷ es) id ≡ e ∷ changed f es id
  changed-above e es id less =
      ap (λ r. option_map_or (λ x. by_order r ((id, f x) ∷ e ∷ es) ((e.0, f x) ∷ es) (e ∷ with_entry es id (f x))) (cond (is_eq r) (Some e.1) (at es id)) (e ∷ es))
      (id_cmp-IsTotalOrder.antisymm id e.0 ∙ ap ordering_reverse less)
      ∙ by (at es id)
    where
      by : (o : Option X) → option_map_or (λ x. e ∷ with_entry es id (f x)) o (e ∷ es) ≡ e ∷ option_map_or (λ x. with_entry es id (f x)) o es
      by None = refl
      by (Some x) = refl

  changed-first : (e : ObjectId × X) (es : ById X) → changed f (e ∷ es) e.0 ≡ (e.0, f e.1) ∷ es
  changed-first e es =
      ap (λ r. option_map_or (λ x. by_order r ((e.0, f x) ∷ e ∷ es) ((e.0, f x) ∷ es) (e ∷ with_entry es e.0 (f x))) (cond (is_eq r) (Some e.1) (at es e.0)) (e ∷ es))
      (tied_itself id_cmp-IsTotalOrder e.0)

  turns-above : (ids : List ObjectId) (e : ObjectId × X) (es : ById X) → T (list_all (λ id. is_lt (id_cmp e.0 id)) ids) → turns (e ∷ es) ids ≡ e ∷ turns es ids
  turns-above [] e es h = refl
  turns-above (id ∷ ids) e es h =
      ap (λ t. turns t ids) (changed-above e es id (less_is (id_cmp e.0 id) (and_left _ _ h)))
      ∙ turns-above ids e (changed f es id) (and_right (is_lt (id_cmp e.0 id)) _ h)

  below-ids : (id : ObjectId) (es : ById X) → T (below_all id_cmp id es) → T (list_all (λ q. is_lt (id_cmp id q)) (ids_of es))
  below-ids id [] h = tt
  below-ids id (e ∷ es) h =
      T_true _ (both _ _ (true_T _ (and_left (is_lt (id_cmp id e.0)) _ h)) (true_T _ (below-ids id es (and_right (is_lt (id_cmp id e.0)) _ h))))

  -- each once, by rising id
  turns-all : (es : ById X) → T (is_sorted id_cmp es) → turns es (ids_of es) ≡ all_changed f es
  turns-all [] h = refl
  turns-all (e ∷ es) h =
      ap (λ t. turns t (ids_of es)) (changed-first e es)
      ∙ turns-above (ids_of es) (e.0, f e.1) es (below-ids e.0 es (and_left (below_all id_cmp e.0 es) _ h))
      ∙ ap (λ t. (e.0, f e.1) ∷ t) (turns-all es (and_right (below_all id_cmp e.0 es) _ h))

-- ---- the definition

abbrev unheld : ℕ → Copy → Copy
unheld session copy = with_holds copy session 0

copies-left : (session : ℕ) (es : ById CopyView) → copies_of (all_changed (after_leave session) es) ≡ all_changed (unheld session) (copies_of es)
copies-left session [] = refl
copies-left session (e ∷ es) = ap (λ t. (e.0, unheld session e.1.copy) ∷ t) (copies-left session es)

abbrev pub NoneDoomed : ById Copy → Type 0
NoneDoomed es = (q : ObjectId) (copy : Copy) → at es q ≡ Some copy → copy.doomed ≡ false

unmarked : (b : Bool) → ◌≡◌ {A = ℕ} (cond b 1 0) 0 → b ≡ false
unmarked true e = absurd (omega (arith, e))
unmarked false e = refl

none_counted : (es : ById CopyView) → sum_by (λ e. doomed_one e.1) es ≡ 0 → NoneDoomed (copies_of es)
none_counted [] none q copy found = none_some copy found
none_counted (e ∷ es) none q copy found =
    let all = sum_by-cons (λ (e : ObjectId × CopyView). doomed_one e.1) e es in
    by (same_id q e.0) found (unmarked e.1.copy.doomed (omega (arith, all, none))) (none_counted es (omega (arith, all, none)) q copy)
  where
    by : (b : Bool) → cond b (Some e.1.copy) (at (copies_of es) q) ≡ Some copy → e.1.copy.doomed ≡ false → (at (copies_of es) q ≡ Some copy → copy.doomed ≡ false) → copy.doomed ≡ false
    by true found here rest = ap (λ y. y.doomed) (sym (some_value e.1.copy copy found)) ∙ here
    by false found here rest = rest found

none_of : (n : ℕ) → min n (2 ^ 64 - 1) ≡ 0 → n ≡ 0
none_of n e = grind (arith, e)

-- where none is counted, none is doomed
pub none_doomed : (es : ById CopyView) → total doomed_one es ≡ 0 → NoneDoomed (copies_of es)
none_doomed es none = none_counted es (none_of (sum_by (λ e. doomed_one e.1) es) none)

sound-still : (session : ℕ) (es : ById Copy) (id : ObjectId) → NoneDoomed es → NoneDoomed (changed (unheld session) es id)
sound-still session es id h = by (at es id) refl
  where
    by : (o : Option Copy) → at es id ≡ o → NoneDoomed (option_map_or (λ x. with_entry es id (unheld session x)) o es)
    by None e = h
    by (Some x) e = λ q copy found. here q copy (same_id q id) (sym (at-put es id (unheld session x) q) ∙ found)
      where
        here : (q : ObjectId) (copy : Copy) (b : Bool) → cond b (Some (unheld session x)) (at es q) ≡ Some copy → copy.doomed ≡ false
        here q copy true found = ap (λ y. y.doomed) (sym (some_value (unheld session x) copy found)) ∙ h id x e
        here q copy false found = h q copy found

-- one copy: nothing is removed, and nothing sent
leaves-one : (session : ℕ) (store : Shape) (id : ObjectId) → NoneDoomed store.copies → sending [] (leave_one session store id) ≡ done (record store { copies = changed (unheld session) store.copies id })
unfolding sending
leaves-one session store id h = by (at store.copies id) refl
  where
    by : (o : Option Copy) → at store.copies id ≡ o → sending [] (option_map_or (λ copy. done (settled (set_copy store id (unheld session copy)) id)) o (done store)) ≡ done (record store { copies = option_map_or (λ x. with_entry store.copies id (unheld session x)) o store.copies })
    by None e = refl
    by (Some copy) e = ap done (settled-stays (set_copy store id (unheld session copy)) id (unheld session copy) (at-put_here store.copies id (unheld session copy)) (h id copy e))

leaves-each : (session : ℕ) (ids : List ObjectId) (store : Shape) → NoneDoomed store.copies → at_each (leave_one session) ids (done store) ≡ done (record store { copies = turns (unheld session) store.copies ids })
leaves-each session [] store h = refl
leaves-each session (id ∷ ids) store h =
    ap (λ c. at_each (leave_one session) ids c) (leaves-one session store id h)
    ∙ leaves-each session ids (record store { copies = changed (unheld session) store.copies id }) (sound-still session store.copies id h)

-- ---- the step

module _ (node : ℕ) (row : Row) (beside : SharedTables) (contents : Contents) (session : ℕ) (h : IsShown row beside contents) (sound : NoneDoomed (copies_of row.copies)) where
  abbrev s : Shape
  s = shape_of row beside

  abbrev x : Input
  x = input.Call session command.Leave

  -- the row without the session's holds
  abbrev pub row_left : Row
  row_left = record row { copies = all_changed (after_leave session) row.copies }

  abbrev c : Change
  c = erasing s (done (shape_of row_left beside))

  one : (q : ObjectId) (y : CopyView) → at row_left.copies q ≡ Some y → (z : CopyView) × (at row.copies q ≡ Some z) × (y ≡ after_leave session z)
  one = from_all (after_leave session) row.copies

  leave-is : leave s session ≡ done (shape_of row_left beside)
  leave-is =
      leaves-each session (ids_of s.copies) s sound
      ∙ ap (λ t. done (record s { copies = t })) (turns-all (unheld session) s.copies (T_true _ h.kept.kept.shape.by_id) ∙ sym (copies-left session row.copies))

  step_is : step row.order s (judge node (seen row beside contents) x) ≡ c
  step_is = called row beside session command.Leave ∙ ap (erasing s) leave-is

  still : (q : ObjectId) → is_some (at s.copies q) ≡ true → is_some (at (copies_of row_left.copies) q) ≡ true
  still q t = ap (λ es. is_some (at es q)) (copies-left session row.copies) ∙ found_all (unheld session) s.copies q t

  there : AreThere (copies_of row_left.copies) row.order
  there = all_weaker (λ q. is_some (at s.copies q)) (λ q. is_some (at (copies_of row_left.copies) q)) row.order still h.there

  keys : T (list_all (λ e. is_some (at (copies_of row_left.copies) e.0)) s.copies)
  keys = T_true _ (all_weaker (λ e. is_some (at s.copies e.0)) (λ e. is_some (at (copies_of row_left.copies) e.0)) s.copies (λ e. still e.0) (true_T _ (all_found s.copies)))

  m : TakesChange node row beside contents h x c (only reply.Ok) row_left beside
  m = record {
    shape = refl;
    order = sym (reordered-unused row.order (copies_of row_left.copies) there);
    there = there;
    listed = λ q y e. h.listed q (one q y e).0 (one q y e).1;
    bytes = λ q y e is lies.
        let z = one q y is in
        ap (λ y. filled (at contents.bytes q) y.copy) z.2
        ∙ same_bytes node row beside contents h x q z.0 e z.1 (sym (ap (λ y. extent_of y.copy) z.2) ∙ lies)
        ∙ ap (λ y. take y.copy.length (placed_bytes e row.window.placed)) (sym z.2);
    digests = λ q y is keep.
        let z = one q y is in
        h.digests q z.0 z.1 (ap (λ y. keeps_digest y.copy) (sym z.2) ∙ keep) ∙ ap (λ y. unwrap_or y.digest no_digest) (sym z.2);
    working = λ q y is. let z = one q y is in ap (λ y. y.working) z.2 ∙ h.working q z.0 z.1;
    granted = λ q y is. let z = one q y is in ap (λ y. y.granted) z.2 ∙ h.granted q z.0 z.1;
    received = received_stays node row beside contents h x refl;
    reply = refl;
    erased = sym (ap (map (key_of row.job)) (keys_none s.copies (copies_of row_left.copies) keys));
  }

  pub leave_done : RowStep node row beside contents x (only reply.Ok) row_left beside
  leave_done = moved node row beside contents h x c step_is (only reply.Ok) row_left beside m refl
