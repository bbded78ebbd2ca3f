-- The window, the copies and the works of a row describe its job's store.
use Rattle.std.proofs.Common.{◌≡◌, ℕ, Bool, true, false, not, ◌&&◌, ◌||◌, cond, inl, inr, nat_eq, List, [], ◌∷◌, length, Contains, Option, Some, None, is_some, is_none, option_map, refl, sym, ap, subst, ◌∙◌, T, arith}
use Rattle.std.specs.Prelude.{◌↔◌, IsSomeAnd, filter_map, find}
use Rattle.std.specs.List.{list_any, cons_option}
use Rattle.std.specs.Option.{option_and_then}
use Rattle.std.specs.Map.{lookup}
use Rattle.std.specs.FinMap.Entries.{is_sorted, below_all}
use Rattle.std.proofs.lemmas.Bool.Decides.{nat_tests}
use Rattle.obj_id.specs.declared.ids.ObjectId.{ObjectId}
use Rattle.obj_id.specs.declared.works.Extent.{Extent}
use Rattle.obj_id.specs.declared.works.WorkKind.{WorkKind}
use Rattle.obj_id.specs.declared.works.WorkKind.TheVariants.{Write, Read}
use Rattle.obj_id.specs.Ids.{id_cmp, same_id}
use Rattle.private_store.specs.rules.Tables.{ById, at}
use Rattle.private_store.specs.rules.Extents.{rounded}
use Rattle.private_store.specs.rules.Shape.{Copy, Shape, WorkInFlight}
use Rattle.private_store.specs.laws.Invariants.{has_grant}
use Rattle.obj_id.specs.Kinds.{is_primary}
use Rattle.private_store.specs.rules.Copies.{extent_of, is_held, is_sealed, is_working, device_used}
use Rattle.private_store.specs.rules.Contents.{Contents}
use Rattle.store_facts.proofs.Tests.{T_true, and_right, none_some, some_value}
use Rattle.job_region.specs.Region.{extents_of, IsAt}
use Rattle.lru_evictor.specs.declared.facts.DeviceRoom.{DeviceRoom}
use Rattle.lru_evictor.specs.Facts.{Looked}
use Rattle.lru_evictor.specs.Plans.{IsDescribed, extents_in, facts_of as store_facts}
use Rattle.row_copy.specs.CopyViews.{CopyView}
use Rattle.job_row.specs.Row.{Row, copies_of, place_of, ArePlaced}
use Rattle.row_steps.specs.Shown.{IsShown, work_on}
use Rattle.job_row.specs.InSync.{facts_in}
use Rattle.job_row.specs.RowFacts.{row_facts_of}
use Rattle.job_row.proofs.ForCallers.{at-first, at-rest, at-copies, at-copies_found, first_in, later_in, nothing_in, one_of}
use Rattle.row_steps.proofs.Passed.{place_found}
use Rattle.row_steps.specs.Beside.{SharedTables, shape_of}

-- the row's own copy
kept_found : (es : ById CopyView) (id : ObjectId) (copy : Copy) → at (copies_of es) id ≡ Some copy → (k : CopyView) × (at es id ≡ Some k) × (k.copy ≡ copy)
kept_found es id copy found = by (at es id) refl
  where
    by : (o : Option CopyView) → at es id ≡ o → (k : CopyView) × (at es id ≡ Some k) × (k.copy ≡ copy)
    by None e = none_some copy (ap (option_map (λ k. k.copy)) (sym e) ∙ sym (at-copies es id) ∙ found)
    by (Some k) e = (k, e, some_value k.copy copy (ap (option_map (λ k. k.copy)) (sym e) ∙ sym (at-copies es id) ∙ found))

-- ---- works

pub working-on : (works : List WorkInFlight) (id : ObjectId) → is_some (work_on works id) ≡ list_any (λ work. same_id id work.id) works
working-on [] id = refl
working-on (w ∷ ws) id = by (same_id id w.id) (working-on ws id)
  where
    by : (b : Bool) → is_some (work_on ws id) ≡ list_any (λ work. same_id id work.id) ws
        → is_some (option_map (λ (w : WorkInFlight). cond w.writes Write Read) (cond b (Some w) (find (λ w. same_id id w.id) ws))) ≡ b || list_any (λ work. same_id id work.id) ws
    by true h = refl
    by false h = h

-- ---- facts

pub idle_same : (held kept granted working : Bool) (o : Option WorkKind) → kept ≡ granted → is_some o ≡ working → not held && not kept && is_none o ≡ not held && not granted && not working
idle_same held kept granted working o g e = (λ i. not held && not (g i) && is_none o) ∙ ap (λ b. not held && not granted && b) (none_is o ∙ ap not e)
  where
    none_is : (o : Option WorkKind) → is_none o ≡ not (is_some o)
    none_is None = refl
    none_is (Some kind) = refl

facts_same : (row : Row) (beside : SharedTables) (id : ObjectId) (k : CopyView) → k.granted ≡ has_grant beside.given id → is_some k.working ≡ is_working (shape_of row beside) id → row_facts_of k ≡ store_facts (shape_of row beside) id k.copy
facts_same row beside id k g e = λ i. record {
  extent = extent_of k.copy;
  bytes = rounded k.copy.length;
  evictable = is_sealed k.copy.state && idle_same (is_held k.copy) k.granted (has_grant beside.given id) (is_working (shape_of row beside) id) k.working g e i && (not (is_primary k.copy.kind) || is_some k.copy.backed);
  draining = (e i) && is_some k.copy.offset && not (is_held k.copy) && not (g i);
  spillable = is_sealed k.copy.state && is_primary k.copy.kind && is_none k.copy.backed && idle_same (is_held k.copy) k.granted (has_grant beside.given id) (is_working (shape_of row beside) id) k.working g e i && not k.copy.doomed;
}

-- ---- extents

-- the extent of a copy is among those of all
extent_in : (es : ById Copy) (id : ObjectId) (copy : Copy) (x : Extent) → at es id ≡ Some copy → extent_of copy ≡ Some x → Contains (filter_map (λ e. extent_of e.1) es) x
extent_in [] id copy x found lies = none_some copy found
extent_in (e ∷ es) id copy x found lies = by (same_id id e.0) (λ f. extent_in es id copy x f lies) found
  where
    more : (o : Option Extent) → Contains (filter_map (λ e. extent_of e.1) es) x → Contains (cons_option o (filter_map (λ e. extent_of e.1) es)) x
    more None h = h
    more (Some y) h = later_in y x (filter_map (λ e. extent_of e.1) es) h

    by : (b : Bool) → (at es id ≡ Some copy → Contains (filter_map (λ e. extent_of e.1) es) x) → cond b (Some e.1) (at es id) ≡ Some copy → Contains (cons_option (extent_of e.1) (filter_map (λ e. extent_of e.1) es)) x
    by true rest f = subst (λ o. Contains (cons_option o (filter_map (λ e. extent_of e.1) es)) x) (sym (ap extent_of (some_value e.1 copy f) ∙ lies)) (first_in x (filter_map (λ e. extent_of e.1) es))
    by false rest f = more (extent_of e.1) (rest f)

record Owner (es : ById Copy) (x : Extent) : Type 0 where
  id : ObjectId
  copy : Copy
  found : at es id ≡ Some copy
  lies : extent_of copy ≡ Some x

-- an extent among them is that of a copy
extent_owned : (es : ById Copy) (x : Extent) → T (is_sorted id_cmp es) → Contains (filter_map (λ e. extent_of e.1) es) x → Owner es x
extent_owned [] x h c = absurd (nothing_in x c)
extent_owned (e ∷ es) x h c =
    by (extent_of e.1) refl (λ c. let o = extent_owned es x (and_right (below_all id_cmp e.0 es) _ h) c in record { id = o.id; copy = o.copy; found = at-rest e es h o.id o.copy o.found; lies = o.lies }) c
  where
    by : (o : Option Extent) → extent_of e.1 ≡ o → (Contains (filter_map (λ e. extent_of e.1) es) x → Owner (e ∷ es) x) → Contains (cons_option o (filter_map (λ e. extent_of e.1) es)) x → Owner (e ∷ es) x
    by None lies later c = later c
    by (Some y) lies later c = elim (one_of y x (filter_map (λ e. extent_of e.1) es) c) [
      | inl same ↦ record { id = e.0; copy = e.1; found = at-first e es; lies = lies ∙ ap Some same }
      | inr c ↦ later c
    ]

-- what is placed is among the window's extents
placed_in : (placed : List (ℕ × List ℕ)) (x : Extent) → IsAt x placed → Contains (extents_of placed) x
placed_in [] x h = absurd h
placed_in (p ∷ placed) x h = by (nat_eq x.offset p.0) refl (placed_in placed x) h
  where
    by : (b : Bool) → nat_eq x.offset p.0 ≡ b → (IsAt x placed → Contains (extents_of placed) x) → IsSomeAnd (cond b (Some p.1) (lookup (nat_eq x.offset) placed)) (λ bytes. length bytes ≡ x.length) → Contains (extents_of (p ∷ placed)) x
    by true t rest long =
        let same : p.0 ≡ x.offset = grind (arith, nat_tests, t) in
        let is : ◌≡◌ {A = Extent} (record { offset = p.0; length = length p.1 }) x = λ i. record { offset = same i; length = long i } in
        subst (λ y. Contains (y ∷ extents_of placed) x) (sym is) (first_in x (extents_of placed))
    by false t rest long = later_in (record { offset = p.0; length = length p.1 }) x (extents_of placed) (rest long)

-- ---- all of it

abbrev pub facts_at : ById CopyView → Looked
facts_at = facts_in

module _ (row : Row) (beside : SharedTables) (contents : Contents) (h : IsShown row beside contents) (placed : ArePlaced row.window.placed (place_of row.copies)) where
  abbrev s : Shape
  s = shape_of row beside

  sorted : T (is_sorted id_cmp (copies_of row.copies))
  sorted = T_true _ h.kept.kept.shape.by_id

  looked_at : (id : ObjectId) → facts_at row.copies id ≡ option_map (store_facts s id) (at s.copies id)
  looked_at id = by (at row.copies id) refl ∙ ap (option_map (store_facts s id)) (sym (at-copies row.copies id))
    where
      by : (o : Option CopyView) → at row.copies id ≡ o → option_map row_facts_of o ≡ option_map (store_facts s id) (option_map (λ k. k.copy) o)
      by None e = refl
      by (Some k) e = ap Some (facts_same row beside id k (h.granted id k e) (ap is_some (h.working id k e) ∙ working-on s.works id))

  place_is : (id : ObjectId) (copy : Copy) → at s.copies id ≡ Some copy → place_of row.copies id ≡ extent_of copy
  place_is id copy found = let k = kept_found row.copies id copy found in place_found row.copies id k.0 k.1 ∙ ap extent_of k.2

  pub same_extents : (x : Extent) → Contains (extents_of row.window.placed) x ↔ Contains (extents_in s) x
  same_extents x = (there, back)
    where
      there : Contains (extents_of row.window.placed) x → Contains (extents_in s) x
      there c =
          let o = placed.owned x c in
          (elim (at row.copies o.0) as (λ k. at row.copies o.0 ≡ k → option_and_then (λ (kept : CopyView). extent_of kept.copy) k ≡ Some x → Contains (extents_in s) x) [
            | None ↦ λ e lies. none_some x lies
            | Some k ↦ λ e lies. extent_in s.copies o.0 k.copy x (at-copies_found row.copies o.0 k e) lies
          ]) refl o.1

      back : Contains (extents_in s) x → Contains (extents_of row.window.placed) x
      back c = let o = extent_owned s.copies x sorted c in placed_in row.window.placed x (placed.there o.id x (place_is o.id o.copy o.found ∙ o.lies))

  own_offsets : (a b : ObjectId) (x y : Copy) (o : ℕ) → at s.copies a ≡ Some x → at s.copies b ≡ Some y → x.offset ≡ Some o → y.offset ≡ Some o → a ≡ b
  own_offsets a b x y o at_a at_b in_x in_y =
      placed.apart a b (record { offset = o; length = rounded x.length }) (record { offset = o; length = rounded y.length })
      (place_is a x at_a ∙ ap (option_map (λ p. record { offset = p; length = rounded x.length })) in_x)
      (place_is b y at_b ∙ ap (option_map (λ p. record { offset = p; length = rounded y.length })) in_y) refl

  pub described : (device : DeviceRoom) → device.quota ≡ row.device → device.used ≡ device_used s → device.works ≡ length s.works → IsDescribed s row.window device (facts_at row.copies)
  described device quota used works = record {
    by_id = h.kept.kept.shape.by_id;
    looked = looked_at;
    extents = same_extents;
    offsets = own_offsets;
    quota = refl;
    device_quota = quota;
    used = used;
    works = works;
  }
