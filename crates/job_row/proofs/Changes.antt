-- A change written through what a map of copies lends.
use Rattle.std.proofs.Common.{◌≡◌, not, cond, List, [], ◌∷◌, Option, Some, None, refl, sym, ap, ◌∙◌}
use Rattle.std.specs.Prelude.{OnOk, OnErr, Ok, Err}
use Rattle.std.specs.declared.result.Result.{Result}
use Rattle.std.specs.Option.{option_map_or}
use Rattle.std.specs.Map.{lookup, set_value}
use Rattle.std.proofs.lemmas.Map.Steps.{set_value_same}
use Rattle.obj_id.specs.declared.ids.ObjectId.{ObjectId}
use Rattle.obj_id.specs.Ids.{id_cmp, id_eq}
use Rattle.std.specs.Ordering.{is_eq}
use Rattle.std.specs.declared.cmp.Ordering.{Ordering}
use Rattle.std.specs.declared.cmp.Ordering.TheVariants.{Less, Equal, Greater}
use Rattle.std.specs.FinMap.Entries.{by_order}
use Rattle.store_facts.proofs.Ids.{same_id-itself}
use Rattle.private_store.specs.rules.Tables.{ById, at, with_entry, without_entry}
use Rattle.store_facts.proofs.ObjectMaps.{at-lookup, without_entry-absent}
use Rattle.store_facts.proofs.Rows.{at-put_here}
use Rattle.job_row.specs.Entries.{by_rising_id, changed}
use Rattle.job_row.proofs.Rising.{at-rising, set-rising}

module _ {X : Type 0} (f : X → X) (id : ObjectId) (es : ById X) where
  -- the entry is there
  pub changed-found : (x : X) → at es id ≡ Some x → changed f es id ≡ with_entry es id (f x)
  changed-found x found = ap (λ o. option_map_or (λ y. with_entry es id (f y)) o es) found

  pub changed-absent : at es id ≡ None → changed f es id ≡ es
  changed-absent none = ap (λ o. option_map_or (λ y. with_entry es id (f y)) o es) none

-- the entry after its change
pub at-changed_here : {X : Type 0} (f : X → X) (id : ObjectId) (es : ById X) (x : X) → at es id ≡ Some x → at (changed f es id) id ≡ Some (f x)
at-changed_here f id es x found = ap (λ t. at t id) (changed-found f id es x found) ∙ at-put_here es id (f x)

-- what is written through a loan of the entry is the table changed, as its holder sees it
module _ {X : Type 0} (f : X → X) (id : ObjectId) (es : List (ObjectId × X)) (now : ById X) (seen : by_rising_id es ≡ now) where
  pub not_written : (new : List (ObjectId × X)) → lookup (id_eq id) es ≡ None → new ≡ es → by_rising_id new ≡ changed f now id
  not_written new none same = ap by_rising_id same ∙ sym (changed-absent f id (by_rising_id es) (at-rising es id ∙ none)) ∙ ap (λ t. changed f t id) seen

  pub written : (new : List (ObjectId × X)) (x y : X) → lookup (id_eq id) es ≡ Some x → y ≡ f x → new ≡ set_value (id_eq id) es y → by_rising_id new ≡ changed f now id
  written new x y found is set =
      ap by_rising_id (set ∙ ap (set_value (id_eq id) es) is) ∙ set-rising id es x (f x) found ∙ sym (changed-found f id (by_rising_id es) x (at-rising es id ∙ found)) ∙ ap (λ t. changed f t id) seen

  -- where the write was refused, and left what it was lent
  pub unwritten : (new : List (ObjectId × X)) (x y : X) → lookup (id_eq id) es ≡ Some x → y ≡ x → new ≡ set_value (id_eq id) es y → by_rising_id new ≡ now
  unwritten new x y found is set = ap by_rising_id (set ∙ ap (set_value (id_eq id) es) is ∙ set_value_same (id_eq id) es x found) ∙ seen

  pub on_ok : {T E : Type 0} (r : Result T E) (new : List (ObjectId × X)) (x y : X) → lookup (id_eq id) es ≡ Some x → OnOk r (y ≡ f x) → new ≡ set_value (id_eq id) es y → OnOk r (by_rising_id new ≡ changed f now id)
  on_ok (Ok v) new x y found is set = written new x y found is set
  on_ok (Err e) new x y found is set = tt

  pub on_err : {T E : Type 0} (r : Result T E) (new : List (ObjectId × X)) (x y : X) → lookup (id_eq id) es ≡ Some x → OnErr r (y ≡ x) → new ≡ set_value (id_eq id) es y → OnErr r (by_rising_id new ≡ now)
  on_err (Ok v) new x y found is set = tt
  on_err (Err e) new x y found is set = unwritten new x y found is set

-- an entry put where there was none, and taken out again
pub put_back : {X : Type 0} (id : ObjectId) (es : ById X) (x : X) → at es id ≡ None → without_entry (with_entry es id x) id ≡ es
put_back id [] x none = ap (λ b. cond (not b) ((id, x) ∷ []) []) (same_id-itself id)
put_back id (e ∷ es) x none = by (id_cmp id e.0) refl (put_back id es x) none
  where
    by : (o : Ordering) → id_cmp id e.0 ≡ o → (at es id ≡ None → without_entry (with_entry es id x) id ≡ es) → cond (is_eq o) (Some e.1) (at es id) ≡ None
        → without_entry (by_order o ((id, x) ∷ e ∷ es) ((e.0, x) ∷ es) (e ∷ with_entry es id x)) id ≡ e ∷ es
    by Less less rest gone =
        ap (λ b. cond (not b) ((id, x) ∷ without_entry (e ∷ es) id) (without_entry (e ∷ es) id)) (same_id-itself id)
        ∙ without_entry-absent id (e ∷ es) (sym (at-lookup id (e ∷ es)) ∙ none)
    by Equal equal rest gone = cc
    by Greater greater rest gone = ap (λ o. cond (not (is_eq o)) (e ∷ without_entry (with_entry es id x) id) (without_entry (with_entry es id x) id)) greater ∙ ap (λ t. e ∷ t) (rest gone)

-- what a check says of a table, by the entry that the map of the table lends, and where there is none
pub checked_there : {X P : Type 0} (check : Option X → P) (id : ObjectId) (es : List (ObjectId × X)) (now : ById X) (x : X) → by_rising_id es ≡ now → lookup (id_eq id) es ≡ Some x → check (at now id) ≡ check (Some x)
checked_there check id es now x seen found = ap check (ap (λ t. at t id) (sym seen) ∙ at-rising es id ∙ found)

pub checked_absent : {X P : Type 0} (check : Option X → P) (id : ObjectId) (es : List (ObjectId × X)) (now : ById X) → by_rising_id es ≡ now → lookup (id_eq id) es ≡ None → check (at now id) ≡ check None
checked_absent check id es now seen none = ap check (ap (λ t. at t id) (sym seen) ∙ at-rising es id ∙ none)

-- and of the table after a write
pub checked_unwritten : {X P : Type 0} (check : Option X → P) (id : ObjectId) (es new : List (ObjectId × X)) → lookup (id_eq id) es ≡ None → new ≡ es → check (at (by_rising_id new) id) ≡ check None
checked_unwritten check id es new none same = ap (λ t. check (at (by_rising_id t) id)) same ∙ ap check (at-rising es id ∙ none)

pub checked_written : {X P : Type 0} (check : Option X → P) (id : ObjectId) (es new : List (ObjectId × X)) (x y : X) → lookup (id_eq id) es ≡ Some x → new ≡ set_value (id_eq id) es y → check (at (by_rising_id new) id) ≡ check (Some y)
checked_written check id es new x y found set =
    ap (λ t. check (at t id)) (written (λ old. y) id es (by_rising_id es) refl new x y found refl set)
    ∙ ap check (at-changed_here (λ old. y) id (by_rising_id es) x (at-rising es id ∙ found))

-- an entry that is there, as the table's holder sees it
pub found_rising : {X : Type 0} (id : ObjectId) (es : List (ObjectId × X)) (now : ById X) → by_rising_id es ≡ now → (x : X) → lookup (id_eq id) es ≡ Some x → at now id ≡ Some x
found_rising id es now seen x found = ap (λ t. at t id) (sym seen) ∙ at-rising es id ∙ found
