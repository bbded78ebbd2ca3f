-- Changes of copies alone, one id after another: what they do to the table, row by row.
use Rattle.std.proofs.Common.{◌≡◌, ℕ, Bool, true, false, cond, ◌&&◌, List, [], ◌∷◌, fold, Option, Some, None, is_some, refl, sym, ap, subst, ◌∙◌}
use Rattle.std.specs.Option.{option_map_or}
use Rattle.obj_id.specs.declared.ids.ObjectId.{ObjectId}
use Rattle.private_store.specs.rules.Tables.{ById, at}
use Rattle.private_store.specs.rules.Shape.{Copy, Shape, Change}
use Rattle.private_store.specs.rules.Copies.{is_idle, in_scope}
use Rattle.private_store.specs.rules.Room.{set_copy, drop_copy}
use Rattle.private_store.specs.rules.Change.{done, sending, settled, doomed, doom}
use Rattle.private_store.specs.rules.Commands.{scoped, at_each}
use Rattle.private_store.specs.laws.Invariants.{are_held, has_work, has_grant}
use Rattle.store_facts.proofs.KeptCopy.{is_kept_up, idle_granted, idle_working, not_idle}
use Rattle.store_facts.proofs.KeptRows.{IsRowChange, row_put, row_drop, row_then, row_here}
use Rattle.store_facts.proofs.Tests.{and_rest, both_right, false_true}

-- ---- changes of copies alone

pub record IsOfCopies (store new : Shape) : Type 0 where
  pub is : new ≡ record store { copies = new.copies }

pub settled_of_copies : (store : Shape) (id : ObjectId) → IsOfCopies store (settled store id)
settled_of_copies store id =
    elim (at store.copies id) as (λ o. IsOfCopies store (option_map_or (λ copy. cond (copy.doomed && is_idle store id copy) (drop_copy store id) store) o store)) [
      | None ↦ record { is = refl }
      | Some copy ↦ elim (copy.doomed && is_idle store id copy) as (λ b. IsOfCopies store (cond b (drop_copy store id) store)) [ true ↦ record { is = refl } | false ↦ record { is = refl } ]
    ]

pub doomed_of_copies : (store : Shape) (id : ObjectId) → IsOfCopies store (doomed store id)
doomed_of_copies store id =
    elim (at store.copies id) as (λ o. IsOfCopies store (option_map_or (λ copy. settled (set_copy store id (record copy { doomed = true })) id) o store)) [
      | None ↦ record { is = refl }
      | Some copy ↦ record { is = (settled_of_copies (set_copy store id (record copy { doomed = true })) id).is }
    ]

pub scoped_of_copies : (store : Shape) (id : ObjectId) (copy : Copy) → IsOfCopies store (scoped store id copy).shape
unfolding sending
scoped_of_copies store id copy =
    elim (in_scope copy) as (λ b. IsOfCopies store (cond b (done (set_copy store id copy)) (doom (set_copy store id copy) id)).shape) [
      | true ↦ record { is = refl }
      | false ↦ record { is = (doomed_of_copies (set_copy store id copy) id).is }
    ]

-- what the change at each id makes of the table
pub fold_of_copies : (f : Shape → ObjectId → Shape) → ((store : Shape) (id : ObjectId) → IsOfCopies store (f store id)) → (store : Shape) (ids : List ObjectId)
    → fold f store ids ≡ record store { copies = fold (λ copies id. (f (record store { copies = copies }) id).copies) store.copies ids }
fold_of_copies f each store [] = refl
fold_of_copies f each store (id ∷ ids) = ap (λ s. fold f s ids) (each store id).is ∙ fold_of_copies f each (record store { copies = (f store id).copies }) ids

pub at_each-shape : (f : Shape → ObjectId → Change) (ids : List ObjectId) (c : Change) → (at_each f ids c).shape ≡ fold (λ store id. (f store id).shape) c.shape ids
unfolding sending
at_each-shape f [] c = refl
at_each-shape f (id ∷ ids) c = at_each-shape f ids (sending c.sent (f c.shape id))

-- ---- rows

-- the row of the id is another now, of which this holds
pub record RowOf (most : ℕ) (copies : ById Copy) (id : ObjectId) (P : Option Copy → Type 0) (new : ById Copy) : Type 0 where
  pub row : Option Copy
  pub change : IsRowChange most copies id row new
  pub holds : P row

module _ (most : ℕ) (copies : ById Copy) (id : ObjectId) (P : Option Copy → Type 0) (store : Shape) where
  settled_as : (copy : Copy) → IsRowChange most copies id (Some copy) store.copies → (has_work store.works id ≡ false → has_grant store.given id ≡ false → P None)
      → ((copy.doomed ≡ true → is_kept_up store.works store.given id copy ≡ true) → P (Some copy))
      → (b : Bool) → copy.doomed && is_idle store id copy ≡ b → RowOf most copies id P (cond b (drop_copy store id) store).copies
  settled_as copy c none some true t =
      let idle = both_right copy.doomed (is_idle store id copy) t in
      record {
        row = None;
        change = row_then c (row_drop store.copies id c.in_order c.few);
        holds = none (idle_working (are_held copy.holds) (has_grant store.given id) (has_work store.works id) idle) (idle_granted (are_held copy.holds) (has_grant store.given id) (has_work store.works id) idle);
      }
  settled_as copy c none some false t = record {
    row = Some copy;
    change = c;
    holds = some (λ d. not_idle (are_held copy.holds) (has_grant store.given id) (has_work store.works id) (and_rest copy.doomed (is_idle store id copy) d t));
  }

  -- a copy settles: it goes, or something keeps it
  pub settled_row : (copy : Copy) → IsRowChange most copies id (Some copy) store.copies → (has_work store.works id ≡ false → has_grant store.given id ≡ false → P None)
      → ((copy.doomed ≡ true → is_kept_up store.works store.given id copy ≡ true) → P (Some copy)) → RowOf most copies id P (settled store id).copies
  settled_row copy c none some =
      subst (λ o. RowOf most copies id P (option_map_or (λ x. cond (x.doomed && is_idle store id x) (drop_copy store id) store) o store).copies) (sym (row_here c))
      (settled_as copy c none some (copy.doomed && is_idle store id copy) refl)

-- a copy is doomed
pub doomed_row : (most : ℕ) (copies : ById Copy) (id : ObjectId) (P : Option Copy → Type 0) (store : Shape) (copy : Copy) → IsRowChange most copies id (Some copy) store.copies
    → (has_work store.works id ≡ false → has_grant store.given id ≡ false → P None) → (is_kept_up store.works store.given id copy ≡ true → P (Some (record copy { doomed = true })))
    → RowOf most copies id P (doomed store id).copies
doomed_row most copies id P store copy c none some =
    let gone : Copy = record copy { doomed = true } in
    subst (λ o. RowOf most copies id P (option_map_or (λ x. settled (set_copy store id (record x { doomed = true })) id) o store).copies) (sym (row_here c))
    (settled_row most copies id P (set_copy store id gone) gone
    (row_then c (row_put store.copies id gone c.in_order c.few (λ f. false_true (sym (ap is_some (row_here c)) ∙ f)))) none (λ k. some (k refl)))
