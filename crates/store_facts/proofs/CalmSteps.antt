-- The inputs that place, fill and seal nothing: each copy keeps its bytes or loses them.
use Rattle.std.proofs.Common.{◌≡◌, ℕ, true, false, ◌==◌, ◌&&◌, List, [], ◌∷◌, filter, Option, Some, None, inl, inr, not, refl, sym, ap, subst, ◌∙◌}
use Rattle.std.specs.Option.{option_map_or}
use Rattle.obj_id.specs.declared.ids.ObjectId.{ObjectId}
use Rattle.obj_id.specs.Ids.{same_id}
use Rattle.private_store.specs.declared.inputs.Judged.{Judged}
use Rattle.private_store.specs.declared.inputs.Judged.TheVariants as judged
use Rattle.private_store.specs.rules.Tables.{ById, at, with_entry, without_entry}
use Rattle.private_store.specs.rules.Shape.{Copy, Shape, Seen, GrantTaken}
use Rattle.private_store.specs.rules.Marks.{Mark, marked}
use Rattle.private_store.specs.rules.Marks as mark
use Rattle.private_store.specs.rules.Room.{set_copy}
use Rattle.private_store.specs.rules.Events.{without_work, is_the_grant, without_grant}
use Rattle.private_store.specs.rules.Step.{step}
use Rattle.private_store.specs.laws.Invariants.{is_end}
use Rattle.private_store.specs.laws.Made.{Can, Edit, marks, drops, creates, fetches, asks, finishes, receives, loses, begins, requotas, ends, is_calm}
use Rattle.store_facts.proofs.EachStep.{input_keeps}
use Rattle.store_facts.proofs.Tests.{true_false}
use Rattle.store_facts.proofs.Turns.{filtered_any}
use Rattle.store_facts.proofs.Rows.{IsTame, Quiet, SeenRow, seen_stays, put_rows, drop_rows, quiet_stays, quiet_then, quiet_set, quiet_drop}

-- the copy that stands there, with other marks
pub quiet_marked : (store : Shape) (id : ObjectId) (c d : Copy) → at store.copies id ≡ Some c → d.length ≡ c.length → d.backed ≡ c.backed → d.offset ≡ c.offset → d.state ≡ c.state → Quiet store (set_copy store id d)
quiet_marked store id c d e length backed offset state = quiet_set store id c d e (record { length = length; backed = backed; stands = inl (offset, state) })

pub quiet_rest : (store : Shape) (number : ℕ) → Quiet store (without_work store number)
quiet_rest store number =
    let q = quiet_stays store in
    record { row = q.row; writes = λ id. filtered_any (λ work. same_id id work.id && work.writes) (λ work. not (work.number == number)) store.works; quota = refl; seen = q.seen }

mark_tame : (x : Judged) → is_calm x ≡ true → (m : Mark) (copy : Copy) → Can x m copy → IsTame copy (marked m copy)
mark_tame x calm mark.sealed copy can = true_false (sym can ∙ calm)
mark_tame x calm (mark.backed number) copy can = true_false (sym can ∙ calm)
mark_tame x calm (mark.restoring offset) copy can = true_false (sym can ∙ calm)
mark_tame x calm mark.restored copy can = true_false (sym can ∙ calm)
mark_tame x calm (mark.located fetch source) copy can = true_false (sym can.1 ∙ calm)
mark_tame x calm (mark.pulled fetch offset source) copy can = true_false (sym can.1 ∙ calm)
mark_tame x calm mark.brought copy can = true_false (sym can ∙ calm)
mark_tame x calm (mark.fetch_failed fetch fault) copy can = true_false (sym can.1 ∙ calm)
mark_tame x calm mark.evicted copy can = record { length = refl; backed = refl; stands = inr (refl, refl) }
mark_tame x calm (mark.lost fault) copy can = record { length = refl; backed = refl; stands = inr (refl, refl) }
mark_tame x calm _ copy can = record { length = refl; backed = refl; stands = inl (refl, refl) }

-- what is left of an object that others granted has its length still
left_row : (table : ById Seen) (id : ObjectId) (grantor depth : ℕ) (seen : Seen) → at table id ≡ Some seen
    → (q : ObjectId) → SeenRow (at table q) (at (option_map_or (λ left. with_entry table id left) (without_grant seen grantor depth) (without_entry table id)) q)
left_row table id grantor depth seen e = by_left (filter (λ grant. not (is_the_grant grantor depth grant)) seen.grants)
  where
    by_left : (grants : List GrantTaken) (q : ObjectId)
        → SeenRow (at table q) (at (option_map_or (λ left. with_entry table id left) (elim grants [ [] ↦ None | grant ∷ grants ↦ Some (record seen { grants = grant ∷ grants }) ]) (without_entry table id)) q)
    by_left [] = drop_rows (λ q o. SeenRow (at table q) o) table id (λ q. tt) (λ q. seen_stays (at table q))
    by_left (grant ∷ grants) = put_rows (λ q o. SeenRow (at table q) o) table id (record seen { grants = grant ∷ grants }) (subst (λ o. SeenRow o (Some (record seen { grants = grant ∷ grants }))) (sym e) refl) (λ q _. seen_stays (at table q))

end_stirs : (x : Judged) → is_end x ≡ true → is_calm x ≡ false
end_stirs judged.End e = refl
end_stirs x e = true_false e

edit_calm : {x : Judged} → is_calm x ≡ true → (used : Option ObjectId) (store after : Shape) → Edit x used store after → Quiet store after
edit_calm {x} calm used store after (marks id copy m e can) = quiet_set store id copy (marked m copy) e (mark_tame x calm m copy can)
edit_calm calm used store after (drops id copy e goes) = quiet_drop store store id (quiet_stays store)
edit_calm calm used store after (creates id kind n offset u stirs) = true_false (sym stirs ∙ calm)
edit_calm calm used store after (fetches id u e n stirs) = true_false (sym stirs ∙ calm)
edit_calm calm used store after (asks writes id stirs) = true_false (sym stirs ∙ calm)
edit_calm calm used store after (finishes number) = quiet_rest store number
edit_calm calm used store after (receives id n grantor depth is) = true_false (sym (ap is_calm is) ∙ calm)
edit_calm calm used store after (loses id grantor depth seen e is) = let q = quiet_stays store in record { row = q.row; writes = q.writes; quota = refl; seen = left_row store.received id grantor depth seen e }
edit_calm calm used store after (begins quota is fresh fine) = true_false (sym (ap is_calm is) ∙ calm)
edit_calm calm used store after (requotas quota is fine fits) = true_false (sym (ap is_calm is) ∙ calm)
edit_calm {x} calm used store after (ends is lives) = true_false (sym (end_stirs x is) ∙ calm)
edit_calm calm used store after _ = quiet_stays store

pub step_calm : (order : List ObjectId) (store : Shape) (x : Judged) → is_calm x ≡ true → Quiet store (step order store x).shape
step_calm order store x calm = input_keeps (Quiet store) order store x (λ used mid next e h. quiet_then store mid next h (edit_calm calm used mid next e)) (quiet_stays store)
