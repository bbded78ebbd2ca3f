-- A row takes Create where a place is made for the new copy, or there is one.
use Rattle.std.proofs.Common.{◌≡◌, ℕ, Bool, true, false, not, cond, ◌==◌, nat_eq, nat_le, List, [], ◌∷◌, ◌++◌, Option, Some, None, is_some, option_map, refl, sym, ap, subst, ◌∙◌}
use Rattle.std.specs.Prelude.{if◌then◌else◌}
use Rattle.std.specs.List.{list_any}
use Rattle.std.specs.Option.{option_and_then}
use Rattle.std.specs.Map.{lookup}
use Rattle.obj_id.specs.declared.ids.ObjectId.{ObjectId}
use Rattle.obj_id.specs.declared.works.WorkKind.TheVariants.{Write, Read}
use Rattle.obj_id.specs.declared.commands.Kind.{Kind}
use Rattle.obj_id.specs.declared.commands.Command.TheVariants as command
use Rattle.obj_id.specs.declared.commands.Reply.TheVariants as reply
use Rattle.obj_id.specs.declared.refusals.Refusal.{Refusal}
use Rattle.obj_id.specs.declared.refusals.Refusal.TheVariants.{BadSize, Gone, Exists, TooMany}
use Rattle.obj_id.specs.Ids.{id_eq, same_id}
use Rattle.store_facts.proofs.Ids.{same_id-flip, same_id-id_eq}
use Rattle.private_store.specs.declared.inputs.Input.{Input}
use Rattle.private_store.specs.declared.inputs.Input.TheVariants as input
use Rattle.private_store.specs.rules.Limits.{most_copies}
use Rattle.private_store.specs.rules.Tables.{at, is_among}
use Rattle.private_store.specs.rules.Extents.{rounded, first, is_size}
use Rattle.private_store.specs.rules.Shape.{Copy, Shape, Change}
use Rattle.private_store.specs.rules.Copies.{extent_of}
use Rattle.private_store.specs.rules.Room.{make_room}
use Rattle.private_store.specs.rules.Change.{erasing, in_room}
use Rattle.private_store.specs.laws.Invariants.{has_grant, is_remembered}
use Rattle.std.proofs.lemmas.Bool.{eqb-true}
use Rattle.private_store.specs.rules.Commands.{create_checks, create, created}
use Rattle.private_store.specs.rules.Contents.{Contents, judge}
use Rattle.private_store.specs.rules.Step.{step}
use Rattle.store_facts.proofs.Tests.{none_here, some_value, none_some, true_false}
use Rattle.job_region.specs.Region.{extents_of}
use Rattle.row_copy.specs.CopyViews.{CopyView, new_copy_view}
use Rattle.job_row.specs.Row.{Row, copies_of, place_of, ArePlaced}
use Rattle.job_row.specs.Checks.{create_check}
use Rattle.job_row.specs.Evicting.{placed_without, replaced, removals}
use Rattle.room_commands.specs.MadeRooms.{BringsNothing}
use Rattle.room_commands.proofs.Rooms.{each_among, placed_done}
use Rattle.room_commands.specs.RoomPlans.{MakesPlace}
use Rattle.row_steps.specs.Shown.{seen, work_on, IsShown, only, RowStep}
use Rattle.row_steps.proofs.ForCallers.{unless_refused, by-checks, called, own, all_failed, not_not, stays}
use Rattle.job_row.proofs.ForCallers.{at-copies, at-copies_none}
use Rattle.room_commands.proofs.Fetching.{length-map, nothing_found}
use Rattle.row_steps.specs.Beside.{SharedTables, shape_of}

-- what passes the checks is of a size
pub size_of : (row : Row) (id : ObjectId) (n : ℕ) → create_check row id n ≡ None → is_size row.window.quota n ≡ true
size_of row id n passed = not_not (is_size row.window.quota n) (all_failed (create_checks row.window.quota row.ended_tasks row.copies id n) passed).0

-- and has no copy
pub absent_of : (row : Row) (id : ObjectId) (n : ℕ) → create_check row id n ≡ None → at row.copies id ≡ None
absent_of row id n passed = none_here (at row.copies id) (all_failed (create_checks row.window.quota row.ended_tasks row.copies id n) passed).1.1.0

module _ (node : ℕ) (row : Row) (beside : SharedTables) (contents : Contents) (session : ℕ) (id : ObjectId) (kind : Kind) (n : ℕ) (mine : (id.job.0 == row.job) ≡ true) (h : IsShown row beside contents) where
  abbrev s : Shape
  s = shape_of row beside

  abbrev pub x : Input
  x = input.Call session (command.Create id kind n)

  abbrev room_change : Change
  room_change = in_room (make_room row.order s n) (created id kind n)

  same_presence : is_some (at s.copies id) ≡ is_some (at row.copies id)
  same_presence = ap is_some (at-copies row.copies id) ∙ by (at row.copies id)
    where
      by : (o : Option CopyView) → is_some (option_map (λ (k : CopyView). k.copy) o) ≡ is_some o
      by None = refl
      by (Some k) = refl

  create_is : step row.order s (judge node (seen row beside contents) x) ≡ erasing s (unless_refused s (create_check row id n) room_change)
  create_is =
      called row beside session (command.Create id kind n)
      ∙ ap (erasing s) (own row beside id (create row.order s id kind n) mine
      ∙ by-checks s (create_checks s.quota.window s.ended_tasks s.copies id n) _ room_change refl
      ∙ (λ i. unless_refused s (cond (not (is_size row.window.quota n)) (Some BadSize) (cond (is_remembered row.ended_tasks id.task) (Some Gone) (cond (same_presence i) (Some Exists) (cond (nat_le most_copies (length-map {B = ObjectId × Copy} (λ e. (e.0, e.1.copy)) row.copies i)) (Some TooMany) None)))) room_change))

  pub quiet : BringsNothing node (seen row beside contents) x
  quiet = record { bytes = λ r. refl; digests = λ r. refl; received = refl }

  pub create_refused : (r : Refusal) → create_check row id n ≡ Some r → RowStep node row beside contents x (only (reply.Refused r)) row beside
  create_refused r e = stays node row beside contents h x (reply.Refused r) (create_is ∙ ap (λ o. erasing s (unless_refused s o room_change)) e) refl refl refl

  module _ (passed : create_check row id n ≡ None) where
    pub by_room : step row.order s (judge node (seen row beside contents) x) ≡ erasing s (in_room (make_room row.order s n) (created id kind n))
    by_room = create_is ∙ ap (λ o. erasing s (unless_refused s o room_change)) passed

    absent : at row.copies id ≡ None
    absent = absent_of row id n passed

    -- what has no copy isn't in the order of use
    pub unlisted : is_among row.order id ≡ false
    unlisted = by (is_among row.order id) refl
      where
        by : (b : Bool) → is_among row.order id ≡ b → b ≡ false
        by false among = refl
        by true among = true_false (sym (ap is_some (at-copies_none row.copies id absent)) ∙ each_among (λ q. is_some (at (copies_of row.copies) q)) row.order h.there id among)

    module _ (victims : List ObjectId) (makes : MakesPlace (make_room row.order s n) s n victims) (stays : is_among victims id ≡ false) where
      module _ (placed : ArePlaced row.window.placed (place_of row.copies)) (offset : ℕ) (least : first (extents_of (placed_without row victims)) row.window.quota n ≡ Some offset) (free : lookup (nat_eq offset) (placed_without row victims) ≡ None) where
        no_work : work_on beside.works id ≡ None
        no_work = ap (option_map (λ w. if w.writes then Write else Read)) (nothing_found (λ w. same_id id w.id) beside.works (h.kept.kept.shape.works_of_copies id (at-copies_none row.copies id absent)))

        no_grant : has_grant beside.given id ≡ false
        no_grant = h.kept.kept.shape.grants_of_copies id (eqb-true id.job.0 row.job mine) (at-copies_none row.copies id absent)

        append_nil : {Y : Type 0} (ys : List Y) → ys ++ [] ≡ ys
        append_nil [] = refl
        append_nil (y ∷ ys) = ap (λ zs. y ∷ zs) (append_nil ys)

        pub create_done : RowStep node row beside contents x (record { reply = reply.Placed offset (rounded n); posts = removals node row.copies victims; erased = [] }) (replaced row (Some id) id (new_copy_view kind n offset) n offset victims) beside
        create_done =
            subst (λ ps. RowStep node row beside contents x (record { reply = reply.Placed offset (rounded n); posts = ps; erased = [] }) (replaced row (Some id) id (new_copy_view kind n offset) n offset victims) beside) (append_nil (removals node row.copies victims))
            (placed_done node row beside contents h x quiet n (created id kind n) by_room victims makes placed id (new_copy_view kind n offset)
            (ap (option_and_then (λ (k : CopyView). extent_of k.copy)) absent) stays offset refl refl least free beside.works beside.used (Some id)
            refl refl (λ u is. some_value u id (sym is)) (λ none. none_some id (sym none)) (λ keeps. true_false keeps) (sym no_work) (λ q differs. refl) (sym no_grant) [] refl)

-- whether an id is among others, by the `==` of ids
pub among-eq : (ids : List ObjectId) (id : ObjectId) → list_any (λ y. id_eq y id) ids ≡ is_among ids id
among-eq ids id = λ i. list_any (λ y. (sym (same_id-id_eq y id) ∙ same_id-flip y id) i) ids
