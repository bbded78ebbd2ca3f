-- A row takes Release.
use Rattle.std.proofs.Common.{◌≡◌, ℕ, ◌-◌, true, cond, ◌==◌, [], Some, None, option_map, refl, sym, ap, ◌∙◌}
use Rattle.std.specs.Option.{option_map_or}
use Rattle.obj_id.specs.declared.ids.ObjectId.{ObjectId}
use Rattle.obj_id.specs.declared.refusals.Refusal.{Refusal}
use Rattle.obj_id.specs.declared.refusals.Refusal.TheVariants.{Absent, NotHeld}
use Rattle.obj_id.specs.declared.commands.Command.TheVariants as command
use Rattle.obj_id.specs.declared.commands.Reply.TheVariants as reply
use Rattle.private_store.specs.declared.inputs.Input.{Input}
use Rattle.private_store.specs.declared.inputs.Input.TheVariants as input
use Rattle.private_store.specs.rules.Tables.{at}
use Rattle.private_store.specs.rules.Shape.{Copy, Shape, Change}
use Rattle.private_store.specs.rules.Marks.{with_holds}
use Rattle.private_store.specs.rules.Room.{set_copy}
use Rattle.private_store.specs.rules.Change.{refused, done, erasing, settled}
use Rattle.private_store.specs.rules.Commands.{release_checks, release, holds_of}
use Rattle.private_store.specs.rules.Contents.{Contents}
use Rattle.private_store.specs.rules.Shared.{first_refusal}
use Rattle.row_copy.specs.CopyViews.{CopyView, after_release}
use Rattle.job_row.specs.Row.{Row, place_of, ArePlaced}
use Rattle.job_row.specs.Dropping.{settled_row, keys_settled}
use Rattle.job_row.specs.Checks.{release_check}
use Rattle.row_steps.specs.Shown.{IsShown, only, RowStep}
use Rattle.row_steps.proofs.ForCallers.{unless_refused, by-checks, in_table, called, own, there, stays}
use Rattle.job_row.proofs.ForCallers.{at-copies, at-copies_found}
use Rattle.row_commands.proofs.Settling.{settles}
use Rattle.job_row.specs.Scope.{with_copy}
use Rattle.row_steps.specs.Beside.{SharedTables, shape_of}

module _ (node : ℕ) (row : Row) (beside : SharedTables) (contents : Contents) (session : ℕ) (id : ObjectId) (mine : (id.job.0 == row.job) ≡ true) (h : IsShown row beside contents) where
  abbrev s : Shape
  s = shape_of row beside

  abbrev x : Input
  x = input.Call session (command.Release id)

  -- the copy with a hold less, unless it is doomed
  abbrev less : Copy → Change
  less copy = done (settled (set_copy s id (with_holds copy session (holds_of copy session - 1))) id)

  -- what releasing does to the copy that is there
  abbrev release_done : Change
  release_done = option_map_or less (at s.copies id) (refused s Absent)

  release-by : release s session id ≡ unless_refused s (release_check row.copies session id) release_done
  release-by =
      in_table row beside id _ (λ k. first_refusal (release_checks k.copy session)) release_done (λ k found.
      by-checks s (release_checks k.copy session) _ _
      (sym (ap (λ o. option_map_or less o (refused s Absent)) (at-copies row.copies id ∙ ap (option_map (λ k. k.copy)) found))))

  pub release_refused : (r : Refusal) → release_check row.copies session id ≡ Some r → RowStep node row beside contents x (only (reply.Refused r)) row beside
  release_refused r e =
      stays node row beside contents h x (reply.Refused r)
      (called row beside session (command.Release id) ∙ ap (erasing s) (own row beside id _ mine ∙ release-by ∙ ap (λ o. unless_refused s o release_done) e)) refl refl refl

  -- the row with a hold less
  abbrev pub row_released : Row
  row_released = with_copy (after_release session) row id

  released_there : (k : CopyView) → at row.copies id ≡ Some k → release_check row.copies session id ≡ None → ArePlaced row_released.window.placed (place_of row_released.copies)
      → RowStep node row beside contents x (record { reply = reply.Ok; posts = []; erased = keys_settled row_released id }) (settled_row row_released id) beside
  released_there k found passed placed =
      settles node row beside contents h x (record { bytes = refl; digest = refl; received = refl }) id k found (after_release session)
      (record {
        lies = λ z. (refl, refl);
        digest = refl;
        keeps = λ keep. keep;
        working = refl;
        granted = refl;
        backed = refl;
      }) [] []
      (called row beside session (command.Release id)
      ∙ ap (erasing s) (own row beside id _ mine ∙ release-by ∙ ap (λ o. unless_refused s o release_done) passed
      ∙ ap (λ o. option_map_or less o (refused s Absent)) (at-copies_found row.copies id k found)))
      (λ o. refl) placed

  pub release_done_so : release_check row.copies session id ≡ None → ArePlaced row_released.window.placed (place_of row_released.copies)
      → RowStep node row beside contents x (record { reply = reply.Ok; posts = []; erased = keys_settled row_released id }) (settled_row row_released id) beside
  release_done_so passed placed =
      let k = there (λ k. cond (holds_of k.copy session == 0) (Some NotHeld) None) Absent (at row.copies id) passed in
      released_there k.0 k.1 passed placed
