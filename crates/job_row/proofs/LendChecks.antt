-- A check of the store's copies reads those that the row keeps.
use Rattle.std.proofs.Common.{◌≡◌, ℕ, Option, Some, None, option_map, refl, ap, ◌∙◌}
use Rattle.obj_id.specs.declared.ids.ObjectId.{ObjectId}
use Rattle.obj_id.specs.declared.refusals.Refusal.{Refusal}
use Rattle.obj_id.specs.declared.refusals.Refusal.TheVariants.{Absent}
use Rattle.private_store.specs.rules.Tables.{ById, at}
use Rattle.private_store.specs.rules.Shape.{Copy}
use Rattle.private_store.specs.rules.Commands.{bytes_checks}
use Rattle.private_store.specs.rules.Shared.{first_refusal}
use Rattle.row_copy.specs.CopyViews.{CopyView}
use Rattle.job_row.specs.Row.{copies_of}
use Rattle.job_row.specs.Checks.{lend_check}
use Rattle.job_row.proofs.CopyTables.{at-copies}

abbrev pub by_kept : ℕ → Option CopyView → Option Refusal
by_kept session o = elim o [ None ↦ Some Absent | Some k ↦ first_refusal (bytes_checks k.copy session) ]

abbrev by_copy : ℕ → Option Copy → Option Refusal
by_copy session o = elim o [ None ↦ Some Absent | Some copy ↦ first_refusal (bytes_checks copy session) ]

pub lend-by : (es : ById CopyView) (session : ℕ) (id : ObjectId) (o : Option CopyView) → at es id ≡ o → lend_check (copies_of es) session id ≡ by_kept session o
lend-by es session id o is = ap (by_copy session) (at-copies es id ∙ ap (option_map (λ k. k.copy)) is) ∙ by o
  where
    by : (o : Option CopyView) → by_copy session (option_map (λ k. k.copy) o) ≡ by_kept session o
    by None = refl
    by (Some k) = refl
