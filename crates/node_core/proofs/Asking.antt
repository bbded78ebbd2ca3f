-- What a node tells of a job outside of events.
use Rattle.std.proofs.Common.{◌≡◌, ℕ, ◌==◌, true, not, cond, List, Some, is_some, sym, ap, subst, ◌∙◌}
use Rattle.std.specs.List.{list_any}
use Rattle.std.specs.Map.{lookup}
use Rattle.obj_id.specs.declared.ids.JobNo.{JobNo}
use Rattle.obj_id.specs.declared.ids.ObjectId.{ObjectId}
use Rattle.obj_id.specs.declared.commands.Usage.{Usage}
use Rattle.obj_id.specs.declared.refusals.Refusal.TheVariants.{NotAdmitted, NotGranted}
use Rattle.private_store.specs.rules.Grants.{StandingGrant}
use Rattle.private_store.specs.rules.Jobs.{same_job}
use Rattle.private_store.specs.rules.Shape.{Shape}
use Rattle.private_store.specs.rules.Events.{is_live}
use Rattle.private_store.specs.rules.Commands.{usage_of}
use Rattle.private_store.specs.rules.Contents.{Contents, View}
use Rattle.job_admission.specs.Admissions.{Admissions, live_at}
use Rattle.job_row.specs.Checks.{lend_check}
use Rattle.job_row.specs.Row.{Row, copies_of}
use Rattle.row_steps.specs.Shown.{IsShown, IsLent}
use Rattle.node_core.specs.Hosted.{Hosted, AreHosted, IsRowView, IsViewBy, Shows, row_at, bytes_here, beside_at}
use Rattle.node_core.specs.Borrowed.{borrowed_check, IsBorrowed}
use Rattle.node_core.proofs.Ending.{is_some-lookup}
use Rattle.row_steps.specs.Beside.{SharedTables, beside_of, shape_of}

-- the live jobs are those that have a row
pub live-is : (a : Admissions) (rows : List (JobNo × Row)) → AreHosted a rows → (job : JobNo) → is_some (lookup (same_job job) rows) ≡ is_some (live_at a job)
live-is a rows kept job = is_some-lookup (same_job job) rows ∙ ap (list_any (same_job job)) kept.jobs ∙ sym (is_some-lookup (same_job job) a.live)

module _ (node : Hosted) (job : JobNo) (row : Row) (found : row_at node job ≡ Some row) (view : View) (h : Shows node job.0 view) where
  abbrev beside : SharedTables
  beside = beside_at node job.0

  pub row_shown : IsRowView row beside job.0 view
  row_shown = subst (IsViewBy node.admissions.greatest beside job.0 view) found h.by_row

  pub usage_told : (response : Usage) → ((grants : List StandingGrant) (bytes : ObjectId → List ℕ) (contents : Contents) → IsShown row (beside_of node.works grants bytes row.job) contents → response ≡ usage_of (shape_of row (beside_of node.works grants bytes row.job))) → response ≡ usage_of view.shape
  usage_told response is =
      is node.grants (bytes_here node.rows) view.contents (subst (λ n. IsShown row (beside_at node n) view.contents) (sym row_shown.own) row_shown.shown)
      ∙ ap usage_of (ap (λ n. shape_of row (beside_at node n)) row_shown.own ∙ sym row_shown.shape)

  live_shape : is_live view.shape ≡ true
  live_shape = ap is_live row_shown.shape

  -- of the job's own object the row's check is the view's
  pub own_check : (session : ℕ) (id : ObjectId) → (id.job.0 == job.0) ≡ true → borrowed_check view.shape session id ≡ lend_check (copies_of row.copies) session id
  own_check session id mine =
      ap (λ b. cond (not b) (Some NotAdmitted) (cond (not (id.job.0 == view.shape.job)) (Some NotGranted) (lend_check view.shape.copies session id))) live_shape
      ∙ ap (λ (s : Shape). cond (not (id.job.0 == s.job)) (Some NotGranted) (lend_check s.copies session id)) row_shown.shape
      ∙ ap (λ n. cond (not (id.job.0 == n)) (Some NotGranted) (lend_check (copies_of row.copies) session id)) row_shown.own
      ∙ ap (λ b. cond (not b) (Some NotGranted) (lend_check (copies_of row.copies) session id)) mine

  pub lent_bytes : (session : ℕ) (id : ObjectId) (bytes : List ℕ) → (id.job.0 == job.0) ≡ true
      → ((beside : SharedTables) (contents : Contents) → IsShown row beside contents → IsLent (copies_of row.copies) contents session id bytes) → IsBorrowed view session id bytes
  lent_bytes session id bytes mine lent =
      let l = lent beside view.contents row_shown.shown in
      record {
        passed = own_check session id mine ∙ l.passed;
        lent = subst (λ (s : Shape). IsLent s.copies view.contents session id bytes) (sym row_shown.shape) l;
      }
