-- What shows the same beside a job's row shows the job's view as before.
use Rattle.std.proofs.Common.{◌≡◌, ℕ, ◌==◌, false, [], Option, Some, None, sym, ◌∙◌, arith}
use Rattle.std.proofs.lemmas.Bool.Decides.{nat_tests}
use Rattle.obj_id.specs.declared.ids.JobNo.{JobNo}
use Rattle.private_store.specs.rules.Contents.{View}
use Rattle.private_store.specs.rules.Private.{no_contents}
use Rattle.private_store.specs.rules.Shape.{Life}
use Rattle.spill_work.specs.Line.{same_work_job}
use Rattle.job_row.specs.Row.{Row}
use Rattle.row_commands.proofs.ForCallers.{IsAlike, alike_shape, alike_shown}
use Rattle.node_core.specs.Hosted.{empty_view, empty_shape, IsBare, IsViewBy}
use Rattle.row_steps.specs.Beside.{SharedTables}

module _ (a b : SharedTables) (same : IsAlike a b) where
  pub alike_bare : (job : ℕ) (life : Life) → empty_view job life a ≡ empty_view job life b
  alike_bare job life = λ i. record {
    shape = record (empty_shape job life a) { received = same.received i };
    order = [];
    contents = record no_contents { received = same.bytes i };
  }

  -- a store that isn't live, with what stands beside it
  alike_bare_view : (greatest q : ℕ) (view : View) → IsBare greatest a q view → IsBare greatest b q view
  alike_bare_view greatest q view h = record {
    life = h.life;
    is = h.is ∙ alike_bare q h.life;
    dead = h.dead;
    fresh = h.fresh;
    works = sym same.works ∙ h.works;
    used = sym same.used ∙ h.used;
    given = sym same.given ∙ h.given;
  }

  pub other_view : (greatest q : ℕ) (view : View) (o : Option Row) → IsViewBy greatest a q view o → IsViewBy greatest b q view o
  other_view greatest q view (Some row) h = record { own = h.own; shape = h.shape ∙ alike_shape a b same row; order = h.order; shown = alike_shown a b same row view.contents h.shown }
  other_view greatest q view None h = alike_bare_view greatest q view h

pub not_same : (job : JobNo) (q : ℕ) → (q == job.0) ≡ false → same_work_job job (record { 0 = q }) ≡ false
not_same job q e = grind (arith, nat_tests, e)
