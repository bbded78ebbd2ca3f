-- The store that a node shows of a job, without contents.
use Rattle.std.proofs.Common.{◌≡◌, ℕ, Bool, false, cond, List, [], Some, None, sym, ap, subst, ◌∙◌}
use Rattle.obj_id.specs.declared.ids.JobNo.{JobNo}
use Rattle.obj_id.specs.declared.ids.ObjectId.{ObjectId}
use Rattle.private_store.specs.rules.Tables.{ById}
use Rattle.private_store.specs.rules.Shape.{Life, not_begun, live, ended, unbegun, GrantGiven, Seen}
use Rattle.private_store.specs.rules.Events.{is_live}
use Rattle.private_store.specs.rules.Contents.{View}
use Rattle.private_store.specs.rules.Replay.{ReplayState, replay_state_of}
use Rattle.private_store.specs.rules.Grants.{StandingGrant}
use Rattle.store_facts.proofs.Tests.{true_false}
use Rattle.plain_store.specs.Parts.{has_begun}
use Rattle.job_row.specs.Row.{Row}
use Rattle.node_core.specs.Hosted.{Hosted, IsBare, IsRowView, IsViewBy, Shows, row_at, bytes_here, beside_at, empty_shape}
use Rattle.row_steps.specs.Beside.{SharedTables, row_given_by, received_by, beside_of, shape_of}

-- how far a job is that isn't live
ended_if : (life : Life) (begun : Bool) (beside : SharedTables) (job : ℕ) → is_live (empty_shape job life beside) ≡ false → has_begun life ≡ begun → cond begun ended not_begun ≡ life
ended_if not_begun begun beside job dead is = ap (λ b. cond b ended not_begun) (sym is)
ended_if live begun beside job dead is = true_false (sym dead)
ended_if ended begun beside job dead is = ap (λ b. cond b ended not_begun) (sym is)

module _ (node : Hosted) (job : JobNo) (view : View) (h : Shows node job.0 view) where
  pub row_told : (row : Row) → row_at node job ≡ Some row → (plain : ReplayState) (given : List GrantGiven) (received : ById Seen)
      → given ≡ row_given_by node.grants job.0 → received ≡ received_by (bytes_here node.rows) node.grants job.0
      → ((grants : List StandingGrant) (bytes : ObjectId → List ℕ) → given ≡ row_given_by grants row.job → received ≡ received_by bytes grants row.job
      → plain ≡ record { shape = shape_of row (beside_of node.works grants bytes row.job); order = row.order })
      → plain ≡ replay_state_of view
  row_told row found plain given received gave got is =
      let shown : IsRowView row (beside_at node job.0) job.0 view = subst (IsViewBy node.admissions.greatest (beside_at node job.0) job.0 view) found h.by_row in
      is node.grants (bytes_here node.rows) (gave ∙ ap (row_given_by node.grants) (sym shown.own)) (got ∙ ap (received_by (bytes_here node.rows) node.grants) (sym shown.own))
      ∙ ap (λ n. record { shape = shape_of row (beside_at node n); order = row.order }) shown.own
      ∙ (λ i. record { shape = sym shown.shape i; order = sym shown.order i })

  pub without_row_told : row_at node job ≡ None → (begun : Bool) → has_begun view.shape.life ≡ begun → (received : ById Seen) → received ≡ received_by (bytes_here node.rows) node.grants job.0
      → record { shape = record (unbegun job.0) { life = cond begun ended not_begun; received = received }; order = [] } ≡ replay_state_of view
  without_row_told none begun is received got =
      let shown : IsBare node.admissions.greatest (beside_at node job.0) job.0 view = subst (IsViewBy node.admissions.greatest (beside_at node job.0) job.0 view) none h.by_row in
      let life = ended_if shown.life begun (beside_at node job.0) job.0 shown.dead (sym (ap (λ (v : View). has_begun v.shape.life) shown.is) ∙ is) in
      (λ i. record { shape = record (unbegun job.0) { life = life i; received = got i }; order = [] })
      ∙ ap replay_state_of (sym shown.is)
