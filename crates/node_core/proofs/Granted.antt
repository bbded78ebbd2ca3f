-- The bytes of an object of which a grant stands stay as they are while its own job takes a step: so what stands beside each
-- row stays the same.
use Rattle.std.proofs.Common.{◌≡◌, ℕ, ◌==◌, Bool, true, false, cond, ◌||◌, ◌&&◌, List, [], ◌∷◌, filter, map, take, Option, Some, None, is_some, refl, sym, ap, subst, ◌∙◌}
use Rattle.std.specs.List.{list_any}
use Rattle.std.specs.Map.{lookup}
use Rattle.std.specs.Option.{option_map_or}
use Rattle.std.proofs.lemmas.Bool.{eqb-true}
use Rattle.obj_id.specs.declared.commands.CopyState.{CopyState}
use Rattle.obj_id.specs.declared.commands.CopyState.TheVariants.{Created, Sealed, Restoring, Fetching, Away}
use Rattle.obj_id.specs.declared.ids.JobNo.{JobNo}
use Rattle.obj_id.specs.declared.ids.ObjectId.{ObjectId}
use Rattle.obj_id.specs.Ids.{same_id}
use Rattle.private_store.specs.declared.inputs.Input.{Input}
use Rattle.private_store.specs.rules.Copies.{extent_of, is_sealed}
use Rattle.private_store.specs.rules.Contents.{Contents, bytes_at}
use Rattle.private_store.specs.rules.Grants.{StandingGrant}
use Rattle.private_store.specs.rules.Jobs.{same_job}
use Rattle.private_store.specs.laws.Invariants.{has_extent, has_grant}
use Rattle.private_store.specs.rules.Private.{view_step}
use Rattle.private_store.specs.rules.Shape.{Fetch}
use Rattle.private_store.specs.rules.Tables.{at}
use Rattle.store_facts.proofs.BytesStay.{bytes_stay}
use Rattle.store_facts.proofs.Tests.{true_false}
use Rattle.job_region.specs.Region.{region_bytes_at as placed_bytes}
use Rattle.spill_work.specs.Line.{WorkLine}
use Rattle.grants.specs.Private.{as_given}
use Rattle.grants.specs.Table.{AreGrants, is_first}
use Rattle.grants.proofs.ForCallers.{first_stands}
use Rattle.row_commands.specs.Granting.{kept_bytes, row_bytes}
use Rattle.row_copy.specs.CopyViews.{CopyView}
use Rattle.job_row.specs.Row.{Row}
use Rattle.row_steps.specs.Shown.{seen, IsShown, RowGiven, RowStep}
use Rattle.job_row.proofs.ForCallers.{at-copies_found, at-copies_none}
use Rattle.row_commands.proofs.ForCallers.{is_of}
use Rattle.node_core.specs.Hosted.{bytes_here}
use Rattle.row_steps.specs.Beside.{SharedTables, row_given_by, beside_of}

-- ---- a copy of which its job gave a grant

lies : (state : CopyState) (fetch : Option Fetch) → is_sealed state ≡ true → has_extent state fetch ≡ true
lies Created fetch sealed = refl
lies Sealed fetch sealed = refl
lies Restoring fetch sealed = refl
lies Fetching fetch sealed = true_false sealed
lies Away fetch sealed = true_false sealed

-- a copy that is there, and sealed
pub record IsSealedCopy (row : Row) (id : ObjectId) : Type 0 where
  pub kept : CopyView
  pub found : at row.copies id ≡ Some kept
  pub sealed : is_sealed kept.copy.state ≡ true

module _ (row : Row) (beside : SharedTables) (contents : Contents) (h : IsShown row beside contents) (id : ObjectId) where
  -- a granted one is such
  pub granted_copy : id.job.0 ≡ row.job → has_grant beside.given id ≡ true → IsSealedCopy row id
  granted_copy own given = by (at row.copies id) refl
    where
      by : (o : Option CopyView) → at row.copies id ≡ o → IsSealedCopy row id
      by None none = true_false (sym (h.kept.kept.shape.grants_of_copies id own (at-copies_none row.copies id none)) ∙ given)
      by (Some k) found = record { kept = k; found = found; sealed = ((h.kept.kept.shape.each id k.copy (at-copies_found row.copies id k found)).granted given).0 }

  -- its bytes are those that it has in its own job's store
  pub sealed_bytes : IsSealedCopy row id → row_bytes row id ≡ bytes_at contents.bytes id
  sealed_bytes g =
      let copy = (h.kept.kept.shape.each id g.kept.copy (at-copies_found row.copies id g.kept g.found)) in
      ap (λ o. option_map_or (kept_bytes row) o []) g.found ∙ by_place g.kept g.found g.kept.copy.offset refl (copy.resident ∙ lies g.kept.copy.state g.kept.copy.fetch g.sealed)
    where
      by_place : (k : CopyView) → at row.copies id ≡ Some k → (o : Option ℕ) → k.copy.offset ≡ o → is_some k.copy.offset ≡ true → kept_bytes row k ≡ bytes_at contents.bytes id
      by_place k found None is there = true_false (sym (ap is_some is) ∙ there)
      by_place k found (Some offset) is there =
          let e = ap (λ p. extent_of (record k.copy { offset = p })) is in
          ap (λ p. option_map_or (λ e. take k.copy.length (placed_bytes e row.window.placed)) p []) e ∙ sym (h.bytes id k _ found e)

-- a step leaves them
module _ (node : ℕ) (row after : Row) (before beside : SharedTables) (contents : Contents) (x : Input) (response : RowGiven) (h : IsShown row before contents) (t : RowStep node row before contents x response after beside) where
  pub sealed_stay : (id : ObjectId) → IsSealedCopy row id → IsSealedCopy after id → row_bytes row id ≡ row_bytes after id
  sealed_stay id g s =
      sealed_bytes row before contents h id g
      ∙ sym (bytes_stay node (seen row before contents) h.kept.kept.shape h.kept.kept.filled id g.kept.copy (at-copies_found row.copies id g.kept g.found) g.sealed
      x s.kept.copy (ap (λ c. at c.copies id) t.shape ∙ at-copies_found after.copies id s.kept s.found) s.sealed)
      ∙ sym (sealed_bytes after beside (view_step node (seen row before contents) x).view.contents t.shown id s)

-- ---- at a node

-- where a job's row is another now, the bytes of an object are those before if that row leaves them
module _ (job : JobNo) (old new : List (JobNo × Row)) (row after : Row) (found : lookup (same_job job) old ≡ Some row)
    (updated : (q : JobNo) → lookup (same_job q) new ≡ cond (same_job job q) (Some after) (lookup (same_job q) old)) where
  pub bytes_where : (id : ObjectId) → (id.job.0 ≡ job.0 → row_bytes row id ≡ row_bytes after id) → bytes_here old id ≡ bytes_here new id
  bytes_where id stay = by (same_job job id.job) refl
    where
      by : (b : Bool) → same_job job id.job ≡ b → bytes_here old id ≡ bytes_here new id
      by false other = sym (ap (λ o. option_map_or (λ row. row_bytes row id) o []) (updated id.job ∙ ap (λ b. cond b (Some after) (lookup (same_job id.job) old)) other))
      by true same =
          let jobs : id.job.0 ≡ job.0 = sym (eqb-true job.0 id.job.0 same) in
          ap (λ o. option_map_or (λ row. row_bytes row id) o []) (ap (λ n. lookup (same_job (record { 0 = n })) old) jobs ∙ found)
          ∙ stay jobs
          ∙ sym (ap (λ o. option_map_or (λ row. row_bytes row id) o []) (updated id.job ∙ ap (λ b. cond b (Some after) (lookup (same_job id.job) old)) same))

-- an object's own job gave a grant of it exactly if a first grant of it stands
pub first_given : (id : ObjectId) (grants : List StandingGrant) → list_any (is_first id) grants ≡ has_grant (row_given_by grants id.job.0) id
first_given id [] = refl
first_given id (h ∷ hs) = by (same_id id h.id) (h.grantor == id.job.0) refl (first_given id hs)
  where
    by : (s g : Bool) → same_id id h.id ≡ s → list_any (is_first id) hs ≡ has_grant (row_given_by hs id.job.0) id
        → ((s && g) || list_any (is_first id) hs) ≡ has_grant (map as_given (cond g (h ∷ filter (λ grant. grant.grantor == id.job.0) hs) (filter (λ grant. grant.grantor == id.job.0) hs))) id
    by true true is rest = sym (ap (λ b. b || has_grant (row_given_by hs id.job.0) id) is)
    by true false is rest = rest
    by false true is rest = rest ∙ sym (ap (λ b. b || has_grant (row_given_by hs id.job.0) id) is)
    by false false is rest = rest

module _ (grants : List StandingGrant) (table : AreGrants grants) where
  -- where a grant of an object stands, its own job gave one
  pub own_gave : (id : ObjectId) → list_any (is_of id) grants ≡ true → has_grant (row_given_by grants id.job.0) id ≡ true
  own_gave id there = sym (first_given id grants) ∙ first_stands grants table id there

  module _ (node : ℕ) (line works : WorkLine) (bytes : ObjectId → List ℕ) (job : JobNo) (old new : List (JobNo × Row)) (row after : Row) (contents : Contents) (x : Input) (response : RowGiven)
      (found : lookup (same_job job) old ≡ Some row)
      (updated : (q : JobNo) → lookup (same_job q) new ≡ cond (same_job job q) (Some after) (lookup (same_job q) old))
      (own : row.job ≡ job.0) (own_after : after.job ≡ job.0)
      (h : IsShown row (beside_of line grants bytes job.0) contents)
      (t : RowStep node row (beside_of line grants bytes job.0) contents x response after (beside_of works grants bytes job.0)) where
    pub bytes_same : (id : ObjectId) → list_any (is_of id) grants ≡ true → bytes_here old id ≡ bytes_here new id
    bytes_same id there =
        bytes_where job old new row after found updated id (λ jobs.
        let gave : has_grant (row_given_by grants job.0) id ≡ true = subst (λ n. has_grant (row_given_by grants n) id ≡ true) jobs (own_gave id there) in
        sealed_stay node row after (beside_of line grants bytes job.0) (beside_of works grants bytes job.0) contents x response h t id
        (granted_copy row (beside_of line grants bytes job.0) contents h id (jobs ∙ sym own) gave)
        (granted_copy after (beside_of works grants bytes job.0) (view_step node (seen row (beside_of line grants bytes job.0) contents) x).view.contents t.shown id (jobs ∙ sym own_after) gave))
