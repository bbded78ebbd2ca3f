-- Grants that end at a node: the own step comes first, then each grantee is notified, and every job's view is shown beside the
-- grants that are left.
use Rattle.std.proofs.Common.{◌≡◌, ℕ, ◌==◌, Bool, true, false, cond, List, [], ◌∷◌, ◌++◌, map, filter, Option, Some, None, option_to_list, refl, sym, ap, subst, ◌∙◌, arith}
use Rattle.std.specs.List.{list_any}
use Rattle.std.specs.Map.{lookup}
use Rattle.std.proofs.lemmas.Bool.{eqb-true}
use Rattle.std.proofs.lemmas.Bool.Decides.{nat_tests}
use Rattle.obj_id.specs.declared.ids.JobNo.{JobNo}
use Rattle.obj_id.specs.declared.ids.ObjectId.{ObjectId}
use Rattle.private_store.specs.declared.inputs.Input.{Input}
use Rattle.private_store.specs.rules.Contents.{View}
use Rattle.private_store.specs.rules.Grants.{StandingGrant, grants_ended, grants_left, is_given_by}
use Rattle.private_store.specs.rules.Jobs.{same_job}
use Rattle.private_store.specs.laws.NodeInputs.{JobInput, only_of, withdrawn_here}
use Rattle.private_store.specs.rules.Private.{view_step, view_from}
use Rattle.spill_work.specs.Line.{WorkLine, IsSameFor, same_work_job as same_line_job}
use Rattle.job_admission.specs.Admissions.{Admissions}
use Rattle.grants.specs.Table.{AreGrants}
use Rattle.row_commands.specs.Notes.{IsSeen, ends_to, beside_rest}
use Rattle.job_row.specs.Row.{Row}
use Rattle.row_commands.proofs.ForCallers.{is_of, alike_bytes, row_ends, bare_ends, none_given, rest_of_other, ends_of}
use Rattle.node_core.specs.Hosted.{Hosted, IsRowView, IsViewBy, Shows, ShowsAll, bytes_here, beside_at}
use Rattle.node_core.specs.Outcomes.{end_noted}
use Rattle.node_core.specs.Steps.{judged_notes}
use Rattle.node_core.proofs.Others.{other_view, not_same}
use Rattle.node_core.proofs.Views.{node_of, another}
use Rattle.row_steps.specs.Beside.{SharedTables, beside_of}

-- ---- one job that is notified of its ends

module _ (number greatest : ℕ) (grants : List StandingGrant) (table : AreGrants grants) (test : StandingGrant → Bool) (line : WorkLine) (bytes : ObjectId → List ℕ) where
  abbrev rest : ℕ → SharedTables
  rest q = beside_rest line test grants bytes q

  abbrev left : ℕ → SharedTables
  left q = beside_of line (grants_left test grants) bytes q

  abbrev response : ℕ → View → View
  response q view = view_from number view (ends_to q (grants_ended test grants))

  pub told_view : (q : ℕ) (view : View) (o : Option Row) → IsViewBy greatest (rest q) q view o → IsViewBy greatest (left q) q (response q view) o
  told_view q view (Some row) h =
      let s = row_ends grants bytes test table number line row view
      (subst (λ n. IsSeen row (rest n) view) (sym h.own) (record { shape = h.shape; order = h.order; shown = h.shown })) in
      subst (λ n. IsRowView row (left n) n (response n view)) h.own (record { own = refl; shape = s.shape; order = s.order; shown = s.shown })
  told_view q view None h = record {
    life = h.life;
    is = ap (response q) h.is ∙ bare_ends grants bytes test table number q h.life h.given;
    dead = h.dead;
    fresh = h.fresh;
    works = h.works;
    used = h.used;
    given = none_given grants bytes test table number q h.life h.given;
  }

-- ---- every job

module _ (number : ℕ) (a b : Admissions) (low : b.greatest ≡ a.greatest) (line works : WorkLine) (grants : List StandingGrant) (table : AreGrants grants) (test : StandingGrant → Bool) (job : JobNo) (x : Input)
    (old new : List (JobNo × Row)) (own_test : (grant : StandingGrant) → test grant ≡ true → is_given_by job.0 grant ≡ true)
    (rows_other : (q : JobNo) → same_job job q ≡ false → lookup (same_job q) new ≡ lookup (same_job q) old)
    (others : (other : JobNo) → same_line_job job other ≡ false → IsSameFor other line works)
    (bytes_left : (id : ObjectId) → list_any (is_of id) (grants_left test grants) ≡ true → bytes_here old id ≡ bytes_here new id) where
  abbrev at_old : Hosted
  at_old = node_of number a line grants old

  abbrev at_new : Hosted
  at_new = node_of number b works (grants_left test grants) new

  shows_at : (q : ℕ) (view : View) → IsViewBy a.greatest (beside_at at_new q) q view (lookup (same_job (record { 0 = q })) new) → Shows at_new q view
  shows_at q view h = record { by_row = subst (λ g. IsViewBy g (beside_at at_new q) q view (lookup (same_job (record { 0 = q })) new)) (sym low) h }

  abbrev after_own : ℕ → View → View
  after_own q view = cond (q == job.0) (view_step number view x).view view

  module _ (v : ℕ → View) (shows : ShowsAll at_old v)
      (own : IsViewBy a.greatest (beside_rest works test grants (bytes_here old) job.0) job.0 (view_step number (v job.0) x).view (lookup (same_job job) new)) where
    own_shows : Shows at_new job.0 (view_from number (view_step number (v job.0) x).view (ends_to job.0 (grants_ended test grants)))
    own_shows =
        shows_at job.0 _ (other_view (beside_of works (grants_left test grants) (bytes_here old) job.0) (beside_at at_new job.0)
        (alike_bytes (bytes_here old) (bytes_here new) works works (grants_left test grants) job.0 (record { works = refl; used = refl }) bytes_left)
        a.greatest job.0 _ (lookup (same_job job) new)
        (told_view number a.greatest grants table test works (bytes_here old) job.0 (view_step number (v job.0) x).view (lookup (same_job job) new) own))

    other_shows : (q : ℕ) → (q == job.0) ≡ false → Shows at_new q (view_from number (v q) (ends_to q (grants_ended test grants)))
    other_shows q differ =
        let o = lookup (same_job (record { 0 = q })) new in
        let apart : (job.0 == q) ≡ false = grind (arith, nat_tests, differ) in
        let before : IsViewBy a.greatest (beside_rest line test grants (bytes_here old) q) q (v q) o =
        subst (λ beside. IsViewBy a.greatest beside q (v q) o) (rest_of_other grants (bytes_here old) q line job.0 test own_test apart)
        (subst (IsViewBy a.greatest (beside_at at_old q) q (v q)) (sym (rows_other (record { 0 = q }) (another job q differ))) (shows q).by_row) in
        shows_at q _ (other_view (beside_of line (grants_left test grants) (bytes_here old) q) (beside_at at_new q)
        (alike_bytes (bytes_here old) (bytes_here new) line works (grants_left test grants) q (others (record { 0 = q }) (not_same job q differ)) bytes_left)
        a.greatest q _ o (told_view number a.greatest grants table test line (bytes_here old) q (v q) o before))

    pub ended_shows : (q : ℕ) → Shows at_new q (view_from number (after_own q (v q)) (ends_to q (grants_ended test grants)))
    ended_shows q = by (q == job.0) refl
      where
        by : (t : Bool) → (q == job.0) ≡ t → Shows at_new q (view_from number (cond t (view_step number (v q) x).view (v q)) (ends_to q (grants_ended test grants)))
        by true e = subst (λ n. Shows at_new n (view_from number (view_step number (v n) x).view (ends_to n (grants_ended test grants)))) (sym (eqb-true q job.0 e)) own_shows
        by false e = other_shows q e

-- ---- as lists of inputs

-- the own input, and then what the job is notified of ends
pub ended_inputs : (number : ℕ) (job : ℕ) (x : Input) (ended : List StandingGrant) (q : ℕ) (view : View)
    → view_from number view (only_of q (option_to_list (Some (record { job = job; input = x })) ++ map withdrawn_here ended))
    ≡ view_from number (cond (q == job) (view_step number view x).view view) (ends_to q ended)
ended_inputs number job x ended q view = by (job == q) (q == job) (grind (arith, nat_tests))
  where
    by : (t u : Bool) → t ≡ u
        → view_from number view (map (λ (y : JobInput). y.input) (cond t (record { job = job; input = x } ∷ filter (λ y. y.job == q) (map withdrawn_here ended)) (filter (λ y. y.job == q) (map withdrawn_here ended))))
        ≡ view_from number (cond u (view_step number view x).view view) (ends_to q ended)
    by true true e = ap (view_from number (view_step number view x).view) (ends_of q ended)
    by false false e = ap (view_from number view) (ends_of q ended)
    by true false e = absurd cc
    by false true e = absurd cc

-- what is noted of ends is the same whatever the views
pub ends_judged : (number : ℕ) (v : ℕ → View) (ended : List StandingGrant) → map end_noted ended ≡ judged_notes number v (map withdrawn_here ended)
ends_judged number v [] = refl
ends_judged number v (grant ∷ ended) = ap (λ rest. end_noted grant ∷ rest) (ends_judged number v ended)
