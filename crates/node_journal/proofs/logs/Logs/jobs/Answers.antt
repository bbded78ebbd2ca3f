use Rattle.std.proofs.Common.{◌≡◌, ℕ, ◌==◌, Bool, true, false, refl, sym, ap, subst, ◌∙◌, arith}
use Rattle.std.specs.List.{list_any, IsDistinct}
use Rattle.std.proofs.lemmas.Bool.Decides.{nat_tests}
use Rattle.std.proofs.lemmas.List.Sorted.{list_any-IsPermutation}
use Rattle.std.proofs.lemmas.Map.Keys.{IsDistinct-IsPermutation}
use Rattle.obj_id.specs.declared.ids.JobNo.{JobNo}
use Rattle.private_store.specs.rules.Jobs.{same_job}
use Rattle.node_journal.specs.Logs.{journal_of, was_kept}
use Rattle.node_journal.proofs.logs.Logs.jobs.Goals as goal

pub returns-clause-kept : goal.returns-clause-kept
returns-clause-kept c = λ job.
    ap (list_any (λ (own : JobNo). own.0 == job)) c.from_vec.ensures
    ∙ sym (list_any-IsPermutation (λ (own : JobNo). own.0 == job) c.in_ok-jobs.jobs.items c.sort_jobs.new.jobs.items c.sort_jobs.ensures.permutation)
    ∙ c.in_ok-jobs.ensures.kept job
    ∙ ap (λ logs. was_kept (journal_of logs job)) c.self.view_is

flips : (a b : ℕ) → (a == b) ≡ (b == a)
flips a b = by (a == b) (b == a) refl refl
  where
    by : (s t : Bool) → (a == b) ≡ s → (b == a) ≡ t → s ≡ t
    by true true h k = refl
    by false false h k = refl
    by true false h k = absurd (grind (arith, nat_tests, h, k))
    by false true h k = absurd (grind (arith, nat_tests, h, k))

pub returns-clause-once : goal.returns-clause-once
returns-clause-once c =
    subst (IsDistinct same_job) (sym c.from_vec.ensures)
    (IsDistinct-IsPermutation same_job (λ x y. flips x.0 y.0) c.in_ok-jobs.jobs.items c.sort_jobs.new.jobs.items c.sort_jobs.ensures.permutation c.in_ok-jobs.ensures.once)
