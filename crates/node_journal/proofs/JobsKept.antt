-- The jobs whose journals ever had a line.
use Rattle.std.proofs.Common.{◌≡◌, ℕ, Bool, true, false, cond, ◌==◌, ◌||◌, List, [], ◌∷◌, ◌++◌, map, filter, append_assoc, Some, refl, sym, ap, ◌∙◌, arith}
use Rattle.std.specs.List.{list_any, IsDistinct, AllByRecursion}
use Rattle.std.specs.Map.{lookup, keys_of}
use Rattle.std.proofs.lemmas.Bool.Decides.{nat_tests}
use Rattle.std.proofs.lemmas.Map.Keys.{IsDistinct-head, IsDistinct-tail}
use Rattle.obj_id.specs.declared.ids.JobNo.{JobNo}
use Rattle.private_store.specs.rules.Jobs.{same_job}
use Rattle.node_journal.specs.Logs.{JobLog, journal_of, was_kept, jobs_kept}
use Rattle.node_journal.proofs.Logging.{journal_in}

module _ (job : ℕ) where
  abbrev its : JobNo → Bool
  its own = own.0 == job

  swapped : (a b : ℕ) → (a == b) ≡ true → (b == a) ≡ true
  swapped a b h = grind (arith, nat_tests, h)

  not_swapped : (a b : ℕ) → (a == b) ≡ false → (b == a) ≡ false
  not_swapped a b h = grind (arith, nat_tests, h)

  differ : (a b c : ℕ) → (c == a) ≡ true → (a == b) ≡ false → (b == c) ≡ false
  differ a b c h k = grind (arith, nat_tests, h, k)

  -- another job's
  none_its : (k : JobNo) → (job == k.0) ≡ true → (es : List (JobNo × JobLog)) → AllByRecursion (λ y. same_job k y ≡ false) (keys_of es) → list_any its (jobs_kept es) ≡ false
  none_its k is [] apart = refl
  none_its k is (e ∷ es) apart = by (was_kept e.1.journal) (none_its k is es apart.1)
    where
      by : (b : Bool) → list_any its (jobs_kept es) ≡ false → list_any its (map (λ (x : JobNo × JobLog). x.0) (cond b (e ∷ filter (λ (x : JobNo × JobLog). was_kept x.1.journal) es) (filter (λ (x : JobNo × JobLog). was_kept x.1.journal) es))) ≡ false
      by true later = ap (λ b. b || list_any its (jobs_kept es)) (differ k.0 e.0.0 job is apart.0) ∙ later
      by false later = later

  pub jobs_are : (es : List (JobNo × JobLog)) → IsDistinct same_job (keys_of es) → list_any its (jobs_kept es) ≡ was_kept (journal_of es job)
  jobs_are [] distinct = refl
  jobs_are (e ∷ es) distinct = by (was_kept e.1.journal) refl (job == e.0.0) refl (jobs_are es (IsDistinct-tail same_job e.0 (keys_of es) distinct))
    where
      by : (kept : Bool) → was_kept e.1.journal ≡ kept → (b : Bool) → (job == e.0.0) ≡ b → list_any its (jobs_kept es) ≡ was_kept (journal_of es job)
          → list_any its (map (λ (x : JobNo × JobLog). x.0) (cond kept (e ∷ filter (λ (x : JobNo × JobLog). was_kept x.1.journal) es) (filter (λ (x : JobNo × JobLog). was_kept x.1.journal) es)))
          ≡ was_kept (journal_in job (cond (job == e.0.0) (Some e.1) (lookup (same_job (record { 0 = job })) es)))
      by true h true is later =
          ap (λ b. b || list_any its (jobs_kept es)) (swapped job e.0.0 is)
          ∙ sym (ap (λ b. was_kept (journal_in job (cond b (Some e.1) (lookup (same_job (record { 0 = job })) es)))) is ∙ h)
      by true h false is later =
          ap (λ b. b || list_any its (jobs_kept es)) (not_swapped job e.0.0 is) ∙ later
          ∙ sym (ap (λ b. was_kept (journal_in job (cond b (Some e.1) (lookup (same_job (record { 0 = job })) es)))) is)
      by false h true is later =
          none_its e.0 is es (IsDistinct-head same_job e.0 (keys_of es) distinct)
          ∙ sym (ap (λ b. was_kept (journal_in job (cond b (Some e.1) (lookup (same_job (record { 0 = job })) es)))) is ∙ h)
      by false h false is later =
          later ∙ sym (ap (λ b. was_kept (journal_in job (cond b (Some e.1) (lookup (same_job (record { 0 = job })) es)))) is)

-- one journal more
pub next_job : (jobs : List JobNo) (e : JobNo × JobLog) (es all : List (JobNo × JobLog)) → was_kept e.1.journal ≡ true → jobs ++ jobs_kept (e ∷ es) ≡ jobs_kept all → (jobs ++ e.0 ∷ []) ++ jobs_kept es ≡ jobs_kept all
next_job jobs e es all kept is =
    append_assoc jobs (e.0 ∷ []) (jobs_kept es)
    ∙ sym (ap (λ b. jobs ++ map (λ (x : JobNo × JobLog). x.0) (cond b (e ∷ filter (λ (x : JobNo × JobLog). was_kept x.1.journal) es) (filter (λ (x : JobNo × JobLog). was_kept x.1.journal) es))) kept) ∙ is

pub other_job : (jobs : List JobNo) (e : JobNo × JobLog) (es all : List (JobNo × JobLog)) → was_kept e.1.journal ≡ false → jobs ++ jobs_kept (e ∷ es) ≡ jobs_kept all → jobs ++ jobs_kept es ≡ jobs_kept all
other_job jobs e es all kept is =
    sym (ap (λ b. jobs ++ map (λ (x : JobNo × JobLog). x.0) (cond b (e ∷ filter (λ (x : JobNo × JobLog). was_kept x.1.journal) es) (filter (λ (x : JobNo × JobLog). was_kept x.1.journal) es))) kept) ∙ is
