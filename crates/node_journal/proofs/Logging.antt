-- A job's journal in place of what was there.
use Rattle.std.proofs.Common.{◌≡◌, ℕ, true, false, cond, ◌==◌, ◌+◌, ◌≤◌, List, Option, Some, None, position, slice_get, refl, sym, ap, subst, ◌∙◌, arith}
use Rattle.std.specs.Prelude.{if◌then◌else◌}
use Rattle.std.specs.Cmp.{IsEquivalence}
use Rattle.std.specs.Option.{option_map, option_map_or}
use Rattle.std.specs.Map.{keys_of, lookup}
use Rattle.std.proofs.lemmas.Bool.Decides.{nat_tests}
use Rattle.std.proofs.lemmas.Cmp.{nat_eq_equiv, on_equiv}
use Rattle.std.proofs.lemmas.List.Quantifiers.{position-Some}
use Rattle.std.proofs.lemmas.Option.{get_or_from_slice_get, slice_get-map}
use Rattle.indexmap.specs.IndexMap.{IndexMap, IsUnique, with_value_at}
use Rattle.indexmap.proofs.CallerLemmas.{updates-with_value_at}
use Rattle.obj_id.specs.declared.ids.JobNo.{JobNo}
use Rattle.private_store.specs.rules.Jobs.{same_job}
use Rattle.node_journal.specs.Journals.{Journal, fresh, folded_if}
use Rattle.store_facts.proofs.Tests.{some_value}
use Rattle.node_journal.specs.Logs.{JobLog, journal_of, spare_of, StandsAt}

same_number : (a b : ℕ) → (a == b) ≡ true → a ≡ b
same_number a b t = grind (arith, nat_tests)

abbrev numbered : ℕ → JobNo
numbered n = record { 0 = n }

same_job_equiv : IsEquivalence same_job
same_job_equiv = on_equiv (λ (job : JobNo). job.0) nat_eq_equiv

pub same_numbers : (a b : JobNo) → a.0 ≡ b.0 → a ≡ b
same_numbers a b e = ap numbered e

-- the key that stands where a job is found is the job's
pub place_found : (job k : JobNo) (logs : List (JobNo × JobLog)) (i : ℕ) (log : JobLog) → position (same_job job) (keys_of logs) ≡ Some i → slice_get logs i ≡ Some (k, log) → job ≡ k
place_found job k logs i log found at =
    let key : slice_get (keys_of logs) i ≡ Some k = slice_get-map (λ (e : JobNo × JobLog). e.0) logs i ∙ ap (option_map (λ (e : JobNo × JobLog). e.0)) at in
    same_numbers job k
    (same_number job.0 k.0 (subst (λ (q : JobNo). same_job job q ≡ true) (get_or_from_slice_get (keys_of logs) i k k key) (position-Some (same_job job) (keys_of logs) i k found).1))

pub stands_at : (entries logs : List (JobNo × JobLog)) (job key : JobNo) (place : ℕ) (log : JobLog) → entries ≡ logs → job ≡ key → slice_get entries place ≡ Some (key, log) → lookup (same_job job) entries ≡ Some log → StandsAt logs job place
stands_at entries logs job key place log shown same at found = subst (λ es. StandsAt es job place) shown (log, at ∙ ap (λ (k : JobNo). Some (k, log)) (sym same), found)

-- where a job stands
module _ {S : Type 0} (m : IndexMap JobNo JobLog S) (logs : List (JobNo × JobLog)) (shown : m.entries ≡ logs) (job : JobNo) (place : ℕ) (stands : StandsAt logs job place) where
  there : slice_get m.entries place ≡ Some (job, stands.0)
  there = ap (λ es. slice_get es place) shown ∙ stands.1

  -- the log there is the one that is found by its number
  pub found_there : (key : JobNo) (log : JobLog) → slice_get m.entries place ≡ Some (key, log) → lookup (same_job job) logs ≡ Some log
  found_there key log at = stands.2 ∙ ap (λ (e : JobNo × JobLog). Some e.1) (some_value (job, stands.0) (key, log) (sym there ∙ at))

  -- what is found by number after another is written there
  pub written_there : (after : JobLog) → IsUnique same_job m → (q : JobNo) → lookup (same_job q) (with_value_at m place after).entries ≡ cond (same_job job q) (Some after) (lookup (same_job q) logs)
  written_there after unique q =
      (updates-with_value_at m place after same_job_equiv unique job stands.0 there).0 q
      ∙ ap (λ es. cond (same_job job q) (Some after) (lookup (same_job q) es)) shown

abbrev pub journal_in : ℕ → Option JobLog → Journal
journal_in job o = option_map_or (λ log. log.journal) o (fresh job)

abbrev pub spare_in : Option JobLog → ℕ
spare_in o = option_map_or (λ log. log.spare) o 0

module _ (job : JobNo) (old new : List (JobNo × JobLog)) (after : JobLog) (updated : (q : JobNo) → lookup (same_job q) new ≡ cond (same_job job q) (Some after) (lookup (same_job q) old)) where
  pub journal_moved : (f : Journal → Journal) → after.journal ≡ f (journal_of old job.0) → (other : ℕ) → journal_of new other ≡ (if job.0 == other then f (journal_of old other) else journal_of old other)
  journal_moved f is other =
      let q : JobNo = record { 0 = other } in
      ap (journal_in other) (updated q)
      ∙ elim (job.0 == other) as (λ b. (job.0 == other) ≡ b → journal_in other (cond b (Some after) (lookup (same_job q) old)) ≡ cond b (f (journal_of old other)) (journal_of old other)) [
        | true ↦ λ t. is ∙ ap (λ n. f (journal_of old n)) (same_number job.0 other t)
        | false ↦ λ _. refl
      ] refl

  pub journal_kept : after.journal ≡ journal_of old job.0 → (other : ℕ) → journal_of new other ≡ journal_of old other
  journal_kept is other =
      journal_moved (λ journal. journal) is other
      ∙ elim (job.0 == other) as (λ b. cond b (journal_of old other) (journal_of old other) ≡ journal_of old other) [ true ↦ refl | false ↦ refl ]

  pub spare_left : (k : ℕ) → spare_of old job.0 ≤ after.spare + k → (other : ℕ) → spare_of old other ≤ spare_of new other + k
  spare_left k less other =
      let q : JobNo = record { 0 = other } in
      subst (λ o. spare_of old other ≤ spare_in o + k) (sym (updated q))
      (elim (job.0 == other) as (λ b. (job.0 == other) ≡ b → spare_of old other ≤ spare_in (cond b (Some after) (lookup (same_job q) old)) + k) [
        | true ↦ λ t. subst (λ n. spare_of old n ≤ after.spare + k) (same_number job.0 other t) less
        | false ↦ λ _. omega arith
      ] refl)

  pub spare_kept : spare_of old job.0 ≤ after.spare → (other : ℕ) → spare_of old other ≤ spare_of new other
  spare_kept less other =
      let q : JobNo = record { 0 = other } in
      subst (λ o. spare_of old other ≤ spare_in o) (sym (updated q))
      (elim (job.0 == other) as (λ b. (job.0 == other) ≡ b → spare_of old other ≤ spare_in (cond b (Some after) (lookup (same_job q) old))) [
        | true ↦ λ t. subst (λ n. spare_of old n ≤ after.spare) (same_number job.0 other t) less
        | false ↦ λ _. omega arith
      ] refl)

  pub spare_here : spare_of new job.0 ≡ after.spare
  spare_here =
      ap spare_in (updated job)
      ∙ elim (job.0 == job.0) as (λ b. (job.0 == job.0) ≡ b → spare_in (cond b (Some after) (lookup (same_job job) old)) ≡ after.spare) [
        | true ↦ λ _. refl
        | false ↦ λ t. absurd (grind (arith, nat_tests, t))
      ] refl

-- a job that has none has nothing to fold
pub none_folded : (job : JobNo) (logs : List (JobNo × JobLog)) → lookup (same_job job) logs ≡ None → (other : ℕ) → journal_of logs other ≡ folded_if (job.0 == other) (journal_of logs other)
none_folded job logs none other =
    elim (job.0 == other) as (λ b. (job.0 == other) ≡ b → journal_of logs other ≡ folded_if b (journal_of logs other)) [
      | true ↦ λ t.
          let own : journal_of logs other ≡ fresh other = ap (journal_of logs) (sym (same_number job.0 other t)) ∙ ap (journal_in job.0) none ∙ ap fresh (same_number job.0 other t) in
          own ∙ ap (folded_if true) (sym own)
      | false ↦ λ _. refl
    ] refl
