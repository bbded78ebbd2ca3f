-- A message applied to its job's row.
use Rattle.std.proofs.Common.{◌≡◌, Bool, true, false, cond, [], Some, None, refl, sym, ap, ◌∙◌, arith}
use Rattle.std.specs.Prelude.{unwrap_or, OnErr, Ok, Err}
use Rattle.std.specs.declared.result.Result.{Result}
use Rattle.std.specs.Map.{lookup}
use Rattle.std.proofs.lemmas.Bool.Decides.{nat_tests}
use Rattle.obj_id.specs.declared.ids.JobNo.{JobNo}
use Rattle.obj_id.specs.declared.messages.DirectoryMessage.{DirectoryMessage}
use Rattle.private_store.specs.rules.Jobs.{same_job}
use Rattle.private_store.specs.rules.Directory.{locations_after}
use Rattle.owner_directory.specs.Locations.{Locations, DirectoryRows, locations_of, Applies}

itself : (job : JobNo) → same_job job job ≡ true
itself job = grind (arith, nat_tests)

module _ (job : JobNo) where
  pub row_found : (rows : DirectoryRows) (row : Locations) → lookup (same_job job) rows ≡ Some row → locations_of rows job ≡ row
  row_found rows row found = ap (λ o. unwrap_or o []) found

  pub no_row : (rows : DirectoryRows) → lookup (same_job job) rows ≡ None → locations_of rows job ≡ []
  no_row rows none = ap (λ o. unwrap_or o []) none

  -- the job's row after the message, in place of what was there
  pub applied : (old new : DirectoryRows) (message : DirectoryMessage) (before row : Locations)
      → locations_of old job ≡ before → row ≡ locations_after before message
      → ((q : JobNo) → lookup (same_job q) new ≡ cond (same_job job q) (Some row) (lookup (same_job q) old))
      → Applies old new job message
  applied old new message before row was after updated = record {
    own = ap (λ o. unwrap_or o []) (updated job ∙ ap (λ b. cond b (Some row) (lookup (same_job job) old)) (itself job))
        ∙ after ∙ sym (ap (λ t. locations_after t message) was);
    others = λ other differ. ap (λ o. unwrap_or o []) (updated other ∙ ap (λ b. cond b (Some row) (lookup (same_job other) old)) differ);
  }

  -- a message that finds no row, and needs none
  pub applied_to_none : (rows : DirectoryRows) (message : DirectoryMessage) → lookup (same_job job) rows ≡ None → locations_after [] message ≡ [] → Applies rows rows job message
  applied_to_none rows message none stays = record {
    own = no_row rows none ∙ sym stays ∙ sym (ap (λ t. locations_after t message) (no_row rows none));
    others = λ other differ. refl;
  }

-- what holds anyway holds of a refusal
pub on_err : {T : Type 0} {E : Type 0} {P : Type 0} (r : Result T E) → P → OnErr r P
on_err (Ok x) p = tt
on_err (Err e) p = p

-- rows that tell every job the same
pub applied_on : (old left new : DirectoryRows) (job : JobNo) (message : DirectoryMessage) → Applies old left job message → ((other : JobNo) → locations_of new other ≡ locations_of left other) → Applies old new job message
applied_on old left new job message h same = record { own = same job ∙ h.own; others = λ other differ. same other ∙ h.others other differ }

-- without a row that has nothing
pub emptied : (job : JobNo) (old new : DirectoryRows) → locations_of old job ≡ [] → ((q : JobNo) → lookup (same_job q) new ≡ cond (same_job job q) None (lookup (same_job q) old)) → (other : JobNo) → locations_of new other ≡ locations_of old other
emptied job old new none updated other = by (same_job job other) refl
  where
    by : (b : Bool) → same_job job other ≡ b → locations_of new other ≡ locations_of old other
    by true t =
        let number : job.0 ≡ other.0 = grind (arith, nat_tests, t) in
        let same : job ≡ other = ap (λ n. record { 0 = n }) number in
        ap (λ o. unwrap_or o []) (updated other ∙ ap (λ b. cond b None (lookup (same_job other) old)) t) ∙ sym (ap (locations_of old) (sym same) ∙ none)
    by false t = ap (λ o. unwrap_or o []) (updated other ∙ ap (λ b. cond b None (lookup (same_job other) old)) t)
