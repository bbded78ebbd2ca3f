-- No node answers that there is no memory: that is an error of the call, and never a reply.
use Rattle.std.proofs.Common.{◌≡◌, ℕ, Bool, true, false, cond, not, ◌==◌, ◌&&◌, ◌||◌, List, [], ◌∷◌, length, Option, Some, None, is_some, is_none, refl, ap, ◌∙◌}
use Rattle.std.specs.Prelude.{nat_le}
use Rattle.std.specs.Option.{option_map_or}
use Rattle.std.specs.List.{list_all, list_any}
use Rattle.obj_id.specs.declared.ids.JobNo.{JobNo}
use Rattle.obj_id.specs.declared.works.Quota.{Quota}
use Rattle.obj_id.specs.declared.works.Work.{Work}
use Rattle.obj_id.specs.declared.commands.Reply.TheVariants as reply
use Rattle.obj_id.specs.declared.refusals.Refusal.{Refusal}
use Rattle.obj_id.specs.declared.refusals.Refusal.TheVariants.{NotAdmitted, BadId, BadSize, Exists, Full, NoRoom}
use Rattle.private_store.specs.declared.inputs.Input.TheVariants as input
use Rattle.private_store.specs.declared.schedules.Event.{Event}
use Rattle.private_store.specs.declared.schedules.Event.TheVariants as event
use Rattle.private_store.specs.declared.schedules.NodeEvent.TheVariants.{Own}
use Rattle.private_store.specs.rules.Limits.{is_quota, most_live_jobs}
use Rattle.private_store.specs.rules.Copies.{fits_quota}
use Rattle.private_store.specs.laws.Made.{is_want}
use Rattle.private_store.specs.laws.Answers.{wants_memory}
use Rattle.private_store.specs.rules.Contents.{View}
use Rattle.private_store.specs.rules.Shared.{job_is, can_widen, first_refusal}
use Rattle.private_store.specs.laws.NodeInputs.{Before, own_due}
use Rattle.store_facts.proofs.AnswersAre.{view_never_wants}
use Rattle.store_facts.proofs.Tests.{true_false}
use Rattle.spill_work.specs.declared.queue.IoRequest.{IoRequest}
use Rattle.spill_work.specs.declared.queue.Queued.{Queued}
use Rattle.spill_work.specs.Line.{front_of}
use Rattle.job_admission.specs.Admissions.{Admissions, lives_of, live_at, window_place_for}
use Rattle.node_core.specs.Hosted.{Hosted}
use Rattle.node_core.specs.Steps.{NodeGiven, is_taken, row_work_of, take_response, answer_of_check, stale_unless, IsEventAnswer, IsGiven}

abbrev checks_of : Admissions → JobNo → Quota → List (Bool × Refusal)
checks_of a job quota =
    (job.0 == 0, BadId)
    ∷ (not (is_quota quota), BadSize)
    ∷ (nat_le job.0 a.greatest, Exists)
    ∷ (nat_le most_live_jobs (length (lives_of a.live)) || is_none (window_place_for a quota.window), NoRoom)
    ∷ []

abbrev requota_checks : Admissions → View → JobNo → Quota → List (Bool × Refusal)
requota_checks a view job quota =
    (not (list_any (job_is job.0) (lives_of a.live)), NotAdmitted)
    ∷ (not (is_quota quota), BadSize)
    ∷ (not (fits_quota view.shape quota), Full)
    ∷ (not (can_widen a.memory job.0 quota.window (lives_of a.live)), NoRoom)
    ∷ []

abbrev no_check_wants : List (Bool × Refusal) → Bool
no_check_wants checks = list_all (λ check. not (is_want check.1)) checks

answered_wants : (checks : List (Bool × Refusal)) → no_check_wants checks ≡ true → wants_memory {P = List ℕ} (answer_of_check (first_refusal checks)) ≡ false
answered_wants [] h = refl
answered_wants (check ∷ checks) h = by check.0 (is_want check.1) refl h (answered_wants checks)
  where
    by : (c w : Bool) → is_want check.1 ≡ w → not w && no_check_wants checks ≡ true → (no_check_wants checks ≡ true → wants_memory {P = List ℕ} (answer_of_check (first_refusal checks)) ≡ false)
        → wants_memory {P = List ℕ} (answer_of_check (cond c (Some check.1) (first_refusal checks))) ≡ false
    by c true is h later = true_false h
    by true false is h later = is
    by false false is h later = later h

ended_wants : (live : Bool) → wants_memory {P = List ℕ} (answer_of_check (cond live None (Some NotAdmitted))) ≡ false
ended_wants true = refl
ended_wants false = refl

pub stale_wants : (fine : Bool) → wants_memory {P = List ℕ} (answer_of_check (stale_unless fine)) ≡ false
stale_wants true = refl
stale_wants false = refl

take_wants : (works : List Queued) (v : ℕ → View) → wants_memory {P = List ℕ} (take_response works v) ≡ false
take_wants works v = by (front_of works)
  where
    by_work : (o : Option (Work (List ℕ))) → wants_memory {P = List ℕ} (option_map_or reply.Work o reply.NoWork) ≡ false
    by_work None = refl
    by_work (Some work) = refl

    by : (o : Option IoRequest) → wants_memory {P = List ℕ} (option_map_or (λ asked. option_map_or reply.Work (row_work_of asked.job.0 asked.number (v asked.job.0)) reply.NoWork) o reply.NoWork) ≡ false
    by None = refl
    by (Some asked) = by_work (row_work_of asked.job.0 asked.number (v asked.job.0))

-- no answer of an event
pub told_never : (node : Hosted) (v : ℕ → View) (place : ℕ) (b : Before) (e : Event) (given : NodeGiven) → IsEventAnswer node v e given.reply
    → IsGiven place v (own_due b (Own e) given.reply) given → wants_memory given.reply ≡ false
told_never node v place b (event.Admit job quota key) given is g = ap wants_memory is ∙ answered_wants (checks_of node.admissions job quota) refl
told_never node v place b (event.Requota job quota) given is g = ap wants_memory is ∙ answered_wants (requota_checks node.admissions (v job.0) job quota) refl
told_never node v place b (event.JobEnd job) given is g = ap wants_memory is ∙ ended_wants (is_some (live_at node.admissions job))
told_never node v place b event.Take given is g = ap wants_memory is ∙ take_wants node.works.works v
told_never node v place b (event.Finish job number a) given is g = ap wants_memory is ∙ stale_wants (is_taken node.works.works job.0 number)
told_never node v place b (event.Call job session c) given is g = ap wants_memory g.reply ∙ view_never_wants place (v job.0) (input.Call session c)
