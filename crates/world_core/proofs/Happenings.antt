-- An event of a schedule with its answer is what its node's step is.
use Rattle.std.proofs.Common.{◌≡◌, ◌≢◌, ℕ, Bool, true, false, cond, not, ◌==◌, ◌&&◌, ◌||◌, List, [], ◌∷◌, ◌++◌, length, map, filter, find, Option, Some, None, is_some, is_none, unwrap_or, option_map, option_to_list, slice_get, refl, sym, ap, subst, ◌∙◌, arith}
use Rattle.std.specs.Prelude.{nat_le}
use Rattle.std.specs.Option.{option_map_or, option_and_then}
use Rattle.std.specs.List.{list_any}
use Rattle.std.specs.Map.{set_value}
use Rattle.std.proofs.lemmas.Bool.Decides.{nat_tests}
use Rattle.obj_id.specs.declared.ids.JobNo.{JobNo}
use Rattle.obj_id.specs.declared.works.JobKey.{JobKey}
use Rattle.obj_id.specs.declared.works.Quota.{Quota}
use Rattle.obj_id.specs.declared.works.Work.{Work}
use Rattle.obj_id.specs.declared.commands.Reply.{Reply}
use Rattle.obj_id.specs.declared.commands.Reply.TheVariants as reply
use Rattle.obj_id.specs.declared.commands.Command.{Command}
use Rattle.obj_id.specs.declared.refusals.Refusal.{Refusal}
use Rattle.obj_id.specs.declared.refusals.Refusal.TheVariants.{NotAdmitted, BadId, BadSize, Exists, Full, NoRoom, Stale}
use Rattle.private_store.specs.declared.inputs.Input.{Input}
use Rattle.private_store.specs.declared.inputs.Input.TheVariants as input
use Rattle.private_store.specs.declared.schedules.Event.{Event}
use Rattle.private_store.specs.declared.schedules.Event.TheVariants as event
use Rattle.private_store.specs.declared.schedules.Step.TheVariants.{At}
use Rattle.private_store.specs.declared.schedules.StepAnswer.TheVariants.{Response}
use Rattle.private_store.specs.declared.schedules.Traced.{Traced}
use Rattle.private_store.specs.rules.Limits.{is_quota, most_live_jobs}
use Rattle.private_store.specs.rules.Extents.{first}
use Rattle.private_store.specs.rules.Tables.{at}
use Rattle.private_store.specs.rules.Shape.{Copy, WorkInFlight}
use Rattle.private_store.specs.rules.Jobs.{same_job}
use Rattle.private_store.specs.rules.Grants.{StandingGrant}
use Rattle.private_store.specs.rules.Contents.{View}
use Rattle.private_store.specs.rules.Private.{Store, view_of, view_step, private_outcome}
use Rattle.private_store.specs.rules.Cluster.{Cluster, at_node, input_at, response, responses_from, cluster_from}
use Rattle.private_store.specs.rules.Cluster.{Response as ToldTo}
use Rattle.private_store.specs.rules.Trace.{grants_by, grants_step, grants_at, is_no_memory, out_after, is_out, cluster_until, reply_of, is_answered}
use Rattle.private_store.specs.rules.Shared.{AskedWork, LiveJob, leaves, waiting, works_asked_by, outcome_works, is_admission, first_refusal, ok_unless, can_widen, holds_quota, store_at, admit_answer, requota_answer, take_answer, given_of, is_live_at, shared_answer, answer_due, lives_step}
use Rattle.private_store.specs.rules.Shared as shared
use Rattle.store_facts.proofs.Tests.{true_false, false_true, some_value, none_some, both_left, both_right, both}
use Rattle.store_facts.proofs.Runs.{cluster_until-step}
use Rattle.job_admission.specs.Admissions.{Admissions, lives_of, live_at, admit_check, with_admitted, window_place_for}
use Rattle.job_admission.proofs.ForCallers.{any_live}
use Rattle.spill_work.specs.declared.queue.IoRequest.{IoRequest}
use Rattle.spill_work.specs.declared.queue.Queued.{Queued}
use Rattle.spill_work.specs.Line.{is_at, is_of, front_of}
use Rattle.private_store.specs.declared.schedules.NodeEvent.TheVariants.{Own}
use Rattle.private_store.specs.laws.NodeInputs.{JobInput, Before, before_at, wants_memory, own_here, own_due, grants_after}
use Rattle.node_core.specs.Hosted.{Hosted}
use Rattle.node_core.specs.Steps.{is_taken, line_left, row_work_of, take_response, answer_of_check, end_check, requota_check, stale_unless, IsEventAnswer, admissions_after, live_jobs_after, IsGiven}
use Rattle.node_core.specs.Steps as steps
use Rattle.world_core.specs.Worlds.{is_waiting, asked_of, untaken, IsNodeAfter}
use Rattle.store_facts.proofs.StepInputs.{given_there, want_same, own_is, inputs_are}
use Rattle.world_core.proofs.Clusters.{input_found, own_of, own_told}
use Rattle.world_core.proofs.Entries.{IsEntry}
use Rattle.world_core.proofs.Lines.{any_filter, filter_all, untaken_filter, is_taken_taken, untaken_taken}
use Rattle.world_core.proofs.Numbers.{itself, apart_number, same_number, number_same, turned}

-- ---- grants

grants_here : (place : ℕ) (grants : List StandingGrant) (e : Event) (response : Reply (List ℕ)) → grants_step place grants (At place e) (Response response) ≡ grants_after grants (Own e) response
grants_here place grants e reply.Ok = ap (λ t. cond t (grants_by grants e) grants) (itself place)
grants_here place grants e _ = refl

grants_there : (place other : ℕ) (grants : List StandingGrant) (e : Event) (response : Reply (List ℕ)) → place ≢ other → grants_step other grants (At place e) (Response response) ≡ grants
grants_there place other grants e reply.Ok apart = ap (λ t. cond t (grants_by grants e) grants) (apart_number place other apart)
grants_there place other grants e _ apart = refl

-- ---- a work that is given

abbrev the_work : Work (List ℕ) → Reply (List ℕ) → Work (List ℕ)
the_work other (reply.Work work) = work
the_work other _ = other

work_isnt : {B : Type 0} (work : Work (List ℕ)) → reply.Work work ≡ reply.NoWork → B
work_isnt work e = absurd (subst (λ (q : Reply (List ℕ)). elim q as (λ _. Type 0) [ reply.Work _ ↦ Unit {0} | _ ↦ ⊥ ]) e tt)

found_number : (ws : List WorkInFlight) (number : ℕ) (w : WorkInFlight) → find (λ w. w.number == number) ws ≡ Some w → w.number ≡ number
found_number [] number w e = none_some w e
found_number (x ∷ ws) number w e = by (x.number == number) refl e (found_number ws number w)
  where
    by : (t : Bool) → (x.number == number) ≡ t → cond t (Some x) (find (λ w. w.number == number) ws) ≡ Some w → (find (λ w. w.number == number) ws ≡ Some w → w.number ≡ number) → w.number ≡ number
    by true is f rest = subst (λ y. y.number ≡ number) (some_value x w f) (same_number x.number number is)
    by false is f rest = rest f

-- the work that a Take gives is the front's
record IsFront (works : List Queued) (work : Work (List ℕ)) : Type 0 where
  asked : IoRequest
  front : front_of works ≡ Some asked
  job : work.job.0 ≡ asked.job.0
  number : work.number ≡ asked.number

work_of_is : (asked : IoRequest) (view : View) (work : Work (List ℕ)) → row_work_of asked.job.0 asked.number view ≡ Some work → (work.job.0 ≡ asked.job.0) × (work.number ≡ asked.number)
work_of_is asked view work e = by (find (λ w. w.number == asked.number) view.shape.works) refl e
  where
    by : (o : Option WorkInFlight) → find (λ w. w.number == asked.number) view.shape.works ≡ o
        → option_and_then (λ w. option_map (steps.row_work_given asked.job.0 view w) (at view.shape.copies w.id)) o ≡ Some work
        → (work.job.0 ≡ asked.job.0) × (work.number ≡ asked.number)
    by None is f = none_some work f
    by (Some w) is f = with_copy (at view.shape.copies w.id) f
      where
        with_copy : (c : Option Copy) → option_map (steps.row_work_given asked.job.0 view w) c ≡ Some work → (work.job.0 ≡ asked.job.0) × (work.number ≡ asked.number)
        with_copy None g = none_some work g
        with_copy (Some copy) g =
            let same = some_value (steps.row_work_given asked.job.0 view w copy) work g in
            (ap (λ x. x.job.0) (sym same), ap (λ x. x.number) (sym same) ∙ found_number view.shape.works asked.number w is)

front_is : (works : List Queued) (v : ℕ → View) (work : Work (List ℕ)) → reply.Work work ≡ take_response works v → IsFront works work
front_is works v work e = by (front_of works) refl e
  where
    by : (o : Option IoRequest) → front_of works ≡ o → reply.Work work ≡ option_map_or (λ asked. option_map_or reply.Work (row_work_of asked.job.0 asked.number (v asked.job.0)) reply.NoWork) o reply.NoWork → IsFront works work
    by None is f = work_isnt work f
    by (Some asked) is f = by_work (row_work_of asked.job.0 asked.number (v asked.job.0)) refl f
      where
        by_work : (o : Option (Work (List ℕ))) → row_work_of asked.job.0 asked.number (v asked.job.0) ≡ o → reply.Work work ≡ option_map_or reply.Work o reply.NoWork → IsFront works work
        by_work None w g = work_isnt work g
        by_work (Some found) w g =
            let same : work ≡ found = ap (the_work work) g in
            let both = work_of_is asked (v asked.job.0) work (w ∙ ap (λ x. Some x) (sym same)) in
            record { asked = asked; front = is; job = both.0; number = both.1 }

front_there : (works : List Queued) (asked : IoRequest) (job : JobNo) (number : ℕ) → front_of works ≡ Some asked → job.0 ≡ asked.job.0 → number ≡ asked.number → list_any (is_at job number) works ≡ true
front_there [] asked job number e j n = none_some asked e
front_there (q ∷ works) asked job number e j n = by q.taken e (λ f. front_there works asked job number f j n)
  where
    yes : (a b : Bool) → a ≡ true → (a || b) ≡ true
    yes true b e = refl
    yes false b e = true_false e

    later : (a b : Bool) → b ≡ true → (a || b) ≡ true
    later true b e = refl
    later false b e = e

    by : (t : Bool) → option_map (λ (work : Queued). work.asked) (cond (not t) (Some q) (find (λ work. not work.taken) works)) ≡ Some asked → (front_of works ≡ Some asked → list_any (is_at job number) works ≡ true)
        → (is_at job number q || list_any (is_at job number) works) ≡ true
    by true f rest = later (is_at job number q) (list_any (is_at job number) works) (rest f)
    by false f rest =
        let same : q.asked ≡ asked = some_value q.asked asked f in
        yes (is_at job number q) (list_any (is_at job number) works)
        (both (job.0 == q.asked.job.0) (q.asked.number == number) (number_same job.0 q.asked.job.0 (j ∙ ap (λ a. a.job.0) (sym same))) (number_same q.asked.number number (ap (λ a. a.number) same ∙ sym n)))

-- ---- what is out

at_and : (a c d : Bool) → a ≡ true → (a && c && d) ≡ (c && d)
at_and true c d e = refl
at_and false c d e = true_false e

at_and_not : (a c d w : Bool) → a ≡ true → w ≡ false → (a && c && d && not w) ≡ (c && d)
at_and_not true true true true e f = false_true f
at_and_not true true true false e f = refl
at_and_not true true false w e f = refl
at_and_not true false d w e f = refl
at_and_not false c d w e f = true_false e

module _ (place : ℕ) (works : List Queued) (v : ℕ → View) where
  finish_kept : (fj : JobNo) (fn job number : ℕ) (q : Queued) → (is_at (record { 0 = job }) number q && q.taken) ≡ true → not (is_at fj fn q && q.taken) ≡ not (fj.0 == job && fn == number)
  finish_kept fj fn job number q h =
      let at = both_left (is_at (record { 0 = job }) number q) q.taken h in
      let taken = both_right (is_at (record { 0 = job }) number q) q.taken h in
      let j = same_number job q.asked.job.0 (both_left (job == q.asked.job.0) (q.asked.number == number) at) in
      let n = same_number q.asked.number number (both_right (job == q.asked.job.0) (q.asked.number == number) at) in
      ap not ((λ i. ((fj.0 == sym j i) && (n i == fn)) && taken i) ∙ drop ((fj.0 == job) && (number == fn)) ∙ ap (λ t. (fj.0 == job) && t) (turned number fn))
    where
      drop : (a : Bool) → (a && true) ≡ a
      drop true = refl
      drop false = refl

  end_kept : (ended : JobNo) (job number : ℕ) (q : Queued) → (is_at (record { 0 = job }) number q && q.taken) ≡ true → not (is_of ended q) ≡ not (ended.0 == job)
  end_kept ended job number q h =
      let at = both_left (is_at (record { 0 = job }) number q) q.taken h in
      let j = same_number job q.asked.job.0 (both_left (job == q.asked.job.0) (q.asked.number == number) at) in
      ap (λ x. not (ended.0 == x)) (sym j)

  out_here : (e : Event) (response : Reply (List ℕ)) → is_no_memory (Response response) ≡ false → (node : Hosted) → node.works.works ≡ works → IsEventAnswer node v e response
      → (job number : ℕ) → is_taken (line_left works (Own e) response) job number ≡ out_after place job number (is_taken works job number) (At place e) (Response response)
  out_here event.Take (reply.Work work) n node w is job number =
      let f = front_is works v work (is ∙ ap (λ l. take_response l v) w) in
      is_taken_taken works work.job work.number job number (front_there works f.asked work.job work.number f.front f.job f.number)
      ∙ ap (λ t. is_taken works job number || t) (sym (at_and (place == place) (work.job.0 == job) (work.number == number) (itself place)))
  out_here event.Take _ n node w is job number = refl
  out_here (event.Finish fj fn a) response n node w is job number =
      any_filter (λ q. is_at (record { 0 = job }) number q && q.taken) (λ q. not (is_at fj fn q && q.taken)) (fj.0 == job && fn == number) (finish_kept fj fn job number) works
      ∙ ap (λ t. is_taken works job number && not t) (sym (at_and_not (place == place) (fj.0 == job) (fn == number) (is_no_memory (Response response)) (itself place) n))
  out_here (event.JobEnd ended) reply.Ok n node w is job number =
      any_filter (λ q. is_at (record { 0 = job }) number q && q.taken) (λ q. not (is_of ended q)) (ended.0 == job) (end_kept ended job number) works
      ∙ ap (λ t. is_taken works job number && not (t && ended.0 == job)) (sym (itself place))
  out_here (event.JobEnd ended) _ n node w is job number = refl
  out_here (event.Admit j quota key) response n node w is job number = refl
  out_here (event.Requota j quota) response n node w is job number = refl
  out_here (event.Call j session c) response n node w is job number = refl

  left_here : (e : Event) (response : Reply (List ℕ)) → untaken (line_left works (Own e) response) ≡ filter (λ asked. not (leaves place asked (At place e) (Response response))) (untaken works)
  left_here event.Take (reply.Work work) =
      untaken_taken works work.job work.number
      ∙ ap (λ k. filter k (untaken works)) (λ i asked. not (sym (at_and (place == place) (work.job.0 == asked.job) (work.number == asked.number) (itself place)) i))
  left_here event.Take _ = sym (filter_all (untaken works))
  left_here (event.Finish fj fn a) response =
      untaken_filter (λ q. not (is_at fj fn q && q.taken)) (λ asked. true) (λ q t. sym (ap (λ x. not (is_at fj fn q && x)) t ∙ none (is_at fj fn q))) works
    where
      none : (a : Bool) → not (a && false) ≡ true
      none true = refl
      none false = refl
  left_here (event.JobEnd ended) reply.Ok =
      untaken_filter (λ q. not (is_of ended q)) (λ asked. not (ended.0 == asked.job)) (λ q t. refl) works
      ∙ ap (λ k. filter k (untaken works)) (λ i asked. not (sym (itself place) i && ended.0 == asked.job))
  left_here (event.JobEnd ended) _ = sym (filter_all (untaken works))
  left_here (event.Admit j quota key) response = sym (filter_all (untaken works))
  left_here (event.Requota j quota) response = sym (filter_all (untaken works))
  left_here (event.Call j session c) response = sym (filter_all (untaken works))

out_there : (place other : ℕ) → place ≢ other → (e : Event) (response : Reply (List ℕ)) (job number : ℕ) (was : Bool) → out_after other job number was (At place e) (Response response) ≡ was
out_there place other apart event.Take (reply.Work work) job number was = ap (λ t. was || (t && work.job.0 == job && work.number == number)) (apart_number place other apart) ∙ by was
  where
    by : (a : Bool) → (a || false) ≡ a
    by true = refl
    by false = refl
out_there place other apart event.Take _ job number was = refl
out_there place other apart (event.Finish fj fn a) response job number was = ap (λ t. was && not (t && fj.0 == job && fn == number && not (is_no_memory (Response response)))) (apart_number place other apart) ∙ by was
  where
    by : (a : Bool) → (a && true) ≡ a
    by true = refl
    by false = refl
out_there place other apart (event.JobEnd ended) reply.Ok job number was = ap (λ t. was && not (t && ended.0 == job)) (apart_number place other apart) ∙ by was
  where
    by : (a : Bool) → (a && true) ≡ a
    by true = refl
    by false = refl
out_there place other apart (event.JobEnd ended) _ job number was = refl
out_there place other apart (event.Admit j quota key) response job number was = refl
out_there place other apart (event.Requota j quota) response job number was = refl
out_there place other apart (event.Call j session c) response job number was = refl

left_there : (place other : ℕ) → place ≢ other → (e : Event) (response : Reply (List ℕ)) (waiting : List AskedWork) → filter (λ asked. not (leaves other asked (At place e) (Response response))) waiting ≡ waiting
left_there place other apart event.Take (reply.Work work) waiting =
    ap (λ k. filter k waiting) (λ i asked. not (apart_number place other apart i && work.job.0 == asked.job && work.number == asked.number)) ∙ filter_all waiting
left_there place other apart event.Take _ waiting = filter_all waiting
left_there place other apart (event.JobEnd ended) reply.Ok waiting = ap (λ k. filter k waiting) (λ i asked. not (apart_number place other apart i && ended.0 == asked.job)) ∙ filter_all waiting
left_there place other apart (event.JobEnd ended) _ waiting = filter_all waiting
left_there place other apart (event.Finish fj fn a) response waiting = filter_all waiting
left_there place other apart (event.Admit j quota key) response waiting = filter_all waiting
left_there place other apart (event.Requota j quota) response waiting = filter_all waiting
left_there place other apart (event.Call j session c) response waiting = filter_all waiting

-- ---- live jobs

lives_here : (memory place : ℕ) (lives : List LiveJob) (e : Event) (response : Reply (List ℕ)) → live_jobs_after memory lives (Own e) response ≡ lives_step memory place lives (At place e) (Response response)
lives_here memory place lives (event.Admit job quota key) reply.Ok = sym (ap (λ t. cond t (shared.admitted memory job.0 quota.window lives) lives) (itself place))
lives_here memory place lives (event.Admit job quota key) _ = refl
lives_here memory place lives (event.Requota job quota) reply.Ok = sym (ap (λ t. cond t (map (shared.widened job.0 quota.window) lives) lives) (itself place))
lives_here memory place lives (event.Requota job quota) _ = refl
lives_here memory place lives (event.JobEnd job) reply.Ok = sym (ap (λ t. cond t (filter (λ live. not (shared.job_is job.0 live)) lives) lives) (itself place))
lives_here memory place lives (event.JobEnd job) _ = refl
lives_here memory place lives (event.Call job session c) response = refl
lives_here memory place lives event.Take response = refl
lives_here memory place lives (event.Finish job number a) response = refl

lives_there : (memory place other : ℕ) (lives : List LiveJob) (e : Event) (response : Reply (List ℕ)) → place ≢ other → lives_step memory other lives (At place e) (Response response) ≡ lives
lives_there memory place other lives (event.Admit job quota key) reply.Ok apart = ap (λ t. cond t (shared.admitted memory job.0 quota.window lives) lives) (apart_number place other apart)
lives_there memory place other lives (event.Admit job quota key) _ apart = refl
lives_there memory place other lives (event.Requota job quota) reply.Ok apart = ap (λ t. cond t (map (shared.widened job.0 quota.window) lives) lives) (apart_number place other apart)
lives_there memory place other lives (event.Requota job quota) _ apart = refl
lives_there memory place other lives (event.JobEnd job) reply.Ok apart = ap (λ t. cond t (filter (λ live. not (shared.job_is job.0 live)) lives) lives) (apart_number place other apart)
lives_there memory place other lives (event.JobEnd job) _ apart = refl
lives_there memory place other lives (event.Call job session c) response apart = refl
lives_there memory place other lives event.Take response apart = refl
lives_there memory place other lives (event.Finish job number a) response apart = refl

refused_isnt_ok : {B : Type 0} (o : Option Refusal) → is_some o ≡ true → reply.Ok ≡ answer_of_check o → B
refused_isnt_ok None t e = true_false t
refused_isnt_ok (Some r) t e = absurd (subst (λ (q : Reply (List ℕ)). elim q as (λ _. Type 0) [ reply.Ok ↦ Unit {0} | _ ↦ ⊥ ]) e tt)

-- what is so of a job that was admitted
record IsAdmittable (a : Admissions) (job : JobNo) (quota : Quota) : Type 0 where
  greater : nat_le job.0 a.greatest ≡ false
  placed : is_none (window_place_for a quota.window) ≡ false

admittable : (a : Admissions) (job : JobNo) (quota : Quota) → reply.Ok ≡ answer_of_check (admit_check a job quota) → IsAdmittable a job quota
admittable a job quota e = by (job.0 == 0) (not (is_quota quota)) (nat_le job.0 a.greatest) (nat_le most_live_jobs (length (lives_of a.live))) (is_none (window_place_for a quota.window)) refl refl e
  where
    by : (zero_ bad old many nowhere : Bool) → nat_le job.0 a.greatest ≡ old → is_none (window_place_for a quota.window) ≡ nowhere
        → reply.Ok ≡ answer_of_check (first_refusal ((zero_, BadId) ∷ (bad, BadSize) ∷ (old, Exists) ∷ (many || nowhere, NoRoom) ∷ [])) → IsAdmittable a job quota
    by true bad old many nowhere o w e = refused_isnt_ok (Some BadId) refl e
    by false true old many nowhere o w e = refused_isnt_ok (Some BadSize) refl e
    by false false true many nowhere o w e = refused_isnt_ok (Some Exists) refl e
    by false false false true nowhere o w e = refused_isnt_ok (Some NoRoom) refl e
    by false false false false true o w e = refused_isnt_ok (Some NoRoom) refl e
    by false false false false false o w e = record { greater = o; placed = w }

greatest_is : (a : Admissions) (job : JobNo) (quota : Quota) (key : JobKey) → is_none (window_place_for a quota.window) ≡ false → (with_admitted a job quota key).greatest ≡ job.0
greatest_is a job quota key placed = by (window_place_for a quota.window) placed
  where
    by : (o : Option ℕ) → is_none o ≡ false → (option_map_or (λ offset. record a { greatest = job.0; live = a.live ++ (job, record { quota = quota; key = key; offset = offset; entered = 0 }) ∷ [] }) o a).greatest ≡ job.0
    by None t = false_true t
    by (Some offset) t = refl

greatest_stays : (a : Admissions) (job : JobNo) (quota : Quota) → (admissions_after a (Own (event.Requota job quota)) reply.Ok).greatest ≡ a.greatest
greatest_stays a job quota =
    elim (live_at a job) as (λ o. (option_map_or (λ live. record a { live = set_value (same_job job) a.live (record live { quota = quota }) }) o a).greatest ≡ a.greatest) [ None ↦ refl | Some live ↦ refl ]

raised : (job number old : ℕ) → nat_le number old ≡ false → (nat_le job number || nat_le job old) ≡ nat_le job number
raised job number old above = grind (arith, nat_tests)

greatest_here : (place : ℕ) (node : Hosted) (v : ℕ → View) (e : Event) (response : Reply (List ℕ)) → IsEventAnswer node v e response → (job : ℕ) (before : Bool) → before ≡ nat_le job node.admissions.greatest
    → (is_admission place job (At place e) (Response response) || before) ≡ nat_le job (admissions_after node.admissions (Own e) response).greatest
greatest_here place node v (event.Admit j quota key) reply.Ok is job before was =
    let h = admittable node.admissions j quota is in
    ap (λ t. (t && nat_le job j.0) || before) (itself place)
    ∙ ap (λ t. nat_le job j.0 || t) was
    ∙ raised job j.0 node.admissions.greatest h.greater
    ∙ ap (nat_le job) (sym (greatest_is node.admissions j quota key h.placed))
greatest_here place node v (event.Admit j quota key) _ is job before was = was
greatest_here place node v (event.JobEnd j) reply.Ok is job before was = was
greatest_here place node v (event.JobEnd j) _ is job before was = was
greatest_here place node v (event.Requota j quota) reply.Ok is job before was = was ∙ ap (nat_le job) (sym (greatest_stays node.admissions j quota))
greatest_here place node v (event.Requota j quota) _ is job before was = was
greatest_here place node v (event.Call j session c) response is job before was = was
greatest_here place node v event.Take response is job before was = was
greatest_here place node v (event.Finish j number x) response is job before was = was

admission_there : (place other : ℕ) (e : Event) (response : Reply (List ℕ)) (job : ℕ) → place ≢ other → is_admission other job (At place e) (Response response) ≡ false
admission_there place other (event.Admit j quota key) reply.Ok job apart = ap (λ t. t && nat_le job j.0) (apart_number place other apart)
admission_there place other (event.Admit j quota key) _ job apart = refl
admission_there place other _ response job apart = refl

-- ---- what was due

-- the checks of an admission, but for that of job 0
abbrev later_checks : Quota → Bool → ℕ → List LiveJob → List (Bool × Refusal)
later_checks quota old size lives =
    (not (is_quota quota), BadSize)
    ∷ (old, Exists)
    ∷ (nat_le most_live_jobs (length lives) || is_none (first (map (λ live. live.window) lives) size quota.window), NoRoom)
    ∷ []

module _ (nodes memory place : ℕ) (history : List Traced) (node : Hosted) (p : IsNodeAfter nodes memory place node history)
    (store : ℕ → Store) (found : (job : ℕ) → slice_get (cluster_until nodes job history).stores place ≡ Some (store job)) where
  abbrev v : ℕ → View
  v job = view_of (store job)

  abbrev a : Admissions
  a = node.admissions

  admit_due : (job : JobNo) (quota : Quota) → admit_answer memory place history job.0 quota ≡ Response (answer_of_check (admit_check a job quota))
  admit_due job quota = ap (λ o. Response (answer_of_check o)) (by (job.0 == 0) refl)
    where
      by : (t : Bool) → (job.0 == 0) ≡ t
          → first_refusal ((t, BadId) ∷ later_checks quota (list_any (λ entry. is_admission place job.0 entry.step entry.answer) history) memory (shared.lives_after memory place history))
          ≡ first_refusal ((t, BadId) ∷ later_checks quota (nat_le job.0 a.greatest) a.memory (lives_of a.live))
      by true z = refl
      by false z = λ i. first_refusal (later_checks quota (p.greatest job.0 z i) (sym p.size i) (sym p.lives i))

  requota_due : (job : JobNo) (quota : Quota) → requota_answer nodes memory place history job.0 quota ≡ Response (answer_of_check (requota_check a (v job.0) job quota))
  requota_due job quota = λ i.
      Response (answer_of_check (first_refusal (
      (not (list_any (shared.job_is job.0) (sym p.lives i)), NotAdmitted)
      ∷ (not (is_quota quota), BadSize)
      ∷ (not (holds_quota quota (found job.0 i)), Full)
      ∷ (not (can_widen (sym p.size i) job.0 quota.window (sym p.lives i)), NoRoom)
      ∷ [])))

  end_due : (job : JobNo) → ok_unless ((not (is_live_at memory place history job.0), NotAdmitted) ∷ []) ≡ Response (answer_of_check (end_check a job))
  end_due job = ap (λ l. Response (answer_of_check (cond (not l) (Some NotAdmitted) None))) (ap (list_any (shared.job_is job.0)) (sym p.lives) ∙ any_live job a.live) ∙ ap (λ o. Response (answer_of_check o)) (turn_round (is_some (live_at a job)))
    where
      turn_round : (l : Bool) → cond (not l) (Some NotAdmitted) None ≡ cond l None (Some NotAdmitted)
      turn_round true = refl
      turn_round false = refl

  take_is : (works : List Queued) → elim (untaken works) [ [] ↦ reply.NoWork | asked ∷ _ ↦ option_map_or reply.Work (given_of asked.job asked.number (store_at nodes place history asked.job)) reply.NoWork ] ≡ take_response works v
  take_is [] = refl
  take_is (q ∷ works) = by q.taken (take_is works)
    where
      by : (t : Bool) → elim (untaken works) [ [] ↦ reply.NoWork | asked ∷ _ ↦ option_map_or reply.Work (given_of asked.job asked.number (store_at nodes place history asked.job)) reply.NoWork ] ≡ take_response works v
          → elim (map asked_of (cond (not t) (q ∷ filter is_waiting works) (filter is_waiting works))) [ [] ↦ reply.NoWork | asked ∷ _ ↦ option_map_or reply.Work (given_of asked.job asked.number (store_at nodes place history asked.job)) reply.NoWork ]
          ≡ option_map_or (λ asked. option_map_or reply.Work (row_work_of asked.job.0 asked.number (v asked.job.0)) reply.NoWork) (option_map (λ (w : Queued). w.asked) (cond (not t) (Some q) (find (λ w. not w.taken) works))) reply.NoWork
      by true rest = rest
      by false rest = ap (λ o. option_map_or reply.Work (given_of q.asked.job.0 q.asked.number o) reply.NoWork) (found q.asked.job.0)

  take_due : take_answer nodes place history ≡ Response (take_response node.works.works v)
  take_due =
      ap (λ (ws : List AskedWork). Response (elim ws [ [] ↦ reply.NoWork | asked ∷ _ ↦ option_map_or reply.Work (given_of asked.job asked.number (store_at nodes place history asked.job)) reply.NoWork ])) (sym p.waiting)
      ∙ ap Response (take_is node.works.works)

  finish_due : (job : JobNo) (number : ℕ) → ok_unless ((not (is_out place job.0 number history), Stale) ∷ []) ≡ Response (answer_of_check (stale_unless (is_taken node.works.works job.0 number)))
  finish_due job number = ap (λ t. Response (answer_of_check (cond (not t) (Some Stale) None))) (sym (p.out job.0 number)) ∙ ap (λ o. Response (answer_of_check o)) (turn_round (is_taken node.works.works job.0 number))
    where
      turn_round : (l : Bool) → cond (not l) (Some Stale) None ≡ cond l None (Some Stale)
      turn_round true = refl
      turn_round false = refl

  shared_due : (e : Event) (response : Reply (List ℕ)) → IsEventAnswer node v e response → unwrap_or (shared_answer nodes memory history (At place e)) (Response response) ≡ Response response
  shared_due (event.Admit job quota key) response is = admit_due job quota ∙ ap Response (sym is)
  shared_due (event.Requota job quota) response is = requota_due job quota ∙ ap Response (sym is)
  shared_due (event.JobEnd job) response is = end_due job ∙ ap Response (sym is)
  shared_due event.Take response is = take_due ∙ ap Response (sym is)
  shared_due (event.Finish job number x) response is = finish_due job number ∙ ap Response (sym is)
  shared_due (event.Call job session c) response is = refl

  -- the answer of an event is the one that is due
  due : (e : Event) (response : Reply (List ℕ)) → IsEventAnswer node v e response → is_no_memory (Response response) ≡ false → Response response ≡ answer_due nodes memory history (record { step = At place e; answer = Response response })
  due e response is n = sym (ap (λ t. cond t (Response response) (unwrap_or (shared_answer nodes memory history (At place e)) (Response response))) n ∙ shared_due e response is)

  -- ---- works that are asked for

  asked_by_is : (o : Option JobInput) → option_map_or (works_asked_by nodes place history) (option_map (given_there place) o) [] ≡ option_map_or (λ x. map (λ w. record { job = x.job; number = w.number }) (view_step place (v x.job) x.input).works) o []
  asked_by_is None = refl
  asked_by_is (Some x) =
      ap (λ t. cond t (outcome_works x.job (input_at (cluster_until nodes x.job history) place x.input).outcome) []) (itself place)
      ∙ ap (λ o. outcome_works x.job o.outcome) (input_found (cluster_until nodes x.job history) place x.input (store x.job) (found x.job))

  asked_elsewhere : (other : ℕ) → place ≢ other → (o : Option JobInput) → option_map_or (works_asked_by nodes other history) (option_map (given_there place) o) [] ≡ []
  asked_elsewhere other apart None = refl
  asked_elsewhere other apart (Some x) =
      ap (λ t. cond t (outcome_works x.job (input_at (cluster_until nodes x.job history) place x.input).outcome) []) (apart_number place other apart)

  -- ---- what is told

  module _ (e : Event) (given : steps.NodeGiven) (n : is_no_memory (Response given.reply) ≡ false) (is : IsEventAnswer node v e given.reply)
      (g : IsGiven place v (own_due (before_at nodes place history) (Own e) given.reply) given) where
    abbrev entry : Traced
    entry = record { step = At place e; answer = Response given.reply }

    abbrev b : Before
    b = before_at nodes place history

    -- one answer, to a command alone
    call_told : (cluster : Cluster) (s : Store) → slice_get cluster.stores place ≡ Some s → (session : ℕ) (c : Command (List ℕ))
        → responses_from cluster (at_node place (input.Call session c) ∷ []) ≡ record { node = place; session = session; reply = (private_outcome place s (input.Call session c)).reply } ∷ []
    call_told cluster s at_s session c = ap (λ o. response (at_node place (input.Call session c)) o ++ []) (input_found cluster place (input.Call session c) s at_s)

    answered_one : (t : ToldTo) → is_no_memory (Response t.reply) ≡ false → filter is_answered (t ∷ []) ≡ t ∷ []
    answered_one t n = ap (λ b. cond (not b) (t ∷ []) []) n

    one_input : (job of : ℕ) (x : Input) → ((c : Cluster) → responses_from c (at_node place x ∷ []) ≡ []) → [] ≡ responses_from (cluster_until nodes job history) (map (at_node place) (own_of job (Some (record { job = of; input = x }))))
    one_input job of x silent = by (of == job)
      where
        by : (t : Bool) → [] ≡ responses_from (cluster_until nodes job history) (map (at_node place) (cond t (x ∷ []) []))
        by true = sym (silent (cluster_until nodes job history))
        by false = refl

    finish_told : (job : ℕ) (of : ℕ) (x : Input) (t u : Bool) → ((c : Cluster) → responses_from c (at_node place x ∷ []) ≡ []) → [] ≡ responses_from (cluster_until nodes job history) (map (at_node place) (own_of job (cond t None (cond u (Some (record { job = of; input = x })) None))))
    finish_told job of x true u silent = refl
    finish_told job of x false true silent = one_input job of x silent
    finish_told job of x false false silent = refl

    own_told_is : (job : ℕ) (e : Event) (r : Reply (List ℕ)) → is_no_memory (Response r) ≡ false → IsGiven place v (own_due b (Own e) r) given → given.reply ≡ r
        → filter is_answered (option_to_list (reply_of job (At place e) (Response r))) ≡ responses_from (cluster_until nodes job history) (map (at_node place) (own_of job (own_here b (Own e) r)))
    own_told_is job (event.Admit j quota key) reply.Ok n g r = one_input job j.0 (input.Begin quota) (λ c. refl)
    own_told_is job (event.Admit j quota key) _ n g r = refl
    own_told_is job (event.Requota j quota) reply.Ok n g r = one_input job j.0 (input.Requota quota) (λ c. refl)
    own_told_is job (event.Requota j quota) _ n g r = refl
    own_told_is job (event.JobEnd j) reply.Ok n g r = one_input job j.0 input.End (λ c. refl)
    own_told_is job (event.JobEnd j) _ n g r = refl
    own_told_is job event.Take response n g r = refl
    own_told_is job (event.Finish j number x) response n g r = finish_told job j.0 (input.Answer number x) (wants_memory response) (b.out j.0 number) (λ c. refl)
    own_told_is job (event.Call j session c) response n g r =
        by (j.0 == job) refl
        ∙ sym (ap (λ t. responses_from (cluster_until nodes job history) (map (at_node place) (own_of job (cond t None (Some (record { job = j.0; input = input.Call session c })))))) (sym (want_same response) ∙ n))
      where
        by : (t : Bool) → (j.0 == job) ≡ t → filter is_answered (option_to_list (cond t (Some (record { node = place; session = session; reply = response })) None))
            ≡ responses_from (cluster_until nodes job history) (map (at_node place) (cond t (input.Call session c ∷ []) []))
        by false s = refl
        by true s =
            answered_one (record { node = place; session = session; reply = response }) n
            ∙ ap (λ q. record { node = place; session = session; reply = q } ∷ []) (sym r ∙ g.reply ∙ ap (λ k. (view_step place (v k) (input.Call session c)).reply) (same_number j.0 job s))
            ∙ sym (call_told (cluster_until nodes job history) (store job) (found job) session c)

    -- the event is what its node's step is
    pub is_entry : IsEntry nodes memory place (Own e) given.reply v node.works.works node.admissions history entry
    is_entry = record {
      tables = record {
        grants_here = grants_here place (grants_at place history) e given.reply;
        grants_there = λ other apart grants. grants_there place other grants e given.reply apart;
        out_here = λ job number. out_here place node.works.works v e given.reply n node refl is job number;
        out_there = λ other apart job number was. out_there place other apart e given.reply job number was;
        left_here = left_here place node.works.works v e given.reply;
        left_there = λ other apart waiting. left_there place other apart e given.reply waiting;
        asked_here = ap (λ o. option_map_or (works_asked_by nodes place history) o []) (own_is nodes place history e given.reply) ∙ asked_by_is (own_here b (Own e) given.reply);
        asked_there = λ other apart. ap (λ o. option_map_or (works_asked_by nodes other history) o []) (own_is nodes place history e given.reply) ∙ asked_elsewhere other apart (own_here b (Own e) given.reply);
      };
      lives = record {
        lives_here = λ lives. lives_here memory place lives e given.reply;
        lives_there = λ other apart lives. lives_there memory place other lives e given.reply apart;
        greatest = λ job before was. greatest_here place node v e given.reply is job before was;
        admission_there = λ other job apart. admission_there place other e given.reply job apart;
      };
      moves = λ job. cluster_until-step nodes job entry history ∙ ap (cluster_from (cluster_until nodes job history)) (inputs_are nodes place history e given.reply job);
      replies = λ job.
          own_told_is job e given.reply n g refl
          ∙ sym (own_told place job b (Own e) given.reply (cluster_until nodes job history))
          ∙ sym (ap (responses_from (cluster_until nodes job history)) (inputs_are nodes place history e given.reply job));
      due = due e given.reply is n;
    }
