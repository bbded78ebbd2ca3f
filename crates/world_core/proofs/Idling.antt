-- A world after a step that changes no node: one for which there was no memory, or a delivery that no node takes.
use Rattle.std.proofs.Common.{◌≡◌, ℕ, Bool, true, false, cond, not, ◌==◌, ◌||◌, ◌&&◌, List, [], ◌∷◌, ◌++◌, append-nil, length, map, filter, Some, None, option_to_list, slice_get, refl, sym, ap, ◌∙◌}
use Rattle.std.specs.Option.{option_map_or}
use Rattle.std.specs.List.{list_any}
use Rattle.obj_id.specs.declared.ids.JobNo.{JobNo}
use Rattle.obj_id.specs.declared.refusals.Refusal.TheVariants.{NoMemory}
use Rattle.obj_id.specs.declared.commands.Reply.TheVariants as reply
use Rattle.obj_id.specs.declared.messages.Endpoint.{Endpoint}
use Rattle.private_store.specs.declared.schedules.Event.TheVariants as event
use Rattle.private_store.specs.declared.schedules.Step.{Step}
use Rattle.private_store.specs.declared.schedules.Step.TheVariants.{At, Deliver}
use Rattle.private_store.specs.declared.schedules.StepAnswer.{StepAnswer}
use Rattle.private_store.specs.declared.schedules.StepAnswer.TheVariants.{Response}
use Rattle.private_store.specs.declared.schedules.Traced.{Traced}
use Rattle.private_store.specs.rules.Grants.{StandingGrant}
use Rattle.private_store.specs.rules.Cluster.{Cluster, ClusterInput, deliver, cluster_step, cluster_from, responses_from}
use Rattle.private_store.specs.rules.Trace.{Given, grants_at, grants_step, out_after, is_out, is_no_memory, own_input, notes, for_job, inputs_until, cluster_until, reply_of, is_answered}
use Rattle.private_store.specs.rules.Shared.{AskedWork, LiveJob, leaves, waiting, asked_by, works_asked_by, lives_step, is_admission, answer_due}
use Rattle.private_store.specs.rules.Shared as shared
use Rattle.store_facts.proofs.Runs.{inputs_now, cluster_until-step}
use Rattle.owner_directory.specs.Locations.{locations_of}
use Rattle.world_core.specs.Logs.{sent_of}
use Rattle.node_core.specs.Hosted.{Hosted}
use Rattle.world_core.specs.Worlds.{Hosting, IsNodeAfter, IsJobAfter, IsAfter}
use Rattle.world_core.proofs.Lines.{filter_all}
use Rattle.world_core.proofs.Stepping.{replies_more}

-- an entry that is nothing at any node
pub record IsIdle (nodes memory : ℕ) (history : List Traced) (entry : Traced) : Type 0 where
  pub grants : (place : ℕ) (grants : List StandingGrant) → grants_step place grants entry.step entry.answer ≡ grants
  pub out : (place job number : ℕ) (was : Bool) → out_after place job number was entry.step entry.answer ≡ was
  pub left : (place : ℕ) (waiting : List AskedWork) → filter (λ asked. not (leaves place asked entry.step entry.answer)) waiting ≡ waiting
  pub asked : (place : ℕ) → asked_by nodes place history entry ≡ []
  pub lives : (place : ℕ) (lives : List LiveJob) → lives_step memory place lives entry.step entry.answer ≡ lives
  pub admission : (place job : ℕ) → is_admission place job entry.step entry.answer ≡ false
  pub stores : (job : ℕ) → (cluster_until nodes job (entry ∷ history)).stores ≡ (cluster_until nodes job history).stores
  pub due : entry.answer ≡ answer_due nodes memory history entry

module _ (nodes memory : ℕ) (history : List Traced) (entry : Traced) (k : IsIdle nodes memory history entry) where
  node_idle : (place : ℕ) (node : Hosted) → IsNodeAfter nodes memory place node history → IsNodeAfter nodes memory place node (entry ∷ history)
  node_idle place node q = record {
    number = q.number;
    size = q.size;
    lives = q.lives ∙ sym (k.lives place (shared.lives_after memory place history));
    greatest = λ job z. ap (λ t. t || list_any (λ entry. is_admission place job entry.step entry.answer) history) (k.admission place job) ∙ q.greatest job z;
    shows = λ job store f. q.shows job store (ap (λ stores. slice_get stores place) (sym (k.stores job)) ∙ f);
    grants = q.grants ∙ sym (k.grants place (grants_at place history));
    waiting = q.waiting ∙ sym (k.left place (waiting nodes place history))
        ∙ sym (append-nil (filter (λ asked. not (leaves place asked entry.step entry.answer)) (waiting nodes place history)))
        ∙ ap (λ l. filter (λ asked. not (leaves place asked entry.step entry.answer)) (waiting nodes place history) ++ l) (sym (k.asked place));
    out = λ job number. q.out job number ∙ sym (k.out place job number (is_out place job number history));
  }

  -- the world afterwards, where its nodes are the same
  pub world_idle : (old new : Hosting) → IsAfter nodes memory old history → new.nodes ≡ old.nodes
      → ((job : ℕ) → IsJobAfter nodes job (sent_of new.messages job) (locations_of new.tables (record { 0 = job })) (entry ∷ history)) → IsAfter nodes memory new (entry ∷ history)
  world_idle old new h same jobs = record {
    count = ap length same ∙ h.count;
    each_node = λ place node f. node_idle place node (h.each_node place node (ap (λ ns. slice_get ns place) (sym same) ∙ f));
    each_job = jobs;
    due = λ i. k.due i ∷ h.due i;
  }

  -- a job that the step is nothing to
  pub job_idle : (job : ℕ) (old : Hosting) → IsAfter nodes memory old history → cluster_until nodes job (entry ∷ history) ≡ cluster_until nodes job history
      → filter is_answered (option_to_list (reply_of job entry.step entry.answer)) ≡ responses_from (cluster_until nodes job history) (inputs_now nodes job entry history)
      → IsJobAfter nodes job (sent_of old.messages job) (locations_of old.tables (record { 0 = job })) (entry ∷ history)
  job_idle job old h same response =
      let j = h.each_job job in
      record {
        messages = j.messages ∙ sym (ap (λ (c : Cluster). c.sent) same);
        locations = j.locations ∙ sym (ap (λ (c : Cluster). c.locations) same);
        replies = replies_more nodes job entry history j.replies response;
      }

-- ---- out of memory

abbrev wanting : StepAnswer
wanting = Response (reply.Refused NoMemory)

module _ (nodes memory : ℕ) (history : List Traced) where
  own_wants : (step : Step) → own_input history step wanting ≡ None
  own_wants (At place (event.Admit j quota key)) = refl
  own_wants (At place (event.Requota j quota)) = refl
  own_wants (At place (event.JobEnd j)) = refl
  own_wants (At place event.Take) = refl
  own_wants (At place (event.Finish j number a)) = refl
  own_wants (At place (event.Call j session c)) = refl
  own_wants (Deliver j from to m damage) = refl

  notes_wants : (inputs : ℕ → List ClusterInput) (step : Step) → notes nodes inputs history step wanting ≡ []
  notes_wants inputs (At place e) = refl
  notes_wants inputs (Deliver j from to m damage) = refl

  inputs_wants : (job : ℕ) (step : Step) → inputs_now nodes job (record { step = step; answer = wanting }) history ≡ []
  inputs_wants job step = λ i. for_job job (option_to_list (own_wants step i) ++ notes_wants (λ other. inputs_until nodes other history) step i)

  cluster_wants : (job : ℕ) (step : Step) → cluster_until nodes job (record { step = step; answer = wanting } ∷ history) ≡ cluster_until nodes job history
  cluster_wants job step = cluster_until-step nodes job (record { step = step; answer = wanting }) history ∙ ap (cluster_from (cluster_until nodes job history)) (inputs_wants job step)

  out_wants : (step : Step) (place job number : ℕ) (was : Bool) → out_after place job number was step wanting ≡ was
  out_wants (At at (event.Finish j n a)) place job number was = by (at == place) (j.0 == job) (n == number) was
    where
      by : (a b c was : Bool) → (was && not (a && b && c && false)) ≡ was
      by a b c false = refl
      by true true true true = refl
      by true true false true = refl
      by true false c true = refl
      by false b c true = refl
  out_wants (At at (event.Admit j quota key)) place job number was = refl
  out_wants (At at (event.Requota j quota)) place job number was = refl
  out_wants (At at (event.JobEnd j)) place job number was = refl
  out_wants (At at event.Take) place job number was = refl
  out_wants (At at (event.Call j session c)) place job number was = refl
  out_wants (Deliver j from to m damage) place job number was = refl

  left_wants : (step : Step) (place : ℕ) (waiting : List AskedWork) → filter (λ asked. not (leaves place asked step wanting)) waiting ≡ waiting
  left_wants (At at (event.Finish j n a)) place waiting = filter_all waiting
  left_wants (At at (event.Admit j quota key)) place waiting = filter_all waiting
  left_wants (At at (event.Requota j quota)) place waiting = filter_all waiting
  left_wants (At at (event.JobEnd j)) place waiting = filter_all waiting
  left_wants (At at event.Take) place waiting = filter_all waiting
  left_wants (At at (event.Call j session c)) place waiting = filter_all waiting
  left_wants (Deliver j from to m damage) place waiting = filter_all waiting

  lives_wants : (step : Step) (place : ℕ) (lives : List LiveJob) → lives_step memory place lives step wanting ≡ lives
  lives_wants (At at (event.Admit j quota key)) place lives = refl
  lives_wants (At at (event.Requota j quota)) place lives = refl
  lives_wants (At at (event.JobEnd j)) place lives = refl
  lives_wants (At at event.Take) place lives = refl
  lives_wants (At at (event.Finish j n a)) place lives = refl
  lives_wants (At at (event.Call j session c)) place lives = refl
  lives_wants (Deliver j from to m damage) place lives = refl

  admission_wants : (step : Step) (place job : ℕ) → is_admission place job step wanting ≡ false
  admission_wants (At at (event.Admit j quota key)) place job = refl
  admission_wants (At at _) place job = refl
  admission_wants (Deliver j from to m damage) place job = refl

  grants_wants : (step : Step) (place : ℕ) (grants : List StandingGrant) → grants_step place grants step wanting ≡ grants
  grants_wants (At at e) place grants = refl
  grants_wants (Deliver j from to m damage) place grants = refl

  reply_wants_none : (job : ℕ) (step : Step) → filter is_answered (option_to_list (reply_of job step wanting)) ≡ []
  reply_wants_none job (At at (event.Call j session c)) = by (j.0 == job)
    where
      by : (t : Bool) → filter is_answered (option_to_list (cond t (Some (record { node = at; session = session; reply = reply.Refused NoMemory })) None)) ≡ []
      by false = refl
      by true = refl
  reply_wants_none job (At at (event.Admit j quota key)) = refl
  reply_wants_none job (At at (event.Requota j quota)) = refl
  reply_wants_none job (At at (event.JobEnd j)) = refl
  reply_wants_none job (At at event.Take) = refl
  reply_wants_none job (At at (event.Finish j n a)) = refl
  reply_wants_none job (Deliver j from to m damage) = refl

  wants_idle : (step : Step) → IsIdle nodes memory history (record { step = step; answer = wanting })
  wants_idle step = record {
    grants = grants_wants step;
    out = out_wants step;
    left = left_wants step;
    asked = λ place. ap (λ o. option_map_or (works_asked_by nodes place history) o []) (own_wants step);
    lives = lives_wants step;
    admission = admission_wants step;
    stores = λ job. ap (λ (c : Cluster). c.stores) (cluster_wants job step);
    due = refl;
  }

  -- the world after a step for which there was no memory
  pub after_wanting : (step : Step) (old : Hosting) → IsAfter nodes memory old history → IsAfter nodes memory old (record { step = step; answer = wanting } ∷ history)
  after_wanting step old h =
      world_idle nodes memory history (record { step = step; answer = wanting }) (wants_idle step) old old h refl
      (λ job. job_idle nodes memory history (record { step = step; answer = wanting }) (wants_idle step) job old h (cluster_wants job step)
      (reply_wants_none job step ∙ sym (ap (responses_from (cluster_until nodes job history)) (inputs_wants job step))))

-- ---- a delivery

module _ (nodes memory : ℕ) (history : List Traced) (job : JobNo) (from to : Endpoint) (m : ℕ) (damage : Bool) (response : StepAnswer) (answered : is_no_memory response ≡ false) where
  abbrev pub delivery : Traced
  delivery = record { step = Deliver job from to m damage; answer = response }

  pub own_delivery : own_input history (Deliver job from to m damage) response ≡ Some (record { job = job.0; input = deliver from to m damage })
  own_delivery = ap (λ t. cond t None (Some (record { job = job.0; input = deliver from to m damage }))) answered

  pub inputs_delivery : (other : ℕ) → inputs_now nodes other delivery history ≡ cond (job.0 == other) (deliver from to m damage ∷ []) []
  inputs_delivery other = ap (λ o. for_job other (option_to_list o ++ [])) own_delivery ∙ by (job.0 == other)
    where
      by : (t : Bool) → map (λ (g : Given). g.input) (cond t (record { job = job.0; input = deliver from to m damage } ∷ []) []) ≡ cond t (deliver from to m damage ∷ []) []
      by true = refl
      by false = refl

  pub cluster_delivery : (other : ℕ) → cluster_until nodes other (delivery ∷ history) ≡ cond (job.0 == other) (cluster_step (cluster_until nodes other history) (deliver from to m damage)).cluster (cluster_until nodes other history)
  cluster_delivery other =
      cluster_until-step nodes other delivery history ∙ ap (cluster_from (cluster_until nodes other history)) (inputs_delivery other) ∙ by (job.0 == other)
    where
      by : (t : Bool) → cluster_from (cluster_until nodes other history) (cond t (deliver from to m damage ∷ []) []) ≡ cond t (cluster_step (cluster_until nodes other history) (deliver from to m damage)).cluster (cluster_until nodes other history)
      by true = refl
      by false = refl

  -- no reply to a command comes of it
  pub told_delivery : (other : ℕ) → filter is_answered (option_to_list (reply_of other (Deliver job from to m damage) response)) ≡ responses_from (cluster_until nodes other history) (inputs_now nodes other delivery history)
  told_delivery other = by (job.0 == other) ∙ sym (ap (responses_from (cluster_until nodes other history)) (inputs_delivery other))
    where
      by : (t : Bool) → [] ≡ responses_from (cluster_until nodes other history) (cond t (deliver from to m damage ∷ []) [])
      by true = refl
      by false = refl
