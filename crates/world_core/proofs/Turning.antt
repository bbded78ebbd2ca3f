-- A world after one step more, of any kind.
use Rattle.std.proofs.Common.{◌≡◌, ℕ, true, false, ◌<◌, List, ◌∷◌, length, refl, sym, ap, subst, ◌∙◌}
use Rattle.obj_id.specs.declared.ids.JobNo.{JobNo}
use Rattle.obj_id.specs.declared.messages.Message.{Message}
use Rattle.obj_id.specs.declared.messages.Endpoint.{Endpoint}
use Rattle.obj_id.specs.declared.refusals.Refusal.TheVariants.{NoMemory}
use Rattle.obj_id.specs.declared.commands.Reply.{Reply}
use Rattle.obj_id.specs.declared.commands.Reply.TheVariants as reply
use Rattle.private_store.specs.declared.schedules.Event.{Event}
use Rattle.private_store.specs.declared.schedules.Step.{Step}
use Rattle.private_store.specs.declared.schedules.Step.TheVariants.{At, Deliver}
use Rattle.private_store.specs.declared.schedules.StepAnswer.{StepAnswer}
use Rattle.private_store.specs.declared.schedules.StepAnswer.TheVariants.{Response, NoMessage}
use Rattle.private_store.specs.declared.schedules.Traced.{Traced}
use Rattle.private_store.specs.declared.schedules.NodeEvent.TheVariants.{Own}
use Rattle.private_store.specs.laws.NodeInputs.{before_at, own_due}
use Rattle.private_store.specs.rules.Private.{Store}
use Rattle.private_store.specs.rules.Trace.{is_no_memory}
use Rattle.store_facts.proofs.StepInputs.{want_same}
use Rattle.store_facts.proofs.Tests.{true_false}
use Rattle.node_core.specs.Steps.{NodeGiven, IsGiven, NodeStepFrom}
use Rattle.world_core.specs.Worlds.{Hosting, IsNodeAfter, IsAfter, is_within}
use Rattle.world_core.specs.WorldSteps.{HostingStep, as_damaged, IsDelivered, to_directory, past_directory, to_node, past_node, nothing, delivered, WorldStep, at, delivers, wants, EventStep}
use Rattle.world_core.proofs.Numbers.{is_less}
use Rattle.world_core.proofs.Places.{length-slice_set}
use Rattle.world_core.proofs.Stepping.{here, view_at, shown, before_same, after_event}
use Rattle.node_core.proofs.ForCallers.{told_never}
use Rattle.world_core.proofs.Happenings.{is_entry}
use Rattle.world_core.proofs.Idling.{after_wanting}
use Rattle.world_core.proofs.Deliveries.{no_step, no_answer, after_nothing}
use Rattle.world_core.proofs.HandedOver.{after_handed, handed_wants_none}

module _ (nodes memory place : ℕ) (e : Event) (given : NodeGiven) (old new : Hosting) (history : List Traced)
    (h : IsAfter nodes memory old history) (within : place < nodes) (m : HostingStep old place (Own e) given new) where
  abbrev store : ℕ → Store
  store job = (here nodes memory place old history h within m.before m.found job).0

  p : IsNodeAfter nodes memory place m.before history
  p = h.each_node place m.before m.found

  s : NodeStepFrom m.before (view_at nodes memory place old history h within m.before m.found) (Own e) given m.after
  s = m.steps.each (view_at nodes memory place old history h within m.before m.found) (shown nodes memory place old history h within m.before m.found)

  due_given : IsGiven place (view_at nodes memory place old history h within m.before m.found) (own_due (before_at nodes place history) (Own e) given.reply) given
  due_given =
      subst (λ n. IsGiven n (view_at nodes memory place old history h within m.before m.found) (own_due (before_at nodes place history) (Own e) given.reply) given) p.number
      (subst (λ c. IsGiven m.before.number (view_at nodes memory place old history h within m.before m.found) (own_due c (Own e) given.reply) given) (before_same nodes memory place old history h within m.before m.found) s.response)

  -- no node answers that there is no memory
  pub event_answered : is_no_memory (Response given.reply) ≡ false
  event_answered =
      want_same given.reply
      ∙ told_never m.before (view_at nodes memory place old history h within m.before m.found) place (before_at nodes place history) e given s.operator due_given

  -- the world after an event of a schedule
  pub after_at : IsAfter nodes memory new (record { step = At place e; answer = Response given.reply } ∷ history)
  after_at =
      after_event nodes memory place (Own e) given old new history (record { step = At place e; answer = Response given.reply }) h within m
      (sym (want_same given.reply) ∙ event_answered)
      (is_entry nodes memory place history m.before p store (λ job. (here nodes memory place old history h within m.before m.found job).1) e given event_answered s.operator due_given)

-- ---- any step

-- what a step does leaves the world after a history with one step more
pub after_turn : (nodes memory : ℕ) (history : List Traced) (old new : Hosting) (step : Step) (response : StepAnswer)
    → IsAfter nodes memory old history → is_within nodes step ≡ true → WorldStep old new step response → IsAfter nodes memory new (record { step = step; answer = response } ∷ history)
after_turn nodes memory history old new step response h inside (at place e given moves) = after_at nodes memory place e given old new history h (is_less place nodes inside) moves
after_turn nodes memory history old new step response h inside (wants s same) =
    subst (λ w. IsAfter nodes memory w (record { step = s; answer = Response (reply.Refused NoMemory) } ∷ history)) (sym same) (after_wanting nodes memory history s old h)
after_turn nodes memory history old new step response h inside (delivers job from to m damage answer (nothing none same)) =
    subst (λ w. IsAfter nodes memory w (record { step = Deliver job from to m damage; answer = NoMessage } ∷ history)) (sym same)
    (after_nothing nodes memory history job from to m damage NoMessage refl old h (no_step nodes memory history old h job from to m damage none) (sym (no_answer nodes memory history old h job from to m damage none)))
after_turn nodes memory history old new step response h inside (delivers job from to m damage answer (delivered sent t some k)) =
    after_handed nodes memory history old new job from to m damage sent t h inside some k

-- an answer that is out of memory is a step that did nothing
pub turn_wants : (nodes memory : ℕ) (history : List Traced) (old new : Hosting) (step : Step) (response : StepAnswer)
    → IsAfter nodes memory old history → is_within nodes step ≡ true → WorldStep old new step response → is_no_memory response ≡ true → new ≡ old
turn_wants nodes memory history old new step response h inside (at place e given moves) n = true_false (sym (event_answered nodes memory place e given old new history h (is_less place nodes inside) moves) ∙ n)
turn_wants nodes memory history old new step response h inside (wants s same) n = same
turn_wants nodes memory history old new step response h inside (delivers job from to m damage answer (nothing none same)) n = same
turn_wants nodes memory history old new step response h inside (delivers job from to m damage answer (delivered sent t some k)) n = handed_wants_none nodes memory history old new job from to (as_damaged damage sent) t h inside k n

-- no node comes or goes
delivered_count : (old new : Hosting) (job : JobNo) (from to : Endpoint) (m : Message) (response : StepAnswer) → IsDelivered old job from m new to response → length new.nodes ≡ length old.nodes
delivered_count old new job from to m response (to_directory d is moves) = ap length moves.nodes
delivered_count old new job from to m response (past_directory is same) = ap (λ w. length w.nodes) same
delivered_count old new job from to m response (to_node place given a is moves) = ap length moves.nodes ∙ length-slice_set old.nodes place moves.after
delivered_count old new job from to m response (past_node place node found is same) = ap (λ w. length w.nodes) same

pub turn_count : (old new : Hosting) (step : Step) (response : StepAnswer) → WorldStep old new step response → length new.nodes ≡ length old.nodes
turn_count old new step response (at place e given moves) = ap length moves.nodes ∙ length-slice_set old.nodes place moves.after
turn_count old new step response (wants s same) = ap (λ w. length w.nodes) same
turn_count old new step response (delivers job from to m damage answer (nothing none same)) = ap (λ w. length w.nodes) same
turn_count old new step response (delivers job from to m damage answer (delivered sent t some k)) = delivered_count old new job from to (as_damaged damage sent) t k

-- ---- the same of a step as it is given

pub turned_by : (old new : Hosting) (place : ℕ) (e : Event) (response : Reply (List ℕ)) → EventStep old place e response new → WorldStep old new (At place e) (Response response)
turned_by old new place e response k =
    subst (λ r. WorldStep old new (At place e) (Response r)) k.reply
    (at place e k.given (record { before = k.before; after = k.after; found = k.found; steps = k.steps; nodes = k.nodes; tables = k.tables; sent = k.sent }))

-- no node answers an event that there is no memory
pub event_told : (place : ℕ) (e : Event) (response : Reply (List ℕ)) (old new : Hosting) → place < length old.nodes → EventStep old place e response new
    → (nodes memory : ℕ) (history : List Traced) → IsAfter nodes memory old history → is_no_memory (Response response) ≡ false
event_told place e response old new within k nodes memory history h =
    subst (λ r. is_no_memory (Response r) ≡ false) k.reply
    (event_answered nodes memory place e k.given old new history h (subst (λ n. place < n) h.count within)
    (record { before = k.before; after = k.after; found = k.found; steps = k.steps; nodes = k.nodes; tables = k.tables; sent = k.sent }))

module _ (nodes memory : ℕ) (history : List Traced) (old new : Hosting) (step : Step) (h : IsAfter nodes memory old history) (inside : is_within (length old.nodes) step ≡ true) where
  within_nodes : is_within nodes step ≡ true
  within_nodes = subst (λ n. is_within n step ≡ true) h.count inside

  pub world_after : (response : StepAnswer) → WorldStep old new step response → IsAfter nodes memory new (record { step = step; answer = response } ∷ history)
  world_after response t = after_turn nodes memory history old new step response h within_nodes t

  pub world_same : (response : StepAnswer) → WorldStep old new step response → is_no_memory response ≡ true → new ≡ old
  world_same response t = turn_wants nodes memory history old new step response h within_nodes t
