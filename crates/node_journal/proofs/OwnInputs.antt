-- What an event is to its own job.
use Rattle.std.proofs.Common.{◌≡◌, ℕ, Bool, true, false, cond, ◌==◌, List, [], ◌∷◌, map, Option, Some, None, option_to_list, refl, sym, ap, subst}
use Rattle.std.specs.Prelude.{option_map}
use Rattle.obj_id.specs.declared.commands.Reply.{Reply}
use Rattle.obj_id.specs.declared.commands.Reply.TheVariants as reply
use Rattle.private_store.specs.declared.inputs.Input.{Input}
use Rattle.private_store.specs.declared.inputs.Input.TheVariants as input
use Rattle.private_store.specs.declared.schedules.Event.{Event}
use Rattle.private_store.specs.declared.schedules.Event.TheVariants as event
use Rattle.private_store.specs.declared.schedules.NodeEvent.TheVariants.{Own}
use Rattle.private_store.specs.laws.Answers.{wants_memory}
use Rattle.private_store.specs.laws.NodeInputs.{JobInput, Before, own_here, only_of}
use Rattle.node_core.specs.Steps.{answer_of_check, stale_unless}
use Rattle.node_core.proofs.ForCallers.{own_of, IsFinishAnswer}

-- ---- the own input

abbrev pub of_job : ℕ → Option Input → Option JobInput
of_job job o = option_map (λ x. record { job = job; input = x }) o

pub here_is : (before : Before) (e : Event) (response : Reply (List ℕ)) → IsFinishAnswer before e response → ((job : ℕ) (x : Input) → own_of e response ≡ Some (record { job = job; input = x }) → wants_memory response ≡ false) → own_here before (Own e) response ≡ own_of e response
here_is before (event.Admit job quota key) reply.Ok is never = refl
here_is before (event.Admit job quota key) _ is never = refl
here_is before (event.JobEnd job) reply.Ok is never = refl
here_is before (event.JobEnd job) _ is never = refl
here_is before (event.Call job session c) response is never = ap (λ t. cond t None (Some (record { job = job.0; input = input.Call session c }))) (never job.0 (input.Call session c) refl)
here_is before (event.Requota job quota) reply.Ok is never = refl
here_is before (event.Requota job quota) _ is never = refl
here_is before event.Take response is never = refl
here_is before (event.Finish job number a) response is never = by (before.out job.0 number) is
  where
    by : (out : Bool) → response ≡ answer_of_check (stale_unless out) → cond (wants_memory response) None (cond out (Some (record { job = job.0; input = input.Answer number a })) None) ≡ own_of (event.Finish job number a) response
    by true is = subst (λ t. cond (wants_memory t) None (Some (record { job = job.0; input = input.Answer number a })) ≡ own_of (event.Finish job number a) t) (sym is) refl
    by false is = subst (λ t. cond (wants_memory t) None None ≡ own_of (event.Finish job number a) t) (sym is) refl

-- the own input, if the job is that of the event
abbrev pub if_own : Bool → Option Input → List Input
if_own true (Some x) = x ∷ []
if_own _ _ = []

pub own_inputs : (own job : ℕ) (o : Option Input) → only_of job (option_to_list (of_job own o)) ≡ if_own (own == job) o
own_inputs own job None = by (own == job)
  where
    by : (b : Bool) → [] ≡ if_own b None
    by true = refl
    by false = refl
own_inputs own job (Some x) = by (own == job)
  where
    by : (b : Bool) → map (λ (y : JobInput). y.input) (cond b (record { job = own; input = x } ∷ []) []) ≡ if_own b (Some x)
    by true = refl
    by false = refl
