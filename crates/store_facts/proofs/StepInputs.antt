-- What a step is to a job, by the trace and by the node: one list.
use Rattle.std.proofs.Common.{◌≡◌, ℕ, Bool, true, false, cond, ◌==◌, List, [], ◌∷◌, ◌++◌, map, filter, Option, Some, None, option_to_list, refl, ap, ◌∙◌}
use Rattle.std.specs.Prelude.{option_map}
use Rattle.std.specs.Option.{option_map_or}
use Rattle.obj_id.specs.declared.commands.Command.TheVariants as command
use Rattle.obj_id.specs.declared.commands.Reply.{Reply}
use Rattle.obj_id.specs.declared.commands.Reply.TheVariants as reply
use Rattle.obj_id.specs.declared.refusals.Refusal.{Refusal}
use Rattle.obj_id.specs.declared.refusals.Refusal.TheVariants.{NoMemory}
use Rattle.private_store.specs.declared.inputs.Input.{Input}
use Rattle.private_store.specs.declared.inputs.Input.TheVariants as input
use Rattle.private_store.specs.declared.schedules.Event.{Event}
use Rattle.private_store.specs.declared.schedules.Event.TheVariants as event
use Rattle.private_store.specs.declared.schedules.Step.TheVariants.{At}
use Rattle.private_store.specs.declared.schedules.StepAnswer.TheVariants.{Response}
use Rattle.private_store.specs.declared.schedules.Traced.{Traced}
use Rattle.private_store.specs.rules.Grants.{StandingGrant, grants_ended}
use Rattle.private_store.specs.rules.Cluster.{at_node}
use Rattle.private_store.specs.rules.Trace.{Given, ends, is_out, is_no_memory, own_input, withdrawn_note, notes_by, notes, for_job, inputs_until}
use Rattle.store_facts.proofs.Runs.{inputs_now}
use Rattle.private_store.specs.declared.schedules.NodeEvent.TheVariants.{Own}
use Rattle.private_store.specs.laws.Answers.{wants_memory}
pub use Rattle.private_store.specs.laws.NodeInputs.{before_at}
use Rattle.private_store.specs.laws.NodeInputs.{JobInput, Before, own_event, withdrawn_here, notes_of, notes_here, inputs_here, only_of, inputs_to}

-- an input at the place
abbrev pub given_there : ℕ → JobInput → Given
given_there place x = record { job = x.job; input = at_node place x.input }

-- ---- out of memory

want_is : (r : Refusal) → is_no_memory (Response (reply.Refused r)) ≡ wants_memory {P = List ℕ} (reply.Refused r)
want_is NoMemory = refl
want_is _ = refl

pub want_same : (response : Reply (List ℕ)) → is_no_memory (Response response) ≡ wants_memory response
want_same (reply.Refused r) = want_is r
want_same _ = refl

-- ---- the own input

module _ (nodes place : ℕ) (history : List Traced) where
  abbrev b : Before
  b = before_at nodes place history

  finish_is : (t : Bool) (job number : ℕ) (x : Input) (out : Bool)
      → cond t None (cond out (Some (record { job = job; input = at_node place x })) None)
      ≡ option_map (given_there place) (cond t None (cond out (Some (record { job = job; input = x })) None))
  finish_is true job number x out = refl
  finish_is false job number x true = refl
  finish_is false job number x false = refl

  pub own_is : (e : Event) (response : Reply (List ℕ)) → own_input history (At place e) (Response response) ≡ option_map (given_there place) (own_event b e response)
  own_is (event.Admit job quota key) reply.Ok = refl
  own_is (event.Admit job quota key) _ = refl
  own_is (event.Requota job quota) reply.Ok = refl
  own_is (event.Requota job quota) _ = refl
  own_is (event.JobEnd job) reply.Ok = refl
  own_is (event.JobEnd job) _ = refl
  own_is event.Take response = refl
  own_is (event.Finish job number a) response =
      ap (λ t. cond t None (cond (is_out place job.0 number history) (Some (record { job = job.0; input = at_node place (input.Answer number a) })) None)) (want_same response)
      ∙ finish_is (wants_memory response) job.0 number (input.Answer number a) (is_out place job.0 number history)
  own_is (event.Call job session c) response =
      ap (λ t. cond t None (Some (record { job = job.0; input = at_node place (input.Call session c) }))) (want_same response)
      ∙ finish_is (wants_memory response) job.0 0 (input.Call session c) true

  -- ---- the notes

  map_there : (grants : List StandingGrant) → map (withdrawn_note place) grants ≡ map (given_there place) (map withdrawn_here grants)
  map_there [] = refl
  map_there (grant ∷ grants) = ap (λ l. withdrawn_note place grant ∷ l) (map_there grants)

  ended_are : (o : Option (StandingGrant → Bool)) → option_map_or (λ test. map (withdrawn_note place) (grants_ended test b.grants)) o [] ≡ map (given_there place) (option_map_or (λ test. map withdrawn_here (grants_ended test b.grants)) o [])
  ended_are None = refl
  ended_are (Some test) = map_there (grants_ended test b.grants)

  notes_are : (e : Event) → notes_by nodes place (λ other. inputs_until nodes other history) b.grants e ≡ map (given_there place) (notes_of b e)
  notes_are (event.Call job session (command.Grant id target)) = refl
  notes_are e = ended_are (ends e)

  pub notes_is : (e : Event) (response : Reply (List ℕ)) → notes nodes (λ other. inputs_until nodes other history) history (At place e) (Response response) ≡ map (given_there place) (notes_here b (Own e) response)
  notes_is e reply.Ok = notes_are e
  notes_is e _ = refl

-- ---- both

map_both : {A B : Type 0} (f : A → B) (o : Option A) (xs : List A) → option_to_list (option_map f o) ++ map f xs ≡ map f (option_to_list o ++ xs)
map_both f None xs = refl
map_both f (Some x) xs = refl

for_job_of : (place job : ℕ) (xs : List JobInput) → for_job job (map (given_there place) xs) ≡ map (at_node place) (only_of job xs)
for_job_of place job [] = refl
for_job_of place job (x ∷ xs) = by (x.job == job) (for_job_of place job xs)
  where
    by : (t : Bool) → for_job job (map (given_there place) xs) ≡ map (at_node place) (only_of job xs) → map (λ (g : Given). g.input) (cond t (given_there place x ∷ filter (λ (g : Given). g.job == job) (map (given_there place) xs)) (filter (λ (g : Given). g.job == job) (map (given_there place) xs)))
        ≡ map (at_node place) (map (λ (y : JobInput). y.input) (cond t (x ∷ filter (λ (y : JobInput). y.job == job) xs) (filter (λ (y : JobInput). y.job == job) xs)))
    by true rest = ap (λ l. at_node place x.input ∷ l) rest
    by false rest = rest

-- what a step at a node is to a job
pub inputs_are : (nodes place : ℕ) (history : List Traced) (e : Event) (response : Reply (List ℕ)) (job : ℕ)
    → inputs_now nodes job (record { step = At place e; answer = Response response }) history ≡ map (at_node place) (inputs_to (before_at nodes place history) (Own e) response job)
inputs_are nodes place history e response job =
    (λ i. for_job job (option_to_list (own_is nodes place history e response i) ++ notes_is nodes place history e response i))
    ∙ ap (for_job job) (map_both (given_there place) (own_event (before_at nodes place history) e response) (notes_here (before_at nodes place history) (Own e) response))
    ∙ for_job_of place job (inputs_here (before_at nodes place history) (Own e) response)

-- and so the inputs of a job unfold
pub inputs_until-at : (nodes place : ℕ) (history : List Traced) (e : Event) (response : Reply (List ℕ)) (job : ℕ)
    → inputs_until nodes job (record { step = At place e; answer = Response response } ∷ history)
    ≡ inputs_until nodes job history ++ map (at_node place) (inputs_to (before_at nodes place history) (Own e) response job)
inputs_until-at nodes place history e response job = ap (λ l. inputs_until nodes job history ++ l) (inputs_are nodes place history e response job)
