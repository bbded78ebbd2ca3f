-- Traces whose jobs are answered privately: a node's standing grants, and what each job's store has of them.
use Rattle.std.specs.Prelude.{◌≡◌, ◌↔◌, ℕ, Bool, true, false, List, length, reverse, Some}
use Rattle.obj_id.specs.declared.ids.ObjectId.{ObjectId}
use Rattle.std.specs.List.{list_all, list_any}
use Rattle.obj_id.specs.declared.commands.Command.TheVariants as command
use Rattle.obj_id.specs.declared.commands.Reply.TheVariants as reply
use Rattle.obj_id.specs.declared.refusals.Refusal.TheVariants.{NotGranted}
use Rattle.private_store.specs.declared.inputs.Input.TheVariants as input
use Rattle.private_store.specs.declared.schedules.Event.TheVariants as event
use Rattle.private_store.specs.declared.schedules.Step.{Step}
use Rattle.private_store.specs.declared.schedules.Step.TheVariants as steps
use Rattle.private_store.specs.declared.schedules.StepAnswer.{StepAnswer}
use Rattle.private_store.specs.declared.schedules.StepAnswer.TheVariants as answer
use Rattle.private_store.specs.declared.schedules.Traced.{Traced}
use Rattle.private_store.specs.rules.Events.{is_live}
use Rattle.private_store.specs.rules.Private.{Store, private_outcome}
use Rattle.private_store.specs.rules.Trace.{IsPrivate, grants_at, granted_bytes, inputs_until}
use Rattle.private_store.specs.rules.Shared.{store_at}
use Rattle.grants.specs.Table.{AreGrants, shows}
use Rattle.grants.specs.Private.{HasGrants}
use Rattle.grants.specs.Chains.{sees, is_led_to}

-- how long each object is in the private store of its own job at the node
abbrev pub own_lengths : ℕ → ℕ → List Traced → ObjectId → ℕ
own_lengths nodes node history id = length (granted_bytes nodes node (λ job. inputs_until nodes job history) id)

-- a command gets a reply, whatever that is
abbrev pub is_response_to : Step → StepAnswer → Bool
is_response_to (steps.At node (event.Call job session c)) (answer.Response r) = true
is_response_to (steps.At node (event.Call job session c)) _ = false
is_response_to _ _ = true

-- every command gets a reply, and every job number, admitted or not, has the replies of its private cluster
pub record ArePrivate (nodes : ℕ) (trace : List Traced) : Type 0 where
  pub response : list_all (λ entry. is_response_to entry.step entry.answer) trace ≡ true
  pub replies : (job : ℕ) → IsPrivate nodes job trace

-- after the trace the node's standing grants are a table, and each job's store there has of it what the job gave and, by
-- the lengths of the own jobs' stores, what the job was given
pub record HaveGrants (nodes node : ℕ) (trace : List Traced) : Type 0 where
  pub table : AreGrants (grants_at node (reverse trace))
  pub halves : (job : ℕ) (store : Store) → store_at nodes node (reverse trace) job ≡ Some store → (store.shape.job ≡ job) × HasGrants (own_lengths nodes node (reverse trace)) (grants_at node (reverse trace)) store.shape

-- a Peek at the object is refused, since the job has no grant of it
abbrev pub is_hidden : ℕ → Store → ℕ → ObjectId → ℕ → ℕ → Type 0
is_hidden node store session id offset n = (private_outcome node store (input.Call session (command.Peek id offset n))).reply ≡ reply.Refused NotGranted

-- after the trace a job sees an object exactly if one, two or three standing grants lead from the object's own job to it;
-- and a live job may peek at exactly the objects that it sees
pub record SeesWhatIsLed (nodes node : ℕ) (trace : List Traced) : Type 0 where
  pub led : (id : ObjectId) (job : ℕ) → sees (grants_at node (reverse trace)) id job ↔ is_led_to (grants_at node (reverse trace)) id job
  pub peeks : (job : ℕ) (store : Store) → store_at nodes node (reverse trace) job ≡ Some store → is_live store.shape ≡ true
      → (session : ℕ) (id : ObjectId) (offset n : ℕ) → is_hidden node store session id offset n ↔ (list_any (shows id job) (grants_at node (reverse trace)) ≡ false)
