-- What an actor has stepped.
use Rattle.std.specs.Prelude.{◌≡◌, ℕ, List, [], ◌∷◌, ◌++◌, All, length, Option, MatchOption, replicate}
use Rattle.obj_id.specs.declared.commands.Reply.{Reply}
use Rattle.obj_id.specs.declared.commands.Reply.TheVariants as reply
use Rattle.obj_id.specs.declared.refusals.Refusal.TheVariants.{Pending}
use Rattle.private_store.specs.declared.schedules.Event.{Event}
use Rattle.node_gate.specs.declared.actor.Steps.{Steps}
use Rattle.node_gate.specs.declared.actor.Steps.TheVariants.{Nothing, Then'}

-- the events of the steps, in their order
abbrev pub events_of : Steps → List Event
events_of Nothing = []
events_of (Then' shape before e) = events_of before ++ e.value ∷ []

-- the actor has made a step of this event, if there is a receipt of it, and otherwise none
abbrev pub ActsIf : {T : Type 0} → Option T → Event → List Event → List Event → Type 0
ActsIf receipt e before after = MatchOption receipt (after ≡ before) (λ _. after ≡ before ++ e ∷ [])

-- the actor has made steps of this event and no others: one for each earlier try, whose receipt tells that it was answered Pending, and then
-- one if there is a receipt of the last
pub record HasTried {T : Type 0} (called : Event → Reply (List ℕ) → T → Type 0) (last : Option T) (e : Event) (before after : List Event) : Type 0 where
  pub earlier : List T
  pub pending : All (called e (reply.Refused Pending)) earlier
  pub between : List Event
  pub tried : between ≡ before ++ replicate (length earlier) e
  pub acts : ActsIf last e between after
