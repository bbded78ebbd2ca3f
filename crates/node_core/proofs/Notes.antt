-- What an event is to the grantees: inputs of two kinds, which send nothing and which no view judges.
use Rattle.std.proofs.Common.{◌≡◌, ℕ, Bool, true, false, cond, ◌==◌, List, [], ◌∷◌, map, Option, Some, None, refl}
use Rattle.std.specs.Prelude.{filter}
use Rattle.std.specs.Option.{option_map_or}
use Rattle.obj_id.specs.declared.commands.Command.TheVariants as command
use Rattle.obj_id.specs.declared.commands.Reply.{Reply}
use Rattle.obj_id.specs.declared.commands.Reply.TheVariants as reply
use Rattle.private_store.specs.declared.inputs.Input.{Input}
use Rattle.private_store.specs.declared.inputs.Input.TheVariants as input
use Rattle.private_store.specs.declared.schedules.Event.{Event}
use Rattle.private_store.specs.declared.schedules.Event.TheVariants as event
use Rattle.private_store.specs.declared.schedules.NodeEvent.{NodeEvent}
use Rattle.private_store.specs.declared.schedules.NodeEvent.TheVariants.{Own, Arrive}
use Rattle.private_store.specs.rules.Grants.{StandingGrant, grants_ended}
use Rattle.private_store.specs.rules.Trace.{ends}
use Rattle.private_store.specs.laws.NodeInputs.{JobInput, Before, only_of, notes_of, notes_here, withdrawn_here}

-- a grant that comes or ends
abbrev pub is_note : Input → Bool
is_note (input.Received id bytes grantor depth) = true
is_note (input.Withdrawn id grantor depth) = true
is_note _ = false

abbrev pub AreNotes : List Input → Type 0
AreNotes [] = Unit {0}
AreNotes (x ∷ xs) = (is_note x ≡ true) × AreNotes xs

abbrev pub AreJobNotes : List JobInput → Type 0
AreJobNotes [] = Unit {0}
AreJobNotes (x ∷ xs) = (is_note x.input ≡ true) × AreJobNotes xs

pub only_notes : (job : ℕ) (xs : List JobInput) → AreJobNotes xs → AreNotes (only_of job xs)
only_notes job [] q = tt
only_notes job (x ∷ xs) q = by (x.job == job) (only_notes job xs q.1)
  where
    by : (t : Bool) → AreNotes (only_of job xs) → AreNotes (map (λ (y : JobInput). y.input) (cond t (x ∷ filter (λ (y : JobInput). y.job == job) xs) (filter (λ (y : JobInput). y.job == job) xs)))
    by true rest = (q.0, rest)
    by false rest = rest

withdrawn_notes : (grants : List StandingGrant) → AreJobNotes (map withdrawn_here grants)
withdrawn_notes [] = tt
withdrawn_notes (grant ∷ grants) = (refl, withdrawn_notes grants)

ended_notes : (grants : List StandingGrant) (o : Option (StandingGrant → Bool)) → AreJobNotes (option_map_or (λ test. map withdrawn_here (grants_ended test grants)) o [])
ended_notes grants None = tt
ended_notes grants (Some test) = withdrawn_notes (grants_ended test grants)

event_notes : (b : Before) (e : Event) → AreJobNotes (notes_of b e)
event_notes b (event.Call job session (command.Grant id target)) = (refl, tt)
event_notes b e = ended_notes b.grants (ends e)

pub here_notes : (b : Before) (e : NodeEvent) (r : Reply (List ℕ)) → AreJobNotes (notes_here b e r)
here_notes b (Own e) reply.Ok = event_notes b e
here_notes b (Own e) _ = tt
here_notes b (Arrive job a) _ = tt
