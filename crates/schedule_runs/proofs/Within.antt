-- Each step that a line spells is one of a world with as many nodes as the line is read for.
use Rattle.std.proofs.Common.{◌≡◌, ℕ, ◌<◌, Bool, true, false, List, refl, sym, ◌∙◌, arith}
use Rattle.std.specs.Prelude.{nat_lt, not, ◌&&◌}
use Rattle.std.proofs.lemmas.Bool.Decides.{nat_tests}
use Rattle.obj_id.specs.declared.ids.JobNo.{JobNo}
use Rattle.obj_id.specs.declared.works.DeviceAnswer.{DeviceAnswer}
use Rattle.obj_id.specs.declared.messages.Endpoint.{Endpoint}
use Rattle.obj_id.specs.declared.messages.Endpoint.TheVariants.{Node, Directory}
use Rattle.store_facts.proofs.Tests.{true_false, both_right}
use Rattle.private_store.specs.declared.schedules.Event.TheVariants as event
use Rattle.private_store.specs.declared.schedules.Step.{Step}
use Rattle.private_store.specs.declared.schedules.Step.TheVariants.{At, Deliver}
use Rattle.schedule_text.specs.declared.line.Line.TheVariants as line
use Rattle.schedule_text.specs.declared.line.FinishWord.{FinishWord}
use Rattle.schedule_text.proofs.ForCallers.{is_there, is_finish, line_within, spelled_within}
use Rattle.world_core.specs.Worlds.{is_place, is_within}
use Rattle.schedule_runs.specs.Lines.{Says}

place_same : (nodes : ℕ) (place : Endpoint) → is_there nodes place ≡ is_place nodes place
place_same nodes (Node place) = refl
place_same nodes Directory = refl

not_first : (a b : Bool) → not a && b ≡ true → a ≡ false
not_first true b h = true_false h
not_first false b h = refl

line_is_within : (nodes : ℕ) (step : Step) → line_within nodes (line.Step step) ≡ true → is_within nodes step ≡ true
line_is_within nodes (At place e) h = both_right (not (is_finish e)) (nat_lt place nodes) h
line_is_within nodes (Deliver job from to m damage) h = sym (place_same nodes to) ∙ h

-- whether the step hands in a device's answer
abbrev pub hands_in : Step → Bool
hands_in (At place e) = is_finish e
hands_in (Deliver job from to m damage) = false

hands_in_none : (nodes : ℕ) (step : Step) → line_within nodes (line.Step step) ≡ true → hands_in step ≡ false
hands_in_none nodes (At place e) h = not_first (is_finish e) (nat_lt place nodes) h
hands_in_none nodes (Deliver job from to m damage) h = refl

pub said_within : (nodes : ℕ) (text : List ℕ) (step : Step) → Says nodes text (line.Step step) → is_within nodes step ≡ true
said_within nodes text step said = line_is_within nodes step (spelled_within nodes text (line.Step step) said.speaks said.spelled)

-- what a line spells as it stands hands in nothing
pub said_apart : (nodes : ℕ) (text : List ℕ) (step : Step) → Says nodes text (line.Step step) → hands_in step ≡ false
said_apart nodes text step said = hands_in_none nodes step (spelled_within nodes text (line.Step step) said.speaks said.spelled)

is_below : (node nodes : ℕ) → nat_lt node nodes ≡ true → node < nodes
is_below node nodes h = grind (arith, nat_tests, h)

pub finish_within : (nodes : ℕ) (text : List ℕ) (node : ℕ) (job : JobNo) (number : ℕ) (outcome : FinishWord) → Says nodes text (line.Finish node job number outcome) → node < nodes
finish_within nodes text node job number outcome said = is_below node nodes (spelled_within nodes text (line.Finish node job number outcome) said.speaks said.spelled)

pub said_finish_within : (nodes : ℕ) (text : List ℕ) (node : ℕ) (job : JobNo) (number : ℕ) (outcome : FinishWord) (answer : DeviceAnswer) → Says nodes text (line.Finish node job number outcome)
    → is_within nodes (At node (event.Finish job number answer)) ≡ true
said_finish_within nodes text node job number outcome answer said = spelled_within nodes text (line.Finish node job number outcome) said.speaks said.spelled
