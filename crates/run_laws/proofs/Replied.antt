-- A run is a trace that is answered privately.
use Rattle.std.proofs.Common.{◌≡◌, ℕ, true, List, [], ◌∷◌, refl}
use Rattle.std.specs.List.{list_all}
use Rattle.private_store.specs.declared.schedules.Event.TheVariants.{Call}
use Rattle.private_store.specs.declared.schedules.Step.{Step}
use Rattle.private_store.specs.declared.schedules.Step.TheVariants.{At, Deliver}
use Rattle.private_store.specs.declared.schedules.StepAnswer.{StepAnswer}
use Rattle.private_store.specs.declared.schedules.StepAnswer.TheVariants.{Response}
use Rattle.private_store.specs.declared.schedules.Traced.{Traced}
use Rattle.store_facts.proofs.Tests.{both, both_left, both_right}
use Rattle.run_laws.specs.Standing.{is_response_to, ArePrivate}
use Rattle.run_laws.specs.Moments.{AtEachMoment}
use Rattle.run_laws.specs.Telling.{heard_where_due, counting, ShowsAlike}
use Rattle.run_laws.proofs.ForCallers.{each_moment, others_dont_show_where_due}
use Rattle.world_core.specs.Runs.{is_replied, all_replied, IsRun}

-- a command is an event at a node
one_told : (step : Step) (answer : StepAnswer) → is_replied step answer ≡ true → is_response_to step answer ≡ true
one_told (At node (Call job session c)) (Response reply) e = refl
one_told (At node (Call job session c)) answer e = e
one_told (At node event) answer e = refl
one_told (Deliver job from to m damage) answer e = refl

all_told : (trace : List Traced) → all_replied trace ≡ true → list_all (λ entry. is_response_to entry.step entry.answer) trace ≡ true
all_told [] e = refl
all_told (entry ∷ trace) e =
    both (is_response_to entry.step entry.answer) (list_all (λ entry. is_response_to entry.step entry.answer) trace)
    (one_told entry.step entry.answer (both_left (is_replied entry.step entry.answer) (all_replied trace) e))
    (all_told trace (both_right (is_replied entry.step entry.answer) (all_replied trace) e))

private_run : (nodes memory : ℕ) (schedule : List Step) (trace : List Traced) → IsRun nodes memory schedule trace → ArePrivate nodes trace
private_run nodes memory schedule trace run = record { response = all_told trace run.replied; replies = run.private }

pub grants_of_run : (nodes memory : ℕ) (schedule : List Step) (trace : List Traced) → IsRun nodes memory schedule trace → AtEachMoment nodes trace
grants_of_run nodes memory schedule trace run = each_moment nodes trace (private_run nodes memory schedule trace run)

pub others_dont_show_in_runs : (nodes memory job : ℕ) (first second : List Step) (a b : List Traced) → IsRun nodes memory first a → IsRun nodes memory second b → counting (heard_where_due job) job a ≡ counting (heard_where_due job) job b → ShowsAlike nodes job a b
others_dont_show_in_runs nodes memory job first second a b one other same =
    others_dont_show_where_due nodes memory job a b (private_run nodes memory first a one) (private_run nodes memory second b other) one.shared other.shared same
