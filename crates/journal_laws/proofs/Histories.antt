-- What the lines of a run say of its histories: commands are of jobs, and standing grants are a table.
use Rattle.std.proofs.Common.{◌≡◌, ℕ, ◌≤◌, Bool, true, false, List, [], ◌∷◌, append-nil, filter, reverse, Option, Some, slice_get, refl, sym, ap, subst, ◌∙◌, arith}
use Rattle.std.specs.Prelude.{nat_le, ⊤}
use Rattle.std.specs.List.{list_all}
use Rattle.std.proofs.lemmas.Bool.Decides.{nat_tests}
use Rattle.std.proofs.lemmas.List.{reverse-append, reverse-reverse}
use Rattle.std.proofs.lemmas.List.Folds.{list_all-append}
use Rattle.obj_id.specs.declared.commands.Reply.{Reply}
use Rattle.obj_id.specs.declared.commands.Reply.TheVariants as reply
use Rattle.obj_id.specs.declared.refusals.Refusal.TheVariants.{NoMemory}
use Rattle.private_store.specs.declared.schedules.Event.{Event}
use Rattle.private_store.specs.declared.schedules.Event.TheVariants as event
use Rattle.private_store.specs.declared.schedules.Step.{Step}
use Rattle.private_store.specs.declared.schedules.Step.TheVariants.{At, Deliver}
use Rattle.private_store.specs.declared.schedules.StepAnswer.{StepAnswer}
use Rattle.private_store.specs.declared.schedules.StepAnswer.TheVariants as answers
use Rattle.private_store.specs.declared.schedules.Traced.{Traced}
use Rattle.private_store.specs.declared.inputs.Judged.{Judged}
use Rattle.private_store.specs.rules.Trace.{grants_at, is_answered, replies_of}
use Rattle.store_facts.proofs.Tests.{both, both_left, both_right}
use Rattle.schedule_text.specs.declared.line.Line.TheVariants as line
use Rattle.schedule_text.specs.Reading.{is_skipped}
use Rattle.schedule_text.proofs.ForCallers.{is_spoken, spelled_spoken}
use Rattle.run_laws.specs.Standing.{ArePrivate, is_response_to}
use Rattle.run_laws.proofs.ForCallers.{each_moment}
use Rattle.grants.specs.Table.{AreGrants}
use Rattle.node_core.specs.declared.outcome.Note.{Note}
use Rattle.node_core.specs.Hosted.{Hosted}
use Rattle.world_core.specs.Noting.{IsNoted, keeps_event, keeps_arrival, passes_node, tells_directory, finds_nothing, wants_memory}
use Rattle.world_core.specs.Worlds.{Hosting, IsAfter}
use Rattle.schedule_runs.specs.Lines.{Spells, IsSpelled, stands, finishes}
use Rattle.journal_laws.proofs.GoodGrants.{AreGood, table_good}
use Rattle.journal_laws.proofs.EventTold.{IsSpoken}

-- ---- a line's command is of a job

at_least : (n : ℕ) → nat_le 1 n ≡ true → 1 ≤ n
at_least n e = grind (arith, nat_tests, e)

abbrev pub IsSpokenStep : Step → Type 0
IsSpokenStep (At place e) = IsSpoken e
IsSpokenStep (Deliver job from to m damage) = ⊤

spoken_event : (place : ℕ) (e : Event) → is_spoken (line.Step (At place e)) ≡ true → IsSpoken e
spoken_event place (event.Call job session c) v = at_least job.0 v
spoken_event place (event.Admit job quota key) v = tt
spoken_event place (event.Requota job quota) v = tt
spoken_event place (event.JobEnd job) v = tt
spoken_event place event.Take v = tt
spoken_event place (event.Finish job number a) v = tt

spoken_step : (step : Step) → is_spoken (line.Step step) ≡ true → IsSpokenStep step
spoken_step (At place e) v = spoken_event place e v
spoken_step (Deliver job from to m damage) v = tt

said_spoken : (nodes : ℕ) (history : List Traced) (text : List ℕ) (step : Step) → is_skipped text ≡ false → IsSpelled nodes history text step → IsSpokenStep step
said_spoken nodes history text step speaks (stands _ l) = spoken_step step (spelled_spoken nodes text (line.Step step) speaks l)
said_spoken nodes history text step speaks (finishes node job number outcome l) = tt

pub spoken : (nodes : ℕ) (history : List Traced) (text : List ℕ) (step : Step) → Spells nodes history text step → IsSpokenStep step
spoken nodes history text step h = said_spoken nodes history text step h.speaks h.spelled

-- ---- each command gets a reply

told_reply : (place : ℕ) (e : Event) (r : Reply (List ℕ)) → is_response_to (At place e) (answers.Response r) ≡ true
told_reply place (event.Call job session c) r = refl
told_reply place (event.Admit job quota key) r = refl
told_reply place (event.Requota job quota) r = refl
told_reply place (event.JobEnd job) r = refl
told_reply place event.Take r = refl
told_reply place (event.Finish job number a) r = refl

told_any : (step : Step) (r : Reply (List ℕ)) → is_response_to step (answers.Response r) ≡ true
told_any (At place e) r = told_reply place e r
told_any (Deliver job from to m damage) r = refl

pub noted_told : (old new : Hosting) (was : Option Judged) (notes : List Note) (step : Step) (answer : StepAnswer) → IsNoted old new was notes step answer → is_response_to step answer ≡ true
noted_told old new was notes step answer (keeps_event place e response n) = told_reply place e response
noted_told old new was notes step answer (keeps_arrival job from place m damage a response is n) = refl
noted_told old new was notes step answer (passes_node job from place m damage msg response is n) = refl
noted_told old new was notes step answer (tells_directory job from m damage response n) = refl
noted_told old new was notes step answer (finds_nothing job from to m damage n) = refl
noted_told old new was notes step answer (wants_memory _ n) = told_any step (reply.Refused NoMemory)

-- ---- standing grants are a table

abbrev pub AreTold : List Traced → Type 0
AreTold history = list_all (λ entry. is_response_to entry.step entry.answer) history ≡ true

all_reversed : {X : Type 0} (p : X → Bool) (xs : List X) → list_all p xs ≡ true → list_all p (reverse xs) ≡ true
all_reversed p [] h = refl
all_reversed p (x ∷ xs) h =
    ap (list_all p) (reverse-append (x ∷ []) xs)
    ∙ list_all-append p (reverse xs) (x ∷ [])
    ∙ both (list_all p (reverse xs)) (list_all p (x ∷ [])) (all_reversed p xs (both_right (p x) (list_all p xs) h)) (both (p x) true (both_left (p x) (list_all p xs) h) refl)

module _ (nodes memory : ℕ) (world : Hosting) (history : List Traced) (after : IsAfter nodes memory world history) (response : AreTold history) where
  are_private : ArePrivate nodes (reverse history)
  are_private =
      let again : IsAfter nodes memory world (reverse (reverse history)) = subst (IsAfter nodes memory world) (sym (reverse-reverse history)) after in
      record {
        response = all_reversed (λ entry. is_response_to entry.step entry.answer) history response;
        replies = λ job. ap (λ t. filter is_answered (replies_of job t)) (sym (reverse-reverse (reverse history))) ∙ (again.each_job job).replies;
      }

  table : (place : ℕ) → AreGrants (grants_at place history)
  table place = subst (λ h. AreGrants (grants_at place h)) (reverse-reverse history) ((each_moment nodes (reverse history) are_private).table place (reverse history) [] (append-nil (reverse history))).table

  pub grants_good : (place : ℕ) (node : Hosted) → slice_get world.nodes place ≡ Some node → AreGood node.grants
  grants_good place node f = subst AreGood (sym (after.each_node place node f).grants) (table_good (grants_at place history) (table place))
