-- A message that arrives at a node: what it was to its job.
use Rattle.std.proofs.Common.{◌≡◌, ℕ, suc, ◌<◌, ◌≤◌, Bool, true, false, cond, ◌==◌, List, [], ◌∷◌, ◌++◌, Option, Some, None, is_some, option_to_list, refl, sym, ap, subst, ◌∙◌}
use Rattle.std.specs.Prelude.{option_map}
use Rattle.obj_id.specs.declared.commands.Reply.{Reply}
use Rattle.obj_id.specs.declared.commands.Reply.TheVariants as reply
use Rattle.obj_id.specs.declared.ids.JobNo.{JobNo}
use Rattle.obj_id.specs.declared.messages.Arrival.{Arrival}
use Rattle.obj_id.specs.declared.messages.Arrival.TheVariants as arrival
use Rattle.obj_id.specs.declared.messages.PeerMessage.TheVariants as peer
use Rattle.obj_id.specs.declared.messages.Endpoint.{Endpoint}
use Rattle.obj_id.specs.declared.messages.Endpoint.TheVariants.{Node}
use Rattle.obj_id.specs.declared.refusals.Refusal.TheVariants.{Stale}
use Rattle.private_store.specs.declared.inputs.Input.{Input}
use Rattle.private_store.specs.declared.inputs.Input.TheVariants as input
use Rattle.private_store.specs.declared.inputs.Judged.{Judged}
use Rattle.private_store.specs.declared.inputs.Judged.TheVariants as judged
use Rattle.private_store.specs.declared.schedules.NodeEvent.TheVariants.{Arrive}
use Rattle.private_store.specs.declared.schedules.Step.TheVariants.{Deliver}
use Rattle.private_store.specs.declared.schedules.StepAnswer.TheVariants.{HandedOver}
use Rattle.private_store.specs.laws.Answers.{reply_without_payload, wants_memory}
use Rattle.private_store.specs.rules.Contents.{View, judge, source_in}
use Rattle.private_store.specs.laws.NodeInputs.{Before, inputs_to, only_of}
use Rattle.private_store.specs.rules.Private.{view_from}
use Rattle.private_store.specs.rules.Replay.{replay_state_of, replay_step}
use Rattle.store_facts.proofs.AnswersAre.{answers_whole}
use Rattle.store_facts.proofs.Tests.{true_false}
use Rattle.schedule_text.specs.declared.lines.JobAt.{JobAt}
use Rattle.journal_text.specs.declared.entry.Address.{Address}
use Rattle.journal_text.specs.declared.entry.Entry.{Entry}
use Rattle.journal_text.specs.declared.entry.Version.TheVariants.{Three}
use Rattle.journal_text.specs.declared.saved.Answered.{Answered}
use Rattle.journal_text.specs.declared.saved.JournalItem.{JournalItem}
use Rattle.journal_text.specs.Reading.{is_fitting}
use Rattle.journal_text.specs.Saved.{entry_at, saved_lines_of as lines_counted}
use Rattle.journal_text.specs.Typed.{IsProperInput}
use Rattle.journal_replay.specs.Inputs.{judged_of}
use Rattle.journal_replay.specs.Saved.{AreSound, entries_saved}
use Rattle.job_admission.specs.Admissions.{live_at}
use Rattle.node_core.specs.Hosted.{Hosted, ShowsAll}
use Rattle.node_core.specs.Judged.{IsArrivalJudged, arrived}
use Rattle.node_core.specs.Steps.{NodeGiven, NodeStep, NodeStepFrom, answer_of_check, before_of, stale_unless}
use Rattle.world_core.specs.WorldSteps.{handed, message_of}
use Rattle.schedule_runs.specs.SavedRuns.{SavedStep, located_entries, entry_mark, input_said, with_step}
use Rattle.journal_laws.proofs.StoreAnswers.{early_stale, is_of_live}
use Rattle.journal_laws.proofs.Entered.{AllJournalsOf, IsJournalOf, due_here, entered, if_own, place_at, unbegun_here}
use Rattle.journal_laws.proofs.EventTold.{is_refused, mark_elsewhere, one_or, own_inputs}

-- its entry says the input and is a proper one
record IsArrivalSaid (a : Arrival) : Type 0 where
  pub said : (address : Address) (number : ℕ) (view : View) → address.node ≡ number → judged_of Three address (input_said (located_entries (HandedOver (message_of a))) (judge number view (input.Arrive a))) ≡ judge number view (input.Arrive a)
  pub proper : (number : ℕ) (view : View) → IsProperInput (input_said (located_entries (HandedOver (message_of a))) (judge number view (input.Arrive a)))
  pub fitting : (number : ℕ) (view : View) → is_fitting (input_said (located_entries (HandedOver (message_of a))) (judge number view (input.Arrive a))) reply.Ok ≡ true
  pub of_live : (number : ℕ) (view : View) → is_of_live (judge number view (input.Arrive a)) ≡ true

arrival_said : (a : Arrival) → IsArrivalSaid a
arrival_said (arrival.Located id fetch entries) =
    record { said = λ address number view is. ap (λ n. judged.Located id fetch (source_in n entries)) is; proper = λ number view. tt; fitting = λ number view. refl; of_live = λ number view. refl }
arrival_said (arrival.FromPeer from (peer.Pull id fetch n digest indexes)) = record { said = λ address number view is. refl; proper = λ number view. tt; fitting = λ number view. refl; of_live = λ number view. refl }
arrival_said (arrival.FromPeer from (peer.Chunk id fetch index bytes)) = record { said = λ address number view is. refl; proper = λ number view. tt; fitting = λ number view. refl; of_live = λ number view. refl }
arrival_said (arrival.FromPeer from (peer.NotHere id fetch)) = record { said = λ address number view is. refl; proper = λ number view. tt; fitting = λ number view. refl; of_live = λ number view. refl }

-- what is so of the node and its journal afterwards
abbrev pub Tells : ℕ → Hosted → List JournalItem → Type 0
Tells place node marks = (v : ℕ → View) × (ShowsAll node v × (AllJournalsOf place v (entries_saved marks) × AreSound (entries_saved marks)))

module _ (place : ℕ) (job : JobNo) (from : Endpoint) (m : ℕ) (damage : Bool) (a : Arrival) (before after : Hosted) (given : NodeGiven) (steps : NodeStep before (Arrive job a) given after) (was : Option Judged)
    (is_judged : IsArrivalJudged before job a given.reply was) (stale : given.reply ≡ reply.Refused Stale → after ≡ before) (v : ℕ → View) (shows : ShowsAll before v) (marks : List JournalItem)
    (response : AllJournalsOf place v (entries_saved marks)) (sound : AreSound (entries_saved marks)) (within : place < 8) (numbered : before.number ≡ place) where
  abbrev number : ℕ
  number = before.number

  abbrev b : Before
  b = before_of before v

  abbrev x : Input
  x = input.Arrive a

  abbrev at : JobAt
  at = record { node = place; job = job }

  abbrev kept : SavedStep
  kept = record { judged = was; notes = [] }

  -- what the journal has of it, if it was answered so
  abbrev marks_with : Reply (List ℕ) → Option Judged → List JournalItem
  marks_with r w = with_step (Deliver job from (Node place) m damage) (handed (message_of a) r) (record { judged = w; notes = [] }) marks

  came_from : NodeStepFrom before v (Arrive job a) given after
  came_from = steps.each v shows

  was_is : (r : Reply (List ℕ)) → given.reply ≡ r → was ≡ option_map (judge number (v job.0)) (arrived a r)
  was_is r is = sym (is_judged (v job.0) (shows job.0)) ∙ ap (λ t. option_map (judge number (v job.0)) (arrived a t)) is

  module _ (ok : given.reply ≡ reply.Ok) where
    abbrev y : Judged
    y = judge number (v job.0) x

    abbrev line : Answered
    line = record { input = input_said (located_entries (HandedOver (message_of a))) y; reply = reply.Ok }

    abbrev k : ℕ
    k = suc (lines_counted at marks)

    abbrev entry : Entry
    entry = entry_at at k line

    said_is : judged_of Three entry.address line.input ≡ y
    said_is = (arrival_said a).said entry.address number (v job.0) (sym numbered)

    replay_is : reply.Ok ≡ (replay_step (replay_state_of (v job.0)) y).reply
    replay_is = ap reply_without_payload (sym ok ∙ came_from.response.reply) ∙ answers_whole number (v job.0) x (response job.0).kept

    own_inputs_are : (j : ℕ) → inputs_to b (Arrive job a) given.reply j ≡ if_own (job.0 == j) (Some x)
    own_inputs_are j =
        ap (λ t. only_of j (option_to_list (cond (wants_memory t) None (Some (record { job = job.0; input = x }))) ++ [])) ok
        ∙ own_inputs job.0 j (Some x)

    is_one : 1 ≤ job.0
    is_one =
        one_or job.0 (λ none. true_false (ap is_refused (replay_is ∙ ap (λ b. (replay_step b y).reply) (ap (λ n. replay_state_of (v n)) none ∙ unbegun_here place (v 0) (entries_saved marks) sound (response 0)) ∙ early_stale 0 y ((arrival_said a).of_live number (v job.0)))))

    taken : Tells place after (marks_with reply.Ok (Some y))
    taken = (
      λ j. view_from number (v j) (inputs_to b (Arrive job a) given.reply j),
      (
        came_from.views,
        (
          λ j. subst (λ xs. IsJournalOf (place_at place j) (view_from number (v j) xs) (entry ∷ entries_saved marks)) (sym (own_inputs_are j)) (entered place job k line (entries_saved marks) number v x response said_is j),
          (
            record { node = within; job = is_one; asked = (arrival_said a).proper number (v job.0); answered = tt; fitting = (arrival_said a).fitting number (v job.0) },
            due_here entry (entries_saved marks) number (v job.0) x said_is (response job.0) replay_is,
            sound,
          ),
        ),
      ),
    )

  pub arrival_told : Tells place after (marks_with given.reply was)
  arrival_told = by (is_some (live_at before.admissions job)) came_from.operator
    where
      by : (live : Bool) → given.reply ≡ answer_of_check (stale_unless live) → Tells place after (marks_with given.reply was)
      by true ok = subst (λ t. Tells place after (marks_with t was)) (sym ok) (subst (λ w. Tells place after (marks_with reply.Ok w)) (sym (was_is reply.Ok ok)) (taken ok))
      by false late =
          subst (λ t. Tells place after (marks_with t was)) (sym late)
          (subst (λ w. Tells place after (marks_with (reply.Refused Stale) w)) (sym (was_is (reply.Refused Stale) late))
          (subst (λ node. Tells place node (marks_with (reply.Refused Stale) None)) (sym (stale late)) (v, (shows, (response, sound)))))

  pub arrival_elsewhere : (p : ℕ) (u : ℕ → View) → (place == p) ≡ false → AllJournalsOf p u (entries_saved marks) → AllJournalsOf p u (entries_saved (marks_with given.reply was))
  arrival_elsewhere p u apart h = by (is_some (live_at before.admissions job)) came_from.operator
    where
      by : (live : Bool) → given.reply ≡ answer_of_check (stale_unless live) → AllJournalsOf p u (entries_saved (marks_with given.reply was))
      by true ok =
          subst (λ t. AllJournalsOf p u (entries_saved (marks_with t was))) (sym ok)
          (mark_elsewhere at (suc (lines_counted at marks)) (entry_mark at (HandedOver (message_of a)) was).line (entries_saved marks) p u apart h)
      by false late =
          subst (λ t. AllJournalsOf p u (entries_saved (marks_with t was))) (sym late)
          (subst (λ w. AllJournalsOf p u (entries_saved (marks_with (reply.Refused Stale) w))) (sym (was_is (reply.Refused Stale) late)) h)
