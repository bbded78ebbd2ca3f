-- A run's lines: the journal's entries tell of each job at each node of the world to which the lines lead.
use Rattle.std.proofs.Common.{◌≡◌, ◌≢◌, ℕ, zero, suc, ◌<◌, ◌≤◌, Bool, true, false, ◌==◌, List, [], ◌∷◌, length, Option, None, Some, slice_get, slice_set, cond, refl, sym, ap, subst, ◌∙◌, arith}
use Rattle.std.proofs.lemmas.Bool.Decides.{nat_tests}
use Rattle.obj_id.specs.declared.commands.Reply.{Reply}
use Rattle.obj_id.specs.declared.commands.Reply.TheVariants as reply
use Rattle.obj_id.specs.declared.ids.JobNo.{JobNo}
use Rattle.obj_id.specs.declared.messages.Arrival.{Arrival}
use Rattle.obj_id.specs.declared.messages.Endpoint.{Endpoint}
use Rattle.obj_id.specs.declared.messages.Endpoint.TheVariants.{Node}
use Rattle.obj_id.specs.declared.refusals.Refusal.TheVariants.{Stale}
use Rattle.private_store.specs.declared.inputs.Judged.{Judged}
use Rattle.private_store.specs.declared.schedules.Event.{Event}
use Rattle.private_store.specs.declared.schedules.Step.{Step}
use Rattle.private_store.specs.declared.schedules.Step.TheVariants.{At, Deliver}
use Rattle.private_store.specs.declared.schedules.StepAnswer.{StepAnswer}
use Rattle.private_store.specs.declared.schedules.StepAnswer.TheVariants as answers
use Rattle.private_store.specs.declared.schedules.Traced.{Traced}
use Rattle.private_store.specs.rules.Cluster.{stores_of}
use Rattle.private_store.specs.rules.Contents.{View}
use Rattle.private_store.specs.rules.Private.{no_store, view_of}
use Rattle.store_facts.proofs.StepsKept.{no_store_kept}
use Rattle.store_facts.proofs.Tests.{both, none_some, some_value}
use Rattle.schedule_text.specs.declared.lines.JobAt.{JobAt}
use Rattle.journal_text.specs.declared.entry.Entry.{Entry}
use Rattle.journal_text.specs.declared.saved.JournalItem.{JournalItem}
use Rattle.journal_replay.specs.Saved.{AreSound, entries_saved}
use Rattle.run_laws.specs.Standing.{is_response_to}
use Rattle.std.specs.List.{list_all}
use Rattle.node_core.specs.declared.outcome.Note.{Note}
use Rattle.node_core.specs.Hosted.{Hosted, ShowsAll}
use Rattle.node_core.specs.Judged.{IsJudged, IsArrivalJudged}
use Rattle.world_core.specs.WorldSteps.{handed, message_of}
use Rattle.world_core.specs.Noting.{IsArrivalNoted, IsEventNoted, IsNoted, NotesNothing, keeps_event, keeps_arrival, passes_node, tells_directory, finds_nothing, wants_memory}
use Rattle.world_core.specs.Worlds.{Hosting, IsAfter}
use Rattle.world_core.proofs.ForCallers.{slice_get-slice_set, slice_get-slice_set_other}
use Rattle.schedule_runs.specs.SavedRuns.{entry_place, with_entry_item, with_step}
use Rattle.schedule_runs.specs.Lines.{AreHeard, LineRead, IsAnswered, history_of, items_of_lines, with_answered, with_heard}
use Rattle.schedule_runs.specs.Runs.{KeepsHeard, LeadTo}
use Rattle.journal_laws.proofs.Entered.{AllJournalsOf}
use Rattle.journal_laws.proofs.EventTold.{IsSpoken, event_elsewhere, event_told, shown_after, views_after}
use Rattle.journal_laws.proofs.ArrivalTold.{Tells, arrival_elsewhere, arrival_told}
use Rattle.journal_laws.proofs.Histories.{AreTold, IsSpokenStep, grants_good, noted_told, spoken}

-- what is there is within
below_length : {X : Type 0} (xs : List X) (i : ℕ) (x : X) → slice_get xs i ≡ Some x → i < length xs
below_length [] i x f = none_some x f
below_length (y ∷ xs) zero x f = omega arith
below_length (y ∷ xs) (suc i) x f = let rest = below_length xs i x f in omega (arith, rest)

-- the world shows views of which the entries tell, and all entries are sound
pub record Tell (world : Hosting) (entries : List Entry) : Type 0 where
  pub views : ℕ → ℕ → View
  pub shown : (place : ℕ) (node : Hosted) → slice_get world.nodes place ≡ Some node → ShowsAll node (views place)
  pub response : (place : ℕ) → AllJournalsOf place (views place) entries
  pub sound : AreSound entries

-- ---- a node that stepped

same_number : (a b : ℕ) → (a == b) ≡ true → a ≡ b
same_number a b e = grind (arith, nat_tests, e)

other_number : (a b : ℕ) → (a == b) ≡ false → b ≢ a
other_number a b e h = grind (arith, nat_tests, e, h)

module _ (old new : Hosting) (place : ℕ) (before after : Hosted) (found : slice_get old.nodes place ≡ Some before) (nodes : new.nodes ≡ slice_set old.nodes place after)
    (v : ℕ → View) (shown : ShowsAll after v) (old_entries entries : List Entry) (response : AllJournalsOf place v entries) (sound : AreSound entries)
    (elsewhere : (p : ℕ) (u : ℕ → View) → (place == p) ≡ false → AllJournalsOf p u old_entries → AllJournalsOf p u entries) (before_it : Tell old old_entries) where
  abbrev views : ℕ → ℕ → View
  views p = cond (place == p) v (before_it.views p)

  here : slice_get new.nodes place ≡ Some after
  here = ap (λ ns. slice_get ns place) nodes ∙ slice_get-slice_set old.nodes place before after found

  shows : (p : ℕ) (node : Hosted) → slice_get new.nodes p ≡ Some node → ShowsAll node (views p)
  shows p node f = by (place == p) refl
    where
      by : (b : Bool) → (place == p) ≡ b → ShowsAll node (cond b v (before_it.views p))
      by true e =
          let same : after ≡ node = some_value after node (sym here ∙ ap (slice_get new.nodes) (same_number place p e) ∙ f) in
          subst (λ n. ShowsAll n v) same shown
      by false e = before_it.shown p node (sym (slice_get-slice_set_other old.nodes place p after (other_number place p e)) ∙ sym (ap (λ ns. slice_get ns p) nodes) ∙ f)

  tells : (p : ℕ) → AllJournalsOf p (views p) entries
  tells p = by (place == p) refl
    where
      by : (b : Bool) → (place == p) ≡ b → AllJournalsOf p (cond b v (before_it.views p)) entries
      by true e = subst (λ n. AllJournalsOf n v entries) (same_number place p e) response
      by false e = elsewhere p (before_it.views p) e (before_it.response p)

  stepped : Tell new entries
  stepped = record { views = views; shown = shows; response = tells; sound = sound }

-- ---- a step that is nothing to anybody

no_entry : (o : Option JobAt) (answer : StepAnswer) (marks : List JournalItem) → entries_saved (with_entry_item o answer (record { judged = None; notes = [] }) marks) ≡ entries_saved marks
no_entry None answer marks = refl
no_entry (Some at) answer marks = refl

module _ (old new : Hosting) (marks : List JournalItem) (tell : Tell old (entries_saved marks)) (was : Option Judged) (notes : List Note) where
  idle : (step : Step) (answer : StepAnswer) → NotesNothing old new was notes → Tell new (entries_saved (with_step step answer (record { judged = was; notes = notes }) marks))
  idle step answer n =
      let same : entries_saved (with_step step answer (record { judged = was; notes = notes }) marks) ≡ entries_saved marks =
      (λ i. entries_saved (with_step step answer (record { judged = n.none i; notes = n.nobody i }) marks)) ∙ no_entry (entry_place step answer) answer marks in
      subst (Tell new) (sym same) (record { views = tell.views; shown = λ p node f. tell.shown p node (sym (ap (λ ns. slice_get ns p) n.nodes) ∙ f); response = tell.response; sound = tell.sound })

  -- ---- each step

  module _ (nodes memory : ℕ) (few : nodes ≤ 8) (history now : List Traced) (after_old : IsAfter nodes memory old history) (after_new : IsAfter nodes memory new now) (told_old : AreTold history) (told_new : AreTold now) where
    within : (place : ℕ) (node : Hosted) → slice_get old.nodes place ≡ Some node → place < 8
    within place node f = let less = below_length old.nodes place node f in let count = after_old.count in omega (arith, less, count, few)

    set_here : (place : ℕ) (before after : Hosted) → slice_get old.nodes place ≡ Some before → new.nodes ≡ slice_set old.nodes place after → slice_get new.nodes place ≡ Some after
    set_here place before after found set = ap (λ ns. slice_get ns place) set ∙ slice_get-slice_set old.nodes place before after found

    event_step : (place : ℕ) (e : Event) (r : Reply (List ℕ)) → IsSpoken e → IsEventNoted old new place e r was notes
        → Tell new (entries_saved (with_step (At place e) (answers.Response r) (record { judged = was; notes = notes }) marks))
    event_step place e r voiced n =
        let judged : IsJudged n.before e n.given.reply was = subst (λ t. IsJudged n.before e t was) (sym n.reply) n.judged in
        let v = tell.views place in
        let shows = tell.shown place n.before n.found in
        let good = grants_good nodes memory old history after_old told_old place n.before n.found in
        let good_after = grants_good nodes memory new now after_new told_new place n.after (set_here place n.before n.after n.found n.nodes) in
        let its = event_told place e n.before n.after n.given n.steps was judged notes n.notes v shows marks (tell.response place) tell.sound (within place n.before n.found) good good_after voiced in
        subst (λ t. Tell new (entries_saved (with_step (At place e) (answers.Response t) (record { judged = was; notes = notes }) marks))) n.reply
        (stepped old new place n.before n.after n.found n.nodes
        (views_after place e n.before n.after n.given n.steps was judged notes n.notes v shows marks (tell.response place) tell.sound (within place n.before n.found) good good_after voiced)
        (shown_after place e n.before n.after n.given n.steps was judged notes n.notes v shows marks (tell.response place) tell.sound (within place n.before n.found) good good_after voiced)
        (entries_saved marks) (entries_saved (with_step (At place e) (answers.Response n.given.reply) (record { judged = was; notes = notes }) marks)) its.0 its.1
        (event_elsewhere place e n.before n.after n.given n.steps was judged notes n.notes v shows marks (tell.response place) tell.sound (within place n.before n.found) good good_after voiced) tell)

    arrival_step : (job : JobNo) (from : Endpoint) (place m : ℕ) (damage : Bool) (a : Arrival) (r : Reply (List ℕ)) → IsArrivalNoted old new place job a r was notes
        → Tell new (entries_saved (with_step (Deliver job from (Node place) m damage) (handed (message_of a) r) (record { judged = was; notes = notes }) marks))
    arrival_step job from place m damage a r n =
        let judged : IsArrivalJudged n.before job a n.given.reply was = subst (λ t. IsArrivalJudged n.before job a t was) (sym n.reply) n.judged in
        let stale : n.given.reply ≡ reply.Refused Stale → n.after ≡ n.before = λ e. n.stale (sym n.reply ∙ e) in
        let v = tell.views place in
        let shows = tell.shown place n.before n.found in
        let numbered = (after_old.each_node place n.before n.found).number in
        let its : Tells place n.after (with_step (Deliver job from (Node place) m damage) (handed (message_of a) n.given.reply) (record { judged = was; notes = [] }) marks) =
        arrival_told place job from m damage a n.before n.after n.given n.steps was judged stale v shows marks (tell.response place) tell.sound (within place n.before n.found) numbered in
        subst (λ ns. Tell new (entries_saved (with_step (Deliver job from (Node place) m damage) (handed (message_of a) r) (record { judged = was; notes = ns }) marks))) (sym n.notes)
        (subst (λ t. Tell new (entries_saved (with_step (Deliver job from (Node place) m damage) (handed (message_of a) t) (record { judged = was; notes = [] }) marks))) n.reply
        (stepped old new place n.before n.after n.found n.nodes its.0 its.1.0 (entries_saved marks)
        (entries_saved (with_step (Deliver job from (Node place) m damage) (handed (message_of a) n.given.reply) (record { judged = was; notes = [] }) marks)) its.1.1.0 its.1.1.1
        (arrival_elsewhere place job from m damage a n.before n.after n.given n.steps was judged stale v shows marks (tell.response place) tell.sound (within place n.before n.found) numbered) tell))

    each_step : (step : Step) (answer : StepAnswer) → IsSpokenStep step → IsNoted old new was notes step answer → Tell new (entries_saved (with_step step answer (record { judged = was; notes = notes }) marks))
    each_step step answer voiced (keeps_event place e response n) = event_step place e response voiced n
    each_step step answer voiced (keeps_arrival job from place m damage a response is n) = arrival_step job from place m damage a response n
    each_step step answer voiced (passes_node job from place m damage msg response is n) = idle step answer n
    each_step step answer voiced (tells_directory job from m damage response n) = idle step answer n
    each_step step answer voiced (finds_nothing job from to m damage n) = idle step answer n
    each_step step answer voiced (wants_memory _ n) = idle step answer n

-- ---- a new world

store_there : (job nodes place : ℕ) → place < nodes → slice_get (stores_of job nodes) place ≡ Some (no_store job)
store_there job zero place less = absurd (omega (arith, less))
store_there job (suc nodes) zero less = refl
store_there job (suc nodes) (suc place) less = store_there job nodes place (omega (arith, less))

module _ (nodes memory : ℕ) where
  at_first : (world : Hosting) → IsAfter nodes memory world [] → Tell world []
  at_first world after =
      record {
        views = λ p j. view_of (no_store j);
        shown = λ place node f j. (after.each_node place node f).shows j (no_store j) (store_there j nodes place (subst (λ n. place < n) after.count (below_length world.nodes place node f)));
        response = λ place j. record { kept = no_store_kept j; replays = refl };
        sound = tt;
      }

  -- ---- all lines

  module _ (few : nodes ≤ 8) where
    line_after : (world : Hosting) (lines : List LineRead) → LeadTo nodes memory lines world → IsAfter nodes memory world (history_of lines)
    line_after world [] h = h
    line_after world (heard ∷ lines) h = h.0

    pub all_told : (lines : List LineRead) (world : Hosting) → AreHeard nodes lines → LeadTo nodes memory lines world → Tell world (entries_saved (items_of_lines lines)) × AreTold (history_of lines)
    all_told [] world heard h = (at_first world h, refl)
    all_told (line ∷ lines) world heard h =
        let old : Hosting = h.1.0 in
        let before = all_told lines old heard.1 h.1.1.1 in
        by line.answered heard.0.answered h.0 old (line_after old lines h.1.1.1) h.1.1.0 before.0 before.1
      where
        history : List Traced
        history = history_of lines

        marks : List JournalItem
        marks = items_of_lines lines

        by : (o : Option Traced) → IsAnswered nodes history line.text o → IsAfter nodes memory world (with_answered o history) → (old : Hosting) → IsAfter nodes memory old history → KeepsHeard old world o line.kept
            → Tell old (entries_saved marks) → AreTold history → Tell world (entries_saved (with_heard o line.kept marks)) × AreTold (with_answered o history)
        by None skipped after old after_old same tell response = (subst (λ w. Tell w (entries_saved marks)) (sym same) tell, response)
        by (Some entry) spells after old after_old noted tell response =
            let now : AreTold (entry ∷ history) =
            both (is_response_to entry.step entry.answer) (list_all (λ (e : Traced). is_response_to e.step e.answer) history) (noted_told old world line.kept.judged line.kept.notes entry.step entry.answer noted.0) response in (
              each_step old world marks tell line.kept.judged line.kept.notes nodes memory few history (entry ∷ history) after_old after response now entry.step entry.answer (spoken nodes history line.text entry.step spells) noted.0,
              now,
            )
