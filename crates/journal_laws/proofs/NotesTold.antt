-- The notes of a step: the grantees are notified of their grants, in order.
use Rattle.std.proofs.Common.{◌≡◌, ℕ, ◌<◌, ◌≤◌, Bool, true, false, cond, ◌==◌, ◌||◌, List, [], ◌∷◌, map, filter, Option, Some, None, ◌&&◌, suc, refl, sym, ap, subst, ◌∙◌, arith}
use Rattle.std.specs.Prelude.{nat_le, ⊤}
use Rattle.std.specs.List.{list_all}
use Rattle.std.specs.Option.{option_map_or}
use Rattle.std.proofs.lemmas.Bool.{eqb-true}
use Rattle.std.proofs.lemmas.Bool.Decides.{nat_tests}
use Rattle.obj_id.specs.declared.commands.Command.TheVariants as command
use Rattle.obj_id.specs.declared.commands.Reply.{Reply}
use Rattle.obj_id.specs.declared.commands.Reply.TheVariants as reply
use Rattle.private_store.specs.declared.inputs.Input.{Input}
use Rattle.private_store.specs.declared.inputs.Input.TheVariants as input
use Rattle.private_store.specs.declared.schedules.Event.{Event}
use Rattle.private_store.specs.declared.schedules.Event.TheVariants as event
use Rattle.private_store.specs.declared.schedules.NodeEvent.TheVariants.{Own}
use Rattle.private_store.specs.rules.Contents.{View, judge}
use Rattle.private_store.specs.rules.Grants.{StandingGrant, grants_ended, new_grant}
use Rattle.private_store.specs.laws.NodeInputs.{Before, JobInput, grants_after, notes_here, only_of, withdrawn_here}
use Rattle.private_store.specs.rules.Private.{view_from}
use Rattle.private_store.specs.rules.Replay.{replay_state_of, replay_step}
use Rattle.private_store.specs.rules.Trace.{ends}
use Rattle.store_facts.proofs.Tests.{both_left, both_right, true_false}
use Rattle.schedule_text.specs.declared.lines.JobAt.{JobAt}
use Rattle.journal_text.specs.declared.entry.Address.{Address}
use Rattle.journal_text.specs.declared.entry.Entry.{Entry}
use Rattle.journal_text.specs.declared.entry.Version.TheVariants.{Three}
use Rattle.journal_text.specs.declared.saved.Answered.{Answered}
use Rattle.journal_text.specs.declared.saved.JournalItem.{JournalItem}
use Rattle.journal_text.specs.Reading.{is_fitting}
use Rattle.journal_text.specs.Saved.{entry_at, saved_lines_of as lines_counted}
use Rattle.journal_text.specs.Typed.{IsProperInput}
use Rattle.journal_replay.specs.Inputs.{judged_of}
use Rattle.journal_replay.specs.Saved.{AreSound, entries_saved}
use Rattle.node_core.specs.declared.outcome.Note.{Note}
use Rattle.node_core.specs.Outcomes.{inputs_noted, input_noted}
use Rattle.node_core.specs.Steps.{JobJudged, judged_notes}
use Rattle.schedule_runs.specs.SavedRuns.{input_said, note_mark, with_notes}
use Rattle.journal_laws.proofs.GoodGrants.{AreGood, ends_good, gives_well, is_good, last_good}
use Rattle.journal_laws.proofs.Entered.{AllJournalsOf, IsJournalOf, due_here, entered, entered_elsewhere, if_own, place_at}

-- ---- what a note says

-- a grant whose depth is at least 1; and whose grantor is, if the object's job is
abbrev pub IsGoodNote : Input → Type 0
IsGoodNote (input.Received id bytes grantor depth) = (1 ≤ id.job.0 → 1 ≤ grantor.0) × (1 ≤ depth)
IsGoodNote (input.Withdrawn id grantor depth) = (1 ≤ id.job.0 → 1 ≤ grantor.0) × (1 ≤ depth)
IsGoodNote _ = ⊥

abbrev pub AreGoodNotes : List JobInput → Type 0
AreGoodNotes [] = ⊤
AreGoodNotes (x ∷ xs) = (1 ≤ x.job) × IsGoodNote x.input × AreGoodNotes xs

at_least : (n : ℕ) → nat_le 1 n ≡ true → 1 ≤ n
at_least n e = grind (arith, nat_tests, e)

given_by_job : (job grantor : ℕ) → gives_well job grantor ≡ true → 1 ≤ job → 1 ≤ grantor
given_by_job job grantor e h = by (job == 0) refl e
  where
    by : (b : Bool) → (job == 0) ≡ b → (b || nat_le 1 grantor) ≡ true → 1 ≤ grantor
    by true none e = let is : job ≡ 0 = eqb-true job 0 none in absurd (omega (arith, is, h))
    by false some e = at_least grantor e

module _ (grant : StandingGrant) (good : is_good grant ≡ true) where
  grantee_is : 1 ≤ grant.grantee
  grantee_is = at_least grant.grantee (both_left (nat_le 1 grant.grantee) (nat_le 1 grant.depth && gives_well grant.id.job.0 grant.grantor) good)

  grant_is : (1 ≤ grant.id.job.0 → 1 ≤ grant.grantor) × (1 ≤ grant.depth)
  grant_is =
      let rest = both_right (nat_le 1 grant.grantee) (nat_le 1 grant.depth && gives_well grant.id.job.0 grant.grantor) good in
      (given_by_job grant.id.job.0 grant.grantor (both_right (nat_le 1 grant.depth) (gives_well grant.id.job.0 grant.grantor) rest), at_least grant.depth (both_left (nat_le 1 grant.depth) (gives_well grant.id.job.0 grant.grantor) rest))

withdrawn_good : (grants : List StandingGrant) → AreGood grants → AreGoodNotes (map withdrawn_here grants)
withdrawn_good [] good = tt
withdrawn_good (grant ∷ grants) good =
    let is = both_left (is_good grant) (list_all is_good grants) good in
    (grantee_is grant is, grant_is grant is, withdrawn_good grants (both_right (is_good grant) (list_all is_good grants) good))

ended_good : (grants : List StandingGrant) (o : Option (StandingGrant → Bool)) → AreGood grants → AreGoodNotes (option_map_or (λ test. map withdrawn_here (grants_ended test grants)) o [])
ended_good grants None good = tt
ended_good grants (Some test) good = withdrawn_good (grants_ended test grants) (ends_good test grants good)

accepted_good : (b : Before) (e : Event) → AreGood b.grants → AreGood (grants_after b.grants (Own e) reply.Ok) → AreGoodNotes (notes_here b (Own e) reply.Ok)
accepted_good b (event.Call job session (command.Grant id target)) good after =
    let grant = new_grant b.grants id job.0 target.0 in
    let is = last_good b.grants grant after in
    (grantee_is grant is, grant_is grant is, tt)
accepted_good b e good after = ended_good b.grants (ends e) good

-- the notes of an event are good ones, if the grants were and are
pub notes_good : (b : Before) (e : Event) (response : Reply (List ℕ)) → AreGood b.grants → AreGood (grants_after b.grants (Own e) response) → AreGoodNotes (notes_here b (Own e) response)
notes_good b e reply.Ok good after = accepted_good b e good after
notes_good b e _ good after = tt

-- ---- what its entry says

module _ (number : ℕ) (address : Address) where
  said : (x : Input) → IsGoodNote x → (v w : View) → judged_of Three address (input_said [] (judge number v x)) ≡ judge number w x
  said (input.Received id bytes grantor depth) good v w = refl
  said (input.Withdrawn id grantor depth) good v w = refl
  said (input.Begin quota) good v w = absurd good
  said (input.Requota quota) good v w = absurd good
  said (input.Call session c) good v w = absurd good
  said (input.Answer n a) good v w = absurd good
  said (input.Arrive a) good v w = absurd good
  said input.End good v w = absurd good

proper : (number : ℕ) (x : Input) → IsGoodNote x → (v : View) → IsProperInput (input_said [] (judge number v x)) × (is_fitting (input_said [] (judge number v x)) reply.Ok ≡ true)
proper number (input.Received id bytes grantor depth) good v = (good, refl)
proper number (input.Withdrawn id grantor depth) good v = (good, refl)
proper number (input.Begin quota) good v = absurd good
proper number (input.Requota quota) good v = absurd good
proper number (input.Call session c) good v = absurd good
proper number (input.Answer n a) good v = absurd good
proper number (input.Arrive a) good v = absurd good
proper number input.End good v = absurd good

due : (number : ℕ) (x : Input) → IsGoodNote x → (v : View) → reply.Ok ≡ (replay_step (replay_state_of v) (judge number v x)).reply
due number (input.Received id bytes grantor depth) good v = refl
due number (input.Withdrawn id grantor depth) good v = refl
due number (input.Begin quota) good v = absurd good
due number (input.Requota quota) good v = absurd good
due number (input.Call session c) good v = absurd good
due number (input.Answer n a) good v = absurd good
due number (input.Arrive a) good v = absurd good
due number input.End good v = absurd good

-- ---- all of them

abbrev first_of : JobJudged → List JobJudged → JobJudged
first_of d [] = d
first_of d (x ∷ xs) = x

abbrev rest_of : List JobJudged → List JobJudged
rest_of [] = []
rest_of (x ∷ xs) = xs

abbrev is_empty : List JobJudged → Bool
is_empty [] = true
is_empty (x ∷ xs) = false

only_more : (number j : ℕ) (u : View) (x : JobInput) (xs : List JobInput) → view_from number (view_from number u (if_own (x.job == j) (Some x.input))) (only_of j xs) ≡ view_from number u (only_of j (x ∷ xs))
only_more number j u x xs = by (x.job == j)
  where
    by : (b : Bool) → view_from number (view_from number u (if_own b (Some x.input))) (only_of j xs) ≡ view_from number u (map (λ (y : JobInput). y.input) (cond b (x ∷ filter (λ (y : JobInput). y.job == j) xs) (filter (λ (y : JobInput). y.job == j) xs)))
    by true = refl
    by false = refl

module _ (place number : ℕ) (within : place < 8) (v : ℕ → View) where
  -- one note more
  module _ (note : Note) (x : JobInput) (is : input_noted note ≡ record { job = x.job; input = judge number (v x.job) x.input }) (some : 1 ≤ x.job) (good : IsGoodNote x.input)
      (marks : List JournalItem) (w : ℕ → View) (response : AllJournalsOf place w (entries_saved marks)) (sound : AreSound (entries_saved marks)) where
    abbrev line : Answered
    line = record { input = input_said [] note.input; reply = reply.Ok }

    abbrev entries : List Entry
    entries = entries_saved marks

    abbrev entry : Entry
    entry = entry_at (record { node = place; job = note.job }) (suc (lines_counted (record { node = place; job = note.job }) marks)) line

    job_is : note.job.0 ≡ x.job
    job_is = ap (λ (n : JobJudged). n.job) is

    input_is : note.input ≡ judge number (v x.job) x.input
    input_is = ap (λ (n : JobJudged). n.input) is

    said_is : judged_of Three entry.address line.input ≡ judge number (w note.job.0) x.input
    said_is = ap (λ y. judged_of Three entry.address (input_said [] y)) input_is ∙ said number entry.address x.input good (v x.job) (w note.job.0)

    one_told : AllJournalsOf place (λ j. view_from number (w j) (if_own (x.job == j) (Some x.input))) (entry ∷ entries)
    one_told =
        subst (λ n. AllJournalsOf place (λ j. view_from number (w j) (if_own (n == j) (Some x.input))) (entry ∷ entries)) job_is
        (entered place note.job (suc (lines_counted (record { node = place; job = note.job }) marks)) line entries number w x.input response said_is)

    one_sound : AreSound (entry ∷ entries)
    one_sound =
        let fits : IsProperInput line.input × (is_fitting line.input reply.Ok ≡ true) =
        subst (λ y. IsProperInput (input_said [] y) × (is_fitting (input_said [] y) reply.Ok ≡ true)) (sym input_is) (proper number x.input good (v x.job)) in (
          record { node = within; job = subst (λ n. 1 ≤ n) (sym job_is) some; asked = fits.0; answered = tt; fitting = fits.1 },
          due_here entry entries number (w note.job.0) x.input said_is (response note.job.0) (due number x.input good (w note.job.0)),
          sound,
        )

  pub notes_told : (notes : List Note) (xs : List JobInput) → inputs_noted notes ≡ judged_notes number v xs → AreGoodNotes xs → (marks : List JournalItem) (w : ℕ → View) → AllJournalsOf place w (entries_saved marks)
      → AreSound (entries_saved marks) → AllJournalsOf place (λ j. view_from number (w j) (only_of j xs)) (entries_saved (with_notes place notes marks)) × AreSound (entries_saved (with_notes place notes marks))
  notes_told [] [] e good marks w response sound = (response, sound)
  notes_told [] (x ∷ xs) e good marks w response sound = true_false (sym (ap is_empty e))
  notes_told (note ∷ notes) [] e good marks w response sound = true_false (ap is_empty e)
  notes_told (note ∷ notes) (x ∷ xs) e good marks w response sound =
      let is : input_noted note ≡ record { job = x.job; input = judge number (v x.job) x.input } = ap (first_of (input_noted note)) e in
      let rest = notes_told notes xs (ap rest_of e) good.2 (note_mark place note ∷ marks) (λ j. view_from number (w j) (if_own (x.job == j) (Some x.input)))
      (one_told note x is good.0 good.1 marks w response sound) (one_sound note x is good.0 good.1 marks w response sound) in
      (λ j. subst (λ u. IsJournalOf (place_at place j) u (entries_saved (with_notes place notes (note_mark place note ∷ marks)))) (only_more number j (w j) x xs) (rest.0 j), rest.1)

-- other places hear nothing of them
pub notes_elsewhere : (place : ℕ) (notes : List Note) (marks : List JournalItem) (p : ℕ) (u : ℕ → View) → (place == p) ≡ false → AllJournalsOf p u (entries_saved marks) → AllJournalsOf p u (entries_saved (with_notes place notes marks))
notes_elsewhere place [] marks p u apart response = response
notes_elsewhere place (note ∷ notes) marks p u apart response =
    let at : JobAt = record { node = place; job = note.job } in
    notes_elsewhere place notes (note_mark place note ∷ marks) p u apart
    (entered_elsewhere place note.job (suc (lines_counted at marks)) (record { input = input_said [] note.input; reply = reply.Ok }) (entries_saved marks) p u apart response)
