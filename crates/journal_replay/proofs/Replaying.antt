-- A replay with one line more.
use Rattle.std.proofs.Common.{◌≡◌, ℕ, suc, Bool, true, false, cond, List, [], ◌∷◌, ◌++◌, length, map, Option, Some, None, is_some, refl, sym, ap, subst, ◌∙◌, arith}
use Rattle.std.specs.Prelude.{if◌then◌else◌, MatchOption}
use Rattle.std.proofs.lemmas.List.{length-append}
use Rattle.obj_id.specs.declared.commands.Reply.{Reply}
use Rattle.private_store.specs.declared.inputs.Judged.{Judged}
use Rattle.private_store.specs.rules.Replay.{ReplayState, Line, IsReplayed, answers_due, replay_after, replay_step, replayed, unbegun_replay}
use Rattle.journal_text.specs.declared.entry.Entry.{Entry}
use Rattle.journal_text.specs.declared.entry.Version.{Version}
use Rattle.schedule_text.specs.declared.lines.JobAt.{JobAt}
use Rattle.journal_replay.specs.declared.replay.Difference.{Difference}
use Rattle.journal_replay.specs.Inputs.{judged_of, read_line_of}
use Rattle.journal_replay.specs.Progress.{AddsEntry}
use Rattle.journal_text.specs.Saved.{journal_place_of, same_job_place}
use Rattle.journal_replay.specs.Replays.{AreReplayed, IsFirstDifference, IsFound, IsUnlike, JournalRead, due_after, entries_of, replayed_lines_of, next_number}
use Rattle.journal_replay.specs.States.{AreAfter, JobState, state_of}
use Rattle.journal_text.proofs.ForCallers.{same_place-equal, same_place-itself}

-- ---- lines of one job with one after them

map-snoc : {A B : Type 0} (f : A → B) (xs : List A) (y : A) → map f (xs ++ y ∷ []) ≡ map f xs ++ f y ∷ []
map-snoc f [] y = refl
map-snoc f (x ∷ xs) y = ap (λ r. f x ∷ r) (map-snoc f xs y)

replayed-snoc : (b : ReplayState) (lines : List Line) (l : Line) → replayed b (lines ++ l ∷ []) ≡ replay_after (replayed b lines) l.input
replayed-snoc b [] l = refl
replayed-snoc b (x ∷ xs) l = replayed-snoc (replay_after b x.input) xs l

abbrev inputs : List Line → List Judged
inputs lines = map (λ (line : Line). line.input) lines

answers_due-snoc : (b : ReplayState) (lines : List Line) (l : Line) → answers_due b (inputs (lines ++ l ∷ [])) ≡ answers_due b (inputs lines) ++ (replay_step (replayed b lines) l.input).reply ∷ []
answers_due-snoc b [] l = refl
answers_due-snoc b (x ∷ xs) l = ap (λ r. (replay_step b x.input).reply ∷ r) (answers_due-snoc (replay_after b x.input) xs l)

IsReplayed-snoc : (b : ReplayState) (lines : List Line) (l : Line) → IsReplayed b lines → l.reply ≡ (replay_step (replayed b lines) l.input).reply → IsReplayed b (lines ++ l ∷ [])
IsReplayed-snoc b lines l h e =
    map-snoc (λ (line : Line). line.reply) lines l
    ∙ ap (λ r. r ++ l.reply ∷ []) h
    ∙ ap (λ r. answers_due b (inputs lines) ++ r ∷ []) e
    ∙ sym (answers_due-snoc b lines l)

-- ---- a line more

module _ (version : Version) (before : List Entry) (x : Entry) where
  abbrev here : JobAt
  here = journal_place_of x.address

  abbrev lines : List Line
  lines = replayed_lines_of version here before

  abbrev lines_with : Bool → JobAt → List Line
  lines_with b place = cond b (replayed_lines_of version place before ++ read_line_of version x ∷ []) (replayed_lines_of version place before)

  -- what is so at the line's place and stays so elsewhere is so at each place
  at_each : (P : JobAt → List Line → Type 0) → P here (lines ++ read_line_of version x ∷ []) → ((place : JobAt) → same_job_place here place ≡ false → P place (replayed_lines_of version place before)) → (place : JobAt) → P place (replayed_lines_of version place (x ∷ before))
  at_each P there elsewhere place =
      elim (same_job_place here place) as (λ b. same_job_place here place ≡ b → P place (lines_with b place)) [
        | true ↦ λ t. subst (λ p. P p (lines_with true p)) (same_place-equal here place t) there
        | false ↦ λ t. elsewhere place t
      ] refl

  module _ (jobs : List (JobAt × JobState)) (states : AreAfter version before jobs) where
    -- what is answered is due
    pub answer-due : (due : Reply ℕ) → due ≡ (replay_step (state_of jobs here).store (judged_of version x.address x.input)).reply → due ≡ due_after version before x
    answer-due due is = is ∙ ap (λ (s : JobState). (replay_step s.store (judged_of version x.address x.input)).reply) (states here)

    -- the number after the last one is the next
    pub last-next : suc (state_of jobs here).last ≡ next_number version before x.address
    last-next = ap (λ (s : JobState). suc s.last) (states here)

    pub AreAfter-line : (new : List (JobAt × JobState)) → x.address.number ≡ next_number version before x.address
        → ((other : JobAt) → state_of new other ≡ (if same_job_place here other then record { last = x.address.number; store = replay_after (state_of jobs here).store (judged_of version x.address x.input) } else state_of jobs other))
        → AreAfter version (x ∷ before) new
    AreAfter-line new numbered moved = at_each (λ place ls. state_of new place ≡ record { last = length ls; store = replayed (unbegun_replay place.job.0) ls }) there (λ place t. elsewhere place t)
      where
        stepped : JobState
        stepped = record { last = x.address.number; store = replay_after (state_of jobs here).store (judged_of version x.address x.input) }

        there : state_of new here ≡ record { last = length (lines ++ read_line_of version x ∷ []); store = replayed (unbegun_replay here.job.0) (lines ++ read_line_of version x ∷ []) }
        there =
            let longer : length (lines ++ read_line_of version x ∷ []) ≡ suc (length lines) = length-append lines (read_line_of version x ∷ []) ∙ omega arith in
            let last = numbered ∙ sym longer in
            let store = ap (λ (s : JobState). replay_after s.store (judged_of version x.address x.input)) (states here) ∙ sym (replayed-snoc (unbegun_replay here.job.0) lines (read_line_of version x)) in
            moved here ∙ ap (λ b. cond b stepped (state_of jobs here)) (same_place-itself here) ∙ (λ i. record { last = last i; store = store i })

        elsewhere : (place : JobAt) → same_job_place here place ≡ false → state_of new place ≡ record { last = length (replayed_lines_of version place before); store = replayed (unbegun_replay place.job.0) (replayed_lines_of version place before) }
        elsewhere place t = moved place ∙ ap (λ b. cond b stepped (state_of jobs place)) t ∙ states place

  pub AreReplayed-line : AreReplayed version before → x.reply ≡ due_after version before x → AreReplayed version (x ∷ before)
  AreReplayed-line agree due =
      at_each (λ place ls. IsReplayed (unbegun_replay place.job.0) ls) (IsReplayed-snoc (unbegun_replay here.job.0) lines (read_line_of version x) (agree here) due) (λ place t. agree place)

-- ---- what is found with a line more

module _ (version : Version) (before : List JournalRead) (line : JournalRead) where
  -- an older difference stays the first
  later-difference : (d : Difference) → IsFirstDifference version before d → IsFirstDifference version (line ∷ before) d
  later-difference d first =
      record {
        later = line ∷ first.later;
        line = first.line;
        before = first.before;
        found = ap (λ r. line ∷ r) first.found;
        agree = first.agree;
        at = first.at;
        had = first.had;
        due = first.due;
        differs = first.differs;
      }

  -- a difference that was found is kept
  pub found-kept : (o : Option Difference) → is_some o ≡ true → IsFound version before o → IsFound version (line ∷ before) o
  found-kept None some found = absurd cc
  found-kept (Some d) some found = later-difference d found

  module _ (due : Reply ℕ) (is : due ≡ due_after version (entries_of before) line.entry) where
    -- without one, this line's is
    found-line : (o : Option Difference) → AreReplayed version (entries_of before) → MatchOption o (line.entry.reply ≡ due) (IsUnlike line.text line.entry.address line.entry.reply due) → IsFound version (line ∷ before) o
    found-line None agree same = AreReplayed-line version (entries_of before) line.entry agree (same ∙ is)
    found-line (Some d) agree other =
        record {
          later = [];
          line = line;
          before = before;
          found = refl;
          agree = agree;
          at = other.at;
          had = other.had;
          due = other.due_is ∙ is;
          differs = λ h. other.differs (h ∙ other.due_is);
        }

    pub found-first : (o o1 : Option Difference) → is_some o ≡ false → MatchOption o1 (line.entry.reply ≡ due) (IsUnlike line.text line.entry.address line.entry.reply due) → IsFound version before o → IsFound version (line ∷ before) o1
    found-first None o1 none compared found = found-line o1 found compared
    found-first (Some d) o1 none compared found = absurd cc

module _ (version : Version) (jobs new : List (JobAt × JobState)) (line : JournalRead) (due : Reply ℕ) (o o1 : Option Difference) where
  abbrev x : Entry
  x = line.entry

  abbrev Steps : JobAt → Judged → Type 0
  Steps place input =
      x.address.number ≡ suc (state_of jobs place).last
      → ((other : JobAt) → state_of new other ≡ (if same_job_place place other then record { last = x.address.number; store = replay_after (state_of jobs place).store input } else state_of jobs other))
      → due ≡ (replay_step (state_of jobs place).store input).reply
      → AddsEntry (record { version = version; jobs = jobs; difference = o }) (record { version = version; jobs = new; difference = o1 }) line

  steps_here : ((before : List JournalRead) → due ≡ due_after version (entries_of before) x → IsFound version before o → IsFound version (line ∷ before) o1) → Steps (journal_place_of x.address) (judged_of version x.address x.input)
  steps_here found numbered moved is =
      record {
        version = refl;
        numbered = λ before so_far. numbered ∙ last-next version (entries_of before) x jobs so_far.states;
        after = λ before so_far. record {
          states = AreAfter-line version (entries_of before) x jobs so_far.states new (numbered ∙ last-next version (entries_of before) x jobs so_far.states) moved;
          found = found before (answer-due version (entries_of before) x jobs so_far.states due is) so_far.found;
        };
      }

  pub adds : (place : JobAt) (input : Judged) → place ≡ journal_place_of x.address → input ≡ judged_of version x.address x.input
      → ((before : List JournalRead) → due ≡ due_after version (entries_of before) x → IsFound version before o → IsFound version (line ∷ before) o1)
      → x.address.number ≡ suc (state_of jobs place).last
      → ((other : JobAt) → state_of new other ≡ (if same_job_place place other then record { last = x.address.number; store = replay_after (state_of jobs place).store input } else state_of jobs other))
      → due ≡ (replay_step (state_of jobs place).store input).reply
      → AddsEntry (record { version = version; jobs = jobs; difference = o }) (record { version = version; jobs = new; difference = o1 }) line
  adds place input at response found = subst (λ p. Steps p input) (sym at) (subst (λ i. Steps (journal_place_of x.address) i) (sym response) (steps_here found))
