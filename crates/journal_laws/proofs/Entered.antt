-- A job's entries with one more: the store that they lead to is that of its inputs.
use Rattle.std.proofs.Common.{◌≡◌, ℕ, ◌≤◌, Bool, true, false, cond, ◌==◌, ◌&&◌, List, [], ◌∷◌, ◌++◌, Option, Some, None, refl, sym, ap, subst, ◌∙◌, arith}
use Rattle.std.proofs.lemmas.Bool.Decides.{nat_tests}
use Rattle.obj_id.specs.declared.ids.JobNo.{JobNo}
use Rattle.private_store.specs.declared.inputs.Input.{Input}
use Rattle.private_store.specs.rules.Contents.{View, judge}
use Rattle.private_store.specs.laws.Invariants.{IsViewKept}
use Rattle.private_store.specs.rules.Private.{view_step, view_from}
use Rattle.private_store.specs.rules.Replay.{ReplayState, Line, replay_after, replay_state_of, replay_step, replayed, unbegun_replay}
use Rattle.store_facts.proofs.StepsKept.{view_keeps}
use Rattle.schedule_text.specs.declared.lines.JobAt.{JobAt}
use Rattle.journal_text.specs.declared.entry.Entry.{Entry}
use Rattle.journal_text.specs.declared.entry.Version.TheVariants.{Three}
use Rattle.journal_text.specs.declared.saved.Answered.{Answered}
use Rattle.journal_text.specs.Saved.{entry_at, journal_place_of, same_job_place}
use Rattle.journal_text.proofs.ForCallers.{same_place-itself}
use Rattle.journal_replay.specs.Inputs.{judged_of, read_line_of}
use Rattle.journal_replay.specs.Replays.{due_after, replayed_lines_of, replayed_store_of}
use Rattle.journal_replay.specs.Saved.{AreSound}

abbrev pub place_at : ℕ → ℕ → JobAt
place_at place job = record { node = place; job = record { 0 = job } }

-- the entries of the job at its node lead to its view, without its contents
pub record IsJournalOf (place : JobAt) (view : View) (entries : List Entry) : Type 0 where
  pub kept : IsViewKept view
  pub replays : replayed_store_of Three place entries ≡ replay_state_of view

-- of all jobs at a place
abbrev pub AllJournalsOf : ℕ → (ℕ → View) → List Entry → Type 0
AllJournalsOf place v entries = (job : ℕ) → IsJournalOf (place_at place job) (v job) entries

-- ---- one entry more

replayed_last : (b : ReplayState) (lines : List Line) (l : Line) → replayed b (lines ++ l ∷ []) ≡ replay_after (replayed b lines) l.input
replayed_last b [] l = refl
replayed_last b (x ∷ xs) l = replayed_last (replay_after b x.input) xs l

module _ (x : Entry) (entries : List Entry) where
  abbrev here : JobAt
  here = journal_place_of x.address

  abbrev store_with : Bool → JobAt → ReplayState
  store_with b place = replayed (unbegun_replay place.job.0) (cond b (replayed_lines_of Three place entries ++ read_line_of Three x ∷ []) (replayed_lines_of Three place entries))

  store_more : replayed_store_of Three here (x ∷ entries) ≡ replay_after (replayed_store_of Three here entries) (judged_of Three x.address x.input)
  store_more = ap (λ b. store_with b here) (same_place-itself here) ∙ replayed_last (unbegun_replay here.job.0) (replayed_lines_of Three here entries) (read_line_of Three x)

  store_other : (place : JobAt) → same_job_place here place ≡ false → replayed_store_of Three place (x ∷ entries) ≡ replayed_store_of Three place entries
  store_other place e = ap (λ b. store_with b place) e

  told_other : (place : JobAt) (view : View) → same_job_place here place ≡ false → IsJournalOf place view entries → IsJournalOf place view (x ∷ entries)
  told_other place view e h = record { kept = h.kept; replays = store_other place e ∙ h.replays }

  module _ (number : ℕ) (view : View) (input : Input) (is : judged_of Three x.address x.input ≡ judge number view input) (h : IsJournalOf here view entries) where
    told_more : IsJournalOf here (view_step number view input).view (x ∷ entries)
    told_more =
        record {
          kept = view_keeps number view input h.kept;
          replays = store_more ∙ ap (replay_after (replayed_store_of Three here entries)) is ∙ ap (λ b. replay_after b (judge number view input)) h.replays;
        }

    -- the answer that the view gives is due
    pub due_here : x.reply ≡ (replay_step (replay_state_of view) (judge number view input)).reply → x.reply ≡ due_after Three entries x
    due_here e = e ∙ sym (ap (λ b. (replay_step b (judge number view input)).reply) h.replays) ∙ sym (ap (λ y. (replay_step (replayed_store_of Three here entries) y).reply) is)

-- the input, if the job is this one
abbrev pub if_own : Bool → Option Input → List Input
if_own true (Some x) = x ∷ []
if_own _ _ = []

pub if_none : (b : Bool) → if_own b None ≡ []
if_none true = refl
if_none false = refl

same_number : (a b : ℕ) → (a == b) ≡ true → a ≡ b
same_number a b e = grind (arith, nat_tests, e)

other_job : (place a b : ℕ) → (a == b) ≡ false → ((place == place) && (a == b)) ≡ false
other_job place a b e = ap (λ t. (place == place) && t) e ∙ by (place == place)
  where
    by : (t : Bool) → (t && false) ≡ false
    by true = refl
    by false = refl

other_place : (a b : ℕ) (t : Bool) → (a == b) ≡ false → ((a == b) && t) ≡ false
other_place a b t e = ap (λ s. s && t) e

module _ (place : ℕ) (job : JobNo) (k : ℕ) (line : Answered) (entries : List Entry) where
  abbrev x : Entry
  x = entry_at (record { node = place; job = job }) k line

  -- all jobs at the place of an entry more
  pub entered : (number : ℕ) (v : ℕ → View) (input : Input) → AllJournalsOf place v entries → judged_of Three x.address line.input ≡ judge number (v job.0) input
      → AllJournalsOf place (λ j. view_from number (v j) (if_own (job.0 == j) (Some input))) (x ∷ entries)
  entered number v input response is j = by (job.0 == j) refl
    where
      by : (b : Bool) → (job.0 == j) ≡ b → IsJournalOf (place_at place j) (view_from number (v j) (if_own b (Some input))) (x ∷ entries)
      by true e =
          subst (λ n. IsJournalOf (place_at place n) (view_step number (v n) input).view (x ∷ entries)) (same_number job.0 j e)
          (told_more x entries number (v job.0) input is (response job.0))
      by false e = told_other x entries (place_at place j) (v j) (other_job place job.0 j e) (response j)

  -- and those elsewhere
  pub entered_elsewhere : (p : ℕ) (w : ℕ → View) → (place == p) ≡ false → AllJournalsOf p w entries → AllJournalsOf p w (x ∷ entries)
  entered_elsewhere p w e response j = told_other x entries (place_at p j) (w j) (other_place place p (job.0 == j) e) (response j)

-- ---- no job

below_one : (n : ℕ) → 1 ≤ n → (n == 0) ≡ false
below_one n h = grind (arith, nat_tests, h)

-- no entry is of number 0
pub no_lines : (entries : List Entry) → AreSound entries → (node : ℕ) → replayed_lines_of Three (place_at node 0) entries ≡ []
no_lines [] sound node = refl
no_lines (x ∷ entries) sound node =
    let other : same_job_place (journal_place_of x.address) (place_at node 0) ≡ false = by (x.address.node == node) (x.address.job.0 == 0) (below_one x.address.job.0 sound.0.job) in
    ap (λ b. cond b (replayed_lines_of Three (place_at node 0) entries ++ read_line_of Three x ∷ []) (replayed_lines_of Three (place_at node 0) entries)) other ∙ no_lines entries sound.2 node
  where
    by : (a b : Bool) → b ≡ false → (a && b) ≡ false
    by true b e = e
    by false b e = refl

pub unbegun_here : (node : ℕ) (view : View) (entries : List Entry) → AreSound entries → IsJournalOf (place_at node 0) view entries → replay_state_of view ≡ unbegun_replay 0
unbegun_here node view entries sound h = sym h.replays ∙ ap (replayed (unbegun_replay 0)) (no_lines entries sound node)
