-- The text of a saved journal can be read in one way alone, as its lines.
use Rattle.std.proofs.Common.{◌≡◌, ◌≢◌, ◌⊎◌, ℕ, suc, ◌+◌, ◌<◌, Bool, true, false, cond, ◌==◌, ◌&&◌, List, [], ◌∷◌, ◌++◌, All, length, take, drop, map, get_or, codes, decimal, append-nil, append_assoc, Option, None, Some, is_some, Result, Ok, Err, ⊎_elim, ne_eqb, refl, sym, ap, subst, ◌∙◌, arith}
use Rattle.std.specs.Prelude.{⊤, ◌-◌, IfSome}
use Rattle.std.specs.Io.BufRead.{take_through}
use Rattle.std.specs.Io.KnownBytes.{Appends, Consumes}
use Rattle.std.specs.Str.{IsUtf8}
use Rattle.std.proofs.Math.Seq.{drop-append_seam}
use Rattle.std.proofs.lemmas.List.{length-append}
use Rattle.private_store.specs.rules.Replay.{Line}
use Rattle.schedule_text.specs.declared.lines.JobAt.{JobAt}
use Rattle.journal_text.specs.declared.entry.Entry.{Entry}
use Rattle.journal_text.specs.declared.entry.Version.{Version}
use Rattle.journal_text.specs.declared.entry.Version.TheVariants.{One, Two, Three}
use Rattle.journal_text.specs.declared.saved.Answered.{Answered}
use Rattle.journal_text.specs.declared.saved.JournalItem.{JournalItem}
use Rattle.journal_text.specs.Printing.{entry_text}
use Rattle.journal_text.specs.Reading.{IsEntryLine, head_text}
use Rattle.journal_text.specs.Saved.{entry_at, saved_line_text, saved_lines_of as lines_counted, same_job_place, saved_text, AreTyped, IsTypedLine}
use Rattle.journal_text.proofs.ForCallers.{none_feeds, writable, IsEntryLine-written, whole-written}
use Rattle.journal_replay.specs.declared.fault.ReplayFault.{ReplayFault}
use Rattle.journal_replay.specs.declared.fault.ReplayFault.TheVariants.{NotAnEntry, Input, Output, NoMemory}
use Rattle.journal_replay.specs.declared.program.Verdict.{Verdict}
use Rattle.journal_replay.specs.declared.replay.Difference.{Difference}
use Rattle.journal_replay.specs.declared.replay.ReplayResult.{ReplayResult}
use Rattle.journal_replay.specs.Inputs.{read_line_of}
use Rattle.journal_replay.specs.Journals.{AreRead, IsJournal, IsNoHead, StopsAtHead, StopsAtLine, bytes_of, journal_bytes}
use Rattle.schedule_text.specs.Lines.{with_line_feed, IsNextLine}
use Rattle.journal_replay.specs.Replays.{IsFirstDifference, IsFound, JournalRead, due_after, entries_of, replayed_lines_of, next_number}
use Rattle.journal_replay.specs.Saved.{AreSound, SavedReplays, entries_saved, feeds_in, lines_after_first, with_line}
use Rattle.journal_replay.specs.Texts.{Replays, TellsReplay, found_text, replay_verdict_of}

-- ---- bytes

abbrev first_of : List ℕ → ℕ
first_of [] = 0
first_of (x ∷ xs) = x

abbrev rest_of : List ℕ → List ℕ
rest_of [] = []
rest_of (x ∷ xs) = xs

abbrev Whole : List ℕ → Type 0
Whole text = All (λ byte. byte ≢ 10) text

others : (x : ℕ) (xs : List ℕ) → Whole (x ∷ xs) → Whole xs
others x xs h = λ k d l. h (suc k) d (omega (arith, l))

-- two lines at the beginning of the same bytes are one
apart : (a b x y : List ℕ) → Whole a → Whole b → a ++ 10 ∷ x ≡ b ++ 10 ∷ y → (a ≡ b) × (x ≡ y)
apart [] [] x y ha hb e = (refl, ap rest_of e)
apart [] (c ∷ b) x y ha hb e = absurd (hb 0 0 (omega arith) (sym (ap first_of e)))
apart (c ∷ a) [] x y ha hb e = absurd (ha 0 0 (omega arith) (ap first_of e))
apart (c ∷ a) (d ∷ b) x y ha hb e =
    let rest = apart a b x y (others c a ha) (others d b hb) (ap rest_of e) in
    ((λ i. ap first_of e i ∷ rest.0 i), rest.1)

-- a line is what is read through its line feed
through : (a x : List ℕ) → Whole a → take_through 10 (a ++ 10 ∷ x) ≡ with_line_feed a
through [] x h = refl
through (c ∷ a) x h =
    ap (λ b. cond b (c ∷ []) (c ∷ take_through 10 (a ++ 10 ∷ x))) (ne_eqb c 10 (h 0 0 (omega arith))) ∙ ap (λ l. c ∷ l) (through a x (others c a h))

feed_first : (a x : List ℕ) → with_line_feed a ++ x ≡ a ++ 10 ∷ x
feed_first a x = append_assoc a (10 ∷ []) x

not_empty : (a x : List ℕ) → with_line_feed a ++ x ≡ [] → ⊥
not_empty a x e =
    let all = ap length e in
    let longer = length-append (with_line_feed a) x in
    let line = length-append a (10 ∷ []) in
    omega (arith, all, longer, line)

-- ---- lines

bytes_of-append : (xs ys : List JournalRead) → bytes_of (xs ++ ys) ≡ bytes_of ys ++ bytes_of xs
bytes_of-append [] ys = sym (append-nil (bytes_of ys))
bytes_of-append (line ∷ xs) ys = ap (λ b. b ++ with_line_feed line.text) (bytes_of-append xs ys) ∙ append_assoc (bytes_of ys) (bytes_of xs) (with_line_feed line.text)

-- a line of a saved journal after these
record IsOwn (before : List JournalRead) (line : JournalRead) : Type 0 where
  pub whole : Whole line.text
  pub utf : IsUtf8 line.text
  pub spelled : IsEntryLine Three line.text line.entry
  pub numbered : line.entry.address.number ≡ next_number Three (entries_of before) line.entry.address
  pub due : line.entry.reply ≡ due_after Three (entries_of before) line.entry

abbrev AreOwn : List JournalRead → Type 0
AreOwn [] = ⊤
AreOwn (line ∷ before) = IsOwn before line × AreOwn before

own_at : (later : List JournalRead) (line : JournalRead) (before : List JournalRead) → AreOwn (later ++ line ∷ before) → IsOwn before line
own_at [] line before h = h.0
own_at (l ∷ later) line before h = own_at later line before h.1

-- the oldest of some lines
oldest : (line : JournalRead) (lines : List JournalRead) → (later : List JournalRead) × ((first : JournalRead) × (line ∷ lines ≡ later ++ first ∷ []))
oldest line [] = ([], (line, refl))
oldest line (m ∷ lines) = let rest = oldest m lines in (line ∷ rest.0, (rest.1.0, ap (λ ls. line ∷ ls) rest.1.1))

bytes-oldest : (later : List JournalRead) (first : JournalRead) → bytes_of (later ++ first ∷ []) ≡ first.text ++ 10 ∷ bytes_of later
bytes-oldest later first = bytes_of-append later (first ∷ []) ∙ feed_first first.text (bytes_of later)

oldest_at : (later : List JournalRead) (first : JournalRead) (lines : List JournalRead) → (later ++ first ∷ []) ++ lines ≡ later ++ first ∷ lines
oldest_at later first lines = append_assoc later (first ∷ []) lines

-- lines that were read of the text are the first of its own
abbrev Leaves : List JournalRead → List JournalRead → List ℕ → Type 0
Leaves ours lines rest = (later : List JournalRead) × ((ours ≡ later ++ lines) × (rest ≡ bytes_of later))

lines_matched : (ours lines : List JournalRead) (rest : List ℕ) → AreOwn ours → AreRead Three lines → bytes_of ours ≡ bytes_of lines ++ rest → Leaves ours lines rest
lines_matched ours [] rest own read e = (ours, (sym (append-nil ours), sym e))
lines_matched ours (l ∷ lines) rest own read e =
    let before = lines_matched ours lines (with_line_feed l.text ++ rest) own read.1 (e ∙ append_assoc (bytes_of lines) (with_line_feed l.text) rest) in
    by before.0 before.1.0 before.1.1
  where
    by : (later : List JournalRead) → ours ≡ later ++ lines → with_line_feed l.text ++ rest ≡ bytes_of later → Leaves ours (l ∷ lines) rest
    by [] same bytes = absurd (not_empty l.text rest bytes)
    by (m ∷ more) same bytes = one (oldest m more)
      where
        one : (later : List JournalRead) × ((first : JournalRead) × (m ∷ more ≡ later ++ first ∷ [])) → Leaves ours (l ∷ lines) rest
        one found =
            let later : List JournalRead = found.0 in
            let first : JournalRead = found.1.0 in
            let at : ours ≡ later ++ first ∷ lines = same ∙ ap (λ ls. ls ++ lines) found.1.1 ∙ oldest_at later first lines in
            let it : IsOwn lines first = own_at later first lines (subst AreOwn at own) in
            let parts : (l.text ≡ first.text) × (rest ≡ bytes_of later) =
            apart l.text first.text rest (bytes_of later) read.0.whole it.whole (sym (feed_first l.text rest) ∙ bytes ∙ ap bytes_of found.1.1 ∙ bytes-oldest later first) in
            let entry : first.entry ≡ l.entry = read.0.alone first.entry (subst (λ t. IsEntryLine Three t first.entry) (sym parts.0) it.spelled) in
            let line : first ≡ l = λ i. record { text = sym parts.0 i; entry = entry i } in
            (later, (at ∙ ap (λ r. later ++ r ∷ lines) line, parts.1))

head-Whole : (version : Version) → Whole (head_text version)
head-Whole One = none_feeds (head_text One) refl
head-Whole Two = none_feeds (head_text Two) refl
head-Whole Three = none_feeds (head_text Three) refl

head_same : (version : Version) → head_text Three ≡ head_text version → version ≡ Three
head_same Three e = refl
head_same Two e = let digit : 51 ≡ 50 = ap (λ text. get_or text 8 0) e in absurd (omega (arith, digit))
head_same One e = let digit : 51 ≡ 49 = ap (λ text. get_or text 8 0) e in absurd (omega (arith, digit))

matched : (version : Version) (ours lines : List JournalRead) (rest : List ℕ) → AreOwn ours → AreRead version lines → journal_bytes Three ours ≡ journal_bytes version lines ++ rest → (version ≡ Three) × Leaves ours lines rest
matched version ours lines rest own read e =
    let parts : (head_text Three ≡ head_text version) × (bytes_of ours ≡ bytes_of lines ++ rest) =
    apart (head_text Three) (head_text version) (bytes_of ours) (bytes_of lines ++ rest) (head-Whole Three) (head-Whole version)
    (sym (feed_first (head_text Three) (bytes_of ours)) ∙ e ∙ append_assoc (with_line_feed (head_text version)) (bytes_of lines) rest ∙ feed_first (head_text version) (bytes_of lines ++ rest)) in
    let is : version ≡ Three = head_same version parts.0 in
    (is, lines_matched ours lines rest own (subst (λ v. AreRead v lines) is read) parts.1)

-- ---- the text of the marks

abbrev reads : List Entry → List JournalRead
reads xs = map (λ x. record { text = entry_text x; entry = x }) xs

entries_of-reads : (xs : List Entry) → entries_of (reads xs) ≡ xs
entries_of-reads [] = refl
entries_of-reads (x ∷ xs) = ap (λ ys. x ∷ ys) (entries_of-reads xs)

saved_bytes : (marks : List JournalItem) → saved_text marks ≡ journal_bytes Three (reads (entries_saved marks))
saved_bytes [] = sym (append-nil (with_line_feed (head_text Three)))
saved_bytes (mark ∷ before) = by mark.line (saved_bytes before)
  where
    number : ℕ
    number = suc (lines_counted mark.place before)

    by : (line : Option Answered) → saved_text before ≡ journal_bytes Three (reads (entries_saved before))
        → saved_text before ++ saved_line_text mark.place number line ≡ journal_bytes Three (reads (with_line mark.place number line (entries_saved before)))
    by None h = append-nil (saved_text before) ∙ h
    by (Some line) h =
        ap (λ text. text ++ saved_line_text mark.place number (Some line)) h
        ∙ append_assoc (with_line_feed (head_text Three)) (bytes_of (reads (entries_saved before))) (saved_line_text mark.place number (Some line))

-- the number of a line is the next one
counted : (place : JobAt) (marks : List JournalItem) → lines_counted place marks ≡ length (replayed_lines_of Three place (entries_saved marks))
counted place [] = refl
counted place (mark ∷ before) = by mark.line (counted place before)
  where
    number : ℕ
    number = suc (lines_counted mark.place before)

    by : (line : Option Answered) → lines_counted place before ≡ length (replayed_lines_of Three place (entries_saved before))
        → cond (same_job_place mark.place place && is_some line) (suc (lines_counted place before)) (lines_counted place before)
        ≡ length (replayed_lines_of Three place (with_line mark.place number line (entries_saved before)))
    by None h = elim (same_job_place mark.place place) as (λ b. cond (b && false) (suc (lines_counted place before)) (lines_counted place before) ≡ length (replayed_lines_of Three place (entries_saved before))) [ true ↦ h | false ↦ h ]
    by (Some line) h =
        let lines : List Line = replayed_lines_of Three place (entries_saved before) in
        let last : Line = read_line_of Three (entry_at mark.place number line) in
        elim (same_job_place mark.place place) as (λ b. cond (b && true) (suc (lines_counted place before)) (lines_counted place before) ≡ length (cond b (lines ++ last ∷ []) lines)) [
          | true ↦ let longer = length-append lines (last ∷ []) in omega (arith, h, longer)
          | false ↦ h
        ]

own : (marks : List JournalItem) → AreTyped marks → AreSound (entries_saved marks) → AreOwn (reads (entries_saved marks))
own [] typed sound = tt
own (mark ∷ before) typed sound = by mark.line (own before typed.1) typed.0 sound
  where
    number : ℕ
    number = suc (lines_counted mark.place before)

    entries : List Entry
    entries = entries_saved before

    by : (line : Option Answered) → (AreSound entries → AreOwn (reads entries)) → IsTypedLine mark.place number line → AreSound (with_line mark.place number line entries) → AreOwn (reads (with_line mark.place number line entries))
    by None rest t h = rest h
    by (Some line) rest t h =
        let x : Entry = entry_at mark.place number line in
        let is = writable x t.0 h.0 in (
          record {
            whole = whole-written x is;
            utf = t.1;
            spelled = IsEntryLine-written x is;
            numbered = ap suc (counted mark.place before) ∙ ap (λ xs. next_number Three xs x.address) (sym (entries_of-reads entries));
            due = h.1 ∙ ap (λ xs. due_after Three xs x) (sym (entries_of-reads entries));
          },
          rest h.2,
        )

-- ---- its line feeds

feeds-append : (xs ys : List ℕ) → feeds_in (xs ++ ys) ≡ feeds_in xs + feeds_in ys
feeds-append [] ys = omega arith
feeds-append (x ∷ xs) ys =
    let rest = feeds-append xs ys in
    elim (x == 10) as (λ b. cond b (suc (feeds_in (xs ++ ys))) (feeds_in (xs ++ ys)) ≡ cond b (suc (feeds_in xs)) (feeds_in xs) + feeds_in ys) [ true ↦ omega (arith, rest) | false ↦ rest ]

feeds_line : (a : List ℕ) → Whole a → feeds_in (with_line_feed a) ≡ 1
feeds_line [] h = refl
feeds_line (c ∷ a) h = ap (λ b. cond b (suc (feeds_in (with_line_feed a))) (feeds_in (with_line_feed a))) (ne_eqb c 10 (h 0 0 (omega arith))) ∙ feeds_line a (others c a h)

feeds_bytes : (lines : List JournalRead) → AreOwn lines → feeds_in (bytes_of lines) ≡ length lines
feeds_bytes [] own = refl
feeds_bytes (line ∷ before) own =
    let all = feeds-append (bytes_of before) (with_line_feed line.text) in
    let last = feeds_line line.text own.0.whole in
    let rest = feeds_bytes before own.1 in
    omega (arith, all, last, rest)

feeds_text : (lines : List JournalRead) → AreOwn lines → feeds_in (journal_bytes Three lines) - 1 ≡ length lines
feeds_text lines own =
    let all = feeds-append (with_line_feed (head_text Three)) (bytes_of lines) in
    let first = feeds_line (head_text Three) (head-Whole Three) in
    let rest = feeds_bytes lines own in
    omega (arith, all, first, rest)

-- ---- its replay

-- no difference is found in lines that are all own
none_found : (version : Version) (lines : List JournalRead) (o : Option Difference) → version ≡ Three → AreOwn lines → IsFound version lines o → o ≡ None
none_found version lines None is all found = refl
none_found version lines (Some d) is all found =
    let it : IsOwn found.before found.line = own_at found.later found.line found.before (subst AreOwn found.found all) in
    absurd (found.differs (it.due ∙ ap (λ v. due_after v (entries_of found.before) found.line.entry) (sym is) ∙ sym found.due))

next_is : (text : List ℕ) (before rest left : List ℕ) → text ≡ before ++ left → rest ≡ take_through 10 (drop (length before) text) → rest ≡ take_through 10 left
next_is text before rest left is next = next ∙ ap (take_through 10) (ap (drop (length before)) is ∙ drop-append_seam before left)

module _ (marks : List JournalItem) (typed : AreTyped marks) (sound : AreSound (entries_saved marks)) where
  abbrev ours : List JournalRead
  ours = reads (entries_saved marks)

  abbrev text : List ℕ
  text = saved_text marks

  all_own : AreOwn ours
  all_own = own marks typed sound

  module _ (outcome : ReplayResult) (journal : IsJournal (Some text) outcome) where
    leaves : (outcome.version ≡ Three) × Leaves ours journal.lines []
    leaves = matched outcome.version ours journal.lines [] all_own journal.read (sym (saved_bytes marks) ∙ journal.whole ∙ sym (append-nil (journal_bytes outcome.version journal.lines)))

    all_read : (later : List JournalRead) → ours ≡ later ++ journal.lines → [] ≡ bytes_of later → ours ≡ journal.lines
    all_read [] same bytes = same
    all_read (l ∷ later) same bytes =
        let found = oldest l later in
        absurd (not_empty found.1.0.text (bytes_of found.0) (feed_first found.1.0.text (bytes_of found.0) ∙ sym (bytes-oldest found.0 found.1.0) ∙ sym (ap bytes_of found.1.1) ∙ sym bytes))

    are_lines : ours ≡ journal.lines
    are_lines = all_read leaves.1.0 leaves.1.1.0 leaves.1.1.1

    none_differs : outcome.difference ≡ None
    none_differs = none_found outcome.version journal.lines outcome.difference leaves.0 (subst AreOwn are_lines all_own) journal.found

    lines_are : outcome.lines ≡ lines_after_first text
    lines_are = journal.counted ∙ sym (ap length are_lines) ∙ sym (feeds_text ours all_own) ∙ sym (ap lines_after_first (saved_bytes marks))

  -- it has the first line
  has_head : (rest : List ℕ) → IsNextLine (Some text) [] rest → IsNoHead rest → ⊥
  has_head rest next none =
      none.none Three (next ∙ ap (take_through 10) (saved_bytes marks ∙ feed_first (head_text Three) (bytes_of ours)) ∙ through (head_text Three) (bytes_of ours) (head-Whole Three))

  -- and each line is an entry
  stops_never : (left : Option (List ℕ)) (number : ℕ) → StopsAtLine (Some text) left number → ⊥
  stops_never None number h = absurd h.consumed
  stops_never (Some y) number h = by found.1.0 found.1.1.0 found.1.1.1
    where
      journal : List ℕ
      journal = journal_bytes h.version h.lines

      whole : text ≡ journal ++ (h.rest ++ y)
      whole = h.consumed ∙ append_assoc journal h.rest y

      found : (h.version ≡ Three) × Leaves ours h.lines (h.rest ++ y)
      found = matched h.version ours h.lines (h.rest ++ y) all_own h.read (sym (saved_bytes marks) ∙ whole)

      next : h.rest ≡ take_through 10 (h.rest ++ y)
      next = next_is text journal h.rest (h.rest ++ y) whole h.whole

      by : (later : List JournalRead) → ours ≡ later ++ h.lines → h.rest ++ y ≡ bytes_of later → ⊥
      by [] same bytes = h.more (next ∙ ap (take_through 10) bytes)
      by (l ∷ later) same bytes =
          let it = oldest l later in
          let first : JournalRead = it.1.0 in
          let mine : IsOwn h.lines first = own_at it.0 first h.lines (subst AreOwn (same ∙ ap (λ ls. ls ++ h.lines) it.1.1 ∙ oldest_at it.0 first h.lines) all_own) in
          let line : h.rest ≡ with_line_feed first.text = next ∙ ap (take_through 10) (bytes ∙ ap bytes_of it.1.1 ∙ bytes-oldest it.0 first) ∙ through first.text (bytes_of it.0) mine.whole in
          h.none.none first.text line mine.utf first.entry (subst (λ v. IsEntryLine v first.text first.entry) (sym found.0) mine.spelled)
          (mine.numbered ∙ ap (λ v. next_number v (entries_of h.lines) first.entry.address) (sym found.0))

  pub replays_saved : (left out_old out_new : Option (List ℕ)) (result : Result Verdict ReplayFault) → Replays (Some text) left out_old out_new result → SavedReplays (lines_after_first text) out_old out_new result
  replays_saved left out_old out_new (Ok verdict) h =
      let none = none_differs h.outcome h.journal in (
        h.verdict_is ∙ ap replay_verdict_of none,
        subst (Appends out_old out_new) (ap (found_text h.outcome.version h.outcome.lines) none ∙ ap (λ n. codes "replayed " ++ decimal n ++ codes "\n") (lines_are h.outcome h.journal)) h.written,
      )
  replays_saved left out_old out_new (Err (NotAnEntry number)) h = ⊎_elim (λ stops. has_head stops.rest stops.whole stops.none) (stops_never left number) h.0
  replays_saved left out_old out_new (Err Input) h = h
  replays_saved left out_old out_new (Err Output) h = h
  replays_saved left out_old out_new (Err NoMemory) h = h
