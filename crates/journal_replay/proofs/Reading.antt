-- A journal with one line more, and how it ends.
use Rattle.std.proofs.Common.{◌≡◌, ◌≢◌, ℕ, suc, ◌+◌, ◌-◌, Bool, true, false, List, [], ◌∷◌, ◌++◌, length, take, drop, Option, None, Some, Result, Ok, Err, IfSome, inr, refl, sym, ap, subst, ◌∙◌, arith, append_assoc}
use Rattle.std.specs.Prelude.{All}
use Rattle.std.specs.Io.{StopsAt}
use Rattle.std.specs.Io.BufRead.{take_through}
use Rattle.std.specs.Io.KnownBytes.{Consumes, IsAtEnd}
use Rattle.std.specs.Str.{IsUtf8}
use Rattle.std.proofs.Math.Seq.{take-append_seam, drop-append_seam, drop-append-add}
use Rattle.std.proofs.lemmas.List.{append_cancel_right, length-append}
use Rattle.store_facts.proofs.KnownBytes.{Consumes-none, Consumes-then, Consumes-all}
use Rattle.schedule_text.specs.Fields.{Reads}
use Rattle.journal_text.specs.declared.entry.Entry.{Entry}
use Rattle.journal_text.specs.declared.entry.Version.{Version}
use Rattle.journal_text.specs.declared.entry.Version.TheVariants.{One, Two, Three}
use Rattle.journal_text.specs.Reading.{IsEntryLine, head_text}
use Rattle.journal_replay.specs.declared.fault.ReplayFault.{ReplayFault}
use Rattle.journal_replay.specs.declared.fault.ReplayFault.TheVariants.{NotAnEntry, Input, Output, NoMemory}
use Rattle.journal_replay.specs.declared.replay.ReplayResult.{ReplayResult}
use Rattle.journal_replay.specs.declared.replay.Replay.{Replay}
use Rattle.journal_replay.specs.Journals.{AreRead, IsNoEntry, IsNoHead, JournalEnds, bytes_of, journal_bytes}
use Rattle.schedule_text.specs.Lines.{with_line_feed, IsNextLine}
use Rattle.journal_replay.specs.Progress.{Adds, AddsLine, EndsLines, IsReplay, LinesEnd, ReplayProgress, StopsLines, TakesLine}
use Rattle.journal_replay.specs.Replays.{IsFound, JournalRead, entries_of, next_number}

-- ---- one line

one_alone : (entry x : Entry) → Some entry ≡ Some x → x ≡ entry
one_alone entry x same = ap (or_else entry) (sym same)
  where
    or_else : Entry → Option Entry → Entry
    or_else d None = d
    or_else d (Some e) = e

-- what was read is the only entry that the line spells
pub takes_line : (added : Bool) (old new : Replay) (bytes text : List ℕ) (entry : Entry) → bytes ≡ with_line_feed text → Reads (Some entry) (IsEntryLine old.version text) → Adds added old new (record { text = text; entry = entry }) → TakesLine added old new bytes
takes_line true old new bytes text entry is reads adds =
    record { line = record { text = text; entry = entry }; is_text = is; spelled = reads.sound; alone = λ x spelled. one_alone entry x (reads.whole x spelled); added = adds }
takes_line false old new bytes text entry is reads adds = λ before so_far.
    record {
      none = λ other same utf x spelled number.
          let texts : other ≡ text = append_cancel_right other text (10 ∷ []) (sym same ∙ is) in
          let one : x ≡ entry = one_alone entry x (reads.whole x (subst (λ t. IsEntryLine old.version t x) texts spelled)) in
          adds before so_far (subst (λ e. e.address.number ≡ next_number old.version (entries_of before) e.address) one number);
    }

-- the texts of first lines are texts
head-IsUtf8 : (version : Version) → IsUtf8 (head_text version)
unfolding lib.Utf8.encode
head-IsUtf8 One = (head_text One, (refl, refl))
head-IsUtf8 Two = (head_text Two, (refl, refl))
head-IsUtf8 Three = (head_text Three, (refl, refl))

pub no_text_no_head : (bytes text : List ℕ) → bytes ≡ with_line_feed text → (IsUtf8 text → ⊥) → IsNoHead bytes
no_text_no_head bytes text is never =
    record { none = λ version same. never (subst IsUtf8 (append_cancel_right (head_text version) text (10 ∷ []) (sym same ∙ is)) (head-IsUtf8 version)) }

-- a line without its line feed has none
whole_text : (bytes text : List ℕ) → bytes ≡ with_line_feed text → StopsAt bytes 10 → All (λ byte. byte ≢ 10) text
whole_text bytes text is stops =
    let at : length bytes - 1 ≡ length text = ap (λ b. length b - 1) is ∙ ap (λ n. n - 1) (length-append text (10 ∷ [])) ∙ (omega arith) in
    subst (All (λ byte. byte ≢ 10)) (ap (λ b. take (length bytes - 1) b) is ∙ ap (λ n. take n (with_line_feed text)) at ∙ take-append_seam text (10 ∷ [])) stops

-- the line that is read next is the next one of the input
next_line : (a r : Option (List ℕ)) (before bytes : List ℕ) → Consumes a r before → IfSome r (λ left. bytes ≡ take_through 10 left) → IsNextLine a before bytes
next_line None r before bytes read whole = tt
next_line (Some all) None before bytes read whole = absurd read
next_line (Some all) (Some left) before bytes read whole = whole ∙ ap (take_through 10) (sym (ap (drop (length before)) read ∙ drop-append_seam before left))

-- and so after other bytes before these
next_after : (a b : Option (List ℕ)) (first before bytes : List ℕ) → Consumes a b first → IsNextLine b before bytes → IsNextLine a (first ++ before) bytes
next_after None b first before bytes read whole = tt
next_after (Some all) None first before bytes read whole = absurd read
next_after (Some all) (Some left) first before bytes read whole =
    whole ∙ ap (take_through 10) (sym (ap (λ n. drop n all) (length-append first before) ∙ ap (drop (length first + length before)) read ∙ drop-append-add first left (length before)))

-- ---- the lines so far

pub begun : (version : Version) (a : Option (List ℕ)) → ReplayProgress version 2 (record { version = version; jobs = []; difference = None }) a a
begun version a =
    record { lines = []; counted = refl; read = tt; form = refl; after = record { states = λ place. refl; found = λ place. refl }; consumed = Consumes-none a }

module _ (version : Version) (number : ℕ) (replay : Replay) (a r : Option (List ℕ)) (so_far : ReplayProgress version number replay a r) where
  pub ended : IsAtEnd r → EndsLines version a (record { version = replay.version; lines = number - 2; difference = replay.difference })
  ended end =
      let counted : suc (suc (length so_far.lines)) ≡ number = so_far.counted in
      record {
        lines = so_far.lines;
        read = so_far.read;
        whole = Consumes-all a r (bytes_of so_far.lines) so_far.consumed end;
        form = so_far.form;
        counted = omega (arith, counted);
        found = subst (λ v. IsFound v so_far.lines replay.difference) so_far.form so_far.after.found;
      }

  module _ (r1 : Option (List ℕ)) (bytes : List ℕ) (read : Consumes r r1 bytes) where
    pub stopped : IfSome r (λ left. bytes ≡ take_through 10 left) → bytes ≢ [] → ((before : List JournalRead) → IsReplay before replay → IsNoEntry replay.version (entries_of before) bytes) → StopsLines version a r1 number
    stopped whole more none =
        record {
          lines = so_far.lines;
          rest = bytes;
          read = so_far.read;
          consumed = Consumes-then a r r1 (bytes_of so_far.lines) bytes so_far.consumed read;
          whole = next_line a r (bytes_of so_far.lines) bytes so_far.consumed whole;
          more = more;
          none = subst (λ v. IsNoEntry v (entries_of so_far.lines) bytes) so_far.form (none so_far.lines so_far.after);
          numbered = sym so_far.counted;
        }

    pub line_more : (new : Replay) → StopsAt bytes 10 → AddsLine replay new bytes → ReplayProgress version (number + 1) new a r1
    line_more new one adds =
        let counted : suc (suc (length so_far.lines)) ≡ number = so_far.counted in
        let before = entries_of so_far.lines in
        record {
          lines = adds.line ∷ so_far.lines;
          counted = ap suc counted ∙ (omega arith);
          read = (
            record {
              whole = whole_text bytes adds.line.text adds.is_text one;
              spelled = subst (λ v. IsEntryLine v adds.line.text adds.line.entry) so_far.form adds.spelled;
              alone = subst (λ v. (x : Entry) → IsEntryLine v adds.line.text x → x ≡ adds.line.entry) so_far.form adds.alone;
              numbered = subst (λ v. adds.line.entry.address.number ≡ next_number v before adds.line.entry.address) so_far.form (adds.added.numbered so_far.lines so_far.after);
            },
            so_far.read,
          );
          form = adds.added.version ∙ so_far.form;
          after = adds.added.after so_far.lines so_far.after;
          consumed = Consumes-then a r r1 (bytes_of so_far.lines) (with_line_feed adds.line.text) so_far.consumed (subst (Consumes r r1) adds.is_text read);
        }

-- ---- the first line and the others

Consumes-whole : (a b : Option (List ℕ)) (bs cs : List ℕ) → Consumes a b bs → IfSome b (λ all. all ≡ cs) → IfSome a (λ all. all ≡ bs ++ cs)
Consumes-whole None b bs cs p q = tt
Consumes-whole (Some x) None bs cs p q = absurd p
Consumes-whole (Some x) (Some y) bs cs p q = p ∙ ap (λ l. bs ++ l) q

pub whole_journal : (version : Version) (a b c : Option (List ℕ)) (bytes : List ℕ) → bytes ≡ with_line_feed (head_text version) → Consumes a b bytes → (result : Result ReplayResult ReplayFault) → LinesEnd version b c result → JournalEnds a c result
whole_journal version a b c bytes is head (Ok outcome) ends =
    record {
      lines = ends.lines;
      read = subst (λ v. AreRead v ends.lines) (sym ends.form) ends.read;
      whole = subst (λ v. IfSome a (λ all. all ≡ journal_bytes v ends.lines)) (sym ends.form) (Consumes-whole a b (with_line_feed (head_text version)) (bytes_of ends.lines) (subst (Consumes a b) is head) ends.whole);
      counted = ends.counted;
      found = subst (λ v. IsFound v ends.lines outcome.difference) (sym ends.form) ends.found;
    }
whole_journal version a b c bytes is head (Err (NotAnEntry number)) ends =
    inr (record {
      version = version;
      lines = ends.lines;
      rest = ends.rest;
      read = ends.read;
      consumed = subst (Consumes a c) (sym (append_assoc (with_line_feed (head_text version)) (bytes_of ends.lines) ends.rest)) (Consumes-then a b c (with_line_feed (head_text version)) (bytes_of ends.lines ++ ends.rest) (subst (Consumes a b) is head) ends.consumed);
      whole = next_after a b (with_line_feed (head_text version)) (bytes_of ends.lines) ends.rest (subst (Consumes a b) is head) ends.whole;
      more = ends.more;
      none = ends.none;
      numbered = ends.numbered;
    })
whole_journal version a b c bytes is head (Err Input) ends = tt
whole_journal version a b c bytes is head (Err Output) ends = ends
whole_journal version a b c bytes is head (Err NoMemory) ends = tt
