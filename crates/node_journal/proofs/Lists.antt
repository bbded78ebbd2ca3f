-- Lines of a job with more after them.
use Rattle.std.proofs.Common.{◌≡◌, List, [], ◌∷◌, ◌++◌, map, append-nil, append_assoc, Option, Some, None, refl, sym, ap, ◌∙◌}
use Rattle.std.specs.Prelude.{option_to_list}
use Rattle.std.proofs.lemmas.List.{map-append}
use Rattle.private_store.specs.declared.inputs.Judged.{Judged}
use Rattle.private_store.specs.rules.Replay.{ReplayState, Line as Replayed, replayed, answers_due, replay_after, replay_step}
use Rattle.node_journal.specs.declared.entries.Line.{Line}
use Rattle.node_journal.specs.Replies.{unlisted}
use Rattle.node_journal.specs.Journals.{journal_line_of, lines_of, AreDue}

pub lines_of-snoc : (ls : List Line) (l : Line) → lines_of (ls ++ l ∷ []) ≡ lines_of ls ++ option_to_list (journal_line_of l)
lines_of-snoc [] l = append-nil (option_to_list (journal_line_of l))
lines_of-snoc (x ∷ xs) l =
    ap (λ r. option_to_list (journal_line_of x) ++ r) (lines_of-snoc xs l)
    ∙ sym (append_assoc (option_to_list (journal_line_of x)) (lines_of xs) (option_to_list (journal_line_of l)))

pub replayed-append : (b : ReplayState) (lines more : List Replayed) → replayed b (lines ++ more) ≡ replayed (replayed b lines) more
replayed-append b [] more = refl
replayed-append b (x ∷ xs) more = replayed-append (replay_after b x.input) xs more

pub replayed-snoc : (b : ReplayState) (lines : List Replayed) (l : Replayed) → replayed b (lines ++ l ∷ []) ≡ replay_after (replayed b lines) l.input
replayed-snoc b lines l = replayed-append b lines (l ∷ [])

pub replayed_one : (replay_state : ReplayState) (o : Option Replayed) (rest : List Replayed) → replayed replay_state (option_to_list o ++ rest) ≡ replayed (replayed replay_state (option_to_list o)) rest
replayed_one replay_state None rest = refl
replayed_one replay_state (Some t) rest = refl

abbrev inputs : List Replayed → List Judged
inputs lines = map (λ (line : Replayed). line.input) lines

answers_due-append : (b : ReplayState) (lines more : List Replayed) → answers_due b (inputs (lines ++ more)) ≡ answers_due b (inputs lines) ++ answers_due (replayed b lines) (inputs more)
answers_due-append b [] more = refl
answers_due-append b (x ∷ xs) more = ap (λ r. (replay_step b x.input).reply ∷ r) (answers_due-append (replay_after b x.input) xs more)

pub due-append : (b : ReplayState) (lines more : List Replayed) → AreDue b lines → AreDue (replayed b lines) more → AreDue b (lines ++ more)
due-append b lines more h next =
    map-append (λ (line : Replayed). line.reply) lines more
    ∙ ap (λ r. r ++ map (λ (line : Replayed). line.reply) more) h
    ∙ ap (λ r. map unlisted (answers_due b (inputs lines)) ++ r) next
    ∙ sym (map-append unlisted (answers_due b (inputs lines)) (answers_due (replayed b lines) (inputs more)))
    ∙ ap (map unlisted) (sym (answers_due-append b lines more))

pub due-snoc : (b : ReplayState) (lines : List Replayed) (l : Replayed) → AreDue b lines → l.reply ≡ unlisted (replay_step (replayed b lines) l.input).reply → AreDue b (lines ++ l ∷ [])
due-snoc b lines l h e = due-append b lines (l ∷ []) h (ap (λ r. r ∷ []) e)
