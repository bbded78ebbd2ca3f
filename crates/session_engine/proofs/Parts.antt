-- What a stream says that comes in parts, and its answers.
use Rattle.std.proofs.Common.{◌≡◌, ℕ, List, [], ◌++◌, take, drop, Result, Ok, Err, refl, sym, ap, subst, ◌∙◌, append-nil, append_assoc, take-append-drop}
use Rattle.std.specs.Prelude.{⊤}
use Rattle.private_store.specs.declared.frames.Item.{Item}
use Rattle.private_store.specs.rules.Frames.{End, clean, mid_frame, malformed, Stream, stream_of}
use Rattle.wire_frames.specs.Reading.{Reading, unfinished, failed, continued, reading_at, reading_after}
use Rattle.wire_frames.proofs.ForCallers.{onward_at, stream_of-append}
use Rattle.session_engine.specs.declared.ending.SessionFault.{SessionFault}
use Rattle.session_engine.specs.Calls.{GateCall, GateAnswer}
use Rattle.session_engine.specs.Sessions.{SessionState}
use Rattle.session_engine.specs.Serving.{AnswersAll}
use Rattle.session_engine.specs.Hearing.{StopsAnswering, AnswersPiece}
use Rattle.session_engine.proofs.Answering.{answered_none, answered_then, stopped_then, stopped_more}

-- a stream says these items, and then what the other one says
pub record GoesOn (whole : Stream) (items : List Item) (after : Stream) : Type 0 where
  pub items_on : whole.items ≡ items ++ after.items
  pub end_on : whole.end ≡ after.end
  pub kept_on : reading_after whole ≡ reading_after after

onward_on : (end : End) (items : List Item) (rest piece : List ℕ) → GoesOn (onward_at end items rest piece) items (continued (reading_at end rest) piece)
onward_on clean items rest piece = record { items_on = refl; end_on = refl; kept_on = refl }
onward_on mid_frame items rest piece = record { items_on = refl; end_on = refl; kept_on = refl }
onward_on malformed items rest piece = record { items_on = sym (append-nil items); end_on = refl; kept_on = refl }

pub stream_on : (bytes piece : List ℕ) → GoesOn (stream_of (bytes ++ piece)) (stream_of bytes).items (continued (reading_after (stream_of bytes)) piece)
stream_on bytes piece =
    let s = stream_of bytes in
    subst (λ whole. GoesOn whole s.items (continued (reading_after s) piece)) (sym (stream_of-append bytes piece)) (onward_on s.end s.items s.rest piece)

continued_on : (now : Reading) (part others : List ℕ) → GoesOn (continued now (part ++ others)) (continued now part).items (continued (reading_after (continued now part)) others)
continued_on (unfinished bytes) part others =
    let s = stream_of (bytes ++ part) in
    subst (λ l. GoesOn (stream_of l) s.items (continued (reading_after s) others)) (append_assoc bytes part others) (stream_on (bytes ++ part) others)
continued_on failed part others = record { items_on = refl; end_on = refl; kept_on = refl }

module _ {G : Type 0} (gives : G → GateCall → GateAnswer → G → Type 0) (reading : Reading) (piece : List ℕ) (a : SessionState G) where
  -- a piece so far: the items before what is left of it are answered
  pub record InPiece (now : Reading) (rest : List ℕ) (b : SessionState G) : Type 0 where
    pub before : List Item
    pub goes_on : GoesOn (continued reading piece) before (continued now rest)
    pub answered : AnswersAll gives before a b

  pub piece_begun : InPiece reading piece a
  piece_begun = record { before = []; goes_on = record { items_on = refl; end_on = refl; kept_on = refl }; answered = answered_none gives a }

  module _ (now : Reading) (rest : List ℕ) (b : SessionState G) (so_far : InPiece now rest b) (c : SessionState G) (now2 : Reading) where
    module _ (n : ℕ) (part others : List ℕ) (front : part ≡ take n rest) (back : others ≡ drop n rest) where
      parted : rest ≡ part ++ others
      parted = sym (take-append-drop n rest) ∙ ap (λ l. l ++ drop n rest) (sym front) ∙ ap (λ l. part ++ l) (sym back)

      part_on : GoesOn (continued reading piece) (so_far.before ++ (continued now part).items) (continued (reading_after (continued now part)) others)
      part_on =
          let whole = subst (λ l. GoesOn (continued reading piece) so_far.before (continued now l)) parted so_far.goes_on in
          let on = continued_on now part others in
          record {
            items_on = whole.items_on ∙ ap (λ l. so_far.before ++ l) on.items_on ∙ sym (append_assoc so_far.before (continued now part).items _);
            end_on = whole.end_on ∙ on.end_on;
            kept_on = whole.kept_on ∙ on.kept_on;
          }

      pub part_answered : AnswersPiece gives now part b c now2 (Ok tt) → InPiece now2 others c
      part_answered h =
          record {
            before = so_far.before ++ (continued now part).items;
            goes_on = subst (λ at. GoesOn (continued reading piece) (so_far.before ++ (continued now part).items) (continued at others)) (sym h.0) part_on;
            answered = answered_then gives so_far.before (continued now part).items a b c so_far.answered h.1;
          }

      pub part_stopped : (fault : SessionFault) → AnswersPiece gives now part b c now2 (Err fault) → AnswersPiece gives reading piece a c now2 (Err fault)
      part_stopped fault stops =
          subst (λ l. StopsAnswering gives fault clean l a c) (sym part_on.items_on)
          (stopped_more gives fault clean (so_far.before ++ (continued now part).items) (continued (reading_after (continued now part)) others).items a c
          (stopped_then gives fault clean so_far.before (continued now part).items a b c so_far.answered stops))

    pub last_part : (result : Result ⊤ SessionFault) → AnswersPiece gives now rest b c now2 result → AnswersPiece gives reading piece a c now2 result
    last_part (Ok u) h = (
      h.0 ∙ sym so_far.goes_on.kept_on,
      subst (λ l. AnswersAll gives l a c) (sym so_far.goes_on.items_on) (answered_then gives so_far.before (continued now rest).items a b c so_far.answered h.1),
    )
    last_part (Err fault) stops =
        subst (λ l. StopsAnswering gives fault clean l a c) (sym so_far.goes_on.items_on)
        (stopped_then gives fault clean so_far.before (continued now rest).items a b c so_far.answered stops)
