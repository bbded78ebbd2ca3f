-- A session so far, and how it ends.
use Rattle.std.proofs.Common.{◌≡◌, ◌≢◌, ℕ, Bool, true, false, List, [], ◌∷◌, ◌++◌, Option, IfSome, Ok, Err, refl, sym, ap, subst, ◌∙◌, append_assoc}
use Rattle.std.specs.Prelude.{if◌then◌else◌}
use Rattle.std.specs.Io.KnownBytes.{Appends, Consumes, IsAtEnd}
use Rattle.private_store.specs.declared.frames.Item.{Item}
use Rattle.private_store.specs.rules.Frames.{End, clean, mid_frame, malformed, replies_bytes, stream_of}
use Rattle.wire_frames.specs.Reading.{Reading, unfinished, continued, is_in_mid_frame, reading_at, reading_after}
use Rattle.session_engine.specs.declared.ending.Ended.{Ended}
use Rattle.session_engine.specs.declared.ending.Ended.TheVariants.{Clean, MidFrame, Malformed}
use Rattle.session_engine.specs.declared.ending.SessionFault.{SessionFault}
use Rattle.session_engine.specs.declared.ending.SessionFault.TheVariants.{Read, Write, Memory}
use Rattle.session_engine.specs.declared.serving.PieceEnd.{PieceEnd}
use Rattle.session_engine.specs.declared.serving.PieceEnd.TheVariants.{Items, NoFrame}
use Rattle.session_engine.specs.Calls.{GateCall, GateAnswer}
use Rattle.session_engine.specs.Sessions.{SessionState}
use Rattle.session_engine.specs.Serving.{AnswersAll, Concludes, EndsIn, AnswersInput, not_a_frame}
use Rattle.session_engine.specs.Hearing.{StopsAnswering, Hears, HearsNoFrame, HearsPiece}
use Rattle.store_facts.proofs.KnownBytes.{Consumes-none, Consumes-then, Consumes-all}
use Rattle.session_engine.proofs.Answering.{Appends-replies, Run-then, answered_none, answered_then, stopped_then, no_memory_before}
use Rattle.session_engine.proofs.Ends.{IsRest, rest_of_stream}
use Rattle.session_engine.proofs.Parts.{stream_on}

-- the end by what the reader keeps
ended_in : (end : End) (rest : List ℕ) (input : Option (List ℕ)) (bytes : List ℕ) → (stream_of bytes).end ≡ end → (stream_of bytes).rest ≡ rest → end ≢ malformed → IsRest end rest → IfSome input (λ all. all ≡ bytes)
    → EndsIn (if is_in_mid_frame (reading_at end rest) then MidFrame else Clean) bytes input
ended_in clean [] input bytes e r no_fault fits all = (e, all)
ended_in clean (x ∷ xs) input bytes e r no_fault fits all = absurd (let f : ⊥ = cc in f)
ended_in mid_frame [] input bytes e r no_fault fits all = absurd (fits refl)
ended_in mid_frame (x ∷ xs) input bytes e r no_fault fits all = (e, subst (λ l. l ≢ []) (sym r) fits, all)
ended_in malformed rest input bytes e r no_fault fits all = absurd (no_fault refl)

-- all is answered, and nothing is added where the stream has no fault
concluded : {G : Type 0} (gives : G → GateCall → GateAnswer → G → Type 0) (xs : List Item) (a b : SessionState G) (in_mid_frame : Bool) → AnswersAll gives xs a b → Concludes gives (if in_mid_frame then MidFrame else Clean) xs a b
concluded gives xs a b true h = record { replies = h.replies; run = h.run; written = h.written }
concluded gives xs a b false h = record { replies = h.replies; run = h.run; written = h.written }

-- more is answered, and then a fault of the stream
concluded_then : {G : Type 0} (gives : G → GateCall → GateAnswer → G → Type 0) (xs ys : List Item) (a b c : SessionState G) → AnswersAll gives xs a b → Concludes gives Malformed ys b c → Concludes gives Malformed (xs ++ ys) a c
concluded_then gives xs ys a b c h k =
    record {
      replies = h.replies ++ k.replies;
      run = Run-then gives xs h.replies ys k.replies a.gate b.gate c.gate a.session_id b.session_id c.session_id h.run k.run;
      written =
          subst (λ l. Appends a.written c.written (replies_bytes l)) (sym (append_assoc h.replies k.replies (not_a_frame ∷ [])))
          (Appends-replies a.written b.written c.written h.replies (k.replies ++ not_a_frame ∷ []) h.written k.written);
    }

-- ---- a session so far

module _ {G : Type 0} (gives : G → GateCall → GateAnswer → G → Type 0) (r : Option (List ℕ)) (a : SessionState G) where
  pub record Progress (frames : Reading) (r1 : Option (List ℕ)) (b : SessionState G) : Type 0 where
    pub bytes : List ℕ
    pub consumed : Consumes r r1 bytes
    pub reading : reading_after (stream_of bytes) ≡ frames
    pub sound : (stream_of bytes).end ≢ malformed
    pub answered : AnswersAll gives (stream_of bytes).items a b

  pub begun : Progress (unfinished []) r a
  begun = record { bytes = []; consumed = Consumes-none r; reading = refl; sound = λ e. cc; answered = answered_none gives a }

  pub no_buffer : AnswersInput gives a a r r (Err Memory)
  no_buffer = record { bytes = []; consumed = Consumes-none r; outcome = no_memory_before gives clean [] a }

  -- the input is at its end, and all of it is answered
  input_ended : (frames : Reading) (r1 : Option (List ℕ)) (b : SessionState G) → Progress frames r1 b → IsAtEnd r1 → (ended : Ended) → ended ≡ (if is_in_mid_frame frames then MidFrame else Clean) → AnswersInput gives a b r r1 (Ok ended)
  input_ended frames r1 b so_far end ended is =
      let stream = stream_of so_far.bytes in
      subst (λ e. AnswersInput gives a b r r1 (Ok e)) (sym (is ∙ ap (λ at. if is_in_mid_frame at then MidFrame else Clean) (sym so_far.reading)))
      (record {
        bytes = so_far.bytes;
        consumed = so_far.consumed;
        outcome = (
          ended_in stream.end stream.rest r so_far.bytes refl refl so_far.sound (rest_of_stream so_far.bytes) (Consumes-all r r1 so_far.bytes so_far.consumed end),
          concluded gives stream.items a b (is_in_mid_frame (reading_at stream.end stream.rest)) so_far.answered,
        );
      })

  module _ (frames : Reading) (r1 : Option (List ℕ)) (b : SessionState G) (so_far : Progress frames r1 b) where
    module _ (r2 : Option (List ℕ)) (c : SessionState G) (piece : List ℕ) (read : Consumes r1 r2 piece) where
      consumed_on : Consumes r r2 (so_far.bytes ++ piece)
      consumed_on = Consumes-then r r1 r2 so_far.bytes piece so_far.consumed read

      items_on : (stream_of (so_far.bytes ++ piece)).items ≡ (stream_of so_far.bytes).items ++ (continued frames piece).items
      items_on = (stream_on so_far.bytes piece).items_on ∙ ap (λ at. (stream_of so_far.bytes).items ++ (continued at piece).items) so_far.reading

      end_on : (stream_of (so_far.bytes ++ piece)).end ≡ (continued frames piece).end
      end_on = (stream_on so_far.bytes piece).end_on ∙ ap (λ at. (continued at piece).end) so_far.reading

      items_heard : (frames2 : Reading) → Hears gives frames piece b c frames2 → Progress frames2 r2 c
      items_heard frames2 hears =
          record {
            bytes = so_far.bytes ++ piece;
            consumed = consumed_on;
            reading = (stream_on so_far.bytes piece).kept_on ∙ ap (λ at. reading_after (continued at piece)) so_far.reading ∙ sym hears.kept;
            sound = subst (λ e. e ≢ malformed) (sym end_on) hears.sound;
            answered =
                subst (λ l. AnswersAll gives l a c) (sym items_on)
                (answered_then gives (stream_of so_far.bytes).items (continued frames piece).items a b c so_far.answered hears.answered);
          }

      no_frame_heard : HearsNoFrame gives frames piece b c → AnswersInput gives a c r r2 (Ok Malformed)
      no_frame_heard hears =
          record {
            bytes = so_far.bytes ++ piece;
            consumed = consumed_on;
            outcome = (
              end_on ∙ hears.faulty,
              subst (λ l. Concludes gives Malformed l a c) (sym items_on)
                  (concluded_then gives (stream_of so_far.bytes).items (continued frames piece).items a b c so_far.answered hears.concluded),
            );
          }

      module _ (frames2 : Reading) (what : PieceEnd) (hears : HearsPiece gives frames piece b c frames2 (Ok what)) where
        pub heard : what ≡ Items → Progress frames2 r2 c
        heard is = items_heard frames2 (subst (λ w. HearsPiece gives frames piece b c frames2 (Ok w)) is hears)

        pub heard_last : what ≡ Items → IsAtEnd r2 → (ended : Ended) → ended ≡ (if is_in_mid_frame frames2 then MidFrame else Clean) → AnswersInput gives a c r r2 (Ok ended)
        heard_last is end ended ends = input_ended frames2 r2 c (heard is) end ended ends

        pub heard_no_frame : what ≡ NoFrame → AnswersInput gives a c r r2 (Ok Malformed)
        heard_no_frame is = no_frame_heard (subst (λ w. HearsPiece gives frames piece b c frames2 (Ok w)) is hears)

      module _ (fault : SessionFault) where
        abbrev Stops : End → List Item → SessionState G → Type 0
        Stops end items old = StopsAnswering gives fault end items old c

        stopped : Stops (continued frames piece).end (continued frames piece).items b → Stops (stream_of (so_far.bytes ++ piece)).end (stream_of (so_far.bytes ++ piece)).items a
        stopped stops =
            subst (λ end. Stops end (stream_of (so_far.bytes ++ piece)).items a) (sym end_on)
            (subst (λ l. Stops (continued frames piece).end l a) (sym items_on)
            (stopped_then gives fault (continued frames piece).end (stream_of so_far.bytes).items (continued frames piece).items a b c so_far.answered stops))

      pub hearing_stopped : (fault : SessionFault) → StopsAnswering gives fault (continued frames piece).end (continued frames piece).items b c → AnswersInput gives a c r r2 (Err fault)
      hearing_stopped Read stops = absurd stops
      hearing_stopped Write stops = record { bytes = so_far.bytes ++ piece; consumed = consumed_on; outcome = stopped Write stops }
      hearing_stopped Memory stops = record { bytes = so_far.bytes ++ piece; consumed = consumed_on; outcome = stopped Memory stops }
