-- What a piece of the stream says, and what becomes of it.
use Rattle.std.proofs.Common.{◌≡◌, ℕ, true, List, [], ◌∷◌, Option, Result, Ok, Err, refl, sym, ap, subst}
use Rattle.std.specs.Prelude.{⊤}
use Rattle.std.specs.Io.KnownBytes.{Keeps}
use Rattle.obj_id.specs.declared.refusals.Refusal.TheVariants.{Malformed as NotAFrame}
use Rattle.private_store.specs.declared.frames.Item.{Item}
use Rattle.private_store.specs.rules.Frames.{End, clean, mid_frame, malformed}
use Rattle.store_facts.proofs.KnownBytes.{Appends-kept}
use Rattle.wire_frames.specs.Reading.{Reading, continued, answer_at, fed, is_fault, reading_fed}
use Rattle.wire_frames.proofs.ForCallers.{fault_met}
use Rattle.session_engine.specs.declared.ending.SessionFault.{SessionFault}
use Rattle.session_engine.specs.Calls.{GateCall, GateAnswer}
use Rattle.session_engine.specs.Sessions.{SessionState, session_state}
use Rattle.session_engine.specs.Serving.{AnswersAll, not_a_frame}
use Rattle.session_engine.specs.Hearing.{Sends, Flushes, StopsAnswering, Answering, AnswersPiece, HearsNoFrame}
use Rattle.session_engine.proofs.Answering.{Appends-replies, Appends-reply, answered_none, stopped_refusing, stopped_after_refusing}

answer_at-ok : (end : End) (xs ys : List Item) → answer_at end xs ≡ Ok ys → xs ≡ ys
answer_at-ok clean xs ys h = cc
answer_at-ok mid_frame xs ys h = cc
answer_at-ok malformed [] ys h = cc
answer_at-ok malformed (x ∷ xs) ys h = cc

-- a fault that is told has no items before it
answer_at-fault : (end : End) (xs : List Item) → answer_at end xs ≡ Err NotAFrame → xs ≡ []
answer_at-fault clean xs h = absurd (let f : ⊥ = cc in f)
answer_at-fault mid_frame xs h = absurd (let f : ⊥ = cc in f)
answer_at-fault malformed [] h = refl
answer_at-fault malformed (x ∷ xs) h = absurd (let f : ⊥ = cc in f)

module _ {G : Type 0} (gives : G → GateCall → GateAnswer → G → Type 0) (reading : Reading) (piece : List ℕ) where
  module _ (a b : SessionState G) (new : Reading) where
    -- the items that are told are those that the stream goes on with
    pub items_answered : (items : List Item) (result : Result ⊤ SessionFault) → fed reading piece ≡ reading_fed (Ok items) new → Answering gives items a b result → AnswersPiece gives reading piece a b new result
    items_answered items (Ok u) is h =
        let now = continued reading piece in
        (sym (ap (λ f. f.reader) is), subst (λ l. AnswersAll gives l a b) (sym (answer_at-ok now.end now.items items (ap (λ f. f.answer) is))) h)
    items_answered items (Err fault) is h =
        let now = continued reading piece in
        subst (λ l. Answering gives l a b (Err fault)) (sym (answer_at-ok now.end now.items items (ap (λ f. f.answer) is))) h

  pub no_items_answered : (a : SessionState G) (new : Reading) → fed reading piece ≡ reading_fed (Err NotAFrame) new → AnswersPiece gives reading piece a a new (Ok tt)
  no_items_answered a new is =
      let now = continued reading piece in
      (sym (ap (λ f. f.reader) is), subst (λ l. AnswersAll gives l a a) (sym (answer_at-fault now.end now.items (ap (λ f. f.answer) is))) (answered_none gives a))

  module _ (a b : SessionState G) (new : Reading) (answered : AnswersPiece gives reading piece a b new (Ok tt)) where
    fault_heard : is_fault (fed new []).answer ≡ true → malformed ≡ (continued reading piece).end
    fault_heard faulty = sym (fault_met reading piece (subst (λ at. is_fault (fed at []).answer ≡ true) answered.0 faulty))

    module _ (fault : SessionFault) (faulty : is_fault (fed new []).answer ≡ true) (w : Option (List ℕ)) where
      abbrev Stops : Option (List ℕ) → End → Type 0
      Stops written end = StopsAnswering gives fault end (continued reading piece).items a (session_state b.gate b.session_id written)

      pub refusing_stopped : Sends not_a_frame b.written w (Err fault) → Stops w (continued reading piece).end
      refusing_stopped sends = subst (Stops w) (fault_heard faulty) (stopped_refusing gives fault (continued reading piece).items a b w answered.1 sends)

      pub refused_stopped : (w1 : Option (List ℕ)) → Sends not_a_frame b.written w (Ok tt) → Flushes w w1 (Err fault) → Stops w1 (continued reading piece).end
      refused_stopped w1 sent flushes =
          subst (Stops w1) (fault_heard faulty) (stopped_after_refusing gives fault (continued reading piece).items a b w w1 answered.1 sent flushes)

    pub no_frame_heard : (w w1 : Option (List ℕ)) → is_fault (fed new []).answer ≡ true → Sends not_a_frame b.written w (Ok tt) → Keeps w w1 → HearsNoFrame gives reading piece a (session_state b.gate b.session_id w1)
    no_frame_heard w w1 faulty sent k =
        let replies = answered.1.replies in
        record {
          faulty = sym (fault_heard faulty);
          concluded = record {
            replies = replies;
            run = answered.1.run;
            written =
                Appends-kept a.written w w1 _
                (Appends-replies a.written b.written w replies (not_a_frame ∷ []) answered.1.written (Appends-reply b.written w not_a_frame sent)) k;
          };
        }
