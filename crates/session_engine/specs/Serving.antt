-- A session as a whole: what it reads and writes, and how it ends.
use Rattle.std.specs.Prelude.{◌≡◌, ◌≢◌, ℕ, List, [], ◌∷◌, ◌++◌, take, Option, Some, None, IfSome, option_to_list, Result, Ok, Err}
use Rattle.std.specs.Io.KnownBytes.{Appends, Consumes}
use Rattle.obj_id.specs.declared.refusals.Refusal.TheVariants as refusal
use Rattle.obj_id.specs.declared.commands.Reply.{Reply}
use Rattle.obj_id.specs.declared.commands.Reply.TheVariants as reply
use Rattle.private_store.specs.declared.frames.Item.{Item}
use Rattle.private_store.specs.rules.Frames.{End, clean, mid_frame, malformed, stream_of, reply_frame, replies_bytes}
use Rattle.session_engine.specs.declared.session.SessionId.{SessionId}
use Rattle.session_engine.specs.declared.ending.Ended.{Ended}
use Rattle.session_engine.specs.declared.ending.Ended.TheVariants.{Clean, MidFrame, Malformed}
use Rattle.session_engine.specs.declared.ending.SessionFault.{SessionFault}
use Rattle.session_engine.specs.declared.ending.SessionFault.TheVariants.{Read, Write, Memory}
use Rattle.session_engine.specs.Calls.{GateCall, GateAnswer}
use Rattle.session_engine.specs.Sessions.{SessionState, session_state, Run, Leaves}

-- the refusal of what isn't a frame
abbrev pub not_a_frame : Reply (List ℕ)
not_a_frame = reply.Refused refusal.Malformed

-- the replies of an ended session: one more where the stream has a fault
abbrev pub replies_at : Ended → List (Reply (List ℕ)) → List (Reply (List ℕ))
replies_at Clean replies = replies
replies_at MidFrame replies = replies
replies_at Malformed replies = replies ++ not_a_frame ∷ []

-- what was read is all, and is whole frames; is all, and a rest is left; has a fault
abbrev pub EndsIn : Ended → List ℕ → Option (List ℕ) → Type 0
EndsIn Clean bytes input = ((stream_of bytes).end ≡ clean) × IfSome input (λ all. all ≡ bytes)
EndsIn MidFrame bytes input = ((stream_of bytes).end ≡ mid_frame) × ((stream_of bytes).rest ≢ []) × IfSome input (λ all. all ≡ bytes)
EndsIn Malformed bytes input = (stream_of bytes).end ≡ malformed

-- known bytes grow by these, and by a beginning of the next ones
abbrev pub AppendsPart : Option (List ℕ) → Option (List ℕ) → List ℕ → List ℕ → Type 0
AppendsPart written_old written_new whole next = (count : ℕ) × Appends written_old written_new (whole ++ take count next)

-- what went out before a fault: whole frames, and if writing failed a beginning of the one that was due
abbrev pub IsSent : SessionFault → Option (List ℕ) → Option (List ℕ) → List (Reply (List ℕ)) → List ℕ → Type 0
IsSent Read written_old written_new sent due = Appends written_old written_new (replies_bytes sent)
IsSent Write written_old written_new sent due = AppendsPart written_old written_new (replies_bytes sent) due
IsSent Memory written_old written_new sent due = Appends written_old written_new (replies_bytes sent)

-- the frame that is due after the replies that were sent: of the reply that wasn't, or of the refusal of what isn't a frame once no item waits
abbrev pub due_frame : Option (Reply (List ℕ)) → List Item → End → List ℕ
due_frame (Some reply) waiting end = reply_frame reply
due_frame None [] malformed = reply_frame not_a_frame
due_frame None _ _ = []

module _ {G : Type 0} (gives : G → GateCall → GateAnswer → G → Type 0) where
  -- all items are answered, and the session ends so
  pub record Concludes (ended : Ended) (items : List Item) (old new : SessionState G) : Type 0 where
    pub replies : List (Reply (List ℕ))
    pub run : Run gives items replies old.gate old.session_id new.gate new.session_id
    pub written : Appends old.written new.written (replies_bytes (replies_at ended replies))

  -- all items are answered, and nothing else is written
  pub record AnswersAll (items : List Item) (old new : SessionState G) : Type 0 where
    pub replies : List (Reply (List ℕ))
    pub run : Run gives items replies old.gate old.session_id new.gate new.session_id
    pub written : Appends old.written new.written (replies_bytes replies)

  -- a fault came: a beginning of the items is answered, and all of its answers are sent, or all but the last
  pub record StopsWithin (fault : SessionFault) (end : End) (items : List Item) (old new : SessionState G) : Type 0 where
    pub answered : List Item
    pub waiting : List Item
    pub parted : items ≡ answered ++ waiting
    pub sent : List (Reply (List ℕ))
    pub unsent : Option (Reply (List ℕ))
    pub run : Run gives answered (sent ++ option_to_list unsent) old.gate old.session_id new.gate new.session_id
    pub written : IsSent fault old.written new.written sent (due_frame unsent waiting end)

  -- how a session ended or stopped that had read these bytes of its input
  abbrev pub IsOutcome : List ℕ → Option (List ℕ) → SessionState G → SessionState G → Result Ended SessionFault → Type 0
  IsOutcome bytes input old new (Ok ended) = EndsIn ended bytes input × Concludes ended (stream_of bytes).items old new
  IsOutcome bytes input old new (Err Read) = AnswersAll (stream_of bytes).items old new
  IsOutcome bytes input old new (Err Write) = StopsWithin Write (stream_of bytes).end (stream_of bytes).items old new
  IsOutcome bytes input old new (Err Memory) = StopsWithin Memory (stream_of bytes).end (stream_of bytes).items old new

  -- the input is answered
  pub record AnswersInput (old new : SessionState G) (read_old read_new : Option (List ℕ)) (result : Result Ended SessionFault) : Type 0 where
    -- what was read
    pub bytes : List ℕ
    pub consumed : Consumes read_old read_new bytes
    pub outcome : IsOutcome bytes read_old old new result

  -- a session from its beginning, where it has no seat, to its end: the last that its gate is asked is to leave it
  pub record Served (gate_old gate_new : G) (read_old read_new written_old written_new : Option (List ℕ)) (result : Result Ended SessionFault) : Type 0 where
    pub gate_then : G
    pub session_id_then : Option SessionId
    pub answered : AnswersInput (session_state gate_old None written_old) (session_state gate_then session_id_then written_new) read_old read_new result
    pub left : Leaves gives session_id_then gate_then gate_new
