-- What becomes of a piece of the input, and of its items.
use Rattle.std.specs.Prelude.{◌≡◌, ◌≢◌, ℕ, List, [], Option, Result, Ok, Err, ⊤}
use Rattle.std.specs.Io.KnownBytes.{Keeps, Appends}
use Rattle.obj_id.specs.declared.commands.Reply.{Reply}
use Rattle.private_store.specs.declared.frames.Item.{Item}
use Rattle.private_store.specs.rules.Frames.{End, clean, malformed, reply_frame}
use Rattle.wire_frames.specs.Reading.{Reading, continued, reading_after}
use Rattle.session_engine.specs.declared.ending.Ended.TheVariants.{Malformed}
use Rattle.session_engine.specs.declared.ending.SessionFault.{SessionFault}
use Rattle.session_engine.specs.declared.ending.SessionFault.TheVariants.{Read, Write, Memory}
use Rattle.session_engine.specs.declared.serving.PieceEnd.{PieceEnd}
use Rattle.session_engine.specs.declared.serving.PieceEnd.TheVariants.{Items, NoFrame}
use Rattle.session_engine.specs.Calls.{GateCall, GateAnswer}
use Rattle.session_engine.specs.Sessions.{SessionState}
use Rattle.session_engine.specs.Serving.{AppendsPart, AnswersAll, Concludes, StopsWithin}

-- bytes are written, or writing failed after a beginning of them
abbrev pub Writes : List ℕ → Option (List ℕ) → Option (List ℕ) → Result ⊤ SessionFault → Type 0
Writes bytes written_old written_new (Ok u) = Appends written_old written_new bytes
Writes bytes written_old written_new (Err Read) = ⊥
Writes bytes written_old written_new (Err Write) = AppendsPart written_old written_new [] bytes
Writes bytes written_old written_new (Err Memory) = ⊥

-- a reply's frame is written, or writing failed after a beginning of it, or there was no memory and nothing went out
abbrev pub Sends : Reply (List ℕ) → Option (List ℕ) → Option (List ℕ) → Result ⊤ SessionFault → Type 0
Sends reply written_old written_new (Ok u) = Appends written_old written_new (reply_frame reply)
Sends reply written_old written_new (Err Read) = ⊥
Sends reply written_old written_new (Err Write) = AppendsPart written_old written_new [] (reply_frame reply)
Sends reply written_old written_new (Err Memory) = Keeps written_old written_new

-- what the writer kept back goes out, or that failed
abbrev pub Flushes : Option (List ℕ) → Option (List ℕ) → Result ⊤ SessionFault → Type 0
Flushes written_old written_new (Ok u) = Keeps written_old written_new
Flushes written_old written_new (Err Read) = ⊥
Flushes written_old written_new (Err Write) = Keeps written_old written_new
Flushes written_old written_new (Err Memory) = ⊥

module _ {G : Type 0} (gives : G → GateCall → GateAnswer → G → Type 0) where
  -- a fault in the midst of answers is one of writing or of memory
  abbrev pub StopsAnswering : SessionFault → End → List Item → SessionState G → SessionState G → Type 0
  StopsAnswering Read end items old new = ⊥
  StopsAnswering Write end items old new = StopsWithin gives Write end items old new
  StopsAnswering Memory end items old new = StopsWithin gives Memory end items old new

  -- what becomes of items, after which nothing is due
  abbrev pub Answering : List Item → SessionState G → SessionState G → Result ⊤ SessionFault → Type 0
  Answering items old new (Ok u) = AnswersAll gives items old new
  Answering items old new (Err fault) = StopsAnswering fault clean items old new

  -- what becomes of the items of a piece, and what the reader keeps
  abbrev pub AnswersPiece : Reading → List ℕ → SessionState G → SessionState G → Reading → Result ⊤ SessionFault → Type 0
  AnswersPiece reading piece old new reading_new (Ok u) = (reading_new ≡ reading_after (continued reading piece)) × AnswersAll gives (continued reading piece).items old new
  AnswersPiece reading piece old new reading_new (Err fault) = StopsAnswering fault clean (continued reading piece).items old new

  -- what a piece says is answered, and the stream has no fault
  pub record Hears (reading : Reading) (piece : List ℕ) (old new : SessionState G) (reading_new : Reading) : Type 0 where
    pub kept : reading_new ≡ reading_after (continued reading piece)
    pub sound : (continued reading piece).end ≢ malformed
    pub answered : AnswersAll gives (continued reading piece).items old new

  -- what a piece says is answered, and then a fault of the stream
  pub record HearsNoFrame (reading : Reading) (piece : List ℕ) (old new : SessionState G) : Type 0 where
    pub faulty : (continued reading piece).end ≡ malformed
    pub concluded : Concludes gives Malformed (continued reading piece).items old new

  -- what becomes of a piece
  abbrev pub HearsPiece : Reading → List ℕ → SessionState G → SessionState G → Reading → Result PieceEnd SessionFault → Type 0
  HearsPiece reading piece old new reading_new (Ok Items) = Hears reading piece old new reading_new
  HearsPiece reading piece old new reading_new (Ok NoFrame) = HearsNoFrame reading piece old new
  HearsPiece reading piece old new reading_new (Err fault) = StopsAnswering fault (continued reading piece).end (continued reading piece).items old new
