-- How a part of a frame is made whole.
use Rattle.std.specs.Prelude.{◌≡◌, ℕ, ◌+◌, ◌≤◌, ◌⊎◌, true, List, [], ◌++◌, length, take, drop}
use Rattle.private_store.specs.rules.Frames.{clean, is_command_length, number_at, stopped, after_item, stream_of}
use Rattle.wire_frames.specs.Filled.{HasPayload, filled_item}
use Rattle.wire_frames.specs.Heads.{IsPart}
use Rattle.wire_frames.specs.declared.bodies.FrameBody.{FrameBody}

-- so many bytes of a piece were added, up to this length or to the piece's end
pub record IsFilled (goal : ℕ) (before piece : List ℕ) (taken : ℕ) (after : List ℕ) : Type 0 where
  pub bytes : after ≡ before ++ take taken piece
  pub within : taken ≤ length piece
  pub no_more : (length after ≤ goal) ⊎ (after ≡ before)
  pub no_less : (taken ≡ length piece) ⊎ (goal ≤ length after)

-- so many bytes of a piece were added to a part of a frame: all, where it is a part still; none after the frame
pub record IsCompleted (before piece : List ℕ) (taken : ℕ) (after : List ℕ) : Type 0 where
  pub bytes : after ≡ before ++ take taken piece
  pub within : taken ≤ length piece
  pub all : IsPart after → taken ≡ length piece
  pub no_more : is_command_length (number_at after 0) ≡ true → 4 + number_at after 0 ≤ length after → length after ≡ 4 + number_at after 0

-- one frame and nothing else, which says this
pub record IsWholeFrame (said : FrameBody) (bytes : List ℕ) : Type 0 where
  pub stream : stream_of bytes ≡ after_item (filled_item said (drop 5 bytes)) (stopped [] clean)
  pub has_kind : 5 ≤ length bytes
  pub payload : HasPayload said (drop 5 bytes)
