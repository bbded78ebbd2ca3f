-- What stands at the head of bytes, and how frame after frame is taken from it.
use Rattle.std.specs.Prelude.{◌≡◌, ℕ, ◌+◌, ◌-◌, ◌<◌, ◌≤◌, ◌⊎◌, Bool, true, false, List, [], ◌∷◌, ◌++◌, length, take, drop}
use Rattle.private_store.specs.declared.frames.Item.{Item}
use Rattle.private_store.specs.rules.Frames.{End, clean, mid_frame, malformed, Stream, stopped, after_item, is_command_length, number_at, stream_of}
use Rattle.wire_frames.specs.Filled.{HasPayload, filled_item}
use Rattle.wire_frames.specs.declared.bodies.FrameBody.{FrameBody}
use Rattle.wire_frames.specs.declared.frames.Head.{Head}
use Rattle.wire_frames.specs.declared.frames.Head.TheVariants as head

-- how bytes end in which no whole frame stands
abbrev pub cut_end : List ℕ → End
cut_end [] = clean
cut_end (_ ∷ _) = mid_frame

-- the body of a frame of so many bytes at the head of these
abbrev pub body_at_head : List ℕ → ℕ → List ℕ
body_at_head bytes size = take (size - 5) (drop 5 bytes)

-- the stream whose head this is
abbrev pub stream_from : Head → List ℕ → Stream
stream_from head.Cut bytes = stopped bytes (cut_end bytes)
stream_from head.Fault bytes = stopped bytes malformed
stream_from (head.Frame said size) bytes = after_item (filled_item said (body_at_head bytes size)) (stream_of (drop size bytes))

-- a part of a frame: some of its length, or a length that can be and fewer bytes
abbrev pub IsPart : List ℕ → Type 0
IsPart bytes = (length bytes < 4) ⊎ ((is_command_length (number_at bytes 0) ≡ true) × (length bytes < 4 + number_at bytes 0))

-- a frame at the head of bytes has the bytes that its length says
pub record IsFrame (bytes : List ℕ) (said : FrameBody) (size : ℕ) : Type 0 where
  pub in_range : is_command_length (number_at bytes 0) ≡ true
  pub number : size ≡ 4 + number_at bytes 0
  pub has_kind : 5 ≤ size
  pub whole : size ≤ length bytes
  pub payload : HasPayload said (body_at_head bytes size)

abbrev pub StandsAtHead : List ℕ → Head → Type 0
StandsAtHead bytes head.Cut = IsPart bytes
StandsAtHead bytes head.Fault = Unit {0}
StandsAtHead bytes (head.Frame said size) = IsFrame bytes said size

-- a stream after these items
abbrev pub after_items : List Item → Stream → Stream
after_items items stream = record stream { items = items ++ stream.items }

-- a stream by its items and what is left, where a fault stands or doesn't
abbrev pub stream_read : List Item → Bool → List ℕ → Stream
stream_read items true rest = record { items = items; rest = rest; end = malformed }
stream_read items false rest = record { items = items; rest = rest; end = cut_end rest }
