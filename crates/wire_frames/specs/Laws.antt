-- Streams in pieces.
use Rattle.std.specs.Prelude.{ℕ, ◌<◌, length, List, [], ◌∷◌, ◌++◌, Result, Ok, Err}
use Rattle.obj_id.specs.declared.refusals.Refusal.{Refusal}
use Rattle.private_store.specs.declared.frames.Item.{Item}
use Rattle.private_store.specs.rules.Frames.{Stream}
use Rattle.wire_frames.specs.Reading.{Reading, unfinished, failed, fed, reading_after}

-- pieces fed one after the other: all items that were answered, and what the reader keeps
pub record Feeding : Type 0 where
  pub items : List Item
  pub reader : Reading

abbrev pub items_in : Result (List Item) Refusal → List Item
items_in (Ok items) = items
items_in (Err _) = []

abbrev pub feeding : Reading → List (List ℕ) → Feeding
feeding reader [] = record { items = []; reader = reader }
feeding reader (piece ∷ pieces) =
    let others = feeding (fed reader piece).reader pieces in
    record { items = items_in (fed reader piece).answer ++ others.items; reader = others.reader }

-- what a stream gives, and what a reader keeps after it
abbrev pub frame_given_by : Stream → Feeding
frame_given_by stream = record { items = stream.items; reader = reading_after stream }

-- a frame has 65,604 bytes at most, with its length
abbrev pub IsLessThanAFrame : Reading → Type 0
IsLessThanAFrame (unfinished bytes) = length bytes < 65604
IsLessThanAFrame failed = Unit {0}
