-- What a reader keeps of a stream, and what a piece of the stream gives.
use Rattle.std.specs.Prelude.{ℕ, Bool, true, false, not, List, [], ◌∷◌, ◌++◌, Result, Ok, Err}
use Rattle.obj_id.specs.declared.refusals.Refusal.{Refusal}
use Rattle.obj_id.specs.declared.refusals.Refusal.TheVariants.{Malformed}
use Rattle.private_store.specs.declared.frames.Item.{Item}
use Rattle.private_store.specs.rules.Frames.{End, clean, mid_frame, malformed, Stream, stopped, stream_of}

-- the bytes of a frame that isn't whole yet, or that the stream has a fault
pub data Reading : Type 0 where
  unfinished : List ℕ → Reading
  failed : Reading

-- a reader by its two fields
abbrev pub reading_of : Bool → List ℕ → Reading
reading_of true _ = failed
reading_of false bytes = unfinished bytes

abbrev pub is_empty : {A : Type 0} → List A → Bool
is_empty [] = true
is_empty (_ ∷ _) = false

-- whether bytes wait for the rest of their frame, or for the fault to be told
abbrev pub is_in_mid_frame : Reading → Bool
is_in_mid_frame (unfinished bytes) = not (is_empty bytes)
is_in_mid_frame failed = true

-- what the stream says from the unfinished frame on
abbrev pub continued : Reading → List ℕ → Stream
continued (unfinished bytes) piece = stream_of (bytes ++ piece)
continued failed piece = stopped [] malformed

abbrev pub reading_at : End → List ℕ → Reading
reading_at clean rest = unfinished rest
reading_at mid_frame rest = unfinished rest
reading_at malformed rest = failed

-- what a reader keeps after this much of the stream
abbrev pub reading_after : Stream → Reading
reading_after stream = reading_at stream.end stream.rest

-- the items; the fault only where no item stands before it
abbrev pub answer_at : End → List Item → Result (List Item) Refusal
answer_at malformed [] = Err Malformed
answer_at _ items = Ok items

abbrev pub answer_of : Stream → Result (List Item) Refusal
answer_of stream = answer_at stream.end stream.items

-- whether a fault is answered
abbrev pub is_fault : Result (List Item) Refusal → Bool
is_fault (Err Malformed) = true
is_fault _ = false

-- an answered piece: what is answered, and what the reader keeps
pub record Fed : Type 0 where
  pub answer : Result (List Item) Refusal
  pub reader : Reading

abbrev pub reading_fed : Result (List Item) Refusal → Reading → Fed
reading_fed answer reader = record { answer = answer; reader = reader }

-- a piece is fed to a reader
abbrev pub fed : Reading → List ℕ → Fed
fed reader piece = reading_fed (answer_of (continued reader piece)) (reading_after (continued reader piece))

-- a piece by the items that it gives and what is left, where a fault stands after them or doesn't
abbrev pub fed_by : List Item → Bool → List ℕ → Fed
fed_by items true rest = reading_fed (answer_at malformed items) failed
fed_by items false rest = reading_fed (Ok items) (unfinished rest)
