-- A stream that ends clean leaves nothing, and one that ends inside a frame leaves something.
use Rattle.std.proofs.Common.{◌≡◌, ◌≢◌, ℕ, zero, suc, ◌+◌, ◌-◌, ◌<◌, Bool, true, false, nat_lt, List, [], ◌∷◌, length, take, drop, Option, Some, None, refl, arith, length-drop}
use Rattle.std.specs.Prelude.{⊤, slice_index}
use Rattle.private_store.specs.declared.frames.Item.{Item}
use Rattle.private_store.specs.rules.Frames.{End, clean, mid_frame, malformed, Stream, stopped, after_item, frames_of, is_command_length, item_of, number_at, stream_of}

-- what may be left where a stream ends so
abbrev pub IsRest : End → List ℕ → Type 0
IsRest clean rest = rest ≡ []
IsRest mid_frame rest = rest ≢ []
IsRest malformed rest = ⊤

-- one step of the grammar, by the answers of its tests
abbrev tested : List ℕ → Bool → Bool → Bool → Option Item → Stream → Stream
tested bytes short ranged partial read others = elim short [
  | true ↦ stopped bytes mid_frame
  | false ↦ elim ranged [
    | false ↦ stopped bytes malformed
    | true ↦ elim partial [
      | true ↦ stopped bytes mid_frame
      | false ↦ elim read [
        | None ↦ stopped bytes malformed
        | Some x ↦ after_item x others
      ]
    ]
  ]
]

rest_of_tested : (b : ℕ) (bs : List ℕ) (short ranged partial : Bool) (read : Option Item) (others : Stream) → IsRest others.end others.rest
    → IsRest (tested (b ∷ bs) short ranged partial read others).end (tested (b ∷ bs) short ranged partial read others).rest
rest_of_tested b bs true ranged partial read others h = λ e. cc
rest_of_tested b bs false false partial read others h = tt
rest_of_tested b bs false true true read others h = λ e. cc
rest_of_tested b bs false true false None others h = tt
rest_of_tested b bs false true false (Some x) others h = h

rest_of_frames : (n : ℕ) (bytes : List ℕ) → length bytes < n → IsRest (frames_of n bytes).end (frames_of n bytes).rest
rest_of_frames zero bytes h = absurd (omega arith)
rest_of_frames (suc n) [] h = refl
rest_of_frames (suc n) (b ∷ bs) h =
    let size = number_at (b ∷ bs) 0 in
    rest_of_tested b bs (nat_lt (length (b ∷ bs)) 4) (is_command_length size) (nat_lt (length (b ∷ bs)) (4 + size))
    (item_of (slice_index (b ∷ bs) 4) (take (size - 1) (drop 5 (b ∷ bs)))) (frames_of n (drop (4 + size) (b ∷ bs)))
    (rest_of_frames n (drop (4 + size) (b ∷ bs)) (omega (arith, length-drop (4 + size) (b ∷ bs))))

pub rest_of_stream : (bytes : List ℕ) → IsRest (stream_of bytes).end (stream_of bytes).rest
rest_of_stream bytes = rest_of_frames (suc (length bytes)) bytes (omega arith)
