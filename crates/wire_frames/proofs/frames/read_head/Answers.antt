use Rattle.std.proofs.Common.{◌≡◌, ℕ, ◌+◌, ◌-◌, List, Option, Some, drop, take, sym, ap, ◌∙◌, arith}
use Rattle.std.specs.Prelude.{slice_index}
use Rattle.private_store.specs.declared.frames.Item.{Item}
use Rattle.private_store.specs.rules.Frames.{item_of}
use Rattle.wire_frames.specs.Filled.{filled_item}
use Rattle.wire_frames.specs.Heads.{body_at_head}
use Rattle.wire_frames.proofs.Streams.{stream_of-head}
use Rattle.wire_frames.proofs.frames.read_head.Goals as goal

body_taken : (kind size : ℕ) (bytes : List ℕ) (x : Option Item) → x ≡ item_of kind (take (4 + size - 5) bytes) → item_of kind (take (size - 1) bytes) ≡ x
body_taken kind size bytes x h = let n : 4 + size - 5 ≡ size - 1 = omega arith in sym (h ∙ ap (λ k. item_of kind (take k bytes)) n)

pub returns-in-Some-clause-stream : goal.returns-in-Some-clause-stream
returns-in-Some-clause-stream c =
    let bytes = c.args.bytes.now in
    let size = c.number_at-size.result in
    let x = Some (filled_item c.in-Some.said (body_at_head bytes (4 + size))) in
    stream_of-head bytes size x (record {
      number = sym c.number_at-size.ensures;
      in_range = sym c.is_command_length.ensures ∙ c.if-not-is_command_length.false;
      whole = c.if-bytes-end.false;
      reads = body_taken (slice_index bytes 4) size (drop 5 bytes) x c.in-Some.ensures.reads;
    })
