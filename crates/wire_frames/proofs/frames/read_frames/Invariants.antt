use Rattle.std.proofs.Common.{◌≡◌, ◌≤◌, ◌-◌, length, drop}
use Rattle.private_store.specs.rules.Frames.{stream_of}
use Rattle.wire_frames.specs.Heads.{after_items}
use Rattle.wire_frames.proofs.frames.read_frames.Given as goal

abbrev pub invariant-loop-items : goal.invariant-loop-items
invariant-loop-items l = record {
  stream : stream_of l.bytes ≡ after_items l.items.items (stream_of (drop l.used l.bytes));
  used : l.used ≤ length l.bytes;
}

abbrev pub decreases-loop-items : goal.decreases-loop-items
decreases-loop-items l = length l.bytes - l.used
