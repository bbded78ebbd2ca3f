-- What a Pull comes to at a row.
use Rattle.std.specs.Prelude.{ℕ, not, ◌&&◌, if◌then◌else◌, List, length, map, is_none, Option, Some, None}
use Rattle.obj_id.specs.declared.ids.ObjectId.{ObjectId}
use Rattle.obj_id.specs.declared.commands.CopyState.{CopyState}
use Rattle.obj_id.specs.declared.commands.CopyState.TheVariants.{Sealed, Restoring, Away}
use Rattle.obj_id.specs.declared.messages.Digest.{Digest}
use Rattle.private_store.specs.declared.faults.Fault.{Fault}
use Rattle.private_store.specs.rules.Private.{Post, to_peer, chunks_asked}
use Rattle.row_copy.specs.CopyViews.{CopyView, was_sealed_with}
use Rattle.room_commands.specs.declared.pulls.PullAnswer.{PullAnswer}
use Rattle.room_commands.specs.declared.pulls.PullAnswer.TheVariants.{NotHere, Chunks, Nothing, Restore}

-- of the copy that is asked for, by its state and what its last restore came to
abbrev pub answer_by : CopyState → Option Fault → PullAnswer
answer_by Sealed fault = Chunks
answer_by Restoring fault = Nothing
answer_by Away fault = if is_none fault then Restore else NotHere
answer_by _ fault = NotHere

-- of a Pull by length and digest, by the copy that is there
abbrev pub row_pull_answer : ℕ → Digest → Option CopyView → PullAnswer
row_pull_answer n digest None = NotHere
row_pull_answer n digest (Some kept) =
    if not kept.copy.doomed && was_sealed_with n digest kept then answer_by kept.copy.state kept.copy.fault else NotHere

-- the chunks of an object with these bytes that were asked for, to the node
abbrev pub chunks_to : List ℕ → ℕ → ObjectId → ℕ → List ℕ → List Post
chunks_to bytes from id number indexes = map (to_peer from) (chunks_asked bytes id number (length bytes) indexes)
