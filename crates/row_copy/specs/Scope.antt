-- A copy that goes out of scope: what the directory is sent of it.
use Rattle.std.specs.Prelude.{ℕ, if◌then◌else◌, Option, Some, None}
use Rattle.obj_id.specs.declared.ids.ObjectId.{ObjectId}
use Rattle.obj_id.specs.declared.messages.DirectoryMessage.{DirectoryMessage}
use Rattle.obj_id.specs.declared.messages.DirectoryMessage.TheVariants.{RemoveLocation, Free}
use Rattle.obj_id.specs.Kinds.{is_primary}
use Rattle.private_store.specs.rules.Copies.{was_sealed}
use Rattle.row_copy.specs.CopyViews.{CopyView}

-- what the directory is sent of a copy once it is doomed: nothing, unless it was sealed
abbrev pub removal_notice : ℕ → ObjectId → CopyView → Option DirectoryMessage
removal_notice node id kept =
    if was_sealed kept.copy.state then Some (if is_primary kept.copy.kind then Free id else RemoveLocation id node) else None
