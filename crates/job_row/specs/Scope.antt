-- A copy that goes out of scope: what the directory is sent of it.
use Rattle.std.specs.Prelude.{ℕ, Bool, false, if◌then◌else◌, List, [], Option, None}
use Rattle.std.specs.Option.{option_map_or, option_and_then}
use Rattle.obj_id.specs.declared.ids.ObjectId.{ObjectId}
use Rattle.obj_id.specs.declared.messages.DirectoryMessage.{DirectoryMessage}
use Rattle.private_store.specs.rules.Marks.{marked}
use Rattle.private_store.specs.rules.Marks as mark
use Rattle.private_store.specs.rules.Copies.{in_scope}
use Rattle.private_store.specs.rules.Private.{Post, to_directory}
use Rattle.private_store.specs.rules.Tables.{ById, at}
use Rattle.job_row.specs.Entries.{changed}
use Rattle.row_copy.specs.CopyViews.{CopyView}
use Rattle.job_row.specs.Row.{Row}
use Rattle.row_copy.specs.Scope.{removal_notice}

-- what the directory is sent of the copy of the id, where it is doomed or isn't
abbrev pub removal_notice_at : ℕ → ById CopyView → ObjectId → Bool → Option DirectoryMessage
removal_notice_at node copies id dooms = if dooms then option_and_then (removal_notice node id) (at copies id) else None

-- whether the copy of the id is in scope if its owner task keeps it no longer
abbrev pub stays_unpinned : ById CopyView → ObjectId → Bool
stays_unpinned copies id = option_map_or (λ kept. in_scope (marked mark.unpinned kept.copy)) (at copies id) false

abbrev pub notice_posts : Option DirectoryMessage → List Post
notice_posts o = option_map_or to_directory o []

-- the row with one copy changed
abbrev pub with_copy : (CopyView → CopyView) → Row → ObjectId → Row
with_copy f row id = record row { copies = changed f row.copies id }
