-- The commands of grants: why a Grant and a Peek are refused, and what they give.
use Rattle.std.specs.Prelude.{ℕ, ◌+◌, ◌==◌, nat_lt, not, List, [], length, take, drop, if◌then◌else◌, Option, Some, None}
use Rattle.std.specs.Option.{option_map_or}
use Rattle.std.specs.List.{list_any}
use Rattle.obj_id.specs.declared.ids.ObjectId.{ObjectId}
use Rattle.obj_id.specs.declared.commands.Reply.{Reply}
use Rattle.obj_id.specs.declared.commands.Reply.TheVariants as reply
use Rattle.obj_id.specs.declared.refusals.Refusal.{Refusal}
use Rattle.obj_id.specs.declared.refusals.Refusal.TheVariants.{BadId, Absent, BadSize, OutOfBounds, NotGranted, Gone}
use Rattle.private_store.specs.rules.Limits.{most_bytes}
use Rattle.private_store.specs.rules.Tables.{at}
use Rattle.private_store.specs.rules.Copies.{extent_of}
use Rattle.private_store.specs.rules.Grants.{StandingGrant, with_grant}
use Rattle.private_store.specs.laws.Invariants.{is_remembered}
use Rattle.grants.specs.Table.{shows, is_no_grantee}
use Rattle.job_region.specs.Region.{region_bytes_at as placed_bytes}
use Rattle.row_copy.specs.CopyViews.{CopyView}
use Rattle.job_row.specs.Row.{Row}
use Rattle.row_copy.specs.Checks.{grant_check_of}

-- why the job's own object can't be granted
abbrev pub row_grant_check : Row → ObjectId → ℕ → Option Refusal → Option Refusal
row_grant_check row id target table =
    if is_no_grantee id row.job target then Some BadId else
    (if is_remembered row.ended_tasks id.task then Some Gone else
    elim (at row.copies id) [ None ↦ Some Absent | Some kept ↦ grant_check_of kept table ])

-- the standing grants after a Grant that is refused, or isn't
abbrev pub grants_made : Option Refusal → List StandingGrant → ObjectId → ℕ → ℕ → List StandingGrant
grants_made check grants id grantor grantee = option_map_or (λ refusal. grants) check (with_grant grants id grantor grantee)

-- why the job can't peek at so many bytes of an object of this length
abbrev pub peek_check : List StandingGrant → ℕ → ObjectId → ℕ → ℕ → ℕ → Option Refusal
peek_check grants job id whole offset n =
    if id.job.0 == job then Some NotGranted else
    (if not (list_any (shows id job) grants) then Some NotGranted else
    (if nat_lt most_bytes n then Some BadSize else
    (if nat_lt whole (offset + n) then Some OutOfBounds else None)))

-- what it is answered, where these are the object's bytes
abbrev pub peek_reply : List StandingGrant → ℕ → ObjectId → List ℕ → ℕ → ℕ → Reply (List ℕ)
peek_reply grants job id bytes offset n =
    option_map_or reply.Refused (peek_check grants job id (length bytes) offset n) (reply.Bytes (take n (drop offset bytes)))

-- ---- what is lent to those who were granted it

-- of a copy, the bytes that lie in the row's window
abbrev pub kept_bytes : Row → CopyView → List ℕ
kept_bytes row kept = option_map_or (λ e. take kept.copy.length (placed_bytes e row.window.placed)) (extent_of kept.copy) []

-- of an object, by the row of its own job
abbrev pub row_bytes : Row → ObjectId → List ℕ
row_bytes row id = option_map_or (kept_bytes row) (at row.copies id) []
