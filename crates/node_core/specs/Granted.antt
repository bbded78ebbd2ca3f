-- What others granted to a job at a node, as List shows it.
use Rattle.std.specs.Prelude.{ℕ, List, length, map}
use Rattle.obj_id.specs.declared.commands.GrantedItem.{GrantedItem}
use Rattle.obj_id.specs.declared.ids.JobNo.{JobNo}
use Rattle.private_store.specs.rules.Grants.{StandingGrant}
use Rattle.grants.specs.Table.{seen_list}
use Rattle.job_row.specs.Row.{Row}
use Rattle.node_core.specs.Hosted.{Hosted, bytes_here}

-- the object of a grant, by the row of its own job
abbrev pub granted_item : List (JobNo × Row) → StandingGrant → GrantedItem
granted_item rows grant = record { id = grant.id; length = length (bytes_here rows grant.id); depth = grant.depth }

-- by the oldest grant of each object
abbrev pub granted_here : Hosted → ℕ → List GrantedItem
granted_here node job = map (granted_item node.rows) (seen_list job node.grants)
