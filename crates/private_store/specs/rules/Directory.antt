-- The directory of owners, for one job: which nodes have sealed copies of its objects.
use Rattle.std.specs.Prelude.{ℕ, ◌==◌, nat_lt, not, if◌then◌else◌, List, [], ◌∷◌, filter, filter_map, Some, None, unwrap_or}
use Rattle.obj_id.specs.declared.ids.ObjectId.{ObjectId}
use Rattle.obj_id.specs.declared.messages.Location.{Location}
use Rattle.obj_id.specs.declared.messages.Endpoint.TheVariants.{Node}
use Rattle.obj_id.specs.declared.messages.Message.TheVariants.{Located}
use Rattle.obj_id.specs.declared.messages.DirectoryMessage.{DirectoryMessage}
use Rattle.obj_id.specs.declared.messages.DirectoryMessage.TheVariants.{AddLocation, RemoveLocation, Free, EndJob, Locate}
use Rattle.private_store.specs.rules.Tables.{ById, at, with_entry, without_entry}
use Rattle.private_store.specs.rules.Private.{Post}

-- entries by rising node, with this one in place of its node's own
abbrev pub entry_placed : Location → List Location → List Location
entry_placed new [] = new ∷ []
entry_placed new (entry ∷ entries) =
    if new.node == entry.node then new ∷ entries else
    (if nat_lt new.node entry.node then new ∷ entry ∷ entries else entry ∷ entry_placed new entries)

-- an object that isn't known has no locations
abbrev pub entries_at : ById (List Location) → ObjectId → List Location
entries_at table id = unwrap_or (at table id) []

-- an object with no entries isn't in the table
abbrev pub with_entries : ById (List Location) → ObjectId → List Location → ById (List Location)
with_entries table id [] = without_entry table id
with_entries table id (entry ∷ entries) = with_entry table id (entry ∷ entries)

abbrev pub without_node : ℕ → List Location → List Location
without_node node entries = filter (λ entry. not (entry.node == node)) entries

abbrev pub without_entries_at : ℕ → ById (List Location) → ById (List Location)
without_entries_at node table =
    filter_map (λ e. elim (without_node node e.1) [ [] ↦ None | entry ∷ entries ↦ Some (e.0, entry ∷ entries) ]) table

-- the job's table after one of its messages
abbrev pub locations_after : ById (List Location) → DirectoryMessage → ById (List Location)
locations_after table (AddLocation id entry) = with_entries table id (entry_placed entry (entries_at table id))
locations_after table (RemoveLocation id node) = with_entries table id (without_node node (entries_at table id))
locations_after table (Free id) = without_entry table id
locations_after table (EndJob node) = without_entries_at node table
locations_after table (Locate id node number) = table

-- what the directory answers: entries by rising node, the asker's own among them
abbrev pub directory_posts : ById (List Location) → DirectoryMessage → List Post
directory_posts table (Locate id node number) = (Node node, Located id number (entries_at table id)) ∷ []
directory_posts table _ = []
