-- A row without one of its copies, and without one that nothing keeps any more.
use Rattle.std.specs.Prelude.{ℕ, Bool, false, if◌then◌else◌, List, [], ◌∷◌, ◌++◌, Option, None, option_to_list}
use Rattle.std.specs.Option.{option_map, option_map_or}
use Rattle.obj_id.specs.declared.ids.ObjectId.{ObjectId}
use Rattle.obj_id.specs.declared.works.DeviceKey.{DeviceKey}
use Rattle.private_store.specs.rules.Tables.{ById, at, without_entry}
use Rattle.private_store.specs.rules.Private.{key_of}
use Rattle.job_region.specs.Region.{without}
use Rattle.lru_evictor.specs.Facts.{info_of}
use Rattle.lru_evictor.specs.Orders.{without_id}
use Rattle.job_row.specs.declared.standing.AfterChange.{AfterChange}
use Rattle.job_row.specs.Entries.{changed}
use Rattle.row_copy.specs.CopyViews.{CopyView, after_leave}
use Rattle.row_copy.specs.Keeping.{is_over}
use Rattle.job_row.specs.RowFacts.{row_facts_of}
use Rattle.job_row.specs.Row.{Row, place_of}

-- the copy is removed, and its place is free
abbrev pub dropped : Row → ObjectId → Row
dropped row id =
    record row {
      window = record row.window { placed = without (option_to_list (place_of row.copies id)) row.window.placed };
      copies = without_entry row.copies id;
      order = without_id id row.order;
    }

-- whether the copy of an id is to be removed as soon as it is looked at; not if there is none
abbrev pub is_over_at : ById CopyView → ObjectId → Bool
is_over_at copies id = option_map_or is_over (at copies id) false

-- the copy of an id, if it is to be removed so
abbrev pub over_copy : ById CopyView → ObjectId → Option CopyView
over_copy copies id = if is_over_at copies id then at copies id else None

-- the copies without it
abbrev pub settled_copies : ById CopyView → ObjectId → ById CopyView
settled_copies copies id = if is_over_at copies id then without_entry copies id else copies

-- what is told of a copy after a change of it
abbrev pub after_change : CopyView → AfterChange
after_change kept = record { eviction_info = info_of (row_facts_of kept); over = is_over kept }

-- the row after the copy was looked at
abbrev pub settled_row : Row → ObjectId → Row
settled_row row id = option_map_or (λ kept. if is_over kept then dropped row id else row) (at row.copies id) row

-- the device keys that are then to be erased
abbrev pub keys_settled : Row → ObjectId → List DeviceKey
keys_settled row id =
    option_map_or (λ kept. if is_over kept then option_to_list (option_map (key_of row.job) kept.copy.backed) else []) (at row.copies id) []

-- ---- the session's holds

-- the row without the session's holds on one copy
abbrev pub unheld_row : ℕ → Row → ObjectId → Row
unheld_row session row id = record row { copies = changed (after_leave session) row.copies id }

-- and without the copy, if nothing else keeps it
abbrev pub left_row : ℕ → Row → ObjectId → Row
left_row session row id = settled_row (unheld_row session row id) id

-- the keys that are to be erased when this is done at each of these
abbrev pub keys_left : ℕ → Row → List ObjectId → List DeviceKey
keys_left session row [] = []
keys_left session row (id ∷ ids) = keys_settled (unheld_row session row id) id ++ keys_left session (left_row session row id) ids
