-- Tables by object: lists of entries by rising id.
use Rattle.std.specs.Prelude.{Bool, not, List, map, filter, Option}
use Rattle.std.specs.List.{list_any}
use Rattle.std.specs.FinMap.{find, put}
use Rattle.obj_id.specs.declared.ids.ObjectId.{ObjectId}
use Rattle.obj_id.specs.Ids.{id_cmp, same_id}

-- entries by rising id
abbrev pub ById : Type 0 → Type 0
ById X = List (ObjectId × X)

-- the entry of the id, if there is one
abbrev pub at : {X : Type 0} → ById X → ObjectId → Option X
at table id = find id_cmp id table

-- the table with this entry in place of the id's own
abbrev pub with_entry : {X : Type 0} → ById X → ObjectId → X → ById X
with_entry table id x = put id_cmp id x table

-- the table with no entry of the id
abbrev pub without_entry : {X : Type 0} → ById X → ObjectId → ById X
without_entry table id = filter (λ e. not (same_id id e.0)) table

abbrev pub is_among : List ObjectId → ObjectId → Bool
is_among ids id = list_any (same_id id) ids

abbrev pub ids_of : {X : Type 0} → ById X → List ObjectId
ids_of table = map (λ e. e.0) table
