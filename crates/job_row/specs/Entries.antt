-- Entries by object: a table of them, and a change of one of its entries, or of each.
use Rattle.std.specs.Prelude.{List, [], ◌∷◌, map, fold}
use Rattle.std.specs.Option.{option_map_or}
use Rattle.obj_id.specs.declared.ids.ObjectId.{ObjectId}
use Rattle.private_store.specs.rules.Tables.{ById, at, with_entry}

-- the entries by rising id, however they stand; of two of one id the first counts
abbrev pub by_rising_id : {X : Type 0} → List (ObjectId × X) → ById X
by_rising_id [] = []
by_rising_id (e ∷ es) = with_entry (by_rising_id es) e.0 e.1

-- the entry of the id changed, if there is one
abbrev pub changed : {X : Type 0} → (X → X) → ById X → ObjectId → ById X
changed f table id = option_map_or (λ x. with_entry table id (f x)) (at table id) table

-- each entry changed
abbrev pub all_changed : {X : Type 0} → (X → X) → ById X → ById X
all_changed f table = map (λ e. (e.0, f e.1)) table

-- the entries of these ids changed, one after the other
abbrev pub each_changed : {X : Type 0} → (X → X) → ById X → List ObjectId → ById X
each_changed f table ids = fold (changed f) table ids
