-- The order of use of one job's copies.
use Rattle.std.specs.Prelude.{◌≡◌, ℕ, Bool, not, ◌&&◌, ◌||◌, true, false, if◌then◌else◌, List, [], ◌∷◌, ◌++◌, filter, reverse, is_some, IsTrue, Option, Some, None, nat_eq, nat_lt}
use Rattle.std.specs.Map.{keys_of}
use Rattle.std.specs.List.{list_all, list_any}
use Rattle.std.specs.Option.{option_map_or}
use Rattle.obj_id.specs.declared.ids.ObjectId.{ObjectId}
use Rattle.obj_id.specs.Ids.{same_id}
use Rattle.private_store.specs.rules.Tables.{ById, at, is_among}
use Rattle.private_store.specs.rules.Shape.{Copy}
use Rattle.obj_id.specs.declared.works.Extent.{Extent}
use Rattle.use_tree.specs.declared.classes.VictimClasses.{VictimClasses}
use Rattle.extent_tree.specs.declared.residents.Resident.{Resident}
use Rattle.lru_evictor.specs.declared.facts.EvictionInfo.{EvictionInfo}
use Rattle.lru_evictor.specs.Facts.{nowhere}

-- the others
abbrev pub without_id : ObjectId → List ObjectId → List ObjectId
without_id id order = filter (λ x. not (same_id id x)) order

-- the id is now the most recently used, whether or not it was there
abbrev pub last_used : ObjectId → List ObjectId → List ObjectId
last_used id order = without_id id order ++ id ∷ []

-- the same, where it was there
abbrev pub touched : ObjectId → List ObjectId → List ObjectId
touched id order = if is_among order id then last_used id order else order

-- each id has its copy
abbrev pub AreThere : ById Copy → List ObjectId → Type 0
AreThere copies order = IsTrue (list_all (λ id. is_some (at copies id)) order)

-- the ids, least recently used first
abbrev pub order_ids : {X : Type 0} → List (ObjectId × X) → List ObjectId
order_ids es = reverse (keys_of es)

-- each id but this one has an info that passes the test
abbrev pub OthersPass : ObjectId → (ObjectId → EvictionInfo → Bool) → List (ObjectId × EvictionInfo) → Type 0
OthersPass id test [] = Unit {0}
OthersPass id test (e ∷ es) = (same_id id e.0 ≡ false → test e.0 e.1 ≡ true) × OthersPass id test es

-- each id has
abbrev pub AllPass : (ObjectId → EvictionInfo → Bool) → List (ObjectId × EvictionInfo) → Type 0
AllPass test [] = Unit {0}
AllPass test (e ∷ es) = (test e.0 e.1 ≡ true) × AllPass test es

abbrev pub same_bool : Bool → Bool → Bool
same_bool a b = if a then b else not b

abbrev pub same_classes : VictimClasses → VictimClasses → Bool
same_classes c d = same_bool c.evictable d.evictable && (same_bool c.draining d.draining && same_bool c.spillable d.spillable)

abbrev pub same_extent : Option Extent → Option Extent → Bool
same_extent None None = true
same_extent None (Some f) = false
same_extent (Some e) None = false
same_extent (Some e) (Some f) = nat_eq e.offset f.offset && nat_eq e.length f.length

-- whether two infos are the same
abbrev pub same_info : EvictionInfo → EvictionInfo → Bool
same_info s t = same_extent s.extent t.extent && same_classes s.classes t.classes

-- that of the copy of an id, as an order has it
abbrev pub info_in : ObjectId → List (ObjectId × EvictionInfo) → EvictionInfo
info_in id [] = nowhere
info_in id (e ∷ es) = if same_id id e.0 then e.1 else info_in id es

-- whether a copy that lay there may be said to lie so: where it lay, or nowhere
abbrev pub may_lie : Option Extent → Option Extent → Bool
may_lie before after = same_extent after None || same_extent before after

-- how a copy stands that stood so, and of which this is said
abbrev pub stood : EvictionInfo → EvictionInfo → EvictionInfo
stood before after = if may_lie before.extent after.extent then after else before

-- whether a copy of an order begins at an offset
abbrev pub begins_in : ℕ → List (ObjectId × EvictionInfo) → Bool
begins_in o es = list_any (λ e. option_map_or (λ (x : Extent). nat_eq o x.offset) e.1.extent false) es

-- whether a copy that stood so may take a place: it lay nowhere, the widest window has the place, and no copy begins there
abbrev pub can_insert : EvictionInfo → Resident → List (ObjectId × EvictionInfo) → Bool
can_insert before resident order =
    not (is_some before.extent) && (nat_lt resident.extent.offset 536870912 && (nat_lt resident.extent.length 4294967296 && not (begins_in resident.extent.offset order)))

-- how it stands then
abbrev pub info_with_resident : EvictionInfo → Resident → List (ObjectId × EvictionInfo) → EvictionInfo
info_with_resident before resident order =
    if can_insert before resident order then record { extent = Some resident.extent; classes = resident.classes } else before
