-- The index of copies: their uses, and where they lie.
use Rattle.std.specs.Prelude.{◌≡◌, ℕ, ◌&&◌, not, nat_lt, Bool, true, List, [], ◌∷◌, map, filter, reverse, Some}
use Rattle.std.specs.Option.{option_map_or}
use Rattle.std.specs.Map.{lookup, set_value}
use Rattle.obj_id.specs.declared.ids.ObjectId.{ObjectId}
use Rattle.obj_id.specs.Ids.{id_eq}
use Rattle.use_tree.specs.declared.uses.Use.{Use}
use Rattle.use_tree.specs.declared.classes.VictimClass.{VictimClass}
use Rattle.use_tree.specs.Classes.{has}
use Rattle.extent_tree.specs.declared.residents.Resident.{Resident}
use Rattle.extent_tree.specs.Residents.{put_resident, has_resident}
use Rattle.lru_evictor.specs.declared.facts.EvictionInfo.{EvictionInfo}
use Rattle.lru_evictor.specs.declared.index.OrderSlot.{OrderSlot}

-- the last use of a copy
abbrev pub use_of : ObjectId × OrderSlot → Use
use_of e = record { turn = e.1.turn; id = e.0; classes = e.1.eviction_info.classes }

-- an entry whose use has a turn
abbrev pub with_turn : ℕ → ObjectId × OrderSlot → ObjectId × OrderSlot
with_turn turn e = (e.0, record { turn = turn; eviction_info = e.1.eviction_info })

-- with a copy where it lies, if it is resident
abbrev pub spread_one : EvictionInfo → List Resident → List Resident
spread_one s xs = option_map_or (λ e. put_resident (record { extent = e; classes = s.classes }) xs) s.extent xs

-- resident copies by rising offset
abbrev pub spread : List (ObjectId × OrderSlot) → List Resident
spread [] = []
spread (e ∷ es) = spread_one e.1.eviction_info (spread es)

-- whether nothing lies where the copy begins
abbrev pub is_clear : EvictionInfo → List Resident → Bool
is_clear s xs = option_map_or (λ e. not (has_resident e.offset xs)) s.extent true

-- no two copies begin at one offset
abbrev pub AreSlotsApart : List (ObjectId × OrderSlot) → Type 0
AreSlotsApart [] = Unit {0}
AreSlotsApart (e ∷ es) = (is_clear e.1.eviction_info (spread es) ≡ true) × AreSlotsApart es

-- the residents of copies of which one that stood so stands so now
abbrev pub Stands : EvictionInfo → EvictionInfo → List Resident → List Resident → Type 0
Stands before after old new = (id : ObjectId) (turn next : ℕ) (es : List (ObjectId × OrderSlot)) → lookup (id_eq id) es ≡ Some (record { turn = turn; eviction_info = before })
    → old ≡ spread es → AreSlotsApart es
    → (new ≡ spread (set_value (id_eq id) es (record { turn = next; eviction_info = after }))) × AreSlotsApart (set_value (id_eq id) es (record { turn = next; eviction_info = after }))

-- what an index shows: uses by rising turn, how many turns are left, and residents by rising offset
abbrev pub Listed : Type 0
Listed = List Use × ℕ × List Resident

-- an index has the uses of all copies, and where each lies
pub record IsIndexOf (es : List (ObjectId × OrderSlot)) (index : Listed) : Type 0 where
  pub uses : index.0 ≡ map use_of es
  pub residents : index.2 ≡ spread es
  pub apart : AreSlotsApart es

-- the ids of the uses of turns below b whose copies a walk chooses, the latest last
abbrev pub chosen_ids : VictimClass → ℕ → List Use → List ObjectId
chosen_ids k b us = reverse (map (λ u. u.id) (filter (λ u. nat_lt u.turn b && has k u.classes) us))

-- ids with their infos, as an order shows them
abbrev pub shown_order : List (ObjectId × OrderSlot) → List (ObjectId × EvictionInfo)
shown_order es = map (λ e. (e.0, e.1.eviction_info)) es

-- an index is that of an order
pub record HasIndex (index : Listed) (order : List (ObjectId × EvictionInfo)) : Type 0 where
  pub entries : List (ObjectId × OrderSlot)
  pub is : shown_order entries ≡ order
  pub index_of : IsIndexOf entries index
