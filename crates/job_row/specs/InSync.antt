-- An order of use that follows what becomes of the copies.
use Rattle.std.specs.Prelude.{◌≡◌, ◌+◌, ◌^◌, ◌<◌, Bool, true, false, if◌then◌else◌, List, Option, Some, None, is_some, is_none}
use Rattle.std.specs.Option.{option_map}
use Rattle.obj_id.specs.declared.ids.ObjectId.{ObjectId}
use Rattle.obj_id.specs.declared.works.Extent.{Extent}
use Rattle.obj_id.specs.Ids.{same_id}
use Rattle.private_store.specs.rules.Tables.{ById, at, is_among}
use Rattle.lru_evictor.specs.declared.facts.CopyFacts.{CopyFacts}
use Rattle.lru_evictor.specs.declared.facts.EvictionInfo.{EvictionInfo}
use Rattle.lru_evictor.specs.Facts.{info_at}
use Rattle.lru_evictor.specs.Orders.{AllPass, same_info, may_lie}
use Rattle.row_copy.specs.CopyViews.{CopyView}
use Rattle.job_row.specs.RowFacts.{row_facts_of}
use Rattle.job_row.specs.Row.{place_of}

-- ---- copies that change

-- what a plan reads of the copy of an id
abbrev pub facts_in : ById CopyView → ObjectId → Option CopyFacts
facts_in copies id = option_map row_facts_of (at copies id)

-- all but one entry are the same
abbrev pub SameExcept : ObjectId → ById CopyView → ById CopyView → Type 0
SameExcept id before after = (x : ObjectId) → same_id x id ≡ false → at after x ≡ at before x

-- all but these are
abbrev pub SameExceptThese : List ObjectId → ById CopyView → ById CopyView → Type 0
SameExceptThese ids before after = (x : ObjectId) → is_among ids x ≡ false → at after x ≡ at before x

-- no copy is gone
abbrev pub NoneIsGone : ById CopyView → ById CopyView → Type 0
NoneIsGone before after = (x : ObjectId) → at after x ≡ None → at before x ≡ None

-- each copy lies where it lay, or nowhere any more
abbrev pub KeepPlaces : ById CopyView → ById CopyView → Type 0
KeepPlaces before after = (x : ObjectId) → may_lie (place_of before x) (place_of after x) ≡ true

-- the copy of the id lies there, where no other begins, as in the widest window
pub record LiesAlone (copies : ById CopyView) (id : ObjectId) (e : Extent) : Type 0 where
  pub lies : place_of copies id ≡ Some e
  pub apart : (x : ObjectId) (f : Extent) → place_of copies x ≡ Some f → f.offset ≡ e.offset → x ≡ id
  pub small : e.offset + e.length < 2 ^ 29

-- ---- the order

-- each copy is in an order
abbrev pub AreListed : ById CopyView → List ObjectId → Type 0
AreListed copies order = (id : ObjectId) → is_some (facts_in copies id) ≡ true → is_among order id ≡ true

-- whether the copy of an id stands so
abbrev pub is_in_sync : ById CopyView → ObjectId → EvictionInfo → Bool
is_in_sync copies id s = same_info s (info_at (facts_in copies) id)

-- the order knows where each copy lies, and the classes of victims that it is in
abbrev pub InSync : ById CopyView → List (ObjectId × EvictionInfo) → Type 0
InSync copies order = AllPass (is_in_sync copies) order

-- whether the copy of an id stands so, or lies nowhere as far as the order knows if it is one of these
abbrev pub is_in_sync_except : List ObjectId → ById CopyView → ObjectId → EvictionInfo → Bool
is_in_sync_except ids copies id s = if is_among ids id then is_none s.extent else is_in_sync copies id s

-- that of each copy but these, which lie nowhere as far as the order knows
abbrev pub InSyncExcept : List ObjectId → ById CopyView → List (ObjectId × EvictionInfo) → Type 0
InSyncExcept ids copies order = AllPass (is_in_sync_except ids copies) order
