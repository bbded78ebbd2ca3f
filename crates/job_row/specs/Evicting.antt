-- A row in which copies were evicted, and one took a place.
use Rattle.std.specs.Prelude.{◌≡◌, ℕ, ◌+◌, ◌^◌, ◌<◌, ◌≤◌, nat_eq, Bool, true, false, not, ◌&&◌, if◌then◌else◌, List, length, ◌++◌, replicate, filter, flat_map, fold, Option, Some, None, is_none, option_to_list}
use Rattle.std.specs.List.{list_all}
use Rattle.std.specs.List.Sorted.{IsNonDecreasingBy}
use Rattle.std.specs.Option.{option_map, option_map_or}
use Rattle.std.specs.Map.{lookup}
use Rattle.obj_id.specs.declared.ids.ObjectId.{ObjectId}
use Rattle.obj_id.specs.declared.works.Extent.{Extent}
use Rattle.obj_id.specs.declared.messages.DirectoryMessage.TheVariants.{RemoveLocation}
use Rattle.obj_id.specs.Kinds.{is_primary}
use Rattle.private_store.specs.rules.Tables.{ById, at, with_entry, without_entry, is_among}
use Rattle.private_store.specs.rules.Extents.{rounded, first}
use Rattle.private_store.specs.rules.Copies.{is_sealed}
use Rattle.private_store.specs.rules.Private.{Post, to_directory}
use Rattle.private_store.specs.rules.Step.{is_used}
use Rattle.job_region.specs.Region.{put_in, without, extents_of}
use Rattle.lru_evictor.specs.Facts.{gone_of}
use Rattle.job_row.specs.Entries.{changed}
use Rattle.row_copy.specs.CopyViews.{CopyView, after_eviction}
use Rattle.job_row.specs.RowFacts.{row_facts_of}
use Rattle.job_row.specs.Row.{Row}
use Rattle.job_row.specs.declared.placement.Placement.{Placement}

-- ---- copies

-- whether the id has a copy that a transfer made
abbrev pub has_secondary : ById CopyView → ObjectId → Bool
has_secondary table id = option_map_or (λ kept. not (is_primary kept.copy.kind)) (at table id) false

-- a secondary is removed, and a primary gives up its place
abbrev pub evicted_one : ById CopyView → ObjectId → ById CopyView
evicted_one table id = if has_secondary table id then without_entry table id else changed after_eviction table id

abbrev pub all_evicted : List ObjectId → ById CopyView → ById CopyView
all_evicted ids table = fold evicted_one table ids

-- what the directory is sent of evictions: a primary can be pulled still
abbrev pub removals : ℕ → ById CopyView → List ObjectId → List Post
removals node table ids = flat_map (λ id. to_directory (RemoveLocation id node)) (filter (has_secondary table) ids)

-- ---- the order of use

-- without those of the ids that have no copy
abbrev pub without_missing : ById CopyView → List ObjectId → List ObjectId → List ObjectId
without_missing table ids order = filter (λ x. not (is_among ids x && is_none (at table x))) order

-- what was used now stands last
abbrev pub used_last : Option ObjectId → List ObjectId → List ObjectId
used_last used order = filter (λ x. not (is_used used x)) order ++ option_to_list used

-- ---- the row

-- the extents of the victims
abbrev pub extents_gone : Row → List ObjectId → List Extent
extents_gone row victims = gone_of (λ id. option_map row_facts_of (at row.copies id)) victims

-- what lies in the window without the victims
abbrev pub placed_without : Row → List ObjectId → List (ℕ × List ℕ)
placed_without row victims = without (extents_gone row victims) row.window.placed

-- the copies of a placement have these extents, and without them an object of n bytes goes there
pub record IsPlacement (row : Row) (n : ℕ) (p : Placement) : Type 0 where
  pub gone : without p.gone.items row.window.placed ≡ placed_without row p.victims
  pub rising : IsNonDecreasingBy (λ (e : Extent). e.offset) p.gone.items
  pub first : first (extents_of (placed_without row p.victims)) row.window.quota n ≡ Some p.offset

-- whether the object has a copy that is sealed
abbrev pub is_sealed_at : ById CopyView → ObjectId → Bool
is_sealed_at copies id = option_map_or (λ kept. is_sealed kept.copy.state) (at copies id) false

-- these ids are of sealed copies, and no more than there are
pub record MayGo (copies : ById CopyView) (victims : List ObjectId) : Type 0 where
  pub sealed : list_all (is_sealed_at copies) victims ≡ true
  pub few : length victims ≤ length copies

-- the copies then
abbrev pub copies_replaced : Row → ObjectId → CopyView → List ObjectId → ById CopyView
copies_replaced row id kept victims = all_evicted victims (with_entry row.copies id kept)

-- the victims were evicted, and the copy of the id lies at the offset, with n bytes of zeros
abbrev pub replaced : Row → Option ObjectId → ObjectId → CopyView → ℕ → ℕ → List ObjectId → Row
replaced row used id kept n offset victims =
    record row {
      window = record row.window { placed = put_in (offset, replicate (rounded n) 0) (placed_without row victims) };
      copies = copies_replaced row id kept victims;
      order = without_missing (copies_replaced row id kept victims) victims (used_last used row.order);
    }

-- the same, at the first place that there is then
pub record IsReplaced (old : Row) (used : Option ObjectId) (id : ObjectId) (kept : ℕ → CopyView) (n : ℕ) (victims : List ObjectId) (e : Extent) (new : Row) : Type 0 where
  pub least : first (extents_of (placed_without old victims)) old.window.quota n ≡ Some e.offset
  pub length : e.length ≡ rounded n
  pub row : new ≡ replaced old used id (kept e.offset) n e.offset victims
  pub small : e.offset + e.length < 2 ^ 32
  pub fresh : lookup (nat_eq e.offset) (placed_without old victims) ≡ None
