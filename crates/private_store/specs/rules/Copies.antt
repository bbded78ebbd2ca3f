-- The words that the rules are made of: what a copy is, by the marks on it and by the works, holds and
-- grants that stand on it.
use Rattle.std.specs.Prelude.{ℕ, nat_le, Bool, true, false, not, if◌then◌else◌, ◌&&◌, ◌||◌, [], ◌∷◌, map, filter, filter_map, sum, Option, Some, None, is_some, is_none}
use Rattle.std.specs.List.{list_any, list_all}
use Rattle.std.specs.Option.{option_map, option_and_then}
use Rattle.obj_id.specs.declared.works.Extent.{Extent}
use Rattle.obj_id.specs.declared.works.Quota.{Quota}
use Rattle.obj_id.specs.declared.ids.ObjectId.{ObjectId}
use Rattle.obj_id.specs.declared.commands.Kind.{Kind}
use Rattle.obj_id.specs.declared.commands.CopyState.{CopyState}
use Rattle.obj_id.specs.declared.commands.CopyState.TheVariants.{Created, Sealed, Restoring, Fetching, Away}
use Rattle.obj_id.specs.Ids.{same_id}
use Rattle.obj_id.specs.Kinds.{is_primary}
use Rattle.private_store.specs.rules.Tables.{at}
use Rattle.private_store.specs.rules.Extents.{rounded, end_of}
use Rattle.private_store.specs.rules.Shape.{Copy, Shape}

abbrev pub is_created : CopyState → Bool
is_created Created = true
is_created _ = false

abbrev pub is_sealed : CopyState → Bool
is_sealed Sealed = true
is_sealed _ = false

abbrev pub is_away : CopyState → Bool
is_away Away = true
is_away _ = false

-- whether the copy was ever sealed
abbrev pub was_sealed : CopyState → Bool
was_sealed Created = false
was_sealed Sealed = true
was_sealed Restoring = true
was_sealed Fetching = false
was_sealed Away = true

abbrev pub extent_of : Copy → Option Extent
extent_of copy = option_map (λ o. record { offset = o; length = rounded copy.length }) copy.offset

abbrev pub is_held : Copy → Bool
is_held copy = elim copy.holds [ [] ↦ false | _ ∷ _ ↦ true ]

abbrev pub is_working : Shape → ObjectId → Bool
is_working store id = list_any (λ work. same_id id work.id) store.works

abbrev pub is_writing : Shape → ObjectId → Bool
is_writing store id = list_any (λ work. same_id id work.id && work.writes) store.works

abbrev pub is_granted : Shape → ObjectId → Bool
is_granted store id = list_any (λ grant. same_id id grant.id) store.given

-- neither held nor granted nor working
abbrev pub is_idle : Shape → ObjectId → Copy → Bool
is_idle store id copy = not (is_held copy) && not (is_granted store id) && not (is_working store id)

-- what may be evicted, by its marks and whether it is idle
abbrev pub may_evict : CopyState → Kind → Option ℕ → Bool → Bool
may_evict state kind backed idle = is_sealed state && idle && (not (is_primary kind) || is_some backed)

-- what may be spilled
abbrev pub may_spill : CopyState → Kind → Option ℕ → Bool → Bool → Bool
may_spill state kind backed doomed idle = is_sealed state && is_primary kind && is_none backed && idle && not doomed

-- what isn't evicted, but waited for: it has a work in flight, and nothing else keeps it
abbrev pub may_drain : (working resident held granted : Bool) → Bool
may_drain working resident held granted = working && resident && not held && not granted

abbrev pub is_evictable : Shape → ObjectId → Copy → Bool
is_evictable store id copy = may_evict copy.state copy.kind copy.backed (is_idle store id copy)

-- whether a plan for room waits for it: only a work in flight keeps its extent
abbrev pub is_draining : Shape → ObjectId → Copy → Bool
is_draining store id copy = may_drain (is_working store id) (is_some copy.offset) (is_held copy) (is_granted store id)

abbrev pub is_spillable : Shape → ObjectId → Copy → Bool
is_spillable store id copy = may_spill copy.state copy.kind copy.backed copy.doomed (is_idle store id copy)

abbrev pub in_scope : Copy → Bool
in_scope copy = copy.pinned || elim copy.borrowers [ [] ↦ false | _ ∷ _ ↦ true ]

-- the copy, unless it is doomed
abbrev pub visible : Shape → ObjectId → Option Copy
visible store id = option_and_then (λ copy. if copy.doomed then None else Some copy) (at store.copies id)

abbrev pub window_used : Shape → ℕ
window_used store = sum (map (λ e. e.length) (filter_map (λ e. extent_of e.1) store.copies))

-- the extent lengths of the copies that are backed or are being written
abbrev pub device_used : Shape → ℕ
device_used store = sum (map (λ e. rounded e.1.length) (filter (λ e. is_some e.1.backed || is_writing store e.0) store.copies))

-- whether no extent reaches past the window
abbrev pub is_range_within : Shape → ℕ → Bool
is_range_within store window = list_all (λ e. nat_le (end_of e) window) (filter_map (λ e. extent_of e.1) store.copies)

-- whether what the store uses is within the quota
abbrev pub fits_quota : Shape → Quota → Bool
fits_quota store quota = is_range_within store quota.window && nat_le (device_used store) quota.device
