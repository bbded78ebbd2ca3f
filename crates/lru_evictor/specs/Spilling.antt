-- Copies that are marked, one after another, as if they passed.
use Rattle.std.specs.Prelude.{Bool, true, false, List, Option, Some, None}
use Rattle.obj_id.specs.declared.ids.ObjectId.{ObjectId}
use Rattle.obj_id.specs.declared.works.Extent.{Extent}
use Rattle.use_tree.specs.declared.classes.VictimClass.TheVariants.{Draining}
use Rattle.use_tree.specs.declared.classes.VictimClasses.{VictimClasses}
use Rattle.extent_tree.specs.declared.residents.Resident.{Resident}
use Rattle.extent_tree.specs.Residents.{resident_with_classes, extents_staying, remaining, span_of, has_gap}
use Rattle.lru_evictor.specs.declared.spilling.Gap.{Gap}
use Rattle.lru_evictor.specs.Facts.{Looked, gone_of}

-- whether there is such a gap if these copies go, and all that may be evicted at once or once their works have ended
abbrev pub leaves_gap : Gap → Looked → List Resident → List ObjectId → Bool
leaves_gap gap facts residents out = has_gap gap.quota gap.need (span_of (extents_staying Draining (remaining (gone_of facts out) residents)))

-- a mark of a copy that passes
abbrev pub passes_now : VictimClasses
passes_now = record { evictable = false; draining = true; spillable = false }

-- the copy that lies there, if it lies anywhere, is marked
abbrev pub marked_draining : Option Extent → List Resident → List Resident
marked_draining None residents = residents
marked_draining (Some e) residents = resident_with_classes e.offset passes_now residents

-- and its mark is taken back
abbrev pub unmarked : Option Extent → Option VictimClasses → List Resident → List Resident
unmarked None before residents = residents
unmarked (Some e) None residents = residents
unmarked (Some e) (Some classes) residents = resident_with_classes e.offset classes residents
