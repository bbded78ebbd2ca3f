-- Lists of resident copies' extents by rising offset, and the gaps between those that stay.
use Rattle.std.specs.Prelude.{◌≡◌, ℕ, ◌+◌, ◌-◌, ◌<◌, Bool, not, ◌||◌, nat_le, nat_eq, max, List, [], ◌∷◌, map, filter, Option, Some, None}
use Rattle.std.specs.List.{list_any}
use Rattle.std.specs.Option.{option_map}
use Rattle.augmented_tree.specs.Lists.{IsRisingBy, put_item, take_item, has_item, find_item, change_item}
use Rattle.obj_id.specs.declared.works.Extent.{Extent}
use Rattle.use_tree.specs.declared.classes.VictimClass.{VictimClass}
use Rattle.use_tree.specs.declared.classes.VictimClass.TheVariants.{Evictable, Draining, Spillable}
use Rattle.use_tree.specs.declared.classes.VictimClasses.{VictimClasses}
use Rattle.extent_tree.specs.declared.spans.Span.{Span}
use Rattle.extent_tree.specs.declared.spans.Spans.{Spans}
use Rattle.extent_tree.specs.declared.residents.Resident.{Resident}

abbrev pub resident_offset : Resident → ℕ
resident_offset x = x.extent.offset

-- an extent that the widest window may have
abbrev pub ResidentFits : Resident → Type 0
ResidentFits x = (x.extent.offset < 536870912) × (x.extent.length < 4294967296)

abbrev pub resident_in_classes : VictimClasses → Resident → Resident
resident_in_classes m x = record x { classes = m }

-- each offset is below all later ones
abbrev pub AreResidentsRising : List Resident → Type 0
AreResidentsRising = IsRisingBy resident_offset

-- with an extent in its place, in place of the one at its offset
abbrev pub put_resident : Resident → List Resident → List Resident
put_resident = put_item resident_offset

-- without the one at an offset
abbrev pub take_resident : ℕ → List Resident → List Resident
take_resident = take_item resident_offset

-- whether there is one at an offset
abbrev pub has_resident : ℕ → List Resident → Bool
has_resident = has_item resident_offset

-- the classes of victims of the one at an offset
abbrev pub classes_at : ℕ → List Resident → Option VictimClasses
classes_at o xs = option_map (λ x. x.classes) (find_item resident_offset o xs)

-- with these classes for the one at an offset
abbrev pub resident_with_classes : ℕ → VictimClasses → List Resident → List Resident
resident_with_classes o m = change_item resident_offset (resident_in_classes m) o

-- whether a copy in these classes goes if all go of this class and those before it
abbrev pub goes : VictimClass → VictimClasses → Bool
goes Evictable m = m.evictable
goes Draining m = m.evictable || m.draining
goes Spillable m = m.evictable || (m.draining || m.spillable)

-- the extents that stay then
abbrev pub extents_staying : VictimClass → List Resident → List Extent
extents_staying k xs = map (λ x. x.extent) (filter (λ x. not (goes k x.classes)) xs)

-- those at none of these offsets
abbrev pub remaining : List Extent → List Resident → List Resident
remaining gone xs = filter (λ x. not (list_any (λ g. nat_eq g.offset x.extent.offset) gone)) xs

-- one span after another
abbrev pub joined : Option Span → Option Span → Option Span
joined None s = s
joined (Some a) None = Some a
joined (Some a) (Some b) = Some (record { start = a.start; end = b.end; widest = max (max a.widest b.widest) (b.start - a.end) })

-- where extents begin and end, and the widest gap from one to the next
abbrev pub span_of : List Extent → Option Span
span_of [] = None
span_of (e ∷ es) = joined (Some (record { start = e.offset; end = e.offset + e.length; widest = 0 })) (span_of es)

-- whether extents of this span leave n bytes free somewhere among the first q
abbrev pub has_gap : ℕ → ℕ → Option Span → Bool
has_gap q n None = nat_le n q
has_gap q n (Some s) = nat_le n s.start || (nat_le n s.widest || nat_le (s.end + n) q)

-- the span for a walk
abbrev pub span_at : VictimClass → Spans → Option Span
span_at Evictable s = s.evictable
span_at Draining s = s.draining
span_at Spillable s = s.spillable

-- these are the spans of the extents that stay
abbrev pub AreSpansOf : Spans → List Resident → Type 0
AreSpansOf s xs = (k : VictimClass) → span_at k s ≡ span_of (extents_staying k xs)
