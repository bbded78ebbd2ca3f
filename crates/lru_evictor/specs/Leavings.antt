-- The extents that go with the first copies of a walk, picked out of those that go with all.
use Rattle.std.specs.Prelude.{ℕ, ◌+◌, nat_lt, Bool, List, [], ◌∷◌, map, filter, Option, Some, None, is_some}
use Rattle.obj_id.specs.declared.ids.ObjectId.{ObjectId}
use Rattle.obj_id.specs.declared.works.Extent.{Extent}
use Rattle.private_store.specs.rules.Extents.{first}
use Rattle.job_region.specs.Region.{Region, extents_of, without}
use Rattle.lru_evictor.specs.declared.search.Leaving.{Leaving}
use Rattle.lru_evictor.specs.Facts.{Looked, extent_at}

-- an extent with its copy's place, before the others
abbrev pub leaving_at : Option Extent → ℕ → List Leaving → List Leaving
leaving_at None place rest = rest
leaving_at (Some e) place rest = record { extent = e; place = place } ∷ rest

-- the extents that go with copies, with the places of these from one on
abbrev pub leaving_of : Looked → ℕ → List ObjectId → List Leaving
leaving_of facts place [] = []
leaving_of facts place (id ∷ ids) = leaving_at (extent_at facts id) place (leaving_of facts (place + 1) ids)

-- the extents of the first k copies
abbrev pub firsts : ℕ → List Leaving → List Extent
firsts k leaving = map (λ (l : Leaving). l.extent) (filter (λ (l : Leaving). nat_lt l.place k) leaving)

-- whether n bytes would fit if the first k copies were not there
abbrev pub fits_first : Region → ℕ → List Leaving → ℕ → Bool
fits_first window n leaving k = is_some (first (extents_of (without (firsts k leaving) window.placed)) window.quota n)
