-- What a plan for room reads of the copies that a row keeps.
use Rattle.std.specs.Prelude.{is_some}
use Rattle.private_store.specs.rules.Extents.{rounded}
use Rattle.private_store.specs.rules.Copies.{extent_of, is_held, may_evict, may_spill, may_drain}
use Rattle.lru_evictor.specs.declared.facts.CopyFacts.{CopyFacts}
use Rattle.row_copy.specs.CopyViews.{CopyView}
use Rattle.row_copy.specs.Keeping.{is_idle_view}

abbrev pub row_facts_of : CopyView → CopyFacts
row_facts_of kept =
    record {
      extent = extent_of kept.copy;
      bytes = rounded kept.copy.length;
      evictable = may_evict kept.copy.state kept.copy.kind kept.copy.backed (is_idle_view kept);
      draining = may_drain (is_some kept.working) (is_some kept.copy.offset) (is_held kept.copy) kept.granted;
      spillable = may_spill kept.copy.state kept.copy.kind kept.copy.backed kept.copy.doomed (is_idle_view kept);
    }
