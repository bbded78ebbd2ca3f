use Rattle.std.proofs.Common.{Bool, false, Option, sym, ap, subst, ◌∙◌, arith}
use Rattle.std.specs.Option.{option_copied_mut, option_map, option_map_or}
use Rattle.lru_evictor.specs.declared.facts.EvictionInfo.{EvictionInfo}
use Rattle.lru_evictor.specs.Facts.{info_of, nowhere}
use Rattle.obj_id.specs.Ids.{id_eq}
use Rattle.job_row.specs.Counted.{footprint_of}
use Rattle.row_copy.specs.Keeping.{is_over}
use Rattle.row_copy.specs.CopyViews.{CopyView}
use Rattle.job_row.specs.RowFacts.{row_facts_of}
use Rattle.job_row.proofs.Changes.{not_written, written, found_rising, checked_unwritten, checked_written}
use Rattle.job_row.proofs.Sums.{IsSmall, taken_any, small_by, can_exchange, taken-set}
use Rattle.job_row.proofs.copies.Copies.update.Goals as goal

-- what is told of the copy that is there, or isn't
abbrev standing_told : Option CopyView → EvictionInfo
standing_told o = option_map_or info_of (option_map row_facts_of o) nowhere

abbrev over_told : Option CopyView → Bool
over_told o = option_map_or is_over o false

pub returns-in_default-clause-copies : goal.returns-in_default-clause-copies
returns-in_default-clause-copies g c f same = not_written f c.args.id.now c.self.inside.by_id.entries c.args.self.now c.self.view_is _ (sym c.get_mut.ensures.value ∙ ap option_copied_mut c.in_default.is) (ap (λ m. m.entries) c.get_mut.follows.holds-at-none)

pub returns-in_default-clause-eviction_info : goal.returns-in_default-clause-eviction_info
returns-in_default-clause-eviction_info g c =
    c.nowhere.ensures
    ∙ sym (checked_unwritten standing_told c.args.id.now c.self.inside.by_id.entries _ (sym c.get_mut.ensures.value ∙ ap option_copied_mut c.in_default.is) (ap (λ m. m.entries) c.get_mut.follows.holds-at-none))

pub returns-in_default-clause-over : goal.returns-in_default-clause-over
returns-in_default-clause-over g c =
    sym (checked_unwritten over_told c.args.id.now c.self.inside.by_id.entries _ (sym c.get_mut.ensures.value ∙ ap option_copied_mut c.in_default.is) (ap (λ m. m.entries) c.get_mut.follows.holds-at-none))

pub change-requires : goal.change-requires
change-requires g c = c.requires _ (found_rising c.args.id.now c.self.inside.by_id.entries c.args.self.now c.self.view_is c.in-Some.copy.now (sym c.get_mut.ensures.value ∙ ap option_copied_mut c.in-Some.is))

pub exchanged-self-inside-requires : goal.exchanged-self-inside-requires
exchanged-self-inside-requires g c =
    can_exchange (id_eq c.args.id.now) c.self.inside.by_id.entries c.self.inside.taken c.by-before.result c.by-after.result c.self.invariant
    (c.by-before.ensures ∙ ap taken_any (ap option_copied_mut (sym c.in-Some.is) ∙ c.get_mut.ensures.value)) (subst IsSmall (sym c.by-after.ensures) (small_by c.change.new.arg2)) (omega (arith, c.len-count.ensures.len, c.len-count.ensures.small))

pub invariant_of-self : goal.invariant_of-self
invariant_of-self g c = c.self.invariant ∙ sym (ap (λ m. footprint_of m.entries) c.get_mut.follows.holds-at-none)

pub invariant_of-self-2 : goal.invariant_of-self-2
invariant_of-self-2 g c =
    taken-set (id_eq c.args.id.now) c.self.inside.by_id.entries c.self.inside.taken c.by-before.result c.by-after.result c.self.invariant
    (c.by-before.ensures ∙ ap taken_any (ap option_copied_mut (sym c.in-Some.is) ∙ c.get_mut.ensures.value)) c.exchanged-self-inside.result c.exchanged-self-inside.ensures _ c.in-Some.copy.now c.change.new.arg2
    (sym c.get_mut.ensures.value ∙ ap option_copied_mut c.in-Some.is) c.by-after.ensures (c.get_mut.follows.holds c.change.new.arg2).0

pub returns-clause-copies : goal.returns-clause-copies
returns-clause-copies g c f same =
    written f c.args.id.now c.self.inside.by_id.entries c.args.self.now c.self.view_is _ c.in-Some.copy.now c.change.new.arg2 (sym c.get_mut.ensures.value ∙ ap option_copied_mut c.in-Some.is)
    (same _ _ c.change.ensures) (c.get_mut.follows.holds c.change.new.arg2).0

pub returns-clause-eviction_info : goal.returns-clause-eviction_info
returns-clause-eviction_info g c =
    ap (λ a. a.eviction_info) c.after_change-response.ensures
    ∙ sym (checked_written standing_told c.args.id.now c.self.inside.by_id.entries _ c.in-Some.copy.now c.change.new.arg2 (sym c.get_mut.ensures.value ∙ ap option_copied_mut c.in-Some.is) (c.get_mut.follows.holds c.change.new.arg2).0)

pub returns-clause-over : goal.returns-clause-over
returns-clause-over g c =
    ap (λ a. a.over) c.after_change-response.ensures
    ∙ sym (checked_written over_told c.args.id.now c.self.inside.by_id.entries _ c.in-Some.copy.now c.change.new.arg2 (sym c.get_mut.ensures.value ∙ ap option_copied_mut c.in-Some.is) (c.get_mut.follows.holds c.change.new.arg2).0)
