use Rattle.std.proofs.Common.{◌≡◌, true, false, None, Some, refl, sym, ap, subst, ◌∙◌, arith}
use Rattle.std.specs.Map.{set_value}
use Rattle.std.specs.Option.{option_copied_mut}
use Rattle.indexmap.specs.IndexMap.{set_value_at, with_value_at}
use Rattle.indexmap.proofs.MapLemmas.{Missing-position}
use Rattle.obj_id.specs.Ids.{id_eq}
use Rattle.store_facts.proofs.Tests.{not_true, passed}
use Rattle.private_store.specs.rules.Tables.{at, without_entry}
use Rattle.row_copy.specs.Keeping.{is_over}
use Rattle.job_row.specs.Entries.{by_rising_id}
use Rattle.row_copy.specs.Marks.{marked_by}
use Rattle.job_row.proofs.Changes.{checked_absent, found_rising}
use Rattle.job_row.proofs.Indexed.{IsHere, here, here_still, some_there, own_value, swap-there, removed-rising, set-there}
use Rattle.job_row.proofs.Settling.{settled_absent, over_absent, info_absent, settled_stays, over_stays, info_stays, settled_goes, over_goes, info_goes}
use Rattle.job_row.proofs.Sums.{IsSmall, taken_any, small_by, can_exchange, taken-set, taken-remove}
use Rattle.job_row.proofs.copies.Copies.settle.Goals as goal

-- ---- there is no copy

none : (c : goal.Joined-mark) → at c.args.self.now c.args.id.now ≡ None
none c =
    checked_absent (λ o. o) c.args.id.now c.self.inside.by_id.entries c.args.self.now c.self.view_is
    (Missing-position (id_eq c.args.id.now) c.self.inside.by_id.entries (sym c.get_index_of.ensures.index ∙ c.in_default.is)).value

pub returns-in_default-clause-copies : goal.returns-in_default-clause-copies
returns-in_default-clause-copies c = sym (settled_absent (marked_by c.args.mark) c.args.id.now c.args.self.now (none c))

pub returns-in_default-clause-eviction_info : goal.returns-in_default-clause-eviction_info
returns-in_default-clause-eviction_info c = c.nowhere.ensures ∙ sym (info_absent (marked_by c.args.mark) c.args.id.now c.args.self.now (none c))

pub returns-in_default-clause-removed : goal.returns-in_default-clause-removed
returns-in_default-clause-removed c = sym (over_absent (marked_by c.args.mark) c.args.id.now c.args.self.now (none c))

-- ---- there is one

pub apply-requires : goal.apply-requires
apply-requires c =
    let h = here c.args.id.now c.self.inside.by_id.entries c.in-Some.index c.in-Some-get_index_mut.copy.now c.get_index_of.result (option_copied_mut c.get_index_mut.result) c.get_index_of.ensures.index c.in-Some.is c.get_index_mut.ensures.value (ap option_copied_mut c.in-Some-get_index_mut.is) in
    c.requires c.in-Some-get_index_mut.copy.now (found_rising c.args.id.now c.self.inside.by_id.entries c.args.self.now c.self.view_is c.in-Some-get_index_mut.copy.now h.found)

pub exchanged-self-inside-requires : goal.exchanged-self-inside-requires
exchanged-self-inside-requires c =
    let h = here c.args.id.now c.self.inside.by_id.entries c.in-Some.index c.in-Some-get_index_mut.copy.now c.get_index_of.result (option_copied_mut c.get_index_mut.result) c.get_index_of.ensures.index c.in-Some.is c.get_index_mut.ensures.value (ap option_copied_mut c.in-Some-get_index_mut.is) in
    can_exchange (id_eq c.args.id.now) c.self.inside.by_id.entries c.self.inside.taken c.by-before.result c.by-after.result c.self.invariant (c.by-before.ensures ∙ sym (ap taken_any h.found))
    (subst IsSmall (sym c.by-after.ensures) (small_by c.apply.new.self)) (omega (arith, c.len-count.ensures.len, c.len-count.ensures.small))

-- ---- and it stays

still_here : (c : goal.After-result-1) → IsHere c.args.id.now c.self.inside.by_id.entries c.in-Some.index c.in-Some-get_index_mut.copy.now
still_here c = here c.args.id.now c.self.inside.by_id.entries c.in-Some.index c.in-Some-get_index_mut.copy.now c.get_index_of.result (option_copied_mut c.get_index_mut.result) c.get_index_of.ensures.index c.in-Some.is c.get_index_mut.ensures.value (ap option_copied_mut c.in-Some-get_index_mut.is)

not_over : (c : goal.After-result-1) → is_over c.apply.new.self ≡ false
not_over c = sym (ap (λ a. a.over) c.after_change-response.ensures) ∙ not_true c.after_change-response.result.over c.if-not-response.true

set_still : (c : goal.After-result-1) → (set_value_at c.self.inside.by_id.entries c.in-Some.index c.apply.new.self) ≡ set_value (id_eq c.args.id.now) c.self.inside.by_id.entries c.apply.new.self
set_still c = set-there c.args.id.now c.self.inside.by_id.entries c.in-Some.index c.in-Some-get_index_mut.copy.now (still_here c) c.apply.new.self

pub invariant_of-self : goal.invariant_of-self
invariant_of-self c =
    let found = (still_here c).found in
    taken-set (id_eq c.args.id.now) c.self.inside.by_id.entries c.self.inside.taken c.by-before.result c.by-after.result c.self.invariant (c.by-before.ensures ∙ sym (ap taken_any found))
    c.exchanged-self-inside.result c.exchanged-self-inside.ensures (set_value_at c.self.inside.by_id.entries c.in-Some.index c.apply.new.self) c.in-Some-get_index_mut.copy.now c.apply.new.self found c.by-after.ensures (set_still c)

pub returns-then-not-response-clause-copies : goal.returns-then-not-response-clause-copies
returns-then-not-response-clause-copies c =
    settled_stays (marked_by c.args.mark) c.args.id.now c.self.inside.by_id.entries c.args.self.now c.self.view_is c.in-Some-get_index_mut.copy.now c.apply.new.self (still_here c).found c.apply.ensures (set_value_at c.self.inside.by_id.entries c.in-Some.index c.apply.new.self) (set_still c) (not_over c)

pub returns-then-not-response-clause-eviction_info : goal.returns-then-not-response-clause-eviction_info
returns-then-not-response-clause-eviction_info c =
    ap (λ a. a.eviction_info) c.after_change-response.ensures
    ∙ sym (info_stays (marked_by c.args.mark) c.args.id.now c.self.inside.by_id.entries c.args.self.now c.self.view_is c.in-Some-get_index_mut.copy.now c.apply.new.self (still_here c).found c.apply.ensures (set_value_at c.self.inside.by_id.entries c.in-Some.index c.apply.new.self) (set_still c) (not_over c))

pub returns-then-not-response-clause-removed : goal.returns-then-not-response-clause-removed
returns-then-not-response-clause-removed c =
    sym (over_stays (marked_by c.args.mark) c.args.id.now c.self.inside.by_id.entries c.args.self.now c.self.view_is c.in-Some-get_index_mut.copy.now c.apply.new.self (still_here c).found c.apply.ensures (set_value_at c.self.inside.by_id.entries c.in-Some.index c.apply.new.self) (set_still c) (not_over c))

-- ---- or goes

pub unreachable-requires-in_default-swap_remove_index : goal.unreachable-requires-in_default-swap_remove_index
unreachable-requires-in_default-swap_remove_index c =
    let h = here c.args.id.now c.self.inside.by_id.entries c.in-Some.index c.in-Some-get_index_mut.copy.now c.get_index_of.result (option_copied_mut c.get_index_mut.result) c.get_index_of.ensures.index c.in-Some.is c.get_index_mut.ensures.value (ap option_copied_mut c.in-Some-get_index_mut.is) in
    some_there c.args.id.now (set_value_at c.self.inside.by_id.entries c.in-Some.index c.apply.new.self) c.in-Some.index c.apply.new.self (here_still c.args.id.now c.self.inside.by_id.entries c.in-Some.index c.in-Some-get_index_mut.copy.now h c.apply.new.self)
    (sym c.swap_remove_index.ensures.entry ∙ c.in_default-swap_remove_index.is)

was_here : (c : goal.After-nowhere-2) → IsHere c.args.id.now c.self.inside.by_id.entries c.in-Some.index c.in-Some-get_index_mut.copy.now
was_here c = here c.args.id.now c.self.inside.by_id.entries c.in-Some.index c.in-Some-get_index_mut.copy.now c.get_index_of.result (option_copied_mut c.get_index_mut.result) c.get_index_of.ensures.index c.in-Some.is c.get_index_mut.ensures.value (ap option_copied_mut c.in-Some-get_index_mut.is)

changed_here : (c : goal.After-nowhere-2) → IsHere c.args.id.now (set_value_at c.self.inside.by_id.entries c.in-Some.index c.apply.new.self) c.in-Some.index c.apply.new.self
changed_here c = here_still c.args.id.now c.self.inside.by_id.entries c.in-Some.index c.in-Some-get_index_mut.copy.now (was_here c) c.apply.new.self

over : (c : goal.After-nowhere-2) → is_over c.apply.new.self ≡ true
over c = sym (ap (λ a. a.over) c.after_change-response.ensures) ∙ passed c.after_change-response.result.over c.if-not-response.false

set_first : (c : goal.After-nowhere-2) → (set_value_at c.self.inside.by_id.entries c.in-Some.index c.apply.new.self) ≡ set_value (id_eq c.args.id.now) c.self.inside.by_id.entries c.apply.new.self
set_first c = set-there c.args.id.now c.self.inside.by_id.entries c.in-Some.index c.in-Some-get_index_mut.copy.now (was_here c) c.apply.new.self

gone : (c : goal.After-nowhere-2) → by_rising_id c.swap_remove_index.new.self.entries ≡ without_entry (by_rising_id (set_value_at c.self.inside.by_id.entries c.in-Some.index c.apply.new.self)) c.args.id.now
gone c =
    removed-rising c.args.id.now (set_value_at c.self.inside.by_id.entries c.in-Some.index c.apply.new.self) c.in-Some.index c.apply.new.self (changed_here c) (with_value_at c.self.inside.by_id c.in-Some.index c.apply.new.self) c.swap_remove_index.new.self refl
    c.swap_remove_index.result c.swap_remove_index.ensures.entry c.swap_remove_index.ensures.updates

pub invariant_of-self-2 : goal.invariant_of-self-2
invariant_of-self-2 c =
    let found = (was_here c).found in
    let taken = taken-set (id_eq c.args.id.now) c.self.inside.by_id.entries c.self.inside.taken c.by-before.result c.by-after.result c.self.invariant (c.by-before.ensures ∙ sym (ap taken_any found))
    c.exchanged-self-inside.result c.exchanged-self-inside.ensures (set_value_at c.self.inside.by_id.entries c.in-Some.index c.apply.new.self) c.in-Some-get_index_mut.copy.now c.apply.new.self found c.by-after.ensures (set_first c) in
    taken-remove (id_eq c.args.id.now) (set_value_at c.self.inside.by_id.entries c.in-Some.index c.apply.new.self) c.exchanged-self-inside.result c.by-after.result c.nothing.result taken (c.by-after.ensures ∙ sym (ap taken_any (changed_here c).found))
    c.exchanged-self-inside-2.result c.exchanged-self-inside-2.ensures _ c.nothing.ensures (c.in-Some-swap_remove_index.ensures.entries ∙ swap-there c.args.id.now (set_value_at c.self.inside.by_id.entries c.in-Some.index c.apply.new.self) c.in-Some.index c.apply.new.self (changed_here c) _)

pub returns-clause-copies : goal.returns-clause-copies
returns-clause-copies c = settled_goes (marked_by c.args.mark) c.args.id.now c.self.inside.by_id.entries c.args.self.now c.self.view_is c.in-Some-get_index_mut.copy.now c.apply.new.self (was_here c).found c.apply.ensures (set_value_at c.self.inside.by_id.entries c.in-Some.index c.apply.new.self) (set_first c) (over c) _ (gone c)

pub returns-clause-eviction_info : goal.returns-clause-eviction_info
returns-clause-eviction_info c =
    c.nowhere-2.ensures ∙ sym (info_goes (marked_by c.args.mark) c.args.id.now c.self.inside.by_id.entries c.args.self.now c.self.view_is c.in-Some-get_index_mut.copy.now c.apply.new.self (was_here c).found c.apply.ensures (set_value_at c.self.inside.by_id.entries c.in-Some.index c.apply.new.self) (set_first c) (over c) _ (gone c))

pub returns-clause-removed : goal.returns-clause-removed
returns-clause-removed c =
    ap Some (own_value c.args.id.now (set_value_at c.self.inside.by_id.entries c.in-Some.index c.apply.new.self) c.in-Some.index c.apply.new.self (changed_here c) _ (sym c.in-Some-swap_remove_index.ensures.entry))
    ∙ sym (over_goes (marked_by c.args.mark) c.args.id.now c.self.inside.by_id.entries c.args.self.now c.self.view_is c.in-Some-get_index_mut.copy.now c.apply.new.self (was_here c).found c.apply.ensures (set_value_at c.self.inside.by_id.entries c.in-Some.index c.apply.new.self) (set_first c) (over c) _ (gone c))
