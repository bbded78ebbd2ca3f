use Rattle.std.proofs.Common.{sym, ap, subst, ◌∙◌, arith}
use Rattle.obj_id.specs.Ids.{id_eq}
use Rattle.private_store.specs.rules.Tables.{at, without_entry}
use Rattle.job_row.proofs.Rising.{at-rising, without-rising}
use Rattle.job_row.proofs.Sums.{IsSmall, taken_any, small_nothing, can_exchange, taken-remove}
use Rattle.job_row.proofs.copies.Copies.take.Goals as goal

pub exchanged-self-inside-requires : goal.exchanged-self-inside-requires
exchanged-self-inside-requires c =
    can_exchange (id_eq c.args.id.now) c.self.inside.by_id.entries c.self.inside.taken c.by_any-before.result c.nothing.result c.self.invariant
    (c.by_any-before.ensures ∙ ap taken_any (c.as_ref.ensures.value ∙ c.swap_remove-copy.ensures.value)) (subst IsSmall (sym c.nothing.ensures) small_nothing) (omega (arith, c.len-count.ensures.len, c.len-count.ensures.small))

pub invariant_of-self : goal.invariant_of-self
invariant_of-self c =
    taken-remove (id_eq c.args.id.now) c.self.inside.by_id.entries c.self.inside.taken c.by_any-before.result c.nothing.result c.self.invariant
    (c.by_any-before.ensures ∙ ap taken_any (c.as_ref.ensures.value ∙ c.swap_remove-copy.ensures.value)) c.exchanged-self-inside.result c.exchanged-self-inside.ensures _ c.nothing.ensures c.swap_remove-copy.ensures.entries

pub returns-clause-copies : goal.returns-clause-copies
returns-clause-copies c = without-rising c.args.id.now c.self.inside.by_id.entries _ c.swap_remove-copy.ensures.updates.0 ∙ ap (λ t. without_entry t c.args.id.now) c.self.view_is

pub returns-clause-taken : goal.returns-clause-taken
returns-clause-taken c = c.swap_remove-copy.ensures.value ∙ sym (at-rising c.self.inside.by_id.entries c.args.id.now) ∙ ap (λ t. at t c.args.id.now) c.self.view_is
