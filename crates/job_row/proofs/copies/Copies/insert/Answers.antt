use Rattle.std.proofs.Common.{refl, sym, ap, subst, ◌∙◌, arith}
use Rattle.obj_id.specs.Ids.{id_eq}
use Rattle.private_store.specs.rules.Tables.{with_entry}
use Rattle.job_row.specs.Counted.{footprint_of}
use Rattle.job_row.proofs.Rising.{with-rising}
use Rattle.job_row.proofs.Sums.{IsSmall, taken_any, small_by, can_exchange, taken-insert}
use Rattle.job_row.proofs.copies.Copies.insert.Goals as goal

pub exchanged-self-inside-requires : goal.exchanged-self-inside-requires
exchanged-self-inside-requires c =
    can_exchange (id_eq c.args.id) c.self.inside.by_id.entries c.self.inside.taken c.by_any-before.result c.by-after.result c.self.invariant
    (c.by_any-before.ensures ∙ ap taken_any (c.as_ref.ensures.value ∙ c.in_ok-replaced.ensures.old)) (subst IsSmall (sym c.by-after.ensures) (small_by c.args.copy)) (omega (arith, c.len-count.ensures.len, c.len-count.ensures.small))

pub invariant_of-self : goal.invariant_of-self
invariant_of-self c = c.self.invariant ∙ sym (ap footprint_of c.in_err-replaced.ensures.err)

pub invariant_of-self-2 : goal.invariant_of-self-2
invariant_of-self-2 c =
    taken-insert (id_eq c.args.id) c.self.inside.by_id.entries c.self.inside.taken c.by_any-before.result c.by-after.result c.self.invariant
    (c.by_any-before.ensures ∙ ap taken_any (c.as_ref.ensures.value ∙ c.in_ok-replaced.ensures.old)) c.exchanged-self-inside.result c.exchanged-self-inside.ensures _ id_eq c.args.id refl c.args.copy c.by-after.ensures c.in_ok-replaced.ensures.entries

pub returns-clause-ok : goal.returns-clause-ok
returns-clause-ok c =
    with-rising c.args.id c.self.inside.by_id.entries _ c.args.copy c.in_ok-replaced.ensures.updates.0 ∙ ap (λ t. with_entry t c.args.id c.args.copy) c.self.view_is
