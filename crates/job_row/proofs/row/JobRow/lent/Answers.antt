use Rattle.std.proofs.Common.{sym, ap, ◌∙◌}
use Rattle.std.specs.Option.{option_and_then, option_copied}
use Rattle.private_store.specs.rules.Copies.{extent_of}
use Rattle.job_row.proofs.Shared.{lent_alike}
use Rattle.job_row.proofs.row.JobRow.lent.Goals as goal

pub bytes_of-requires : goal.bytes_of-requires
bytes_of-requires c =
    c.self.invariant.0.there c.args.id.now c.in-Some-extent.extent
    (ap (option_and_then (λ kept. extent_of kept.copy)) (sym c.get.ensures ∙ ap option_copied c.in-Some.is)
    ∙ sym c.extent.ensures ∙ c.in-Some-extent.is)

pub shared-requires : goal.shared-requires
shared-requires c =
    c.self.invariant.0.there c.args.id.now c.in-Some-extent.extent
    (ap (option_and_then (λ kept. extent_of kept.copy)) (sym c.get.ensures ∙ ap option_copied c.in-Some.is)
    ∙ sym c.extent.ensures ∙ c.in-Some-extent.is)

pub returns-clause-same : goal.returns-clause-same
returns-clause-same c =
    lent_alike _ _ c.shared.result _ c.bytes_of.result.now _ c.first_shared.ensures c.shared.ensures.value c.bytes_of.ensures.value c.first_bytes.ensures
