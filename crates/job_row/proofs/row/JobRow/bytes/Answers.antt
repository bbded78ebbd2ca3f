use Rattle.std.proofs.Common.{sym, ap, ◌∙◌}
use Rattle.std.specs.Option.{option_and_then, option_copied}
use Rattle.private_store.specs.rules.Copies.{extent_of}
use Rattle.job_row.proofs.row.JobRow.bytes.Goals as goal

pub bytes_of-requires : goal.bytes_of-requires
bytes_of-requires c =
    c.self.invariant.0.there c.args.id.now c.in-Some-extent.extent
    (ap (option_and_then (λ kept. extent_of kept.copy)) (sym c.get.ensures ∙ ap option_copied c.in-Some.is)
    ∙ sym c.extent.ensures ∙ c.in-Some-extent.is)
