use Rattle.std.proofs.Common.{◌≡◌, take, sym, ap, subst, ◌∙◌}
use Rattle.std.specs.Option.{option_copied, option_and_then}
use Rattle.private_store.specs.rules.Contents.{digest_of}
use Rattle.private_store.specs.rules.Copies.{extent_of}
use Rattle.private_store.specs.rules.Tables.{at}
use Rattle.store_facts.proofs.Tests.{some_value}
use Rattle.job_region.specs.Region.{region_bytes_at as placed_bytes}
use Rattle.row_copy.specs.CopyViews.{CopyView}
use Rattle.row_commands.proofs.bytes_commands.sealing.Goals as goal

pub digest-requires : goal.digest-requires
digest-requires c e lies =
    c.copies.ensures.placed.there c.args.id.now e
    (ap (option_and_then (λ (k : CopyView). extent_of k.copy)) (ap (λ t. at t c.args.id.now) (sym c.copies.ensures.copies) ∙ sym c.get.ensures ∙ ap option_copied c.in-Some.is) ∙ lies)

pub returns-clause-length : goal.returns-clause-length
returns-clause-length c k here =
    let same = some_value k c.in-Some.copy.now (sym here ∙ ap (λ t. at t c.args.id.now) (sym c.copies.ensures.copies) ∙ sym c.get.ensures ∙ ap option_copied c.in-Some.is) in
    c.length.ensures ∙ ap (λ (z : CopyView). z.copy.length) (sym same)

pub returns-clause-digest : goal.returns-clause-digest
returns-clause-digest c k e here lies =
    let same = some_value k c.in-Some.copy.now (sym here ∙ ap (λ t. at t c.args.id.now) (sym c.copies.ensures.copies) ∙ sym c.get.ensures ∙ ap option_copied c.in-Some.is) in
    subst (λ (z : CopyView). c.digest.result ≡ digest_of (take z.copy.length (placed_bytes e c.args.row.now.window.placed))) (sym same)
    (c.digest.ensures e (ap (λ (z : CopyView). extent_of z.copy) (sym same) ∙ lies))
