use Rattle.std.proofs.Common.{sym, ap, ◌∙◌}
use Rattle.std.specs.Option.{option_copied}
use Rattle.private_store.specs.rules.Directory.{entries_at}
use Rattle.owner_directory.specs.Locations.{Locations, locations_of}
use Rattle.owner_directory.proofs.Jobs.{row_found}
use Rattle.owner_directory.proofs.Directory.located.Goals as goal

pub returns-in_err-located-in-Some-clause-succeeds : goal.returns-in_err-located-in-Some-clause-succeeds
returns-in_err-located-in-Some-clause-succeeds c =
    let found = sym c.get.ensures.value ∙ ap option_copied c.in-Some.is in
    let same = ap (λ t. locations_of t c.args.job) (sym c.self.view_is) ∙ row_found c.args.job c.self.inside.rows.entries c.in-Some.row.now found in
    λ none. let failed = c.in_err-located-in-Some.ensures.succeeds (ap (λ (t : Locations). entries_at t c.args.id) (sym same) ∙ none) in absurd cc
