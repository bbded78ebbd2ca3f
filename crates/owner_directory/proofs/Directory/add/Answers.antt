use Rattle.std.proofs.Common.{[], is_some, sym, ap, subst, ◌∙◌}
use Rattle.std.specs.Map.{lookup, set_value}
use Rattle.std.specs.Option.{option_copied_mut}
use Rattle.std.proofs.lemmas.Map.Steps.{set_value_same}
use Rattle.obj_id.specs.declared.messages.DirectoryMessage.TheVariants.{AddLocation}
use Rattle.private_store.specs.rules.Jobs.{same_job}
use Rattle.private_store.specs.rules.Directory.{locations_after, entries_at, entry_placed}
use Rattle.owner_directory.specs.Locations.{Locations, Applies, locations_of, is_longer}
use Rattle.owner_directory.proofs.Objects.{first_is_longer}
use Rattle.owner_directory.proofs.Jobs.{row_found, no_row, applied, on_err}
use Rattle.owner_directory.proofs.Directory.add.Goals as goal

pub returns-in_err-set-clause-err : goal.returns-in_err-set-clause-err
returns-in_err-set-clause-err c =
    let rows = c.self.inside.rows.entries in
    let found = sym c.get_mut.ensures.value ∙ ap option_copied_mut c.in-Some.is in
    on_err c.from_residual.result ((c.get_mut.follows.holds c.set.new.self).0 ∙ ap (set_value (same_job c.args.job) rows) c.in_err-set.ensures.err
    ∙ set_value_same (same_job c.args.job) rows c.in-Some.row.now found ∙ c.self.view_is)

pub returns-in-Some-clause-ok : goal.returns-in-Some-clause-ok
returns-in-Some-clause-ok c =
    let rows = c.self.inside.rows.entries in
    let new = c.get_mut.follows.lender c.set.new.self in
    let found = sym c.get_mut.ensures.value ∙ ap option_copied_mut c.in-Some.is in
    let wrote = c.get_mut.follows.holds c.set.new.self in
    let m = AddLocation c.args.id c.args.entry in
    subst (λ old. Applies old new.entries c.args.job m) c.self.view_is
    (applied c.args.job rows new.entries m c.in-Some.row.now c.set.new.self (row_found c.args.job rows c.in-Some.row.now found) c.in_ok-set.ensures.ok (wrote.3 (ap is_some found)).0)

pub returns-clause-ok : goal.returns-clause-ok
returns-clause-ok c =
    let none = sym c.get_mut.ensures.value ∙ ap option_copied_mut c.in_default.is in
    let m = AddLocation c.args.id c.args.entry in
    let first = c.in_ok-set-2.ensures.ok ∙ ap (λ t. locations_after t m) c.new-row.ensures in
    let at_first = ap (λ r. r.entries) c.get_mut.follows.holds-at-none in
    let updated = c.in_ok-insert.ensures.updates.0 in
    subst (λ old. Applies old c.insert.new.table.entries c.args.job m) (at_first ∙ c.self.view_is)
    (applied c.args.job c.get_mut.follows.lender-at-none.entries c.insert.new.table.entries m [] c.set-2.new.self
    (no_row c.args.job _ (ap (lookup (same_job c.args.job)) at_first ∙ none)) first updated)

pub returns-in_err-set-clause-succeeds : goal.returns-in_err-set-clause-succeeds
returns-in_err-set-clause-succeeds c =
    let rows = c.self.inside.rows.entries in
    let found = sym c.get_mut.ensures.value ∙ ap option_copied_mut c.in-Some.is in
    let same = ap (λ t. locations_of t c.args.job) (sym c.self.view_is) ∙ row_found c.args.job rows c.in-Some.row.now found in
    λ short. let failed = c.in_err-set.ensures.succeeds (ap (λ (t : Locations). is_longer (entry_placed c.args.entry (entries_at t c.args.id)) (entries_at t c.args.id)) (sym same) ∙ short) in absurd cc

pub returns-in_err-set-2-clause-succeeds : goal.returns-in_err-set-2-clause-succeeds
returns-in_err-set-2-clause-succeeds c =
    let none = sym c.get_mut.ensures.value ∙ ap option_copied_mut c.in_default.is in
    let same = ap (λ t. locations_of t c.args.job) (sym c.self.view_is) ∙ no_row c.args.job c.self.inside.rows.entries none in
    λ short. absurd (first_is_longer c.args.entry _ (ap (λ (t : Locations). entries_at t c.args.id) same) short)

pub returns-in_err-insert-clause-succeeds : goal.returns-in_err-insert-clause-succeeds
returns-in_err-insert-clause-succeeds c =
    let none = sym c.get_mut.ensures.value ∙ ap option_copied_mut c.in_default.is in
    let same = ap (λ t. locations_of t c.args.job) (sym c.self.view_is) ∙ no_row c.args.job c.self.inside.rows.entries none in
    λ short. absurd (first_is_longer c.args.entry _ (ap (λ (t : Locations). entries_at t c.args.id) same) short)
