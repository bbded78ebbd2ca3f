use Rattle.std.proofs.Common.{is_some, sym, ap, subst, ◌∙◌}
use Rattle.std.specs.Option.{option_copied_mut}
use Rattle.obj_id.specs.declared.messages.DirectoryMessage.TheVariants.{EndJob}
use Rattle.owner_directory.specs.Locations.{Applies}
use Rattle.owner_directory.proofs.Jobs.{row_found, applied, applied_on}
use Rattle.owner_directory.proofs.Directory.end_at.Goals as goal

pub returns : goal.returns
returns c =
    let rows = c.self.inside.rows.entries in
    let new = c.get_mut.follows.lender c.end_at.new.self in
    let found = sym c.get_mut.ensures.value ∙ ap option_copied_mut c.in-Some.is in
    let wrote = c.get_mut.follows.holds c.end_at.new.self in
    let m = EndJob c.args.node in
    applied_on c.args.self.now new.entries c.drop_if_empty.new.self c.args.job m (subst (λ old. Applies old new.entries c.args.job m) c.self.view_is
    (applied c.args.job rows new.entries m c.in-Some.row.now c.end_at.new.self (row_found c.args.job rows c.in-Some.row.now found) c.end_at.ensures (wrote.3 (ap is_some found)).0)) c.drop_if_empty.ensures
