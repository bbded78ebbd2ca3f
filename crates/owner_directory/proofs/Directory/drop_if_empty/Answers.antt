use Rattle.std.proofs.Common.{◌≡◌, sym, ap, subst, ◌∙◌}
use Rattle.std.specs.Option.{option_copied}
use Rattle.obj_id.specs.declared.ids.JobNo.{JobNo}
use Rattle.owner_directory.specs.Locations.{DirectoryRows, locations_of}
use Rattle.owner_directory.proofs.Jobs.{row_found, emptied}
use Rattle.owner_directory.proofs.Directory.drop_if_empty.Goals as goal
use Rattle.owner_directory.proofs.Directory.drop_if_empty.Goals.{in-Some-1, in-None-1}

pub returns-then-is_empty : goal.returns-then-is_empty
returns-then-is_empty c =
    let rows = c.self.inside.rows.entries in
    let found = sym c.get.ensures.value ∙ ap option_copied c.in-Some.is in
    let none = row_found c.args.job rows c.in-Some.row.now found ∙ c.is_empty.ensures.0 c.if-is_empty.true in
    let step = subst (λ (old : DirectoryRows). (other : JobNo) → locations_of c.swap_remove.new.self.entries other ≡ locations_of old other) c.self.view_is
    (emptied c.args.job rows c.swap_remove.new.self.entries none c.swap_remove.ensures.updates.0) in
    elim c.match-swap_remove.branch [ in-Some-1 w ↦ rw w.self-is step | in-None-1 w ↦ rw w.self-is step ]
