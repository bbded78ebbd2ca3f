use Rattle.std.proofs.Common.{false, sym, ap, ◌∙◌}
use Rattle.std.specs.Option.{option_map_or}
use Rattle.private_store.specs.rules.Tables.{at}
use Rattle.room_commands.proofs.Serving.{matches_is}
use Rattle.room_commands.proofs.pulls.pull_matches.Goals as goal
use Rattle.row_copy.specs.CopyViews.{was_sealed_with}

pub returns : goal.returns
returns c beside contents h =
    c.has_sealed.ensures ∙ ap (λ t. option_map_or (was_sealed_with c.args.length c.args.digest.now) (at t c.args.id.now) false) c.copies.ensures.copies
    ∙ sym (matches_is c.args.row.now beside contents h c.args.id.now c.args.length c.args.digest.now)
