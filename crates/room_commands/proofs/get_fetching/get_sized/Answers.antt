use Rattle.std.proofs.Common.{false, sym, ap, subst, ◌∙◌}
use Rattle.std.specs.Option.{option_map_or}
use Rattle.obj_id.specs.declared.commands.CopyState.TheVariants.{Fetching}
use Rattle.obj_id.specs.declared.commands.Command.TheVariants as command
use Rattle.private_store.specs.declared.inputs.Input.TheVariants as input
use Rattle.private_store.specs.rules.Extents.{is_size}
use Rattle.job_row.specs.Checks.{can_pull}
use Rattle.row_copy.specs.CopyViews.{CopyView}
use Rattle.row_steps.specs.Shown.{RowStep}
use Rattle.room_commands.proofs.Getting.{each_ok, some_at}
use Rattle.room_commands.proofs.Fetching.{bad_size}
use Rattle.room_commands.proofs.get_fetching.get_sized.Goals as goal
use Rattle.row_steps.specs.Beside.{beside_of}

pub returns-then-not-may_have-clause-ok : goal.returns-then-not-may_have-clause-ok
returns-then-not-may_have-clause-ok c =
    let v = some_at c.args.row.now.copies c.args.id.now Fetching c.requires.visible in
    let p = c.requires.sized v.k v.found in
    let bad = ap (is_size c.args.row.now.window.quota) (sym (c.requires.length v.k v.found)) ∙ ap (λ w. is_size w c.args.len) (ap (λ w. w.quota) (sym c.window.ensures)) ∙ sym c.may_have.ensures ∙ c.if-not-may_have.true in
    each_ok c.refuse.result (λ o said session grants bytes contents mine h.
    let beside = beside_of c.args.works.now grants bytes c.args.row.now.job in
    subst (λ g. RowStep c.args.node c.args.row.now beside contents (input.Call session (command.Get c.args.id.now)) g c.args.row.now beside) (sym said)
    (bad_size c.args.node c.args.row.now beside contents session c.args.id.now mine c.requires.alive h v.k v.found v.stays v.is p.1.fetch p.1.found p.0 p.1.is bad)) c.refuse.ensures.ok

pub begin_pull-requires-clause-sized : goal.begin_pull-requires-clause-sized
begin_pull-requires-clause-sized c =
    let v = some_at c.args.row.now.copies c.args.id.now Fetching c.requires.visible in
    let p = c.requires.sized v.k v.found in
    let window = c.args.row.now.window.quota in
    ap (λ o. option_map_or (λ (k : CopyView). option_map_or (λ fetch. can_pull window k.copy fetch.phase) k.copy.fetch false) o false) v.found
    ∙ ap (λ o. option_map_or (λ fetch. can_pull window v.k.copy fetch.phase) o false) p.1.found
    ∙ ap (can_pull window v.k.copy) p.1.is
    ∙ ap (is_size window) (sym (c.requires.length v.k v.found)) ∙ ap (λ w. is_size w c.args.len) (ap (λ w. w.quota) (sym c.window.ensures)) ∙ sym c.may_have.ensures ∙ c.if-not-may_have.false
