use Rattle.std.proofs.Common.{length, sym, ap, subst, ◌∙◌}
use Rattle.obj_id.specs.declared.commands.Command.TheVariants as command
use Rattle.obj_id.specs.declared.commands.Reply.TheVariants as reply
use Rattle.private_store.specs.declared.inputs.Input.TheVariants as input
use Rattle.job_row.specs.Checks.{write_check}
use Rattle.row_steps.specs.Shown.{only, RowStep}
use Rattle.row_commands.proofs.Writing.{write_refused, write_done, put_so}
use Rattle.row_commands.proofs.bytes_commands.write.Goals as goal

pub returns-in-Some : goal.returns-in-Some
returns-in-Some c node session beside contents mine h =
    write_refused node c.args.row.now beside contents session c.args.id.now c.args.offset mine h c.args.bytes.now c.in-Some.refusal
    (ap (λ t. write_check t c.args.id.now c.args.offset (length c.args.bytes.now)) (sym c.copies.ensures.copies) ∙ sym c.write_check.ensures ∙ c.in-Some.is)

pub returns : goal.returns
returns c node session beside contents mine h =
    let passed = ap (λ t. write_check t c.args.id.now c.args.offset (length c.args.bytes.now)) (sym c.copies.ensures.copies) ∙ sym c.write_check.ensures ∙ c.in_default.is in
    subst (λ r. RowStep node c.args.row.now beside contents (input.Call session (command.Write c.args.id.now c.args.offset c.args.bytes.now)) (only reply.Ok) r beside)
    (sym (put_so node c.args.row.now beside contents session c.args.id.now c.args.offset mine h c.args.bytes.now passed c.put_bytes.new.self c.put_bytes.ensures.row))
    (write_done node c.args.row.now beside contents session c.args.id.now c.args.offset mine h c.args.bytes.now passed c.copies.ensures.placed)
