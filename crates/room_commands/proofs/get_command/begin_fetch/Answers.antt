use Rattle.std.proofs.Common.{ℕ, ◌+◌, [], sym, ap, subst, ◌∙◌}
use Rattle.obj_id.specs.declared.refusals.Refusal.TheVariants.{Pending}
use Rattle.obj_id.specs.declared.commands.Command.TheVariants as command
use Rattle.obj_id.specs.declared.commands.Reply.TheVariants as reply
use Rattle.private_store.specs.declared.inputs.Input.TheVariants as input
use Rattle.job_row.specs.Checks.{fetch_check}
use Rattle.obj_id.specs.declared.ids.ObjectId.{ObjectId}
use Rattle.obj_id.specs.declared.messages.DirectoryMessage.TheVariants.{Locate}
use Rattle.private_store.specs.rules.Tables.{with_entry}
use Rattle.private_store.specs.rules.Private.{to_directory}
use Rattle.lru_evictor.specs.Orders.{last_used}
use Rattle.row_copy.specs.CopyViews.{fetched_copy_view}
use Rattle.job_row.specs.Row.{Row}
use Rattle.row_steps.specs.Shown.{RowStep}
use Rattle.room_commands.proofs.Fetching.{fetch_refused, fetch_done}
use Rattle.room_commands.proofs.Getting.{always_err}
use Rattle.room_commands.proofs.MemoryLast.{fetch_due}
use Rattle.room_commands.proofs.get_command.begin_fetch.Goals as goal

pub returns-in-Some-clause-ok : goal.returns-in-Some-clause-ok
returns-in-Some-clause-ok c session beside contents mine h =
    subst (λ response. RowStep c.args.node c.args.row.now beside contents (input.Call session (command.Get c.args.id.now)) response c.args.row.now beside) (sym c.only.ensures)
    (fetch_refused c.args.node c.args.row.now beside contents session c.args.id.now mine c.requires.alive h c.requires.none c.in-Some.refusal
    (ap (λ n. fetch_check c.args.row.now.copies n) (sym c.fetches_begun-begun.ensures) ∙ ap (λ t. fetch_check t c.fetches_begun-begun.result) (sym c.copies.ensures.copies) ∙ sym c.fetch_check.ensures ∙ c.in-Some.is))

pub returns-clause-ok : goal.returns-clause-ok
returns-clause-ok c session beside contents mine h =
    let begun = c.fetches_begun-begun.ensures in
    let passed = ap (λ n. fetch_check c.args.row.now.copies n) (sym begun) ∙ ap (λ t. fetch_check t c.fetches_begun-begun.result) (sym c.copies.ensures.copies) ∙ sym c.fetch_check.ensures ∙ c.in_default.is in
    let row = c.in_ok-enter_fetch.ensures.ok ∙ ap (λ n. entered c.args.row.now c.args.id.now (n + 1)) begun in
    let sent = c.in_ok-messages.ensures.ok ∙ ap (λ n. to_directory (Locate c.args.id.now c.args.node (n + 1))) begun in
    subst (λ g. RowStep c.args.node c.args.row.now beside contents (input.Call session (command.Get c.args.id.now)) g c.enter_fetch.new.self beside) (sym c.pending.ensures)
    (subst (λ r. RowStep c.args.node c.args.row.now beside contents (input.Call session (command.Get c.args.id.now)) (record { reply = reply.Refused Pending; posts = c.in_ok-messages.messages; erased = [] }) r beside) (sym row)
    (subst (λ ms. RowStep c.args.node c.args.row.now beside contents (input.Call session (command.Get c.args.id.now)) (record { reply = reply.Refused Pending; posts = ms; erased = [] }) (entered c.args.row.now c.args.id.now (c.args.row.now.fetches_begun + 1)) beside) (sym sent)
    (fetch_done c.args.node c.args.row.now beside contents session c.args.id.now mine c.requires.alive h c.requires.none passed)))
  where
    entered : Row → ObjectId → ℕ → Row
    entered row id number = record row { copies = with_entry row.copies id (fetched_copy_view number); order = last_used id row.order; fetches_begun = number }

pub returns-in_err-messages-clause-memory_last : goal.returns-in_err-messages-clause-memory_last
returns-in_err-messages-clause-memory_last c =
    let begun = c.fetches_begun-begun.ensures in
    let passed = ap (λ n. fetch_check c.args.row.now.copies n) (sym begun) ∙ ap (λ t. fetch_check t c.fetches_begun-begun.result) (sym c.copies.ensures.copies) ∙ sym c.fetch_check.ensures ∙ c.in_default.is in
    always_err c.from_residual.result (λ line. fetch_due c.args.node c.args.row.now line c.args.id.now c.requires.alive c.requires.none passed)

pub returns-in_err-enter_fetch-clause-memory_last : goal.returns-in_err-enter_fetch-clause-memory_last
returns-in_err-enter_fetch-clause-memory_last c =
    let begun = c.fetches_begun-begun.ensures in
    let passed = ap (λ n. fetch_check c.args.row.now.copies n) (sym begun) ∙ ap (λ t. fetch_check t c.fetches_begun-begun.result) (sym c.copies.ensures.copies) ∙ sym c.fetch_check.ensures ∙ c.in_default.is in
    always_err c.from_residual-in_err-enter_fetch.result (λ line. fetch_due c.args.node c.args.row.now line c.args.id.now c.requires.alive c.requires.none passed)
