use Rattle.std.proofs.Common.{option_map, refl, sym, ap, subst, ◌∙◌}
use Rattle.std.specs.Option.{option_copied}
use Rattle.obj_id.specs.declared.messages.DirectoryMessage.TheVariants.{Locate}
use Rattle.obj_id.specs.declared.commands.CopyState.TheVariants.{Fetching}
use Rattle.obj_id.specs.declared.commands.Command.TheVariants as command
use Rattle.private_store.specs.declared.inputs.Input.TheVariants as input
use Rattle.private_store.specs.rules.Tables.{at}
use Rattle.private_store.specs.rules.Private.{to_directory}
use Rattle.fetch_core.specs.Fetching.{missing_of}
use Rattle.fetch_core.specs.Stages.{phase_of}
use Rattle.private_store.specs.rules.Shape.{locating, sized, pulling, failed}
use Rattle.store_facts.proofs.Tests.{some_value}
use Rattle.row_copy.specs.Checks.{IsInPhase}
use Rattle.row_copy.specs.CopyViews.{CopyView, store_fetch_of}
use Rattle.row_steps.specs.Shown.{RowStep}
use Rattle.room_commands.proofs.Getting.{each_ok, always_err, seen_at}
use Rattle.room_commands.proofs.MemoryLast.{again_due}
use Rattle.room_commands.proofs.Fetching.{unfetched_told, located_again, pulled_again}
use Rattle.room_commands.proofs.get_fetching.get_fetching.Goals as goal
use Rattle.row_steps.specs.Beside.{beside_of}

pub returns-in_default-fetch-clause-ok : goal.returns-in_default-fetch-clause-ok
returns-in_default-fetch-clause-ok c =
    let k = c.in-Some.copy.now in
    let found = ap (λ t. at t c.args.id.now) (sym c.copies.ensures.copies) ∙ sym c.get.ensures ∙ ap option_copied c.in-Some.is in
    let st = seen_at c.args.row.now.copies c.args.id.now Fetching k found c.requires.visible in
    let none = sym c.fetch.ensures ∙ ap (λ o. option_map store_fetch_of (option_copied o)) c.in_default-fetch.is in
    each_ok c.refuse.result (λ o said session grants bytes contents mine h.
    let beside = beside_of c.args.works.now grants bytes c.args.row.now.job in
    subst (λ g. RowStep c.args.node c.args.row.now beside contents (input.Call session (command.Get c.args.id.now)) g c.args.row.now beside) (sym said)
    (unfetched_told c.args.node c.args.row.now beside contents session c.args.id.now mine c.requires.alive h k found st.0 st.1 none)) c.refuse.ensures.ok

pub returns-in_ok-locate-in-Locating-clause-ok : goal.returns-in_ok-locate-in-Locating-clause-ok
returns-in_ok-locate-in-Locating-clause-ok c session grants bytes contents mine h =
    let k = c.in-Some.copy.now in
    let found = ap (λ t. at t c.args.id.now) (sym c.copies.ensures.copies) ∙ sym c.get.ensures ∙ ap option_copied c.in-Some.is in
    let st = seen_at c.args.row.now.copies c.args.id.now Fetching k found c.requires.visible in
    let fetched = sym c.fetch.ensures ∙ ap (λ o. option_map store_fetch_of (option_copied o)) c.in-Some-fetch.is in
    let beside = beside_of c.args.works.now grants bytes c.args.row.now.job in
    subst (λ g. RowStep c.args.node c.args.row.now beside contents (input.Call session (command.Get c.args.id.now)) g c.args.row.now beside) (sym c.pending.ensures)
    (located_again c.args.node c.args.row.now beside contents session c.args.id.now mine c.requires.alive h k found st.0 st.1 (store_fetch_of c.in-Some-fetch.fetch.now) fetched
    (sym c.stage.ensures ∙ ap (λ stage. phase_of stage (missing_of c.in-Some-fetch.fetch.now.phase)) c.in-Locating.is) c.in_ok-locate-in-Locating.field-0
    (c.in_ok-locate-in-Locating.ensures.ok ∙ ap (λ n. to_directory (Locate c.args.id.now c.args.node n)) c.number.ensures))

pub returns-in_ok-pull-in-Pulling-clause-ok : goal.returns-in_ok-pull-in-Pulling-clause-ok
returns-in_ok-pull-in-Pulling-clause-ok c session grants bytes contents mine h =
    let k = c.in-Some.copy.now in
    let found = ap (λ t. at t c.args.id.now) (sym c.copies.ensures.copies) ∙ sym c.get.ensures ∙ ap option_copied c.in-Some.is in
    let st = seen_at c.args.row.now.copies c.args.id.now Fetching k found c.requires.visible in
    let fetched = sym c.fetch.ensures ∙ ap (λ o. option_map store_fetch_of (option_copied o)) c.in-Some-fetch.is in
    let beside = beside_of c.args.works.now grants bytes c.args.row.now.job in
    subst (λ g. RowStep c.args.node c.args.row.now beside contents (input.Call session (command.Get c.args.id.now)) g c.args.row.now beside) (sym c.pending-in-Pulling.ensures)
    (pulled_again c.args.node c.args.row.now beside contents session c.args.id.now mine c.requires.alive h k found st.0 st.1 (store_fetch_of c.in-Some-fetch.fetch.now) fetched
    c.in-Pulling.source (missing_of c.in-Some-fetch.fetch.now.phase) (sym c.stage.ensures ∙ ap (λ stage. phase_of stage (missing_of c.in-Some-fetch.fetch.now.phase)) c.in-Pulling.is) c.in_ok-pull-in-Pulling.field-0 c.in_ok-pull-in-Pulling.ensures.ok)

pub get_sized-requires-clause-sized : goal.get_sized-requires-clause-sized
get_sized-requires-clause-sized c k found =
    let now = c.in-Some.copy.now in
    let there = ap (λ t. at t c.args.id.now) (sym c.copies.ensures.copies) ∙ sym c.get.ensures ∙ ap option_copied c.in-Some.is in
    let same = some_value now k (sym there ∙ found) in
    let fetched = sym c.fetch.ensures ∙ ap (λ o. option_map store_fetch_of (option_copied o)) c.in-Some-fetch.is in
    (c.in-Sized.field-0, subst (λ (z : CopyView). IsInPhase z.copy (sized c.in-Sized.field-0)) same (record { fetch = store_fetch_of c.in-Some-fetch.fetch.now; found = fetched; is = sym c.stage.ensures ∙ ap (λ stage. phase_of stage (missing_of c.in-Some-fetch.fetch.now.phase)) c.in-Sized.is }))

pub tell_failed-requires-clause-failed : goal.tell_failed-requires-clause-failed
tell_failed-requires-clause-failed c k found =
    let now = c.in-Some.copy.now in
    let there = ap (λ t. at t c.args.id.now) (sym c.copies.ensures.copies) ∙ sym c.get.ensures ∙ ap option_copied c.in-Some.is in
    let same = some_value now k (sym there ∙ found) in
    let fetched = sym c.fetch.ensures ∙ ap (λ o. option_map store_fetch_of (option_copied o)) c.in-Some-fetch.is in
    subst (λ (z : CopyView). IsInPhase z.copy (failed c.in-Failed.fault)) same (record { fetch = store_fetch_of c.in-Some-fetch.fetch.now; found = fetched; is = sym c.stage.ensures ∙ ap (λ stage. phase_of stage (missing_of c.in-Some-fetch.fetch.now.phase)) c.in-Failed.is })

pub returns-in-Failed-clause-ok : goal.returns-in-Failed-clause-ok
returns-in-Failed-clause-ok c session grants bytes contents mine h = c.tell_failed.ensures.step c.args.node session (beside_of c.args.works.now grants bytes c.args.row.now.job) contents mine h

pub returns-in_err-locate-in-Locating-clause-memory_last : goal.returns-in_err-locate-in-Locating-clause-memory_last
returns-in_err-locate-in-Locating-clause-memory_last c =
    let k = c.in-Some.copy.now in
    let found = ap (λ t. at t c.args.id.now) (sym c.copies.ensures.copies) ∙ sym c.get.ensures ∙ ap option_copied c.in-Some.is in
    let st = seen_at c.args.row.now.copies c.args.id.now Fetching k found c.requires.visible in
    let fetched = sym c.fetch.ensures ∙ ap (λ o. option_map store_fetch_of (option_copied o)) c.in-Some-fetch.is in
    always_err c.from_residual.result (again_due c.args.node c.args.row.now c.args.works.now c.args.id.now c.requires.alive k found st.0 st.1 (store_fetch_of c.in-Some-fetch.fetch.now) fetched
    locating (sym c.stage.ensures ∙ ap (λ stage. phase_of stage (missing_of c.in-Some-fetch.fetch.now.phase)) c.in-Locating.is) refl)

pub returns-in_err-pull-in-Pulling-clause-memory_last : goal.returns-in_err-pull-in-Pulling-clause-memory_last
returns-in_err-pull-in-Pulling-clause-memory_last c =
    let k = c.in-Some.copy.now in
    let found = ap (λ t. at t c.args.id.now) (sym c.copies.ensures.copies) ∙ sym c.get.ensures ∙ ap option_copied c.in-Some.is in
    let st = seen_at c.args.row.now.copies c.args.id.now Fetching k found c.requires.visible in
    let fetched = sym c.fetch.ensures ∙ ap (λ o. option_map store_fetch_of (option_copied o)) c.in-Some-fetch.is in
    always_err c.from_residual-in_err-pull-in-Pulling.result (again_due c.args.node c.args.row.now c.args.works.now c.args.id.now c.requires.alive k found st.0 st.1 (store_fetch_of c.in-Some-fetch.fetch.now) fetched
    (pulling c.in-Pulling.source (missing_of c.in-Some-fetch.fetch.now.phase)) (sym c.stage.ensures ∙ ap (λ stage. phase_of stage (missing_of c.in-Some-fetch.fetch.now.phase)) c.in-Pulling.is) refl)
