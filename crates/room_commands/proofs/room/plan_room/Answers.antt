use Rattle.std.proofs.Common.{◌+◌, Some, refl, sym, ap, ◌∙◌, arith}
use Rattle.std.specs.Prelude.{nat_le}
use Rattle.std.proofs.lemmas.Bool.Decides.{nat_tests}
use Rattle.private_store.specs.rules.Limits.{most_works, has_numbers}
use Rattle.job_row.specs.Usages.{total}
use Rattle.row_copy.specs.Usages.{device_bytes}
use Rattle.job_row.specs.InSync.{facts_in}
use Rattle.store_facts.proofs.Tests.{both}
use Rattle.job_region.specs.Region.{place_for}
use Rattle.spill_work.specs.Line.{in_flight}
use Rattle.room_commands.proofs.Planning.{asks-kind, asks-numbers, all_listed, place_exit, plan_exit, fits-at, fits-kind, fits-nowhere}
use Rattle.room_commands.proofs.room.plan_room.Goals as goal
use Rattle.row_steps.specs.Beside.{beside_of}

pub returns-in-Some-clause-plan : goal.returns-in-Some-clause-plan
returns-in-Some-clause-plan c grants bytes contents own h =
    sym (place_exit c.args.row.now (beside_of c.args.works.now grants bytes c.args.row.now.job) contents h c.copies.ensures.placed c.args.len c.window.result.now c.window.ensures c.in-Some.offset (sym c.search.ensures.offset ∙ c.in-Some.is))

pub returns-in-Some-clause-fits : goal.returns-in-Some-clause-fits
returns-in-Some-clause-fits c offset fits =
    ap (λ w. place_for w c.args.len) (sym c.window.ensures) ∙ sym c.search.ensures.offset ∙ c.in-Some.is ∙ ap Some (fits-at c.in-Some.offset offset fits)

pub room_plan-requires : goal.room_plan-requires
room_plan-requires c fits =
    fits-nowhere c.args.row.now.window (facts_in c.args.row.now.copies) c.args.len c.search.result.0 (c.search.ensures.offset ∙ ap (λ w. place_for w c.args.len) c.window.ensures) c.in_default.is (c.plan-plan.ensures.room fits)

pub returns-clause-fits : goal.returns-clause-fits
returns-clause-fits c offset fits =
    absurd (fits-nowhere c.args.row.now.window (facts_in c.args.row.now.copies) c.args.len c.search.result.0 (c.search.ensures.offset ∙ ap (λ w. place_for w c.args.len) c.window.ensures) c.in_default.is
    (c.plan-plan.ensures.room (fits-kind c.asked.result c.spill_failed-failed.result 0 c.plan-plan.result offset (sym (c.room_plan.ensures 0) ∙ fits))))

pub returns-clause-plan : goal.returns-clause-plan
returns-clause-plan c grants bytes contents own h =
    let beside = beside_of c.args.works.now grants bytes c.args.row.now.job in
    plan_exit c.args.row.now beside contents h c.copies.ensures.placed c.args.len c.args.job own
    c.args.row.now.window refl c.args.row.now.copies refl c.device_quota.result c.device_bytes.result c.in_flight.result
    c.device_quota.ensures (c.device_bytes.ensures ∙ ap (total device_bytes) c.copies.ensures.copies) c.args.works.now refl refl c.in_flight.ensures
    c.plan-plan.result (λ store described. c.plan-plan.ensures.plan store (all_listed c.args.row.now beside contents h c.copies.ensures.placed c.args.len) described) c.asked.result c.asked.ensures.last c.spill_failed-failed.result c.spill_failed-failed.ensures c.room_plan.result c.room_plan.ensures

pub returns-clause-asks : goal.returns-clause-asks
returns-clause-asks c count asks =
    let is = sym (c.room_plan.ensures 0) ∙ asks in
    let left = c.plan-plan.ensures.left count (asks-kind c.asked.result c.spill_failed-failed.result 0 c.plan-plan.result count is) in
    let works = c.in_flight.ensures in
    both (nat_le (in_flight c.args.works.now c.args.job + count) most_works) _ (grind (arith, nat_tests, left, works))
    (ap (λ n. has_numbers n count) (sym c.asked.ensures.last) ∙ asks-numbers c.asked.result c.spill_failed-failed.result 0 c.plan-plan.result count is)
