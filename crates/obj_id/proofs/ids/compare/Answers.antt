use Rattle.std.proofs.Common.{rules, refl, ◌∙◌}
use Rattle.obj_id.specs.Ids.{IsTask}
use Rattle.obj_id.proofs.IdOrder.{first_decides, second_decides, third_decides}
use Rattle.obj_id.proofs.ids.compare.Goals as goal

pub returns-then-first-other_first : goal.returns-then-first-other_first
returns-then-first-other_first c =
    let ours : IsTask (record { 0 = c.args.ours }) = record { task_length = search rules; task_bytes = search rules } in
    let others : IsTask (record { 0 = c.args.others }) = record { task_length = search rules; task_bytes = search rules } in
    c.cmp.ensures
    ∙ first_decides (record { 0 = c.args.ours }) (record { 0 = c.args.others }) ours others c.front-first.result c.front-other_first.result _ _ _ _
    c.front-first.ensures c.front-other_first.ensures refl refl refl refl c.if-first-other_first.true

pub returns-then-second-other_second : goal.returns-then-second-other_second
returns-then-second-other_second c =
    let ours : IsTask (record { 0 = c.args.ours }) = record { task_length = search rules; task_bytes = search rules } in
    let others : IsTask (record { 0 = c.args.others }) = record { task_length = search rules; task_bytes = search rules } in
    c.cmp-then-second-other_second.ensures
    ∙ second_decides (record { 0 = c.args.ours }) (record { 0 = c.args.others }) ours others c.front-first.result c.front-other_first.result c.middle-second.result c.middle-other_second.result _ _
    c.front-first.ensures c.front-other_first.ensures c.middle-second.ensures c.middle-other_second.ensures refl refl c.if-first-other_first.false c.if-second-other_second.true

pub returns : goal.returns
returns c =
    let ours : IsTask (record { 0 = c.args.ours }) = record { task_length = search rules; task_bytes = search rules } in
    let others : IsTask (record { 0 = c.args.others }) = record { task_length = search rules; task_bytes = search rules } in
    c.cmp-2.ensures
    ∙ third_decides (record { 0 = c.args.ours }) (record { 0 = c.args.others }) ours others c.front-first.result c.front-other_first.result c.middle-second.result c.middle-other_second.result c.back.result c.back-2.result
    c.front-first.ensures c.front-other_first.ensures c.middle-second.ensures c.middle-other_second.ensures c.back.ensures c.back-2.ensures c.if-first-other_first.false c.if-second-other_second.false
