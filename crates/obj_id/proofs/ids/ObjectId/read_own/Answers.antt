use Rattle.std.proofs.Common.{◌≡◌, ◌++◌, ◌∷◌, sym, ap, ◌∙◌, lit<, decimal, codes, refl}
use Rattle.std.proofs.lemmas.List.{append_assoc}
use Rattle.std.proofs.lemmas.Str.Pattern.{split_parts}
use Rattle.std.specs.Result.{result_ok}
use Rattle.obj_id.specs.Texts.{short_task_text}
use Rattle.obj_id.proofs.ShortTexts.{IfSome-new, IsTask-task, split-own_text}
use Rattle.obj_id.proofs.ids.ObjectId.read_own.Goals as goal

pub returns-in_err-front-clause-read : goal.returns-in_err-front-clause-read
returns-in_err-front-clause-read c id is text =
    let parts = split-own_text id c.args.text.now c.split_once.result is text.spelled c.split_once.ensures.cases in
    absurd (rw c.in_err-front.was at parts)

pub returns-in_err-task-clause-read : goal.returns-in_err-task-clause-read
returns-in_err-task-clause-read c id is text =
    let parts = split-own_text id c.args.text.now c.split_once.result is text.spelled c.split_once.ensures.cases in
    let here : (c.in_ok-front.front.now ≡ short_task_text id.task) × (c.in_ok-front.back.now ≡ decimal id.index) = rw c.in_ok-front.was at parts in
    let read = c.read_short.ensures.read id.task (IsTask-task id is) (record { has_short = text.has_short; spelled = sym here.0 }) in
    cc (c.in_err-task.was)

pub returns-in_err-index-clause-read : goal.returns-in_err-index-clause-read
returns-in_err-index-clause-read c id is text =
    let parts = split-own_text id c.args.text.now c.split_once.result is text.spelled c.split_once.ensures.cases in
    let here : (c.in_ok-front.front.now ≡ short_task_text id.task) × (c.in_ok-front.back.now ≡ decimal id.index) = rw c.in_ok-front.was at parts in
    let read = c.read_u32.ensures.read id.index is.index_fits (sym here.1) in
    cc (c.in_err-index.was)

pub returns-clause-spelled : goal.returns-clause-spelled
returns-clause-spelled c =
    let parts = split_parts 46 c.args.text.now c.split_once.result c.split_once.ensures.cases (lit< tt) in
    let here : c.args.text.now ≡ c.in_ok-front.front.now ++ (46 ∷ c.in_ok-front.back.now) = (rw c.in_ok-front.was at parts).0 in
    let task = c.in_ok-task.ensures.spelled in
    let index = c.in_ok-index.ensures.printed in
    IfSome-new c.new.result c.ok.result _ _ c.ok.ensures.value c.new.ensures.made c.new.ensures.no_job c.new.ensures.no_index (record {
      owner = refl;
      has_short = task.has_short;
      spelled =
          append_assoc (short_task_text c.in_ok-task.task) (codes ".") (decimal c.in_ok-index.index)
          ∙ (λ i. task.spelled i ++ (46 ∷ index i)) ∙ sym here;
    })

pub returns-clause-read : goal.returns-clause-read
returns-clause-read c id is text =
    let parts = split-own_text id c.args.text.now c.split_once.result is text.spelled c.split_once.ensures.cases in
    let here : (c.in_ok-front.front.now ≡ short_task_text id.task) × (c.in_ok-front.back.now ≡ decimal id.index) = rw c.in_ok-front.was at parts in
    let read_task = c.read_short.ensures.read id.task (IsTask-task id is) (record { has_short = text.has_short; spelled = sym here.0 }) in
    let read_index = c.read_u32.ensures.read id.index is.index_fits (sym here.1) in
    let task : c.in_ok-task.task ≡ id.task = cc (c.in_ok-task.was) in
    let index : c.in_ok-index.index ≡ id.index = cc (c.in_ok-index.was) in
    let made = c.new.ensures.made in
    c.ok.ensures.value ∙ ap result_ok (rw (task, index, ← text.owner) at made is.job_positive is.index_positive)
