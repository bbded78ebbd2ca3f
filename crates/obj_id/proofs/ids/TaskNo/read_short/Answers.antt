use Rattle.std.proofs.Common.{rules, ◌≡◌, ◌^◌, ◌<◌, ◌∷◌, Some, refl, sym, ap, ◌∙◌, lit<, decimal, subst}
use Rattle.std.proofs.lemmas.Str.Pattern.{strip_prefix_char}
use Rattle.obj_id.specs.Texts.{IsShortTaskText, numbered_task, task_number}
use Rattle.obj_id.specs.declared.ids.TaskNo.{TaskNo}
use Rattle.obj_id.proofs.Numbered.{numbered-task_number, task_number-lt, task_number-numbered}
use Rattle.obj_id.proofs.ids.TaskNo.read_short.Goals as goal

pub returns-in_err-strip_prefix-clause-read : goal.returns-in_err-strip_prefix-clause-read
returns-in_err-strip_prefix-clause-read c task is text =
    let without = strip_prefix_char 116 c.args.text.now c.strip_prefix.result c.strip_prefix.ensures.cases (lit< tt) in
    absurd (rw c.in_err-strip_prefix.was at without (decimal (task_number task)) (sym text.spelled))

pub returns-in_err-number-clause-read : goal.returns-in_err-number-clause-read
returns-in_err-number-clause-read c task is text =
    let parts = strip_prefix_char 116 c.args.text.now c.strip_prefix.result c.strip_prefix.ensures.cases (lit< tt) in
    let begins : c.args.text.now ≡ 116 ∷ c.in_ok-strip_prefix.field-0.now = rw c.in_ok-strip_prefix.was at parts in
    let whole = text.spelled ∙ begins in
    let digits : decimal (task_number task) ≡ c.in_ok-strip_prefix.field-0.now = cc whole in
    let read = c.read_u64.ensures.read (task_number task) (task_number-lt task is) digits in
    cc (c.in_err-number.was)

pub returns-clause-spelled : goal.returns-clause-spelled
returns-clause-spelled c =
    let parts = strip_prefix_char 116 c.args.text.now c.strip_prefix.result c.strip_prefix.ensures.cases (lit< tt) in
    let begins : c.args.text.now ≡ 116 ∷ c.in_ok-strip_prefix.field-0.now = rw c.in_ok-strip_prefix.was at parts in
    let fits : c.in_ok-number.number < 2 ^ 64 = search rules in
    let printed : decimal c.in_ok-number.number ≡ c.in_ok-strip_prefix.field-0.now = c.in_ok-number.ensures.printed in
    let P : TaskNo → Type 0 = λ task. IsShortTaskText task c.args.text.now in
    subst P (sym c.numbered.ensures) (record {
      has_short = refl;
      spelled = ap (λ n. 116 ∷ decimal n) (task_number-numbered c.in_ok-number.number fits) ∙ ap (λ ds. 116 ∷ ds) printed ∙ sym begins;
    })

pub returns-clause-read : goal.returns-clause-read
returns-clause-read c task is text =
    let parts = strip_prefix_char 116 c.args.text.now c.strip_prefix.result c.strip_prefix.ensures.cases (lit< tt) in
    let begins : c.args.text.now ≡ 116 ∷ c.in_ok-strip_prefix.field-0.now = rw c.in_ok-strip_prefix.was at parts in
    let whole = text.spelled ∙ begins in
    let digits : decimal (task_number task) ≡ c.in_ok-strip_prefix.field-0.now = cc whole in
    let read = c.read_u64.ensures.read (task_number task) (task_number-lt task is) digits in
    let number : c.in_ok-number.number ≡ task_number task = cc (c.in_ok-number.was) in
    ap Some (c.numbered.ensures ∙ ap numbered_task number ∙ sym (numbered-task_number task is text.has_short))
