use Rattle.obj_id.proofs.OneText.{IsIdText-id_text, IsIdText-one, IsTaskText-one, IsTaskText-task_text, short_task_text-apart, short_text-apart}
use Rattle.obj_id.specs.Ids.{id_bytes}
use Rattle.obj_id.proofs.laws.a_text_names_one.Goals as goal

pub returns-clause-id : goal.returns-clause-id
returns-clause-id c = IsIdText-one

pub returns-clause-apart : goal.returns-clause-apart
returns-clause-apart c job a b = short_text-apart job a (id_bytes b)

pub returns-clause-tasks_apart : goal.returns-clause-tasks_apart
returns-clause-tasks_apart c a b = short_task_text-apart a b.0

pub returns-clause-task : goal.returns-clause-task
returns-clause-task c = IsTaskText-one

pub returns-clause-printed_id : goal.returns-clause-printed_id
returns-clause-printed_id c = IsIdText-id_text

pub returns-clause-printed_task : goal.returns-clause-printed_task
returns-clause-printed_task c = IsTaskText-task_text
