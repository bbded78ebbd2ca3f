-- Single fields that are written spell what they were written of.
use Rattle.std.proofs.Common.{ℕ, ◌<◌, ◌^◌, refl, arith, decimal, codes}
use Rattle.store_facts.proofs.Ids.{IsIdText-id_text, IsTaskText-task_text}
use Rattle.obj_id.specs.Ids.{IsId, IsTask}
use Rattle.obj_id.specs.Texts.{id_text, task_text}
use Rattle.obj_id.specs.declared.ids.ObjectId.{ObjectId}
use Rattle.obj_id.specs.declared.ids.TaskNo.{TaskNo}
use Rattle.schedule_text.specs.Fields.{IsLongNumber, IsNumber, IsObject, IsTaskField}
use Rattle.journal_text.specs.Fields.{IsPositive}
use Rattle.journal_text.specs.Printing.{count_field}
use Rattle.journal_text.specs.Writable.{FitsPositive}
use Rattle.journal_text.proofs.PlainFields.{Plain, Plain-append, Plain-decimal}

pub number : (n : ℕ) → n < 2 ^ 32 → IsNumber (decimal n) n
number n fits = record { fits = fits; spelled = refl }

pub long : (n : ℕ) → n < 2 ^ 64 → IsLongNumber (decimal n) n
long n fits = record { fits = fits; spelled = refl }

pub positive : (n : ℕ) → FitsPositive n → IsPositive (decimal n) n
positive n fits = record { positive = fits.0; spelled = number n fits.1 }

pub object : (job : ℕ) (id : ObjectId) → IsId id → IsObject job (id_text job id) id
object job id is = record { is_id = is; spelled = IsIdText-id_text job id }

pub task_field : (task : TaskNo) → IsTask task → IsTaskField (task_text task) task
task_field task is = record { is_task = is; spelled = IsTaskText-task_text task }

pub plain32 : (n : ℕ) → n < 2 ^ 32 → Plain (decimal n)
plain32 n fits = Plain-decimal n (omega (arith, fits))

pub plain_count : (n : ℕ) → n < 2 ^ 64 → Plain (count_field n)
plain_count n fits = Plain-append (codes "#") (decimal n) refl (Plain-decimal n fits)
