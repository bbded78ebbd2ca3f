-- Which order a line of the operator's spells.
use Rattle.std.specs.Prelude.{◌≡◌, ℕ, ◌<◌, List, [], ◌∷◌, length, Option, Some, None, codes, ⊤}
use Rattle.obj_id.specs.declared.works.JobKey.{JobKey}
use Rattle.private_store.specs.declared.schedules.Event.TheVariants as event
use Rattle.private_store.specs.declared.schedules.Step.TheVariants as «step»
use Rattle.schedule_text.specs.Fields.{IsBytesField, IsJob, IsNode, fields_of}
use Rattle.schedule_text.specs.Reading.{IsLine, IsQuota}
use Rattle.schedule_text.specs.declared.line.Line.{Line}
use Rattle.schedule_text.specs.declared.line.Line.TheVariants as line
use Rattle.program_lines.specs.declared.operator.Admission.{Admission}
use Rattle.program_lines.specs.declared.operator.Change.{Change}
use Rattle.program_lines.specs.declared.operator.Change.TheVariants as change
use Rattle.program_lines.specs.declared.operator.Order.{Order}
use Rattle.program_lines.specs.declared.operator.Order.TheVariants as order

-- a key's 32 bytes in lower-case hexadecimal digits
abbrev pub IsKey : List ℕ → JobKey → Type 0
IsKey field key = IsBytesField field key.0 × (length key.0 ≡ 32)

-- `NODE JOB WINDOW DEVICE KEY`, each in its field
abbrev pub IsAdmission : ℕ → List ℕ → List ℕ → List ℕ → List ℕ → List ℕ → Admission → Type 0
IsAdmission nodes node job window device digits x = IsNode nodes node x.node × IsJob job x.job × IsQuota window device x.quota × IsKey digits x.key

abbrev pub IsAdmissionFields : ℕ → List (List ℕ) → Admission → Type 0
IsAdmissionFields nodes (node ∷ job ∷ window ∷ device ∷ digits ∷ []) x = IsAdmission nodes node job window device digits x
IsAdmissionFields nodes _ x = ⊥

-- `admit` and these
abbrev pub IsAdmissionAfter : ℕ → List ℕ → List (List ℕ) → Admission → Type 0
IsAdmissionAfter nodes word fields x = (word ≡ codes "admit") × IsAdmissionFields nodes fields x

abbrev pub IsAdmissionLine : ℕ → List (List ℕ) → Admission → Type 0
IsAdmissionLine nodes [] x = ⊥
IsAdmissionLine nodes (word ∷ fields) x = IsAdmissionAfter nodes word fields x

-- the other changes are spelled as in a schedule
abbrev pub IsChange : ℕ → List ℕ → ℕ → Change → Type 0
IsChange nodes text node (change.Admit job quota key) = IsAdmissionLine nodes (fields_of text) (record { node = node; job = job; quota = quota; key = key })
IsChange nodes text node (change.Requota job quota) = IsLine nodes text (line.Step («step».At node (event.Requota job quota)))
IsChange nodes text node (change.End job) = IsLine nodes text (line.Step («step».At node (event.JobEnd job)))

abbrev pub IsOrder : ℕ → List ℕ → Order → Type 0
IsOrder nodes text (order.Change node c) = IsChange nodes text node c
IsOrder nodes text order.Close = text ≡ codes "close"

-- the order is for one of so many nodes, or for the whole cluster
abbrev pub IsWithin : ℕ → Order → Type 0
IsWithin count (order.Change node c) = node < count
IsWithin count order.Close = ⊤

-- what an admission asks
abbrev pub admission_order : Admission → Order
admission_order x = order.Change x.node (change.Admit x.job x.quota x.key)

-- what a line of a schedule asks, if it is one of those that an operator gives as they are
abbrev pub order_of : Option Line → Option Order
order_of (Some (line.Step («step».At node (event.Requota job quota)))) = Some (order.Change node (change.Requota job quota))
order_of (Some (line.Step («step».At node (event.JobEnd job)))) = Some (order.Change node (change.End job))
order_of _ = None
