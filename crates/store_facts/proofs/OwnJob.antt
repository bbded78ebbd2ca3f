-- A store stays its own job's, whatever the input.
use Rattle.std.proofs.Common.{◌≡◌, List, Option, refl, ◌∙◌}
use Rattle.obj_id.specs.declared.ids.ObjectId.{ObjectId}
use Rattle.private_store.specs.declared.inputs.Judged.{Judged}
use Rattle.private_store.specs.rules.Shape.{Shape}
use Rattle.private_store.specs.laws.Made.{Edit, ends, Edits, none, then_edit}
use Rattle.private_store.specs.rules.Step.{step}
use Rattle.store_facts.proofs.EachStep.{step_made}

edit_job : {x : Judged} {used : Option ObjectId} (store after : Shape) → Edit x used store after → after.job ≡ store.job
edit_job store after (ends is lives) = refl
edit_job store after _ = refl

edits_job : {x : Judged} {used : Option ObjectId} (store after : Shape) → Edits x used store after → after.job ≡ store.job
edits_job store after none = refl
edits_job store after (then_edit {mid} before last) = edit_job mid after last ∙ edits_job store mid before

pub step_keeps_job : (order : List ObjectId) (store : Shape) (x : Judged) → (step order store x).shape.job ≡ store.job
step_keeps_job order store x = edits_job store (step order store x).shape (step_made order store x).edits
