-- A command on the row of its job: what its answer says, and that another job's object is refused.
use Rattle.std.proofs.Common.{◌≡◌, ℕ, ◌==◌, true, false, List, None, Ok, Err, refl, ap, ◌∙◌}
use Rattle.std.specs.Prelude.{IfOk, IfErr, OnOk, OnErr, IsOk}
use Rattle.std.specs.declared.result.Result.{Result}
use Rattle.obj_id.specs.declared.ids.ObjectId.{ObjectId}
use Rattle.obj_id.specs.declared.commands.Command.{Command}
use Rattle.obj_id.specs.declared.commands.Command.TheVariants as command
use Rattle.obj_id.specs.declared.commands.Reply.TheVariants as reply
use Rattle.obj_id.specs.declared.refusals.Refusal.TheVariants.{NotGranted}
use Rattle.private_store.specs.declared.inputs.Input.TheVariants as input
use Rattle.private_store.specs.rules.Change.{erasing, refused}
use Rattle.private_store.specs.rules.Shape.{Change}
use Rattle.private_store.specs.rules.Contents.{Contents, without_payload}
use Rattle.private_store.specs.rules.Step.{commanded, owned}
use Rattle.job_row.specs.Row.{Row}
use Rattle.row_steps.specs.Shown.{IsShown, only, RowStep}
use Rattle.row_steps.proofs.ForCallers.{stays, change, called, foreign}
use Rattle.store_facts.proofs.Tests.{true_false}
use Rattle.spill_work.specs.Line.{WorkLine}
use Rattle.node_core.specs.Calls.{is_of_row, is_own, is_plain}
use Rattle.node_core.specs.Hosted.{Hosted}
use Rattle.node_core.specs.MemoryLast.{grants_check, IsRoomDue}
use Rattle.row_steps.specs.Beside.{SharedTables, shape_of}

module _ (node job : ℕ) (row : Row) (beside : SharedTables) (session : ℕ) (contents : Contents) (own : row.job ≡ job) (h : IsShown row beside contents) where
  foreign_is : (id : ObjectId) (c : Command (List ℕ)) (d : Change) → (id.job.0 == job) ≡ false → commanded row.order (shape_of row beside) session (without_payload c) ≡ owned (shape_of row beside) id d
      → change node row beside contents h (input.Call session c) ≡ erasing (shape_of row beside) (refused (shape_of row beside) NotGranted)
  foreign_is id c d other is =
      called row beside session (without_payload c)
      ∙ ap (erasing (shape_of row beside)) (is ∙ foreign row beside id d (ap (λ n. id.job.0 == n) own ∙ other))

  pub not_granted : (c : Command (List ℕ)) → is_own job c ≡ false → RowStep node row beside contents (input.Call session c) (only (reply.Refused NotGranted)) row beside
  not_granted (command.Create id kind n) other = stays node row beside contents h (input.Call session (command.Create id kind n)) (reply.Refused NotGranted) (foreign_is id (command.Create id kind n) _ other refl) refl refl refl
  not_granted (command.Write id offset bytes) other = stays node row beside contents h (input.Call session (command.Write id offset bytes)) (reply.Refused NotGranted) (foreign_is id (command.Write id offset bytes) _ other refl) refl refl refl
  not_granted (command.Seal id) other = stays node row beside contents h (input.Call session (command.Seal id)) (reply.Refused NotGranted) (foreign_is id (command.Seal id) _ other refl) refl refl refl
  not_granted (command.Get id) other = stays node row beside contents h (input.Call session (command.Get id)) (reply.Refused NotGranted) (foreign_is id (command.Get id) _ other refl) refl refl refl
  not_granted (command.Read id offset n) other = stays node row beside contents h (input.Call session (command.Read id offset n)) (reply.Refused NotGranted) (foreign_is id (command.Read id offset n) _ other refl) refl refl refl
  not_granted (command.Release id) other = stays node row beside contents h (input.Call session (command.Release id)) (reply.Refused NotGranted) (foreign_is id (command.Release id) _ other refl) refl refl refl
  not_granted (command.Unpin id task) other = stays node row beside contents h (input.Call session (command.Unpin id task)) (reply.Refused NotGranted) (foreign_is id (command.Unpin id task) _ other refl) refl refl refl
  not_granted (command.Borrow id task) other = stays node row beside contents h (input.Call session (command.Borrow id task)) (reply.Refused NotGranted) (foreign_is id (command.Borrow id task) _ other refl) refl refl refl
  not_granted (command.GiveUp id task) other = stays node row beside contents h (input.Call session (command.GiveUp id task)) (reply.Refused NotGranted) (foreign_is id (command.GiveUp id task) _ other refl) refl refl refl
  not_granted (command.Delete id) other = stays node row beside contents h (input.Call session (command.Delete id)) (reply.Refused NotGranted) (foreign_is id (command.Delete id) _ other refl) refl refl refl
  not_granted _ other = absurd cc

-- a command that asks for no work waits for no room
pub plain_waits_not : (node : ℕ) (row : Row) (line : WorkLine) (c : Command (List ℕ)) → is_plain c ≡ true → IsRoomDue node row line c
plain_waits_not node row line (command.Create id kind n) plain = true_false plain
plain_waits_not node row line (command.Get id) plain = true_false plain
plain_waits_not node row line _ plain = tt

-- no grant stands against a command that a row carries out
pub row_by_grants : (node : Hosted) (row : Row) (job : ℕ) (c : Command (List ℕ)) → is_of_row c ≡ true → grants_check node row job c ≡ None
row_by_grants node row job (command.Grant id target) of_row = true_false of_row
row_by_grants node row job (command.Withdraw id target) of_row = true_false of_row
row_by_grants node row job (command.Peek id offset n) of_row = true_false of_row
row_by_grants node row job _ of_row = refl

-- what follows from a result follows where there is one
pub if_ok : {X : Type 0} {E : Type 0} {P Q : X → Type 0} (r : Result X E) → IfOk r P → ((x : X) → P x → Q x) → IfOk r Q
if_ok (Ok x) h k = k x h
if_ok (Err e) h k = tt

pub if_ok_on : {X : Type 0} {E : Type 0} {P R : X → Type 0} {Q : Type 0} (r : Result X E) → IfOk r P → OnOk r Q → ((x : X) → P x → Q → R x) → IfOk r R
if_ok_on (Ok x) h q k = k x h q
if_ok_on (Err e) h q k = tt

pub always_ok : {X : Type 0} {E : Type 0} {P : Type 0} (r : Result X E) → P → OnOk r P
always_ok (Ok x) p = p
always_ok (Err e) p = tt

-- there is no error of which nothing can be so
pub no_err : {X : Type 0} {E : Type 0} {P : Type 0} (r : Result X E) → OnErr r P → (P → ⊥) → IsOk r
no_err (Ok x) h k = refl
no_err (Err e) h k = absurd (k h)

pub always_err : {X : Type 0} {E : Type 0} {P : Type 0} (r : Result X E) → P → OnErr r P
always_err (Ok x) p = tt
always_err (Err e) p = p

pub both_err : {X : Type 0} {E : Type 0} {P Q R : Type 0} (r : Result X E) → OnErr r P → OnErr r Q → (P → Q → R) → OnErr r R
both_err (Ok x) h i k = tt
both_err (Err e) h i k = k h i

pub if_err : {X : Type 0} {E : Type 0} {P Q : E → Type 0} (r : Result X E) → IfErr r P → ((e : E) → P e → Q e) → IfErr r Q
if_err (Ok x) h k = tt
if_err (Err e) h k = k e h
