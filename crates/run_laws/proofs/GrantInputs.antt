-- What the inputs that may change grants do to the grants in a store: a Grant, a Withdraw, an EndTask and the job's end.
use Rattle.std.proofs.Common.{◌≡◌, ℕ, Bool, true, false, not, cond, ◌==◌, ◌&&◌, List, [], ◌∷◌, ◌++◌, filter, Option, Some, None, refl, sym, ap, subst, ◌∙◌}
use Rattle.obj_id.specs.declared.ids.ObjectId.{ObjectId}
use Rattle.obj_id.specs.declared.ids.TaskNo.{TaskNo}
use Rattle.obj_id.specs.declared.commands.Command.TheVariants as command
use Rattle.obj_id.specs.declared.commands.Reply.TheVariants as reply
use Rattle.obj_id.specs.declared.refusals.Refusal.{Refusal}
use Rattle.obj_id.specs.declared.refusals.Refusal.TheVariants.{Absent, Stale, NotGranted}
use Rattle.obj_id.specs.Ids.{same_id, same_task}
use Rattle.private_store.specs.declared.inputs.Judged.TheVariants as judged
use Rattle.private_store.specs.rules.Tables.{ids_of}
use Rattle.private_store.specs.rules.Shape.{Shape, Change, GrantGiven}
use Rattle.private_store.specs.rules.Copies.{visible}
use Rattle.private_store.specs.rules.Change.{refused, done, sending, erasing, doom}
use Rattle.private_store.specs.rules.Commands.{at_each, give_up_one, of_task, task_ended, grant, grant_own, grant_foreign, oldest}
use Rattle.private_store.specs.rules.Events.{end_job_here, is_live}
use Rattle.private_store.specs.rules.Step.{step}
use Rattle.store_facts.proofs.StepParts.{task_left_unused}
use Rattle.store_facts.proofs.Tests.{true_false}
use Rattle.store_facts.proofs.Checks.{checked-nil, checked-true, checked-false, checked_has, needing_has}
use Rattle.run_laws.proofs.GrantsStay.{SameGrants, same_grants, settled_still, doom_still, give_up_one_still, at_each_still}

-- what a Grant of any object does: it is refused, or the grant is given
pub data IsGrant (store : Shape) (id : ObjectId) (target : ℕ) (c : Change) : Type 0 where
  left : (r : Refusal) → c.shape ≡ store → c.reply ≡ reply.Refused r → c.sent ≡ [] → c.used ≡ None → IsGrant store id target c
  gave : (below : Option ℕ) → (id.job.0 == store.job ≡ true → below ≡ None) → c.shape ≡ record store { given = store.given ++ record { id = id; target = target; parent = below } ∷ [] } → c.reply ≡ reply.Ok → c.sent ≡ [] → c.used ≡ None → IsGrant store id target c

is_grant : (store : Shape) (id : ObjectId) (target : ℕ) → IsGrant store id target (grant store id target)
is_grant store id target =
    elim (id.job.0 == store.job) as (λ b. (id.job.0 == store.job) ≡ b → P (cond b (grant_own store id target) (grant_foreign store id target))) [
      | true ↦ λ _. checked_has P store _ _ no (needing_has P store (visible store id) Absent _ (no Absent) (λ copy v. checked_has P store _ _ no (gave None (λ _. refl) refl refl refl refl)))
      | false ↦ λ foreign. checked_has P store _ _ no (needing_has P store (oldest store id) NotGranted _ (no NotGranted) (λ a_grant o. checked_has P store _ _ no
          (gave (Some a_grant.grantor) (λ own. true_false (sym foreign ∙ own)) refl refl refl refl)))
    ] refl
  where
    P : Change → Type 0
    P = IsGrant store id target

    no : (r : Refusal) → P (refused store r)
    no r = left r refl refl refl refl

erased_grant : (store : Shape) (id : ObjectId) (target : ℕ) (c : Change) → IsGrant store id target c → IsGrant store id target (erasing store c)
erased_grant store id target c (left r s t m u) = left r s t m u
erased_grant store id target c (gave below n s t m u) = gave below n s t m u

pub grant_is : (order : List ObjectId) (store : Shape) (session : ℕ) (id : ObjectId) (target : ℕ) → IsGrant store id target (step order store (judged.Call session (command.Grant id (record { 0 = target }))))
grant_is order store session id target = checked_has (IsGrant store id target) store _ _ (λ r. left r refl refl refl refl) (erased_grant store id target _ (is_grant store id target))

-- ---- ends

abbrev NotOk : Change → Type 0
NotOk c = c.reply ≡ reply.Ok → ⊥

-- an end is refused and changes nothing here, or is accepted and leaves the grants that the test keeps
pub data EndDone (keep : GrantGiven → Bool) (store : Shape) (c : Change) : Type 0 where
  left : SameGrants store c.shape → NotOk c → EndDone keep store c
  ended : c.shape.job ≡ store.job → c.shape.given ≡ filter keep store.given → c.shape.received ≡ store.received → c.reply ≡ reply.Ok → EndDone keep store c

refused_end : (keep : GrantGiven → Bool) (store : Shape) (r : Refusal) → EndDone keep store (refused store r)
refused_end keep store r = left (same_grants store) (λ e. cc)

erased_end : (keep : GrantGiven → Bool) (store : Shape) (c : Change) → EndDone keep store c → EndDone keep store (erasing store c)
erased_end keep store c (left s n) = left s n
erased_end keep store c (ended j g r t) = ended j g r t

abbrev pub keeps_others : ObjectId → ℕ → GrantGiven → Bool
keeps_others id target a_grant = not (same_id id a_grant.id && a_grant.target == target)

abbrev pub keeps_other_tasks : ℕ → TaskNo → GrantGiven → Bool
keeps_other_tasks job task a_grant = not (a_grant.id.job.0 == job && same_task task a_grant.id.task)

pub withdraw_step : (order : List ObjectId) (store : Shape) (session : ℕ) (id : ObjectId) (target : ℕ) → EndDone (keeps_others id target) store (step order store (judged.Call session (command.Withdraw id (record { 0 = target }))))
withdraw_step order store session id target =
    let keep = keeps_others id target in
    checked_has (EndDone keep store) store _ _ (refused_end keep store) (erased_end keep store _
    (checked_has (EndDone keep store) store _ _ (refused_end keep store)
    (let s = settled_still (record store { given = filter keep store.given }) id in ended s.job s.given s.received refl)))

pub end_task_step : (order : List ObjectId) (store : Shape) (session : ℕ) (task : TaskNo) → EndDone (keeps_other_tasks store.job task) store (step order store (judged.Call session (command.EndTask task)))
end_task_step order store session task =
    let keep = keeps_other_tasks store.job task in
    let start = task_ended store task in
    let ids = ids_of store.copies in
    checked_has (EndDone keep store) store _ _ (refused_end keep store) (erased_end keep store _
    (checked_has (EndDone keep store) store _ _ (refused_end keep store)
    (let s = at_each_still (give_up_one task) (give_up_one_still task) start ids (at_each doom (of_task task ids) (done start))
    (at_each_still doom doom_still start (of_task task ids) (done start) (same_grants start)) in
    ended s.job s.given s.received (task_left_unused (judged.Call session (command.EndTask task)) (λ q. (refl, refl)) refl store task).told)))

-- after the end of a job nothing is given by it
pub data JobEndDone (store : Shape) (c : Change) : Type 0 where
  was_dead : is_live store ≡ false → SameGrants store c.shape → JobEndDone store c
  is_over : c.shape.job ≡ store.job → c.shape.given ≡ [] → c.shape.received ≡ store.received → JobEndDone store c

over_now : (store : Shape) → JobEndDone store (erasing store (end_job_here store))
unfolding sending
over_now store = is_over refl refl refl

pub job_end_step : (order : List ObjectId) (store : Shape) → JobEndDone store (step order store judged.End)
job_end_step order store =
    let c = erasing store (end_job_here store) in
    elim (is_live store) as (λ b. is_live store ≡ b → JobEndDone store (step order store judged.End)) [
      | true ↦ λ e. subst (JobEndDone store) (sym (checked-false store (not (is_live store)) Stale [] c (ap not e) ∙ checked-nil store c)) (over_now store)
      | false ↦ λ e. subst (JobEndDone store) (sym (checked-true store (not (is_live store)) Stale [] c (ap not e))) (was_dead e (same_grants store))
    ] refl
