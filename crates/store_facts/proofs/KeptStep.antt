-- Every step of a job's store keeps what `IsShapeKept` says.
use Rattle.std.proofs.Common.{◌≡◌, ℕ, Bool, true, false, not, ◌==◌, List, [], ◌∷◌, None, is_some, refl, sym, ap, subst, arith}
use Rattle.std.specs.List.{find}
use Rattle.std.proofs.lemmas.Bool.{eqb-true}
use Rattle.obj_id.specs.declared.ids.ObjectId.{ObjectId}
use Rattle.obj_id.specs.declared.works.Quota.{Quota}
use Rattle.obj_id.specs.declared.commands.Command.{Command}
use Rattle.obj_id.specs.declared.commands.Command.TheVariants as command
use Rattle.obj_id.specs.declared.refusals.Refusal.{Refusal}
use Rattle.obj_id.specs.declared.refusals.Refusal.TheVariants.{NotAdmitted, Stale, BadSize, NotGranted}
use Rattle.private_store.specs.declared.inputs.Judged.{Judged}
use Rattle.private_store.specs.declared.inputs.Judged.TheVariants as judged
use Rattle.private_store.specs.declared.inputs.WorkVerdict.{WorkVerdict}
use Rattle.private_store.specs.rules.Limits.{is_quota}
use Rattle.private_store.specs.rules.Shape.{Shape, Change, not_begun, live, ended, unbegun}
use Rattle.private_store.specs.rules.Change.{refused, done, checked, sending, erasing}
use Rattle.private_store.specs.rules.Commands.{list, usage}
use Rattle.private_store.specs.rules.Events.{is_live, begin, requota, over, end_job_here, answer, work_of}
use Rattle.private_store.specs.rules.Step.{owned, commanded, step}
use Rattle.private_store.specs.laws.Invariants.{IsOrderOfUse, IsShapeKept}
use Rattle.store_facts.proofs.Checks.{needing-none}
use Rattle.store_facts.proofs.KeptRows.{IsLiveKept, to_live, from_live}
use Rattle.store_facts.proofs.KeptStore.{Keeps, same_keeps, checked_keeps, check_keeps, checks_keep}
use Rattle.store_facts.proofs.KeptCommands.{write_keeps, seal_keeps, read_keeps, peek_keeps, release_keeps, unpin_keeps, borrow_keeps, give_up_keeps, delete_keeps, leave_keeps}
use Rattle.store_facts.proofs.KeptEndTask.{end_task_keeps}
use Rattle.store_facts.proofs.KeptGrants.{grant_keeps, withdraw_keeps}
use Rattle.store_facts.proofs.KeptGet.{create_keeps, get_keeps}
use Rattle.store_facts.proofs.KeptFetches.{located_keeps, chunk_keeps, not_here_keeps, pull_keeps}
use Rattle.store_facts.proofs.KeptAnswers.{answer_keeps}
use Rattle.store_facts.proofs.KeptGrantsTaken.{received_keeps, withdrawn_keeps}
use Rattle.store_facts.proofs.Tests.{false_true, passed, true_false}

-- ---- the commands

module _ (order : List ObjectId) (once : IsOrderOfUse order) {store : Shape} (h : IsLiveKept store) where
  owned_keeps : (id : ObjectId) (c : Change) → (id.job.0 ≡ store.job → Keeps c) → Keeps (owned store id c)
  owned_keeps id c k = check_keeps h (not (id.job.0 == store.job)) NotGranted [] c (λ e. checks_keep h c (k (eqb-true id.job.0 store.job (passed (id.job.0 == store.job) e))))

  commanded_keeps : (session : ℕ) (c : Command ℕ) → Keeps (commanded order store session c)
  commanded_keeps session (command.Create id kind n) = owned_keeps id _ (λ own. create_keeps order once h id kind n own)
  commanded_keeps session (command.Write id offset n) = owned_keeps id _ (λ own. write_keeps h id offset n)
  commanded_keeps session (command.Seal id) = owned_keeps id _ (λ own. seal_keeps h id)
  commanded_keeps session (command.Get id) = owned_keeps id _ (λ own. get_keeps order once h session id own)
  commanded_keeps session (command.Read id offset n) = owned_keeps id _ (λ own. read_keeps h session id offset n)
  commanded_keeps session (command.Release id) = owned_keeps id _ (λ own. release_keeps h session id)
  commanded_keeps session (command.Unpin id task) = owned_keeps id _ (λ own. unpin_keeps h id task)
  commanded_keeps session (command.Borrow id task) = owned_keeps id _ (λ own. borrow_keeps h id task)
  commanded_keeps session (command.GiveUp id task) = owned_keeps id _ (λ own. give_up_keeps h id task)
  commanded_keeps session (command.Delete id) = owned_keeps id _ (λ own. delete_keeps h id)
  commanded_keeps session (command.EndTask task) = end_task_keeps store h task
  commanded_keeps session (command.Grant id target) = grant_keeps h id target.0
  commanded_keeps session (command.Withdraw id target) = withdraw_keeps h id target.0
  commanded_keeps session (command.Peek id offset n) = peek_keeps h id offset n
  commanded_keeps session command.List = same_keeps h (list store) refl
  commanded_keeps session command.Usage = same_keeps h (usage store) refl
  commanded_keeps session command.Leave = leave_keeps h session

  requota_keeps : (quota : Quota) → Keeps (requota store quota)
  requota_keeps quota = check_keeps h (not (is_quota quota)) BadSize _ _ (λ q. checked_keeps h _ _ (record {
    is = record { live = h.live; quota = passed (is_quota quota) q; rows = h.rows; works = h.works; grants = h.grants; fetches = h.fetches; ended = h.ended };
  }))

-- ---- the begin and the end

-- the store of a job that is not admitted
pub unbegun_kept : (job : ℕ) → IsShapeKept (unbegun job)
unbegun_kept job = record {
  dead = λ _. (refl, refl, refl, refl);
  quota = λ l. true_false l;
  by_id = refl;
  each = λ id copy e. true_false (ap is_some e);
  works_of_copies = λ id e. refl;
  one_work = λ id. omega arith;
  numbers_used = refl;
  one_number = λ n. omega arith;
  numbers_end = (omega arith, omega arith);
  grants_of_copies = λ id j e. refl;
  own_grants = refl;
  most_copies = omega arith;
  most_works = omega arith;
  most_grants = omega arith;
  most_ended = omega arith;
}

over_kept : (store : Shape) → IsShapeKept (over store)
over_kept store =
    let h = unbegun_kept store.job in
    record {
      dead = λ _. (refl, refl, refl, refl);
      quota = λ l. true_false l;
      by_id = h.by_id;
      each = h.each;
      works_of_copies = h.works_of_copies;
      one_work = h.one_work;
      numbers_used = h.numbers_used;
      one_number = h.one_number;
      numbers_end = h.numbers_end;
      grants_of_copies = h.grants_of_copies;
      own_grants = h.own_grants;
      most_copies = h.most_copies;
      most_works = h.most_works;
      most_grants = h.most_grants;
      most_ended = h.most_ended;
    }

begun_kept : (store : Shape) (quota : Quota) → is_quota quota ≡ true → IsShapeKept store → IsShapeKept (record store { life = live; quota = quota })
begun_kept store quota q h = record {
  dead = λ d. false_true d;
  quota = λ _. q;
  by_id = h.by_id;
  each = h.each;
  works_of_copies = h.works_of_copies;
  one_work = h.one_work;
  numbers_used = h.numbers_used;
  one_number = h.one_number;
  numbers_end = h.numbers_end;
  grants_of_copies = h.grants_of_copies;
  own_grants = h.own_grants;
  most_copies = h.most_copies;
  most_works = h.most_works;
  most_grants = h.most_grants;
  most_ended = h.most_ended;
}

module _ (store : Shape) (h : IsShapeKept store) where
  -- the rest is done where the test doesn't hold
  one_check : (b : Bool) (r : Refusal) (c : Change) → (b ≡ false → IsShapeKept c.shape) → IsShapeKept (checked store ((b, r) ∷ []) c).shape
  unfolding checked
  one_check true r c k = h
  one_check false r c k = k refl

  record KeptAfter (c : Change) : Type 0 where
    is : IsShapeKept c.shape

  begin_kept : (quota : Quota) → KeptAfter (begin store quota)
  begin_kept quota =
      elim store.life as (λ l. KeptAfter (elim l [ not_begun ↦ checked store ((not (is_quota quota), BadSize) ∷ []) (done (record store { life = live; quota = quota })) | _ ↦ refused store Stale ])) [
        | not_begun ↦ record { is = one_check (not (is_quota quota)) BadSize (done (record store { life = live; quota = quota })) (λ q. begun_kept store quota (passed (is_quota quota) q) h) }
        | live ↦ record { is = h }
        | ended ↦ record { is = h }
      ]

  -- what is done where the store is live
  living : (r : Refusal) (c : Change) → (IsLiveKept store → Keeps c) → IsShapeKept (checked store ((not (is_live store), r) ∷ []) c).shape
  living r c k = one_check (not (is_live store)) r c (λ l. from_live c.shape (k (to_live store h (passed (is_live store) l))).is)

  answer_kept : (number : ℕ) (verdict : WorkVerdict) → IsShapeKept (answer store number verdict).shape
  answer_kept number verdict = by_life (is_live store) refl
    where
      by_life : (b : Bool) → is_live store ≡ b → IsShapeKept (answer store number verdict).shape
      by_life true l = from_live (answer store number verdict).shape (answer_keeps (to_live store h l) number verdict).is
      by_life false l =
          let none : work_of store number ≡ None = ap (λ works. find (λ work. work.number == number) works) (h.dead l).1 in
          subst (λ c. IsShapeKept c.shape) (sym (needing-none store (work_of store number) Stale _ none)) h

  end_kept : IsShapeKept (end_job_here store).shape
  unfolding sending
  end_kept = over_kept store

-- ---- every input

pub step_keeps : (order : List ObjectId) (store : Shape) (x : Judged) → IsOrderOfUse order → IsShapeKept store → IsShapeKept (step order store x).shape
step_keeps order store (judged.Begin quota) once h = (begin_kept store h quota).is
step_keeps order store (judged.Requota quota) once h = living store h Stale _ (λ k. requota_keeps order once k quota)
step_keeps order store (judged.Call session c) once h = living store h NotAdmitted _ (λ k. record { is = (commanded_keeps order once k session c).is })
step_keeps order store (judged.Answer number verdict) once h = answer_kept store h number verdict
step_keeps order store (judged.Located id number source) once h = living store h Stale _ (λ k. located_keeps k id number source)
step_keeps order store (judged.Chunk id number index from verdict) once h = living store h Stale _ (λ k. chunk_keeps k id number index from verdict)
step_keeps order store (judged.Pull id number matches) once h = living store h Stale _ (λ k. pull_keeps k order once id matches)
step_keeps order store (judged.NotHere id number from) once h = living store h Stale _ (λ k. not_here_keeps k id number from)
step_keeps order store (judged.Received id n grantor depth) once h = received_keeps store id n grantor.0 depth h
step_keeps order store (judged.Withdrawn id grantor depth) once h = withdrawn_keeps store id grantor.0 depth h
step_keeps order store judged.End once h = one_check store h (not (is_live store)) Stale (erasing store (end_job_here store)) (λ _. end_kept store h)
