-- A command of grants of others' objects, a list, or a note of a grant leaves a store's own part; and so does a Grant of an
-- own object that is refused.
use Rattle.std.proofs.Common.{◌≡◌, ℕ, Bool, true, false, not, cond, ◌==◌, ◌&&◌, ◌||◌, List, [], ◌∷◌, ◌++◌, filter, Option, Some, None, is_none, refl, sym, ap, subst, ◌∙◌, T}
use Rattle.std.specs.Option.{option_map_or}
use Rattle.std.specs.List.{list_all, list_any}
use Rattle.std.proofs.lemmas.List.{append-nil}
use Rattle.std.proofs.lemmas.List.Elements.{filter-append}
use Rattle.obj_id.specs.declared.ids.ObjectId.{ObjectId}
use Rattle.obj_id.specs.declared.commands.Command.{Command}
use Rattle.obj_id.specs.declared.commands.Command.TheVariants as command
use Rattle.obj_id.specs.declared.refusals.Refusal.{Refusal}
use Rattle.obj_id.specs.declared.refusals.Refusal.TheVariants.{NotGranted}
use Rattle.obj_id.specs.Ids.{same_id}
use Rattle.store_facts.proofs.Ids.{same_id-equal}
use Rattle.private_store.specs.declared.inputs.Judged.{Judged}
use Rattle.private_store.specs.declared.inputs.Judged.TheVariants as judged
use Rattle.private_store.specs.rules.Tables.{at}
use Rattle.private_store.specs.rules.Shape.{Shape, Change, GrantGiven}
use Rattle.private_store.specs.rules.Copies.{is_idle}
use Rattle.private_store.specs.rules.Room.{drop_copy}
use Rattle.private_store.specs.rules.Change.{refused, erasing, settled}
use Rattle.private_store.specs.rules.Commands.{withdraw, peek}
use Rattle.private_store.specs.rules.Events.{withdrawn, is_the_grant, grant_ended, is_child_of}
use Rattle.private_store.specs.rules.Step.{commanded, step}
use Rattle.private_store.specs.laws.Invariants.{IsShapeKept}
use Rattle.store_facts.proofs.Checks.{checked_has, needing_has}
use Rattle.store_facts.proofs.Tests.{true_false, true_T, not_true, both, both_left, both_right}
use Rattle.run_laws.proofs.WhatEnds.{and_no}
use Rattle.run_laws.proofs.GrantInputs.{IsGrant, left, gave, grant_is}
use Rattle.run_laws.proofs.OwnParts.{own_grants, own_part, HasOwn}

-- the own part stays, nothing is sent, and no copy is used
pub record IsAside (store : Shape) (c : Change) : Type 0 where
  pub own : own_part c.shape ≡ own_part store
  pub silent : c.sent ≡ []
  pub unused : c.used ≡ None

kept_aside : (store : Shape) (r : Refusal) → IsAside store (refused store r)
kept_aside store r = record { own = refl; silent = refl; unused = refl }

-- ---- lists of grants

-- what keeps all grants of own objects keeps their list
own_kept : (job : ℕ) (keep : GrantGiven → Bool) (grants : List GrantGiven) → list_all (λ a_grant. not (a_grant.id.job.0 == job) || keep a_grant) grants ≡ true → own_grants job (filter keep grants) ≡ own_grants job grants
own_kept job keep [] all = refl
own_kept job keep (a_grant ∷ grants) all =
    let first = both_left (not (a_grant.id.job.0 == job) || keep a_grant) (list_all (λ a_grant. not (a_grant.id.job.0 == job) || keep a_grant) grants) all in
    let rest = own_kept job keep grants (both_right (not (a_grant.id.job.0 == job) || keep a_grant) (list_all (λ a_grant. not (a_grant.id.job.0 == job) || keep a_grant) grants) all) in
    elim (a_grant.id.job.0 == job) as (λ b. (a_grant.id.job.0 == job) ≡ b → not b || keep a_grant ≡ true → own_grants job (cond (keep a_grant) (a_grant ∷ filter keep grants) (filter keep grants)) ≡ cond b (a_grant ∷ own_grants job grants) (own_grants job grants)) [
      | true ↦ λ own kept.
          ap (λ b. own_grants job (cond b (a_grant ∷ filter keep grants) (filter keep grants))) kept
          ∙ ap (λ b. cond b (a_grant ∷ own_grants job (filter keep grants)) (own_grants job (filter keep grants))) own
          ∙ ap (λ l. a_grant ∷ l) rest
      | false ↦ λ foreign _.
          elim (keep a_grant) as (λ k. own_grants job (cond k (a_grant ∷ filter keep grants) (filter keep grants)) ≡ own_grants job grants) [
            | true ↦ ap (λ b. cond b (a_grant ∷ own_grants job (filter keep grants)) (own_grants job (filter keep grants))) foreign ∙ rest
            | false ↦ rest
          ]
    ] refl first

all_of : (test : GrantGiven → Bool) (grants : List GrantGiven) → ((a_grant : GrantGiven) → test a_grant ≡ true) → list_all test grants ≡ true
all_of test [] each = refl
all_of test (a_grant ∷ grants) each = both (test a_grant) (list_all test grants) (each a_grant) (all_of test grants each)

all_more : (p q : GrantGiven → Bool) (grants : List GrantGiven) → ((a_grant : GrantGiven) → p a_grant ≡ true → q a_grant ≡ true) → list_all p grants ≡ true → list_all q grants ≡ true
all_more p q [] each all = refl
all_more p q (a_grant ∷ grants) each all = both (q a_grant) (list_all q grants) (each a_grant (both_left (p a_grant) (list_all p grants) all)) (all_more p q grants each (both_right (p a_grant) (list_all p grants) all))

given_aside : (store : Shape) (keep : GrantGiven → Bool) → list_all (λ a_grant. not (a_grant.id.job.0 == store.job) || keep a_grant) store.given ≡ true → own_part (record store { given = filter keep store.given }) ≡ own_part store
given_aside store keep all = λ i. record (own_part store) { given = own_kept store.job keep store.given all i }

-- ---- grants

foreign_grant : (store : Shape) (id : ObjectId) (target : ℕ) (c : Change) → (id.job.0 == store.job) ≡ false → IsGrant store id target c → IsAside store c
foreign_grant store id target c foreign (left r s t m u) = record { own = ap own_part s; silent = m; unused = u }
foreign_grant store id target c foreign (gave below n s t m u) =
    let a_grant : GrantGiven = record { id = id; target = target; parent = below } in
    record {
      own = ap own_part s ∙ (λ i. record (own_part store) { given = added a_grant foreign i });
      silent = m;
      unused = u;
    }
  where
    added : (a_grant : GrantGiven) → (a_grant.id.job.0 == store.job) ≡ false → own_grants store.job (store.given ++ a_grant ∷ []) ≡ own_grants store.job store.given
    added a_grant not_own = filter-append (λ h. h.id.job.0 == store.job) store.given (a_grant ∷ []) ∙ ap (λ b. own_grants store.job store.given ++ cond b (a_grant ∷ []) []) not_own ∙ append-nil (own_grants store.job store.given)

-- ---- withdrawals

foreign_settled : (store : Shape) (id : ObjectId) → HasOwn store → (id.job.0 == store.job) ≡ false → settled store id ≡ store
foreign_settled store id has foreign =
    elim (at store.copies id) as (λ o. at store.copies id ≡ o → option_map_or (λ copy. cond (copy.doomed && is_idle store id copy) (drop_copy store id) store) o store ≡ store) [
      | None ↦ λ _. refl
      | Some copy ↦ λ e. true_false (sym foreign ∙ has id copy e)
    ] refl

foreign_withdraw : (store : Shape) (id : ObjectId) (target : ℕ) → HasOwn store → (id.job.0 == store.job) ≡ false → IsAside store (withdraw store id target)
foreign_withdraw store id target has foreign =
    let keep : GrantGiven → Bool = λ a_grant. not (same_id id a_grant.id && a_grant.target == target) in
    let left : Shape = record store { given = filter keep store.given } in
    checked_has (IsAside store) store _ _ (kept_aside store) (record {
      own = ap own_part (foreign_settled left id has foreign) ∙ given_aside store keep (all_of (λ a_grant. not (a_grant.id.job.0 == store.job) || keep a_grant) store.given others);
      silent = refl;
      unused = refl;
    })
  where
    others : (a_grant : GrantGiven) → not (a_grant.id.job.0 == store.job) || not (same_id id a_grant.id && a_grant.target == target) ≡ true
    others a_grant =
        elim (same_id id a_grant.id) as (λ b. same_id id a_grant.id ≡ b → not (a_grant.id.job.0 == store.job) || not (b && a_grant.target == target) ≡ true) [
          | true ↦ λ t. ap (λ b. not b || not (a_grant.target == target)) (ap (λ x. x.job.0 == store.job) (sym (same_id-equal id a_grant.id t)) ∙ foreign)
          | false ↦ λ _. or_true (not (a_grant.id.job.0 == store.job))
        ] refl
      where
        or_true : (b : Bool) → b || true ≡ true
        or_true true = refl
        or_true false = refl

-- ---- notes

withdrawn_aside : (store : Shape) → IsShapeKept store → (id : ObjectId) (grantor depth : ℕ) → IsAside store (withdrawn store id grantor depth)
withdrawn_aside store kept id grantor depth = record {
  own = elim (at store.received id) as (λ o. own_part (option_map_or (λ seen. cond (list_any (is_the_grant grantor depth) seen.grants) (grant_ended store id grantor depth seen) store) o store) ≡ own_part store) [
    | None ↦ refl
    | Some seen ↦ elim (list_any (is_the_grant grantor depth) seen.grants) as (λ b. own_part (cond b (grant_ended store id grantor depth seen) store) ≡ own_part store) [
      | true ↦ given_aside store (λ a_grant. not (is_child_of id grantor a_grant))
          (all_more (λ a_grant. not (a_grant.id.job.0 == store.job) || is_none a_grant.parent) (λ a_grant. not (a_grant.id.job.0 == store.job) || not (is_child_of id grantor a_grant)) store.given hangs_on_none
          (true_T (list_all (λ a_grant. not (a_grant.id.job.0 == store.job) || is_none a_grant.parent) store.given) (subst T (sym kept.own_grants) tt)))
      | false ↦ refl
    ]
  ];
  silent = refl;
  unused = refl;
}
  where
    hangs_on_none : (a_grant : GrantGiven) → not (a_grant.id.job.0 == store.job) || is_none a_grant.parent ≡ true → not (a_grant.id.job.0 == store.job) || not (is_child_of id grantor a_grant) ≡ true
    hangs_on_none a_grant = by (not (a_grant.id.job.0 == store.job)) (same_id id a_grant.id) a_grant.parent
      where
        by : (b c : Bool) (o : Option ℕ) → b || is_none o ≡ true → b || not (c && option_map_or (λ g. g == grantor) o false) ≡ true
        by true c o e = refl
        by false c None e = ap not (and_no c)
        by false c (Some g) e = true_false e

-- ---- all of them

abbrev pub is_aside_command : ℕ → Command ℕ → Bool
is_aside_command job (command.Grant id target) = not (id.job.0 == job)
is_aside_command job (command.Withdraw id target) = not (id.job.0 == job)
is_aside_command job (command.Peek id offset n) = true
is_aside_command job command.List = true
is_aside_command job _ = false

abbrev pub is_aside_input : ℕ → Judged → Bool
is_aside_input job (judged.Call session c) = is_aside_command job c
is_aside_input job (judged.Received id n grantor depth) = true
is_aside_input job (judged.Withdrawn id grantor depth) = true
is_aside_input job _ = false

erased_aside : (store : Shape) (c : Change) → IsAside store c → IsAside store (erasing store c)
erased_aside store c h = record { own = h.own; silent = h.silent; unused = h.unused }

peek_aside : (store : Shape) (id : ObjectId) (offset n : ℕ) → IsAside store (peek store id offset n)
peek_aside store id offset n =
    checked_has (IsAside store) store _ _ (kept_aside store) (needing_has (IsAside store) store _ _ _ (kept_aside store NotGranted) (λ seen _. checked_has (IsAside store) store _ _ (kept_aside store) (record { own = refl; silent = refl; unused = refl })))

module _ (order : List ObjectId) (store : Shape) (kept : IsShapeKept store) (has : HasOwn store) where
  call_aside : (session : ℕ) (c : Command ℕ) → IsAside store (commanded order store session c) → IsAside store (step order store (judged.Call session c))
  call_aside session c h = checked_has (IsAside store) store _ _ (kept_aside store) (erased_aside store (commanded order store session c) h)

  pub step_aside : (x : Judged) → is_aside_input store.job x ≡ true → IsAside store (step order store x)
  step_aside (judged.Call session (command.Grant id target)) p = foreign_grant store id target.0 _ (not_true (id.job.0 == store.job) p) (grant_is order store session id target.0)
  step_aside (judged.Call session (command.Withdraw id target)) p = call_aside session (command.Withdraw id target) (foreign_withdraw store id target.0 has (not_true (id.job.0 == store.job) p))
  step_aside (judged.Call session (command.Peek id offset n)) p = call_aside session (command.Peek id offset n) (peek_aside store id offset n)
  step_aside (judged.Call session command.List) p = call_aside session command.List (record { own = refl; silent = refl; unused = refl })
  step_aside (judged.Received id n grantor depth) p = record { own = refl; silent = refl; unused = refl }
  step_aside (judged.Withdrawn id grantor depth) p = withdrawn_aside store kept id grantor.0 depth
  step_aside (judged.Call session c) p = true_false p
  step_aside x p = true_false p
