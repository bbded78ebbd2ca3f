-- The row of a job takes a Grant or a Withdraw: of an own object by its copy, of another job's by the grants alone.
use Rattle.std.proofs.Common.{◌≡◌, ℕ, ◌==◌, Bool, true, false, cond, not, List, Option, Some, None, refl, sym, ap, subst, ◌∙◌}
use Rattle.std.specs.List.{list_any}
use Rattle.std.proofs.lemmas.Bool.{eqb-true}
use Rattle.obj_id.specs.declared.ids.JobNo.{JobNo}
use Rattle.obj_id.specs.declared.ids.ObjectId.{ObjectId}
use Rattle.obj_id.specs.declared.commands.Command.{Command}
use Rattle.obj_id.specs.declared.commands.Command.TheVariants as command
use Rattle.obj_id.specs.declared.commands.Reply.TheVariants as reply
use Rattle.obj_id.specs.declared.refusals.Refusal.{Refusal}
use Rattle.obj_id.specs.declared.refusals.Refusal.TheVariants.{BadId, Gone, Absent, NotResident}
use Rattle.obj_id.specs.Kinds.{is_primary}
use Rattle.private_store.specs.declared.inputs.Input.{Input}
use Rattle.private_store.specs.declared.inputs.Input.TheVariants as input
use Rattle.private_store.specs.rules.Copies.{is_sealed}
use Rattle.private_store.specs.rules.Change.{done, erasing, settled}
use Rattle.private_store.specs.rules.Commands.{is_sealed_primary}
use Rattle.private_store.specs.rules.Contents.{Contents, whole_reply}
use Rattle.private_store.specs.rules.Grants.{StandingGrant, with_grant, grants_left, is_withdrawn}
use Rattle.private_store.specs.laws.Invariants.{is_remembered}
use Rattle.private_store.specs.rules.Private.{view_step}
use Rattle.private_store.specs.rules.Tables.{at}
use Rattle.store_facts.proofs.Tests.{both_right}
use Rattle.grants.specs.Private.{without_given}
use Rattle.grants.specs.Table.{AreGrants, is_first, is_no_grantee, grant_check as table_check, withdraw_check}
use Rattle.grants.proofs.ForCallers.{refuses_alike}
use Rattle.spill_work.specs.Line.{WorkLine}
use Rattle.row_commands.specs.Granting.{row_grant_check, grants_made}
use Rattle.row_steps.specs.MemoryLast.{is_more, work_has_begun, may_grow}
use Rattle.row_commands.specs.Notes.{beside_rest}
use Rattle.job_row.specs.Row.{Row}
use Rattle.row_steps.specs.Shown.{seen, IsShown, RowGiven, only, RowStep}
use Rattle.row_steps.proofs.ForCallers.{unless_refused, called, past, there, not_not}
use Rattle.row_commands.proofs.ForCallers.{grant_refused, grant_done, lend_refused, lend_done, withdraw_refused, give_back_done, lengths, row_has_grants}
use Rattle.node_core.specs.Granting.{grant_refusal, TakesGrant, TakesWithdraw}
use Rattle.node_core.proofs.Granted.{IsSealedCopy}
use Rattle.row_steps.specs.Beside.{SharedTables, beside_of, shape_of}
use Rattle.row_copy.specs.Checks.{grant_check_of}

-- ---- what a Grant that passed its checks says

-- the table refuses it for nothing either
check_passed : (row : Row) (id : ObjectId) (target : ℕ) (table : Option Refusal) → row_grant_check row id target table ≡ None
    → IsSealedCopy row id × (table ≡ None)
check_passed row id target table e =
    let alive = past (is_remembered row.ended_tasks id.task) Gone _ (past (is_no_grantee id row.job target) BadId _ e).1 in
    let k = there (λ k. grant_check_of k table) Absent (at row.copies id) alive.1 in
    let resides = past (not (is_sealed_primary k.0.copy)) NotResident table (past k.0.copy.doomed Absent _ k.2).1 in
    (record { kept = k.0; found = k.1; sealed = both_right (is_primary k.0.copy.kind) (is_sealed k.0.copy.state) (not_not (is_sealed_primary k.0.copy) resides.0) }, resides.1)

pub table_passed : (row : Row) (job : ℕ) (id : ObjectId) (target : ℕ) (table : Option Refusal) → grant_refusal row job id target table ≡ None → table ≡ None
table_passed row job id target table = by (id.job.0 == job)
  where
    by : (b : Bool) → cond b (row_grant_check row id target table) table ≡ None → table ≡ None
    by true e = (check_passed row id target table e).1
    by false e = e

-- an own object has a sealed copy
pub own_sealed : (row : Row) (job : ℕ) (id : ObjectId) (target : ℕ) (table : Option Refusal) → (id.job.0 == job) ≡ true → grant_refusal row job id target table ≡ None → IsSealedCopy row id
own_sealed row job id target table mine e = (check_passed row id target table (ap (λ b. cond b (row_grant_check row id target table) table) (sym mine) ∙ e)).0

-- another job's object, as a test of the job numbers tells of it
pub foreign_is : (id : ObjectId) (job its : JobNo) → its ≡ id.job → (its.0 ≡ job.0 → ⊥) → (id.job.0 == job.0) ≡ false
foreign_is id job its is other = by (id.job.0 == job.0) refl
  where
    by : (b : Bool) → (id.job.0 == job.0) ≡ b → b ≡ false
    by false e = refl
    by true e = absurd (other (ap (λ (j : JobNo). j.0) is ∙ eqb-true id.job.0 job.0 e))

-- ---- the steps

module _ (old new : Row) (job : JobNo) (session : ℕ) (id : ObjectId) (target : JobNo) (response : RowGiven) where
  -- of an own object by what the row's own call says
  pub own_given : (mine : (id.job.0 == job.0) ≡ true) (table : Option Refusal) → grant_refusal old job.0 id target.0 table ≡ None
      → ((node : ℕ) (line : WorkLine) (grants : List StandingGrant) (bytes : ObjectId → List ℕ) (contents : Contents) → (id.job.0 == old.job) ≡ true
      → table ≡ table_check grants old.job id target.0 → IsShown old (beside_of line grants bytes old.job) contents
      → RowStep node old (beside_of line grants bytes old.job) contents (input.Call session (command.Grant id target)) response new
      (beside_of line (grants_made (row_grant_check old id target.0 table) grants id old.job target.0) bytes old.job))
      → TakesGrant old job.0 session id target response new
  own_given mine table passed step node line grants bytes contents own refused shown =
      let none = table_passed old job.0 id target.0 table passed in
      let says = table_passed old job.0 id target.0 (table_check grants job.0 id target.0) refused in
      let its = ap (λ b. cond b (row_grant_check old id target.0 table) table) (sym mine) ∙ passed in
      subst (λ n. RowStep node old (beside_of line grants bytes n) contents (input.Call session (command.Grant id target)) response new (beside_of line (with_grant grants id n target.0) bytes n)) own
      (subst (λ o. RowStep node old (beside_of line grants bytes old.job) contents (input.Call session (command.Grant id target)) response new (beside_of line (grants_made o grants id old.job target.0) bytes old.job)) its
      (step node line grants bytes contents (ap (λ n. id.job.0 == n) own ∙ mine) (none ∙ sym says ∙ ap (λ n. table_check grants n id target.0) (sym own))
      (subst (λ n. IsShown old (beside_of line grants bytes n) contents) (sym own) shown)))

  pub own_withdrawn : (mine : (id.job.0 == job.0) ≡ true) (granted : Bool)
      → ((node : ℕ) (line : WorkLine) (grants : List StandingGrant) (bytes : ObjectId → List ℕ) (contents : Contents) → AreGrants grants → (id.job.0 == old.job) ≡ true
      → withdraw_check grants old.job id target.0 ≡ None → granted ≡ list_any (is_first id) (grants_left (is_withdrawn old.job id target.0) grants)
      → IsShown old (beside_of line grants bytes old.job) contents
      → RowStep node old (beside_of line grants bytes old.job) contents (input.Call session (command.Withdraw id target)) response new
      (beside_rest line (is_withdrawn old.job id target.0) grants bytes old.job))
      → TakesWithdraw old job.0 session id target granted response new
  own_withdrawn mine granted step node line grants bytes contents table own stands says shown =
      subst (λ n. RowStep node old (beside_of line grants bytes n) contents (input.Call session (command.Withdraw id target)) response new (beside_rest line (is_withdrawn n id target.0) grants bytes n)) own
      (step node line grants bytes contents table (ap (λ n. id.job.0 == n) own ∙ mine) (ap (λ n. withdraw_check grants n id target.0) own ∙ stands)
      (says ∙ ap (λ n. list_any (is_first id) (grants_left (is_withdrawn n id target.0) grants)) (sym own))
      (subst (λ n. IsShown old (beside_of line grants bytes n) contents) (sym own) shown))

module _ (row : Row) (job : JobNo) (session : ℕ) (id : ObjectId) (target : JobNo) where
  -- of another job's object the row stays
  pub handed_on : (id.job.0 == job.0) ≡ false → TakesGrant row job.0 session id target (only reply.Ok) row
  handed_on foreign node line grants bytes contents own passed shown =
      subst (λ n. RowStep node row (beside_of line grants bytes n) contents (input.Call session (command.Grant id target)) (only reply.Ok) row (beside_of line (with_grant grants id n target.0) bytes n)) own
      (lend_done node line grants bytes row contents session id target (subst (λ n. IsShown row (beside_of line grants bytes n) contents) (sym own) shown)
      (ap (λ n. id.job.0 == n) own ∙ foreign)
      (ap (λ n. table_check grants n id target.0) own ∙ table_passed row job.0 id target.0 (table_check grants job.0 id target.0) passed))

  pub taken_back : (granted : Bool) → (id.job.0 == job.0) ≡ false → TakesWithdraw row job.0 session id target granted (only reply.Ok) row
  taken_back granted foreign node line grants bytes contents table own stands says shown =
      subst (λ n. RowStep node row (beside_of line grants bytes n) contents (input.Call session (command.Withdraw id target)) (only reply.Ok) row (beside_rest line (is_withdrawn n id target.0) grants bytes n)) own
      (give_back_done node line grants bytes row contents session id target (subst (λ n. IsShown row (beside_of line grants bytes n) contents) (sym own) shown)
      (ap (λ n. id.job.0 == n) own ∙ foreign) (ap (λ n. withdraw_check grants n id target.0) own ∙ stands))

-- ---- refusals, and what is due where there is none

-- a command of which more than a refusal comes
abbrev pub IsGrowing : ℕ → Row → SharedTables → Contents → ℕ → Command (List ℕ) → Type 0
IsGrowing node row beside contents session c = may_grow (seen row beside contents) (view_step node (seen row beside contents) (input.Call session c)) ≡ true

answers_more : (node : ℕ) (row : Row) (beside : SharedTables) (contents : Contents) (session : ℕ) (c : Command (List ℕ)) → (view_step node (seen row beside contents) (input.Call session c)).reply ≡ reply.Ok → IsGrowing node row beside contents session c
answers_more node row beside contents session c is = ap (is_more (work_has_begun (seen row beside contents) (view_step node (seen row beside contents) (input.Call session c)))) is

module _ (node : ℕ) (line : WorkLine) (grants : List StandingGrant) (bytes : ObjectId → List ℕ) (row : Row) (contents : Contents) (session : ℕ) (id : ObjectId) (target : JobNo)
    (h : IsShown row (beside_of line grants bytes row.job) contents) where
  abbrev beside : SharedTables
  beside = beside_of line grants bytes row.job

  abbrev asks : Input
  asks = input.Call session (command.Grant id target)

  abbrev ending : Input
  ending = input.Call session (command.Withdraw id target)

  abbrev table : Option Refusal
  table = table_check grants row.job id target.0

  refused_here : (r : Refusal) → grant_refusal row row.job id target.0 table ≡ Some r → RowStep node row beside contents asks (only (reply.Refused r)) row beside
  refused_here r = by (id.job.0 == row.job) refl
    where
      by : (b : Bool) → (id.job.0 == row.job) ≡ b → cond b (row_grant_check row id target.0 table) table ≡ Some r → RowStep node row beside contents asks (only (reply.Refused r)) row beside
      by true mine e =
          subst (λ o. RowStep node row beside contents asks (only (reply.Refused r)) row (beside_of line (grants_made o grants id row.job target.0) bytes row.job)) e
          (grant_refused node line grants bytes row contents session id target h mine table refl r e)
      by false foreign e = lend_refused node line grants bytes row contents session id target h foreign r e

  -- a Grant that passed its checks
  grant_due : grant_refusal row row.job id target.0 table ≡ None → (view_step node (seen row beside contents) asks).reply ≡ reply.Ok
  grant_due = by (id.job.0 == row.job) refl
    where
      by : (b : Bool) → (id.job.0 == row.job) ≡ b → cond b (row_grant_check row id target.0 table) table ≡ None → (view_step node (seen row beside contents) asks).reply ≡ reply.Ok
      by true mine e = sym (grant_done node line grants bytes row contents session id target h mine table refl e).reply
      by false foreign e = sym (lend_done node line grants bytes row contents session id target h foreign e).reply

  -- a Withdraw of a grant that stands
  withdraw_due : withdraw_check grants row.job id target.0 ≡ None → (view_step node (seen row beside contents) ending).reply ≡ reply.Ok
  withdraw_due stands =
      let whole = shape_of row beside in
      let c = done (settled (without_given whole grants id target.0) id) in
      ap (λ d. whole_reply (seen row beside contents) ending d.reply)
      (called row beside session (command.Withdraw id target)
      ∙ ap (erasing whole) ((refuses_alike (lengths bytes) grants whole (row_has_grants line grants bytes row)).withdrawal id target.0
      ∙ ap (λ o. unless_refused whole o c) stands))

module _ (node : ℕ) (line : WorkLine) (grants : List StandingGrant) (bytes : ObjectId → List ℕ) (job : JobNo) (row : Row) (contents : Contents) (session : ℕ) (id : ObjectId) (target : JobNo) (own : row.job ≡ job.0)
    (h : IsShown row (beside_of line grants bytes job.0) contents) where
  at_home : IsShown row (beside_of line grants bytes row.job) contents
  at_home = subst (λ n. IsShown row (beside_of line grants bytes n) contents) (sym own) h

  pub refused_grant : (r : Refusal) → grant_refusal row job.0 id target.0 (table_check grants job.0 id target.0) ≡ Some r
      → RowStep node row (beside_of line grants bytes job.0) contents (input.Call session (command.Grant id target)) (only (reply.Refused r)) row (beside_of line grants bytes job.0)
  refused_grant r e =
      subst (λ n. RowStep node row (beside_of line grants bytes n) contents (input.Call session (command.Grant id target)) (only (reply.Refused r)) row (beside_of line grants bytes n)) own
      (refused_here node line grants bytes row contents session id target at_home r
      (ap (λ n. grant_refusal row n id target.0 (table_check grants n id target.0)) own ∙ e))

  pub refused_withdraw : (r : Refusal) → withdraw_check grants job.0 id target.0 ≡ Some r
      → RowStep node row (beside_of line grants bytes job.0) contents (input.Call session (command.Withdraw id target)) (only (reply.Refused r)) row (beside_of line grants bytes job.0)
  refused_withdraw r e =
      subst (λ n. RowStep node row (beside_of line grants bytes n) contents (input.Call session (command.Withdraw id target)) (only (reply.Refused r)) row (beside_of line grants bytes n)) own
      (withdraw_refused node line grants bytes row contents session id target at_home r (ap (λ n. withdraw_check grants n id target.0) own ∙ e))

  -- such a one may want memory
  pub grant_late : grant_refusal row job.0 id target.0 (table_check grants job.0 id target.0) ≡ None
      → IsGrowing node row (beside_of line grants bytes job.0) contents session (command.Grant id target)
  grant_late e =
      subst (λ n. IsGrowing node row (beside_of line grants bytes n) contents session (command.Grant id target)) own
      (answers_more node row (beside_of line grants bytes row.job) contents session (command.Grant id target)
      (grant_due node line grants bytes row contents session id target at_home (ap (λ n. grant_refusal row n id target.0 (table_check grants n id target.0)) own ∙ e)))

  pub withdraw_late : withdraw_check grants job.0 id target.0 ≡ None
      → IsGrowing node row (beside_of line grants bytes job.0) contents session (command.Withdraw id target)
  withdraw_late e =
      subst (λ n. IsGrowing node row (beside_of line grants bytes n) contents session (command.Withdraw id target)) own
      (answers_more node row (beside_of line grants bytes row.job) contents session (command.Withdraw id target)
      (withdraw_due node line grants bytes row contents session id target at_home (ap (λ n. withdraw_check grants n id target.0) own ∙ e)))
