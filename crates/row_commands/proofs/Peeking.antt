-- A row takes Peek: the bytes of what others granted.
use Rattle.std.proofs.Common.{◌≡◌, ℕ, ◌==◌, ◌+◌, nat_lt, Bool, true, false, not, cond, ◌||◌, List, [], ◌∷◌, map, filter, length, take, drop, Option, Some, None, is_some, unwrap_or, refl, ap, subst, ◌∙◌}
use Rattle.std.specs.Option.{option_map_or}
use Rattle.std.specs.List.{list_any}
use Rattle.obj_id.specs.declared.ids.ObjectId.{ObjectId}
use Rattle.obj_id.specs.declared.refusals.Refusal.{Refusal}
use Rattle.obj_id.specs.declared.refusals.Refusal.TheVariants.{NotGranted, BadSize, OutOfBounds}
use Rattle.obj_id.specs.declared.commands.Command.TheVariants as command
use Rattle.obj_id.specs.declared.commands.Reply.{Reply}
use Rattle.obj_id.specs.declared.commands.Reply.TheVariants as reply
use Rattle.private_store.specs.declared.inputs.Input.{Input}
use Rattle.private_store.specs.declared.inputs.Input.TheVariants as input
use Rattle.private_store.specs.rules.Limits.{most_bytes}
use Rattle.private_store.specs.rules.Tables.{at}
use Rattle.private_store.specs.rules.Shape.{Shape, Change, Seen}
use Rattle.private_store.specs.rules.Change.{replied, refused, checked, erasing}
use Rattle.private_store.specs.rules.Commands.{peek}
use Rattle.private_store.specs.rules.Contents.{Contents, bytes_at, whole_reply}
use Rattle.private_store.specs.rules.Grants.{StandingGrant}
use Rattle.store_facts.proofs.Checks.{checked-nil}
use Rattle.store_facts.proofs.Tests.{true_false}
use Rattle.grants.specs.Table.{shows}
use Rattle.grants.specs.Private.{as_taken, seen_by}
use Rattle.spill_work.specs.Line.{WorkLine}
use Rattle.row_commands.specs.Granting.{peek_check, peek_reply}
use Rattle.job_row.specs.Row.{Row}
use Rattle.row_steps.specs.Shown.{seen, IsShown, only, RowStep}
use Rattle.row_steps.proofs.ForCallers.{unless_refused, first-check, needing-by, called, past, not_not, filled_at, change, stays}
use Rattle.row_commands.proofs.Notes.{row_has_grants}
use Rattle.row_steps.specs.Beside.{SharedTables, beside_of, shape_of}

-- what is done with an object that is seen, by whether there is a grant of it
seen_if : (s : Shape) (n : ℕ) (f : Seen → Change) (rest : Option Refusal) (d : Change) → ((seen : Seen) → seen.length ≡ n → f seen ≡ unless_refused s rest d) → (test : StandingGrant → Bool) (grants : List StandingGrant)
    → option_map_or f (seen_by n (map as_taken (filter test grants))) (refused s NotGranted) ≡ unless_refused s (cond (not (list_any test grants)) (Some NotGranted) rest) d
seen_if s n f rest d each test [] = refl
seen_if s n f rest d each test (grant ∷ grants) =
    elim (test grant) as (λ b. option_map_or f (seen_by n (map as_taken (cond b (grant ∷ filter test grants) (filter test grants)))) (refused s NotGranted)
    ≡ unless_refused s (cond (not (b || list_any test grants)) (Some NotGranted) rest) d) [
      | true ↦ each (record { length = n; grants = as_taken grant ∷ map as_taken (filter test grants) }) refl
      | false ↦ seen_if s n f rest d each test grants
    ]

some_seen : (n : ℕ) (test : StandingGrant → Bool) (grants : List StandingGrant) → list_any test grants ≡ true → is_some (seen_by n (map as_taken (filter test grants))) ≡ true
some_seen n test [] = λ e. true_false e
some_seen n test (grant ∷ grants) =
    elim (test grant) as (λ b. (b || list_any test grants) ≡ true → is_some (seen_by n (map as_taken (cond b (grant ∷ filter test grants) (filter test grants)))) ≡ true) [
      | true ↦ λ e. refl
      | false ↦ λ e. some_seen n test grants e
    ]

module _ (node : ℕ) (line : WorkLine) (grants : List StandingGrant) (bytes : ObjectId → List ℕ) (row : Row) (contents : Contents) (session : ℕ) (id : ObjectId) (offset n : ℕ)
    (h : IsShown row (beside_of line grants bytes row.job) contents) where
  abbrev beside : SharedTables
  beside = beside_of line grants bytes row.job

  abbrev s : Shape
  s = shape_of row beside

  abbrev x : Input
  x = input.Call session (command.Peek id offset n)

  abbrev check : Option Refusal
  check = peek_check grants row.job id (length (bytes id)) offset n

  abbrev whole : Option Refusal
  whole = cond (nat_lt most_bytes n) (Some BadSize) (cond (nat_lt (length (bytes id)) (offset + n)) (Some OutOfBounds) None)

  abbrev looked : Seen → Change
  looked seen = checked s ((nat_lt most_bytes n, BadSize) ∷ (nat_lt seen.length (offset + n), OutOfBounds) ∷ []) (replied s (reply.Bytes n))

  looked-by : (seen : Seen) → seen.length ≡ length (bytes id) → looked seen ≡ unless_refused s whole (replied s (reply.Bytes n))
  looked-by seen same =
      ap (λ m. checked s ((nat_lt most_bytes n, BadSize) ∷ (nat_lt m (offset + n), OutOfBounds) ∷ []) (replied s (reply.Bytes n))) same
      ∙ first-check s (nat_lt most_bytes n) BadSize _ _ _ (replied s (reply.Bytes n))
      (first-check s (nat_lt (length (bytes id)) (offset + n)) OutOfBounds [] _ None (replied s (reply.Bytes n)) (checked-nil s (replied s (reply.Bytes n))))

  peek-by : peek s id offset n ≡ unless_refused s check (replied s (reply.Bytes n))
  peek-by =
      first-check s (id.job.0 == row.job) NotGranted [] _ _ (replied s (reply.Bytes n))
      (checked-nil s _ ∙ needing-by s (at s.received id) NotGranted looked
      ∙ ap (λ o. option_map_or looked o (refused s NotGranted)) ((row_has_grants line grants bytes row).taken id)
      ∙ seen_if s (length (bytes id)) looked whole (replied s (reply.Bytes n)) looked-by (shows id row.job) grants)

  abbrev replay_state : Option Refusal → Reply ℕ
  replay_state o = option_map_or reply.Refused o (reply.Bytes n)

  as_replied : (o : Option Refusal) → unless_refused s o (replied s (reply.Bytes n)) ≡ replied s (replay_state o)
  as_replied None = refl
  as_replied (Some r) = refl

  peek-is : change node row beside contents h x ≡ erasing s (replied s (replay_state check))
  peek-is = called row beside session (command.Peek id offset n) ∙ ap (erasing s) (peek-by ∙ as_replied check)

  -- what is seen has its bytes
  bytes_seen : list_any (shows id row.job) grants ≡ true → bytes_at contents.received id ≡ bytes id
  bytes_seen sees =
      ap (λ t. bytes_at t id) h.received
      ∙ ap (λ o. unwrap_or o []) (filled_at bytes beside.received id (ap is_some ((row_has_grants line grants bytes row).taken id) ∙ some_seen (length (bytes id)) (shows id row.job) grants sees))

  response : (o : Option Refusal) → check ≡ o → whole_reply (seen row beside contents) x (replay_state o) ≡ option_map_or reply.Refused o (reply.Bytes (take n (drop offset (bytes id))))
  response (Some r) e = refl
  response None e =
      let foreign = past (id.job.0 == row.job) NotGranted _ e in
      let sees = past (not (list_any (shows id row.job) grants)) NotGranted whole foreign.1 in
      ap (λ bs. reply.Bytes (take n (drop offset bs))) (bytes_seen (not_not (list_any (shows id row.job) grants) sees.0))

  pub peeks : RowStep node row beside contents x (only (peek_reply grants row.job id (bytes id) offset n)) row beside
  peeks = subst (λ r. RowStep node row beside contents x (only r) row beside) (response check refl) (stays node row beside contents h x (replay_state check) peek-is refl refl refl)
