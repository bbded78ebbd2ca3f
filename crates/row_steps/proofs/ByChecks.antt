-- The commands of the private store, by their checks: the refusal, and else what is done.
use Rattle.std.proofs.Common.{◌≡◌, ℕ, Bool, true, false, not, cond, ◌==◌, nat_lt, List, [], ◌∷◌, ◌++◌, Option, Some, None, option_map, refl, sym, ap, ◌∙◌}
use Rattle.std.specs.Option.{option_map_or, option_and_then}
use Rattle.obj_id.specs.declared.ids.ObjectId.{ObjectId}
use Rattle.obj_id.specs.declared.refusals.Refusal.{Refusal}
use Rattle.obj_id.specs.declared.refusals.Refusal.TheVariants.{Absent, BadSize, NotAdmitted, NotGranted}
use Rattle.obj_id.specs.declared.commands.CopyState.TheVariants.{Sealed}
use Rattle.obj_id.specs.declared.commands.Command.{Command}
use Rattle.obj_id.specs.declared.commands.Reply.TheVariants as reply
use Rattle.private_store.specs.declared.inputs.Judged.TheVariants as judged
use Rattle.private_store.specs.rules.Limits.{most_bytes}
use Rattle.private_store.specs.rules.Tables.{at}
use Rattle.private_store.specs.rules.Shape.{Copy, Shape, Change, Sending, add_location}
use Rattle.private_store.specs.rules.Copies.{visible}
use Rattle.private_store.specs.rules.Room.{set_copy}
use Rattle.private_store.specs.rules.Change.{replied, refused, done, checked, needing, sending, erasing}
use Rattle.private_store.specs.rules.Commands.{write_checks, seal_checks, read_checks, write, seal, read}
use Rattle.private_store.specs.rules.Shared.{first_refusal}
use Rattle.private_store.specs.rules.Step.{step, owned, commanded}
use Rattle.store_facts.proofs.Checks.{checked-nil, checked-false}
use Rattle.row_copy.specs.CopyViews.{CopyView}
use Rattle.job_row.specs.Row.{Row}
use Rattle.job_row.specs.Checks.{write_check, seal_check, read_check}
use Rattle.job_row.proofs.ForCallers.{at-copies}
use Rattle.row_steps.specs.Beside.{SharedTables, shape_of}

-- the refusal, or else the rest
abbrev pub unless_refused : Shape → Option Refusal → Change → Change
unless_refused store check rest = option_map_or (refused store) check rest

checked-if : (store : Shape) (b : Bool) (r : Refusal) (cs : List (Bool × Refusal)) (c : Change) → checked store ((b, r) ∷ cs) c ≡ cond b (refused store r) (checked store cs c)
unfolding checked
checked-if store b r cs c = refl

pub needing-by : {X : Type 0} (store : Shape) (o : Option X) (r : Refusal) (f : X → Change) → needing store o r f ≡ option_map_or f o (refused store r)
unfolding needing
needing-by store o r f = refl

-- checks alone, before what comes to the same
pub by-checks : (store : Shape) (cs : List (Bool × Refusal)) (c d : Change) → c ≡ d → checked store cs c ≡ unless_refused store (first_refusal cs) d
unfolding checked
by-checks store [] c d e = e
by-checks store (check ∷ cs) c d e =
    elim check.0 as (λ b. cond b (refused store check.1) (checked store cs c) ≡ unless_refused store (cond b (Some check.1) (first_refusal cs)) d) [
      | true ↦ refl
      | false ↦ by-checks store cs c d e
    ]

-- a check before others
pub first-check : (store : Shape) (b : Bool) (r : Refusal) (cs : List (Bool × Refusal)) (c : Change) (rest : Option Refusal) (d : Change) → checked store cs c ≡ unless_refused store rest d → checked store ((b, r) ∷ cs) c ≡ unless_refused store (cond b (Some r) rest) d
first-check store b r cs c rest d h = checked-if store b r cs c ∙ ap (cond b (refused store r)) h ∙ by b
  where
    by : (b : Bool) → cond b (refused store r) (unless_refused store rest d) ≡ unless_refused store (cond b (Some r) rest) d
    by true = refl
    by false = refl

-- a live job's command of a session
pub called : (row : Row) (beside : SharedTables) (session : ℕ) (c : Command ℕ) → step row.order (shape_of row beside) (judged.Call session c) ≡ erasing (shape_of row beside) (commanded row.order (shape_of row beside) session c)
called row beside session c =
    checked-false (shape_of row beside) false NotAdmitted [] (erasing (shape_of row beside) (commanded row.order (shape_of row beside) session c)) refl
    ∙ checked-nil (shape_of row beside) (erasing (shape_of row beside) (commanded row.order (shape_of row beside) session c))

-- a command on the job's own object
pub own : (row : Row) (beside : SharedTables) (id : ObjectId) (c : Change) → (id.job.0 == row.job) ≡ true → owned (shape_of row beside) id c ≡ c
own row beside id c mine = checked-false (shape_of row beside) (not (id.job.0 == row.job)) NotGranted [] c (ap not mine) ∙ checked-nil (shape_of row beside) c

-- one on another job's
pub foreign : (row : Row) (beside : SharedTables) (id : ObjectId) (c : Change) → (id.job.0 == row.job) ≡ false → owned (shape_of row beside) id c ≡ refused (shape_of row beside) NotGranted
foreign row beside id c other = checked-if (shape_of row beside) (not (id.job.0 == row.job)) NotGranted [] c ∙ ap (λ b. cond (not b) (refused (shape_of row beside) NotGranted) (checked (shape_of row beside) [] c)) other

module _ (row : Row) (beside : SharedTables) (id : ObjectId) where
  abbrev s : Shape
  s = shape_of row beside

  -- of a copy that isn't doomed
  pub in_sight : (f : Copy → Change) (check : CopyView → Option Refusal) (d : Change)
      → ((k : CopyView) → at row.copies id ≡ Some k → k.copy.doomed ≡ false → f k.copy ≡ unless_refused s (check k) d)
      → needing s (visible s id) Absent f ≡ unless_refused s (elim (at row.copies id) [ None ↦ Some Absent | Some k ↦ cond k.copy.doomed (Some Absent) (check k) ]) d
  in_sight f check d h =
      needing-by s (visible s id) Absent f
      ∙ ap (λ o. option_map_or f (option_and_then (λ copy. cond copy.doomed None (Some copy)) o) (refused s Absent)) (at-copies row.copies id)
      ∙ by (at row.copies id) h
    where
      by : (o : Option CopyView) → ((k : CopyView) → o ≡ Some k → k.copy.doomed ≡ false → f k.copy ≡ unless_refused s (check k) d)
          → option_map_or f (option_and_then (λ copy. cond copy.doomed None (Some copy)) (option_map (λ k. k.copy) o)) (refused s Absent)
          ≡ unless_refused s (elim o [ None ↦ Some Absent | Some k ↦ cond k.copy.doomed (Some Absent) (check k) ]) d
      by None h = refl
      by (Some k) h = doomed k.copy.doomed (h k refl)
        where
          doomed : (b : Bool) → (b ≡ false → f k.copy ≡ unless_refused s (check k) d) → option_map_or f (cond b None (Some k.copy)) (refused s Absent) ≡ unless_refused s (cond b (Some Absent) (check k)) d
          doomed true g = refl
          doomed false g = g refl

  -- of any copy
  pub in_table : (f : Copy → Change) (check : CopyView → Option Refusal) (d : Change)
      → ((k : CopyView) → at row.copies id ≡ Some k → f k.copy ≡ unless_refused s (check k) d)
      → needing s (at s.copies id) Absent f ≡ unless_refused s (elim (at row.copies id) [ None ↦ Some Absent | Some k ↦ check k ]) d
  in_table f check d h =
      needing-by s (at s.copies id) Absent f ∙ ap (λ o. option_map_or f o (refused s Absent)) (at-copies row.copies id) ∙ by (at row.copies id) h
    where
      by : (o : Option CopyView) → ((k : CopyView) → o ≡ Some k → f k.copy ≡ unless_refused s (check k) d)
          → option_map_or f (option_map (λ k. k.copy) o) (refused s Absent) ≡ unless_refused s (elim o [ None ↦ Some Absent | Some k ↦ check k ]) d
      by None h = refl
      by (Some k) h = h k refl

  pub write-by : (offset n : ℕ) → write s id offset n ≡ unless_refused s (write_check row.copies id offset n) (done s)
  write-by offset n =
      first-check s (nat_lt most_bytes n) BadSize [] _ _ (done s)
      (checked-nil s _ ∙ in_sight _ (λ k. first_refusal (write_checks k.copy offset n)) (done s) (λ k found seen. by-checks s (write_checks k.copy offset n) _ _ refl))

  pub read-by : (session offset n : ℕ) → read s session id offset n ≡ unless_refused s (read_check row.copies session id offset n) (replied s (reply.Bytes n))
  read-by session offset n =
      first-check s (nat_lt most_bytes n) BadSize [] _ _ _
      (checked-nil s _ ∙ in_table _ (λ k. first_refusal (read_checks k.copy session offset n)) _ (λ k found. by-checks s (read_checks k.copy session offset n) _ _ refl))

  -- what sealing does to the copy that is there
  abbrev pub seal_done : Change
  seal_done = option_map_or (λ copy. sending (add_location id ∷ []) (done (set_copy s id (record copy { state = Sealed })))) (at s.copies id) (refused s Absent)

  pub seal-by : seal s id ≡ unless_refused s (seal_check row.copies id) seal_done
  seal-by =
      in_sight _ (λ k. first_refusal (seal_checks k.copy)) seal_done (λ k found seen.
      by-checks s (seal_checks k.copy) _ _
      (sym (ap (λ o. option_map_or (λ copy. sending (add_location id ∷ []) (done (set_copy s id (record copy { state = Sealed })))) o (refused s Absent)) (at-copies row.copies id ∙ ap (option_map (λ k. k.copy)) found))))

-- what is sent first
pub sending-is : (sent : List Sending) (c : Change) → sending sent c ≡ record c { sent = sent ++ c.sent }
unfolding sending
sending-is sent c = refl
