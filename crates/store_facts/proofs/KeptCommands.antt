-- The commands that make no room keep the store.
use Rattle.std.proofs.Common.{◌≡◌, ℕ, ◌-◌, true, false, not, ◌||◌, ◌==◌, List, [], ◌∷◌, ◌++◌, length, Some, None, unwrap_or, refl, arith}
use Rattle.std.specs.Prelude.{nat_le}
use Rattle.std.specs.Option.{option_map_or}
use Rattle.std.specs.Ordering.{nat_cmp}
use Rattle.std.specs.FinMap.{find}
use Rattle.obj_id.specs.declared.ids.ObjectId.{ObjectId}
use Rattle.obj_id.specs.declared.ids.TaskNo.{TaskNo}
use Rattle.obj_id.specs.declared.commands.CopyState.TheVariants.{Sealed}
use Rattle.private_store.specs.rules.Limits.{most_borrowers}
use Rattle.private_store.specs.rules.Tables.{at, ids_of, with_entry}
use Rattle.private_store.specs.rules.Shape.{Shape, Change}
use Rattle.obj_id.specs.Kinds.{is_primary}
use Rattle.private_store.specs.rules.Marks.{with_holds, without_borrower}
use Rattle.private_store.specs.rules.Copies.{is_created}
use Rattle.private_store.specs.rules.Room.{set_copy}
use Rattle.private_store.specs.rules.Change.{done, sending, has_ended, settled}
use Rattle.private_store.specs.rules.Commands.{write, seal, read, release, unpin, borrow, give_up, delete, peek, leave, leave_one, holds_of, has_borrower, at_each}
use Rattle.private_store.specs.laws.Invariants.{are_held}
use Rattle.store_facts.proofs.KeptCopy.{bare, created_is}
use Rattle.store_facts.proofs.KeptRows.{IsLiveKept, row_same}
use Rattle.store_facts.proofs.KeptChanges.{visible_at, sealed_copy, held_copy, unpinned_bare, borrowed_copy, without_borrower_bare, without_borrower_scope}
use Rattle.store_facts.proofs.KeptStore.{Keeps, same_keeps, checked_keeps, check_keeps, checks_keep, needing_keeps, sending_keeps, scoped_keeps, set_keeps, settle, doomed_keeps, put_row, kept_copy}
use Rattle.store_facts.proofs.Tests.{false_true, or_false_right, passed}

held_by : (session : ℕ) (holds : List (ℕ × ℕ)) → (unwrap_or (find nat_cmp session holds) 0 == 0) ≡ false → are_held holds ≡ true
held_by session [] e = false_true e
held_by session (x ∷ xs) e = refl

module _ {store : Shape} (h : IsLiveKept store) where
  pub write_keeps : (id : ObjectId) (offset n : ℕ) → Keeps (write store id offset n)
  write_keeps id offset n = checked_keeps h _ _ (needing_keeps h _ _ _ (λ copy e. checked_keeps h _ _ (same_keeps h _ refl)))

  pub seal_keeps : (id : ObjectId) → Keeps (seal store id)
  seal_keeps id = needing_keeps h _ _ _ (λ copy v.
      let e = (visible_at (at store.copies id) copy v).0 in
      check_keeps h (not (is_created copy.state)) _ [] _ (λ c. checks_keep h _ (sending_keeps _ _ (record {
        is = set_keeps h id copy (record copy { state = Sealed }) e (sealed_copy copy (kept_copy h id copy e) (created_is copy.state (passed (is_created copy.state) c)));
      }))))

  pub read_keeps : (session : ℕ) (id : ObjectId) (offset n : ℕ) → Keeps (read store session id offset n)
  read_keeps session id offset n = checked_keeps h _ _ (needing_keeps h _ _ _ (λ copy e. checked_keeps h _ _ (same_keeps h _ refl)))

  pub peek_keeps : (id : ObjectId) (offset n : ℕ) → Keeps (peek store id offset n)
  peek_keeps id offset n = checked_keeps h _ _ (needing_keeps h _ _ _ (λ seen e. checked_keeps h _ _ (same_keeps h _ refl)))

  pub release_keeps : (session : ℕ) (id : ObjectId) → Keeps (release store session id)
  release_keeps session id = needing_keeps h _ _ _ (λ copy e. check_keeps h (holds_of copy session == 0) _ [] _ (λ c. checks_keep h _ (record {
    is =
        let k = kept_copy h id copy e in
        let left = with_holds copy session (holds_of copy session - 1) in
        settle h id left (with_entry store.copies id left) (put_row h id copy left e)
        (held_copy copy k session (holds_of copy session - 1) (λ _. k.held (held_by session copy.holds c)) (let f = k.few_holds in omega (arith, f)));
  })))

  pub unpin_keeps : (id : ObjectId) (task : TaskNo) → Keeps (unpin store id task)
  unpin_keeps id task = needing_keeps h _ _ _ (λ copy v. checked_keeps h _ _ (
      let e = (visible_at (at store.copies id) copy v).0 in
      let k = kept_copy h id copy e in
      scoped_keeps h id copy (record copy { pinned = false }) e (unpinned_bare copy k) k.scope k.doomed))

  pub borrow_keeps : (id : ObjectId) (task : TaskNo) → Keeps (borrow store id task)
  borrow_keeps id task = check_keeps h (has_ended store id.task || has_ended store task) _ [] _ (λ live. checks_keep h _ (needing_keeps h _ _ _ (λ copy v.
      let e = (visible_at (at store.copies id) copy v).0 in
      check_keeps h (not (is_primary copy.kind)) _ _ _ (λ p. check_keeps h (has_borrower copy task) _ _ _ (λ _. check_keeps h (nat_le most_borrowers (length copy.borrowers)) _ [] _ (λ few. checks_keep h _ (record {
        is = set_keeps h id copy (record copy { borrowers = copy.borrowers ++ task ∷ [] }) e
            (borrowed_copy copy (kept_copy h id copy e) task (passed (is_primary copy.kind) p) (or_false_right (has_ended store id.task) (has_ended store task) live) few);
      })))))))

  pub give_up_keeps : (id : ObjectId) (task : TaskNo) → Keeps (give_up store id task)
  give_up_keeps id task = needing_keeps h _ _ _ (λ copy v. checked_keeps h _ _ (
      let e = (visible_at (at store.copies id) copy v).0 in
      let k = kept_copy h id copy e in
      scoped_keeps h id copy (without_borrower copy task) e (without_borrower_bare copy k task) (without_borrower_scope copy k task) k.doomed))

  pub delete_keeps : (id : ObjectId) → Keeps (delete store id)
  delete_keeps id = needing_keeps h _ _ _ (λ copy v. checked_keeps h _ _ (
      let e = (visible_at (at store.copies id) copy v).0 in
      let k = kept_copy h id copy e in
      sending_keeps _ _ (record {
        is = doomed_keeps h id copy store.copies (row_same store.copies id (Some copy) h.rows.in_order h.rows.few e) (bare k) (record { of_live_task = λ d. false_true d; by_live_tasks = k.by_live_tasks; few_borrowers = k.few_borrowers });
      })))

  leave_one_keeps : (session : ℕ) (id : ObjectId) → Keeps (leave_one session store id)
  leave_one_keeps session id =
      elim (at store.copies id) as (λ o. at store.copies id ≡ o → Keeps (option_map_or (λ copy. done (settled (set_copy store id (with_holds copy session 0)) id)) o (done store))) [
        | None ↦ λ e. same_keeps h _ refl
        | Some copy ↦ λ e.
            let k = kept_copy h id copy e in
            let left = with_holds copy session 0 in
            record { is = settle h id left (with_entry store.copies id left) (put_row h id copy left e) (held_copy copy k session 0 (λ t. false_true t) (let f = k.few_holds in omega (arith, f))) }
      ] refl

-- ---- one change after another

at_each_keeps : (f : Shape → ObjectId → Change) → ((store : Shape) → IsLiveKept store → (id : ObjectId) → Keeps (f store id)) → (ids : List ObjectId) (c : Change) → Keeps c → Keeps (at_each f ids c)
at_each_keeps f each [] c k = k
at_each_keeps f each (id ∷ ids) c k = at_each_keeps f each ids (sending c.sent (f c.shape id)) (sending_keeps c.sent (f c.shape id) (each c.shape k.is id))

pub leave_keeps : {store : Shape} → IsLiveKept store → (session : ℕ) → Keeps (leave store session)
leave_keeps {store} h session = at_each_keeps (leave_one session) (λ s k id. leave_one_keeps k session id) (ids_of store.copies) (done store) (same_keeps h _ refl)
