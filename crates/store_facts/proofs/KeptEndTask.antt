-- EndTask keeps the store.
use Rattle.std.proofs.Common.{◌≡◌, ◌≤◌, false, not, ◌&&◌, ◌==◌, [], ◌∷◌, ◌++◌, length, fold, sym, ap, subst, ◌∙◌, arith}
use Rattle.std.specs.Prelude.{nat_le}
use Rattle.std.proofs.lemmas.Bool.{leb-false}
use Rattle.std.proofs.lemmas.List.{length_push}
use Rattle.obj_id.specs.declared.ids.TaskNo.{TaskNo}
use Rattle.obj_id.specs.declared.refusals.Refusal.TheVariants.{Gone, TooMany}
use Rattle.obj_id.specs.Ids.{same_task}
use Rattle.private_store.specs.rules.Limits.{most_ended_tasks}
use Rattle.private_store.specs.rules.Tables.{ById, ids_of}
use Rattle.private_store.specs.rules.Shape.{Copy, Shape, Change, GrantGiven}
use Rattle.private_store.specs.rules.Change.{done, doom, sending, has_ended}
use Rattle.private_store.specs.rules.Commands.{of_task, task_ended, give_up_one, at_each, end_task}
use Rattle.store_facts.proofs.KeptLists.{all-filter, length-filter-le}
use Rattle.store_facts.proofs.KeptRows.{IsLiveKept}
use Rattle.store_facts.proofs.KeptEach.{fold_of_copies, at_each-shape}
use Rattle.store_facts.proofs.KeptEnd.{dooms, gives_up, first_pass, second_pass, doom_of_copies, give_up_of_copies}
use Rattle.store_facts.proofs.KeptStore.{Keeps, check_keeps, checks_keep}

module _ (store : Shape) (h : IsLiveKept store) (task : TaskNo) where
  abbrev first : Change
  first = at_each doom (of_task task (ids_of store.copies)) (done (task_ended store task))

  abbrev first_copies : ById Copy
  first_copies = fold (dooms store h task) store.copies (of_task task (ids_of store.copies))

  abbrev second : Change
  second = at_each (give_up_one task) (ids_of store.copies) first

  abbrev second_copies : ById Copy
  second_copies = fold (gives_up store h task) first_copies (ids_of store.copies)

  first_shape : first.shape ≡ record (task_ended store task) { copies = first_copies }
  unfolding sending
  first_shape =
      at_each-shape doom (of_task task (ids_of store.copies)) (done (task_ended store task))
      ∙ fold_of_copies (λ s id. (doom s id).shape) (doom_of_copies store h task) (task_ended store task) (of_task task (ids_of store.copies))

  second_shape : second.shape ≡ record (task_ended store task) { copies = second_copies }
  second_shape =
      at_each-shape (give_up_one task) (ids_of store.copies) first
      ∙ ap (λ s. fold (λ x id. (give_up_one task x id).shape) s (ids_of store.copies)) first_shape
      ∙ fold_of_copies (λ x id. (give_up_one task x id).shape) (give_up_of_copies store h task) (record (task_ended store task) { copies = first_copies }) (ids_of store.copies)

  one_more_ended : nat_le most_ended_tasks (length store.ended_tasks) ≡ false → length (store.ended_tasks ++ task ∷ []) ≤ most_ended_tasks
  one_more_ended e = let lt = leb-false most_ended_tasks (length store.ended_tasks) e in let l = length_push store.ended_tasks task in omega (arith, lt, l)

  task_over : nat_le most_ended_tasks (length store.ended_tasks) ≡ false → IsLiveKept (record (task_ended store task) { copies = second_copies })
  task_over e =
      let v = second_pass store h task first_copies (first_pass store h task) in
      let keep = λ (grant : GrantGiven). not (grant.id.job.0 == store.job && same_task task grant.id.task) in
      record {
        live = h.live;
        quota = h.quota;
        rows = record { in_order = v.in_order; each = λ q. (v.each q).ended_row; few = v.few };
        works = h.works;
        grants = record {
          own_grants = all-filter _ keep store.given h.grants.own_grants;
          few = let l = length-filter-le keep store.given in let f = h.grants.few in omega (arith, l, f);
        };
        fetches = h.fetches;
        ended = one_more_ended e;
      }

  pub end_task_keeps : Keeps (end_task store task)
  end_task_keeps =
      check_keeps h (has_ended store task) Gone _ second (λ _.
      check_keeps h (nat_le most_ended_tasks (length store.ended_tasks)) TooMany [] second (λ e.
      checks_keep h second (record { is = subst IsLiveKept (sym second_shape) (task_over e) })))
