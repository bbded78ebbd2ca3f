-- A table of which the grants of a task's objects have ended.
use Rattle.std.proofs.Common.{◌≡◌, ℕ, Bool, true, false, cond, List, [], ◌∷◌, map, Option, Some, None, option_map, refl, sym, ap, ◌∙◌}
use Rattle.std.specs.Option.{option_and_then}
use Rattle.obj_id.specs.declared.ids.TaskNo.{TaskNo}
use Rattle.obj_id.specs.declared.ids.ObjectId.{ObjectId}
use Rattle.obj_id.specs.Ids.{same_id, same_task}
use Rattle.store_facts.proofs.Ids.{same_id-equal}
use Rattle.private_store.specs.rules.Tables.{ById, at}
use Rattle.private_store.specs.rules.Copies.{extent_of}
use Rattle.store_facts.proofs.Tests.{none_some, some_value}
use Rattle.job_row.specs.Entries.{by_rising_id}
use Rattle.job_row.specs.EndingTasks.{copies_ungranted}
use Rattle.row_copy.specs.CopyViews.{CopyView, after_grants_ended}
use Rattle.job_row.specs.Row.{copies_of, place_of, ArePlaced}
use Rattle.job_row.proofs.Places.{same_places}
use Rattle.job_row.proofs.Rising.{each-rising}

-- the table of which the grants of the task's objects have ended
module _ (task : TaskNo) where
  abbrev pub ended : ObjectId → CopyView → CopyView
  ended id k = cond (same_task task id.task) (after_grants_ended k) k

  pub same_part : {X : Type 0} (part : CopyView → X) → ((z : CopyView) → part (after_grants_ended z) ≡ part z) → (b : Bool) (z : CopyView) → part (cond b (after_grants_ended z) z) ≡ part z
  same_part part same true z = same z
  same_part part same false z = refl

  pub ended-rising : (es : List (ObjectId × CopyView)) → by_rising_id (map (λ e. (e.0, ended e.0 e.1)) es) ≡ copies_ungranted task (by_rising_id es)
  ended-rising es = each-rising ended es

  pub at-ended : (es : ById CopyView) (q : ObjectId) → at (copies_ungranted task es) q ≡ option_map (ended q) (at es q)
  at-ended [] q = refl
  at-ended (e ∷ es) q = by (same_id q e.0) refl (at-ended es q)
    where
      by : (b : Bool) → same_id q e.0 ≡ b → at (copies_ungranted task es) q ≡ option_map (ended q) (at es q)
          → cond b (Some (ended e.0 e.1)) (at (copies_ungranted task es) q) ≡ option_map (ended q) (cond b (Some e.1) (at es q))
      by true s later = ap (λ i. Some (ended i e.1)) (sym (same_id-equal q e.0 s))
      by false s later = later

  pub copies-ended : (es : ById CopyView) → copies_of (copies_ungranted task es) ≡ copies_of es
  copies-ended [] = refl
  copies-ended (e ∷ es) = λ i. (e.0, same_part (λ k. k.copy) (λ z. refl) (same_task task e.0.task) e.1 i) ∷ copies-ended es i

  pub from_ended : (es : ById CopyView) (q : ObjectId) (y : CopyView) → at (copies_ungranted task es) q ≡ Some y → (k : CopyView) × (at es q ≡ Some k) × (y ≡ ended q k)
  from_ended es q y found = by (at es q) refl (sym (at-ended es q) ∙ found)
    where
      by : (o : Option CopyView) → at es q ≡ o → option_map (ended q) o ≡ Some y → (k : CopyView) × (at es q ≡ Some k) × (y ≡ ended q k)
      by None e f = none_some y f
      by (Some k) e f = (k, e, sym (some_value (ended q k) y f))

  pub ended-place : (id : ObjectId) (k : CopyView) → extent_of (ended id k).copy ≡ extent_of k.copy
  ended-place id k = same_part (λ z. extent_of z.copy) (λ z. refl) (same_task task id.task) k

  pub ended_placed : (placed : List (ℕ × List ℕ)) (es : ById CopyView) → ArePlaced placed (place_of es) → ArePlaced placed (place_of (copies_ungranted task es))
  ended_placed placed es h = same_places placed (place_of es) (place_of (copies_ungranted task es)) (λ q. ap (λ o. option_and_then (λ (k : CopyView). extent_of k.copy) o) (at-ended es q) ∙ by q (at es q)) h
    where
      by : (q : ObjectId) (o : Option CopyView) → option_and_then (λ (k : CopyView). extent_of k.copy) (option_map (ended q) o) ≡ option_and_then (λ (k : CopyView). extent_of k.copy) o
      by q None = refl
      by q (Some k) = ended-place q k
