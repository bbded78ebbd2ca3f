-- Which marks leave a copy where it lies.
use Rattle.std.proofs.Common.{◌≡◌, true, refl, ap, Bool, false, cond}
use Rattle.private_store.specs.rules.Marks.{without_borrower}
use Rattle.private_store.specs.rules.Copies.{extent_of, in_scope}
use Rattle.store_facts.proofs.Tests.{true_false}
use Rattle.row_copy.specs.declared.marks.Mark.{Mark}
use Rattle.row_copy.specs.declared.marks.Mark.TheVariants as mark
use Rattle.row_copy.specs.CopyViews.{CopyView, can_spill, after_spill_begun, spill_begun_if, view_in_scope, after_doom, after_unpin, after_give_up}
use Rattle.row_copy.specs.Marks.{marked_by, lies_still}
use Rattle.obj_id.specs.declared.ids.TaskNo.{TaskNo}

pub same_copy : (k : CopyView) → (spill_begun_if k).copy ≡ k.copy
same_copy k = by (can_spill k)
  where
    by : (b : Bool) → (cond b (after_spill_begun k) k).copy ≡ k.copy
    by true = refl
    by false = refl

-- a copy that is perhaps doomed has what else it had
pub scoped-keeps : {X : Type 0} (part : CopyView → X) → ((z : CopyView) → part (after_doom z) ≡ part z) → (z : CopyView) → part (view_in_scope z) ≡ part z
scoped-keeps part same z = by (in_scope z.copy)
  where
    by : (b : Bool) → part (cond b z (after_doom z)) ≡ part z
    by true = refl
    by false = same z

pub doomed-place : (z : CopyView) → extent_of (after_doom z).copy ≡ extent_of z.copy
doomed-place z = refl

pub unpinned-place : (z : CopyView) → extent_of (after_unpin z).copy ≡ extent_of z.copy
unpinned-place z = scoped-keeps (λ y. extent_of y.copy) doomed-place (record z { copy = record z.copy { pinned = false } })

pub given_up-place : (task : TaskNo) (z : CopyView) → extent_of (after_give_up task z).copy ≡ extent_of z.copy
given_up-place task z = scoped-keeps (λ y. extent_of y.copy) doomed-place (record z { copy = without_borrower z.copy task })

pub marked_lies : (m : Mark) → lies_still m ≡ true → (z : CopyView) → extent_of (marked_by m z).copy ≡ extent_of z.copy
marked_lies (mark.Left session) still z = refl
marked_lies (mark.Sealed digest) still z = refl
marked_lies mark.Unpinned still z = unpinned-place z
marked_lies (mark.GivenUp task) still z = given_up-place task z
marked_lies mark.Doomed still z = refl
marked_lies (mark.Granted granted) still z = refl
marked_lies mark.FaultTold still z = refl
marked_lies mark.SpillBegun still z = ap extent_of (same_copy z)
marked_lies (mark.Written number failed) still z = refl
marked_lies mark.Restored still z = refl
marked_lies (mark.Lost fault) still z = true_false still
marked_lies (mark.Placed offset awaited) still z = true_false still
marked_lies mark.Unplaced still z = true_false still
marked_lies (mark.GapClosed number index from n) still z = refl
marked_lies mark.Brought still z = refl
marked_lies (mark.FetchFailed fault) still z = true_false still
