-- Each input keeps a store: its order of use, its shape, its extents, device bytes and contents.
use Rattle.std.proofs.Common.{ℕ, List, [], ◌∷◌, sym, subst, arith}
use Rattle.private_store.specs.declared.inputs.Input.{Input}
use Rattle.private_store.specs.rules.Step.{step}
use Rattle.private_store.specs.rules.Contents.{View, judge}
use Rattle.private_store.specs.rules.Private.{view_of, view_step, view_from, no_store, store_from}
use Rattle.private_store.specs.laws.Invariants.{IsViewKept}
use Rattle.store_facts.proofs.KeptStep.{step_keeps, unbegun_kept}
use Rattle.store_facts.proofs.KeptView.{order_keeps}
use Rattle.store_facts.proofs.ExtentsKept.{extents_keep, unbegun_extents}
use Rattle.store_facts.proofs.DeviceKept.{device_keeps, unbegun_device}
use Rattle.store_facts.proofs.ContentsKept.{contents_keep, no_contents_kept}
use Rattle.store_facts.proofs.Stamped.{view_of_run, no_store_IsStamped}

pub view_keeps : (node : ℕ) (view : View) (x : Input) → IsViewKept view → IsViewKept (view_step node view x).view
view_keeps node view x h =
    let y = judge node view x in
    record {
      order = order_keeps view.order (step view.order view.shape y) h.order;
      kept = record {
        shape = step_keeps view.order view.shape y h.order h.kept.shape;
        extents = extents_keep view.order view.shape y h.kept.shape h.kept.extents;
        device = device_keeps view.order view.shape y h.kept.shape h.kept.device;
        filled = contents_keep node view x h.kept.shape h.kept.filled;
      };
    }

pub no_store_kept : (job : ℕ) → IsViewKept (view_of (no_store job))
no_store_kept job = record {
  order = λ id. omega arith;
  kept = record { shape = unbegun_kept job; extents = unbegun_extents job; device = unbegun_device job; filled = no_contents_kept job };
}

view_from_keeps : (node : ℕ) (view : View) (xs : List Input) → IsViewKept view → IsViewKept (view_from node view xs)
view_from_keeps node view [] h = h
view_from_keeps node view (x ∷ xs) h = view_from_keeps node (view_step node view x).view xs (view_keeps node view x h)

-- and so does every list of them, with stamps or without
pub run_keeps : (node job : ℕ) (xs : List Input) → IsViewKept (view_of (store_from node (no_store job) xs))
run_keeps node job xs =
    subst IsViewKept (sym (view_of_run node (no_store job) xs (no_store_IsStamped job))) (view_from_keeps node (view_of (no_store job)) xs (no_store_kept job))
