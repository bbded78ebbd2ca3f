-- Every judged input keeps a store without contents, and so does every replay.
use Rattle.std.proofs.Common.{◌≡◌, ℕ, ◌≤◌, Bool, true, false, cond, List, [], ◌∷◌, is_some, refl, sym, subst, arith}
use Rattle.std.specs.Prelude.{count_by}
use Rattle.obj_id.specs.declared.ids.ObjectId.{ObjectId}
use Rattle.obj_id.specs.Ids.{same_id}
use Rattle.private_store.specs.declared.inputs.Judged.{Judged}
use Rattle.private_store.specs.rules.Tables.{ById, at}
use Rattle.private_store.specs.rules.Shape.{Copy}
use Rattle.private_store.specs.laws.Invariants.{IsOrderOfUse}
use Rattle.private_store.specs.declared.inputs.Input.{Input}
use Rattle.private_store.specs.rules.Private.{view_of, no_store, store_from}
use Rattle.private_store.specs.rules.Replay.{ReplayState, Line, replay_state_of, unbegun_replay, replay_after, replayed, lines_from}
use Rattle.private_store.specs.laws.Listed.{IsOrderOf, IsReplayStateKept}
use Rattle.store_facts.proofs.KeptStep.{step_keeps, unbegun_kept}
use Rattle.store_facts.proofs.ExtentsKept.{extents_keep, unbegun_extents}
use Rattle.store_facts.proofs.DeviceKept.{device_keeps, unbegun_device}
use Rattle.store_facts.proofs.ReplayLemmas.{replayed-lines}
use Rattle.store_facts.proofs.Stamped.{view_of_run, no_store_IsStamped}
use Rattle.store_facts.proofs.ListsKept.{lists_keep, order_keeps, unbegun_lists}

-- an order of the copies has no id twice
pub order_once : (order : List ObjectId) (copies : ById Copy) → IsOrderOf order copies → IsOrderOfUse order
order_once order copies h id = at_most (is_some (at copies id)) (count_by (same_id id) order) (h id)
  where
    at_most : (b : Bool) (n : ℕ) → n ≡ cond b 1 0 → n ≤ 1
    at_most true n e = omega (arith, e)
    at_most false n e = omega (arith, e)

pub step_of_replay_keeps : (replay_state : ReplayState) (x : Judged) → IsReplayStateKept replay_state → IsReplayStateKept (replay_after replay_state x)
step_of_replay_keeps replay_state x h = record {
  order = order_keeps replay_state.order replay_state.shape x h.order;
  shape = step_keeps replay_state.order replay_state.shape x (order_once replay_state.order replay_state.shape.copies h.order) h.shape;
  extents = extents_keep replay_state.order replay_state.shape x h.shape h.extents;
  device = device_keeps replay_state.order replay_state.shape x h.shape h.device;
  lists = lists_keep replay_state.order replay_state.shape x h.lists;
}

pub unbegun_replay_kept : (job : ℕ) → IsReplayStateKept (unbegun_replay job)
unbegun_replay_kept job = record { order = λ id. refl; shape = unbegun_kept job; extents = unbegun_extents job; device = unbegun_device job; lists = unbegun_lists job }

replayed_keeps : (replay_state : ReplayState) (lines : List Line) → IsReplayStateKept replay_state → IsReplayStateKept (replayed replay_state lines)
replayed_keeps replay_state [] h = h
replayed_keeps replay_state (line ∷ lines) h = replayed_keeps (replay_after replay_state line.input) lines (step_of_replay_keeps replay_state line.input h)

pub replay_keeps : (job : ℕ) (lines : List Line) → IsReplayStateKept (replayed (unbegun_replay job) lines)
replay_keeps job lines = replayed_keeps (unbegun_replay job) lines (unbegun_replay_kept job)

-- and so does every run, whose lines replay to what it shows
pub run_keeps_replay : (node job : ℕ) (xs : List Input) → IsReplayStateKept (replay_state_of (view_of (store_from node (no_store job) xs)))
run_keeps_replay node job xs =
    let start = view_of (no_store job) in
    subst (λ view. IsReplayStateKept (replay_state_of view)) (sym (view_of_run node (no_store job) xs (no_store_IsStamped job)))
    (subst IsReplayStateKept (replayed-lines node start xs) (replay_keeps job (lines_from node start xs)))
