-- The lines that a run makes replay to what the run showed.
use Rattle.std.proofs.Common.{◌≡◌, ℕ, List, [], ◌∷◌, refl, ap}
use Rattle.private_store.specs.declared.inputs.Input.{Input}
use Rattle.private_store.specs.rules.Contents.{View}
use Rattle.private_store.specs.rules.Private.{view_step, view_from}
use Rattle.private_store.specs.rules.Replay.{IsReplayed, replayed, replay_state_of, line_of, lines_from}

pub replayed-lines : (node : ℕ) (view : View) (xs : List Input) → replayed (replay_state_of view) (lines_from node view xs) ≡ replay_state_of (view_from node view xs)
replayed-lines node view [] = refl
replayed-lines node view (x ∷ xs) = replayed-lines node (view_step node view x).view xs

pub IsReplayed-lines : (node : ℕ) (view : View) (xs : List Input) → IsReplayed (replay_state_of view) (lines_from node view xs)
IsReplayed-lines node view [] = refl
IsReplayed-lines node view (x ∷ xs) = ap (λ rs. (line_of node view x).reply ∷ rs) (IsReplayed-lines node (view_step node view x).view xs)
