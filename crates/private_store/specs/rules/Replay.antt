-- The replay of one job's lines of a journal, without contents.
use Rattle.std.specs.Prelude.{◌≡◌, ℕ, List, [], ◌∷◌, map}
use Rattle.obj_id.specs.declared.ids.ObjectId.{ObjectId}
use Rattle.private_store.specs.declared.inputs.Judged.{Judged}
use Rattle.obj_id.specs.declared.commands.Reply.{Reply}
use Rattle.private_store.specs.rules.Shape.{Shape, Change, unbegun}
use Rattle.private_store.specs.declared.inputs.Input.{Input}
use Rattle.private_store.specs.rules.Step.{step, order_after}
use Rattle.private_store.specs.rules.Contents.{View, judge}
use Rattle.private_store.specs.rules.Private.{view_step}

-- a job's store without contents, with the order of use
pub record ReplayState : Type 0 where
  pub shape : Shape
  pub order : List ObjectId

-- of a job that was never admitted
abbrev pub unbegun_replay : ℕ → ReplayState
unbegun_replay job = record { shape = unbegun job; order = [] }

-- an input of the job, and what it was answered
pub record Line : Type 0 where
  pub input : Judged
  pub reply : Reply ℕ

abbrev pub replay_step : ReplayState → Judged → Change
replay_step replay_state x = step replay_state.order replay_state.shape x

abbrev pub replay_after : ReplayState → Judged → ReplayState
replay_after replay_state x = record { shape = (replay_step replay_state x).shape; order = order_after replay_state.order (replay_step replay_state x) }

-- the store after the lines
abbrev pub replayed : ReplayState → List Line → ReplayState
replayed replay_state [] = replay_state
replayed replay_state (line ∷ lines) = replayed (replay_after replay_state line.input) lines

-- what each line should be answered
abbrev pub answers_due : ReplayState → List Judged → List (Reply ℕ)
answers_due replay_state [] = []
answers_due replay_state (x ∷ xs) = (replay_step replay_state x).reply ∷ answers_due (replay_after replay_state x) xs

-- each line has the answer that the replay gives there
abbrev pub IsReplayed : ReplayState → List Line → Type 0
IsReplayed replay_state lines = map (λ line. line.reply) lines ≡ answers_due replay_state (map (λ line. line.input) lines)

-- ---- the lines that a run makes

abbrev pub replay_state_of : View → ReplayState
replay_state_of view = record { shape = view.shape; order = view.order }

-- the line that an input makes in the journal
abbrev pub line_of : ℕ → View → Input → Line
line_of node view x =
    let y = judge node view x in
    record { input = y; reply = (step view.order view.shape y).reply }

abbrev pub lines_from : ℕ → View → List Input → List Line
lines_from node view [] = []
lines_from node view (x ∷ xs) = line_of node view x ∷ lines_from node (view_step node view x).view xs
