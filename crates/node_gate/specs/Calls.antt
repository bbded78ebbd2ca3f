-- What is said of sessions and their commands.
use Rattle.std.specs.Prelude.{◌≡◌, ℕ, true, List, Option, IfSome}
use Rattle.obj_id.specs.declared.ids.JobNo.{JobNo}
use Rattle.obj_id.specs.declared.commands.Command.TheVariants as command
use Rattle.obj_id.specs.declared.commands.Reply.{Reply}
use Rattle.obj_id.specs.declared.works.JobKey.{JobKey}
use Rattle.private_store.specs.declared.schedules.Event.{Event}
use Rattle.private_store.specs.declared.schedules.Event.TheVariants as event
use Rattle.private_store.specs.laws.Answers.{is_small_reply}

-- what a session was let in with: a job, the key that was shown, and the number of the session
pub record Pass : Type 0 where
  pub job : JobNo
  pub key : JobKey
  pub session : ℕ

-- the reply to a command has a frame
abbrev pub IsSmallCall : Event → Reply (List ℕ) → Type 0
IsSmallCall (event.Call job session c) response = is_small_reply response ≡ true
IsSmallCall _ response = response ≡ response

-- what is said of a session's command holds, and its step came after that of the receipt that was shown, if there was one
pub record IsNext {T : Type 0} (called : Event → Reply (List ℕ) → T → Type 0) (rises : T → T → Type 0) (earlier : Option T) (e : Event) (response : Reply (List ℕ)) (receipt : T) : Type 0 where
  pub is_called : called e response receipt
  pub rises_after : IfSome earlier (λ before. rises before receipt)

-- the session's Leave was answered, and this receipt is of it
pub record IsLast {T : Type 0} (called : Event → Reply (List ℕ) → T → Type 0) (rises : T → T → Type 0) (earlier : Option T) (job : JobNo) (session : ℕ) (receipt : T) : Type 0 where
  pub response : Reply (List ℕ)
  pub is_called : IsNext called rises earlier (event.Call job session command.Leave) response receipt
