-- What is said of a step is said of its answer, which is out of memory if the step wasn't made.
use Rattle.std.proofs.Common.{◌≡◌, ℕ, true, List, Option, Some, None, sym, ap, subst, ◌∙◌}
use Rattle.std.specs.Prelude.{Result, Ok, Err, IfOk, IfSome, MatchOption, MatchResult}
use Rattle.memory_growth.specs.declared.OutOfMemory.{OutOfMemory}
use Rattle.obj_id.specs.declared.commands.Reply.{Reply}
use Rattle.obj_id.specs.declared.commands.Reply.TheVariants as reply
use Rattle.obj_id.specs.declared.refusals.Refusal.TheVariants.{NoMemory}
use Rattle.private_store.specs.declared.schedules.Event.{Event}
use Rattle.private_store.specs.laws.Answers.{is_small_reply}
use Rattle.node_gate.specs.Calls.{IsNext}
use Rattle.node_steps.specs.declared.stepping.Stepped.{Stepped}

-- the answer, with its receipt if there is one
abbrev IsAnswered : {T M E : Type 0} → Result (Stepped T M E) OutOfMemory → Reply (List ℕ) → Option T → Type 0
IsAnswered stepped response given = MatchResult stepped (λ s. (response ≡ s.reply) × (given ≡ Some s.receipt)) (λ _. (response ≡ reply.Refused NoMemory) × (given ≡ None))

pub answered : {T M E : Type 0} (stepped : Result (Stepped T M E) OutOfMemory) (response : Reply (List ℕ)) (given : Option T) (P : Reply (List ℕ) → T → Type 0) → IsAnswered stepped response given
    → IfOk stepped (λ s. P s.reply s.receipt) → MatchOption given (response ≡ reply.Refused NoMemory) (λ r. P response r)
answered {T} {M} {E} (Ok s) response given P is made = subst (λ (o : Option T). MatchOption o (response ≡ reply.Refused NoMemory) (λ r. P response r)) (sym is.1) (subst (λ t. P t s.receipt) (sym is.0) made)
answered {T} {M} {E} (Err error) response given P is made = subst (λ (o : Option T). MatchOption o (response ≡ reply.Refused NoMemory) (λ r. P response r)) (sym is.1) is.0

pub answered_small : {T M E : Type 0} (stepped : Result (Stepped T M E) OutOfMemory) (response : Reply (List ℕ)) (given : Option T) → IsAnswered stepped response given
    → IfOk stepped (λ s. is_small_reply s.reply ≡ true) → is_small_reply response ≡ true
answered_small (Ok s) response given is small = ap is_small_reply is.0 ∙ small
answered_small (Err error) response given is small = ap is_small_reply is.0

-- what is said of its receipt
pub answered_at : {T M E : Type 0} (stepped : Result (Stepped T M E) OutOfMemory) (response : Reply (List ℕ)) (given : Option T) (P : T → Type 0) → IsAnswered stepped response given
    → IfOk stepped (λ s. P s.receipt) → IfSome given P
answered_at (Ok s) response given P is made = subst (λ o. IfSome o P) (sym is.1) made
answered_at (Err error) response given P is made = subst (λ o. IfSome o P) (sym is.1) tt

-- what is said of a session's command that came after others is said of it
pub called_of : {T : Type 0} (called : Event → Reply (List ℕ) → T → Type 0) (rises : T → T → Type 0) (earlier : Option T) (e : Event) (response : Reply (List ℕ)) (given : Option T)
    → MatchOption given (response ≡ reply.Refused NoMemory) (λ r. IsNext called rises earlier e response r) → MatchOption given (response ≡ reply.Refused NoMemory) (λ r. called e response r)
called_of called rises earlier e response None none = none
called_of called rises earlier e response (Some r) next = next.is_called
