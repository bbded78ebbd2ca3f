-- What every answer of a store is like.
use Rattle.std.specs.Prelude.{◌≡◌, ℕ, ◌≤◌, nat_le, nat_lt, Bool, true, false, ◌&&◌, ◌||◌, List, length, Some, is_some, option_map}
use Rattle.std.specs.List.{list_all}
use Rattle.obj_id.specs.declared.ids.ObjectId.{ObjectId}
use Rattle.obj_id.specs.declared.commands.Reply.{Reply}
use Rattle.obj_id.specs.declared.commands.Reply.TheVariants as reply
use Rattle.private_store.specs.declared.inputs.Judged.{Judged}
use Rattle.private_store.specs.declared.inputs.Judged.TheVariants as judged
use Rattle.private_store.specs.rules.Limits.{most_bytes, most_copies, greatest_depth, most_granted}
use Rattle.private_store.specs.rules.Tables.{ById, at}
use Rattle.private_store.specs.rules.Shape.{Shape, Seen}
use Rattle.private_store.specs.laws.Made.{is_want}

-- ---- no answer is NoMemory

-- whether the answer is that there is no memory
abbrev pub wants_memory : {P : Type 0} → Reply P → Bool
wants_memory (reply.Refused refusal) = is_want refusal
wants_memory _ = false

-- ---- without contents

-- the reply as it stands where there are no contents: the number of its bytes
abbrev pub reply_without_payload : Reply (List ℕ) → Reply ℕ
reply_without_payload reply.Ok = reply.Ok
reply_without_payload (reply.Placed offset n) = reply.Placed offset n
reply_without_payload (reply.Got n) = reply.Got n
reply_without_payload (reply.Bytes bytes) = reply.Bytes (length bytes)
reply_without_payload (reply.List own granted) = reply.List own granted
reply_without_payload (reply.Usage usage) = reply.Usage usage
reply_without_payload (reply.Work work) = reply.Work (record { job = work.job; number = work.number; kind = work.kind; key = work.key; length = work.length; payload = option_map length work.payload })
reply_without_payload reply.NoWork = reply.NoWork
reply_without_payload (reply.Refused refusal) = reply.Refused refusal

-- ---- small enough for a frame

-- no more bytes and items than a reply may have; and none that a device worker is answered
abbrev pub is_small_reply : Reply (List ℕ) → Bool
is_small_reply (reply.Bytes bytes) = nat_le (length bytes) most_bytes
is_small_reply (reply.List own granted) =
    nat_le (length own) most_copies && (nat_le (length granted) most_granted && list_all (λ i. nat_le i.depth greatest_depth) granted)
is_small_reply (reply.Work work) = false
is_small_reply reply.NoWork = false
is_small_reply _ = true

-- of what others granted: no more objects than all other live jobs can have handed on, and no grant is deeper
-- than a Grant makes one. The grantors' stores see to it, and no input of this job but Received can break it
pub record AreGrantedWithin (received : ById Seen) : Type 0 where
  pub few : length received ≤ most_granted
  pub shallow : (id : ObjectId) (seen : Seen) → at received id ≡ Some seen → list_all (λ grant. nat_le grant.depth greatest_depth) seen.grants ≡ true

-- whether a grant at this depth may come: it is one that a Grant makes, and there is a place for its object
abbrev pub may_receive : Shape → ObjectId → ℕ → Bool
may_receive store id depth = nat_le depth greatest_depth && (is_some (at store.received id) || nat_lt (length store.received) most_granted)

-- whether what the input brings from other jobs, if it does, is such
abbrev pub brings_within : Shape → Judged → Bool
brings_within store (judged.Received id n grantor depth) = may_receive store id depth
brings_within store _ = true
