-- What every input's change is made of: edits of the store, one after another, and an answer. An
-- invariant that each edit keeps is kept by every input, and a fact of each answer is a fact of every
-- input's; so a law is proved by its cases over these few, and not over commands. Four things still are, since no edit
-- tells them: that a store stays kept needs the checks that were passed; where a copy stands, the room that was made;
-- what a refusal leaves, which edits go with which answer; what a job's own part shows, two stores beside each other.
use Rattle.std.specs.Prelude.{◌≡◌, ℕ, ◌+◌, ◌==◌, nat_lt, Bool, true, false, ◌&&◌, [], ◌∷◌, ◌++◌, filter, Option, Some, None, is_some}
use Rattle.std.specs.Option.{option_map_or}
use Rattle.obj_id.specs.declared.ids.JobNo.{JobNo}
use Rattle.obj_id.specs.declared.ids.TaskNo.{TaskNo}
use Rattle.obj_id.specs.declared.ids.ObjectId.{ObjectId}
use Rattle.obj_id.specs.declared.works.Quota.{Quota}
use Rattle.obj_id.specs.declared.commands.Kind.{Kind}
use Rattle.std.specs.List.{list_all}
use Rattle.obj_id.specs.declared.commands.Command.{Command}
use Rattle.obj_id.specs.declared.commands.Command.TheVariants as command
use Rattle.obj_id.specs.declared.commands.Reply.{Reply}
use Rattle.obj_id.specs.declared.commands.Reply.TheVariants as reply
use Rattle.obj_id.specs.declared.refusals.Refusal.{Refusal}
use Rattle.obj_id.specs.declared.refusals.Refusal.TheVariants.{NoMemory}
use Rattle.private_store.specs.declared.inputs.Judged.{Judged}
use Rattle.private_store.specs.declared.inputs.Judged.TheVariants as judged
use Rattle.private_store.specs.declared.faults.FetchFault.{FetchFault}
use Rattle.private_store.specs.rules.Limits.{most_bytes, has_numbers, is_quota}
use Rattle.private_store.specs.rules.Tables.{ById, at, with_entry, without_entry}
use Rattle.private_store.specs.rules.Extents.{rounded}
use Rattle.private_store.specs.rules.Shape.{Copy, Shape, Change, Sending, add_location, remove_location, remove_source, free, end_job, locate, pull, chunks, not_here, Fetch, failed, GrantGiven, Seen, not_begun, live}
use Rattle.private_store.specs.rules.Marks.{Mark, marked}
use Rattle.private_store.specs.rules.Marks as mark
use Rattle.obj_id.specs.Kinds.{is_primary}
use Rattle.private_store.specs.rules.Copies.{is_idle, fits_quota}
use Rattle.private_store.specs.rules.Room.{set_copy, drop_copy, asked}
use Rattle.private_store.specs.rules.Commands.{new_copy, holds_of, is_unsealed, fetch_begun, task_ended, own_items, granted_items, usage_of}
use Rattle.private_store.specs.rules.Events.{is_live, over, without_work, received, without_grant}
use Rattle.private_store.specs.laws.Invariants.{is_end}

-- whether the refusal is out of memory
abbrev pub is_want : Refusal → Bool
is_want NoMemory = true
is_want _ = false

-- ---- what an input may do

-- the commands that may change grants
abbrev pub is_grant_command : Command ℕ → Bool
is_grant_command (command.Grant id target) = true
is_grant_command (command.Withdraw id target) = true
is_grant_command (command.EndTask task) = true
is_grant_command _ = false

-- the inputs that may change what the job gave or was given
abbrev pub changes_grants : Judged → Bool
changes_grants (judged.Call session c) = is_grant_command c
changes_grants (judged.Received id n grantor depth) = true
changes_grants (judged.Withdrawn id grantor depth) = true
changes_grants judged.End = true
changes_grants _ = false

-- the commands that place, fill and seal no copy
abbrev pub is_calm_command : Command ℕ → Bool
is_calm_command (command.Create id kind n) = false
is_calm_command (command.Seal id) = false
is_calm_command (command.Get id) = false
is_calm_command _ = true

-- the inputs that leave each copy its bytes or take it away, and ask for no work
abbrev pub is_calm : Judged → Bool
is_calm (judged.Call session c) = is_calm_command c
is_calm (judged.Withdrawn id grantor depth) = true
is_calm _ = false

-- ---- edits

-- what a mark needs of the input and of the copy
abbrev pub Can : Judged → Mark → Copy → Type 0
Can x mark.sealed copy = is_calm x ≡ false
Can x mark.evicted copy = is_primary copy.kind ≡ true
Can x (mark.backed number) copy = is_calm x ≡ false
Can x (mark.restoring offset) copy = is_calm x ≡ false
Can x mark.restored copy = is_calm x ≡ false
Can x (mark.located fetch source) copy = (copy.fetch ≡ Some fetch) × (is_calm x ≡ false)
Can x (mark.pulled fetch offset source) copy = (copy.fetch ≡ Some fetch) × (is_calm x ≡ false)
Can x (mark.lacking fetch source missing) copy = copy.fetch ≡ Some fetch
Can x mark.brought copy = is_calm x ≡ false
Can x (mark.fetch_failed fetch fault) copy = (copy.fetch ≡ Some fetch) × (is_calm x ≡ false)
Can x _ copy = Unit {0}

-- why a copy goes
pub data Goes (store : Shape) (id : ObjectId) (copy : Copy) : Type 0 where
  as_secondary : is_primary copy.kind ≡ false → Goes store id copy
  as_doomed : (copy.doomed && is_idle store id copy) ≡ true → Goes store id copy
  as_failed : (fetch : Fetch) (fault : FetchFault) → copy.fetch ≡ Some fetch → fetch.phase ≡ failed fault → Goes store id copy

-- one edit of a store by an input that makes this copy most recently used
pub data Edit (x : Judged) (used : Option ObjectId) (store : Shape) : Shape → Type 0 where
  marks : (id : ObjectId) (copy : Copy) (m : Mark) → at store.copies id ≡ Some copy → Can x m copy → Edit x used store (set_copy store id (marked m copy))
  drops : (id : ObjectId) (copy : Copy) → at store.copies id ≡ Some copy → Goes store id copy → Edit x used store (drop_copy store id)
  -- a new copy, at an offset that was found for it
  creates : (id : ObjectId) (kind : Kind) (n offset : ℕ) → used ≡ Some id → is_calm x ≡ false → Edit x used store (set_copy store id (new_copy kind n offset))
  fetches : (id : ObjectId) → used ≡ Some id → at store.copies id ≡ None → has_numbers store.fetches_begun 1 ≡ true → is_calm x ≡ false
      → Edit x used store (fetch_begun store id (store.fetches_begun + 1))
  -- a work is asked for; a work is answered
  asks : (writes : Bool) (id : ObjectId) → is_calm x ≡ false → Edit x used store (asked writes store id)
  finishes : (number : ℕ) → Edit x used store (without_work store number)
  -- whether a spill failed that isn't answered yet
  flags : (failed : Bool) → Edit x used store (record store { spill_failed = failed })
  ends_task : (task : TaskNo) → changes_grants x ≡ true → Edit x used store (task_ended store task)
  gives : (grant : GrantGiven) → changes_grants x ≡ true → Edit x used store (record store { given = store.given ++ grant ∷ [] })
  -- of the grants given, those that pass the test are left
  leaves : (stands : GrantGiven → Bool) → changes_grants x ≡ true → Edit x used store (record store { given = filter stands store.given })
  receives : (id : ObjectId) (n : ℕ) (grantor : JobNo) (depth : ℕ) → x ≡ judged.Received id n grantor depth → Edit x used store (received store id n grantor.0 depth).shape
  loses : (id : ObjectId) (grantor depth : ℕ) (seen : Seen) → at store.received id ≡ Some seen → changes_grants x ≡ true
      → Edit x used store (record store { received = option_map_or (λ left. with_entry store.received id left) (without_grant seen grantor depth) (without_entry store.received id) })
  begins : (quota : Quota) → x ≡ judged.Begin quota → store.life ≡ not_begun → is_quota quota ≡ true → Edit x used store (record store { life = live; quota = quota })
  requotas : (quota : Quota) → x ≡ judged.Requota quota → is_quota quota ≡ true → fits_quota store quota ≡ true → Edit x used store (record store { quota = quota })
  ends : is_end x ≡ true → is_live store ≡ true → Edit x used store (over store)

-- edits, one after another
pub data Edits (x : Judged) (used : Option ObjectId) (store : Shape) : Shape → Type 0 where
  none : Edits x used store store
  then_edit : {mid after : Shape} → Edits x used store mid → Edit x used mid after → Edits x used store after

-- ---- the answer

-- the checks that a Read or a Peek passed before it told n bytes: they were there
pub record IsReadAnswered (store : Shape) (session : ℕ) (id : ObjectId) (offset n : ℕ) : Type 0 where
  pub copy : Copy
  pub there : at store.copies id ≡ Some copy
  pub sealed : is_unsealed copy.state ≡ false
  pub held : (holds_of copy session == 0) ≡ false
  pub within : nat_lt copy.length (offset + n) ≡ false
  pub few : nat_lt most_bytes n ≡ false

pub record IsPeekAnswered (store : Shape) (id : ObjectId) (offset n : ℕ) : Type 0 where
  pub seen : Seen
  pub there : at store.received id ≡ Some seen
  pub within : nat_lt seen.length (offset + n) ≡ false
  pub few : nat_lt most_bytes n ≡ false

-- only those two tell bytes, and tell as many as were asked for
abbrev pub BytesAnswered : Shape → Judged → ℕ → Type 0
BytesAnswered store (judged.Call session (command.Read id offset m)) n = (m ≡ n) × IsReadAnswered store session id offset n
BytesAnswered store (judged.Call session (command.Peek id offset m)) n = (m ≡ n) × IsPeekAnswered store id offset n
BytesAnswered store _ n = ⊥

-- what an input may be answered, by the store as it was before
pub data Response (x : Judged) (store : Shape) : Reply ℕ → Type 0 where
  response_ok : Response x store reply.Ok
  response_placed : (offset n : ℕ) → Response x store (reply.Placed offset (rounded n))
  response_got : (id : ObjectId) (copy : Copy) → at store.copies id ≡ Some copy → Response x store (reply.Got copy.length)
  response_bytes : (n : ℕ) → BytesAnswered store x n → Response x store (reply.Bytes n)
  response_list : Response x store (reply.List (own_items store) (granted_items store))
  response_usage : Response x store (reply.Usage (usage_of store))
  response_refused : (refusal : Refusal) → is_want refusal ≡ false → Response x store (reply.Refused refusal)

-- what was made most recently used is there
abbrev pub IsUsedThere : Option ObjectId → ById Copy → Type 0
IsUsedThere None copies = Unit {0}
IsUsedThere (Some id) copies = is_some (at copies id) ≡ true

-- ---- messages

-- what is sent of a copy that is doomed
abbrev pub is_doom_notice : Sending → Bool
is_doom_notice (remove_location _) = true
is_doom_notice (free _) = true
is_doom_notice _ = false

-- what each command may send
abbrev pub command_sends : Command ℕ → Sending → Bool
command_sends (command.Create id kind n) (remove_location _) = true
command_sends (command.Seal id) (add_location _) = true
command_sends (command.Get id) (remove_location _) = true
command_sends (command.Get id) (locate _ _) = true
command_sends (command.Get id) (pull _) = true
command_sends (command.Unpin id task) m = is_doom_notice m
command_sends (command.GiveUp id task) m = is_doom_notice m
command_sends (command.Delete id) m = is_doom_notice m
command_sends (command.EndTask task) m = is_doom_notice m
command_sends _ _ = false

-- what each input may send; those that aren't named send nothing
abbrev pub may_send : Judged → Sending → Bool
may_send (judged.Call session c) m = command_sends c m
may_send (judged.Chunk id number index from verdict) (add_location _) = true
may_send (judged.Pull id number matches) (remove_location _) = true
may_send (judged.Pull id number matches) (chunks _) = true
may_send (judged.Pull id number matches) (not_here _) = true
may_send (judged.NotHere id number from) (remove_source _ _) = true
may_send judged.End end_job = true
may_send _ _ = false

-- the inputs that send nothing
abbrev pub is_silent : Judged → Bool
is_silent (judged.Begin quota) = true
is_silent (judged.Requota quota) = true
is_silent (judged.Answer number verdict) = true
is_silent (judged.Located id number source) = true
is_silent (judged.Received id n grantor depth) = true
is_silent (judged.Withdrawn id grantor depth) = true
is_silent _ = false

-- ---- the change

-- the change leads on from this store, and tells of the one that the input found
pub record IsMadeOf (x : Judged) (found store : Shape) (c : Change) : Type 0 where
  pub edits : Edits x c.used store c.shape
  pub response : Response x found c.reply
  pub used : IsUsedThere c.used c.shape.copies
  pub sent : list_all (may_send x) c.sent ≡ true

abbrev pub IsMade : Judged → Shape → Change → Type 0
IsMade x store c = IsMadeOf x store store c
