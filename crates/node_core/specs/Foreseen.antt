-- What is known of an event before it is taken: how many messages it sends at most, and whom it may tell of grants.
use Rattle.std.specs.Prelude.{◌≡◌, ℕ, ◌+◌, ◌*◌, List, [], ◌∷◌, length, map, Option}
use Rattle.std.specs.Option.{option_map_or}
use Rattle.obj_id.specs.declared.ids.JobNo.{JobNo}
use Rattle.obj_id.specs.declared.commands.Command.{Command}
use Rattle.obj_id.specs.declared.commands.Command.TheVariants as command
use Rattle.obj_id.specs.declared.messages.Arrival.{Arrival}
use Rattle.obj_id.specs.declared.messages.Arrival.TheVariants as arrival
use Rattle.obj_id.specs.declared.messages.PeerMessage.TheVariants as peer
use Rattle.obj_id.specs.declared.commands.Reply.{Reply}
use Rattle.obj_id.specs.declared.commands.Reply.TheVariants as reply
use Rattle.command_kinds.specs.declared.command_kind.MostSent.{MostSent}
use Rattle.command_kinds.specs.declared.command_kind.MostSent.TheVariants as sent
use Rattle.private_store.specs.declared.schedules.Event.{Event}
use Rattle.private_store.specs.declared.schedules.Event.TheVariants as event
use Rattle.private_store.specs.rules.Grants.{StandingGrant, grants_ended}
use Rattle.private_store.specs.rules.Trace.{ends}
use Rattle.job_row.specs.Row.{Row}
use Rattle.node_core.specs.Hosted.{Hosted, row_at}

-- the most messages that a command of a job with this row, or none, sends: Create may evict each copy, and tells the
-- directory of each; Get may do so as well, and asks a node for the object; EndTask may doom each copy, and give up a borrow of
-- each
abbrev pub most_by_command : Option Row → Command (List ℕ) → ℕ
most_by_command own (command.Create id kind n) = option_map_or (λ row. length row.copies) own 0
most_by_command own (command.Seal id) = 1
most_by_command own (command.Get id) = option_map_or (λ row. length row.copies + 1) own 0
most_by_command own (command.Unpin id task) = 1
most_by_command own (command.GiveUp id task) = 1
most_by_command own (command.Delete id) = 1
most_by_command own (command.EndTask task) = option_map_or (λ row. 2 * length row.copies) own 0
most_by_command own _ = 0

-- so many messages, by the copies of a job with this row, or none
abbrev pub most_sent : Option Row → MostSent → ℕ
most_sent own sent.Nothing = 0
most_sent own sent.One = 1
most_sent own sent.EachCopy = option_map_or (λ row. length row.copies) own 0
most_sent own sent.EachCopyAndOne = option_map_or (λ row. length row.copies + 1) own 0
most_sent own sent.EachCopyTwice = option_map_or (λ row. 2 * length row.copies) own 0

-- the most messages that the event sends
abbrev pub most_messages : Hosted → Event → ℕ
most_messages node (event.JobEnd job) = 1
most_messages node (event.Call job session c) = most_by_command (row_at node job) c
most_messages node _ = 0

-- the most messages that an arrival for a job with this row, or none, sends: a Pull is sent the chunks that it asks for, or
-- makes room for bytes that are read back, for which each copy may be evicted
abbrev pub most_by_arrival : Option Row → Arrival → ℕ
most_by_arrival own (arrival.Located id number entries) = 0
most_by_arrival own (arrival.FromPeer from (peer.Pull id number n digest indexes)) = option_map_or (λ row. length row.copies + length indexes + 1) own 0
most_by_arrival own (arrival.FromPeer from (peer.Chunk id number index bytes)) = option_map_or (λ row. 1) own 0
most_by_arrival own (arrival.FromPeer from (peer.NotHere id number)) = option_map_or (λ row. 1) own 0

-- of grants, those to whom they were given
abbrev pub grantees_in : List StandingGrant → List JobNo
grantees_in grants = map (λ grant. record { 0 = grant.grantee }) grants

-- the jobs that the event tells of grants if it is accepted, one for each note, in their order
abbrev pub grantees_of : List StandingGrant → Event → List JobNo
grantees_of grants (event.Call job session (command.Grant id target)) = target ∷ []
grantees_of grants e = option_map_or (λ test. grantees_in (grants_ended test grants)) (ends e) []

-- these are the jobs that it told
abbrev pub AreTakers : List StandingGrant → Event → Reply (List ℕ) → List JobNo → Type 0
AreTakers grants e reply.Ok grantees = grantees ≡ grantees_of grants e
AreTakers grants e _ grantees = grantees ≡ []
