-- The messages that the jobs of a world sent.
use Rattle.std.specs.Prelude.{◌≡◌, ℕ, zero, suc, nat_le, nat_lt, ◌==◌, Bool, ◌&&◌, List, [], map, length, slice_get, Option, None, unwrap_or}
use Rattle.std.specs.Option.{option_map_or}
use Rattle.std.specs.Map.{lookup}
use Rattle.obj_id.specs.declared.ids.JobNo.{JobNo}
use Rattle.obj_id.specs.declared.messages.Message.{Message}
use Rattle.obj_id.specs.declared.messages.Endpoint.{Endpoint}
use Rattle.private_store.specs.rules.Jobs.{same_job}
use Rattle.private_store.specs.rules.Cluster.{Sent, same_place, messages_between}
use Rattle.world_core.specs.declared.messages.Link.{Link}
use Rattle.world_core.specs.declared.messages.Numbered.{Numbered}

-- what a contract sees of one job's messages
pub record Log : Type 0 where
  -- oldest first
  pub sent : List Sent
  -- how many more messages take no memory, and how many more links
  pub spare : ℕ
  pub links : ℕ

-- those of all jobs
pub record AllLogs : Type 0 where
  pub logs : List (JobNo × Log)
  -- how many more jobs may have a log without taking memory
  pub spare : ℕ
  -- the next such log
  pub fresh : Log

-- whether n messages more take no memory, whatever links they go over
abbrev pub has_places : ℕ → Log → Bool
has_places n log = nat_le n log.spare && nat_le n log.links

-- the same of a job, which may have sent none yet
abbrev pub has_room : AllLogs → JobNo → ℕ → Bool
has_room all job n = option_map_or (has_places n) (lookup (same_job job) all.logs) (nat_lt 0 all.spare && has_places n all.fresh)

-- what each job sent, in the order in which they first did
abbrev pub messages_of : List (JobNo × Log) → List (JobNo × List Sent)
messages_of logs = map (λ e. (e.0, e.1.sent)) logs

-- all messages of a job number, oldest first
abbrev pub sent_of : List (JobNo × List Sent) → ℕ → List Sent
sent_of messages job = unwrap_or (lookup (same_job (record { 0 = job })) messages) []

-- the m-th message that was sent from one place to the other, from 1
abbrev pub message_in : List Sent → Endpoint → Endpoint → ℕ → Option Message
message_in sent from to zero = None
message_in sent from to (suc m) = slice_get (messages_between from to sent) m

-- how many there are
abbrev pub count_over : List Sent → Endpoint → Endpoint → ℕ
count_over sent from to = length (messages_between from to sent)

-- ---- as they are kept

abbrev pub same_link : Link → Link → Bool
same_link a b = same_place a.from b.from && same_place a.to b.to

abbrev pub same_numbered : Numbered → Numbered → Bool
same_numbered a b = same_link a.link b.link && a.number == b.number

abbrev pub sent_in : List (Numbered × Message) → List Sent
sent_in kept = map (λ e. record { from = e.0.link.from; to = e.0.link.to; message = e.1 }) kept

-- each message is under its number, and how many went over each link is counted
pub record AreNumbered (kept : List (Numbered × Message)) (counts : List (Link × ℕ)) : Type 0 where
  pub found : (n : Numbered) → lookup (same_numbered n) kept ≡ message_in (sent_in kept) n.link.from n.link.to n.number
  pub counted : (l : Link) → unwrap_or (lookup (same_link l) counts) 0 ≡ count_over (sent_in kept) l.from l.to
