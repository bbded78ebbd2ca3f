-- What the operator is shown of a node, as lines.
use Rattle.std.specs.Prelude.{◌≡◌, ◌⊎◌, ℕ, List, [], ◌∷◌, ◌++◌, Some, None, Result, Ok, Err, IfErr, codes, decimal}
use Rattle.obj_id.specs.declared.commands.Reply.{Reply}
use Rattle.obj_id.specs.declared.commands.Reply.TheVariants as reply
use Rattle.obj_id.specs.declared.commands.Usage.{Usage}
use Rattle.obj_id.specs.declared.ids.JobNo.{JobNo}
use Rattle.obj_id.specs.declared.refusals.Refusal.{Refusal}
use Rattle.obj_id.specs.declared.refusals.Refusal.TheVariants.{NotAdmitted}
use Rattle.private_store.specs.declared.schedules.StepAnswer.TheVariants.{Response}
use Rattle.schedule_text.specs.declared.prefixes.Prefix.TheVariants.{Operator}
use Rattle.schedule_text.specs.Printing.{line_text}
use Rattle.node_gate.specs.declared.journaled.LiveJob.{LiveJob}
use Rattle.node_housekeeping.specs.declared.open_sessions.CountedSessions.{CountedSessions}
use Rattle.node_housekeeping.specs.declared.open_stream.ListedSession.{ListedSession}
use Rattle.program_lines.specs.declared.control_lines.Look.{Look}
use Rattle.program_lines.specs.declared.control_lines.Look.TheVariants as look
use Rattle.schedule_text.specs.Lines.{with_line_feed}
use Rattle.operator_service.specs.Counts.{IsJobCountsLine, IsNodeCountsLine}

-- a job with its quotas, after a space
abbrev pub job_text : LiveJob → List ℕ
job_text live = codes " " ++ decimal live.job.0 ++ codes ":" ++ decimal live.usage.window ++ codes ":" ++ decimal live.usage.device

abbrev pub jobs_text : List LiveJob → List ℕ
jobs_text [] = []
jobs_text (live ∷ jobs) = job_text live ++ jobs_text jobs

abbrev pub jobs_line : ℕ → List LiveJob → List ℕ
jobs_line node jobs = with_line_feed (codes "n" ++ decimal node ++ codes " op jobs" ++ jobs_text jobs)

abbrev pub sessions_line : ℕ → ℕ → List ℕ
sessions_line node sessions = with_line_feed (codes "n" ++ decimal node ++ codes " op sessions " ++ decimal sessions)

-- a session with its job, its age in seconds and how many commands it gave, after a space
abbrev pub stream_text : ListedSession → List ℕ
stream_text listed = codes " " ++ decimal listed.session ++ codes ":" ++ decimal listed.job.0 ++ codes ":" ++ decimal listed.seconds ++ codes ":" ++ decimal listed.commands

abbrev pub streams_text : List ListedSession → List ℕ
streams_text [] = []
streams_text (listed ∷ sessions) = stream_text listed ++ streams_text sessions

abbrev pub streams_line : ℕ → List ListedSession → List ℕ
streams_line node sessions = with_line_feed (codes "n" ++ decimal node ++ codes " op streams" ++ streams_text sessions)

-- the stream of this job's session was shut down, or there is none
abbrev pub kicked_line : ℕ → ℕ → ℕ → List ℕ
kicked_line node job session = with_line_feed (codes "n" ++ decimal node ++ codes " op kicked " ++ decimal job ++ codes " " ++ decimal session)

abbrev pub no_session_line : ℕ → ℕ → ℕ → List ℕ
no_session_line node job session = with_line_feed (codes "n" ++ decimal node ++ codes " op no session " ++ decimal job ++ codes " " ++ decimal session)

abbrev pub IsKickText : ℕ → ℕ → ℕ → List ℕ → Type 0
IsKickText node job session line = (line ≡ kicked_line node job session) ⊎ (line ≡ no_session_line node job session)

-- a job's usage, or that it isn't live
abbrev pub usage_reply : Result Usage Refusal → Reply (List ℕ)
usage_reply (Ok usage) = reply.Usage usage
usage_reply (Err refusal) = reply.Refused refusal

-- the line that shows it: what a session is told of this job, the live jobs, how many sessions are open, or which, or what was counted
pub record IsJobsLine (are_live : ℕ → List LiveJob → Type 0) (node : ℕ) (line : List ℕ) : Type 0 where
  pub jobs : List LiveJob
  pub shown : are_live node jobs
  pub is : line ≡ jobs_line node jobs

pub record IsUsageLine (is_usage : ℕ → JobNo → Result Usage Refusal → Type 0) (node : ℕ) (job : JobNo) (line : List ℕ) : Type 0 where
  pub told : Result Usage Refusal
  pub shown : is_usage node job told
  pub refused : IfErr told (λ refusal. refusal ≡ NotAdmitted)
  pub is : line ≡ line_text (Operator node) (Response (usage_reply told))

pub record IsSessionsLine (node : ℕ) (line : List ℕ) : Type 0 where
  pub counted : CountedSessions
  pub at : counted.node ≡ node
  pub is : line ≡ sessions_line node counted.sessions

pub record IsStreamsLine (node : ℕ) (line : List ℕ) : Type 0 where
  pub sessions : List ListedSession
  pub is : line ≡ streams_line node sessions

abbrev pub IsLookText : (ℕ → List LiveJob → Type 0) → (ℕ → JobNo → Result Usage Refusal → Type 0) → ℕ → Look → List ℕ → Type 0
IsLookText are_live is_usage node look.Jobs line = IsJobsLine are_live node line
IsLookText are_live is_usage node (look.Usage job) line = IsUsageLine is_usage node job line
IsLookText are_live is_usage node look.Sessions line = IsSessionsLine node line
IsLookText are_live is_usage node look.Streams line = IsStreamsLine node line
IsLookText are_live is_usage node (look.Counts None) line = IsNodeCountsLine node line
IsLookText are_live is_usage node (look.Counts (Some job)) line = IsJobCountsLine node job.0 line
