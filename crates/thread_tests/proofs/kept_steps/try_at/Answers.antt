use denote.Exit.{no}
use denote.Param.{param}
use denote.Param.Send.{param_send, arg_send, sendable}
use Rattle.node_journal.proofs.Crossing.{recorded_send, row_send}
use Rattle.thread_tests.proofs.kept_steps.try_at.Goals as goal

-- the nodes may cross threads, and so may what is kept of a job that ended
pub step_beside-stepped-requires-send-K : goal.step_beside-stepped-requires-send-K
step_beside-stepped-requires-send-K g c κs within = param_send 0 _ (arg_send _ no _ (recorded_send (param 0 g.row.L) (param 1 g.row.S) g.L.Ledger g.L.HistoryName g.S.ClusterShape))

pub step_beside-stepped-requires-send-K-Gone : goal.step_beside-stepped-requires-send-K-Gone
step_beside-stepped-requires-send-K-Gone g c κs within = search (row_send, sendable) depth 40
