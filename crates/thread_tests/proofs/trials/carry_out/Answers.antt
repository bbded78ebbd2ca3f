use denote.Exit.{no}
use denote.Param.{param}
use denote.Param.Send.{param_send, arg_send, sendable}
use Rattle.node_journal.proofs.Crossing.{recorded_send, row_send}
use Rattle.thread_tests.proofs.trials.carry_out.Goals as goal

-- the nodes may cross threads, and so may what is kept of a job that ended
pub connect-requires-send-K : goal.connect-requires-send-K
connect-requires-send-K g c κs within = param_send 0 _ (arg_send _ no _ (recorded_send (param 0 g.row.L) (param 1 g.row.S) g.L.Ledger g.L.HistoryName g.S.ClusterShape))

pub connect-requires-send-K-Gone : goal.connect-requires-send-K-Gone
connect-requires-send-K-Gone g c κs within = search (row_send, sendable) depth 40

pub carry_out_at-requires-send-K : goal.carry_out_at-requires-send-K
carry_out_at-requires-send-K g c κs within = param_send 0 _ (arg_send _ no _ (recorded_send (param 0 g.row.L) (param 1 g.row.S) g.L.Ledger g.L.HistoryName g.S.ClusterShape))

pub carry_out_at-requires-send-K-Gone : goal.carry_out_at-requires-send-K-Gone
carry_out_at-requires-send-K-Gone g c κs within = search (row_send, sendable) depth 40
