-- What may cross threads: a node with its journal.
use denote.Param.Send.{IsSend, sendable}
use denote.Param.SendFields.{declared_send}
use denote.RattleType.{RattleType}
use Rattle.std.proofs.Crossing.{crosses}
use Rattle.indexmap.proofs.map.IndexMap.TheSendSync.{the_send as map_send}
use Rattle.indexmap.proofs.set.IndexSet.TheSendSync.{the_send as set_send}
use Rattle.obj_id.proofs.ids.JobNo.TheSendSync.{the_send as job_send}
use Rattle.obj_id.proofs.ids.TaskNo.TheSendSync.{the_send as task_send}
use Rattle.job_region.proofs.Crossing.{window_send}
use Rattle.lru_evictor.proofs.Crossing.{order_send}
use Rattle.hashed_bytes.proofs.Hashed.TheSendSync.{the_send as hashed_send}
use Rattle.bytes.proofs.shared.Bytes.TheSendSync.{the_send as bytes_send}
use Rattle.spill_work.proofs.Works.TheSendSync.{the_send as works_send}
use Rattle.job_admission.proofs.Admission.TheSendSync.{the_send as admission_send}
use Rattle.job_row.specs.contracts.row.JobRow as JobRow
use Rattle.job_row.proofs.copies.Copies.TheSendSync.{the_send as copies_send}
use Rattle.node_core.specs.contracts.Node as Node
use Rattle.cluster_history.specs.declared.names.ClusterShape.{Ghosts as Shape}
use Rattle.cluster_history.specs.declared.names.HistoryName.{Ghosts as Named}
use Rattle.cluster_history.proofs.place.Place.TheSendSync.{the_send as place_send}
use Rattle.node_journal.specs.contracts.kept.Kept as Kept
use Rattle.node_journal.specs.contracts.recorded.Recorded as Recorded
use Rattle.node_journal.proofs.logs.Logs.TheSendSync.{the_send as logs_send}
use Rattle.std.specs.declared.sync.ledger.Ledger.{Ghosts}
use Rattle.std.proofs.sync.ledger.Share.TheSendSync.{the_send as share_send}

pub row_send : IsSend JobRow.the_row
row_send = search (window_send, copies_send, order_send, set_send, task_send, hashed_send, bytes_send, sendable, crosses) depth 40 fits 20000

pub node_send : IsSend Node.the_row
node_send = search (row_send, works_send, admission_send, map_send, job_send, sendable, crosses) depth 40

module _ (L : RattleType) (g : Ghosts L.Denot) where
  pub kept_send : IsSend (Kept.the_row L g)
  kept_send = declared_send (Kept.the_type L g) (search (sendable, crosses) depth 20, (node_send, (search sendable, (logs_send, (search sendable, (search (share_send, sendable) depth 20, tt))))))

module _ (L S : RattleType) (g : Ghosts L.Denot) (h : Named L.Denot) (s : Shape S.Denot) where
  pub recorded_send : IsSend (Recorded.the_row L S g h s)
  recorded_send = search (node_send, logs_send, share_send, place_send, sendable, crosses) depth 40 fits 20000
