-- What may cross threads: resident extents.
use denote.Param.Send.{IsSend, sendable}
use denote.Param.SendFields.{declared_send}
use Rattle.std.proofs.Crossing.{crosses}
use Rattle.augmented_tree.proofs.Crossing.{tree_send}
use Rattle.extent_tree.proofs.residents.Resident.TheSendSync.{the_send as resident_send}
use Rattle.extent_tree.proofs.spans.Spans.TheSendSync.{the_send as spans_send}
use Rattle.extent_tree.specs.contracts.residents.Residents as Residents
use Rattle.extent_tree.specs.contracts.residents.Residents.TheInside as Inside

inside_send : IsSend Inside.the_row
inside_send = declared_send Inside.the_type (search (tree_send, resident_send, spans_send, sendable, crosses) depth 40, (search sendable, tt))

pub residents_send : IsSend Residents.the_row
residents_send = search (inside_send, sendable)
