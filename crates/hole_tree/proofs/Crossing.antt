-- What may cross threads: holes, and room for one.
use denote.Param.Send.{IsSend, sendable}
use denote.Param.SendFields.{declared_send}
use Rattle.std.proofs.Crossing.{crosses}
use Rattle.augmented_tree.proofs.Crossing.{tree_send, room_send as tree_room_send}
use Rattle.hole_tree.specs.contracts.Hole as Hole
use Rattle.hole_tree.specs.contracts.Holes as Holes
use Rattle.hole_tree.specs.contracts.Holes.TheInside as Inside
use Rattle.hole_tree.specs.contracts.SpareNode as SpareNode

hole_send : IsSend Hole.the_row
hole_send = search sendable

inside_send : IsSend Inside.the_row
inside_send = declared_send Inside.the_type (search (tree_send, hole_send, sendable, crosses) depth 40, (search sendable, tt))

pub holes_send : IsSend Holes.the_row
holes_send = search (inside_send, sendable)

pub room_send : IsSend SpareNode.the_row
room_send = declared_send SpareNode.the_type (search (tree_room_send, hole_send, sendable, crosses) depth 40, tt)
