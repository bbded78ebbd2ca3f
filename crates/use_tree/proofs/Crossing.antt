-- What may cross threads: uses.
use denote.Param.Send.{IsSend, sendable}
use denote.Param.SendFields.{declared_send}
use Rattle.std.proofs.Crossing.{crosses}
use Rattle.augmented_tree.proofs.Crossing.{tree_send}
use Rattle.use_tree.proofs.classes.VictimClasses.TheSendSync.{the_send as choices_send}
use Rattle.use_tree.proofs.uses.Use.TheSendSync.{the_send as use_send}
use Rattle.use_tree.specs.contracts.uses.Uses as Uses
use Rattle.use_tree.specs.contracts.uses.Uses.TheInside as Inside

inside_send : IsSend Inside.the_row
inside_send = declared_send Inside.the_type (search (tree_send, use_send, choices_send, sendable, crosses) depth 40, (search sendable, tt))

pub uses_send : IsSend Uses.the_row
uses_send = search (inside_send, sendable)
