-- What may cross threads: a tree whose items and summaries may. `search` doesn't get through it, since it reaches itself.
use denote.Hole.{as_row}
use denote.Hole.Fix.{holes}
use denote.Hole.FixSend.{Sends, fix_send}
use denote.Param.Send.{IsSend, sendable}
use denote.Param.SendFields.{as_row_send, variants_send, declared_send}
use denote.RattleType.{RattleType}
use denote.Struct.Field.{row_field}
use Rattle.std.specs.contracts.alloc.Global as Heap
use Rattle.std.specs.contracts.boxed.Box as Box
use Rattle.std.specs.contracts.impls.GlobalAllocator.TheImpl.{ghosts}
use Rattle.std.proofs.Crossing.{Box-send, crosses}
use Rattle.augmented_tree.specs.contracts.Node as Node
use Rattle.augmented_tree.specs.contracts.SpareNode as SpareNode
use Rattle.augmented_tree.specs.contracts.Tree as Tree
use Rattle.augmented_tree.specs.contracts.Tree.TheKnot as knot
use Rattle.augmented_tree.specs.declared.Tree.TheBlock as block

module _ (T S : RattleType) (t : IsSend T) (s : IsSend S) where
  layer_sends : (i : block.the_members T.Denot S.Denot) → Sends (knot.ring T S) i
  layer_sends block.member-Tree = record { send = λ h b. variants_send (knot.type-Tree T S (h block.member-Node)) (tt, ((as_row_send (row_field (Box.the_row (h block.member-Node) Heap.the_row ghosts)) (Box-send (h block.member-Node) (b block.member-Node)), tt), tt)) }
  layer_sends block.member-Node = record { send = λ h b. declared_send (knot.type-Node T S (h block.member-Tree) (h block.member-Tree)) (as_row_send (row_field (as_row (row_field T))) (as_row_send (row_field T) t), (as_row_send (row_field (as_row (row_field S))) (as_row_send (row_field S) s), (as_row_send (row_field (h block.member-Tree)) (b block.member-Tree), (as_row_send (row_field (h block.member-Tree)) (b block.member-Tree), tt)))) }

  hole_send : (i : block.the_members T.Denot S.Denot) → IsSend (holes (knot.ring T S) i)
  hole_send = fix_send (knot.ring T S) layer_sends

  pub tree_send : IsSend (Tree.the_row T S)
  tree_send = variants_send (Tree.enum T S) (tt, ((as_row_send (Box.the_field (knot.hole-Node T S) Heap.the_row ghosts) (Box-send (knot.hole-Node T S) (hole_send block.member-Node)), tt), tt))

  node_send : IsSend (Node.the_row T S)
  node_send = declared_send (Node.the_type T S) (as_row_send (row_field T) t, (as_row_send (row_field S) s, (tree_send, (tree_send, tt))))

  pub room_send : IsSend (SpareNode.the_row T S)
  room_send = search (node_send, sendable, crosses) depth 40
