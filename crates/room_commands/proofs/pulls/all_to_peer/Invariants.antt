use Rattle.std.proofs.Common.{◌≡◌, ◌++◌, map}
use Rattle.private_store.specs.rules.Private.{to_peer}
use Rattle.room_commands.proofs.pulls.all_to_peer.Given as goal

-- the posts so far and those of what is left are all
abbrev pub invariant-loop-message : goal.invariant-loop-message
invariant-loop-message l = l.posts.items ++ map (to_peer l.fn.node) l.message-iterator.rest.items ≡ map (to_peer l.fn.node) l.fn.messages.items
