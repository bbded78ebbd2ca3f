use Rattle.std.proofs.Common.{◌≡◌, ◌==◌, ◌++◌, ◌≤◌, ℕ, length, true}
use Rattle.std.specs.Prelude.{if◌then◌else◌}
use Rattle.std.specs.Vec.Iter.{into_iter_items, into_iter_len}
use Rattle.private_store.specs.rules.Cluster.{posted}
use Rattle.world_core.specs.Logs.{messages_of, sent_of, has_room}
use Rattle.world_core.proofs.messages.Messages.add.Given as goal

abbrev pub invariant-loop-to : goal.invariant-loop-to
invariant-loop-to l = record {
  sent : (other : ℕ) → (if l.fn.job.0 == other then sent_of (messages_of l.self.logs) other ++ posted l.fn.from (into_iter_items l.to-iterator) else sent_of (messages_of l.self.logs) other)
      ≡ (if l.fn.job.0 == other then sent_of (messages_of l.fn.self.logs) other ++ posted l.fn.from l.fn.posts else sent_of (messages_of l.fn.self.logs) other);
  room : 1 ≤ length (into_iter_items l.to-iterator) → has_room l.self l.fn.job (length (into_iter_items l.to-iterator)) ≡ true;
  left : into_iter_len l.to-iterator ≡ length (into_iter_items l.to-iterator);
}
