-- What the proofs of other crates cite of this one.

-- what a place may add to what it knows, and what it shows then
pub use Rattle.cluster_history.proofs.Placed.{node_now, event_follows, after_event, arrival_follows, after_arrival, directory_follows, after_directory}
-- what a step at a node and at the directory comes to, and that one which takes nothing sends nothing
pub use Rattle.cluster_history.proofs.Going.{NodeGoesOn, DirectoryGoesOn, take_is_quiet}
-- an entry more at a place
pub use Rattle.cluster_history.proofs.Adding.{count_more}
-- the numbers of what a step sends
pub use Rattle.cluster_history.proofs.Sending.{mail_of, first_sent, rest_is_mail}
-- a node at which nothing has happened
pub use Rattle.cluster_history.proofs.Served.{new_node_after}
