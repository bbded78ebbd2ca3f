-- What the proofs of other crates cite of this one.

-- from what is known of a result to what follows
pub use Rattle.room_commands.proofs.Getting.{each_err, each_ok}
