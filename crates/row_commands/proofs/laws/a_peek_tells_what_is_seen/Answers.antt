use Rattle.row_commands.proofs.Peeking.{peeks}
use Rattle.row_commands.proofs.laws.a_peek_tells_what_is_seen.Goals as goal

pub returns : goal.returns
returns c node line grants bytes row contents session id offset n h = peeks node line grants bytes row contents session id offset n h
