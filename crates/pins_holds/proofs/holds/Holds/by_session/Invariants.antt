use Rattle.std.proofs.Common.{◌≡◌, ◌++◌}
use Rattle.pins_holds.proofs.holds.Holds.by_session.Given as goal

-- those so far and those of what is left are all
abbrev pub invariant-loop-session : goal.invariant-loop-session
invariant-loop-session l = l.held.items ++ l.session-iterator ≡ l.self
