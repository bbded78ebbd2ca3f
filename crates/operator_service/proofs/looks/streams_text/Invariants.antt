use Rattle.std.proofs.Common.{◌≡◌, ◌++◌, drop}
use Rattle.std.specs.String.{string_bytes}
use Rattle.operator_service.specs.Looks.{streams_text}
use Rattle.operator_service.proofs.looks.streams_text.Given as goal

abbrev pub invariant-loop-listed : goal.invariant-loop-listed
invariant-loop-listed l = string_bytes l.text ++ streams_text (drop l.listed-index l.sessions) ≡ streams_text l.sessions
