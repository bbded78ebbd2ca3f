-- A stream that fails one call.
use Rattle.std.specs.Prelude.{◌≡◌, ◌==◌, ◌-◌, Result, IsErrAnd, ⊤}
use Rattle.std.specs.Bool.{MatchBool}
use Rattle.std.specs.IoError.{error_kind}
use Rattle.std.specs.declared.io.Error.{Error}
use Rattle.std.specs.declared.io.ErrorKind.TheVariants.{Other}
use Rattle.session_engine.specs.declared.faulty.FaultyStream.{FaultyStream}

-- a call whose turn has come fails for good and doesn't reach the stream beneath; each call is counted
pub record FailsInTurn {S T : Type 0} (old : FaultyStream S) (result : Result T Error) (new : FaultyStream S) : Type 0 where
  pub fails : MatchBool (old.turns == 1) (IsErrAnd result (λ e. error_kind e ≡ Other) × (new.inner ≡ old.inner)) ⊤
  pub counted : new.turns ≡ old.turns - 1
