use Rattle.std.proofs.Common.{rules, ◌≢◌, ◌∷◌, []}
use Rattle.std.specs.Io.KnownBytes.{Consumes}
use Rattle.program_lines.proofs.TakenLines.{byte_part, byte_more}
use Rattle.program_lines.proofs.taking.take_line.Goals as goal

pub returns-in-Err-keep_byte-clause-part : goal.returns-in-Err-keep_byte-clause-part
returns-in-Err-keep_byte-clause-part g c =
    let read : Consumes (g.R.Read.remaining c.loop.reader) (g.R.Read.remaining c.take_byte.new.reader) (c.in-Ok-Some.byte ∷ []) = search rules in
    let other : c.in-Ok-Some.byte ≢ 10 = search rules in
    byte_part _ _ _ _ c.loop.invariant _ c.in-Ok-Some.byte read other

pub loop-preserved : goal.loop-preserved
loop-preserved g c =
    let read : Consumes (g.R.Read.remaining c.loop.reader) (g.R.Read.remaining c.take_byte.new.reader) (c.in-Ok-Some.byte ∷ []) = search rules in
    let other : c.in-Ok-Some.byte ≢ 10 = search rules in
    byte_more _ _ _ _ c.loop.invariant _ c.in-Ok-Some.byte read other _ _ c.in-Ok.ensures.kept
