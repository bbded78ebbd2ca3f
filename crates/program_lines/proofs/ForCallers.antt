-- What the proofs of other crates cite of this one.

-- the line that is read next is the next one of the input
pub use Rattle.program_lines.proofs.NextLines.{next_line}
