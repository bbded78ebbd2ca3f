-- A line that is read.
use Rattle.std.proofs.Common.{◌≡◌, ℕ, List, length, drop, Option, None, Some, sym, ap, ◌∙◌}
use Rattle.std.specs.Prelude.{IfSome}
use Rattle.std.specs.Io.BufRead.{take_through}
use Rattle.std.specs.Io.KnownBytes.{Consumes}
use Rattle.std.proofs.Math.Seq.{drop-append_seam}
use Rattle.schedule_text.specs.Lines.{IsNextLine}

-- the line that is read next is the next one of the input
pub next_line : (a r : Option (List ℕ)) (before bytes : List ℕ) → Consumes a r before → IfSome r (λ left. bytes ≡ take_through 10 left) → IsNextLine a before bytes
next_line None r before bytes read whole = tt
next_line (Some all) None before bytes read whole = absurd read
next_line (Some all) (Some left) before bytes read whole = whole ∙ ap (take_through 10) (sym (ap (drop (length before)) read ∙ drop-append_seam before left))
