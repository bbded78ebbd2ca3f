-- What is read of a control connection, line by line.
use Rattle.std.specs.Prelude.{◌≡◌, ◌≢◌, ℕ, ◌<◌, ◌≤◌, Bool, true, false, List, [], ◌∷◌, ◌++◌, length, All, Option, Some, None, ◌⊎◌}
use Rattle.std.specs.Io.KnownBytes.{Consumes, IsAtEnd}
use Rattle.program_lines.specs.declared.taking.TheConstants.{LONGEST_LINE}
use Rattle.program_lines.specs.declared.taking.LineTaken.{LineTaken}
use Rattle.program_lines.specs.declared.taking.LineTaken.TheVariants.{Line, TooLong}
use Rattle.schedule_text.specs.Lines.{with_line_feed}

-- no line feed is among these bytes
abbrev pub IsUnbroken : List ℕ → Type 0
IsUnbroken bytes = All (λ byte. byte ≢ 10) bytes

-- bytes were read, none of which is a line feed
pub record HasTakenPart (read_old read_new : Option (List ℕ)) : Type 0 where
  pub part : List ℕ
  pub unbroken : IsUnbroken part
  pub consumed : Consumes read_old read_new part

-- the same, and there are no more
pub record HasTakenAll (read_old read_new : Option (List ℕ)) : Type 0 where
  pub part : List ℕ
  pub unbroken : IsUnbroken part
  pub consumed : Consumes read_old read_new part
  pub at_end : IsAtEnd read_new

-- a line was read with its line feed
pub record HasTakenLine (read_old read_new : Option (List ℕ)) (line : List ℕ) : Type 0 where
  pub unbroken : IsUnbroken line
  pub consumed : Consumes read_old read_new (with_line_feed line)
  pub within : length line ≤ LONGEST_LINE

-- the same of one that is too long
pub record HasTakenLong (read_old read_new : Option (List ℕ)) : Type 0 where
  pub line : List ℕ
  pub unbroken : IsUnbroken line
  pub consumed : Consumes read_old read_new (with_line_feed line)
  pub long : LONGEST_LINE < length line

-- what was taken, and the line that was kept
abbrev pub IsLineTaken : Option (List ℕ) → Option (List ℕ) → List ℕ → Option LineTaken → Type 0
IsLineTaken read_old read_new line (Some Line) = HasTakenLine read_old read_new line
IsLineTaken read_old read_new line (Some TooLong) = HasTakenLong read_old read_new
IsLineTaken read_old read_new line None = HasTakenAll read_old read_new

-- the byte is kept after those of the line, or the line is too long with it, or was before, and so it stays
abbrev pub IsKeptByte : Bool → List ℕ → ℕ → List ℕ → Bool → Type 0
IsKeptByte is_long old byte new false = (is_long ≡ false) × (new ≡ old ++ byte ∷ []) × (length new ≤ LONGEST_LINE)
IsKeptByte is_long old byte new true = (new ≡ old) × ((is_long ≡ true) ⊎ (LONGEST_LINE ≤ length old))

-- a line so far
pub record IsTaking (read_old read_new : Option (List ℕ)) (line : List ℕ) (is_long : Bool) : Type 0 where
  pub part : List ℕ
  pub unbroken : IsUnbroken part
  pub consumed : Consumes read_old read_new part
  pub kept : is_long ≡ false → line ≡ part
  pub within : length line ≤ LONGEST_LINE
  pub long : is_long ≡ true → LONGEST_LINE < length part
