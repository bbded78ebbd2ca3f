-- The lines of a text that is read, each with its line feed.
use Rattle.std.specs.Prelude.{◌≡◌, ℕ, List, [], ◌∷◌, ◌++◌, length, drop, Option, IfSome}
use Rattle.std.specs.Io.BufRead.{take_through}

-- a line with its line feed
abbrev pub with_line_feed : List ℕ → List ℕ
with_line_feed text = text ++ 10 ∷ []

-- of an input, what comes after these bytes: the next line with its line feed, or all that is left
abbrev pub IsNextLine : Option (List ℕ) → List ℕ → List ℕ → Type 0
IsNextLine read_old before bytes = IfSome read_old (λ all. bytes ≡ take_through 10 (drop (length before) all))
