-- What the book of a history keeps, and what a step that adds to it tells.
use Rattle.std.specs.Prelude.{ℕ, ◌≡◌, ◌<◌, ◌+◌, ◌==◌, true, List, [], ◌∷◌, ◌++◌, length, reverse, MatchBool}
use mathlib.Core.List.{IsPrefix}
use Rattle.logbook.specs.Pages.{Cell, cell, Step, View, Book, Named}
use Rattle.private_store.specs.declared.schedules.Traced.{Traced}
use Rattle.cluster_history.specs.Histories.{count_at, IsGrown}

-- a word for each node and one for the directory: how many entries stand at that place
pub record IsKept (nodes memory : ℕ) (cells : List Cell) (log : List Traced) : Type 0 where
  pub places : length cells ≡ nodes + 1
  pub words : (place : ℕ) → place < nodes + 1 → cell cells place ≡ (count_at nodes place log, true)
  pub grown : ∥ IsGrown nodes memory (reverse log) ∥₁

abbrev pub word_of : ℕ → Book → Named
word_of place book = record { tracked = true; key = place; book = book }

-- the entry comes after all that had been seen and others, after which as many stand at its place as were thought
pub record Added (nodes memory : ℕ) (s : Step Traced) (seen now : List Traced) : Type 0 where
  pub between : List Traced
  pub log : now ≡ (seen ++ between) ++ s.ask ∷ []
  pub count : count_at nodes s.key (seen ++ between) ≡ s.old
  pub grown : ∥ IsGrown nodes memory (reverse (seen ++ between)) ∥₁

abbrev pub Adds : ℕ → ℕ → Step Traced → View Traced ℕ → ℕ → View Traced ℕ → Type 0
Adds nodes memory s v found w = MatchBool (found == s.old) (Added nodes memory s v.0 w.0) (Unit {0})

-- whatever others add to what the place knows, if all of this was seen, the entry may come next
abbrev pub MayFollow : ℕ → ℕ → ℕ → List Traced → List Traced → Traced → Type 0
MayFollow nodes memory place known seen entry =
    (between : List Traced) → count_at nodes place between ≡ 0 → IsPrefix seen (known ++ between)
    → ∥ IsGrown nodes memory (reverse (known ++ between)) ∥₁ → ∥ IsGrown nodes memory (entry ∷ reverse (known ++ between)) ∥₁

-- the history went on from what a place knew: by entries of other places, and then by this one of its own
pub record GoesOn (nodes memory place : ℕ) (known seen now : List Traced) (entry : Traced) : Type 0 where
  pub between : List Traced
  pub log : now ≡ (known ++ between) ++ entry ∷ []
  pub none : count_at nodes place between ≡ 0
  -- what was seen elsewhere comes before it
  pub after : IsPrefix seen (known ++ between)
  pub grown : ∥ IsGrown nodes memory (reverse (known ++ between)) ∥₁
