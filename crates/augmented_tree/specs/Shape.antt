-- What a tree holds, and how it is kept.
use Rattle.std.specs.Prelude.{ℕ, ◌+◌, ◌/◌, ◌<◌, ◌≤◌, max, List, [], ◌∷◌, ◌++◌}
use Rattle.augmented_tree.specs.declared.Tree.{Tree, Leaf, Fork'}
use Rattle.augmented_tree.specs.Lists.{AllOf}

-- the items, by rising key: a node has the least one
abbrev pub items : {A S : Type 0} → Tree A S → List A
items Leaf = []
items (Fork' p here summary left right) = here ∷ items left ++ items right

-- how many nodes a descent visits at most
abbrev pub depth : {A S : Type 0} → Tree A S → ℕ
depth Leaf = 0
depth (Fork' p here summary left right) = max (depth left) (depth right) + 1

-- where the keys below a node part
abbrev pub middle : ℕ → ℕ → ℕ
middle low high = (low + high) / 2

-- each node has the summary of its item and all below
abbrev pub HasSummaries : {A S : Type 0} → (A → Type 0) → (S → List A → Type 0) → Tree A S → Type 0
HasSummaries fits tells Leaf = Unit {0}
HasSummaries fits tells (Fork' p here summary left right) = fits here × tells summary (here ∷ items left ++ items right) × HasSummaries fits tells left × HasSummaries fits tells right

-- a tree over the keys from low to high: the node has the least, the others lie below or above the middle
abbrev pub IsTree : {A S : Type 0} → (A → ℕ) → (A → Type 0) → (S → List A → Type 0) → ℕ → ℕ → Tree A S → Type 0
IsTree key fits tells low high Leaf = Unit {0}
IsTree key fits tells low high (Fork' p here summary left right) =
    (low ≤ key here) × (key here < high) × fits here
    × AllOf (λ y. key here < key y) (items left)
    × AllOf (λ y. key here < key y) (items right)
    × tells summary (here ∷ items left ++ items right)
    × IsTree key fits tells low (middle low high) left × IsTree key fits tells (middle low high) high right
