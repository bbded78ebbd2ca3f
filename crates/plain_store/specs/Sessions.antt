-- Holds by rising session.
use Rattle.std.specs.Prelude.{◌≡◌, ℕ, ◌<◌, ◌≤◌, nat_lt, true, List, length, take, slice_index_or}
use Rattle.std.specs.List.{list_all}

-- all before the place are of lesser sessions, and what is there is not
pub record IsHoldPlace (holds : List (ℕ × ℕ)) (session place : ℕ) : Type 0 where
  pub within : place ≤ length holds
  pub below : list_all (λ e. nat_lt e.0 session) (take place holds) ≡ true
  pub stops : (d : ℕ × ℕ) → place < length holds → session ≤ (slice_index_or holds place d).0
