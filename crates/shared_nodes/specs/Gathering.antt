-- How receipts are gathered, and looked for.
use Rattle.std.specs.Prelude.{◌≡◌, ℕ, Bool, List, [], ◌∷◌, ◌++◌, Option, Some, None, length, filter}
use Rattle.node_housekeeping.specs.declared.tally.LookedFor.{LookedFor}

-- all that are gathered, oldest first
abbrev pub receipts_in_order : {R : Type 0} → List R → Option R → List R
receipts_in_order earlier (Some last) = earlier ++ last ∷ []
receipts_in_order earlier None = earlier

-- a node of this number was asked for the receipts: so many were counted as there are, and as disagreeing so many as it says aren't there
pub record AreLookedFor {K T : Type 0} (misses : K → T → Bool) (number_of : K → ℕ) (number : ℕ) (receipts : List T) (found : LookedFor) : Type 0 where
  pub asked : K
  pub is_node : number_of asked ≡ number
  pub are_counted : found.receipts.value ≡ length receipts
  pub are_disagreeing : found.disagreeing.value ≡ length (filter (misses asked) receipts)
