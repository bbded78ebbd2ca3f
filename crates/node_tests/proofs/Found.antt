-- Grants that were found to end, whatever the test was.
use Rattle.std.proofs.Common.{◌≡◌, Bool, List}
use Rattle.private_store.specs.rules.Grants.{StandingGrant}
use Rattle.grants.specs.Table.{ends_found, AreFoundIn}

pub found_in : (grants ends : List StandingGrant) (test : StandingGrant → Bool) → ends ≡ ends_found test grants → AreFoundIn grants ends
found_in grants ends test found = record { test = test; found = found }
