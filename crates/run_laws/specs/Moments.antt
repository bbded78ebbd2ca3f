-- All of it at every moment of a trace.
use Rattle.std.specs.Prelude.{◌≡◌, ℕ, Bool, List, ◌∷◌, ◌++◌, reverse, Some}
use Rattle.private_store.specs.declared.schedules.Event.{Event}
use Rattle.private_store.specs.declared.schedules.Traced.{Traced}
use Rattle.private_store.specs.rules.Grants.{StandingGrant}
use Rattle.private_store.specs.rules.Trace.{ends}
use Rattle.run_laws.specs.Standing.{HaveGrants, SeesWhatIsLed}
use Rattle.run_laws.specs.Ending.{EndsThere}
use Rattle.run_laws.specs.Held.{HoldsOn, ShowsWhatIs, BytesStay}

-- of the grants at each node, between each two steps and over each step
pub record AtEachMoment (nodes : ℕ) (trace : List Traced) : Type 0 where
  pub table : (node : ℕ) (before after : List Traced) → before ++ after ≡ trace → HaveGrants nodes node before
  pub seen : (node : ℕ) (before after : List Traced) → before ++ after ≡ trace → SeesWhatIsLed nodes node before
  pub ended : (node : ℕ) (before after : List Traced) → before ++ after ≡ trace → (e : Event) (test : StandingGrant → Bool) → ends e ≡ Some test → EndsThere nodes node (reverse before) e test
  pub held : (node : ℕ) (before after : List Traced) → before ++ after ≡ trace → HoldsOn nodes node before
  pub shown : (node : ℕ) (before after : List Traced) → before ++ after ≡ trace → ShowsWhatIs nodes node before
  pub stay : (node : ℕ) (before after : List Traced) (entry : Traced) → before ++ entry ∷ after ≡ trace → BytesStay nodes node before entry
