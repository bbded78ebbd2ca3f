-- The rule of a link: what leaves it is a beginning of what came.
use Rattle.std.specs.Prelude.{◌≡◌, ◌≤◌, ℕ, Bool, true, List, ◌++◌, length}
use mathlib.Core.Option.{some}
use lib.ListN.{get_elem?}
use Rattle.fetch_link.specs.declared.rule.Known.{Known}
use Rattle.fetch_link.specs.declared.rule.TheConstants.{MOST_IN_FLIGHT}

abbrev pub known : {M : Type 0} → Bool → Bool → List M → List M → Known M
known sends receives accepted received = record { sends = sends; receives = receives; accepted = accepted; received = received }

-- these messages are the last of all
abbrev pub EndsWith : {M : Type 0} → List M → List M → Type 0
EndsWith {M} all items = (front : List M) × (all ≡ front ++ items)

-- a pass that sends is the one that does, and knows what was accepted; one that receives likewise
abbrev pub Fits : {M : Type 0} → ℕ → List M → ℕ → List M → ℕ → Known M → Type 0
Fits sender accepted receiver received pass k =
    (k.sends ≡ true → (pass ≡ sender) × (k.accepted ≡ accepted))
    × (k.receives ≡ true → (pass ≡ receiver) × (k.received ≡ received))

-- what was accepted is what was received and then what the link holds, which is no more than it may
pub record IsInOrder {M : Type 0} (items : List M) (views : List (Known M)) : Type 0 where
  pub sender : ℕ
  pub accepted : List M
  pub receiver : ℕ
  pub received : List M
  pub total : accepted ≡ received ++ items
  pub few : length items ≤ MOST_IN_FLIGHT
  pub fits : (pass : ℕ) (k : Known M) → get_elem? views pass ≡ some k → Fits sender accepted receiver received pass k
