-- A copy that the directory was asked for.
use Rattle.std.proofs.Common.{◌≡◌, ℕ, Bool, true, false, cond, ◌&&◌, ◌==◌, List, Option, Some, None, is_none, refl}
use Rattle.std.specs.Option.{option_map_or}
use Rattle.obj_id.specs.declared.messages.Location.{Location}
use Rattle.private_store.specs.rules.Shape.{Fetch}
use Rattle.private_store.specs.rules.Copies.{extent_of}
use Rattle.private_store.specs.rules.Contents.{entry_elsewhere, is_locating}
use Rattle.private_store.specs.laws.Invariants.{is_fetching}
use Rattle.store_facts.proofs.Tests.{true_false, both_left, both_right}
use Rattle.row_copy.specs.Arriving.{awaits_source, after_located, after_source}
use Rattle.row_copy.specs.CopyViews.{CopyView}

pub awaits_parts : (number : ℕ) (k : CopyView) → awaits_source number k ≡ true
    → (is_none k.copy.offset ≡ true) × (option_map_or (λ (fetch : Fetch). fetch.number == number && is_locating fetch.phase) k.copy.fetch false ≡ true)
awaits_parts number k e = (both_right (is_fetching k.copy.state) (is_none k.copy.offset) (both_left waits begun e), both_right waits begun e)
  where
    begun : Bool
    begun = option_map_or (λ (fetch : Fetch). fetch.number == number && is_locating fetch.phase) k.copy.fetch false

    waits : Bool
    waits = is_fetching k.copy.state && is_none k.copy.offset

-- where it lies doesn't change
pub located-place : (node number : ℕ) (entries : List Location) (z : CopyView) → extent_of (after_located node number entries z).copy ≡ extent_of z.copy
located-place node number entries z = by (awaits_source number z) refl
  where
    of_none : (o : Option ℕ) (n : ℕ) → is_none o ≡ true → extent_of (record z.copy { offset = o; length = n }) ≡ extent_of (record z.copy { offset = o })
    of_none None n e = refl
    of_none (Some offset) n e = true_false e

    by_entry : (o : Option Location) → is_none z.copy.offset ≡ true → extent_of (after_source o z).copy ≡ extent_of z.copy
    by_entry None e = refl
    by_entry (Some entry) e = of_none z.copy.offset entry.length e

    by : (b : Bool) → awaits_source number z ≡ b → extent_of (cond b (after_source (entry_elsewhere node entries) z) z).copy ≡ extent_of z.copy
    by true e = by_entry (entry_elsewhere node entries) (awaits_parts number z e).0
    by false e = refl
