-- A sum that stops at the greatest number of 64 bits.
use Rattle.std.proofs.Common.{◌≡◌, ℕ, ◌+◌, ◌-◌, ◌^◌, ◌≤◌, List, [], sym, ap, ◌∙◌, arith}
use Rattle.std.specs.Prelude.{min, sum_by}
use Rattle.std.specs.List.{IsDistinct}
use Rattle.std.specs.Map.{keys_of}
use Rattle.std.proofs.lemmas.Bool.Decides.{nat_tests}
use Rattle.obj_id.specs.declared.ids.ObjectId.{ObjectId}
use Rattle.obj_id.specs.Ids.{id_eq}
use Rattle.private_store.specs.rules.Tables.{ById}
use Rattle.job_row.specs.Entries.{by_rising_id}
use Rattle.job_row.proofs.Rising.{total-rising}

at_most : (n : ℕ) → n ≤ 2 ^ 64 - 1 → min (n + 0) (2 ^ 64 - 1) ≡ n
at_most n le = grind (arith, nat_tests, le)

-- where none is left, the sum so far is the whole
pub all_counted : {X : Type 0} (f : X → ℕ) (n total : ℕ) (left : List X) → left ≡ [] → n ≤ 2 ^ 64 - 1 → min (n + sum_by f left) (2 ^ 64 - 1) ≡ total → n ≡ total
all_counted f n total left none fits is =
    sym (at_most n fits) ∙ sym (ap (λ xs. min (n + sum_by f xs) (2 ^ 64 - 1)) none) ∙ is

from_none : (n : ℕ) → 0 + n ≡ n
from_none n = omega arith

-- the sum over the entries as they stand in the map is the sum over their table
pub none_counted : {X : Type 0} (f : ObjectId × X → ℕ) (es left : List (ObjectId × X)) (now : ById X) → left ≡ es → IsDistinct id_eq (keys_of es) → by_rising_id es ≡ now
    → min (0 + sum_by f left) (2 ^ 64 - 1) ≡ min (sum_by f now) (2 ^ 64 - 1)
none_counted f es left now all distinct seen = ap (λ n. min n (2 ^ 64 - 1)) (from_none (sum_by f left) ∙ ap (sum_by f) all ∙ sym (total-rising f es distinct) ∙ ap (sum_by f) seen)
