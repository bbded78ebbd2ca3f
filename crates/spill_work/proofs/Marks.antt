-- One step of a walk that marks works as taken.
use Rattle.std.proofs.Common.{◌≡◌, ◌≢◌, ℕ, ◌+◌, ◌<◌, ◌==◌, false, List, ◌++◌, length, take, drop, map, sym, ap, ◌∙◌, arith, get_or, eq-eqb}
use Rattle.std.specs.Prelude.{if◌then◌else◌}
use Rattle.std.proofs.Math.ListN.{set}
use Rattle.std.proofs.lemmas.List.Edits.{map_over_more}
use Rattle.std.proofs.lemmas.Bool.Decides.{nat_tests}
use Rattle.spill_work.specs.declared.row.Timed.{Timed}
use Rattle.spill_work.specs.Turns.{with_mark, taken}

other : (a b : ℕ) → a ≢ b → (a == b) ≡ false
other a b h = grind (arith, nat_tests, h)

module _ (number : ℕ) (items next : List Timed) (i : ℕ) (t : Timed) (is : t ≡ get_or items i t) where
  abbrev item : Timed
  item = get_or items i t

  pub has_mark : item.work.asked.number ≡ number → next ≡ set items i (record item { work = taken item.work }) → next ≡ set items i (with_mark number t)
  has_mark hit e =
      e ∙ ap (set items i) (sym (ap (λ b. if b then record item { work = taken item.work } else item) (eq-eqb item.work.asked.number number hit)) ∙ ap (with_mark number) (sym is))

  pub has_none : item.work.asked.number ≢ number → next ≡ set items i item → next ≡ set items i (with_mark number t)
  has_none miss e =
      e ∙ ap (set items i) (sym (ap (λ b. if b then record item { work = taken item.work } else item) (other item.work.asked.number number miss)) ∙ ap (with_mark number) (sym is))

  pub mark_step : (old : List Timed) → i < length old → items ≡ map (with_mark number) (take i old) ++ drop i old → next ≡ set items i (with_mark number t)
      → next ≡ map (with_mark number) (take (i + 1) old) ++ drop (i + 1) old
  mark_step old within so_far e = e ∙ map_over_more (with_mark number) old items i t within so_far is
