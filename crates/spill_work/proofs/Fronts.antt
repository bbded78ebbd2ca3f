-- The first of all works that nobody has taken, as a walk over the rows finds it.
use Rattle.std.proofs.Common.{◌≡◌, ℕ, Bool, true, false, not, cond, List, [], ◌∷◌, ◌++◌, map, filter, Option, Some, None, refl, sym, ap, ◌∙◌, arith}
use Rattle.std.specs.Prelude.{nat_le, if◌then◌else◌, find}
use Rattle.std.specs.Option.{option_map}
use Rattle.std.proofs.lemmas.Bool.Decides.{nat_tests}
use Rattle.spill_work.specs.declared.queue.Queued.{Queued}
use Rattle.spill_work.specs.declared.row.Timed.{Timed}
use Rattle.spill_work.specs.Line.{front_of}
use Rattle.spill_work.specs.Turns.{Rows, all_of, works_placed, onto, in_turn, works_in, earlier, front_from}
use Rattle.spill_work.proofs.InTurn.{filter_onto}

abbrev waits : Timed → Bool
waits t = not t.work.taken

abbrev first_of : List Timed → Option Timed
first_of [] = None
first_of (t ∷ ts) = Some t

-- the earlier of two, if there are two
abbrev sooner : Option Timed → Option Timed → Option Timed
sooner first None = first
sooner first (Some t) = earlier first t

transitive : (a b c : ℕ) → nat_le b a ≡ true → nat_le c b ≡ true → nat_le c a ≡ true
transitive a b c h k = grind (arith, nat_tests)

later : (a b c : ℕ) → nat_le b a ≡ false → nat_le c b ≡ false → nat_le c a ≡ false
later a b c h k = grind (arith, nat_tests)

sooner_of_three : (first : Option Timed) (t : Timed) (rest : Option Timed) → sooner (earlier first t) rest ≡ sooner first (sooner (Some t) rest)
sooner_of_three first t None = refl
sooner_of_three None t (Some u) = elim (nat_le u.turn t.turn) as (λ b. (if b then Some u else Some t) ≡ sooner None (if b then Some u else Some t)) [ true ↦ refl | false ↦ refl ]
sooner_of_three (Some a) t (Some u) =
    (elim (nat_le t.turn a.turn) as (λ b. nat_le t.turn a.turn ≡ b → earlier (if b then Some t else Some a) u ≡ sooner (Some a) (if nat_le u.turn t.turn then Some u else Some t)) [
      | true ↦ λ first. (elim (nat_le u.turn t.turn) as (λ b. nat_le u.turn t.turn ≡ b → (if b then Some u else Some t) ≡ sooner (Some a) (if b then Some u else Some t)) [
        | true ↦ λ second. sym (ap (λ b. if b then Some u else Some a) (transitive a.turn t.turn u.turn first second))
        | false ↦ λ second. sym (ap (λ b. if b then Some t else Some a) first)
      ]) refl
      | false ↦ λ first. (elim (nat_le u.turn t.turn) as (λ b. nat_le u.turn t.turn ≡ b → (if nat_le u.turn a.turn then Some u else Some a) ≡ sooner (Some a) (if b then Some u else Some t)) [
        | true ↦ λ second. refl
        | false ↦ λ second. ap (λ b. if b then Some u else Some a) (later a.turn t.turn u.turn first second) ∙ sym (ap (λ b. if b then Some t else Some a) first)
      ]) refl
    ]) refl

first_placed : (t : Timed) (us : List Timed) → first_of (works_placed t us) ≡ sooner (Some t) (first_of us)
first_placed t [] = refl
first_placed t (u ∷ us) = elim (nat_le u.turn t.turn) as (λ b. first_of (if b then u ∷ works_placed t us else t ∷ u ∷ us) ≡ (if b then Some u else Some t)) [ true ↦ refl | false ↦ refl ]

-- a walk finds what comes first in its turn
front_is : (first : Option Timed) (ts : List Timed) → front_from first ts ≡ sooner first (first_of (onto (filter waits ts) []))
front_is first [] = refl
front_is first (t ∷ ts) =
    elim t.work.taken as (λ b. front_from (if b then first else earlier first t) ts ≡ sooner first (first_of (onto (cond (not b) (t ∷ filter waits ts) (filter waits ts)) []))) [
      | true ↦ front_is first ts
      | false ↦
          front_is (earlier first t) ts
          ∙ sooner_of_three first t (first_of (onto (filter waits ts) []))
          ∙ sym (ap (sooner first) (first_placed t (onto (filter waits ts) [])))
    ]

find_first : (ts : List Timed) → option_map (λ (w : Queued). w.asked) (find (λ (w : Queued). not w.taken) (map (λ (t : Timed). t.work) ts)) ≡ option_map (λ (t : Timed). t.work.asked) (first_of (filter waits ts))
find_first [] = refl
find_first (t ∷ ts) =
    elim t.work.taken as (λ b. option_map (λ (w : Queued). w.asked) (cond (not b) (Some t.work) (find (λ (w : Queued). not w.taken) (map (λ (t : Timed). t.work) ts)))
    ≡ option_map (λ (t : Timed). t.work.asked) (first_of (cond (not b) (t ∷ filter waits ts) (filter waits ts)))) [
      | true ↦ find_first ts
      | false ↦ refl
    ]

sooner_none : (o : Option Timed) → sooner None o ≡ o
sooner_none None = refl
sooner_none (Some t) = refl

pub front_in : (rows : Rows) → option_map (λ (t : Timed). t.work.asked) (front_from None (all_of rows)) ≡ front_of (works_in rows)
front_in rows =
    ap (option_map (λ (t : Timed). t.work.asked))
    (front_is None (all_of rows) ∙ sooner_none (first_of (onto (filter waits (all_of rows)) [])) ∙ sym (ap first_of (filter_onto waits (all_of rows) [] refl)))
    ∙ sym (find_first (in_turn rows))

pub front_append : (first : Option Timed) (ts us : List Timed) → front_from first (ts ++ us) ≡ front_from (front_from first ts) us
front_append first [] us = refl
front_append first (t ∷ ts) us = front_append (if t.work.taken then first else earlier first t) ts us
