-- No more grants end than stand.
use Rattle.std.proofs.Common.{◌≡◌, ◌+◌, ◌≤◌, Bool, true, false, cond, ◌||◌, List, [], ◌∷◌, ◌++◌, length, refl, arith}
use Rattle.std.specs.List.{list_any}
use Rattle.std.specs.Ordering.{is_lt}
use Rattle.std.proofs.lemmas.List.{length_push}
use Rattle.private_store.specs.rules.Grants.{StandingGrant, is_child_of, ended_from, grant_cmp, grant_placed, grants_sorted, grants_ended}

placed_one : (grant : StandingGrant) (hs : List StandingGrant) → length (grant_placed grant hs) ≡ length hs + 1
placed_one grant [] = refl
placed_one grant (h ∷ hs) = by (is_lt (grant_cmp grant h)) (placed_one grant hs)
  where
    by : (b : Bool) → length (grant_placed grant hs) ≡ length hs + 1 → length (cond b (grant ∷ h ∷ hs) (h ∷ grant_placed grant hs)) ≡ length (h ∷ hs) + 1
    by true rest = omega arith
    by false rest = omega (arith, rest)

sorted_same : (hs : List StandingGrant) → length (grants_sorted hs) ≡ length hs
sorted_same [] = refl
sorted_same (h ∷ hs) =
    let one = placed_one h (grants_sorted hs) in
    let rest = sorted_same hs in
    omega (arith, one, rest)

ended_few : (test : StandingGrant → Bool) (gone hs : List StandingGrant) → length (ended_from test gone hs) ≤ length gone + length hs
ended_few test gone [] = omega arith
ended_few test gone (h ∷ hs) = by (test h || list_any (is_child_of h) gone) (λ more. ended_few test more hs)
  where
    by : (b : Bool) → ((more : List StandingGrant) → length (ended_from test more hs) ≤ length more + length hs) → length (ended_from test (cond b (gone ++ h ∷ []) gone) hs) ≤ length gone + length (h ∷ hs)
    by true later = let rest = later (gone ++ h ∷ []) in let one = length_push gone h in omega (arith, rest, one)
    by false later = let rest = later gone in omega (arith, rest)

pub few_end : (test : StandingGrant → Bool) (grants : List StandingGrant) → length (grants_ended test grants) ≤ length grants
few_end test grants =
    let few = ended_few test [] grants in
    let same = sorted_same (ended_from test [] grants) in
    omega (arith, few, same)
