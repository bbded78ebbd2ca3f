-- What ends at a node ends in each job's own store: the grantor's command ends what it names, and what each grantee learns
-- ends what it was given and what it gave on.
use Rattle.std.proofs.Common.{◌≡◌, ℕ, ◌+◌, ◌==◌, Bool, true, false, not, cond, ◌&&◌, ◌||◌, ◌⊎◌, inl, inr, List, [], ◌∷◌, ◌++◌, map, filter, Option, Some, None, refl, sym, ap, ◌∙◌, arith, eq-eqb}
use Rattle.std.specs.Prelude.{if◌then◌else◌, nat_le}
use Rattle.std.specs.Option.{option_map_or}
use Rattle.std.specs.List.{list_any, list_all}
use Rattle.std.proofs.lemmas.Bool.Decides.{nat_tests}
use Rattle.obj_id.specs.declared.ids.ObjectId.{ObjectId}
use Rattle.obj_id.specs.Ids.{same_id, same_task}
use Rattle.store_facts.proofs.Ids.{same_id-equal, same_id-itself}
use Rattle.private_store.specs.rules.Limits.{greatest_depth}
use Rattle.private_store.specs.rules.Shape.{Shape, Copy, Seen, GrantGiven, GrantTaken}
use Rattle.private_store.specs.rules.Tables.{at, with_entry, without_entry}
use Rattle.private_store.specs.rules.Change.{settled}
use Rattle.private_store.specs.rules.Copies.{is_idle}
use Rattle.private_store.specs.rules.Room.{drop_copy}
use Rattle.private_store.specs.rules.Events.{grants_of, is_the_grant, without_grant, grant_ended, withdrawn, is_child_of as hangs_on_it}
use Rattle.private_store.specs.rules.Grants.{StandingGrant, same_grant, is_child_of, ended_from, grants_ended, grants_left, grants_sorted, is_withdrawn, is_of_task, is_given_by}
use Rattle.store_facts.proofs.Rows.{at-put, at-drop}
use Rattle.store_facts.proofs.Tests.{true_false, both, both_left, both_right, or_cases, or_left, or_right, or_false_left, or_false_right, neither, not_true, refuted}
use Rattle.grants.specs.Table.{AreGrants, shows, given_by, is_no_grantee, hangs_right, is_hung, grant_may_stand, all_stand}
use Rattle.grants.specs.Private.{as_given, as_taken, seen_by, HasGrants, HasRest, after_ends, without_given, RestAlike, EndsAlike}
use Rattle.grants.proofs.Alike.{ids_same, same_alike, same_itself, any_more, any_before, any_after, any_either, numbers_equal}
use Rattle.grants.proofs.Left.{apart, grown, any_grown, stays_gone, comes_from}
use Rattle.grants.proofs.Ranked.{any_sorted}
use Rattle.grants.proofs.Private.{seen_grants, grants_seen}

-- ---- lists

-- what passes for one of them passes for one of those
abbrev Within : List StandingGrant → List StandingGrant → Type 0
Within xs ys = (p : StandingGrant → Bool) → list_any p xs ≡ true → list_any p ys ≡ true

abbrev Among : StandingGrant → List StandingGrant → Type 0
Among x ys = (p : StandingGrant → Bool) → p x ≡ true → list_any p ys ≡ true

-- each of the grants is such
abbrev each : (StandingGrant → Type 0) → List StandingGrant → Type 0
each P [] = Unit {0}
each P (h ∷ hs) = P h × each P hs

pub any_filter : (p q : StandingGrant → Bool) (xs : List StandingGrant) → list_any p (filter q xs) ≡ list_any (λ x. q x && p x) xs
any_filter p q [] = refl
any_filter p q (x ∷ xs) = elim (q x) as (λ b. list_any p (cond b (x ∷ filter q xs) (filter q xs)) ≡ ((b && p x) || list_any (λ x. q x && p x) xs)) [
  | true ↦ ap (λ r. p x || r) (any_filter p q xs)
  | false ↦ any_filter p q xs
]

all_passing : (p : StandingGrant → Bool) (xs : List StandingGrant) → list_all p (filter p xs) ≡ true
all_passing p [] = refl
all_passing p (x ∷ xs) = (elim (p x) as (λ b. p x ≡ b → list_all p (cond b (x ∷ filter p xs) (filter p xs)) ≡ true) [
  | true ↦ λ e. both (p x) (list_all p (filter p xs)) e (all_passing p xs)
  | false ↦ λ _. all_passing p xs
]) refl

pub filter_filter : {X : Type 0} (p q : X → Bool) (xs : List X) → filter p (filter q xs) ≡ filter (λ x. q x && p x) xs
filter_filter p q [] = refl
filter_filter p q (x ∷ xs) = elim (q x) as (λ b. filter p (cond b (x ∷ filter q xs) (filter q xs)) ≡ cond (b && p x) (x ∷ filter (λ x. q x && p x) xs) (filter (λ x. q x && p x) xs)) [
  | true ↦ ap (λ r. cond (p x) (x ∷ r) r) (filter_filter p q xs)
  | false ↦ filter_filter p q xs
]

filter_same : (p q : StandingGrant → Bool) (xs : List StandingGrant) → each (λ x. p x ≡ q x) xs → filter p xs ≡ filter q xs
filter_same p q [] e = refl
filter_same p q (x ∷ xs) e = (λ i. cond (e.0 i) (x ∷ filter_same p q xs e.1 i) (filter_same p q xs e.1 i))

filter_all : {X : Type 0} (xs : List X) → filter (λ x. true) xs ≡ xs
filter_all [] = refl
filter_all (x ∷ xs) = ap (λ r. x ∷ r) (filter_all xs)

each_then : (P Q : StandingGrant → Type 0) (xs : List StandingGrant) → ((x : StandingGrant) → P x → Q x) → each P xs → each Q xs
each_then P Q [] f e = tt
each_then P Q (x ∷ xs) f e = (f x e.0, each_then P Q xs f e.1)

and_false : (b : Bool) → (b && false) ≡ false
and_false true = refl
and_false false = refl

and_true : (b : Bool) → (b && true) ≡ b
and_true true = refl
and_true false = refl

some_one : (p : StandingGrant → Bool) (xs : List StandingGrant) → list_any p xs ≡ true → (x : StandingGrant) × (p x ≡ true) × Among x xs
some_one p [] e = true_false e
some_one p (x ∷ xs) e = elim (or_cases (p x) (list_any p xs) e) [
  | inl h ↦ (x, h, λ q at. or_left (q x) (list_any q xs) at)
  | inr r ↦ let rest = some_one p xs r in (rest.0, rest.1, λ q at. or_right (q x) (list_any q xs) (rest.2 q at))
]

two_ways : (a b : Bool) → (a ≡ true → b ≡ true) → (b ≡ true → a ≡ true) → a ≡ b
two_ways true b f g = sym (f refl)
two_ways false true f g = true_false (g refl)
two_ways false false f g = refl

id_back : (a b : ObjectId) → same_id a b ≡ same_id b a
id_back a b = two_ways (same_id a b) (same_id b a) (λ e. ids_same b a (sym (same_id-equal a b e))) (λ e. ids_same a b (sym (same_id-equal b a e)))

number_back : (a b : ℕ) → (a == b) ≡ (b == a)
number_back a b = grind (arith, nat_tests)

-- ---- which grants end

module _ (test : StandingGrant → Bool) (all : List StandingGrant) where
  -- a grant ends by itself or with one that it hangs on, and if one like it has ended it has
  abbrev is_settled : StandingGrant → Type 0
  is_settled h =
      (list_any (same_grant h) all ≡ (test h || list_any (is_child_of h) all)) × (list_any (same_grant h) all ≡ true → Among h all)

  goes : (gone hs : List StandingGrant) (h : StandingGrant) → ended_from test (grown test gone h) hs ≡ all → (test h || list_any (is_child_of h) gone) ≡ true → Among h all
  goes gone hs h is e p at =
      ap (list_any p) (sym is)
      ∙ stays_gone test p (grown test gone h) hs
      (ap (λ b. list_any p (if b then gone ++ h ∷ [] else gone)) e ∙ any_after p gone (h ∷ []) (or_left (p h) false at))

  ground_alike : (h x b : StandingGrant) → is_child_of h x ≡ true → is_child_of h b ≡ true → same_grant x b ≡ true
  ground_alike h x b on at =
      let first = both_left (same_id h.id x.id && h.grantor == x.grantee) (option_map_or (λ g. g == x.grantor) h.parent false) on in
      let second = both_left (same_id h.id b.id && h.grantor == b.grantee) (option_map_or (λ g. g == b.grantor) h.parent false) at in
      same_alike x b
      (sym (same_id-equal h.id x.id (both_left (same_id h.id x.id) (h.grantor == x.grantee) first)) ∙ same_id-equal h.id b.id (both_left (same_id h.id b.id) (h.grantor == b.grantee) second))
      (grantors h.parent (both_right (same_id h.id x.id && h.grantor == x.grantee) (option_map_or (λ g. g == x.grantor) h.parent false) on)
      (both_right (same_id h.id b.id && h.grantor == b.grantee) (option_map_or (λ g. g == b.grantor) h.parent false) at))
      (sym (numbers_equal h.grantor x.grantee (both_right (same_id h.id x.id) (h.grantor == x.grantee) first)) ∙ numbers_equal h.grantor b.grantee (both_right (same_id h.id b.id) (h.grantor == b.grantee) second))
    where
      grantors : (o : Option ℕ) → option_map_or (λ g. g == x.grantor) o false ≡ true → option_map_or (λ g. g == b.grantor) o false ≡ true → x.grantor ≡ b.grantor
      grantors None e f = true_false e
      grantors (Some g) e f = sym (numbers_equal g x.grantor e) ∙ numbers_equal g b.grantor f

  hangs_on_one : (before : List StandingGrant) (h : StandingGrant) (o : Option ℕ) → h.parent ≡ o → hangs_right before h o ≡ true → (x : StandingGrant) → is_child_of h x ≡ true → list_any (same_grant x) before ≡ true
  hangs_on_one before h None is e x on =
      true_false (sym (ap (λ o. (same_id h.id x.id && h.grantor == x.grantee) && option_map_or (λ g. g == x.grantor) o false) is ∙ and_false (same_id h.id x.id && h.grantor == x.grantee)) ∙ on)
  hangs_on_one before h (Some g) is e x on =
      any_more (λ b. is_child_of h b && h.depth == b.depth + 1) (same_grant x) before (λ b at. ground_alike h x b on (both_left (is_child_of h b) (h.depth == b.depth + 1) at))
      (both_right (not (h.grantor == h.id.job.0) && nat_le h.depth greatest_depth) (list_any (λ b. is_child_of h b && h.depth == b.depth + 1) before) e)

  settled_from : (before gone hs : List StandingGrant) → ended_from test gone hs ≡ all → all_stand before hs ≡ true → Within gone before → each is_settled hs
  settled_from before gone [] is s sub = tt
  settled_from before gone (h ∷ hs) is s sub =
      (by (test h || list_any (is_child_of h) gone) refl, settled_from (before ++ h ∷ []) (grown test gone h) hs is later wider)
    where
      stands : grant_may_stand before h ≡ true
      stands = both_left (grant_may_stand before h) (all_stand (before ++ h ∷ []) hs) s

      later : all_stand (before ++ h ∷ []) hs ≡ true
      later = both_right (grant_may_stand before h) (all_stand (before ++ h ∷ []) hs) s

      wider : Within (grown test gone h) (before ++ h ∷ [])
      wider p =
          elim (test h || list_any (is_child_of h) gone) as (λ b. list_any p (if b then gone ++ h ∷ [] else gone) ≡ true → list_any p (before ++ h ∷ []) ≡ true) [
            | true ↦ λ e. elim (any_either p gone (h ∷ []) e) [ inl l ↦ any_before p before (h ∷ []) (sub p l) | inr r ↦ any_after p before (h ∷ []) r ]
            | false ↦ λ e. any_before p before (h ∷ []) (sub p e)
          ]

      new : list_any (same_grant h) before ≡ false
      new = not_true (list_any (same_grant h) before) (both_right (not (is_no_grantee h.id h.grantor h.grantee)) (not (list_any (same_grant h) before))
          (both_left (not (is_no_grantee h.id h.grantor h.grantee) && not (list_any (same_grant h) before)) (is_hung before h) stands))

      hung : hangs_right before h h.parent ≡ true
      hung = both_right (not (is_no_grantee h.id h.grantor h.grantee) && not (list_any (same_grant h) before)) (is_hung before h) stands

      by : (b : Bool) → (test h || list_any (is_child_of h) gone) ≡ b → is_settled h
      by true e =
          let here = goes gone hs h is e in
          let why : (test h || list_any (is_child_of h) all) ≡ true =
          elim (or_cases (test h) (list_any (is_child_of h) gone) e) [
            | inl t ↦ or_left (test h) (list_any (is_child_of h) all) t
            | inr r ↦ or_right (test h) (list_any (is_child_of h) all) (ap (list_any (is_child_of h)) (sym is) ∙ stays_gone test (is_child_of h) (grown test gone h) hs (any_grown test (is_child_of h) gone h r))
          ] in
          (here (same_grant h) (same_itself h) ∙ sym why, λ _. here)
      by false e =
          let on : ended_from test gone hs ≡ all = ap (λ b. ended_from test (if b then gone ++ h ∷ [] else gone) hs) (sym e) ∙ is in
          let none : list_any (same_grant h) all ≡ false =
          refuted (list_any (same_grant h) all) (λ t. elim (comes_from test (same_grant h) gone hs (ap (list_any (same_grant h)) on ∙ t)) [
            | inl g ↦ sym new ∙ sub (same_grant h) g
            | inr r ↦ absurd (apart (before ++ h ∷ []) hs h later (any_after (same_grant h) before (h ∷ []) (or_left (same_grant h h) false (same_itself h))) r)
          ]) in
          let alone : list_any (is_child_of h) all ≡ false =
          refuted (list_any (is_child_of h) all) (λ t. elim (comes_from test (is_child_of h) gone hs (ap (list_any (is_child_of h)) on ∙ t)) [
            | inl g ↦ sym (or_false_right (test h) (list_any (is_child_of h) gone) e) ∙ g
            | inr r ↦
                let x = some_one (is_child_of h) hs r in
                absurd (apart (before ++ h ∷ []) hs x.0 later (any_before (same_grant x.0) before (h ∷ []) (hangs_on_one before h h.parent refl hung x.0 x.1)) (x.2 (same_grant x.0) (same_itself x.0)))
          ]) in
          (none ∙ sym (neither (test h) (list_any (is_child_of h) all) (or_false_left (test h) (list_any (is_child_of h) gone) e) alone), λ t. true_false (sym none ∙ t))

all_settled : (test : StandingGrant → Bool) (grants : List StandingGrant) → AreGrants grants → each (is_settled test (ended_from test [] grants)) grants
all_settled test grants h = settled_from test (ended_from test [] grants) [] [] grants refl h.stand (λ p e. e)

-- what ends stood
ended_within : (test : StandingGrant → Bool) (grants : List StandingGrant) → Within (ended_from test [] grants) grants
ended_within test grants p e = elim (comes_from test p [] grants e) [ inl none ↦ true_false none | inr r ↦ r ]

-- ---- what one store is notified of

-- what a grantee's store takes out of its grants, and what it ends of those that it gave
abbrev hits : StandingGrant → StandingGrant → Bool
hits b h = same_id h.id b.id && (h.grantor == b.grantor && h.depth == b.depth)

abbrev hung_by : StandingGrant → StandingGrant → Bool
hung_by b h = same_id b.id h.id && option_map_or (λ g. g == b.grantor) h.parent false

abbrev stays : (StandingGrant → StandingGrant → Bool) → StandingGrant → StandingGrant → Bool
stays out b h = not (out b h)

abbrev told_once : Shape → StandingGrant → Shape
told_once store b = (withdrawn store b.id b.grantor b.depth).shape

module _ (store : Shape) (id : ObjectId) (grantor depth : ℕ) where
  abbrev after : Option Seen → Shape
  after o = option_map_or (λ (seen : Seen). if list_any (is_the_grant grantor depth) seen.grants then grant_ended store id grantor depth seen else store) o store

  abbrev not_it : GrantTaken → Bool
  not_it t = not (is_the_grant grantor depth t)

  none_out : (grants : List GrantTaken) → list_any (is_the_grant grantor depth) grants ≡ false → filter not_it grants ≡ grants
  none_out [] e = refl
  none_out (t ∷ ts) e =
      (λ i. cond (not (or_false_left (is_the_grant grantor depth t) (list_any (is_the_grant grantor depth) ts) e i)) (t ∷ filter not_it ts) (filter not_it ts))
      ∙ ap (λ r. t ∷ r) (none_out ts (or_false_right (is_the_grant grantor depth t) (list_any (is_the_grant grantor depth) ts) e))

  elsewhere : (q : ObjectId) → same_id q id ≡ false → (o : Option Seen) → at (after o).received q ≡ at store.received q
  elsewhere q other None = refl
  elsewhere q other (Some seen) = elim (list_any (is_the_grant grantor depth) seen.grants) as (λ b. at (if b then grant_ended store id grantor depth seen else store).received q ≡ at store.received q) [
    | true ↦ elim (without_grant seen grantor depth) as (λ left. at (option_map_or (λ left. with_entry store.received id left) left (without_entry store.received id)) q ≡ at store.received q) [
      | None ↦ at-drop store.received id q ∙ ap (λ b. cond (not b) (at store.received q) None) (id_back id q ∙ other)
      | Some left ↦ at-put store.received id left q ∙ ap (λ b. cond b (Some left) (at store.received q)) other
    ]
    | false ↦ refl
  ]

  here : (n : ℕ) (grants : List GrantTaken) → at store.received id ≡ seen_by n grants → at (after (seen_by n grants)).received id ≡ seen_by n (filter not_it grants)
  here n [] is = is
  here n (t ∷ ts) is =
      (elim (list_any (is_the_grant grantor depth) (t ∷ ts)) as (λ b. list_any (is_the_grant grantor depth) (t ∷ ts) ≡ b → at (if b then grant_ended store id grantor depth seen else store).received id ≡ seen_by n (filter not_it (t ∷ ts))) [
        | true ↦ λ _. left (filter not_it (t ∷ ts))
        | false ↦ λ e. is ∙ ap (seen_by n) (sym (none_out (t ∷ ts) e))
      ]) refl
    where
      seen : Seen
      seen = record { length = n; grants = t ∷ ts }

      left : (grants : List GrantTaken) → at (option_map_or (λ (left : Seen). with_entry store.received id left) (elim grants as (λ _. Option Seen) [ [] ↦ None | grant ∷ grants ↦ Some (record seen { grants = grant ∷ grants }) ]) (without_entry store.received id)) id ≡ seen_by n grants
      left [] = at-drop store.received id id ∙ ap (λ b. cond (not b) (at store.received id) None) (same_id-itself id)
      left (grant ∷ grants) = at-put store.received id (record seen { grants = grant ∷ grants }) id ∙ ap (λ b. cond b (Some (record seen { grants = grant ∷ grants })) (at store.received id)) (same_id-itself id)

  seen_after : (q : ObjectId) (n : ℕ) (grants : List GrantTaken) → at store.received q ≡ seen_by n grants → at (after (at store.received id)).received q ≡ seen_by n (filter (λ t. not (same_id q id && is_the_grant grantor depth t)) grants)
  seen_after q n grants is = (elim (same_id q id) as (λ b. same_id q id ≡ b → at (after (at store.received id)).received q ≡ seen_by n (filter (λ t. not (b && is_the_grant grantor depth t)) grants)) [
    | true ↦ λ same.
        let found : at store.received id ≡ seen_by n grants = ap (at store.received) (sym (same_id-equal q id same)) ∙ is in
        (λ i. at (after (found i)).received (same_id-equal q id same i)) ∙ here n grants found
    | false ↦ λ other. elsewhere q other (at store.received id) ∙ is ∙ ap (seen_by n) (sym (filter_all grants))
  ]) refl

  given_after : (o : Option Seen) → (after o).given ≡ (if list_any (is_the_grant grantor depth) (seen_grants o) then filter (λ grant. not (hangs_on_it id grantor grant)) store.given else store.given)
  given_after None = refl
  given_after (Some seen) = elim (list_any (is_the_grant grantor depth) seen.grants) as (λ b. (if b then grant_ended store id grantor depth seen else store).given ≡ (if b then filter (λ grant. not (hangs_on_it id grantor grant)) store.given else store.given)) [
    | true ↦ refl
    | false ↦ refl
  ]

  job_after : (o : Option Seen) → (after o).job ≡ store.job
  job_after None = refl
  job_after (Some seen) = elim (list_any (is_the_grant grantor depth) seen.grants) as (λ b. (if b then grant_ended store id grantor depth seen else store).job ≡ store.job) [ true ↦ refl | false ↦ refl ]

pub filter_map : {X Y : Type 0} (f : X → Y) (p : Y → Bool) (xs : List X) → filter p (map f xs) ≡ map f (filter (λ x. p (f x)) xs)
filter_map f p [] = refl
filter_map f p (x ∷ xs) = elim (p (f x)) as (λ b. cond b (f x ∷ filter p (map f xs)) (filter p (map f xs)) ≡ map f (cond b (x ∷ filter (λ x. p (f x)) xs) (filter (λ x. p (f x)) xs))) [
  | true ↦ ap (λ r. f x ∷ r) (filter_map f p xs)
  | false ↦ filter_map f p xs
]

pub any_map : {X Y : Type 0} (f : X → Y) (p : Y → Bool) (xs : List X) → list_any p (map f xs) ≡ list_any (λ x. p (f x)) xs
any_map f p [] = refl
any_map f p (x ∷ xs) = ap (λ r. p (f x) || r) (any_map f p xs)

-- what is left after each in turn
abbrev left_by : (StandingGrant → StandingGrant → Bool) → List StandingGrant → List StandingGrant → List StandingGrant
left_by out xs [] = xs
left_by out xs (b ∷ bs) = left_by out (filter (stays out b) xs) bs

left_is : (out : StandingGrant → StandingGrant → Bool) (xs bs : List StandingGrant) → left_by out xs bs ≡ filter (λ h. not (list_any (λ b. out b h) bs)) xs
left_is out xs [] = sym (filter_all xs)
left_is out xs (b ∷ bs) =
    left_is out (filter (stays out b) xs) bs
    ∙ filter_filter (λ h. not (list_any (λ b. out b h) bs)) (stays out b) xs
    ∙ (λ i. filter (λ h. neither_of (out b h) (list_any (λ b. out b h) bs) i) xs)
  where
    neither_of : (a b : Bool) → (not a && not b) ≡ not (a || b)
    neither_of true b = refl
    neither_of false b = refl

pub filter_swap : (p q : StandingGrant → Bool) (xs : List StandingGrant) → filter p (filter q xs) ≡ filter q (filter p xs)
filter_swap p q xs = filter_filter p q xs ∙ (λ i. filter (λ x. and_back (q x) (p x) i) xs) ∙ sym (filter_filter q p xs)
  where
    and_back : (a b : Bool) → (a && b) ≡ (b && a)
    and_back true true = refl
    and_back true false = refl
    and_back false true = refl
    and_back false false = refl

filter_twice : (p : StandingGrant → Bool) (xs : List StandingGrant) → filter p (filter p xs) ≡ filter p xs
filter_twice p xs = filter_filter p p xs ∙ (λ i. filter (λ x. and_same (p x) i) xs)
  where
    and_same : (a : Bool) → (a && a) ≡ a
    and_same true = refl
    and_same false = refl

module _ (lengths : ObjectId → ℕ) (grants : List StandingGrant) (job : ℕ) where
  abbrev HasTaken : List StandingGrant → Shape → Type 0
  HasTaken xs store = (q : ObjectId) → at store.received q ≡ seen_by (lengths q) (map as_taken (filter (shows q job) xs))

  -- a grant to the job stands still, or what hangs on it has ended
  abbrev AreTold : List StandingGrant → List StandingGrant → Type 0
  AreTold xs given = (b : StandingGrant) → Among b grants → (b.grantee == job) ≡ true → Among b xs ⊎ (filter (stays hung_by b) given ≡ given)

  told_more : (xs given : List StandingGrant) (c : StandingGrant) → AreTold xs given → AreTold (filter (stays hits c) xs) (filter (stays hung_by c) given)
  told_more xs given c response b among to = elim (response b among to) [
    | inl stood ↦ (elim (hits c b) as (λ t. hits c b ≡ t → Among b (filter (stays hits c) xs) ⊎ (filter (stays hung_by b) (filter (stays hung_by c) given) ≡ filter (stays hung_by c) given)) [
      | true ↦ λ hit.
          let ids : b.id ≡ c.id = same_id-equal b.id c.id (both_left (same_id b.id c.id) (b.grantor == c.grantor && b.depth == c.depth) hit) in
          let grantors : b.grantor ≡ c.grantor = numbers_equal b.grantor c.grantor (both_left (b.grantor == c.grantor) (b.depth == c.depth) (both_right (same_id b.id c.id) (b.grantor == c.grantor && b.depth == c.depth) hit)) in
          inr ((λ i. filter (λ h. not (same_id (ids i) h.id && option_map_or (λ g. g == grantors i) h.parent false)) (filter (stays hung_by c) given)) ∙ filter_twice (stays hung_by c) given)
      | false ↦ λ miss. inl (λ p at. any_filter p (stays hits c) xs ∙ stood (λ x. stays hits c x && p x) (both (stays hits c b) (p b) (ap not miss) at))
    ]) refl
    | inr ended ↦ inr (filter_swap (stays hung_by b) (stays hung_by c) given ∙ ap (filter (stays hung_by c)) ended)
  ]

  taken_once : (xs : List StandingGrant) (store : Shape) (c : StandingGrant) → HasTaken xs store → HasTaken (filter (stays hits c) xs) (told_once store c)
  taken_once xs store c has q =
      seen_after store c.id c.grantor c.depth q (lengths q) (map as_taken (filter (shows q job) xs)) (has q)
      ∙ ap (seen_by (lengths q)) (filter_map as_taken (λ t. not (same_id q c.id && is_the_grant c.grantor c.depth t)) (filter (shows q job) xs)
      ∙ ap (map as_taken)
      (filter_filter (λ h. not (same_id q c.id && is_the_grant c.grantor c.depth (as_taken h))) (shows q job) xs
      ∙ (λ i. filter (λ h. same_out h i) xs)
      ∙ sym (filter_filter (shows q job) (stays hits c) xs)))
    where
      same_out : (h : StandingGrant) → (shows q job h && not (same_id q c.id && is_the_grant c.grantor c.depth (as_taken h))) ≡ (stays hits c h && shows q job h)
      same_out h = (elim (shows q job h) as (λ b. shows q job h ≡ b → (b && not (same_id q c.id && is_the_grant c.grantor c.depth (as_taken h))) ≡ (stays hits c h && b)) [
        | true ↦ λ e.
            ap (λ id. not (same_id id c.id && is_the_grant c.grantor c.depth (as_taken h))) (same_id-equal q h.id (both_left (same_id q h.id) (h.grantee == job) e))
            ∙ sym (and_true (stays hits c h))
        | false ↦ λ _. sym (and_false (stays hits c h))
      ]) refl

  given_once : (xs given : List StandingGrant) (store : Shape) (c : StandingGrant) → HasTaken xs store → AreTold xs given → Among c grants → (c.grantee == job) ≡ true
      → store.given ≡ map as_given given → (told_once store c).given ≡ map as_given (filter (stays hung_by c) given)
  given_once xs given store c has response among to was =
      given_after store c.id c.grantor c.depth (at store.received c.id)
      ∙ elim (response c among to) [
        | inl stood ↦
            ap (λ b. if b then filter (λ grant. not (hangs_on_it c.id c.grantor grant)) store.given else store.given)
            (ap (list_any (is_the_grant c.grantor c.depth)) (ap seen_grants (has c.id) ∙ grants_seen (lengths c.id) (map as_taken (filter (shows c.id job) xs))) ∙ any_map as_taken (is_the_grant c.grantor c.depth) (filter (shows c.id job) xs)
            ∙ any_filter (λ h. is_the_grant c.grantor c.depth (as_taken h)) (shows c.id job) xs
            ∙ stood (λ h. shows c.id job h && is_the_grant c.grantor c.depth (as_taken h))
            (both (shows c.id job c) (is_the_grant c.grantor c.depth (as_taken c)) (both (same_id c.id c.id) (c.grantee == job) (same_id-itself c.id) to)
            (both (c.grantor == c.grantor) (c.depth == c.depth) (eq-eqb c.grantor c.grantor refl) (eq-eqb c.depth c.depth refl))))
            ∙ out
        | inr ended ↦ elim (list_any (is_the_grant c.grantor c.depth) (grants_of store c.id)) as (λ b. (if b then filter (λ grant. not (hangs_on_it c.id c.grantor grant)) store.given else store.given) ≡ map as_given (filter (stays hung_by c) given)) [
          | true ↦ out
          | false ↦ was ∙ sym (ap (map as_given) ended)
        ]
      ]
    where
      out : filter (λ grant. not (hangs_on_it c.id c.grantor grant)) store.given ≡ map as_given (filter (stays hung_by c) given)
      out = ap (filter (λ grant. not (hangs_on_it c.id c.grantor grant))) was ∙ filter_map as_given (λ grant. not (hangs_on_it c.id c.grantor grant)) given

  told_all : (ended xs given : List StandingGrant) (store : Shape) → HasTaken xs store → AreTold xs given → store.given ≡ map as_given given → Within ended grants → list_all (λ b. b.grantee == job) ended ≡ true
      → ((after_ends store ended).job ≡ store.job) × ((after_ends store ended).given ≡ map as_given (left_by hung_by given ended)) × HasTaken (left_by hits xs ended) (after_ends store ended)
  told_all [] xs given store has response was within to = (refl, was, has)
  told_all (c ∷ ended) xs given store has response was within to =
      let mine = both_left (c.grantee == job) (list_all (λ b. b.grantee == job) ended) to in
      let among : Among c grants = λ p e. within p (or_left (p c) (list_any p ended) e) in
      let rest = told_all ended (filter (stays hits c) xs) (filter (stays hung_by c) given) (told_once store c) (taken_once xs store c has) (told_more xs given c response)
      (given_once xs given store c has response among mine was) (λ p e. within p (or_right (p c) (list_any p ended) e)) (both_right (c.grantee == job) (list_all (λ b. b.grantee == job) ended) to) in
      (rest.0 ∙ job_after store c.id c.grantor c.depth (at store.received c.id), rest.1, rest.2)

-- ---- what is left

module _ (test : StandingGrant → Bool) (grants : List StandingGrant) (job : ℕ) where
  abbrev gone : List StandingGrant
  gone = ended_from test [] grants

  abbrev keep : StandingGrant → Bool
  keep h = not (list_any (same_grant h) gone)

  -- those to the job that have ended
  abbrev ended : List StandingGrant
  ended = filter (λ grant. grant.grantee == job) (grants_ended test grants)

  any_ended : (p : StandingGrant → Bool) → list_any p ended ≡ list_any (λ b. b.grantee == job && p b) gone
  any_ended p = any_filter p (λ b. b.grantee == job) (grants_sorted gone) ∙ any_sorted (λ b. b.grantee == job && p b) gone

  any_hung : (h : StandingGrant) → (h.grantor == job) ≡ true → list_any (λ b. hung_by b h) ended ≡ list_any (is_child_of h) gone
  any_hung h mine = any_ended (λ b. hung_by b h) ∙ (λ i. list_any (λ b. turned b i) gone)
    where
      order : (x y o : Bool) → (x && (y && o)) ≡ ((y && x) && o)
      order true true o = refl
      order true false o = refl
      order false true o = refl
      order false false o = refl

      turned : (b : StandingGrant) → (b.grantee == job && hung_by b h) ≡ is_child_of h b
      turned b =
          (λ i. (ap (λ n. b.grantee == n) (sym (numbers_equal h.grantor job mine)) ∙ number_back b.grantee h.grantor) i && (id_back b.id h.id i && option_map_or (λ g. g == b.grantor) h.parent false))
          ∙ order (h.grantor == b.grantee) (same_id h.id b.id) (option_map_or (λ g. g == b.grantor) h.parent false)

  any_hit : (h : StandingGrant) → is_settled test gone h → (h.grantee == job) ≡ true → list_any (λ b. hits b h) ended ≡ list_any (same_grant h) gone
  any_hit h settled mine =
      any_ended (λ b. hits b h)
      ∙ two_ways (list_any (λ b. b.grantee == job && hits b h) gone) (list_any (same_grant h) gone)
      (any_more (λ b. b.grantee == job && hits b h) (same_grant h) gone (λ b at.
      let hit = both_right (b.grantee == job) (hits b h) at in
      same_alike h b (same_id-equal h.id b.id (both_left (same_id h.id b.id) (h.grantor == b.grantor && h.depth == b.depth) hit))
      (numbers_equal h.grantor b.grantor (both_left (h.grantor == b.grantor) (h.depth == b.depth) (both_right (same_id h.id b.id) (h.grantor == b.grantor && h.depth == b.depth) hit)))
      (numbers_equal h.grantee job mine ∙ sym (numbers_equal b.grantee job (both_left (b.grantee == job) (hits b h) at)))))
      (λ e. settled.1 e (λ b. b.grantee == job && hits b h) (both (h.grantee == job) (hits h h) mine
      (both (same_id h.id h.id) (h.grantor == h.grantor && h.depth == h.depth) (same_id-itself h.id) (both (h.grantor == h.grantor) (h.depth == h.depth) (eq-eqb h.grantor h.grantor refl) (eq-eqb h.depth h.depth refl)))))

  given_left : (h : StandingGrant) → is_settled test gone h → (((is_given_by job h) && not (test h)) && not (list_any (λ b. hung_by b h) ended)) ≡ (keep h && is_given_by job h)
  given_left h settled = (elim (h.grantor == job) as (λ b. (h.grantor == job) ≡ b → ((b && not (test h)) && not (list_any (λ b. hung_by b h) ended)) ≡ (keep h && b)) [
    | true ↦ λ mine. ap (λ b. not (test h) && not b) (any_hung h mine) ∙ neither_of (test h) (list_any (is_child_of h) gone) ∙ ap (λ b. not b && true) (sym settled.0)
    | false ↦ λ _. sym (and_false (keep h))
  ]) refl
    where
      neither_of : (a b : Bool) → (not a && not b) ≡ (not (a || b) && true)
      neither_of true b = refl
      neither_of false true = refl
      neither_of false false = refl

  taken_left : (q : ObjectId) (h : StandingGrant) → is_settled test gone h → (not (list_any (λ b. hits b h) ended) && shows q job h) ≡ (keep h && shows q job h)
  taken_left q h settled = (elim (shows q job h) as (λ b. shows q job h ≡ b → (not (list_any (λ b. hits b h) ended) && b) ≡ (keep h && b)) [
    | true ↦ λ e. ap (λ b. not b && true) (any_hit h settled (both_right (same_id q h.id) (h.grantee == job) e))
    | false ↦ λ _. and_false (not (list_any (λ b. hits b h) ended)) ∙ sym (and_false (keep h))
  ]) refl

  all_given_left : AreGrants grants → left_by hung_by (filter (λ grant. not (test grant)) (given_by job grants)) ended ≡ given_by job (grants_left test grants)
  all_given_left are =
      left_is hung_by (filter (λ grant. not (test grant)) (given_by job grants)) ended
      ∙ ap (filter (λ h. not (list_any (λ b. hung_by b h) ended))) (filter_filter (λ grant. not (test grant)) (is_given_by job) grants)
      ∙ filter_filter (λ h. not (list_any (λ b. hung_by b h) ended)) (λ h. is_given_by job h && not (test h)) grants
      ∙ filter_same (λ h. (is_given_by job h && not (test h)) && not (list_any (λ b. hung_by b h) ended)) (λ h. keep h && is_given_by job h) grants
      (each_then (is_settled test gone) (λ h. ((is_given_by job h && not (test h)) && not (list_any (λ b. hung_by b h) ended)) ≡ (keep h && is_given_by job h)) grants given_left (all_settled test grants are))
      ∙ sym (filter_filter (is_given_by job) keep grants)

  all_taken_left : AreGrants grants → (q : ObjectId) → filter (shows q job) (left_by hits grants ended) ≡ filter (shows q job) (grants_left test grants)
  all_taken_left are q =
      ap (filter (shows q job)) (left_is hits grants ended)
      ∙ filter_filter (shows q job) (λ h. not (list_any (λ b. hits b h) ended)) grants
      ∙ filter_same (λ h. not (list_any (λ b. hits b h) ended) && shows q job h) (λ h. keep h && shows q job h) grants
      (each_then (is_settled test gone) (λ h. (not (list_any (λ b. hits b h) ended) && shows q job h) ≡ (keep h && shows q job h)) grants (taken_left q) (all_settled test grants are))
      ∙ sym (filter_filter (shows q job) keep grants)

pub ends_alike : (lengths : ObjectId → ℕ) (grants : List StandingGrant) → AreGrants grants → (test : StandingGrant → Bool) → EndsAlike lengths test grants
ends_alike lengths grants are test = record {
  of_each = λ store has.
      let job = store.job in
      let response = told_all lengths grants job (ended test grants job) grants (filter (λ grant. not (test grant)) (given_by job grants)) store has.taken (λ b among to. inl among) has.given
      (λ p e. any_more (λ b. b.grantee == job && p b) p grants (λ b at. both_right (b.grantee == job) (p b) at) (ended_within test grants (λ b. b.grantee == job && p b) (sym (any_ended test grants job p) ∙ e)))
      (all_passing (λ grant. grant.grantee == job) (grants_ended test grants)) in
      record {
        given = response.1 ∙ ap (map as_given) (all_given_left test grants job are) ∙ (λ i. map as_given (given_by (sym response.0 i) (grants_left test grants)));
        taken = λ q. response.2 q ∙ (λ i. seen_by (lengths q) (map as_taken (all_taken_left test grants job are q i))) ∙ (λ i. seen_by (lengths q) (map as_taken (filter (shows q (sym response.0 i)) (grants_left test grants))));
      };
}

-- ---- what a grantor's own command leaves

module _ (lengths : ObjectId → ℕ) (grants : List StandingGrant) (store : Shape) (has : HasGrants lengths grants store) where
  settled_grants : (mid : Shape) (id : ObjectId) (test : StandingGrant → Bool) → mid.job ≡ store.job → mid.received ≡ store.received
      → mid.given ≡ map as_given (filter (λ grant. not (test grant)) (given_by store.job grants)) → HasRest lengths test grants (settled mid id)
  settled_grants mid id test job received given = by (at mid.copies id)
    where
      rest : HasRest lengths test grants mid
      rest = record {
        given = given ∙ (λ i. map as_given (filter (λ grant. not (test grant)) (given_by (sym job i) grants)));
        taken = λ q. (λ i. at (received i) q) ∙ has.taken q ∙ (λ i. seen_by (lengths q) (map as_taken (filter (shows q (sym job i)) grants)));
      }

      by : (o : Option Copy) → HasRest lengths test grants (option_map_or (λ (copy : Copy). if copy.doomed && is_idle mid id copy then drop_copy mid id else mid) o mid)
      by None = rest
      by (Some copy) = elim (copy.doomed && is_idle mid id copy) as (λ b. HasRest lengths test grants (if b then drop_copy mid id else mid)) [
        | true ↦ record { given = rest.given; taken = rest.taken }
        | false ↦ rest
      ]

  none_ends : (test : StandingGrant → Bool) (grantor : ℕ) → ((grant : StandingGrant) → test grant ≡ true → is_given_by grantor grant ≡ true) → (grantor == store.job) ≡ false → (xs : List StandingGrant)
      → given_by store.job xs ≡ filter (λ grant. not (test grant)) (given_by store.job xs)
  none_ends test grantor own other [] = refl
  none_ends test grantor own other (x ∷ xs) =
      let rest = none_ends test grantor own other xs in
      (elim (x.grantor == store.job) as (λ b. (x.grantor == store.job) ≡ b → cond b (x ∷ given_by store.job xs) (given_by store.job xs) ≡ filter (λ grant. not (test grant)) (cond b (x ∷ given_by store.job xs) (given_by store.job xs))) [
        | true ↦ λ mine.
            let not_here : test x ≡ false = refuted (test x) (λ e. sym (ap (λ n. n == store.job) (numbers_equal x.grantor grantor (own x e)) ∙ other) ∙ mine) in
            ap (λ r. x ∷ r) rest ∙ sym (ap (λ b. cond (not b) (x ∷ filter (λ grant. not (test grant)) (given_by store.job xs)) (filter (λ grant. not (test grant)) (given_by store.job xs))) not_here)
        | false ↦ λ _. rest
      ]) refl

  own_tests : (p q : StandingGrant → Bool) (xs : List StandingGrant) → ((x : StandingGrant) → is_given_by store.job x ≡ true → p x ≡ q x) → filter p (given_by store.job xs) ≡ filter q (given_by store.job xs)
  own_tests p q xs same =
      filter_filter p (is_given_by store.job) xs
      ∙ (λ i. filter (λ x. alike_own x i) xs)
      ∙ sym (filter_filter q (is_given_by store.job) xs)
    where
      alike_own : (x : StandingGrant) → (is_given_by store.job x && p x) ≡ (is_given_by store.job x && q x)
      alike_own x = (elim (is_given_by store.job x) as (λ b. is_given_by store.job x ≡ b → (b && p x) ≡ (b && q x)) [ true ↦ λ mine. same x mine | false ↦ λ _. refl ]) refl

  all_out : (xs : List StandingGrant) → [] ≡ filter (λ grant. not (is_given_by store.job grant)) (given_by store.job xs)
  all_out [] = refl
  all_out (x ∷ xs) = (elim (is_given_by store.job x) as (λ b. is_given_by store.job x ≡ b → [] ≡ filter (λ grant. not (is_given_by store.job grant)) (cond b (x ∷ given_by store.job xs) (given_by store.job xs))) [
    | true ↦ λ mine. all_out xs ∙ sym (ap (λ b. cond (not b) (x ∷ filter (λ grant. not (is_given_by store.job grant)) (given_by store.job xs)) (filter (λ grant. not (is_given_by store.job grant)) (given_by store.job xs))) mine)
    | false ↦ λ _. all_out xs
  ]) refl

  pub rest_alike : RestAlike lengths grants store
  rest_alike = record {
    withdrawal = λ id target. settled_grants (without_given store grants id target) id (is_withdrawn store.job id target) refl refl
        (ap (map as_given) (filter_swap (is_given_by store.job) (λ grant. not (is_withdrawn store.job id target grant)) grants));
    task = λ task. record {
      given = ap (filter (λ (grant : GrantGiven). not (grant.id.job.0 == store.job && same_task task grant.id.task))) has.given
          ∙ filter_map as_given (λ grant. not (grant.id.job.0 == store.job && same_task task grant.id.task)) (given_by store.job grants)
          ∙ ap (map as_given) (own_tests (λ grant. not (grant.id.job.0 == store.job && same_task task grant.id.task)) (λ grant. not (is_of_task store.job task grant)) grants
          (λ x mine. ap (λ b. not ((b && x.id.job.0 == store.job) && same_task task x.id.task)) (sym mine)));
      taken = has.taken;
    };
    job = record { given = ap (map as_given) (all_out grants); taken = has.taken };
    other = λ grantor test own apart. record { given = has.given ∙ ap (map as_given) (none_ends test grantor own apart grants); taken = has.taken };
  }
