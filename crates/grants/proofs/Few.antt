-- How much a live job may be given by the other live jobs.
use Rattle.std.proofs.Common.{◌≡◌, ℕ, suc, ◌+◌, ◌*◌, ◌≤◌, ◌==◌, Bool, true, false, not, cond, ◌&&◌, ◌||◌, List, [], ◌∷◌, ◌++◌, length, map, filter, fold, Option, Some, None, is_some, refl, sym, ap, ◌∙◌, arith, T}
use Rattle.std.specs.Prelude.{nat_le}
use Rattle.std.specs.List.{list_any, list_all}
use Rattle.std.specs.FinMap.{is_sorted}
use Rattle.std.specs.FinMap.Entries.{is_sorted-put, length-put}
use Rattle.std.proofs.lemmas.Bool.Decides.{nat_tests}
use Rattle.obj_id.specs.declared.ids.ObjectId.{ObjectId}
use Rattle.obj_id.specs.Ids.{id_cmp}
use Rattle.store_facts.proofs.Ids.{id_cmp-IsTotalOrder}
use Rattle.private_store.specs.laws.Answers.{AreGrantedWithin}
use Rattle.private_store.specs.rules.Grants.{StandingGrant, same_grant, is_child_of, is_given_by}
use Rattle.private_store.specs.rules.Limits.{most_grants, most_live_jobs, greatest_depth}
use Rattle.private_store.specs.rules.Shape.{GrantTaken, Seen}
use Rattle.private_store.specs.rules.Tables.{ById, at}
use Rattle.store_facts.proofs.Tests.{both, both_left, both_right, some_value}
use Rattle.grants.specs.Table.{AreGrants, all_stand, grant_may_stand, hangs_right, is_hung, is_no_grantee, shows, given_by, given_to}
use Rattle.grants.specs.Private.{as_taken, seen_by, with_taken, taken_by}
use Rattle.grants.proofs.Private.{seen_grants}
use Rattle.grants.proofs.Taken.{taken_shown}

-- ---- one table's grants

abbrev pub is_among : List ℕ → ℕ → Bool
is_among numbers n = list_any (λ m. m == n) numbers

-- a grant has a grantor that isn't its grantee, and is no deeper than a Grant makes it
abbrev IsFit : StandingGrant → Bool
IsFit grant = not (grant.grantee == grant.grantor) && nat_le grant.depth greatest_depth

hung_fit : (before : List StandingGrant) (grant : StandingGrant) (o : Option ℕ) → hangs_right before grant o ≡ true → nat_le grant.depth greatest_depth ≡ true
hung_fit before grant None h = let first = both_right (grant.grantor == grant.id.job.0) (grant.depth == 1) h in grind (arith, nat_tests, first)
hung_fit before grant (Some g) h =
    both_right (not (grant.grantor == grant.id.job.0)) (nat_le grant.depth greatest_depth)
    (both_left (not (grant.grantor == grant.id.job.0) && nat_le grant.depth greatest_depth) (list_any (λ below. is_child_of grant below && grant.depth == below.depth + 1) before) h)

grantee_fit : (a b c : Bool) → not ((a || b) || c) ≡ true → not b ≡ true
grantee_fit false false c h = refl
grantee_fit false true c h = h
grantee_fit true b c h = absurd cc

stands_fit : (before : List StandingGrant) (grant : StandingGrant) → grant_may_stand before grant ≡ true → IsFit grant ≡ true
stands_fit before grant h =
    let grantee : Bool = not (is_no_grantee grant.id grant.grantor grant.grantee) in
    let apart : Bool = not (list_any (same_grant grant) before) in
    both (not (grant.grantee == grant.grantor)) (nat_le grant.depth greatest_depth)
    (grantee_fit (grant.grantee == 0) (grant.grantee == grant.grantor) (grant.grantee == grant.id.job.0) (both_left grantee apart (both_left (grantee && apart) (is_hung before grant) h)))
    (hung_fit before grant grant.parent (both_right (grantee && apart) (is_hung before grant) h))

all_fit : (before grants : List StandingGrant) → all_stand before grants ≡ true → list_all IsFit grants ≡ true
all_fit before [] h = refl
all_fit before (grant ∷ grants) h =
    both (IsFit grant) (list_all IsFit grants) (stands_fit before grant (both_left (grant_may_stand before grant) _ h))
    (all_fit (before ++ grant ∷ []) grants (both_right (grant_may_stand before grant) _ h))

-- ---- counting by grantors

split : (p : StandingGrant → Bool) (hs : List StandingGrant) → length hs ≡ length (filter p hs) + length (filter (λ h. not (p h)) hs)
split p [] = refl
split p (h ∷ hs) = by (p h) (split p hs)
  where
    by : (b : Bool) → length hs ≡ length (filter p hs) + length (filter (λ h. not (p h)) hs)
        → suc (length hs) ≡ length (cond b (h ∷ filter p hs) (filter p hs)) + length (cond (not b) (h ∷ filter (λ h. not (p h)) hs) (filter (λ h. not (p h)) hs))
    by true e = omega (arith, e)
    by false e = omega (arith, e)

filter_less : (p r : StandingGrant → Bool) (hs : List StandingGrant) → length (filter p (filter r hs)) ≤ length (filter p hs)
filter_less p r [] = omega arith
filter_less p r (h ∷ hs) = by (r h) (filter_less p r hs)
  where
    by : (b : Bool) → length (filter p (filter r hs)) ≤ length (filter p hs) → length (filter p (cond b (h ∷ filter r hs) (filter r hs))) ≤ length (cond (p h) (h ∷ filter p hs) (filter p hs))
    by true l = under (p h) l
      where
        under : (c : Bool) → length (filter p (filter r hs)) ≤ length (filter p hs) → length (cond c (h ∷ filter p (filter r hs)) (filter p (filter r hs))) ≤ length (cond c (h ∷ filter p hs) (filter p hs))
        under true l = omega (arith, l)
        under false l = l
    by false l = over (p h) l
      where
        over : (c : Bool) → length (filter p (filter r hs)) ≤ length (filter p hs) → length (filter p (filter r hs)) ≤ length (cond c (h ∷ filter p hs) (filter p hs))
        over true l = omega (arith, l)
        over false l = l

-- without the first of the numbers
among_rest : (g : ℕ) (gs : List ℕ) (hs : List StandingGrant) → list_all (λ h. is_among (g ∷ gs) h.grantor) hs ≡ true → list_all (λ h. is_among gs h.grantor) (filter (λ h. not (is_given_by g h)) hs) ≡ true
among_rest g gs [] all = refl
among_rest g gs (h ∷ hs) all = by (h.grantor == g) (g == h.grantor) (grind (arith, nat_tests)) (both_left ((g == h.grantor) || is_among gs h.grantor) _ all) (among_rest g gs hs (both_right ((g == h.grantor) || is_among gs h.grantor) _ all))
  where
    rest : List StandingGrant
    rest = filter (λ h. not (is_given_by g h)) hs

    by : (a b : Bool) → a ≡ b → b || is_among gs h.grantor ≡ true → list_all (λ (h : StandingGrant). is_among gs h.grantor) rest ≡ true → list_all (λ (h : StandingGrant). is_among gs h.grantor) (cond (not a) (h ∷ rest) rest) ≡ true
    by true b e here l = l
    by false false e here l = both (is_among gs h.grantor) (list_all (λ (h : StandingGrant). is_among gs h.grantor) rest) here l
    by false true e here l = absurd cc

pub few_by : (gs : List ℕ) (hs : List StandingGrant) → list_all (λ h. is_among gs h.grantor) hs ≡ true → ((g : ℕ) → length (given_by g hs) ≤ most_grants) → length hs ≤ 64 * length gs
few_by [] [] all few = omega arith
few_by [] (h ∷ hs) all few = absurd cc
few_by (g ∷ gs) hs all few =
    let rest = filter (λ h. not (is_given_by g h)) hs in
    let here = few g in
    let there : length rest ≤ 64 * length gs = few_by gs rest (among_rest g gs hs all) (λ k. less k (filter_less (is_given_by k) (λ h. not (is_given_by g h)) hs) (few k)) in
    let whole = split (is_given_by g) hs in
    omega (arith, here, there, whole)
  where
    less : (k : ℕ) {m n : ℕ} → m ≤ n → n ≤ most_grants → m ≤ most_grants
    less k l f = omega (arith, l, f)

-- ---- of one job

-- the others
abbrev others : ℕ → List ℕ → List ℕ
others job lives = filter (λ g. not (g == job)) lives

others_less : (job : ℕ) (lives : List ℕ) → length (others job lives) ≤ length lives
others_less job [] = omega arith
others_less job (g ∷ gs) = by (g == job) (others_less job gs)
  where
    by : (b : Bool) → length (others job gs) ≤ length gs → length (cond (not b) (g ∷ others job gs) (others job gs)) ≤ suc (length gs)
    by true l = omega (arith, l)
    by false l = omega (arith, l)

others_few : (job : ℕ) (lives : List ℕ) → is_among lives job ≡ true → length (others job lives) + 1 ≤ length lives
others_few job [] h = absurd cc
others_few job (g ∷ gs) h = by (g == job) h (others_less job gs) (λ t. others_few job gs t)
  where
    by : (b : Bool) → b || is_among gs job ≡ true → length (others job gs) ≤ length gs → (is_among gs job ≡ true → length (others job gs) + 1 ≤ length gs) → length (cond (not b) (g ∷ others job gs) (others job gs)) + 1 ≤ suc (length gs)
    by true h l more = omega (arith, l)
    by false h l more = let m = more h in omega (arith, m)

among_others : (job n : ℕ) (lives : List ℕ) → (n == job) ≡ false → is_among lives n ≡ true → is_among (others job lives) n ≡ true
among_others job n [] differ h = h
among_others job n (g ∷ gs) differ h = by (g == job) (g == n) refl refl h (among_others job n gs differ)
  where
    by : (a b : Bool) → (g == job) ≡ a → (g == n) ≡ b → b || is_among gs n ≡ true → (is_among gs n ≡ true → is_among (others job gs) n ≡ true) → is_among (cond (not a) (g ∷ others job gs) (others job gs)) n ≡ true
    by true false e f h rest = rest h
    by true true e f h rest = absurd (grind (arith, nat_tests, e, f, differ))
    by false b e f h rest = ap (λ t. t || is_among (others job gs) n) f ∙ either b h rest
      where
        either : (b : Bool) → b || is_among gs n ≡ true → (is_among gs n ≡ true → is_among (others job gs) n ≡ true) → b || is_among (others job gs) n ≡ true
        either true h rest = refl
        either false h rest = rest h

-- the grantors of what the job was given are others
given_by_others : (job : ℕ) (lives : List ℕ) (hs : List StandingGrant) → list_all IsFit hs ≡ true → list_all (λ h. is_among lives h.grantor) hs ≡ true → list_all (λ h. is_among (others job lives) h.grantor) (given_to job hs) ≡ true
given_by_others job lives [] fit all = refl
given_by_others job lives (h ∷ hs) fit all =
    by (h.grantee == job) refl (given_by_others job lives hs (both_right (IsFit h) _ fit) (both_right (is_among lives h.grantor) _ all))
  where
    by : (b : Bool) → (h.grantee == job) ≡ b → list_all (λ (h : StandingGrant). is_among (others job lives) h.grantor) (given_to job hs) ≡ true → list_all (λ (h : StandingGrant). is_among (others job lives) h.grantor) (cond b (h ∷ given_to job hs) (given_to job hs)) ≡ true
    by true e rest =
        let apart = both_left (not (h.grantee == h.grantor)) _ (both_left (IsFit h) _ fit) in
        both (is_among (others job lives) h.grantor) _ (among_others job h.grantor lives (grind (arith, nat_tests, e, apart)) (both_left (is_among lives h.grantor) _ all)) rest
    by false e rest = rest

-- ---- by objects

module _ (lengths : ObjectId → ℕ) where
  by_objects : (hs : List StandingGrant) (table : ById Seen) → T (is_sorted id_cmp table) → length (fold (with_taken lengths) table hs) ≤ length table + length hs
  by_objects [] table sorted = omega arith
  by_objects (h ∷ hs) table sorted =
      let seen : Seen = record { length = lengths h.id; grants = seen_grants (at table h.id) ++ as_taken h ∷ [] } in
      let rest = by_objects hs (with_taken lengths table h) (is_sorted-put id_cmp id_cmp-IsTotalOrder h.id seen table sorted) in
      let one = length-put id_cmp id_cmp-IsTotalOrder h.id seen table sorted in
      sum (is_some (at table h.id)) one rest
    where
      sum : (b : Bool) {n m : ℕ} → n ≡ cond b (length table) (length table + 1) → m ≤ n + length hs → m ≤ length table + suc (length hs)
      sum true e l = omega (arith, e, l)
      sum false e l = omega (arith, e, l)

-- ---- what each grant of an object is

shown_fit : (id : ObjectId) (job : ℕ) (hs : List StandingGrant) → list_all IsFit hs ≡ true → list_all (λ (h : GrantTaken). nat_le h.depth greatest_depth) (map as_taken (filter (shows id job) hs)) ≡ true
shown_fit id job [] fit = refl
shown_fit id job (h ∷ hs) fit = by (shows id job h) (shown_fit id job hs (both_right (IsFit h) _ fit))
  where
    by : (b : Bool) → list_all (λ (h : GrantTaken). nat_le h.depth greatest_depth) (map as_taken (filter (shows id job) hs)) ≡ true → list_all (λ (h : GrantTaken). nat_le h.depth greatest_depth) (map as_taken (cond b (h ∷ filter (shows id job) hs) (filter (shows id job) hs))) ≡ true
    by true rest = both (nat_le h.depth greatest_depth) _ (both_right (not (h.grantee == h.grantor)) _ (both_left (IsFit h) _ fit)) rest
    by false rest = rest

seen_shallow : (n : ℕ) (hs : List GrantTaken) (seen : Seen) → list_all (λ h. nat_le h.depth greatest_depth) hs ≡ true → seen_by n hs ≡ Some seen → list_all (λ h. nat_le h.depth greatest_depth) seen.grants ≡ true
seen_shallow n [] seen fit is = absurd cc
seen_shallow n (h ∷ hs) seen fit is = ap (λ (s : Seen). list_all (λ (h : GrantTaken). nat_le h.depth greatest_depth) s.grants) (sym (some_value (record { length = n; grants = h ∷ hs }) seen is)) ∙ fit

pub few_granted : (lengths : ObjectId → ℕ) (grants : List StandingGrant) (lives : List ℕ) (job : ℕ) → AreGrants grants → list_all (λ grant. is_among lives grant.grantor) grants ≡ true → length lives ≤ most_live_jobs → is_among lives job ≡ true
    → AreGrantedWithin (taken_by lengths job grants)
few_granted lengths grants lives job are all few there = record {
  few =
      let fewer = others_few job lives there in
      let given = few_by (others job lives) (given_to job grants) (given_by_others job lives grants fit all) (λ g. less g (filter_less (is_given_by g) (λ (h : StandingGrant). h.grantee == job) grants) (are.few g)) in
      let seen = by_objects lengths (given_to job grants) [] tt in
      omega (arith, few, fewer, given, seen);
  shallow = λ id seen is. seen_shallow (lengths id) (map as_taken (filter (shows id job) grants)) seen (shown_fit id job grants fit) (sym (taken_shown lengths job grants id) ∙ is);
}
  where
    fit : list_all IsFit grants ≡ true
    fit = all_fit [] grants are.stand

    less : (g : ℕ) {m n : ℕ} → m ≤ n → n ≤ most_grants → m ≤ most_grants
    less g l f = omega (arith, l, f)
