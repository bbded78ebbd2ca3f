-- What stands after a Grant is a table of grants again.
use Rattle.std.proofs.Common.{◌≡◌, ℕ, ◌+◌, ◌≤◌, ◌==◌, Bool, true, false, not, cond, ◌&&◌, ◌||◌, List, [], ◌∷◌, ◌++◌, length, Option, Some, None, refl, sym, ap, subst, ◌∙◌, arith, eq-eqb}
use Rattle.std.specs.Prelude.{if◌then◌else◌, nat_le}
use Rattle.std.specs.List.{list_any}
use Rattle.std.proofs.lemmas.Bool.Decides.{nat_tests}
use Rattle.std.proofs.lemmas.List.{length_push}
use Rattle.obj_id.specs.declared.ids.ObjectId.{ObjectId}
use Rattle.obj_id.specs.declared.refusals.Refusal.{Refusal}
use Rattle.obj_id.specs.declared.refusals.Refusal.TheVariants.{BadId, NotGranted, Exists, TooMany}
use Rattle.obj_id.specs.Ids.{same_id}
use Rattle.private_store.specs.rules.Limits.{most_grants, greatest_depth}
use Rattle.private_store.specs.rules.Grants.{StandingGrant, same_grant, is_child_of, ground, new_grant, with_grant, is_withdrawn, is_given_by}
use Rattle.store_facts.proofs.Tests.{both, both_left, both_right, none_some, or_false_left, or_false_right, refuted}
use Rattle.grants.specs.Table.{AreGrants, given_by, is_no_grantee, limits_check, hung_check, grant_check, is_hung, grant_may_stand, all_stand}
use Rattle.grants.proofs.Alike.{alike, ids_same, any_more, found, numbers_equal}
use Rattle.grants.proofs.Left.{filter_both}

some_none : {B : Type 0} (r : Refusal) → Some r ≡ None → B
some_none r e = none_some r (sym e)

-- a check that passes
pub check_off : (b : Bool) (r : Refusal) (o : Option Refusal) → (if b then Some r else o) ≡ None → (b ≡ false) × (o ≡ None)
check_off true r o e = some_none r e
check_off false r o e = (refl, e)

append_in : (xs ys zs : List StandingGrant) → (xs ++ ys) ++ zs ≡ xs ++ (ys ++ zs)
append_in [] ys zs = refl
append_in (x ∷ xs) ys zs = ap (λ r. x ∷ r) (append_in xs ys zs)

append_nothing : (xs : List StandingGrant) → xs ++ [] ≡ xs
append_nothing [] = refl
append_nothing (x ∷ xs) = ap (λ r. x ∷ r) (append_nothing xs)

-- the youngest may stand
stands_last : (before hs : List StandingGrant) (h : StandingGrant) → all_stand before hs ≡ true → grant_may_stand (before ++ hs) h ≡ true → all_stand before (hs ++ h ∷ []) ≡ true
stands_last before [] h s m = both (grant_may_stand before h) true (ap (λ l. grant_may_stand l h) (sym (append_nothing before)) ∙ m) refl
stands_last before (x ∷ hs) h s m =
    both (grant_may_stand before x) (all_stand (before ++ x ∷ []) (hs ++ h ∷ [])) (both_left (grant_may_stand before x) (all_stand (before ++ x ∷ []) hs) s)
    (stands_last (before ++ x ∷ []) hs h (both_right (grant_may_stand before x) (all_stand (before ++ x ∷ []) hs) s) (ap (λ l. grant_may_stand l h) (append_in before (x ∷ []) hs) ∙ m))

deeper : (d : ℕ) → nat_le greatest_depth d ≡ false → nat_le (d + 1) greatest_depth ≡ true
deeper d e = grind (arith, nat_tests)

one_more : (n : ℕ) → nat_le most_grants n ≡ false → n + 1 ≤ most_grants
one_more n e = grind (arith, nat_tests)

module _ (grants : List StandingGrant) (grantor : ℕ) (id : ObjectId) (grantee : ℕ) where
  -- the grant, over the one that it hangs on
  abbrev pub made : Option StandingGrant → StandingGrant
  made o =
      elim o [
        | None ↦ record { id = id; grantor = grantor; grantee = grantee; depth = 1; parent = None }
        | Some grant ↦ record { id = id; grantor = grantor; grantee = grantee; depth = grant.depth + 1; parent = Some grant.grantor }
      ]

  abbrev few : Type 0
  few = nat_le most_grants (length (given_by grantor grants)) ≡ false

  -- what the limits leave
  within : (depth : ℕ) → limits_check grants grantor id grantee depth ≡ None → (list_any (is_withdrawn grantor id grantee) grants ≡ false) × (nat_le greatest_depth depth ≡ false) × few
  within depth e =
      let full = nat_le most_grants (length (given_by grantor grants)) in
      let first = check_off (list_any (is_withdrawn grantor id grantee) grants) Exists (if nat_le greatest_depth depth || full then Some TooMany else None) e in
      let second = check_off (nat_le greatest_depth depth || full) TooMany None first.1 in
      (first.0, or_false_left (nat_le greatest_depth depth) full second.0, or_false_right (nat_le greatest_depth depth) full second.0)

  -- no such grant stands yet
  new_one : (h : StandingGrant) → h.id ≡ id → h.grantor ≡ grantor → h.grantee ≡ grantee → list_any (is_withdrawn grantor id grantee) grants ≡ false → list_any (same_grant h) grants ≡ false
  new_one h i g t none =
      refuted (list_any (same_grant h) grants) (λ e. sym none ∙ any_more (same_grant h) (is_withdrawn grantor id grantee) grants (λ x s.
      let a = alike h x s in
      both (x.grantor == grantor && same_id id x.id) (x.grantee == grantee)
      (both (x.grantor == grantor) (same_id id x.id) (eq-eqb x.grantor grantor (sym a.1 ∙ g)) (ids_same id x.id (sym i ∙ a.0)))
      (eq-eqb x.grantee grantee (sym a.2 ∙ t))) e)

  may : (h : StandingGrant) → h.id ≡ id → h.grantor ≡ grantor → h.grantee ≡ grantee → is_no_grantee id grantor grantee ≡ false → list_any (is_withdrawn grantor id grantee) grants ≡ false
      → is_hung grants h ≡ true → grant_may_stand grants h ≡ true
  may h i g t f none hung =
      let off : is_no_grantee h.id h.grantor h.grantee ≡ false = (λ k. is_no_grantee (i k) (g k) (t k)) ∙ f in
      both (not (is_no_grantee h.id h.grantor h.grantee) && not (list_any (same_grant h) grants)) (is_hung grants h)
      (both (not (is_no_grantee h.id h.grantor h.grantee)) (not (list_any (same_grant h) grants)) (ap not off) (ap not (new_one h i g t none))) hung

  -- the job's own object
  own_grant : is_no_grantee id grantor grantee ≡ false → (id.job.0 == grantor) ≡ true → limits_check grants grantor id grantee 0 ≡ None → (grant_may_stand grants (made None) ≡ true) × few
  own_grant f own c =
      let w = within 0 c in
      (may (made None) refl refl refl f w.0 (both (grantor == id.job.0) true (eq-eqb grantor id.job.0 (sym (numbers_equal id.job.0 grantor own))) refl), w.2)

  not_back : (a b : ℕ) → (a == b) ≡ false → (b == a) ≡ false
  not_back a b e = grind (arith, nat_tests)

  -- another job's object, over the oldest grant of it
  foreign_grant : is_no_grantee id grantor grantee ≡ false → (id.job.0 == grantor) ≡ false → (below : StandingGrant) → ground grants id grantor ≡ Some below
      → limits_check grants grantor id grantee below.depth ≡ None → (grant_may_stand grants (made (Some below)) ≡ true) × few
  foreign_grant f own below is c =
      let w = within below.depth c in
      let at = found (λ grant. same_id id grant.id && grant.grantee == grantor) grants below is in
      let hung : is_child_of (made (Some below)) below ≡ true =
      both (same_id id below.id && grantor == below.grantee) (below.grantor == below.grantor)
      (both (same_id id below.id) (grantor == below.grantee) (both_left (same_id id below.id) (below.grantee == grantor) at.0)
      (eq-eqb grantor below.grantee (sym (numbers_equal below.grantee grantor (both_right (same_id id below.id) (below.grantee == grantor) at.0)))))
      (eq-eqb below.grantor below.grantor refl) in
      let over : StandingGrant → Bool = λ b. is_child_of (made (Some below)) b && below.depth + 1 == b.depth + 1 in (
        may (made (Some below)) refl refl refl f w.0
            (both (not (grantor == id.job.0) && nat_le (below.depth + 1) greatest_depth) (list_any over grants)
            (both (not (grantor == id.job.0)) (nat_le (below.depth + 1) greatest_depth) (ap not (not_back id.job.0 grantor own)) (deeper below.depth w.1))
            (at.1 over (both (is_child_of (made (Some below)) below) (below.depth + 1 == below.depth + 1) hung (eq-eqb (below.depth + 1) (below.depth + 1) refl)))),
        w.2,
      )

  granted : grant_check grants grantor id grantee ≡ None → (grant_may_stand grants (new_grant grants id grantor grantee) ≡ true) × few
  granted e =
      let rest = if id.job.0 == grantor then limits_check grants grantor id grantee 0 else hung_check grants grantor id grantee (ground grants id grantor) in
      let first = check_off (is_no_grantee id grantor grantee) BadId rest e in
      (elim (id.job.0 == grantor) as (λ t. (id.job.0 == grantor) ≡ t
      → (if t then limits_check grants grantor id grantee 0 else hung_check grants grantor id grantee (ground grants id grantor)) ≡ None
      → (grant_may_stand grants (made (if t then None else ground grants id grantor)) ≡ true) × few) [
        | true ↦ λ own c. own_grant first.0 own c
        | false ↦ λ own c.
            (elim (ground grants id grantor) as (λ o. ground grants id grantor ≡ o → hung_check grants grantor id grantee o ≡ None → (grant_may_stand grants (made o) ≡ true) × few) [
              | None ↦ λ _ r. some_none NotGranted r
              | Some below ↦ λ is l. foreign_grant first.0 own below is l
            ]) refl c
      ]) refl first.1

  grantor_made : (o : Option StandingGrant) → (made o).grantor ≡ grantor
  grantor_made None = refl
  grantor_made (Some grant) = refl

  few_given : (h : StandingGrant) → h.grantor ≡ grantor → few → ((g : ℕ) → length (given_by g grants) ≤ most_grants) → (g : ℕ) → length (given_by g (grants ++ h ∷ [])) ≤ most_grants
  few_given h from left all g =
      let split : given_by g (grants ++ h ∷ []) ≡ given_by g grants ++ cond (h.grantor == g) (h ∷ []) [] = filter_both (is_given_by g) grants (h ∷ []) in
      (elim (h.grantor == g) as (λ t. (h.grantor == g) ≡ t → length (given_by g (grants ++ h ∷ [])) ≤ most_grants) [
        | true ↦ λ t.
            let same : grantor ≡ g = sym from ∙ numbers_equal h.grantor g t in
            let n : length (given_by g (grants ++ h ∷ [])) ≡ length (given_by g grants) + 1 =
            ap length (split ∙ ap (λ b. given_by g grants ++ cond b (h ∷ []) []) t) ∙ length_push (given_by g grants) h in
            let m : length (given_by g grants) + 1 ≤ most_grants = one_more (length (given_by g grants)) (ap (λ k. nat_le most_grants (length (given_by k grants))) (sym same) ∙ left) in
            omega (arith, n, m)
        | false ↦ λ t.
            let n : length (given_by g (grants ++ h ∷ [])) ≡ length (given_by g grants) =
            ap length (split ∙ ap (λ b. given_by g grants ++ cond b (h ∷ []) []) t ∙ append_nothing (given_by g grants)) in
            let m = all g in
            omega (arith, n, m)
      ]) refl

  made_are_grants : AreGrants grants → grant_check grants grantor id grantee ≡ None → AreGrants (with_grant grants id grantor grantee)
  made_are_grants h e =
      let m = granted e in
      record {
        stand = stands_last [] grants (new_grant grants id grantor grantee) h.stand m.0;
        few = few_given (new_grant grants id grantor grantee) (grantor_made (if id.job.0 == grantor then None else ground grants id grantor)) m.1 h.few;
      }

  -- what a push of the new grant leaves, whether or not there was memory for it
  pub pushed_are_grants : (grant : StandingGrant) (ok : Bool) (items : List StandingGrant) → AreGrants grants → grant_check grants grantor id grantee ≡ None → grant ≡ new_grant grants id grantor grantee
      → items ≡ (if ok then grants ++ grant ∷ [] else grants) → AreGrants items
  pushed_are_grants grant true items h e is at = subst AreGrants (sym (at ∙ ap (λ x. grants ++ x ∷ []) is)) (made_are_grants h e)
  pushed_are_grants grant false items h e is at = subst AreGrants (sym at) h
