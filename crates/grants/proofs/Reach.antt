-- A job sees an object exactly where a chain of grants leads to it.
use Rattle.std.proofs.Common.{◌≡◌, ℕ, ◌+◌, ◌<◌, ◌==◌, zero, suc, Bool, true, false, not, ◌&&◌, inl, inr, List, [], ◌∷◌, ◌++◌, Option, Some, None, refl, sym, ap, subst, ◌∙◌, arith, eq-eqb}
use Rattle.std.specs.Prelude.{◌↔◌, nat_le}
use Rattle.std.specs.List.{list_any}
use Rattle.std.specs.Option.{option_map_or}
use Rattle.std.proofs.lemmas.Bool.Decides.{nat_tests}
use Rattle.obj_id.specs.declared.ids.ObjectId.{ObjectId}
use Rattle.obj_id.specs.Ids.{same_id}
use Rattle.store_facts.proofs.Ids.{same_id-equal, same_id-itself}
use Rattle.private_store.specs.rules.Limits.{greatest_depth}
use Rattle.private_store.specs.rules.Grants.{StandingGrant, is_child_of, same_grant}
use Rattle.store_facts.proofs.Tests.{true_false, both, both_left, both_right, or_cases, or_left, or_right}
use Rattle.grants.specs.Table.{AreGrants, is_first, shows, hangs_right, is_hung, is_no_grantee, grant_may_stand, all_stand}
use Rattle.grants.specs.Chains.{one_is, leads, is_led_to, sees}
use Rattle.grants.proofs.Alike.{numbers_equal}

-- each of the grants is such
abbrev each : (StandingGrant → Type 0) → List StandingGrant → Type 0
each P [] = Unit {0}
each P (h ∷ hs) = P h × each P hs

each_last : (P : StandingGrant → Type 0) (hs : List StandingGrant) (h : StandingGrant) → each P hs → P h → each P (hs ++ h ∷ [])
each_last P [] h a p = (p, tt)
each_last P (x ∷ hs) h a p = (a.0, each_last P hs h a.1 p)

-- one that passes a test, and what each of them is
pick : (P : StandingGrant → Type 0) (p : StandingGrant → Bool) (hs : List StandingGrant) → each P hs → list_any p hs ≡ true → (h : StandingGrant) × (p h ≡ true) × P h
pick P p [] a e = true_false e
pick P p (x ∷ hs) a e = elim (or_cases (p x) (list_any p hs) e) [ inl t ↦ (x, t, a.0) | inr r ↦ pick P p hs a.1 r ]

one_here : (P : StandingGrant → Type 0) (before hs : List StandingGrant) (h : StandingGrant) → P h → one_is P (before ++ h ∷ hs)
one_here P [] hs h p = inl p
one_here P (x ∷ before) hs h p = inr (one_here P before hs h p)

any_of_one : (P : StandingGrant → Type 0) (p : StandingGrant → Bool) (hs : List StandingGrant) → ((h : StandingGrant) → P h → p h ≡ true) → one_is P hs → list_any p hs ≡ true
any_of_one P p [] f o = absurd o
any_of_one P p (x ∷ hs) f o = elim o [ inl h ↦ or_left (p x) (list_any p hs) (f x h) | inr r ↦ or_right (p x) (list_any p hs) (any_of_one P p hs f r) ]

append_in : (xs ys zs : List StandingGrant) → (xs ++ ys) ++ zs ≡ xs ++ (ys ++ zs)
append_in [] ys zs = refl
append_in (x ∷ xs) ys zs = ap (λ r. x ∷ r) (append_in xs ys zs)

depth_next : (d n : ℕ) → d ≡ n + 1 → d ≡ suc n
depth_next d n e = omega (arith, e)

depth_left : (d n : ℕ) → d ≡ suc n → nat_le d greatest_depth ≡ true → n < greatest_depth
depth_left d n e h = grind (arith, nat_tests)

module _ (all : List StandingGrant) where
  -- a chain as long as the grant is deep leads to its grantee
  abbrev led : StandingGrant → Type 0
  led h = (n : ℕ) × (h.depth ≡ suc n) × (n < greatest_depth) × leads all h.id (suc n) h.grantee

  abbrev last : StandingGrant → ℕ → StandingGrant → Type 0
  last h n grant = (same_id h.id grant.id ≡ true) × (grant.grantee ≡ h.grantee) × leads all h.id n grant.grantor

  led_one : (before hs : List StandingGrant) (h : StandingGrant) → before ++ h ∷ hs ≡ all → (n : ℕ) → leads all h.id n h.grantor → leads all h.id (suc n) h.grantee
  led_one before hs h is n l = subst (λ x. one_is (last h n) x) is (one_here (last h n) before hs h (same_id-itself h.id, refl, l))

  -- over the grant that it hangs on
  led_over : (before hs : List StandingGrant) (h : StandingGrant) → before ++ h ∷ hs ≡ all → (b : StandingGrant) → is_child_of h b ≡ true → h.depth ≡ suc b.depth → nat_le h.depth greatest_depth ≡ true → led b → led h
  led_over before hs h is b on next shallow l =
      let front = both_left (same_id h.id b.id && h.grantor == b.grantee) (option_map_or (λ g. g == b.grantor) h.parent false) on in
      let ids : h.id ≡ b.id = same_id-equal h.id b.id (both_left (same_id h.id b.id) (h.grantor == b.grantee) front) in
      let jobs : h.grantor ≡ b.grantee = numbers_equal h.grantor b.grantee (both_right (same_id h.id b.id) (h.grantor == b.grantee) front) in
      let up : leads all h.id (suc l.0) h.grantor = subst (λ x. x) (λ i. leads all (sym ids i) (suc l.0) (sym jobs i)) l.3 in
      let deep : h.depth ≡ suc (suc l.0) = next ∙ ap (λ d. suc d) l.1 in
      (suc l.0, deep, depth_left h.depth (suc l.0) deep shallow, led_one before hs h is (suc l.0) up)

  led_by : (before hs : List StandingGrant) (h : StandingGrant) → before ++ h ∷ hs ≡ all → each led before → (o : Option ℕ) → hangs_right before h o ≡ true → led h
  led_by before hs h is a None e =
      let first : h.grantor ≡ h.id.job.0 = numbers_equal h.grantor h.id.job.0 (both_left (h.grantor == h.id.job.0) (h.depth == 1) e) in
      let depth : h.depth ≡ 1 = numbers_equal h.depth 1 (both_right (h.grantor == h.id.job.0) (h.depth == 1) e) in
      (0, depth, omega arith, led_one before hs h is 0 (sym first))
  led_by before hs h is a (Some g) e =
      let over : StandingGrant → Bool = λ b. is_child_of h b && h.depth == b.depth + 1 in
      let front : Bool = not (h.grantor == h.id.job.0) && nat_le h.depth greatest_depth in
      let b = pick led over before a (both_right front (list_any over before) e) in
      let on = both_left (is_child_of h b.0) (h.depth == b.0.depth + 1) b.1 in
      let next : h.depth ≡ suc b.0.depth = depth_next h.depth b.0.depth (numbers_equal h.depth (b.0.depth + 1) (both_right (is_child_of h b.0) (h.depth == b.0.depth + 1) b.1)) in
      let shallow = both_right (not (h.grantor == h.id.job.0)) (nat_le h.depth greatest_depth) (both_left front (list_any over before) e) in
      led_over before hs h is b.0 on next shallow b.2

  led_from : (before hs : List StandingGrant) → before ++ hs ≡ all → all_stand before hs ≡ true → each led before → each led hs
  led_from before [] is s a = tt
  led_from before (h ∷ hs) is s a =
      let stands = both_left (grant_may_stand before h) (all_stand (before ++ h ∷ []) hs) s in
      let hung = both_right (not (is_no_grantee h.id h.grantor h.grantee) && not (list_any (same_grant h) before)) (is_hung before h) stands in
      let here = led_by before hs h is a h.parent hung in
      (here, led_from (before ++ h ∷ []) hs (append_in before (h ∷ []) hs ∙ is) (both_right (grant_may_stand before h) (all_stand (before ++ h ∷ []) hs) s) (each_last led before h a here))

  seen_at : (id : ObjectId) (job : ℕ) (h : StandingGrant) → shows id job h ≡ true → led h → is_led_to all id job
  seen_at id job h e l =
      let ids : id ≡ h.id = same_id-equal id h.id (both_left (same_id id h.id) (h.grantee == job) e) in
      let jobs : h.grantee ≡ job = numbers_equal h.grantee job (both_right (same_id id h.id) (h.grantee == job) e) in
      (l.0, l.2, subst (λ x. x) (λ i. leads all (sym ids i) (suc l.0) (jobs i)) l.3)

  seen_led : AreGrants all → (id : ObjectId) (job : ℕ) → sees all id job → is_led_to all id job
  seen_led h id job e =
      let at = pick led (shows id job) all (led_from [] all refl h.stand tt) e in
      seen_at id job at.0 at.1 at.2

  led_seen : (id : ObjectId) (job : ℕ) → is_led_to all id job → sees all id job
  led_seen id job l =
      any_of_one (λ grant. (same_id id grant.id ≡ true) × (grant.grantee ≡ job) × leads all id l.0 grant.grantor) (shows id job) all
      (λ h p. both (same_id id h.id) (h.grantee == job) p.0 (eq-eqb h.grantee job p.1)) l.2

  pub seen_where_led : AreGrants all → (id : ObjectId) (job : ℕ) → sees all id job ↔ is_led_to all id job
  seen_where_led h id job = (seen_led h id job, led_seen id job)

  -- one that is such leads to what each such leads to
  from_one : (P : StandingGrant → Type 0) (hs : List StandingGrant) {X : Type 0} → one_is P hs → ((h : StandingGrant) → P h → X) → X
  from_one P [] o f = absurd o
  from_one P (x ∷ hs) o f = elim o [ inl p ↦ f x p | inr r ↦ from_one P hs r f ]

  -- a chain begins with a grant of the object's own job
  begins : (id : ObjectId) (n : ℕ) (job : ℕ) → leads all id (suc n) job → list_any (is_first id) all ≡ true
  begins id zero job l =
      any_of_one (λ grant. (same_id id grant.id ≡ true) × (grant.grantee ≡ job) × leads all id zero grant.grantor) (is_first id) all
      (λ h p. both (same_id id h.id) (h.grantor == id.job.0) p.0 (eq-eqb h.grantor id.job.0 (sym p.2))) l
  begins id (suc n) job l = from_one (λ grant. (same_id id grant.id ≡ true) × (grant.grantee ≡ job) × leads all id (suc n) grant.grantor) all l (λ h p. begins id n h.grantor p.2)

  -- so where a grant of the object stands, its own job gave one
  pub first_stands : AreGrants all → (id : ObjectId) → list_any (λ grant. same_id id grant.id) all ≡ true → list_any (is_first id) all ≡ true
  first_stands h id e =
      let at = pick led (λ grant. same_id id grant.id) all (led_from [] all refl h.stand tt) e in
      let ids : at.0.id ≡ id = sym (same_id-equal id at.0.id at.1) in
      subst (λ i. list_any (is_first i) all ≡ true) ids (begins at.0.id at.2.0 at.0.grantee at.2.3)
