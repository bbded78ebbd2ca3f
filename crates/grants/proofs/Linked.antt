-- What a table of links says of the grants whose links they are.
use Rattle.std.proofs.Common.{◌≡◌, ℕ, Bool, true, false, cond, ◌&&◌, ◌==◌, List, [], ◌∷◌, ◌++◌, Some, None, refl, sym, ap, ◌∙◌, arith}
use Rattle.std.specs.Prelude.{◌||◌, unwrap_or}
use Rattle.std.specs.List.{list_any}
use Rattle.std.specs.Option.{option_map, option_map_or}
use Rattle.std.proofs.lemmas.Bool.Decides.{nat_tests}
use Rattle.std.proofs.lemmas.List.Folds.{list_any-append}
use Rattle.obj_id.specs.Ids.{same_id, id_eq}
use Rattle.store_facts.proofs.Ids.{same_id-id_eq, same_id-flip}
use Rattle.private_store.specs.rules.Grants.{StandingGrant, same_grant, is_child_of}
use Rattle.grants.specs.Back.{job_numbered}
use Rattle.grants.specs.declared.standing.Link.{Link}
use Rattle.grants.specs.Links.{link_of, below_of, same_grant_link, AreLinked}

and_in : (a b c : Bool) → a && (b && c) ≡ (a && b) && c
and_in true b c = refl
and_in false b c = refl

and_last : (a b c : Bool) → a && (c && b) ≡ (a && b) && c
and_last false b c = refl
and_last true true true = refl
and_last true true false = refl
and_last true false true = refl
and_last true false false = refl

and_none : (a : Bool) → (a && false) ≡ false
and_none true = refl
and_none false = refl

any_alike : {X : Type 0} (p q : X → Bool) → ((x : X) → p x ≡ q x) → (xs : List X) → list_any p xs ≡ list_any q xs
any_alike p q h [] = refl
any_alike p q h (x ∷ xs) = λ i. h x i || any_alike p q h xs i

any_none : {X : Type 0} (p : X → Bool) → ((x : X) → p x ≡ false) → (xs : List X) → list_any p xs ≡ false
any_none p h [] = refl
any_none p h (x ∷ xs) = ap (λ b. b || list_any p xs) (h x) ∙ any_none p h xs

equal_either_way : (a b : ℕ) → (a == b) ≡ (b == a)
equal_either_way a b = grind (arith, nat_tests)

link_either_way : (a b : Link) → same_grant_link a b ≡ same_grant_link b a
link_either_way a b = λ i. (sym (same_id-id_eq a.id b.id) ∙ same_id-flip a.id b.id ∙ same_id-id_eq b.id a.id) i && (equal_either_way a.grantor.0 b.grantor.0 i && equal_either_way a.grantee.0 b.grantee.0 i)

abbrev link_at : StandingGrant → ℕ → Link
link_at grant grantor = record { id = grant.id; grantor = job_numbered grantor; grantee = job_numbered grant.grantor }

module _ (grant : StandingGrant) (gone : List StandingGrant) (links : List Link) (linked : AreLinked gone links) where
  pub has_is : list_any (same_grant_link (link_of grant)) links ≡ list_any (same_grant grant) gone
  has_is =
      linked (link_of grant)
      ∙ any_alike (λ h. same_grant_link (link_of grant) (link_of h)) (same_grant grant)
      (λ h. and_in (id_eq grant.id h.id) (grant.grantor == h.grantor) (grant.grantee == h.grantee) ∙ ap (λ b. (b && grant.grantor == h.grantor) && grant.grantee == h.grantee) (sym (same_id-id_eq grant.id h.id))) gone

  pub carries_is : (grantor : ℕ) → grant.parent ≡ Some grantor → list_any (same_grant_link (link_at grant grantor)) links ≡ list_any (is_child_of grant) gone
  carries_is grantor on =
      let link : Link = link_at grant grantor in
      linked link
      ∙ any_alike (λ h. same_grant_link link (link_of h)) (is_child_of grant)
      (λ h. and_last (id_eq grant.id h.id) (grant.grantor == h.grantee) (grantor == h.grantor)
      ∙ (λ i. (sym (same_id-id_eq grant.id h.id) i && grant.grantor == h.grantee) && option_map_or (λ g. g == h.grantor) (sym on i) false)) gone

  pub carries_none : grant.parent ≡ None → false ≡ list_any (is_child_of grant) gone
  carries_none off =
      sym (any_none (is_child_of grant)
      (λ h. ap (λ o. (same_id grant.id h.id && grant.grantor == h.grantee) && option_map_or (λ g. g == h.grantor) o false) off ∙ and_none (same_id grant.id h.id && grant.grantor == h.grantee)) gone)

  -- one more
  pub linked_more : (more : List Link) → ((q : Link) → list_any (same_grant_link q) more ≡ cond (same_grant_link (link_of grant) q) true (list_any (same_grant_link q) links)) → AreLinked (gone ++ grant ∷ []) more
  linked_more more updated q =
      updated q
      ∙ (λ i. cond (link_either_way (link_of grant) q i) true (linked q i))
      ∙ either (same_grant_link q (link_of grant)) (list_any (λ h. same_grant_link q (link_of h)) gone)
      ∙ sym (list_any-append (λ h. same_grant_link q (link_of h)) gone (grant ∷ []))
    where
      either : (a b : Bool) → cond a true b ≡ b || (a || false)
      either true true = refl
      either true false = refl
      either false true = refl
      either false false = refl

  -- by the link of the grant that it hangs on
  pub carries_some : (link : Link) → Some link ≡ below_of grant → list_any (same_grant_link link) links ≡ list_any (is_child_of grant) gone
  carries_some link is =
      (elim grant.parent as (λ o. grant.parent ≡ o → Some link ≡ option_map (λ g. link_at grant g) o → list_any (same_grant_link link) links ≡ list_any (is_child_of grant) gone) [
        | None ↦ λ off e. absurd cc
        | Some grantor ↦ λ on e. ap (λ o. list_any (same_grant_link (unwrap_or o link)) links) e ∙ carries_is grantor on
      ]) refl is

  pub carries_not : None ≡ below_of grant → false ≡ list_any (is_child_of grant) gone
  carries_not is =
      (elim grant.parent as (λ o. grant.parent ≡ o → None ≡ option_map (λ g. link_at grant g) o → false ≡ list_any (is_child_of grant) gone) [
        | None ↦ λ off e. carries_none off
        | Some grantor ↦ λ on e. absurd cc
      ]) refl is
