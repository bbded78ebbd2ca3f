-- What tells a grant from all others that stand.
use Rattle.std.specs.Prelude.{◌≡◌, Bool, true, not, [], ◌∷◌, ◌&&◌, ◌==◌, List, Option}
use Rattle.std.specs.Option.{option_map}
use Rattle.std.specs.List.{list_any}
use Rattle.obj_id.specs.Ids.{id_eq}
use Rattle.private_store.specs.rules.Grants.{StandingGrant, same_grant}
use Rattle.grants.specs.Back.{job_numbered}
use Rattle.grants.specs.declared.standing.Link.{Link}
use Rattle.grants.specs.declared.standing.Rank.{Rank}

abbrev pub link_of : StandingGrant → Link
link_of grant = record { id = grant.id; grantor = job_numbered grant.grantor; grantee = job_numbered grant.grantee }

-- that of the grant that it hangs on
abbrev pub below_of : StandingGrant → Option Link
below_of grant = option_map (λ grantor. record { id = grant.id; grantor = job_numbered grantor; grantee = job_numbered grant.grantor }) grant.parent

abbrev pub same_grant_link : Link → Link → Bool
same_grant_link a b = id_eq a.id b.id && (a.grantor.0 == b.grantor.0 && a.grantee.0 == b.grantee.0)

-- the links are those of the grants
abbrev pub AreLinked : List StandingGrant → List Link → Type 0
AreLinked grants links = (q : Link) → list_any (same_grant_link q) links ≡ list_any (λ grant. same_grant_link q (link_of grant)) grants

-- ---- the order in which ends are announced

abbrev pub rank_of : StandingGrant → Rank
rank_of grant = record { depth = grant.depth; id = grant.id; grantor = job_numbered grant.grantor; grantee = job_numbered grant.grantee }

-- no two are the same
abbrev pub links_are_apart : List StandingGrant → Bool
links_are_apart [] = true
links_are_apart (grant ∷ grants) = not (list_any (same_grant grant) grants) && links_are_apart grants
