-- The object of a standing grant is a sealed primary in its own job's window.
use Rattle.std.proofs.Common.{◌≡◌, ℕ, zero, suc, ◌≤◌, true, ◌==◌, ◌&&◌, List, reverse, Option, Some, None, refl, sym, ap, ◌∙◌, arith, eq-eqb}
use Rattle.std.specs.List.{list_any}
use Rattle.obj_id.specs.declared.commands.CopyState.{CopyState}
use Rattle.obj_id.specs.declared.commands.CopyState.TheVariants.{Created, Sealed, Restoring, Fetching, Away}
use Rattle.obj_id.specs.Ids.{same_id}
use Rattle.store_facts.proofs.Ids.{same_id-equal, same_id-itself}
use Rattle.private_store.specs.declared.schedules.Traced.{Traced}
use Rattle.private_store.specs.rules.Tables.{at}
use Rattle.private_store.specs.rules.Shape.{Copy, Shape, Fetch}
use Rattle.private_store.specs.rules.Copies.{is_sealed}
use Rattle.private_store.specs.laws.Invariants.{IsShapeKept, has_grant, has_extent}
use Rattle.private_store.specs.rules.Grants.{StandingGrant, is_given_by}
use Rattle.private_store.specs.rules.Trace.{grants_at, inputs_until}
use Rattle.store_facts.proofs.Tests.{true_false, both, both_left}
use Rattle.grants.specs.Table.{AreGrants, given_by}
use Rattle.run_laws.specs.Ending.{stands}
use Rattle.run_laws.specs.Standing.{ArePrivate}
use Rattle.grants.specs.Private.{as_given}
use Rattle.run_laws.specs.Held.{IsHeldOnTo, HoldsOn}
use Rattle.run_laws.proofs.WhatEnds.{hung, on_nothing, on, any_of, at_most_three}
use Rattle.run_laws.proofs.Halves.{HasHalves}
use Rattle.grants.proofs.ForCallers.{any_map, any_filter}
use Rattle.run_laws.proofs.StoresKept.{store_kept}
use Rattle.run_laws.proofs.Histories.{stand_of}

no_depth : (d b : ℕ) → d ≡ suc b → d ≤ 0 → ⊥
no_depth d b e h = omega (arith, e, h)

less_deep : (d b n : ℕ) → d ≡ suc b → d ≤ suc n → b ≤ n
less_deep d b n e h = omega (arith, e, h)

one_deep : (d : ℕ) → d ≡ 1 → d ≤ 0 → ⊥
one_deep d e h = omega (arith, e, h)

-- what a grant hangs on leads to a grant from the object's own job
root : (grants : List StandingGrant) → AreGrants grants → (n : ℕ) (h : StandingGrant) → stands h grants → h.depth ≤ n → (r : StandingGrant) × stands r grants × (r.grantor ≡ h.id.job.0) × (r.id ≡ h.id)
root grants table zero h a d =
    elim (hung grants table h a) [
      | on_nothing f e none ↦ absurd (one_deep h.depth e d)
      | on b at o e s ↦ absurd (no_depth h.depth b.depth e d)
    ]
root grants table (suc n) h a d =
    elim (hung grants table h a) [
      | on_nothing f e none ↦ (h, a, f, refl)
      | on b at o e s ↦
          (let r = root grants table n b at (less_deep h.depth b.depth n e d) in
          let ids : b.id ≡ h.id = sym (same_id-equal h.id b.id (both_left (same_id h.id b.id) (h.grantor == b.grantee) (both_left (same_id h.id b.id && h.grantor == b.grantee) _ o))) in
          (r.0, r.1, r.2 ∙ ap (λ i. i.job.0) ids, r.3 ∙ ids))
    ]

-- the own job's store has given the object away
pub was_given : (grants : List StandingGrant) → AreGrants grants → (h : StandingGrant) → stands h grants → (own : Shape) → HasHalves h.id.job.0 grants own → has_grant own.given h.id ≡ true
was_given grants table h a own fits =
    let r = root grants table 3 h a (at_most_three grants table h a) in
    ap (list_any (λ g. same_id h.id g.id)) fits.given
    ∙ any_map as_given (λ g. same_id h.id g.id) (given_by h.id.job.0 grants)
    ∙ any_filter (λ g. same_id h.id g.id) (is_given_by h.id.job.0) grants
    ∙ any_of (λ g. g.grantor == h.id.job.0 && same_id h.id g.id) r.0 grants r.1
    (both (r.0.grantor == h.id.job.0) (same_id h.id r.0.id) (eq-eqb r.0.grantor h.id.job.0 r.2) (ap (same_id h.id) r.3 ∙ same_id-itself h.id))

extent_of_sealed : (state : CopyState) (fetch : Option Fetch) → is_sealed state ≡ true → has_extent state fetch ≡ true
extent_of_sealed Created fetch s = refl
extent_of_sealed Sealed fetch s = refl
extent_of_sealed Restoring fetch s = refl
extent_of_sealed Fetching fetch s = true_false s
extent_of_sealed Away fetch s = true_false s

pub held : (own : Shape) (h : StandingGrant) → IsShapeKept own → own.job ≡ h.id.job.0 → has_grant own.given h.id ≡ true → IsHeldOnTo own h
held own h kept job given = by_row (at own.copies h.id) refl
  where
    by_row : (o : Option Copy) → at own.copies h.id ≡ o → IsHeldOnTo own h
    by_row None e = true_false (sym (kept.grants_of_copies h.id (sym job) e) ∙ given)
    by_row (Some copy) e =
        let k = kept.each h.id copy e in
        let s = k.granted given in
        record { copy = copy; here = e; sealed = s.0; primary = s.1; resident = k.resident ∙ extent_of_sealed copy.state copy.fetch s.0 }

pub holds_on : (nodes node : ℕ) (trace : List Traced) → ArePrivate nodes trace → HoldsOn nodes node trace
holds_on nodes node trace h =
    let stand = stand_of nodes trace h in
    record {
      each = λ grant a own is.
          let fits = stand.fit node grant.id.job.0 own is in
          held own.shape grant (store_kept grant.id.job.0 nodes (inputs_until nodes grant.id.job.0 (reverse trace)) node own is).kept.shape fits.job (was_given (grants_at node (reverse trace)) (stand.table node) grant a own.shape fits);
    }
