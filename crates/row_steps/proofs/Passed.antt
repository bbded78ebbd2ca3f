-- What is so of a copy whose command passed its checks.
use Rattle.std.proofs.Common.{◌≡◌, ℕ, ◌+◌, ◌≤◌, nat_lt, Bool, true, false, not, cond, ◌==◌, List, [], ◌∷◌, Option, Some, None, is_some, refl, ap, arith}
use Rattle.std.specs.Option.{option_and_then}
use Rattle.std.proofs.lemmas.Bool.Decides.{nat_tests}
use Rattle.obj_id.specs.declared.ids.ObjectId.{ObjectId}
use Rattle.obj_id.specs.declared.works.Extent.{Extent}
use Rattle.obj_id.specs.declared.refusals.Refusal.{Refusal}
use Rattle.obj_id.specs.declared.refusals.Refusal.TheVariants.{BadSize, Absent}
use Rattle.obj_id.specs.declared.commands.CopyState.{CopyState}
use Rattle.obj_id.specs.declared.commands.CopyState.TheVariants.{Created, Sealed, Restoring, Fetching, Away}
use Rattle.private_store.specs.rules.Limits.{most_bytes}
use Rattle.private_store.specs.rules.Tables.{ById, at}
use Rattle.private_store.specs.rules.Extents.{rounded}
use Rattle.private_store.specs.rules.Shape.{Copy, Fetch}
use Rattle.private_store.specs.rules.Copies.{is_created, is_sealed, extent_of}
use Rattle.private_store.specs.laws.Invariants.{has_extent}
use Rattle.private_store.specs.rules.Commands.{holds_of, is_unsealed, write_checks, seal_checks, read_checks}
use Rattle.private_store.specs.rules.Shared.{first_refusal}
use Rattle.store_facts.proofs.Checks.{Fails}
use Rattle.store_facts.proofs.Tests.{true_false}
use Rattle.row_copy.specs.CopyViews.{CopyView}
use Rattle.job_row.specs.Row.{place_of}
use Rattle.job_row.specs.Checks.{check_at, write_check, seal_check, read_check}
use Rattle.row_copy.specs.Checks.{unless_doomed}

-- a check that passed: the first test failed, and the rest passed
pub past : (b : Bool) (r : Refusal) (rest : Option Refusal) → cond b (Some r) rest ≡ None → (b ≡ false) × (rest ≡ None)
past false r rest e = (refl, e)
past true r rest e = absurd cc

pub there : (f : CopyView → Option Refusal) (r : Refusal) (o : Option CopyView) → ◌≡◌ {A = Option Refusal} (elim o [ None ↦ Some r | Some k ↦ f k ]) None → (k : CopyView) × (o ≡ Some k) × (f k ≡ None)
there f r (Some k) e = (k, refl, e)
there f r None e = absurd cc

-- checks that all passed
pub all_failed : (checks : List (Bool × Refusal)) → first_refusal checks ≡ None → Fails checks
all_failed [] e = tt
all_failed (check ∷ checks) e =
    let first = past check.0 check.1 (first_refusal checks) e in
    (first.0, all_failed checks first.1)

-- those of the id's copy
pub there_all : (copies : ById CopyView) (id : ObjectId) (checks : CopyView → List (Bool × Refusal)) → check_at copies id checks ≡ None → (k : CopyView) × (at copies id ≡ Some k) × Fails (checks k)
there_all copies id checks e =
    let k = there (λ k. first_refusal (checks k)) Absent (at copies id) e in
    (k.0, k.1, all_failed (checks k.0) k.2)

pub not_not : (b : Bool) → not b ≡ false → b ≡ true
not_not true e = refl
not_not false e = absurd cc

pub record IsWritten (copies : ById CopyView) (id : ObjectId) (offset n : ℕ) : Type 0 where
  pub copy : CopyView
  pub found : at copies id ≡ Some copy
  pub created : is_created copy.copy.state ≡ true
  pub within : offset + n ≤ copy.copy.length

pub write_passed : (copies : ById CopyView) (id : ObjectId) (offset n : ℕ) → write_check copies id offset n ≡ None → IsWritten copies id offset n
write_passed copies id offset n e =
    let small = past (nat_lt most_bytes n) BadSize _ e in
    let k = there_all copies id (λ k. unless_doomed k (write_checks k.copy offset n)) small.1 in
    let ends = k.2.1.1.0 in
    record { copy = k.0; found = k.1; created = not_not (is_created k.0.copy.state) k.2.1.0; within = grind (arith, nat_tests, ends) }

pub record IsRead (copies : ById CopyView) (session : ℕ) (id : ObjectId) (offset n : ℕ) : Type 0 where
  pub copy : CopyView
  pub found : at copies id ≡ Some copy
  pub unsealed : is_unsealed copy.copy.state ≡ false
  pub held : (holds_of copy.copy session == 0) ≡ false
  pub within : offset + n ≤ copy.copy.length

pub read_passed : (copies : ById CopyView) (session : ℕ) (id : ObjectId) (offset n : ℕ) → read_check copies session id offset n ≡ None → IsRead copies session id offset n
read_passed copies session id offset n e =
    let small = past (nat_lt most_bytes n) BadSize _ e in
    let k = there_all copies id (λ k. read_checks k.copy session offset n) small.1 in
    let ends = k.2.1.1.0 in
    record { copy = k.0; found = k.1; unsealed = k.2.0; held = k.2.1.0; within = grind (arith, nat_tests, ends) }

pub record IsUnwritten (copies : ById CopyView) (id : ObjectId) : Type 0 where
  pub copy : CopyView
  pub found : at copies id ≡ Some copy
  pub visible : copy.copy.doomed ≡ false
  pub created : is_created copy.copy.state ≡ true

pub seal_passed : (copies : ById CopyView) (id : ObjectId) → seal_check copies id ≡ None → IsUnwritten copies id
seal_passed copies id e =
    let k = there_all copies id (λ k. unless_doomed k (seal_checks k.copy)) e in
    record { copy = k.0; found = k.1; visible = k.2.0; created = not_not (is_created k.0.copy.state) k.2.1.0 }

-- a copy that is resident has a place
pub placed_at : (copy : Copy) → is_some copy.offset ≡ true → (e : Extent) × (extent_of copy ≡ Some e) × (e.length ≡ rounded copy.length)
placed_at copy h = by copy.offset h
  where
    by : (p : Option ℕ) → is_some p ≡ true → (e : Extent) × (extent_of (record copy { offset = p }) ≡ Some e) × (e.length ≡ rounded copy.length)
    by (Some o) h = (record { offset = o; length = rounded copy.length }, refl, refl)
    by None h = absurd cc

pub place_found : (copies : ById CopyView) (id : ObjectId) (k : CopyView) → at copies id ≡ Some k → place_of copies id ≡ extent_of k.copy
place_found copies id k found = ap (λ o. option_and_then (λ kept. extent_of kept.copy) o) found

pub created_resides : (state : CopyState) (fetch : Option Fetch) → is_created state ≡ true → has_extent state fetch ≡ true
created_resides Created fetch e = refl
created_resides Sealed fetch e = true_false e
created_resides Restoring fetch e = true_false e
created_resides Fetching fetch e = true_false e
created_resides Away fetch e = true_false e

pub sealed_resides : (state : CopyState) (fetch : Option Fetch) → is_sealed state ≡ true → has_extent state fetch ≡ true
sealed_resides Created fetch e = true_false e
sealed_resides Sealed fetch e = refl
sealed_resides Restoring fetch e = true_false e
sealed_resides Fetching fetch e = true_false e
sealed_resides Away fetch e = true_false e
