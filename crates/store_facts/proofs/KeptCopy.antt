-- What a copy keeps while it changes, and a row of the table, which is a copy or none.
use Rattle.std.proofs.Common.{◌≡◌, ℕ, Bool, true, false, not, ◌&&◌, ◌||◌, List, [], ◌∷◌, Option, Some, None, refl, sym, ap, ◌∙◌, is_none}
use Rattle.obj_id.specs.declared.ids.ObjectId.{ObjectId}
use Rattle.obj_id.specs.declared.ids.TaskNo.{TaskNo}
use Rattle.obj_id.specs.declared.commands.Kind.{Kind}
use Rattle.obj_id.specs.declared.commands.CopyState.{CopyState}
use Rattle.obj_id.specs.declared.commands.CopyState.TheVariants.{Created, Sealed, Restoring, Fetching, Away}
use Rattle.obj_id.specs.Ids.{same_id}
use Rattle.private_store.specs.rules.Shape.{Copy, WorkInFlight, GrantGiven}
use Rattle.private_store.specs.rules.Copies.{is_sealed, is_created}
use Rattle.private_store.specs.laws.Invariants.{IsFormKept, AreMarksKept, AreHoldsKept, IsUseKept, IsScopeKept, IsCopyKept, are_held, has_work, has_read, has_write, has_grant, is_restoring, is_fetching}
use Rattle.store_facts.proofs.Tests.{both_left, both_right, not_true, passed, true_false}

-- ---- options

pub none_of : {A : Type 0} (o : Option A) → is_none o ≡ true → o ≡ None
none_of None e = refl
none_of (Some x) e = true_false e

-- ---- states

pub sealed_is : (s : CopyState) → is_sealed s ≡ true → s ≡ Sealed
sealed_is Sealed e = refl
sealed_is Created e = true_false e
sealed_is Restoring e = true_false e
sealed_is Fetching e = true_false e
sealed_is Away e = true_false e

pub created_is : (s : CopyState) → is_created s ≡ true → s ≡ Created
created_is Created e = refl
created_is Sealed e = true_false e
created_is Restoring e = true_false e
created_is Fetching e = true_false e
created_is Away e = true_false e

pub fetching_is : (s : CopyState) → is_fetching s ≡ true → s ≡ Fetching
fetching_is Fetching e = refl
fetching_is Created e = true_false e
fetching_is Sealed e = true_false e
fetching_is Restoring e = true_false e
fetching_is Away e = true_false e

pub restoring_is : (s : CopyState) → is_restoring s ≡ true → s ≡ Restoring
restoring_is Restoring e = refl
restoring_is Created e = true_false e
restoring_is Sealed e = true_false e
restoring_is Fetching e = true_false e
restoring_is Away e = true_false e

-- idle, as a test of three
pub not_idle : (a b c : Bool) → not a && not b && not c ≡ false → a || b || c ≡ true
not_idle true b c e = refl
not_idle false true c e = refl
not_idle false false c e = passed c e

pub idle_held : (a b c : Bool) → not a && not b && not c ≡ true → a ≡ false
idle_held a b c e = not_true a (both_left (not a) (not b) (both_left _ (not c) e))

pub idle_granted : (a b c : Bool) → not a && not b && not c ≡ true → b ≡ false
idle_granted a b c e = not_true b (both_right (not a) (not b) (both_left _ (not c) e))

pub idle_working : (a b c : Bool) → not a && not b && not c ≡ true → c ≡ false
idle_working a b c e = not_true c (both_right (not a && not b) (not c) e)

-- ---- what stands on an id, in other lists

pub record SameFor (works old_works : List WorkInFlight) (given old_given : List GrantGiven) (id : ObjectId) : Type 0 where
  pub work : has_work works id ≡ has_work old_works id
  pub write : has_write works id ≡ has_write old_works id
  pub read : has_read works id ≡ has_read old_works id
  pub grant : has_grant given id ≡ has_grant old_given id

pub has_work-split : (works : List WorkInFlight) (id : ObjectId) → has_work works id ≡ has_write works id || has_read works id
has_work-split [] id = refl
has_work-split (w ∷ works) id = ap (λ b. same_id id w.id || b) (has_work-split works id) ∙ split (same_id id w.id) w.writes (has_write works id) (has_read works id)
  where
    split : (a w x y : Bool) → a || (x || y) ≡ ((a && w) || x) || ((a && not w) || y)
    split true true x y = refl
    split true false true y = refl
    split true false false y = refl
    split false w x y = refl

-- ---- a copy without regard to its doom and to tasks

pub record IsBare (job : ℕ) (works : List WorkInFlight) (given : List GrantGiven) (id : ObjectId) (copy : Copy) : Type 0 where
  pub own : id.job.0 ≡ job
  pub form : IsFormKept copy.state copy.kind copy.length copy.offset copy.fetch
  pub marks : AreMarksKept copy.state copy.kind copy.pinned copy.borrowers copy.backed copy.fault
  pub holds : AreHoldsKept copy.state copy.holds
  pub uses : IsUseKept works given id copy.state copy.kind copy.backed

-- a copy that may be doomed with nothing to keep it
pub record IsLoose (job : ℕ) (works : List WorkInFlight) (given : List GrantGiven) (ended : List TaskNo) (id : ObjectId) (copy : Copy) : Type 0 where
  pub bare : IsBare job works given id copy
  pub scope : IsScopeKept ended id copy.doomed copy.borrowers

abbrev pub is_kept_up : List WorkInFlight → List GrantGiven → ObjectId → Copy → Bool
is_kept_up works given id copy = are_held copy.holds || has_grant given id || has_work works id

module _ {job : ℕ} {works : List WorkInFlight} {given : List GrantGiven} {id : ObjectId} {copy : Copy} where
  pub bare : {ended : List TaskNo} → IsCopyKept job works given ended id copy → IsBare job works given id copy
  bare h = record { own = h.own; form = h.form; marks = h.marks; holds = h.holds; uses = h.uses }

  pub tight : {ended : List TaskNo} → IsLoose job works given ended id copy → (copy.doomed ≡ true → is_kept_up works given id copy ≡ true) → IsCopyKept job works given ended id copy
  tight h d = record { own = h.bare.own; form = h.bare.form; marks = h.bare.marks; holds = h.bare.holds; uses = h.bare.uses; scope = h.scope; doomed = d }

-- ---- rows

-- of an object without a copy no work is in flight, and of an own one no grant stands
pub record IsAbsentKept (job : ℕ) (works : List WorkInFlight) (given : List GrantGiven) (id : ObjectId) : Type 0 where
  pub no_work : has_work works id ≡ false
  pub no_grant : id.job.0 ≡ job → has_grant given id ≡ false

abbrev pub IsRowKept : ℕ → List WorkInFlight → List GrantGiven → List TaskNo → ObjectId → Option Copy → Type 0
IsRowKept job works given ended id None = IsAbsentKept job works given id
IsRowKept job works given ended id (Some copy) = IsCopyKept job works given ended id copy

module _ (job : ℕ) {works old_works : List WorkInFlight} {given old_given : List GrantGiven} (ended : List TaskNo) {id : ObjectId} (same : SameFor works old_works given old_given id) where
  pub use_carried : (state : CopyState) (kind : Kind) (backed : Option ℕ) → IsUseKept old_works old_given id state kind backed → IsUseKept works given id state kind backed
  use_carried state kind backed h = record { granted = λ e. h.granted (sym same.grant ∙ e); spilled = λ e. h.spilled (sym same.write ∙ e); restored = same.read ∙ h.restored }

  pub copy_carried : (copy : Copy) → IsCopyKept job old_works old_given ended id copy → IsCopyKept job works given ended id copy
  copy_carried copy h = record {
    own = h.own;
    form = h.form;
    marks = h.marks;
    holds = h.holds;
    uses = use_carried copy.state copy.kind copy.backed h.uses;
    scope = h.scope;
    doomed = λ e. ap (λ b. are_held copy.holds || b || has_work works id) same.grant ∙ ap (λ b. are_held copy.holds || has_grant old_given id || b) same.work ∙ h.doomed e;
  }

  pub row_carried : (o : Option Copy) → IsRowKept job old_works old_given ended id o → IsRowKept job works given ended id o
  row_carried None h = record { no_work = same.work ∙ h.no_work; no_grant = λ e. same.grant ∙ h.no_grant e }
  row_carried (Some copy) h = copy_carried copy h
