-- What a live store keeps when one copy changes, is dropped, settles or is doomed.
use Rattle.std.proofs.Common.{◌≡◌, ◌≤◌, ◌<◌, Bool, true, false, cond, List, [], ◌∷◌, length, Option, Some, None, is_some, refl, sym, ap, subst, ◌∙◌}
use Rattle.std.specs.Option.{option_map_or}
use Rattle.obj_id.specs.declared.ids.ObjectId.{ObjectId}
use Rattle.obj_id.specs.declared.refusals.Refusal.{Refusal}
use Rattle.std.specs.Prelude.{◌^◌}
use Rattle.obj_id.specs.Ids.{same_id}
use Rattle.private_store.specs.rules.Events.{is_live}
use Rattle.private_store.specs.rules.Limits.{most_copies, most_ended_tasks, is_quota}
use Rattle.private_store.specs.rules.Tables.{ById, at, with_entry}
use Rattle.private_store.specs.rules.Shape.{Copy, Shape, Change, Sending, WorkInFlight, GrantGiven}
use Rattle.private_store.specs.rules.Copies.{in_scope}
use Rattle.private_store.specs.rules.Room.{set_copy, drop_copy}
use Rattle.private_store.specs.rules.Change.{done, checked, needing, sending, settled, doomed, doom}
use Rattle.private_store.specs.rules.Commands.{scoped}
use Rattle.private_store.specs.laws.Invariants.{IsCopyKept, IsScopeKept, has_work, has_grant}
use Rattle.store_facts.proofs.Checks.{checked_has, needing_has}
use Rattle.store_facts.proofs.KeptCopy.{SameFor, IsRowKept, IsAbsentKept, IsBare, IsLoose, tight, is_kept_up}
use Rattle.store_facts.proofs.KeptEach.{settled_row, settled_of_copies}
use Rattle.store_facts.proofs.KeptRows.{AreWorksKept, AreGrantsKept, rows_moved, same_lists, IsRowChange, row_put, row_drop, row_then, row_here, AreRowsKept, rows_changed, IsLiveKept}
use Rattle.store_facts.proofs.Tests.{false_true}

pub with_copies : {store : Shape} → IsLiveKept store → (new : ById Copy) → AreRowsKept store.job store.works store.given store.ended_tasks new → IsLiveKept (record store { copies = new })
with_copies h new r = record { live = h.live; quota = h.quota; rows = r; works = h.works; grants = h.grants; fetches = h.fetches; ended = h.ended }

-- what a live store keeps beside its rows
pub record IsFrameKept (store : Shape) : Type 0 where
  pub live : is_live store ≡ true
  pub quota : is_quota store.quota ≡ true
  pub works : AreWorksKept store.works store.works_asked
  pub grants : AreGrantsKept store.job store.given
  pub fetches : store.fetches_begun < 2 ^ 64
  pub ended : length store.ended_tasks ≤ most_ended_tasks

pub frame_of : {store : Shape} → IsLiveKept store → (new : ById Copy) → IsFrameKept (record store { copies = new })
frame_of h new = record { live = h.live; quota = h.quota; works = h.works; grants = h.grants; fetches = h.fetches; ended = h.ended }

pub in_frame : (store : Shape) (new : ById Copy) → IsFrameKept store → AreRowsKept store.job store.works store.given store.ended_tasks new → IsLiveKept (record store { copies = new })
in_frame store new f r = record { live = f.live; quota = f.quota; rows = r; works = f.works; grants = f.grants; fetches = f.fetches; ended = f.ended }

-- a copy, and the works and grants on it, change, and it goes if it is doomed and nothing keeps it
pub settle_moved : (store : Shape) (id : ObjectId) (copy : Copy) → IsFrameKept store → {old_works : List WorkInFlight} {old_given : List GrantGiven} {copies : ById Copy}
    → AreRowsKept store.job old_works old_given store.ended_tasks copies → IsRowChange most_copies copies id (Some copy) store.copies
    → ((q : ObjectId) → same_id q id ≡ false → SameFor store.works old_works store.given old_given q) → IsLoose store.job store.works store.given store.ended_tasks id copy → IsLiveKept (settled store id)
settle_moved store id copy f {copies = copies} rows c same k =
    let r = settled_row most_copies copies id (IsRowKept store.job store.works store.given store.ended_tasks id) store copy c (λ w g. record { no_work = w; no_grant = λ _. g }) (λ up. tight k up) in
    subst IsLiveKept (sym (settled_of_copies store id).is) (in_frame store (settled store id).copies f (rows_moved rows r.change same r.holds))

module _ {store : Shape} (h : IsLiveKept store) where
  pub put_row : (id : ObjectId) (old copy : Copy) → at store.copies id ≡ Some old → IsRowChange most_copies store.copies id (Some copy) (with_entry store.copies id copy)
  put_row id old copy e = row_put store.copies id copy h.rows.in_order h.rows.few (λ f. false_true (sym (ap is_some e) ∙ f))

  pub keeps_row : (id : ObjectId) (o : Option Copy) (new : ById Copy) → IsRowChange most_copies store.copies id o new → IsRowKept store.job store.works store.given store.ended_tasks id o → IsLiveKept (record store { copies = new })
  keeps_row id o new c r = with_copies h new (rows_changed h.rows c r)

  pub kept_copy : (id : ObjectId) (copy : Copy) → at store.copies id ≡ Some copy → IsCopyKept store.job store.works store.given store.ended_tasks id copy
  kept_copy id copy e = subst (IsRowKept store.job store.works store.given store.ended_tasks id) e (h.rows.each id)

  pub kept_absent : (id : ObjectId) → at store.copies id ≡ None → IsAbsentKept store.job store.works store.given id
  kept_absent id e = subst (IsRowKept store.job store.works store.given store.ended_tasks id) e (h.rows.each id)

  -- a copy changes
  pub set_keeps : (id : ObjectId) (old copy : Copy) → at store.copies id ≡ Some old → IsCopyKept store.job store.works store.given store.ended_tasks id copy → IsLiveKept (set_copy store id copy)
  set_keeps id old copy e k = keeps_row id (Some copy) _ (put_row id old copy e) k

  -- a copy that nothing keeps goes
  pub drop_keeps : (id : ObjectId) → has_work store.works id ≡ false → has_grant store.given id ≡ false → IsLiveKept (drop_copy store id)
  drop_keeps id w g = keeps_row id None _ (row_drop store.copies id h.rows.in_order h.rows.few) (record { no_work = w; no_grant = λ _. g })

  -- a copy changes, and goes if it is doomed and nothing keeps it
  pub settle : (id : ObjectId) (copy : Copy) (new : ById Copy) → IsRowChange most_copies store.copies id (Some copy) new → IsLoose store.job store.works store.given store.ended_tasks id copy → IsLiveKept (settled (record store { copies = new }) id)
  settle id copy new c k = settle_moved (record store { copies = new }) id copy (frame_of h new) h.rows c (λ q _. same_lists store.works store.given q) k

  -- a copy changes, and is doomed
  pub doomed_keeps : (id : ObjectId) (copy : Copy) (new : ById Copy) → IsRowChange most_copies store.copies id (Some copy) new → IsBare store.job store.works store.given id copy → IsScopeKept store.ended_tasks id true copy.borrowers
      → IsLiveKept (doomed (record store { copies = new }) id)
  doomed_keeps id copy new c k s =
      let S : Shape = record store { copies = new } in
      let gone : Copy = record copy { doomed = true } in
      subst (λ o. IsLiveKept (option_map_or (λ x. settled (set_copy S id (record x { doomed = true })) id) o S)) (sym (row_here c))
      (settle id gone (with_entry new id gone) (row_then c (row_put new id gone c.in_order c.few (λ f. false_true (sym (ap is_some (row_here c)) ∙ f))))
      (record { bare = record { own = k.own; form = k.form; marks = k.marks; holds = k.holds; uses = k.uses }; scope = s }))

-- ---- changes

pub record Keeps (c : Change) : Type 0 where
  pub is : IsLiveKept c.shape

pub sending_keeps : (sent : List Sending) (c : Change) → Keeps c → Keeps (sending sent c)
unfolding sending
sending_keeps sent c k = record { is = k.is }

module _ {store : Shape} (h : IsLiveKept store) where
  pub same_keeps : (c : Change) → c.shape ≡ store → Keeps c
  same_keeps c e = record { is = subst IsLiveKept (sym e) h }

  pub checked_keeps : (checks : List (Bool × Refusal)) (rest : Change) → Keeps rest → Keeps (checked store checks rest)
  checked_keeps checks rest k = checked_has Keeps store checks rest (λ r. same_keeps _ refl) k

  -- with the tests, each of which didn't hold
  pub check_keeps : (b : Bool) (r : Refusal) (checks : List (Bool × Refusal)) (rest : Change) → (b ≡ false → Keeps (checked store checks rest)) → Keeps (checked store ((b, r) ∷ checks) rest)
  unfolding checked
  check_keeps true r checks rest k = same_keeps _ refl
  check_keeps false r checks rest k = k refl

  pub checks_keep : (rest : Change) → Keeps rest → Keeps (checked store [] rest)
  unfolding checked
  checks_keep rest k = k

  pub needing_keeps : {X : Type 0} (o : Option X) (r : Refusal) (f : X → Change) → ((x : X) → o ≡ Some x → Keeps (f x)) → Keeps (needing store o r f)
  needing_keeps o r f k = needing_has Keeps store o r f (same_keeps _ refl) k

  pub scoped_keeps : (id : ObjectId) (old copy : Copy) → at store.copies id ≡ Some old → IsBare store.job store.works store.given id copy → IsScopeKept store.ended_tasks id copy.doomed copy.borrowers
      → (copy.doomed ≡ true → is_kept_up store.works store.given id copy ≡ true) → Keeps (scoped store id copy)
  scoped_keeps id old copy e k s d =
      elim (in_scope copy) as (λ b. Keeps (cond b (done (set_copy store id copy)) (doom (set_copy store id copy) id))) [
        | true ↦ record { is = set_keeps h id old copy e (tight (record { bare = k; scope = s }) d) }
        | false ↦ sending_keeps _ _ (record { is = doomed_keeps h id copy _ (put_row h id old copy e) k (record { of_live_task = λ f. false_true f; by_live_tasks = s.by_live_tasks; few_borrowers = s.few_borrowers }) })
      ]
