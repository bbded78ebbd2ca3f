-- What a store's copy is once its work is answered, and its marks.
use Rattle.std.proofs.Common.{◌≡◌, ℕ, Bool, true, false, cond, not, ◌&&◌, ◌||◌, Option, Some, None, is_some, is_none, refl, sym, ap, ◌∙◌}
use Rattle.std.specs.Option.{option_map_or}
use Rattle.obj_id.specs.declared.ids.ObjectId.{ObjectId}
use Rattle.obj_id.specs.declared.messages.Digest.{Digest}
use Rattle.obj_id.specs.declared.works.WorkKind.{WorkKind}
use Rattle.obj_id.specs.declared.works.WorkKind.TheVariants.{Write, Read}
use Rattle.obj_id.specs.declared.refusals.Refusal.TheVariants.{Stale}
use Rattle.store_facts.proofs.Ids.{same_id-itself}
use Rattle.private_store.specs.declared.inputs.WorkVerdict.{WorkVerdict}
use Rattle.private_store.specs.declared.inputs.WorkVerdict.TheVariants as work
use Rattle.private_store.specs.rules.Tables.{at}
use Rattle.private_store.specs.rules.Shape.{Copy, Shape, Change, WorkInFlight}
use Rattle.private_store.specs.rules.Marks.{marked, read_mark}
use Rattle.private_store.specs.rules.Copies.{is_idle, is_held, is_granted, is_working}
use Rattle.private_store.specs.rules.Copies as copies
use Rattle.private_store.specs.rules.Room.{set_copy, drop_copy}
use Rattle.private_store.specs.rules.Change.{done, erasing, settled}
use Rattle.private_store.specs.rules.Events.{work_of, without_work, answer}
use Rattle.private_store.specs.rules.Events as events
use Rattle.store_facts.proofs.Checks.{needing-some}
use Rattle.store_facts.proofs.Rows.{at-put_here, at-drop}
use Rattle.store_facts.proofs.Tests.{some_value, none_some}
use Rattle.object_state.specs.Marks.{marks_are_evictable, marks_are_draining, marks_are_spillable, marks_written, marks_read_back}
use Rattle.object_state.specs.Laws.{marks_of, has_failed, marks_answered}

-- what stays of it is as it was
settled_stays : (store : Shape) (id : ObjectId) (copy after : Copy) → at store.copies id ≡ Some copy → at (settled store id).copies id ≡ Some after → copy ≡ after
settled_stays store id copy after e now =
    some_value copy after (by (copy.doomed && is_idle store id copy) (sym (ap (λ o. at (option_map_or (λ c. cond (c.doomed && is_idle store id c) (drop_copy store id) store) o store).copies id) e) ∙ now))
  where
    by : (b : Bool) → at (cond b (drop_copy store id) store).copies id ≡ Some after → Some copy ≡ Some after
    by false k = sym e ∙ k
    by true k = none_some after (sym (at-drop store.copies id id ∙ ap (λ b. cond (not b) (at store.copies id) None) (same_id-itself id)) ∙ k)

read_marks : (copy : Copy) (digest : Option Digest) (verdict : WorkVerdict) → marks_of (marked (read_mark verdict) copy) digest None ≡ marks_read_back (marks_of copy digest (Some Read)) verdict
read_marks copy digest work.Fine = refl
read_marks copy digest work.Failed = refl
read_marks copy digest work.Damaged = refl

module _ (store : Shape) (w : WorkInFlight) (copy after : Copy) (digest : Option Digest) (e : at store.copies w.id ≡ Some copy) where
  written_marks : (verdict : WorkVerdict) → at (events.written store w copy verdict).shape.copies w.id ≡ Some after
      → marks_of after digest None ≡ marks_written (marks_of copy digest (Some Write)) w.number (has_failed verdict)
  written_marks work.Failed now = ap (λ c. marks_of c digest None) (sym (settled_stays (record store { spill_failed = true }) w.id copy after e now))
  written_marks work.Fine now = ap (λ c. marks_of c digest None) (sym (settled_stays (set_copy store w.id (record copy { backed = Some w.number })) w.id (record copy { backed = Some w.number }) after (at-put_here store.copies w.id (record copy { backed = Some w.number })) now))
  written_marks work.Damaged now = ap (λ c. marks_of c digest None) (sym (settled_stays (set_copy store w.id (record copy { backed = Some w.number })) w.id (record copy { backed = Some w.number }) after (at-put_here store.copies w.id (record copy { backed = Some w.number })) now))

  answered_marks : (verdict : WorkVerdict) (writes : Bool)
      → at (cond writes (events.written store w copy verdict) (erasing store (done (settled (set_copy store w.id (marked (read_mark verdict) copy)) w.id)))).shape.copies w.id ≡ Some after
      → marks_of after digest None ≡ cond writes (marks_written (marks_of copy digest (Some Write)) w.number (has_failed verdict)) (marks_read_back (marks_of copy digest (Some Read)) verdict)
  answered_marks verdict true now = written_marks verdict now
  answered_marks verdict false now =
      ap (λ c. marks_of c digest None) (sym (settled_stays (set_copy store w.id (marked (read_mark verdict) copy)) w.id (marked (read_mark verdict) copy) after (at-put_here store.copies w.id (marked (read_mark verdict) copy)) now))
      ∙ read_marks copy digest verdict

pub marks_are_answered : (store : Shape) (number : ℕ) (verdict : WorkVerdict) (w : WorkInFlight) (copy after : Copy) (digest : Option Digest)
    → work_of store number ≡ Some w → at store.copies w.id ≡ Some copy → at (answer store number verdict).shape.copies w.id ≡ Some after
    → marks_of after digest None ≡ marks_answered copy digest w verdict
marks_are_answered store number verdict w copy after digest found e now =
    answered_marks (without_work store number) w copy after digest e verdict w.writes (sym (ap (λ (c : Change). at c.shape.copies w.id) is) ∙ now)
  where
    rest : WorkInFlight → Copy → Change
    rest w copy = cond w.writes (events.written (without_work store number) w copy verdict) (erasing (without_work store number) (done (settled (set_copy (without_work store number) w.id (marked (read_mark verdict) copy)) w.id)))

    is : answer store number verdict ≡ rest w copy
    is = needing-some store (work_of store number) w Stale _ found ∙ needing-some store (at store.copies w.id) copy Stale _ e

-- ---- the words

module _ (store : Shape) (id : ObjectId) (copy : Copy) (digest : Option Digest) where
  pub evictable_same : (working : Option WorkKind) → is_some working ≡ is_working store id → marks_are_evictable (marks_of copy digest working) (is_held copy) (is_granted store id) ≡ copies.is_evictable store id copy
  evictable_same None e = ap (λ b. copies.may_evict copy.state copy.kind copy.backed (not (is_held copy) && not (is_granted store id) && not b)) e
  evictable_same (Some kind) e = ap (λ b. copies.may_evict copy.state copy.kind copy.backed (not (is_held copy) && not (is_granted store id) && not b)) e

  pub passing_same : (working : Option WorkKind) → is_some working ≡ is_working store id → marks_are_draining (marks_of copy digest working) (is_some copy.offset) (is_held copy) (is_granted store id) ≡ copies.is_draining store id copy
  passing_same working e = ap (λ b. copies.may_drain b (is_some copy.offset) (is_held copy) (is_granted store id)) e

  pub spillable_same : (working : Option WorkKind) → is_some working ≡ is_working store id → marks_are_spillable (marks_of copy digest working) (is_held copy) (is_granted store id) ≡ copies.is_spillable store id copy
  spillable_same None e = ap (λ b. copies.may_spill copy.state copy.kind copy.backed copy.doomed (not (is_held copy) && not (is_granted store id) && not b)) e
  spillable_same (Some kind) e = ap (λ b. copies.may_spill copy.state copy.kind copy.backed copy.doomed (not (is_held copy) && not (is_granted store id) && not b)) e
