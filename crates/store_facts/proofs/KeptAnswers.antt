-- The answer of a device work keeps the store.
use Rattle.std.proofs.Common.{◌≡◌, ℕ, Bool, true, false, not, cond, ◌&&◌, ◌||◌, ◌==◌, Option, Some, None, refl, sym, ap, ◌∙◌}
use Rattle.obj_id.specs.declared.commands.Kind.{Kind}
use Rattle.obj_id.specs.declared.commands.CopyState.{CopyState}
use Rattle.obj_id.specs.declared.commands.CopyState.TheVariants.{Sealed, Restoring, Away}
use Rattle.private_store.specs.declared.faults.Fault.{Fault}
use Rattle.private_store.specs.declared.faults.Fault.TheVariants as restore_fault
use Rattle.obj_id.specs.Ids.{same_id}
use Rattle.private_store.specs.declared.inputs.WorkVerdict.{WorkVerdict}
use Rattle.private_store.specs.declared.inputs.WorkVerdict.TheVariants as work
use Rattle.private_store.specs.rules.Limits.{most_copies}
use Rattle.private_store.specs.rules.Tables.{at, ById, with_entry}
use Rattle.private_store.specs.rules.Shape.{Copy, Shape, WorkInFlight}
use Rattle.obj_id.specs.Kinds.{is_primary}
use Rattle.private_store.specs.rules.Marks.{marked, read_mark}
use Rattle.private_store.specs.rules.Copies.{is_sealed, is_away}
use Rattle.private_store.specs.rules.Room.{set_copy}
use Rattle.private_store.specs.rules.Change.{done, erasing, settled}
use Rattle.private_store.specs.rules.Events.{work_of, without_work, written, answer}
use Rattle.private_store.specs.laws.Invariants.{IsCopyKept, IsUseKept, has_extent, has_work, has_read, has_write, has_grant, is_fetching, is_restoring}
use Rattle.store_facts.proofs.KeptCopy.{IsLoose, sealed_is, restoring_is, has_work-split}
use Rattle.store_facts.proofs.KeptLists.{find-any}
use Rattle.store_facts.proofs.KeptRows.{IsRowChange, IsLiveKept, row_same}
use Rattle.store_facts.proofs.KeptWorks.{rest_keep, rest_free, same_rest}
use Rattle.store_facts.proofs.KeptChanges.{no_grant_of, unheld_of}
use Rattle.store_facts.proofs.KeptStore.{IsFrameKept, settle_moved, Keeps, needing_keeps, put_row, kept_copy}
use Rattle.store_facts.proofs.Tests.{false_true, or_false_left, or_false_right, true_false}
use Rattle.store_facts.proofs.Ids.{same_id-itself}

module _ {store : Shape} (h : IsLiveKept store) (number : ℕ) (w : WorkInFlight) (found : work_of store number ≡ Some w) (copy : Copy) (e : at store.copies w.id ≡ Some copy) where
  abbrev rest : Shape
  rest = without_work store number

  frame_rest : (flag : Bool) (new : ById Copy) → IsFrameKept (record rest { copies = new; spill_failed = flag })
  frame_rest flag new = record { live = h.live; quota = h.quota; works = rest_keep store.works store.works_asked number w h.works found; grants = h.grants; fetches = h.fetches; ended = h.ended }

  kept : IsCopyKept store.job store.works store.given store.ended_tasks w.id copy
  kept = kept_copy h w.id copy e

  free : has_work rest.works w.id ≡ false
  free = rest_free store.works store.works_asked number w h.works found

  no_write_left : has_write rest.works w.id ≡ false
  no_write_left = or_false_left (has_write rest.works w.id) (has_read rest.works w.id) (sym (has_work-split rest.works w.id) ∙ free)

  no_read_left : has_read rest.works w.id ≡ false
  no_read_left = or_false_right (has_write rest.works w.id) (has_read rest.works w.id) (sym (has_work-split rest.works w.id) ∙ free)

  -- the copy with the work gone, and then settled
  answered : (flag : Bool) (after : Copy) (new : ById Copy) → IsRowChange most_copies store.copies w.id (Some after) new → IsLoose store.job rest.works store.given store.ended_tasks w.id after
      → IsLiveKept (settled (record rest { copies = new; spill_failed = flag }) w.id)
  answered flag after new c k = settle_moved (record rest { copies = new; spill_failed = flag }) w.id after (frame_rest flag new) h.rows c
      (λ q t. same_rest store.works store.works_asked number w h.works found store.given q t) k

  used : (state : CopyState) (kind : Kind) (backed : Option ℕ) → (has_grant store.given w.id ≡ true → (is_sealed state ≡ true) × (is_primary kind ≡ true)) → is_restoring state ≡ false → IsUseKept rest.works store.given w.id state kind backed
  used state kind backed g r = record { granted = g; spilled = λ t. true_false (sym no_write_left ∙ t); restored = no_read_left ∙ sym r }

  -- ---- a write

  module _ (writes : w.writes ≡ true) where
    spilling : (is_sealed copy.state ≡ true) × (is_primary copy.kind ≡ true) × (copy.backed ≡ None)
    spilling = kept.spilled (find-any (λ x. x.number == number) (λ x. same_id w.id x.id && x.writes) store.works w found (ap (λ b. b && w.writes) (same_id-itself w.id) ∙ writes))

    still : is_restoring copy.state ≡ false
    still = ap is_restoring (sealed_is copy.state spilling.0)

    write_failed : IsLoose store.job rest.works store.given store.ended_tasks w.id copy
    write_failed = record {
      bare = record { own = kept.own; form = kept.form; marks = kept.marks; holds = kept.holds; uses = used copy.state copy.kind copy.backed kept.granted still };
      scope = kept.scope;
    }

    write_done : IsLoose store.job rest.works store.given store.ended_tasks w.id (record copy { backed = Some w.number })
    write_done = record {
      bare = record {
        own = kept.own;
        form = kept.form;
        marks = record { secondary = λ t. false_true (sym spilling.1 ∙ t); away = λ t. ((kept.away t).0, refl); faulty = kept.faulty };
        holds = kept.holds;
        uses = used copy.state copy.kind (Some w.number) kept.granted still;
      };
      scope = kept.scope;
    }

    backed_keeps : Keeps (erasing (set_copy rest w.id (record copy { backed = Some w.number })) (done (settled (set_copy rest w.id (record copy { backed = Some w.number })) w.id)))
    backed_keeps =
        let after : Copy = record copy { backed = Some w.number } in
        record { is = answered store.spill_failed after (with_entry store.copies w.id after) (put_row h w.id copy after e) write_done }

    written_keeps : (verdict : WorkVerdict) → Keeps (written rest w copy verdict)
    written_keeps work.Failed = record { is = answered true copy store.copies (row_same store.copies w.id (Some copy) h.rows.in_order h.rows.few e) write_failed }
    written_keeps work.Fine = backed_keeps
    written_keeps work.Damaged = backed_keeps

  -- ---- a read

  module _ (reads : w.writes ≡ false) where
    coming : copy.state ≡ Restoring
    coming = restoring_is copy.state (sym kept.restored ∙ find-any (λ x. x.number == number) (λ x. same_id w.id x.id && not x.writes) store.works w found (ap (λ b. b && not w.writes) (same_id-itself w.id) ∙ ap not reads))

    no_grant : has_grant store.given w.id ≡ false
    no_grant = no_grant_of copy kept (ap is_sealed coming)

    back : IsLoose store.job rest.works store.given store.ended_tasks w.id (record copy { state = Sealed })
    back = record {
      bare = record {
        own = kept.own;
        form = record {
          resident = kept.resident ∙ ap (λ s. has_extent s copy.fetch) coming;
          in_fetch = kept.in_fetch ∙ ap is_fetching coming;
          fetched = λ t. true_false t;
          gaps = kept.gaps;
          sized = λ _. kept.sized (ap is_fetching coming);
        };
        marks = record { secondary = kept.secondary; away = λ t. true_false t; faulty = λ t. true_false (sym (ap is_away coming) ∙ kept.faulty t) };
        holds = record { held = λ _. refl; sessions = kept.sessions; few_holds = kept.few_holds };
        uses = used Sealed copy.kind copy.backed (λ t. true_false (sym no_grant ∙ t)) refl;
      };
      scope = kept.scope;
    }

    lost : (fault : Fault) → IsLoose store.job rest.works store.given store.ended_tasks w.id (record copy { state = Away; offset = None; fault = Some fault })
    lost fault = record {
      bare = record {
        own = kept.own;
        form = record { resident = refl; in_fetch = kept.in_fetch ∙ ap is_fetching coming; fetched = λ t. true_false t; gaps = kept.gaps; sized = λ _. kept.sized (ap is_fetching coming) };
        marks = record { secondary = kept.secondary; away = λ _. kept.away (ap (λ s. is_away s || is_restoring s) coming); faulty = λ _. refl };
        holds = record { held = λ t. true_false (sym (unheld_of copy kept (ap is_sealed coming)) ∙ t); sessions = kept.sessions; few_holds = kept.few_holds };
        uses = used Away copy.kind copy.backed (λ t. true_false (sym no_grant ∙ t)) refl;
      };
      scope = kept.scope;
    }

    read_loose : (verdict : WorkVerdict) → IsLoose store.job rest.works store.given store.ended_tasks w.id (marked (read_mark verdict) copy)
    read_loose work.Fine = back
    read_loose work.Failed = lost restore_fault.DeviceFailed
    read_loose work.Damaged = lost restore_fault.Damaged

    read_keeps : (verdict : WorkVerdict) → Keeps (erasing rest (done (settled (set_copy rest w.id (marked (read_mark verdict) copy)) w.id)))
    read_keeps verdict =
        let after = marked (read_mark verdict) copy in
        record { is = answered store.spill_failed after (with_entry store.copies w.id after) (put_row h w.id copy after e) (read_loose verdict) }

pub answer_keeps : {store : Shape} → IsLiveKept store → (number : ℕ) (verdict : WorkVerdict) → Keeps (answer store number verdict)
answer_keeps {store} h number verdict =
    needing_keeps h _ _ _ (λ w found. needing_keeps h _ _ _ (λ copy e.
    let rest = without_work store number in
    elim w.writes as (λ b. w.writes ≡ b → Keeps (cond b (written rest w copy verdict) (erasing rest (done (settled (set_copy rest w.id (marked (read_mark verdict) copy)) w.id))))) [
      | true ↦ λ t. written_keeps h number w found copy e t verdict
      | false ↦ λ t. read_keeps h number w found copy e t verdict
    ] refl))
