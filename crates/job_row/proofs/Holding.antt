-- A hold that was asked for of a copy that the map of the copies lends, as the whole map sees it.
use Rattle.std.proofs.Common.{◌≡◌, ℕ, List, Some, None, sym, ap, ◌∙◌}
use Rattle.std.specs.Prelude.{false, IfOk, IfErr, IfSome, IfNone, Ok, Err, Option}
use Rattle.std.specs.declared.result.Result.{Result}
use Rattle.std.specs.Option.{option_map_or}
use Rattle.std.specs.Map.{lookup, set_value}
use Rattle.obj_id.specs.declared.ids.ObjectId.{ObjectId}
use Rattle.obj_id.specs.declared.refusals.Failure.{Failure}
use Rattle.obj_id.specs.Ids.{id_eq}
use Rattle.private_store.specs.rules.Tables.{ById, at}
use Rattle.lru_evictor.specs.Facts.{info_at}
use Rattle.job_row.specs.Entries.{by_rising_id, changed}
use Rattle.job_row.specs.declared.standing.Held.{Held}
use Rattle.job_row.specs.declared.standing.AfterChange.{AfterChange}
use Rattle.row_copy.specs.CopyViews.{CopyView, is_ready, after_hold}
use Rattle.row_copy.specs.Keeping.{is_over}
use Rattle.job_row.specs.Dropping.{is_over_at, after_change}
use Rattle.job_row.specs.Counted.{footprint_by}
use Rattle.job_row.specs.InSync.{facts_in}
use Rattle.row_copy.specs.Holding.{IsUnready, IsHoldRefused}
use Rattle.job_row.specs.Holding.{IsHeldWithInfo, IsHeldAt, IsUnreadyAt, IsHoldRefusedAt}
use Rattle.job_row.proofs.Changes.{written, unwritten, checked_there, checked_absent, at-changed_here}
use Rattle.job_row.proofs.FollowsCopies.{standing_found}

module _ (session : ℕ) (id : ObjectId) (es : List (ObjectId × CopyView)) (now : ById CopyView) (seen : by_rising_id es ≡ now) (x y : CopyView) (found : lookup (id_eq id) es ≡ Some x) (new : List (ObjectId × CopyView)) (set : new ≡ set_value (id_eq id) es y) where
  there : at now id ≡ Some x
  there = checked_there (λ (o : Option CopyView). o) id es now x seen found

  pub held_at : (r : Result (Option Held) Failure) → IfOk r (λ o. IfSome o (λ response. IsHeldWithInfo x session response y)) → IfOk r (λ o. IfSome o (λ response. IsHeldAt now session id response (by_rising_id new)))
  held_at (Ok (Some response)) h =
      let copies = written (after_hold session) id es now seen new x y found h.held.copy set in
      let after : at (by_rising_id new) id ≡ Some y = ap (λ t. at t id) copies ∙ at-changed_here (after_hold session) id now x there ∙ ap Some (sym h.held.copy) in
      record { kept = x; found = there; ready = h.held.ready; passed = h.held.passed; length = h.held.length; eviction_info = h.eviction_info ∙ sym (standing_found (by_rising_id new) id y after); copies = copies }
  held_at (Ok None) h = tt
  held_at (Err e) h = tt

  pub unready_at : (r : Result (Option Held) Failure) → IfOk r (λ o. IfNone o (IsUnready x y)) → IfOk r (λ o. IfNone o (IsUnreadyAt now id (by_rising_id new)))
  unready_at (Ok (Some response)) h = tt
  unready_at (Ok None) h = record { unready = ap (λ (o : Option CopyView). option_map_or (λ k. is_ready k.copy) o false) there ∙ h.unready; same = unwritten (after_hold session) id es now seen new x y found h.same set }
  unready_at (Err e) h = tt

  pub refused_at : (r : Result (Option Held) Failure) → IfErr r (λ failure. IsHoldRefused x failure y) → IfErr r (λ failure. IsHoldRefusedAt now id failure (by_rising_id new))
  refused_at (Ok o) h = tt
  refused_at (Err e) h = record { kept = x; found = there; ready = h.ready; refused = h.refused; late = h.late; same = unwritten (after_hold session) id es now seen new x y found h.same set }

-- a hold takes no bytes
pub taken-held : (session : ℕ) (x y : CopyView) (r : Result (Option Held) Failure) → IfOk r (λ o. IfSome o (λ response. IsHeldWithInfo x session response y)) → IfOk r (λ o. IfNone o (IsUnready x y)) → IfErr r (λ failure. IsHoldRefused x failure y) → footprint_by y ≡ footprint_by x
taken-held session x y (Ok (Some response)) some none refused = ap footprint_by some.held.copy
taken-held session x y (Ok None) some none refused = ap footprint_by none.same
taken-held session x y (Err e) some none refused = ap footprint_by refused.same

-- where there is no copy
pub none_at : (id : ObjectId) (es : List (ObjectId × CopyView)) (now : ById CopyView) (new : List (ObjectId × CopyView)) → by_rising_id es ≡ now → lookup (id_eq id) es ≡ None → new ≡ es → IsUnreadyAt now id (by_rising_id new)
none_at id es now new seen none same = record { unready = checked_absent (λ (o : Option CopyView). option_map_or (λ k. is_ready k.copy) o false) id es now seen none; same = ap by_rising_id same ∙ seen }

-- ---- a change that may be refused

module _ (f : CopyView → CopyView) (id : ObjectId) (now : ById CopyView) (x : CopyView) (found : at now id ≡ Some x) where
  pub standing_after : {E : Type 0} (r : Result AfterChange E) → IfOk r (λ a. a ≡ after_change (f x)) → IfOk r (λ a. a.eviction_info ≡ info_at (facts_in (changed f now id)) id)
  standing_after (Ok a) h = ap (λ a. a.eviction_info) h ∙ sym (standing_found (changed f now id) id (f x) (at-changed_here f id now x found))
  standing_after (Err e) h = tt

  pub over_after : {E : Type 0} (r : Result AfterChange E) → IfOk r (λ a. a ≡ after_change (f x)) → IfOk r (λ a. a.over ≡ is_over_at (changed f now id) id)
  over_after (Ok a) h = ap (λ a. a.over) h ∙ sym (ap (λ o. option_map_or is_over o false) (at-changed_here f id now x found))
  over_after (Err e) h = tt
