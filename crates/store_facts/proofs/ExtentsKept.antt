-- Each step keeps the extents of a job's store apart from each other and within its window.
use Rattle.std.proofs.Common.{◌≡◌, ℕ, ◌%◌, nat_le, Bool, true, false, ◌==◌, ◌⊎◌, inl, inr, List, [], Option, Some, None, option_map, refl, sym, ap, subst, ◌∙◌}
use Rattle.std.specs.Option.{option_map_or}
use Rattle.obj_id.specs.declared.ids.ObjectId.{ObjectId}
use Rattle.obj_id.specs.declared.works.Extent.{Extent}
use Rattle.obj_id.specs.declared.works.Quota.{Quota}
use Rattle.obj_id.specs.Ids.{same_id}
use Rattle.private_store.specs.declared.inputs.Judged.{Judged}
use Rattle.private_store.specs.rules.Tables.{ById, at}
use Rattle.private_store.specs.rules.Extents.{rounded, end_of}
use Rattle.private_store.specs.rules.Shape.{Copy, Shape, Change, unbegun}
use Rattle.private_store.specs.rules.Copies.{extent_of, is_range_within}
use Rattle.private_store.specs.rules.Step.{step}
use Rattle.private_store.specs.laws.Invariants.{IsShapeKept, AreExtentsKept, is_placed, are_apart}
use Rattle.store_facts.proofs.Tests.{true_false, none_some, both_left, both, or_swaps}
use Rattle.store_facts.proofs.Rows.{IsTame, Tame}
use Rattle.store_facts.proofs.Clearing.{all_extents, extent_at}
use Rattle.store_facts.proofs.Turns.{Stands, nowhere, fresh, same, Turn, calm, spills, puts, requotas, empties, receives, IsTurn}
use Rattle.store_facts.proofs.StepTurns.{step_turn, all_may}
use Rattle.store_facts.proofs.Ids.{same_id-equal, same_id-itself}

-- ---- two extents

apart_back : (x y : Option Extent) → are_apart x y ≡ true → are_apart y x ≡ true
apart_back None None h = refl
apart_back None (Some y) h = refl
apart_back (Some x) None h = refl
apart_back (Some x) (Some y) h = or_swaps (nat_le (end_of x) y.offset) (nat_le (end_of y) x.offset) h

apart_none : (x : Option Extent) → are_apart x None ≡ true
apart_none None = refl
apart_none (Some x) = refl

extent_same : (c d : Copy) → d.length ≡ c.length → d.offset ≡ c.offset → extent_of d ≡ extent_of c
extent_same c d length offset = λ i. option_map (λ o. record { offset = o; length = rounded (length i) }) (offset i)

extent_none : (d : Copy) → d.offset ≡ None → extent_of d ≡ None
extent_none d e = ap (λ o. option_map (λ p. record { offset = p; length = rounded d.length }) o) e

-- ---- the extents of a table

record Fit (window : ℕ) (copies : ById Copy) : Type 0 where
  placed : (id : ObjectId) (copy : Copy) → at copies id ≡ Some copy → option_map_or (is_placed window) (extent_of copy) true ≡ true
  apart : (a b : ObjectId) (x y : Copy) → at copies a ≡ Some x → at copies b ≡ Some y → same_id a b ≡ false → are_apart (extent_of x) (extent_of y) ≡ true

-- the copy has no extent, or the one that it had
abbrev Loses : ById Copy → ObjectId → Copy → Type 0
Loses old id d = (extent_of d ≡ None) ⊎ ((c : Copy) × (at old id ≡ Some c) × (extent_of d ≡ extent_of c))

tame_from : (o : Option Copy) (d : Copy) → Tame o (Some d) → (c : Copy) × (o ≡ Some c) × IsTame c d
tame_from None d h = absurd h
tame_from (Some c) d h = (c, refl, h)

tame_loses : (old : ById Copy) (id : ObjectId) (o : Option Copy) (d : Copy) → o ≡ Some d → Tame (at old id) o → Loses old id d
tame_loses old id o d e h =
    let t = tame_from (at old id) d (subst (Tame (at old id)) e h) in
    let stands = t.2.stands in
    elim stands [
      | inl kept ↦ inr (t.0, t.1, extent_same t.0 d t.2.length kept.0)
      | inr gone ↦ inl (extent_none d gone.0)
    ]

module _ (window : ℕ) (old : ById Copy) (fit : Fit window old) where
  loses_placed : (id : ObjectId) (d : Copy) → Loses old id d → option_map_or (is_placed window) (extent_of d) true ≡ true
  loses_placed id d (inl e) = ap (λ o. option_map_or (is_placed window) o true) e
  loses_placed id d (inr h) = ap (λ o. option_map_or (is_placed window) o true) h.2 ∙ fit.placed id h.0 h.1

  losing_apart : (a b : ObjectId) (x y : Copy) → Loses old a x → Loses old b y → same_id a b ≡ false → are_apart (extent_of x) (extent_of y) ≡ true
  losing_apart a b x y (inl e) h f = ap (λ o. are_apart o (extent_of y)) e
  losing_apart a b x y (inr g) (inl e) f = ap (are_apart (extent_of x)) e ∙ apart_none (extent_of x)
  losing_apart a b x y (inr g) (inr h) f = ap (λ o. are_apart o (extent_of y)) g.2 ∙ ap (are_apart (extent_of g.0)) h.2 ∙ fit.apart a b g.0 h.0 g.1 h.1 f

  losing_fit : (new : ById Copy) → ((id : ObjectId) (d : Copy) → at new id ≡ Some d → Loses old id d) → Fit window new
  losing_fit new loses = record {
    placed = λ id d e. loses_placed id d (loses id d e);
    apart = λ a b x y e g f. losing_apart a b x y (loses a x e) (loses b y g) f;
  }

  -- one extent is new
  module _ (new : ById Copy) (id : ObjectId) (d : Copy) (here : at new id ≡ Some d) (others : (q : ObjectId) (c : Copy) → same_id q id ≡ false → at new q ≡ Some c → Loses old q c)
      (is_in : option_map_or (is_placed window) (extent_of d) true ≡ true) (clear : (q : ObjectId) (c : Copy) → same_id q id ≡ false → at new q ≡ Some c → are_apart (extent_of d) (extent_of c) ≡ true) where
    here_is : (q : ObjectId) (c : Copy) → same_id q id ≡ true → at new q ≡ Some c → extent_of c ≡ extent_of d
    here_is q c t e = ap (λ o. option_map_or extent_of o None) (sym e ∙ ap (at new) (same_id-equal q id t) ∙ here)

    new_placed : (q : ObjectId) (c : Copy) → at new q ≡ Some c → option_map_or (is_placed window) (extent_of c) true ≡ true
    new_placed q c e =
        elim (same_id q id) as (λ b. same_id q id ≡ b → option_map_or (is_placed window) (extent_of c) true ≡ true) [
          | true ↦ λ t. ap (λ o. option_map_or (is_placed window) o true) (here_is q c t e) ∙ is_in
          | false ↦ λ f. loses_placed q c (others q c f e)
        ] refl

    new_apart : (a b : ObjectId) (x y : Copy) → at new a ≡ Some x → at new b ≡ Some y → same_id a b ≡ false → are_apart (extent_of x) (extent_of y) ≡ true
    new_apart a b x y e g f = by_ids (same_id a id) (same_id b id) refl refl
      where
        by_ids : (s t : Bool) → same_id a id ≡ s → same_id b id ≡ t → are_apart (extent_of x) (extent_of y) ≡ true
        by_ids true true s t = true_false (sym f ∙ ap (same_id a) (same_id-equal b id t ∙ sym (same_id-equal a id s)) ∙ same_id-itself a)
        by_ids true false s t = ap (λ o. are_apart o (extent_of y)) (here_is a x s e) ∙ clear b y t g
        by_ids false true s t = apart_back (extent_of y) (extent_of x) (ap (λ o. are_apart o (extent_of x)) (here_is b y t g) ∙ clear a x s e)
        by_ids false false s t = losing_apart a b x y (others a x s e) (others b y t g) f

    new_fit : Fit window new
    new_fit = record { placed = new_placed; apart = new_apart }

-- ---- the turns

fit_along : (old new : Quota) (copies copies' : ById Copy) → copies' ≡ copies → new ≡ old → Fit old.window copies → Fit new.window copies'
fit_along old new copies copies' e q h = subst (λ t. Fit new.window t) (sym e) (subst (λ x. Fit x.window copies) (sym q) h)

empty_fit : (window : ℕ) → Fit window []
empty_fit window = record { placed = λ id copy e. none_some copy e; apart = λ a b x y e g f. none_some x e }

-- another window that no extent reaches past
rewindow : (store : Shape) (window : ℕ) → is_range_within store window ≡ true → Fit store.quota.window store.copies → Fit window store.copies
rewindow store window within fit = record {
  placed = λ id copy e. elim (extent_of copy) as (λ o. extent_of copy ≡ o → option_map_or (is_placed store.quota.window) o true ≡ true → option_map_or (is_placed window) o true ≡ true) [
    | None ↦ λ _ _. refl
    | Some x ↦ λ is h. both (x.offset % 16 == 0) (nat_le (end_of x) window) (both_left (x.offset % 16 == 0) _ h) (all_extents (λ e. nat_le (end_of e) window) store.copies id copy x e is within)
  ] refl (fit.placed id copy e);
  apart = fit.apart;
}

module _ (s : ObjectId → Bool) (store : Shape) (fit : Fit store.quota.window store.copies) where
  put_fit : (copies : ById Copy) (quota : Quota) (id : ObjectId) (d : Copy) → at copies id ≡ Some d → ((q : ObjectId) → same_id q id ≡ false → Tame (at store.copies q) (at copies q)) → Stands s store copies id d → Fit store.quota.window copies
  put_fit copies quota id d here others stands = by_stand stands
    where
      loses : (q : ObjectId) (c : Copy) → same_id q id ≡ false → at copies q ≡ Some c → Loses store.copies q c
      loses q c f e = tame_loses store.copies q (at copies q) c e (others q f)

      settled : Loses store.copies id d → Fit store.quota.window copies
      settled h = losing_fit store.quota.window store.copies fit copies (λ q c e.
          elim (same_id q id) as (λ b. same_id q id ≡ b → Loses store.copies q c) [
            | true ↦ λ t. moved q c t e
            | false ↦ λ f. loses q c f e
          ] refl)
        where
          moved : (q : ObjectId) (c : Copy) → same_id q id ≡ true → at copies q ≡ Some c → Loses store.copies q c
          moved q c t e =
              let is : extent_of c ≡ extent_of d = ap (λ o. option_map_or extent_of o None) (sym e ∙ ap (at copies) (same_id-equal q id t) ∙ here) in
              elim h [ inl gone ↦ inl (is ∙ gone) | inr kept ↦ inr (kept.0, ap (at store.copies) (same_id-equal q id t) ∙ kept.1, is ∙ kept.2) ]

      by_stand : Stands s store copies id d → Fit store.quota.window copies
      by_stand (nowhere none unsealed) = settled (inl (extent_none d none))
      by_stand (same c e length offset state) = settled (inr (c, e, extent_same c d length offset))
      by_stand (fresh offset place unsealed absent is_in clear) =
          let is : extent_of d ≡ Some (extent_at offset d.length) = ap (λ o. option_map (λ p. record { offset = p; length = rounded d.length }) o) place in
          new_fit store.quota.window store.copies fit copies id d here loses (ap (λ o. option_map_or (is_placed store.quota.window) o true) is ∙ is_in) (λ q c f e. ap (λ o. are_apart o (extent_of c)) is ∙ clear q c f e)

  turn_fit : (c : Change) → IsTurn s store c → Fit c.shape.quota.window c.shape.copies
  turn_fit c k = by_turn k.is
    where
      by_turn : Turn s store c.shape.copies c.shape.works c.shape.quota c.shape.received → Fit c.shape.quota.window c.shape.copies
      by_turn (calm q) = subst (λ x. Fit x.window c.shape.copies) (sym q.quota) (losing_fit store.quota.window store.copies fit c.shape.copies (λ id d e. tame_loses store.copies id (at c.shape.copies id) d e (q.row id)))
      by_turn (spills k) = fit_along store.quota c.shape.quota store.copies c.shape.copies k.copies k.quota fit
      by_turn (puts id d k) = subst (λ x. Fit x.window c.shape.copies) (sym k.quota) (put_fit c.shape.copies c.shape.quota id d k.here k.others k.stands)
      by_turn (requotas e w r within) = subst (λ t. Fit c.shape.quota.window t) (sym e) (rewindow store c.shape.quota.window (both_left (is_range_within store c.shape.quota.window) _ within) fit)
      by_turn (empties e r) = subst (λ t. Fit c.shape.quota.window t) (sym e) (empty_fit c.shape.quota.window)
      by_turn (receives t e w q) = fit_along store.quota c.shape.quota store.copies c.shape.copies e q fit

-- extents stay apart, and within the window
pub extents_keep : (order : List ObjectId) (store : Shape) (x : Judged) → IsShapeKept store → AreExtentsKept store → AreExtentsKept (step order store x).shape
extents_keep order store x shape kept =
    let fit = turn_fit (λ _. true) store (record { placed = kept.placed; apart = kept.apart }) (step order store x) (step_turn (λ _. true) store shape order x (all_may store x)) in
    record { placed = fit.placed; apart = fit.apart }

pub unbegun_extents : (job : ℕ) → AreExtentsKept (unbegun job)
unbegun_extents job = record { placed = λ id copy e. none_some copy e; apart = λ a b x y e g f. none_some x e }
