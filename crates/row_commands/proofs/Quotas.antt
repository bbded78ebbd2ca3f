-- A row takes a change of its quota.
use Rattle.std.proofs.Common.{◌≡◌, ℕ, ◌+◌, nat_le, Bool, true, false, not, ◌&&◌, cond, inl, inr, List, [], ◌∷◌, length, Contains, Some, None, refl, sym, ap, ◌∙◌}
use Rattle.std.specs.Prelude.{◌↔◌}
use Rattle.std.specs.List.{list_all}
use Rattle.obj_id.specs.declared.refusals.Refusal.TheVariants.{BadSize, Full, Stale}
use Rattle.obj_id.specs.declared.commands.Reply.TheVariants as reply
use Rattle.obj_id.specs.declared.works.Quota.{Quota}
use Rattle.private_store.specs.declared.inputs.Input.{Input}
use Rattle.private_store.specs.declared.inputs.Input.TheVariants as input
use Rattle.private_store.specs.rules.Change.{done, checked}
use Rattle.private_store.specs.rules.Contents.{Contents, judge}
use Rattle.private_store.specs.rules.Copies.{is_range_within, fits_quota}
use Rattle.private_store.specs.rules.Extents.{end_of}
use Rattle.private_store.specs.rules.Limits.{is_quota}
use Rattle.private_store.specs.rules.Shape.{Shape, Change}
use Rattle.private_store.specs.rules.Step.{step}
use Rattle.store_facts.proofs.Checks.{checked-nil, checked-false}
use Rattle.store_facts.proofs.Tests.{both, both_left, both_right}
use Rattle.job_region.specs.Region.{are_within, extents_of}
use Rattle.lru_evictor.specs.Plans.{extents_in}
use Rattle.lru_evictor.proofs.ForCallers.{reordered-unused}
use Rattle.job_row.specs.Quotas.{fits, refusal_by, row_requota_check, store_check, requoted}
use Rattle.job_row.specs.Row.{Row, copies_of, place_of, ArePlaced}
use Rattle.row_steps.specs.Shown.{seen, IsShown, only, RowStep}
use Rattle.row_steps.proofs.ForCallers.{same_extents, moved, same_bytes, received_stays, device_is}
use Rattle.job_row.proofs.ForCallers.{first_in, later_in, nothing_in, one_of}
use Rattle.row_steps.specs.Beside.{SharedTables, shape_of}

-- ---- lists with the same elements

module _ {X : Type 0} (p : X → Bool) where
  each : (xs : List X) → list_all p xs ≡ true → (x : X) → Contains xs x → p x ≡ true
  each [] all x inside = absurd (nothing_in x inside)
  each (y ∷ xs) all x inside = elim (one_of y x xs inside) [
    | inl same ↦ ap p (sym same) ∙ both_left (p y) (list_all p xs) all
    | inr c ↦ each xs (both_right (p y) (list_all p xs) all) x c
  ]

  of_each : (xs : List X) → ((x : X) → Contains xs x → p x ≡ true) → list_all p xs ≡ true
  of_each [] h = refl
  of_each (y ∷ xs) h = both (p y) (list_all p xs) (h y (first_in y xs)) (of_each xs (λ x c. h x (later_in y x xs c)))

  same_all : (xs ys : List X) → ((x : X) → Contains xs x ↔ Contains ys x) → list_all p xs ≡ list_all p ys
  same_all xs ys same = by (list_all p xs) refl (list_all p ys) refl
    where
      by : (a : Bool) → list_all p xs ≡ a → (b : Bool) → list_all p ys ≡ b → a ≡ b
      by true all true also = refl
      by false some false also = refl
      by true all false some = sym (of_each ys (λ y c. each xs all y ((same y).1 c))) ∙ some
      by false some true all = sym some ∙ of_each xs (λ x c. each ys all x ((same x).0 c))

within-is : (quota : ℕ) (placed : List (ℕ × List ℕ)) → are_within quota placed ≡ list_all (λ e. nat_le (end_of e) quota) (extents_of placed)
within-is quota [] = refl
within-is quota (p ∷ placed) = ap (λ b. nat_le (p.0 + length p.1) quota && b) (within-is quota placed)

-- ---- the check

module _ (row : Row) (beside : SharedTables) (contents : Contents) (h : IsShown row beside contents) (placed : ArePlaced row.window.placed (place_of row.copies)) (quota : Quota) where
  fits-is : fits row quota ≡ fits_quota (shape_of row beside) quota
  fits-is = λ i. window i && nat_le (device_is row beside contents h i) quota.device
    where
      window : are_within quota.window row.window.placed ≡ is_range_within (shape_of row beside) quota.window
      window =
          within-is quota.window row.window.placed
          ∙ same_all (λ e. nat_le (end_of e) quota.window) (extents_of row.window.placed) (extents_in (shape_of row beside)) (same_extents row beside contents h placed)

  pub check-is : row_requota_check row quota ≡ store_check (shape_of row beside) quota
  check-is = ap (λ b. refusal_by b quota) fits-is

-- ---- the step

-- a check that passed
check_passed : (fine fits : Bool) → cond (not fine) (Some BadSize) (cond fits None (Some Full)) ≡ None → (not fine ≡ false) × (not fits ≡ false)
check_passed true true e = (refl, refl)
check_passed true false e = absurd cc
check_passed false fits e = absurd cc

module _ (node : ℕ) (row : Row) (beside : SharedTables) (contents : Contents) (h : IsShown row beside contents) (placed : ArePlaced row.window.placed (place_of row.copies))
    (quota : Quota) (none : row_requota_check row quota ≡ None) where
  abbrev s : Shape
  s = shape_of row beside

  abbrev x : Input
  x = input.Requota quota

  abbrev c : Change
  c = done (record s { quota = quota })

  change_is : step row.order s (judge node (seen row beside contents) x) ≡ c
  change_is =
      let fine = check_passed (is_quota quota) (fits_quota s quota) (sym (check-is row beside contents h placed quota) ∙ none) in
      checked-false s false Stale [] (checked s ((not (is_quota quota), BadSize) ∷ (not (fits_quota s quota), Full) ∷ []) c) refl
      ∙ checked-nil s (checked s ((not (is_quota quota), BadSize) ∷ (not (fits_quota s quota), Full) ∷ []) c)
      ∙ checked-false s (not (is_quota quota)) BadSize ((not (fits_quota s quota), Full) ∷ []) c fine.0
      ∙ checked-false s (not (fits_quota s quota)) Full [] c fine.1
      ∙ checked-nil s c

  pub requota_done : RowStep node row beside contents x (only reply.Ok) (requoted row quota) beside
  requota_done =
      moved node row beside contents h x c change_is (only reply.Ok) (requoted row quota) beside (record {
        shape = refl;
        order = sym (reordered-unused row.order (copies_of row.copies) h.there);
        there = h.there;
        listed = h.listed;
        bytes = λ id k e found lies. same_bytes node row beside contents h x id k e found lies;
        digests = h.digests;
        working = h.working;
        granted = h.granted;
        received = received_stays node row beside contents h x refl;
        reply = refl;
        erased = refl;
      }) refl
