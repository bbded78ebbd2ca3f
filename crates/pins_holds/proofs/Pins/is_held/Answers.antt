use Rattle.std.proofs.Common.{◌≡◌, ◌∷◌, [], not, refl, ap, ◌∙◌}
use Rattle.std.specs.Prelude.{false, true, Bool, List}
use Rattle.std.proofs.Common.{ℕ}
use Rattle.private_store.specs.laws.Invariants.{are_held}
use Rattle.pins_holds.specs.Pinned.{pins_are_held}
use Rattle.pins_holds.proofs.Pins.is_held.Goals as goal

held_is : (holds : List (ℕ × ℕ)) → not (not (are_held holds)) ≡ elim holds as (λ _. Bool) [ [] ↦ false | _ ∷ _ ↦ true ]
held_is [] = refl
held_is (e ∷ es) = refl

pub returns-clause-held : goal.returns-clause-held
returns-clause-held c = ap not c.is_empty.ensures ∙ held_is c.self.inside.holds ∙ ap pins_are_held c.self.view_is
