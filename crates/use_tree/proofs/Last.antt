-- The last use that a walk chooses, in two lists and in a tree.
use Rattle.std.proofs.Common.{◌≡◌, ℕ, ◌<◌, ◌≤◌, true, false, ◌&&◌, ◌||◌, List, [], ◌∷◌, ◌++◌, Option, Some, None, refl, sym, ap, ◌∙◌, arith}
use Rattle.std.specs.Prelude.{nat_lt, if◌then◌else◌, is_some}
use Rattle.std.proofs.lemmas.Bool.Decides.{nat_tests}
use Rattle.augmented_tree.specs.declared.Node.{Node}
use Rattle.augmented_tree.specs.Lists.{AllOf}
use Rattle.augmented_tree.specs.Shape.{items}
use Rattle.augmented_tree.proofs.ForCallers.{all_map}
use Rattle.use_tree.specs.declared.classes.VictimClass.{VictimClass}
use Rattle.use_tree.specs.declared.classes.VictimClasses.{VictimClasses}
use Rattle.use_tree.specs.declared.uses.Use.{Use}
use Rattle.use_tree.specs.Classes.{has}
use Rattle.use_tree.specs.Uses.{AreUsesRising, any_chosen, either, last_chosen}

pub either_first : (o p : Option Use) → is_some o ≡ true → either o p ≡ o
either_first (Some x) p h = refl
either_first None p h = cc

pub either_second : (o p : Option Use) → is_some o ≡ false → either o p ≡ p
either_second (Some x) p h = cc
either_second None p h = refl

module _ (k : VictimClass) where
  pub any_both : (xs ys : List Use) → any_chosen k (xs ++ ys) ≡ any_chosen k xs || any_chosen k ys
  any_both [] ys = refl
  any_both (z ∷ zs) ys = elim (has k z.classes) as (λ b. b || any_chosen k (zs ++ ys) ≡ (b || any_chosen k zs) || any_chosen k ys) [
    | true ↦ refl
    | false ↦ any_both zs ys
  ]

  module _ (b : ℕ) where
    either_both : (o p q : Option Use) → either (either o p) q ≡ either o (either p q)
    either_both (Some x) p q = refl
    either_both None p q = refl

    pub last_both : (xs ys : List Use) → last_chosen k b (xs ++ ys) ≡ either (last_chosen k b ys) (last_chosen k b xs)
    last_both [] ys = none_after (last_chosen k b ys)
      where
        none_after : (o : Option Use) → o ≡ either o None
        none_after (Some x) = refl
        none_after None = refl
    last_both (x ∷ xs) ys =
        let last = if nat_lt x.turn b && has k x.classes then Some x else None in
        ap (λ o. either o last) (last_both xs ys) ∙ either_both (last_chosen k b ys) (last_chosen k b xs) last

    -- no use has the choice
    pub last_unchosen : (xs : List Use) → any_chosen k xs ≡ false → last_chosen k b xs ≡ None
    last_unchosen [] h = refl
    last_unchosen (x ∷ xs) h = (elim (has k x.classes) as (λ c. c || any_chosen k xs ≡ false → either (last_chosen k b xs) (if nat_lt x.turn b && c then Some x else None) ≡ None) [
      | true ↦ λ h. cc
      | false ↦ λ h. rw (last_unchosen xs h) (elim (nat_lt x.turn b) as (λ c. (if c && false then Some x else None) ≡ None) [
        | true ↦ refl
        | false ↦ refl
      ])
    ]) h

    -- no use is of a lesser turn
    pub last_above : (xs : List Use) → AllOf (λ x. b ≤ x.turn) xs → last_chosen k b xs ≡ None
    last_above [] h = refl
    last_above (x ∷ xs) h =
        let e : nat_lt x.turn b ≡ false = grind (arith, nat_tests, h.0) in
        rw (last_above xs h.1, e) refl

-- where the last use with a choice is
module _ (k : VictimClass) (b : ℕ) (n : Node Use VictimClasses) (rising : AreUsesRising (n.here ∷ (items n.left ++ items n.right))) where
  abbrev all : Option Use
  all = last_chosen k b (n.here ∷ (items n.left ++ items n.right))

  pub nowhere : b ≤ n.here.turn → all ≡ None
  nowhere le = last_above k b (n.here ∷ (items n.left ++ items n.right)) (le, all_map (λ z. n.here.turn < z.turn) (λ z. b ≤ z.turn) (λ z w. omega (arith, le, w)) (items n.left ++ items n.right) rising.0)

  module _ (low : n.here.turn < b) (right left : Option Use) (right_is : right ≡ last_chosen k b (items n.right)) (left_is : left ≡ last_chosen k b (items n.left)) where
    abbrev at_node : Option Use
    at_node = if has k n.here.classes then Some n.here else None

    parts : all ≡ either (either right left) at_node
    parts =
        let here : nat_lt n.here.turn b ≡ true = grind (arith, nat_tests, low) in
        rw (here, right_is, left_is) (ap (λ o. either o at_node) (last_both k b (items n.left) (items n.right)))

    pub on_right : is_some right ≡ true → right ≡ all
    on_right h = sym (parts ∙ ap (λ o. either o at_node) (either_first right left h) ∙ either_first right at_node h)

    pub on_left : is_some right ≡ false → is_some left ≡ true → left ≡ all
    on_left h h2 = sym (parts ∙ ap (λ o. either o at_node) (either_second right left h) ∙ either_first left at_node h2)

    pub at_the_node : is_some right ≡ false → is_some left ≡ false → at_node ≡ all
    at_the_node h h2 = sym (parts ∙ ap (λ o. either o at_node) (either_second right left h) ∙ either_second left at_node h2)
