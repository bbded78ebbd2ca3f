-- What is shared of an extent's bytes, beside what is lent of them.
use Rattle.std.proofs.Common.{◌≡◌, ℕ, List, take, Option, Some, None, sym, ap, subst, ◌∙◌}
use Rattle.std.specs.Prelude.{IfSome, option_map}
use Rattle.store_facts.proofs.Tests.{some_value}

-- the beginnings of both are the same
pub lent_alike : (n : ℕ) (lies shared first : Option (List ℕ)) (bytes lent : List ℕ) → first ≡ option_map (take n) shared → IfSome shared (λ all. lies ≡ Some all) → lies ≡ Some bytes → lent ≡ take n bytes
    → IfSome first (λ part. part ≡ lent)
lent_alike n lies None first bytes lent is given value same = subst (λ o. IfSome o (λ part. part ≡ lent)) (sym is) tt
lent_alike n lies (Some all) first bytes lent is given value same =
    subst (λ o. IfSome o (λ part. part ≡ lent)) (sym is) (ap (take n) (some_value all bytes (sym given ∙ value)) ∙ sym same)
