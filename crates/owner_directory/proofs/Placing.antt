-- An entry put in the place of its node's own.
use Rattle.std.proofs.Common.{◌≡◌, ℕ, ◌==◌, ◌<◌, true, cond, suc, List, ◌∷◌, ◌++◌, length, take, drop, get_or, sym, ap, ◌∙◌, arith, drop-cons}
use Rattle.std.specs.Prelude.{nat_lt}
use Rattle.std.proofs.Math.ListN.{set}
use Rattle.std.proofs.lemmas.Bool.Decides.{nat_tests}
use Rattle.std.proofs.lemmas.List.{take-append-drop, set_at, length-take-le}
use Rattle.obj_id.specs.declared.messages.Location.{Location}
use Rattle.private_store.specs.rules.Directory.{entry_placed}

module _ (new : Location) where
  same_node : (x : Location) (rest : List Location) → x.node ≡ new.node → entry_placed new (x ∷ rest) ≡ new ∷ rest
  same_node x rest e =
      let test : (new.node == x.node) ≡ true = grind (arith, nat_tests, e) in
      ap (λ b. cond b (new ∷ rest) (cond (nat_lt new.node x.node) (new ∷ x ∷ rest) (x ∷ entry_placed new rest))) test

  pub entry_placed-set : (entries : List Location) (at : ℕ) (x : Location) → at < length entries → x ≡ get_or entries at x → x.node ≡ new.node
      → take at entries ++ entry_placed new (drop at entries) ≡ entry_placed new entries → set entries at new ≡ entry_placed new entries
  entry_placed-set entries at x lt is node on =
      let front = take at entries in
      let back = drop (suc at) entries in
      let cut : drop at entries ≡ x ∷ back = drop-cons entries at x lt ∙ ap (λ y. y ∷ back) (sym is) in
      let whole : front ++ x ∷ back ≡ entries = ap (λ ys. front ++ ys) (sym cut) ∙ take-append-drop at entries in
      ap (λ ys. set ys at new) (sym whole)
      ∙ set_at front x back new at (length-take-le at entries (omega (arith, lt)))
      ∙ sym (ap (λ ys. front ++ ys) (ap (entry_placed new) cut ∙ same_node x back node))
      ∙ on
