use Rattle.std.proofs.Common.{◌≡◌, ℕ, ◌<◌, ◌≤◌, ◌-◌, true, false, sym, ap, ◌∙◌, arith, ⊎_elim}
use Rattle.std.proofs.lemmas.Bool.{cases_lt}
use Rattle.lru_evictor.specs.Leavings.{fits_first}
use Rattle.lru_evictor.proofs.search.bisect.Goals as goal

pub returns : goal.returns
returns c =
    let kept = c.loop-enough.invariant in
    let fits : ℕ → _ = fits_first c.args.window.now c.args.len c.args.leaving.now in
    let last : fits (c.loop-enough.enough - 1) ≡ false = ⊎_elim
    (λ (lt : c.loop-enough.few < c.loop-enough.enough). let is : c.loop-enough.enough - 1 ≡ c.loop-enough.few = omega (arith, lt, c.loop-enough-test.false) in ap fits is ∙ kept.few)
    (λ (le : c.loop-enough.enough ≤ c.loop-enough.few). let is : c.loop-enough.few ≡ c.loop-enough.enough = omega (arith, le, kept.rising) in let no : true ≡ false = sym kept.enough ∙ ap fits (sym is) ∙ kept.few in absurd cc)
    (cases_lt c.loop-enough.few c.loop-enough.enough) in
    (kept.within, kept.enough, last)
