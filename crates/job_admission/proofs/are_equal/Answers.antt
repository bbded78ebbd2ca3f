use Rattle.std.proofs.Common.{below_more, ap, arith, get_or, sym, ◌∙◌}
use Rattle.std.proofs.lemmas.Grind.{same_number_lists}
use Rattle.std.proofs.lemmas.Bool.Decides.{nat_tests}
use Rattle.job_admission.proofs.Keys.{no_difference, same_byte}
use Rattle.job_admission.proofs.are_equal.Goals as goal

pub loop-i-preserved : goal.loop-i-preserved
loop-i-preserved c = record {
  none = λ h. let parts = no_difference _ _ _ h in below_more _ _ (c.loop-i.invariant.none parts.0) parts.1;
  same = λ e. same_byte _ _ _ (c.loop-i.invariant.same e) (ap (λ xs. get_or xs c.loop-i.i 0) e);
}

pub returns : goal.returns
returns c = (
  λ t. same_number_lists c.args.key.now c.args.shown.now (c.told-key ∙ sym c.told-shown) (λ k lt. c.loop-i.invariant.none (grind (arith, nat_tests, t)) k (omega (arith, lt, c.told-key))),
  λ e. let zero = c.loop-i.invariant.same e in grind (arith, nat_tests, zero),
)
