use Rattle.std.proofs.Common.{ap, sym, ◌∙◌}
use Rattle.std.specs.Option.{option_copied}
use Rattle.job_admission.specs.Admissions.{live_at}
use Rattle.job_admission.proofs.Keys.{key_told, key_of_none}
use Rattle.job_admission.proofs.Admission.key_fits.Goals as goal

pub returns-in-Some : goal.returns-in-Some
returns-in-Some c =
    let found = ap (λ a. live_at a c.args.job) (sym c.self.view_is) ∙ sym c.get.ensures.value ∙ ap option_copied c.in-Some.is in
    key_told _ _ c.args.key.now c.are_equal.result found c.are_equal.ensures

pub returns-in-None : goal.returns-in-None
returns-in-None c =
    let none = ap (λ a. live_at a c.args.job) (sym c.self.view_is) ∙ sym c.get.ensures.value ∙ ap option_copied c.in-None.is in
    key_of_none _ c.args.key.now none
