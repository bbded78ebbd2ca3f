use Rattle.std.proofs.Common.{◌≡◌, length, ap, arith}
use Rattle.std.proofs.lemmas.Bool.Decides.{nat_tests}
use Rattle.job_tests.proofs.Placed.{stays-adopted}
use Rattle.job_tests.proofs.windows.what_is_given_is_taken_over.Goals as goal

pub share-requires : goal.share-requires
share-requires c =
    let long : length c.in_ok-bytes.bytes ≡ c.in_ok-extent.extent.length = grind (arith, nat_tests, c.len.ensures.value, c.if-len-extent.false) in
    stays-adopted _ c.in_ok-extent.extent c.in_ok-bytes.bytes c.in_ok-extent.ensures.there long _ (ap (λ r. r.placed) c.adopt.ensures)
