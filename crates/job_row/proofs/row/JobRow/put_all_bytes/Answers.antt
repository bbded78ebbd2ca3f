use Rattle.std.proofs.Common.{sym, ap, subst, ◌∙◌}
use Rattle.job_region.specs.Region.{Region}
use Rattle.job_row.specs.Row.{place_of, ArePlaced}
use Rattle.job_row.proofs.Places.{written_placed}
use Rattle.job_row.proofs.row.JobRow.put_all_bytes.Goals as goal

pub invariant_of-self : goal.invariant_of-self
invariant_of-self c =
    let places = place_of c.self.inside.copies in
    let lies = ap (λ r. place_of r.copies c.args.id.now) c.self.view_is ∙ sym c.place.ensures ∙ c.in-Some.is in (
      subst (λ (w : Region). ArePlaced w.placed places) (sym c.adopt.ensures)
          (written_placed c.self.inside.window.placed places c.self.invariant.0 c.args.id.now c.in-Some.extent lies c.in-Some-filling.filling
          (c.in-Some-filling.ensures.length ∙ c.bytes_of.ensures.length)),
      c.self.invariant.1,
    )
