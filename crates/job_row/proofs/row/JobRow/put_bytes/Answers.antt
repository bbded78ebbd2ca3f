use Rattle.std.proofs.Common.{sym, ap, ◌∙◌}
use Rattle.job_row.specs.Row.{place_of}
use Rattle.job_row.proofs.Places.{write_placed}
use Rattle.job_row.proofs.row.JobRow.put_bytes.Goals as goal

pub invariant_of-self : goal.invariant_of-self
invariant_of-self c = (
  write_placed c.self.inside.window c.write.new.self (place_of c.self.inside.copies) c.self.invariant.0 c.args.id.now c.in-Some.extent
      (ap (λ r. place_of r.copies c.args.id.now) c.self.view_is ∙ sym c.place.ensures ∙ c.in-Some.is)
      c.args.offset c.args.bytes.now c.write.result c.write.ensures.ok c.write.ensures.bounds c.write.ensures.err,
  c.self.invariant.1,
)
