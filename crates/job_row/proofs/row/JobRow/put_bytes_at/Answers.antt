use Rattle.std.proofs.Common.{sym, subst}
use Rattle.job_region.specs.Region.{IsAt}
use Rattle.job_row.specs.Row.{Row, place_of}
use Rattle.job_row.proofs.Places.{placed_among, write_placed}
use Rattle.job_row.proofs.row.JobRow.put_bytes_at.Goals as goal

pub write-requires : goal.write-requires
write-requires c = subst (λ (r : Row). IsAt c.in-Some.extent r.window.placed) (sym c.self.view_is) (c.requires c.in-Some.extent c.in-Some.is)

pub invariant_of-self : goal.invariant_of-self
invariant_of-self c =
    let there = subst (λ (r : Row). IsAt c.in-Some.extent r.window.placed) (sym c.self.view_is) (c.requires c.in-Some.extent c.in-Some.is) in
    let own = c.self.invariant.0.owned c.in-Some.extent (placed_among c.self.inside.window.placed c.in-Some.extent there) in (
      write_placed c.self.inside.window c.write.new.self (place_of c.self.inside.copies) c.self.invariant.0 own.0 c.in-Some.extent own.1
          c.args.offset c.args.bytes.now c.write.result c.write.ensures.ok c.write.ensures.bounds c.write.ensures.err,
      c.self.invariant.1,
    )
