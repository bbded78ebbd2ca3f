use Rattle.std.proofs.Common.{ap}
use Rattle.job_tests.proofs.Placed.{no_err, stays-written}
use Rattle.job_tests.proofs.windows.write.Goals as goal

pub returns : goal.returns
returns c = record {
  stays = λ e was. stays-written c.args.window.now.placed e was c.args.extent.now c.args.off c.args.bytes.now c.requires (λ past. no_err _ _ (c.in_ok-write.ensures.bounds.1 past)) _ (ap (λ r. r.placed) c.in_ok-write.ensures.ok);
}
