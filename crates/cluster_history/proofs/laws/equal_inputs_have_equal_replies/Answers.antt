use Rattle.world_core.proofs.ForCallers.{replies_agree}
use Rattle.cluster_history.proofs.laws.equal_inputs_have_equal_replies.Goals as goal

pub returns : goal.returns
returns c nodes memory other job first second h k same = replies_agree nodes job first second (h.private job) (k.private job) same
