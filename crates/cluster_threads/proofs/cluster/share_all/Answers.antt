use Rattle.std.proofs.Common.{arith, ap, ◌∙◌}
use Rattle.cluster_threads.proofs.Seated.{is_first, rest}
use Rattle.cluster_threads.proofs.cluster.share_all.Goals as goal

pub push-requires : goal.push-requires
push-requires g c = ap (λ s. s.number) c.in_ok-counted.ensures ∙ c.new-shared.ensures ∙ is_first _ _ _ _ _ c.in-Some.ensures.steps.0 c.loop-node.invariant.1

pub loop-node-preserved : goal.loop-node-preserved
loop-node-preserved g c =
    (omega (arith, c.in_ok-push.ensures.ok, c.loop-node.invariant.0, c.in-Some.ensures.steps.1), rest _ _ _ _ _ c.in-Some.ensures.steps.0 c.loop-node.invariant.1 _ c.in_ok-push.ensures.ok)
