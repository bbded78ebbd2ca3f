use Rattle.shared_nodes.proofs.shared.SharedNode.post_all.Goals as goal

-- what a step sends comes to an end
pub loop-posted-init : goal.loop-posted-init
loop-posted-init g c = g.met.K.JournaledNode.ends _
