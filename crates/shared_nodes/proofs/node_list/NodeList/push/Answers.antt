use Rattle.std.proofs.Common.{rules, ◌≡◌, length, vec_len, ◌∙◌}
use Rattle.shared_nodes.proofs.Numbered.{pushed}
use Rattle.shared_nodes.proofs.node_list.NodeList.push.Goals as goal

pub invariant_of-self : goal.invariant_of-self
invariant_of-self g c =
    let old = c.args.self.now in
    let all : vec_len old.nodes ≡ length old.nodes.items = search rules in
    record { numbered = pushed _ old.nodes.items c.push.new.list.items c.args.node c.push.result old.numbered (c.requires ∙ all) c.push.ensures.items }
