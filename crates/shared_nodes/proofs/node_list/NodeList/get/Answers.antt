use Rattle.std.proofs.Common.{rules, length, refl}
use Rattle.std.proofs.lemmas.Option.{slice_get_read}
use Rattle.shared_nodes.proofs.node_list.NodeList.get.Goals as goal

pub returns-in-Some-clause-which : goal.returns-in-Some-clause-which
returns-in-Some-clause-which g c =
    let items = c.args.self.now.nodes.items in
    let node = c.in-Some.node.now in
    c.args.self.now.numbered c.args.number node (slice_get_read items (length items) c.args.number node refl (search rules) (search rules))
