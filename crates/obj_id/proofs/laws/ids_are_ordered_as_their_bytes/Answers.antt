use Rattle.obj_id.proofs.IdOrder.{id_cmp-id_bytes}
use Rattle.obj_id.proofs.laws.ids_are_ordered_as_their_bytes.Goals as goal

pub returns-clause-bytes : goal.returns-clause-bytes
returns-clause-bytes c = id_cmp-id_bytes
