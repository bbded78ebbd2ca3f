use Rattle.std.proofs.Common.{map, sym, ap, subst, ◌∙◌}
use Rattle.std.specs.Map.{keys_of}
use Rattle.private_store.specs.laws.Invariants.{IsOrderOfUse}
use Rattle.use_tree.specs.declared.uses.Use.{Use}
use Rattle.lru_evictor.proofs.Once.{once-distinct, uses-ids}
use Rattle.lru_evictor.proofs.job_order.JobOrder.index.Goals as goal

pub returns-clause-once : goal.returns-clause-once
returns-clause-once c =
    let es = c.self.inside.slots.entries in
    subst IsOrderOfUse (sym (ap (map (λ (u : Use). u.id)) c.self.invariant.1.uses ∙ uses-ids es)) (once-distinct (keys_of es) c.len-count.ensures.valid.0)
