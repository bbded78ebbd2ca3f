use Rattle.std.proofs.Common.{ap, refl, ◌∙◌, rules}
use Rattle.obj_id.specs.Ids.{same_task}
use Rattle.job_row.specs.Counted.{footprint_by}
use Rattle.job_row.specs.Entries.{by_rising_id}
use Rattle.job_row.specs.EndingTasks.{copies_ungranted}
use Rattle.job_row.proofs.Rising.{map_pairs_by_id}
use Rattle.job_row.proofs.Sums.{taken-each}
use Rattle.job_row.proofs.copies.Copies.end_grants.Goals as goal
use Rattle.job_row.proofs.Ungranting.{ended, same_part, ended-rising}

pub invariant_of-self : goal.invariant_of-self
invariant_of-self c =
    taken-each (ended c.args.task) (λ id k. same_part c.args.task footprint_by (λ z. refl) (same_task c.args.task id.task) k) c.self.inside.by_id.entries _ c.self.inside.taken
    (map_pairs_by_id (ended c.args.task) _ _ (λ k v b w f' t. search rules) c.self.inside.by_id.entries _ c.retain.ensures.filtered) c.self.invariant

pub returns : goal.returns
returns c =
    ap by_rising_id (map_pairs_by_id (ended c.args.task) _ _ (λ k v b w f' t. search rules) c.self.inside.by_id.entries _ c.retain.ensures.filtered)
    ∙ ended-rising c.args.task c.self.inside.by_id.entries
    ∙ ap (copies_ungranted c.args.task) c.self.view_is
