use Rattle.std.proofs.Common.{ap, refl, ◌∙◌, rules}
use Rattle.std.proofs.lemmas.Map.Made.{map_same_pairs}
use Rattle.job_row.specs.Entries.{by_rising_id, all_changed}
use Rattle.row_copy.specs.CopyViews.{after_leave}
use Rattle.job_row.proofs.Rising.{changed-rising}
use Rattle.job_row.proofs.Sums.{taken-each}
use Rattle.job_row.proofs.copies.Copies.leave_all.Goals as goal

pub invariant_of-self : goal.invariant_of-self
invariant_of-self c =
    taken-each (λ id. after_leave c.args.session) (λ id k. refl) c.self.inside.by_id.entries _ c.self.inside.taken (map_same_pairs _ (after_leave c.args.session) _ (λ k v b w f' t. search rules) c.self.inside.by_id.entries _ c.retain.ensures.filtered) c.self.invariant

pub returns : goal.returns
returns c =
    ap by_rising_id (map_same_pairs _ (after_leave c.args.session) _ (λ k v b w f' t. search rules) c.self.inside.by_id.entries _ c.retain.ensures.filtered)
    ∙ changed-rising (after_leave c.args.session) c.self.inside.by_id.entries
    ∙ ap (all_changed (after_leave c.args.session)) c.self.view_is
