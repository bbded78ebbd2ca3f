use Rattle.std.proofs.Common.{refl, sym, ap, ◌∙◌}
use Rattle.lru_evictor.specs.Facts.{info_at}
use Rattle.job_row.specs.InSync.{facts_in}
use Rattle.row_copy.specs.CopyViews.{after_release}
use Rattle.job_row.proofs.Places.{now_placed}
use Rattle.job_row.proofs.FollowsCopies.{one_stays}
use Rattle.job_row.proofs.row.JobRow.release_copy.Goals as goal

pub invariant_of-self-2 : goal.invariant_of-self-2
invariant_of-self-2 c = (
  now_placed c.self.inside.window.placed c.self.inside.copies c.self.invariant.0 (after_release c.args.session) (λ z. refl) c.args.id.now c.release.new.self c.in_ok-released.ensures.ok,
  one_stays (after_release c.args.session) c.args.id.now c.self.inside.copies c.release.new.self c.in_ok-released.ensures.ok c.in_ok-released.released.eviction_info
      (c.in_ok-released.ensures.eviction_info ∙ ap (λ t. info_at (facts_in t) c.args.id.now) (sym c.in_ok-released.ensures.ok))
      c.self.inside.order c.set_info.new.self c.set_info.ensures.infos (λ z. refl) c.self.invariant.1,
)

pub returns-clause-placed : goal.returns-clause-placed
returns-clause-placed c =
    now_placed c.self.inside.window.placed c.self.inside.copies c.self.invariant.0 (after_release c.args.session) (λ z. refl) c.args.id.now c.release.new.self c.in_ok-released.ensures.ok
