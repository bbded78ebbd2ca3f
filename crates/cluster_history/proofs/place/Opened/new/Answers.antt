use Rattle.std.proofs.Common.{◌≡◌, ℕ, true, subst, sym}
use Rattle.std.specs.Prelude.{replicate, ◌+◌, []}
use Rattle.cluster_history.specs.Rules.{IsKept}
use Rattle.cluster_history.proofs.Served.{blank_kept}
use Rattle.cluster_history.proofs.place.Opened.new.Goals as goal

pub open_row-seen-requires : goal.open_row-seen-requires
open_row-seen-requires g c = (
  subst (λ (n : ℕ). IsKept g.S.ClusterShape.nodes g.S.ClusterShape.memory (replicate (n + 1) (0, true)) []) (sym c.requires) (blank_kept g.S.ClusterShape.nodes g.S.ClusterShape.memory),
  (λ xs. tt),
  c.alone.ensures.1,
)
