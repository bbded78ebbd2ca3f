use Rattle.cluster_history.proofs.Served.{served_of, grown_prefix}
use Rattle.cluster_history.proofs.sight.Sight.is_served.Goals as goal

pub returns : goal.returns
returns g c =
    rw (← c.self.view_is)
    (served_of _ _ c.self.inside.seen.log (grown_prefix _ _ c.self.inside.seen.log c.learn.new.self.log c.learn.ensures.3 c.learn.ensures.4.1.grown))
