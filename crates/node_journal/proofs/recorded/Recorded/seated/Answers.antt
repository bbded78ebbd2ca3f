use Rattle.std.proofs.Common.{◌≡◌, ◌<◌, ℕ, List, [], sym, ap, subst, ◌∙◌}
use Rattle.node_journal.proofs.RecordedSteps.{seated_recorded}
use Rattle.node_journal.proofs.recorded.Recorded.seated.Goals as goal

pub invariant_of-result : goal.invariant_of-result
invariant_of-result g c =
    let new = c.new.ensures in
    let kept = c.new.result in
    let parts = c.into_parts-share.ensures in
    let number = c.requires.number ∙ sym new.number in
    seated_recorded g.S.ClusterShape.nodes g.S.ClusterShape.memory kept.node kept.number kept.count c.into_parts-share.result.1
    (subst (λ n. n < g.S.ClusterShape.nodes) number parts.within)
    (record {
      number = kept.named;
      admissions = new.admissions ∙ ap (λ m. record { memory = m; greatest = 0; live = [] }) c.requires.memory.1;
      works = ap (λ works. works.works) new.works;
      grants = new.grants;
      shows = new.shows;
    })
    new.count
    (parts.place ∙ ap (λ n. (n, [])) number)
