use Rattle.std.proofs.Common.{◌≡◌, List, [], ◌∷◌, map, filter, refl, ap, ◌∙◌}
use Rattle.spill_work.specs.declared.queue.Queued.{Queued}
use Rattle.spill_work.specs.Line.{WorkLine, is_of, shown, works_of}
use Rattle.spill_work.proofs.Works.asked_of.Goals as goal

each_shown : (works : List Queued) → map shown (map (λ (work : Queued). work.asked) works) ≡ map (λ (work : Queued). shown work.asked) works
each_shown [] = refl
each_shown (work ∷ works) = ap (λ r. shown work.asked ∷ r) (each_shown works)

pub returns : goal.returns
returns c =
    ap (map shown) c.in_ok-asked_of.ensures
    ∙ each_shown (filter (is_of c.args.job) c.self.inside.line)
    ∙ ap (λ (line : WorkLine). works_of line c.args.job) c.self.view_is
