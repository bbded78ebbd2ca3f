use Rattle.std.proofs.Common.{◌≡◌, ◌+◌, [], take, sym, ap, ◌∙◌, false}
use Rattle.std.specs.Option.{option_map}
use Rattle.extent_tree.specs.Residents.{has_gap}
use Rattle.lru_evictor.specs.Spilling.{leaves_gap, marked_draining, unmarked}
use Rattle.lru_evictor.proofs.Needed.{found_at_once}
use Rattle.lru_evictor.proofs.Spills.{none-marked, goes-marked, marked-back, shortest-nothing, count-next}
use Rattle.lru_evictor.proofs.spilling.+count_spills.Goals as goal

pub returns-then-has_gap-clause-count : goal.returns-then-has_gap-clause-count
returns-then-has_gap-clause-count g t c =
    let facts = g.C.CopyLookup.facts c.args.copies.now in
    found_at_once (leaves_gap c.args.gap facts c.args.residents.now) c.args.candidates.now c.has_gap.result
    (c.has_gap.ensures ∙ ap (has_gap c.args.gap.quota c.args.gap.need) c.span.ensures.span ∙ none-marked c.args.gap facts c.args.residents.now) c.if-has_gap.true

pub returns-in_err-id-clause-count : goal.returns-in_err-id-clause-count
returns-in_err-id-clause-count g t c =
    let facts = g.C.CopyLookup.facts c.args.copies.now in
    let bad : leaves_gap c.args.gap facts c.args.residents.now [] ≡ false = sym (c.has_gap.ensures ∙ ap (has_gap c.args.gap.quota c.args.gap.need) c.span.ensures.span ∙ none-marked c.args.gap facts c.args.residents.now) ∙ c.if-has_gap.false in
    ap (option_map (λ k. take k c.args.candidates.now)) c.from_residual.ensures
    ∙ shortest-nothing (leaves_gap c.args.gap facts c.args.residents.now) c.args.candidates.now c.in_err-id.ensures.steps.0 bad

pub returns-in_err-others-clause-count : goal.returns-in_err-others-clause-count
returns-in_err-others-clause-count g t c =
    let facts = g.C.CopyLookup.facts c.args.copies.now in
    let residents = c.args.residents.now in
    let bad : leaves_gap c.args.gap facts residents [] ≡ false = sym (c.has_gap.ensures ∙ ap (has_gap c.args.gap.quota c.args.gap.need) c.span.ensures.span ∙ none-marked c.args.gap facts residents) ∙ c.if-has_gap.false in
    let is = c.mark-before.ensures.marked ∙ ap (λ e. marked_draining e residents) c.extent_of-extent.ensures in
    ap (option_map (λ k. take k c.args.candidates.now)) c.from_residual-in_err-others.ensures
    ∙ sym (ap (option_map (λ k. take (k + 1) c.args.candidates.now)) c.in_err-others.was)
    ∙ count-next (leaves_gap c.args.gap facts residents) (leaves_gap c.args.gap facts c.mark-before.new.residents) c.args.candidates.now c.next.new.self c.in_ok-id.id c.in_ok-id.ensures.steps bad
    (λ ys. ap (λ xs. leaves_gap c.args.gap facts xs ys) is ∙ goes-marked c.args.gap facts residents c.span.ensures.rising c.in_ok-id.id ys)
    c.count_spills-others.result c.count_spills-others.ensures.count

pub returns-in_err-others-clause-same : goal.returns-in_err-others-clause-same
returns-in_err-others-clause-same g t c =
    c.unmark.ensures
    ∙ ap (unmarked c.extent_of-extent.result c.mark-before.result) (c.count_spills-others.ensures.same ∙ c.mark-before.ensures.marked)
    ∙ marked-back c.extent_of-extent.result c.mark-before.result c.args.residents.now c.mark-before.ensures.before

pub returns-clause-count : goal.returns-clause-count
returns-clause-count g t c =
    let facts = g.C.CopyLookup.facts c.args.copies.now in
    let residents = c.args.residents.now in
    let bad : leaves_gap c.args.gap facts residents [] ≡ false = sym (c.has_gap.ensures ∙ ap (has_gap c.args.gap.quota c.args.gap.need) c.span.ensures.span ∙ none-marked c.args.gap facts residents) ∙ c.if-has_gap.false in
    let is = c.mark-before.ensures.marked ∙ ap (λ e. marked_draining e residents) c.extent_of-extent.ensures in
    sym (ap (option_map (λ k. take (k + 1) c.args.candidates.now)) c.in_ok-others.was)
    ∙ count-next (leaves_gap c.args.gap facts residents) (leaves_gap c.args.gap facts c.mark-before.new.residents) c.args.candidates.now c.next.new.self c.in_ok-id.id c.in_ok-id.ensures.steps bad
    (λ ys. ap (λ xs. leaves_gap c.args.gap facts xs ys) is ∙ goes-marked c.args.gap facts residents c.span.ensures.rising c.in_ok-id.id ys)
    c.count_spills-others.result c.count_spills-others.ensures.count

pub returns-clause-same : goal.returns-clause-same
returns-clause-same g t c =
    c.unmark.ensures
    ∙ ap (unmarked c.extent_of-extent.result c.mark-before.result) (c.count_spills-others.ensures.same ∙ c.mark-before.ensures.marked)
    ∙ marked-back c.extent_of-extent.result c.mark-before.result c.args.residents.now c.mark-before.ensures.before
