use Rattle.std.proofs.Common.{sym, ap, ◌∙◌}
use Rattle.std.specs.List.{list_any}
use Rattle.grants.specs.Table.{is_ended_by}
use Rattle.grants.specs.Links.{links_are_apart}
use Rattle.grants.proofs.Ranked.{ended_apart}
use Rattle.grants.proofs.Left.{none_end, some_pass}
use Rattle.grants.proofs.Grants.found.Goals as goal

pub returns-then-not-any_ends-clause-found : goal.returns-then-not-any_ends-clause-found
returns-then-not-any_ends-clause-found c =
    let none = ap (list_any (is_ended_by c.args.ending)) (sym c.self.view_is) ∙ sym c.any_ends.ensures ∙ c.if-not-any_ends.true in
    c.none.ensures ∙ sym (none_end (is_ended_by c.args.ending) c.args.self.now none)

pub of-requires : goal.of-requires
of-requires c = ap links_are_apart c.in_ok-gone.ensures ∙ ended_apart (is_ended_by c.args.ending) c.self.inside.grants.items c.self.invariant

pub returns-in_err-gone-clause-succeeds : goal.returns-in_err-gone-clause-succeeds
returns-in_err-gone-clause-succeeds c =
    let some = ap (list_any (is_ended_by c.args.ending)) (sym c.self.view_is) ∙ sym c.any_ends.ensures ∙ c.if-not-any_ends.false in
    λ none. absurd (some_pass (is_ended_by c.args.ending) c.args.self.now some none)

pub returns-clause-succeeds : goal.returns-clause-succeeds
returns-clause-succeeds c =
    let some = ap (list_any (is_ended_by c.args.ending)) (sym c.self.view_is) ∙ sym c.any_ends.ensures ∙ c.if-not-any_ends.false in
    λ none. absurd (some_pass (is_ended_by c.args.ending) c.args.self.now some none)
