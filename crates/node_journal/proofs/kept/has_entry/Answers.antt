use Rattle.std.proofs.Common.{◌≡◌, ◌+◌, ◌-◌, ◌/◌, ◌<◌, ◌≤◌, List, length, drop, true, false, sym, subst, ◌∙◌, arith}
use Rattle.std.specs.Prelude.{nat_lt}
use Rattle.std.specs.List.{list_any}
use Rattle.std.proofs.lemmas.Bool.Decides.{nat_tests}
use Rattle.std.proofs.lemmas.List.{take_all, length-take, length-drop}
use Rattle.node_journal.specs.declared.entries.Line.{Line}
use Rattle.node_journal.specs.Journals.{is_this, most_lines, step_of}
use Rattle.node_journal.proofs.Bisected.{Rises, cut_at, left_up, right_up, on_left, on_right, found_here}
use Rattle.node_journal.proofs.kept.has_entry.Goals as goal

pub returns-then-is_entry : goal.returns-then-is_entry
returns-then-is_entry c =
    let rest : List Line = c.loop-rest.rest.now in
    let m = length rest / 2 in
    let within : m < length rest = grind (arith, nat_tests, c.is_empty.ensures, c.loop-rest-test.true) in
    let cut = cut_at rest m c.index-rest-middle.result _ c.index-rest-middle.is within in
    c.is_same.ensures ∙ (found_here c.args.entry.now rest m c.index-rest-middle.result cut c.loop-rest.invariant.1 (sym c.if-is_entry.ensures) ∙ c.loop-rest.invariant.2)

pub loop-rest-preserved-then-number-entry : goal.loop-rest-preserved-then-number-entry
loop-rest-preserved-then-number-entry c =
    let rest : List Line = c.loop-rest.rest.now in
    let m = length rest / 2 in
    let within : m < length rest = grind (arith, nat_tests, c.is_empty.ensures, c.loop-rest-test.true) in
    let right : List Line = drop (m + 1) rest in
    let line : Line = c.index-rest-middle.result in
    let cut = cut_at rest m line _ c.index-rest-middle.is within in
    let less : nat_lt (step_of line) c.args.entry.now.number ≡ true = grind (arith, nat_tests, c.number.ensures) in
    let all = take_all (length rest - (m + 1)) right (omega (arith, length-drop (m + 1) rest)) in
    subst (λ xs. (length xs ≤ most_lines) × Rises xs × (list_any (is_this c.args.entry.now) xs ≡ list_any (is_this c.args.entry.now) c.args.lines.now)) (sym all)
    (omega (arith, length-drop (m + 1) rest, c.loop-rest.invariant.0), right_up c.args.entry.now rest m line cut c.loop-rest.invariant.1, on_right c.args.entry.now rest m line cut c.loop-rest.invariant.1 less ∙ c.loop-rest.invariant.2)

pub loop-rest-preserved : goal.loop-rest-preserved
loop-rest-preserved c =
    let rest : List Line = c.loop-rest.rest.now in
    let m = length rest / 2 in
    let within : m < length rest = grind (arith, nat_tests, c.is_empty.ensures, c.loop-rest-test.true) in
    let line : Line = c.index-rest-middle.result in
    let cut = cut_at rest m line _ c.index-rest-middle.is within in
    let least : nat_lt (step_of line) c.args.entry.now.number ≡ false = grind (arith, nat_tests, c.number.ensures) in
    (omega (arith, length-take m rest, c.loop-rest.invariant.0), left_up c.args.entry.now rest m line cut c.loop-rest.invariant.1, on_left c.args.entry.now rest m line cut c.loop-rest.invariant.1 least (sym c.if-is_entry.ensures) ∙ c.loop-rest.invariant.2)
