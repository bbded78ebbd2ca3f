use Rattle.std.proofs.Common.{rules, ◌≡◌, ◌++◌, ◌∙◌}
use Rattle.std.specs.Prelude.{codes}
use Rattle.std.proofs.lemmas.List.{append_assoc}
use Rattle.std.specs.String.{string_bytes}
use Rattle.journal_replay.proofs.program.difference_text.Goals as goal

pub returns : goal.returns
returns c =
    let parts : string_bytes c.in_ok-text.text ≡ string_bytes c.in_ok-place.place ++ codes ": had " ++ string_bytes c.args.difference.now.had ++ codes ", should be " ++ string_bytes c.in_ok-due.due ++ codes "\n" = simp append_assoc (search rules) in
    parts ∙ (λ i. c.in_ok-place.ensures i ++ codes ": had " ++ string_bytes c.args.difference.now.had ++ codes ", should be " ++ c.in_ok-due.ensures i ++ codes "\n")
