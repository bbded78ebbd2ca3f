use Rattle.std.proofs.Common.{sym, ap, ◌∙◌}
use Rattle.command_kinds.specs.Kinds.{traits_of}
use Rattle.command_kinds.proofs.Preparations.{preparation_of-parts}
use Rattle.command_kinds.proofs.preparation.Preparation.of.Goals as goal

pub returns : goal.returns
returns g c =
    c.by.ensures
    ∙ sym (preparation_of-parts c.args.command.now _ _ _ (ap (λ kind. (traits_of kind).prepares) (sym c.of-outline.ensures.kind) ∙ sym c.prepares.ensures) (sym c.of-outline.ensures.subject) (sym c.of-outline.ensures.length))
