use Rattle.std.proofs.Common.{◌==◌, ◌∙◌, ap, not, rules}
use Rattle.std.proofs.lemmas.Fn.{filter_same}
use Rattle.private_store.specs.rules.Marks.{with_holds}
use Rattle.plain_store.specs.contracts.copies.PlainCopy.{the_view}
use Rattle.plain_store.proofs.Keyed.{with_all_holds}
use Rattle.plain_store.proofs.copies.PlainCopy.remove_holds.Goals as goal

pub returns : goal.returns
returns c =
    ap (with_all_holds (the_view c.self.inside)) (filter_same _ (λ e. not (e.0 == c.args.session)) _ (λ x b f' k. search rules) _ _ c.retain.ensures.filtered)
    ∙ ap (λ copy. with_holds copy c.args.session 0) c.self.view_is
