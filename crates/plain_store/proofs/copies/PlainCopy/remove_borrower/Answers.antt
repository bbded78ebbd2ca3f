use Rattle.std.proofs.Common.{◌∙◌, ap, not, rules}
use Rattle.std.proofs.lemmas.Fn.{filter_same}
use Rattle.obj_id.specs.Ids.{same_task}
use Rattle.private_store.specs.rules.Marks.{without_borrower}
use Rattle.plain_store.specs.contracts.copies.PlainCopy.{the_view}
use Rattle.plain_store.proofs.Keyed.{with_borrowers}
use Rattle.plain_store.proofs.copies.PlainCopy.remove_borrower.Goals as goal

pub returns : goal.returns
returns c =
    ap (with_borrowers (the_view c.self.inside)) (filter_same _ (λ t. not (same_task c.args.task t)) _ (λ x b f' k. search rules) _ _ c.retain.ensures.filtered)
    ∙ ap (λ copy. without_borrower copy c.args.task) c.self.view_is
