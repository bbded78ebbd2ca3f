use Rattle.std.proofs.Common.{◌∙◌, ap, not, rules}
use Rattle.std.proofs.lemmas.Fn.{filter_same}
use Rattle.private_store.specs.rules.Events.{is_the_grant}
use Rattle.plain_store.specs.Granted.{with_other_grants}
use Rattle.plain_store.specs.contracts.job_grants.SeenObject.{the_view}
use Rattle.plain_store.proofs.Fields.{with_grants}
use Rattle.plain_store.proofs.job_grants.SeenObject.remove_grant.Goals as goal

pub returns : goal.returns
returns c =
    ap (with_grants (the_view c.self.inside)) (filter_same _ (λ grant. not (is_the_grant c.args.grantor.0 c.args.depth grant)) _ (λ x b f' k. search rules) _ _ c.retain.ensures.filtered)
    ∙ ap (λ seen. with_other_grants seen c.args.grantor.0 c.args.depth) c.self.view_is
