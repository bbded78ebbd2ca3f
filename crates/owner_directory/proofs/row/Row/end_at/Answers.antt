use Rattle.std.proofs.Common.{rules, ◌≡◌, ◌≢◌, List, [], sym, ap, subst, ◌∙◌}
use Rattle.std.specs.Prelude.{IsTrue, ◌↔◌}
use Rattle.obj_id.specs.declared.messages.Location.{Location}
use Rattle.private_store.specs.rules.Directory.{without_node, without_entries_at}
use Rattle.owner_directory.proofs.Objects.{retained}
use Rattle.owner_directory.proofs.row.Row.end_at.Goals as goal

pub returns : goal.returns
returns c =
    retained _ c.args.node _ (λ k v b w g t.
    let after : t.left.now ≡ without_node c.args.node t.value.now = search rules in
    let response : IsTrue b ↔ (t.left.now ≢ []) = search rules in
    (sym t.leaves ∙ after ∙ ap (without_node c.args.node) t.shows.1, subst (λ (xs : List Location). IsTrue b ↔ (xs ≢ [])) t.leaves response, search rules)) _ _ c.retain.ensures.filtered
    ∙ ap (without_entries_at c.args.node) c.self.view_is
