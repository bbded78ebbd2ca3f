use Rattle.std.proofs.Common.{◌≡◌, T, subst, ◌∙◌, rules}
use Rattle.std.specs.FinMap.{is_sorted}
use Rattle.std.proofs.lemmas.Fn.{always_returns_same}
use Rattle.obj_id.specs.declared.commands.OwnItem.{OwnItem}
use Rattle.obj_id.specs.Ids.{id_cmp}
use Rattle.store_facts.proofs.Tests.{true_T}
use Rattle.job_row.proofs.Rising.{rising-sorted}
use Rattle.job_row.proofs.Listed.{none_listed, next_listed, all_listed, listed}
use Rattle.job_row.proofs.copies.Copies.items.Goals as goal

pub loop-id-init : goal.loop-id-init
loop-id-init c =
    let gives = c.into_iter-id-iterator.ensures.into_iter_gives in
    none_listed c.self.inside.by_id.entries c.into_iter-id-iterator.result c.args.self.now c.new-items.result.items c.new-items.ensures.items gives.0 gives.4 c.self.view_is

pub loop-id-preserved : goal.loop-id-preserved
loop-id-preserved c = next_listed c.args.self.now c.loop-id.items.items _ c.loop-id.id-iterator _ (c.in-Some.id.now, c.in-Some.copy.now) c.item.result c.in-Some.ensures.steps c.item.ensures c.in_ok-push.ensures.items c.loop-id.invariant

pub returns-clause-items : goal.returns-clause-items
returns-clause-items c =
    c.from_vec.ensures
    ∙ listed c.args.self.now c.loop-id.items.items c.sort_unstable_by_key.new.self.items (subst (λ t. T (is_sorted id_cmp t)) c.self.view_is (rising-sorted c.self.inside.by_id.entries))
    (all_listed c.args.self.now c.loop-id.items.items c.loop-id.id-iterator c.in-None.ensures.steps.0 c.loop-id.invariant) c.sort_unstable_by_key.ensures.permutation (c.sort_unstable_by_key.ensures.sorted (λ (i : OwnItem). i.id) (always_returns_same _ (λ a r. r ≡ a.0.now.id) _ (λ a r q k. search rules)))

pub returns-clause-rising : goal.returns-clause-rising
returns-clause-rising c = true_T _ (subst (λ t. T (is_sorted id_cmp t)) c.self.view_is (rising-sorted c.self.inside.by_id.entries))
