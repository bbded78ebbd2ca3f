use Rattle.std.proofs.lemmas.Iterator.{items_from_collect}
use Rattle.std.proofs.lemmas.Iterator.Consumers.{YieldsList-from_rest}
use Rattle.std.proofs.Common.{◌≡◌, ◌+◌, ◌-◌, ◌<◌, drop, length, ap, ◌∙◌, arith}
use Rattle.std.specs.BTreeMap.{insert_entry}
use Rattle.private_store.specs.rules.Grants.{grants_sorted}
use Rattle.grants.proofs.Ranked.{rank_cmp, ranked_step}
use Rattle.grants.proofs.endings.sorted.Goals as goal

pub loop-left-preserved : goal.loop-left-preserved
loop-left-preserved c =
    let grants = c.args.grants.now.items in
    let old = c.loop-left.ranked.entries in
    let grant = c.index.result.now in
    let kept = c.loop-left.invariant in
    let back : c.loop-left.left ≡ (c.loop-left.left - 1) + 1 = omega arith in
    let within : c.loop-left.left - 1 < length grants = omega (arith, kept.within) in
    let step = ranked_step grants old c.insert.new.map.entries (c.loop-left.left - 1) grant c.requires within c.index.ensures kept.ranked
    (kept.on ∙ ap (λ n. grants_sorted (drop n grants)) back)
    (c.in_ok-insert.ensures.entries ∙ ap (λ k. insert_entry rank_cmp old k grant) c.rank.ensures) in
    record { within = omega (arith, kept.within); on = step.0; ranked = step.1 }

pub returns : goal.returns
returns c =
    let got = rw c.in_ok-in_order.was at (items_from_collect c.collected.result c.collected.ensures.ran (YieldsList-from_rest _ c.into_values.ensures.rest)) in
    let none : c.loop-left.left ≡ 0 = omega (arith, c.loop-left-test.false) in
    got ∙ c.loop-left.invariant.on ∙ ap (λ n. grants_sorted (drop n c.args.grants.now.items)) none
