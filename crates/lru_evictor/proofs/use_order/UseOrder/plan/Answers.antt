use Rattle.std.proofs.Common.{◌≡◌, [], sym, ap, subst, ◌∙◌, is_some}
use Rattle.std.specs.Option.{unwrap_or}
use Rattle.private_store.specs.rules.Room.{plan}
use Rattle.lru_evictor.specs.Orders.{order_ids}
use Rattle.lru_evictor.specs.declared.facts.Plan.TheVariants as found
use Rattle.lru_evictor.specs.Plans.{IsOfCopies, plan_kind_of}
use Rattle.lru_evictor.proofs.Planned.{fits-now, has-bytes, plan-fits, plan-nothing}
use Rattle.lru_evictor.proofs.use_order.UseOrder.plan.Goals as goal
use Rattle.lru_evictor.proofs.use_order.UseOrder.plan.Goals.{in-None, in-Some}

pub returns-then-is_some-clause-plan : goal.returns-then-is_some-clause-plan
returns-then-is_some-clause-plan g c store known described =
    ap plan_kind_of (plan-fits store c.args.window.now c.args.device (g.C.CopyLookup.facts c.args.copies.now) described c.args.len c.is_some.result (c.is_some.ensures ∙ ap is_some c.search.ensures.offset) (order_ids c.args.self.now) c.if-is_some.true)

pub returns-clause-plan : goal.returns-clause-plan
returns-clause-plan g c store known described =
    let facts = g.C.CopyLookup.facts c.args.copies.now in
    let says = c.is_some.ensures ∙ ap is_some c.search.ensures.offset in
    let some = has-bytes c.args.window.now c.args.len c.is_some.result says c.if-is_some.false in
    let bad = sym (says ∙ fits-now c.args.window.now facts c.args.len) ∙ c.if-is_some.false in
    elim c.match-self.branch [
      | in-None w ↦
          let none = ap (λ o. unwrap_or o []) (sym w.in-None.is) ∙ c.self.view_is in
          w.result-is
          ∙ ap plan_kind_of (plan-nothing store c.args.window.now c.args.device facts described c.args.len c.is_some.result says c.if-is_some.false)
          ∙ ap (λ o. plan_kind_of (plan (order_ids o) store c.args.len)) none
      | in-Some w ↦
          let here = ap (λ o. unwrap_or o []) (sym w.in-Some.is) ∙ c.self.view_is in
          w.result-is
          ∙ w.plan.ensures.plan store some bad (subst (λ o. IsOfCopies o facts) (sym here) known) described
          ∙ ap (λ o. plan_kind_of (plan (order_ids o) store c.args.len)) here
    ]

pub returns-then-is_some-clause-room : goal.returns-then-is_some-clause-room
returns-then-is_some-clause-room g c fits =
    sym (c.is_some.ensures ∙ ap is_some c.search.ensures.offset ∙ fits-now c.args.window.now (g.C.CopyLookup.facts c.args.copies.now) c.args.len) ∙ c.if-is_some.true

pub returns-clause-room : goal.returns-clause-room
returns-clause-room g c fits = elim c.match-self.branch [
  | in-None w ↦ absurd (differ (sym w.result-is ∙ fits))
  | in-Some w ↦ absurd (w.plan.ensures.needed (sym w.result-is ∙ fits))
]
  where
    differ : found.Full ≡ found.Fits → ⊥
    differ d = cc
