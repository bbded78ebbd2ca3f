use Rattle.std.proofs.Common.{[], refl, sym, subst, ◌∙◌}
use Rattle.std.specs.Map.{keys_of}
use Rattle.lru_evictor.specs.Orders.{AllPass}
use Rattle.job_row.proofs.FollowsCopies.{is_waiting, waits_for_all, response}
use Rattle.job_row.proofs.copies.Copies.sync_all.Goals as goal

pub loop-id-init : goal.loop-id-init
loop-id-init c = record {
  ids = refl;
  followed = λ before none keep h. subst (λ es. AllPass (is_waiting (keys_of es) [] c.args.self.now) c.args.order.now) (sym c.into_iter-id-iterator.ensures.into_iter_gives.0)
      (waits_for_all c.self.inside.by_id.entries before c.args.self.now c.self.view_is none keep c.args.order.now h);
}

pub loop-id-preserved : goal.loop-id-preserved
loop-id-preserved c = record {
  ids = c.set_info.ensures.ids ∙ c.loop-id.invariant.ids;
  followed = λ before none keep h.
      response c.in-Some.id.now (keys_of c.next.new.self) [] c.args.self.now c.eviction_info.result c.eviction_info.ensures c.loop-id.order c.set_info.new.self c.set_info.ensures.infos
      (subst (λ es. AllPass (is_waiting (keys_of es) [] c.args.self.now) c.loop-id.order) c.in-Some.ensures.steps (c.loop-id.invariant.followed before none keep h));
}

pub returns-clause-ids : goal.returns-clause-ids
returns-clause-ids c = c.loop-id.invariant.ids

pub returns-clause-infos : goal.returns-clause-infos
returns-clause-infos c before none keep h = subst (λ es. AllPass (is_waiting (keys_of es) [] c.args.self.now) c.loop-id.order) c.in-None.ensures.steps.0 (c.loop-id.invariant.followed before none keep h)
