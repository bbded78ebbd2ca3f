use Rattle.std.proofs.Common.{rules, ◌≡◌, find, Some, IfOk, slice_set, sym, subst}
use Rattle.schedule_runs.specs.Workers.{Crew, Calls, is_taken_at as is_at_lem}
use Rattle.schedule_runs.proofs.Crews.{nothing_called, device_calls}
use Rattle.schedule_runs.proofs.workers.Workers.call.Goals as goal
use Rattle.schedule_runs.proofs.workers.Workers.call.Goals.{in-None, in-Some}

pub returns-clause-calls : goal.returns-clause-calls
returns-clause-calls c = elim c.match-find_at.branch [
  | in-None w ↦
      let before : Crew = record { devices = c.self.inside.devices.items; taken = c.self.inside.taken.items } in
      let after : Crew = record { devices = c.match-find_at.self-inside.devices.items; taken = c.match-find_at.self-inside.taken.items } in
      subst (λ crew. IfOk c.match-find_at.result (λ answer. Calls crew c.args.node c.args.job c.args.number answer after)) c.self.view_is
      (subst (λ i. IfOk c.match-find_at.result (λ answer. Calls before c.args.node c.args.job c.args.number answer (record { devices = i.devices.items; taken = i.taken.items }))) (sym w.self-inside-is)
      (subst (λ r. IfOk r (λ answer. Calls before c.args.node c.args.job c.args.number answer before)) (sym w.result-is) (nothing_called before c.args.node c.args.job c.args.number)))
  | in-Some w ↦
      let before : Crew = record { devices = c.self.inside.devices.items; taken = c.self.inside.taken.items } in
      let after : Crew = record { devices = c.match-find_at.self-inside.devices.items; taken = c.match-find_at.self-inside.taken.items } in
      let called : Crew = record { devices = slice_set c.self.inside.devices.items c.args.node w.answer_of.new.device; taken = c.self.inside.taken.items } in
      let found : find (is_at_lem c.args.node c.args.job c.args.number) c.self.inside.taken.items ≡ Some w.in-Some.taken.now = search rules in
      subst (λ crew. IfOk c.match-find_at.result (λ answer. Calls crew c.args.node c.args.job c.args.number answer after)) c.self.view_is
      (subst (λ i. IfOk c.match-find_at.result (λ answer. Calls before c.args.node c.args.job c.args.number answer (record { devices = i.devices.items; taken = i.taken.items }))) (sym w.self-inside-is)
      (subst (λ r. IfOk r (λ answer. Calls before c.args.node c.args.job c.args.number answer called)) (sym w.result-is)
      (device_calls c.self.inside.devices.items c.self.inside.taken.items c.args.node c.args.job c.args.number w.in-Some.taken.now w.index_mut.result.now w.answer_of.new.device w.answer_of.result found (search rules) w.index_mut.ensures.value w.answer_of.ensures.answer w.answer_of.ensures.holds)))
]
