use Rattle.std.proofs.Common.{is_some, sym, ap, ◌∙◌}
use Rattle.std.specs.Option.{option_copied}
use Rattle.obj_id.specs.declared.commands.Reply.TheVariants as reply
use Rattle.obj_id.specs.declared.messages.DirectoryMessage.TheVariants.{EndJob}
use Rattle.private_store.specs.rules.Private.{to_directory}
use Rattle.store_facts.proofs.Tests.{true_false}
use Rattle.job_admission.specs.Admissions.{live_at}
use Rattle.node_core.specs.Hosted.{Hosted, row_at}
use Rattle.node_core.proofs.Ending.{has_row}
use Rattle.node_core.proofs.Node.own_end.Goals as goal

pub unreachable-requires : goal.unreachable-requires
unreachable-requires c =
    let live = ap (λ (n : Hosted). is_some (live_at n.admissions c.args.job)) c.self.view_is ∙ c.requires in
    true_false (sym (has_row c.self.inside.admission c.self.inside.rows.entries c.args.job c.self.invariant.jobs (sym live)
    (sym c.get.ensures.value ∙ ap option_copied c.in_default.is)))

pub returns-clause-ok : goal.returns-clause-ok
returns-clause-ok c =
    let posts = c.in_ok-messages.ensures.ok ∙ ap (λ (n : Hosted). to_directory (EndJob n.number)) c.self.view_is in
    record {
      row = c.in-Some.row.now;
      found = ap (λ (n : Hosted). row_at n c.args.job) (sym c.self.view_is) ∙ sym c.get.ensures.value ∙ ap option_copied c.in-Some.is;
      is = λ i. record { reply = reply.Ok; posts = posts i; erased = c.in_ok-erase.ensures i };
    }
