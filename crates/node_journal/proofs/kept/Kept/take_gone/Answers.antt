use Rattle.std.proofs.Common.{ap, ◌∙◌}
use Rattle.node_journal.proofs.kept.Kept.take_gone.Goals as goal

pub invariant_of-self : goal.invariant_of-self
invariant_of-self g c =
    let old = c.args.self.now in
    record {
      seated = old.seated;
      blank = old.blank;
      named = ap (λ n. n.number) c.take_gone.ensures ∙ old.named;
      numbered = old.numbered;
      few = old.few;
      response = rw c.take_gone.ensures old.response;
    }
