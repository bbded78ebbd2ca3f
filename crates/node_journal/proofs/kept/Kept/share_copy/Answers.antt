use Rattle.std.proofs.Common.{ap, ◌∙◌}
use Rattle.node_journal.proofs.kept.Kept.share_copy.Goals as goal

pub invariant_of-self : goal.invariant_of-self
invariant_of-self g c =
    let old = c.args.self.now in
    record {
      seated = old.seated;
      blank = old.blank;
      named = ap (λ n. n.number) c.share_copy.ensures ∙ old.named;
      numbered = old.numbered;
      few = old.few;
      response = rw c.share_copy.ensures old.response;
    }
