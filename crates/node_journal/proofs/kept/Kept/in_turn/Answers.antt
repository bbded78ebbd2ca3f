use Rattle.node_journal.proofs.kept.Kept.in_turn.Goals as goal

pub invariant_of-self : goal.invariant_of-self
invariant_of-self g c =
    let old = c.args.self.now in
    record {
      seated = old.seated;
      blank = old.blank;
      named = old.named;
      numbered = λ job. rw c.in_turn.ensures (old.numbered job);
      few = λ job. rw c.in_turn.ensures (old.few job);
      response = rw c.in_turn.ensures old.response;
    }
