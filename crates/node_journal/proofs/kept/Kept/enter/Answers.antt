use Rattle.std.proofs.Common.{refl, ◌∙◌}
use Rattle.node_journal.proofs.Telling.{told_entered, entered_same}
use Rattle.node_journal.proofs.kept.Kept.enter.Goals as goal

pub invariant_of-self : goal.invariant_of-self
invariant_of-self g c =
    let old = c.args.self.now in
    let done = c.enter.ensures in
    record {
      seated = old.seated;
      blank = old.blank;
      named = entered_same _ old.node _ _ (λ n. n.number) refl done.ok done.err ∙ old.named;
      numbered = old.numbered;
      few = old.few;
      response = told_entered old.node _ _ (entered_same _ old.node _ _ (λ n. n.works) refl done.ok done.err) done.views old.response;
    }

pub invariant_of-self-2 : goal.invariant_of-self-2
invariant_of-self-2 g c =
    let old = c.args.self.now in
    let done = c.enter.ensures in
    record {
      seated = old.seated;
      blank = old.blank;
      named = entered_same _ old.node _ _ (λ n. n.number) refl done.ok done.err ∙ old.named;
      numbered = old.numbered;
      few = old.few;
      response = told_entered old.node _ _ (entered_same _ old.node _ _ (λ n. n.works) refl done.ok done.err) done.views old.response;
    }
