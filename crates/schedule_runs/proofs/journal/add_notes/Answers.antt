use Rattle.std.proofs.Common.{◌≡◌, ◌∷◌, List, rules, sym, ap, subst, ◌∙◌}
use Rattle.std.specs.Vec.Iter.{into_iter_items}
use Rattle.journal_text.specs.Saved.{IsSaved}
use Rattle.node_core.specs.declared.outcome.Note.{Note}
use Rattle.schedule_runs.specs.SavedRuns.{note_mark, with_notes}
use Rattle.schedule_runs.proofs.journal.add_notes.Goals as goal

pub loop-note-preserved : goal.loop-note-preserved
loop-note-preserved c =
    let rest : List Note = into_iter_items c.next.new.self in
    let next : into_iter_items c.loop-note.note-iterator ≡ c.in-Some.note ∷ rest = search rules in
    record {
      leads = λ marks h.
          let k = c.loop-note.invariant.leads marks h in (
            note_mark c.args.node c.in-Some.note ∷ k.0,
            (
              subst (λ m. IsSaved c.add.new.self (m ∷ k.0)) c.note_mark.ensures (c.in_ok-add.ensures.after k.0 k.1.0),
              ap (λ ns. with_notes c.args.node ns k.0) (sym next) ∙ k.1.1,
            ),
          );
      left = search rules;
    }
