use Rattle.std.proofs.Common.{Some, cond, ◌++◌, sym, ap, subst, ◌∙◌}
use Rattle.std.specs.Map.{lookup}
use Rattle.journal_text.specs.Saved.{lines_counted, counts_at, has_no_room, same_job_place, IsSaved}
use Rattle.journal_text.proofs.Saving.{adds, folds}
use Rattle.journal_text.proofs.saved.SavedJournal.add.Goals as goal

pub returns-then-has_no_room-clause-after : goal.returns-then-has_no_room-clause-after
returns-then-has_no_room-clause-after c = λ marks h.
    let k = subst (λ s. IsSaved s marks) (sym c.self.view_is) h in
    let at = c.counts_at-counts.ensures ∙ ap (λ s. counts_at s.counts c.args.mark.place) (sym c.self.view_is) in
    let room = ap (λ s. has_no_room s c.counts_at-counts.result) c.self.view_is ∙ sym c.has_no_room.ensures in
    folds _ marks c.args.mark c.counts_at-counts.result k at (room ∙ c.if-has_no_room.true)

pub returns-clause-after : goal.returns-clause-after
returns-clause-after c = λ marks h.
    let k = subst (λ s. IsSaved s marks) (sym c.self.view_is) h in
    let at = c.counts_at-counts.ensures ∙ ap (λ s. counts_at s.counts c.args.mark.place) (sym c.self.view_is) in
    let room = ap (λ s. has_no_room s c.counts_at-counts.result) c.self.view_is ∙ sym c.has_no_room.ensures in
    adds _ marks c.args.mark c.counts_at-counts.result k at (room ∙ c.if-has_no_room.false) c.insert.new.table.entries c.extend_from_slice.new.list.items
    (λ q. c.in-Ok.ensures.updates.0 q
    ∙ ap (λ x. cond (same_job_place c.args.mark.place q) (Some x) (lookup (same_job_place q) c.reserve.new.table.entries)) c.counted-more.ensures
    ∙ ap (λ es. cond (same_job_place c.args.mark.place q) (Some (lines_counted c.counts_at-counts.result c.args.mark.line)) (lookup (same_job_place q) es)) c.reserve.ensures.entries)
    (c.in_ok-extend_from_slice.ensures.items ∙ ap (λ t. c.self.inside.text.items ++ t) (c.as_bytes.ensures.value ∙ c.in_ok-text.ensures.text)) c.in_ok-text.ensures.typed
