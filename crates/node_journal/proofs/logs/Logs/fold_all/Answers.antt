use Rattle.std.proofs.Common.{◌≡◌, ◌∷◌, List, rules, subst, sym, ap, ◌∙◌, arith}
use Rattle.std.specs.Vec.Iter.{into_iter_items}
use Rattle.obj_id.specs.declared.ids.JobNo.{JobNo}
use Rattle.node_journal.specs.declared.folding.Base.{Base}
use Rattle.node_journal.specs.Journals.{folded_if}
use Rattle.node_journal.specs.Logs.{journal_of, AreBases, has_base}
use Rattle.node_journal.proofs.Bases.{stores_left, folds_left}
use Rattle.node_journal.proofs.logs.Logs.fold_all.Goals as goal

pub loop-job-preserved : goal.loop-job-preserved
loop-job-preserved c =
    let e : JobNo × Base = (c.in-Some.job, c.in-Some.base) in
    let rest : List (JobNo × Base) = into_iter_items c.next.new.self in
    let kept = c.loop-job.invariant in
    let next : into_iter_items c.loop-job.job-iterator ≡ e ∷ rest = search rules in
    record {
      stores = stores_left e rest (journal_of c.loop-job.self) (journal_of c.fold.new.self) c.fold.ensures.journal (subst (λ es. AreBases es (journal_of c.loop-job.self)) next kept.stores);
      journals = λ other. folds_left e rest (journal_of c.loop-job.self) (journal_of c.fold.new.self) c.fold.ensures.journal other ∙ ap (λ es. folded_if (has_base other es) (journal_of c.loop-job.self other)) (sym next) ∙ kept.journals other;
      spare = λ other. omega (arith, kept.spare other, c.fold.ensures.spare other);
      left = search rules;
    }
