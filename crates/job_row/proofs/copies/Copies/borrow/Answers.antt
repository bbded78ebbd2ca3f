use Rattle.std.proofs.Common.{Option, Some, None, cond, refl, sym, ap, ◌∙◌}
use Rattle.std.specs.Option.{option_copied_mut}
use Rattle.obj_id.specs.declared.refusals.Refusal.{Refusal}
use Rattle.obj_id.specs.declared.refusals.Refusal.TheVariants.{Absent}
use Rattle.obj_id.specs.declared.ids.TaskNo.{TaskNo}
use Rattle.obj_id.specs.Ids.{id_eq}
use Rattle.row_copy.specs.Checks.{borrow_check_of}
use Rattle.row_copy.specs.CopyViews.{CopyView, after_borrow}
use Rattle.job_row.specs.Counted.{footprint_of}
use Rattle.job_row.proofs.Changes.{unwritten, on_ok, on_err, checked_there, checked_absent, found_rising}
use Rattle.job_row.proofs.Holding.{standing_after, over_after}
use Rattle.job_row.proofs.Sums.{taken-same, taken-either}
use Rattle.job_row.proofs.copies.Copies.borrow.Goals as goal

abbrev check : TaskNo → Option CopyView → Option Refusal
check task o = elim o [ None ↦ Some Absent | Some k ↦ cond k.copy.doomed (Some Absent) (borrow_check_of k task) ]

pub invariant_of-self : goal.invariant_of-self
invariant_of-self c = c.self.invariant ∙ sym (ap (λ m. footprint_of m.entries) c.get_mut.follows.holds-at-none)

pub invariant_of-self-then-doomed : goal.invariant_of-self-then-doomed
invariant_of-self-then-doomed c =
    taken-same (id_eq c.args.id.now) c.self.inside.by_id.entries _ c.self.inside.taken c.in-Some.copy.now c.in-Some.copy.now (sym c.get_mut.ensures.value ∙ ap option_copied_mut c.in-Some.is) (c.get_mut.follows.holds c.in-Some.copy.now).0 refl c.self.invariant

pub invariant_of-self-2 : goal.invariant_of-self-2
invariant_of-self-2 c =
    taken-same (id_eq c.args.id.now) c.self.inside.by_id.entries _ c.self.inside.taken c.in-Some.copy.now c.borrow.new.copy (sym c.get_mut.ensures.value ∙ ap option_copied_mut c.in-Some.is) (c.get_mut.follows.holds c.borrow.new.copy).0
    (taken-either c.borrow.result (after_borrow c.args.task) c.in-Some.copy.now c.borrow.new.copy c.borrow.ensures.ok c.borrow.ensures.err refl) c.self.invariant

pub returns-in_default-clause-refused : goal.returns-in_default-clause-refused
returns-in_default-clause-refused c r e =
    checked_absent (check c.args.task) c.args.id.now c.self.inside.by_id.entries c.args.self.now c.self.view_is (sym c.get_mut.ensures.value ∙ ap option_copied_mut c.in_default.is)
    ∙ cc

pub returns-then-doomed-clause-refused : goal.returns-then-doomed-clause-refused
returns-then-doomed-clause-refused c r e =
    checked_there (check c.args.task) c.args.id.now c.self.inside.by_id.entries c.args.self.now c.in-Some.copy.now c.self.view_is (sym c.get_mut.ensures.value ∙ ap option_copied_mut c.in-Some.is)
    ∙ ap (λ b. cond b (Some Absent) (borrow_check_of c.in-Some.copy.now c.args.task)) (sym c.doomed.ensures ∙ c.if-doomed.true)
    ∙ cc

pub returns-then-doomed-clause-err : goal.returns-then-doomed-clause-err
returns-then-doomed-clause-err c =
    unwritten (after_borrow c.args.task) c.args.id.now c.self.inside.by_id.entries c.args.self.now c.self.view_is _ c.in-Some.copy.now c.in-Some.copy.now (sym c.get_mut.ensures.value ∙ ap option_copied_mut c.in-Some.is) refl (c.get_mut.follows.holds c.in-Some.copy.now).0

pub returns-clause-ok : goal.returns-clause-ok
returns-clause-ok c =
    on_ok (after_borrow c.args.task) c.args.id.now c.self.inside.by_id.entries c.args.self.now c.self.view_is c.borrow.result _ c.in-Some.copy.now c.borrow.new.copy (sym c.get_mut.ensures.value ∙ ap option_copied_mut c.in-Some.is) c.borrow.ensures.ok (c.get_mut.follows.holds c.borrow.new.copy).0

pub returns-clause-passed : goal.returns-clause-passed
returns-clause-passed c ok =
    checked_there (check c.args.task) c.args.id.now c.self.inside.by_id.entries c.args.self.now c.in-Some.copy.now c.self.view_is (sym c.get_mut.ensures.value ∙ ap option_copied_mut c.in-Some.is)
    ∙ ap (λ b. cond b (Some Absent) (borrow_check_of c.in-Some.copy.now c.args.task)) (sym c.doomed.ensures ∙ c.if-doomed.false)
    ∙ c.borrow.ensures.passed ok

pub returns-clause-refused : goal.returns-clause-refused
returns-clause-refused c r e =
    checked_there (check c.args.task) c.args.id.now c.self.inside.by_id.entries c.args.self.now c.in-Some.copy.now c.self.view_is (sym c.get_mut.ensures.value ∙ ap option_copied_mut c.in-Some.is)
    ∙ ap (λ b. cond b (Some Absent) (borrow_check_of c.in-Some.copy.now c.args.task)) (sym c.doomed.ensures ∙ c.if-doomed.false)
    ∙ c.borrow.ensures.refused r e

pub returns-clause-memory : goal.returns-clause-memory
returns-clause-memory c m e =
    checked_there (check c.args.task) c.args.id.now c.self.inside.by_id.entries c.args.self.now c.in-Some.copy.now c.self.view_is (sym c.get_mut.ensures.value ∙ ap option_copied_mut c.in-Some.is)
    ∙ ap (λ b. cond b (Some Absent) (borrow_check_of c.in-Some.copy.now c.args.task)) (sym c.doomed.ensures ∙ c.if-doomed.false)
    ∙ c.borrow.ensures.memory m e

pub returns-clause-err : goal.returns-clause-err
returns-clause-err c =
    on_err (after_borrow c.args.task) c.args.id.now c.self.inside.by_id.entries c.args.self.now c.self.view_is c.borrow.result _ c.in-Some.copy.now c.borrow.new.copy (sym c.get_mut.ensures.value ∙ ap option_copied_mut c.in-Some.is) c.borrow.ensures.err (c.get_mut.follows.holds c.borrow.new.copy).0

pub returns-clause-eviction_info : goal.returns-clause-eviction_info
returns-clause-eviction_info c =
    standing_after (after_borrow c.args.task) c.args.id.now c.args.self.now c.in-Some.copy.now (found_rising c.args.id.now c.self.inside.by_id.entries c.args.self.now c.self.view_is c.in-Some.copy.now (sym c.get_mut.ensures.value ∙ ap option_copied_mut c.in-Some.is)) c.borrow.result c.borrow.ensures.after

pub returns-clause-over : goal.returns-clause-over
returns-clause-over c =
    over_after (after_borrow c.args.task) c.args.id.now c.args.self.now c.in-Some.copy.now (found_rising c.args.id.now c.self.inside.by_id.entries c.args.self.now c.self.view_is c.in-Some.copy.now (sym c.get_mut.ensures.value ∙ ap option_copied_mut c.in-Some.is)) c.borrow.result c.borrow.ensures.after
