use Rattle.std.proofs.Common.{Option, Some, None, refl, sym, ap, ◌∙◌}
use Rattle.std.specs.Option.{option_copied_mut}
use Rattle.obj_id.specs.declared.refusals.Refusal.TheVariants.{Absent}
use Rattle.obj_id.specs.Ids.{id_eq}
use Rattle.row_copy.specs.CopyViews.{CopyView, after_release}
use Rattle.row_copy.specs.Checks.{release_check_of}
use Rattle.job_row.specs.Counted.{footprint_of}
use Rattle.job_row.proofs.Changes.{on_ok, on_err, checked_there, checked_absent, found_rising}
use Rattle.job_row.proofs.Holding.{standing_after, over_after}
use Rattle.job_row.proofs.Sums.{taken-same, taken-either}
use Rattle.job_row.proofs.copies.Copies.release.Goals as goal

pub invariant_of-self : goal.invariant_of-self
invariant_of-self c = c.self.invariant ∙ sym (ap (λ m. footprint_of m.entries) c.get_mut.follows.holds-at-none)

pub invariant_of-self-2 : goal.invariant_of-self-2
invariant_of-self-2 c =
    taken-same (id_eq c.args.id.now) c.self.inside.by_id.entries _ c.self.inside.taken c.in-Some.copy.now c.release.new.copy (sym c.get_mut.ensures.value ∙ ap option_copied_mut c.in-Some.is) (c.get_mut.follows.holds c.release.new.copy).0
    (taken-either c.release.result (after_release c.args.session) c.in-Some.copy.now c.release.new.copy c.release.ensures.ok c.release.ensures.err refl) c.self.invariant

pub returns-in_default-clause-refused : goal.returns-in_default-clause-refused
returns-in_default-clause-refused c r e =
    checked_absent (λ (o : Option CopyView). elim o [ None ↦ Some Absent | Some k ↦ release_check_of k c.args.session ]) c.args.id.now c.self.inside.by_id.entries c.args.self.now c.self.view_is (sym c.get_mut.ensures.value ∙ ap option_copied_mut c.in_default.is)
    ∙ cc

pub returns-clause-ok : goal.returns-clause-ok
returns-clause-ok c =
    on_ok (after_release c.args.session) c.args.id.now c.self.inside.by_id.entries c.args.self.now c.self.view_is c.release.result _ c.in-Some.copy.now c.release.new.copy (sym c.get_mut.ensures.value ∙ ap option_copied_mut c.in-Some.is) c.release.ensures.ok (c.get_mut.follows.holds c.release.new.copy).0

pub returns-clause-passed : goal.returns-clause-passed
returns-clause-passed c ok =
    checked_there (λ (o : Option CopyView). elim o [ None ↦ Some Absent | Some k ↦ release_check_of k c.args.session ]) c.args.id.now c.self.inside.by_id.entries c.args.self.now c.in-Some.copy.now c.self.view_is (sym c.get_mut.ensures.value ∙ ap option_copied_mut c.in-Some.is)
    ∙ c.release.ensures.passed ok

pub returns-clause-refused : goal.returns-clause-refused
returns-clause-refused c r e =
    checked_there (λ (o : Option CopyView). elim o [ None ↦ Some Absent | Some k ↦ release_check_of k c.args.session ]) c.args.id.now c.self.inside.by_id.entries c.args.self.now c.in-Some.copy.now c.self.view_is (sym c.get_mut.ensures.value ∙ ap option_copied_mut c.in-Some.is)
    ∙ c.release.ensures.refused r e

pub returns-clause-err : goal.returns-clause-err
returns-clause-err c =
    on_err (after_release c.args.session) c.args.id.now c.self.inside.by_id.entries c.args.self.now c.self.view_is c.release.result _ c.in-Some.copy.now c.release.new.copy (sym c.get_mut.ensures.value ∙ ap option_copied_mut c.in-Some.is) c.release.ensures.err (c.get_mut.follows.holds c.release.new.copy).0

pub returns-clause-eviction_info : goal.returns-clause-eviction_info
returns-clause-eviction_info c =
    standing_after (after_release c.args.session) c.args.id.now c.args.self.now c.in-Some.copy.now (found_rising c.args.id.now c.self.inside.by_id.entries c.args.self.now c.self.view_is c.in-Some.copy.now (sym c.get_mut.ensures.value ∙ ap option_copied_mut c.in-Some.is)) c.release.result c.release.ensures.after

pub returns-clause-over : goal.returns-clause-over
returns-clause-over c =
    over_after (after_release c.args.session) c.args.id.now c.args.self.now c.in-Some.copy.now (found_rising c.args.id.now c.self.inside.by_id.entries c.args.self.now c.self.view_is c.in-Some.copy.now (sym c.get_mut.ensures.value ∙ ap option_copied_mut c.in-Some.is)) c.release.result c.release.ensures.after
