use Rattle.std.proofs.Common.{ap, sym, subst, ◌∙◌, arith}
use Rattle.job_admission.specs.Admissions.{Admissions, AreAdmissionsKept, windows}
use Rattle.job_admission.proofs.Search.{at, is_in_the_way, place_found, place_none, passed_over, found_has, ends_after}
use Rattle.job_admission.proofs.AllKept.{is_laid, all_laid, laid_end, window_is}
use Rattle.job_admission.proofs.Admission.free_place.Goals as goal

pub returns-in_default : goal.returns-in_default
returns-in_default c =
    let n = c.args.length in
    let a = c.args.self.now in
    sym (place_found (windows a.live) a.memory n (window_is n c.requires).0 c.loop-offset.offset c.loop-offset.invariant.units (omega (arith, c.loop-offset-test.true, ap (λ (b : Admissions). b.memory) c.self.view_is)) (sym c.window_in_the_way.ensures ∙ c.in_default.is) c.loop-offset.invariant.taken)

pub overflow_add-offset-in-loop-offset : goal.overflow_add-offset-in-loop-offset
overflow_add-offset-in-loop-offset c =
    let a = c.args.self.now in
    let kept : AreAdmissionsKept a = subst AreAdmissionsKept c.self.view_is c.self.invariant in
    let found = sym c.window_in_the_way.ensures ∙ c.in-Some.is in
    let end = laid_end a.memory c.in-Some.window (found_has (is_in_the_way (at c.loop-offset.offset c.args.length)) (is_laid a.memory) (windows a.live) c.in-Some.window (all_laid a.memory a.greatest a.live kept.each) found) in
    omega (arith, end.1, kept.memory)

pub loop-offset-smaller : goal.loop-offset-smaller
loop-offset-smaller c =
    let a = c.args.self.now in
    let kept : AreAdmissionsKept a = subst AreAdmissionsKept c.self.view_is c.self.invariant in
    let found = sym c.window_in_the_way.ensures ∙ c.in-Some.is in
    let end = laid_end a.memory c.in-Some.window (found_has (is_in_the_way (at c.loop-offset.offset c.args.length)) (is_laid a.memory) (windows a.live) c.in-Some.window (all_laid a.memory a.greatest a.live kept.each) found) in
    let later = ends_after (windows a.live) c.in-Some.window c.args.length c.loop-offset.offset found in
    omega (arith, end.1, later, (window_is c.args.length c.requires).1, c.loop-offset-test.true)

pub loop-offset-preserved : goal.loop-offset-preserved
loop-offset-preserved c =
    let a = c.args.self.now in
    let kept : AreAdmissionsKept a = subst AreAdmissionsKept c.self.view_is c.self.invariant in
    let found = sym c.window_in_the_way.ensures ∙ c.in-Some.is in
    let end = laid_end a.memory c.in-Some.window (found_has (is_in_the_way (at c.loop-offset.offset c.args.length)) (is_laid a.memory) (windows a.live) c.in-Some.window (all_laid a.memory a.greatest a.live kept.each) found) in
    record {
      units = end.0;
      within = end.1;
      taken = passed_over (windows a.live) a.memory c.args.length (window_is c.args.length c.requires).0 c.loop-offset.offset c.in-Some.window found c.loop-offset.invariant.taken;
    }

pub returns : goal.returns
returns c =
    let a = c.args.self.now in
    sym (place_none (windows a.live) a.memory c.args.length (window_is c.args.length c.requires).0 c.loop-offset.offset (omega (arith, c.loop-offset-test.false, ap (λ (b : Admissions). b.memory) c.self.view_is)) c.loop-offset.invariant.taken)
