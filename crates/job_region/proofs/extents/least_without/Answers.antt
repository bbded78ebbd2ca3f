use Rattle.std.proofs.Common.{ℕ, ◌≡◌, ◌<◌, ◌+◌, List, Option, sym, ap, subst, ◌∙◌, arith, take, drop, get_or, length}
use Rattle.std.specs.List.Sorted.{IsNonDecreasingBy}
use Rattle.std.proofs.lemmas.List.{take_rest}
use Rattle.obj_id.specs.declared.works.Extent.{Extent}
use Rattle.job_region.specs.Layout.{LiesBefore, After, gap, gap_among, last_end, first_start}
use Rattle.job_region.proofs.Bisected.{laid_rising, drop_laid, same_there}
use Rattle.job_region.proofs.Going.{none_go}
use Rattle.job_region.proofs.Walked.{IsWalked, walk_begins, differs, walk_on, walked_on, walked_past, start_fits, gap_now}
use Rattle.job_region.proofs.extents.least_without.Goals as goal

abbrev none : Extent
none = record { offset = 0; length = 0 }

pub loop-e-init : goal.loop-e-init
loop-e-init c = record {
  least = c.requires.found ∙ ap (gap c.args.quota c.args.need 0) (sym (none_go c.args.extents.now));
  walked = walk_begins c.args.extents.now c.args.gone.now;
}

pub place_of-passed-requires : goal.place_of-passed-requires
place_of-passed-requires c =
    let es = c.args.extents.now in
    let next = c.loop-e.next in
    subst (IsNonDecreasingBy (λ (e : Extent). e.offset)) (sym (take_rest es next)) (laid_rising c.args.quota 0 (drop next es) (drop_laid c.args.quota 0 next es c.requires.laid))

pub loop-e-preserved-then-not-is_at : goal.loop-e-preserved-then-not-is_at
loop-e-preserved-then-not-is_at c =
    let q = c.args.quota in
    let es = c.args.extents.now in
    let gone = c.args.gone.now in
    let i = c.loop-e.e-index in
    let e = get_or gone i none in
    let next = c.loop-e.next in
    let k = c.place_of-passed.result in
    let w = c.loop-e.invariant.walked in
    let is = same_there gone i e none c.loop-e-test.true in
    let rest = take_rest es next in
    let before = subst (λ (ys : List Extent). LiesBefore e.offset ys k) rest c.place_of-passed.ensures.before in
    let after = subst (λ (ys : List Extent). After e.offset ys k) rest c.place_of-passed.ensures.after in
    let no = subst (λ (ys : List Extent). k < length ys → (d : Extent) → (get_or ys k d).offset ≡ e.offset → ⊥) rest (c.is_at.ensures.no c.if-not-is_at.true) in
    let none_there = differs e.offset k (drop next es) (laid_rising q 0 (drop next es) (drop_laid q 0 next es c.requires.laid)) before after no in
    let same = walk_on q es gone c.requires.laid c.requires.rising i next c.loop-e.start e c.loop-e-test.true is w none_there in
    record {
      least = c.loop-e.invariant.least ∙ ap (gap q c.args.need 0) (sym same);
      walked = walked_on q es gone c.requires.laid c.requires.rising i next c.loop-e.start e c.loop-e-test.true is w same;
    }

pub end_of_last-start-requires : goal.end_of_last-start-requires
end_of_last-start-requires c =
    let q = c.args.quota in
    let es = c.args.extents.now in
    let gone = c.args.gone.now in
    let i = c.loop-e.e-index in
    let e = get_or gone i none in
    let next = c.loop-e.next in
    let k = c.place_of-passed.result in
    let is = same_there gone i e none c.loop-e-test.true in
    let rest = take_rest es next in
    let there = subst (λ (ys : List Extent). (k < length ys) × ((d : Extent) → (get_or ys k d).offset ≡ e.offset)) rest (c.is_at.ensures.yes c.if-not-is_at.false) in
    let before = subst (λ (ys : List Extent). LiesBefore e.offset ys k) rest c.place_of-passed.ensures.before in
    let x = get_or (drop next es) k none in
    let fits = start_fits q es gone c.requires.laid c.requires.rising i next c.loop-e.start e c.loop-e-test.true is c.loop-e.invariant.walked k x there.0 (same_there (drop next es) k x none there.0) (there.1 none) before in
    rw rest (omega (arith, fits.0, fits.1, c.requires.small))

pub with_gap-least-requires : goal.with_gap-least-requires
with_gap-least-requires c =
    let q = c.args.quota in
    let es = c.args.extents.now in
    let gone = c.args.gone.now in
    let i = c.loop-e.e-index in
    let e = get_or gone i none in
    let next = c.loop-e.next in
    let k = c.place_of-passed.result in
    let is = same_there gone i e none c.loop-e-test.true in
    let rest = take_rest es next in
    let there = subst (λ (ys : List Extent). (k < length ys) × ((d : Extent) → (get_or ys k d).offset ≡ e.offset)) rest (c.is_at.ensures.yes c.if-not-is_at.false) in
    let before = subst (λ (ys : List Extent). LiesBefore e.offset ys k) rest c.place_of-passed.ensures.before in
    let x = get_or (drop next es) k none in
    let fits = start_fits q es gone c.requires.laid c.requires.rising i next c.loop-e.start e c.loop-e-test.true is c.loop-e.invariant.walked k x there.0 (same_there (drop next es) k x none there.0) (there.1 none) before in
    let start = c.end_of_last-start.ensures ∙ ap (λ (ys : List Extent). last_end c.loop-e.start (take k ys)) rest in
    let end = c.start_of_first-end.ensures ∙ ap (first_start q) (take_rest es (next + k + 1)) in
    omega (arith, fits.0, start, end)

pub loop-e-preserved : goal.loop-e-preserved
loop-e-preserved c =
    let q = c.args.quota in
    let n = c.args.need in
    let es = c.args.extents.now in
    let gone = c.args.gone.now in
    let i = c.loop-e.e-index in
    let e = get_or gone i none in
    let next = c.loop-e.next in
    let k = c.place_of-passed.result in
    let w = c.loop-e.invariant.walked in
    let is = same_there gone i e none c.loop-e-test.true in
    let rest = take_rest es next in
    let there = subst (λ (ys : List Extent). (k < length ys) × ((d : Extent) → (get_or ys k d).offset ≡ e.offset)) rest (c.is_at.ensures.yes c.if-not-is_at.false) in
    let before = subst (λ (ys : List Extent). LiesBefore e.offset ys k) rest c.place_of-passed.ensures.before in
    let x = get_or (drop next es) k none in
    let at = same_there (drop next es) k x none there.0 in
    let start = c.end_of_last-start.ensures ∙ ap (λ (ys : List Extent). last_end c.loop-e.start (take k ys)) rest in
    let end = c.start_of_first-end.ensures ∙ ap (first_start q) (take_rest es (next + k + 1)) in
    let past = walked_past q es gone c.requires.laid c.requires.rising i next c.loop-e.start e c.loop-e-test.true is w k x there.0 at (there.1 none) before in
    record {
      least = c.with_gap-least.ensures
          ∙ ap (λ s. gap_among c.loop-e.least s c.start_of_first-end.result n) start
          ∙ ap (λ s. gap_among c.loop-e.least (last_end c.loop-e.start (take k (drop next es))) s n) end
          ∙ ap (λ (l : Option ℕ). gap_among l (last_end c.loop-e.start (take k (drop next es))) (first_start q (drop (next + k + 1) es)) n) c.loop-e.invariant.least
          ∙ sym (gap_now q es gone c.requires.laid c.requires.rising i next c.loop-e.start e c.loop-e-test.true is w k x there.0 at (there.1 none) before n);
      walked = subst (IsWalked es gone (i + 1) (next + k + 1)) (sym start) past;
    }
