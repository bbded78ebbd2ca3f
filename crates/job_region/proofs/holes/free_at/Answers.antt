use Rattle.std.proofs.Common.{◌≡◌, ◌+◌, ℕ, sym, ap, ◌∙◌, arith, length}
use Rattle.obj_id.specs.declared.works.Extent.{Extent}
use Rattle.job_region.specs.Gaps.{gaps, mend_holes, stretch}
use Rattle.job_region.specs.Layout.{without_extent}
use Rattle.job_region.proofs.Bisected.{laid_rising}
use Rattle.job_region.proofs.Back.{none_taken, gaps_back, length_without, found_at}
use Rattle.job_region.proofs.Free.{stretch_lies}
use Rattle.job_region.proofs.Places.{taken_laid}
use Rattle.job_region.proofs.holes.free_at.Goals as goal

pub take_out-requires-clause-rising : goal.take_out-requires-clause-rising
take_out-requires-clause-rising c = laid_rising c.args.quota 0 c.args.extents.now.items c.requires.laid

pub returns-in_default-clause-free : goal.returns-in_default-clause-free
returns-in_default-clause-free c =
    let same = c.take_out.ensures.left ∙ none_taken c.args.offset c.args.extents.now.items (sym c.take_out.ensures.taken ∙ c.in_default.is) in
    c.requires.free ∙ ap (gaps c.args.quota 0) (sym same)

pub returns-in_default-clause-spare : goal.returns-in_default-clause-spare
returns-in_default-clause-spare c =
    let same = c.take_out.ensures.left ∙ none_taken c.args.offset c.args.extents.now.items (sym c.take_out.ensures.taken ∙ c.in_default.is) in
    omega (arith, ap (length {A = Extent}) same)

pub stretch-start-requires-clause-laid : goal.stretch-start-requires-clause-laid
stretch-start-requires-clause-laid c = rw (c.deref.ensures.value, c.take_out.ensures.left) (taken_laid c.args.quota 0 c.args.offset c.args.extents.now.items c.requires.laid)

pub overflow_add-offset : goal.overflow_add-offset
overflow_add-offset c =
    let there = found_at c.args.quota c.args.offset c.in-Some.extent 0 c.args.extents.now.items c.requires.laid (sym c.take_out.ensures.taken ∙ c.in-Some.is) in
    omega (arith, there.1, c.requires.small)

pub mend-requires : goal.mend-requires
mend-requires c =
    let left = without_extent c.args.offset c.args.extents.now.items in
    let lies = stretch_lies c.args.quota 0 c.args.offset left (taken_laid c.args.quota 0 c.args.offset c.args.extents.now.items c.requires.laid) in
    let round = c.stretch-start.ensures ∙ ap (stretch c.args.quota 0 c.args.offset) (c.deref.ensures.value ∙ c.take_out.ensures.left) in
    let start = ap (λ (p : ℕ × ℕ). p.0) round in
    let end = ap (λ (p : ℕ × ℕ). p.1) round in
    (omega (arith, lies.1, start, end), omega (arith, lies.1, lies.2, start, c.requires.small))

pub returns-clause-free : goal.returns-clause-free
returns-clause-free c =
    let q = c.args.quota in
    let o = c.args.offset in
    let es = c.args.extents.now.items in
    let e = c.in-Some.extent in
    let left = without_extent o es in
    let there = sym c.take_out.ensures.taken ∙ c.in-Some.is in
    let round : c.stretch-start.result ≡ stretch q 0 o left = c.stretch-start.ensures ∙ ap (stretch q 0 o) (c.deref.ensures.value ∙ c.take_out.ensures.left) in
    c.mend.ensures
    ∙ ap (λ (p : ℕ × ℕ). mend_holes p.0 (o + e.length) p.1 c.args.holes.now) round
    ∙ ap (mend_holes (stretch q 0 o left).0 (o + e.length) (stretch q 0 o left).1) c.requires.free
    ∙ sym (gaps_back q o e 0 es c.requires.laid there)
    ∙ ap (gaps q 0) (sym c.take_out.ensures.left)

pub returns-clause-spare : goal.returns-clause-spare
returns-clause-spare c =
    let less = length_without c.args.quota c.args.offset c.in-Some.extent c.args.extents.now.items (sym c.take_out.ensures.taken ∙ c.in-Some.is) in
    let same = ap (length {A = Extent}) c.take_out.ensures.left in
    grind (arith, less, same, c.in-Some-pop.ensures.len, c.in-Some-pop.ensures.rest, c.in-Some-pop.ensures.cases)
