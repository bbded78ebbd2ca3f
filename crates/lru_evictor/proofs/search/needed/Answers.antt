use Rattle.std.proofs.Common.{ℕ, ◌≡◌, ◌-◌, ◌∙◌, sym, take}
use Rattle.std.specs.List.Sorted.{IsPermutation}
use Rattle.lru_evictor.specs.Facts.{fits_without}
use Rattle.lru_evictor.specs.Leavings.{leaving_of, fits_first}
use Rattle.lru_evictor.proofs.Firsts.{fits-first, fits-all}
use Rattle.lru_evictor.proofs.search.needed.Goals as goal

pub bisect-requires-clause-few : goal.bisect-requires-clause-few
bisect-requires-clause-few g c =
    let facts = g.C.CopyLookup.facts c.args.copies.now in
    let now = c.deref-then-branch.result.now in
    let moved : IsPermutation (leaving_of facts 0 c.args.ids.now) now = rw (← c.in_ok-leaving.ensures, c.deref-then-branch.ensures.value) c.sort_leaving.ensures.permutation in
    fits-first c.args.window.now facts c.args.len c.args.ids.now now moved c.args.few ∙ c.requires.few

pub returns-then-branch-clause-found : goal.returns-then-branch-clause-found
returns-then-branch-clause-found g c =
    let facts = g.C.CopyLookup.facts c.args.copies.now in
    let ids = c.args.ids.now in
    let k = c.in_ok-count.count in
    let now = c.deref-then-branch.result.now in
    let moved : IsPermutation (leaving_of facts 0 ids) now = rw (← c.in_ok-leaving.ensures, c.deref-then-branch.ensures.value) c.sort_leaving.ensures.permutation in
    let same : (j : ℕ) → fits_first c.args.window.now c.args.len now j ≡ fits_without c.args.window.now facts c.args.len (take j ids) = fits-first c.args.window.now facts c.args.len ids now moved in
    record {
      within = c.in_ok-count.ensures.0;
      enough = sym (same k) ∙ c.in_ok-count.ensures.1;
      fewer = sym (same (k - 1)) ∙ c.in_ok-count.ensures.2;
    }

pub returns-clause-none : goal.returns-clause-none
returns-clause-none g c =
    let facts = g.C.CopyLookup.facts c.args.copies.now in
    let ids = c.args.ids.now in
    let now = c.deref.result.now in
    let moved : IsPermutation (leaving_of facts 0 ids) now = rw (← c.in_ok-leaving.ensures, c.deref.ensures.value) c.sort_leaving.ensures.permutation in
    fits-all c.args.window.now facts c.args.len ids now moved _ c.in_ok-fits_first.ensures ∙ c.if-branch.false
