use Rattle.std.proofs.Common.{◌≡◌, ℕ, List, [], length, take, Option, Some, nat_eq, sym, ap, subst, ◌∙◌, unwrap_or, arith}
use Rattle.std.specs.Prelude.{IsSomeAnd}
use Rattle.std.specs.Map.{lookup}
use Rattle.obj_id.specs.declared.works.Extent.{Extent}
use Rattle.private_store.specs.rules.Contents.{digest_of}
use Rattle.job_region.specs.Layout.{zipped}
use Rattle.job_region.specs.Region.{Region, IsAt}
use Rattle.job_region.proofs.Bisected.{laid_rising}
use Rattle.job_region.proofs.Zipped.{some_of}
use Rattle.job_region.proofs.Window.digest_of.Goals as goal

pub buffer_at-requires-clause-rising : goal.buffer_at-requires-clause-rising
buffer_at-requires-clause-rising c =
    rw c.deref.ensures.value (laid_rising c.self.inside.quota 0 c.self.inside.extents.items c.self.invariant.laid)

pub buffer_at-requires-clause-filled : goal.buffer_at-requires-clause-filled
buffer_at-requires-clause-filled c =
    rw c.deref.ensures.value c.self.invariant.filled

pub buffer_at-requires-clause-there : goal.buffer_at-requires-clause-there
buffer_at-requires-clause-there c =
    let w = c.self.inside in
    let placed = ap (λ (r : Region). r.placed) c.self.view_is in
    let o = c.args.extent.now.offset in
    rw c.deref.ensures.value (some_of _ (lookup (nat_eq o) (zipped w.extents.items w.buffers.items)) (subst (IsAt c.args.extent.now) (sym placed) c.requires.there))

pub digest_of-requires : goal.digest_of-requires
digest_of-requires c =
    let w = c.self.inside in
    let placed = ap (λ (r : Region). r.placed) c.self.view_is in
    let o = c.args.extent.now.offset in
    let found : lookup (nat_eq o) c.args.self.now.placed ≡ Some c.buffer_at.result.now =
    ap (lookup (nat_eq o)) (sym placed)
    ∙ ap (λ (es : List Extent). lookup (nat_eq o) (zipped es w.buffers.items)) (sym c.deref.ensures.value)
    ∙ c.buffer_at.ensures in
    let whole = subst (λ (x : Option (List ℕ)). IsSomeAnd x (λ bytes. length bytes ≡ c.args.extent.now.length)) found c.requires.there in
    omega (arith, whole, c.requires.len)

pub returns : goal.returns
returns c =
    let w = c.self.inside in
    let placed = ap (λ (r : Region). r.placed) c.self.view_is in
    let o = c.args.extent.now.offset in
    let found : lookup (nat_eq o) c.args.self.now.placed ≡ Some c.buffer_at.result.now =
    ap (lookup (nat_eq o)) (sym placed)
    ∙ ap (λ (es : List Extent). lookup (nat_eq o) (zipped es w.buffers.items)) (sym c.deref.ensures.value)
    ∙ c.buffer_at.ensures in
    c.digest_of.ensures ∙ ap (λ (x : Option (List ℕ)). digest_of (take c.args.len (unwrap_or x []))) (sym found)
