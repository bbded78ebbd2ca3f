use Rattle.std.proofs.Common.{◌≡◌, Some, false, [], ◌∷◌, take, length, length-append, arith, ap, ◌∙◌, is_some}
use Rattle.std.proofs.lemmas.List.{take_all, take-append-le}
use Rattle.lru_evictor.specs.Facts.{fits_without}
use Rattle.lru_evictor.specs.Searches.{AreEnough}
use Rattle.lru_evictor.specs.Facts.{chosen}
use Rattle.use_tree.specs.declared.classes.VictimClass.TheVariants.{Evictable}
use Rattle.lru_evictor.proofs.Free.{fits-more}
use Rattle.lru_evictor.proofs.Needed.{found_at_once, found_here, found-last, whole-pushed}
use Rattle.lru_evictor.proofs.search.shortest.Goals as goal

pub returns-then-is_some : goal.returns-then-is_some
returns-then-is_some g c =
    let facts = g.C.CopyLookup.facts c.args.copies.now in
    ap Some c.new-ids.ensures.items
    ∙ found_at_once (fits_without c.args.window.now facts c.args.len) (chosen facts Evictable c.args.candidates) c.is_some.result (c.is_some.ensures ∙ ap is_some c.fits_without.ensures) c.if-is_some.true

pub returns-in-Some-2 : goal.returns-in-Some-2
returns-in-Some-2 g c =
    let facts = g.C.CopyLookup.facts c.args.copies.now in
    let ids = c.push.new.list.items in
    let rest = chosen facts Evictable c.next.new.self in
    let all = chosen facts Evictable c.args.candidates in
    let whole = whole-pushed facts Evictable c.loop-id.ids.items ids c.in-Some.id c.in_ok-push.ensures.items c.loop-id.id-iterator c.next.new.self all c.in-Some.ensures.steps c.if-not-is_evictable.ensures c.loop-id.invariant.whole in
    let needed : AreEnough c.args.window.now facts c.args.len ids c.in-Some-2.count = rw (← c.deref.ensures.value) (rw c.in-Some-2.is at c.in_ok-count.ensures.found) in
    ap Some c.truncate.ensures.items
    ∙ found_here (fits_without c.args.window.now facts c.args.len) (fits-more c.args.window.now facts c.args.len) ids rest all whole c.in-Some-2.count needed.within needed.enough needed.fewer

pub returns : goal.returns
returns g c =
    let facts = g.C.CopyLookup.facts c.args.copies.now in
    let ids = c.loop-id.ids.items in
    let rest = chosen facts Evictable c.loop-id.id-iterator in
    let all = chosen facts Evictable c.args.candidates in
    let is = c.deref-2.ensures.value in
    c.beginning.ensures
    ∙ found-last c.args.window.now facts c.args.len ids rest all c.loop-id.invariant.whole (ap (chosen facts Evictable) c.in-None.ensures.steps.0) c.in_ok-count-2.count (rw (← is) c.in_ok-count-2.ensures.found) (rw (← is) c.in_ok-count-2.ensures.none)

pub needed-requires-clause-few : goal.needed-requires-clause-few
needed-requires-clause-few g c =
    let facts = g.C.CopyLookup.facts c.args.copies.now in
    ap (fits_without c.args.window.now facts c.args.len) (ap (take c.loop-id.few) (c.deref.ensures.value ∙ c.in_ok-push.ensures.items) ∙ take-append-le c.loop-id.few c.loop-id.ids.items (c.in-Some.id ∷ []) c.loop-id.invariant.within)
    ∙ c.loop-id.invariant.few

pub loop-id-preserved-then-left-eq0 : goal.loop-id-preserved-then-left-eq0
loop-id-preserved-then-left-eq0 g c =
    let facts = g.C.CopyLookup.facts c.args.copies.now in
    let items = c.push.new.list.items in
    let long = ap length c.in_ok-push.ensures.items in
    let more = length-append c.loop-id.ids.items (c.in-Some.id ∷ []) in
    let none : fits_without c.args.window.now facts c.args.len items ≡ false = rw (← c.deref.ensures.value) (rw c.in_default.is at c.in_ok-count.ensures.none) in
    record {
      within = omega (arith, c.len-few.ensures);
      few = ap (fits_without c.args.window.now facts c.args.len) (take_all c.len-few.result items (omega (arith, c.len-few.ensures))) ∙ none;
      left = omega (arith, c.len-few.ensures, long, more);
      whole = whole-pushed facts Evictable c.loop-id.ids.items items c.in-Some.id c.in_ok-push.ensures.items c.loop-id.id-iterator c.next.new.self (chosen facts Evictable c.args.candidates) c.in-Some.ensures.steps c.if-not-is_evictable.ensures c.loop-id.invariant.whole;
    }

pub loop-id-preserved : goal.loop-id-preserved
loop-id-preserved g c =
    let facts = g.C.CopyLookup.facts c.args.copies.now in
    let items = c.push.new.list.items in
    let long = ap length c.in_ok-push.ensures.items in
    let more = length-append c.loop-id.ids.items (c.in-Some.id ∷ []) in
    record {
      within = omega (arith, c.loop-id.invariant.within, long, more);
      few = ap (fits_without c.args.window.now facts c.args.len) (ap (take c.loop-id.few) c.in_ok-push.ensures.items ∙ take-append-le c.loop-id.few c.loop-id.ids.items (c.in-Some.id ∷ []) c.loop-id.invariant.within) ∙ c.loop-id.invariant.few;
      left = omega (arith, c.loop-id.invariant.left, c.if-left-eq0.false);
      whole = whole-pushed facts Evictable c.loop-id.ids.items items c.in-Some.id c.in_ok-push.ensures.items c.loop-id.id-iterator c.next.new.self (chosen facts Evictable c.args.candidates) c.in-Some.ensures.steps c.if-not-is_evictable.ensures c.loop-id.invariant.whole;
    }
