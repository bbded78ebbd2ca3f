use Rattle.std.proofs.Common.{sym, ap, subst, ◌∙◌, filter}
use Rattle.std.specs.Prelude.{unwrap_or}
use Rattle.std.specs.Option.{option_map}
use Rattle.std.specs.List.{list_all}
use Rattle.store_facts.proofs.Tests.{none_some}
use Rattle.private_store.specs.laws.Invariants.{IsOrderOfUse}
use Rattle.private_store.specs.rules.Room.{plan}
use Rattle.use_tree.specs.declared.classes.VictimClass.TheVariants.{Evictable}
use Rattle.lru_evictor.specs.Facts.{chosen, passes_at, fits_without}
use Rattle.lru_evictor.specs.Orders.{order_ids}
use Rattle.lru_evictor.specs.Plans.{listed}
use Rattle.lru_evictor.proofs.Planned.{victims-found, evicts-listed}
use Rattle.lru_evictor.proofs.Once.{chosen-once, passes-begins}
use Rattle.lru_evictor.proofs.Shortest.{Begins, shortest-passes, shortest-begins}
use Rattle.lru_evictor.proofs.plans.victims.Goals as goal

pub returns-in-Some-clause-plan : goal.returns-in-Some-clause-plan
returns-in-Some-clause-plan g c store order device of known described evicts =
    let found = ap (option_map (λ v. v.items)) (sym c.in-Some.is) ∙ victims-found store c.args.window.now device (g.C.CopyLookup.facts c.args.copies.now) described c.args.index.now order of known c.args.len c.candidates-candidates.result c.candidates-candidates.ensures.ids c.candidates-candidates.ensures.all
    (option_map (λ v. v.items) c.in_ok-ids.field-0) c.in_ok-ids.ensures ∙ evicts-listed (order_ids order) store c.args.len evicts in
    c.from_vec.ensures ∙ ap (λ o. unwrap_or o c.in-Some.ids.items) found

pub returns-in-None-clause-plan : goal.returns-in-None-clause-plan
returns-in-None-clause-plan g c store order device of known described evicts =
    let found = ap (option_map (λ v. v.items)) (sym c.in-None.is) ∙ victims-found store c.args.window.now device (g.C.CopyLookup.facts c.args.copies.now) described c.args.index.now order of known c.args.len c.candidates-candidates.result c.candidates-candidates.ensures.ids c.candidates-candidates.ensures.all
    (option_map (λ v. v.items) c.in_ok-ids.field-0) c.in_ok-ids.ensures ∙ evicts-listed (order_ids order) store c.args.len evicts in
    none_some (listed (plan (order_ids order) store c.args.len)) found

pub returns-in-Some-clause-room : goal.returns-in-Some-clause-room
returns-in-Some-clause-room g c some =
    let facts = g.C.CopyLookup.facts c.args.copies.now in
    let found = ap (option_map (λ v. v.items)) (sym c.in-Some.is) ∙ c.in_ok-ids.ensures in
    ap (fits_without c.args.window.now facts c.args.len) c.from_vec.ensures
    ∙ shortest-passes (fits_without c.args.window.now facts c.args.len) (chosen facts Evictable c.candidates-candidates.result) c.in-Some.ids.items (sym found)

pub returns-in-Some-clause-evictable : goal.returns-in-Some-clause-evictable
returns-in-Some-clause-evictable g c =
    let facts = g.C.CopyLookup.facts c.args.copies.now in
    let found = ap (option_map (λ v. v.items)) (sym c.in-Some.is) ∙ c.in_ok-ids.ensures in
    ap (list_all (passes_at facts Evictable)) c.from_vec.ensures
    ∙ passes-begins (passes_at facts Evictable) c.candidates-candidates.result c.in-Some.ids.items (shortest-begins (fits_without c.args.window.now facts c.args.len) (chosen facts Evictable c.candidates-candidates.result) c.in-Some.ids.items (sym found))

pub returns-in-Some-clause-once : goal.returns-in-Some-clause-once
returns-in-Some-clause-once g c once =
    let facts = g.C.CopyLookup.facts c.args.copies.now in
    let found = ap (option_map (λ v. v.items)) (sym c.in-Some.is) ∙ c.in_ok-ids.ensures in
    let begins = shortest-begins (fits_without c.args.window.now facts c.args.len) (chosen facts Evictable c.candidates-candidates.result) c.in-Some.ids.items (sym found) in
    subst IsOrderOfUse (sym c.from_vec.ensures)
    (chosen-once c.args.index.now.0 Evictable 4611686018427387904 (passes_at facts Evictable) c.in-Some.ids.items once
    (subst (λ ids. Begins c.in-Some.ids.items (filter (passes_at facts Evictable) ids)) c.candidates-candidates.ensures.ids begins))
