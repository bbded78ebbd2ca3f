use Rattle.std.proofs.Common.{◌∷◌, [], ◌++◌, sym, ap, ◌∙◌}
use Rattle.std.specs.Option.{option_map_or, option_copied_mut}
use Rattle.private_store.specs.rules.Tables.{at, with_entry}
use Rattle.private_store.specs.rules.Shape.{Seen}
use Rattle.store_facts.proofs.ObjectMaps.{at-lookup, with_entry-insert, with_entry-set}
use Rattle.grants.specs.Private.{as_taken}
use Rattle.node_snapshot.proofs.job_grants.add_taken.Goals as goal

pub returns-in-Some : goal.returns-in-Some
returns-in-Some c =
    let table = c.args.seen.now.entries in
    let id = c.id-id.result in
    let found = sym c.get_mut.ensures.value ∙ ap option_copied_mut c.in-Some.is in
    let there = at-lookup id table ∙ found in
    (c.get_mut.follows.holds c.add.new.self).0
    ∙ with_entry-set id table c.in-Some.object.now c.add.new.self c.get_mut.ensures.ordered found
    ∙ ap (with_entry table id) (c.in_ok-add.ensures ∙ (λ i. record { length = c.args.length; grants = option_map_or (λ (s : Seen). s.grants) (sym there i) [] ++ record { grantor = c.grantor.ensures i; depth = c.depth.ensures i } ∷ [] }))
    ∙ ap (λ k. with_entry table k (record { length = c.args.length; grants = option_map_or (λ (s : Seen). s.grants) (at table k) [] ++ as_taken c.args.grant.now ∷ [] })) c.id-id.ensures

pub returns : goal.returns
returns c =
    let at_first = ap (λ m. m.entries) c.get_mut.follows.holds-at-none in
    let before = c.get_mut.follows.lender-at-none.entries in
    let table = c.args.seen.now.entries in
    let id = c.id-id.result in
    let none = at-lookup id table ∙ sym c.get_mut.ensures.value ∙ ap option_copied_mut c.in_default.is in
    let grants = c.in_ok-push.ensures.items ∙ (λ i. (c.new-grants.ensures.items ∙ sym (ap (λ o. option_map_or (λ (s : Seen). s.grants) o []) none)) i ++ record { grantor = c.grantor.ensures i; depth = c.depth.ensures i } ∷ []) in
    c.in_ok-insert.ensures.entries
    ∙ with_entry-insert id before _
    ∙ (λ i. with_entry (at_first i) id (record { length = c.args.length; grants = grants i }))
    ∙ ap (λ k. with_entry table k (record { length = c.args.length; grants = option_map_or (λ (s : Seen). s.grants) (at table k) [] ++ as_taken c.args.grant.now ∷ [] })) c.id-id.ensures
