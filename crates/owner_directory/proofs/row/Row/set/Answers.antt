use Rattle.std.proofs.Common.{sym, ap, ◌∙◌}
use Rattle.std.specs.BTreeMap.{insert_entry}
use Rattle.std.specs.Option.{option_copied_mut}
use Rattle.obj_id.specs.Ids.{id_cmp}
use Rattle.private_store.specs.rules.Directory.{entries_at, entry_placed, with_entries}
use Rattle.owner_directory.specs.Locations.{Locations, is_longer}
use Rattle.owner_directory.proofs.Objects.{set_absent, set_ok, set_err, entries_at-found, entries_at-absent, first_is_longer}
use Rattle.owner_directory.proofs.row.Row.set.Goals as goal

pub returns-in-Some-clause-ok : goal.returns-in-Some-clause-ok
returns-in-Some-clause-ok c =
    let found = sym c.get_mut.ensures.value ∙ ap option_copied_mut c.in-Some.is in
    set_ok c.args.id c.self.inside.objects.entries _ c.args.entry c.in-Some.entries.now c.put.new.self _ c.put.result c.self.invariant c.self.view_is found (c.get_mut.follows.holds c.put.new.self).0 c.put.ensures.ok

pub returns-in-Some-clause-err : goal.returns-in-Some-clause-err
returns-in-Some-clause-err c =
    let found = sym c.get_mut.ensures.value ∙ ap option_copied_mut c.in-Some.is in
    set_err c.args.id c.self.inside.objects.entries _ c.in-Some.entries.now c.put.new.self _ c.put.result c.self.view_is found (c.get_mut.follows.holds c.put.new.self).0 c.put.ensures.err

pub returns-clause-ok : goal.returns-clause-ok
returns-clause-ok c =
    let after : Locations → Locations = λ t. with_entries t c.args.id (entry_placed c.args.entry (entries_at t c.args.id)) in
    let none = sym c.get_mut.ensures.value ∙ ap option_copied_mut c.in_default.is in
    let first = c.in_ok-put.ensures.ok ∙ ap (entry_placed c.args.entry) c.new-entries.ensures in
    c.in_ok-insert.ensures.entries
    ∙ ap (λ m. insert_entry id_cmp m.entries c.args.id c.put-2.new.self) c.get_mut.follows.holds-at-none
    ∙ ap (insert_entry id_cmp c.self.inside.objects.entries c.args.id) first
    ∙ set_absent c.args.id c.self.inside.objects.entries c.self.invariant c.args.entry none
    ∙ ap after c.self.view_is

pub returns-in-Some-clause-succeeds : goal.returns-in-Some-clause-succeeds
returns-in-Some-clause-succeeds c =
    let found = sym c.get_mut.ensures.value ∙ ap option_copied_mut c.in-Some.is in
    let same = ap (λ t. entries_at t c.args.id) (sym c.self.view_is) ∙ entries_at-found c.args.id c.self.inside.objects.entries c.in-Some.entries.now found in
    λ short. c.put.ensures.succeeds (ap (λ xs. is_longer (entry_placed c.args.entry xs) xs) (sym same) ∙ short)

pub returns-in_err-put-clause-succeeds : goal.returns-in_err-put-clause-succeeds
returns-in_err-put-clause-succeeds c =
    let none = sym c.get_mut.ensures.value ∙ ap option_copied_mut c.in_default.is in
    let same = ap (λ t. entries_at t c.args.id) (sym c.self.view_is) ∙ entries_at-absent c.args.id c.self.inside.objects.entries none in
    λ short. absurd (first_is_longer c.args.entry _ same short)

pub returns-in_err-insert-clause-succeeds : goal.returns-in_err-insert-clause-succeeds
returns-in_err-insert-clause-succeeds c =
    let none = sym c.get_mut.ensures.value ∙ ap option_copied_mut c.in_default.is in
    let same = ap (λ t. entries_at t c.args.id) (sym c.self.view_is) ∙ entries_at-absent c.args.id c.self.inside.objects.entries none in
    λ short. absurd (first_is_longer c.args.entry _ same short)
