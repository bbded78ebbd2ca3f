use Rattle.std.proofs.Common.{sym, ap, ◌∙◌, ◌≡◌, []}
use Rattle.std.specs.Option.{option_copied_mut}
use Rattle.std.specs.Map.{set_value}
use Rattle.private_store.specs.rules.Tables.{without_entry}
use Rattle.private_store.specs.rules.Directory.{entries_at, with_entries, without_node}
use Rattle.owner_directory.specs.Locations.{Locations}
use Rattle.store_facts.proofs.ObjectMaps.{is_id}
use Rattle.owner_directory.proofs.Objects.{removed_some, removed_last, removed_absent, true_or_not}
use Rattle.owner_directory.proofs.row.Row.remove.Goals as goal

pub returns-in_default : goal.returns-in_default
returns-in_default c =
    let after : Locations → Locations = λ t. with_entries t c.args.id (without_node c.args.node (entries_at t c.args.id)) in
    let none = sym c.get_mut.ensures.value ∙ ap option_copied_mut c.in_default.is in
    ap (λ m. m.entries) c.get_mut.follows.holds-at-none ∙ removed_absent c.args.id c.self.inside.objects.entries c.args.node none ∙ ap after c.self.view_is

pub returns-then-is_empty : goal.returns-then-is_empty
returns-then-is_empty c =
    let after : Locations → Locations = λ t. with_entries t c.args.id (without_node c.args.node (entries_at t c.args.id)) in
    let xs = c.in-Some.entries.now in
    let found = sym c.get_mut.ensures.value ∙ ap option_copied_mut c.in-Some.is in
    let wrote = c.get_mut.follows.holds c.remove.new.self in
    let none = sym c.remove.ensures ∙ c.is_empty.ensures.0 c.if-is_empty.true in
    c.free.ensures ∙ ap (λ t. without_entry t c.args.id) (wrote.0 ∙ ap (set_value (is_id c.args.id) c.self.inside.objects.entries) c.remove.ensures)
    ∙ removed_last c.args.id c.self.inside.objects.entries c.self.invariant c.args.node xs found none ∙ ap after c.self.view_is

pub returns-else-is_empty : goal.returns-else-is_empty
returns-else-is_empty c =
    let after : Locations → Locations = λ t. with_entries t c.args.id (without_node c.args.node (entries_at t c.args.id)) in
    let xs = c.in-Some.entries.now in
    let found = sym c.get_mut.ensures.value ∙ ap option_copied_mut c.in-Some.is in
    let wrote = c.get_mut.follows.holds c.remove.new.self in
    let some : (c.remove.new.self ≡ []) → ⊥ = true_or_not _ c.is_empty.ensures c.if-is_empty.false in
    wrote.0 ∙ ap (set_value (is_id c.args.id) c.self.inside.objects.entries) c.remove.ensures
    ∙ removed_some c.args.id c.self.inside.objects.entries c.self.invariant c.args.node xs found (λ e. some (c.remove.ensures ∙ e)) ∙ ap after c.self.view_is
