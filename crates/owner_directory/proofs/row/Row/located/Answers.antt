use Rattle.std.proofs.Common.{sym, ap, ◌∙◌}
use Rattle.std.specs.Option.{option_copied}
use Rattle.private_store.specs.rules.Directory.{entries_at}
use Rattle.owner_directory.proofs.Objects.{entries_at-found, entries_at-absent, ok_follows}
use Rattle.owner_directory.proofs.row.Row.located.Goals as goal

pub returns-in-Some-clause-ok : goal.returns-in-Some-clause-ok
returns-in-Some-clause-ok c =
    let found = sym c.get.ensures.value ∙ ap option_copied c.in-Some.is in
    let same = sym (ap (λ t. entries_at t c.args.id) (sym c.self.view_is) ∙ entries_at-found c.args.id c.self.inside.objects.entries c.in-Some.entries.now found) in
    ok_follows _ _ _ c.to_items.ensures.ok same

pub returns-in-Some-clause-succeeds : goal.returns-in-Some-clause-succeeds
returns-in-Some-clause-succeeds c =
    let found = sym c.get.ensures.value ∙ ap option_copied c.in-Some.is in
    let same = sym (ap (λ t. entries_at t c.args.id) (sym c.self.view_is) ∙ entries_at-found c.args.id c.self.inside.objects.entries c.in-Some.entries.now found) in
    λ none. c.to_items.ensures.succeeds (same ∙ none)

pub returns-in-None-clause-ok : goal.returns-in-None-clause-ok
returns-in-None-clause-ok c =
    let none = sym c.get.ensures.value ∙ ap option_copied c.in-None.is in
    c.new.ensures ∙ sym (entries_at-absent c.args.id c.self.inside.objects.entries none) ∙ ap (λ t. entries_at t c.args.id) c.self.view_is
