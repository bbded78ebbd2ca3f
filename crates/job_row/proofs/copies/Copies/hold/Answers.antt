use Rattle.std.proofs.Common.{sym, ap, ◌∙◌}
use Rattle.std.specs.Option.{option_copied_mut}
use Rattle.obj_id.specs.Ids.{id_eq}
use Rattle.job_row.specs.Counted.{footprint_of}
use Rattle.job_row.proofs.Holding.{held_at, unready_at, refused_at, none_at, taken-held}
use Rattle.job_row.proofs.Sums.{taken-same}
use Rattle.job_row.proofs.copies.Copies.hold.Goals as goal

pub invariant_of-self : goal.invariant_of-self
invariant_of-self c = c.self.invariant ∙ sym (ap (λ m. footprint_of m.entries) c.get_mut.follows.holds-at-none)

pub invariant_of-self-2 : goal.invariant_of-self-2
invariant_of-self-2 c =
    taken-same (id_eq c.args.id.now) c.self.inside.by_id.entries _ c.self.inside.taken c.in-Some.copy.now c.hold.new.copy (sym c.get_mut.ensures.value ∙ ap option_copied_mut c.in-Some.is) (c.get_mut.follows.holds c.hold.new.copy).0
    (taken-held c.args.session c.in-Some.copy.now c.hold.new.copy c.hold.result c.hold.ensures.some c.hold.ensures.none c.hold.ensures.refused) c.self.invariant

pub returns-in_default-clause-none : goal.returns-in_default-clause-none
returns-in_default-clause-none c =
    none_at c.args.id.now c.self.inside.by_id.entries c.args.self.now _ c.self.view_is (sym c.get_mut.ensures.value ∙ ap option_copied_mut c.in_default.is) (ap (λ m. m.entries) c.get_mut.follows.holds-at-none)

pub returns-clause-some : goal.returns-clause-some
returns-clause-some c =
    held_at c.args.session c.args.id.now c.self.inside.by_id.entries c.args.self.now c.self.view_is c.in-Some.copy.now c.hold.new.copy (sym c.get_mut.ensures.value ∙ ap option_copied_mut c.in-Some.is) _ (c.get_mut.follows.holds c.hold.new.copy).0 c.hold.result c.hold.ensures.some

pub returns-clause-none : goal.returns-clause-none
returns-clause-none c =
    unready_at c.args.session c.args.id.now c.self.inside.by_id.entries c.args.self.now c.self.view_is c.in-Some.copy.now c.hold.new.copy (sym c.get_mut.ensures.value ∙ ap option_copied_mut c.in-Some.is) _ (c.get_mut.follows.holds c.hold.new.copy).0 c.hold.result c.hold.ensures.none

pub returns-clause-refused : goal.returns-clause-refused
returns-clause-refused c =
    refused_at c.args.session c.args.id.now c.self.inside.by_id.entries c.args.self.now c.self.view_is c.in-Some.copy.now c.hold.new.copy (sym c.get_mut.ensures.value ∙ ap option_copied_mut c.in-Some.is) _ (c.get_mut.follows.holds c.hold.new.copy).0 c.hold.result c.hold.ensures.refused
