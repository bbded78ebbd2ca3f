use Rattle.std.proofs.Common.{◌≡◌, ℕ, ◌+◌, ◌-◌, zero, suc, not, filter, refl, sym, subst, ap, ◌∙◌, arith}
use Rattle.spill_work.specs.Line.{WorkLine, TakesBack, used_by, is_at}
use Rattle.spill_work.specs.Numbers.{AreWorksNumbered, last_number_of}
use Rattle.spill_work.proofs.Counted.{one_at, taken_back_kept}
use Rattle.spill_work.proofs.LineLemmas.{takes_back}
use Rattle.spill_work.proofs.Works.take_back.Goals as goal

some : (n : ℕ) → (n ≡ 0 → ⊥) → n - 1 + 1 ≡ n
some zero none = absurd (none refl)
some (suc n) none = omega arith

pub invariant_of-self : goal.invariant_of-self
invariant_of-self c =
    let job = c.args.job in
    let last = c.args.number - 1 in
    let next : last + 1 ≡ c.args.number = some c.args.number c.if-number-eq0.false in
    let was : last_number_of c.self.inside.used.entries job ≡ last + 1 = ap (λ line. used_by line job) c.self.view_is ∙ sym c.asked.ensures.last ∙ c.if-asked-number.false ∙ sym next in
    let updates = c.count_back.ensures.updates in
    subst (λ works. AreWorksNumbered works c.count_back.new.used.entries) (sym c.take_out.ensures)
    (subst (λ n. AreWorksNumbered (filter (λ w. not (is_at job n w)) c.self.inside.line) c.count_back.new.used.entries) next
    (taken_back_kept job last c.self.inside.line c.self.inside.used.entries c.count_back.new.used.entries c.self.invariant was updates.1 updates.2))

pub returns : goal.returns
returns c =
    let job = c.args.job in
    let last = c.args.number - 1 in
    let next : last + 1 ≡ c.args.number = some c.args.number c.if-number-eq0.false in
    let was : last_number_of c.self.inside.used.entries job ≡ last + 1 = ap (λ line. used_by line job) c.self.view_is ∙ sym c.asked.ensures.last ∙ c.if-asked-number.false ∙ sym next in
    let old : WorkLine = record { works = c.self.inside.line; used = c.self.inside.used.entries } in
    let new : WorkLine = record { works = c.take_out.new.self; used = c.count_back.new.used.entries } in
    let updates = c.count_back.ensures.updates in
    let out = c.take_out.ensures ∙ ap (λ n. filter (λ w. not (is_at job n w)) c.self.inside.line) (sym next) in
    subst (λ line. TakesBack line job c.args.number new) c.self.view_is
    (subst (λ n. TakesBack old job n new) next
    (takes_back old new job last was (one_at c.self.inside.line c.self.inside.used.entries c.self.invariant job (last + 1))
    out c.count_back.ensures.entries updates.2))
