use Rattle.std.proofs.Common.{◌≡◌, ℕ, List, sym, ap, subst, ◌∙◌}
use mathlib.Core.List.{IsPrefix}
use Rattle.private_store.specs.declared.schedules.Traced.{Traced}
use Rattle.cluster_history.specs.Histories.{count_at, stands_at}
use Rattle.cluster_history.specs.Rules.{MayFollow}
use Rattle.cluster_history.proofs.Adding.{adds_moves}
use Rattle.cluster_history.proofs.place.Place.add.Goals as goal

pub compare_exchange-found-requires : goal.compare_exchange-found-requires
compare_exchange-found-requires g c =
    let h = c.self.invariant.1 in
    let offer = c.plain-offer.ensures in
    let pen = c.no_pen-pen.ensures in
    let known : List Traced = c.self.inside.seen.log in
    let book : c.learn.new.self.book ≡ c.self.inside.word.book = c.learn.ensures.0 ∙ (ap (λ s. s.book) c.again-seen.ensures ∙ (c.self.invariant.0 ∙ sym (ap (λ w. w.book) h))) in
    let begins : IsPrefix known c.learn.new.self.log = subst (λ (l : List Traced). IsPrefix l c.learn.new.self.log) (ap (λ s. s.log) c.again-seen.ensures) c.learn.ensures.2 in
    let also : IsPrefix c.args.after.now c.learn.new.self.log = subst (λ (l : List Traced). IsPrefix l c.learn.new.self.log) c.after.view_is c.learn.ensures.3 in
    let of : stands_at g.S.ClusterShape.nodes (g.M.Plain.ask c.args.entry.now).step ≡ c.self.inside.number =
    subst (λ (p : ℕ × List Traced). stands_at g.S.ClusterShape.nodes (g.M.Plain.ask c.args.entry.now).step ≡ p.0) (sym c.self.view_is) c.requires.here
    in
    let counted : count_at g.S.ClusterShape.nodes c.self.inside.number known ≡ c.args.count =
    subst (λ (p : ℕ × List Traced). count_at g.S.ClusterShape.nodes p.0 p.1 ≡ c.args.count) (sym c.self.view_is) c.requires.counted
    in
    let follows : MayFollow g.S.ClusterShape.nodes g.S.ClusterShape.memory c.self.inside.number known c.learn.new.self.log (g.M.Plain.ask c.args.entry.now) =
    subst (λ (p : ℕ × List Traced). MayFollow g.S.ClusterShape.nodes g.S.ClusterShape.memory p.0 p.1 c.learn.new.self.log (g.M.Plain.ask c.args.entry.now)) (sym c.self.view_is) (c.requires.follows c.learn.new.self.log also)
    in (
      ap (λ w. w.tracked) h,
      book,
      pen.0 ∙ book,
      offer.0,
      rw (ap (λ w. w.key) h, pen.1, offer.1, offer.3 ∙ c.requires.fresh)
          (adds_moves g.S.ClusterShape.nodes g.S.ClusterShape.memory c.self.inside.number c.self.invariant.2 known c.learn.new.self.log begins (g.M.Plain.ask c.args.entry.now) c.args.count of counted follows),
    )
