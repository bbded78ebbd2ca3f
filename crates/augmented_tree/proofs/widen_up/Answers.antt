use Rattle.std.proofs.Common.{◌≡◌, ◌∷◌, sym, ◌∙◌, ap}
use Rattle.std.proofs.lemmas.List.{append-nil}
use Rattle.augmented_tree.proofs.WellOrdered.{summarized, kept_empty, fits_least, widened_up}
use Rattle.augmented_tree.specs.Shape.{items, IsTree, middle as middle_of}
use Rattle.augmented_tree.proofs.widen_up.Goals as goal

pub pop-requires : goal.pop-requires
pop-requires g c = summarized g.T.Keyed.key g.T.Keyed.fits g.T.Keyed.tells c.args.low (middle_of c.args.low c.args.high) c.args.tree.now c.requires.tree

pub returns-in_default : goal.returns-in_default
returns-in_default g c =
    let none = c.in_default.ensures.none in
    (kept_empty g.T.Keyed.key g.T.Keyed.fits g.T.Keyed.tells c.args.low c.args.high c.pop.new.tree none.1, none.1 ∙ sym none.0)

pub summary_with-requires-clause-fits : goal.summary_with-requires-clause-fits
summary_with-requires-clause-fits g c =
    let is : items c.args.tree.now ≡ c.deref.result.now.here ∷ items c.pop.new.tree = rw c.deref.ensures c.in-Some.ensures.some in
    fits_least g.T.Keyed.key g.T.Keyed.fits g.T.Keyed.tells c.args.low c.args.high c.args.tree.now c.pop.new.tree c.deref.result.now.here c.requires.tree is

pub returns : goal.returns
returns g c =
    let is : items c.args.tree.now ≡ c.deref.result.now.here ∷ items c.replace-rest.result = rw (c.deref.ensures, c.replace-rest.ensures.value) c.in-Some.ensures.some in
    let kept : IsTree g.T.Keyed.key g.T.Keyed.fits g.T.Keyed.tells c.args.low (middle_of c.args.low c.args.high) c.replace-rest.result = rw c.replace-rest.ensures.value (c.pop.ensures.tree c.args.low (middle_of c.args.low c.args.high) c.requires.tree) in
    (widened_up g.T.Keyed.key g.T.Keyed.fits g.T.Keyed.tells c.args.low c.args.high c.args.tree.now c.replace-rest.result c.deref.result.now.here c.requires.tree is c.summary_with.result c.requires.range kept c.summary_with.ensures, ap (λ zs. c.deref.result.now.here ∷ zs) (append-nil (items c.replace-rest.result)) ∙ sym is)
