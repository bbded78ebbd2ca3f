use Rattle.pins_holds.proofs.TaskLemmas.{without_keeps}
use Rattle.pins_holds.proofs.Pins.give_up.Goals as goal

pub invariant_of-self : goal.invariant_of-self
invariant_of-self c =
    without_keeps c.self.inside.kind c.self.inside.pinned c.args.task c.self.inside.borrowers c.remove.new.self c.self.invariant c.remove.ensures
