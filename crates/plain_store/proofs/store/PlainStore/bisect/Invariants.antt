use Rattle.std.proofs.Common.{◌-◌}
use Rattle.plain_store.specs.Fits.{IsBracket}
use Rattle.plain_store.proofs.store.PlainStore.bisect.Given as goal

abbrev pub invariant-loop-least : goal.invariant-loop-least
invariant-loop-least l = IsBracket l.self.shape l.length l.out l.ids l.least l.most

abbrev pub decreases-loop-least : goal.decreases-loop-least
decreases-loop-least l = l.most - l.least
