use Rattle.std.proofs.Common.{◌≡◌, IsTrue, sym, subst}
use lib.Pointwise.{pointwise_decides}
use Rattle.journal_replay.proofs.Alike.{granted-Decides}
use Rattle.journal_replay.proofs.replies.same_granted.Goals as goal

pub returns : goal.returns
returns c =
    subst (λ b. (IsTrue b → c.args.items.now ≡ c.args.others.now) × (c.args.items.now ≡ c.args.others.now → IsTrue b)) (sym c.eq.ensures)
    (pointwise_decides granted-Decides c.args.items.now c.args.others.now)
