use Rattle.std.proofs.Common.{◌≡◌, ◌∙◌, Some, sym, ap}
use Rattle.plain_store.specs.Fits.{is_room_without}
use Rattle.plain_store.proofs.Shortest.{found, none, room_stays}
use Rattle.plain_store.proofs.store.PlainStore.shortest.Goals as goal

pub returns-in_default : goal.returns-in_default
returns-in_default c =
    let store = c.args.self.now.shape in
    sym (none (is_room_without store c.args.length c.args.out.now) (room_stays store c.args.length c.args.out.now) c.args.ids.now (rw c.in_default.is at c.in_ok-bracket.ensures.none))

pub returns : goal.returns
returns c =
    let count = c.in_ok-count.ensures in
    ap Some c.in_ok-copied.ensures.items
    ∙ sym (found (is_room_without c.args.self.now.shape c.args.length c.args.out.now) c.args.ids.now c.in_ok-count.count count.within count.enough count.few)
