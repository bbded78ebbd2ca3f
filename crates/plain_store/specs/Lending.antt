-- What a lent copy leaves.
use Rattle.std.specs.Prelude.{Option}
use Rattle.std.specs.Borrow.{LendsIf, MutBor, Fml}
use Rattle.obj_id.specs.declared.ids.ObjectId.{ObjectId}
use Rattle.private_store.specs.rules.Shape.{Copy, Seen}
use Rattle.private_store.specs.rules.Replay.{ReplayState}
use Rattle.private_store.specs.rules.Room.{set_copy, drop_copy}
use Rattle.plain_store.specs.contracts.store.PlainStore.{the_row}
use Rattle.plain_store.specs.contracts.copies.PlainCopy.{the_row as copy_row}
use Rattle.plain_store.specs.contracts.job_grants.SeenObject.{the_row as seen_row}
use Rattle.plain_store.specs.Granted.{store_with_seen}

abbrev pub store_with_copy : ReplayState → ObjectId → Copy → ReplayState
store_with_copy replay_state id copy = record replay_state { shape = set_copy replay_state.shape id copy }

-- the store ends with the copy that r leaves under the id, and as it was if there is none
abbrev pub LendsCopy : MutBor ReplayState → ObjectId → Option (MutBor Copy) → Fml
LendsCopy s id r = LendsIf the_row copy_row s r (store_with_copy s.now id) s.now

abbrev pub without_copy : ReplayState → ObjectId → ReplayState
without_copy replay_state id = record replay_state { shape = drop_copy replay_state.shape id }

-- the same of an object that others granted
abbrev pub LendsSeen : MutBor ReplayState → ObjectId → Option (MutBor Seen) → Fml
LendsSeen s id r = LendsIf the_row seen_row s r (store_with_seen s.now id) s.now
