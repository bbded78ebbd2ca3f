-- A store, or what is seen of an object, with another list.
use Rattle.std.proofs.Common.{List}
use Rattle.obj_id.specs.declared.ids.TaskNo.{TaskNo}
use Rattle.private_store.specs.rules.Tables.{ById}
use Rattle.private_store.specs.rules.Shape.{GrantGiven, GrantTaken, Seen, WorkInFlight}
use Rattle.private_store.specs.rules.Replay.{ReplayState}

abbrev pub with_given : ReplayState → List GrantGiven → ReplayState
with_given replay_state given = record replay_state { shape = record replay_state.shape { given = given } }

abbrev pub with_works : ReplayState → List WorkInFlight → ReplayState
with_works replay_state works = record replay_state { shape = record replay_state.shape { works = works } }

abbrev pub with_received : ReplayState → ById Seen → ReplayState
with_received replay_state received = record replay_state { shape = record replay_state.shape { received = received } }

abbrev pub with_ended : ReplayState → List TaskNo → List GrantGiven → ReplayState
with_ended replay_state ended given = record replay_state { shape = record replay_state.shape { ended_tasks = ended; given = given } }

abbrev pub with_grants : Seen → List GrantTaken → Seen
with_grants seen grants = record seen { grants = grants }
