-- What others granted, changed.
use Rattle.std.specs.Prelude.{ℕ, not, if◌then◌else◌, filter}
use Rattle.std.specs.List.{list_any}
use Rattle.std.specs.Option.{option_map_or}
use Rattle.obj_id.specs.declared.ids.ObjectId.{ObjectId}
use Rattle.private_store.specs.rules.Tables.{at, with_entry, without_entry}
use Rattle.private_store.specs.rules.Shape.{Seen}
use Rattle.private_store.specs.rules.Replay.{ReplayState}
use Rattle.private_store.specs.rules.Events.{is_child_of, is_the_grant}

abbrev pub store_with_seen : ReplayState → ObjectId → Seen → ReplayState
store_with_seen replay_state id seen = record replay_state { shape = record replay_state.shape { received = with_entry replay_state.shape.received id seen } }

abbrev pub without_seen : ReplayState → ObjectId → ReplayState
without_seen replay_state id = record replay_state { shape = record replay_state.shape { received = without_entry replay_state.shape.received id } }

-- what is seen by the other grants
abbrev pub with_other_grants : Seen → ℕ → ℕ → Seen
with_other_grants seen grantor depth = record seen { grants = filter (λ grant. not (is_the_grant grantor depth grant)) seen.grants }

-- the grantor's grant at this depth is forgotten, and the object, if no other grant stands
abbrev pub forgotten : ReplayState → ObjectId → ℕ → ℕ → ReplayState
forgotten replay_state id grantor depth =
    option_map_or (λ seen.
    if list_any (λ grant. not (is_the_grant grantor depth grant)) seen.grants then store_with_seen replay_state id (with_other_grants seen grantor depth) else without_seen replay_state id)
    (at replay_state.shape.received id) replay_state

-- without the given grants that hang on the grantor's grant
abbrev pub without_hanging : ReplayState → ObjectId → ℕ → ReplayState
without_hanging replay_state id grantor = record replay_state { shape = record replay_state.shape { given = filter (λ grant. not (is_child_of id grantor grant)) replay_state.shape.given } }
