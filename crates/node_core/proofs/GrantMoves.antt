-- An event, and what it moves of grants.
use Rattle.std.proofs.Common.{◌≡◌, Some, refl, sym, ap, ◌∙◌}
use Rattle.std.specs.Option.{option_map_or}
use Rattle.obj_id.specs.declared.commands.Command.TheVariants as command
use Rattle.private_store.specs.declared.schedules.Event.{Event}
use Rattle.private_store.specs.declared.schedules.Event.TheVariants as event
use Rattle.node_core.specs.declared.grant_move.GrantMove.{GrantMove}
use Rattle.node_core.specs.GrantMoves.{event_of, grant_move_of}

kept : (e : Event) → option_map_or event_of (grant_move_of e) e ≡ e
kept (event.JobEnd job) = refl
kept (event.Call job session (command.EndTask task)) = refl
kept (event.Call job session (command.Grant id target)) = refl
kept (event.Call job session (command.Withdraw id target)) = refl
kept _ = refl

-- no other event moves so
pub event_is : (e : Event) (m : GrantMove) → grant_move_of e ≡ Some m → event_of m ≡ e
event_is e m moved = ap (λ o. option_map_or event_of o e) (sym moved) ∙ kept e
