use Rattle.std.proofs.Common.{◌≡◌, ◌==◌, ◌++◌, ◌+◌, true, List, [], ◌∷◌, ◌<◌, is_some, sym, ap, subst, ◌∙◌, cond, Some}
use Rattle.std.specs.Prelude.{if◌then◌else◌, unwrap_or, option_map}
use Rattle.std.specs.Map.{lookup}
use Rattle.std.specs.Option.{option_copied_mut}
use Rattle.private_store.specs.rules.Jobs.{same_job}
use Rattle.private_store.specs.rules.Cluster.{Sent}
use Rattle.indexmap.specs.IndexMap.{spare}
use Rattle.world_core.specs.Logs.{Log, has_places, messages_of, sent_of}
use Rattle.world_core.proofs.Logging.{log_room, fresh_room, map_room, places_left, room_in, sent_more}
use Rattle.world_core.proofs.Numbers.{itself}
use Rattle.world_core.proofs.messages.Messages.send.Goals as goal

pub push-requires : goal.push-requires
push-requires c =
    let found = sym c.get_mut.ensures.value ∙ ap option_copied_mut c.in-Some.is in
    log_room c.args.self.now c.args.job 1 c.requires c.in-Some.log.now (ap (λ m. lookup (same_job c.args.job) m.logs) (sym c.self.view_is) ∙ found)

pub returns-in-Some-clause-sent : goal.returns-in-Some-clause-sent
returns-in-Some-clause-sent c = λ other.
    let logs = c.self.inside.logs.entries in
    let more : List Sent = record { from = c.args.from; to = c.args.to; message = c.args.message } ∷ [] in
    let found = sym c.get_mut.ensures.value ∙ ap option_copied_mut c.in-Some.is in
    let wrote = c.get_mut.follows.holds c.push.new.self in
    sent_more c.args.job logs (c.get_mut.follows.lender c.push.new.self).entries c.push.new.self more (wrote.3 (ap is_some found)).0
    (c.push.ensures.sent ∙ ap (λ o. unwrap_or (option_map (λ (log : Log). log.sent) o) [] ++ more) (sym found)) other
    ∙ ap (λ m. if c.args.job.0 == other then sent_of (messages_of m.logs) other ++ more else sent_of (messages_of m.logs) other) c.self.view_is

pub returns-in-Some-clause-room : goal.returns-in-Some-clause-room
returns-in-Some-clause-room c = λ n room.
    let found = sym c.get_mut.ensures.value ∙ ap option_copied_mut c.in-Some.is in
    let wrote = c.get_mut.follows.holds c.push.new.self in
    room_in (c.get_mut.follows.lender c.push.new.self).entries c.args.job n c.push.new.self _
    ((wrote.3 (ap is_some found)).0 c.args.job ∙ ap (λ t. cond t (Some c.push.new.self) (lookup (same_job c.args.job) c.self.inside.logs.entries)) (itself c.args.job.0))
    (places_left n c.in-Some.log.now c.push.new.self c.push.ensures.spare c.push.ensures.links
    (log_room c.args.self.now c.args.job (n + 1) room c.in-Some.log.now (ap (λ m. lookup (same_job c.args.job) m.logs) (sym c.self.view_is) ∙ found)))

pub push-requires-2 : goal.push-requires-2
push-requires-2 c =
    let none = ap (λ m. lookup (same_job c.args.job) m.logs) (sym c.self.view_is) ∙ sym c.get_mut.ensures.value ∙ ap option_copied_mut c.in_default.is in
    subst (λ log. has_places 1 log ≡ true) (ap (λ m. m.fresh) (sym c.self.view_is) ∙ sym c.replace-log.ensures.value) (fresh_room c.args.self.now c.args.job 1 c.requires none)

pub unwrap-requires : goal.unwrap-requires
unwrap-requires c =
    let none = ap (λ m. lookup (same_job c.args.job) m.logs) (sym c.self.view_is) ∙ sym c.get_mut.ensures.value ∙ ap option_copied_mut c.in_default.is in
    c.insert.ensures.succeeds (subst (λ n. 0 < n) (ap (λ m. m.spare) (sym c.self.view_is) ∙ ap (λ m. spare m) (sym c.get_mut.follows.holds-at-none)) (map_room c.args.self.now c.args.job 1 c.requires none))

pub returns-clause-sent : goal.returns-clause-sent
returns-clause-sent c = λ other.
    let more : List Sent = record { from = c.args.from; to = c.args.to; message = c.args.message } ∷ [] in
    let at_first = ap (λ m. m.entries) c.get_mut.follows.holds-at-none in
    let none = ap (lookup (same_job c.args.job)) at_first ∙ sym c.get_mut.ensures.value ∙ ap option_copied_mut c.in_default.is in
    let updates = rw c.unwrap.ensures at c.insert.ensures.updates in
    sent_more c.args.job c.get_mut.follows.lender-at-none.entries c.insert.new.table.entries c.push-2.new.self more updates.0
    (c.push-2.ensures.sent ∙ ap (λ sent. sent ++ more) (ap (λ (log : Log). log.sent) c.replace-log.ensures.value ∙ c.self.invariant) ∙ ap (λ o. unwrap_or (option_map (λ (log : Log). log.sent) o) [] ++ more) (sym none)) other
    ∙ ap (λ es. if c.args.job.0 == other then sent_of (messages_of es) other ++ more else sent_of (messages_of es) other) (at_first ∙ ap (λ m. m.logs) c.self.view_is)

pub returns-clause-room : goal.returns-clause-room
returns-clause-room c = λ n room.
    let none = ap (λ m. lookup (same_job c.args.job) m.logs) (sym c.self.view_is) ∙ sym c.get_mut.ensures.value ∙ ap option_copied_mut c.in_default.is in
    let updates = rw c.unwrap.ensures at c.insert.ensures.updates in
    room_in c.insert.new.table.entries c.args.job n c.push-2.new.self _
    (updates.0 c.args.job ∙ ap (λ t. cond t (Some c.push-2.new.self) (lookup (same_job c.args.job) c.get_mut.follows.lender-at-none.entries)) (itself c.args.job.0))
    (places_left n c.replace-log.result c.push-2.new.self c.push-2.ensures.spare c.push-2.ensures.links
    (subst (λ log. has_places (n + 1) log ≡ true) (ap (λ m. m.fresh) (sym c.self.view_is) ∙ sym c.replace-log.ensures.value) (fresh_room c.args.self.now c.args.job (n + 1) room none)))
