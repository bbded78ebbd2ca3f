-- A job's log in place of what was there.
use Rattle.std.proofs.Common.{◌≡◌, ℕ, Bool, true, false, cond, ◌==◌, ◌<◌, ◌≤◌, ◌+◌, nat_lt, List, [], ◌∷◌, ◌++◌, Option, Some, None, refl, sym, ap, ◌∙◌, arith}
use Rattle.std.specs.Prelude.{if◌then◌else◌, nat_le, unwrap_or, option_map, ◌&&◌}
use Rattle.std.specs.Option.{option_map_or}
use Rattle.std.specs.Map.{lookup, set_value}
use Rattle.std.proofs.lemmas.Bool.Decides.{nat_tests}
use Rattle.std.proofs.lemmas.Map.Made.{lookup-map_values}
use Rattle.obj_id.specs.declared.ids.JobNo.{JobNo}
use Rattle.private_store.specs.rules.Jobs.{same_job}
use Rattle.private_store.specs.rules.Cluster.{Sent}
use Rattle.store_facts.proofs.Tests.{some_value, both, both_left, both_right}
use Rattle.world_core.proofs.Numbers.{same_number, is_less}
use Rattle.world_core.specs.Logs.{Log, AllLogs, has_places, has_room, messages_of, sent_of}

le_left : (n a b : ℕ) → a ≤ b + 1 → nat_le (n + 1) a ≡ true → nat_le n b ≡ true
le_left n a b less t = grind (arith, nat_tests)

-- a log with the same messages, in place of one
pub messages_of-set_value : (test : JobNo → Bool) (logs : List (JobNo × Log)) (log new : Log) → lookup test logs ≡ Some log → new.sent ≡ log.sent → messages_of (set_value test logs new) ≡ messages_of logs
messages_of-set_value test [] log new found same = refl
messages_of-set_value test (e ∷ es) log new found same =
    elim (test e.0) as (λ b. cond b (Some e.1) (lookup test es) ≡ Some log → messages_of (cond b ((e.0, new) ∷ es) (e ∷ set_value test es new)) ≡ messages_of (e ∷ es)) [
      | true ↦ λ f. ap (λ sent. (e.0, sent) ∷ messages_of es) (same ∙ ap (λ l. l.sent) (sym (some_value e.1 log f)))
      | false ↦ λ f. ap (λ l. (e.0, e.1.sent) ∷ l) (messages_of-set_value test es log new f same)
    ] found

abbrev pub sent_by : Option Log → List Sent
sent_by o = unwrap_or (option_map (λ log. log.sent) o) []

pub sent_at : (logs : List (JobNo × Log)) (job : JobNo) → sent_of (messages_of logs) job.0 ≡ sent_by (lookup (same_job job) logs)
sent_at logs job = ap (λ o. unwrap_or o []) (lookup-map_values (λ (log : Log). log.sent) (same_job job) logs)

-- what the room for a job's messages is
module _ (all : AllLogs) (job : JobNo) (n : ℕ) (room : has_room all job n ≡ true) where
  room_by : (o : Option Log) → lookup (same_job job) all.logs ≡ o → option_map_or (has_places n) o (nat_lt 0 all.spare && has_places n all.fresh) ≡ true
  room_by o is = ap (λ p. option_map_or (has_places n) p (nat_lt 0 all.spare && has_places n all.fresh)) (sym is) ∙ room

  pub log_room : (log : Log) → lookup (same_job job) all.logs ≡ Some log → has_places n log ≡ true
  log_room log found = room_by (Some log) found

  pub fresh_room : lookup (same_job job) all.logs ≡ None → has_places n all.fresh ≡ true
  fresh_room none = both_right (nat_lt 0 all.spare) (has_places n all.fresh) (room_by None none)

  pub map_room : lookup (same_job job) all.logs ≡ None → 0 < all.spare
  map_room none = is_less 0 all.spare (both_left (nat_lt 0 all.spare) (has_places n all.fresh) (room_by None none))

-- where one message took a place, the others are left
pub places_left : (n : ℕ) (old new : Log) → old.spare ≤ new.spare + 1 → old.links ≤ new.links + 1 → has_places (n + 1) old ≡ true → has_places n new ≡ true
places_left n old new spare links room =
    both (nat_le n new.spare) (nat_le n new.links)
    (le_left n old.spare new.spare spare (both_left (nat_le (n + 1) old.spare) (nat_le (n + 1) old.links) room))
    (le_left n old.links new.links links (both_right (nat_le (n + 1) old.spare) (nat_le (n + 1) old.links) room))

-- the room is that of the job's log
pub room_in : (logs : List (JobNo × Log)) (job : JobNo) (n : ℕ) (log : Log) (otherwise : Bool) → lookup (same_job job) logs ≡ Some log → has_places n log ≡ true → option_map_or (has_places n) (lookup (same_job job) logs) otherwise ≡ true
room_in logs job n log otherwise found places = ap (λ o. option_map_or (has_places n) o otherwise) found ∙ places

-- more messages of a job
module _ (job : JobNo) (old new : List (JobNo × Log)) (after : Log) (more : List Sent) (updated : (q : JobNo) → lookup (same_job q) new ≡ cond (same_job job q) (Some after) (lookup (same_job q) old)) where
  pub sent_more : after.sent ≡ sent_by (lookup (same_job job) old) ++ more
      → (other : ℕ) → sent_of (messages_of new) other ≡ (if job.0 == other then sent_of (messages_of old) other ++ more else sent_of (messages_of old) other)
  sent_more is other =
      let q : JobNo = record { 0 = other } in
      sent_at new q ∙ ap sent_by (updated q)
      ∙ elim (job.0 == other) as (λ b. (job.0 == other) ≡ b → sent_by (cond b (Some after) (lookup (same_job q) old)) ≡ cond b (sent_of (messages_of old) other ++ more) (sent_of (messages_of old) other)) [
        | true ↦ λ t. is ∙ ap (λ sent. sent ++ more) (sym (sent_at old job)) ∙ ap (λ n. sent_of (messages_of old) n ++ more) (same_number job.0 other t)
        | false ↦ λ _. sym (sent_at old q)
      ] refl
