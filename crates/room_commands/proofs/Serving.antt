-- A row takes a Pull: what is answered, the chunks that are sent, and a restore for another node.
use Rattle.std.proofs.Common.{◌≡◌, ℕ, Bool, true, false, not, cond, ◌&&◌, ◌==◌, ◌≤◌, List, [], ◌∷◌, ◌++◌, map, filter, flat_map, take, length, Option, Some, None, is_some, option_map, unwrap_or, Result, Ok, Err, refl, sym, ap, subst, ◌∙◌, arith}
use Rattle.std.specs.Prelude.{filter_map, fold}
use Rattle.std.specs.Option.{option_map_or, option_and_then}
use Rattle.std.specs.List.{cons_option}
use Rattle.std.proofs.lemmas.Bool.{eqb-true}
use Rattle.std.proofs.lemmas.Bool.Decides.{nat_tests}
use Rattle.std.proofs.lemmas.List.{append-nil}
use Rattle.obj_id.specs.declared.ids.ObjectId.{ObjectId}
use Rattle.obj_id.specs.declared.works.Extent.{Extent}
use Rattle.obj_id.specs.declared.messages.Arrival.TheVariants as arrival
use Rattle.obj_id.specs.declared.messages.Digest.{Digest}
use Rattle.obj_id.specs.declared.messages.DirectoryMessage.TheVariants.{RemoveLocation}
use Rattle.obj_id.specs.declared.messages.PeerMessage.TheVariants as peer
use Rattle.obj_id.specs.declared.commands.Command.TheVariants as command
use Rattle.obj_id.specs.declared.commands.CopyState.{CopyState}
use Rattle.obj_id.specs.declared.commands.CopyState.TheVariants.{Created, Sealed, Restoring, Fetching, Away}
use Rattle.obj_id.specs.declared.commands.Reply.TheVariants as reply
use Rattle.obj_id.specs.declared.refusals.Refusal.{Refusal}
use Rattle.obj_id.specs.declared.refusals.Refusal.TheVariants.{Pending, DeviceFailed, TooMany}
use Rattle.obj_id.specs.Kinds.{is_primary}
use Rattle.private_store.specs.declared.faults.Fault.{Fault}
use Rattle.private_store.specs.declared.inputs.Input.{Input}
use Rattle.private_store.specs.declared.inputs.Input.TheVariants as input
use Rattle.private_store.specs.rules.Tables.{ById, at}
use Rattle.private_store.specs.rules.Shape.{Copy, Shape, Change, Fetch, Sending, remove_location, chunks, not_here}
use Rattle.private_store.specs.rules.Copies.{was_sealed, extent_of}
use Rattle.private_store.specs.rules.Extents.{rounded}
use Rattle.private_store.specs.rules.Room.{Room, Plan, fits, wait, full, busy, evict, spill, asked, room_by, no_room, make_room, eviction_notice}
use Rattle.private_store.specs.rules.Change.{refused, done, sending, erasing, in_room}
use Rattle.private_store.specs.rules.Commands.{restore, restoring}
use Rattle.private_store.specs.rules.Events.{quiet, pull_arrived}
use Rattle.private_store.specs.rules.Events as events
use Rattle.private_store.specs.rules.Step.{order_after}
use Rattle.private_store.specs.rules.Contents.{Contents, View, digest_at, no_digest, same_digest, is_sized, pull_matches, judge, contents_after, whole_reply}
use Rattle.private_store.specs.laws.Invariants.{IsViewKept, is_remembered, has_extent}
use Rattle.private_store.specs.rules.Private.{Post, posts_of, to_directory, to_peer, chunks_asked, key_of, view_step, view_after}
use Rattle.store_facts.proofs.Checks.{checked_has}
use Rattle.store_facts.proofs.ErasedKeys.{keys_none, all_found}
use Rattle.store_facts.proofs.StepsKept.{view_keeps}
use Rattle.store_facts.proofs.Tests.{true_false, both_left, both_right}
use Rattle.job_region.specs.Region.{region_bytes_at as placed_bytes}
use Rattle.row_copy.specs.CopyViews.{CopyView, was_sealed_with}
use Rattle.job_row.specs.Row.{Row, copies_of}
use Rattle.room_commands.specs.Serving.{answer_by, row_pull_answer, chunks_to}
use Rattle.row_steps.specs.Shown.{seen, IsShown, RowGiven, only, RowStep}
use Rattle.room_commands.specs.declared.pulls.PullAnswer.{PullAnswer}
use Rattle.room_commands.specs.declared.pulls.PullAnswer.TheVariants as pull
use Rattle.row_steps.proofs.ForCallers.{live_is, ignored, sending-is, change, telling, same_moves, shown_now, tells}
use Rattle.job_row.proofs.ForCallers.{at-copies_none, at-copies_found}
use Rattle.room_commands.proofs.Faults.{fault_is}
use Rattle.room_commands.proofs.Rooms.{in_room-is}
use Rattle.row_steps.specs.Beside.{SharedTables, shape_of}

-- no more chunks are sent than were asked for
pub few_chunks : {X Y Z : Type 0} (p : X → Bool) (f : X → Y) (g : Y → Z) (xs : List X) → length (map g (map f (filter p xs))) ≤ length xs
few_chunks p f g [] = omega arith
few_chunks p f g (x ∷ xs) = by (p x) (few_chunks p f g xs)
  where
    by : (b : Bool) → length (map g (map f (filter p xs))) ≤ length xs → length (map g (map f (cond b (x ∷ filter p xs) (filter p xs)))) ≤ length (x ∷ xs)
    by true few = grind (arith, few)
    by false few = grind (arith, few)

-- ---- which copy is asked for

abbrev shows : PullAnswer → Bool
shows pull.NotHere = false
shows _ = true

-- the copy that is answered for
pub record IsAsked (k : CopyView) (n : ℕ) (digest : Digest) (answer : PullAnswer) : Type 0 where
  pub unmarked : k.copy.doomed ≡ false
  pub matches : was_sealed_with n digest k ≡ true
  pub answered : answer_by k.copy.state k.copy.fault ≡ answer

asked_parts : (k : CopyView) (n : ℕ) (digest : Digest) (answer : PullAnswer) → shows answer ≡ true → row_pull_answer n digest (Some k) ≡ answer → IsAsked k n digest answer
asked_parts k n digest answer shown e = by k.copy.doomed (was_sealed_with n digest k) refl refl e
  where
    by : (d m : Bool) → k.copy.doomed ≡ d → was_sealed_with n digest k ≡ m → cond (not d && m) (answer_by k.copy.state k.copy.fault) pull.NotHere ≡ answer → IsAsked k n digest answer
    by true m is same e = true_false (ap shows e ∙ shown)
    by false false is same e = true_false (ap shows e ∙ shown)
    by false true is same e = record { unmarked = is; matches = same; answered = e }

sealed_answer : (st : CopyState) (fault : Option Fault) → answer_by st fault ≡ pull.Chunks → st ≡ Sealed
sealed_answer Created fault e = absurd cc
sealed_answer Sealed fault e = refl
sealed_answer Restoring fault e = absurd cc
sealed_answer Fetching fault e = absurd cc
sealed_answer Away None e = absurd cc
sealed_answer Away (Some f) e = absurd cc

away_answer : (st : CopyState) (fault : Option Fault) → answer_by st fault ≡ pull.Restore → (st ≡ Away) × (fault ≡ None)
away_answer Created fault e = absurd cc
away_answer Sealed fault e = absurd cc
away_answer Restoring fault e = absurd cc
away_answer Fetching fault e = absurd cc
away_answer Away None e = (refl, refl)
away_answer Away (Some f) e = absurd cc

-- the copy that is to be read back
pub record Restores (copies : ById CopyView) (id : ObjectId) (n : ℕ) (digest : Digest) : Type 0 where
  pub k : CopyView
  pub found : at copies id ≡ Some k
  pub asked : IsAsked k n digest pull.Restore
  pub is : k.copy.state ≡ Away
  pub sound : k.copy.fault ≡ None

pub restores : (copies : ById CopyView) (id : ObjectId) (n : ℕ) (digest : Digest) → row_pull_answer n digest (at copies id) ≡ pull.Restore → Restores copies id n digest
restores copies id n digest e = by (at copies id) refl e
  where
    by : (o : Option CopyView) → at copies id ≡ o → row_pull_answer n digest o ≡ pull.Restore → Restores copies id n digest
    by None none e = absurd cc
    by (Some k) found e =
        let a = asked_parts k n digest pull.Restore refl e in
        let away = away_answer k.copy.state k.copy.fault a.answered in
        record { k = k; found = found; asked = a; is = away.0; sound = away.1 }

-- ---- what a restore sends

-- what is sent is of evictions alone, and no key is erased
record Removes (c : Change) : Type 0 where
  ids : List ObjectId
  sent : c.sent ≡ map remove_location ids
  erased : c.erased ≡ []

removals_in : (store : Shape) (ids : List ObjectId) → (gone : List ObjectId) × (filter_map (eviction_notice store) ids ≡ map remove_location gone)
removals_in store [] = ([], refl)
removals_in store (id ∷ ids) = by (at store.copies id) (removals_in store ids)
  where
    by : (o : Option Copy) → (gone : List ObjectId) × (filter_map (eviction_notice store) ids ≡ map remove_location gone)
        → (gone : List ObjectId) × (cons_option (option_map_or (λ (copy : Copy). cond (is_primary copy.kind) None (Some (remove_location id))) o None) (filter_map (eviction_notice store) ids) ≡ map remove_location gone)
    by None rest = rest
    by (Some copy) rest = elim (is_primary copy.kind) as (λ b. (gone : List ObjectId) × (cons_option (cond b None (Some (remove_location id))) (filter_map (eviction_notice store) ids) ≡ map remove_location gone)) [
      | true ↦ rest
      | false ↦ (id ∷ rest.0, ap (λ sent. remove_location id ∷ sent) rest.1)
    ]

room_removals : (store : Shape) (n : ℕ) (plan : Plan) → (gone : List ObjectId) × ((room_by store n plan).sent ≡ map remove_location gone)
room_removals store n fits = ([], refl)
room_removals store n wait = ([], refl)
room_removals store n full = ([], refl)
room_removals store n busy = ([], refl)
room_removals store n (evict ids) = removals_in store ids
room_removals store n (spill ids) = by store.spill_failed _
  where
    by : (b d : Bool) → (gone : List ObjectId) × ((cond b (no_room (record store { spill_failed = false }) DeviceFailed) (cond d (no_room (fold (asked true) store ids) Pending) (no_room store TooMany))).sent ≡ map remove_location gone)
    by true d = ([], refl)
    by false true = ([], refl)
    by false false = ([], refl)

restore_removes : (order : List ObjectId) (store : Shape) (id : ObjectId) (copy : Copy) → Removes (restore order store id copy)
restore_removes order store id copy =
    checked_has Removes store _ _ nothing (checked_has Removes store _ _ nothing (placed (make_room order store copy.length) (room_removals store copy.length _)))
  where
    nothing : (r : Refusal) → Removes (refused store r)
    nothing r = record { ids = []; sent = refl; erased = refl }

    placed : (room : Room) → (gone : List ObjectId) × (room.sent ≡ map remove_location gone) → Removes (in_room room (restoring id copy))
    placed room gone = subst Removes (sym (in_room-is room (restoring id copy) ∙ sending-is room.sent _)) (by room.offset)
      where
        by : (o : Result ℕ Refusal) → Removes (let d = elim o as (λ _. Change) [ Ok offset ↦ restoring id copy room.shape offset | Err refusal ↦ refused room.shape refusal ] in record d { sent = room.sent ++ d.sent })
        by (Ok offset) = record { ids = gone.0; sent = append-nil room.sent ∙ gone.1; erased = refl }
        by (Err refusal) = record { ids = gone.0; sent = append-nil room.sent ∙ gone.1; erased = refl }

-- that is sent the same for whatever input, and whatever the store then is
same_removals : (node : ℕ) (v w : View) (x y : Input) (ids : List ObjectId) → flat_map (posts_of node v x) (map remove_location ids) ≡ flat_map (posts_of node w y) (map remove_location ids)
same_removals node v w x y [] = refl
same_removals node v w x y (id ∷ ids) = ap (λ posts. to_directory (RemoveLocation id node) ++ posts) (same_removals node v w x y ids)

-- ---- whether it matches

module _ (row : Row) (beside : SharedTables) (contents : Contents) (h : IsShown row beside contents) (id : ObjectId) (n : ℕ) (digest : Digest) where
  abbrev matches_of : Option Copy → Bool
  matches_of o = option_map_or (λ (copy : Copy). was_sealed copy.state && copy.length == n && same_digest digest (digest_at contents.digests id)) o false

  matches_found : (k : CopyView) → at row.copies id ≡ Some k → pull_matches (seen row beside contents) id n digest ≡ was_sealed_with n digest k
  matches_found k found = ap matches_of (at-copies_found row.copies id k found) ∙ by (was_sealed k.copy.state) refl
    where
      by : (b : Bool) → was_sealed k.copy.state ≡ b → (was_sealed k.copy.state && k.copy.length == n && same_digest digest (digest_at contents.digests id)) ≡ was_sealed_with n digest k
      by true e =
          ap (λ d. was_sealed k.copy.state && k.copy.length == n && same_digest digest d)
          (h.digests id k found (ap (λ b. cond b true (option_map_or (λ (fetch : Fetch). is_sized fetch.phase) k.copy.fetch false)) e))
      by false e =
          ap (λ b. b && k.copy.length == n && same_digest digest (digest_at contents.digests id)) e
          ∙ sym (ap (λ b. b && k.copy.length == n && same_digest digest (unwrap_or k.digest no_digest)) e)

  pub matches_is : pull_matches (seen row beside contents) id n digest ≡ option_map_or (was_sealed_with n digest) (at row.copies id) false
  matches_is = by (at row.copies id) refl
    where
      by : (o : Option CopyView) → at row.copies id ≡ o → pull_matches (seen row beside contents) id n digest ≡ option_map_or (was_sealed_with n digest) o false
      by None none = ap matches_of (at-copies_none row.copies id none)
      by (Some k) found = matches_found k found

-- ---- the step

module _ (node : ℕ) (row : Row) (beside : SharedTables) (contents : Contents) (h : IsShown row beside contents) (from : ℕ) (id : ObjectId) (number n : ℕ) (digest : Digest) (indexes : List ℕ) where
  abbrev s : Shape
  s = shape_of row beside

  abbrev pub x : Input
  x = input.Arrive (arrival.FromPeer from (peer.Pull id number n digest indexes))

  abbrev before : View
  before = seen row beside contents

  abbrev nowhere : Change
  nowhere = sending (not_here id ∷ []) (done s)

  -- what a Pull that matches or not makes of the copy that is shown
  abbrev arrived_by : Bool → Option Copy → Change
  arrived_by m o = option_map_or (λ (copy : Copy). cond m (events.pull_answer row.order s id copy) nowhere) o nowhere

  abbrev shown_copy : Option Copy → Option Copy
  shown_copy o = option_and_then (λ (copy : Copy). cond copy.doomed None (Some copy)) o

  abbrev by_answer : PullAnswer → Copy → Change
  by_answer pull.NotHere copy = nowhere
  by_answer pull.Chunks copy = sending (chunks id ∷ []) (done s)
  by_answer pull.Nothing copy = done s
  by_answer pull.Restore copy = quiet s (restore row.order s id copy)

  pull_is : change node row beside contents h x ≡ arrived_by (pull_matches before id n digest) (shown_copy (at s.copies id))
  pull_is = live_is node row beside contents h x refl (pull_arrived row.order s id (pull_matches before id n digest))

  module _ (k : CopyView) (found : at row.copies id ≡ Some k) where
    by_state : (st : CopyState) (fault : Option Fault) → events.pull_answer row.order s id (record k.copy { state = st; fault = fault }) ≡ by_answer (answer_by st fault) (record k.copy { state = st; fault = fault })
    by_state Created fault = refl
    by_state Sealed fault = refl
    by_state Restoring fault = refl
    by_state Fetching fault = refl
    by_state Away None = refl
    by_state Away (Some f) = refl

    by_marks : (d m : Bool) → arrived_by m (cond d None (Some k.copy)) ≡ by_answer (cond (not d && m) (answer_by k.copy.state k.copy.fault) pull.NotHere) k.copy
    by_marks true m = refl
    by_marks false false = refl
    by_marks false true = by_state k.copy.state k.copy.fault

    found_is : change node row beside contents h x ≡ by_answer (row_pull_answer n digest (Some k)) k.copy
    found_is =
        pull_is ∙ ap (λ o. arrived_by (pull_matches before id n digest) (shown_copy o)) (at-copies_found row.copies id k found)
        ∙ ap (λ m. arrived_by m (shown_copy (Some k.copy))) (matches_found row beside contents h id n digest k found) ∙ by_marks k.copy.doomed (was_sealed_with n digest k)

  none_is : at row.copies id ≡ None → change node row beside contents h x ≡ nowhere
  none_is none = pull_is ∙ ap (λ o. arrived_by (pull_matches before id n digest) (shown_copy o)) (at-copies_none row.copies id none)

  -- the store stays, and this is sent
  sent_is : (sent : List Sending) → sending sent (done s) ≡ telling node row beside contents h x reply.Ok sent
  sent_is sent =
      sending-is sent (done s) ∙ ap (λ l. record (done s) { sent = l }) (append-nil sent)
      ∙ ap (λ ks. record (done s) { sent = sent; erased = ks }) (sym (keys_none (copies_of row.copies) (copies_of row.copies) (all_found (copies_of row.copies))))

  pub not_here_done : row_pull_answer n digest (at row.copies id) ≡ pull.NotHere
      → RowStep node row beside contents x (record { reply = reply.Ok; posts = to_peer from (peer.NotHere id number) ∷ []; erased = [] }) row beside
  not_here_done e =
      tells node row beside contents h x reply.Ok (not_here id ∷ []) (to_peer from (peer.NotHere id number) ∷ []) refl refl refl (by (at row.copies id) refl e ∙ sent_is (not_here id ∷ [])) refl
    where
      by : (o : Option CopyView) → at row.copies id ≡ o → row_pull_answer n digest o ≡ pull.NotHere → change node row beside contents h x ≡ nowhere
      by None none e = none_is none
      by (Some k) found e = found_is k found ∙ ap (λ a. by_answer a k.copy) e

  pub nothing_done : row_pull_answer n digest (at row.copies id) ≡ pull.Nothing → RowStep node row beside contents x (only reply.Ok) row beside
  nothing_done e = by (at row.copies id) refl e
    where
      by : (o : Option CopyView) → at row.copies id ≡ o → row_pull_answer n digest o ≡ pull.Nothing → RowStep node row beside contents x (only reply.Ok) row beside
      by None none e = absurd cc
      by (Some k) found e = ignored node row beside contents h x refl (found_is k found ∙ ap (λ a. by_answer a k.copy) e) refl refl

  -- ---- chunks

  extent_at : (k : CopyView) (o : Option ℕ) → k.copy.offset ≡ o → is_some o ≡ true → (e : Extent) × (extent_of k.copy ≡ Some e)
  extent_at k (Some p) is there = (record { offset = p; length = rounded k.copy.length }, ap (option_map (λ p. record { offset = p; length = rounded k.copy.length })) is)
  extent_at k None is there = true_false there

  module _ (posts : List Post)
      (asked : (k : CopyView) (e : Extent) → at row.copies id ≡ Some k → extent_of k.copy ≡ Some e → posts ≡ chunks_to (take k.copy.length (placed_bytes e row.window.placed)) from id number indexes) where
    chunks_at : (k : CopyView) → at row.copies id ≡ Some k → row_pull_answer n digest (Some k) ≡ pull.Chunks → RowStep node row beside contents x (record { reply = reply.Ok; posts = posts; erased = [] }) row beside
    chunks_at k found e =
        let a = asked_parts k n digest pull.Chunks refl e in
        let st = sealed_answer k.copy.state k.copy.fault a.answered in
        let of = h.kept.kept.shape.each id k.copy (at-copies_found row.copies id k found) in
        let there : is_some k.copy.offset ≡ true = of.resident ∙ ap (λ st. has_extent st k.copy.fetch) st in
        let lies = extent_at k k.copy.offset refl there in
        let bytes : List ℕ = take k.copy.length (placed_bytes lies.0 row.window.placed) in
        let long : length bytes ≡ n =
        sym (ap length (h.bytes id k lies.0 found lies.1)) ∙ (h.kept.kept.filled.each id k.copy (at-copies_found row.copies id k found)).bytes there
        ∙ eqb-true k.copy.length n (both_right (was_sealed k.copy.state) _ (both_left (was_sealed k.copy.state && k.copy.length == n) _ a.matches)) in
        let is = found_is k found ∙ ap (λ a. by_answer a k.copy) e ∙ sent_is (chunks id ∷ []) in
        let c = telling node row beside contents h x reply.Ok (chunks id ∷ []) in
        let response : RowGiven = record { reply = reply.Ok; posts = posts; erased = [] } in
        let shown = shown_now node row beside contents h x c is response row beside (same_moves node row beside contents h x reply.Ok (chunks id ∷ []) posts refl refl refl) in
        tells node row beside contents h x reply.Ok (chunks id ∷ []) posts refl refl refl is
        (asked k lies.0 found lies.1
        ∙ ap (λ m. map (to_peer from) (chunks_asked bytes id number m indexes)) long
        ∙ ap (λ b. map (to_peer from) (chunks_asked b id number n indexes)) (sym (shown.bytes id k lies.0 found lies.1))
        ∙ sym (append-nil _))

    pub chunks_done : row_pull_answer n digest (at row.copies id) ≡ pull.Chunks → RowStep node row beside contents x (record { reply = reply.Ok; posts = posts; erased = [] }) row beside
    chunks_done e = by (at row.copies id) refl e
      where
        by : (o : Option CopyView) → at row.copies id ≡ o → row_pull_answer n digest o ≡ pull.Chunks → RowStep node row beside contents x (record { reply = reply.Ok; posts = posts; erased = [] }) row beside
        by None none e = absurd cc
        by (Some k) found e = chunks_at k found e

  -- ---- a restore for another node

  module _ (e : row_pull_answer n digest (at row.copies id) ≡ pull.Restore) where
    abbrev read : Restores row.copies id n digest
    read = restores row.copies id n digest e

    abbrev copy : Copy
    copy = read.k.copy

    -- what is asked for is the job's own, of a task that hasn't ended
    pub own_restored : (id.job.0 == row.job) ≡ true
    own_restored = let own = (h.kept.kept.shape.each id copy (at-copies_found row.copies id read.k read.found)).own in grind (arith, nat_tests, own)

    pub alive_restored : is_remembered row.ended_tasks id.task ≡ false
    alive_restored = (h.kept.kept.shape.each id copy (at-copies_found row.copies id read.k read.found)).of_live_task read.asked.unmarked

    module _ (session : ℕ) (response : RowGiven) (new : Row) (after : SharedTables) (t : RowStep node row beside contents (input.Call session (command.Get id)) response new after) where
      abbrev y : Input
      y = input.Call session (command.Get id)

      abbrev c : Change
      c = restore row.order s id copy

      removes : Removes c
      removes = restore_removes row.order s id copy

      by_get : change node row beside contents h y ≡ erasing s c
      by_get = fault_is node row beside contents session id own_restored alive_restored h read.k read.found read.asked.unmarked read.is None read.sound

      by_pull : change node row beside contents h x ≡ quiet s c
      by_pull = found_is read.k read.found ∙ ap (λ a. by_answer a copy) (ap (row_pull_answer n digest) (sym read.found) ∙ e)

      -- that a spill failed is still to be answered
      abbrev quieted : Row
      quieted = record new { spill_failed = row.spill_failed }

      abbrev v : View
      v = (view_step node before x).view

      shape_is : v.shape ≡ shape_of quieted after
      shape_is =
          ap (λ d. d.shape) by_pull
          ∙ ap (λ (z : Shape). record z { spill_failed = row.spill_failed }) (sym (ap (λ d. d.shape) by_get) ∙ t.shape)

      order_is : v.order ≡ new.order
      order_is = ap (order_after row.order) by_pull ∙ sym (ap (order_after row.order) by_get) ∙ t.order

      contents_are : (view_step node before y).view.contents ≡ v.contents
      contents_are =
          ap (λ d. contents_after node before y (judge node before y) d.reply d.shape) by_get
          ∙ sym (ap (λ d. contents_after node before x (judge node before x) d.reply d.shape) by_pull)

      seen_is : v ≡ seen quieted after v.contents
      seen_is =
          ap (λ z. record { shape = z; order = v.order; contents = v.contents }) shape_is
          ∙ ap (λ ids. record { shape = shape_of quieted after; order = ids; contents = v.contents }) order_is

      shown_is : IsShown quieted after v.contents
      shown_is =
          let u = subst (IsShown new after) contents_are t.shown in
          record {
            kept = subst IsViewKept seen_is (view_keeps node before x h.kept);
            there = u.there;
            listed = u.listed;
            bytes = u.bytes;
            digests = u.digests;
            working = u.working;
            granted = u.granted;
            received = u.received;
          }

      posts_are : response.posts ≡ (view_step node before x).posts
      posts_are =
          let vy = view_after node before y (judge node before y) (erasing s c) in
          let vx = view_after node before x (judge node before x) (quiet s c) in
          t.posts
          ∙ ap (λ d. flat_map (posts_of node (view_after node before y (judge node before y) d) y) d.sent) by_get
          ∙ ap (flat_map (posts_of node vy y)) removes.sent
          ∙ same_removals node vy vx y x removes.ids
          ∙ sym (ap (flat_map (posts_of node vx x)) removes.sent)
          ∙ sym (ap (λ d. flat_map (posts_of node (view_after node before x (judge node before x) d) x) d.sent) by_pull)

      pub restored_done : RowStep node row beside contents x (record { reply = reply.Ok; posts = response.posts; erased = [] }) quieted after
      restored_done = record {
        shape = shape_is;
        order = order_is;
        shown = shown_is;
        reply = sym (ap (λ d. whole_reply before x d.reply) by_pull);
        posts = posts_are;
        erased = sym (ap (λ d. map (key_of row.job) d.erased) by_pull ∙ ap (map (key_of row.job)) removes.erased);
      }
