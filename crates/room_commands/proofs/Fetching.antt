-- A row takes Get of an object that isn't there, and of one that is on its way.
use Rattle.std.proofs.Common.{◌≡◌, ℕ, suc, ◌+◌, Bool, true, false, not, cond, ◌||◌, ◌==◌, List, [], ◌∷◌, ◌++◌, map, take, length, Option, Some, None, is_some, option_map, unwrap_or, refl, sym, ap, subst, ◌∙◌}
use Rattle.std.specs.Prelude.{if◌then◌else◌, find, option_to_list}
use Rattle.std.specs.List.{list_any}
use Rattle.std.specs.Option.{option_map_or}
use Rattle.std.proofs.lemmas.Bool.{eqb-true}
use Rattle.obj_id.specs.declared.works.WorkKind.TheVariants.{Write, Read}
use Rattle.obj_id.specs.declared.ids.ObjectId.{ObjectId}
use Rattle.obj_id.specs.declared.messages.DirectoryMessage.TheVariants.{Locate}
use Rattle.obj_id.specs.declared.refusals.Refusal.{Refusal}
use Rattle.obj_id.specs.declared.refusals.Refusal.TheVariants.{BadSize, Pending, Absent}
use Rattle.obj_id.specs.declared.commands.Command.TheVariants as command
use Rattle.obj_id.specs.declared.commands.Reply.TheVariants as reply
use Rattle.obj_id.specs.Ids.{same_id}
use Rattle.store_facts.proofs.Ids.{same_id-equal}
use Rattle.private_store.specs.declared.faults.FetchFault.{FetchFault}
use Rattle.private_store.specs.declared.inputs.Input.{Input}
use Rattle.private_store.specs.declared.inputs.Input.TheVariants as input
use Rattle.obj_id.specs.declared.messages.PeerMessage.TheVariants.{Pull}
use Rattle.private_store.specs.rules.Tables.{at, with_entry, is_among}
use Rattle.private_store.specs.laws.Invariants.{has_grant}
use Rattle.private_store.specs.rules.Shape.{Copy, Shape, Change, Fetch, Phase, locating, sized, pulling, failed, locate, pull}
use Rattle.private_store.specs.rules.Copies.{extent_of, was_sealed}
use Rattle.private_store.specs.rules.Room.{drop_copy}
use Rattle.private_store.specs.rules.Extents.{is_size}
use Rattle.private_store.specs.rules.Step.{step}
use Rattle.private_store.specs.rules.Change.{refused, erasing, keys_gone}
use Rattle.private_store.specs.rules.Commands.{fetch_checks, is_length, fetch_refusal, fetched_copy, fetch_begun, get_fetching}
use Rattle.private_store.specs.rules.Contents.{Contents, View, judge, is_sized, keeps_digest, no_digest}
use Rattle.private_store.specs.rules.Private.{Post, key_of, to_directory, to_peer, pull_of, pull_posts}
use Rattle.private_store.specs.rules.Shared.{first_refusal}
use Rattle.store_facts.proofs.Checks.{checked-true}
use Rattle.obj_id.specs.declared.commands.CopyState.TheVariants.{Fetching}
use Rattle.private_store.specs.laws.Invariants.{is_fetching, is_remembered}
use Rattle.store_facts.proofs.Filling.{filled}
use Rattle.store_facts.proofs.Rows.{at-put, at-put_here}
use Rattle.store_facts.proofs.Tests.{some_value, none_some, true_false, false_true, T_true}
use Rattle.job_region.specs.Region.{region_bytes_at as placed_bytes}
use Rattle.lru_evictor.specs.Orders.{AreThere, last_used}
use Rattle.lru_evictor.proofs.ForCallers.{reordered-used}
use Rattle.row_copy.specs.CopyViews.{CopyView, fetched_copy_view}
use Rattle.job_row.specs.Row.{Row, copies_of, place_of, ArePlaced}
use Rattle.job_row.specs.Dropping.{dropped}
use Rattle.job_row.specs.Checks.{fetch_check}
use Rattle.row_steps.specs.Shown.{seen, work_on, IsShown, RowGiven, only, RowStep}
use Rattle.row_steps.proofs.ForCallers.{unless_refused, by-checks, needing-by, sending-is, there_with, keys_with, TakesChange, moved, shown_now, view_then, stays, telling, tells, same_moves, same_bytes, received_stays, key_dropped, change_left, moves_left}
use Rattle.job_row.proofs.ForCallers.{at-copies_none, at-copies_found, copies-with}
use Rattle.room_commands.proofs.Orders.{there_last, listed_last, last_listed}
use Rattle.room_commands.proofs.Getting.{by_copy, get_is, get_at}
use Rattle.row_steps.specs.Beside.{SharedTables, shape_of}

pub length-map : {A B : Type 0} (f : A → B) (xs : List A) → length (map f xs) ≡ length xs
length-map f [] = refl
length-map f (a ∷ xs) = ap (λ n. suc n) (length-map f xs)

pub nothing_found : {A : Type 0} (p : A → Bool) (xs : List A) → list_any p xs ≡ false → find p xs ≡ None
nothing_found p [] e = refl
nothing_found p (a ∷ xs) e = by (p a) (nothing_found p xs) e
  where
    by : (b : Bool) → (list_any p xs ≡ false → find p xs ≡ None) → b || list_any p xs ≡ false → cond b (Some a) (find p xs) ≡ None
    by true rest e = false_true e
    by false rest e = rest e

module _ (node : ℕ) (row : Row) (beside : SharedTables) (contents : Contents) (session : ℕ) (id : ObjectId) (mine : (id.job.0 == row.job) ≡ true) (alive : is_remembered row.ended_tasks id.task ≡ false) (h : IsShown row beside contents) (none : at row.copies id ≡ None) where
  abbrev store : Shape
  store = shape_of row beside

  abbrev number : ℕ
  number = row.fetches_begun + 1

  abbrev c : Change
  c = record (refused (fetch_begun store id number) Pending) { sent = locate id number ∷ []; used = Some id }

  change_is : by_copy node row beside contents session id mine alive h (at store.copies id) ≡ unless_refused store (fetch_check row.copies row.fetches_begun) c
  change_is =
      ap (by_copy node row beside contents session id mine alive h) (at-copies_none row.copies id none)
      ∙ by-checks store (fetch_checks (length store.copies) row.fetches_begun) _ c (ap (λ (d : Change). record d { used = Some id }) (sending-is (locate id number ∷ []) (refused (fetch_begun store id number) Pending)))
      ∙ ap (λ n. unless_refused store (first_refusal (fetch_checks n row.fetches_begun)) c) (length-map (λ e. (e.0, e.1.copy)) row.copies)

  pub fetch_refused : (r : Refusal) → fetch_check row.copies row.fetches_begun ≡ Some r → RowStep node row beside contents (input.Call session (command.Get id)) (only (reply.Refused r)) row beside
  fetch_refused r e =
      stays node row beside contents h (input.Call session (command.Get id)) (reply.Refused r)
      (get_is node row beside contents session id mine alive h ∙ ap (erasing store) (change_is ∙ ap (λ o. unless_refused store o c) e)) refl refl refl

  abbrev pub row_begun : Row
  row_begun = record row { copies = with_entry row.copies id (fetched_copy_view number); order = last_used id row.order; fetches_begun = number }

  abbrev pub response : RowGiven
  response = record { reply = reply.Refused Pending; posts = to_directory (Locate id node number); erased = [] }

  copies_is : with_entry (copies_of row.copies) id (fetched_copy number) ≡ copies_of row_begun.copies
  copies_is = sym (copies-with row.copies id (fetched_copy_view number))

  there_now : AreThere (copies_of row_begun.copies) row.order
  there_now = subst (λ t. AreThere t row.order) copies_is (there_with (copies_of row.copies) id (fetched_copy number) row.order h.there)

  here : is_some (at (copies_of row_begun.copies) id) ≡ true
  here = ap (λ t. is_some (at t id)) (sym copies_is) ∙ ap is_some (at-put_here (copies_of row.copies) id (fetched_copy number))

  -- the new copy, or one that was there
  module _ (q : ObjectId) (y : CopyView) (e : at row_begun.copies q ≡ Some y) where
    looked : cond (same_id q id) (Some (fetched_copy_view number)) (at row.copies q) ≡ Some y
    looked = sym (at-put row.copies id (fetched_copy_view number) q) ∙ e

    pub of_each : (P : CopyView → Type 0) → (same_id q id ≡ true → P (fetched_copy_view number)) → (at row.copies q ≡ Some y → P y) → P y
    of_each P new old = by (same_id q id) refl looked
      where
        by : (b : Bool) → same_id q id ≡ b → cond b (Some (fetched_copy_view number)) (at row.copies q) ≡ Some y → P y
        by true t is = subst P (some_value (fetched_copy_view number) y is) (new t)
        by false t is = old is

  no_grant : has_grant beside.given id ≡ false
  no_grant = h.kept.kept.shape.grants_of_copies id (eqb-true id.job.0 row.job mine) (at-copies_none row.copies id none)

  no_work : work_on beside.works id ≡ None
  no_work = ap (option_map (λ w. if w.writes then Write else Read)) (nothing_found (λ w. same_id id w.id) beside.works (h.kept.kept.shape.works_of_copies id (at-copies_none row.copies id none)))

  m : TakesChange node row beside contents h (input.Call session (command.Get id)) (erasing store c) response row_begun beside
  m = record {
    shape = ap (λ t. record store { copies = t; fetches_begun = number }) copies_is;
    order = sym (reordered-used row.order (copies_of row_begun.copies) id there_now);
    there = there_last (copies_of row_begun.copies) id row.order there_now here;
    listed = λ q y e. of_each q y e (λ z. is_among (last_used id row.order) q ≡ true)
        (λ t. ap (is_among (last_used id row.order)) (same_id-equal q id t) ∙ last_listed id row.order)
        (λ old. listed_last id q row.order (h.listed q y old));
    bytes = λ q y e there lies. of_each q y there (λ z. extent_of z.copy ≡ Some e → filled (at contents.bytes q) z.copy ≡ take z.copy.length (placed_bytes e row.window.placed))
        (λ t lies. none_some e lies) (λ old lies. same_bytes node row beside contents h (input.Call session (command.Get id)) q y e old lies) lies;
    digests = λ q y there keeps. of_each q y there (λ z. keeps_digest z.copy ≡ true → unwrap_or (at contents.digests q) no_digest ≡ unwrap_or z.digest no_digest)
        (λ t keeps. true_false keeps) (λ old keeps. h.digests q y old keeps) keeps;
    working = λ q y there. of_each q y there (λ z. z.working ≡ work_on beside.works q)
        (λ t. sym (ap (work_on beside.works) (same_id-equal q id t) ∙ no_work)) (λ old. h.working q y old);
    granted = λ q y there. of_each q y there (λ z. z.granted ≡ has_grant beside.given q)
        (λ t. sym (ap (has_grant beside.given) (same_id-equal q id t) ∙ no_grant)) (λ old. h.granted q y old);
    received = received_stays node row beside contents h (input.Call session (command.Get id)) refl;
    reply = refl;
    erased = sym (ap (map (key_of row.job)) (keys_with (copies_of row.copies) id (fetched_copy number)));
  }

  pub fetch_done : fetch_check row.copies row.fetches_begun ≡ None → RowStep node row beside contents (input.Call session (command.Get id)) response row_begun beside
  fetch_done passed =
      moved node row beside contents h (input.Call session (command.Get id)) (erasing store c)
      (get_is node row beside contents session id mine alive h ∙ ap (erasing store) (change_is ∙ ap (λ o. unless_refused store o c) passed)) response row_begun beside m refl

-- ---- an object that is on its way

module _ (node : ℕ) (row : Row) (beside : SharedTables) (contents : Contents) (session : ℕ) (id : ObjectId) (mine : (id.job.0 == row.job) ≡ true) (alive : is_remembered row.ended_tasks id.task ≡ false) (h : IsShown row beside contents)
    (k : CopyView) (found : at row.copies id ≡ Some k) (unmarked : k.copy.doomed ≡ false) (is : k.copy.state ≡ Fetching) where
  abbrev s : Shape
  s = shape_of row beside

  abbrev x : Input
  x = input.Call session (command.Get id)

  -- what Get does by the fetch
  abbrev by_fetch : Option Fetch → Change
  by_fetch o = option_map_or (λ fetch. get_fetching row.order s id k.copy fetch fetch.phase) o (refused s Absent)

  fetch_is : (o : Option Fetch) → k.copy.fetch ≡ o → step row.order s (judge node (seen row beside contents) x) ≡ erasing s (by_fetch o)
  fetch_is o e =
      get_at node row beside contents session id mine alive h k found unmarked Fetching is
      ∙ ap (erasing s) (needing-by s k.copy.fetch Absent (λ fetch. get_fetching row.order s id k.copy fetch fetch.phase) ∙ ap by_fetch e)

  pub unfetched_told : k.copy.fetch ≡ None → RowStep node row beside contents x (only (reply.Refused Absent)) row beside
  unfetched_told none = stays node row beside contents h x (reply.Refused Absent) (fetch_is None none) refl refl refl

  module _ (f : Fetch) (fetched : k.copy.fetch ≡ Some f) where
    pub phase_is : (phase : Phase) → f.phase ≡ phase → step row.order s (judge node (seen row beside contents) x) ≡ erasing s (get_fetching row.order s id k.copy f phase)
    phase_is phase e = fetch_is (Some f) fetched ∙ ap (λ p. erasing s (get_fetching row.order s id k.copy f p)) e

    -- the answer Pending, and these messages
    abbrev pub pending : List Post → RowGiven
    pending posts = record { reply = reply.Refused Pending; posts = posts; erased = [] }

    pub located_again : f.phase ≡ locating → (posts : List Post) → posts ≡ to_directory (Locate id node f.number) → RowStep node row beside contents x (pending posts) row beside
    located_again at posts said =
        tells node row beside contents h x (reply.Refused Pending) (locate id f.number ∷ []) posts refl refl refl
        (phase_is locating at ∙ ap (erasing s) (sending-is (locate id f.number ∷ []) (refused s Pending))) said

    module _ (source : ℕ) (missing : List ℕ) (at_pulling : f.phase ≡ pulling source missing) (posts : List Post) where
      asks : step row.order s (judge node (seen row beside contents) x) ≡ telling node row beside contents h x (reply.Refused Pending) (pull id ∷ [])
      asks = phase_is (pulling source missing) at_pulling ∙ ap (erasing s) (sending-is (pull id ∷ []) (refused s Pending))

      abbrev now : View
      now = view_then node row beside contents h x (telling node row beside contents h x (reply.Refused Pending) (pull id ∷ [])) asks (pending posts) row beside (same_moves node row beside contents h x (reply.Refused Pending) (pull id ∷ []) posts refl refl refl)

      shown : IsShown row beside now.contents
      shown = shown_now node row beside contents h x (telling node row beside contents h x (reply.Refused Pending) (pull id ∷ [])) asks (pending posts) row beside (same_moves node row beside contents h x (reply.Refused Pending) (pull id ∷ []) posts refl refl refl)

      keeps : keeps_digest k.copy ≡ true
      keeps =
          ap (λ st. cond (was_sealed st) true (option_map_or (λ (fetch : Fetch). is_sized fetch.phase) k.copy.fetch false)) is
          ∙ ap (λ o. option_map_or (λ (fetch : Fetch). is_sized fetch.phase) o false) fetched ∙ ap is_sized at_pulling

      pull_is : pull_posts now id ≡ to_peer source (Pull id f.number k.copy.length (unwrap_or k.digest no_digest) missing) ∷ []
      pull_is =
          ap (λ p. option_map_or (λ (copy : Copy). option_map_or (λ fetch. pull_of now id copy fetch fetch.phase) copy.fetch []) p []) (at-copies_found row.copies id k found)
          ∙ ap (λ p. option_map_or (λ fetch. pull_of now id k.copy fetch fetch.phase) p []) fetched
          ∙ ap (pull_of now id k.copy f) at_pulling
          ∙ ap (λ d. to_peer source (Pull id f.number k.copy.length d missing) ∷ []) (shown.digests id k found keeps)

      pub pulled_again : posts ≡ to_peer source (Pull id f.number k.copy.length (unwrap_or k.digest no_digest) missing) ∷ [] → RowStep node row beside contents x (pending posts) row beside
      pulled_again said = tells node row beside contents h x (reply.Refused Pending) (pull id ∷ []) posts refl refl refl asks (said ∙ sym (ap (λ ps. ps ++ []) pull_is))

    pub bad_size : (source : ℕ) → f.phase ≡ sized source → is_size row.window.quota k.copy.length ≡ false → RowStep node row beside contents x (only (reply.Refused BadSize)) row beside
    bad_size source at bad =
        stays node row beside contents h x (reply.Refused BadSize)
        (phase_is (sized source) at ∙ ap (erasing s) (checked-true s (not (is_length s k.copy.length)) BadSize [] _ (ap not bad))) refl refl refl

    -- a fetch that failed is answered, and its copy is removed
    module _ (fault : FetchFault) (at_end : f.phase ≡ failed fault) (placed : ArePlaced row.window.placed (place_of row.copies)) where
      abbrev tells_of : RowGiven
      tells_of = only (reply.Refused (fetch_refusal fault))

      -- what is fetched isn't on the device
      unbacked : k.copy.backed ≡ None
      unbacked =
          let kept = h.kept.kept.shape.each id k.copy (at-copies_found row.copies id k found) in
          (kept.secondary (kept.fetched (ap is_fetching is))).2

      abbrev keys : List ℕ
      keys = keys_gone s.copies (drop_copy s id).copies

      no_keys : keys ≡ []
      no_keys = key_dropped s.copies id k.copy (T_true _ h.kept.kept.shape.by_id) (at-copies_found row.copies id k found) ∙ ap option_to_list unbacked

      pub failed_told : RowStep node row beside contents x tells_of (dropped row id) beside
      failed_told =
          let c = telling node row beside contents h x (reply.Refused (fetch_refusal fault)) [] in
          let m = same_moves node row beside contents h x (reply.Refused (fetch_refusal fault)) [] [] refl refl refl in
          moved node row beside contents h x (change_left node row beside contents h x c tells_of row beside m refl placed id keys)
          (phase_is (failed fault) at_end) tells_of (dropped row id) beside
          (moves_left node row beside contents h x c tells_of row beside m refl placed id keys tells_of refl (sym (ap (map (key_of row.job)) no_keys))) refl
