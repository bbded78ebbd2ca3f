-- A copy whose bytes are asked for at their source, in a place that is made for it.
use Rattle.std.proofs.Common.{◌≡◌, ℕ, nat_le, true, false, not, ◌&&◌, cond, ◌==◌, nat_eq, List, [], ◌∷◌, ◌++◌, filter, map, length, ◌+◌, ◌<◌, ◌≤◌, nat_lt, Option, Some, None, is_none, option_map, unwrap_or, Ok, refl, sym, ap, ◌∙◌, arith}
use Rattle.std.specs.Map.{lookup}
use Rattle.obj_id.specs.declared.commands.CopyState.{CopyState}
use Rattle.obj_id.specs.declared.commands.CopyState.TheVariants.{Fetching}
use Rattle.obj_id.specs.declared.commands.Reply.TheVariants as reply
use Rattle.obj_id.specs.declared.messages.PeerMessage.TheVariants.{Pull}
use Rattle.obj_id.specs.declared.refusals.Refusal.TheVariants.{BadSize, Pending}
use Rattle.private_store.specs.declared.inputs.Input.{Input}
use Rattle.private_store.specs.declared.inputs.Input.TheVariants as input
use Rattle.obj_id.specs.declared.commands.Command.TheVariants as command
use Rattle.job_row.specs.Checks.{can_pull, can_pull_at, visible_state}
use Rattle.private_store.specs.rules.Marks.{chunk_count, counted}
use Rattle.private_store.specs.rules.Change.{refused, erasing, in_room}
use Rattle.private_store.specs.rules.Commands.{is_length, get_fetching}
use Rattle.private_store.specs.rules.Contents.{Contents, View, judge, is_sized, keeps_digest, no_digest}
use Rattle.private_store.specs.rules.Private.{Post, to_peer, pull_of, pull_posts, view_after}
use Rattle.private_store.specs.rules.Room.{make_room, set_copy}
use Rattle.private_store.specs.rules.Shape.{Copy, Shape, Change, Fetch, Phase, locating, sized, pulling, failed, pull, remove_location}
use Rattle.private_store.specs.rules.Step.{step}
use Rattle.store_facts.proofs.Checks.{checked-false, checked-nil}
use Rattle.store_facts.proofs.Rows.{at-put_here}
use Rattle.job_region.specs.Region.{extents_of}
use Rattle.room_commands.specs.MadeRooms.{BringsNothing}
use Rattle.room_commands.specs.RoomPlans.{MakesPlace}
use Rattle.row_steps.specs.Shown.{seen, IsShown, RowGiven, RowStep}
use Rattle.row_steps.proofs.ForCallers.{sending-is, shown_now}
use Rattle.room_commands.proofs.Getting.{some_at}
use Rattle.room_commands.proofs.Rooms.{change_is, m, here, placed_done}
use Rattle.std.specs.Option.{option_map_or}
use Rattle.std.proofs.lemmas.Bool.Decides.{nat_tests}
use Rattle.std.proofs.lemmas.Bool.{eqb-true}
use Rattle.obj_id.specs.declared.ids.JobNo.{JobNo}
use Rattle.obj_id.specs.declared.ids.ObjectId.{ObjectId}
use Rattle.private_store.specs.rules.Tables.{ById, at, with_entry, is_among}
use Rattle.private_store.specs.rules.Copies.{extent_of, is_sealed, was_sealed}
use Rattle.private_store.specs.rules.Extents.{rounded, first, is_size}
use Rattle.private_store.specs.rules.Limits.{longest_object}
use Rattle.store_facts.proofs.Tests.{both, both_left, both_right, true_false, none_some}
use Rattle.job_row.specs.Evicting.{has_secondary, all_evicted, removals, placed_without, replaced, is_sealed_at}
use Rattle.row_copy.specs.CopyViews.{CopyView, is_unasked, waits_for_place, with_chunks, after_pull}
use Rattle.job_row.specs.Row.{Row, copies_of, place_of, ArePlaced}
use Rattle.row_steps.specs.Beside.{SharedTables, shape_of}

-- an object of the row's job
pub own_job : (j : JobNo) (job : ℕ) → (j.0 == job) ≡ true → j ≡ record { 0 = job }
own_job j job mine = λ i. record { 0 = eqb-true j.0 job mine i }

-- an object of a size has bytes, and no more than the longest
pub some_bytes : (window n : ℕ) → is_size window n ≡ true → 0 < n
some_bytes window n fine =
    let some : nat_lt 0 n ≡ true = both_left (nat_lt 0 n) _ (both_left (nat_lt 0 n && nat_le n longest_object) _ fine) in
    grind (arith, nat_tests, some)

pub few_bytes : (window n : ℕ) → is_size window n ≡ true → n ≤ longest_object
few_bytes window n fine =
    let few : nat_le n longest_object ≡ true = both_right (nat_lt 0 n) _ (both_left (nat_lt 0 n && nat_le n longest_object) _ fine) in
    grind (arith, nat_tests, few)

-- a copy in another state isn't sealed
pub unsealed_visible : (copies : ById CopyView) (id : ObjectId) (state : CopyState) → is_sealed state ≡ false → visible_state (at copies id) ≡ Ok (Some state) → is_sealed_at copies id ≡ false
unsealed_visible copies id state other visible =
    let v = some_at copies id state visible in
    ap (λ o. option_map_or (λ (k : CopyView). is_sealed k.copy.state) o false) v.found ∙ ap is_sealed v.is ∙ other

-- ---- a fetch whose source is known

pub record IsSized (window : ℕ) (copy : Copy) : Type 0 where
  pub fetch : Fetch
  pub fetched : copy.fetch ≡ Some fetch
  pub source : ℕ
  pub is : fetch.phase ≡ sized source
  pub fine : is_size window copy.length ≡ true

pub sized_at : (row : Row) (id : ObjectId) (k : CopyView) → at row.copies id ≡ Some k → can_pull_at row id ≡ true → IsSized row.window.quota k.copy
sized_at row id k found may =
    by k.copy.fetch refl (sym (ap (λ o. option_map_or (λ (kept : CopyView). option_map_or (λ fetch. can_pull row.window.quota kept.copy fetch.phase) kept.copy.fetch false) o false) found) ∙ may)
  where
    of : (f : Fetch) → k.copy.fetch ≡ Some f → (p : Phase) → f.phase ≡ p → can_pull row.window.quota k.copy p ≡ true → IsSized row.window.quota k.copy
    of f e locating is t = true_false t
    of f e (sized source) is t = record { fetch = f; fetched = e; source = source; is = is; fine = t }
    of f e (pulling source missing) is t = true_false t
    of f e (failed fault) is t = true_false t

    by : (o : Option Fetch) → k.copy.fetch ≡ o → option_map_or (λ (f : Fetch). can_pull row.window.quota k.copy f.phase) o false ≡ true → IsSized row.window.quota k.copy
    by None e t = true_false t
    by (Some f) e t = of f e f.phase refl t

-- that its bytes aren't asked for
pub unasked_at : (window : ℕ) (copy : Copy) → IsSized window copy → option_map_or (λ f. is_unasked f.phase) copy.fetch false ≡ true
unasked_at window copy z = ap (λ o. option_map_or (λ (f : Fetch). is_unasked f.phase) o false) z.fetched ∙ ap is_unasked z.is

-- it has no place, and waits for one
pub waits : (copies : ById CopyView) (id : ObjectId) (k : CopyView) → at copies id ≡ Some k → k.copy.offset ≡ None → (n : ℕ) → n ≡ k.copy.length → option_map_or (waits_for_place n) (at copies id) false ≡ true
waits copies id k found none n long =
    ap (λ o. option_map_or (waits_for_place n) o false) found ∙ both (is_none k.copy.offset) _ (ap is_none none) (same k.copy.length n (sym long))
  where
    same : (a b : ℕ) → a ≡ b → (a == b) ≡ true
    same a b e = grind (arith, nat_tests, e)

-- a Get brings no contents
pub quiet_get : (node : ℕ) (row : Row) (beside : SharedTables) (contents : Contents) (session : ℕ) (id : ObjectId) → BringsNothing node (seen row beside contents) (input.Call session (command.Get id))
quiet_get node row beside contents session id = record { bytes = λ r. refl; digests = λ r. refl; received = refl }

-- ---- the step

module _ (node : ℕ) (row : Row) (beside : SharedTables) (contents : Contents) (h : IsShown row beside contents) (x : Input) (quiet : BringsNothing node (seen row beside contents) x)
    (id : ObjectId) (k : CopyView) (found : at row.copies id ≡ Some k) (is : k.copy.state ≡ Fetching) (fetch : Fetch) (source : ℕ) (fetched : k.copy.fetch ≡ Some fetch) (at_source : fetch.phase ≡ sized source)
    (fine : is_size row.window.quota k.copy.length ≡ true)
    (by_phase : step row.order (shape_of row beside) (judge node (seen row beside contents) x) ≡ erasing (shape_of row beside) (get_fetching row.order (shape_of row beside) id k.copy fetch (sized source))) where
  abbrev s : Shape
  s = shape_of row beside

  abbrev n : ℕ
  n = k.copy.length

  abbrev missing : List ℕ
  missing = counted 0 (chunk_count n)

  abbrev asked : Fetch
  asked = record fetch { phase = pulling source missing }

  -- what is done with the place
  abbrev pub f : Shape → ℕ → Change
  f store offset = record (refused (set_copy store id (record k.copy { offset = Some offset; fetch = Some (record fetch { phase = pulling source missing }) })) Pending) { sent = pull id ∷ [] }

  pub by_room : step row.order s (judge node (seen row beside contents) x) ≡ erasing s (in_room (make_room row.order s n) f)
  by_room =
      by_phase
      ∙ ap (erasing s) (checked-false s (not (is_length s n)) BadSize [] _ (ap not fine) ∙ checked-nil s _
      ∙ (λ i. in_room (make_room row.order s n) (λ store offset. sending-is (pull id ∷ []) (refused (set_copy store id (record k.copy { offset = Some offset; fetch = Some (record fetch { phase = pulling source missing }) })) Pending) i)))

  fetch_now : option_map (with_chunks n) k.copy.fetch ≡ Some asked
  fetch_now = ap (option_map (with_chunks n)) fetched ∙ ap (λ p. Some (by p)) at_source
    where
      by : Phase → Fetch
      by p = elim p [ sized source ↦ record fetch { phase = pulling source missing } | _ ↦ fetch ]

  module _ (victims : List ObjectId) (makes : MakesPlace (make_room row.order s n) s n victims) (placed : ArePlaced row.window.placed (place_of row.copies)) (nowhere : place_of row.copies id ≡ None) (stays : is_among victims id ≡ false)
      (offset : ℕ) (least : first (extents_of (placed_without row victims)) row.window.quota n ≡ Some offset) (free : lookup (nat_eq offset) (placed_without row victims) ≡ None) where
    abbrev now : CopyView
    now = after_pull offset k

    lies : extent_of now.copy ≡ Some (record { offset = offset; length = rounded n })
    lies = refl

    abbrev store : Shape
    store = record s { copies = copies_of (all_evicted victims row.copies) }

    shape_is : (f store offset).shape ≡ record s { copies = with_entry (copies_of (all_evicted victims row.copies)) id now.copy }
    shape_is = ap (λ o. record s { copies = with_entry (copies_of (all_evicted victims row.copies)) id (record k.copy { offset = Some offset; fetch = o }) }) (sym fetch_now)

    keeps_sized : keeps_digest k.copy ≡ true
    keeps_sized =
        ap (λ st. cond (was_sealed st) true (option_map_or (λ (fetch : Fetch). is_sized fetch.phase) k.copy.fetch false)) is
        ∙ ap (λ o. option_map_or (λ (fetch : Fetch). is_sized fetch.phase) o false) fetched ∙ ap is_sized at_source

    keeps_now : keeps_digest now.copy ≡ true
    keeps_now =
        ap (λ st. cond (was_sealed st) true (option_map_or (λ (fetch : Fetch). is_sized fetch.phase) (option_map (with_chunks n) k.copy.fetch) false)) is
        ∙ ap (λ o. option_map_or (λ (fetch : Fetch). is_sized fetch.phase) o false) fetch_now

    of_digest : keeps_digest now.copy ≡ true → unwrap_or (at contents.digests id) no_digest ≡ unwrap_or now.digest no_digest
    of_digest keeps = h.digests id k found keeps_sized

    abbrev message : Post
    message = to_peer source (Pull id fetch.number n (unwrap_or k.digest no_digest) missing)

    abbrev change : Change
    change = erasing s (record (f store offset) { sent = map remove_location (filter (has_secondary row.copies) victims) ++ pull id ∷ [] })

    abbrev pub new : Row
    new = replaced row None id now n offset victims

    abbrev pub response : RowGiven
    response = record { reply = reply.Refused Pending; posts = removals node row.copies victims ++ message ∷ []; erased = [] }

    abbrev after : View
    after = view_after node (seen row beside contents) x (judge node (seen row beside contents) x) change

    shown : IsShown new beside after.contents
    shown = shown_now node row beside contents h x change (change_is node row beside contents h x quiet n f by_room victims makes placed id now nowhere stays offset lies refl least free
        beside.works beside.used None shape_is refl (λ u none. none_some u none) (λ _. h.listed id k found) of_digest (h.working id k found) (λ q differs. refl) (h.granted id k found)) response new beside
        (m node row beside contents h x quiet n f by_room victims makes placed id now nowhere stays offset lies refl least free
        beside.works beside.used None shape_is refl (λ u none. none_some u none) (λ _. h.listed id k found) of_digest (h.working id k found) (λ q differs. refl) (h.granted id k found) (message ∷ []))

    -- what is sent asks for all chunks
    pull_is : pull_posts after id ≡ message ∷ []
    pull_is =
        ap (λ p. option_map_or (λ (copy : Copy). option_map_or (λ fetch. pull_of after id copy fetch fetch.phase) copy.fetch []) p []) (ap (λ (t : Shape). at t.copies id) shape_is ∙ at-put_here (copies_of (all_evicted victims row.copies)) id now.copy)
        ∙ ap (λ p. option_map_or (λ fetch. pull_of after id now.copy fetch fetch.phase) p []) fetch_now
        ∙ ap (λ d. to_peer source (Pull id fetch.number n d missing) ∷ []) (shown.digests id now (here node row beside contents h x quiet n f by_room victims makes placed id now nowhere stays offset lies refl least free
        beside.works beside.used None shape_is refl (λ u none. none_some u none) (λ _. h.listed id k found) of_digest (h.working id k found) (λ q differs. refl) (h.granted id k found)) keeps_now)

    pub pull_done : RowStep node row beside contents x response new beside
    pull_done =
        placed_done node row beside contents h x quiet n f by_room victims makes placed id now nowhere stays offset lies refl least free
        beside.works beside.used None shape_is refl (λ u none. none_some u none) (λ _. h.listed id k found) of_digest (h.working id k found) (λ q differs. refl) (h.granted id k found) (message ∷ [])
        (sym (ap (λ ps. ps ++ []) pull_is))

-- one message more
pub length_more : {X : Type 0} (xs : List X) (y : X) → length (xs ++ y ∷ []) ≡ length xs + 1
length_more [] y = refl
length_more (x ∷ xs) y = let rest = length_more xs y in omega (arith, rest)
