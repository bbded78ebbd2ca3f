-- An input leaves the bytes of a sealed copy, if the copy is sealed after it too: a write, a read back and a chunk bring
-- bytes for copies that aren't sealed.
use Rattle.std.proofs.Common.{◌≡◌, ℕ, Bool, true, false, not, cond, ◌==◌, ◌&&◌, List, [], length, Option, Some, None, is_some, unwrap_or, refl, sym, ap, subst, ◌∙◌, T}
use Rattle.std.specs.Prelude.{if◌then◌else◌}
use Rattle.std.specs.Option.{option_map_or, option_and_then}
use Rattle.std.specs.FinMap.{is_sorted}
use Rattle.obj_id.specs.declared.ids.ObjectId.{ObjectId}
use Rattle.obj_id.specs.declared.commands.CopyState.{CopyState}
use Rattle.obj_id.specs.declared.commands.CopyState.TheVariants.{Created, Sealed, Restoring, Fetching, Away}
use Rattle.obj_id.specs.declared.commands.Command.TheVariants as command
use Rattle.obj_id.specs.declared.refusals.Refusal.{Refusal}
use Rattle.obj_id.specs.declared.refusals.Refusal.TheVariants.{Absent}
use Rattle.obj_id.specs.declared.messages.Arrival.TheVariants as arrival
use Rattle.obj_id.specs.declared.messages.PeerMessage.TheVariants as peer
use Rattle.obj_id.specs.declared.works.DeviceAnswer.TheVariants as device
use Rattle.obj_id.specs.Ids.{id_cmp, same_id}
use Rattle.store_facts.proofs.Ids.{same_id-equal}
use Rattle.private_store.specs.declared.inputs.Input.{Input}
use Rattle.private_store.specs.declared.inputs.Input.TheVariants as input
use Rattle.private_store.specs.declared.inputs.Judged.TheVariants as judged
use Rattle.private_store.specs.declared.inputs.WorkVerdict.{WorkVerdict}
use Rattle.private_store.specs.declared.inputs.WorkVerdict.TheVariants as work
use Rattle.private_store.specs.declared.inputs.ChunkVerdict.{ChunkVerdict}
use Rattle.private_store.specs.declared.inputs.ChunkVerdict.TheVariants as chunk
use Rattle.private_store.specs.rules.Tables.{ById, at}
use Rattle.private_store.specs.rules.Shape.{Copy, Change, Fetch, WorkInFlight}
use Rattle.private_store.specs.rules.Copies.{is_sealed, is_created}
use Rattle.private_store.specs.rules.Change.{refused}
use Rattle.private_store.specs.rules.Commands.{write}
use Rattle.private_store.specs.rules.Events.{work_of, fetch_of}
use Rattle.private_store.specs.rules.Step.{step, owned}
use Rattle.private_store.specs.rules.Contents.{View, bytes_at, judge, bytes_brought, brought, chunk_verdict, pulled_verdict, work_verdict}
use Rattle.private_store.specs.rules.Private.{view_step}
use Rattle.private_store.specs.laws.Invariants.{IsShapeKept, AreContentsKept, is_restoring, is_fetching, has_extent, has_read}
use Rattle.store_facts.proofs.Tests.{true_false, some_value, both, passed, refuted}
use Rattle.store_facts.proofs.Checks.{checked_past, needing_has, visible_at, fetch_found}
use Rattle.store_facts.proofs.Sound.{step_sound}
use Rattle.store_facts.proofs.Rows.{at-put}
use Rattle.store_facts.proofs.Turns.{found_any}
use Rattle.store_facts.proofs.StepTurns.{step_turn, all_may}
use Rattle.store_facts.proofs.RowContents.{RowTurn, steady, bare, begun, row_turns, steady_bytes}
use Rattle.store_facts.proofs.Filling.{at-kept, kept_row, resides, zeros}

-- no bytes are brought of the object
abbrev NotFor : ObjectId → Option (ObjectId × List ℕ) → Type 0
NotFor id o = option_map_or (λ e. same_id id e.0) o false ≡ false

not_restoring : (state : CopyState) → is_sealed state ≡ true → is_restoring state ≡ false
not_restoring Created s = refl
not_restoring Sealed s = refl
not_restoring Restoring s = true_false s
not_restoring Fetching s = refl
not_restoring Away s = refl

not_fetching : (state : CopyState) → is_sealed state ≡ true → is_fetching state ≡ false
not_fetching Created s = refl
not_fetching Sealed s = refl
not_fetching Restoring s = refl
not_fetching Fetching s = true_false s
not_fetching Away s = refl

not_created : (state : CopyState) → is_sealed state ≡ true → is_created state ≡ false
not_created Created s = true_false s
not_created Sealed s = refl
not_created Restoring s = refl
not_created Fetching s = refl
not_created Away s = refl

has_its_extent : (state : CopyState) (fetch : Option Fetch) → is_sealed state ≡ true → has_extent state fetch ≡ true
has_its_extent Created fetch s = refl
has_its_extent Sealed fetch s = refl
has_its_extent Restoring fetch s = refl
has_its_extent Fetching fetch s = true_false s
has_its_extent Away fetch s = true_false s

module _ (node : ℕ) (view : View) (sh : IsShapeKept view.shape) (h : AreContentsKept view.shape view.contents) (id : ObjectId) (c : Copy) (here : at view.shape.copies id ≡ Some c) (sealed : is_sealed c.state ≡ true) where
  -- an id that is the same has the same copy
  its_copy : (q : ObjectId) (d : Copy) → same_id id q ≡ true → at view.shape.copies q ≡ Some d → c ≡ d
  its_copy q d t e = some_value c d (sym here ∙ ap (at view.shape.copies) (same_id-equal id q t) ∙ e)

  writes_other : (session : ℕ) (q : ObjectId) (offset : ℕ) (bytes : List ℕ) → let x = input.Call session (command.Write q offset bytes) in
      NotFor id (bytes_brought view x (judge node view x) (step view.order view.shape (judge node view x)).reply)
  writes_other session q offset bytes =
      let x : Input = input.Call session (command.Write q offset bytes) in
      let P : Change → Type 0 = λ k. NotFor id (bytes_brought view x (judge node view x) k.reply) in
      let refuses : (r : Refusal) → P (refused view.shape r) = λ r. refl in
      let inner : P (write view.shape q offset (length bytes)) =
      checked_past P view.shape _ _ refuses (λ _. needing_has P view.shape _ _ _ (refuses Absent) (λ copy v. checked_past P view.shape _ _ refuses (λ fails.
      refuted (same_id id q) (λ t.
      let is : c ≡ copy = its_copy q copy t (visible_at view.shape q copy v) in
      sym (not_created c.state sealed) ∙ ap (λ d. is_created d.state) is ∙ passed (is_created copy.state) fails.0)))) in
      let owned_by : P (owned view.shape q (write view.shape q offset (length bytes))) = checked_past P view.shape _ _ refuses (λ _. inner) in
      checked_past P view.shape _ _ refuses (λ _. owned_by)

  reads_other : (number : ℕ) (bytes : List ℕ) (o : Option WorkInFlight) → work_of view.shape number ≡ o → NotFor id (option_and_then (λ w. if w.writes then None else Some (w.id, bytes)) o)
  reads_other number bytes None e = refl
  reads_other number bytes (Some w) e =
      elim w.writes as (λ b. w.writes ≡ b → NotFor id (if b then None else Some (w.id, bytes))) [
        | true ↦ λ _. refl
        | false ↦ λ reads. refuted (same_id id w.id) (λ t.
            let read : has_read view.shape.works id ≡ true =
            found_any (λ work. work.number == number) (λ work. same_id id work.id && not work.writes) view.shape.works w e (both (same_id id w.id) (not w.writes) t (ap not reads)) in
            sym (sym read ∙ (sh.each id c here).restored ∙ not_restoring c.state sealed))
      ] refl

  answers_other : (number : ℕ) (bytes : List ℕ) (verdict : WorkVerdict) → NotFor id (bytes_brought view (input.Answer number (device.Bytes bytes)) (judged.Answer number verdict) (step view.order view.shape (judged.Answer number verdict)).reply)
  answers_other number bytes work.Fine = reads_other number bytes (work_of view.shape number) refl
  answers_other number bytes work.Failed = refl
  answers_other number bytes work.Damaged = refl

  abbrev is_ignored : ChunkVerdict → Bool
  is_ignored chunk.Ignored = true
  is_ignored _ = false

  -- only a copy that is fetched takes a chunk
  fetches_other : (q : ObjectId) (number index : ℕ) (bytes : List ℕ) (from : ℕ) → is_ignored (chunk_verdict view q number index bytes from) ≡ false → same_id id q ≡ false
  fetches_other q number index bytes from taken = refuted (same_id id q) (λ t. by_fetch (fetch_of view.shape q number) refl t taken)
    where
      by_fetch : (o : Option (Copy × Fetch)) → fetch_of view.shape q number ≡ o → same_id id q ≡ true → is_ignored (option_map_or (λ p. pulled_verdict view q index bytes from p.0 p.1.phase) o chunk.Ignored) ≡ false → false ≡ true
      by_fetch None e t k = sym k
      by_fetch (Some p) e t k =
          let f = fetch_found view.shape q number p e in
          let is : c ≡ p.0 = its_copy q p.0 t f.0 in
          sym (not_fetching c.state sealed) ∙ sym (sh.each id c here).in_fetch ∙ ap (λ d. is_some d.fetch) is ∙ ap is_some f.1

  chunks_other : (q : ObjectId) (number index : ℕ) (bytes : List ℕ) (from : ℕ) (verdict : ChunkVerdict) → (is_ignored verdict ≡ false → same_id id q ≡ false)
      → NotFor id (bytes_brought view (input.Arrive (arrival.FromPeer from (peer.Chunk q number index bytes))) (judged.Chunk q number index from verdict) (step view.order view.shape (judged.Chunk q number index from verdict)).reply)
  chunks_other q number index bytes from chunk.Part f = f refl
  chunks_other q number index bytes from chunk.Whole f = f refl
  chunks_other q number index bytes from chunk.Damaged f = refl
  chunks_other q number index bytes from chunk.Ignored f = refl

  brings_other : (x : Input) → NotFor id (bytes_brought view x (judge node view x) (step view.order view.shape (judge node view x)).reply)
  brings_other (input.Call session (command.Write q offset bytes)) = writes_other session q offset bytes
  brings_other (input.Call session k) = refl
  brings_other (input.Answer number (device.Bytes bytes)) = answers_other number bytes (work_verdict view number (device.Bytes bytes))
  brings_other (input.Answer number d) = refl
  brings_other (input.Arrive (arrival.FromPeer from (peer.Chunk q number index bytes))) = chunks_other q number index bytes from (chunk_verdict view q number index bytes from) (fetches_other q number index bytes from)
  brings_other (input.Arrive a) = refl
  brings_other x = refl

  brought_other : (table : ById (List ℕ)) (o : Option (ObjectId × List ℕ)) → NotFor id o → at (brought table o) id ≡ at table id
  brought_other table None n = refl
  brought_other table (Some e) n = at-put table e.0 e.1 id ∙ ap (λ b. cond b (Some e.1) (at table id)) n

  pub bytes_stay : (x : Input) (d : Copy) → at (view_step node view x).view.shape.copies id ≡ Some d → is_sealed d.state ≡ true
      → bytes_at (view_step node view x).view.contents.bytes id ≡ bytes_at view.contents.bytes id
  bytes_stay x d there still =
      let y = judge node view x in
      let after = step view.order view.shape y in
      let in_order : T (is_sorted id_cmp view.shape.copies) = subst T (sym sh.by_id) tt in
      let o = bytes_brought view x y after.reply in
      let turn = row_turns (λ _. true) view.shape after (step_turn (λ _. true) view.shape sh view.order y (all_may view.shape y)) id d there in
      by_row turn (brought view.contents.bytes o) (view_step node view x).view.contents.bytes (at-kept resides zeros (brought view.contents.bytes o) after.shape.copies (step_sound view.shape in_order view.order y).is.in_order id ∙ ap (kept_row resides zeros (brought view.contents.bytes o) id) there) (brought_other view.contents.bytes o (brings_other x))
    where
      extent : is_some c.offset ≡ true
      extent = (sh.each id c here).resident ∙ has_its_extent c.state c.fetch sealed

      by_row : RowTurn (λ _. true) view.shape id d → (table new : ById (List ℕ)) → at new id ≡ cond (is_some d.offset) (Some (unwrap_or (at table id) (zeros d))) None → at table id ≡ at view.contents.bytes id → bytes_at new id ≡ bytes_at view.contents.bytes id
      by_row (steady b is long offset state) table new kept same =
          let row : b ≡ c = some_value b c (sym is ∙ here) in
          let there : is_some d.offset ≡ true = ap is_some offset ∙ ap (λ x. is_some x.offset) row ∙ extent in
          ap (λ o. unwrap_or o []) (kept ∙ ap (λ t. cond t (Some (unwrap_or (at table id) (zeros d))) None) there)
          ∙ ap (λ o. unwrap_or o (zeros d)) same
          ∙ steady_bytes view.shape view.contents sh h id c d here (long ∙ ap (λ x. x.length) row) extent
      by_row (bare none unsealed) table new kept same = true_false (sym unsealed ∙ still)
      by_row (begun unsealed absent) table new kept same = true_false (sym unsealed ∙ still)
