-- A live store answers each message Ok, and one that isn't live answers Stale.
use Rattle.std.proofs.Common.{◌≡◌, ℕ, Bool, true, false, not, cond, ◌==◌, ◌&&◌, List, [], ◌∷◌, filter, Option, Some, None, is_none, refl, ap, ◌∙◌}
use Rattle.std.specs.Option.{option_map_or}
use Rattle.obj_id.specs.declared.ids.ObjectId.{ObjectId}
use Rattle.obj_id.specs.declared.commands.CopyState.TheVariants.{Created, Sealed, Restoring, Fetching, Away}
use Rattle.obj_id.specs.declared.commands.Reply.{Reply}
use Rattle.obj_id.specs.declared.commands.Reply.TheVariants as reply
use Rattle.obj_id.specs.declared.messages.Arrival.{Arrival}
use Rattle.obj_id.specs.declared.messages.Arrival.TheVariants as arrival
use Rattle.obj_id.specs.declared.messages.PeerMessage.TheVariants as peer
use Rattle.obj_id.specs.declared.refusals.Refusal.TheVariants.{Stale}
use Rattle.private_store.specs.declared.faults.FetchFault.TheVariants as fetch_fault
use Rattle.private_store.specs.declared.inputs.ChunkVerdict.{ChunkVerdict}
use Rattle.private_store.specs.declared.inputs.ChunkVerdict.TheVariants as chunk
use Rattle.private_store.specs.declared.inputs.Input.TheVariants as input
use Rattle.private_store.specs.declared.inputs.Source.{Source}
use Rattle.private_store.specs.rules.Change.{done, sending}
use Rattle.private_store.specs.rules.Commands.{restore}
use Rattle.private_store.specs.rules.Contents.{View, chunk_verdict, judge, pull_matches, source_in, whole_reply}
use Rattle.private_store.specs.rules.Copies.{visible}
use Rattle.private_store.specs.rules.Events.{chunk_arrived, chunk_taken, fetch_failed, fetch_of, is_live, is_missing, located, not_here_arrived, pull_answer, pull_arrived, quiet, with_fetch}
use Rattle.private_store.specs.rules.Marks.{marked}
use Rattle.private_store.specs.rules.Marks as mark
use Rattle.private_store.specs.rules.Private.{view_step}
use Rattle.private_store.specs.rules.Room.{set_copy}
use Rattle.private_store.specs.rules.Shape.{Change, Copy, Fetch, Sending, Shape, chunks, failed, locating, not_here, pulling, remove_source, sized}
use Rattle.private_store.specs.rules.Step.{if_live, step}
use Rattle.store_facts.proofs.Checks.{checked-false, checked-nil, checked-true}

abbrev IsOk : Change → Type 0
IsOk c = c.reply ≡ reply.Ok

sending_ok : (sent : List Sending) (c : Change) → IsOk c → IsOk (sending sent c)
unfolding sending
sending_ok sent c h = h

module _ (store : Shape) where
  with_fetch_ok : (id : ObjectId) (number : ℕ) (f : Copy → Fetch → Change) → ((copy : Copy) (fetch : Fetch) → IsOk (f copy fetch)) → IsOk (with_fetch store id number f)
  with_fetch_ok id number f each = elim (fetch_of store id number) as (λ o. IsOk (option_map_or (λ p. f p.0 p.1) o (done store))) [ None ↦ refl | Some p ↦ each p.0 p.1 ]

  located_ok : (id : ObjectId) (number : ℕ) (source : Option Source) → IsOk (located store id number source)
  located_ok id number source = with_fetch_ok id number _ (λ copy fetch.
      elim fetch.phase as (λ p. IsOk (elim p [ locating ↦ done (set_copy store id (marked (mark.located fetch source) copy)) | _ ↦ done store ])) [
        | locating ↦ refl
        | sized _ ↦ refl
        | pulling _ _ ↦ refl
        | failed _ ↦ refl
      ])

  taken_ok : (id : ObjectId) (copy : Copy) (fetch : Fetch) (source : ℕ) (missing : List ℕ) (verdict : ChunkVerdict) → IsOk (chunk_taken store id copy fetch source missing verdict)
  taken_ok id copy fetch source missing chunk.Ignored = refl
  taken_ok id copy fetch source (i ∷ missing) chunk.Part = refl
  taken_ok id copy fetch source (i ∷ missing) chunk.Whole = refl
  taken_ok id copy fetch source (i ∷ missing) chunk.Damaged = refl
  taken_ok id copy fetch source [] chunk.Damaged = refl
  taken_ok id copy fetch source [] chunk.Part = sending_ok _ _ refl
  taken_ok id copy fetch source [] chunk.Whole = sending_ok _ _ refl

  chunk_ok : (id : ObjectId) (number index from : ℕ) (verdict : ChunkVerdict) → IsOk (chunk_arrived store id number index from verdict)
  chunk_ok id number index from verdict = with_fetch_ok id number _ (λ copy fetch.
      elim fetch.phase as (λ p. IsOk (elim p [
        | pulling source missing ↦ cond (from == source && is_missing missing index) (chunk_taken store id copy fetch source (filter (λ i. not (i == index)) missing) verdict) (done store)
        | _ ↦ done store
      ])) [
        | locating ↦ refl
        | sized _ ↦ refl
        | pulling source missing ↦
            elim (from == source && is_missing missing index) as (λ b. IsOk (cond b (chunk_taken store id copy fetch source (filter (λ i. not (i == index)) missing) verdict) (done store))) [
              | true ↦ taken_ok id copy fetch source (filter (λ i. not (i == index)) missing) verdict
              | false ↦ refl
            ]
        | failed _ ↦ refl
      ])

  not_here_ok : (id : ObjectId) (number from : ℕ) → IsOk (not_here_arrived store id number from)
  not_here_ok id number from = with_fetch_ok id number _ (λ copy fetch.
      elim fetch.phase as (λ p. IsOk (elim p [
        | pulling source missing ↦ cond (from == source) (sending (remove_source id source ∷ []) (done (fetch_failed store id copy fetch fetch_fault.Absent))) (done store)
        | _ ↦ done store
      ])) [
        | locating ↦ refl
        | sized _ ↦ refl
        | pulling source missing ↦
            elim (from == source) as (λ b. IsOk (cond b (sending (remove_source id source ∷ []) (done (fetch_failed store id copy fetch fetch_fault.Absent))) (done store))) [
              | true ↦ sending_ok _ _ refl
              | false ↦ refl
            ]
        | failed _ ↦ refl
      ])

  pull_answer_ok : (order : List ObjectId) (id : ObjectId) (copy : Copy) → IsOk (pull_answer order store id copy)
  pull_answer_ok order id copy =
      elim copy.state as (λ state. IsOk (elim state [
        | Sealed ↦ sending (chunks id ∷ []) (done store)
        | Restoring ↦ done store
        | Away ↦ cond (is_none copy.fault) (quiet store (restore order store id copy)) (sending (not_here id ∷ []) (done store))
        | _ ↦ sending (not_here id ∷ []) (done store)
      ])) [
        | Created ↦ sending_ok _ _ refl
        | Sealed ↦ sending_ok _ _ refl
        | Restoring ↦ refl
        | Fetching ↦ sending_ok _ _ refl
        | Away ↦
            elim (is_none copy.fault) as (λ b. IsOk (cond b (quiet store (restore order store id copy)) (sending (not_here id ∷ []) (done store)))) [
              | true ↦ refl
              | false ↦ sending_ok _ _ refl
            ]
      ]

  pull_ok : (order : List ObjectId) (id : ObjectId) (matches : Bool) → IsOk (pull_arrived order store id matches)
  pull_ok order id matches =
      elim (visible store id) as (λ o. IsOk (option_map_or (λ copy. cond matches (pull_answer order store id copy) (sending (not_here id ∷ []) (done store))) o (sending (not_here id ∷ []) (done store)))) [
        | None ↦ sending_ok _ _ refl
        | Some copy ↦ elim matches as (λ b. IsOk (cond b (pull_answer order store id copy) (sending (not_here id ∷ []) (done store)))) [
          | true ↦ pull_answer_ok order id copy
          | false ↦ sending_ok _ _ refl
        ]
      ]

  passes : (c : Change) → is_live store ≡ true → IsOk c → IsOk (if_live store c)
  passes c live h = ap (λ d. d.reply) (checked-false store (not (is_live store)) Stale [] c (ap not live) ∙ checked-nil store c) ∙ h

  refuses : (c : Change) → is_live store ≡ false → (if_live store c).reply ≡ reply.Refused Stale
  refuses c dead = ap (λ d. d.reply) (checked-true store (not (is_live store)) Stale [] c (ap not dead))

module _ (node : ℕ) (view : View) where
  abbrev answered : Arrival → Reply ℕ
  answered a = (step view.order view.shape (judge node view (input.Arrive a))).reply

  live_answers : (a : Arrival) → is_live view.shape ≡ true → answered a ≡ reply.Ok
  live_answers (arrival.Located id number entries) live = passes view.shape _ live (located_ok view.shape id number (source_in node entries))
  live_answers (arrival.FromPeer from (peer.Pull id number n digest indexes)) live = passes view.shape _ live (pull_ok view.shape view.order id (pull_matches view id n digest))
  live_answers (arrival.FromPeer from (peer.Chunk id number index bytes)) live = passes view.shape _ live (chunk_ok view.shape id number index from (chunk_verdict view id number index bytes from))
  live_answers (arrival.FromPeer from (peer.NotHere id number)) live = passes view.shape _ live (not_here_ok view.shape id number from)

  dead_answers : (a : Arrival) → is_live view.shape ≡ false → answered a ≡ reply.Refused Stale
  dead_answers (arrival.Located id number entries) dead = refuses view.shape _ dead
  dead_answers (arrival.FromPeer from (peer.Pull id number n digest indexes)) dead = refuses view.shape _ dead
  dead_answers (arrival.FromPeer from (peer.Chunk id number index bytes)) dead = refuses view.shape _ dead
  dead_answers (arrival.FromPeer from (peer.NotHere id number)) dead = refuses view.shape _ dead

  pub live_takes : (a : Arrival) → is_live view.shape ≡ true → (view_step node view (input.Arrive a)).reply ≡ reply.Ok
  live_takes a live = ap (whole_reply view (input.Arrive a)) (live_answers a live)

  pub dead_refuses : (a : Arrival) → is_live view.shape ≡ false → (view_step node view (input.Arrive a)).reply ≡ reply.Refused Stale
  dead_refuses a dead = ap (whole_reply view (input.Arrive a)) (dead_answers a dead)
