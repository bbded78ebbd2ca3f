-- A row takes Seal.
use Rattle.std.proofs.Common.{◌≡◌, ℕ, true, false, cond, ◌==◌, ◌⊎◌, inl, inr, List, [], ◌∷◌, map, take, Some, None, unwrap_or, refl, sym, ap, ◌∙◌}
use Rattle.std.specs.Option.{option_map_or}
use Rattle.obj_id.specs.declared.ids.ObjectId.{ObjectId}
use Rattle.obj_id.specs.declared.works.Extent.{Extent}
use Rattle.obj_id.specs.declared.messages.Digest.{Digest}
use Rattle.obj_id.specs.declared.messages.Location.{Location}
use Rattle.obj_id.specs.declared.messages.Endpoint.TheVariants.{Directory}
use Rattle.obj_id.specs.declared.messages.Message.TheVariants.{ToDirectory}
use Rattle.obj_id.specs.declared.messages.DirectoryMessage.TheVariants.{AddLocation}
use Rattle.obj_id.specs.declared.refusals.Refusal.{Refusal}
use Rattle.obj_id.specs.declared.refusals.Refusal.TheVariants.{Absent}
use Rattle.obj_id.specs.declared.commands.CopyState.TheVariants.{Sealed}
use Rattle.obj_id.specs.declared.commands.Command.TheVariants as command
use Rattle.obj_id.specs.declared.commands.Reply.TheVariants as reply
use Rattle.obj_id.specs.Ids.{same_id}
use Rattle.private_store.specs.declared.inputs.Input.{Input}
use Rattle.private_store.specs.declared.inputs.Input.TheVariants as input
use Rattle.private_store.specs.rules.Tables.{at, with_entry}
use Rattle.private_store.specs.rules.Shape.{Copy, Shape, Change, add_location}
use Rattle.private_store.specs.rules.Copies.{extent_of}
use Rattle.private_store.specs.rules.Room.{set_copy}
use Rattle.private_store.specs.rules.Change.{refused, done, erasing, sending}
use Rattle.private_store.specs.rules.Contents.{Contents, judge, bytes_at, digest_of, no_digest, keeps_digest}
use Rattle.private_store.specs.rules.Private.{Post, key_of, length_at}
use Rattle.private_store.specs.rules.Step.{step}
use Rattle.store_facts.proofs.Rows.{at-put, at-put_here}
use Rattle.job_region.specs.Region.{region_bytes_at as placed_bytes}
use Rattle.lru_evictor.proofs.ForCallers.{reordered-unused}
use Rattle.job_row.specs.Entries.{changed}
use Rattle.row_copy.specs.CopyViews.{CopyView, after_seal}
use Rattle.job_row.specs.Row.{Row, copies_of}
use Rattle.job_row.specs.Checks.{seal_check}
use Rattle.row_steps.specs.Shown.{seen, IsShown, RowGiven, only, RowStep}
use Rattle.row_steps.proofs.ForCallers.{unless_refused, called, own, seal_done, seal-by, sending-is, IsUnwritten, seal_passed, placed_at, created_resides, there_still, from_changed, bytes_stay, works_stay, listed_stay, keys_with, granted_stay, TakesChange, moved, shown_now, stays, digests_now, received_stays}
use Rattle.job_row.proofs.ForCallers.{changed-found, at-copies_found, copies-changed}
use Rattle.row_steps.specs.Beside.{SharedTables, shape_of}

module _ (node : ℕ) (row : Row) (beside : SharedTables) (contents : Contents) (session : ℕ) (id : ObjectId) (mine : (id.job.0 == row.job) ≡ true) (h : IsShown row beside contents) where
  abbrev s : Shape
  s = shape_of row beside

  abbrev x : Input
  x = input.Call session (command.Seal id)

  pub seal_refused : (r : Refusal) → seal_check row.copies id ≡ Some r → RowStep node row beside contents x (only (reply.Refused r)) row beside
  seal_refused r e =
      stays node row beside contents h x (reply.Refused r)
      (called row beside session (command.Seal id) ∙ ap (erasing s) (own row beside id _ mine ∙ seal-by row beside id ∙ ap (λ o. unless_refused s o (seal_done row beside id)) e)) refl refl refl

  module _ (passed : seal_check row.copies id ≡ None) (digest : Digest) where
    abbrev w : IsUnwritten row.copies id
    w = seal_passed row.copies id passed

    abbrev k : CopyView
    k = w.copy

    abbrev now : Copy
    now = record k.copy { state = Sealed }

    -- the row with the copy sealed
    abbrev pub row_sealed : Row
    row_sealed = record row { copies = changed (after_seal digest) row.copies id }

    abbrev c : Change
    c = erasing s (record (done (set_copy s id now)) { sent = add_location id ∷ [] })

    keeps : (z : CopyView) → ((after_seal digest z).copy.offset ≡ z.copy.offset) × ((after_seal digest z).copy.length ≡ z.copy.length)
    keeps z = (refl, refl)

    found : at row.copies id ≡ Some k
    found = w.found

    module _ (is : digest ≡ digest_of (bytes_at contents.bytes id)) (messages : List Post) where
      abbrev pub response : RowGiven
      response = record { reply = reply.Ok; posts = messages; erased = [] }

      abbrev post_of : Location → List Post
      post_of e = (Directory, ToDirectory (AddLocation id e)) ∷ []

      digest_now : (q : ObjectId) (y : CopyView) → at row_sealed.copies q ≡ Some y → keeps_digest y.copy ≡ true → unwrap_or (at (digests_now node row beside contents h x c) q) no_digest ≡ unwrap_or y.digest no_digest
      digest_now q y there keep =
          let z = from_changed (after_seal digest) row.copies id k found q y there in
          ap (λ p. unwrap_or p no_digest) (at-put contents.digests id (digest_of (bytes_at contents.bytes id)) q) ∙ by z.0 z.1 z.2
        where
          by : (z : CopyView) → at row.copies q ≡ Some z → ((same_id q id ≡ true) × (y ≡ after_seal digest z)) ⊎ ((same_id q id ≡ false) × (y ≡ z))
              → unwrap_or (cond (same_id q id) (Some (digest_of (bytes_at contents.bytes id))) (at contents.digests q)) no_digest ≡ unwrap_or y.digest no_digest
          by z e (inl t) = ap (λ b. unwrap_or (cond b (Some (digest_of (bytes_at contents.bytes id))) (at contents.digests q)) no_digest) t.0 ∙ sym is ∙ ap (λ y. unwrap_or y.digest no_digest) (sym t.1)
          by z e (inr t) =
              ap (λ b. unwrap_or (cond b (Some (digest_of (bytes_at contents.bytes id))) (at contents.digests q)) no_digest) t.0
              ∙ h.digests q z e (ap (λ y. keeps_digest y.copy) (sym t.1) ∙ keep) ∙ ap (λ y. unwrap_or y.digest no_digest) (sym t.1)

      copies_is : with_entry (copies_of row.copies) id now ≡ copies_of row_sealed.copies
      copies_is = sym (copies-changed (after_seal digest) row.copies id k found)

      m : TakesChange node row beside contents h x c response row_sealed beside
      m = record {
        shape = ap (λ t. record s { copies = t }) copies_is;
        order = sym (reordered-unused row.order (copies_of row_sealed.copies) (there_still node row beside contents h x id k found (after_seal digest) keeps row.order h.there));
        there = there_still node row beside contents h x id k found (after_seal digest) keeps row.order h.there;
        listed = listed_stay node row beside contents h x id k found (after_seal digest) keeps row.order h.listed;
        bytes = bytes_stay node row beside contents h x id k found (after_seal digest) keeps c refl;
        digests = digest_now;
        working = works_stay node row beside contents h x id k found (after_seal digest) keeps refl;
        granted = granted_stay node row beside contents h x id k found (after_seal digest) keeps refl;
        received = received_stays node row beside contents h x refl;
        reply = refl;
        erased = sym (ap (map (key_of row.job)) (keys_with (copies_of row.copies) id now));
      }

      step_is : step row.order s (judge node (seen row beside contents) x) ≡ c
      step_is =
          called row beside session (command.Seal id)
          ∙ ap (erasing s) (own row beside id _ mine ∙ seal-by row beside id ∙ ap (λ p. unless_refused s p (seal_done row beside id)) passed
          ∙ ap (λ p. option_map_or (λ copy. sending (add_location id ∷ []) (done (set_copy s id (record copy { state = Sealed })))) p (refused s Absent)) (at-copies_found row.copies id k found)
          ∙ sending-is (add_location id ∷ []) (done (set_copy s id now)))

      there_now : at row_sealed.copies id ≡ Some (after_seal digest k)
      there_now = ap (λ t. at t id) (changed-found (after_seal digest) id row.copies k found) ∙ at-put_here row.copies id (after_seal digest k)

      pub seal_done_so : (entry : Location) → entry.node ≡ node → ((z : CopyView) → at row.copies id ≡ Some z → entry.length ≡ z.copy.length) → entry.digest ≡ digest
          → messages ≡ post_of entry → RowStep node row beside contents x response row_sealed beside
      seal_done_so entry at_node long its posts =
          moved node row beside contents h x c step_is response row_sealed beside m
          (posts ∙ ap post_of (
          ap (λ n. record { node = n; length = entry.length; digest = entry.digest }) at_node
          ∙ ap (λ n. record { node = node; length = n; digest = entry.digest }) (long k found ∙ sym (ap (λ p. option_map_or (λ copy. copy.length) p 0) (at-put_here (copies_of row.copies) id now)))
          ∙ ap (λ d. record { node = node; length = length_at c.shape id; digest = d }) (its ∙ sym ((shown_now node row beside contents h x c step_is response row_sealed beside m).digests id (after_seal digest k) there_now refl))))

    pub seal_digest : (result : Digest) → result ≡ digest → ((k : CopyView) (e : Extent) → at row.copies id ≡ Some k → extent_of k.copy ≡ Some e → result ≡ digest_of (take k.copy.length (placed_bytes e row.window.placed))) → digest ≡ digest_of (bytes_at contents.bytes id)
    seal_digest result same its =
        let resident = (h.kept.kept.shape.each id k.copy (at-copies_found row.copies id k found)).resident ∙ created_resides k.copy.state k.copy.fetch w.created in
        let p = placed_at k.copy resident in
        sym same ∙ its k p.0 found p.1 ∙ ap digest_of (sym (h.bytes id k p.0 found p.1))
