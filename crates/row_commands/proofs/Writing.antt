-- A row takes Write and Read.
use Rattle.std.proofs.Common.{◌≡◌, ℕ, ◌+◌, ◌≤◌, true, false, cond, ◌==◌, List, map, take, drop, length, Some, None, is_some, nat_eq, refl, sym, ap, subst, ◌∙◌}
use Rattle.std.specs.Map.{set_value}
use Rattle.obj_id.specs.declared.ids.ObjectId.{ObjectId}
use Rattle.obj_id.specs.declared.works.Extent.{Extent}
use Rattle.obj_id.specs.declared.refusals.Refusal.{Refusal}
use Rattle.obj_id.specs.declared.commands.Command.TheVariants as command
use Rattle.obj_id.specs.declared.commands.Reply.TheVariants as reply
use Rattle.obj_id.specs.Ids.{same_id}
use Rattle.store_facts.proofs.Ids.{same_id-equal}
use Rattle.private_store.specs.declared.inputs.Input.{Input}
use Rattle.private_store.specs.declared.inputs.Input.TheVariants as input
use Rattle.private_store.specs.rules.Tables.{at}
use Rattle.private_store.specs.rules.Shape.{Shape}
use Rattle.private_store.specs.rules.Copies.{extent_of}
use Rattle.private_store.specs.rules.Change.{replied, done, erasing}
use Rattle.private_store.specs.rules.Contents.{Contents, bytes_at, overwritten}
use Rattle.store_facts.proofs.Tests.{some_value}
use Rattle.store_facts.proofs.Filling.{filled}
use Rattle.store_facts.proofs.ErasedKeys.{keys_none, all_found}
use Rattle.store_facts.proofs.Rows.{at-put}
use Rattle.private_store.specs.rules.Private.{key_of}
use Rattle.job_region.specs.Region.{region_bytes_at as placed_bytes}
use Rattle.lru_evictor.proofs.ForCallers.{reordered-unused}
use Rattle.row_copy.specs.CopyViews.{CopyView}
use Rattle.job_row.specs.Row.{Row, copies_of, place_of, ArePlaced}
use Rattle.job_row.specs.Checks.{write_check, read_check}
use Rattle.row_steps.specs.Shown.{IsShown, only, RowStep}
use Rattle.row_steps.proofs.ForCallers.{unless_refused, called, own, write-by, read-by, IsWritten, write_passed, IsRead, read_passed, placed_at, created_resides, moved, stays, same_bytes, received_stays}
use Rattle.job_row.proofs.ForCallers.{at-copies_found}
use Rattle.row_commands.proofs.Lending.{held_shown}
use Rattle.row_commands.proofs.Overwriting.{is_place, fits, written_here, written_elsewhere}
use Rattle.row_steps.specs.Beside.{SharedTables, shape_of}

module _ (node : ℕ) (row : Row) (beside : SharedTables) (contents : Contents) (session : ℕ) (id : ObjectId) (offset : ℕ) (mine : (id.job.0 == row.job) ≡ true) (h : IsShown row beside contents) where
  abbrev s : Shape
  s = shape_of row beside

  module _ (bytes : List ℕ) where
    abbrev x : Input
    x = input.Call session (command.Write id offset bytes)

    pub write_refused : (r : Refusal) → write_check row.copies id offset (length bytes) ≡ Some r → RowStep node row beside contents x (only (reply.Refused r)) row beside
    write_refused r e =
        stays node row beside contents h x (reply.Refused r)
        (called row beside session (command.Write id offset (length bytes)) ∙ ap (erasing s) (own row beside id _ mine ∙ write-by row beside id offset (length bytes) ∙ ap (λ o. unless_refused s o (done s)) e)) refl refl refl

    module _ (passed : write_check row.copies id offset (length bytes) ≡ None) where
      abbrev w : IsWritten row.copies id offset (length bytes)
      w = write_passed row.copies id offset (length bytes) passed

      abbrev resident : is_some w.copy.copy.offset ≡ true
      resident = (h.kept.kept.shape.each id w.copy.copy (at-copies_found row.copies id w.copy w.found)).resident ∙ created_resides w.copy.copy.state w.copy.copy.fetch w.created

      abbrev e : Extent
      e = (placed_at w.copy.copy resident).0

      lies : extent_of w.copy.copy ≡ Some e
      lies = (placed_at w.copy.copy resident).1

      abbrev old_bytes : List ℕ
      old_bytes = placed_bytes e row.window.placed

      -- the row with the bytes written
      abbrev pub wrote : Row
      wrote = record row { window = record row.window { placed = set_value (nat_eq e.offset) row.window.placed (overwritten old_bytes offset bytes) } }

      pub put_so : (new : Row)
          → ((e : Extent) → place_of row.copies id ≡ Some e → offset + length bytes ≤ e.length → new ≡ record row { window = record row.window { placed = set_value (nat_eq e.offset) row.window.placed (overwritten (placed_bytes e row.window.placed) offset bytes) } })
          → new ≡ wrote
      put_so new put =
          put e (is_place row beside contents h id w.copy w.found e lies (placed_at w.copy.copy resident).2 offset bytes w.within)
          (fits row beside contents h id w.copy w.found e lies (placed_at w.copy.copy resident).2 offset bytes w.within)

      module _ (placed : ArePlaced row.window.placed (place_of row.copies)) where
        here_now : (k : CopyView) (f : Extent) → at row.copies id ≡ Some k → extent_of k.copy ≡ Some f → filled (Some (overwritten (bytes_at contents.bytes id) offset bytes)) k.copy ≡ take k.copy.length (placed_bytes f wrote.window.placed)
        here_now k f found place =
            let is : k ≡ w.copy = some_value k w.copy (sym found ∙ w.found) in
            let at_e : f ≡ e = some_value f e (sym place ∙ ap (λ k. extent_of k.copy) is ∙ lies) in
            sym (ap (λ k. take k.copy.length (placed_bytes f wrote.window.placed)) is
            ∙ ap (λ g. take w.copy.copy.length (placed_bytes g wrote.window.placed)) at_e
            ∙ written_here row beside contents h id w.copy w.found e lies (placed_at w.copy.copy resident).2 offset bytes w.within placed)

        elsewhere : (q : ObjectId) (k : CopyView) (f : Extent) → same_id q id ≡ false → at row.copies q ≡ Some k → extent_of k.copy ≡ Some f → filled (at contents.bytes q) k.copy ≡ take k.copy.length (placed_bytes f wrote.window.placed)
        elsewhere q k f differ found place =
            same_bytes node row beside contents h x q k f found place
            ∙ ap (take k.copy.length) (sym (written_elsewhere row beside contents h id w.copy w.found e lies (placed_at w.copy.copy resident).2 offset bytes w.within placed q k f differ found place))

        pub write_done : RowStep node row beside contents x (only reply.Ok) wrote beside
        write_done =
            moved node row beside contents h x (erasing s (done s))
            (called row beside session (command.Write id offset (length bytes)) ∙ ap (erasing s) (own row beside id _ mine ∙ write-by row beside id offset (length bytes) ∙ ap (λ o. unless_refused s o (done s)) passed))
            (only reply.Ok) wrote beside (record {
              shape = refl;
              order = sym (reordered-unused row.order (copies_of row.copies) h.there);
              there = h.there;
              listed = h.listed;
              bytes = λ q k f found place.
                  ap (λ o. filled o k.copy) (at-put contents.bytes id (overwritten (bytes_at contents.bytes id) offset bytes) q)
                  ∙ (elim (same_id q id) as (λ b. same_id q id ≡ b → filled (cond b (Some (overwritten (bytes_at contents.bytes id) offset bytes)) (at contents.bytes q)) k.copy ≡ take k.copy.length (placed_bytes f wrote.window.placed)) [
                    | true ↦ λ t. here_now k f (ap (at row.copies) (sym (same_id-equal q id t)) ∙ found) place
                    | false ↦ λ t. elsewhere q k f t found place
                  ]) refl;
              digests = h.digests;
              working = h.working;
              granted = h.granted;
              received = received_stays node row beside contents h x refl;
              reply = refl;
              erased = sym (ap (map (key_of row.job)) (keys_none (copies_of row.copies) (copies_of row.copies) (all_found (copies_of row.copies))));
            }) refl

  module _ (n : ℕ) where
    abbrev y : Input
    y = input.Call session (command.Read id offset n)

    pub read_refused : (r : Refusal) → read_check row.copies session id offset n ≡ Some r → RowStep node row beside contents y (only (reply.Refused r)) row beside
    read_refused r e =
        stays node row beside contents h y (reply.Refused r)
        (called row beside session (command.Read id offset n) ∙ ap (erasing s) (own row beside id _ mine ∙ read-by row beside id session offset n ∙ ap (λ o. unless_refused s o (replied s (reply.Bytes n))) e)) refl refl refl

    module _ (passed : read_check row.copies session id offset n ≡ None) where
      abbrev got : IsRead row.copies session id offset n
      got = read_passed row.copies session id offset n passed

      pub read_done : (response : List ℕ) → response ≡ take n (drop offset (bytes_at contents.bytes id)) → RowStep node row beside contents y (only (reply.Bytes response)) row beside
      read_done response is = subst (λ bs. RowStep node row beside contents y (only (reply.Bytes bs)) row beside) (sym is)
          (stays node row beside contents h y (reply.Bytes n)
          (called row beside session (command.Read id offset n) ∙ ap (erasing s) (own row beside id _ mine ∙ read-by row beside id session offset n ∙ ap (λ o. unless_refused s o (replied s (reply.Bytes n))) passed)) refl refl refl)

      pub read_found : (shown : List ℕ) → ((k : CopyView) (e : Extent) → at row.copies id ≡ Some k → extent_of k.copy ≡ Some e → shown ≡ take k.copy.length (placed_bytes e row.window.placed)) → shown ≡ bytes_at contents.bytes id
      read_found = held_shown row beside contents h session id got.copy got.found got.held
