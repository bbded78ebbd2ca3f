-- What completes has the bytes of its digest.
use Rattle.std.proofs.Common.{◌≡◌, ℕ, true, List, Some, sym, ap, ◌∙◌}
use Rattle.std.specs.Prelude.{unwrap_or}
use Rattle.obj_id.specs.declared.ids.ObjectId.{ObjectId}
use Rattle.obj_id.specs.declared.messages.Arrival.TheVariants as arrival
use Rattle.obj_id.specs.declared.messages.PeerMessage.TheVariants as peer
use Rattle.private_store.specs.declared.inputs.Input.{Input}
use Rattle.private_store.specs.declared.inputs.Input.TheVariants as input
use Rattle.private_store.specs.rules.Tables.{at}
use Rattle.private_store.specs.rules.Shape.{Copy}
use Rattle.private_store.specs.rules.Copies.{is_sealed}
use Rattle.private_store.specs.rules.Contents.{View, bytes_at, digest_at, digest_of, no_digest, judge, brought, bytes_brought, completes}
use Rattle.private_store.specs.rules.Step.{step}
use Rattle.private_store.specs.rules.Private.{view_step}
use Rattle.private_store.specs.laws.Invariants.{IsViewKept}
use Rattle.store_facts.proofs.Filling.{digest_there, sealed_keeps}
use Rattle.store_facts.proofs.StepsKept.{view_keeps}
use Rattle.store_facts.proofs.Tests.{true_false, T_true}

-- the digest of what stays as it was stands
digest_stands : (node : ℕ) (view : View) (x : Input) (id : ObjectId) (copy : Copy) → IsViewKept view → completes x ≡ true
    → at (view_step node view x).view.shape.copies id ≡ Some copy → is_sealed copy.state ≡ true
    → digest_at (view_step node view x).view.contents.digests id ≡ digest_at view.contents.digests id
digest_stands node view (input.Answer number answer) id copy h c e s =
    let x = input.Answer number answer in
    let after = step view.order view.shape (judge node view x) in
    ap (λ o. unwrap_or o no_digest)
    (digest_there after.shape (brought view.contents.bytes (bytes_brought view x (judge node view x) after.reply)) view.contents.digests (view_step node view x).view.contents.received
    (T_true _ (view_keeps node view x h).kept.shape.by_id) id copy e
    (sealed_keeps after.shape (brought view.contents.bytes (bytes_brought view x (judge node view x) after.reply)) view.contents.digests (view_step node view x).view.contents.received
    (T_true _ (view_keeps node view x h).kept.shape.by_id) copy s))
digest_stands node view (input.Arrive (arrival.FromPeer from (peer.Chunk q number index bytes))) id copy h c e s =
    let x = input.Arrive (arrival.FromPeer from (peer.Chunk q number index bytes)) in
    let after = step view.order view.shape (judge node view x) in
    ap (λ o. unwrap_or o no_digest)
    (digest_there after.shape (brought view.contents.bytes (bytes_brought view x (judge node view x) after.reply)) view.contents.digests (view_step node view x).view.contents.received
    (T_true _ (view_keeps node view x h).kept.shape.by_id) id copy e
    (sealed_keeps after.shape (brought view.contents.bytes (bytes_brought view x (judge node view x) after.reply)) view.contents.digests (view_step node view x).view.contents.received
    (T_true _ (view_keeps node view x h).kept.shape.by_id) copy s))
digest_stands node view (input.Begin quota) id copy h c e s = true_false c
digest_stands node view (input.Requota quota) id copy h c e s = true_false c
digest_stands node view (input.Call session command) id copy h c e s = true_false c
digest_stands node view (input.Arrive (arrival.Located q number entries)) id copy h c e s = true_false c
digest_stands node view (input.Arrive (arrival.FromPeer from (peer.Pull q number n digest indexes))) id copy h c e s = true_false c
digest_stands node view (input.Arrive (arrival.FromPeer from (peer.NotHere q number))) id copy h c e s = true_false c
digest_stands node view (input.Received q bytes grantor depth) id copy h c e s = true_false c
digest_stands node view (input.Withdrawn q grantor depth) id copy h c e s = true_false c
digest_stands node view input.End id copy h c e s = true_false c

pub completed_digest : (node : ℕ) (view : View) (x : Input) (id : ObjectId) (copy : Copy) → IsViewKept view → completes x ≡ true
    → at (view_step node view x).view.shape.copies id ≡ Some copy → is_sealed copy.state ≡ true
    → digest_of (bytes_at (view_step node view x).view.contents.bytes id) ≡ digest_at view.contents.digests id
completed_digest node view x id copy h c e s =
    sym (((view_keeps node view x h).kept.filled.each id copy e).sealed s) ∙ digest_stands node view x id copy h c e s

pub completed_bytes : (node : ℕ) (view : View) (x : Input) (id : ObjectId) (copy : Copy) (text : List ℕ) → IsViewKept view → completes x ≡ true
    → at (view_step node view x).view.shape.copies id ≡ Some copy → is_sealed copy.state ≡ true
    → digest_at view.contents.digests id ≡ digest_of text → ((other : List ℕ) → digest_of other ≡ digest_of text → other ≡ text)
    → bytes_at (view_step node view x).view.contents.bytes id ≡ text
completed_bytes node view x id copy text h c e s d one = one _ (completed_digest node view x id copy h c e s ∙ d)
