-- A store keeps the bytes that it received with a grant, until the last grant of the object has ended.
use Rattle.std.proofs.Common.{◌≡◌, ℕ, true, false, cond, List, [], ◌∷◌, ◌++◌, length, Option, Some, None, is_some, unwrap_or, refl, sym, ap, ◌∙◌}
use Rattle.std.specs.Option.{option_map_or}
use Rattle.obj_id.specs.declared.ids.ObjectId.{ObjectId}
use Rattle.obj_id.specs.declared.ids.JobNo.{JobNo}
use Rattle.obj_id.specs.declared.messages.Arrival.TheVariants as arrival
use Rattle.obj_id.specs.declared.messages.PeerMessage.TheVariants as peer
use Rattle.obj_id.specs.Ids.{same_id}
use Rattle.store_facts.proofs.Ids.{same_id-equal}
use Rattle.private_store.specs.declared.inputs.Input.{Input}
use Rattle.private_store.specs.declared.inputs.Input.TheVariants as input
use Rattle.private_store.specs.rules.Tables.{ById, at, with_entry, without_entry}
use Rattle.private_store.specs.rules.Shape.{Shape, Seen}
use Rattle.private_store.specs.rules.Events.{grants_of, without_grant}
use Rattle.private_store.specs.rules.Contents.{View, judge, bytes_at, brought, bytes_received, kept}
use Rattle.private_store.specs.rules.Private.{Store, private_step, view_of}
use Rattle.store_facts.proofs.Rows.{at-put, put_rows, drop_rows}
use Rattle.store_facts.proofs.Tests.{true_false, none_some}
use Rattle.private_store.specs.declared.inputs.Judged.{Judged}
use Rattle.private_store.specs.laws.Made.{Edit, receives, loses}
use Rattle.store_facts.proofs.AnswersAre.{is_received}
use Rattle.store_facts.proofs.EachStep.{input_keeps}
use Rattle.run_laws.proofs.OverStores.{is_own}

-- a table of bytes, with the rows that are still known
abbrev row_of : ById (List ℕ) → ObjectId → Option Seen → Option (List ℕ)
row_of table q None = None
row_of table q (Some x) = Some (unwrap_or (at table q) [])

at_every : (table : ById (List ℕ)) (es : ById Seen) (q : ObjectId) → at (kept (λ x. true) (λ x. []) table es) q ≡ row_of table q (at es q)
at_every table [] q = refl
at_every table (e ∷ es) q =
    elim (same_id q e.0) as (λ b. same_id q e.0 ≡ b → cond b (Some (unwrap_or (at table e.0) [])) (at (kept (λ x. true) (λ x. []) table es) q) ≡ row_of table q (cond b (Some e.1) (at es q))) [
      | true ↦ λ t. ap (λ x. Some (unwrap_or (at table x) [])) (sym (same_id-equal q e.0 t))
      | false ↦ λ t. at_every table es q
    ] refl

seen_row : (table new : ById (List ℕ)) (q : ObjectId) (o : Option Seen) → at new q ≡ row_of table q o → is_some o ≡ true → bytes_at new q ≡ bytes_at table q
seen_row table new q None e k = true_false k
seen_row table new q (Some seen) e k = ap (λ o. unwrap_or o []) e

seen_bytes : (m : ℕ) (s : Store) (x : Input) (q : ObjectId) → is_some (at (private_step m s x).shape.received q) ≡ true
    → bytes_at (private_step m s x).contents.received q ≡ bytes_at (brought s.contents.received (bytes_received x)) q
seen_bytes m s x q k =
    let after = private_step m s x in
    let table = brought s.contents.received (bytes_received x) in
    seen_row table after.contents.received q (at after.shape.received q) (at_every table after.shape.received q) k

-- ---- which objects stay known

lost_knows : (table : ById Seen) (id : ObjectId) (seen : Seen) → at table id ≡ Some seen → (left : Option Seen) (q : ObjectId) → is_some (at (option_map_or (λ rest. with_entry table id rest) left (without_entry table id)) q) ≡ true → is_some (at table q) ≡ true
lost_knows table id seen e None q = drop_rows (λ q o. is_some o ≡ true → is_some (at table q) ≡ true) table id (λ q k. true_false k) (λ q k. k) q
lost_knows table id seen e (Some rest) q = put_rows (λ q o. is_some o ≡ true → is_some (at table q) ≡ true) table id rest (λ k. ap is_some e) (λ q _ k. k) q

edit_knows : {x : Judged} → is_received x ≡ false → (q : ObjectId) (used : Option ObjectId) (store after : Shape) → Edit x used store after → is_some (at after.received q) ≡ true → is_some (at store.received q) ≡ true
edit_knows other q used store after (receives id n grantor depth is) = true_false (sym other ∙ ap is_received is)
edit_knows other q used store after (loses id grantor depth seen e is) = lost_knows store.received id seen e (without_grant seen grantor depth) q
edit_knows other q used store after _ = λ k. k

brings_none : (m : ℕ) (view : View) (x : Input) → bytes_received x ≡ None → is_received (judge m view x) ≡ false
brings_none m view (input.Received id bytes grantor depth) e = none_some _ (sym e)
brings_none m view (input.Arrive (arrival.Located id number entries)) e = refl
brings_none m view (input.Arrive (arrival.FromPeer from (peer.Pull id number n digest indexes))) e = refl
brings_none m view (input.Arrive (arrival.FromPeer from (peer.Chunk id number index bytes))) e = refl
brings_none m view (input.Arrive (arrival.FromPeer from (peer.NotHere id number))) e = refl
brings_none m view x e = refl

-- what is known after an input that brings nothing was known before
known_before : (m : ℕ) (s : Store) (x : Input) (q : ObjectId) → bytes_received x ≡ None → is_some (at (private_step m s x).shape.received q) ≡ true → is_some (at s.shape.received q) ≡ true
known_before m s x q e =
    input_keeps (λ after. is_some (at after.received q) ≡ true → is_some (at s.shape.received q) ≡ true) (view_of s).order s.shape (judge m (view_of s) x)
    (λ used mid next edit h k. h (edit_knows (brings_none m (view_of s) x e) q used mid next edit k)) (λ k. k)

-- ---- their bytes

-- the store has these bytes of the object, if it knows the object
abbrev pub Has : ObjectId → List ℕ → Store → Type 0
Has id bytes s = is_some (at s.shape.received id) ≡ true → bytes_at s.contents.received id ≡ bytes

other_has : (id : ObjectId) (bytes : List ℕ) (m : ℕ) (s : Store) (x : Input) → bytes_received x ≡ None → Has id bytes s → Has id bytes (private_step m s x)
other_has id bytes m s x e h k = seen_bytes m s x id k ∙ ap (λ o. bytes_at (brought s.contents.received o) id) e ∙ h (known_before m s x id e k)

own_brings : (x : Input) → is_own x ≡ true → bytes_received x ≡ None
own_brings (input.Received id bytes grantor depth) e = true_false e
own_brings x e = refl

pub own_has : (id : ObjectId) (bytes : List ℕ) (m : ℕ) (s : Store) (x : Input) → is_own x ≡ true → Has id bytes s → Has id bytes (private_step m s x)
own_has id bytes m s x e = other_has id bytes m s x (own_brings x e)

pub withdrawn_has : (id : ObjectId) (bytes : List ℕ) (m : ℕ) (s : Store) (q : ObjectId) (grantor : JobNo) (depth : ℕ) → Has id bytes s → Has id bytes (private_step m s (input.Withdrawn q grantor depth))
withdrawn_has id bytes m s q grantor depth = other_has id bytes m s (input.Withdrawn q grantor depth) refl

pub received_has : (id : ObjectId) (bytes : List ℕ) (m : ℕ) (s : Store) (q : ObjectId) (new : List ℕ) (grantor : JobNo) (depth : ℕ) → (same_id id q ≡ true → new ≡ bytes) → Has id bytes s → Has id bytes (private_step m s (input.Received q new grantor depth))
received_has id bytes m s q new grantor depth same h k =
    let after = private_step m s (input.Received q new grantor depth) in
    seen_bytes m s (input.Received q new grantor depth) id k ∙ ap (λ o. unwrap_or o []) (at-put s.contents.received q new id)
    ∙ elim (same_id id q) as (λ t. same_id id q ≡ t → unwrap_or (cond t (Some new) (at s.contents.received id)) [] ≡ bytes) [
      | true ↦ λ t. same t
      | false ↦ λ t. h (known t)
    ] refl
  where
    row : ObjectId → List ℕ → JobNo → ℕ → Seen
    row q new grantor depth = record { length = length new; grants = grants_of s.shape q ++ record { grantor = grantor.0; depth = depth } ∷ [] }

    known : same_id id q ≡ false → is_some (at s.shape.received id) ≡ true
    known t = sym (ap is_some (at-put s.shape.received q (row q new grantor depth) id) ∙ ap (λ b. is_some (cond b (Some (row q new grantor depth)) (at s.shape.received id))) t) ∙ k
