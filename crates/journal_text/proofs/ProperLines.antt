-- An entry of a program that is a proper one has a line that is read back.
use Rattle.std.proofs.Common.{ℕ, suc, ◌<◌, ◌≤◌, List, [], ◌∷◌, length, All, arith}
use Rattle.obj_id.specs.declared.commands.GrantedItem.{GrantedItem}
use Rattle.obj_id.specs.declared.commands.OwnItem.{OwnItem}
use Rattle.obj_id.specs.declared.commands.Reply.{Reply}
use Rattle.obj_id.specs.declared.commands.Reply.TheVariants as reply
use Rattle.obj_id.specs.declared.messages.Location.{Location}
use Rattle.journal_text.specs.declared.entry.Entry.{Entry}
use Rattle.journal_text.specs.declared.entry.LineInput.{LineInput}
use Rattle.journal_text.specs.declared.entry.LineInput.TheVariants as input
use Rattle.journal_text.specs.Typed.{FitsGranted, FitsOwn, IsProper, IsProperInput, IsProperReply, IsTyped, IsTypedInput, IsTypedReply}
use Rattle.journal_text.specs.Writable.{FitGranted, FitLocations, FitOwn, FitsInput, FitsLocation, FitsReply, IsWritable}

-- the others of a list
others : {X : Type 0} (P : X → Type 0) (x : X) (xs : List X) → All P (x ∷ xs) → All P xs
others P x xs h = λ k d l. h (suc k) d (omega (arith, l))

locations : (xs : List Location) → All FitsLocation xs → FitLocations xs
locations [] h = tt
locations (x ∷ xs) h = (h 0 x (omega arith), locations xs (others FitsLocation x xs h))

own_items : (xs : List OwnItem) → All FitsOwn xs → FitOwn xs
own_items [] h = tt
own_items (x ∷ xs) h = let first = h 0 x (omega arith) in (first.0, first.1, own_items xs (others FitsOwn x xs h))

granted_items : (xs : List GrantedItem) → All FitsGranted xs → All (λ x. 1 ≤ x.depth) xs → FitGranted xs
granted_items [] h deep = tt
granted_items (x ∷ xs) h deep =
    let first = h 0 x (omega arith) in
    (first.0, first.1, (deep 0 x (omega arith), first.2), granted_items xs (others FitsGranted x xs h) (others (λ x. 1 ≤ x.depth) x xs deep))

asked : (x : LineInput) → IsTypedInput x → IsProperInput x → FitsInput x
asked (input.Begin quota) h p = h
asked (input.Requota quota) h p = h
asked input.End h p = h
asked (input.Call session c) h p = h
asked (input.Answer number verdict) h p = h
asked (input.Located id number entries) h p = (h.0, h.1, locations entries h.2)
asked (input.Chunk id number index from verdict) h p = h
asked (input.Pull id number matched) h p = h
asked (input.NotHere id number from) h p = h
asked (input.Received id n grantor depth) h p = (h.0, h.1, (p.0 h.0.job_positive, h.2), (p.1, h.3))
asked (input.Withdrawn id grantor depth) h p = (h.0, (p.0 h.0.job_positive, h.1), (p.1, h.2))

answered : (r : Reply ℕ) → IsTypedReply r → IsProperReply r → FitsReply r
answered reply.Ok h p = h
answered (reply.Placed offset extent) h p = h
answered (reply.Got n) h p = h
answered (reply.Bytes count) h p = h
answered (reply.List own granted) h p = (own_items own h.0, granted_items granted h.1 p)
answered (reply.Usage usage) h p = h
answered (reply.Work work) h p = p
answered reply.NoWork h p = p
answered (reply.Refused refusal) h p = h

pub writable : (x : Entry) → IsTyped x → IsProper x → IsWritable x
writable x h p = record { address = (p.node, (p.job, h.job), h.number); asked = asked x.input h.asked p.asked; answered = answered x.reply h.answered p.answered; fitting = p.fitting }
