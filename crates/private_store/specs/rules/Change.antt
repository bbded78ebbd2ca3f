-- How an input's change is written down: checks in their order, refusals, and how a copy ends.
use Rattle.std.specs.Prelude.{ℕ, Bool, not, ◌&&◌, if◌then◌else◌, List, [], ◌∷◌, ◌++◌, filter_map, Option, Some, None, is_none, option_to_list, Ok, Err}
use Rattle.std.specs.Option.{option_map_or}
use Rattle.std.specs.List.{list_any}
use Rattle.obj_id.specs.declared.ids.TaskNo.{TaskNo}
use Rattle.obj_id.specs.declared.ids.ObjectId.{ObjectId}
use Rattle.obj_id.specs.declared.refusals.Refusal.{Refusal}
use Rattle.obj_id.specs.declared.commands.Reply.{Reply}
use Rattle.obj_id.specs.declared.commands.Reply.TheVariants as reply
use Rattle.obj_id.specs.Ids.{same_task}
use Rattle.private_store.specs.rules.Tables.{ById, at}
use Rattle.private_store.specs.rules.Shape.{Copy, Shape, Change, Sending, remove_location, free}
use Rattle.private_store.specs.rules.Marks.{marked}
use Rattle.private_store.specs.rules.Marks as mark
use Rattle.obj_id.specs.Kinds.{is_primary}
use Rattle.private_store.specs.rules.Copies.{was_sealed, is_idle}
use Rattle.private_store.specs.rules.Room.{Room, set_copy, drop_copy}

-- the store as it is, and this answer
abbrev pub replied : Shape → Reply ℕ → Change
replied store response = record { shape = store; reply = response; sent = []; used = None; erased = [] }

-- the store as it is, and this refusal
abbrev pub refused : Shape → Refusal → Change
refused store refusal = replied store (reply.Refused refusal)

-- the store as it is, and Ok
abbrev pub done : Shape → Change
done store = replied store reply.Ok

-- the refusal of the first test that holds, and else the rest
unfoldable pub checked : Shape → List (Bool × Refusal) → Change → Change
checked store [] rest = rest
checked store (check ∷ checks) rest = if check.0 then refused store check.1 else checked store checks rest

-- what is done with the value, or the refusal where there is none
unfoldable pub needing : {X : Type 0} → Shape → Option X → Refusal → (X → Change) → Change
needing store o refusal f = option_map_or f o (refused store refusal)

-- the same change, with these messages before its own
unfoldable pub sending : List Sending → Change → Change
sending sent c = record c { sent = sent ++ c.sent }

-- what is done with the offset, after what making room did
unfoldable pub in_room : Room → (Shape → ℕ → Change) → Change
in_room room f =
    sending room.sent (elim room.offset [ Ok offset ↦ f room.shape offset | Err refusal ↦ refused room.shape refusal ])

-- the device keys of the backed copies that are gone, in order of id
abbrev pub keys_gone : ById Copy → ById Copy → List ℕ
keys_gone before after = filter_map (λ e. if is_none (at after e.0) then e.1.backed else None) before

-- the same change, and the device keys of what it removed are to be erased
abbrev pub erasing : Shape → Change → Change
erasing store c = record c { erased = keys_gone store.copies c.shape.copies }

-- whether the task has ended here
abbrev pub has_ended : Shape → TaskNo → Bool
has_ended store task = list_any (same_task task) store.ended_tasks

-- a doomed copy goes as soon as it is idle
abbrev pub settled : Shape → ObjectId → Shape
settled store id = option_map_or (λ copy. if copy.doomed && is_idle store id copy then drop_copy store id else store) (at store.copies id) store

-- the copy is marked to go, and goes if nothing keeps it
abbrev pub doomed : Shape → ObjectId → Shape
doomed store id = option_map_or (λ copy. settled (set_copy store id (marked mark.doomed copy)) id) (at store.copies id) store

-- what is sent of a copy that is doomed now: nothing, unless it was sealed
abbrev pub doom_notice : Shape → ObjectId → Option Sending
doom_notice store id =
    option_map_or (λ copy.
    if was_sealed copy.state && not copy.doomed
    then (if is_primary copy.kind then Some (free id) else Some (remove_location id))
    else None) (at store.copies id) None

-- the copy is doomed, and told of
abbrev pub doom : Shape → ObjectId → Change
doom store id = sending (option_to_list (doom_notice store id)) (done (doomed store id))
