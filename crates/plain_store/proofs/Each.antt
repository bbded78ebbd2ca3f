-- A change made at each id in turn.
use Rattle.std.proofs.Common.{◌≡◌, ℕ, true, false, if◌then◌else◌, List, [], ◌∷◌, Some, None, refl, ap, ◌∙◌}
use Rattle.std.specs.Option.{option_map_or}
use Rattle.obj_id.specs.declared.ids.TaskNo.{TaskNo}
use Rattle.private_store.specs.rules.Tables.{at, ids_of}
use Rattle.private_store.specs.rules.Marks.{with_holds, without_borrower}
use Rattle.private_store.specs.rules.Copies.{in_scope}
use Rattle.private_store.specs.rules.Room.{set_copy}
use Rattle.private_store.specs.rules.Replay.{ReplayState}
use Rattle.plain_store.specs.Changing.{task_over}
use Rattle.std.specs.List.{fold}
use Rattle.obj_id.specs.declared.ids.ObjectId.{ObjectId}
use Rattle.obj_id.specs.declared.commands.Reply.TheVariants as reply
use Rattle.private_store.specs.rules.Shape.{Copy, Shape, Change}
use Rattle.private_store.specs.rules.Change.{sending, done, doom, doomed, settled}
use Rattle.private_store.specs.rules.Commands.{at_each, then_change, give_up_one, has_borrower, leave, leave_one, of_task, scoped, task_ended}

abbrev pub shapes : (Shape → ObjectId → Change) → Shape → List ObjectId → Shape
shapes f store ids = fold (λ before id. (f before id).shape) store ids

pub at_each-shape : (f : Shape → ObjectId → Change) (ids : List ObjectId) (c : Change) → (at_each f ids c).shape ≡ shapes f c.shape ids
unfolding sending
at_each-shape f [] c = refl
at_each-shape f (id ∷ ids) c = at_each-shape f ids (then_change c (λ store. f store id))

pub at_each-reply : (f : Shape → ObjectId → Change) (ids : List ObjectId) (c : Change) → ((store : Shape) (id : ObjectId) → (f store id).reply ≡ reply.Ok) → c.reply ≡ reply.Ok → (at_each f ids c).reply ≡ reply.Ok
unfolding sending
at_each-reply f [] c ok here = here
at_each-reply f (id ∷ ids) c ok here = at_each-reply f ids (then_change c (λ store. f store id)) ok (ok c.shape id)

pub at_each-used : (f : Shape → ObjectId → Change) (ids : List ObjectId) (c : Change) → ((store : Shape) (id : ObjectId) → (f store id).used ≡ None) → c.used ≡ None → (at_each f ids c).used ≡ None
unfolding sending
at_each-used f [] c ok here = here
at_each-used f (id ∷ ids) c ok here = at_each-used f ids (then_change c (λ store. f store id)) ok (ok c.shape id)

-- ---- no turn is refused

pub leave_one-reply : (session : ℕ) (store : Shape) (id : ObjectId) → (leave_one session store id).reply ≡ reply.Ok
leave_one-reply session store id =
    elim (at store.copies id) as (λ o. (option_map_or (λ copy. done (settled (set_copy store id (with_holds copy session 0)) id)) o (done store)).reply ≡ reply.Ok) [ None ↦ refl | Some copy ↦ refl ]

pub leave_one-used : (session : ℕ) (store : Shape) (id : ObjectId) → (leave_one session store id).used ≡ None
leave_one-used session store id =
    elim (at store.copies id) as (λ o. (option_map_or (λ copy. done (settled (set_copy store id (with_holds copy session 0)) id)) o (done store)).used ≡ None) [ None ↦ refl | Some copy ↦ refl ]

pub doom-reply : (store : Shape) (id : ObjectId) → (doom store id).reply ≡ reply.Ok
unfolding sending
doom-reply store id = refl

pub doom-used : (store : Shape) (id : ObjectId) → (doom store id).used ≡ None
unfolding sending
doom-used store id = refl

pub doom-shape : (store : Shape) (id : ObjectId) → (doom store id).shape ≡ doomed store id
unfolding sending
doom-shape store id = refl

scoped-reply : (store : Shape) (id : ObjectId) (copy : Copy) → (scoped store id copy).reply ≡ reply.Ok
unfolding sending
scoped-reply store id copy =
    elim (in_scope copy) as (λ b. (if b then done (set_copy store id copy) else doom (set_copy store id copy) id).reply ≡ reply.Ok) [ true ↦ refl | false ↦ refl ]

scoped-used : (store : Shape) (id : ObjectId) (copy : Copy) → (scoped store id copy).used ≡ None
unfolding sending
scoped-used store id copy =
    elim (in_scope copy) as (λ b. (if b then done (set_copy store id copy) else doom (set_copy store id copy) id).used ≡ None) [ true ↦ refl | false ↦ refl ]

pub give_up_one-reply : (task : TaskNo) (store : Shape) (id : ObjectId) → (give_up_one task store id).reply ≡ reply.Ok
give_up_one-reply task store id =
    elim (at store.copies id) as (λ o. (option_map_or (λ copy.
    if copy.doomed then done (set_copy store id (without_borrower copy task)) else
    (if has_borrower copy task then scoped store id (without_borrower copy task) else done store)) o (done store)).reply ≡ reply.Ok) [
      | None ↦ refl
      | Some copy ↦ elim (copy.doomed) as (λ b. (if b then done (set_copy store id (without_borrower copy task)) else
          (if has_borrower copy task then scoped store id (without_borrower copy task) else done store)).reply ≡ reply.Ok) [
            | true ↦ refl
            | false ↦ elim (has_borrower copy task) as (λ b. (if b then scoped store id (without_borrower copy task) else done store).reply ≡ reply.Ok) [
              | true ↦ scoped-reply store id (without_borrower copy task)
              | false ↦ refl
            ]
          ]
    ]

pub give_up_one-used : (task : TaskNo) (store : Shape) (id : ObjectId) → (give_up_one task store id).used ≡ None
give_up_one-used task store id =
    elim (at store.copies id) as (λ o. (option_map_or (λ copy.
    if copy.doomed then done (set_copy store id (without_borrower copy task)) else
    (if has_borrower copy task then scoped store id (without_borrower copy task) else done store)) o (done store)).used ≡ None) [
      | None ↦ refl
      | Some copy ↦ elim (copy.doomed) as (λ b. (if b then done (set_copy store id (without_borrower copy task)) else
          (if has_borrower copy task then scoped store id (without_borrower copy task) else done store)).used ≡ None) [
            | true ↦ refl
            | false ↦ elim (has_borrower copy task) as (λ b. (if b then scoped store id (without_borrower copy task) else done store).used ≡ None) [
              | true ↦ scoped-used store id (without_borrower copy task)
              | false ↦ refl
            ]
          ]
    ]

-- ---- all turns

pub leave-shape : (store : Shape) (session : ℕ) → (leave store session).shape ≡ shapes (leave_one session) store (ids_of store.copies)
leave-shape store session = at_each-shape (leave_one session) (ids_of store.copies) (done store)

pub leave-reply : (store : Shape) (session : ℕ) → (leave store session).reply ≡ reply.Ok
leave-reply store session = at_each-reply (leave_one session) (ids_of store.copies) (done store) (leave_one-reply session) refl

pub leave-used : (store : Shape) (session : ℕ) → (leave store session).used ≡ None
leave-used store session = at_each-used (leave_one session) (ids_of store.copies) (done store) (leave_one-used session) refl

pub over-shape : (store : Shape) (task : TaskNo) → (task_over store task).shape ≡ shapes (give_up_one task) (shapes doom (task_ended store task) (of_task task (ids_of store.copies))) (ids_of store.copies)
over-shape store task =
    at_each-shape (give_up_one task) (ids_of store.copies) (at_each doom (of_task task (ids_of store.copies)) (done (task_ended store task)))
    ∙ ap (λ s. shapes (give_up_one task) s (ids_of store.copies)) (at_each-shape doom (of_task task (ids_of store.copies)) (done (task_ended store task)))

pub over-reply : (store : Shape) (task : TaskNo) → (task_over store task).reply ≡ reply.Ok
over-reply store task =
    at_each-reply (give_up_one task) (ids_of store.copies) (at_each doom (of_task task (ids_of store.copies)) (done (task_ended store task))) (give_up_one-reply task)
    (at_each-reply doom (of_task task (ids_of store.copies)) (done (task_ended store task)) doom-reply refl)

pub over-used : (store : Shape) (task : TaskNo) → (task_over store task).used ≡ None
over-used store task =
    at_each-used (give_up_one task) (ids_of store.copies) (at_each doom (of_task task (ids_of store.copies)) (done (task_ended store task))) (give_up_one-used task)
    (at_each-used doom (of_task task (ids_of store.copies)) (done (task_ended store task)) doom-used refl)

abbrev pub with_shape : ReplayState → Shape → ReplayState
with_shape replay_state shape = record replay_state { shape = shape }
