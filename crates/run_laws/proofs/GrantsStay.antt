-- Which inputs leave a store its grants: all but a Grant, a Withdraw, an EndTask, the job's end and the notes of grants.
use Rattle.std.proofs.Common.{◌≡◌, ℕ, true, false, List, [], ◌∷◌, Option, None, refl, sym, ap, ◌∙◌}
use Rattle.obj_id.specs.declared.ids.ObjectId.{ObjectId}
use Rattle.obj_id.specs.declared.ids.TaskNo.{TaskNo}
use Rattle.obj_id.specs.declared.commands.Command.TheVariants as command
use Rattle.private_store.specs.declared.inputs.Judged.{Judged}
use Rattle.private_store.specs.declared.inputs.Judged.TheVariants as judged
use Rattle.private_store.specs.rules.Shape.{Shape, Change}
use Rattle.private_store.specs.rules.Change.{sending, settled, doom}
use Rattle.private_store.specs.rules.Commands.{at_each, then_change, give_up_one, leave_one}
use Rattle.private_store.specs.rules.Step.{step}
use Rattle.private_store.specs.laws.Invariants.{is_end}
use Rattle.private_store.specs.laws.Made.{Edit, Edits, none, ends_task, gives, leaves, receives, loses, ends, changes_grants}
use Rattle.store_facts.proofs.StepParts.{settled_edits, doom_unused, give_up_one_unused, leave_one_unused}
use Rattle.store_facts.proofs.EachStep.{edits_keep, step_made}
use Rattle.store_facts.proofs.Tests.{true_false}

-- what the job gave and was given is the same
pub record SameGrants (store after : Shape) : Type 0 where
  pub job : after.job ≡ store.job
  pub given : after.given ≡ store.given
  pub received : after.received ≡ store.received

pub same_grants : (store : Shape) → SameGrants store store
same_grants store = record { job = refl; given = refl; received = refl }

then_grants : {a b c : Shape} → SameGrants a b → SameGrants b c → SameGrants a c
then_grants h k = record { job = k.job ∙ h.job; given = k.given ∙ h.given; received = k.received ∙ h.received }

end_changes : (x : Judged) → is_end x ≡ true → changes_grants x ≡ true
end_changes judged.End e = refl
end_changes x e = true_false e

edit_same : {x : Judged} → changes_grants x ≡ false → (used : Option ObjectId) (store after : Shape) → Edit x used store after → SameGrants store after
edit_same stays used store after (ends_task task is) = true_false (sym stays ∙ is)
edit_same stays used store after (gives grant is) = true_false (sym stays ∙ is)
edit_same stays used store after (leaves stands is) = true_false (sym stays ∙ is)
edit_same stays used store after (receives id n grantor depth is) = true_false (sym stays ∙ ap changes_grants is)
edit_same stays used store after (loses id grantor depth seen found is) = true_false (sym stays ∙ is)
edit_same {x} stays used store after (ends is lives) = true_false (sym stays ∙ end_changes x is)
edit_same stays used store after _ = record { job = refl; given = refl; received = refl }

edits_same : {x : Judged} {used : Option ObjectId} {store after : Shape} → changes_grants x ≡ false → Edits x used store after → SameGrants store after
edits_same {used = used} {store = store} stays edits = edits_keep (SameGrants store) (λ mid next e h. then_grants h (edit_same stays used mid next e)) edits (same_grants store)

pub grants_stay : (order : List ObjectId) (store : Shape) (x : Judged) → changes_grants x ≡ false → SameGrants store (step order store x).shape
grants_stay order store x stays = edits_same stays (step_made order store x).edits

-- ---- parts of inputs

-- a Delete changes no grants, and may do to a copy whatever the parts below do
abbrev deleted : ObjectId → Judged
deleted id = judged.Call 0 (command.Delete id)

pub settled_still : (store : Shape) (id : ObjectId) → SameGrants store (settled store id)
settled_still store id = edits_same {x = deleted id} refl (settled_edits (deleted id) None store id none)

pub doom_still : (store : Shape) (id : ObjectId) → SameGrants store (doom store id).shape
doom_still store id = edits_same {x = deleted id} refl (doom_unused (deleted id) (λ q. (refl, refl)) store id none).edits

pub give_up_one_still : (task : TaskNo) (store : Shape) (id : ObjectId) → SameGrants store (give_up_one task store id).shape
give_up_one_still task store id = edits_same {x = deleted id} refl (give_up_one_unused (deleted id) (λ q. (refl, refl)) task store id).edits

pub leave_one_still : (session : ℕ) (store : Shape) (id : ObjectId) → SameGrants store (leave_one session store id).shape
leave_one_still session store id = edits_same {x = deleted id} refl (leave_one_unused (deleted id) session store id).edits

then_still : (store : Shape) (c : Change) (f : Shape → Change) → SameGrants store c.shape → SameGrants c.shape (f c.shape).shape → SameGrants store (then_change c f).shape
unfolding sending
then_still store c f h k = then_grants h k

pub at_each_still : (f : Shape → ObjectId → Change) → ((store : Shape) (id : ObjectId) → SameGrants store (f store id).shape) → (store : Shape) (ids : List ObjectId) (c : Change) → SameGrants store c.shape → SameGrants store (at_each f ids c).shape
at_each_still f each store [] c h = h
at_each_still f each store (id ∷ ids) c h = at_each_still f each store ids (then_change c (λ s. f s id)) (then_still store c (λ s. f s id) h (each c.shape id))
