-- A step adds no copy but the one that it makes most recently used, and keeps the table in order.
use Rattle.std.proofs.Common.{◌≡◌, ◌+◌, true, false, not, ◌⊎◌, inl, inr, List, Option, Some, None, is_some, sym, ap, ◌∙◌, T, MatchOption}
use Rattle.std.specs.FinMap.{is_sorted}
use Rattle.std.specs.FinMap.Entries.{is_sorted-where_key, is_sorted-put}
use Rattle.obj_id.specs.declared.ids.ObjectId.{ObjectId}
use Rattle.obj_id.specs.Ids.{id_cmp, same_id}
use Rattle.private_store.specs.declared.inputs.Judged.{Judged}
use Rattle.private_store.specs.rules.Tables.{ById, at}
use Rattle.private_store.specs.rules.Shape.{Copy, Shape, Change}
use Rattle.private_store.specs.rules.Marks.{marked}
use Rattle.private_store.specs.rules.Commands.{new_copy, fetched_copy}
use Rattle.private_store.specs.rules.Step.{step, is_used}
use Rattle.private_store.specs.laws.Made.{Edit, marks, drops, creates, fetches, ends, IsUsedThere}
use Rattle.store_facts.proofs.EachStep.{step_made, edits_keep, input_keeps}
use Rattle.store_facts.proofs.Rows.{put_rows, drop_rows}
use Rattle.store_facts.proofs.Tests.{true_false}
use Rattle.store_facts.proofs.Ids.{id_cmp-IsTotalOrder, same_id-itself}

abbrev pub InOrder : Shape → Type 0
InOrder store = T (is_sorted id_cmp store.copies)

pub record Sound (old new : ById Copy) (used : Option ObjectId) : Type 0 where
  pub in_order : T (is_sorted id_cmp new)
  pub had : (id : ObjectId) → is_some (at new id) ≡ true → is_used used id ≡ false → is_some (at old id) ≡ true
  pub there : MatchOption used (Unit {0}) (λ id. is_some (at new id) ≡ true)

pub record IsSound (store : Shape) (c : Change) : Type 0 where
  pub is : Sound store.copies c.shape.copies c.used

edit_sorted : {x : Judged} (used : Option ObjectId) (store after : Shape) → Edit x used store after → InOrder store → InOrder after
edit_sorted used store after (marks id copy m e can) h = is_sorted-put id_cmp id_cmp-IsTotalOrder id (marked m copy) store.copies h
edit_sorted used store after (drops id copy e g) h = is_sorted-where_key id_cmp (λ x. not (same_id id x)) store.copies h
edit_sorted used store after (creates id kind n offset u stirs) h = is_sorted-put id_cmp id_cmp-IsTotalOrder id (new_copy kind n offset) store.copies h
edit_sorted used store after (fetches id u e n stirs) h = is_sorted-put id_cmp id_cmp-IsTotalOrder id (fetched_copy (store.fetches_begun + 1)) store.copies h
edit_sorted used store after (ends e lives) h = tt
edit_sorted used store after _ h = h

-- no copy is new but the one that is used
edit_adds : {x : Judged} (used : Option ObjectId) (store after : Shape) → Edit x used store after → (q : ObjectId) → is_some (at after.copies q) ≡ true → (is_some (at store.copies q) ≡ true) ⊎ (is_used used q ≡ true)
edit_adds used store after (marks id copy m e can) =
    put_rows (λ q o. is_some o ≡ true → (is_some (at store.copies q) ≡ true) ⊎ (is_used used q ≡ true)) store.copies id (marked m copy) (λ _. inl (ap is_some e)) (λ q _ t. inl t)
edit_adds used store after (drops id copy e g) =
    drop_rows (λ q o. is_some o ≡ true → (is_some (at store.copies q) ≡ true) ⊎ (is_used used q ≡ true)) store.copies id (λ q t. true_false t) (λ q t. inl t)
edit_adds used store after (creates id kind n offset u stirs) =
    put_rows (λ q o. is_some o ≡ true → (is_some (at store.copies q) ≡ true) ⊎ (is_used used q ≡ true)) store.copies id (new_copy kind n offset) (λ _. inr (ap (λ o. is_used o id) u ∙ same_id-itself id)) (λ q _ t. inl t)
edit_adds used store after (fetches id u e h stirs) =
    put_rows (λ q o. is_some o ≡ true → (is_some (at store.copies q) ≡ true) ⊎ (is_used used q ≡ true)) store.copies id (fetched_copy (store.fetches_begun + 1)) (λ _. inr (ap (λ o. is_used o id) u ∙ same_id-itself id)) (λ q _ t. inl t)
edit_adds used store after (ends e lives) = λ q t. true_false t
edit_adds used store after _ = λ q t. inl t

pub step_adds : (order : List ObjectId) (store : Shape) (x : Judged) (q : ObjectId) → is_some (at (step order store x).shape.copies q) ≡ true → (is_some (at store.copies q) ≡ true) ⊎ (is_used (step order store x).used q ≡ true)
step_adds order store x =
    let c = step order store x in
    edits_keep (λ mid. (q : ObjectId) → is_some (at mid.copies q) ≡ true → (is_some (at store.copies q) ≡ true) ⊎ (is_used c.used q ≡ true))
    (λ mid after e h q t. elim (edit_adds c.used mid after e q t) [ inl was ↦ h q was | inr now ↦ inr now ])
    (step_made order store x).edits (λ q t. inl t)

used_is_there : (used : Option ObjectId) (copies : ById Copy) → IsUsedThere used copies → MatchOption used (Unit {0}) (λ id. is_some (at copies id) ≡ true)
used_is_there None copies h = tt
used_is_there (Some id) copies h = h

-- each step of a job's store is sound
pub step_sound : (store : Shape) → InOrder store → (order : List ObjectId) (x : Judged) → IsSound store (step order store x)
step_sound store h order x = record {
  is = record {
    in_order = input_keeps InOrder order store x edit_sorted h;
    had = λ q t other. elim (step_adds order store x q t) [ inl was ↦ was | inr now ↦ true_false (sym other ∙ now) ];
    there = used_is_there (step order store x).used (step order store x).shape.copies (step_made order store x).used;
  };
}
