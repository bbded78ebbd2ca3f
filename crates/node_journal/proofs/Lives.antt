-- Whether a job was ever admitted: its admission alone makes it so.
use Rattle.std.proofs.Common.{◌≡◌, ℕ, Bool, true, false, not, ◌||◌, ◌&&◌, List, [], ◌∷◌, ◌++◌, subst, Option, Some, None, refl, sym, ap, ◌∙◌}
use Rattle.std.specs.Prelude.{option_to_list}
use Rattle.std.specs.Option.{option_map_or}
use Rattle.std.specs.List.{list_any}
use Rattle.obj_id.specs.declared.ids.ObjectId.{ObjectId}
use Rattle.obj_id.specs.declared.works.Quota.{Quota}
use Rattle.obj_id.specs.declared.refusals.Refusal.{Refusal}
use Rattle.obj_id.specs.declared.refusals.Refusal.TheVariants.{BadSize, Stale}
use Rattle.obj_id.specs.declared.commands.Reply.{Reply}
use Rattle.obj_id.specs.declared.commands.Reply.TheVariants as reply
use Rattle.private_store.specs.declared.inputs.Judged.{Judged}
use Rattle.private_store.specs.declared.inputs.Judged.TheVariants as judged
use Rattle.private_store.specs.rules.Shape.{Shape, Change, Life, not_begun, live, ended}
use Rattle.private_store.specs.rules.Change.{checked, done, refused}
use Rattle.private_store.specs.rules.Limits.{is_quota}
use Rattle.private_store.specs.rules.Events.{is_live, begin}
use Rattle.private_store.specs.laws.Made.{Edit, begins, ends}
use Rattle.private_store.specs.rules.Step.{step}
use Rattle.private_store.specs.rules.Replay.{ReplayState, Line as Replayed, replayed, replay_after}
use Rattle.store_facts.proofs.Checks.{checked-nil, checked-true, checked-false}
use Rattle.store_facts.proofs.EachStep.{input_keeps}
use Rattle.store_facts.proofs.Tests.{true_false}
use Rattle.plain_store.specs.Parts.{has_begun}
use Rattle.node_journal.specs.Replies.{unlisted}
use Rattle.node_journal.specs.Journals.{AreDue, is_begin, is_ok, begins as line_begins, lines_of, journal_line_of}
use Rattle.node_journal.specs.declared.entries.Line.{Line}

-- ---- one that was admitted

edit_begun : {x : Judged} {used : Option ObjectId} (store after : Shape) → Edit x used store after → has_begun store.life ≡ true → has_begun after.life ≡ true
edit_begun store after (begins quota is fresh fine) h = refl
edit_begun store after (ends is lives) h = refl
edit_begun store after _ h = h

-- ---- one that wasn't

fresh_dead : (store : Shape) → store.life ≡ not_begun → is_live store ≡ false
fresh_dead store fresh = ap (λ (l : Life). elim l as (λ _. Bool) [ not_begun ↦ false | live ↦ true | ended ↦ false ]) fresh

edit_fresh : {x : Judged} {used : Option ObjectId} → is_begin x ≡ false → (store after : Shape) → Edit x used store after → store.life ≡ not_begun → after.life ≡ not_begun
edit_fresh other store after (begins quota is fresh fine) h = true_false (sym other ∙ ap is_begin is)
edit_fresh other store after (ends is lives) h = true_false (sym (fresh_dead store h) ∙ lives)
edit_fresh other store after _ h = h

-- ---- one step

abbrev IsBegunBy : Shape → Judged → Change → Type 0
IsBegunBy store x c = has_begun c.shape.life ≡ (has_begun store.life || (is_begin x && is_ok (unlisted c.reply)))

module _ (store : Shape) (fresh : store.life ≡ not_begun) where
  abbrev IsSo : Change → Type 0
  IsSo c = has_begun c.shape.life ≡ (has_begun store.life || is_ok (unlisted c.reply))

  begin_so : (quota : Quota) → IsSo (begin store quota)
  begin_so quota = subst IsSo (sym is) (by (is_quota quota) refl)
    where
      begun : Shape
      begun = record store { life = live; quota = quota }

      checks : List (Bool × Refusal)
      checks = (not (is_quota quota), BadSize) ∷ []

      is : begin store quota ≡ checked store checks (done begun)
      is = ap (λ (l : Life). elim l as (λ _. Change) [ not_begun ↦ checked store checks (done begun) | live ↦ refused store Stale | ended ↦ refused store Stale ]) fresh

      by : (b : Bool) → is_quota quota ≡ b → IsSo (checked store checks (done begun))
      by true fine = subst IsSo (sym (checked-false store (not (is_quota quota)) BadSize [] (done begun) (ap not fine) ∙ checked-nil store (done begun))) (sym (ap (λ l. has_begun l || true) fresh))
      by false wrong = subst IsSo (sym (checked-true store (not (is_quota quota)) BadSize [] (done begun) (ap not wrong))) (ap has_begun fresh ∙ sym (ap (λ l. has_begun l || false) fresh))

  other_so : (order : List ObjectId) (x : Judged) → is_begin x ≡ false → IsBegunBy store x (step order store x)
  other_so order x other =
      let c : Change = step order store x in
      let same : c.shape.life ≡ not_begun = input_keeps (λ s. s.life ≡ not_begun) order store x (λ used mid next. edit_fresh other mid next) fresh in
      ap has_begun same ∙ sym (ap (λ b. has_begun store.life || (b && is_ok (unlisted c.reply))) other ∙ ap (λ l. has_begun l || false) fresh)

  fresh_so : (order : List ObjectId) (x : Judged) → IsBegunBy store x (step order store x)
  fresh_so order (judged.Begin quota) = begin_so quota
  fresh_so order x = other_so order x refl

step_so : (order : List ObjectId) (store : Shape) (x : Judged) → IsBegunBy store x (step order store x)
step_so order store x = by store.life refl
  where
    c : Change
    c = step order store x

    begun : has_begun store.life ≡ true → IsBegunBy store x c
    begun h = input_keeps (λ s. has_begun s.life ≡ true) order store x (λ used mid next. edit_begun mid next) h ∙ sym (ap (λ b. b || (is_begin x && is_ok (unlisted c.reply))) h)

    by : (l : Life) → store.life ≡ l → IsBegunBy store x c
    by not_begun e = fresh_so store e order x
    by live e = begun (ap has_begun e)
    by ended e = begun (ap has_begun e)

-- ---- a replay

or_false : (a : Bool) → a ≡ (a || false)
or_false true = refl
or_false false = refl

or_assoc : (a b c : Bool) → ((a || b) || c) ≡ (a || (b || c))
or_assoc true b c = refl
or_assoc false b c = refl

abbrev first_told : Reply ℕ → List (Reply ℕ) → Reply ℕ
first_told other [] = other
first_told other (r ∷ rs) = r

abbrev rest_told : List (Reply ℕ) → List (Reply ℕ)
rest_told [] = []
rest_told (r ∷ rs) = rs

pub replay_begins : (ls : List Line) (b : ReplayState) → AreDue b (lines_of ls) → has_begun (replayed b (lines_of ls)).shape.life ≡ (has_begun b.shape.life || list_any line_begins ls)
replay_begins [] b due = or_false (has_begun b.shape.life)
replay_begins (l ∷ ls) b due = by (replay_begins ls) (journal_line_of l) due
  where
    Then : ReplayState → Type 0
    Then from = AreDue from (lines_of ls) → has_begun (replayed from (lines_of ls)).shape.life ≡ (has_begun from.shape.life || list_any line_begins ls)

    by : ((from : ReplayState) → Then from) → (o : Option Replayed) → AreDue b (option_to_list o ++ lines_of ls)
        → has_begun (replayed b (option_to_list o ++ lines_of ls)).shape.life ≡ (has_begun b.shape.life || (option_map_or (λ (response : Replayed). is_begin response.input && is_ok response.reply) o false || list_any line_begins ls))
    by later None due = later b due
    by later (Some response) due =
        later (replay_after b response.input) (ap rest_told due)
        ∙ ap (λ t. t || list_any line_begins ls) (step_so b.order b.shape response.input ∙ ap (λ r. has_begun b.shape.life || (is_begin response.input && is_ok r)) (sym (ap (first_told reply.Ok) due)))
        ∙ or_assoc (has_begun b.shape.life) (is_begin response.input && is_ok response.reply) (list_any line_begins ls)
