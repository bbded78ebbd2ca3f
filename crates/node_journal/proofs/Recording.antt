-- What the record of a step needs, and what it adds.
use Rattle.std.proofs.Common.{◌≡◌, ℕ, ◌≤◌, ◌+◌, Bool, true, false, ◌||◌, List, [], ◌∷◌, ◌++◌, length, map, append_assoc, Result, Ok, Err, IfOk, OnErr, refl, sym, ap, ◌∙◌, arith}
use Rattle.std.specs.Prelude.{if◌then◌else◌, nat_le}
use Rattle.std.proofs.Math.Logic.{∥∥₁_elim}
use mathlib.Core.Bool.{Bool-set}
use Rattle.std.proofs.lemmas.Bool.Decides.{nat_tests}
use Rattle.std.specs.List.{list_any}
use Rattle.std.proofs.lemmas.List.{length-map}
use Rattle.obj_id.specs.declared.ids.JobNo.{JobNo}
use Rattle.obj_id.specs.declared.commands.Reply.{Reply}
use Rattle.obj_id.specs.declared.commands.Reply.TheVariants as reply
use Rattle.private_store.specs.declared.schedules.Event.{Event}
use Rattle.private_store.specs.rules.Grants.{StandingGrant}
use Rattle.private_store.specs.rules.Jobs.{same_job}
use Rattle.store_facts.proofs.Tests.{true_false}
use Rattle.node_core.specs.declared.outcome.Note.{Note}
use Rattle.node_core.specs.Foreseen.{AreTakers, grantees_of}
use Rattle.node_core.specs.Hosted.{Hosted}
use Rattle.node_core.specs.Judged.{TellsFew}
use Rattle.node_journal.specs.declared.entries.Line.{Line}
use Rattle.node_journal.specs.Journals.{Journal, Tells, with_lines}

-- those that a step told of grants are among the jobs that it might tell, and no more
any_mapped : (grantee : JobNo) (notes : List Note) → list_any (same_job grantee) (map (λ (note : Note). note.job) notes) ≡ list_any (λ (note : Note). same_job grantee note.job) notes
any_mapped grantee [] = refl
any_mapped grantee (note ∷ notes) = ap (λ b. same_job grantee note.job || b) (any_mapped grantee notes)

abbrev jobs_of : List Note → List JobNo
jobs_of notes = map (λ (note : Note). note.job) notes

-- if what was told is to these jobs, or to none
module _ (notes : List Note) (grantees : List JobNo) where
  told_same : jobs_of notes ≡ grantees → (grantee : JobNo) → list_any (λ note. same_job grantee note.job) notes ≡ true → (list_any (same_job grantee) grantees ≡ true) × (length notes ≤ length grantees)
  told_same is grantee h =
      (ap (list_any (same_job grantee)) (sym is) ∙ any_mapped grantee notes ∙ h, less (sym (length-map notes (λ (note : Note). note.job)) ∙ ap length is))
    where
      less : length notes ≡ length grantees → length notes ≤ length grantees
      less e = omega (arith, e)

  told_none : jobs_of notes ≡ [] → (grantee : JobNo) → list_any (λ note. same_job grantee note.job) notes ≡ true → (list_any (same_job grantee) grantees ≡ true) × (length notes ≤ length grantees)
  told_none is grantee h = true_false (sym (sym (any_mapped grantee notes) ∙ ap (list_any (same_job grantee)) is) ∙ h)

  told_within : (grants : List StandingGrant) (e : Event) (response : Reply (List ℕ)) → AreTakers grants e response (jobs_of notes) → grantees ≡ grantees_of grants e
      → (grantee : JobNo) → list_any (λ note. same_job grantee note.job) notes ≡ true → (list_any (same_job grantee) grantees ≡ true) × (length notes ≤ length grantees)
  told_within grants e reply.Ok are is = told_same (are ∙ sym is)
  told_within grants e _ are is = told_none are

-- whom an event tells of grants are few, since the node shows a view of each job
pub told_few : (node : Hosted) (journals : ℕ → Journal) (grantees : List JobNo) → TellsFew node grantees → ∥ Tells node journals ∥₁ → length grantees ≤ 4096
told_few node journals grantees few h = from (∥∥₁_elim h (Bool-set _ _) (λ t. to (few t.views t.shown)))
  where
    to : length grantees ≤ 4096 → nat_le (length grantees) 4096 ≡ true
    to l = grind (arith, nat_tests, l)

    from : nat_le (length grantees) 4096 ≡ true → length grantees ≤ 4096
    from e = grind (arith, nat_tests, e)

-- room for the notes after the entry
pub notes_fit : {most n spare after : ℕ} → most + 1 ≤ spare → spare ≤ after + 1 → n ≤ most → n ≤ after
notes_fit room left few = omega (arith, room, left, few)

pub room_left : (notes : List Note) (grantees : List JobNo) (grants : List StandingGrant) (e : Event) (response : Reply (List ℕ)) (before after : ℕ → ℕ)
    → AreTakers grants e response (map (λ note. note.job) notes) → grantees ≡ grantees_of grants e
    → ((grantee : JobNo) → list_any (same_job grantee) grantees ≡ true → length grantees + 1 ≤ before grantee.0) → ((other : ℕ) → before other ≤ after other + 1)
    → (grantee : JobNo) → list_any (λ note. same_job grantee note.job) notes ≡ true → length notes ≤ after grantee.0
room_left notes grantees grants e response before after are is room left grantee h =
    let w = told_within notes grantees grants e response are is grantee h in
    notes_fit (room grantee w.0) (left grantee.0) w.1

-- an entry of this job or another, and notes after it
pub added : (own : Bool) (first second third : Journal) (entry : Line) (notes : List Line) → second ≡ (if own then with_lines first (entry ∷ []) else first) → third ≡ with_lines second notes
    → third ≡ with_lines first ((if own then entry ∷ [] else []) ++ notes)
added true first second third entry notes is more = more ∙ ap (λ j. with_lines j notes) is ∙ ap (λ ls. record first { list = ls }) (append_assoc first.list (entry ∷ []) notes)
added false first second third entry notes is more = more ∙ ap (λ j. with_lines j notes) is

-- ---- what a step gave, or that it gave nothing

pub both_ok : {R E : Type 0} (r : Result R E) (A B : R → Type 0) → IfOk r A → IfOk r B → IfOk r (λ x. A x × B x)
both_ok (Ok x) A B a b = (a, b)
both_ok (Err e) A B a b = tt

pub either_way : {R E C : Type 0} (r : Result R E) (A : R → Type 0) (U V : Type 0) → IfOk r A → OnErr r U → OnErr r V → ((x : R) → A x → C) → (U → V → C) → C
either_way (Ok x) A U V a u v ok err = ok x a
either_way (Err e) A U V a u v ok err = err u v
