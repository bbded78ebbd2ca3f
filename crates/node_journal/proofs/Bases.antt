-- The bases that lists are folded into, and what a fold leaves.
use Rattle.std.proofs.Common.{◌≡◌, ℕ, ◌-◌, Bool, true, false, ◌==◌, ◌||◌, List, [], ◌∷◌, ◌++◌, length, suc, None, Some, refl, sym, ap, ◌∙◌, arith}
use Rattle.std.specs.Prelude.{slice_get}
use Rattle.std.specs.List.{list_any}
use Rattle.std.proofs.Math.Logic.{∥∥₁_elim}
use base.Stored.{Coded-set}
use native.Mathlib.Nat.{ℕ_set}
use Rattle.obj_id.specs.declared.ids.JobNo.{JobNo}
use Rattle.private_store.specs.rules.Contents.{View}
use Rattle.private_store.specs.rules.Replay.{ReplayState, replay_state_of}
use Rattle.store_facts.proofs.Tests.{none_some}
use Rattle.plain_store.specs.contracts.store.PlainStore as plain
use Rattle.plain_store.specs.Parts.{has_begun}
use Rattle.spill_work.specs.Line.{works_taken_by}
use Rattle.node_core.specs.Hosted.{Hosted, Shows}
use Rattle.node_journal.specs.declared.entries.Line.{Line}
use Rattle.node_journal.specs.Journals.{Journal, Tells, begins, folded_if, last_of, step_of, store_of, taken_of, base_after}
use Rattle.node_journal.specs.Logs.{Bases, AreBases, has_base}
use Rattle.node_journal.specs.declared.folding.Base.{Base}
use Rattle.node_journal.proofs.Lives.{replay_begins}

-- the number of the last line
pub last_is : (low : ℕ) (ls : List Line) (l : Line) → slice_get ls (length ls - 1) ≡ Some l → step_of l ≡ last_of low ls
last_is low [] l e = none_some l e
last_is low (x ∷ []) l e = sym (ap (λ o. elim o as (λ _. ℕ) [ None ↦ 0 | Some y ↦ step_of y ]) e)
last_is low (x ∷ y ∷ ys) l e = last_is (step_of x) (y ∷ ys) l (sym (ap (slice_get (x ∷ y ∷ ys)) shift) ∙ e)
  where
    shift : length (x ∷ y ∷ ys) - 1 ≡ suc (length (y ∷ ys) - 1)
    shift = omega arith

-- ---- the base of one list

pub ReplayState-set : IsSet ReplayState
ReplayState-set = Coded-set plain.the_row.coded

-- what the node shows is what the journal tells of
pub base_is : (node : Hosted) (journals : ℕ → Journal) (job : ℕ) (base : ReplayState) → ∥ Tells node journals ∥₁
    → ((view : View) → Shows node job view → has_begun view.shape.life ≡ (has_begun (journals job).base.store.shape.life || list_any begins (journals job).list) → base ≡ replay_state_of view) → base ≡ store_of (journals job)
base_is node journals job base h is = ∥∥₁_elim h (ReplayState-set _ _) (λ t.
    let response = t.response job in
    is (t.views job) (t.shown job) (sym (ap (λ (b : ReplayState). has_begun b.shape.life) response.replays) ∙ replay_begins (journals job).list (journals job).base.store response.due) ∙ sym response.replays)

-- and so are the works that it has as taken
pub taken_is : (node : Hosted) (journals : ℕ → Journal) (job : JobNo) → ∥ Tells node journals ∥₁ → works_taken_by node.works job ≡ taken_of (journals job.0)
taken_is node journals job h = ∥∥₁_elim h (ℕ_set _ _) (λ t. sym (t.taken job.0))

-- ---- those of several

base_folded : (b : Bool) (j : Journal) → base_after (folded_if b j) ≡ base_after j
base_folded true j = refl
base_folded false j = refl

-- folded twice is folded
folded_twice : (a b : Bool) (j : Journal) → folded_if b (folded_if a j) ≡ folded_if (a || b) j
folded_twice true true j = refl
folded_twice true false j = refl
folded_twice false b j = refl

stores_kept : (es : Bases) (before after : ℕ → Journal) → ((job : ℕ) → base_after (after job) ≡ base_after (before job)) → AreBases es before → AreBases es after
stores_kept [] before after same h = tt
stores_kept (e ∷ es) before after same h = (h.0 ∙ sym (same e.0.0), stores_kept es before after same h.1)

pub stores_left : (e : JobNo × Base) (es : Bases) (before after : ℕ → Journal) → ((job : ℕ) → after job ≡ folded_if (e.0.0 == job) (before job)) → AreBases (e ∷ es) before → AreBases es after
stores_left e es before after is h = stores_kept es before after (λ job. ap base_after (is job) ∙ base_folded (e.0.0 == job) (before job)) h.1

pub folds_left : (e : JobNo × Base) (es : Bases) (before after : ℕ → Journal) → ((job : ℕ) → after job ≡ folded_if (e.0.0 == job) (before job))
    → (job : ℕ) → folded_if (has_base job es) (after job) ≡ folded_if (has_base job (e ∷ es)) (before job)
folds_left e es before after is job = ap (folded_if (has_base job es)) (is job) ∙ folded_twice (e.0.0 == job) (has_base job es) (before job)

pub stores_push : (es : Bases) (e : JobNo × Base) (journals : ℕ → Journal) → AreBases es journals → e.1 ≡ base_after (journals e.0.0) → AreBases (es ++ e ∷ []) journals
stores_push [] e journals h is = (is, tt)
stores_push (x ∷ es) e journals h is = (h.0, stores_push es e journals h.1 is)
