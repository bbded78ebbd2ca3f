-- What is so of every history that grew step by step, and the history with which a cluster begins.
use Rattle.std.proofs.Common.{◌≡◌, ℕ, zero, suc, ◌+◌, ◌<◌, ◌==◌, ◌&&◌, Bool, true, false, List, [], ◌∷◌, ◌++◌, append-nil, length, arith, map, filter, reverse, refl, sym, ap, subst, ◌∙◌}
use Rattle.std.specs.Prelude.{replicate}
use Rattle.std.specs.List.{list_all}
use Rattle.std.specs.Coded.{Coded, Coded-set, coded_ℕ, coded_list, coded×}
use Rattle.std.proofs.Math.Bool.{Bool-set}
use Rattle.std.proofs.Math.Logic.{∥∥₁_elim, ∥∥₁_map}
use Rattle.std.proofs.lemmas.List.{reverse-append}
use Rattle.std.proofs.lemmas.List.Folds.{list_all-append}
use base.Stored.{coded_via}
use mathlib.Core.List.{IsPrefix}
use Rattle.obj_id.specs.declared.commands.Reply.{Reply}
use Rattle.obj_id.specs.declared.commands.Reply.TheVariants as reply
use Rattle.private_store.specs.contracts.schedules.StepAnswer as step_answer
use Rattle.private_store.specs.declared.schedules.StepAnswer.{StepAnswer}
use Rattle.private_store.specs.declared.schedules.StepAnswer.TheVariants.{Response}
use Rattle.private_store.specs.declared.schedules.Traced.{Traced}
use Rattle.private_store.specs.rules.Cluster.{private_run}
use Rattle.private_store.specs.rules.Cluster.{Response as ToldTo}
use Rattle.private_store.specs.rules.Private.{view_of, no_store}
use Rattle.private_store.specs.rules.Shape.{not_begun}
use Rattle.private_store.specs.rules.Shared.{AreSharedAnswers, answers_due}
use Rattle.private_store.specs.rules.Trace.{IsPrivate, is_answered, replies_of, inputs_of}
use Rattle.store_facts.proofs.Tests.{both}
use Rattle.node_core.specs.Hosted.{Hosted, Shows}
use Rattle.world_core.specs.Runs.{is_replied, all_replied}
use Rattle.world_core.specs.Worlds.{Hosting, IsNew, AreNew, IsAfter, IsNodeAfter}
use Rattle.world_core.proofs.ForCallers.{AreNew-push, new_is_after, new_world, private_of, shared_of}
use Rattle.cluster_history.specs.Histories.{IsGrown, begun, goes_on, IsServed}
use Rattle.logbook.specs.Pages.{Cell, cell}
use Rattle.cluster_history.specs.Rules.{IsKept}
use Rattle.cluster_history.proofs.Carried.{grown_world, grown_last}

-- ---- equations of answers have one proof

StepAnswer-coded : Coded StepAnswer
StepAnswer-coded = step_answer.the_row.coded

reply_in : StepAnswer → Reply (List ℕ)
reply_in (Response r) = r
reply_in _ = reply.Ok

ToldTo-coded : Coded ToldTo
unfolding reply_in
ToldTo-coded = coded_via (coded× coded_ℕ (coded× coded_ℕ StepAnswer-coded)) (λ (r : ToldTo). (r.node, (r.session, Response r.reply)))
    (λ x y e i. record { node = (e i).0; session = (e i).1.0; reply = reply_in (e i).1.1 })

-- ---- what is said of a history

replied_grown : (nodes memory : ℕ) (history : List Traced) → IsGrown nodes memory history → all_replied (reverse history) ≡ true
replied_grown nodes memory history (begun world h) = refl
replied_grown nodes memory history (goes_on before old new step response g h inside replied t) =
    let entry : Traced = record { step = step; answer = response } in
    ap all_replied (reverse-append (entry ∷ []) before)
    ∙ list_all-append (λ (e : Traced). is_replied e.step e.answer) (reverse before) (entry ∷ [])
    ∙ both (all_replied (reverse before)) (is_replied step response && true) (replied_grown nodes memory before g) (both (is_replied step response) true replied refl)

served_grown : (nodes memory : ℕ) (log : List Traced) → IsGrown nodes memory (reverse log) → IsServed nodes memory log
served_grown nodes memory log g =
    let w = grown_world nodes memory (reverse log) g in
    record {
      replied = ap all_replied (sym (reverse-twice log)) ∙ replied_grown nodes memory (reverse log) g;
      shared = shared_of nodes memory w.0 log w.1;
      private = private_of nodes memory w.0 log w.1;
    }
  where
    reverse-twice : (l : List Traced) → reverse (reverse l) ≡ l
    reverse-twice [] = refl
    reverse-twice (x ∷ l) = ap reverse (reverse-append (x ∷ []) l) ∙ (reverse-append (reverse l) (x ∷ []) ∙ ap (λ r. x ∷ r) (reverse-twice l))

pub served_of : (nodes memory : ℕ) (log : List Traced) → ∥ IsGrown nodes memory (reverse log) ∥₁ → IsServed nodes memory log
served_of nodes memory log g = record {
  replied = ∥∥₁_elim g (Bool-set _ _) (λ grown. (served_grown nodes memory log grown).replied);
  shared = ∥∥₁_elim g (Coded-set (coded_list StepAnswer-coded) _ _) (λ grown. (served_grown nodes memory log grown).shared);
  private = λ job. ∥∥₁_elim g (Coded-set (coded_list ToldTo-coded) _ _) (λ grown. (served_grown nodes memory log grown).private job);
}

-- a beginning of it grew the same way
grown_before : (nodes memory : ℕ) (more history : List Traced) → IsGrown nodes memory (more ++ history) → IsGrown nodes memory history
grown_before nodes memory [] history g = g
grown_before nodes memory (entry ∷ more) history g = grown_before nodes memory more history (grown_last nodes memory entry (more ++ history) g).before

pub grown_prefix : (nodes memory : ℕ) (log longer : List Traced) → IsPrefix log longer → ∥ IsGrown nodes memory (reverse longer) ∥₁ → ∥ IsGrown nodes memory (reverse log) ∥₁
grown_prefix nodes memory log longer begins g =
    ∥∥₁_map g (λ grown. grown_before nodes memory (reverse begins.0) (reverse log) (subst (IsGrown nodes memory) (ap reverse (sym begins.1) ∙ reverse-append log begins.0) grown))

-- ---- how it begins

new_node : ℕ → ℕ → Hosted
new_node memory number = record { number = number; admissions = record { memory = memory; greatest = 0; live = [] }; works = record { works = []; used = [] }; grants = []; rows = [] }

is_new : (memory number : ℕ) → IsNew memory number (new_node memory number)
unfolding new_node
is_new memory number = record {
  number = refl;
  admissions = refl;
  works = refl;
  grants = refl;
  shows = λ job. record { by_row = record { life = not_begun; is = refl; dead = refl; fresh = λ above. refl; works = refl; used = refl; given = refl } };
}

new_nodes : ℕ → ℕ → List Hosted
new_nodes memory zero = []
new_nodes memory (suc n) = new_nodes memory n ++ new_node memory n ∷ []

are_new : (memory n : ℕ) → AreNew memory n (new_nodes memory n)
unfolding new_nodes
are_new memory zero = record { count = refl; each = λ place node f. absurd cc }
are_new memory (suc n) = subst (λ k. AreNew memory k (new_nodes memory n ++ new_node memory n ∷ [])) (omega arith) (AreNew-push memory n (new_nodes memory n) (new_node memory n) (are_new memory n) (is_new memory n))

-- before anything has happened
pub begun_empty : (nodes memory : ℕ) → IsGrown nodes memory []
begun_empty nodes memory =
    begun (record { nodes = new_nodes memory nodes; tables = []; messages = [] }) (new_world nodes memory (new_nodes memory nodes) [] [] (are_new memory nodes) refl refl)

-- a node that shows nothing
pub new_node_after : (nodes memory place : ℕ) (node : Hosted) → IsNew memory place node → IsNodeAfter nodes memory place node []
new_node_after nodes memory place node new = new_is_after nodes memory place node new

-- ---- the words of a new book

cell_blank : (n k : ℕ) → k < n → cell (replicate n (0, true)) k ≡ (0, true)
cell_blank zero k lt = absurd (omega (arith, lt))
cell_blank (suc n) zero lt = refl
cell_blank (suc n) (suc k) lt = cell_blank n k (omega (arith, lt))

length_blank : (n : ℕ) → length (replicate {A = Cell} n (0, true)) ≡ n
length_blank zero = refl
length_blank (suc n) = ap (λ k. suc k) (length_blank n)

pub blank_kept : (nodes memory : ℕ) → IsKept nodes memory (replicate (nodes + 1) (0, true)) []
blank_kept nodes memory = record { places = length_blank (nodes + 1); words = λ place lt. cell_blank (nodes + 1) place lt; grown = ∣ begun_empty nodes memory ∣₁ }
