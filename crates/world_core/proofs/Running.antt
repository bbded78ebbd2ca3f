-- A new world, and runs from it.
use Rattle.std.proofs.Common.{◌≡◌, ℕ, false, ◌==◌, ◌&&◌, ◌+◌, inl, inr, List, [], ◌∷◌, ◌++◌, append_assoc, append-nil, length, map, filter, reverse, refl, sym, ap, subst, ◌∙◌, true, arith, suc}
use Rattle.std.specs.Prelude.{nat_le}
use Rattle.std.specs.List.{list_all}
use Rattle.std.proofs.lemmas.Bool.Decides.{nat_tests}
use Rattle.std.proofs.lemmas.Grind.{common_steps}
use Rattle.std.proofs.lemmas.List.{map-append, reverse-append, reverse-reverse}
use Rattle.std.proofs.lemmas.List.Folds.{list_all-append}
use Rattle.obj_id.specs.declared.ids.JobNo.{JobNo}
use Rattle.private_store.specs.declared.schedules.Step.{Step}
use Rattle.private_store.specs.declared.schedules.StepAnswer.{StepAnswer}
use Rattle.private_store.specs.declared.schedules.Traced.{Traced}
use Rattle.private_store.specs.rules.Private.{view_of}
use Rattle.private_store.specs.rules.Cluster.{Sent, private_run}
use Rattle.private_store.specs.rules.Trace.{replies_of, is_answered, Agree, IsPrivate}
use Rattle.private_store.specs.rules.Shared.{AreSharedAnswers}
use Rattle.store_facts.proofs.Tests.{both, both_right}
use Rattle.job_admission.specs.Admissions.{lives_of}
use Rattle.owner_directory.specs.Locations.{DirectoryRows, locations_of}
use Rattle.world_core.specs.Logs.{sent_of}
use Rattle.node_core.specs.Hosted.{Hosted, Shows}
use Rattle.node_core.specs.Steps.{is_taken}
use Rattle.world_core.specs.Worlds.{Hosting, untaken, is_within, IsNodeAfter, IsAfter, IsNew, AreNew}
use Rattle.world_core.specs.WorldSteps.{WorldStep}
use Rattle.world_core.specs.Runs.{is_replied, all_replied}
use Rattle.world_core.proofs.Places.{slice_get-push}
use Rattle.world_core.proofs.Stores.{no_cluster_at}
use Rattle.world_core.proofs.Turning.{after_turn}

-- ---- a new world

pub AreNew-push : (memory many : ℕ) (nodes : List Hosted) (node : Hosted) → AreNew memory many nodes → IsNew memory many node → AreNew memory (many + 1) (nodes ++ node ∷ [])
AreNew-push memory many nodes node h k = record {
  count = grind (arith, common_steps, h.count);
  each = λ place x f. elim (slice_get-push nodes node place x f) [
    | inl there ↦ h.each place x there
    | inr last ↦ subst (IsNew memory place) (sym last.1) (subst (λ n. IsNew memory n node) (sym (last.0 ∙ h.count)) k)
  ];
}

none_yet : (job : ℕ) → (job == 0) ≡ false → false ≡ nat_le job 0
none_yet job z = grind (arith, nat_tests)

pub new_is_after : (nodes memory place : ℕ) (node : Hosted) → IsNew memory place node → IsNodeAfter nodes memory place node []
new_is_after nodes memory place node k = record {
  number = k.number;
  size = ap (λ a. a.memory) k.admissions;
  lives = ap (λ a. lives_of a.live) k.admissions;
  greatest = λ job z. none_yet job z ∙ ap (λ a. nat_le job a.greatest) (sym k.admissions);
  shows = λ job store f. subst (λ s. Shows node job (view_of s)) (sym (no_cluster_at job nodes place store f)) (k.shows job);
  grants = k.grants;
  waiting = ap untaken k.works;
  out = λ job number. ap (λ works. is_taken works job number) k.works;
}

pub new_world : (nodes memory : ℕ) (hosted : List Hosted) (tables : DirectoryRows) (messages : List (JobNo × List Sent)) → AreNew memory nodes hosted → tables ≡ [] → messages ≡ []
    → IsAfter nodes memory (record { nodes = hosted; tables = tables; messages = messages }) []
new_world nodes memory hosted tables messages h empty nothing = record {
  count = h.count;
  each_node = λ place node f. new_is_after nodes memory place node (h.each place node f);
  each_job = λ job. record { messages = ap (λ m. sent_of m job) nothing; locations = ap (λ t. locations_of t (record { 0 = job })) empty; replies = refl };
  due = refl;
}

-- ---- runs, newest step first

pub data IsRunTo (nodes : ℕ) (start : Hosting) : Hosting → List Traced → Type 0 where
  begun : IsRunTo nodes start start []
  stepped : (old new : Hosting) (history : List Traced) (step : Step) (response : StepAnswer) → IsRunTo nodes start old history → is_within nodes step ≡ true → WorldStep old new step response
      → IsRunTo nodes start new (record { step = step; answer = response } ∷ history)

pub after_run : (nodes memory : ℕ) (start world : Hosting) (history : List Traced) → IsAfter nodes memory start [] → IsRunTo nodes start world history → IsAfter nodes memory world history
after_run nodes memory start world history h begun = h
after_run nodes memory start world history h (stepped old new before step response r inside t) = after_turn nodes memory before old new step response (after_run nodes memory start old before h r) inside t

-- a world's history is private to every job number, admitted or not
pub private_of : (nodes memory : ℕ) (world : Hosting) (trace : List Traced) → IsAfter nodes memory world (reverse trace) → (job : ℕ) → IsPrivate nodes job trace
private_of nodes memory world trace h job = ap (λ t. filter is_answered (replies_of job t)) (sym (reverse-reverse trace)) ∙ (h.each_job job).replies

-- and its shared answers are those that are due
pub shared_of : (nodes memory : ℕ) (world : Hosting) (trace : List Traced) → IsAfter nodes memory world (reverse trace) → AreSharedAnswers nodes memory trace
shared_of nodes memory world trace h = h.due

-- two that agree for a job are answered alike
pub replies_agree : (nodes job : ℕ) (first second : List Traced) → IsPrivate nodes job first → IsPrivate nodes job second → Agree nodes job first second
    → filter is_answered (replies_of job first) ≡ filter is_answered (replies_of job second)
replies_agree nodes job first second h k same = h ∙ ap (private_run job nodes) same ∙ sym k

-- ---- the loop of a run

module _ (trace more : List Traced) (step : Step) (answer : StepAnswer) (is : more ≡ trace ++ record { step = step; answer = answer } ∷ []) where
  pub after_more : (nodes memory : ℕ) (world : Hosting) → IsAfter nodes memory world (record { step = step; answer = answer } ∷ reverse trace) → IsAfter nodes memory world (reverse more)
  after_more nodes memory world h =
      subst (IsAfter nodes memory world) (sym (ap reverse is ∙ reverse-append trace (record { step = step; answer = answer } ∷ []))) h

  pub replied_more : all_replied trace ≡ true → is_replied step answer ≡ true → all_replied more ≡ true
  replied_more before now =
      ap all_replied is
      ∙ list_all-append (λ (entry : Traced). is_replied entry.step entry.answer) trace (record { step = step; answer = answer } ∷ [])
      ∙ both (all_replied trace) (is_replied step answer && true) before (both (is_replied step answer) true now refl)

  -- the step that comes next goes from what is left to what was taken
  pub steps_more : (left rest schedule : List Step) → map (λ (entry : Traced). entry.step) trace ++ left ≡ schedule → left ≡ step ∷ rest → map (λ (entry : Traced). entry.step) more ++ rest ≡ schedule
  steps_more left rest schedule so_far next =
      ap (λ t. map (λ (entry : Traced). entry.step) t ++ rest) is
      ∙ ap (λ l. l ++ rest) (map-append (λ (entry : Traced). entry.step) trace (record { step = step; answer = answer } ∷ []))
      ∙ append_assoc (map (λ (entry : Traced). entry.step) trace) (step ∷ []) rest
      ∙ ap (λ l. map (λ (entry : Traced). entry.step) trace ++ l) (sym next)
      ∙ so_far

-- where nothing is left, all was taken
nothing_left : (left : List Step) (n : ℕ) → n ≡ length left → n ≡ 0 → left ≡ []
nothing_left [] n many none = refl
nothing_left (step ∷ left) n many none = let e : n ≡ suc (length left) = many in absurd (omega (arith, e, none))

pub all_taken : (trace : List Traced) (left schedule : List Step) (n : ℕ) → n ≡ length left → n ≡ 0 → map (λ (entry : Traced). entry.step) trace ++ left ≡ schedule → map (λ (entry : Traced). entry.step) trace ≡ schedule
all_taken trace left schedule n many none so_far =
    sym (append-nil (map (λ (entry : Traced). entry.step) trace)) ∙ ap (λ l. map (λ (entry : Traced). entry.step) trace ++ l) (sym (nothing_left left n many none)) ∙ so_far

pub inside_rest : (nodes : ℕ) (left rest : List Step) (step : Step) → list_all (is_within nodes) left ≡ true → left ≡ step ∷ rest → list_all (is_within nodes) rest ≡ true
inside_rest nodes left rest step inside next = both_right (is_within nodes step) (list_all (is_within nodes) rest) (ap (list_all (is_within nodes)) (sym next) ∙ inside)

pub left_rest : (left rest : List Step) (step : Step) (n m : ℕ) → n ≡ length left → left ≡ step ∷ rest → m + 1 ≡ n → m ≡ length rest
left_rest left rest step n m many next one = let e : n ≡ suc (length rest) = many ∙ ap length next in omega (arith, e, one)
