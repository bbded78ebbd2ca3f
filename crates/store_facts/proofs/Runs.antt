-- What makes a trace private: each step's reply is that of the private cluster at that moment.
use Rattle.std.proofs.Common.{◌≡◌, ℕ, List, [], ◌∷◌, ◌++◌, reverse, filter, Option, Some, None, option_to_list, refl, sym, ap, ◌∙◌}
use Rattle.std.specs.List.{cons_option}
use Rattle.std.proofs.lemmas.List.{reverse-append, reverse-reverse}
use Rattle.std.proofs.lemmas.List.Elements.{filter-append, filter_map-append}
use Rattle.private_store.specs.declared.schedules.Traced.{Traced}
use Rattle.private_store.specs.rules.Cluster.{Cluster, ClusterInput, Response, cluster_step, cluster_from, response, responses_from, no_cluster}
use Rattle.private_store.specs.rules.Trace.{own_input, notes, for_job, cluster_until, inputs_until, reply_of, replies_of, is_answered, IsPrivate}

pub cluster_from-append : (cluster : Cluster) (xs ys : List ClusterInput) → cluster_from cluster (xs ++ ys) ≡ cluster_from (cluster_from cluster xs) ys
cluster_from-append cluster [] ys = refl
cluster_from-append cluster (x ∷ xs) ys = cluster_from-append (cluster_step cluster x).cluster xs ys

append_assoc : {A : Type 0} (xs ys zs : List A) → xs ++ (ys ++ zs) ≡ (xs ++ ys) ++ zs
append_assoc [] ys zs = refl
append_assoc (x ∷ xs) ys zs = ap (λ l. x ∷ l) (append_assoc xs ys zs)

pub responses_from-append : (cluster : Cluster) (xs ys : List ClusterInput) → responses_from cluster (xs ++ ys) ≡ responses_from cluster xs ++ responses_from (cluster_from cluster xs) ys
responses_from-append cluster [] ys = refl
responses_from-append cluster (x ∷ xs) ys =
    ap (λ l. response x (cluster_step cluster x) ++ l) (responses_from-append (cluster_step cluster x).cluster xs ys)
    ∙ append_assoc (response x (cluster_step cluster x)) (responses_from (cluster_step cluster x).cluster xs) (responses_from (cluster_from (cluster_step cluster x).cluster xs) ys)

-- what a step is to a job
abbrev pub inputs_now : ℕ → ℕ → Traced → List Traced → List ClusterInput
inputs_now nodes job entry before =
    for_job job (option_to_list (own_input before entry.step entry.answer) ++ notes nodes (λ other. inputs_until nodes other before) before entry.step entry.answer)

-- the world's step: the cluster of the job moves by what the step is to it
pub cluster_until-step : (nodes job : ℕ) (entry : Traced) (before : List Traced)
    → cluster_until nodes job (entry ∷ before) ≡ cluster_from (cluster_until nodes job before) (inputs_now nodes job entry before)
cluster_until-step nodes job entry before = cluster_from-append (no_cluster job nodes) (inputs_until nodes job before) (inputs_now nodes job entry before)

-- each step of the history answers the job as its private cluster does
abbrev pub EachPrivate : ℕ → ℕ → List Traced → Type 0
EachPrivate nodes job [] = Unit {0}
EachPrivate nodes job (entry ∷ before) =
    EachPrivate nodes job before
    × (filter is_answered (option_to_list (reply_of job entry.step entry.answer)) ≡ responses_from (cluster_until nodes job before) (inputs_now nodes job entry before))

private_until : (nodes job : ℕ) (history : List Traced) → EachPrivate nodes job history
    → filter is_answered (replies_of job (reverse history)) ≡ responses_from (no_cluster job nodes) (inputs_until nodes job history)
private_until nodes job [] h = refl
private_until nodes job (entry ∷ before) h =
    ap (filter is_answered) (ap (replies_of job) (reverse-append (entry ∷ []) before) ∙ filter_map-append (λ e. reply_of job e.step e.answer) (reverse before) (entry ∷ []) ∙ ap (λ l. replies_of job (reverse before) ++ l) (one (reply_of job entry.step entry.answer)))
    ∙ filter-append is_answered (replies_of job (reverse before)) (option_to_list (reply_of job entry.step entry.answer))
    ∙ ap (λ l. l ++ filter is_answered (option_to_list (reply_of job entry.step entry.answer))) (private_until nodes job before h.0)
    ∙ ap (λ l. responses_from (no_cluster job nodes) (inputs_until nodes job before) ++ l) h.1
    ∙ sym (responses_from-append (no_cluster job nodes) (inputs_until nodes job before) (inputs_now nodes job entry before))
  where
    one : (o : Option Response) → cons_option o [] ≡ option_to_list o
    one None = refl
    one (Some t) = refl

-- so a trace is private where each of its steps is
pub IsPrivate-each : (nodes job : ℕ) (trace : List Traced) → EachPrivate nodes job (reverse trace) → IsPrivate nodes job trace
IsPrivate-each nodes job trace h =
    ap (λ t. filter is_answered (replies_of job t)) (sym (reverse-reverse trace)) ∙ private_until nodes job (reverse trace) h
