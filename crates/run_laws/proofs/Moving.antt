-- What a step does to the table of each node, it does to the halves of each job: the parts from which every step is
-- put together.
use Rattle.std.proofs.Common.{◌≡◌, ℕ, Bool, true, false, not, cond, ◌==◌, List, [], ◌∷◌, ◌++◌, map, filter, slice_get, option_to_list, Option, Some, None, refl, sym, ap, subst, ◌∙◌, eq-eqb}
use Rattle.std.specs.Prelude.{if◌then◌else◌}
use Rattle.std.specs.Option.{option_map_or}
use Rattle.std.proofs.lemmas.Bool.{eqb-true}
use Rattle.obj_id.specs.declared.ids.JobNo.{JobNo}
use Rattle.obj_id.specs.declared.commands.Command.{Command}
use Rattle.obj_id.specs.declared.commands.Reply.{Reply}
use Rattle.private_store.specs.declared.inputs.Input.{Input}
use Rattle.private_store.specs.declared.inputs.Input.TheVariants as input
use Rattle.private_store.specs.declared.schedules.Event.TheVariants as event
use Rattle.private_store.specs.declared.schedules.Step.{Step}
use Rattle.private_store.specs.declared.schedules.Step.TheVariants as steps
use Rattle.private_store.specs.declared.schedules.StepAnswer.{StepAnswer}
use Rattle.private_store.specs.declared.schedules.StepAnswer.TheVariants as answer
use Rattle.private_store.specs.declared.schedules.Traced.{Traced}
use Rattle.private_store.specs.rules.Tables.{at}
use Rattle.private_store.specs.rules.Shape.{Shape}
use Rattle.private_store.specs.rules.Private.{Store, private_step, private_outcome, store_from}
use Rattle.private_store.specs.rules.Cluster.{Cluster, ClusterInput, at_node, cluster_step, cluster_from, moved_at, unmoved, Response, response, responses_from}
use Rattle.private_store.specs.rules.Grants.{StandingGrant, grants_left, is_given_by}
use Rattle.private_store.specs.rules.Trace.{Given, grants_at, grants_step, own_input, notes, for_job, cluster_until, inputs_until, reply_of, is_answered, is_no_memory, withdrawn_note}
use Rattle.store_facts.proofs.Runs.{inputs_now}
use Rattle.grants.specs.Table.{AreGrants, given_by}
use Rattle.grants.specs.Private.{as_given}
use Rattle.run_laws.proofs.WhatEnds.{filter_same, stands_filtered}
use Rattle.run_laws.proofs.GrantsStay.{SameGrants}
use Rattle.run_laws.proofs.Halves.{given_half, HasHalves}
use Rattle.run_laws.proofs.AfterEnds.{end_told, told_to, ended_fits}
use Rattle.run_laws.proofs.ClusterInputs.{elsewhere, here, some_of_map, StillInput}

pub filter_true : {X : Type 0} (xs : List X) → filter (λ x. true) xs ≡ xs
filter_true [] = refl
filter_true (x ∷ xs) = ap (λ r. x ∷ r) (filter_true xs)

-- each node has a table, and each job's store its halves
pub record Stand (nodes : ℕ) (before : List Traced) : Type 0 where
  pub table : (n : ℕ) → AreGrants (grants_at n before)
  pub fit : (n j : ℕ) (s : Store) → slice_get (cluster_until nodes j before).stores n ≡ Some s → HasHalves j (grants_at n before) s.shape

abbrev pub now : ℕ → List Traced → Step → StepAnswer → ℕ → List ClusterInput
now nodes before step response j = inputs_now nodes j (record { step = step; answer = response }) before

-- the same, one step later
pub record Moved (nodes : ℕ) (before : List Traced) (step : Step) (response : StepAnswer) : Type 0 where
  pub table : (n : ℕ) → AreGrants (grants_step n (grants_at n before) step response)
  pub fit : (n j : ℕ) (s : Store) → slice_get (cluster_from (cluster_until nodes j before) (now nodes before step response j)).stores n ≡ Some s → HasHalves j (grants_step n (grants_at n before) step response) s.shape

-- the step answers each job as its private cluster does
abbrev pub Answers : ℕ → List Traced → Step → StepAnswer → Type 0
Answers nodes before step response = (j : ℕ) → filter is_answered (option_to_list (reply_of j step response)) ≡ responses_from (cluster_until nodes j before) (now nodes before step response j)

carried : (j : ℕ) (grants : List StandingGrant) (store after : Shape) → SameGrants store after → HasHalves j grants store → HasHalves j grants after
carried j grants store after same h = record {
  job = same.job ∙ h.job;
  given = same.given ∙ h.given;
  taken = λ q. ap (λ r. option_map_or (λ seen. seen.grants) (at r q) []) same.received ∙ h.taken q;
  known = λ q seen e. h.known q seen (ap (λ r. at r q) (sym same.received) ∙ e);
}

module _ (nodes : ℕ) (before : List Traced) (stand : Stand nodes before) where
  abbrev C : ℕ → Cluster
  C j = cluster_until nodes j before

  -- ---- a step that changes no grants

  still_fit : (o : Option Given) → ((g : Given) → o ≡ Some g → StillInput (C g.job) g.input) → (n j : ℕ) (s : Store)
      → slice_get (cluster_from (C j) (for_job j (option_to_list o))).stores n ≡ Some s → HasHalves j (grants_at n before) s.shape
  still_fit None still n j s e = stand.fit n j s e
  still_fit (Some g) still n j s e =
      elim (g.job == j) as (λ t. (g.job == j) ≡ t → slice_get (cluster_from (C j) (map (λ g. g.input) (cond t (g ∷ []) []))).stores n ≡ Some s → HasHalves j (grants_at n before) s.shape) [
        | true ↦ λ t f.
            let is : g.job ≡ j = eqb-true g.job j t in
            let from = still g refl n s (ap (λ x. slice_get (cluster_step (C x) g.input).cluster.stores n) is ∙ f) in
            subst (λ x. HasHalves x (grants_at n before) s.shape) is (carried g.job (grants_at n before) from.0.shape s.shape from.2 (stand.fit n g.job from.0 from.1))
        | false ↦ λ t f. stand.fit n j s f
      ] refl e

  append_nil : (xs : List Given) → xs ++ [] ≡ xs
  append_nil [] = refl
  append_nil (x ∷ xs) = ap (λ r. x ∷ r) (append_nil xs)

  pub still_moves : (step : Step) (response : StepAnswer) (o : Option Given) → own_input before step response ≡ o → notes nodes (λ other. inputs_until nodes other before) before step response ≡ []
      → ((n : ℕ) → grants_step n (grants_at n before) step response ≡ grants_at n before) → ((g : Given) → o ≡ Some g → StillInput (C g.job) g.input) → Moved nodes before step response
  still_moves step response o own none same still = record {
    table = λ n. subst AreGrants (sym (same n)) (stand.table n);
    fit = λ n j s e. subst (λ h. HasHalves j h s.shape) (sym (same n))
        (still_fit o still n j s
        (ap (λ l. slice_get (cluster_from (C j) (for_job j l)).stores n)
        (sym (ap (λ l. option_to_list (own_input before step response) ++ l) none ∙ append_nil (option_to_list (own_input before step response)) ∙ ap option_to_list own)) ∙ e));
  }

  -- ---- a step that changes the table of its node

  -- all inputs of the step are at that node
  node_fit : (m : ℕ) (F : List StandingGrant → List StandingGrant) (j : ℕ) (xs : List Input) → ((s : Store) → slice_get (C j).stores m ≡ Some s → HasHalves j (F (grants_at m before)) (store_from m s xs).shape)
      → (n : ℕ) (s : Store) → slice_get (cluster_from (C j) (map (at_node m) xs)).stores n ≡ Some s → HasHalves j (if m == n then F (grants_at n before) else grants_at n before) s.shape
  node_fit m F j xs move n s e =
      elim (m == n) as (λ t. (m == n) ≡ t → HasHalves j (if t then F (grants_at n before) else grants_at n before) s.shape) [
        | true ↦ λ t.
            let is : m ≡ n = eqb-true m n t in
            let o = some_of_map (λ s. store_from m s xs) (slice_get (C j).stores m) s (sym (here (C j) m xs) ∙ ap (slice_get (cluster_from (C j) (map (at_node m) xs)).stores) is ∙ e) in
            subst (λ x. HasHalves j (F (grants_at x before)) s.shape) is (subst (λ x. HasHalves j (F (grants_at m before)) x.shape) o.2 (move o.0 o.1))
        | false ↦ λ t. stand.fit n j s (sym (elsewhere (C j) m xs n t) ∙ e)
      ] refl

  node_table : (m : ℕ) (F : List StandingGrant → List StandingGrant) → AreGrants (F (grants_at m before)) → (n : ℕ) → AreGrants (if m == n then F (grants_at n before) else grants_at n before)
  node_table m F h n =
      elim (m == n) as (λ t. (m == n) ≡ t → AreGrants (if t then F (grants_at n before) else grants_at n before)) [
        | true ↦ λ t. subst (λ x. AreGrants (F (grants_at x before))) (eqb-true m n t) h
        | false ↦ λ t. stand.table n
      ] refl

  pub node_moves : (m : ℕ) (F : List StandingGrant → List StandingGrant) (step : Step) (response : StepAnswer) → ((n : ℕ) → grants_step n (grants_at n before) step response ≡ (if m == n then F (grants_at n before) else grants_at n before))
      → AreGrants (F (grants_at m before)) → (xs : ℕ → List Input) → ((j : ℕ) → now nodes before step response j ≡ map (at_node m) (xs j))
      → ((j : ℕ) (s : Store) → slice_get (C j).stores m ≡ Some s → HasHalves j (F (grants_at m before)) (store_from m s (xs j)).shape) → Moved nodes before step response
  node_moves m F step response grants h xs is move = record {
    table = λ n. subst AreGrants (sym (grants n)) (node_table m F h n);
    fit = λ n j s e. subst (λ h. HasHalves j h s.shape) (sym (grants n)) (node_fit m F j (xs j) (move j) n s (ap (λ l. slice_get (cluster_from (C j) l).stores n) (sym (is j)) ∙ e));
  }

  -- ---- ends

  pub told_notes : (m j : ℕ) (gone : List StandingGrant) → map (λ g. g.input) (filter (λ g. g.job == j) (map (withdrawn_note m) gone)) ≡ map (at_node m) (map end_told (filter (λ h. h.grantee == j) gone))
  told_notes m j [] = refl
  told_notes m j (h ∷ gone) =
      elim (h.grantee == j) as (λ t. map (λ g. g.input) (cond t (withdrawn_note m h ∷ filter (λ g. g.job == j) (map (withdrawn_note m) gone)) (filter (λ g. g.job == j) (map (withdrawn_note m) gone))) ≡ map (at_node m) (map end_told (cond t (h ∷ filter (λ h. h.grantee == j) gone) (filter (λ h. h.grantee == j) gone)))) [
        | true ↦ ap (λ l. at_node m (end_told h) ∷ l) (told_notes m j gone)
        | false ↦ told_notes m j gone
      ]

  -- the grantor's store loses what the grantor ends
  pub record Ends (test : StandingGrant → Bool) (grants : List StandingGrant) (k : ℕ) (store after : Shape) : Type 0 where
    pub job : after.job ≡ store.job
    pub given : after.given ≡ map as_given (filter (λ h. not (test h)) (given_by k grants))
    pub received : after.received ≡ store.received

  module _ (m k : ℕ) (test : StandingGrant → Bool) (theirs : (h : StandingGrant) → test h ≡ true → h.grantor ≡ k) where
    others_keep : (j : ℕ) (grants : List StandingGrant) → (k == j) ≡ false → given_half j grants ≡ map as_given (filter (λ h. not (test h)) (given_by j grants))
    others_keep j grants other =
        ap (map as_given) (sym (filter_same (λ h. not (test h)) (λ h. true) (given_by j grants) (λ h a. ap not
        (elim (test h) as (λ t. test h ≡ t → t ≡ false) [
          | true ↦ λ t. sym (eq-eqb k j (sym (theirs h t) ∙ eqb-true h.grantor j (stands_filtered h (is_given_by j) grants a).1)) ∙ other
          | false ↦ λ t. refl
        ] refl)) ∙ filter_true (given_by j grants)))

    pub ends_fit : (x : Input) → ((s : Store) → slice_get (C k).stores m ≡ Some s → Ends test (grants_at m before) k s.shape (private_step m s x).shape) → (j : ℕ) (s : Store) → slice_get (C j).stores m ≡ Some s
        → HasHalves j (grants_left test (grants_at m before)) (store_from m s (cond (k == j) (x ∷ map end_told (told_to j test (grants_at m before))) (map end_told (told_to j test (grants_at m before))))).shape
    ends_fit x ends j s e =
        let grants = grants_at m before in
        let h = stand.fit m j s e in
        elim (k == j) as (λ t. (k == j) ≡ t → HasHalves j (grants_left test grants) (store_from m s (cond t (x ∷ map end_told (told_to j test grants)) (map end_told (told_to j test grants)))).shape) [
          | true ↦ λ t.
              let is : k ≡ j = eqb-true k j t in
              let own = ends s (ap (λ i. slice_get (C i).stores m) is ∙ e) in
              ended_fits j grants (stand.table m) test m (private_step m s x) (own.job ∙ h.job) (own.given ∙ ap (λ i. map as_given (filter (λ h. not (test h)) (given_by i grants))) is)
              (λ q. ap (λ r. option_map_or (λ seen. seen.grants) (at r q) []) own.received ∙ h.taken q) (λ q seen f. h.known q seen (ap (λ r. at r q) (sym own.received) ∙ f))
          | false ↦ λ t. ended_fits j grants (stand.table m) test m s h.job (h.given ∙ others_keep j grants t) h.taken h.known
        ] refl

-- ---- the answer to a command

first_told : Response → List Response → Response
first_told d [] = d
first_told d (t ∷ ts) = t

-- only a store answers a command
pub told_call : (D : Cluster) (m session : ℕ) (c : Command (List ℕ)) (ys : List ClusterInput) (t : Response) → ((E : Cluster) → responses_from E ys ≡ []) → t ∷ [] ≡ responses_from D (at_node m (input.Call session c) ∷ ys)
    → (s : Store) × (slice_get D.stores m ≡ Some s) × (t.reply ≡ (private_outcome m s (input.Call session c)).reply)
unfolding first_told
told_call D m session c ys t quiet e =
    elim (slice_get D.stores m) as (λ o. slice_get D.stores m ≡ o → t ∷ [] ≡ (let r = option_map_or (λ store. moved_at D m store (private_outcome m store (input.Call session c))) o (unmoved D) in response (at_node m (input.Call session c)) r ++ responses_from r.cluster ys)
    → (s : Store) × (slice_get D.stores m ≡ Some s) × (t.reply ≡ (private_outcome m s (input.Call session c)).reply)) [
      | None ↦ λ is f. absurd (no_first t (f ∙ quiet D))
      | Some s ↦ λ is f. (s, is, ap (λ l. (first_told t l).reply) f)
    ] refl e
  where
    no_first : (t : Response) → t ∷ [] ≡ [] → ⊥
    no_first t f = cc

-- the job's own command, as its store answers it
pub own_answer : (nodes : ℕ) (before : List Traced) (m session : ℕ) (k : JobNo) (c : Command (List ℕ)) (r : Reply (List ℕ)) (ns : List Given)
    → is_no_memory (answer.Response r) ≡ false
    → filter is_answered (option_to_list (reply_of k.0 (steps.At m (event.Call k session c)) (answer.Response r)))
    ≡ responses_from (cluster_until nodes k.0 before) (for_job k.0 (record { job = k.0; input = at_node m (input.Call session c) } ∷ ns))
    → ((E : Cluster) → responses_from E (for_job k.0 ns) ≡ [])
    → (s : Store) × (slice_get (cluster_until nodes k.0 before).stores m ≡ Some s) × (r ≡ (private_outcome m s (input.Call session c)).reply)
own_answer nodes before m session k c r ns memory e quiet =
    let D = cluster_until nodes k.0 before in
    let t : Response = record { node = m; session = session; reply = r } in
    let x : Given = record { job = k.0; input = at_node m (input.Call session c) } in
    let same : (k.0 == k.0) ≡ true = eq-eqb k.0 k.0 refl in
    let left : t ∷ [] ≡ filter is_answered (option_to_list (if k.0 == k.0 then Some t else None)) =
    sym (ap (λ b. filter is_answered (option_to_list (if b then Some t else None))) same ∙ ap (λ b. cond (not b) (t ∷ []) []) memory) in
    let right : responses_from D (for_job k.0 (x ∷ ns)) ≡ responses_from D (at_node m (input.Call session c) ∷ for_job k.0 ns) =
    ap (λ b. responses_from D (map (λ g. g.input) (cond b (x ∷ filter (λ g. g.job == k.0) ns) (filter (λ g. g.job == k.0) ns)))) same in
    told_call D m session c (for_job k.0 ns) t quiet (left ∙ e ∙ right)
