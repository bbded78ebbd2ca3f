-- Whatever a step is and however it was answered: tables and halves fit one another after it, if they did before.
use Rattle.std.proofs.Common.{◌≡◌, ℕ, Bool, true, false, not, cond, ◌==◌, ◌&&◌, ◌||◌, List, [], ◌∷◌, ◌++◌, map, filter, slice_get, option_to_list, Option, Some, None, refl, sym, ap, subst, ◌∙◌, eq-eqb}
use Rattle.std.specs.Prelude.{if◌then◌else◌}
use Rattle.std.specs.Option.{option_map_or}
use Rattle.std.proofs.lemmas.Bool.{eqb-true}
use Rattle.obj_id.specs.declared.ids.ObjectId.{ObjectId}
use Rattle.obj_id.specs.declared.ids.TaskNo.{TaskNo}
use Rattle.obj_id.specs.declared.ids.JobNo.{JobNo}
use Rattle.obj_id.specs.declared.commands.Command.{Command}
use Rattle.obj_id.specs.declared.commands.Command.TheVariants as command
use Rattle.obj_id.specs.declared.commands.Reply.{Reply}
use Rattle.obj_id.specs.declared.commands.Reply.TheVariants as reply
use Rattle.obj_id.specs.Ids.{same_id, same_task}
use Rattle.private_store.specs.declared.inputs.Input.{Input}
use Rattle.private_store.specs.declared.inputs.Input.TheVariants as input
use Rattle.private_store.specs.declared.schedules.Event.{Event}
use Rattle.private_store.specs.declared.schedules.Event.TheVariants as event
use Rattle.private_store.specs.declared.schedules.Step.{Step}
use Rattle.private_store.specs.declared.schedules.Step.TheVariants as steps
use Rattle.private_store.specs.declared.schedules.StepAnswer.{StepAnswer}
use Rattle.private_store.specs.declared.schedules.StepAnswer.TheVariants as answer
use Rattle.private_store.specs.declared.schedules.Traced.{Traced}
use Rattle.private_store.specs.rules.Tables.{at}
use Rattle.private_store.specs.rules.Shape.{Shape, GrantGiven}
use Rattle.private_store.specs.rules.Private.{Store, private_step, private_outcome, store_from}
use Rattle.private_store.specs.rules.Cluster.{Cluster, at_node, deliver, cluster_step, moved_at, unmoved, Response, response, responses_from}
use Rattle.private_store.specs.rules.Grants.{StandingGrant, ground, new_grant, with_grant, grants_ended, grants_left, is_given_by, is_withdrawn, is_of_task}
use Rattle.private_store.specs.rules.Trace.{Given, grants_at, grants_step, own_input, notes, for_job, cluster_until, inputs_until, reply_of, is_answered, is_no_memory, received_note, withdrawn_note}
use Rattle.store_facts.proofs.Tests.{true_false, none_some, some_value, or_false_left, or_false_right}
use Rattle.grants.specs.Table.{given_by, grant_check}
use Rattle.grants.specs.Private.{as_given}
use Rattle.run_laws.proofs.WhatEnds.{filter_same, stands_filtered}
use Rattle.run_laws.proofs.GrantsStay.{SameGrants, same_grants, grants_stay}
use Rattle.run_laws.proofs.Halves.{given_half, HasHalves, lengths_in, its_lengths, halves_have}
use Rattle.grants.proofs.ForCallers.{filter_map, pushed_are_grants, left_are_grants, made_for}
use Rattle.run_laws.proofs.AfterEnds.{end_told, told_to}
use Rattle.run_laws.proofs.ClusterInputs.{StillInput, still_at, still_deliver}
use Rattle.std.proofs.Common.{length}
use Rattle.obj_id.specs.declared.works.DeviceAnswer.{DeviceAnswer}
use Rattle.obj_id.specs.declared.refusals.Refusal.{Refusal}
use Rattle.obj_id.specs.declared.refusals.Refusal.TheVariants.{BadId}
use Rattle.private_store.specs.rules.Contents.{View, without_payload, whole_reply, work_verdict}
use Rattle.private_store.specs.rules.Private.{view_of}
use Rattle.private_store.specs.rules.Step.{step}
use Rattle.private_store.specs.rules.Shape.{Change}
use Rattle.private_store.specs.rules.Events.{is_live}
use Rattle.private_store.specs.declared.inputs.Judged.TheVariants as judged
use Rattle.private_store.specs.laws.Made.{is_grant_command}
use Rattle.private_store.specs.rules.Trace.{is_out, granted_bytes}
use Rattle.store_facts.proofs.Tests.{both_left}
use Rattle.grants.specs.Table.{is_no_grantee, limits_check, hung_check}
use Rattle.run_laws.proofs.GrantInputs.{grant_is, withdraw_step, end_task_step, IsGrant, left, gave, EndDone, ended, JobEndDone, was_dead, is_over, job_end_step, keeps_others, keeps_other_tasks}
use Rattle.run_laws.proofs.AfterGrants.{granted_step, grantor_fits, grantee_fits, other_fits}
use Rattle.run_laws.proofs.StoresKept.{store_kept}
use Rattle.run_laws.proofs.Moving.{Stand, Moved, Answers, still_moves, node_moves, told_notes, Ends, ends_fit, own_answer}

-- ---- commands and their answers

pub if_same : {X : Type 0} (b : Bool) (x : X) → (if b then x else x) ≡ x
if_same true x = refl
if_same false x = refl

-- Ok with contents is Ok without
whole_ok : (view : View) (x : Input) (t : Reply ℕ) → reply.Ok ≡ whole_reply view x t → t ≡ reply.Ok
whole_ok view x reply.Ok e = refl
whole_ok view x (reply.Placed offset n) e = cc
whole_ok view x (reply.Got n) e = cc
whole_ok view x (reply.Bytes n) e = cc
whole_ok view x (reply.List mine granted) e = cc
whole_ok view x (reply.Usage usage) e = cc
whole_ok view x (reply.Work work) e = cc
whole_ok view x reply.NoWork e = cc
whole_ok view x (reply.Refused refusal) e = cc

-- only an accepted Grant, Withdraw or EndTask changes the grants of the job whose command it is
still_call : (m : ℕ) (s : Store) (session : ℕ) (c : Command (List ℕ)) (r : Reply (List ℕ)) → (is_grant_command (without_payload c) ≡ true → r ≡ reply.Ok → ⊥) → r ≡ (private_outcome m s (input.Call session c)).reply
    → SameGrants s.shape (private_step m s (input.Call session c)).shape
still_call m s session (command.Grant id target) r not_ok is = by_done (step (view_of s).order s.shape (judged.Call session (command.Grant id target))) (grant_is (view_of s).order s.shape session id target.0) is
  where
    by_done : (c : Change) → IsGrant s.shape id target.0 c → r ≡ whole_reply (view_of s) (input.Call session (command.Grant id target)) c.reply → SameGrants s.shape c.shape
    by_done c (left refusal stays told silent unused) e = subst (SameGrants s.shape) (sym stays) (same_grants s.shape)
    by_done c (gave below n given t silent unused) e = absurd (not_ok refl (e ∙ ap (whole_reply (view_of s) (input.Call session (command.Grant id target))) t))
still_call m s session (command.Withdraw id target) r not_ok is = by_done (step (view_of s).order s.shape (judged.Call session (command.Withdraw id target))) (withdraw_step (view_of s).order s.shape session id target.0) is
  where
    by_done : (c : Change) → EndDone (keeps_others id target.0) s.shape c → r ≡ whole_reply (view_of s) (input.Call session (command.Withdraw id target)) c.reply → SameGrants s.shape c.shape
    by_done c (left same n) e = same
    by_done c (ended j g f t) e = absurd (not_ok refl (e ∙ ap (whole_reply (view_of s) (input.Call session (command.Withdraw id target))) t))
still_call m s session (command.EndTask task) r not_ok is = by_done (step (view_of s).order s.shape (judged.Call session (command.EndTask task))) (end_task_step (view_of s).order s.shape session task) is
  where
    by_done : (c : Change) → EndDone (keeps_other_tasks s.shape.job task) s.shape c → r ≡ whole_reply (view_of s) (input.Call session (command.EndTask task)) c.reply → SameGrants s.shape c.shape
    by_done c (left same n) e = same
    by_done c (ended j g f t) e = absurd (not_ok refl (e ∙ ap (whole_reply (view_of s) (input.Call session (command.EndTask task))) t))
still_call m s session c r not_ok is = grants_stay (view_of s).order s.shape (judged.Call session (without_payload c)) refl

module _ (nodes : ℕ) (before : List Traced) (stand : Stand nodes before) where
  abbrev C : ℕ → Cluster
  C j = cluster_until nodes j before

  abbrev noted : Step → StepAnswer → List Given
  noted s a = notes nodes (λ other. inputs_until nodes other before) before s a

  -- a step that is no input to anybody
  nothing : (s : Step) (a : StepAnswer) → own_input before s a ≡ None → noted s a ≡ [] → ((n : ℕ) → grants_step n (grants_at n before) s a ≡ grants_at n before) → Moved nodes before s a
  nothing s a none silent same = still_moves nodes before stand s a None none silent same (λ g e. none_some g e)

  -- a step that is one input, which changes no grants
  one_input : (s : Step) (a : StepAnswer) (g : Given) → own_input before s a ≡ Some g → noted s a ≡ [] → ((n : ℕ) → grants_step n (grants_at n before) s a ≡ grants_at n before) → StillInput (C g.job) g.input → Moved nodes before s a
  one_input s a g is silent same still = still_moves nodes before stand s a (Some g) is silent same (λ h e. subst (λ x. StillInput (C x.job) x.input) (some_value g h e) still)

  -- ---- commands that change no grants

  module _ (m session : ℕ) (k : JobNo) (c : Command (List ℕ)) where
    abbrev called : Step
    called = steps.At m (event.Call k session c)

    abbrev given : Given
    given = record { job = k.0; input = at_node m (input.Call session c) }

    call_quiet : (r : Reply (List ℕ)) → (is_grant_command (without_payload c) ≡ true → r ≡ reply.Ok → ⊥) → noted called (answer.Response r) ≡ [] → ((n : ℕ) → grants_step n (grants_at n before) called (answer.Response r) ≡ grants_at n before)
        → Answers nodes before called (answer.Response r) → Moved nodes before called (answer.Response r)
    call_quiet r not_ok silent same answers = by_memory (is_no_memory (answer.Response r)) refl
      where
        by_memory : (b : Bool) → is_no_memory (answer.Response r) ≡ b → Moved nodes before called (answer.Response r)
        by_memory true e = nothing called (answer.Response r) (ap (λ t. if t then None else Some given) e) silent same
        by_memory false e =
            let taken : own_input before called (answer.Response r) ≡ Some given = ap (λ t. if t then None else Some given) e in
            let a = own_answer nodes before m session k c r [] e (answers k.0 ∙ ap (λ l. responses_from (C k.0) (for_job k.0 l)) (λ i. option_to_list (taken i) ++ silent i)) (λ E. refl) in
            one_input called (answer.Response r) given taken silent same
            (still_at (C k.0) m (input.Call session c) (λ s at. subst (λ x. SameGrants x.shape (private_step m x (input.Call session c)).shape) (some_value a.0 s (sym a.1 ∙ at)) (still_call m a.0 session c r not_ok a.2)))

  -- ---- ends

  pub end_moves : (m : ℕ) (k : JobNo) (e : Event) (test : StandingGrant → Bool) (x : Input) → ((h : StandingGrant) → test h ≡ true → h.grantor ≡ k.0)
      → ((n : ℕ) → grants_step n (grants_at n before) (steps.At m e) (answer.Response reply.Ok) ≡ (if m == n then grants_left test (grants_at n before) else grants_at n before))
      → own_input before (steps.At m e) (answer.Response reply.Ok) ≡ Some (record { job = k.0; input = at_node m x })
      → noted (steps.At m e) (answer.Response reply.Ok) ≡ map (withdrawn_note m) (grants_ended test (grants_at m before))
      → ((s : Store) → slice_get (C k.0).stores m ≡ Some s → Ends nodes before stand test (grants_at m before) k.0 s.shape (private_step m s x).shape)
      → Moved nodes before (steps.At m e) (answer.Response reply.Ok)
  end_moves m k e test x theirs grants taken response ends =
      let gone = grants_ended test (grants_at m before) in
      let xs : ℕ → List Input = λ j. cond (k.0 == j) (x ∷ map end_told (told_to j test (grants_at m before))) (map end_told (told_to j test (grants_at m before))) in
      node_moves nodes before stand m (grants_left test) (steps.At m e) (answer.Response reply.Ok) grants (left_are_grants test (grants_at m before) (stand.table m)) xs
      (λ j. ap (for_job j) (λ i. option_to_list (taken i) ++ response i)
      ∙ elim (k.0 == j) as (λ t. map (λ g. g.input) (cond t (record { job = k.0; input = at_node m x } ∷ filter (λ g. g.job == j) (map (withdrawn_note m) gone)) (filter (λ g. g.job == j) (map (withdrawn_note m) gone))) ≡ map (at_node m) (cond t (x ∷ map end_told (told_to j test (grants_at m before))) (map end_told (told_to j test (grants_at m before))))) [
        | true ↦ ap (λ l. at_node m x ∷ l) (told_notes nodes before stand m j gone)
        | false ↦ told_notes nodes before stand m j gone
      ])
      (λ j s at. ends_fit nodes before stand m k.0 test theirs x ends j s at)

  -- notes of ends have no replies
  quiet_ends : (m j : ℕ) (gone : List StandingGrant) (E : Cluster) → responses_from E (for_job j (map (withdrawn_note m) gone)) ≡ []
  quiet_ends m j gone E = ap (responses_from E) (told_notes nodes before stand m j gone) ∙ quiet (filter (λ h. h.grantee == j) gone) E
    where
      quiet : (hs : List StandingGrant) (E : Cluster) → responses_from E (map (at_node m) (map end_told hs)) ≡ []
      quiet [] E = refl
      quiet (h ∷ hs) E = quiet hs (cluster_step E (at_node m (end_told h))).cluster

  -- what the grantor's store keeps, in the words of the table
  kept_half : (k : ℕ) (grants : List StandingGrant) (test : StandingGrant → Bool) (keep : GrantGiven → Bool) → ((h : StandingGrant) → h.grantor ≡ k → keep (as_given h) ≡ not (test h))
      → (gs : List GrantGiven) → gs ≡ given_half k grants → filter keep gs ≡ map as_given (filter (λ h. not (test h)) (given_by k grants))
  kept_half k grants test keep same gs is =
      ap (filter keep) is ∙ filter_map as_given keep (given_by k grants)
      ∙ ap (map as_given) (filter_same (λ h. keep (as_given h)) (λ h. not (test h)) (given_by k grants) (λ h a. same h (eqb-true h.grantor k (stands_filtered h (is_given_by k) grants a).1)))

  ended_by_reply : (s : Store) (x : Input) (keep : GrantGiven → Bool) (test : StandingGrant → Bool) (grants : List StandingGrant) (k : ℕ) (c : Change) → EndDone keep s.shape c → reply.Ok ≡ whole_reply (view_of s) x c.reply
      → ((h : StandingGrant) → h.grantor ≡ k → keep (as_given h) ≡ not (test h)) → HasHalves k grants s.shape → Ends nodes before stand test grants k s.shape c.shape
  ended_by_reply s x keep test grants k c (left same not_ok) is keeps fits = absurd (not_ok (whole_ok (view_of s) x c.reply is))
  ended_by_reply s x keep test grants k c (ended j g r t) is keeps fits = record { job = j; given = g ∙ kept_half k grants test keep keeps s.shape.given fits.given; received = r }

  -- there is one store, the one that answered
  of_that : (m : ℕ) (k : ℕ) (P : Store → Type 0) (a : Store) → slice_get (C k).stores m ≡ Some a → P a → (s : Store) → slice_get (C k).stores m ≡ Some s → P s
  of_that m k P a at p s e = subst P (some_value a s (sym at ∙ e)) p

  and_moved : (a b c : Bool) → a ≡ true → (b && c) ≡ ((a && b) && c)
  and_moved true b c e = refl
  and_moved false b c e = true_false e

  withdraw_moves : (m session : ℕ) (k : JobNo) (id : ObjectId) (target : JobNo) → Answers nodes before (called m session k (command.Withdraw id target)) (answer.Response reply.Ok) → Moved nodes before (called m session k (command.Withdraw id target)) (answer.Response reply.Ok)
  withdraw_moves m session k id target answers =
      let c : Command (List ℕ) = command.Withdraw id target in
      let x : Input = input.Call session c in
      let test = is_withdrawn k.0 id target.0 in
      let gone = grants_ended test (grants_at m before) in
      let a = own_answer nodes before m session k c reply.Ok (map (withdrawn_note m) gone) refl (answers k.0) (quiet_ends m k.0 gone) in
      end_moves m k (event.Call k session c) test x (λ h t. eqb-true h.grantor k.0 (both_left (h.grantor == k.0) (same_id id h.id) (both_left (h.grantor == k.0 && same_id id h.id) (h.grantee == target.0) t))) (λ n. refl) refl refl
      (λ s at. of_that m k.0 (λ s. Ends nodes before stand test (grants_at m before) k.0 s.shape (private_step m s x).shape) a.0 a.1
      (ended_by_reply a.0 x (keeps_others id target.0) test (grants_at m before) k.0 (step (view_of a.0).order a.0.shape (judged.Call session (command.Withdraw id target))) (withdraw_step (view_of a.0).order a.0.shape session id target.0) a.2
      (λ h is. ap not (and_moved (h.grantor == k.0) (same_id id h.id) (h.grantee == target.0) (eq-eqb h.grantor k.0 is))) (stand.fit m k.0 a.0 a.1)) s at)

  end_task_moves : (m session : ℕ) (k : JobNo) (task : TaskNo) → Answers nodes before (called m session k (command.EndTask task)) (answer.Response reply.Ok) → Moved nodes before (called m session k (command.EndTask task)) (answer.Response reply.Ok)
  end_task_moves m session k task answers =
      let c : Command (List ℕ) = command.EndTask task in
      let x : Input = input.Call session c in
      let test = is_of_task k.0 task in
      let gone = grants_ended test (grants_at m before) in
      let a = own_answer nodes before m session k c reply.Ok (map (withdrawn_note m) gone) refl (answers k.0) (quiet_ends m k.0 gone) in
      let fits = stand.fit m k.0 a.0 a.1 in
      end_moves m k (event.Call k session c) test x (λ h t. eqb-true h.grantor k.0 (both_left (h.grantor == k.0) (h.id.job.0 == k.0) (both_left (h.grantor == k.0 && h.id.job.0 == k.0) (same_task task h.id.task) t))) (λ n. refl) refl refl
      (λ s at. of_that m k.0 (λ s. Ends nodes before stand test (grants_at m before) k.0 s.shape (private_step m s x).shape) a.0 a.1
      (ended_by_reply a.0 x (keeps_other_tasks a.0.shape.job task) test (grants_at m before) k.0 (step (view_of a.0).order a.0.shape (judged.Call session (command.EndTask task))) (end_task_step (view_of a.0).order a.0.shape session task) a.2
      (λ h is. ap (λ i. not (h.id.job.0 == i && same_task task h.id.task)) fits.job ∙ ap not (and_moved (h.grantor == k.0) (h.id.job.0 == k.0) (same_task task h.id.task) (eq-eqb h.grantor k.0 is))) fits) s at)

  none_of_it : {X : Type 0} (xs : List X) → filter (λ x. false) xs ≡ []
  none_of_it [] = refl
  none_of_it (x ∷ xs) = none_of_it xs

  job_end_moves : (m : ℕ) (k : JobNo) → Moved nodes before (steps.At m (event.JobEnd k)) (answer.Response reply.Ok)
  job_end_moves m k =
      let test = is_given_by k.0 in
      let grants = grants_at m before in
      end_moves m k (event.JobEnd k) test input.End (λ h t. eqb-true h.grantor k.0 t) (λ n. refl) refl refl (λ s at.
      let fits = stand.fit m k.0 s at in
      let none : [] ≡ map as_given (filter (λ h. not (test h)) (given_by k.0 grants)) =
      sym (none_of_it s.shape.given) ∙ kept_half k.0 grants test (λ g. false) (λ h is. sym (ap not (eq-eqb h.grantor k.0 is))) s.shape.given fits.given in
      let kept = (store_kept k.0 nodes (inputs_until nodes k.0 before) m s at).kept.shape in
      by_done s (step (view_of s).order s.shape judged.End) (job_end_step (view_of s).order s.shape) none (λ l. (kept.dead l).2))
    where
      by_done : (s : Store) (c : Change) → JobEndDone s.shape c → [] ≡ map as_given (filter (λ h. not (is_given_by k.0 h)) (given_by k.0 (grants_at m before))) → (is_live s.shape ≡ false → s.shape.given ≡ [])
          → Ends nodes before stand (is_given_by k.0) (grants_at m before) k.0 s.shape c.shape
      by_done s c (was_dead l same) none empty = record { job = same.job; given = same.given ∙ empty l ∙ none; received = same.received }
      by_done s c (is_over j g r) none empty = record { job = j; given = g ∙ none; received = r }

  -- ---- grants

  grantee_off : (b : Bool) (o : Option Refusal) → (if b then Some BadId else o) ≡ None → b ≡ false
  grantee_off true o e = none_some BadId (sym e)
  grantee_off false o e = refl

  -- what an accepted grant did to the grantor's store
  record Granted (m k : ℕ) (id : ObjectId) (target : ℕ) (s : Store) (after : Shape) : Type 0 where
    check : grant_check (grants_at m before) k id target ≡ None
    job : after.job ≡ s.shape.job
    given : after.given ≡ s.shape.given ++ as_given (new_grant (grants_at m before) id k target) ∷ []
    received : after.received ≡ s.shape.received

  granted_by : (m session k : ℕ) (id : ObjectId) (target : ℕ) (s : Store) → HasHalves k (grants_at m before) s.shape
      → (step (view_of s).order s.shape (judged.Call session (command.Grant id (record { 0 = target })))).reply ≡ reply.Ok → Granted m k id target s (step (view_of s).order s.shape (judged.Call session (command.Grant id (record { 0 = target })))).shape
  granted_by m session k id target s fits ok =
      let grants = grants_at m before in
      let g = granted_step (lengths_in s.shape) grants s.shape (halves_have (lengths_in s.shape) k grants s.shape (its_lengths s.shape) fits) id target (view_of s).order session ok in
      record {
        check = ap (λ i. grant_check grants i id target) (sym fits.job) ∙ g.check;
        job = g.job;
        given = g.given ∙ ap (λ i. s.shape.given ++ as_given (new_grant grants id i target) ∷ []) fits.job;
        received = g.received;
      }

  grant_moves : (m session : ℕ) (k : JobNo) (id : ObjectId) (target : JobNo) → Answers nodes before (called m session k (command.Grant id target)) (answer.Response reply.Ok) → Moved nodes before (called m session k (command.Grant id target)) (answer.Response reply.Ok)
  grant_moves m session k id target answers =
      let c : Command (List ℕ) = command.Grant id target in
      let x : Input = input.Call session c in
      let grants = grants_at m before in
      let h = new_grant grants id k.0 target.0 in
      let bytes = granted_bytes nodes m (λ other. inputs_until nodes other before) h.id in
      let note : Given = received_note nodes m (λ other. inputs_until nodes other before) h in
      let rcv : Input = input.Received h.id bytes (record { 0 = h.grantor }) h.depth in
      let a = own_answer nodes before m session k c reply.Ok (note ∷ []) refl (answers k.0)
      (λ E. elim (h.grantee == k.0) as (λ t. responses_from E (map (λ g. g.input) (cond t (note ∷ []) [])) ≡ []) [ true ↦ refl | false ↦ refl ]) in
      let fits = stand.fit m k.0 a.0 a.1 in
      let change = step (view_of a.0).order a.0.shape (judged.Call session (command.Grant id target)) in
      let g = granted_by m session k.0 id target.0 a.0 fits (whole_ok (view_of a.0) x change.reply a.2) in
      let off : is_no_grantee id k.0 target.0 ≡ false =
      grantee_off (is_no_grantee id k.0 target.0) (if id.job.0 == k.0 then limits_check grants k.0 id target.0 0 else hung_check grants k.0 id target.0 (ground grants id k.0)) g.check in
      let apart : (target.0 == k.0) ≡ false = or_false_right (target.0 == 0) (target.0 == k.0) (or_false_left (target.0 == 0 || target.0 == k.0) (target.0 == id.job.0) off) in
      let made = made_for (λ q. 0) grants k.0 id target.0 in
      let from : h.grantor ≡ k.0 = made.1 in
      let to : h.grantee ≡ target.0 = made.2 in
      let xs : ℕ → List Input = λ j. cond (k.0 == j) (x ∷ cond (h.grantee == j) (rcv ∷ []) []) (cond (h.grantee == j) (rcv ∷ []) []) in
      let own_after : HasHalves k.0 (with_grant grants id k.0 target.0) (private_step m a.0 x).shape =
      grantor_fits k.0 grants h a.0.shape fits (private_step m a.0 x).shape from (ap (λ i. i == k.0) to ∙ apart) g.job g.given g.received in
      node_moves nodes before stand m (λ hs. with_grant hs id k.0 target.0) (called m session k c) (answer.Response reply.Ok) (λ n. refl) (pushed_are_grants grants k.0 id target.0 h true (with_grant grants id k.0 target.0) (stand.table m) g.check refl refl) xs
      (λ j. elim (k.0 == j) as (λ t. map (λ g. g.input) (cond t (record { job = k.0; input = at_node m x } ∷ cond (h.grantee == j) (note ∷ []) []) (cond (h.grantee == j) (note ∷ []) [])) ≡ map (at_node m) (cond t (x ∷ cond (h.grantee == j) (rcv ∷ []) []) (cond (h.grantee == j) (rcv ∷ []) []))) [
        | true ↦ elim (h.grantee == j) as (λ t. map (λ g. g.input) (record { job = k.0; input = at_node m x } ∷ cond t (note ∷ []) []) ≡ map (at_node m) (x ∷ cond t (rcv ∷ []) [])) [ true ↦ refl | false ↦ refl ]
        | false ↦ elim (h.grantee == j) as (λ t. map (λ g. g.input) (cond t (note ∷ []) []) ≡ map (at_node m) (cond t (rcv ∷ []) [])) [ true ↦ refl | false ↦ refl ]
      ])
      (λ j s at. elim (k.0 == j) as (λ t. (k.0 == j) ≡ t → HasHalves j (with_grant grants id k.0 target.0) (store_from m s (cond t (x ∷ cond (h.grantee == j) (rcv ∷ []) []) (cond (h.grantee == j) (rcv ∷ []) []))).shape) [
        | true ↦ λ t.
            let is : k.0 ≡ j = eqb-true k.0 j t in
            let other : (h.grantee == j) ≡ false = ap (λ i. h.grantee == i) (sym is) ∙ ap (λ i. i == k.0) to ∙ apart in
            let mine : HasHalves j (with_grant grants id k.0 target.0) (private_step m s x).shape =
            subst (λ i. HasHalves i (with_grant grants id k.0 target.0) (private_step m s x).shape) is
            (of_that m k.0 (λ s. HasHalves k.0 (with_grant grants id k.0 target.0) (private_step m s x).shape) a.0 a.1 own_after s (ap (λ i. slice_get (C i).stores m) is ∙ at)) in
            subst (λ b. HasHalves j (with_grant grants id k.0 target.0) (store_from m (private_step m s x) (cond b (rcv ∷ []) [])).shape) (sym other) mine
        | false ↦ λ t.
            let grantor : (h.grantor == j) ≡ false = ap (λ i. i == j) from ∙ t in
            elim (h.grantee == j) as (λ u. (h.grantee == j) ≡ u → HasHalves j (with_grant grants id k.0 target.0) (store_from m s (cond u (rcv ∷ []) [])).shape) [
              | true ↦ λ u. grantee_fits j grants h s.shape (stand.fit m j s at) (length bytes) (eqb-true h.grantee j u) grantor
              | false ↦ λ u. other_fits j grants h s.shape (stand.fit m j s at) grantor u
            ] refl
      ] refl)

  -- ---- any step

  -- an accepted command
  call_ok : (m session : ℕ) (k : JobNo) (c : Command (List ℕ)) → Answers nodes before (called m session k c) (answer.Response reply.Ok) → Moved nodes before (called m session k c) (answer.Response reply.Ok)
  call_ok m session k (command.Grant id target) answers = grant_moves m session k id target answers
  call_ok m session k (command.Withdraw id target) answers = withdraw_moves m session k id target answers
  call_ok m session k (command.EndTask task) answers = end_task_moves m session k task answers
  call_ok m session k c answers = call_quiet m session k c reply.Ok (λ e f. true_false e) refl (λ n. if_same (m == n) (grants_at n before)) answers

  -- a command that got no reply
  no_reply : (m session : ℕ) (k : JobNo) (c : Command (List ℕ)) (a : StepAnswer) → own_input before (called m session k c) a ≡ Some (given m session k c) → noted (called m session k c) a ≡ [] → ((n : ℕ) → grants_step n (grants_at n before) (called m session k c) a ≡ grants_at n before)
      → reply_of k.0 (called m session k c) a ≡ None → Answers nodes before (called m session k c) a → Moved nodes before (called m session k c) a
  no_reply m session k c a taken silent same none answers =
      one_input (called m session k c) a (given m session k c) taken silent same
      (still_at (C k.0) m (input.Call session c) (λ s at. absurd (unanswered s at
      (sym (ap (λ o. filter is_answered (option_to_list o)) none) ∙ answers k.0 ∙ ap (λ l. responses_from (C k.0) (for_job k.0 l)) (λ i. option_to_list (taken i) ++ silent i)
      ∙ ap (λ b. responses_from (C k.0) (map (λ g. g.input) (cond b (given m session k c ∷ []) []))) (eq-eqb k.0 k.0 refl)))))
    where
      no_more : (t : Response) → [] ≡ t ∷ [] → ⊥
      no_more t f = cc

      unanswered : (s : Store) → slice_get (C k.0).stores m ≡ Some s → [] ≡ responses_from (C k.0) (at_node m (input.Call session c) ∷ []) → ⊥
      unanswered s at f =
          no_more (record { node = m; session = session; reply = (private_outcome m s (input.Call session c)).reply })
          (f ∙ ap (λ o. (let r = option_map_or (λ store. moved_at (C k.0) m store (private_outcome m store (input.Call session c))) o (unmoved (C k.0)) in response (at_node m (input.Call session c)) r ++ [])) at)

  call_moves : (m session : ℕ) (k : JobNo) (c : Command (List ℕ)) (a : StepAnswer) → Answers nodes before (called m session k c) a → Moved nodes before (called m session k c) a
  call_moves m session k c (answer.Response reply.Ok) answers = call_ok m session k c answers
  call_moves m session k c (answer.Response (reply.Placed offset n)) answers = call_quiet m session k c (reply.Placed offset n) (λ e f. cc) refl (λ n. refl) answers
  call_moves m session k c (answer.Response (reply.Got n)) answers = call_quiet m session k c (reply.Got n) (λ e f. cc) refl (λ n. refl) answers
  call_moves m session k c (answer.Response (reply.Bytes bytes)) answers = call_quiet m session k c (reply.Bytes bytes) (λ e f. cc) refl (λ n. refl) answers
  call_moves m session k c (answer.Response (reply.List mine granted)) answers = call_quiet m session k c (reply.List mine granted) (λ e f. cc) refl (λ n. refl) answers
  call_moves m session k c (answer.Response (reply.Usage usage)) answers = call_quiet m session k c (reply.Usage usage) (λ e f. cc) refl (λ n. refl) answers
  call_moves m session k c (answer.Response (reply.Work work)) answers = call_quiet m session k c (reply.Work work) (λ e f. cc) refl (λ n. refl) answers
  call_moves m session k c (answer.Response reply.NoWork) answers = call_quiet m session k c reply.NoWork (λ e f. cc) refl (λ n. refl) answers
  call_moves m session k c (answer.Response (reply.Refused r)) answers = call_quiet m session k c (reply.Refused r) (λ e f. cc) refl (λ n. refl) answers
  call_moves m session k c (answer.HandedOver message) answers = no_reply m session k c (answer.HandedOver message) refl refl (λ n. refl) refl answers
  call_moves m session k c answer.NoMessage answers = no_reply m session k c answer.NoMessage refl refl (λ n. refl) refl answers

  -- a device's answer
  finish_moves : (m : ℕ) (k : JobNo) (number : ℕ) (d : DeviceAnswer) (a : StepAnswer) → noted (steps.At m (event.Finish k number d)) a ≡ [] → ((n : ℕ) → grants_step n (grants_at n before) (steps.At m (event.Finish k number d)) a ≡ grants_at n before) → Moved nodes before (steps.At m (event.Finish k number d)) a
  finish_moves m k number d a silent same =
      let g : Given = record { job = k.0; input = at_node m (input.Answer number d) } in
      let s = steps.At m (event.Finish k number d) in
      let form : Bool → Bool → Option Given = λ b t. if b then None else (if t then Some g else None) in
      elim (is_no_memory a) as (λ b. own_input before s a ≡ form b (is_out m k.0 number before) → Moved nodes before s a) [
        | true ↦ λ e. nothing s a e silent same
        | false ↦ elim (is_out m k.0 number before) as (λ t. own_input before s a ≡ form false t → Moved nodes before s a) [
          | true ↦ λ e. one_input s a g e silent same (still_at (C k.0) m (input.Answer number d) (λ s _. grants_stay (view_of s).order s.shape (judged.Answer number (work_verdict (view_of s) number d)) refl))
          | false ↦ λ e. nothing s a e silent same
        ]
      ] refl

  pub moves : (s : Step) (a : StepAnswer) → Answers nodes before s a → Moved nodes before s a
  moves (steps.Deliver k from to number damage) a answers =
      let g : Given = record { job = k.0; input = deliver from to number damage } in
      let s = steps.Deliver k from to number damage in
      elim (is_no_memory a) as (λ b. own_input before s a ≡ (if b then None else Some g) → Moved nodes before s a) [
        | true ↦ λ e. nothing s a e refl (λ n. refl)
        | false ↦ λ e. one_input s a g e refl (λ n. refl) (still_deliver (C k.0) from to number damage)
      ] refl
  moves (steps.At m (event.Call k session c)) a answers = call_moves m session k c a answers
  moves (steps.At m (event.JobEnd k)) (answer.Response reply.Ok) answers = job_end_moves m k
  moves (steps.At m (event.JobEnd k)) a answers = nothing (steps.At m (event.JobEnd k)) _ refl refl (λ n. refl)
  moves (steps.At m (event.Admit k quota key)) (answer.Response reply.Ok) answers =
      one_input (steps.At m (event.Admit k quota key)) (answer.Response reply.Ok) (record { job = k.0; input = at_node m (input.Begin quota) }) refl refl (λ n. if_same (m == n) (grants_at n before))
      (still_at (C k.0) m (input.Begin quota) (λ s _. grants_stay (view_of s).order s.shape (judged.Begin quota) refl))
  moves (steps.At m (event.Admit k quota key)) a answers = nothing (steps.At m (event.Admit k quota key)) _ refl refl (λ n. refl)
  moves (steps.At m (event.Requota k quota)) (answer.Response reply.Ok) answers =
      one_input (steps.At m (event.Requota k quota)) (answer.Response reply.Ok) (record { job = k.0; input = at_node m (input.Requota quota) }) refl refl (λ n. if_same (m == n) (grants_at n before))
      (still_at (C k.0) m (input.Requota quota) (λ s _. grants_stay (view_of s).order s.shape (judged.Requota quota) refl))
  moves (steps.At m (event.Requota k quota)) a answers = nothing (steps.At m (event.Requota k quota)) _ refl refl (λ n. refl)
  moves (steps.At m event.Take) (answer.Response reply.Ok) answers = nothing (steps.At m event.Take) (answer.Response reply.Ok) refl refl (λ n. if_same (m == n) (grants_at n before))
  moves (steps.At m event.Take) a answers = nothing (steps.At m event.Take) _ refl refl (λ n. refl)
  moves (steps.At m (event.Finish k number d)) (answer.Response reply.Ok) answers = finish_moves m k number d (answer.Response reply.Ok) refl (λ n. if_same (m == n) (grants_at n before))
  moves (steps.At m (event.Finish k number d)) a answers = finish_moves m k number d _ refl (λ n. refl)
