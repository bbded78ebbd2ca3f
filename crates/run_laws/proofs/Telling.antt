-- Two histories that differ for a job in nothing but what others do with its objects: what the job is answered is the same.
use Rattle.std.proofs.Common.{◌≡◌, ℕ, ◌||◌, Bool, true, false, not, cond, ◌==◌, ◌&&◌, inl, List, [], ◌∷◌, ◌++◌, map, filter, slice_get, option_to_list, Option, Some, None, option_map, refl, sym, ap, subst, ◌∙◌, eq-eqb}
use Rattle.std.specs.Prelude.{if◌then◌else◌}
use Rattle.std.specs.Option.{option_map_or}
use Rattle.std.specs.List.{cons_option, list_any}
use Rattle.std.proofs.lemmas.Bool.{eqb-true}
use Rattle.std.proofs.lemmas.List.{append-nil, map-append}
use Rattle.std.proofs.lemmas.List.Elements.{filter-append}
use Rattle.obj_id.specs.declared.ids.JobNo.{JobNo}
use Rattle.obj_id.specs.declared.ids.ObjectId.{ObjectId}
use Rattle.obj_id.specs.declared.commands.Command.{Command}
use Rattle.obj_id.specs.declared.commands.Command.TheVariants as command
use Rattle.obj_id.specs.declared.commands.Reply.{Reply}
use Rattle.obj_id.specs.declared.commands.Reply.TheVariants as reply
use Rattle.obj_id.specs.Ids.{same_id}
use Rattle.store_facts.proofs.Ids.{same_id-equal}
use Rattle.private_store.specs.declared.inputs.Input.TheVariants as input
use Rattle.private_store.specs.declared.schedules.Event.TheVariants as event
use Rattle.private_store.specs.declared.schedules.Step.{Step}
use Rattle.private_store.specs.declared.schedules.Step.TheVariants as steps
use Rattle.private_store.specs.declared.schedules.StepAnswer.{StepAnswer}
use Rattle.private_store.specs.declared.schedules.StepAnswer.TheVariants as answer
use Rattle.private_store.specs.declared.schedules.Traced.{Traced}
use Rattle.private_store.specs.rules.Contents.{View, bytes_at, judge}
use Rattle.run_laws.proofs.OwnSteps.{is_plain}
use Rattle.private_store.specs.rules.Private.{Store, private_outcome}
use Rattle.private_store.specs.rules.Cluster.{cluster_step, at_node, deliver, cluster_from, no_cluster, responses_from}
use Rattle.private_store.specs.rules.Grants.{StandingGrant, new_grant, with_grant, grants_ended, grants_left, is_withdrawn, is_of_task, is_given_by}
use Rattle.private_store.specs.rules.Trace.{Given, grants_at, grants_step, own_input, notes, for_job, granted_bytes, received_note, withdrawn_note, inputs_until, cluster_until, is_out, out_after, is_no_memory, reply_of, replies_of}
use Rattle.private_store.specs.rules.Shared.{lives_after, lives_step, is_admission, taken_at, outcome_works, works_asked_by, asked_by, leaves, waiting}
use Rattle.store_facts.proofs.Runs.{cluster_until-step, cluster_from-append}
use Rattle.store_facts.proofs.Tests.{true_false, none_some, some_value, both_left, both_right, not_true, refuted}
use Rattle.grants.specs.Table.{AreGrants}
use Rattle.grants.proofs.ForCallers.{made_for}
use Rattle.run_laws.specs.Standing.{is_response_to}
use Rattle.run_laws.specs.Telling.{is_of_others, is_aside}
use Rattle.run_laws.proofs.WhatEnds.{stands_after}
use Rattle.run_laws.proofs.WhatIsSeen.{not_home}
use Rattle.run_laws.proofs.OverStores.{Each, notes_each, each_both}
use Rattle.run_laws.proofs.StoresKept.{AllHaveCome, all_come, from_comes}
use Rattle.run_laws.proofs.AfterEnds.{end_told}
use Rattle.run_laws.proofs.Moving.{Stand, Answers, told_notes, own_answer, filter_true}
use Rattle.run_laws.proofs.EachStepMoves.{if_same}
use Rattle.run_laws.proofs.Histories.{quiet_all, notes_quiet}
use Rattle.run_laws.proofs.OwnClusters.{part, SamePart, same_then, same_back, Alike, Aside, step_same, step_works, aside_works, all_aside}
use Rattle.run_laws.proofs.OwnClusters.{told_same as stores_told}
use Rattle.run_laws.proofs.Withdrawals.{withdraw_same}
use Rattle.run_laws.proofs.OtherTables.{is_foreign, foreign_grants, new_same, with_same, with_own, left_same, told_same, all_left, none_told}

-- what the two histories have in common: the job's inputs and replies, the own parts of all others' stores, the grants of
-- all objects that aren't the job's, the works that are out and that wait, and which jobs live and were admitted
pub record SameFor (nodes j : ℕ) (a b : List Traced) : Type 0 where
  pub inputs : inputs_until nodes j a ≡ inputs_until nodes j b
  pub parts : (k : ℕ) → (k == j) ≡ false → SamePart (cluster_until nodes k a) (cluster_until nodes k b)
  pub grants : (n : ℕ) → foreign_grants j (grants_at n a) ≡ foreign_grants j (grants_at n b)
  pub out : (n k number : ℕ) → is_out n k number a ≡ is_out n k number b
  pub replies : replies_of j a ≡ replies_of j b
  pub lives : (memory n : ℕ) → lives_after memory n a ≡ lives_after memory n b
  pub admissions : (n k : ℕ) → list_any (λ entry. is_admission n k entry.step entry.answer) a ≡ list_any (λ entry. is_admission n k entry.step entry.answer) b
  pub waits : (n : ℕ) → waiting nodes n a ≡ waiting nodes n b

pub same_for_back : (nodes j : ℕ) (a b : List Traced) → SameFor nodes j a b → SameFor nodes j b a
same_for_back nodes j a b h = record {
  inputs = sym h.inputs;
  parts = λ k other. same_back (cluster_until nodes k a) (cluster_until nodes k b) (h.parts k other);
  grants = λ n. sym (h.grants n);
  out = λ n k number. sym (h.out n k number);
  replies = sym h.replies;
  lives = λ memory n. sym (h.lives memory n);
  admissions = λ n k. sym (h.admissions n k);
  waits = λ n. sym (h.waits n);
}

pub same_for_then : (nodes j : ℕ) (a b c : List Traced) → SameFor nodes j a b → SameFor nodes j b c → SameFor nodes j a c
same_for_then nodes j a b c h k = record {
  inputs = h.inputs ∙ k.inputs;
  parts = λ i other. same_then (cluster_until nodes i a) (cluster_until nodes i b) (cluster_until nodes i c) (h.parts i other) (k.parts i other);
  grants = λ n. h.grants n ∙ k.grants n;
  out = λ n i number. h.out n i number ∙ k.out n i number;
  replies = h.replies ∙ k.replies;
  lives = λ memory n. h.lives memory n ∙ k.lives memory n;
  admissions = λ n i. h.admissions n i ∙ k.admissions n i;
  waits = λ n. h.waits n ∙ k.waits n;
}

-- the job's own cluster is the same
pub one_cluster : (nodes j : ℕ) (a b : List Traced) → SameFor nodes j a b → (k : ℕ) → k ≡ j → cluster_until nodes k a ≡ cluster_until nodes k b
one_cluster nodes j a b same k is = ap (λ i. cluster_until nodes i a) is ∙ ap (cluster_from (no_cluster j nodes)) same.inputs ∙ ap (λ i. cluster_until nodes i b) (sym is)

-- ---- words

for_both : (j : ℕ) (xs ys : List Given) → for_job j (xs ++ ys) ≡ for_job j xs ++ for_job j ys
for_both j xs ys = ap (map (λ g. g.input)) (filter-append (λ g. g.job == j) xs ys) ∙ map-append (λ g. g.input) (filter (λ g. g.job == j) xs) (filter (λ g. g.job == j) ys)

module _ (nodes : ℕ) where
  abbrev noted : List Traced → Step → StepAnswer → List Given
  noted before s t = notes nodes (λ other. inputs_until nodes other before) before s t

  come_until : (k : ℕ) (before : List Traced) → AllHaveCome k (cluster_until nodes k before)
  come_until k before = all_come k nodes (inputs_until nodes k before)

  -- the notes of a step are aside for every job
  notes_aside : (k : ℕ) (before : List Traced) (s : Step) (t : StepAnswer) → Each (Aside k) (noted before s t)
  notes_aside k before s t = notes_each (Aside k) nodes (λ other. inputs_until nodes other before) before s t (λ m h. refl) (λ m h. refl)

  -- ---- a step that only one of them has

  module _ (j : ℕ) (before : List Traced) (stand : Stand nodes before) (m session : ℕ) (k : JobNo) (c : Command (List ℕ)) (t : StepAnswer) (others : (k.0 == j) ≡ false) where
    abbrev called : Step
    called = steps.At m (event.Call k session c)

    abbrev entry : Traced
    entry = record { step = called; answer = t }

    abbrev given : Given
    given = record { job = k.0; input = at_node m (input.Call session c) }

    hidden_by : ((i : ℕ) → (i == j) ≡ false → Aside i (at_node m (input.Call session c))) → for_job j (noted before called t) ≡ [] → ((n : ℕ) → foreign_grants j (grants_step n (grants_at n before) called t) ≡ foreign_grants j (grants_at n before)) → SameFor nodes j (entry ∷ before) before
    hidden_by aside untold grants = record {
      inputs = ap (λ l. inputs_until nodes j before ++ l) (for_both j (option_to_list (own_input before called t)) (noted before called t) ∙ (λ i. no_own i ++ untold i)) ∙ append-nil (inputs_until nodes j before);
      parts = λ i other. subst (λ C. SamePart C (cluster_until nodes i before)) (sym (cluster_until-step nodes i entry before))
          (all_aside i (cluster_until nodes i before) (come_until i before) (option_to_list (own_input before called t) ++ noted before called t)
          (each_both (Aside i) (option_to_list (own_input before called t)) (noted before called t) (own_aside i (aside i other)) (notes_aside i before called t)));
      grants = grants;
      out = λ n i number. refl;
      replies = ap (λ o. cons_option o (replies_of j before)) (no_reply t);
      lives = λ memory n. refl;
      admissions = λ n i. refl;
      waits = λ n.
          (λ i. filter_true (waiting nodes n before) i ++ none_asked n i) ∙ append-nil (waiting nodes n before);
    }
      where
        none_asked : (n : ℕ) → asked_by nodes n before entry ≡ []
        none_asked n = elim (is_no_memory t) as (λ b. option_map_or (works_asked_by nodes n before) (if b then None else Some given) [] ≡ []) [
          | true ↦ refl
          | false ↦ ap (λ ws. if m == n then ws else []) (aside_works k.0 (cluster_until nodes k.0 before) (come_until k.0 before) (at_node m (input.Call session c)) (aside k.0 others)) ∙ if_same (m == n) []
        ]

        no_reply : (t : StepAnswer) → reply_of j called t ≡ None
        no_reply (answer.Response r) = ap (λ b. if b then Some (record { node = m; session = session; reply = r }) else None) others
        no_reply t = refl

        no_own : for_job j (option_to_list (own_input before called t)) ≡ []
        no_own = elim (is_no_memory t) as (λ b. for_job j (option_to_list (if b then None else Some given)) ≡ []) [
          | true ↦ refl
          | false ↦ ap (λ b. map (λ g. g.input) (cond b (given ∷ []) [])) others
        ]

        own_aside : (i : ℕ) → Aside i (at_node m (input.Call session c)) → Each (Aside i) (option_to_list (own_input before called t))
        own_aside i h = elim (is_no_memory t) as (λ b. Each (Aside i) (option_to_list (if b then None else Some given))) [
          | true ↦ tt
          | false ↦ (h, tt)
        ]

  -- a new grant isn't to the object's own job
  new_away : (grants : List StandingGrant) (id : ObjectId) (grantor grantee : ℕ) → AreGrants (with_grant grants id grantor grantee) → ((new_grant grants id grantor grantee).grantee == id.job.0) ≡ false
  new_away grants id grantor grantee table =
      let h = new_grant grants id grantor grantee in
      ap (λ x. h.grantee == x.job.0) (sym (made_for (λ _. 0) grants grantor id grantee).0)
      ∙ not_home [] (with_grant grants id grantor grantee) table.stand h (stands_after h grants (h ∷ []) (inl refl))

  -- at its node the table changes, and no other does
  changed : (j m n : ℕ) (F G : List StandingGrant) (H K : List StandingGrant) → ((m == n) ≡ true → foreign_grants j F ≡ foreign_grants j G) → foreign_grants j H ≡ foreign_grants j K → foreign_grants j (if m == n then F else H) ≡ foreign_grants j (if m == n then G else K)
  changed j m n F G H K now kept =
      elim (m == n) as (λ b. (m == n) ≡ b → foreign_grants j (if b then F else H) ≡ foreign_grants j (if b then G else K)) [ true ↦ now | false ↦ λ _. kept ] refl

  module _ (j : ℕ) (before : List Traced) (stand : Stand nodes before) (m session : ℕ) (k : JobNo) where
    abbrev foreign_to : ℕ → ObjectId → Type 0
    foreign_to i id = not (id.job.0 == i) ≡ true

    -- the job's own object is no other job's
    of_none : (id : ObjectId) → id.job.0 ≡ j → (i : ℕ) → (i == j) ≡ false → foreign_to i id
    of_none id is i other = ap not (refuted (id.job.0 == i) (λ t. sym other ∙ eq-eqb i j (sym (eqb-true id.job.0 i t) ∙ is)))

    hidden_grant : (id : ObjectId) (target : JobNo) (t : StepAnswer) → (k.0 == j) ≡ false → id.job.0 ≡ j → Stand nodes (record { step = steps.At m (event.Call k session (command.Grant id target)); answer = t } ∷ before) → SameFor nodes j (record { step = steps.At m (event.Call k session (command.Grant id target)); answer = t } ∷ before) before
    hidden_grant id target (answer.Response reply.Ok) others is next =
        let grants = grants_at m before in
        let h = new_grant grants id k.0 target.0 in
        let table : AreGrants (with_grant grants id k.0 target.0) = subst (λ b. AreGrants (if b then with_grant grants id k.0 target.0 else grants)) (eq-eqb m m refl) (next.table m) in
        hidden_by j before stand m session k (command.Grant id target) (answer.Response reply.Ok) others (of_none id is)
        (ap (λ b. map (λ g. g.input) (cond b (received_note nodes m (λ other. inputs_until nodes other before) h ∷ []) [])) (ap (λ x. h.grantee == x) (sym is) ∙ new_away grants id k.0 target.0 table))
        (λ n. changed j m n (with_grant (grants_at n before) id k.0 target.0) (grants_at n before) (grants_at n before) (grants_at n before) (λ _. with_own j (grants_at n before) id k.0 target.0 (eq-eqb id.job.0 j is)) refl
        ∙ ap (foreign_grants j) (if_same (m == n) (grants_at n before)))
    hidden_grant id target t others is next = hidden_by j before stand m session k (command.Grant id target) t others (of_none id is) refl (λ n. refl)

    pub hidden_withdraw : (id : ObjectId) (target : JobNo) (t : StepAnswer) → (k.0 == j) ≡ false → id.job.0 ≡ j → SameFor nodes j (record { step = steps.At m (event.Call k session (command.Withdraw id target)); answer = t } ∷ before) before
    hidden_withdraw id target (answer.Response reply.Ok) others is =
        let test = is_withdrawn k.0 id target.0 in
        let stay : (h : StandingGrant) → is_foreign j h ≡ true → test h ≡ false = λ h foreign. refuted (test h) (λ t.
        let same = both_right (h.grantor == k.0) (same_id id h.id) (both_left (h.grantor == k.0 && same_id id h.id) (h.grantee == target.0) t) in
        sym (ap not (eq-eqb h.id.job.0 j (ap (λ x. x.job.0) (sym (same_id-equal id h.id same)) ∙ is))) ∙ foreign) in
        hidden_by j before stand m session k (command.Withdraw id target) (answer.Response reply.Ok) others (of_none id is)
        (told_notes nodes before stand m j (grants_ended test (grants_at m before)) ∙ ap (λ l. map (at_node m) (map end_told l)) (none_told j test stay (grants_at m before) (stand.table m)))
        (λ n. changed j m n (grants_left test (grants_at n before)) (grants_at n before) (grants_at n before) (grants_at n before) (λ _. all_left j test stay (grants_at n before) (stand.table n)) refl
        ∙ ap (foreign_grants j) (if_same (m == n) (grants_at n before)))
    hidden_withdraw id target t others is = hidden_by j before stand m session k (command.Withdraw id target) t others (of_none id is) refl (λ n. refl)

    pub hidden_peek : (id : ObjectId) (offset n : ℕ) (t : StepAnswer) → (k.0 == j) ≡ false → SameFor nodes j (record { step = steps.At m (event.Call k session (command.Peek id offset n)); answer = t } ∷ before) before
    hidden_peek id offset n (answer.Response reply.Ok) others = hidden_by j before stand m session k (command.Peek id offset n) (answer.Response reply.Ok) others (λ i _. refl) refl (λ n. ap (foreign_grants j) (if_same (m == n) (grants_at n before)))
    hidden_peek id offset n t others = hidden_by j before stand m session k (command.Peek id offset n) t others (λ i _. refl) refl (λ n. refl)

    pub hidden_list : (t : StepAnswer) → (k.0 == j) ≡ false → SameFor nodes j (record { step = steps.At m (event.Call k session command.List); answer = t } ∷ before) before
    hidden_list (answer.Response reply.Ok) others = hidden_by j before stand m session k command.List (answer.Response reply.Ok) others (λ i _. refl) refl (λ n. ap (foreign_grants j) (if_same (m == n) (grants_at n before)))
    hidden_list t others = hidden_by j before stand m session k command.List t others (λ i _. refl) refl (λ n. refl)

  other_job : (j : ℕ) (k : JobNo) (b : Bool) → not (k.0 == j) && b ≡ true → (k.0 == j) ≡ false
  other_job j k b e = not_true (k.0 == j) (both_left (not (k.0 == j)) b e)

  its_object : (j : ℕ) (k : JobNo) (id : ObjectId) → is_of_others j k id ≡ true → id.job.0 ≡ j
  its_object j k id e = eqb-true id.job.0 j (both_right (not (k.0 == j)) (id.job.0 == j) e)

  -- a step that is aside
  pub aside_hidden : (j : ℕ) (before : List Traced) → Stand nodes before → (s : Step) (t : StepAnswer) → Stand nodes (record { step = s; answer = t } ∷ before) → is_aside j s ≡ true → SameFor nodes j (record { step = s; answer = t } ∷ before) before
  aside_hidden j before stand (steps.At m (event.Call k session (command.Grant id target))) t next e = hidden_grant j before stand m session k id target t (other_job j k (id.job.0 == j) e) (its_object j k id e) next
  aside_hidden j before stand (steps.At m (event.Call k session (command.Withdraw id target))) t next e = hidden_withdraw j before stand m session k id target t (other_job j k (id.job.0 == j) e) (its_object j k id e)
  aside_hidden j before stand (steps.At m (event.Call k session (command.Peek id offset n))) t next e = hidden_peek j before stand m session k id offset n t (other_job j k (id.job.0 == j) e)
  aside_hidden j before stand (steps.At m (event.Call k session c)) t next e = true_false e
  aside_hidden j before stand (steps.At m x) t next e = true_false e
  aside_hidden j before stand (steps.Deliver k from to number damage) t next e = true_false e

  -- ---- a step that both of them have

  module _ (j : ℕ) (a b : List Traced) (same : SameFor nodes j a b) (sa : Stand nodes a) (sb : Stand nodes b) where
    own_same : (s : Step) (t : StepAnswer) → own_input a s t ≡ own_input b s t
    own_same (steps.At m (event.Finish k number x)) t = ap (λ was. if is_no_memory t then None else (if was then Some (record { job = k.0; input = at_node m (input.Answer number x) }) else None)) (same.out m k.0 number)
    own_same (steps.At m (event.Admit k quota key)) (answer.Response reply.Ok) = refl
    own_same (steps.At m (event.Admit k quota key)) t = refl
    own_same (steps.At m (event.Requota k quota)) (answer.Response reply.Ok) = refl
    own_same (steps.At m (event.Requota k quota)) t = refl
    own_same (steps.At m (event.JobEnd k)) (answer.Response reply.Ok) = refl
    own_same (steps.At m (event.JobEnd k)) t = refl
    own_same (steps.At m event.Take) t = refl
    own_same (steps.At m (event.Call k session c)) t = refl
    own_same (steps.Deliver k from to number damage) t = refl

    -- ---- grants and notes

    step_changed : (m n : ℕ) (F : List StandingGrant → List StandingGrant) → (foreign_grants j (F (grants_at n a)) ≡ foreign_grants j (F (grants_at n b))) → foreign_grants j (if m == n then F (grants_at n a) else grants_at n a) ≡ foreign_grants j (if m == n then F (grants_at n b) else grants_at n b)
    step_changed m n F now = changed j m n (F (grants_at n a)) (F (grants_at n b)) (grants_at n a) (grants_at n b) (λ _. now) (same.grants n)

    ends_same : (m n : ℕ) (test : StandingGrant → Bool) → foreign_grants j (if m == n then grants_left test (grants_at n a) else grants_at n a) ≡ foreign_grants j (if m == n then grants_left test (grants_at n b) else grants_at n b)
    ends_same m n test = step_changed m n (grants_left test) (left_same j test (grants_at n a) (grants_at n b) (sa.table n) (sb.table n) (same.grants n))

    grants_same : (n : ℕ) (s : Step) (t : StepAnswer) → foreign_grants j (grants_step n (grants_at n a) s t) ≡ foreign_grants j (grants_step n (grants_at n b) s t)
    grants_same n (steps.At m (event.Call k session (command.Grant id target))) (answer.Response reply.Ok) = step_changed m n (λ grants. with_grant grants id k.0 target.0) (with_same j (grants_at n a) (grants_at n b) (same.grants n) id k.0 target.0)
    grants_same n (steps.At m (event.Call k session (command.Withdraw id target))) (answer.Response reply.Ok) = ends_same m n (is_withdrawn k.0 id target.0)
    grants_same n (steps.At m (event.Call k session (command.EndTask task))) (answer.Response reply.Ok) = ends_same m n (is_of_task k.0 task)
    grants_same n (steps.At m (event.JobEnd k)) (answer.Response reply.Ok) = ends_same m n (is_given_by k.0)
    grants_same n (steps.At m (event.Call k session c)) (answer.Response reply.Ok) = step_changed m n (λ grants. grants) (same.grants n)
    grants_same n (steps.At m e) (answer.Response reply.Ok) = step_changed m n (λ grants. grants) (same.grants n)
    grants_same n (steps.At m e) t = same.grants n
    grants_same n (steps.Deliver k from to number damage) t = same.grants n

    end_notes : (m : ℕ) (test : StandingGrant → Bool) → for_job j (map (withdrawn_note m) (grants_ended test (grants_at m a))) ≡ for_job j (map (withdrawn_note m) (grants_ended test (grants_at m b)))
    end_notes m test =
        told_notes nodes a sa m j (grants_ended test (grants_at m a))
        ∙ ap (λ l. map (at_node m) (map end_told l)) (told_same j test (grants_at m a) (grants_at m b) (sa.table m) (sb.table m) (same.grants m))
        ∙ sym (told_notes nodes b sb m j (grants_ended test (grants_at m b)))

    -- the bytes of a granted object are in the own part of its own job's store
    bytes_same : (m : ℕ) (id : ObjectId) → (id.job.0 == j) ≡ false → granted_bytes nodes m (λ other. inputs_until nodes other a) id ≡ granted_bytes nodes m (λ other. inputs_until nodes other b) id
    bytes_same m id foreign = read (slice_get (cluster_until nodes id.job.0 a).stores m) ∙ ap (λ o. option_map_or (λ v. bytes_at v.contents.bytes id) o []) ((same.parts id.job.0 foreign).stores m) ∙ sym (read (slice_get (cluster_until nodes id.job.0 b).stores m))
      where
        read : (o : Option Store) → option_map_or (λ store. bytes_at store.contents.bytes id) o [] ≡ option_map_or (λ v. bytes_at v.contents.bytes id) (option_map part o) []
        read None = refl
        read (Some s) = refl

    grant_notes : (m : ℕ) (k : JobNo) (id : ObjectId) (target : JobNo) → AreGrants (with_grant (grants_at m a) id k.0 target.0)
        → for_job j (received_note nodes m (λ other. inputs_until nodes other a) (new_grant (grants_at m a) id k.0 target.0) ∷ []) ≡ for_job j (received_note nodes m (λ other. inputs_until nodes other b) (new_grant (grants_at m b) id k.0 target.0) ∷ [])
    grant_notes m k id target table =
        let ha = new_grant (grants_at m a) id k.0 target.0 in
        let hb = new_grant (grants_at m b) id k.0 target.0 in
        let ma = made_for (λ _. 0) (grants_at m a) k.0 id target.0 in
        let mb = made_for (λ _. 0) (grants_at m b) k.0 id target.0 in
        let na = received_note nodes m (λ other. inputs_until nodes other a) ha in
        let nb = received_note nodes m (λ other. inputs_until nodes other b) hb in
        elim (target.0 == j) as (λ t. (target.0 == j) ≡ t → for_job j (na ∷ []) ≡ for_job j (nb ∷ [])) [
          | true ↦ λ to.
              let foreign : (id.job.0 == j) ≡ false = refuted (id.job.0 == j) (λ own.
              sym (new_away (grants_at m a) id k.0 target.0 table) ∙ eq-eqb ha.grantee id.job.0 (ma.2 ∙ eqb-true target.0 j to ∙ sym (eqb-true id.job.0 j own))) in
              ap (λ h. for_job j (received_note nodes m (λ other. inputs_until nodes other a) h ∷ [])) (new_same j (grants_at m a) (grants_at m b) (same.grants m) id k.0 target.0 foreign)
              ∙ ap (λ bytes. for_job j (record { job = hb.grantee; input = at_node m (input.Received hb.id bytes (record { 0 = hb.grantor }) hb.depth) } ∷ [])) (bytes_same m hb.id (ap (λ x. x.job.0 == j) mb.0 ∙ foreign))
          | false ↦ λ away.
              ap (λ t. map (λ g. g.input) (cond t (na ∷ []) [])) (ap (λ x. x == j) ma.2 ∙ away)
              ∙ sym (ap (λ t. map (λ g. g.input) (cond t (nb ∷ []) [])) (ap (λ x. x == j) mb.2 ∙ away))
        ] refl

    notes_same : (s : Step) (t : StepAnswer) → Stand nodes (record { step = s; answer = t } ∷ a) → for_job j (noted a s t) ≡ for_job j (noted b s t)
    notes_same (steps.At m (event.Call k session (command.Grant id target))) (answer.Response reply.Ok) next =
        grant_notes m k id target (subst (λ b. AreGrants (if b then with_grant (grants_at m a) id k.0 target.0 else grants_at m a)) (eq-eqb m m refl) (next.table m))
    notes_same (steps.At m (event.Call k session (command.Withdraw id target))) (answer.Response reply.Ok) next = end_notes m (is_withdrawn k.0 id target.0)
    notes_same (steps.At m (event.Call k session (command.EndTask task))) (answer.Response reply.Ok) next = end_notes m (is_of_task k.0 task)
    notes_same (steps.At m (event.JobEnd k)) (answer.Response reply.Ok) next = end_notes m (is_given_by k.0)
    notes_same (steps.At m (event.Call k session c)) (answer.Response reply.Ok) next = refl
    notes_same (steps.At m e) (answer.Response reply.Ok) next = refl
    notes_same (steps.At m e) t next = refl
    notes_same (steps.Deliver k from to number damage) t next = refl

    -- ---- the own parts of the stores

    -- the store that answered a command
    call_answer : (before : List Traced) (m session : ℕ) (k : JobNo) (c : Command (List ℕ)) (r : Reply (List ℕ)) → is_no_memory (answer.Response r) ≡ false → Answers nodes before (steps.At m (event.Call k session c)) (answer.Response r)
        → (s : Store) × (slice_get (cluster_until nodes k.0 before).stores m ≡ Some s) × (r ≡ (private_outcome m s (input.Call session c)).reply)
    call_answer before m session k c r memory answers =
        let s = steps.At m (event.Call k session c) in
        let ns = noted before s (answer.Response r) in
        let taken : own_input before s (answer.Response r) ≡ Some (record { job = k.0; input = at_node m (input.Call session c) }) = ap (λ t. if t then None else Some (record { job = k.0; input = at_node m (input.Call session c) })) memory in
        own_answer nodes before m session k c r ns memory
        (answers k.0 ∙ ap (λ l. responses_from (cluster_until nodes k.0 before) (for_job k.0 l)) (λ i. option_to_list (taken i) ++ ns))
        (quiet_all k.0 ns (notes_quiet nodes (λ other. inputs_until nodes other before) before s (answer.Response r)))

    call_alike : (m session : ℕ) (k : JobNo) (c : Command (List ℕ)) (r : Reply (List ℕ)) → is_no_memory (answer.Response r) ≡ false
        → Answers nodes a (steps.At m (event.Call k session c)) (answer.Response r) → Answers nodes b (steps.At m (event.Call k session c)) (answer.Response r) → Alike k.0 (cluster_until nodes k.0 a) (cluster_until nodes k.0 b) (at_node m (input.Call session c))
    call_alike m session k c r memory pa pb _ s t e f =
        let p = call_answer a m session k c r memory pa in
        let q = call_answer b m session k c r memory pb in
        ap (λ x. (private_outcome m x (input.Call session c)).reply) (some_value s p.0 (sym e ∙ p.1)) ∙ sym p.2
        ∙ q.2 ∙ ap (λ x. (private_outcome m x (input.Call session c)).reply) (some_value q.0 t (sym q.1 ∙ f))

    -- the job's own command is answered the same in both
    pub own_told : (m session : ℕ) (k : JobNo) (c : Command (List ℕ)) (r q : Reply (List ℕ)) → k.0 ≡ j → is_no_memory (answer.Response r) ≡ false → is_no_memory (answer.Response q) ≡ false
        → Answers nodes a (steps.At m (event.Call k session c)) (answer.Response r) → Answers nodes b (steps.At m (event.Call k session c)) (answer.Response q) → r ≡ q
    own_told m session k c r q is mr mq pa pb =
        let x = call_answer a m session k c r mr pa in
        let y = call_answer b m session k c q mq pb in
        x.2 ∙ ap (λ s. (private_outcome m s (input.Call session c)).reply) (some_value x.0 y.0 (sym x.1 ∙ ap (λ C. slice_get C.stores m) (one_cluster nodes j a b same k.0 is) ∙ y.1)) ∙ sym y.2

    -- and so is another job's, if it is plain
    pub other_told : (m session : ℕ) (k : JobNo) (c : Command (List ℕ)) (r q : Reply (List ℕ)) → (k.0 == j) ≡ false → ((i : ℕ) (v : View) → is_plain i (judge m v (input.Call session c)) ≡ true) → is_no_memory (answer.Response r) ≡ false → is_no_memory (answer.Response q) ≡ false
        → Answers nodes a (steps.At m (event.Call k session c)) (answer.Response r) → Answers nodes b (steps.At m (event.Call k session c)) (answer.Response q) → r ≡ q
    other_told m session k c r q other plain mr mq pa pb =
        let x = call_answer a m session k c r mr pa in
        let y = call_answer b m session k c q mq pb in
        x.2
        ∙ stores_told k.0 (cluster_until nodes k.0 a) (cluster_until nodes k.0 b) (come_until k.0 a) (come_until k.0 b) (same.parts k.0 other) m (input.Call session c) plain x.0 y.0 x.1 y.1
        ∙ sym y.2

    -- and a withdrawal of an object that isn't the job's
    pub withdraw_answered : (m session : ℕ) (k : JobNo) (id : ObjectId) (target : JobNo) (r q : Reply (List ℕ)) → (k.0 == j) ≡ false → (id.job.0 == j) ≡ false → is_no_memory (answer.Response r) ≡ false → is_no_memory (answer.Response q) ≡ false
        → Answers nodes a (steps.At m (event.Call k session (command.Withdraw id target))) (answer.Response r) → Answers nodes b (steps.At m (event.Call k session (command.Withdraw id target))) (answer.Response q) → r ≡ q
    withdraw_answered m session k id target r q other foreign mr mq pa pb =
        let c : Command (List ℕ) = command.Withdraw id target in
        let x = call_answer a m session k c r mr pa in
        let y = call_answer b m session k c q mq pb in
        let parts : part x.0 ≡ part y.0 = some_value (part x.0) (part y.0) (ap (option_map part) (sym x.1) ∙ (same.parts k.0 other).stores m ∙ ap (option_map part) y.1) in
        x.2 ∙ withdraw_same nodes j m session k id target foreign a b sa sb (same.grants m) x.0 y.0 x.1 y.1 parts ∙ sym y.2

    -- of an own input that is no command nothing is asked
    abbrev Unasked : Option Given → Type 0
    Unasked o = (g : Given) → o ≡ Some g → (k : ℕ) → Alike k (cluster_until nodes k a) (cluster_until nodes k b) g.input

    unasked_none : Unasked None
    unasked_none g e = none_some g e

    unasked_some : (g : Given) → ((k : ℕ) → Alike k (cluster_until nodes k a) (cluster_until nodes k b) g.input) → Unasked (Some g)
    unasked_some g alike h e k = subst (λ x. Alike k (cluster_until nodes k a) (cluster_until nodes k b) x.input) (some_value g h e) (alike k)

    unasked_if : (c : Bool) (o : Option Given) → Unasked o → Unasked (if c then o else None)
    unasked_if true o u = u
    unasked_if false o u = unasked_none

    unasked_unless : (c : Bool) (o : Option Given) → Unasked o → Unasked (if c then None else o)
    unasked_unless true o u = unasked_none
    unasked_unless false o u = u

    -- the own input of the step is taken alike
    abbrev TakenAlike : Step → StepAnswer → Type 0
    TakenAlike s t = (g : Given) → own_input a s t ≡ Some g → Alike g.job (cluster_until nodes g.job a) (cluster_until nodes g.job b) g.input

    taken_alike : (s : Step) (t : StepAnswer) → is_response_to s t ≡ true → Answers nodes a s t → Answers nodes b s t → TakenAlike s t
    taken_alike (steps.At m (event.Call k session c)) (answer.Response r) response pa pb g e = by (is_no_memory (answer.Response r)) refl e
      where
        by : (u : Bool) → is_no_memory (answer.Response r) ≡ u → (if u then None else Some (record { job = k.0; input = at_node m (input.Call session c) })) ≡ Some g → Alike g.job (cluster_until nodes g.job a) (cluster_until nodes g.job b) g.input
        by true u e = none_some g e
        by false u e = subst (λ g. Alike g.job (cluster_until nodes g.job a) (cluster_until nodes g.job b) g.input) (some_value (record { job = k.0; input = at_node m (input.Call session c) }) g e) (call_alike m session k c r u pa pb)
    taken_alike (steps.At m (event.Call k session c)) t response pa pb g e = true_false response
    taken_alike (steps.At m (event.Finish k number x)) t response pa pb g e =
        unasked_unless (is_no_memory t) _ (unasked_if (is_out m k.0 number a) _ (unasked_some (record { job = k.0; input = at_node m (input.Answer number x) }) (λ i h. true_false h))) g e g.job
    taken_alike (steps.At m (event.Admit k quota key)) (answer.Response reply.Ok) response pa pb g e = unasked_some (record { job = k.0; input = at_node m (input.Begin quota) }) (λ i h. true_false h) g e g.job
    taken_alike (steps.At m (event.Admit k quota key)) t response pa pb g e = none_some g e
    taken_alike (steps.At m (event.Requota k quota)) (answer.Response reply.Ok) response pa pb g e = unasked_some (record { job = k.0; input = at_node m (input.Requota quota) }) (λ i h. true_false h) g e g.job
    taken_alike (steps.At m (event.Requota k quota)) t response pa pb g e = none_some g e
    taken_alike (steps.At m (event.JobEnd k)) (answer.Response reply.Ok) response pa pb g e = unasked_some (record { job = k.0; input = at_node m input.End }) (λ i h. true_false h) g e g.job
    taken_alike (steps.At m (event.JobEnd k)) t response pa pb g e = none_some g e
    taken_alike (steps.At m event.Take) t response pa pb g e = none_some g e
    taken_alike (steps.Deliver k from to number damage) t response pa pb g e = unasked_unless (is_no_memory t) _ (unasked_some (record { job = k.0; input = deliver from to number damage }) (λ i. tt)) g e g.job

    own_parts : (k : ℕ) → (k == j) ≡ false → (o : Option Given) → ((g : Given) → o ≡ Some g → Alike g.job (cluster_until nodes g.job a) (cluster_until nodes g.job b) g.input)
        → SamePart (cluster_from (cluster_until nodes k a) (for_job k (option_to_list o))) (cluster_from (cluster_until nodes k b) (for_job k (option_to_list o)))
    own_parts k other None alike = same.parts k other
    own_parts k other (Some g) alike =
        elim (g.job == k) as (λ t. (g.job == k) ≡ t → SamePart (cluster_from (cluster_until nodes k a) (map (λ g. g.input) (cond t (g ∷ []) []))) (cluster_from (cluster_until nodes k b) (map (λ g. g.input) (cond t (g ∷ []) [])))) [
          | true ↦ λ t. step_same k (cluster_until nodes k a) (cluster_until nodes k b) (come_until k a) (come_until k b) (same.parts k other) g.input
              (subst (λ i. Alike i (cluster_until nodes i a) (cluster_until nodes i b) g.input) (eqb-true g.job k t) (alike g refl))
          | false ↦ λ _. same.parts k other
        ] refl

    -- a step leaves a store's own part as its own input leaves it
    by_own : (k : ℕ) (before : List Traced) (s : Step) (t : StepAnswer) → SamePart (cluster_until nodes k (record { step = s; answer = t } ∷ before)) (cluster_from (cluster_until nodes k before) (for_job k (option_to_list (own_input before s t))))
    by_own k before s t =
        let own = option_to_list (own_input before s t) in
        let C = cluster_until nodes k before in
        subst (λ D. SamePart D (cluster_from C (for_job k own)))
        (sym (cluster_until-step nodes k (record { step = s; answer = t }) before ∙ ap (cluster_from C) (for_both k own (noted before s t)) ∙ cluster_from-append C (for_job k own) (for_job k (noted before s t))))
        (all_aside k (cluster_from C (for_job k own)) (from_comes k C (for_job k own) (come_until k before)) (noted before s t) (notes_aside k before s t))

    -- ---- what neighbours share

    -- the works that an input asks for
    given_works : (n : ℕ) (g : Given) → Alike g.job (cluster_until nodes g.job a) (cluster_until nodes g.job b) g.input → works_asked_by nodes n a g ≡ works_asked_by nodes n b g
    given_works n g alike =
        ap (λ ws. if option_map_or (λ i. i == n) (taken_at g.input) false then ws else [])
        (elim (g.job == j) as (λ t. (g.job == j) ≡ t → outcome_works g.job (cluster_step (cluster_until nodes g.job a) g.input).outcome ≡ outcome_works g.job (cluster_step (cluster_until nodes g.job b) g.input).outcome) [
          | true ↦ λ t. ap (λ C. outcome_works g.job (cluster_step C g.input).outcome) (one_cluster nodes j a b same g.job (eqb-true g.job j t))
          | false ↦ λ t. step_works g.job (cluster_until nodes g.job a) (cluster_until nodes g.job b) (come_until g.job a) (come_until g.job b) (same.parts g.job t) g.input alike
        ] refl)

    asked_same : (n : ℕ) (o : Option Given) → ((g : Given) → o ≡ Some g → Alike g.job (cluster_until nodes g.job a) (cluster_until nodes g.job b) g.input) → option_map_or (works_asked_by nodes n a) o [] ≡ option_map_or (works_asked_by nodes n b) o []
    asked_same n None alike = refl
    asked_same n (Some g) alike = given_works n g (alike g refl)

    -- so the two histories are as before after a step that both have
    pub shown : (s : Step) (t : StepAnswer) → Stand nodes (record { step = s; answer = t } ∷ a) → is_response_to s t ≡ true → Answers nodes a s t → Answers nodes b s t → SameFor nodes j (record { step = s; answer = t } ∷ a) (record { step = s; answer = t } ∷ b)
    shown s t next response pa pb =
        let entry : Traced = record { step = s; answer = t } in
        record {
          inputs =
              ap (λ l. inputs_until nodes j a ++ l) (for_both j (option_to_list (own_input a s t)) (noted a s t))
              ∙ (λ i. same.inputs i ++ (for_job j (option_to_list (own_same s t i)) ++ notes_same s t next i))
              ∙ sym (ap (λ l. inputs_until nodes j b ++ l) (for_both j (option_to_list (own_input b s t)) (noted b s t)));
          parts = λ k other.
              same_then (cluster_until nodes k (entry ∷ a)) _ (cluster_until nodes k (entry ∷ b)) (by_own k a s t)
              (same_then _ _ (cluster_until nodes k (entry ∷ b))
              (subst (λ o. SamePart (cluster_from (cluster_until nodes k a) (for_job k (option_to_list (own_input a s t)))) (cluster_from (cluster_until nodes k b) (for_job k (option_to_list o)))) (own_same s t)
              (own_parts k other (own_input a s t) (taken_alike s t response pa pb)))
              (same_back (cluster_until nodes k (entry ∷ b)) _ (by_own k b s t)));
          grants = λ n. grants_same n s t;
          out = λ n k number. ap (λ was. out_after n k number was s t) (same.out n k number);
          replies = ap (λ l. cons_option (reply_of j s t) l) same.replies;
          lives = λ memory n. ap (λ l. lives_step memory n l s t) (same.lives memory n);
          admissions = λ n k. ap (λ l. is_admission n k s t || l) (same.admissions n k);
          waits = λ n.
              (λ i. filter (λ asked. not (leaves n asked s t)) (same.waits n i) ++ asked_same n (own_input a s t) (taken_alike s t response pa pb) i)
              ∙ ap (λ o. filter (λ asked. not (leaves n asked s t)) (waiting nodes n b) ++ option_map_or (works_asked_by nodes n b) o []) (own_same s t);
        }
