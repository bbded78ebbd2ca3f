-- Tables and halves at every moment of a trace whose jobs are answered privately.
use Rattle.std.proofs.Common.{◌≡◌, ℕ, suc, ◌+◌, ◌≤◌, Bool, true, false, not, cond, ◌==◌, ◌&&◌, List, [], ◌∷◌, ◌++◌, map, filter, length, reverse, slice_get, option_to_list, Option, Some, None, refl, sym, ap, subst, ◌∙◌, arith}
use Rattle.std.specs.Prelude.{if◌then◌else◌, get_or, drop}
use Rattle.std.specs.Option.{option_map_or}
use Rattle.std.specs.List.{list_all, cons_option}
use Rattle.std.proofs.lemmas.List.{reverse-append, reverse-reverse, length-append}
use Rattle.std.proofs.lemmas.List.Elements.{filter-append, filter_map-append}
use Rattle.std.proofs.lemmas.List.Folds.{list_all-append}
use Rattle.private_store.specs.declared.inputs.Input.TheVariants as input
use Rattle.obj_id.specs.declared.ids.JobNo.{JobNo}
use Rattle.obj_id.specs.declared.commands.Command.{Command}
use Rattle.obj_id.specs.declared.commands.Command.TheVariants as command
use Rattle.obj_id.specs.declared.commands.Reply.{Reply}
use Rattle.obj_id.specs.declared.commands.Reply.TheVariants as reply
use Rattle.private_store.specs.declared.schedules.Event.TheVariants as event
use Rattle.private_store.specs.declared.schedules.Step.{Step}
use Rattle.private_store.specs.declared.schedules.Step.TheVariants as steps
use Rattle.private_store.specs.declared.schedules.StepAnswer.{StepAnswer}
use Rattle.private_store.specs.declared.schedules.StepAnswer.TheVariants as answer
use Rattle.private_store.specs.declared.schedules.Traced.{Traced}
use Rattle.private_store.specs.rules.Private.{no_store, private_outcome}
use Rattle.private_store.specs.rules.Cluster.{Cluster, ClusterInput, Response, at_node, deliver, cluster_step, moved_at, unmoved, response, responses_from, no_cluster}
use Rattle.private_store.specs.rules.Grants.{StandingGrant}
use Rattle.private_store.specs.rules.Trace.{Given, notes, own_input, for_job, cluster_until, inputs_until, reply_of, replies_of, is_answered, is_no_memory, is_out, withdrawn_note}
use Rattle.store_facts.proofs.Runs.{inputs_now, cluster_until-step, responses_from-append, EachPrivate}
use Rattle.store_facts.proofs.Tests.{none_some, true_false, both_left, both_right}
use Rattle.run_laws.specs.Standing.{is_response_to, ArePrivate}
use Rattle.run_laws.proofs.Halves.{HasHalves}
use Rattle.run_laws.proofs.ClusterInputs.{no_stores}
use Rattle.run_laws.proofs.Moving.{Stand}
use Rattle.run_laws.proofs.EachStepMoves.{moves}

-- ---- from step to step

no_grants : (j : ℕ) → HasHalves j [] (no_store j).shape
no_grants j = record { job = refl; given = refl; taken = λ id. refl; known = λ id seen e. none_some seen e }

pub stand_until : (nodes : ℕ) (history : List Traced) → ((j : ℕ) → EachPrivate nodes j history) → Stand nodes history
stand_until nodes [] h = record {
  table = λ n. record { stand = refl; few = λ grantor. omega arith };
  fit = λ n j s e. subst (λ x. HasHalves j [] x.shape) (sym (no_stores j nodes n s e)) (no_grants j);
}
stand_until nodes (entry ∷ before) h =
    let m = moves nodes before (stand_until nodes before (λ j. (h j).0)) entry.step entry.answer (λ j. (h j).1) in
    record {
      table = m.table;
      fit = λ n j s e. m.fit n j s (ap (λ c. slice_get c.stores n) (sym (cluster_until-step nodes j entry before)) ∙ e);
    }

-- ---- equal sums of parts, none too long

no_suc : (n : ℕ) → suc n ≤ 0 → ⊥
no_suc n h = omega (arith, h)

too_long : {X : Type 0} (x : X) (xs ys zs : List X) → x ∷ (xs ++ ys) ≡ zs → length zs ≤ length ys → ⊥
too_long x xs ys zs e h =
    let n = ap length e in
    let m = length-append xs ys in
    absurd (longer (length (xs ++ ys)) (length xs) (length ys) (length zs) n m h)
  where
    longer : (k a b c : ℕ) → suc k ≡ c → k ≡ a + b → c ≤ b → ⊥
    longer k a b c e m h = omega (arith, e, m, h)

less : (a b : ℕ) → suc a ≤ suc b → a ≤ b
less a b h = omega (arith, h)

pub split_even : {X : Type 0} (xs ys us vs : List X) → xs ++ us ≡ ys ++ vs → length ys ≤ length xs → length vs ≤ length us → (xs ≡ ys) × (us ≡ vs)
split_even [] [] us vs e h k = (refl, e)
split_even [] (y ∷ ys) us vs e h k = absurd (no_suc (length ys) h)
split_even (x ∷ xs) [] us vs e h k = absurd (too_long x xs us vs e k)
split_even (x ∷ xs) (y ∷ ys) us vs e h k =
    let rest = split_even xs ys us vs (ap (drop 1) e) (less (length ys) (length xs) h) k in
    (λ i. get_or (e i) 0 x ∷ rest.0 i, rest.1)

-- ---- a step has as many answers as its inputs have replies

none_less : {X : Type 0} (xs : List X) (n : ℕ) → xs ≡ [] → length xs ≤ n
none_less xs n e = let k = ap length e in omega (arith, k)

-- only commands have replies
abbrev IsQuiet : ClusterInput → Type 0
IsQuiet x = (E : Cluster) → response x (cluster_step E x) ≡ []

abbrev AreQuiet : List Given → Type 0
AreQuiet [] = Unit {0}
AreQuiet (g ∷ gs) = IsQuiet g.input × AreQuiet gs

pub quiet_all : (j : ℕ) (gs : List Given) → AreQuiet gs → (E : Cluster) → responses_from E (for_job j gs) ≡ []
quiet_all j [] q E = refl
quiet_all j (g ∷ gs) q E =
    elim (g.job == j) as (λ t. responses_from E (map (λ g. g.input) (cond t (g ∷ filter (λ g. g.job == j) gs) (filter (λ g. g.job == j) gs))) ≡ []) [
      | true ↦ ap (λ l. l ++ responses_from (cluster_step E g.input).cluster (for_job j gs)) (q.0 E) ∙ quiet_all j gs q.1 (cluster_step E g.input).cluster
      | false ↦ quiet_all j gs q.1 E
    ]

ends_quiet : (m : ℕ) (gone : List StandingGrant) → AreQuiet (map (withdrawn_note m) gone)
ends_quiet m [] = tt
ends_quiet m (h ∷ gone) = (λ E. refl, ends_quiet m gone)

pub notes_quiet : (nodes : ℕ) (inputs : ℕ → List ClusterInput) (before : List Traced) (s : Step) (a : StepAnswer) → AreQuiet (notes nodes inputs before s a)
notes_quiet nodes inputs before (steps.At m (event.Call k session (command.Grant id target))) (answer.Response reply.Ok) = (λ E. refl, tt)
notes_quiet nodes inputs before (steps.At m (event.Call k session (command.Withdraw id target))) (answer.Response reply.Ok) = ends_quiet m _
notes_quiet nodes inputs before (steps.At m (event.Call k session (command.EndTask task))) (answer.Response reply.Ok) = ends_quiet m _
notes_quiet nodes inputs before (steps.At m (event.Call k session c)) (answer.Response reply.Ok) = tt
notes_quiet nodes inputs before (steps.At m (event.JobEnd k)) (answer.Response reply.Ok) = ends_quiet m _
notes_quiet nodes inputs before (steps.At m e) (answer.Response reply.Ok) = tt
notes_quiet nodes inputs before (steps.At m e) a = tt
notes_quiet nodes inputs before (steps.Deliver k from to number damage) a = tt

at_most_one : (E : Cluster) (m session : ℕ) (c : Command (List ℕ)) → length (response (at_node m (input.Call session c)) (cluster_step E (at_node m (input.Call session c)))) ≤ 1
at_most_one E m session c =
    elim (slice_get E.stores m) as (λ o. length (response (at_node m (input.Call session c)) (option_map_or (λ store. moved_at E m store (private_outcome m store (input.Call session c))) o (unmoved E))) ≤ 1) [
      | None ↦ omega arith
      | Some s ↦ omega arith
    ]

module _ (nodes : ℕ) (before : List Traced) (j : ℕ) where
  abbrev E : Cluster
  E = cluster_until nodes j before

  abbrev tells : Step → StepAnswer → List Response
  tells s a = responses_from E (inputs_now nodes j (record { step = s; answer = a }) before)

  abbrev replied : Step → StepAnswer → List Response
  replied s a = filter is_answered (option_to_list (reply_of j s a))

  -- a step whose own input is no command, or that has none
  quiet_own : (s : Step) (a : StepAnswer) (o : Option Given) → own_input before s a ≡ o → AreQuiet (option_to_list o) → tells s a ≡ []
  quiet_own s a None e q = ap (λ o. responses_from E (for_job j (option_to_list o ++ notes nodes (λ other. inputs_until nodes other before) before s a))) e
      ∙ quiet_all j (notes nodes (λ other. inputs_until nodes other before) before s a) (notes_quiet nodes (λ other. inputs_until nodes other before) before s a) E
  quiet_own s a (Some g) e q = ap (λ o. responses_from E (for_job j (option_to_list o ++ notes nodes (λ other. inputs_until nodes other before) before s a))) e
      ∙ quiet_all j (g ∷ notes nodes (λ other. inputs_until nodes other before) before s a) (q.0, notes_quiet nodes (λ other. inputs_until nodes other before) before s a) E

  call_less : (m session : ℕ) (k : JobNo) (c : Command (List ℕ)) (r : Reply (List ℕ)) → length (tells (steps.At m (event.Call k session c)) (answer.Response r)) ≤ length (replied (steps.At m (event.Call k session c)) (answer.Response r))
  call_less m session k c r = by_memory (is_no_memory (answer.Response r)) refl
    where
      by_memory : (b : Bool) → is_no_memory (answer.Response r) ≡ b → length (tells (steps.At m (event.Call k session c)) (answer.Response r)) ≤ length (replied (steps.At m (event.Call k session c)) (answer.Response r))
      by_memory true e =
          none_less _ _ (quiet_own (steps.At m (event.Call k session c)) (answer.Response r) None (ap (λ b. if b then None else Some (record { job = k.0; input = at_node m (input.Call session c) })) e) tt)
      by_memory false e =
          let s = steps.At m (event.Call k session c) in
          let ns = notes nodes (λ other. inputs_until nodes other before) before s (answer.Response r) in
          let g : Given = record { job = k.0; input = at_node m (input.Call session c) } in
          let t : Response = record { node = m; session = session; reply = r } in
          let own : tells s (answer.Response r) ≡ responses_from E (for_job j (g ∷ ns)) = ap (λ b. responses_from E (for_job j (option_to_list (if b then None else Some g) ++ ns))) e in
          let quiet : (D : Cluster) → responses_from D (for_job j ns) ≡ [] = quiet_all j ns (notes_quiet nodes (λ other. inputs_until nodes other before) before s (answer.Response r)) in
          subst (λ l. length l ≤ length (replied s (answer.Response r))) (sym own)
          (elim (k.0 == j) as (λ u. length (responses_from E (map (λ g. g.input) (cond u (g ∷ filter (λ g. g.job == j) ns) (filter (λ g. g.job == j) ns)))) ≤ length (filter is_answered (option_to_list (if u then Some t else None)))) [
            | true ↦
                let one = at_most_one E m session c in
                let none = ap length (quiet (cluster_step E g.input).cluster) in
                let sum = length-append (response g.input (cluster_step E g.input)) (responses_from (cluster_step E g.input).cluster (for_job j ns)) in
                let has : length (filter is_answered (t ∷ [])) ≡ 1 = ap (λ b. length (cond (not b) (t ∷ []) [])) e in
                omega (arith, one, none, sum, has)
            | false ↦ none_less _ _ (quiet E)
          ])

  tells_less : (s : Step) (a : StepAnswer) → is_response_to s a ≡ true → length (tells s a) ≤ length (replied s a)
  tells_less (steps.At m (event.Call k session c)) (answer.Response r) h = call_less m session k c r
  tells_less (steps.At m (event.Call k session c)) (answer.HandedOver message) h = true_false h
  tells_less (steps.At m (event.Call k session c)) answer.NoMessage h = true_false h
  tells_less (steps.Deliver k from to number damage) a h =
      elim (is_no_memory a) as (λ b. own_input before (steps.Deliver k from to number damage) a ≡ (if b then None else Some (record { job = k.0; input = deliver from to number damage })) → length (tells (steps.Deliver k from to number damage) a) ≤ length (replied (steps.Deliver k from to number damage) a)) [
        | true ↦ λ e. none_less _ _ (quiet_own (steps.Deliver k from to number damage) a None e tt)
        | false ↦ λ e. none_less _ _ (quiet_own (steps.Deliver k from to number damage) a (Some (record { job = k.0; input = deliver from to number damage })) e (λ D. refl, tt))
      ] refl
  tells_less (steps.At m (event.Finish k number d)) a h =
      let s = steps.At m (event.Finish k number d) in
      let g : Given = record { job = k.0; input = at_node m (input.Answer number d) } in
      elim (is_no_memory a) as (λ b. own_input before s a ≡ (if b then None else (if is_out m k.0 number before then Some g else None)) → length (tells s a) ≤ length (replied s a)) [
        | true ↦ λ e. none_less _ _ (quiet_own s a None e tt)
        | false ↦ elim (is_out m k.0 number before) as (λ t. own_input before s a ≡ (if t then Some g else None) → length (tells s a) ≤ length (replied s a)) [
          | true ↦ λ e. none_less _ _ (quiet_own s a (Some g) e (λ D. refl, tt))
          | false ↦ λ e. none_less _ _ (quiet_own s a None e tt)
        ]
      ] refl
  tells_less (steps.At m (event.Admit k quota key)) (answer.Response reply.Ok) h = none_less _ _ (quiet_own (steps.At m (event.Admit k quota key)) (answer.Response reply.Ok) (Some (record { job = k.0; input = at_node m (input.Begin quota) })) refl (λ D. refl, tt))
  tells_less (steps.At m (event.Admit k quota key)) a h = none_less _ _ (quiet_own (steps.At m (event.Admit k quota key)) a None refl tt)
  tells_less (steps.At m (event.Requota k quota)) (answer.Response reply.Ok) h = none_less _ _ (quiet_own (steps.At m (event.Requota k quota)) (answer.Response reply.Ok) (Some (record { job = k.0; input = at_node m (input.Requota quota) })) refl (λ D. refl, tt))
  tells_less (steps.At m (event.Requota k quota)) a h = none_less _ _ (quiet_own (steps.At m (event.Requota k quota)) a None refl tt)
  tells_less (steps.At m (event.JobEnd k)) (answer.Response reply.Ok) h = none_less _ _ (quiet_own (steps.At m (event.JobEnd k)) (answer.Response reply.Ok) (Some (record { job = k.0; input = at_node m input.End })) refl (λ D. refl, tt))
  tells_less (steps.At m (event.JobEnd k)) a h = none_less _ _ (quiet_own (steps.At m (event.JobEnd k)) a None refl tt)
  tells_less (steps.At m event.Take) a h = none_less _ _ (quiet_own (steps.At m event.Take) a None refl tt)

-- ---- a trace is private step by step, if it is as a whole

-- the replies of a job in a history
abbrev answered : ℕ → List Traced → List Response
answered j history = filter is_answered (replies_of j (reverse history))

one_reply : (o : Option Response) → cons_option o [] ≡ option_to_list o
one_reply None = refl
one_reply (Some t) = refl

answered_more : (j : ℕ) (entry : Traced) (before : List Traced) → answered j (entry ∷ before) ≡ answered j before ++ filter is_answered (option_to_list (reply_of j entry.step entry.answer))
answered_more j entry before =
    ap (filter is_answered) (ap (replies_of j) (reverse-append (entry ∷ []) before) ∙ filter_map-append (λ e. reply_of j e.step e.answer) (reverse before) (entry ∷ []) ∙ ap (λ l. replies_of j (reverse before) ++ l) (one_reply (reply_of j entry.step entry.answer)))
    ∙ filter-append is_answered (replies_of j (reverse before)) (option_to_list (reply_of j entry.step entry.answer))

abbrev pub all_told : List Traced → Bool
all_told history = list_all (λ entry. is_response_to entry.step entry.answer) history

sum_less : (a b c d x y : ℕ) → a ≤ b → c ≤ d → x ≡ a + c → y ≡ b + d → x ≤ y
sum_less a b c d x y h k e f = omega (arith, h, k, e, f)

run_less : (nodes j : ℕ) (history : List Traced) → all_told history ≡ true → length (responses_from (no_cluster j nodes) (inputs_until nodes j history)) ≤ length (answered j history)
run_less nodes j [] h = omega arith
run_less nodes j (entry ∷ before) h =
    let rest = run_less nodes j before (both_right (is_response_to entry.step entry.answer) (all_told before) h) in
    let here = tells_less nodes before j entry.step entry.answer (both_left (is_response_to entry.step entry.answer) (all_told before) h) in
    let A = responses_from (no_cluster j nodes) (inputs_until nodes j before) in
    let a = responses_from (cluster_until nodes j before) (inputs_now nodes j entry before) in
    let B = answered j before in
    let b = filter is_answered (option_to_list (reply_of j entry.step entry.answer)) in
    sum_less (length A) (length B) (length a) (length b) _ _ rest here
    (ap length (responses_from-append (no_cluster j nodes) (inputs_until nodes j before) (inputs_now nodes j entry before)) ∙ length-append A a)
    (ap length (answered_more j entry before) ∙ length-append B b)

pub each_private : (nodes j : ℕ) (history : List Traced) → all_told history ≡ true → answered j history ≡ responses_from (no_cluster j nodes) (inputs_until nodes j history) → EachPrivate nodes j history
each_private nodes j [] h e = tt
each_private nodes j (entry ∷ before) h e =
    let told_before = both_right (is_response_to entry.step entry.answer) (all_told before) h in
    let p = split_even (answered j before) (responses_from (no_cluster j nodes) (inputs_until nodes j before))
    (filter is_answered (option_to_list (reply_of j entry.step entry.answer))) (responses_from (cluster_until nodes j before) (inputs_now nodes j entry before))
    (sym (answered_more j entry before) ∙ e ∙ responses_from-append (no_cluster j nodes) (inputs_until nodes j before) (inputs_now nodes j entry before))
    (run_less nodes j before told_before)
    (tells_less nodes before j entry.step entry.answer (both_left (is_response_to entry.step entry.answer) (all_told before) h)) in
    (each_private nodes j before told_before p.0, p.1)

and_turned : (a b : Bool) → (a && (b && true)) ≡ (b && a)
and_turned true true = refl
and_turned true false = refl
and_turned false true = refl
and_turned false false = refl

pub told_back : (trace : List Traced) → all_told (reverse trace) ≡ all_told trace
told_back [] = refl
told_back (entry ∷ trace) =
    ap all_told (reverse-append (entry ∷ []) trace) ∙ list_all-append (λ e. is_response_to e.step e.answer) (reverse trace) (entry ∷ [])
    ∙ and_turned (all_told (reverse trace)) (is_response_to entry.step entry.answer) ∙ ap (λ b. is_response_to entry.step entry.answer && b) (told_back trace)

pub trace_private : (nodes : ℕ) (trace : List Traced) → ArePrivate nodes trace → (j : ℕ) → EachPrivate nodes j (reverse trace)
trace_private nodes trace h j =
    each_private nodes j (reverse trace) (told_back trace ∙ h.response) (ap (λ t. filter is_answered (replies_of j t)) (reverse-reverse trace) ∙ h.replies j)

-- ---- of a trace

pub stand_of : (nodes : ℕ) (trace : List Traced) → ArePrivate nodes trace → Stand nodes (reverse trace)
stand_of nodes trace h = stand_until nodes (reverse trace) (trace_private nodes trace h)
