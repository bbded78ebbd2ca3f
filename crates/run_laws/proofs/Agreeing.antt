-- Traces whose steps that count are the same agree for the job.
use Rattle.std.proofs.Common.{◌≡◌, ℕ, Bool, true, false, not, cond, ◌==◌, List, [], ◌∷◌, ◌++◌, map, filter, reverse, Some, None, refl, sym, ap, subst, ◌∙◌}
use Rattle.std.specs.Prelude.{get_or, drop, unwrap_or, if◌then◌else◌}
use Rattle.std.specs.List.{cons_option}
use Rattle.std.proofs.lemmas.List.{append-nil, reverse-append, reverse-reverse, map-append}
use Rattle.std.proofs.lemmas.List.Elements.{filter-append, filter_map-append}
use Rattle.std.proofs.lemmas.Bool.{eqb-true}
use Rattle.obj_id.specs.declared.ids.JobNo.{JobNo}
use Rattle.obj_id.specs.declared.ids.ObjectId.{ObjectId}
use Rattle.obj_id.specs.declared.commands.Command.{Command}
use Rattle.obj_id.specs.declared.commands.Command.TheVariants as command
use Rattle.obj_id.specs.declared.commands.Reply.{Reply}
use Rattle.obj_id.specs.declared.commands.Reply.TheVariants as reply
use Rattle.obj_id.specs.declared.refusals.Refusal.TheVariants.{NoMemory}
use Rattle.private_store.specs.declared.inputs.Input.TheVariants as input
use Rattle.private_store.specs.declared.schedules.Event.TheVariants as event
use Rattle.private_store.specs.declared.schedules.Step.{Step}
use Rattle.private_store.specs.declared.schedules.Step.TheVariants as steps
use Rattle.private_store.specs.declared.schedules.StepAnswer.TheVariants as answer
use Rattle.private_store.specs.rules.Contents.{View, judge}
use Rattle.run_laws.proofs.Moving.{Stand}
use Rattle.run_laws.proofs.OwnSteps.{is_plain}
use Rattle.private_store.specs.declared.schedules.StepAnswer.{StepAnswer}
use Rattle.private_store.specs.declared.schedules.Traced.{Traced}
use Rattle.private_store.specs.rules.Trace.{is_no_memory, reply_of, replies_of}
use Rattle.private_store.specs.rules.Shared.{shared_answer, answer_due, answers_due}
use Rattle.store_facts.proofs.Runs.{EachPrivate}
use Rattle.store_facts.proofs.Tests.{true_false, both_left, both_right}
use Rattle.run_laws.specs.Standing.{is_response_to, ArePrivate}
use Rattle.run_laws.specs.Telling.{is_aside, Heard, all, whether, heard_of, heard, heard_where_due, Counted, counted_answers, counting, ShowsAlike, OthersDontShow, OthersDontShowWhereDue}
use Rattle.run_laws.proofs.Histories.{all_told, told_back, trace_private, stand_until}
use Rattle.run_laws.proofs.OwnClusters.{same_itself}
use Rattle.run_laws.proofs.SharedAlike.{shared_same}
use Rattle.run_laws.proofs.Telling.{SameFor, same_for_back, same_for_then, hidden_withdraw, hidden_peek, hidden_list, aside_hidden, own_told, other_told, withdraw_answered, shown}

-- the history is answered privately
record IsAnswered (nodes : ℕ) (history : List Traced) : Type 0 where
  response : all_told history ≡ true
  each : (k : ℕ) → EachPrivate nodes k history

before_answered : (nodes : ℕ) (entry : Traced) (before : List Traced) → IsAnswered nodes (entry ∷ before) → IsAnswered nodes before
before_answered nodes entry before h = record { response = both_right (is_response_to entry.step entry.answer) (all_told before) h.response; each = λ k. (h.each k).0 }

-- ---- two entries that count the same

one_answer : (t u : StepAnswer) → all t ≡ all u → t ≡ u
one_answer t u e = cc

one_test : (t u : Bool) → whether t ≡ whether u → t ≡ u
one_test t u e = cc

no_memory_told : (r : Reply (List ℕ)) → is_no_memory (answer.Response r) ≡ true → r ≡ reply.Refused NoMemory
no_memory_told (reply.Refused NoMemory) e = refl
no_memory_told r e = true_false e

module _ (nodes j : ℕ) where
  abbrev after : Step → StepAnswer → List Traced → List Traced
  after s t history = record { step = s; answer = t } ∷ history

  hidden : (before : List Traced) (e : Traced) → IsAnswered nodes (e ∷ before) → is_aside j e.step ≡ true → SameFor nodes j (e ∷ before) before
  hidden before e h is = aside_hidden nodes j before (stand_until nodes before (before_answered nodes e before h).each) e.step e.answer (stand_until nodes (e ∷ before) h.each) is

  module _ (a b : List Traced) (same : SameFor nodes j a b) where
    -- entries with equal steps and answers
    same_entry : (s : Step) (t u : StepAnswer) → IsAnswered nodes (after s t a) → IsAnswered nodes (after s u b) → t ≡ u → SameFor nodes j (after s t a) (after s u b)
    same_entry s t u ha hb is =
        let hf : IsAnswered nodes (after s t b) = subst (λ x. IsAnswered nodes (after s x b)) (sym is) hb in
        subst (λ x. SameFor nodes j (after s t a) (after s x b)) is
        (shown nodes j a b same (stand_until nodes a (before_answered nodes (record { step = s; answer = t }) a ha).each) (stand_until nodes b (before_answered nodes (record { step = s; answer = t }) b hf).each) s t (stand_until nodes (after s t a) ha.each)
        (both_left (is_response_to s t) (all_told a) ha.response) (λ k. (ha.each k).1) (λ k. (hf.each k).1))

    module _ (m session : ℕ) (k : JobNo) (c : Command (List ℕ)) where
      abbrev called : Step
      called = steps.At m (event.Call k session c)

      -- if there was memory for both or for neither, and the replies are the same if there was
      by_memory : (r q : Reply (List ℕ)) → IsAnswered nodes (after called (answer.Response r) a) → IsAnswered nodes (after called (answer.Response q) b) → is_no_memory (answer.Response r) ≡ is_no_memory (answer.Response q)
          → (is_no_memory (answer.Response r) ≡ false → is_no_memory (answer.Response q) ≡ false → r ≡ q) → SameFor nodes j (after called (answer.Response r) a) (after called (answer.Response q) b)
      by_memory r q ha hb one response =
          same_entry called (answer.Response r) (answer.Response q) ha hb
          (ap (λ x. answer.Response x)
          (elim (is_no_memory (answer.Response r)) as (λ t. is_no_memory (answer.Response r) ≡ t → r ≡ q) [
            | true ↦ λ t. no_memory_told r t ∙ sym (no_memory_told q (sym one ∙ t))
            | false ↦ λ t. response t (sym one ∙ t)
          ] refl))

      not_told : {B : Type 0} (t : StepAnswer) (history : List Traced) → is_response_to called t ≡ false → IsAnswered nodes (after called t history) → B
      not_told t history untold h = true_false (sym untold ∙ both_left (is_response_to called t) (all_told history) h.response)

      stand : (history : List Traced) (t : StepAnswer) → IsAnswered nodes (after called t history) → Stand nodes history
      stand history t h = stand_until nodes history (before_answered nodes (record { step = called; answer = t }) history h).each

      own_call : (t u : StepAnswer) → IsAnswered nodes (after called t a) → IsAnswered nodes (after called u b) → k.0 ≡ j → is_no_memory t ≡ is_no_memory u → SameFor nodes j (after called t a) (after called u b)
      own_call (answer.Response r) (answer.Response q) ha hb is one =
          by_memory r q ha hb one (λ mr mq. own_told nodes j a b same (stand a _ ha) (stand b _ hb) m session k c r q is mr mq (λ i. (ha.each i).1) (λ i. (hb.each i).1))
      own_call (answer.Response r) u ha hb is one = not_told u b refl hb
      own_call t u ha hb is one = not_told t a refl ha

      plain_call : (t u : StepAnswer) → IsAnswered nodes (after called t a) → IsAnswered nodes (after called u b) → (k.0 == j) ≡ false → ((i : ℕ) (v : View) → is_plain i (judge m v (input.Call session c)) ≡ true) → is_no_memory t ≡ is_no_memory u → SameFor nodes j (after called t a) (after called u b)
      plain_call (answer.Response r) (answer.Response q) ha hb other plain one =
          by_memory r q ha hb one (λ mr mq. other_told nodes j a b same (stand a _ ha) (stand b _ hb) m session k c r q other plain mr mq (λ i. (ha.each i).1) (λ i. (hb.each i).1))
      plain_call (answer.Response r) u ha hb other plain one = not_told u b refl hb
      plain_call t u ha hb other plain one = not_told t a refl ha

      -- both are hidden
      look : (t u : StepAnswer) → SameFor nodes j (after called t a) a → SameFor nodes j (after called u b) b → SameFor nodes j (after called t a) (after called u b)
      look t u ha hb = same_for_then nodes j (after called t a) a (after called u b) ha (same_for_then nodes j a b (after called u b) same (same_for_back nodes j (after called u b) b hb))

    withdraw_call : (m session : ℕ) (k : JobNo) (id : ObjectId) (target : JobNo) (t u : StepAnswer) → IsAnswered nodes (after (called m session k (command.Withdraw id target)) t a) → IsAnswered nodes (after (called m session k (command.Withdraw id target)) u b) → (k.0 == j) ≡ false → (id.job.0 == j) ≡ false → is_no_memory t ≡ is_no_memory u
        → SameFor nodes j (after (called m session k (command.Withdraw id target)) t a) (after (called m session k (command.Withdraw id target)) u b)
    withdraw_call m session k id target (answer.Response r) (answer.Response q) ha hb other foreign one =
        by_memory m session k (command.Withdraw id target) r q ha hb one
        (λ mr mq. withdraw_answered nodes j a b same (stand m session k (command.Withdraw id target) a _ ha) (stand m session k (command.Withdraw id target) b _ hb) m session k id target r q other foreign mr mq (λ i. (ha.each i).1) (λ i. (hb.each i).1))
    withdraw_call m session k id target (answer.Response r) u ha hb other foreign one = not_told m session k (command.Withdraw id target) u b refl hb
    withdraw_call m session k id target t u ha hb other foreign one = not_told m session k (command.Withdraw id target) t a refl ha

    other_call : (m session : ℕ) (k : JobNo) (c : Command (List ℕ)) (t u : StepAnswer) → IsAnswered nodes (after (called m session k c) t a) → IsAnswered nodes (after (called m session k c) u b) → (k.0 == j) ≡ false → heard_of false c t ≡ heard_of false c u
        → SameFor nodes j (after (called m session k c) t a) (after (called m session k c) u b)
    other_call m session k (command.Grant id target) t u ha hb other one = same_entry (called m session k (command.Grant id target)) t u ha hb (one_answer t u one)
    other_call m session k (command.Withdraw id target) t u ha hb other one =
        elim (id.job.0 == j) as (λ o. (id.job.0 == j) ≡ o → SameFor nodes j (after (called m session k (command.Withdraw id target)) t a) (after (called m session k (command.Withdraw id target)) u b)) [
          | true ↦ λ o. look m session k (command.Withdraw id target) t u
              (hidden_withdraw nodes j a (stand m session k (command.Withdraw id target) a t ha) m session k id target t other (eqb-true id.job.0 j o)) (hidden_withdraw nodes j b (stand m session k (command.Withdraw id target) b u hb) m session k id target u other (eqb-true id.job.0 j o))
          | false ↦ λ o. withdraw_call m session k id target t u ha hb other o (one_test (is_no_memory t) (is_no_memory u) one)
        ] refl
    other_call m session k (command.Peek id offset n) t u ha hb other one =
        look m session k (command.Peek id offset n) t u (hidden_peek nodes j a (stand m session k (command.Peek id offset n) a t ha) m session k id offset n t other) (hidden_peek nodes j b (stand m session k (command.Peek id offset n) b u hb) m session k id offset n u other)
    other_call m session k command.List t u ha hb other one =
        look m session k command.List t u (hidden_list nodes j a (stand m session k command.List a t ha) m session k t other) (hidden_list nodes j b (stand m session k command.List b u hb) m session k u other)
    other_call m session k c t u ha hb other one = plain_call m session k c t u ha hb other (λ i v. refl) (one_test (is_no_memory t) (is_no_memory u) one)

    one_step : (s : Step) (t u : StepAnswer) → IsAnswered nodes (after s t a) → IsAnswered nodes (after s u b) → heard j s t ≡ heard j s u → SameFor nodes j (after s t a) (after s u b)
    one_step (steps.At m (event.Call k session c)) t u ha hb one =
        elim (k.0 == j) as (λ o. (k.0 == j) ≡ o → heard_of o c t ≡ heard_of o c u → SameFor nodes j (after (called m session k c) t a) (after (called m session k c) u b)) [
          | true ↦ λ o e. own_call m session k c t u ha hb (eqb-true k.0 j o) (one_test (is_no_memory t) (is_no_memory u) e)
          | false ↦ λ o e. other_call m session k c t u ha hb o e
        ] refl one
    one_step (steps.At m e) t u ha hb one = same_entry (steps.At m e) t u ha hb (one_answer t u one)
    one_step (steps.Deliver k from to number damage) t u ha hb one = same_entry (steps.Deliver k from to number damage) t u ha hb (one_answer t u one)

    -- entries with the same step and what counts of the answers
    module _ (P : List Traced → Type 0) (hear : Step → StepAnswer → Heard) (each : (s : Step) (t u : StepAnswer) → P (after s t a) → P (after s u b) → hear s t ≡ hear s u → SameFor nodes j (after s t a) (after s u b)) where
      same_counted : (e f : Traced) → P (e ∷ a) → P (f ∷ b) → counted_answers hear e ≡ counted_answers hear f → SameFor nodes j (e ∷ a) (f ∷ b)
      same_counted e f ha hb is =
          let one : e.step ≡ f.step = ap (λ c. c.step) is in
          subst (λ s. SameFor nodes j (e ∷ a) (after s f.answer b)) one
          (each e.step e.answer f.answer ha (subst (λ s. P (after s f.answer b)) (sym one) hb) (ap (λ c. c.answer) is ∙ ap (λ s. hear s f.answer) (sym one)))

  -- ---- two histories

  abbrev counts : Traced → Bool
  counts entry = not (is_aside j entry.step)

  no_more : (c : Counted) (cs : List Counted) → [] ≡ c ∷ cs → ⊥
  no_more c cs e = cc

  module _ (P : List Traced → Type 0) (older : (e : Traced) (history : List Traced) → P (e ∷ history) → P history) (answers : (history : List Traced) → P history → IsAnswered nodes history)
      (hear : Step → StepAnswer → Heard) (each : (a b : List Traced) → SameFor nodes j a b → (s : Step) (t u : StepAnswer) → P (after s t a) → P (after s u b) → hear s t ≡ hear s u → SameFor nodes j (after s t a) (after s u b)) where
    none_same : (b : List Traced) → P b → [] ≡ counting hear j b → SameFor nodes j [] b
    none_same [] hb is = record { inputs = refl; parts = λ k other. same_itself _; grants = λ n. refl; out = λ n k number. refl; replies = refl; lives = λ memory n. refl; admissions = λ n k. refl; waits = λ n. refl }
    none_same (f ∷ b) hb is =
        elim (is_aside j f.step) as (λ t. is_aside j f.step ≡ t → [] ≡ map (counted_answers hear) (cond (not t) (f ∷ filter counts b) (filter counts b)) → SameFor nodes j [] (f ∷ b)) [
          | true ↦ λ t e. same_for_then nodes j [] b (f ∷ b) (none_same b (older f b hb) e) (same_for_back nodes j (f ∷ b) b (hidden b f (answers (f ∷ b) hb) t))
          | false ↦ λ t e. absurd (no_more (counted_answers hear f) (counting hear j b) e)
        ] refl is

    -- one entry that counts, and then what counts of the other history
    one_same : (a : List Traced) (e : Traced) → P (e ∷ a) → ((b : List Traced) → P b → counting hear j a ≡ counting hear j b → SameFor nodes j a b)
        → (b : List Traced) → P b → counted_answers hear e ∷ counting hear j a ≡ counting hear j b → SameFor nodes j (e ∷ a) b
    one_same a e ha rest [] hb is = absurd (no_more (counted_answers hear e) (counting hear j a) (sym is))
    one_same a e ha rest (f ∷ b) hb is =
        elim (is_aside j f.step) as (λ t. is_aside j f.step ≡ t → counted_answers hear e ∷ counting hear j a ≡ map (counted_answers hear) (cond (not t) (f ∷ filter counts b) (filter counts b)) → SameFor nodes j (e ∷ a) (f ∷ b)) [
          | true ↦ λ t same. same_for_then nodes j (e ∷ a) b (f ∷ b) (one_same a e ha rest b (older f b hb) same) (same_for_back nodes j (f ∷ b) b (hidden b f (answers (f ∷ b) hb) t))
          | false ↦ λ t same. (let tails = rest b (older f b hb) (ap (drop 1) same) in same_counted a b tails P hear (each a b tails) e f ha hb (ap (λ l. get_or l 0 (counted_answers hear e)) same))
        ] refl is

    histories_same : (a : List Traced) → P a → (b : List Traced) → P b → counting hear j a ≡ counting hear j b → SameFor nodes j a b
    histories_same [] ha b hb is = none_same b hb is
    histories_same (e ∷ a) ha b hb is =
        let before = older e a ha in
        elim (is_aside j e.step) as (λ t. is_aside j e.step ≡ t → map (counted_answers hear) (cond (not t) (e ∷ filter counts a) (filter counts a)) ≡ counting hear j b → SameFor nodes j (e ∷ a) b) [
          | true ↦ λ t same. same_for_then nodes j (e ∷ a) a b (hidden a e (answers (e ∷ a) ha) t) (histories_same a before b hb same)
          | false ↦ λ t same. one_same a e ha (histories_same a before) b hb same
        ] refl is

  -- ---- two traces

  module _ (hear : Step → StepAnswer → Heard) where
    counting_more : (xs ys : List Traced) → counting hear j (xs ++ ys) ≡ counting hear j xs ++ counting hear j ys
    counting_more xs ys = ap (map (counted_answers hear)) (filter-append counts xs ys) ∙ map-append (counted_answers hear) (filter counts xs) (filter counts ys)

    counting_back : (trace : List Traced) → counting hear j (reverse trace) ≡ reverse (counting hear j trace)
    counting_back [] = refl
    counting_back (entry ∷ trace) =
        ap (counting hear j) (reverse-append (entry ∷ []) trace) ∙ counting_more (reverse trace) (entry ∷ [])
        ∙ elim (is_aside j entry.step) as (λ t. counting hear j (reverse trace) ++ map (counted_answers hear) (cond (not t) (entry ∷ []) []) ≡ reverse (map (counted_answers hear) (cond (not t) (entry ∷ filter counts trace) (filter counts trace)))) [
          | true ↦ append-nil (counting hear j (reverse trace)) ∙ counting_back trace
          | false ↦ ap (λ l. l ++ counted_answers hear entry ∷ []) (counting_back trace) ∙ sym (reverse-append (counted_answers hear entry ∷ []) (counting hear j trace))
        ]

  replies_back : (trace : List Traced) → replies_of j (reverse trace) ≡ reverse (replies_of j trace)
  replies_back [] = refl
  replies_back (entry ∷ trace) =
      ap (replies_of j) (reverse-append (entry ∷ []) trace) ∙ filter_map-append (λ e. reply_of j e.step e.answer) (reverse trace) (entry ∷ [])
      ∙ elim (reply_of j entry.step entry.answer) as (λ o. replies_of j (reverse trace) ++ cons_option o [] ≡ reverse (cons_option o (replies_of j trace))) [
        | None ↦ append-nil (replies_of j (reverse trace)) ∙ replies_back trace
        | Some response ↦ ap (λ l. l ++ response ∷ []) (replies_back trace) ∙ sym (reverse-append (response ∷ []) (replies_of j trace))
      ]

  answered : (trace : List Traced) → ArePrivate nodes trace → IsAnswered nodes (reverse trace)
  answered trace h = record { response = told_back trace ∙ h.response; each = trace_private nodes trace h }

  -- traces whose histories have it all in common show alike
  alike : (first second : List Traced) → SameFor nodes j (reverse first) (reverse second) → ShowsAlike nodes j first second
  alike first second h = (
    h.inputs,
    sym (reverse-reverse (replies_of j first)) ∙ ap reverse (sym (replies_back first) ∙ h.replies ∙ replies_back second) ∙ reverse-reverse (replies_of j second),
  )

pub others_dont_show : (nodes job : ℕ) (first second : List Traced) → OthersDontShow nodes job first second
others_dont_show nodes job first second a b same =
    alike nodes job first second
    (histories_same nodes job (IsAnswered nodes) (before_answered nodes) (λ history h. h) (heard job) (one_step nodes job) (reverse first) (answered nodes job first a) (reverse second) (answered nodes job second b)
    (counting_back nodes job (heard job) first ∙ ap reverse same ∙ sym (counting_back nodes job (heard job) second)))

-- ---- where the shared answers are due

-- the history is answered privately, and its shared answers are those that are due
record IsDue (nodes memory : ℕ) (history : List Traced) : Type 0 where
  private : IsAnswered nodes history
  shared : map (λ entry. entry.answer) history ≡ answers_due nodes memory history

before_due : (nodes memory : ℕ) (entry : Traced) (before : List Traced) → IsDue nodes memory (entry ∷ before) → IsDue nodes memory before
before_due nodes memory entry before h = record { private = before_answered nodes entry before h.private; shared = ap (drop 1) h.shared }

module _ (nodes memory j : ℕ) (a b : List Traced) (same : SameFor nodes j a b) where
  -- a shared answer follows from what the histories have in common, if there was memory
  due_same : (s : Step) (x : StepAnswer) → shared_answer nodes memory a s ≡ Some x → (t u : StepAnswer) → IsDue nodes memory (after nodes j s t a) → IsDue nodes memory (after nodes j s u b) → is_no_memory t ≡ is_no_memory u → t ≡ u
  due_same s x is t u ha hb one =
      let due_a : t ≡ answer_due nodes memory a (record { step = s; answer = t }) = ap (λ l. get_or l 0 t) ha.shared in
      let due_b : u ≡ answer_due nodes memory b (record { step = s; answer = u }) = ap (λ l. get_or l 0 u) hb.shared in
      elim (is_no_memory t) as (λ n. is_no_memory t ≡ n → t ≡ u) [
        | true ↦ λ n. wanting t n ∙ sym (wanting u (sym one ∙ n))
        | false ↦ λ n.
            due_a ∙ ap (λ m. if m then t else unwrap_or (shared_answer nodes memory a s) t) n ∙ ap (λ o. unwrap_or o t) is
            ∙ sym (due_b ∙ ap (λ m. if m then u else unwrap_or (shared_answer nodes memory b s) u) (sym one ∙ n) ∙ ap (λ o. unwrap_or o u) (sym (shared_same nodes j a b same memory s) ∙ is))
      ] refl
    where
      wanting : (t : StepAnswer) → is_no_memory t ≡ true → t ≡ answer.Response (reply.Refused NoMemory)
      wanting (answer.Response r) e = ap (λ r. answer.Response r) (no_memory_told r e)
      wanting t e = true_false e

  due_step : (s : Step) (t u : StepAnswer) → IsDue nodes memory (after nodes j s t a) → IsDue nodes memory (after nodes j s u b) → heard_where_due j s t ≡ heard_where_due j s u → SameFor nodes j (after nodes j s t a) (after nodes j s u b)
  due_step (steps.At m (event.Call k session c)) t u ha hb one = one_step nodes j a b same (steps.At m (event.Call k session c)) t u ha.private hb.private one
  due_step (steps.At m e) t u ha hb one = same_entry nodes j a b same (steps.At m e) t u ha.private hb.private (due_same (steps.At m e) _ refl t u ha hb (one_test (is_no_memory t) (is_no_memory u) one))
  due_step (steps.Deliver k from to number damage) t u ha hb one =
      same_entry nodes j a b same (steps.Deliver k from to number damage) t u ha.private hb.private (due_same (steps.Deliver k from to number damage) _ refl t u ha hb (one_test (is_no_memory t) (is_no_memory u) one))

pub others_dont_show_where_due : (nodes memory job : ℕ) (first second : List Traced) → OthersDontShowWhereDue nodes memory job first second
others_dont_show_where_due nodes memory job first second a b sa sb same =
    alike nodes job first second
    (histories_same nodes job (IsDue nodes memory) (before_due nodes memory) (λ history h. h.private) (heard_where_due job) (due_step nodes memory job)
    (reverse first) (record { private = answered nodes job first a; shared = sa }) (reverse second) (record { private = answered nodes job second b; shared = sb })
    (counting_back nodes job (heard_where_due job) first ∙ ap reverse same ∙ sym (counting_back nodes job (heard_where_due job) second)))
