-- The parts of short texts, and the bytes that part them.
use Rattle.std.proofs.Common.{◌≡◌, ◌≢◌, ℕ, zero, suc, ◌+◌, ◌<◌, ◌^◌, true, false, List, [], ◌∷◌, ◌++◌, length, get_or, refl, sym, ap, ◌∙◌, arith, decimal, codes, subst, lit<, Option, Some, None, MatchOption, IfSome, IfOk, Result, Ok, Err, Bor, ◌≤◌, ◌==◌, eq-eqb}
use Rattle.std.proofs.lemmas.Bool.{eqb-true}
use Rattle.std.proofs.lemmas.List.{append_assoc, get_or_at, length-append}
use Rattle.std.proofs.lemmas.Str.Pattern.{IsSplitOnceResult, split_after, split_parts}
use Rattle.std.specs.Result.{result_ok}
use Rattle.std.proofs.lemmas.Fmt.{digits_decimal}
use Rattle.std.proofs.lemmas.Str.Parse.{not_in_digits, numerals_by_value, tells_digits}
use Rattle.std.specs.Int.{IsInRange}
use Rattle.std.specs.Str.Parse.{AllDigits}
use Rattle.obj_id.proofs.IdBytes.{IfOk-new}
use Rattle.obj_id.proofs.Numbered.{task_number-lt}
use Rattle.obj_id.specs.Ids.{IsId, IsTask}
use Rattle.obj_id.specs.Texts.{IsOtherText, IsOwnText, IsShortText, own_text, owner_text, short_task_text, task_number}
use Rattle.obj_id.specs.declared.ids.JobNo.{JobNo}
use Rattle.obj_id.specs.declared.ids.ObjectId.{ObjectId}
use Rattle.obj_id.specs.declared.ids.TaskNo.{TaskNo}
use Rattle.obj_id.specs.declared.refusals.Refusal.{Refusal}
use Rattle.obj_id.specs.declared.refusals.Refusal.TheVariants.{BadId}

-- no element is c
abbrev pub Without : ℕ → List ℕ → Type 0
Without c xs = (i : ℕ) → i < length xs → get_or xs i 0 ≢ c

pub Without-nil : (c : ℕ) → Without c []
Without-nil c i h = absurd (omega arith)

pub Without-cons : (c x : ℕ) (xs : List ℕ) → x ≢ c → Without c xs → Without c (x ∷ xs)
Without-cons c x xs hx h zero lt = hx
Without-cons c x xs hx h (suc i) lt = h i (omega arith)

pub Without-append : (c : ℕ) (xs ys : List ℕ) → Without c xs → Without c ys → Without c (xs ++ ys)
Without-append c [] ys hx hy = hy
Without-append c (x ∷ xs) ys hx hy = Without-cons c x (xs ++ ys) (hx 0 (omega arith)) (Without-append c xs ys (λ i lt. hx (suc i) (omega arith)) hy)

-- a printed number is digits alone
pub Without-decimal : (c n : ℕ) → n < 2 ^ 64 → ¬ (IsInRange 48 57 c) → Without c (decimal n)
Without-decimal c n fits other =
    let own = numerals_by_value (AllDigits 10) tells_digits in
    not_in_digits own (decimal n) c (digits_decimal own n fits) other

-- an id's task is a task
pub IsTask-task : (id : ObjectId) → IsId id → IsTask id.task
IsTask-task id h = record { task_length = h.task_length; task_bytes = h.task_bytes }

pub Without-short_task_text : (c : ℕ) (task : TaskNo) → IsTask task → ¬ (IsInRange 48 57 c) → 116 ≢ c → Without c (short_task_text task)
Without-short_task_text c task is other no_t =
    Without-cons c 116 (decimal (task_number task)) no_t (Without-decimal c (task_number task) (task_number-lt task is) other)

-- the own text is split at its dot
pub split-own_text : (id : ObjectId) (text : List ℕ) (r : Option (Bor (List ℕ) × Bor (List ℕ))) → IsId id → own_text id ≡ text → IsSplitOnceResult 46 text r
    → MatchOption r ⊥ (λ x. (x.0.now ≡ short_task_text id.task) × (x.1.now ≡ decimal id.index))
split-own_text id text r is spelled h =
    split_after 46 text (short_task_text id.task) (decimal id.index) r h (lit< tt)
    (sym spelled ∙ append_assoc (short_task_text id.task) (codes ".") (decimal id.index))
    (Without-short_task_text 46 id.task (IsTask-task id is) (λ range. omega arith) (λ e. omega arith))

-- an id is made, where its job and its index are at least 1
pub IfSome-new : (r : Result ObjectId Refusal) (o : Option ObjectId) (id : ObjectId) (P : ObjectId → Type 0) → o ≡ result_ok r
    → (1 ≤ id.job.0 → 1 ≤ id.index → r ≡ Ok id) → (id.job.0 ≡ 0 → r ≡ Err BadId) → (id.index ≡ 0 → r ≡ Err BadId) → P id → IfSome o P
IfSome-new r o id P e made no_job no_index h =
    let Q : Option ObjectId → Type 0 = λ x. IfSome x P in
    subst Q (sym e) (if_ok r (IfOk-new r id P made no_job no_index h))
  where
    if_ok : (x : Result ObjectId Refusal) → IfOk x P → IfSome (result_ok x) P
    if_ok (Ok x) k = k
    if_ok (Err x) k = tt

module _ (c : ℕ) (xs ys : List ℕ) where
  -- a list that has c isn't without it
  pub with_byte : (text : List ℕ) → text ≡ xs ++ (c ∷ ys) → Without c text → ⊥
  with_byte text is h =
      let len : length text ≡ length xs + length (c ∷ ys) = ap length is ∙ length-append xs (c ∷ ys) in
      h (length xs) (omega (arith, len)) (ap (λ zs. get_or zs (length xs) 0) is ∙ get_or_at xs c ys 0 (length xs) refl)

pub Without-own_text : (id : ObjectId) → IsId id → Without 47 (own_text id)
Without-own_text id is =
    Without-append 47 (short_task_text id.task ++ codes ".") (decimal id.index)
    (Without-append 47 (short_task_text id.task) (codes ".") (Without-short_task_text 47 id.task (IsTask-task id is) (λ range. omega arith) (λ e. omega arith))
    (Without-cons 47 46 [] (λ e. omega arith) (Without-nil 47)))
    (Without-decimal 47 id.index (omega (arith, is.index_fits)) (λ range. omega arith))

-- an own text is a short one
pub IsShortText-own : (job : JobNo) (id : ObjectId) (text : List ℕ) → IsOwnText job id text → IsShortText job.0 id text
IsShortText-own job id text h =
    let same : (job.0 == id.job.0) ≡ true = ap (λ (j : JobNo). j.0 == id.job.0) (sym h.owner) ∙ eq-eqb id.job.0 id.job.0 refl in
    record { has_short = h.has_short; spelled = ap (λ b. owner_text b id.job.0 ++ own_text id) same ∙ h.spelled }

-- and so is one that names the owner
pub IsShortText-other : (job : JobNo) (id : ObjectId) (text owner name : List ℕ) → text ≡ owner ++ (47 ∷ name) → IsOtherText job id owner name
    → IsShortText job.0 id text
IsShortText-other job id text owner name is h = record {
  has_short = h.named.has_short;
  spelled =
      ap (λ b. owner_text b id.job.0 ++ own_text id) h.other
      ∙ append_assoc (decimal id.job.0) (codes "/") (own_text id)
      ∙ (λ i. h.owned i ++ (47 ∷ h.named.spelled i)) ∙ sym is;
}

-- a short text is split at its slash, if it has one
pub split-short_text : (job : JobNo) (id : ObjectId) (text : List ℕ) (r : Option (Bor (List ℕ) × Bor (List ℕ))) → IsId id → IsShortText job.0 id text
    → IsSplitOnceResult 47 text r → MatchOption r (IsOwnText job id text) (λ x. IsOtherText job id x.0.now x.1.now)
split-short_text job id text r is h split =
    elim (job.0 == id.job.0) as (λ b. (job.0 == id.job.0) ≡ b → owner_text b id.job.0 ++ own_text id ≡ text
    → MatchOption r (IsOwnText job id text) (λ x. IsOtherText job id x.0.now x.1.now)) [
      | true ↦ λ same spelled. own r (split_parts 47 text r split (lit< tt)) same spelled
      | false ↦ λ other spelled. foreign r (split_after 47 text (decimal id.job.0) (own_text id) r split (lit< tt)
          (sym spelled ∙ append_assoc (decimal id.job.0) (codes "/") (own_text id))
          (Without-decimal 47 id.job.0 (omega (arith, is.job_fits)) (λ range. omega arith))) other
    ] refl h.spelled
  where
    own : (o : Option (Bor (List ℕ) × Bor (List ℕ)))
        → MatchOption o (Without 47 text) (λ x. (text ≡ x.0.now ++ (47 ∷ x.1.now)) × Without 47 x.0.now)
        → (job.0 == id.job.0) ≡ true → own_text id ≡ text → MatchOption o (IsOwnText job id text) (λ x. IsOtherText job id x.0.now x.1.now)
    own None parts same spelled =
        let number : id.job.0 ≡ job.0 = sym (eqb-true job.0 id.job.0 same) in
        record { owner = λ i. record { 0 = number i }; has_short = h.has_short; spelled = spelled }
    own (Some x) parts same spelled =
        let P : List ℕ → Type 0 = Without 47 in
        absurd (with_byte 47 x.0.now x.1.now text parts.0 (subst P spelled (Without-own_text id is)))

    foreign : (o : Option (Bor (List ℕ) × Bor (List ℕ)))
        → MatchOption o ⊥ (λ x. (x.0.now ≡ decimal id.job.0) × (x.1.now ≡ own_text id))
        → (job.0 == id.job.0) ≡ false → MatchOption o (IsOwnText job id text) (λ x. IsOtherText job id x.0.now x.1.now)
    foreign None parts other = absurd parts
    foreign (Some x) parts other = record {
      other = other;
      owned = sym parts.0;
      named = record { owner = refl; has_short = h.has_short; spelled = sym parts.1 };
    }
