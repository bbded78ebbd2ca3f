-- A text names one id, and one task.
use Rattle.std.proofs.Common.{◌≡◌, ◌≢◌, ℕ, zero, suc, ◌/◌, ◌%◌, ◌==◌, not, Bool, true, false, IsTrue, if◌then◌else◌, List, [], ◌∷◌, ◌++◌, ◌⊎◌, inl, inr, get_or, refl, sym, ap, subst, ◌∙◌, arith, decimal, codes}
use Rattle.std.proofs.lemmas.Bool.{and_parts, eqb-true, eq-eqb}
use Rattle.std.proofs.lemmas.Cmp.{nat_list_cmp_total, tied_itself}
use Rattle.std.proofs.lemmas.Fmt.{decimal_injective}
use Rattle.std.proofs.lemmas.List.{append_assoc}
use Rattle.std.specs.Cmp.Lexicographic.{slice_cmp}
use Rattle.std.specs.List.{list_all, slice_index}
use Rattle.std.specs.Ordering.{nat_cmp}
use Rattle.hex.proofs.HexLemmas.{decode_of-encode_lower}
use Rattle.hex.specs.Hex.{IsBytes, decode_of, encode_lower, encode_with, lower_digits}
use Rattle.obj_id.specs.Ids.{IsId, IsTask, id_bytes}
use Rattle.obj_id.specs.Texts.{IsIdText, IsShortTaskText, IsShortText, IsTaskText, full_task_text, full_text, has_short_text, id_text, numbered_task, own_text, owner_text, short_task_text, short_text, task_number, task_text}
use Rattle.obj_id.specs.declared.ids.ObjectId.{ObjectId}
use Rattle.obj_id.specs.declared.ids.TaskNo.{TaskNo}
use Rattle.obj_id.proofs.IdBytes.{bytes-id_bytes}
use Rattle.obj_id.proofs.IdOrder.{id_cmp-id_bytes}
use Rattle.obj_id.proofs.Numbered.{numbered-task_number, task_number-lt}
use Rattle.obj_id.proofs.SameIds.{id_cmp-IsAntisymmetric}
use Rattle.obj_id.proofs.ShortTexts.{IsTask-task, Without, Without-cons, Without-decimal, Without-nil, Without-own_text, Without-short_task_text, with_byte}

-- ---- a short text has a 't', and digits have none

no_t : (xs : List ℕ) → list_all (λ x. not (x == 116)) xs ≡ true → (d : ℕ) → get_or xs d 0 ≢ 116
no_t [] h d = λ e. omega arith
no_t (x ∷ xs) h zero = λ e. differs (x == 116) (and_parts _ _ h).0 (eq-eqb x 116 e)
  where
    differs : (b : Bool) → not b ≡ true → b ≡ true → ⊥
    differs true h e = cc
    differs false h e = cc
no_t (x ∷ xs) h (suc d) = no_t xs (and_parts _ _ h).1 d

Without-encode_lower : (xs : List ℕ) → Without 116 (encode_lower xs)
unfolding encode_with
Without-encode_lower [] = Without-nil 116
Without-encode_lower (b ∷ xs) =
    let high : ℕ = slice_index lower_digits (b / 16) in
    let low : ℕ = slice_index lower_digits (b % 16) in
    Without-cons 116 high (low ∷ encode_lower xs) (no_t lower_digits refl (b / 16))
    (Without-cons 116 low (encode_lower xs) (no_t lower_digits refl (b % 16)) (Without-encode_lower xs))

-- no short text is the digits of bytes
pub short_text-apart : (job : ℕ) (id : ObjectId) (bytes text : List ℕ) → IsShortText job id text → encode_lower bytes ≡ text → ⊥
short_text-apart job id bytes text h digits =
    with_byte 116 (owner_text (job == id.job.0) id.job.0) (decimal (task_number id.task) ++ codes "." ++ decimal id.index) text (sym h.spelled)
    (subst (Without 116) digits (Without-encode_lower bytes))

-- nor is a task's
pub short_task_text-apart : (task : TaskNo) (bytes text : List ℕ) → IsShortTaskText task text → encode_lower bytes ≡ text → ⊥
short_task_text-apart task bytes text h digits =
    with_byte 116 [] (decimal (task_number task)) text (sym h.spelled) (subst (Without 116) digits (Without-encode_lower bytes))

-- ---- short texts

-- a list is parted in one way at its first c
cut : (c : ℕ) (xs ys us vs : List ℕ) → Without c xs → Without c us → xs ++ (c ∷ ys) ≡ us ++ (c ∷ vs) → (xs ≡ us) × (ys ≡ vs)
cut c [] ys [] vs hx hu e = (refl, cc)
cut c [] ys (u ∷ us) vs hx hu e = let same : u ≡ c = cc in absurd (hu 0 (omega arith) same)
cut c (x ∷ xs) ys [] vs hx hu e = let same : x ≡ c = cc in absurd (hx 0 (omega arith) same)
cut c (x ∷ xs) ys (u ∷ us) vs hx hu e =
    let first : x ≡ u = cc in
    let rest : xs ++ (c ∷ ys) ≡ us ++ (c ∷ vs) = cc in
    let parts = cut c xs ys us vs (λ i lt. hx (suc i) (omega arith)) (λ i lt. hu (suc i) (omega arith)) rest in
    ((λ i. first i ∷ parts.0 i), parts.1)

short_task_text-injective : (a b : TaskNo) → IsTask a → IsTask b → IsTrue (has_short_text a) → IsTrue (has_short_text b)
    → short_task_text a ≡ short_task_text b → a ≡ b
short_task_text-injective a b ha hb sa sb e =
    let digits : decimal (task_number a) ≡ decimal (task_number b) = cc in
    let number = decimal_injective (task_number a) (task_number b) (task_number-lt a ha) (task_number-lt b hb) digits in
    numbered-task_number a ha sa ∙ ap numbered_task number ∙ sym (numbered-task_number b hb sb)

-- of one owner
own_text-injective : (a b : ObjectId) → IsId a → IsId b → IsTrue (has_short_text a.task) → IsTrue (has_short_text b.task)
    → a.job.0 ≡ b.job.0 → own_text a ≡ own_text b → a ≡ b
own_text-injective a b ha hb sa sb job e =
    let parts =
    cut 46 (short_task_text a.task) (decimal a.index) (short_task_text b.task) (decimal b.index)
    (Without-short_task_text 46 a.task (IsTask-task a ha) (λ range. omega arith) (λ k. omega arith))
    (Without-short_task_text 46 b.task (IsTask-task b hb) (λ range. omega arith) (λ k. omega arith))
    (sym (append_assoc (short_task_text a.task) (codes ".") (decimal a.index)) ∙ e ∙ append_assoc (short_task_text b.task) (codes ".") (decimal b.index)) in
    let task = short_task_text-injective a.task b.task (IsTask-task a ha) (IsTask-task b hb) sa sb parts.0 in
    let index = decimal_injective a.index b.index (omega (arith, ha.index_fits)) (omega (arith, hb.index_fits)) parts.1 in
    λ i. record { task = task i; job = record { 0 = job i }; index = index i }

-- a short text is the own one of the job's object, or names another owner
short_text-cases : (job : ℕ) (id : ObjectId) (text : List ℕ) → IsShortText job id text
    → ((job ≡ id.job.0) × (own_text id ≡ text)) ⊎ (decimal id.job.0 ++ (47 ∷ own_text id) ≡ text)
short_text-cases job id text h =
    elim (job == id.job.0) as (λ b. (job == id.job.0) ≡ b → owner_text b id.job.0 ++ own_text id ≡ text
    → ((job ≡ id.job.0) × (own_text id ≡ text)) ⊎ (decimal id.job.0 ++ (47 ∷ own_text id) ≡ text)) [
      | true ↦ λ same spelled. inl (eqb-true job id.job.0 same, spelled)
      | false ↦ λ other spelled. inr (sym (append_assoc (decimal id.job.0) (codes "/") (own_text id)) ∙ spelled)
    ] refl h.spelled

no_slash : (a b : ObjectId) (text : List ℕ) → IsId a → own_text a ≡ text → decimal b.job.0 ++ (47 ∷ own_text b) ≡ text → ⊥
no_slash a b text is own other = with_byte 47 (decimal b.job.0) (own_text b) text (sym other) (subst (Without 47) own (Without-own_text a is))

short_text-injective : (job : ℕ) (a b : ObjectId) (text : List ℕ) → IsId a → IsId b → IsShortText job a text → IsShortText job b text → a ≡ b
short_text-injective job a b text ia ib ha hb =
    elim (short_text-cases job a text ha) [
      | inl own_a ↦
          elim (short_text-cases job b text hb) [
            | inl own_b ↦ own_text-injective a b ia ib ha.has_short hb.has_short (sym own_a.0 ∙ own_b.0) (own_a.1 ∙ sym own_b.1)
            | inr other_b ↦ absurd (no_slash a b text ia own_a.1 other_b)
          ]
      | inr other_a ↦
          elim (short_text-cases job b text hb) [
            | inl own_b ↦ absurd (no_slash b a text ib own_b.1 other_a)
            | inr other_b ↦
                let parts =
                cut 47 (decimal a.job.0) (own_text a) (decimal b.job.0) (own_text b)
                (Without-decimal 47 a.job.0 (omega (arith, ia.job_fits)) (λ range. omega arith))
                (Without-decimal 47 b.job.0 (omega (arith, ib.job_fits)) (λ range. omega arith))
                (other_a ∙ sym other_b) in
                let job = decimal_injective a.job.0 b.job.0 (omega (arith, ia.job_fits)) (omega (arith, ib.job_fits)) parts.0 in
                own_text-injective a b ia ib ha.has_short hb.has_short job parts.1
          ]
    ]

-- ---- digits

encode_lower-injective : (xs ys : List ℕ) → IsBytes xs → IsBytes ys → encode_lower xs ≡ encode_lower ys → xs ≡ ys
encode_lower-injective xs ys hx hy e =
    let same = sym (decode_of-encode_lower xs hx) ∙ ap decode_of e ∙ decode_of-encode_lower ys hy in
    cc same

-- ids of the same bytes are the same
pub id_bytes-injective : (a b : ObjectId) → IsId a → IsId b → id_bytes a ≡ id_bytes b → a ≡ b
id_bytes-injective a b ha hb e =
    id_cmp-IsAntisymmetric a b (id_cmp-id_bytes a b ha hb ∙ ap (slice_cmp nat_cmp (id_bytes a)) (sym e) ∙ tied_itself nat_list_cmp_total (id_bytes a))

-- ---- a text names one id

pub IsIdText-one : (job : ℕ) (a b : ObjectId) (text : List ℕ) → IsId a → IsId b → IsIdText job a text → IsIdText job b text → a ≡ b
IsIdText-one job a b text ia ib (inl short_a) (inl short_b) = short_text-injective job a b text ia ib short_a short_b
IsIdText-one job a b text ia ib (inl short_a) (inr full_b) = absurd (short_text-apart job a (id_bytes b) text short_a full_b)
IsIdText-one job a b text ia ib (inr full_a) (inl short_b) = absurd (short_text-apart job b (id_bytes a) text short_b full_a)
IsIdText-one job a b text ia ib (inr full_a) (inr full_b) =
    id_bytes-injective a b ia ib (encode_lower-injective (id_bytes a) (id_bytes b) (bytes-id_bytes a ia) (bytes-id_bytes b ib) (full_a ∙ sym full_b))

-- and one task
pub IsTaskText-one : (a b : TaskNo) (text : List ℕ) → IsTask a → IsTask b → IsTaskText a text → IsTaskText b text → a ≡ b
IsTaskText-one a b text ia ib (inl short_a) (inl short_b) =
    short_task_text-injective a b ia ib short_a.has_short short_b.has_short (short_a.spelled ∙ sym short_b.spelled)
IsTaskText-one a b text ia ib (inl short_a) (inr full_b) = absurd (short_task_text-apart a b.0 text short_a full_b)
IsTaskText-one a b text ia ib (inr full_a) (inl short_b) = absurd (short_task_text-apart b a.0 text short_b full_a)
IsTaskText-one a b text ia ib (inr full_a) (inr full_b) =
    let bytes = encode_lower-injective a.0 b.0 ia.task_bytes ib.task_bytes (full_a ∙ sym full_b) in
    λ i. record { 0 = bytes i }

-- the text that is printed names what it is printed for
pub IsIdText-id_text : (job : ℕ) (id : ObjectId) → IsIdText job id (id_text job id)
IsIdText-id_text job id =
    elim (has_short_text id.task) as (λ b. has_short_text id.task ≡ b → IsIdText job id (if b then short_text job id else full_text id)) [
      | true ↦ λ short. inl (record { has_short = short; spelled = refl })
      | false ↦ λ none. inr refl
    ] refl

pub IsTaskText-task_text : (task : TaskNo) → IsTaskText task (task_text task)
IsTaskText-task_text task =
    elim (has_short_text task) as (λ b. has_short_text task ≡ b → IsTaskText task (if b then short_task_text task else full_task_text task)) [
      | true ↦ λ short. inl (record { has_short = short; spelled = refl })
      | false ↦ λ none. inr refl
    ] refl
