-- An id's bytes: they are spelled once, and in their order.
use Rattle.std.proofs.Common.{◌≡◌, ℕ, zero, suc, ◌+◌, ◌<◌, ◌≤◌, ◌^◌, List, [], ◌∷◌, ◌++◌, length, take, drop, get_or, refl, sym, ap, subst, ◌∙◌, arith, inl, inr, lit≤, Result, Ok, Err, IfOk}
use Rattle.std.proofs.lemmas.Nat.{be_bytes_4, from_be_bytes-to_be_bytes_4}
use Rattle.std.proofs.lemmas.Bool.{cases_lt}
use Rattle.std.proofs.lemmas.List.{append-nil, append_assoc, drop_at, get_or_append_left, get_or_past, take_at, length-append, take-append-drop, drop-drop, get_or-drop, length-take-le, length-drop, take_all}
use Rattle.std.specs.Int.{from_be_bytes, to_be_bytes, w32}
use Rattle.obj_id.specs.Ids.{IsId, id_bytes}
use Rattle.obj_id.specs.declared.ids.ObjectId.{ObjectId}
use Rattle.obj_id.specs.declared.refusals.Refusal.{Refusal}
use Rattle.obj_id.specs.declared.refusals.Refusal.TheVariants.{BadId}
use borrow.Rule.Slice.PartMut.{put_mid}

-- a part written where one of its length stood
pub put_mid-between : (a b c ys : List ℕ) (i k : ℕ) → length a ≡ i → length b ≡ k → put_mid i k (a ++ (b ++ c)) ys ≡ a ++ (ys ++ c)
put_mid-between a b c ys i k la lb =
    ap (λ front. front ++ (ys ++ drop k (drop i (a ++ (b ++ c))))) (take_at a (b ++ c) i la)
    ∙ ap (λ rest. a ++ (ys ++ drop k rest)) (drop_at a (b ++ c) i la)
    ∙ ap (λ rest. a ++ (ys ++ rest)) (drop_at b c k lb)

-- what three writes in a row make of 28 zeros
pub put_mid-parts : (task job index : List ℕ) → length task ≡ 20 → length job ≡ 4 → length index ≡ 4
    → put_mid 24 4 (put_mid 20 4 (task ++ (0 ∷ 0 ∷ 0 ∷ 0 ∷ 0 ∷ 0 ∷ 0 ∷ 0 ∷ [])) job) index ≡ task ++ job ++ index
put_mid-parts task job index lt lj li =
    let zeros : List ℕ = 0 ∷ 0 ∷ 0 ∷ 0 ∷ [] in
    let front : length (task ++ job) ≡ 24 = omega (arith, length-append task job) in
    ap (λ xs. put_mid 24 4 xs index) (put_mid-between task zeros zeros job 20 4 lt refl ∙ sym (append_assoc task job zeros))
    ∙ put_mid-between (task ++ job) zeros [] index 24 4 front refl
    ∙ ap (λ xs. task ++ job ++ xs) (append-nil index)

-- and there is room for the third
pub length-two_parts : (task job : List ℕ) → length task ≡ 20 → length job ≡ 4
    → 28 ≤ length (put_mid 20 4 (task ++ (0 ∷ 0 ∷ 0 ∷ 0 ∷ 0 ∷ 0 ∷ 0 ∷ 0 ∷ [])) job)
length-two_parts task job lt lj =
    let zeros : List ℕ = 0 ∷ 0 ∷ 0 ∷ 0 ∷ [] in
    let len : length (task ++ (job ++ zeros)) ≡ 28 = omega (arith, length-append task (job ++ zeros), length-append job zeros) in
    rw (put_mid-between task zeros zeros job 20 4 lt refl) (omega (arith, len))

-- the front of bytes is bytes
pub bytes-front : (front rest : List ℕ) → ((i : ℕ) → get_or (front ++ rest) i 0 < 256) → (i : ℕ) → get_or front i 0 < 256
bytes-front front rest h i =
    elim (cases_lt i (length front)) [
      | inl inside ↦ let same = get_or_append_left front rest 0 i inside in omega (arith, h i, same)
      | inr past ↦ let none = get_or_past front i 0 past in omega (arith, none)
    ]

-- what stands before two parts of four bytes each is the task
pub length-task : (task job index : List ℕ) → length (task ++ job ++ index) ≡ 28 → length job ≡ 4 → length index ≡ 4 → length task ≡ 20
length-task task job index h lj li = omega (arith, h, length-append (task ++ job) index, length-append task job)

-- a part of bytes is bytes
pub bytes-drop : (bytes : List ℕ) (n : ℕ) → ((k : ℕ) → get_or bytes k 0 < 256) → (k : ℕ) → get_or (drop n bytes) k 0 < 256
bytes-drop bytes n h k = let same = get_or-drop n bytes k 0 in omega (arith, h (n + k), same)

pub bytes-take : (bytes : List ℕ) (n : ℕ) → ((k : ℕ) → get_or bytes k 0 < 256) → (k : ℕ) → get_or (take n bytes) k 0 < 256
bytes-take bytes n h =
    let P : List ℕ → Type 0 = λ xs. (k : ℕ) → get_or xs k 0 < 256 in
    bytes-front (take n bytes) (drop n bytes) (subst P (sym (take-append-drop n bytes)) h)

-- 28 bytes that were read as a task and two numbers
pub record IsReadAs (bytes task job index : List ℕ) (j i : ℕ) : Type 0 where
  pub length_is : length bytes ≡ 28
  pub are_bytes : (k : ℕ) → get_or bytes k 0 < 256
  pub task_is : task ≡ take 20 bytes
  pub job_is : job ≡ take 4 (drop 20 bytes)
  pub index_is : index ≡ take 4 (drop 24 bytes)
  pub job_number : j ≡ from_be_bytes w32 job
  pub index_number : i ≡ from_be_bytes w32 index

module _ (bytes task job index : List ℕ) (j i : ℕ) (h : IsReadAs bytes task job index j i) where
  number_bytes : (n : ℕ) (part : List ℕ) (m : ℕ) → n + 4 ≤ 28 → part ≡ take 4 (drop n bytes) → m ≡ from_be_bytes w32 part → to_be_bytes w32 m ≡ part
  number_bytes n part m fits is number =
      let same = length-take-le 4 (drop n bytes) (omega (arith, length-drop n bytes, h.length_is)) in
      be_bytes_4 part m (ap length is ∙ same)
      (let P : List ℕ → Type 0 = λ xs. (k : ℕ) → get_or xs k 0 < 256 in
      subst P (sym is) (bytes-take (drop n bytes) 4 (bytes-drop bytes n h.are_bytes)))
      number

  whole : take 20 bytes ++ take 4 (drop 20 bytes) ++ take 4 (drop 24 bytes) ≡ bytes
  whole =
      let last = take_all 4 (drop 24 bytes) (omega (arith, length-drop 24 bytes, h.length_is)) ∙ sym (drop-drop 4 20 bytes) in
      append_assoc (take 20 bytes) (take 4 (drop 20 bytes)) (take 4 (drop 24 bytes))
      ∙ ap (λ xs. take 20 bytes ++ (take 4 (drop 20 bytes) ++ xs)) last
      ∙ ap (λ xs. take 20 bytes ++ xs) (take-append-drop 4 (drop 20 bytes))
      ∙ take-append-drop 20 bytes

  -- the task and the numbers spell the bytes
  pub bytes_spelled : task ++ to_be_bytes w32 j ++ to_be_bytes w32 i ≡ bytes
  bytes_spelled =
      let job_bytes = number_bytes 20 job j (lit≤ tt) h.job_is h.job_number in
      let index_bytes = number_bytes 24 index i (lit≤ tt) h.index_is h.index_number in
      (λ k. h.task_is k ++ (job_bytes ∙ h.job_is) k ++ (index_bytes ∙ h.index_is) k) ∙ whole

  -- and nothing else does
  pub parts_read : (t : List ℕ) (m n : ℕ) → length t ≡ 20 → m < 2 ^ 32 → n < 2 ^ 32
      → t ++ to_be_bytes w32 m ++ to_be_bytes w32 n ≡ bytes → (task ≡ t) × (j ≡ m) × (i ≡ n)
  parts_read t m n lt fm fn is =
      let job_bytes : List ℕ = to_be_bytes w32 m in
      let index_bytes : List ℕ = to_be_bytes w32 n in
      let after : drop 20 bytes ≡ job_bytes ++ index_bytes =
      ap (drop 20) (sym is ∙ append_assoc t job_bytes index_bytes) ∙ drop_at t (job_bytes ++ index_bytes) 20 lt in
      let front : length (t ++ job_bytes) ≡ 24 = omega (arith, length-append t job_bytes, lt) in (
        h.task_is ∙ ap (take 20) (sym is ∙ append_assoc t job_bytes index_bytes) ∙ take_at t (job_bytes ++ index_bytes) 20 lt,
        h.job_number ∙ ap (from_be_bytes w32) (h.job_is ∙ ap (take 4) after ∙ take_at job_bytes index_bytes 4 refl) ∙ from_be_bytes-to_be_bytes_4 m fm,
        h.index_number ∙ ap (from_be_bytes w32) (h.index_is ∙ ap (take 4) (ap (drop 24) (sym is) ∙ drop_at (t ++ job_bytes) index_bytes 24 front) ∙ refl)
            ∙ from_be_bytes-to_be_bytes_4 n fn,
      )

-- an id is made where job and index are at least 1
pub IfOk-new : (r : Result ObjectId Refusal) (id : ObjectId) (P : ObjectId → Type 0) → (1 ≤ id.job.0 → 1 ≤ id.index → r ≡ Ok id)
    → (id.job.0 ≡ 0 → r ≡ Err BadId) → (id.index ≡ 0 → r ≡ Err BadId) → P id → IfOk r P
IfOk-new r id P made no_job no_index h =
    elim (cases_lt 0 id.job.0) [
      | inl job ↦
          elim (cases_lt 0 id.index) [
            | inl index ↦ rw (made (omega arith) (omega arith)) h
            | inr none ↦ rw (no_index (omega arith)) tt
          ]
      | inr none ↦ rw (no_job (omega arith)) tt
    ]

-- bytes after bytes are bytes
pub bytes-append : (xs ys : List ℕ) → ((k : ℕ) → get_or xs k 0 < 256) → ((k : ℕ) → get_or ys k 0 < 256) → (k : ℕ) → get_or (xs ++ ys) k 0 < 256
bytes-append [] ys hx hy k = hy k
bytes-append (x ∷ xs) ys hx hy zero = hx 0
bytes-append (x ∷ xs) ys hx hy (suc k) = bytes-append xs ys (λ j. hx (suc j)) hy k

bytes-to_be_bytes : (n k : ℕ) → get_or (to_be_bytes w32 n) k 0 < 256
bytes-to_be_bytes n zero = omega arith
bytes-to_be_bytes n (suc zero) = omega arith
bytes-to_be_bytes n (suc (suc zero)) = omega arith
bytes-to_be_bytes n (suc (suc (suc zero))) = omega arith
bytes-to_be_bytes n (suc (suc (suc (suc k)))) = omega arith

-- the bytes of an id are 28
pub length-id_bytes : (id : ObjectId) → IsId id → length (id_bytes id) ≡ 28
length-id_bytes id h =
    omega (arith, h.task_length, length-append (id.task.0 ++ to_be_bytes w32 id.job.0) (to_be_bytes w32 id.index), length-append id.task.0 (to_be_bytes w32 id.job.0))

-- and bytes
pub bytes-id_bytes : (id : ObjectId) → IsId id → (k : ℕ) → get_or (id_bytes id) k 0 < 256
bytes-id_bytes id h =
    bytes-append _ (to_be_bytes w32 id.index) (bytes-append id.task.0 (to_be_bytes w32 id.job.0) h.task_bytes (bytes-to_be_bytes id.job.0)) (bytes-to_be_bytes id.index)
