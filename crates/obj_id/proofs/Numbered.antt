-- Tasks that have a number.
use Rattle.std.proofs.Common.{◌≡◌, ℕ, zero, suc, ◌<◌, ◌^◌, ◌==◌, true, List, [], ◌∷◌, ◌++◌, length, take, drop, replicate, get_or, refl, sym, ap, ◌∙◌, arith, IsTrue}
use Rattle.std.proofs.lemmas.Bool.{and_parts, eqb-true}
use Rattle.std.proofs.lemmas.List.{length-drop, length-take-le, take-append-drop}
use Rattle.std.proofs.lemmas.Nat.{be_bytes_8, from_be_bytes-to_be_bytes_8}
use Rattle.std.specs.Int.{from_be_bytes, to_be_bytes, w64}
use Rattle.std.specs.List.{list_all}
use Rattle.obj_id.specs.Ids.{IsTask}
use Rattle.obj_id.specs.Texts.{has_short_text, numbered_task, task_number}
use Rattle.obj_id.specs.declared.ids.TaskNo.{TaskNo}
use Rattle.obj_id.proofs.IdBytes.{bytes-append, bytes-drop}

all_zero : (xs : List ℕ) → list_all (λ byte. byte == 0) xs ≡ true → xs ≡ replicate (length xs) 0
all_zero [] h = refl
all_zero (x ∷ xs) h =
    let parts = and_parts (x == 0) (list_all (λ byte. byte == 0) xs) h in
    λ i. eqb-true x 0 parts.0 i ∷ all_zero xs parts.1 i

-- the task of a number has that number
pub task_number-numbered : (n : ℕ) → n < 2 ^ 64 → task_number (numbered_task n) ≡ n
unfolding task_number
task_number-numbered n fits = from_be_bytes-to_be_bytes_8 n fits

bytes-number : (n k : ℕ) → get_or (to_be_bytes w64 n) k 0 < 256
bytes-number n zero = omega arith
bytes-number n (suc zero) = omega arith
bytes-number n (suc (suc zero)) = omega arith
bytes-number n (suc (suc (suc zero))) = omega arith
bytes-number n (suc (suc (suc (suc zero)))) = omega arith
bytes-number n (suc (suc (suc (suc (suc zero))))) = omega arith
bytes-number n (suc (suc (suc (suc (suc (suc zero)))))) = omega arith
bytes-number n (suc (suc (suc (suc (suc (suc (suc zero))))))) = omega arith
bytes-number n (suc (suc (suc (suc (suc (suc (suc (suc k)))))))) = omega arith

zero_bytes : (n k : ℕ) → get_or (replicate n 0) k 0 < 256
zero_bytes zero k = omega arith
zero_bytes (suc n) zero = omega arith
zero_bytes (suc n) (suc k) = zero_bytes n k

-- and is a task
pub IsTask-numbered : (n : ℕ) → IsTask (numbered_task n)
IsTask-numbered n = record { task_length = refl; task_bytes = bytes-append (replicate 12 0) (to_be_bytes w64 n) (zero_bytes 12) (bytes-number n) }

-- and there is no other
pub numbered-task_number : (task : TaskNo) → IsTask task → IsTrue (has_short_text task) → task ≡ numbered_task (task_number task)
unfolding task_number
numbered-task_number task is short =
    let front : length (take 12 task.0) ≡ 12 = length-take-le 12 task.0 (omega (arith, is.task_length)) in
    let zeros : take 12 task.0 ≡ replicate 12 0 = all_zero (take 12 task.0) short ∙ ap (λ n. replicate n 0) front in
    let number : to_be_bytes w64 (from_be_bytes w64 (drop 12 task.0)) ≡ drop 12 task.0 =
    be_bytes_8 (drop 12 task.0) _ (omega (arith, length-drop 12 task.0, is.task_length)) (bytes-drop task.0 12 is.task_bytes) refl in
    let bytes : task.0 ≡ replicate 12 0 ++ to_be_bytes w64 (from_be_bytes w64 (drop 12 task.0)) =
    sym (take-append-drop 12 task.0) ∙ (λ i. zeros i ++ sym number i) in
    λ i. record { 0 = bytes i }

-- a task's number has 64 bits
pub task_number-lt : (task : TaskNo) → IsTask task → task_number task < 2 ^ 64
unfolding task_number
task_number-lt task is =
    let h = bytes-drop task.0 12 is.task_bytes in
    omega (arith, h 0, h 1, h 2, h 3, h 4, h 5, h 6, h 7)
