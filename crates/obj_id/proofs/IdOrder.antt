-- The order of ids is the order of their bytes.
use Rattle.std.proofs.Common.{◌≡◌, ◌≢◌, ℕ, suc, ◌+◌, ◌*◌, ◌/◌, ◌%◌, ◌<◌, ◌^◌, List, [], ◌∷◌, ◌++◌, length, take, drop, get_or, refl, sym, ap, ◌∙◌, arith}
use Rattle.std.proofs.lemmas.Bool.Decides.{nat_tests}
use Rattle.std.proofs.lemmas.List.{length-append, length-drop, length-take-le, take-append-drop, drop-drop}
use Rattle.std.proofs.lemmas.Cmp.{nat_cmp_total}
use Rattle.std.specs.Cmp.{tied_itself}
use Rattle.std.specs.Cmp.Lexicographic.{slice_cmp}
use Rattle.std.specs.FinMap.{nat_cmp-IsAntisymmetric}
use Rattle.std.specs.Int.{Width, from_be_bytes, to_be_bytes, w32, w64}
use Rattle.std.specs.Slice.Scan.{big_endian}
use Rattle.std.specs.Ordering.{nat_cmp, ordering_then}
use Rattle.std.specs.declared.cmp.Ordering.{Ordering}
use Rattle.std.specs.declared.cmp.Ordering.TheVariants.{Less, Equal, Greater}
use Rattle.obj_id.specs.Ids.{IsId, IsTask, id_bytes, id_cmp, task_cmp}
use Rattle.obj_id.specs.declared.ids.ObjectId.{ObjectId}
use Rattle.obj_id.specs.declared.ids.TaskNo.{TaskNo}
use Rattle.obj_id.proofs.IdBytes.{bytes-drop, bytes-take}

then_assoc : (r s t : Ordering) → ordering_then (ordering_then r s) t ≡ ordering_then r (ordering_then s t)
then_assoc Less s t = refl
then_assoc Equal s t = refl
then_assoc Greater s t = refl

then_equal : (r : Ordering) → ordering_then r Equal ≡ r
then_equal Less = refl
then_equal Equal = refl
then_equal Greater = refl

then_four : (r s t u : Ordering)
    → ordering_then (ordering_then (ordering_then r s) t) u ≡ ordering_then r (ordering_then s (ordering_then t (ordering_then u Equal)))
then_four Less s t u = refl
then_four Greater s t u = refl
then_four Equal Less t u = refl
then_four Equal Greater t u = refl
then_four Equal Equal Less u = refl
then_four Equal Equal Greater u = refl
then_four Equal Equal Equal Less = refl
then_four Equal Equal Equal Equal = refl
then_four Equal Equal Equal Greater = refl

-- the lowest byte decides last
nat_cmp-byte : (m n : ℕ) → nat_cmp m n ≡ ordering_then (nat_cmp (m / 256) (n / 256)) (nat_cmp (m % 256) (n % 256))
nat_cmp-byte m n = grind (arith, nat_tests)

-- numbers of 32 bits are ordered as their bytes, the highest first
nat_cmp-to_be_bytes : (m n : ℕ) → m < 2 ^ 32 → n < 2 ^ 32 → nat_cmp m n ≡ slice_cmp nat_cmp (to_be_bytes w32 m) (to_be_bytes w32 n)
nat_cmp-to_be_bytes m n hm hn =
    nat_cmp-byte m n
    ∙ (λ i. ordering_then ((nat_cmp-byte (m / 256) (n / 256)
    ∙ λ j. ordering_then (nat_cmp-byte (m / 256 / 256) (n / 256 / 256) j) (nat_cmp (m / 256 % 256) (n / 256 % 256))) i) (nat_cmp (m % 256) (n % 256)))
    ∙ then_four (nat_cmp (m / 256 / 256 / 256) (n / 256 / 256 / 256)) (nat_cmp (m / 256 / 256 % 256) (n / 256 / 256 % 256)) (nat_cmp (m / 256 % 256) (n / 256 % 256)) (nat_cmp (m % 256) (n % 256))
    ∙ (λ i. ordering_then (nat_cmp (top m hm i) (top n hn i)) (ordering_then (nat_cmp (next m i) (next n i))
    (ordering_then (nat_cmp (m / 256 % 256) (n / 256 % 256)) (ordering_then (nat_cmp (m % 256) (n % 256)) Equal))))
  where
    top : (k : ℕ) → k < 2 ^ 32 → k / 256 / 256 / 256 ≡ k / 16777216 % 256
    top k h = omega arith

    next : (k : ℕ) → k / 256 / 256 % 256 ≡ k / 65536 % 256
    next k = omega arith

-- lists of the same length, and then further lists
slice_cmp-append : (xs ys us vs : List ℕ) → length xs ≡ length ys
    → slice_cmp nat_cmp (xs ++ us) (ys ++ vs) ≡ ordering_then (slice_cmp nat_cmp xs ys) (slice_cmp nat_cmp us vs)
slice_cmp-append [] [] us vs h = refl
slice_cmp-append [] (y ∷ ys) us vs h = absurd (omega arith)
slice_cmp-append (x ∷ xs) [] us vs h = absurd (omega arith)
slice_cmp-append (x ∷ xs) (y ∷ ys) us vs h =
    ap (ordering_then (nat_cmp x y)) (slice_cmp-append xs ys us vs (omega arith))
    ∙ sym (then_assoc (nat_cmp x y) (slice_cmp nat_cmp xs ys) (slice_cmp nat_cmp us vs))

-- a digit of 256 more decides last
nat_cmp-digit : (m n x y : ℕ) → x < 256 → y < 256 → nat_cmp (m * 256 + x) (n * 256 + y) ≡ ordering_then (nat_cmp m n) (nat_cmp x y)
nat_cmp-digit m n x y hx hy = grind (arith, nat_tests, hx, hy)

-- numbers are ordered as the bytes that spell them, after what stood before
big_endian-order : (xs ys : List ℕ) (m n : ℕ) → length xs ≡ length ys → ((i : ℕ) → get_or xs i 0 < 256) → ((i : ℕ) → get_or ys i 0 < 256)
    → nat_cmp (big_endian m xs) (big_endian n ys) ≡ ordering_then (nat_cmp m n) (slice_cmp nat_cmp xs ys)
big_endian-order [] [] m n h hx hy = sym (then_equal (nat_cmp m n))
big_endian-order [] (y ∷ ys) m n h hx hy = absurd (omega arith)
big_endian-order (x ∷ xs) [] m n h hx hy = absurd (omega arith)
big_endian-order (x ∷ xs) (y ∷ ys) m n h hx hy =
    big_endian-order xs ys (m * 256 + x) (n * 256 + y) (omega arith) (λ i. hx (suc i)) (λ i. hy (suc i))
    ∙ ap (λ r. ordering_then r (slice_cmp nat_cmp xs ys)) (nat_cmp-digit m n x y (hx 0) (hy 0))
    ∙ then_assoc (nat_cmp m n) (nat_cmp x y) (slice_cmp nat_cmp xs ys)

-- eight bytes, and four, spell the same number with nothing before them
spelled_8 : (xs : List ℕ) → length xs ≡ 8 → from_be_bytes w64 xs ≡ big_endian 0 xs
spelled_8 (a ∷ b ∷ c ∷ d ∷ e ∷ f ∷ g ∷ h ∷ []) len = omega arith
spelled_8 [] len = absurd (omega (arith, len))
spelled_8 (a ∷ []) len = absurd (omega (arith, len))
spelled_8 (a ∷ b ∷ []) len = absurd (omega (arith, len))
spelled_8 (a ∷ b ∷ c ∷ []) len = absurd (omega (arith, len))
spelled_8 (a ∷ b ∷ c ∷ d ∷ []) len = absurd (omega (arith, len))
spelled_8 (a ∷ b ∷ c ∷ d ∷ e ∷ []) len = absurd (omega (arith, len))
spelled_8 (a ∷ b ∷ c ∷ d ∷ e ∷ f ∷ []) len = absurd (omega (arith, len))
spelled_8 (a ∷ b ∷ c ∷ d ∷ e ∷ f ∷ g ∷ []) len = absurd (omega (arith, len))
spelled_8 (a ∷ b ∷ c ∷ d ∷ e ∷ f ∷ g ∷ h ∷ i ∷ rest) len = absurd (omega (arith, len))

spelled_4 : (xs : List ℕ) → length xs ≡ 4 → from_be_bytes w32 xs ≡ big_endian 0 xs
spelled_4 (a ∷ b ∷ c ∷ d ∷ []) len = omega arith
spelled_4 [] len = absurd (omega (arith, len))
spelled_4 (a ∷ []) len = absurd (omega (arith, len))
spelled_4 (a ∷ b ∷ []) len = absurd (omega (arith, len))
spelled_4 (a ∷ b ∷ c ∷ []) len = absurd (omega (arith, len))
spelled_4 (a ∷ b ∷ c ∷ d ∷ e ∷ rest) len = absurd (omega (arith, len))

words_order : (width : Width) (size : ℕ) → ((zs : List ℕ) → length zs ≡ size → from_be_bytes width zs ≡ big_endian 0 zs)
    → (xs ys : List ℕ) → length xs ≡ size → length ys ≡ size → ((i : ℕ) → get_or xs i 0 < 256) → ((i : ℕ) → get_or ys i 0 < 256)
    → nat_cmp (from_be_bytes width xs) (from_be_bytes width ys) ≡ slice_cmp nat_cmp xs ys
words_order width size spelled xs ys lx ly hx hy =
    (λ i. nat_cmp (spelled xs lx i) (spelled ys ly i)) ∙ big_endian-order xs ys 0 0 (lx ∙ sym ly) hx hy

-- 20 bytes in three parts
split_20 : (xs : List ℕ) → xs ≡ take 8 xs ++ (take 4 (drop 8 xs) ++ drop 12 xs)
split_20 xs = sym (take-append-drop 8 xs) ∙ ap (λ rest. take 8 xs ++ rest) (sym (take-append-drop 4 (drop 8 xs)) ∙ ap (λ rest. take 4 (drop 8 xs) ++ rest) (drop-drop 4 8 xs))

-- tasks are ordered as three numbers of their bytes
task_cmp-words : (a b : TaskNo) → IsTask a → IsTask b
    → ordering_then (ordering_then (nat_cmp (from_be_bytes w64 (take 8 a.0)) (from_be_bytes w64 (take 8 b.0))) (nat_cmp (from_be_bytes w32 (take 4 (drop 8 a.0))) (from_be_bytes w32 (take 4 (drop 8 b.0)))))
    (nat_cmp (from_be_bytes w64 (drop 12 a.0)) (from_be_bytes w64 (drop 12 b.0))) ≡ task_cmp a b
task_cmp-words a b ha hb =
    let front_a : length (take 8 a.0) ≡ 8 = length-take-le 8 a.0 (omega (arith, ha.task_length)) in
    let front_b : length (take 8 b.0) ≡ 8 = length-take-le 8 b.0 (omega (arith, hb.task_length)) in
    let middle_a : length (take 4 (drop 8 a.0)) ≡ 4 = length-take-le 4 (drop 8 a.0) (omega (arith, length-drop 8 a.0, ha.task_length)) in
    let middle_b : length (take 4 (drop 8 b.0)) ≡ 4 = length-take-le 4 (drop 8 b.0) (omega (arith, length-drop 8 b.0, hb.task_length)) in
    let back_a : length (drop 12 a.0) ≡ 8 = omega (arith, length-drop 12 a.0, ha.task_length) in
    let back_b : length (drop 12 b.0) ≡ 8 = omega (arith, length-drop 12 b.0, hb.task_length) in
    (λ i. ordering_then (ordering_then
    (words_order w64 8 spelled_8 (take 8 a.0) (take 8 b.0) front_a front_b (bytes-take a.0 8 ha.task_bytes) (bytes-take b.0 8 hb.task_bytes) i)
    (words_order w32 4 spelled_4 (take 4 (drop 8 a.0)) (take 4 (drop 8 b.0)) middle_a middle_b (bytes-take (drop 8 a.0) 4 (bytes-drop a.0 8 ha.task_bytes)) (bytes-take (drop 8 b.0) 4 (bytes-drop b.0 8 hb.task_bytes)) i))
    (words_order w64 8 spelled_8 (drop 12 a.0) (drop 12 b.0) back_a back_b (bytes-drop a.0 12 ha.task_bytes) (bytes-drop b.0 12 hb.task_bytes) i))
    ∙ then_assoc (slice_cmp nat_cmp (take 8 a.0) (take 8 b.0)) (slice_cmp nat_cmp (take 4 (drop 8 a.0)) (take 4 (drop 8 b.0))) (slice_cmp nat_cmp (drop 12 a.0) (drop 12 b.0))
    ∙ ap (ordering_then (slice_cmp nat_cmp (take 8 a.0) (take 8 b.0))) (sym (slice_cmp-append (take 4 (drop 8 a.0)) (take 4 (drop 8 b.0)) (drop 12 a.0) (drop 12 b.0) (middle_a ∙ sym middle_b)))
    ∙ sym (slice_cmp-append (take 8 a.0) (take 8 b.0) (take 4 (drop 8 a.0) ++ drop 12 a.0) (take 4 (drop 8 b.0) ++ drop 12 b.0) (front_a ∙ sym front_b))
    ∙ sym (λ i. slice_cmp nat_cmp (split_20 a.0 i) (split_20 b.0 i))

-- numbers that differ decide, and the same ones leave it to what follows
then_apart : (m n : ℕ) (rest : Ordering) → m ≢ n → ordering_then (nat_cmp m n) rest ≡ nat_cmp m n
then_apart m n rest apart = by (nat_cmp m n) refl
  where
    by : (o : Ordering) → nat_cmp m n ≡ o → ordering_then o rest ≡ o
    by Less is = refl
    by Equal is = absurd (apart (nat_cmp-IsAntisymmetric m n is))
    by Greater is = refl

then_alike : (m n : ℕ) (rest : Ordering) → m ≡ n → ordering_then (nat_cmp m n) rest ≡ rest
then_alike m n rest alike = ap (λ o. ordering_then o rest) (ap (λ k. nat_cmp k n) alike ∙ tied_itself nat_cmp_total n)

-- tasks are ordered as the first two of their numbers that differ
module _ (a b : TaskNo) (ha : IsTask a) (hb : IsTask b) (f g m n p q : ℕ)
    (fa : f ≡ from_be_bytes w64 (take 8 a.0)) (gb : g ≡ from_be_bytes w64 (take 8 b.0))
    (ma : m ≡ from_be_bytes w32 (take 4 (drop 8 a.0))) (nb : n ≡ from_be_bytes w32 (take 4 (drop 8 b.0)))
    (pa : p ≡ from_be_bytes w64 (drop 12 a.0)) (qb : q ≡ from_be_bytes w64 (drop 12 b.0)) where
  by_words : ordering_then (ordering_then (nat_cmp f g) (nat_cmp m n)) (nat_cmp p q) ≡ task_cmp a b
  by_words = (λ i. ordering_then (ordering_then (nat_cmp (fa i) (gb i)) (nat_cmp (ma i) (nb i))) (nat_cmp (pa i) (qb i))) ∙ task_cmp-words a b ha hb

  pub first_decides : f ≢ g → nat_cmp f g ≡ task_cmp a b
  first_decides apart =
      sym (ap (λ o. ordering_then o (nat_cmp p q)) (then_apart f g (nat_cmp m n) apart) ∙ then_apart f g (nat_cmp p q) apart) ∙ by_words

  pub second_decides : f ≡ g → m ≢ n → nat_cmp m n ≡ task_cmp a b
  second_decides alike apart =
      sym (ap (λ o. ordering_then o (nat_cmp p q)) (then_alike f g (nat_cmp m n) alike) ∙ then_apart m n (nat_cmp p q) apart) ∙ by_words

  pub third_decides : f ≡ g → m ≡ n → nat_cmp p q ≡ task_cmp a b
  third_decides alike also =
      sym (ap (λ o. ordering_then o (nat_cmp p q)) (then_alike f g (nat_cmp m n) alike) ∙ then_alike m n (nat_cmp p q) also) ∙ by_words

-- the order of ids is the order of their 28 bytes
pub id_cmp-id_bytes : (a b : ObjectId) → IsId a → IsId b → id_cmp a b ≡ slice_cmp nat_cmp (id_bytes a) (id_bytes b)
id_cmp-id_bytes a b ha hb =
    let job_a : List ℕ = to_be_bytes w32 a.job.0 in
    let job_b : List ℕ = to_be_bytes w32 b.job.0 in
    let index_a : List ℕ = to_be_bytes w32 a.index in
    let index_b : List ℕ = to_be_bytes w32 b.index in
    let front : length (a.task.0 ++ job_a) ≡ length (b.task.0 ++ job_b) =
    omega (arith, length-append a.task.0 job_a, length-append b.task.0 job_b, ha.task_length, hb.task_length) in
    sym (slice_cmp-append (a.task.0 ++ job_a) (b.task.0 ++ job_b) index_a index_b front
    ∙ ap (λ r. ordering_then r (slice_cmp nat_cmp index_a index_b)) (slice_cmp-append a.task.0 b.task.0 job_a job_b (ha.task_length ∙ sym hb.task_length))
    ∙ then_assoc (slice_cmp nat_cmp a.task.0 b.task.0) (slice_cmp nat_cmp job_a job_b) (slice_cmp nat_cmp index_a index_b)
    ∙ (λ i. ordering_then (slice_cmp nat_cmp a.task.0 b.task.0)
    (ordering_then (sym (nat_cmp-to_be_bytes a.job.0 b.job.0 ha.job_fits hb.job_fits) i) (sym (nat_cmp-to_be_bytes a.index b.index ha.index_fits hb.index_fits) i))))
