-- Texts without a space, a colon, an equals sign and a line feed, at which a journal, its lines and their fields are cut.
use Rattle.std.proofs.Common.{◌≡◌, ◌≢◌, ℕ, zero, suc, ◌/◌, ◌%◌, ◌<◌, ◌^◌, ◌==◌, not, ◌&&◌, Bool, true, false, if◌then◌else◌, List, [], ◌∷◌, ◌++◌, get_or, All, refl, sym, ap, ◌∙◌, arith, decimal, codes, append-nil, append_assoc, ne_eqb}
use Rattle.std.proofs.lemmas.Bool.{and_parts, eqb-false}
use Rattle.std.proofs.lemmas.List.Folds.{list_all-append}
use Rattle.std.proofs.lemmas.List.Splits.{slice_split_at, slice_split_none}
use Rattle.std.proofs.lemmas.List.Sums.{AllPass-from_list_all}
use Rattle.std.specs.Bool.{⊤}
use Rattle.std.specs.List.{list_all, slice_split}
use Rattle.hex.specs.Hex.{encode_lower, encode_with, lower_digits}
use Rattle.store_facts.proofs.Ids.{task_number-lt, IsTask-task, Without, Without-decimal}
use Rattle.obj_id.specs.Ids.{IsId, IsTask, id_bytes}
use Rattle.obj_id.specs.Texts.{full_task_text, full_text, has_short_text, id_text, own_text, owner_text, short_task_text, short_text, task_number, task_text}
use Rattle.obj_id.specs.declared.ids.ObjectId.{ObjectId}
use Rattle.obj_id.specs.declared.ids.TaskNo.{TaskNo}
use Rattle.schedule_text.specs.Fields.{fields_of}
use Rattle.journal_text.specs.Locations.{parts_of}
use Rattle.journal_text.specs.Printing.{spaced_text}

abbrev pub is_plain : ℕ → Bool
is_plain b = not (b == 32) && (not (b == 58) && (not (b == 61) && not (b == 10)))

abbrev pub Plain : List ℕ → Type 0
Plain text = list_all is_plain text ≡ true

abbrev pub AllPlain : List (List ℕ) → Type 0
AllPlain [] = ⊤
AllPlain (f ∷ fs) = Plain f × AllPlain fs

pub Plain-append : (xs ys : List ℕ) → Plain xs → Plain ys → Plain (xs ++ ys)
Plain-append xs ys hx hy = list_all-append is_plain xs ys ∙ (λ i. hx i && hy i)

-- ---- numbers and digits

Plain-without : (xs : List ℕ) → Without 32 xs → Without 58 xs → Without 61 xs → Without 10 xs → Plain xs
Plain-without [] a b c e = refl
Plain-without (x ∷ xs) a b c e =
    let space = ne_eqb x 32 (a 0 (omega arith)) in
    let colon = ne_eqb x 58 (b 0 (omega arith)) in
    let equals = ne_eqb x 61 (c 0 (omega arith)) in
    let feed = ne_eqb x 10 (e 0 (omega arith)) in
    let rest = Plain-without xs (λ i lt. a (suc i) (omega arith)) (λ i lt. b (suc i) (omega arith)) (λ i lt. c (suc i) (omega arith)) (λ i lt. e (suc i) (omega arith)) in
    λ i. (not (space i) && (not (colon i) && (not (equals i) && not (feed i)))) && rest i

pub Plain-decimal : (n : ℕ) → n < 2 ^ 64 → Plain (decimal n)
Plain-decimal n fits =
    Plain-without (decimal n) (Without-decimal 32 n fits (λ range. omega arith)) (Without-decimal 58 n fits (λ range. omega arith))
    (Without-decimal 61 n fits (λ range. omega arith)) (Without-decimal 10 n fits (λ range. omega arith))

plain_at : (xs : List ℕ) → Plain xs → (d : ℕ) → is_plain (get_or xs d 0) ≡ true
plain_at [] h d = refl
plain_at (x ∷ xs) h zero = (and_parts _ _ h).0
plain_at (x ∷ xs) h (suc d) = plain_at xs (and_parts _ _ h).1 d

pub Plain-encode_lower : (xs : List ℕ) → Plain (encode_lower xs)
unfolding encode_with
Plain-encode_lower [] = refl
Plain-encode_lower (b ∷ xs) =
    let high = plain_at lower_digits refl (b / 16) in
    let low = plain_at lower_digits refl (b % 16) in
    let rest = Plain-encode_lower xs in
    λ i. high i && (low i && rest i)

-- ---- tasks and ids

Plain-short_task_text : (task : TaskNo) → IsTask task → Plain (short_task_text task)
Plain-short_task_text task is = Plain-append (codes "t") (decimal (task_number task)) refl (Plain-decimal (task_number task) (task_number-lt task is))

pub Plain-task_text : (task : TaskNo) → IsTask task → Plain (task_text task)
Plain-task_text task is =
    elim (has_short_text task) as (λ b. Plain (if b then short_task_text task else full_task_text task)) [
      | true ↦ Plain-short_task_text task is
      | false ↦ Plain-encode_lower task.0
    ]

pub Plain-id_text : (job : ℕ) (id : ObjectId) → IsId id → Plain (id_text job id)
Plain-id_text job id is =
    elim (has_short_text id.task) as (λ b. Plain (if b then short_text job id else full_text id)) [
      | true ↦ Plain-append (owner_text (job == id.job.0) id.job.0) (own_text id) (owner (job == id.job.0)) own
      | false ↦ Plain-encode_lower (id_bytes id)
    ]
  where
    owner : (b : Bool) → Plain (owner_text b id.job.0)
    owner true = refl
    owner false = Plain-append (decimal id.job.0) (codes "/") (Plain-decimal id.job.0 (omega (arith, is.job_fits))) refl

    own : Plain (own_text id)
    own =
        Plain-append (short_task_text id.task ++ codes ".") (decimal id.index)
        (Plain-append (short_task_text id.task) (codes ".") (Plain-short_task_text id.task (IsTask-task id is)) refl)
        (Plain-decimal id.index (omega (arith, is.index_fits)))

-- ---- fields, in which colons may stand

abbrev is_in_field : ℕ → Bool
is_in_field b = not (b == 32) && (not (b == 61) && not (b == 10))

abbrev pub Field : List ℕ → Type 0
Field text = list_all is_in_field text ≡ true

abbrev pub AllFields : List (List ℕ) → Type 0
AllFields [] = ⊤
AllFields (f ∷ fs) = Field f × AllFields fs

pub Field-append : (xs ys : List ℕ) → Field xs → Field ys → Field (xs ++ ys)
Field-append xs ys hx hy = list_all-append is_in_field xs ys ∙ (λ i. hx i && hy i)

pub Field-plain : (xs : List ℕ) → Plain xs → Field xs
Field-plain [] h = refl
Field-plain (x ∷ xs) h =
    let parts = and_parts (is_plain x) (list_all is_plain xs) h in
    let byte = and_parts (not (x == 32)) (not (x == 58) && (not (x == 61) && not (x == 10))) parts.0 in
    let space = byte.0 in
    let others = (and_parts (not (x == 58)) (not (x == 61) && not (x == 10)) byte.1).1 in
    let rest = Field-plain xs parts.1 in
    λ i. (space i && others i) && rest i

pub AllFields-plain : (fs : List (List ℕ)) → AllPlain fs → AllFields fs
AllFields-plain [] h = tt
AllFields-plain (f ∷ fs) h = (Field-plain f h.0, AllFields-plain fs h.1)

pub AllFields-append : (fs gs : List (List ℕ)) → AllFields fs → AllFields gs → AllFields (fs ++ gs)
AllFields-append [] gs hf hg = hg
AllFields-append (f ∷ fs) gs hf hg = (hf.0, AllFields-append fs gs hf.1 hg)

-- ---- cuts

not_true : (t : Bool) → not t ≡ true → t ≡ false
not_true true h = cc
not_true false h = refl

no_space : (xs : List ℕ) → Field xs → All (λ b. (b == 32) ≡ false) xs
no_space xs h = λ k d l. not_true _ (and_parts _ _ (AllPass-from_list_all is_in_field xs h k d l)).0

no_colon : (xs : List ℕ) → Plain xs → All (λ b. (b == 58) ≡ false) xs
no_colon xs h = λ k d l. not_true _ (and_parts _ _ (and_parts _ _ (AllPass-from_list_all is_plain xs h k d l)).1).0

-- fields with a space between them are cut apart
pub fields_of-spaced : (f : List ℕ) (fs : List (List ℕ)) → Field f → AllFields fs → fields_of (f ++ spaced_text fs) ≡ f ∷ fs
fields_of-spaced f [] h hs = ap fields_of (append-nil f) ∙ slice_split_none (λ b. b == 32) f (no_space f h)
fields_of-spaced f (g ∷ gs) h hs =
    slice_split_at (λ b. b == 32) f 32 (g ++ spaced_text gs) (no_space f h) refl ∙ ap (λ rest. f ∷ rest) (fields_of-spaced g gs hs.0 hs.1)

-- parts with a colon between them are cut apart
pub cut_part : (f rest : List ℕ) → Plain f → parts_of (f ++ (58 ∷ rest)) ≡ f ∷ parts_of rest
cut_part f rest h = slice_split_at (λ b. b == 58) f 58 rest (no_colon f h) refl

pub last_part : (f : List ℕ) → Plain f → parts_of f ≡ f ∷ []
last_part f h = slice_split_none (λ b. b == 58) f (no_colon f h)

-- a field more at the end
pub spaced_text-more : (fs : List (List ℕ)) (f : List ℕ) → spaced_text (fs ++ (f ∷ [])) ≡ spaced_text fs ++ (32 ∷ f)
spaced_text-more [] f = ap (λ rest. 32 ∷ rest) (append-nil f)
spaced_text-more (g ∷ gs) f = ap (λ rest. 32 ∷ rest) (ap (λ rest. g ++ rest) (spaced_text-more gs f) ∙ sym (append_assoc g (spaced_text gs) (32 ∷ f)))

-- ---- lines without an equals sign

abbrev is_unequal : ℕ → Bool
is_unequal b = not (b == 61)

abbrev pub Unequal : List ℕ → Type 0
Unequal text = list_all is_unequal text ≡ true

pub Unequal-append : (xs ys : List ℕ) → Unequal xs → Unequal ys → Unequal (xs ++ ys)
Unequal-append xs ys hx hy = list_all-append is_unequal xs ys ∙ (λ i. hx i && hy i)

Unequal-field : (xs : List ℕ) → Field xs → Unequal xs
Unequal-field [] h = refl
Unequal-field (x ∷ xs) h =
    let parts = and_parts (is_in_field x) (list_all is_in_field xs) h in
    let byte = and_parts (not (x == 32)) (not (x == 61) && not (x == 10)) parts.0 in
    let equals = (and_parts (not (x == 61)) (not (x == 10)) byte.1).0 in
    let rest = Unequal-field xs parts.1 in
    λ i. equals i && rest i

Unequal-spaces : (fs : List (List ℕ)) → AllFields fs → Unequal (spaced_text fs)
Unequal-spaces [] h = refl
Unequal-spaces (f ∷ fs) h = Unequal-append f (spaced_text fs) (Unequal-field f h.0) (Unequal-spaces fs h.1)

pub Unequal-spaced : (f : List ℕ) (fs : List (List ℕ)) → Field f → AllFields fs → Unequal (f ++ spaced_text fs)
Unequal-spaced f fs h hs = Unequal-append f (spaced_text fs) (Unequal-field f h) (Unequal-spaces fs hs)

none_equal : (xs : List ℕ) → Unequal xs → All (λ b. (b == 61) ≡ false) xs
none_equal xs h = λ k d l. not_true _ (AllPass-from_list_all is_unequal xs h k d l)

-- two texts are cut apart at the equals sign between them
pub cut_once : (front back : List ℕ) → Unequal front → Unequal back → slice_split (λ b. b == 61) (front ++ (61 ∷ back)) ≡ front ∷ back ∷ []
cut_once front back hf hb =
    slice_split_at (λ b. b == 61) front 61 back (none_equal front hf) refl
    ∙ ap (λ rest. front ∷ rest) (slice_split_none (λ b. b == 61) back (none_equal back hb))

-- ---- lines without a line feed

abbrev is_whole : ℕ → Bool
is_whole b = not (b == 10)

abbrev pub Whole : List ℕ → Type 0
Whole text = list_all is_whole text ≡ true

pub Whole-append : (xs ys : List ℕ) → Whole xs → Whole ys → Whole (xs ++ ys)
Whole-append xs ys hx hy = list_all-append is_whole xs ys ∙ (λ i. hx i && hy i)

Whole-field : (xs : List ℕ) → Field xs → Whole xs
Whole-field [] h = refl
Whole-field (x ∷ xs) h =
    let parts = and_parts (is_in_field x) (list_all is_in_field xs) h in
    let byte = and_parts (not (x == 32)) (not (x == 61) && not (x == 10)) parts.0 in
    let feed = (and_parts (not (x == 61)) (not (x == 10)) byte.1).1 in
    let rest = Whole-field xs parts.1 in
    λ i. feed i && rest i

Whole-spaces : (fs : List (List ℕ)) → AllFields fs → Whole (spaced_text fs)
Whole-spaces [] h = refl
Whole-spaces (f ∷ fs) h = Whole-append f (spaced_text fs) (Whole-field f h.0) (Whole-spaces fs h.1)

pub Whole-spaced : (f : List ℕ) (fs : List (List ℕ)) → Field f → AllFields fs → Whole (f ++ spaced_text fs)
Whole-spaced f fs h hs = Whole-append f (spaced_text fs) (Whole-field f h) (Whole-spaces fs hs)

pub none_feeds : (xs : List ℕ) → Whole xs → All (λ b. b ≢ 10) xs
none_feeds xs h = λ k d l. eqb-false _ 10 (not_true _ (AllPass-from_list_all is_whole xs h k d l))
