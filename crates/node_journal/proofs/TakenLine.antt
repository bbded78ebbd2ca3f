-- How many works of a job in the line are taken, and what becomes of that.
use Rattle.std.proofs.Common.{◌≡◌, ℕ, ◌+◌, ◌≤◌, suc, Bool, true, false, not, cond, ◌==◌, ◌&&◌, ◌||◌, List, [], ◌∷◌, ◌++◌, map, filter, length, take, Option, Some, None, refl, sym, ap, subst, ◌∙◌, arith}
use Rattle.std.specs.Prelude.{option_map, slice_get}
use Rattle.std.specs.List.{find, list_all, list_any}
use Rattle.std.proofs.lemmas.Bool.Decides.{nat_tests}
use Rattle.std.proofs.lemmas.List.{length-append}
use Rattle.std.proofs.lemmas.List.Elements.{filter-append}
use Rattle.std.proofs.lemmas.List.Folds.{list_all-append}
use Rattle.obj_id.specs.declared.ids.JobNo.{JobNo}
use Rattle.private_store.specs.rules.Shape.{WorkInFlight}
use Rattle.store_facts.proofs.KeptLists.{all-filter}
use Rattle.store_facts.proofs.Tests.{both, both_left, both_right, none_some, some_value, true_false}
use Rattle.spill_work.specs.declared.queue.IoRequest.{IoRequest}
use Rattle.spill_work.specs.declared.queue.Queued.{Queued}
use Rattle.spill_work.specs.Line.{same_work_job, shown, is_of, is_at, front_of}
use Rattle.node_core.specs.Steps.{taken_if, queued}
use Rattle.node_core.proofs.ForCallers.{part, unmarked}
use Rattle.node_journal.specs.Journals.{taken_come_first}

abbrev pub count : JobNo → List Queued → ℕ
count job works = length (filter (λ work. work.taken) (filter (is_of job) works))

abbrev pub are_untaken : List Queued → Bool
are_untaken works = list_all (λ work. not work.taken) works

abbrev more : Bool → ℕ → ℕ
more b n = cond b (suc n) n

count-cons : (job : JobNo) (w : Queued) (ws : List Queued) → count job (w ∷ ws) ≡ more (is_of job w && w.taken) (count job ws)
count-cons job w ws = by (is_of job w)
  where
    own : List Queued
    own = filter (is_of job) ws

    by : (a : Bool) → length (filter (λ (work : Queued). work.taken) (cond a (w ∷ filter (is_of job) ws) (filter (is_of job) ws))) ≡ more (a && w.taken) (count job ws)
    by true = elim w.taken as (λ b. length (cond b (w ∷ filter (λ (work : Queued). work.taken) (filter (is_of job) ws)) (filter (λ (work : Queued). work.taken) (filter (is_of job) ws))) ≡ more b (count job ws)) [
      | true ↦ refl
      | false ↦ refl
    ]
    by false = refl

-- ---- works that nobody has taken come last

pub count-append : (job : JobNo) (xs ys : List Queued) → count job (xs ++ ys) ≡ count job xs + count job ys
count-append job xs ys =
    ap (λ ws. length (filter (λ (work : Queued). work.taken) ws)) (filter-append (is_of job) xs ys)
    ∙ ap length (filter-append (λ (work : Queued). work.taken) (filter (is_of job) xs) (filter (is_of job) ys))
    ∙ length-append (filter (λ (work : Queued). work.taken) (filter (is_of job) xs)) (filter (λ (work : Queued). work.taken) (filter (is_of job) ys))

untaken_not : (b : Bool) → not b ≡ true → b ≡ false
untaken_not true h = true_false h
untaken_not false h = refl

and_no : (a b : Bool) → b ≡ false → (a && b) ≡ false
and_no true b h = h
and_no false b h = refl

count_untaken : (job : JobNo) (ws : List Queued) → are_untaken ws ≡ true → count job ws ≡ 0
count_untaken job [] h = refl
count_untaken job (w ∷ ws) h =
    count-cons job w ws
    ∙ ap (λ b. more b (count job ws)) (and_no (is_of job w) w.taken (untaken_not w.taken (both_left (not w.taken) (are_untaken ws) h)))
    ∙ count_untaken job ws (both_right (not w.taken) (are_untaken ws) h)

zero_more : (a b : ℕ) → b ≡ 0 → a + b ≡ a
zero_more a b h = omega (arith, h)

pub count_more : (job : JobNo) (xs ys : List Queued) → are_untaken ys ≡ true → count job (xs ++ ys) ≡ count job xs
count_more job xs ys h = count-append job xs ys ∙ zero_more (count job xs) (count job ys) (count_untaken job ys h)

untaken_first : (ws : List Queued) → are_untaken ws ≡ true → taken_come_first ws ≡ true
untaken_first [] h = refl
untaken_first (w ∷ ws) h =
    ap (λ b. cond b (taken_come_first ws) (are_untaken ws)) (untaken_not w.taken (both_left (not w.taken) (are_untaken ws) h)) ∙ both_right (not w.taken) (are_untaken ws) h

pub first_more : (xs ys : List Queued) → taken_come_first xs ≡ true → are_untaken ys ≡ true → taken_come_first (xs ++ ys) ≡ true
first_more [] ys h k = untaken_first ys k
first_more (a ∷ xs) ys h k = by a.taken (first_more xs ys) h
  where
    by : (b : Bool) → (taken_come_first xs ≡ true → are_untaken ys ≡ true → taken_come_first (xs ++ ys) ≡ true) → cond b (taken_come_first xs) (are_untaken xs) ≡ true
        → cond b (taken_come_first (xs ++ ys)) (are_untaken (xs ++ ys)) ≡ true
    by true later h = later h k
    by false later h = list_all-append (λ (work : Queued). not work.taken) xs ys ∙ both (are_untaken xs) (are_untaken ys) h k

pub queued_untaken : (job : ℕ) (ws : List WorkInFlight) → are_untaken (queued job ws) ≡ true
queued_untaken job [] = refl
queued_untaken job (w ∷ ws) = queued_untaken job ws

-- ---- works that leave the line

pub first_left : (p : Queued → Bool) (ws : List Queued) → taken_come_first ws ≡ true → taken_come_first (filter p ws) ≡ true
first_left p [] h = refl
first_left p (w ∷ ws) h = by (p w) w.taken refl h (first_left p ws)
  where
    by : (kept t : Bool) → w.taken ≡ t → cond t (taken_come_first ws) (are_untaken ws) ≡ true → (taken_come_first ws ≡ true → taken_come_first (filter p ws) ≡ true)
        → taken_come_first (cond kept (w ∷ filter p ws) (filter p ws)) ≡ true
    by true true is h later = ap (λ b. cond b (taken_come_first (filter p ws)) (are_untaken (filter p ws))) is ∙ later h
    by true false is h later = ap (λ b. cond b (taken_come_first (filter p ws)) (are_untaken (filter p ws))) is ∙ all-filter (λ (work : Queued). not work.taken) p ws h
    by false true is h later = later h
    by false false is h later = untaken_first (filter p ws) (all-filter (λ (work : Queued). not work.taken) p ws h)

-- works of this job alone leave it
pub others_left : (p : Queued → Bool) (other : JobNo) (ws : List Queued) → ((w : Queued) → is_of other w ≡ true → p w ≡ true) → count other (filter p ws) ≡ count other ws
others_left p other [] all = refl
others_left p other (w ∷ ws) all = by (p w) refl (others_left p other ws all) ∙ sym (count-cons other w ws)
  where
    apart : (a : Bool) → is_of other w ≡ a → p w ≡ false → a ≡ false
    apart true is h = true_false (sym h ∙ all w is)
    apart false is h = refl

    by : (b : Bool) → p w ≡ b → count other (filter p ws) ≡ count other ws → count other (cond b (w ∷ filter p ws) (filter p ws)) ≡ more (is_of other w && w.taken) (count other ws)
    by true is later = count-cons other w (filter p ws) ∙ ap (more (is_of other w && w.taken)) later
    by false is later = later ∙ sym (ap (λ a. more (a && w.taken) (count other ws)) (apart (is_of other w) refl is))

-- all of them do
pub none_left : (job : JobNo) (ws : List Queued) → count job (filter (λ w. not (is_of job w)) ws) ≡ 0
none_left job [] = refl
none_left job (w ∷ ws) = by (is_of job w) refl (none_left job ws)
  where
    left : List Queued
    left = filter (λ x. not (is_of job x)) ws

    by : (b : Bool) → is_of job w ≡ b → count job (filter (λ x. not (is_of job x)) ws) ≡ 0 → count job (cond (not b) (w ∷ filter (λ x. not (is_of job x)) ws) (filter (λ x. not (is_of job x)) ws)) ≡ 0
    by true is later = later
    by false is later = count-cons job w left ∙ ap (λ b. more (b && w.taken) (count job left)) is ∙ later

fewer : (p : Queued → Bool) (w : Queued) (ws : List Queued) → length (filter p (w ∷ ws)) ≤ 1 → length (filter p ws) ≤ 1
fewer p w ws = by (p w)
  where
    by : (b : Bool) → length (cond b (w ∷ filter p ws) (filter p ws)) ≤ 1 → length (filter p ws) ≤ 1
    by true few = omega (arith, few)
    by false few = few

none_more : (p : Queued → Bool) (w : Queued) (ws : List Queued) → p w ≡ true → length (filter p (w ∷ ws)) ≤ 1 → length (filter p ws) ≤ 0
none_more p w ws is few =
    let one : length (cond true (w ∷ filter p ws) (filter p ws)) ≤ 1 = subst (λ b. length (cond b (w ∷ filter p ws) (filter p ws)) ≤ 1) is few in
    omega (arith, one)

module _ (job : JobNo) (number : ℕ) where
  abbrev is_done : Queued → Bool
  is_done w = is_at job number w && w.taken

  abbrev without : List Queued → List Queued
  without ws = filter (λ w. not (is_done w)) ws

  pub stays : (ws : List Queued) → list_any is_done ws ≡ false → without ws ≡ ws
  stays [] h = refl
  stays (w ∷ ws) h = by (is_done w) (stays ws) h
    where
      by : (b : Bool) → (list_any is_done ws ≡ false → without ws ≡ ws) → (b || list_any is_done ws) ≡ false → cond (not b) (w ∷ without ws) (without ws) ≡ w ∷ ws
      by true later h = true_false (sym h)
      by false later h = ap (λ t. w ∷ t) (later h)

  none_done : (ws : List Queued) → length (filter (is_at job number) ws) ≤ 0 → without ws ≡ ws
  none_done [] none = refl
  none_done (w ∷ ws) none = by (is_at job number w) (none_done ws) none
    where
      by : (b : Bool) → (length (filter (is_at job number) ws) ≤ 0 → without ws ≡ ws) → length (cond b (w ∷ filter (is_at job number) ws) (filter (is_at job number) ws)) ≤ 0
          → cond (not (b && w.taken)) (w ∷ without ws) (without ws) ≡ w ∷ ws
      by true later none = absurd (omega (arith, none))
      by false later none = ap (λ t. w ∷ t) (later none)

  -- a device's answer ends one
  pub one_less : (ws : List Queued) → list_any is_done ws ≡ true → length (filter (is_at job number) ws) ≤ 1 → suc (count job (without ws)) ≡ count job ws
  one_less [] h few = true_false h
  one_less (w ∷ ws) h few = by (is_done w) refl h (one_less ws) ∙ sym (count-cons job w ws)
    where
      by : (b : Bool) → is_done w ≡ b → (b || list_any is_done ws) ≡ true → (list_any is_done ws ≡ true → length (filter (is_at job number) ws) ≤ 1 → suc (count job (without ws)) ≡ count job ws)
          → suc (count job (cond (not b) (w ∷ without ws) (without ws))) ≡ more (is_of job w && w.taken) (count job ws)
      by true is h later =
          let here = both_left (is_at job number w) w.taken is in
          let of : is_of job w ≡ true = both_left (is_of job w) (w.asked.number == number) here in
          ap (λ left. suc (count job left)) (none_done ws (none_more (is_at job number) w ws here few))
          ∙ sym (λ i. more (of i && both_right (is_at job number w) w.taken is i) (count job ws))
      by false is h later =
          ap suc (count-cons job w (without ws))
          ∙ over (is_of job w && w.taken) (later h (fewer (is_at job number) w ws few))
        where
          over : (b : Bool) → suc (count job (without ws)) ≡ count job ws → suc (more b (count job (without ws))) ≡ more b (count job ws)
          over true e = ap suc e
          over false e = e

  pub others_keep : (other : JobNo) (ws : List Queued) → same_work_job job other ≡ false → count other (without ws) ≡ count other ws
  others_keep other ws apart = others_left (λ w. not (is_done w)) other ws (λ w of. ap not (not_done w of))
    where
      differ : (a b c : ℕ) → (a == b) ≡ false → (b == c) ≡ true → (a == c) ≡ false
      differ a b c h k = grind (arith, nat_tests, h, k)

      not_done : (w : Queued) → is_of other w ≡ true → is_done w ≡ false
      not_done w of = ap (λ b. (b && w.asked.number == number) && w.taken) (differ job.0 other.0 w.asked.job.0 apart of)

-- ---- a work that is taken

module _ (asked : IoRequest) where
  abbrev mark : Queued → Queued
  mark w = taken_if asked.job asked.number w

  abbrev at_it : Queued → Bool
  at_it w = is_at asked.job asked.number w

  mark_of : (w : Queued) (k : JobNo) → is_of k (mark w) ≡ is_of k w
  mark_of w k = elim (at_it w) as (λ b. is_of k (cond b (record w { taken = true }) w) ≡ is_of k w) [ true ↦ refl | false ↦ refl ]

  mark_taken : (w : Queued) → w.taken ≡ true → (mark w).taken ≡ true
  mark_taken w t = elim (at_it w) as (λ b. (cond b (record w { taken = true }) w).taken ≡ true) [ true ↦ refl | false ↦ t ]

  mark_here : (w : Queued) → at_it w ≡ true → (mark w).taken ≡ true
  mark_here w is = ap (λ b. (cond b (record w { taken = true }) w).taken) is

  mark_other : (w : Queued) → at_it w ≡ false → mark w ≡ w
  mark_other w is = ap (λ b. cond b (record w { taken = true }) w) is

  -- the front is where it is marked
  front_here : (w : Queued) → w.asked ≡ asked → at_it w ≡ true
  front_here w is =
      ap (λ (a : IoRequest). asked.job.0 == a.job.0 && a.number == asked.number) is
      ∙ both (asked.job.0 == asked.job.0) (asked.number == asked.number) (itself asked.job.0) (itself asked.number)
    where
      itself : (n : ℕ) → (n == n) ≡ true
      itself n = grind (arith, nat_tests)

  pub first_marked : (ws : List Queued) → front_of ws ≡ Some asked → length (filter at_it ws) ≤ 1 → taken_come_first ws ≡ true → taken_come_first (map mark ws) ≡ true
  first_marked [] front few h = refl
  first_marked (w ∷ ws) front few h = by w.taken refl front h (first_marked ws)
    where
      by : (t : Bool) → w.taken ≡ t → option_map (λ (work : Queued). work.asked) (cond (not t) (Some w) (find (λ work. not work.taken) ws)) ≡ Some asked
          → cond t (taken_come_first ws) (are_untaken ws) ≡ true
          → (front_of ws ≡ Some asked → length (filter at_it ws) ≤ 1 → taken_come_first ws ≡ true → taken_come_first (map mark ws) ≡ true)
          → cond (mark w).taken (taken_come_first (map mark ws)) (are_untaken (map mark ws)) ≡ true
      by true is front h later =
          ap (λ b. cond b (taken_come_first (map mark ws)) (are_untaken (map mark ws))) (mark_taken w is) ∙ later front (fewer at_it w ws few) h
      by false is front h later =
          let here = front_here w (some_value w.asked asked front) in
          ap (λ b. cond b (taken_come_first (map mark ws)) (are_untaken (map mark ws))) (mark_here w here)
          ∙ ap taken_come_first (unmarked asked.job asked.number ws (none_more at_it w ws here few))
          ∙ untaken_first ws h

  pub one_more : (ws : List Queued) → front_of ws ≡ Some asked → length (filter at_it ws) ≤ 1 → count asked.job (map mark ws) ≡ suc (count asked.job ws)
  one_more [] front few = none_some asked front
  one_more (w ∷ ws) front few = by w.taken refl front (one_more ws) ∙ ap suc (sym (count-cons asked.job w ws))
    where
      own : JobNo
      own = asked.job

      by : (t : Bool) → w.taken ≡ t → option_map (λ (work : Queued). work.asked) (cond (not t) (Some w) (find (λ work. not work.taken) ws)) ≡ Some asked
          → (front_of ws ≡ Some asked → length (filter at_it ws) ≤ 1 → count asked.job (map mark ws) ≡ suc (count asked.job ws))
          → count asked.job (mark w ∷ map mark ws) ≡ suc (more (is_of asked.job w && w.taken) (count asked.job ws))
      by true is front later =
          count-cons own (mark w) (map mark ws)
          ∙ (λ i. more (mark_of w own i && mark_taken w is i) (later front (fewer at_it w ws few) i))
          ∙ over (is_of own w && true) (count own ws)
          ∙ sym (ap (λ b. suc (more (is_of own w && b) (count own ws))) is)
        where
          over : (b : Bool) (n : ℕ) → more b (suc n) ≡ suc (more b n)
          over true n = refl
          over false n = refl
      by false is front later =
          let here = front_here w (some_value w.asked asked front) in
          let of : is_of own w ≡ true = both_left (is_of own w) (w.asked.number == asked.number) here in
          count-cons own (mark w) (map mark ws)
          ∙ (λ i. more ((mark_of w own ∙ of) i && mark_here w here i) (count own (unmarked own asked.number ws (none_more at_it w ws here few) i)))
          ∙ sym (λ i. suc (more (of i && is i) (count own ws)))

  pub others_unmarked : (other : JobNo) (ws : List Queued) → same_work_job asked.job other ≡ false → count other (map mark ws) ≡ count other ws
  others_unmarked other [] apart = refl
  others_unmarked other (w ∷ ws) apart =
      count-cons other (mark w) (map mark ws) ∙ by (at_it w) refl ∙ ap (more (is_of other w && w.taken)) (others_unmarked other ws apart) ∙ sym (count-cons other w ws)
    where
      differ : (a b c : ℕ) → (a == b) ≡ false → (a == c) ≡ true → (b == c) ≡ false
      differ a b c h k = grind (arith, nat_tests, h, k)

      by : (b : Bool) → at_it w ≡ b → more (is_of other (mark w) && (mark w).taken) (count other (map mark ws)) ≡ more (is_of other w && w.taken) (count other (map mark ws))
      by true is =
          let of : is_of asked.job w ≡ true = both_left (is_of asked.job w) (w.asked.number == asked.number) is in
          let not_its : is_of other w ≡ false = differ asked.job.0 other.0 w.asked.job.0 apart of in
          ap (λ b. more (b && (mark w).taken) (count other (map mark ws))) (mark_of w other ∙ not_its)
          ∙ sym (ap (λ b. more (b && w.taken) (count other (map mark ws))) not_its)
      by false is = ap (λ (x : Queued). more (is_of other x && x.taken) (count other (map mark ws))) (mark_other w is)

-- ---- the first work that nobody has taken

-- of a job whose part of the line begins with so many that are taken
module _ (job : JobNo) (w : Queued) (ws : List Queued) (o : Option WorkInFlight) where
  past : w.taken ≡ true → slice_get (part job ws) (count job ws) ≡ o → slice_get (part job (w ∷ ws)) (count job (w ∷ ws)) ≡ o
  past is h =
      ap (slice_get (part job (w ∷ ws))) (count-cons job w ws ∙ ap (λ t. more (is_of job w && t) (count job ws)) is) ∙ by (is_of job w)
    where
      by : (b : Bool) → slice_get (map (λ work. shown work.asked) (cond b (w ∷ filter (is_of job) ws) (filter (is_of job) ws))) (more (b && true) (count job ws)) ≡ o
      by true = h
      by false = h

-- the front is that of its job
pub front_at : (asked : IoRequest) (ws : List Queued) → front_of ws ≡ Some asked → taken_come_first ws ≡ true → slice_get (part asked.job ws) (count asked.job ws) ≡ Some (shown asked)
front_at asked [] front first = none_some asked front
front_at asked (w ∷ ws) front first = by w.taken refl front first (front_at asked ws)
  where
    own : JobNo
    own = asked.job

    by : (t : Bool) → w.taken ≡ t → option_map (λ (work : Queued). work.asked) (cond (not t) (Some w) (find (λ work. not work.taken) ws)) ≡ Some asked
        → cond t (taken_come_first ws) (are_untaken ws) ≡ true
        → (front_of ws ≡ Some asked → taken_come_first ws ≡ true → slice_get (part own ws) (count own ws) ≡ Some (shown asked))
        → slice_get (part own (w ∷ ws)) (count own (w ∷ ws)) ≡ Some (shown asked)
    by true is front first later = past own w ws (Some (shown asked)) is (later front first)
    by false is front first later =
        let e : w.asked ≡ asked = some_value w.asked asked front in
        let of : is_of own w ≡ true = both_left (is_of own w) (w.asked.number == asked.number) (front_here asked w e) in
        ap (slice_get (part own (w ∷ ws))) (count-cons own w ws ∙ ap (λ b. more b (count own ws)) (and_no (is_of own w) w.taken is) ∙ count_untaken own ws first)
        ∙ ap (λ b. slice_get (map (λ (work : Queued). shown work.asked) (cond b (w ∷ filter (is_of own) ws) (filter (is_of own) ws))) 0) of
        ∙ ap (λ a. Some (shown a)) e

-- no job has one
pub none_at : (job : JobNo) (ws : List Queued) → front_of ws ≡ None → slice_get (part job ws) (count job ws) ≡ None
none_at job [] front = refl
none_at job (w ∷ ws) front = by w.taken refl front (none_at job ws)
  where
    by : (t : Bool) → w.taken ≡ t → option_map (λ (work : Queued). work.asked) (cond (not t) (Some w) (find (λ work. not work.taken) ws)) ≡ None
        → (front_of ws ≡ None → slice_get (part job ws) (count job ws) ≡ None)
        → slice_get (part job (w ∷ ws)) (count job (w ∷ ws)) ≡ None
    by true is front later = past job w ws None is (later front)
    by false is front later = none_some w.asked (sym front)

-- ---- whether a work is taken, by its number

and_true : (b : Bool) → (b && true) ≡ b
and_true true = refl
and_true false = refl

module _ (job : JobNo) (number : ℕ) where
  abbrev is_out : Queued → Bool
  is_out w = is_at job number w && w.taken

  abbrev has_number : WorkInFlight → Bool
  has_number w = w.number == number

  abbrev among : ℕ → List WorkInFlight → Bool
  among n vs = list_any has_number (take n vs)

  none_out : (ws : List Queued) → are_untaken ws ≡ true → list_any is_out ws ≡ false
  none_out [] h = refl
  none_out (w ∷ ws) h =
      let none = and_no (is_at job number w) w.taken (untaken_not w.taken (both_left (not w.taken) (are_untaken ws) h)) in
      ap (λ b. b || list_any is_out ws) none ∙ none_out ws (both_right (not w.taken) (are_untaken ws) h)

  -- a taken work is one of its job's first, of which as many are taken
  pub out_among : (ws : List Queued) → taken_come_first ws ≡ true → list_any is_out ws ≡ among (count job ws) (part job ws)
  out_among [] h = refl
  out_among (w ∷ ws) h = by (is_of job w) w.taken refl refl h (out_among ws)
    where
      counted : (of t : Bool) → is_of job w ≡ of → w.taken ≡ t → count job (w ∷ ws) ≡ more (of && t) (count job ws)
      counted of t is here = count-cons job w ws ∙ (λ i. more (is i && here i) (count job ws))

      listed : (of : Bool) → is_of job w ≡ of → part job (w ∷ ws) ≡ map (λ (x : Queued). shown x.asked) (cond of (w ∷ filter (is_of job) ws) (filter (is_of job) ws))
      listed of is = ap (λ b. map (λ (x : Queued). shown x.asked) (cond b (w ∷ filter (is_of job) ws) (filter (is_of job) ws))) is

      by : (of t : Bool) → is_of job w ≡ of → w.taken ≡ t → cond t (taken_come_first ws) (are_untaken ws) ≡ true
          → (taken_come_first ws ≡ true → list_any is_out ws ≡ among (count job ws) (part job ws))
          → (is_out w || list_any is_out ws) ≡ among (count job (w ∷ ws)) (part job (w ∷ ws))
      by true true is here h later =
          (λ i. ((is i && w.asked.number == number) && here i) || later h i)
          ∙ ap (λ b. b || among (count job ws) (part job ws)) (and_true (w.asked.number == number))
          ∙ sym (λ i. among (counted true true is here i) (listed true is i))
      by false true is here h later =
          (λ i. ((is i && w.asked.number == number) && here i) || later h i)
          ∙ sym (λ i. among (counted false true is here i) (listed false is i))
      by true false is here h later =
          (λ i. and_no (is_at job number w) w.taken here i || none_out ws h i)
          ∙ sym (λ i. among ((counted true false is here ∙ count_untaken job ws h) i) (part job (w ∷ ws)))
      by false false is here h later =
          (λ i. and_no (is_at job number w) w.taken here i || none_out ws h i)
          ∙ sym (λ i. among ((counted false false is here ∙ count_untaken job ws h) i) (part job (w ∷ ws)))
