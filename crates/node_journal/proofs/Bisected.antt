-- Where an entry stands among lines whose numbers rise.
use Rattle.std.proofs.Common.{◌≡◌, ℕ, zero, suc, ◌+◌, ◌<◌, Bool, true, false, ◌||◌, ◌&&◌, List, [], ◌∷◌, ◌++◌, length, take, drop, get_or, refl, sym, ap, subst, ◌∙◌, arith}
use Rattle.std.specs.Prelude.{nat_lt, nat_le}
use Rattle.std.specs.List.{list_any}
use Rattle.std.proofs.lemmas.Bool.Decides.{nat_tests}
use Rattle.store_facts.proofs.Tests.{both, both_left, both_right, true_false}
use Rattle.node_journal.specs.declared.entries.Entry.{Entry}
use Rattle.node_journal.specs.declared.entries.Line.{Line}
use Rattle.node_journal.specs.declared.entries.Line.TheVariants as line
use Rattle.node_journal.specs.Journals.{follows, is_entry, is_this, rise_above, same_entry, step_of}

abbrev has : Entry → List Line → Bool
has entry ls = list_any (is_this entry) ls

-- one of another number is another
narrow : (entry : Entry) (l : Line) → is_entry entry.number l ≡ false → is_this entry l ≡ false
narrow entry l h = ap (λ b. b && same_entry entry l) h

-- ---- a list by its parts

parts : (ls : List Line) (m : ℕ) (d : Line) → m < length ls → ls ≡ take m ls ++ get_or ls m d ∷ drop (m + 1) ls
parts [] m d h = absurd (omega (arith, h))
parts (x ∷ xs) zero d h = refl
parts (x ∷ xs) (suc m) d h =
    ap (λ r. x ∷ r) (parts xs m d (omega (arith, h)))
    ∙ ap (λ k. x ∷ (take m xs ++ get_or xs m d ∷ drop k (x ∷ xs))) (next m)
  where
    next : (m : ℕ) → suc (m + 1) ≡ suc m + 1
    next m = omega arith

pub cut_at : (ls : List Line) (m : ℕ) (l d : Line) → l ≡ get_or ls m d → m < length ls → ls ≡ take m ls ++ l ∷ drop (m + 1) ls
cut_at ls m l d is within = parts ls m d within ∙ ap (λ x. take m ls ++ x ∷ drop (m + 1) ls) (sym is)

-- ---- numbers

least_follows : (low : ℕ) (l : Line) → follows low l ≡ true → nat_le low (step_of l) ≡ true
least_follows low (line.Entry entry) h = grind (arith, nat_tests, h)
least_follows low (line.Note n x) h = h

in_turn : (a b c : ℕ) → nat_le a b ≡ true → nat_le b c ≡ true → nat_le a c ≡ true
in_turn a b c h k = grind (arith, nat_tests, h, k)

lower : (a b c : ℕ) → nat_le a b ≡ true → nat_lt b c ≡ true → nat_lt a c ≡ true
lower a b c h k = grind (arith, nat_tests, h, k)

-- one of another number
not_below : (number : ℕ) (l : Line) → nat_lt (step_of l) number ≡ true → is_entry number l ≡ false
not_below number (line.Entry entry) h = grind (arith, nat_tests, h)
not_below number (line.Note n x) h = refl

not_above : (number low : ℕ) (l : Line) → nat_le number low ≡ true → follows low l ≡ true → is_entry number l ≡ false
not_above number low (line.Entry entry) le h = grind (arith, nat_tests, le, h)
not_above number low (line.Note n x) le h = refl

neither : (a b : Bool) → a ≡ false → b ≡ false → (a || b) ≡ false
neither a b h k = ap (λ x. x || b) h ∙ k

none_above : (entry : Entry) (low : ℕ) (ls : List Line) → nat_le entry.number low ≡ true → rise_above low ls ≡ true → has entry ls ≡ false
none_above entry low [] le h = refl
none_above entry low (l ∷ ls) le h =
    let here = both_left (follows low l) (rise_above (step_of l) ls) h in
    neither (is_this entry l) (has entry ls) (narrow entry l (not_above entry.number low l le here))
    (none_above entry (step_of l) ls (in_turn entry.number low (step_of l) le (least_follows low l here)) (both_right (follows low l) (rise_above (step_of l) ls) h))

-- what an entry's number is above
above_last : (number low : ℕ) (l : Line) → is_entry number l ≡ true → follows low l ≡ true → nat_lt low number ≡ true
above_last number low (line.Entry entry) is h = grind (arith, nat_tests, is, h)
above_last number low (line.Note n x) is h = true_false is

-- and what comes after it
least_after : (number : ℕ) (l : Line) → is_entry number l ≡ true → nat_le number (step_of l) ≡ true
least_after number (line.Entry entry) is = grind (arith, nat_tests, is)
least_after number (line.Note n x) is = true_false is

-- what comes before a line, and after it
module _ (l : Line) (after : List Line) where
  up_to : (low : ℕ) (before : List Line) → rise_above low (before ++ l ∷ after) ≡ true → nat_le low (step_of l) ≡ true
  up_to low [] h = least_follows low l (both_left (follows low l) (rise_above (step_of l) after) h)
  up_to low (x ∷ before) h =
      in_turn low (step_of x) (step_of l) (least_follows low x (both_left (follows low x) (rise_above (step_of x) (before ++ l ∷ after)) h))
      (up_to (step_of x) before (both_right (follows low x) (rise_above (step_of x) (before ++ l ∷ after)) h))

  left_rises : (low : ℕ) (before : List Line) → rise_above low (before ++ l ∷ after) ≡ true → rise_above low before ≡ true
  left_rises low [] h = refl
  left_rises low (x ∷ before) h =
      both (follows low x) (rise_above (step_of x) before) (both_left (follows low x) (rise_above (step_of x) (before ++ l ∷ after)) h)
      (left_rises (step_of x) before (both_right (follows low x) (rise_above (step_of x) (before ++ l ∷ after)) h))

  right_rises : (low : ℕ) (before : List Line) → rise_above low (before ++ l ∷ after) ≡ true → rise_above (step_of l) after ≡ true
  right_rises low [] h = both_right (follows low l) (rise_above (step_of l) after) h
  right_rises low (x ∷ before) h = right_rises (step_of x) before (both_right (follows low x) (rise_above (step_of x) (before ++ l ∷ after)) h)

  none_below : (entry : Entry) (low : ℕ) (before : List Line) → rise_above low (before ++ l ∷ after) ≡ true → nat_lt (step_of l) entry.number ≡ true → has entry before ≡ false
  none_below entry low [] h less = refl
  none_below entry low (x ∷ before) h less =
      let rest = both_right (follows low x) (rise_above (step_of x) (before ++ l ∷ after)) h in
      neither (is_this entry x) (has entry before) (narrow entry x (not_below entry.number x (lower (step_of x) (step_of l) entry.number (up_to (step_of x) before rest) less))) (none_below entry (step_of x) before rest less)

  -- if the line is the entry of this number, those before are of lower ones
  up_to_it : (number low : ℕ) (before : List Line) → is_entry number l ≡ true → rise_above low (before ++ l ∷ after) ≡ true → nat_lt low number ≡ true
  up_to_it number low [] is h = above_last number low l is (both_left (follows low l) (rise_above (step_of l) after) h)
  up_to_it number low (x ∷ before) is h =
      lower low (step_of x) number (least_follows low x (both_left (follows low x) (rise_above (step_of x) (before ++ l ∷ after)) h))
      (up_to_it number (step_of x) before is (both_right (follows low x) (rise_above (step_of x) (before ++ l ∷ after)) h))

  none_before : (entry : Entry) (low : ℕ) (before : List Line) → is_entry entry.number l ≡ true → rise_above low (before ++ l ∷ after) ≡ true → has entry before ≡ false
  none_before entry low [] is h = refl
  none_before entry low (x ∷ before) is h =
      let rest = both_right (follows low x) (rise_above (step_of x) (before ++ l ∷ after)) h in
      neither (is_this entry x) (has entry before) (narrow entry x (not_below entry.number x (up_to_it entry.number (step_of x) before is rest))) (none_before entry (step_of x) before is rest)

  has_parts : (entry : Entry) (before : List Line) → has entry (before ++ l ∷ after) ≡ (has entry before || (is_this entry l || has entry after))
  has_parts entry [] = refl
  has_parts entry (x ∷ before) = by (is_this entry x) (has_parts entry before)
    where
      by : (b : Bool) → has entry (before ++ l ∷ after) ≡ (has entry before || (is_this entry l || has entry after))
          → (b || has entry (before ++ l ∷ after)) ≡ ((b || has entry before) || (is_this entry l || has entry after))
      by true h = refl
      by false h = h

-- ---- one turn

abbrev pub Rises : List Line → Type 0
Rises ls = (low : ℕ) × (rise_above low ls ≡ true)

module _ (entry : Entry) (ls : List Line) (m : ℕ) (middle : Line) (split : ls ≡ take m ls ++ middle ∷ drop (m + 1) ls) (up : Rises ls) where
  rises : rise_above up.0 (take m ls ++ middle ∷ drop (m + 1) ls) ≡ true
  rises = subst (λ xs. rise_above up.0 xs ≡ true) split up.1

  all_parts : has entry ls ≡ (has entry (take m ls) || (is_this entry middle || has entry (drop (m + 1) ls)))
  all_parts = ap (has entry) split ∙ has_parts middle (drop (m + 1) ls) entry (take m ls)

  pub left_up : Rises (take m ls)
  left_up = (up.0, left_rises middle (drop (m + 1) ls) up.0 (take m ls) rises)

  pub right_up : Rises (drop (m + 1) ls)
  right_up = (step_of middle, right_rises middle (drop (m + 1) ls) up.0 (take m ls) rises)

  -- if the middle one is too low
  pub on_right : nat_lt (step_of middle) entry.number ≡ true → has entry (drop (m + 1) ls) ≡ has entry ls
  on_right less =
      sym (all_parts
      ∙ ap (λ b. b || (is_this entry middle || has entry (drop (m + 1) ls))) (none_below middle (drop (m + 1) ls) entry up.0 (take m ls) rises less)
      ∙ ap (λ b. b || has entry (drop (m + 1) ls)) (narrow entry middle (not_below entry.number middle less)))

  -- if it isn't, and isn't the entry
  pub on_left : nat_lt (step_of middle) entry.number ≡ false → is_entry entry.number middle ≡ false → has entry (take m ls) ≡ has entry ls
  on_left least other =
      sym (all_parts
      ∙ ap (λ b. has entry (take m ls) || (b || has entry (drop (m + 1) ls))) (narrow entry middle other)
      ∙ ap (λ b. has entry (take m ls) || b) (none_above entry (step_of middle) (drop (m + 1) ls) (turned (step_of middle) entry.number least) (right_rises middle (drop (m + 1) ls) up.0 (take m ls) rises))
      ∙ or_false (has entry (take m ls)))
    where
      turned : (a b : ℕ) → nat_lt a b ≡ false → nat_le b a ≡ true
      turned a b h = grind (arith, nat_tests, h)

      or_false : (a : Bool) → (a || false) ≡ a
      or_false true = refl
      or_false false = refl

  -- if it is the entry of this number
  pub found_here : is_entry entry.number middle ≡ true → same_entry entry middle ≡ has entry ls
  found_here here =
      sym (all_parts
      ∙ ap (λ b. b || (is_this entry middle || has entry (drop (m + 1) ls))) (none_before middle (drop (m + 1) ls) entry up.0 (take m ls) here rises)
      ∙ ap (λ b. is_this entry middle || b) (none_above entry (step_of middle) (drop (m + 1) ls) (least_after entry.number middle here) (right_rises middle (drop (m + 1) ls) up.0 (take m ls) rises))
      ∙ or_false (is_this entry middle)
      ∙ ap (λ b. b && same_entry entry middle) here)
    where
      or_false : (a : Bool) → (a || false) ≡ a
      or_false true = refl
      or_false false = refl
