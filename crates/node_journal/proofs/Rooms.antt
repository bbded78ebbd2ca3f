-- Whether a list has room for what a step makes.
use Rattle.std.proofs.Common.{◌≡◌, ℕ, ◌+◌, ◌≤◌, ◌<◌, Bool, true, false, cond, ◌==◌, ◌||◌, ◌&&◌, List, [], ◌∷◌, ◌++◌, length, map, filter, refl, sym, ap, subst, ◌∙◌, arith}
use Rattle.std.specs.Prelude.{count_by, nat_lt, if◌then◌else◌}
use Rattle.std.specs.List.{list_any}
use Rattle.std.proofs.lemmas.Bool.Decides.{nat_tests}
use Rattle.std.proofs.lemmas.List.{length-append}
use Rattle.std.proofs.lemmas.List.Sums.{sum_by-cons}
use Rattle.obj_id.specs.declared.ids.JobNo.{JobNo}
use Rattle.obj_id.specs.declared.commands.Reply.{Reply}
use Rattle.obj_id.specs.declared.commands.Reply.TheVariants as reply
use Rattle.private_store.specs.declared.schedules.Event.{Event}
use Rattle.private_store.specs.rules.Grants.{StandingGrant}
use Rattle.node_core.specs.declared.outcome.Note.{Note}
use Rattle.node_core.specs.Foreseen.{AreTakers, grantees_of}
use Rattle.node_core.specs.Outcomes.{inputs_noted}
use Rattle.node_core.specs.Steps.{JobJudged}
use Rattle.node_journal.specs.declared.entries.Line.{Line}
use Rattle.node_journal.specs.declared.entries.Line.TheVariants as line
use Rattle.node_journal.specs.Journals.{Journal, folded_if, list_is_full, lines_due, most_lines, notes_for, with_lines}

abbrev is_its : ℕ → JobNo → Bool
is_its job grantee = grantee.0 == job

count-cons : (job : ℕ) (t : JobNo) (ts : List JobNo) → count_by (is_its job) (t ∷ ts) ≡ cond (is_its job t) 1 0 + count_by (is_its job) ts
count-cons job t ts = sum_by-cons (λ t. cond (is_its job t) 1 0) t ts

-- ---- a job that the step isn't of, and tells nothing

count_none : (job : ℕ) (grantees : List JobNo) → list_any (is_its job) grantees ≡ false → count_by (is_its job) grantees ≡ 0
count_none job [] h = refl
count_none job (t ∷ ts) h = count-cons job t ts ∙ by (is_its job t) h (count_none job ts)
  where
    by : (b : Bool) → (b || list_any (is_its job) ts) ≡ false → (list_any (is_its job) ts ≡ false → count_by (is_its job) ts ≡ 0) → cond b 1 0 + count_by (is_its job) ts ≡ 0
    by true h later = absurd cc
    by false h later = omega (arith, later h)

none_full : (own : ℕ) (grantees : List JobNo) (job n : ℕ) → n ≤ most_lines → ((own == job || list_any (is_its job) grantees) && list_is_full own grantees job n) ≡ list_is_full own grantees job n
none_full own grantees job n few = by (own == job) (list_any (is_its job) grantees) refl refl
  where
    by : (a b : Bool) → (own == job) ≡ a → list_any (is_its job) grantees ≡ b → ((a || b) && list_is_full own grantees job n) ≡ list_is_full own grantees job n
    by true b s e = refl
    by false true s e = refl
    by false false s e =
        let none : lines_due own grantees job ≡ 0 = ap (λ b. count_by (is_its job) grantees + cond b 1 0) s ∙ ap (λ k. k + 0) (count_none job grantees e) in
        sym (ap (λ k. nat_lt most_lines (n + k)) none ∙ small n few)
      where
        small : (n : ℕ) → n ≤ 8192 → nat_lt 8192 (n + 0) ≡ false
        small n few = grind (arith, nat_tests, few)

pub full_is : (own : ℕ) (grantees : List JobNo) (job n : ℕ) (a : Bool) (rest : List JobNo) → n ≤ most_lines → rest ≡ []
    → (a || (list_any (is_its job) rest && list_is_full own grantees job n)) ≡ ((own == job || list_any (is_its job) grantees) && list_is_full own grantees job n)
    → a ≡ list_is_full own grantees job n
full_is own grantees job n a rest few none is = by a (sym (ap (λ ts. a || (list_any (is_its job) ts && list_is_full own grantees job n)) none) ∙ is ∙ none_full own grantees job n few)
  where
    by : (a : Bool) → (a || false) ≡ list_is_full own grantees job n → a ≡ list_is_full own grantees job n
    by true h = h
    by false h = h

-- ---- what a step makes

count_few : (job : ℕ) (grantees : List JobNo) → count_by (is_its job) grantees ≤ length grantees
count_few job [] = omega arith
count_few job (t ∷ ts) = subst (λ n. n ≤ length (t ∷ ts)) (sym (count-cons job t ts)) (by (is_its job t) (count_few job ts))
  where
    by : (b : Bool) → count_by (is_its job) ts ≤ length ts → cond b 1 0 + count_by (is_its job) ts ≤ length (t ∷ ts)
    by true h = omega (arith, h)
    by false h = omega (arith, h)

-- of notes, those to the job
notes_count : (number job : ℕ) (notes : List Note) → length (notes_for number (inputs_noted notes) job) ≡ count_by (is_its job) (map (λ (note : Note). note.job) notes)
notes_count number job [] = refl
notes_count number job (note ∷ notes) = by (is_its job note.job) (notes_count number job notes) ∙ sym (count-cons job note.job (map (λ (x : Note). x.job) notes))
  where
    by : (b : Bool) → length (notes_for number (inputs_noted notes) job) ≡ count_by (is_its job) (map (λ (note : Note). note.job) notes)
        → length (map (λ (x : JobJudged). line.Note number x.input) (cond b (record { job = note.job.0; input = note.input } ∷ filter (λ (x : JobJudged). x.job == job) (inputs_noted notes)) (filter (λ (x : JobJudged). x.job == job) (inputs_noted notes)))) ≡ cond b 1 0 + count_by (is_its job) (map (λ (note : Note). note.job) notes)
    by true h = omega (arith, h)
    by false h = omega (arith, h)

notes_few : (grants : List StandingGrant) (e : Event) (response : Reply (List ℕ)) (number job : ℕ) (notes : List Note) → AreTakers grants e response (map (λ (note : Note). note.job) notes)
    → length (notes_for number (inputs_noted notes) job) ≤ count_by (is_its job) (grantees_of grants e)
notes_few grants e response number job notes are = subst (λ n. n ≤ count_by (is_its job) (grantees_of grants e)) (sym (notes_count number job notes)) (by response are)
  where
    same : (a b : ℕ) → a ≡ b → a ≤ b
    same a b h = omega (arith, h)

    none : (a b : ℕ) → a ≡ 0 → a ≤ b
    none a b h = omega (arith, h)

    by : (response : Reply (List ℕ)) → AreTakers grants e response (map (λ (note : Note). note.job) notes) → count_by (is_its job) (map (λ (note : Note). note.job) notes) ≤ count_by (is_its job) (grantees_of grants e)
    by reply.Ok are = same _ _ (ap (count_by (is_its job)) are)
    by _ are = none _ _ (ap (count_by (is_its job)) are)

made_few : (own job : ℕ) (grantees : List JobNo) (entry : Line) (notes : List Line) → length notes ≤ count_by (is_its job) grantees
    → length ((if own == job then entry ∷ [] else []) ++ notes) ≤ lines_due own grantees job
made_few own job grantees entry notes few = by (own == job)
  where
    by : (b : Bool) → length (cond b (entry ∷ []) [] ++ notes) ≤ count_by (is_its job) grantees + cond b 1 0
    by true = omega (arith, few)
    by false = omega (arith, few)

stays_few : (own job : ℕ) (grantees : List JobNo) (j : Journal) (made : List Line) (full : Bool) → full ≡ list_is_full own grantees job (length j.list) → length grantees < most_lines
    → length made ≤ lines_due own grantees job → length (with_lines (folded_if full j) made).list ≤ most_lines
stays_few own job grantees j made full is some few = by full is
  where
    one : (b : Bool) → cond b 1 0 ≤ 1
    one true = omega arith
    one false = omega arith

    room : (n due : ℕ) → false ≡ nat_lt 8192 (n + due) → n + due ≤ 8192
    room n due h = grind (arith, nat_tests, h)

    by : (full : Bool) → full ≡ list_is_full own grantees job (length j.list) → length (with_lines (folded_if full j) made).list ≤ 8192
    by true is = omega (arith, few, some, count_few job grantees, one (own == job))
    by false is = omega (arith, few, room (length j.list) (lines_due own grantees job) is, length-append j.list made)

pub all_few : (own : ℕ) (grants : List StandingGrant) (e : Event) (response : Reply (List ℕ)) (number job : ℕ) (notes : List Note) (j after : Journal) (entry : Line)
    → AreTakers grants e response (map (λ (note : Note). note.job) notes) → length (grantees_of grants e) < most_lines
    → after ≡ with_lines (folded_if (list_is_full own (grantees_of grants e) job (length j.list)) j) ((if own == job then entry ∷ [] else []) ++ notes_for number (inputs_noted notes) job)
    → length after.list ≤ most_lines
all_few own grants e response number job notes j after entry are some is =
    let grantees : List JobNo = grantees_of grants e in
    let made : List Line = (if own == job then entry ∷ [] else []) ++ notes_for number (inputs_noted notes) job in
    subst (λ (k : Journal). length k.list ≤ most_lines) (sym is)
    (stays_few own job grantees j made (list_is_full own grantees job (length j.list)) refl some
    (made_few own job grantees entry (notes_for number (inputs_noted notes) job) (notes_few grants e response number job notes are)))

-- after a message, which tells nobody
pub arrival_few : (own number job : ℕ) (notes : List Note) (j after : Journal) (entry : Line) → notes ≡ []
    → after ≡ with_lines (folded_if (list_is_full own [] job (length j.list)) j) ((if own == job then entry ∷ [] else []) ++ notes_for number (inputs_noted notes) job)
    → length after.list ≤ most_lines
arrival_few own number job notes j after entry silent is =
    let made : List Line = (if own == job then entry ∷ [] else []) ++ notes_for number (inputs_noted notes) job in
    subst (λ (k : Journal). length k.list ≤ most_lines) (sym is)
    (stays_few own job [] j made (list_is_full own [] job (length j.list)) refl (omega arith)
    (made_few own job [] entry (notes_for number (inputs_noted notes) job) (subst (λ ns. length (notes_for number (inputs_noted ns) job) ≤ 0) (sym silent) (omega arith))))

pub fold_few : (b : Bool) (j after : Journal) → after ≡ folded_if b j → length j.list ≤ most_lines → length after.list ≤ most_lines
fold_few b j after is few = subst (λ (k : Journal). length k.list ≤ 8192) (sym is) (by b)
  where
    by : (b : Bool) → length (folded_if b j).list ≤ 8192
    by true = omega arith
    by false = few
