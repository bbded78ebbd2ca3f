-- A row takes List and Usage.
use Rattle.std.proofs.Common.{◌≡◌, ℕ, ◌+◌, ◌-◌, ◌*◌, ◌≤◌, ◌^◌, Bool, true, false, cond, ◌&&◌, ◌||◌, List, [], ◌∷◌, length, map, filter, find, Option, Some, None, is_some, option_map, refl, sym, ap, subst, ◌∙◌, T, arith}
use Rattle.std.specs.Prelude.{sum, sum_by, count_by, filter_map, min, nat_le}
use Rattle.std.specs.Option.{option_map_or}
use Rattle.std.specs.List.{list_any, cons_option}
use Rattle.std.specs.FinMap.{is_sorted}
use Rattle.std.specs.FinMap.Entries.{below_all}
use Rattle.std.proofs.lemmas.Bool.Decides.{nat_tests}
use Rattle.std.proofs.lemmas.List.Sums.{sum_by-cons}
use Rattle.obj_id.specs.declared.ids.ObjectId.{ObjectId}
use Rattle.obj_id.specs.declared.works.Extent.{Extent}
use Rattle.obj_id.specs.declared.works.WorkKind.TheVariants.{Write, Read}
use Rattle.obj_id.specs.declared.commands.OwnItem.{OwnItem}
use Rattle.obj_id.specs.declared.commands.GrantedItem.{GrantedItem}
use Rattle.obj_id.specs.declared.commands.Usage.{Usage}
use Rattle.obj_id.specs.declared.commands.Command.TheVariants as command
use Rattle.obj_id.specs.declared.commands.Reply.TheVariants as reply
use Rattle.obj_id.specs.Ids.{id_cmp, same_id}
use Rattle.private_store.specs.declared.inputs.Input.TheVariants as input
use Rattle.private_store.specs.rules.Limits.{is_quota, is_window, greatest_device_quota}
use Rattle.private_store.specs.rules.Extents.{rounded, end_of}
use Rattle.private_store.specs.rules.Tables.{ById, at}
use Rattle.private_store.specs.rules.Grants.{StandingGrant}
use Rattle.private_store.specs.rules.Shape.{Copy, Shape, WorkInFlight}
use Rattle.private_store.specs.rules.Copies.{extent_of, is_writing, window_used, device_used}
use Rattle.private_store.specs.rules.Commands.{own_items, granted_items, usage_of}
use Rattle.private_store.specs.rules.Contents.{Contents}
use Rattle.private_store.specs.laws.Invariants.{is_placed}
use Rattle.store_facts.proofs.Tests.{and_right, both_left, both_right, T_true, or_false}
use Rattle.spill_work.specs.Line.{WorkLine}
use Rattle.obj_id.specs.Works.{is_write}
use Rattle.row_copy.specs.CopyViews.{CopyView}
use Rattle.job_row.specs.Row.{Row, copies_of}
use Rattle.row_steps.specs.Shown.{work_on, IsShown, only, RowStep}
use Rattle.row_copy.specs.Usages.{own_item_of, is_spilling, window_bytes, device_bytes}
use Rattle.job_row.specs.Usages.{total}
use Rattle.row_steps.proofs.ByChecks.{called}
use Rattle.job_row.proofs.ForCallers.{at-first, at-rest, sorted-copies, at-copies_found}
use Rattle.row_steps.proofs.Stepping.{stays}
use Rattle.row_steps.specs.Beside.{SharedTables, beside_of, shape_of}
use Rattle.row_steps.specs.RowUsage.{used}

-- ---- List

items-own : (es : ById CopyView) → map own_item_of es ≡ map (λ (e : ObjectId × Copy). record { id = e.0; state = e.1.state; kind = e.1.kind; length = e.1.length }) (copies_of es)
items-own [] = refl
items-own (e ∷ es) = ap (λ t. own_item_of e ∷ t) (items-own es)

module _ (node : ℕ) (row : Row) (beside : SharedTables) (contents : Contents) (session : ℕ) (h : IsShown row beside contents) where
  abbrev s : Shape
  s = shape_of row beside

  pub list_done : (response : List OwnItem) (granted : List GrantedItem) → response ≡ map own_item_of row.copies → granted ≡ granted_items s → RowStep node row beside contents (input.Call session command.List) (only (reply.List response granted)) row beside
  list_done response granted is given =
      subst (λ g. RowStep node row beside contents (input.Call session command.List) (only (reply.List response g)) row beside) (sym given)
      (subst (λ t. RowStep node row beside contents (input.Call session command.List) (only (reply.List t (granted_items s))) row beside) (sym (is ∙ items-own row.copies))
      (stays node row beside contents h (input.Call session command.List) (reply.List (own_items s) (granted_items s)) (called row beside session command.List) refl refl refl))

  pub usage_done : (response : Usage) → response ≡ usage_of s → RowStep node row beside contents (input.Call session command.Usage) (only (reply.Usage response)) row beside
  usage_done response is =
      subst (λ t. RowStep node row beside contents (input.Call session command.Usage) (only (reply.Usage t)) row beside) (sym is)
      (stays node row beside contents h (input.Call session command.Usage) (reply.Usage (usage_of s)) (called row beside session command.Usage) refl refl refl)

-- ---- the window's bytes

window-sum : (es : ById CopyView) → sum_by (λ e. window_bytes e.1) es ≡ sum (map (λ e. e.length) (filter_map (λ e. extent_of e.1) (copies_of es)))
window-sum [] = refl
window-sum (e ∷ es) = sum_by-cons (λ (e : ObjectId × CopyView). window_bytes e.1) e es ∙ by (extent_of e.1.copy) (window-sum es)
  where
    by : (o : Option Extent) → sum_by (λ e. window_bytes e.1) es ≡ sum (map (λ e. e.length) (filter_map (λ e. extent_of e.1) (copies_of es)))
        → option_map_or (λ e. e.length) o 0 + sum_by (λ e. window_bytes e.1) es ≡ sum (map (λ e. e.length) (cons_option o (filter_map (λ e. extent_of e.1) (copies_of es))))
    by None rest = omega (arith, rest)
    by (Some x) rest = ap (λ n. x.length + n) rest ∙ sym (sum_by-cons (λ (n : ℕ). n) x.length (map (λ e. e.length) (filter_map (λ e. extent_of e.1) (copies_of es))))

-- no more than each may take
window-bound : (es : ById CopyView) → T (is_sorted id_cmp es) → ((q : ObjectId) (k : CopyView) → at es q ≡ Some k → window_bytes k ≤ 268435456) → sum_by (λ e. window_bytes e.1) es ≤ 268435456 * length es
window-bound [] sorted h = omega arith
window-bound (e ∷ es) sorted h =
    let one = h e.0 e.1 (at-first e es) in
    let rest = window-bound es (and_right (below_all id_cmp e.0 es) _ sorted) (λ q k found. h q k (at-rest e es sorted q k found)) in
    let all = sum_by-cons (λ (e : ObjectId × CopyView). window_bytes e.1) e es in
    omega (arith, one, rest, all)

-- ---- the device's bytes

none_writes : (id : ObjectId) (works : List WorkInFlight) → count_by (λ work. same_id id work.id) works ≤ 0 → list_any (λ work. same_id id work.id && work.writes) works ≡ false
none_writes id [] few = refl
none_writes id (w ∷ works) few =
    by (same_id id w.id) (let c = sum_by-cons (λ (work : WorkInFlight). cond (same_id id work.id) 1 0) w works in omega (arith, c, few)) (none_writes id works)
  where
    by : (b : Bool) → cond b 1 0 + count_by (λ work. same_id id work.id) works ≤ 0
        → (count_by (λ work. same_id id work.id) works ≤ 0 → list_any (λ work. same_id id work.id && work.writes) works ≡ false)
        → (b && w.writes) || list_any (λ work. same_id id work.id && work.writes) works ≡ false
    by true few rest = absurd (omega (arith, few))
    by false few rest = rest (omega (arith, few))

-- of one work at most, the first is the one that writes
first_writes : (id : ObjectId) (works : List WorkInFlight) → count_by (λ work. same_id id work.id) works ≤ 1 → option_map_or is_write (work_on works id) false ≡ list_any (λ work. same_id id work.id && work.writes) works
first_writes id [] few = refl
first_writes id (w ∷ works) few =
    by (same_id id w.id) (let c = sum_by-cons (λ (work : WorkInFlight). cond (same_id id work.id) 1 0) w works in omega (arith, c, few)) (first_writes id works)
  where
    kind : (b : Bool) → is_write (cond b Write Read) ≡ b
    kind true = refl
    kind false = refl

    by : (b : Bool) → cond b 1 0 + count_by (λ work. same_id id work.id) works ≤ 1
        → (count_by (λ work. same_id id work.id) works ≤ 1 → option_map_or is_write (work_on works id) false ≡ list_any (λ work. same_id id work.id && work.writes) works)
        → option_map_or is_write (option_map (λ w. cond w.writes Write Read) (cond b (Some w) (find (λ w. same_id id w.id) works))) false ≡ (b && w.writes) || list_any (λ work. same_id id work.id && work.writes) works
    by true few rest = kind w.writes ∙ sym (ap (λ b. w.writes || b) (none_writes id works (omega (arith, few))) ∙ or_false w.writes)
    by false few rest = rest (omega (arith, few))

-- the copies that count on the device
abbrev counted : Shape → ById Copy → ById Copy
counted store copies = filter (λ e. is_some e.1.backed || is_writing store e.0) copies

device-sum : (store : Shape) (es : ById CopyView) → T (is_sorted id_cmp es) → ((q : ObjectId) (k : CopyView) → at es q ≡ Some k → is_spilling k ≡ is_writing store q)
    → sum_by (λ e. device_bytes e.1) es ≡ sum (map (λ e. rounded e.1.length) (counted store (copies_of es)))
device-sum store [] sorted h = refl
device-sum store (e ∷ es) sorted h =
    sum_by-cons (λ (e : ObjectId × CopyView). device_bytes e.1) e es
    ∙ ap (λ b. cond (is_some e.1.copy.backed || b) (rounded e.1.copy.length) 0 + sum_by (λ e. device_bytes e.1) es) (h e.0 e.1 (at-first e es))
    ∙ by (is_some e.1.copy.backed || is_writing store e.0) (device-sum store es (and_right (below_all id_cmp e.0 es) _ sorted) (λ q k found. h q k (at-rest e es sorted q k found)))
  where
    by : (b : Bool) → sum_by (λ e. device_bytes e.1) es ≡ sum (map (λ e. rounded e.1.length) (counted store (copies_of es)))
        → cond b (rounded e.1.copy.length) 0 + sum_by (λ e. device_bytes e.1) es ≡ sum (map (λ e. rounded e.1.length) (cond b ((e.0, e.1.copy) ∷ counted store (copies_of es)) (counted store (copies_of es))))
    by true rest = ap (λ n. rounded e.1.copy.length + n) rest ∙ sym (sum_by-cons (λ (n : ℕ). n) (rounded e.1.copy.length) (map (λ e. rounded e.1.length) (counted store (copies_of es))))
    by false rest = omega (arith, rest)

-- ---- what is used, as the store has it

length-copies : (es : ById CopyView) → length (copies_of es) ≡ length es
length-copies [] = refl
length-copies (e ∷ es) = let rest = length-copies es in omega (arith, rest)

small : (n : ℕ) → n ≤ 1099511627776 → min n (2 ^ 64 - 1) ≡ n
small n le = grind (arith, nat_tests, le)

module _ (row : Row) (beside : SharedTables) (contents : Contents) (h : IsShown row beside contents) where
  abbrev store : Shape
  store = shape_of row beside

  sorted : T (is_sorted id_cmp row.copies)
  sorted = T_true _ (sym (sorted-copies row.copies) ∙ h.kept.kept.shape.by_id)

  quotas : is_quota store.quota ≡ true
  quotas = h.kept.kept.shape.quota refl

  widest : row.window.quota ≤ 268435456
  widest = let w = both_left (is_window row.window.quota) _ quotas in grind (arith, nat_tests, w)

  device_most : row.device ≤ 1099511627776
  device_most = let d = both_right (is_window row.window.quota) (nat_le row.device greatest_device_quota) quotas in grind (arith, nat_tests, d)

  within : (q : ObjectId) (k : CopyView) → at row.copies q ≡ Some k → window_bytes k ≤ 268435456
  within q k found = by (extent_of k.copy) (h.kept.kept.extents.placed q k.copy (at-copies_found row.copies q k found))
    where
      by : (o : Option Extent) → option_map_or (is_placed row.window.quota) o true ≡ true → option_map_or (λ e. e.length) o 0 ≤ 268435456
      by None t = omega arith
      by (Some e) t = let p = both_right _ (nat_le (end_of e) row.window.quota) t in let w = widest in grind (arith, nat_tests, p, w)

  window_is : total window_bytes row.copies ≡ window_used store
  window_is =
      let b = window-bound row.copies sorted within in
      let n = h.kept.kept.shape.most_copies in
      let l = length-copies row.copies in
      small (sum_by (λ e. window_bytes e.1) row.copies) (omega (arith, b, n, l)) ∙ window-sum row.copies

  spills : (q : ObjectId) (k : CopyView) → at row.copies q ≡ Some k → is_spilling k ≡ is_writing store q
  spills q k found = ap (λ o. option_map_or is_write o false) (h.working q k found) ∙ first_writes q store.works (h.kept.kept.shape.one_work q)

  pub device_is : total device_bytes row.copies ≡ device_used store
  device_is =
      let is = device-sum store row.copies sorted spills in
      let d = h.kept.kept.device in
      let q = device_most in
      small (sum_by (λ e. device_bytes e.1) row.copies) (omega (arith, is, d, q)) ∙ is

module _ (row : Row) (line : WorkLine) (grants : List StandingGrant) (bytes : ObjectId → List ℕ) (contents : Contents) (h : IsShown row (beside_of line grants bytes row.job) contents) where
  abbrev beside : SharedTables
  beside = beside_of line grants bytes row.job

  pub used-is : used row line ≡ usage_of (shape_of row beside)
  used-is =
      let copies = sym (length-copies row.copies) in
      λ i. record {
        window = row.window.quota;
        window_used = window_is row beside contents h i;
        device = row.device;
        device_used = device_is row beside contents h i;
        copies = copies i;
        works = length beside.works;
      }
