-- What making room keeps: copies that go are such as may, and works are asked for as many as are left.
use Rattle.std.proofs.Common.{◌≡◌, ℕ, ◌+◌, ◌≤◌, ◌<◌, Bool, true, false, not, cond, ◌&&◌, ◌||◌, List, [], ◌∷◌, ◌++◌, length, fold, Option, Some, None, is_some, is_none, refl, sym, ap, subst, ◌∙◌, T, arith}
use Rattle.std.specs.Prelude.{◌^◌, count_by}
use Rattle.std.specs.Option.{option_map_or}
use Rattle.std.specs.FinMap.{is_sorted}
use Rattle.std.proofs.lemmas.List.{length_push}
use Rattle.obj_id.specs.declared.ids.ObjectId.{ObjectId}
use Rattle.obj_id.specs.declared.ids.TaskNo.{TaskNo}
use Rattle.obj_id.specs.declared.commands.CopyState.TheVariants.{Away}
use Rattle.obj_id.specs.Ids.{id_cmp, same_id}
use Rattle.private_store.specs.rules.Limits.{most_works}
use Rattle.private_store.specs.rules.Tables.{ById, at, with_entry, without_entry, is_among}
use Rattle.private_store.specs.rules.Shape.{Copy, WorkInFlight, GrantGiven, Shape}
use Rattle.obj_id.specs.Kinds.{is_primary}
use Rattle.private_store.specs.rules.Copies.{is_sealed, is_idle, is_evictable, is_spillable}
use Rattle.private_store.specs.rules.Room.{set_copy, drop_copy, evicted, asked}
use Rattle.private_store.specs.laws.Invariants.{IsOrderOfUse, IsCopyKept, are_held, has_work, has_read, has_write, has_grant, is_fetching}
use Rattle.store_facts.proofs.KeptCopy.{IsRowKept, idle_held, idle_granted, idle_working, sealed_is, has_work-split, none_of}
use Rattle.store_facts.proofs.KeptLists.{count-cons, none_counted}
use Rattle.store_facts.proofs.KeptRows.{IsRowChange, row_put, row_drop, row_same, IsLiveKept}
use Rattle.store_facts.proofs.KeptWorks.{ask_keeps, pushed_no, pushed_yes, next_work}
use Rattle.store_facts.proofs.KeptFold.{Visits, visited}
use Rattle.store_facts.proofs.KeptStore.{with_copies, kept_copy}
use Rattle.store_facts.proofs.Tests.{both_left, both_right, false_true, or_false_left, or_false_right, or_left, or_right, refuted, true_false}
use Rattle.store_facts.proofs.Ids.{same_id-itself}

-- ---- copies that may go

-- a copy that nothing keeps here, and whose bytes are elsewhere if it is a primary
pub record MayGo (works : List WorkInFlight) (given : List GrantGiven) (id : ObjectId) (copy : Copy) : Type 0 where
  pub unheld : are_held copy.holds ≡ false
  pub no_grant : has_grant given id ≡ false
  pub no_work : has_work works id ≡ false
  pub still : is_fetching copy.state ≡ false
  pub backed : is_primary copy.kind ≡ true → is_some copy.backed ≡ true

abbrev away_copy : Copy → Copy
away_copy copy = record copy { state = Away; offset = None }

no_write : (works : List WorkInFlight) (id : ObjectId) → has_work works id ≡ false → has_write works id ≡ false
no_write works id e = or_false_left (has_write works id) (has_read works id) (sym (has_work-split works id) ∙ e)

no_read : (works : List WorkInFlight) (id : ObjectId) → has_work works id ≡ false → has_read works id ≡ false
no_read works id e = or_false_right (has_write works id) (has_read works id) (sym (has_work-split works id) ∙ e)

module _ {job : ℕ} {works : List WorkInFlight} {given : List GrantGiven} {ended : List TaskNo} {id : ObjectId} where
  away_kept : (copy : Copy) → IsCopyKept job works given ended id copy → MayGo works given id copy → is_primary copy.kind ≡ true → IsCopyKept job works given ended id (away_copy copy)
  away_kept copy h g p = record {
    own = h.own;
    form = record { resident = refl; in_fetch = h.in_fetch ∙ g.still; fetched = λ e. true_false e; gaps = h.gaps; sized = λ _. h.sized g.still };
    marks = record { secondary = h.secondary; away = λ _. (p, g.backed p); faulty = λ _. refl };
    holds = record { held = λ e. true_false (sym g.unheld ∙ e); sessions = h.sessions; few_holds = h.few_holds };
    uses = record { granted = λ e. true_false (sym g.no_grant ∙ e); spilled = λ e. true_false (sym (no_write works id g.no_work) ∙ e); restored = no_read works id g.no_work };
    scope = h.scope;
    doomed = h.doomed;
  }

still_may_go : (works : List WorkInFlight) (given : List GrantGiven) (id : ObjectId) (copy : Copy) → MayGo works given id copy → MayGo works given id (away_copy copy)
still_may_go works given id copy g = record { unheld = g.unheld; no_grant = g.no_grant; no_work = g.no_work; still = refl; backed = g.backed }

-- ---- eviction

-- the table without the copy, or with the copy away
abbrev gone : ById Copy → ObjectId → ById Copy
gone copies id = option_map_or (λ copy. cond (is_primary copy.kind) (with_entry copies id (away_copy copy)) (without_entry copies id)) (at copies id) copies

evicted-is : (store : Shape) (id : ObjectId) → evicted store id ≡ record store { copies = gone store.copies id }
evicted-is store id =
    elim (at store.copies id) as (λ o. option_map_or (λ copy. cond (is_primary copy.kind) (set_copy store id (record copy { state = Away; offset = None })) (drop_copy store id)) o store
    ≡ record store { copies = option_map_or (λ copy. cond (is_primary copy.kind) (with_entry store.copies id (away_copy copy)) (without_entry store.copies id)) o store.copies }) [
      | None ↦ refl
      | Some copy ↦ elim (is_primary copy.kind) as (λ b. cond b (set_copy store id (record copy { state = Away; offset = None })) (drop_copy store id)
          ≡ record store { copies = cond b (with_entry store.copies id (away_copy copy)) (without_entry store.copies id) }) [ true ↦ refl | false ↦ refl ]
    ]

evicted-fold : (store : Shape) (ids : List ObjectId) → fold evicted store ids ≡ record store { copies = fold gone store.copies ids }
evicted-fold store [] = refl
evicted-fold store (id ∷ ids) = ap (λ s. fold evicted s ids) (evicted-is store id) ∙ evicted-fold (record store { copies = gone store.copies id }) ids

-- what is so of a row, while ids are evicted from a table and afterwards
module _ (store : Shape) (ids : List ObjectId) where
  record Evicted (q : ObjectId) (o : Option Copy) : Type 0 where
    kept : IsRowKept store.job store.works store.given store.ended_tasks q o
    other : is_among ids q ≡ false → o ≡ at store.copies q
    absent : at store.copies q ≡ None → o ≡ None

  abbrev MayGoRow : ObjectId → Option Copy → Type 0
  MayGoRow q None = Unit {0}
  MayGoRow q (Some copy) = MayGo store.works store.given q copy

  record Going (q : ObjectId) (o : Option Copy) : Type 0 where
    row : Evicted q o
    go : MayGoRow q o
    chosen : is_among ids q ≡ true

  record Gone (most : ℕ) (copies : ById Copy) (id : ObjectId) (new : ById Copy) : Type 0 where
    row : Option Copy
    change : IsRowChange most copies id row new
    going : Going id row

  going_row : (id : ObjectId) (row : Option Copy) → is_among ids id ≡ true → IsRowKept store.job store.works store.given store.ended_tasks id row → MayGoRow id row → (at store.copies id ≡ None → row ≡ None) → Going id row
  going_row id row c k g a = record { row = record { kept = k; other = λ f. false_true (sym c ∙ f); absent = a }; go = g; chosen = c }

  module _ (most : ℕ) (copies : ById Copy) (id : ObjectId) (h : T (is_sorted id_cmp copies)) (n : length copies ≤ most) where
    gone_kind : (copy : Copy) → at copies id ≡ Some copy → Going id (Some copy) → (b : Bool) → is_primary copy.kind ≡ b → Gone most copies id (cond b (with_entry copies id (away_copy copy)) (without_entry copies id))
    gone_kind copy e g true p = record {
      row = Some (away_copy copy);
      change = row_put copies id (away_copy copy) h n (λ f. false_true (sym (ap is_some e) ∙ f));
      going = going_row id (Some (away_copy copy)) g.chosen (away_kept copy g.row.kept g.go p) (still_may_go store.works store.given id copy g.go) (λ f. false_true (ap is_some (g.row.absent f)));
    }
    gone_kind copy e g false p = record {
      row = None;
      change = row_drop copies id h n;
      going = going_row id None g.chosen (record { no_work = g.go.no_work; no_grant = λ _. g.go.no_grant }) tt (λ f. refl);
    }

    gone_row : (o : Option Copy) → at copies id ≡ o → Going id o → Gone most copies id (option_map_or (λ copy. cond (is_primary copy.kind) (with_entry copies id (away_copy copy)) (without_entry copies id)) o copies)
    gone_row None e g = record { row = None; change = row_same copies id None h n e; going = g }
    gone_row (Some copy) e g = gone_kind copy e g (is_primary copy.kind) refl

    evict_visits : Going id (at copies id) → Visits most gone Going Evicted copies id
    evict_visits g =
        let k : Gone most copies id (gone copies id) = gone_row (at copies id) refl g in
        record { row = k.row; change = k.change; again = k.going; done = k.going.row }

-- what is left of a store where room was made
pub record IsMade (store shape : Shape) : Type 0 where
  pub copies : ById Copy
  pub is : shape ≡ record store { copies = copies }
  pub kept : IsLiveKept (record store { copies = copies })
  pub fewer : length copies ≤ length store.copies
  pub absent : (q : ObjectId) → at store.copies q ≡ None → at copies q ≡ None
  -- what isn't sealed stays as it is
  pub others : (q : ObjectId) (copy : Copy) → at store.copies q ≡ Some copy → is_sealed copy.state ≡ false → at copies q ≡ Some copy

or_rest : (a b : Bool) → a ≡ true → not a || b ≡ true → b ≡ true
or_rest true b e f = f
or_rest false b e f = true_false e

-- the copy is there, and passes the test
abbrev pub passes : Shape → (ObjectId → Copy → Bool) → ObjectId → Bool
passes store test id = option_map_or (test id) (at store.copies id) false

module _ (store : Shape) (h : IsLiveKept store) where
  evictable_may_go : (id : ObjectId) (copy : Copy) → is_evictable store id copy ≡ true → MayGo store.works store.given id copy
  evictable_may_go id copy t =
      let mark : not (is_primary copy.kind) || is_some copy.backed ≡ true = both_right (is_sealed copy.state && is_idle store id copy) (not (is_primary copy.kind) || is_some copy.backed) t in
      let first : is_sealed copy.state && is_idle store id copy ≡ true = both_left _ (not (is_primary copy.kind) || is_some copy.backed) t in
      let idle = both_right (is_sealed copy.state) (is_idle store id copy) first in
      record {
        unheld = idle_held (are_held copy.holds) (has_grant store.given id) (has_work store.works id) idle;
        no_grant = idle_granted (are_held copy.holds) (has_grant store.given id) (has_work store.works id) idle;
        no_work = idle_working (are_held copy.holds) (has_grant store.given id) (has_work store.works id) idle;
        still = ap is_fetching (sealed_is copy.state (both_left (is_sealed copy.state) (is_idle store id copy) first));
        backed = λ p. or_rest (is_primary copy.kind) (is_some copy.backed) p mark;
      }

  passing_goes : (ids : List ObjectId) (q : ObjectId) → is_among ids q ≡ true → passes store (is_evictable store) q ≡ true → Going store ids q (at store.copies q)
  passing_goes ids q c t = record {
    row = record { kept = h.rows.each q; other = λ _. refl; absent = λ e. e };
    go = elim (at store.copies q) as (λ o. option_map_or (is_evictable store q) o false ≡ true → MayGoRow store ids q o) [ None ↦ λ f. tt | Some copy ↦ λ f. evictable_may_go q copy f ] t;
    chosen = c;
  }

  -- copies that pass the test are evicted
  pub evict_keeps : (ids : List ObjectId) → ((q : ObjectId) → is_among ids q ≡ true → passes store (is_evictable store) q ≡ true) → IsMade store (fold evicted store ids)
  evict_keeps ids chosen =
      let most = length store.copies in
      let self : most ≤ most = omega arith in
      let v = visited most gone (Going store ids) (Evicted store ids) (λ copies id. evict_visits store ids most copies id) ids store.copies h.rows.in_order self
      (λ q t. passing_goes ids q t (chosen q t)) (λ q t. record { kept = h.rows.each q; other = λ _. refl; absent = λ e. e }) in
      record {
        copies = fold gone store.copies ids;
        is = evicted-fold store ids;
        kept = with_copies h (fold gone store.copies ids) (record { in_order = v.in_order; each = λ q. (v.each q).kept; few = let f = v.few in let g = h.rows.few in omega (arith, f, g) });
        fewer = v.few;
        absent = λ q. (v.each q).absent;
        others = λ q copy e f. (v.each q).other (refuted (is_among ids q) (λ t. sym f ∙ sealed_passes q copy (subst (λ o. option_map_or (is_evictable store q) o false ≡ true) e (chosen q t)))) ∙ e;
      }
    where
      sealed_passes : (q : ObjectId) (copy : Copy) → is_evictable store q copy ≡ true → is_sealed copy.state ≡ true
      sealed_passes q copy t = both_left (is_sealed copy.state) (is_idle store q copy) (both_left (is_sealed copy.state && is_idle store q copy) (not (is_primary copy.kind) || is_some copy.backed) t)

-- ---- spilling

-- a sealed primary that isn't backed, with no work
pub record MaySpill (copies : ById Copy) (works : List WorkInFlight) (id : ObjectId) : Type 0 where
  pub copy : Copy
  pub is : at copies id ≡ Some copy
  pub sealed : is_sealed copy.state ≡ true
  pub primary : is_primary copy.kind ≡ true
  pub unbacked : copy.backed ≡ None
  pub no_work : has_work works id ≡ false

pub spillable_is : (store : Shape) (id : ObjectId) → passes store (is_spillable store) id ≡ true → MaySpill store.copies store.works id
spillable_is store id t = by_row (at store.copies id) refl t
  where
    by_row : (o : Option Copy) → at store.copies id ≡ o → option_map_or (is_spillable store id) o false ≡ true → MaySpill store.copies store.works id
    by_row None e t = true_false t
    by_row (Some copy) e t =
        let four : is_sealed copy.state && is_primary copy.kind && is_none copy.backed && is_idle store id copy ≡ true = both_left _ (not copy.doomed) t in
        let three : is_sealed copy.state && is_primary copy.kind && is_none copy.backed ≡ true = both_left _ (is_idle store id copy) four in
        let two : is_sealed copy.state && is_primary copy.kind ≡ true = both_left _ (is_none copy.backed) three in
        record {
          copy = copy;
          is = e;
          sealed = both_left (is_sealed copy.state) (is_primary copy.kind) two;
          primary = both_right (is_sealed copy.state) (is_primary copy.kind) two;
          unbacked = none_of copy.backed (both_right (is_sealed copy.state && is_primary copy.kind) (is_none copy.backed) three);
          no_work = idle_working (are_held copy.holds) (has_grant store.given id) (has_work store.works id) (both_right (is_sealed copy.state && is_primary copy.kind && is_none copy.backed) (is_idle store id copy) four);
        }

module _ (store : Shape) (h : IsLiveKept store) where
  spill_one : (id : ObjectId) → MaySpill store.copies store.works id → length store.works < most_works → store.works_asked + 1 < 2 ^ 64 → IsLiveKept (asked true store id)
  spill_one id m few end =
      let k = kept_copy h id m.copy m.is in
      let works : List WorkInFlight = store.works ++ next_work store.works_asked id true ∷ [] in
      let w = next_work store.works_asked id true in
      ask_keeps h id m.copy store.copies true (row_same store.copies id (Some m.copy) h.rows.in_order h.rows.few m.is) m.no_work few end
      (record {
        own = k.own;
        form = k.form;
        marks = k.marks;
        holds = k.holds;
        uses = record {
          granted = k.granted;
          spilled = λ e. (m.sealed, m.primary, m.unbacked);
          restored = pushed_no (λ x. same_id id x.id && not x.writes) store.works w (ap (λ b. b && false) (same_id-itself id)) ∙ k.restored;
        };
        scope = k.scope;
        doomed = λ d. or_right (are_held m.copy.holds || has_grant store.given id) (has_work works id) (pushed_yes (λ x. same_id id x.id) store.works w (same_id-itself id));
      })

  -- another id may still be spilled
  spill_others : (id q : ObjectId) → same_id q id ≡ false → MaySpill store.copies store.works q → MaySpill store.copies (asked true store id).works q
  spill_others id q e m = record {
    copy = m.copy;
    is = m.is;
    sealed = m.sealed;
    primary = m.primary;
    unbacked = m.unbacked;
    no_work = pushed_no (λ x. same_id q x.id) store.works (next_work store.works_asked id true) e ∙ m.no_work;
  }

once_more : (a n : ℕ) → n ≡ 1 + a → n ≤ 1 → a ≡ 0
once_more a n e h = omega (arith, e, h)

pub spills_keep : (ids : List ObjectId) (store : Shape) → IsLiveKept store → ((q : ObjectId) → is_among ids q ≡ true → MaySpill store.copies store.works q) → IsOrderOfUse ids
    → length store.works + length ids ≤ most_works → store.works_asked + length ids < 2 ^ 64 → IsLiveKept (fold (asked true) store ids)
spills_keep [] store h m once few end = h
spills_keep (id ∷ ids) store h m once few end =
    let pushed = length_push store.works (next_work store.works_asked id true) in
    spills_keep ids (asked true store id)
    (spill_one store h id (m id (or_left (same_id id id) (is_among ids id) (same_id-itself id))) (omega (arith, few)) (omega (arith, end)))
    (λ q t. spill_others store h id q (refuted (same_id q id) (λ s. sym (alone q s) ∙ t)) (m q (or_right (same_id q id) (is_among ids q) t)))
    (λ q. let k = count-cons (same_id q) id ids in let o = once q in omega (arith, k, o))
    (omega (arith, pushed, few)) (omega (arith, end))
  where
    alone : (q : ObjectId) → same_id q id ≡ true → is_among ids q ≡ false
    alone q s = none_counted (same_id q) ids (once_more (count_by (same_id q) ids) (count_by (same_id q) (id ∷ ids)) (count-cons (same_id q) id ids ∙ ap (λ b. cond b 1 0 + count_by (same_id q) ids) s) (once q))
