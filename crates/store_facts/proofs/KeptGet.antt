-- Create and Get keep the store: what takes room, and what a fetch does.
use Rattle.std.proofs.Common.{◌≡◌, ℕ, zero, suc, ◌+◌, ◌≤◌, ◌<◌, true, false, not, ◌&&◌, ◌||◌, ◌==◌, List, [], ◌∷◌, ◌++◌, length, Some, None, is_some, is_ok, refl, sym, ap, subst, ◌∙◌, arith}
use Rattle.std.specs.Prelude.{nat_le, nat_lt, ◌^◌}
use Rattle.std.specs.List.{list_all}
use Rattle.std.proofs.lemmas.Bool.{leb-false, leb-true, ltb-true, lt-ltb, le-leb, eqb-false}
use Rattle.obj_id.specs.declared.ids.ObjectId.{ObjectId}
use Rattle.obj_id.specs.declared.commands.Kind.{Kind}
use Rattle.obj_id.specs.declared.commands.CopyState.{CopyState}
use Rattle.obj_id.specs.declared.commands.CopyState.TheVariants.{Created, Sealed, Restoring, Fetching, Away}
use Rattle.obj_id.specs.declared.refusals.Refusal.TheVariants.{Absent, NotSealed, Pending}
use Rattle.obj_id.specs.Ids.{same_id}
use Rattle.private_store.specs.rules.Limits.{longest_object, most_holds, most_copies, most_works, has_numbers}
use Rattle.private_store.specs.rules.Extents.{rounded}
use Rattle.private_store.specs.rules.Tables.{at, with_entry}
use Rattle.private_store.specs.rules.Shape.{Copy, Shape, Fetch, Phase, locating, sized, pulling, failed}
use Rattle.private_store.specs.rules.Marks.{chunk_count, counted, with_holds}
use Rattle.private_store.specs.rules.Copies.{is_sealed, is_away}
use Rattle.private_store.specs.rules.Room.{make_room, works_left, set_copy}
use Rattle.private_store.specs.rules.Change.{refused, checked, needing, sending, has_ended}
use Rattle.private_store.specs.rules.Commands.{refusal_of, is_length, is_full_of_copies, new_copy, created, create, get_sealed, restoring, restore, get_away, begin_pull, get_fetching, get_copy, fetched_copy, fetch_begun, begin_fetch, get, holds_of, all_holds}
use Rattle.private_store.specs.laws.Invariants.{IsOrderOfUse, IsCopyKept, are_held, are_gaps, has_work, has_grant, is_fetching, is_restoring}
use Rattle.store_facts.proofs.KeptCopy.{tight}
use Rattle.store_facts.proofs.KeptRows.{row_put, rows_changed, IsLiveKept}
use Rattle.store_facts.proofs.KeptWorks.{ask_keeps, next_work, pushed_no, pushed_yes}
use Rattle.store_facts.proofs.KeptRoom.{IsMade}
use Rattle.store_facts.proofs.KeptPlan.{room_keeps, in_room_keeps}
use Rattle.store_facts.proofs.KeptChanges.{no_write_of, no_grant_of, unheld_of, no_work_of, held_copy, told_copy, fetched_on, new_kept, fetched_kept}
use Rattle.store_facts.proofs.KeptStore.{Keeps, same_keeps, check_keeps, checks_keep, needing_keeps, sending_keeps, keeps_row, set_keeps, drop_keeps, put_row, kept_copy, kept_absent}
use Rattle.store_facts.proofs.Tests.{and_rest, both, both_left, both_right, none_here, or_right, passed, true_false}
use Rattle.store_facts.proofs.Ids.{same_id-itself}

-- ---- chunks

length-counted : (start n : ℕ) → length (counted start n) ≡ n
length-counted start zero = refl
length-counted start (suc n) = ap suc (length-counted (start + 1) n)

counted-below : (start n m : ℕ) → start + n ≤ m → list_all (λ i. nat_lt i m) (counted start n) ≡ true
counted-below start zero m h = refl
counted-below start (suc n) m h = both _ _ (lt-ltb start m (omega (arith, h))) (counted-below (start + 1) n m (omega (arith, h)))

chunks_positive : (n : ℕ) → 0 < n → 0 < chunk_count n
chunks_positive n h = omega (arith, h)

all_gaps : (n source : ℕ) → 0 < n → n ≤ longest_object → are_gaps n (pulling source (counted 0 (chunk_count n))) ≡ true
all_gaps n source pos long =
    let l = length-counted 0 (chunk_count n) in
    let some = chunks_positive n pos in
    both (nat_lt 0 (length (counted 0 (chunk_count n))) && list_all (λ i. nat_lt i (chunk_count n)) (counted 0 (chunk_count n)) && nat_lt 0 n) (nat_le n longest_object)
    (both (nat_lt 0 (length (counted 0 (chunk_count n))) && list_all (λ i. nat_lt i (chunk_count n)) (counted 0 (chunk_count n))) (nat_lt 0 n)
    (both (nat_lt 0 (length (counted 0 (chunk_count n)))) (list_all (λ i. nat_lt i (chunk_count n)) (counted 0 (chunk_count n)))
    (lt-ltb 0 (length (counted 0 (chunk_count n))) (subst (λ m. 0 < m) (sym l) some))
    (counted-below 0 (chunk_count n) (chunk_count n) (let z : 0 + chunk_count n ≤ chunk_count n = omega arith in z)))
    (lt-ltb 0 n pos)) (le-leb n longest_object long)

module _ (store : Shape) where
  length_positive : (n : ℕ) → is_length store n ≡ true → 0 < n
  length_positive n e = ltb-true 0 n (both_left (nat_lt 0 n) (nat_le n longest_object) (both_left (nat_lt 0 n && nat_le n longest_object) (nat_le (rounded n) store.quota.window) e))

  length_within : (n : ℕ) → is_length store n ≡ true → n ≤ longest_object
  length_within n e = leb-true n longest_object (both_right (nat_lt 0 n) (nat_le n longest_object) (both_left (nat_lt 0 n && nat_le n longest_object) (nat_le (rounded n) store.quota.window) e))

module _ (order : List ObjectId) (once : IsOrderOfUse order) {store : Shape} (h : IsLiveKept store) where
  -- ---- Create

  placed_keeps : (id : ObjectId) (kind : Kind) (n offset : ℕ) → id.job.0 ≡ store.job → has_ended store id.task ≡ false → at store.copies id ≡ None → length store.copies < most_copies → 0 < n → n ≤ longest_object
      → {shape : Shape} (m : IsMade store shape) → Keeps (created id kind n (record store { copies = m.copies }) offset)
  placed_keeps id kind n offset own live none few pos long m = record {
    is =
        let new = new_copy kind n offset in
        keeps_row m.kept id (Some new) (with_entry m.copies id new) (row_put m.copies id new m.kept.rows.in_order m.kept.rows.few (λ _. let f = m.fewer in omega (arith, f, few)))
        (new_kept store.job store.works store.given store.ended_tasks id own (kept_absent m.kept id (m.absent id none)) live kind n offset pos long);
  }

  pub create_keeps : (id : ObjectId) (kind : Kind) (n : ℕ) → id.job.0 ≡ store.job → Keeps (create order store id kind n)
  create_keeps id kind n own =
      let room = make_room order store n in
      let r = room_keeps order once store h n in
      check_keeps h (not (is_length store n)) _ _ _ (λ l. check_keeps h (has_ended store id.task) _ _ _ (λ live. check_keeps h (is_some (at store.copies id)) _ _ _ (λ none. check_keeps h (is_full_of_copies (length store.copies)) _ [] _ (λ few. checks_keep h _
      (in_room_keeps store room (created id kind n) r.made r.kept (λ offset m _.
      let t = passed (is_length store n) l in
      placed_keeps id kind n offset own live (none_here (at store.copies id) none) (leb-false most_copies (length store.copies) few) (length_positive store n t) (length_within store n t) m))))))

  -- ---- Get of a copy that is here

  get_sealed_keeps : (session : ℕ) (id : ObjectId) (copy : Copy) → at store.copies id ≡ Some copy → copy.doomed ≡ false → copy.state ≡ Sealed → Keeps (get_sealed store session id copy)
  get_sealed_keeps session id copy e d s = check_keeps h (nat_le most_holds (all_holds copy)) _ [] _ (λ few. checks_keep h _ (record {
    is =
        let lt : all_holds copy < most_holds = leb-false most_holds (all_holds copy) few in
        set_keeps h id copy (with_holds copy session (holds_of copy session + 1)) e
        (tight (held_copy copy (kept_copy h id copy e) session (holds_of copy session + 1) (λ _. ap is_sealed s) (omega (arith, lt))) (λ t. true_false (sym d ∙ t)));
  }))

  -- ---- Get of a copy that is away

  restoring_copy : (id : ObjectId) (copy : Copy) (offset : ℕ) → copy.state ≡ Away → copy.fault ≡ None → IsCopyKept store.job store.works store.given store.ended_tasks id copy
      → IsCopyKept store.job (store.works ++ next_work store.works_asked id false ∷ []) store.given store.ended_tasks id (record copy { state = Restoring; offset = Some offset })
  restoring_copy id copy offset s f k =
      let w = next_work store.works_asked id false in
      record {
        own = k.own;
        form = record { resident = refl; in_fetch = k.in_fetch ∙ ap is_fetching s; fetched = λ t. true_false t; gaps = k.gaps; sized = λ _. k.sized (ap is_fetching s) };
        marks = record { secondary = k.secondary; away = λ _. k.away (ap (λ x. is_away x || is_restoring x) s); faulty = λ t. true_false (sym (ap is_some f) ∙ t) };
        holds = record { held = λ t. true_false (sym (unheld_of copy k (ap is_sealed s)) ∙ t); sessions = k.sessions; few_holds = k.few_holds };
        uses = record {
          granted = λ t. true_false (sym (no_grant_of copy k (ap is_sealed s)) ∙ t);
          spilled = λ t. true_false (sym (pushed_no (λ x. same_id id x.id && x.writes) store.works w (ap (λ b. b && false) (same_id-itself id)) ∙ no_write_of copy k (ap is_sealed s)) ∙ t);
          restored = pushed_yes (λ x. same_id id x.id && not x.writes) store.works w (ap (λ b. b && true) (same_id-itself id));
        };
        scope = k.scope;
        doomed = λ d. or_right (are_held copy.holds || has_grant store.given id) (has_work (store.works ++ w ∷ []) id) (pushed_yes (λ x. same_id id x.id) store.works w (same_id-itself id));
      }

  works_few : (works_left store == 0) ≡ false → length store.works < most_works
  works_few e = let ne = eqb-false (works_left store) 0 e in omega (arith, ne)

  restored_keeps : (id : ObjectId) (copy : Copy) (offset : ℕ) → at store.copies id ≡ Some copy → copy.state ≡ Away → copy.fault ≡ None → length store.works < most_works → store.works_asked + 1 < 2 ^ 64
      → {shape : Shape} (m : IsMade store shape) → Keeps (restoring id copy (record store { copies = m.copies }) offset)
  restored_keeps id copy offset e s f few end m = record {
    is =
        let back : Copy = record copy { state = Restoring; offset = Some offset } in
        let there = m.others id copy e (ap is_sealed s) in
        let k = kept_copy h id copy e in
        ask_keeps m.kept id back (with_entry m.copies id back) false (put_row m.kept id copy back there) (no_work_of copy k (ap is_sealed s) (ap is_restoring s)) few end (restoring_copy id copy offset s f k);
  }

  pub restore_keeps : (id : ObjectId) (copy : Copy) → at store.copies id ≡ Some copy → copy.state ≡ Away → copy.fault ≡ None → Keeps (restore order store id copy)
  restore_keeps id copy e s f =
      let room = make_room order store copy.length in
      let r = room_keeps order once store h copy.length in
      check_keeps h (works_left store == 0) _ [] _ (λ left. checks_keep h _
      (check_keeps h (is_ok room.offset && not (has_numbers store.works_asked 1)) _ [] _ (λ numbers. checks_keep h _
      (in_room_keeps store room (restoring id copy) r.made r.kept (λ offset m ok. restored_keeps id copy offset e s f (works_few left)
      (ltb-true (store.works_asked + 1) (2 ^ 64) (passed (has_numbers store.works_asked 1) (and_rest (is_ok room.offset) (not (has_numbers store.works_asked 1)) ok numbers))) m)))))

  get_away_keeps : (id : ObjectId) (copy : Copy) → at store.copies id ≡ Some copy → copy.state ≡ Away → Keeps (get_away order store id copy)
  get_away_keeps id copy e s =
      elim copy.fault as (λ o. copy.fault ≡ o → Keeps (elim o [ Some fault ↦ refused (set_copy store id (record copy { fault = None })) (refusal_of fault) | None ↦ restore order store id copy ])) [
        | Some fault ↦ λ _. record { is = set_keeps h id copy (record copy { fault = None }) e (told_copy copy (kept_copy h id copy e)) }
        | None ↦ λ f. restore_keeps id copy e s f
      ] refl

  -- ---- Get of a copy that is on its way

  pulled_keeps : (id : ObjectId) (copy : Copy) (fetch : Fetch) (source offset : ℕ) → at store.copies id ≡ Some copy → copy.state ≡ Fetching → is_length store copy.length ≡ true
      → {shape : Shape} (m : IsMade store shape) → Keeps (begin_pull id copy fetch source (record store { copies = m.copies }) offset)
  pulled_keeps id copy fetch source offset e s l m = sending_keeps _ _ (record {
    is =
        let next : Fetch = record fetch { phase = pulling source (counted 0 (chunk_count copy.length)) } in
        set_keeps m.kept id copy (record copy { offset = Some offset; fetch = Some next }) (m.others id copy e (ap is_sealed s))
        (fetched_on copy (kept_copy h id copy e) s copy.length (Some offset) next refl (all_gaps copy.length source (length_positive store copy.length l) (length_within store copy.length l)));
  })

  get_fetching_keeps : (id : ObjectId) (copy : Copy) (fetch : Fetch) (phase : Phase) → at store.copies id ≡ Some copy → copy.state ≡ Fetching → Keeps (get_fetching order store id copy fetch phase)
  get_fetching_keeps id copy fetch locating e s = sending_keeps _ _ (same_keeps h _ refl)
  get_fetching_keeps id copy fetch (sized source) e s =
      let room = make_room order store copy.length in
      let r = room_keeps order once store h copy.length in
      check_keeps h (not (is_length store copy.length)) _ [] _ (λ l. checks_keep h _
      (in_room_keeps store room (begin_pull id copy fetch source) r.made r.kept (λ offset m _. pulled_keeps id copy fetch source offset e s (passed (is_length store copy.length) l) m)))
  get_fetching_keeps id copy fetch (pulling source missing) e s = sending_keeps _ _ (same_keeps h _ refl)
  get_fetching_keeps id copy fetch (failed refusal) e s =
      let k = kept_copy h id copy e in
      record { is = drop_keeps h id (no_work_of copy k (ap is_sealed s) (ap is_restoring s)) (no_grant_of copy k (ap is_sealed s)) }

  -- ---- Get

  get_copy_keeps : (session : ℕ) (id : ObjectId) (copy : Copy) (state : CopyState) → at store.copies id ≡ Some copy → copy.doomed ≡ false → copy.state ≡ state
      → Keeps (elim state [
        | Created ↦ refused store NotSealed
        | Sealed ↦ get_sealed store session id copy
        | Restoring ↦ refused store Pending
        | Fetching ↦ needing store copy.fetch Absent (λ fetch. get_fetching order store id copy fetch fetch.phase)
        | Away ↦ get_away order store id copy
      ])
  get_copy_keeps session id copy Created e d s = same_keeps h _ refl
  get_copy_keeps session id copy Sealed e d s = get_sealed_keeps session id copy e d s
  get_copy_keeps session id copy Restoring e d s = same_keeps h _ refl
  get_copy_keeps session id copy Fetching e d s = needing_keeps h _ _ _ (λ fetch _. get_fetching_keeps id copy fetch fetch.phase e s)
  get_copy_keeps session id copy Away e d s = get_away_keeps id copy e s

  begun_keeps : (id : ObjectId) → id.job.0 ≡ store.job → has_ended store id.task ≡ false → at store.copies id ≡ None → length store.copies < most_copies → has_numbers store.fetches_begun 1 ≡ true → IsLiveKept (fetch_begun store id (store.fetches_begun + 1))
  begun_keeps id own live none few numbers = record {
    live = h.live;
    quota = h.quota;
    rows =
        let new = fetched_copy (store.fetches_begun + 1) in
        rows_changed {o = Some new} h.rows (row_put store.copies id new h.rows.in_order h.rows.few (λ _. few))
        (fetched_kept store.job store.works store.given store.ended_tasks id own (kept_absent h id none) live (store.fetches_begun + 1));
    works = h.works;
    grants = h.grants;
    fetches = ltb-true (store.fetches_begun + 1) (2 ^ 64) numbers;
    ended = h.ended;
  }

  begin_fetch_keeps : (id : ObjectId) → id.job.0 ≡ store.job → has_ended store id.task ≡ false → at store.copies id ≡ None → Keeps (begin_fetch store id)
  unfolding sending
  begin_fetch_keeps id own live none =
      check_keeps h (is_full_of_copies (length store.copies)) _ _ _ (λ few. check_keeps h (not (has_numbers store.fetches_begun 1)) _ [] _ (λ numbers. checks_keep h _ (record {
        is = begun_keeps id own live none (leb-false most_copies (length store.copies) few) (passed (has_numbers store.fetches_begun 1) numbers);
      })))

  pub get_keeps : (session : ℕ) (id : ObjectId) → id.job.0 ≡ store.job → Keeps (get order store session id)
  get_keeps session id own =
      check_keeps h (has_ended store id.task) _ [] _ (λ live. checks_keep h _
      (elim (at store.copies id) as (λ o. at store.copies id ≡ o → Keeps (elim o [ None ↦ begin_fetch store id | Some copy ↦ checked store ((copy.doomed, Absent) ∷ []) (get_copy order store session id copy) ])) [
        | None ↦ λ e. begin_fetch_keeps id own live e
        | Some copy ↦ λ e. check_keeps h copy.doomed _ [] _ (λ d. checks_keep h _ (get_copy_keeps session id copy copy.state e d refl))
      ] refl))
