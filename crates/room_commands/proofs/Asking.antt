-- A row takes a step where writes are asked for to make room.
use Rattle.std.proofs.Common.{◌≡◌, ℕ, ◌+◌, ◌≤◌, Bool, true, false, not, ◌&&◌, ◌||◌, cond, List, [], ◌∷◌, ◌++◌, map, fold, length, take, Option, Some, None, is_none, option_map, unwrap_or, refl, sym, ap, subst, ◌∙◌, T, arith}
use Rattle.std.specs.Prelude.{find, nat_le, is_ok}
use Rattle.std.proofs.lemmas.Bool.Decides.{nat_tests}
use Rattle.std.specs.Option.{option_map_or}
use Rattle.std.specs.FinMap.Entries.{is_sorted, same_entries, is_sorted-put}
use Rattle.obj_id.specs.declared.ids.JobNo.{JobNo}
use Rattle.obj_id.specs.declared.ids.ObjectId.{ObjectId}
use Rattle.obj_id.specs.declared.works.WorkKind.TheVariants.{Write, Read}
use Rattle.obj_id.specs.declared.commands.Reply.TheVariants as reply
use Rattle.obj_id.specs.declared.refusals.Refusal.TheVariants.{Pending}
use Rattle.obj_id.specs.Ids.{id_cmp, same_id}
use Rattle.store_facts.proofs.Ids.{id_cmp-IsTotalOrder, id_cmp-IsAntisymmetric, same_id-equal}
use Rattle.private_store.specs.rules.Limits.{most_works, has_numbers}
use Rattle.private_store.specs.rules.Tables.{ById, at, with_entry, is_among}
use Rattle.private_store.specs.rules.Grants.{StandingGrant}
use Rattle.private_store.specs.rules.Shape.{Copy, Shape, Change, WorkInFlight}
use Rattle.private_store.specs.declared.inputs.Input.{Input}
use Rattle.private_store.specs.rules.Copies.{extent_of, is_working, is_idle, is_spillable}
use Rattle.private_store.specs.rules.Room.{Room, make_room, no_room, asked}
use Rattle.private_store.specs.rules.Change.{refused, erasing, in_room}
use Rattle.private_store.specs.rules.Contents.{Contents, judge, keeps_digest, no_digest, brought}
use Rattle.private_store.specs.rules.Private.{key_of}
use Rattle.private_store.specs.rules.Step.{step}
use Rattle.store_facts.proofs.Filling.{filled}
use Rattle.store_facts.proofs.ErasedKeys.{keys_none, all_found}
use Rattle.store_facts.proofs.Rows.{at-put}
use Rattle.store_facts.proofs.Tests.{T_true, both, both_left, both_right, some_value, none_some, none_here, not_true}
use Rattle.job_region.specs.Region.{region_bytes_at as placed_bytes}
use Rattle.lru_evictor.specs.Orders.{AreThere}
use Rattle.lru_evictor.proofs.ForCallers.{reordered-unused}
use Rattle.spill_work.specs.Line.{WorkLine, numbered_works, in_flight, used_by, room_for, AsksAll}
use Rattle.job_row.specs.Entries.{changed, each_changed}
use Rattle.row_copy.specs.CopyViews.{CopyView, can_spill, after_spill_begun, spill_begun_if}
use Rattle.job_row.specs.Row.{Row, copies_of}
use Rattle.room_commands.specs.RoomPlans.{AsksWrites}
use Rattle.row_steps.specs.Shown.{seen, work_on, IsShown, only, RowStep}
use Rattle.row_steps.proofs.ForCallers.{sending-is, working-on, TakesChange, moved, same_bytes, received_stays}
use Rattle.job_row.proofs.ForCallers.{changed-found, changed-absent, sorted-copies, at-copies_found, copies-changed}
use Rattle.row_copy.proofs.ForCallers.{same_copy}
use Rattle.room_commands.specs.MadeRooms.{BringsNothing, TellsRoom}
use Rattle.room_commands.proofs.Rooms.{room_is, each_among}
use Rattle.row_steps.specs.Beside.{SharedTables, beside_of, shape_of}

-- ---- copies whose writes are in flight

same_digest : (k : CopyView) → (spill_begun_if k).digest ≡ k.digest
same_digest k = by (can_spill k)
  where
    by : (b : Bool) → (cond b (after_spill_begun k) k).digest ≡ k.digest
    by true = refl
    by false = refl

-- what writes already can't be asked for again
once_more : (k : CopyView) → spill_begun_if (spill_begun_if k) ≡ spill_begun_if k
once_more k = by (can_spill k) refl
  where
    none_left : (b : Bool) → b && false ≡ false
    none_left true = refl
    none_left false = refl

    by : (b : Bool) → can_spill k ≡ b → spill_begun_if (cond b (after_spill_begun k) k) ≡ cond b (after_spill_begun k) k
    by true t = ap (λ b. cond b (after_spill_begun k) (after_spill_begun k)) (none_left _)
    by false t = ap (λ b. cond b (after_spill_begun k) k) t

at-changed : (es : ById CopyView) (id q : ObjectId) → at (changed spill_begun_if es id) q ≡ cond (same_id q id) (option_map spill_begun_if (at es q)) (at es q)
at-changed es id q = by (at es id) refl
  where
    by : (o : Option CopyView) → at es id ≡ o → at (changed spill_begun_if es id) q ≡ cond (same_id q id) (option_map spill_begun_if (at es q)) (at es q)
    by None none = ap (λ t. at t q) (changed-absent spill_begun_if id es none) ∙ here (same_id q id) refl
      where
        here : (b : Bool) → same_id q id ≡ b → at es q ≡ cond b (option_map spill_begun_if (at es q)) (at es q)
        here true t = let nothing = ap (at es) (same_id-equal q id t) ∙ none in nothing ∙ sym (ap (option_map spill_begun_if) nothing)
        here false t = refl
    by (Some k) found = ap (λ t. at t q) (changed-found spill_begun_if id es k found) ∙ at-put es id (spill_begun_if k) q ∙ here (same_id q id) refl
      where
        here : (b : Bool) → same_id q id ≡ b → cond b (Some (spill_begun_if k)) (at es q) ≡ cond b (option_map spill_begun_if (at es q)) (at es q)
        here true t = sym (ap (option_map spill_begun_if) (ap (at es) (same_id-equal q id t) ∙ found))
        here false t = refl

at-each : (ids : List ObjectId) (es : ById CopyView) (q : ObjectId) → at (each_changed spill_begun_if es ids) q ≡ cond (is_among ids q) (option_map spill_begun_if (at es q)) (at es q)
at-each [] es q = refl
at-each (id ∷ ids) es q =
    at-each ids (changed spill_begun_if es id) q
    ∙ ap (λ o. cond (is_among ids q) (option_map spill_begun_if o) o) (at-changed es id q)
    ∙ by (same_id q id) (is_among ids q) (at es q)
  where
    by : (s a : Bool) (o : Option CopyView) → cond a (option_map spill_begun_if (cond s (option_map spill_begun_if o) o)) (cond s (option_map spill_begun_if o) o) ≡ cond (s || a) (option_map spill_begun_if o) o
    by true true None = refl
    by true true (Some k) = ap Some (once_more k)
    by true false o = refl
    by false true o = refl
    by false false o = refl

-- the store's copies are the same
one_same : (es : ById CopyView) (id : ObjectId) → T (is_sorted id_cmp es) → copies_of (changed spill_begun_if es id) ≡ copies_of es
one_same es id sorted = by (at es id) refl
  where
    by : (o : Option CopyView) → at es id ≡ o → copies_of (changed spill_begun_if es id) ≡ copies_of es
    by None none = ap copies_of (changed-absent spill_begun_if id es none)
    by (Some k) found =
        copies-changed spill_begun_if es id k found ∙ ap (with_entry (copies_of es) id) (same_copy k)
        ∙ same_entries id_cmp id_cmp-IsTotalOrder id_cmp-IsAntisymmetric (with_entry (copies_of es) id k.copy) (copies_of es)
        (is_sorted-put id_cmp id_cmp-IsTotalOrder id k.copy (copies_of es) (subst T (sym (sorted-copies es)) sorted)) (subst T (sym (sorted-copies es)) sorted)
        (λ q. at-put (copies_of es) id k.copy q ∙ here q (same_id q id) refl)
      where
        here : (q : ObjectId) (b : Bool) → same_id q id ≡ b → cond b (Some k.copy) (at (copies_of es) q) ≡ at (copies_of es) q
        here q true t = sym (ap (at (copies_of es)) (same_id-equal q id t) ∙ at-copies_found es id k found)
        here q false t = refl

all_same : (ids : List ObjectId) (es : ById CopyView) → T (is_sorted id_cmp es) → copies_of (each_changed spill_begun_if es ids) ≡ copies_of es
all_same [] es sorted = refl
all_same (id ∷ ids) es sorted =
    let one = one_same es id sorted in
    all_same ids (changed spill_begun_if es id) (subst T (sym (sym (sorted-copies (changed spill_begun_if es id)) ∙ ap (λ t. is_sorted id_cmp t) one ∙ sorted-copies es)) sorted) ∙ one

-- ---- works

append_nil : {Y : Type 0} (ys : List Y) → ys ++ [] ≡ ys
append_nil [] = refl
append_nil (y ∷ ys) = ap (λ zs. y ∷ zs) (append_nil ys)

append_one : {Y : Type 0} (xs : List Y) (y : Y) (ys : List Y) → (xs ++ y ∷ []) ++ ys ≡ xs ++ y ∷ ys
append_one [] y ys = refl
append_one (x ∷ xs) y ys = ap (λ zs. x ∷ zs) (append_one xs y ys)

pub all_asked : (ids : List ObjectId) (store : Shape) → fold (asked true) store ids ≡ record store { works = store.works ++ numbered_works Write store.works_asked ids; works_asked = store.works_asked + length ids }
all_asked [] store = sym (λ i. record store { works = append_nil store.works i; works_asked = none store.works_asked i })
  where
    none : (a : ℕ) → a + 0 ≡ a
    none a = omega arith
all_asked (id ∷ ids) store =
    all_asked ids (asked true store id)
    ∙ (λ i. record store { works = append_one store.works (record { number = store.works_asked + 1; id = id; writes = true }) (numbered_works Write (store.works_asked + 1) ids) i; works_asked = more store.works_asked (length ids) (length (id ∷ ids)) (omega arith) i })
  where
    more : (a b c : ℕ) → c ≡ b + 1 → (a + 1) + b ≡ a + c
    more a b c is = omega (arith, is)

-- the works of an object among more
pub work_before : (ws vs : List WorkInFlight) (q : ObjectId) → work_on ws q ≡ None → work_on (ws ++ vs) q ≡ work_on vs q
work_before [] vs q none = refl
work_before (w ∷ ws) vs q none = by (same_id q w.id) (work_before ws vs q) none
  where
    by : (b : Bool) → (work_on ws q ≡ None → work_on (ws ++ vs) q ≡ work_on vs q) → option_map (λ (w : WorkInFlight). cond w.writes Write Read) (cond b (Some w) (find (λ w. same_id q w.id) ws)) ≡ None
        → option_map (λ (w : WorkInFlight). cond w.writes Write Read) (cond b (Some w) (find (λ w. same_id q w.id) (ws ++ vs))) ≡ work_on vs q
    by true rest none = none_some (cond w.writes Write Read) (sym none)
    by false rest none = rest none

pub work_after : (ws vs : List WorkInFlight) (q : ObjectId) → work_on vs q ≡ None → work_on (ws ++ vs) q ≡ work_on ws q
work_after [] vs q none = none
work_after (w ∷ ws) vs q none = by (same_id q w.id) (work_after ws vs q none)
  where
    by : (b : Bool) → work_on (ws ++ vs) q ≡ work_on ws q → option_map (λ (w : WorkInFlight). cond w.writes Write Read) (cond b (Some w) (find (λ w. same_id q w.id) (ws ++ vs)))
        ≡ option_map (λ (w : WorkInFlight). cond w.writes Write Read) (cond b (Some w) (find (λ w. same_id q w.id) ws))
    by true rest = refl
    by false rest = rest

work_asked : (last : ℕ) (ids : List ObjectId) (q : ObjectId) → work_on (numbered_works Write last ids) q ≡ cond (is_among ids q) (Some Write) None
work_asked last [] q = refl
work_asked last (id ∷ ids) q = by (same_id q id) (work_asked (last + 1) ids q)
  where
    by : (b : Bool) → work_on (numbered_works Write (last + 1) ids) q ≡ cond (is_among ids q) (Some Write) None
        → option_map (λ (w : WorkInFlight). cond w.writes Write Read) (cond b (Some (record { number = last + 1; id = id; writes = true })) (find (λ w. same_id q w.id) (numbered_works Write (last + 1) ids))) ≡ cond (b || is_among ids q) (Some Write) None
    by true rest = refl
    by false rest = rest

-- where so many works may be asked for fewer may be
pub may_ask_fewer : (line : WorkLine) (job : JobNo) (n few : ℕ) → few ≤ n → room_for line job n ≡ true → room_for line job few ≡ true
may_ask_fewer line job n few le may =
    let within : nat_le (in_flight line job + n) most_works ≡ true = both_left (nat_le (in_flight line job + n) most_works) _ may in
    let numbers : has_numbers (used_by line job) n ≡ true = both_right (nat_le (in_flight line job + n) most_works) _ may in
    both (nat_le (in_flight line job + few) most_works) _ (grind (arith, nat_tests, le, within)) (grind (arith, nat_tests, le, numbers))

-- ---- the step

module _ (node : ℕ) (row : Row) (line : WorkLine) (grants : List StandingGrant) (bytes : ObjectId → List ℕ) (contents : Contents) (h : IsShown row (beside_of line grants bytes row.job) contents)
    (x : Input) (quiet : BringsNothing node (seen row (beside_of line grants bytes row.job) contents) x) (n : ℕ) (f : Shape → ℕ → Change)
    (by_room : step row.order (shape_of row (beside_of line grants bytes row.job)) (judge node (seen row (beside_of line grants bytes row.job) contents) x) ≡ erasing (shape_of row (beside_of line grants bytes row.job)) (in_room (make_room row.order (shape_of row (beside_of line grants bytes row.job)) n) f))
    (ids : List ObjectId) (asks : AsksWrites (make_room row.order (shape_of row (beside_of line grants bytes row.job)) n) (shape_of row (beside_of line grants bytes row.job)) ids)
    (line_after : WorkLine) (in_line : AsksAll line (record { 0 = row.job }) Write ids line_after) where
  abbrev beside : SharedTables
  beside = beside_of line grants bytes row.job

  abbrev after : SharedTables
  after = beside_of line_after grants bytes row.job

  abbrev s : Shape
  s = shape_of row beside

  abbrev new : Row
  new = record row { copies = each_changed spill_begun_if row.copies ids }

  abbrev now : Shape
  now = record s { works = s.works ++ numbered_works Write s.works_asked ids; works_asked = s.works_asked + length ids }

  sorted : T (is_sorted id_cmp row.copies)
  sorted = subst T (sorted-copies row.copies) (T_true _ h.kept.kept.shape.by_id)

  copies_same : copies_of new.copies ≡ copies_of row.copies
  copies_same = all_same ids row.copies sorted

  change_is : step row.order s (judge node (seen row beside contents) x) ≡ erasing s (refused now Pending)
  change_is =
      room_is node row beside contents h x quiet n f by_room (no_room (fold (asked true) s ids) Pending) asks.room_is
      ∙ ap (erasing s) (sending-is [] (refused (fold (asked true) s ids) Pending) ∙ ap (λ t. refused t Pending) (all_asked ids s))

  shape_now : now ≡ shape_of new after
  shape_now = λ i. record s { copies = sym copies_same i; works = sym in_line.own_works i; works_asked = sym in_line.own_used i }

  -- what a copy was
  was : (q : ObjectId) (k : CopyView) → at new.copies q ≡ Some k → (z : CopyView) × (at row.copies q ≡ Some z) × (k ≡ cond (is_among ids q) (spill_begun_if z) z)
  was q k found = by (at row.copies q) refl (is_among ids q) (sym (at-each ids row.copies q) ∙ found)
    where
      by : (o : Option CopyView) → at row.copies q ≡ o → (b : Bool) → cond b (option_map spill_begun_if o) o ≡ Some k → (z : CopyView) × (o ≡ Some z) × (k ≡ cond b (spill_begun_if z) z)
      by None e true t = none_some k t
      by None e false t = none_some k t
      by (Some z) e true t = (z, refl, sym (some_value (spill_begun_if z) k t))
      by (Some z) e false t = (z, refl, sym (some_value z k t))

  copy_was : (q : ObjectId) (k z : CopyView) → k ≡ cond (is_among ids q) (spill_begun_if z) z → (k.copy ≡ z.copy) × (k.digest ≡ z.digest)
  copy_was q k z is = (ap (λ (k : CopyView). k.copy) is ∙ by (is_among ids q), ap (λ (k : CopyView). k.digest) is ∙ digest (is_among ids q))
    where
      by : (b : Bool) → (cond b (spill_begun_if z) z).copy ≡ z.copy
      by true = same_copy z
      by false = refl

      digest : (b : Bool) → (cond b (spill_begun_if z) z).digest ≡ z.digest
      digest true = same_digest z
      digest false = refl

  granted_was : (q : ObjectId) (k z : CopyView) → k ≡ cond (is_among ids q) (spill_begun_if z) z → k.granted ≡ z.granted
  granted_was q k z is = ap (λ (k : CopyView). k.granted) is ∙ by (is_among ids q) (can_spill z)
    where
      by : (b may : Bool) → (cond b (cond may (after_spill_begun z) z) z).granted ≡ z.granted
      by true true = refl
      by true false = refl
      by false may = refl

  -- what is asked for can be written
  may : (q : ObjectId) (z : CopyView) → at row.copies q ≡ Some z → is_among ids q ≡ true → (z.working ≡ None) × (can_spill z ≡ true)
  may q z found among =
      let all : is_spillable s q z.copy ≡ true =
      sym (ap (λ c. option_map_or (is_spillable s q) c false) (at-copies_found row.copies q z found))
      ∙ each_among (λ q. option_map_or (is_spillable s q) (at s.copies q) false) ids asks.spillable q among in
      let idle = both_right _ (is_idle s q z.copy) (both_left _ (not z.copy.doomed) all) in
      let still = not_true (is_working s q) (both_right _ (not (is_working s q)) idle) in
      let none = h.working q z found ∙ none_here (work_on s.works q) (working-on s.works q ∙ still) in
      (none, both _ _ (both_left _ (is_idle s q z.copy) (both_left _ (not z.copy.doomed) all)) (ap is_none none))

  working_now : (q : ObjectId) (k : CopyView) → at new.copies q ≡ Some k → k.working ≡ work_on after.works q
  working_now q k found =
      let z = was q k found in
      ap (λ (k : CopyView). k.working) z.2 ∙ by z.0 z.1 (is_among ids q) refl ∙ ap (λ ws. work_on ws q) (sym in_line.own_works)
    where
      by : (z : CopyView) → at row.copies q ≡ Some z → (b : Bool) → is_among ids q ≡ b → (cond b (spill_begun_if z) z).working ≡ work_on (s.works ++ numbered_works Write s.works_asked ids) q
      by z found true among =
          let m = may q z found among in
          ap (λ b. (cond b (after_spill_begun z) z).working) m.1
          ∙ sym (work_before s.works (numbered_works Write s.works_asked ids) q (sym (h.working q z found) ∙ m.0) ∙ work_asked s.works_asked ids q ∙ ap (λ b. cond b (Some Write) None) among)
      by z found false among =
          h.working q z found ∙ sym (work_after s.works (numbered_works Write s.works_asked ids) q (work_asked s.works_asked ids q ∙ ap (λ b. cond b (Some Write) None) among))

  there_now : AreThere (copies_of new.copies) row.order
  there_now = subst (λ t. AreThere t row.order) (sym copies_same) h.there

  m : TakesChange node row beside contents h x (erasing s (refused now Pending)) (only (reply.Refused Pending)) new after
  m = record {
    shape = shape_now;
    order = sym (reordered-unused row.order (copies_of new.copies) there_now);
    there = there_now;
    listed = λ q k found. let z = was q k found in h.listed q z.0 z.1;
    bytes = λ q k e found lies.
        let z = was q k found in
        let same = (copy_was q k z.0 z.2).0 in
        ap (λ b. filled (at (brought contents.bytes b) q) k.copy) (quiet.bytes (reply.Refused Pending)) ∙ ap (filled (at contents.bytes q)) same ∙ same_bytes node row beside contents h x q z.0 e z.1 (ap extent_of (sym same) ∙ lies)
        ∙ ap (λ (copy : Copy). take copy.length (placed_bytes e row.window.placed)) (sym same);
    digests = λ q k found keeps.
        let z = was q k found in
        let same = copy_was q k z.0 z.2 in
        ap (λ d. unwrap_or (at (brought contents.digests d) q) no_digest) (quiet.digests (reply.Refused Pending)) ∙ h.digests q z.0 z.1 (ap keeps_digest (sym same.0) ∙ keeps) ∙ ap (λ d. unwrap_or d no_digest) (sym same.1);
    working = working_now;
    granted = λ q k found. let z = was q k found in granted_was q k z.0 z.2 ∙ h.granted q z.0 z.1;
    received = received_stays node row beside contents h x quiet.received;
    reply = refl;
    erased = sym (ap (map (key_of row.job)) (keys_none (copies_of row.copies) (copies_of row.copies) (all_found (copies_of row.copies))));
  }

  pub asked_done : RowStep node row beside contents x (only (reply.Refused Pending)) new after
  asked_done = moved node row beside contents h x (erasing s (refused now Pending)) change_is (only (reply.Refused Pending)) new after m refl

-- whatever waited for the room
pub asked_told : (row : Row) (line : WorkLine) (grants : List StandingGrant) (bytes : ObjectId → List ℕ) (contents : Contents) → IsShown row (beside_of line grants bytes row.job) contents → (n : ℕ)
    (ids : List ObjectId) → AsksWrites (make_room row.order (shape_of row (beside_of line grants bytes row.job)) n) (shape_of row (beside_of line grants bytes row.job)) ids
    → (line_after : WorkLine) → AsksAll line (record { 0 = row.job }) Write ids line_after → (after : Row) → after ≡ record row { copies = each_changed spill_begun_if row.copies ids }
    → TellsRoom row (beside_of line grants bytes row.job) contents n Pending after (beside_of line_after grants bytes row.job)
asked_told row line grants bytes contents h n ids asks line_after in_line then is = record {
  tells = λ node x f quiet by_room.
      subst (λ r. RowStep node row (beside_of line grants bytes row.job) contents x (only (reply.Refused Pending)) r (beside_of line_after grants bytes row.job)) (sym is)
      (asked_done node row line grants bytes contents h x quiet n f (by_room (ap (λ (r : Room). is_ok r.offset) asks.room_is)) ids asks line_after in_line);
}
