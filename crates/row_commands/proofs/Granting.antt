-- A row takes Grant and Withdraw: a copy is marked as the grants say, and removed if nothing keeps it.
use Rattle.std.proofs.Common.{◌≡◌, ℕ, ◌==◌, Bool, true, false, not, cond, ◌&&◌, ◌||◌, inl, inr, List, [], ◌∷◌, ◌++◌, map, filter, Option, Some, None, is_some, refl, sym, ap, subst, ◌∙◌, T, eq-eqb}
use Rattle.std.specs.Option.{option_map_or}
use Rattle.std.specs.List.{list_any, list_all}
use Rattle.std.proofs.lemmas.List.Folds.{list_any-append}
use Rattle.std.specs.FinMap.Entries.{is_sorted, same_entries, is_sorted-put}
use Rattle.obj_id.specs.declared.ids.JobNo.{JobNo}
use Rattle.obj_id.specs.declared.ids.ObjectId.{ObjectId}
use Rattle.obj_id.specs.declared.refusals.Refusal.{Refusal}
use Rattle.obj_id.specs.declared.refusals.Refusal.TheVariants.{BadId, Gone, Absent, NotResident, NotGranted}
use Rattle.obj_id.specs.declared.commands.Command.TheVariants as command
use Rattle.obj_id.specs.declared.commands.Reply.TheVariants as reply
use Rattle.obj_id.specs.Ids.{id_cmp, same_id}
use Rattle.store_facts.proofs.Ids.{id_cmp-IsTotalOrder, id_cmp-IsAntisymmetric, same_id-equal, same_id-itself}
use Rattle.private_store.specs.declared.inputs.Input.{Input}
use Rattle.private_store.specs.declared.inputs.Input.TheVariants as input
use Rattle.private_store.specs.rules.Tables.{ById, at, with_entry}
use Rattle.private_store.specs.rules.Shape.{Copy, Shape, Change, GrantGiven}
use Rattle.private_store.specs.rules.Copies.{is_held, is_granted, is_working, is_idle}
use Rattle.private_store.specs.rules.Room.{drop_copy}
use Rattle.private_store.specs.rules.Change.{done, erasing, settled, has_ended}
use Rattle.private_store.specs.rules.Commands.{is_sealed_primary, gives, grant}
use Rattle.private_store.specs.rules.Contents.{Contents}
use Rattle.private_store.specs.rules.Grants.{StandingGrant, ground, new_grant, with_grant, grants_left, is_withdrawn, is_given_by}
use Rattle.private_store.specs.laws.Invariants.{has_grant}
use Rattle.private_store.specs.rules.Private.{key_of}
use Rattle.store_facts.proofs.Checks.{checked-nil}
use Rattle.store_facts.proofs.Rows.{at-put, at-put_here}
use Rattle.store_facts.proofs.ErasedKeys.{keys_none, all_found}
use Rattle.store_facts.proofs.Tests.{T_true, true_T, true_false, both_left, or_false, or_cases, or_left, or_right, refuted}
use Rattle.store_facts.proofs.KeptLists.{any-filter, all-filter}
use Rattle.grants.specs.Table.{AreGrants, given_by as grants_given, given_to, is_first, is_no_grantee, limits_check, hung_check, grant_check as table_check, withdraw_check}
use Rattle.grants.specs.Private.{as_given, HasGrants, RefusesAlike}
use Rattle.grants.proofs.ForCallers.{numbers_equal, filter_swap, is_to, any_given, left_given, refuses_alike, grants_alike, taken_sorted, taken_is}
use Rattle.lru_evictor.proofs.ForCallers.{reordered-unused}
use Rattle.spill_work.specs.Line.{WorkLine}
use Rattle.row_copy.specs.Keeping.{is_over}
use Rattle.job_row.specs.Dropping.{settled_row, keys_settled}
use Rattle.row_commands.specs.Granting.{row_grant_check, grants_made}
use Rattle.row_copy.specs.CopyViews.{CopyView, with_granted}
use Rattle.row_commands.specs.Notes.{beside_rest}
use Rattle.job_row.specs.Row.{Row, copies_of, place_of, ArePlaced}
use Rattle.job_row.specs.Scope.{with_copy}
use Rattle.row_steps.specs.Shown.{seen, IsShown, only, RowStep}
use Rattle.row_steps.proofs.ForCallers.{unless_refused, first-check, in_sight, called, From, from_changed, there_still, bytes_stay, digests_stay, works_stay, listed_stay, working-on, idle_same, key_dropped, past, there, TakesChange, moved, change, received_stays, stays}
use Rattle.job_row.proofs.ForCallers.{changed-found, at-copies_found, at-copies_none, copies-changed}
use Rattle.row_commands.proofs.Noted.{is_well_hung}
use Rattle.row_commands.proofs.Notes.{lengths, row_has_grants, note_taken, first_left}
use Rattle.row_commands.proofs.Settling.{BringsNothing, moved_settles}
use Rattle.row_steps.specs.Beside.{SharedTables, beside_of, shape_of}
use Rattle.row_copy.specs.Checks.{grant_check_of}

-- an entry put where it stands already
with-same : {X : Type 0} (es : ById X) (id : ObjectId) (x : X) → T (is_sorted id_cmp es) → at es id ≡ Some x → with_entry es id x ≡ es
with-same es id x sorted found =
    same_entries id_cmp id_cmp-IsTotalOrder id_cmp-IsAntisymmetric (with_entry es id x) es (is_sorted-put id_cmp id_cmp-IsTotalOrder id x es sorted) sorted
    (λ q. at-put es id x q ∙ by q (same_id q id) refl)
  where
    by : (q : ObjectId) (b : Bool) → same_id q id ≡ b → cond b (Some x) (at es q) ≡ at es q
    by q true same = sym (ap (at es) (same_id-equal q id same) ∙ found)
    by q false same = refl

-- ---- a copy is marked as the grants say that stand beside it then

module _ (node : ℕ) (row : Row) (beside : SharedTables) (contents : Contents) (h : IsShown row beside contents) (x : Input) (quiet : BringsNothing node (seen row beside contents) x)
    (id : ObjectId) (k : CopyView) (found : at row.copies id ≡ Some k) (granted : Bool) (given : List GrantGiven)
    (its : granted ≡ has_grant given id) (others : (q : ObjectId) → same_id q id ≡ false → has_grant given q ≡ has_grant beside.given q) where
  abbrev f : CopyView → CopyView
  f = with_granted granted

  abbrev row_marked : Row
  row_marked = with_copy f row id

  abbrev beside_given : SharedTables
  beside_given = record beside { given = given }

  abbrev s : Shape
  s = shape_of row beside_given

  lies : (z : CopyView) → ((f z).copy.offset ≡ z.copy.offset) × ((f z).copy.length ≡ z.copy.length)
  lies z = (refl, refl)

  same_copies : copies_of row_marked.copies ≡ copies_of row.copies
  same_copies = copies-changed f row.copies id k found ∙ with-same (copies_of row.copies) id k.copy (T_true _ h.kept.kept.shape.by_id) (at-copies_found row.copies id k found)

  abbrev c : Change
  c = erasing (shape_of row beside) (done s)

  marks : TakesChange node row beside contents h x c (only reply.Ok) row_marked beside_given
  marks = record {
    shape = ap (λ t. record s { copies = t }) (sym same_copies);
    order = sym (reordered-unused row.order (copies_of row_marked.copies) (there_still node row beside contents h x id k found f lies row.order h.there));
    there = there_still node row beside contents h x id k found f lies row.order h.there;
    listed = listed_stay node row beside contents h x id k found f lies row.order h.listed;
    bytes = bytes_stay node row beside contents h x id k found f lies c quiet.bytes;
    digests = digests_stay node row beside contents h x id k found f lies c quiet.digest refl (λ keep. keep);
    working = works_stay node row beside contents h x id k found f lies refl;
    granted = λ q y is. by q y (from_changed f row.copies id k found q y is);
    received = received_stays node row beside contents h x quiet.received;
    reply = refl;
    erased = sym (ap (map (key_of row.job)) (keys_none (copies_of row.copies) (copies_of row.copies) (all_found (copies_of row.copies))));
  }
    where
      by : (q : ObjectId) (y : CopyView) → (z : CopyView) × (at row.copies q ≡ Some z) × From f row.copies id q y z → y.granted ≡ has_grant given q
      by q y (z, e, inl t) = ap (λ (y : CopyView). y.granted) t.1 ∙ its ∙ ap (has_grant given) (sym (same_id-equal q id t.0))
      by q y (z, e, inr t) = ap (λ (y : CopyView). y.granted) t.1 ∙ h.granted q z e ∙ sym (others q t.0)

  pub marked_so : change node row beside contents h x ≡ c → RowStep node row beside contents x (only reply.Ok) row_marked beside_given
  marked_so is = moved node row beside contents h x c is (only reply.Ok) row_marked beside_given marks refl

  -- and removed if nothing keeps it
  over_is : is_over (f k) ≡ k.copy.doomed && is_idle s id k.copy
  over_is =
      ap (λ b. k.copy.doomed && b)
      (idle_same (is_held k.copy) granted (is_granted s id) (is_working s id) k.working its (ap is_some (h.working id k found) ∙ working-on beside.works id))

  pub settles_marked : change node row beside contents h x ≡ erasing (shape_of row beside) (done (settled s id)) → ArePlaced row_marked.window.placed (place_of row_marked.copies)
      → RowStep node row beside contents x (record { reply = reply.Ok; posts = []; erased = keys_settled row_marked id }) (settled_row row_marked id) beside_given
  settles_marked is placed =
      moved_settles node row beside contents h x row_marked beside_given s [] [] marks id (f k)
      (ap (λ t. at t id) (changed-found f id row.copies k found) ∙ at-put_here row.copies id (f k)) (at-copies_found row.copies id k found) over_is
      (key_dropped (copies_of row.copies) id k.copy (T_true _ h.kept.kept.shape.by_id) (at-copies_found row.copies id k found)) is (λ o. refl) refl placed

-- where no copy changes no key is erased
none_erased : (row : Row) (beside : SharedTables) (given : List GrantGiven) → erasing (shape_of row beside) (done (shape_of row (record beside { given = given }))) ≡ done (shape_of row (record beside { given = given }))
none_erased row beside given = ap (λ keys. record (done (shape_of row (record beside { given = given }))) { erased = keys }) (keys_none (copies_of row.copies) (copies_of row.copies) (all_found (copies_of row.copies)))

-- an own copy is of no other job's object
not_own : (row : Row) (beside : SharedTables) (contents : Contents) → IsShown row beside contents → (id : ObjectId) → (id.job.0 == row.job) ≡ false → (q : ObjectId) (k : CopyView) → at row.copies q ≡ Some k → same_id q id ≡ false
not_own row beside contents h id foreign q k found =
    refuted (same_id q id) (λ same.
    sym foreign ∙ eq-eqb id.job.0 row.job (sym (ap (λ (i : ObjectId). i.job.0) (same_id-equal q id same)) ∙ (h.kept.kept.shape.each q k.copy (at-copies_found row.copies q k found)).own))

-- ---- Grant

module _ (node : ℕ) (line : WorkLine) (grants : List StandingGrant) (bytes : ObjectId → List ℕ) (row : Row) (contents : Contents) (session : ℕ) (id : ObjectId) (target : JobNo)
    (h : IsShown row (beside_of line grants bytes row.job) contents) where
  abbrev beside : SharedTables
  beside = beside_of line grants bytes row.job

  abbrev store : Shape
  store = shape_of row beside

  has : HasGrants (lengths bytes) grants store
  has = row_has_grants line grants bytes row

  refuses : RefusesAlike grants store
  refuses = refuses_alike (lengths bytes) grants store has

  abbrev asks : Input
  asks = input.Call session (command.Grant id target)

  abbrev a_grant : GrantGiven
  a_grant = record { id = id; target = target.0; parent = (new_grant grants id row.job target.0).parent }

  abbrev gave : Change
  gave = gives store id target.0 a_grant.parent

  -- the table has this grant more
  beside_granted : table_check grants row.job id target.0 ≡ None → record beside { given = store.given ++ a_grant ∷ [] } ≡ beside_of line (with_grant grants id row.job target.0) bytes row.job
  beside_granted passed =
      let now = (grants_alike (lengths bytes) grants row.job id target.0 passed).of_grantor store refl has in
      let received = taken_is (lengths bytes) (with_grant grants id row.job target.0) gave.shape now (true_T _ (taken_sorted (lengths bytes) (given_to row.job grants) [] tt)) in
      λ i. record { works = beside.works; used = beside.used; given = now.given i; received = received i; bytes = bytes }

  -- of other objects as many grants stand as before
  others_granted : (q : ObjectId) → same_id q id ≡ false → has_grant (store.given ++ a_grant ∷ []) q ≡ has_grant store.given q
  others_granted q apart = list_any-append (λ g. same_id q g.id) store.given (a_grant ∷ []) ∙ ap (λ b. has_grant store.given q || (b || false)) apart ∙ or_false (has_grant store.given q)

  -- an own object
  module _ (mine : (id.job.0 == row.job) ≡ true) where
    abbrev limits : Option Refusal
    limits = limits_check grants row.job id target.0 0

    abbrev after_limits : Option Refusal → Option Refusal
    after_limits o = cond (has_ended store id.task) (Some Gone) (elim (at row.copies id) [ None ↦ Some Absent | Some k ↦ grant_check_of k o ])

    grant-by : grant store id target.0 ≡ unless_refused store (row_grant_check row id target.0 limits) gave
    grant-by =
        refuses.own id target.0 mine
        ∙ first-check store (is_no_grantee id row.job target.0) BadId _ _ _ gave
        (first-check store (has_ended store id.task) Gone [] _ _ gave
        (checked-nil store _ ∙ in_sight row beside id _ (λ k. cond (not (is_sealed_primary k.copy)) (Some NotResident) limits) gave (λ k found seen.
        first-check store (not (is_sealed_primary k.copy)) NotResident [] _ limits gave (checked-nil store _))))

    table_says : row_grant_check row id target.0 (table_check grants row.job id target.0) ≡ row_grant_check row id target.0 limits
    table_says = by (is_no_grantee id row.job target.0)
      where
        by : (b : Bool) → cond b (Some BadId) (after_limits (cond b (Some BadId) (cond (id.job.0 == row.job) limits (hung_check grants row.job id target.0 (ground grants id row.job)))))
            ≡ cond b (Some BadId) (after_limits limits)
        by true = refl
        by false = ap (λ b. after_limits (cond b limits (hung_check grants row.job id target.0 (ground grants id row.job)))) mine

    module _ (table : Option Refusal) (response : table ≡ table_check grants row.job id target.0) where
      grant-is : (check : Option Refusal) → row_grant_check row id target.0 table ≡ check → change node row beside contents h asks ≡ erasing store (unless_refused store check gave)
      grant-is check e =
          called row beside session (command.Grant id target)
          ∙ ap (erasing store) (grant-by ∙ ap (λ o. unless_refused store o gave) (sym table_says ∙ ap (row_grant_check row id target.0) (sym response) ∙ e))

      pub grant_refused : (r : Refusal) → row_grant_check row id target.0 table ≡ Some r → RowStep node row beside contents asks (only (reply.Refused r)) row
          (beside_of line (grants_made (row_grant_check row id target.0 table) grants id row.job target.0) bytes row.job)
      grant_refused r e =
          subst (λ o. RowStep node row beside contents asks (only (reply.Refused r)) row (beside_of line (grants_made o grants id row.job target.0) bytes row.job)) (sym e)
          (stays node row beside contents h asks (reply.Refused r) (grant-is (Some r) e) refl refl refl)

      pub grant_done : row_grant_check row id target.0 table ≡ None → RowStep node row beside contents asks (only reply.Ok) (with_copy (with_granted true) row id)
          (beside_of line (grants_made (row_grant_check row id target.0 table) grants id row.job target.0) bytes row.job)
      grant_done e =
          let alive = past (has_ended store id.task) Gone _ (past (is_no_grantee id row.job target.0) BadId _ e).1 in
          let k = there (λ k. grant_check_of k table) Absent (at row.copies id) alive.1 in
          let passed = (past (not (is_sealed_primary k.0.copy)) NotResident table (past k.0.copy.doomed Absent _ k.2).1).1 in
          subst (λ o. RowStep node row beside contents asks (only reply.Ok) (with_copy (with_granted true) row id) (beside_of line (grants_made o grants id row.job target.0) bytes row.job)) (sym e)
          (subst (λ b. RowStep node row beside contents asks (only reply.Ok) (with_copy (with_granted true) row id) b) (beside_granted (sym response ∙ passed))
          (marked_so node row beside contents h asks (record { bytes = refl; digest = refl; received = refl }) id k.0 k.1 true (store.given ++ a_grant ∷ [])
          (sym (list_any-append (λ g. same_id id g.id) store.given (a_grant ∷ []) ∙ or_right (has_grant store.given id) (same_id id id || false) (or_left (same_id id id) false (same_id-itself id))))
          others_granted (grant-is None e)))

  -- another job's object
  module _ (foreign : (id.job.0 == row.job) ≡ false) where
    pub lend_refused : (r : Refusal) → table_check grants row.job id target.0 ≡ Some r → RowStep node row beside contents asks (only (reply.Refused r)) row beside
    lend_refused r e =
        stays node row beside contents h asks (reply.Refused r)
        (called row beside session (command.Grant id target) ∙ ap (erasing store) (refuses.foreign id target.0 foreign ∙ ap (λ o. unless_refused store o gave) e)) refl refl refl

    pub lend_done : table_check grants row.job id target.0 ≡ None → RowStep node row beside contents asks (only reply.Ok) row (beside_of line (with_grant grants id row.job target.0) bytes row.job)
    lend_done e =
        subst (λ b. RowStep node row beside contents asks (only reply.Ok) row b) (beside_granted e)
        (note_taken node row beside contents h asks (store.given ++ a_grant ∷ []) beside.received
        (called row beside session (command.Grant id target) ∙ ap (erasing store) (refuses.foreign id target.0 foreign ∙ ap (λ o. unless_refused store o gave) e) ∙ none_erased row beside (store.given ++ a_grant ∷ [])) refl refl
        (λ q k found. others_granted q (not_own row beside contents h id foreign q k found)) (received_stays node row beside contents h asks refl))

-- ---- Withdraw

module _ (node : ℕ) (line : WorkLine) (grants : List StandingGrant) (bytes : ObjectId → List ℕ) (row : Row) (contents : Contents) (session : ℕ) (id : ObjectId) (target : JobNo)
    (h : IsShown row (beside_of line grants bytes row.job) contents) where
  abbrev beside_all : SharedTables
  beside_all = beside_of line grants bytes row.job

  abbrev whole : Shape
  whole = shape_of row beside_all

  abbrev ending : Input
  ending = input.Call session (command.Withdraw id target)

  abbrev test : StandingGrant → Bool
  test = is_withdrawn row.job id target.0

  abbrev keeps : GrantGiven → Bool
  keeps a_grant = not (is_to id target.0 a_grant)

  -- what the job gave without the grant
  abbrev rest : List GrantGiven
  rest = map as_given (grants_given row.job (filter (λ a_grant. not (test a_grant)) grants))

  rest-is : rest ≡ filter keeps whole.given
  rest-is = sym (left_given row.job id target.0 grants)

  beside_left : record beside_all { given = rest } ≡ beside_rest line test grants bytes row.job
  beside_left = ap (λ hs. record beside_all { given = map as_given hs }) (filter_swap (is_given_by row.job) (λ a_grant. not (test a_grant)) grants)

  others_left : (q : ObjectId) → same_id q id ≡ false → has_grant rest q ≡ has_grant whole.given q
  others_left q apart =
      ap (λ given. has_grant given q) rest-is
      ∙ any-filter (λ a_grant. same_id q a_grant.id) keeps whole.given (λ a_grant same. ap (λ b. not (b && a_grant.target == target.0)) (not_it a_grant same))
    where
      not_it : (a_grant : GrantGiven) → same_id q a_grant.id ≡ true → same_id id a_grant.id ≡ false
      not_it a_grant same = refuted (same_id id a_grant.id) (λ its. sym apart ∙ ap (same_id q) (same_id-equal id a_grant.id its) ∙ same)

  withdraw-is : (check : Option Refusal) → withdraw_check grants row.job id target.0 ≡ check
      → change node row beside_all contents h ending ≡ erasing whole (unless_refused whole check (done (settled (shape_of row (record beside_all { given = rest })) id)))
  withdraw-is check e =
      called row beside_all session (command.Withdraw id target)
      ∙ ap (erasing whole) ((refuses_alike (lengths bytes) grants whole (row_has_grants line grants bytes row)).withdrawal id target.0
      ∙ ap (λ o. unless_refused whole o (done (settled (shape_of row (record beside_all { given = rest })) id))) e)

  pub withdraw_refused : (r : Refusal) → withdraw_check grants row.job id target.0 ≡ Some r → RowStep node row beside_all contents ending (only (reply.Refused r)) row beside_all
  withdraw_refused r e = stays node row beside_all contents h ending (reply.Refused r) (withdraw-is (Some r) e) refl refl refl

  -- another job's object has no copy here
  pub give_back_done : (id.job.0 == row.job) ≡ false → withdraw_check grants row.job id target.0 ≡ None → RowStep node row beside_all contents ending (only reply.Ok) row (beside_rest line test grants bytes row.job)
  give_back_done foreign e =
      subst (λ b. RowStep node row beside_all contents ending (only reply.Ok) row b) beside_left
      (note_taken node row beside_all contents h ending rest beside_all.received
      (withdraw-is None e ∙ ap (λ s. erasing whole (done s)) (settled_elsewhere (at row.copies id) refl) ∙ none_erased row beside_all rest) refl refl
      (λ q k found. others_left q (not_own row beside_all contents h id foreign q k found)) (received_stays node row beside_all contents h ending refl))
    where
      settled_elsewhere : (o : Option CopyView) → at row.copies id ≡ o → settled (shape_of row (record beside_all { given = rest })) id ≡ shape_of row (record beside_all { given = rest })
      settled_elsewhere None none =
          let s = shape_of row (record beside_all { given = rest }) in
          ap (λ o. option_map_or (λ (copy : Copy). cond (copy.doomed && is_idle s id copy) (drop_copy s id) s) o s) (at-copies_none row.copies id none)
      settled_elsewhere (Some k) found = true_false (sym (not_own row beside_all contents h id foreign id k found) ∙ same_id-itself id)

  -- an own one has one, since a grant of it stands
  module _ (mine : (id.job.0 == row.job) ≡ true) (stands : withdraw_check grants row.job id target.0 ≡ None) where
    was_given : has_grant whole.given id ≡ true
    was_given = some_grant whole.given (any_given row.job id target.0 grants ∙ stood (list_any test grants) stands)
      where
        stood : (b : Bool) → ◌≡◌ {A = Option Refusal} (cond b None (Some NotGranted)) None → b ≡ true
        stood true e = refl
        stood false e = absurd cc

        some_grant : (given : List GrantGiven) → list_any (is_to id target.0) given ≡ true → has_grant given id ≡ true
        some_grant [] = λ e. true_false e
        some_grant (a_grant ∷ given) = λ e. elim (or_cases (is_to id target.0 a_grant) (list_any (is_to id target.0) given) e) [
          | inl its ↦ or_left (same_id id a_grant.id) (has_grant given id) (both_left (same_id id a_grant.id) (a_grant.target == target.0) its)
          | inr later ↦ or_right (same_id id a_grant.id) (has_grant given id) (some_grant given later)
        ]

    there_is : (k : CopyView) × (at row.copies id ≡ Some k)
    there_is = by (at row.copies id) refl
      where
        by : (o : Option CopyView) → at row.copies id ≡ o → (k : CopyView) × (at row.copies id ≡ Some k)
        by (Some k) found = (k, found)
        by None none = true_false (sym (h.kept.kept.shape.grants_of_copies id (numbers_equal id.job.0 row.job mine) (at-copies_none row.copies id none)) ∙ was_given)

    its : AreGrants grants → has_grant rest id ≡ list_any (is_first id) (grants_left test grants)
    its are =
        let swapped = filter_swap (is_given_by row.job) (λ a_grant. not (test a_grant)) grants in
        ap (λ hs. has_grant (map as_given hs) id) swapped
        ∙ first_left grants bytes test are row.job id mine
        (ap (list_all (is_well_hung row.job)) (ap (map as_given) (sym swapped) ∙ rest-is) ∙ all-filter (is_well_hung row.job) keeps whole.given h.kept.kept.shape.own_grants)

    pub withdraw_done : AreGrants grants → (granted : Bool) → granted ≡ list_any (is_first id) (grants_left test grants)
        → ArePlaced (with_copy (with_granted granted) row id).window.placed (place_of (with_copy (with_granted granted) row id).copies)
        → RowStep node row beside_all contents ending (record { reply = reply.Ok; posts = []; erased = keys_settled (with_copy (with_granted granted) row id) id }) (settled_row (with_copy (with_granted granted) row id) id)
        (beside_rest line test grants bytes row.job)
    withdraw_done are granted says placed =
        subst (λ b. RowStep node row beside_all contents ending (record { reply = reply.Ok; posts = []; erased = keys_settled (with_copy (with_granted granted) row id) id }) (settled_row (with_copy (with_granted granted) row id) id) b) beside_left
        (settles_marked node row beside_all contents h ending (record { bytes = refl; digest = refl; received = refl }) id there_is.0 there_is.1 granted rest
        (says ∙ sym (its are)) others_left (withdraw-is None stands) placed)
