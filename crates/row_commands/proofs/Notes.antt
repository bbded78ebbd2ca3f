-- Other jobs' grants are steps of a row, and of a store that isn't live, which change nothing but what stands beside.
use Rattle.std.proofs.Common.{◌≡◌, ℕ, ◌==◌, Bool, true, false, not, cond, ◌&&◌, ◌||◌, List, [], ◌∷◌, ◌++◌, map, filter, fold, length, Some, None, unwrap_or, refl, sym, ap, subst, ◌∙◌, T, eq-eqb}
use Rattle.std.proofs.lemmas.List.{append-nil}
use Rattle.std.proofs.lemmas.List.Sums.{fold-append}
use Rattle.std.specs.List.{list_any, list_all}
use Rattle.std.specs.FinMap.{is_sorted}
use Rattle.obj_id.specs.declared.ids.TaskNo.{TaskNo}
use Rattle.obj_id.specs.declared.ids.ObjectId.{ObjectId}
use Rattle.obj_id.specs.declared.commands.Reply.TheVariants as reply
use Rattle.obj_id.specs.Ids.{id_cmp, same_id}
use Rattle.private_store.specs.declared.inputs.Input.{Input}
use Rattle.private_store.specs.declared.inputs.Input.TheVariants as input
use Rattle.private_store.specs.rules.Tables.{ById, at, with_entry}
use Rattle.private_store.specs.rules.Shape.{Life, live, Shape, GrantGiven, Seen}
use Rattle.private_store.specs.rules.Change.{done}
use Rattle.private_store.specs.rules.Contents.{Contents, View, judge, kept, brought, no_digest, bytes_brought, digest_brought, bytes_received}
use Rattle.private_store.specs.rules.Events.{withdrawn, received}
use Rattle.private_store.specs.rules.Grants.{StandingGrant, new_grant, with_grant, grants_ended, grants_left, is_of_task, is_given_by}
use Rattle.private_store.specs.laws.Invariants.{has_grant}
use Rattle.private_store.specs.rules.Private.{view_step, view_from, view_after}
use Rattle.private_store.specs.laws.NodeInputs.{JobInput, only_of, received_here, withdrawn_here}
use Rattle.store_facts.proofs.Filling.{filled}
use Rattle.store_facts.proofs.Tests.{true_T}
use Rattle.grants.specs.Table.{AreGrants, given_by as grants_given, given_to, is_first}
use Rattle.grants.specs.Private.{as_given, with_taken, HasGrants, HasRest, RestAlike, after_ends}
use Rattle.grants.proofs.ForCallers.{numbers_equal, ends_alike, rest_alike, filter_both, made_for, has_grants, taken_sorted, taken_shown, taken_is}
use Rattle.lru_evictor.proofs.ForCallers.{reordered-unused}
use Rattle.spill_work.specs.Line.{WorkLine}
use Rattle.row_copy.specs.CopyViews.{CopyView}
use Rattle.row_commands.specs.Notes.{IsSeen, end_of_grant, ends_to, beside_rest, received_shape, received_view}
use Rattle.job_row.specs.Row.{Row, copies_of}
use Rattle.row_steps.specs.Shown.{seen, IsShown, only, RowStep}
use Rattle.job_row.proofs.ForCallers.{at-copies_found}
use Rattle.row_commands.proofs.Noted.{with_grants, withdrawn-is, withdrawn-fewer, withdrawn-own, withdrawn-none, response-is, response-sorted, response-none, response-own, is_well_hung}
use Rattle.row_steps.proofs.ForCallers.{kept_of_fewer, kept_with_more, moved, change, same_bytes}
use Rattle.row_steps.specs.Beside.{SharedTables, row_given_by, received_by, beside_of, received_bytes, shape_of, beside_ended}

-- ---- a store has the grants that stand beside it

abbrev pub lengths : (ObjectId → List ℕ) → ObjectId → ℕ
lengths bytes id = length (bytes id)

pub row_has_grants : (line : WorkLine) (grants : List StandingGrant) (bytes : ObjectId → List ℕ) (row : Row)
    → HasGrants (lengths bytes) grants (shape_of row (beside_of line grants bytes row.job))
row_has_grants line grants bytes row = has_grants (lengths bytes) grants (shape_of row (beside_of line grants bytes row.job)) refl refl

-- ---- a note of a row

-- with these grants given and these objects granted
abbrev noted_beside : SharedTables → List GrantGiven → ById Seen → SharedTables
noted_beside beside given received = record beside { given = given; received = received }

module _ (node : ℕ) (row : Row) (beside : SharedTables) (contents : Contents) (h : IsShown row beside contents) (x : Input) (given : List GrantGiven) (granted : ById Seen) where
  abbrev now : SharedTables
  now = noted_beside beside given granted

  pub note_taken : change node row beside contents h x ≡ done (shape_of row now)
      → bytes_brought (seen row beside contents) x (judge node (seen row beside contents) x) reply.Ok ≡ None → digest_brought node (seen row beside contents) x reply.Ok ≡ None
      → ((q : ObjectId) (k : CopyView) → at row.copies q ≡ Some k → has_grant given q ≡ has_grant beside.given q)
      → kept (λ seen. true) (λ seen. []) (brought contents.received (bytes_received x)) granted ≡ received_bytes now
      → RowStep node row beside contents x (only reply.Ok) row now
  note_taken is bytes digests marks granted_bytes = moved node row beside contents h x (done (shape_of row now)) is (only reply.Ok) row now
      (record {
        shape = refl;
        order = sym (reordered-unused row.order (copies_of row.copies) h.there);
        there = h.there;
        listed = h.listed;
        bytes = λ id k e found lies. ap (λ b. filled (at (brought contents.bytes b) id) k.copy) bytes ∙ same_bytes node row beside contents h x id k e found lies;
        digests = λ id k found keeps. ap (λ d. unwrap_or (at (brought contents.digests d) id) no_digest) digests ∙ h.digests id k found keeps;
        working = h.working;
        granted = λ id k found. h.granted id k found ∙ sym (marks id k found);
        received = granted_bytes;
        reply = refl;
        erased = refl;
      }) refl

-- ---- a grant that another job gives

-- a job that didn't give it has given what it had
given_still : (grants : List StandingGrant) (bytes : ObjectId → List ℕ) (id : ObjectId) (grantor grantee job : ℕ) → (grantor == job) ≡ false → grants_given job (with_grant grants id grantor grantee) ≡ grants_given job grants
given_still grants bytes id grantor grantee job other =
    let grant = new_grant grants id grantor grantee in
    filter_both (λ h. h.grantor == job) grants (grant ∷ [])
    ∙ ap (λ b. grants_given job grants ++ cond b (grant ∷ []) []) (ap (λ n. n == job) (made_for (lengths bytes) grants grantor id grantee).1 ∙ other) ∙ append-nil (grants_given job grants)

pub same_given : (grants : List StandingGrant) (id : ObjectId) (grantor grantee job : ℕ) → (grantor == job) ≡ false → row_given_by (with_grant grants id grantor grantee) job ≡ row_given_by grants job
same_given grants id grantor grantee job other = ap (map as_given) (given_still grants (λ id. []) id grantor grantee job other)

-- and one that it isn't given to stands as it did
pub others_stand : (line : WorkLine) (grants : List StandingGrant) (bytes : ObjectId → List ℕ) (id : ObjectId) (grantor grantee job : ℕ) → (grantor == job) ≡ false → (grantee == job) ≡ false
    → beside_of line (with_grant grants id grantor grantee) bytes job ≡ beside_of line grants bytes job
others_stand line grants bytes id grantor grantee job from to =
    let grant = new_grant grants id grantor grantee in
    let given = given_still grants bytes id grantor grantee job from in
    let granted =
    filter_both (λ h. h.grantee == job) grants (grant ∷ [])
    ∙ ap (λ b. given_to job grants ++ cond b (grant ∷ []) []) (ap (λ n. n == job) (made_for (lengths bytes) grants grantor id grantee).2 ∙ to) ∙ append-nil (given_to job grants) in
    λ i. noted_beside (beside_of line grants bytes job) (map as_given (given i)) (fold (with_taken (lengths bytes)) [] (granted i))

module _ (grants : List StandingGrant) (bytes : ObjectId → List ℕ) (id : ObjectId) (grantor job : ℕ) (other : (grantor == job) ≡ false) where
  abbrev grant : StandingGrant
  grant = new_grant grants id grantor job

  abbrev its : (grant.id ≡ id) × (grant.grantor ≡ grantor) × (grant.grantee ≡ job)
  its = made_for (lengths bytes) grants grantor id job

  -- the table of what the job was granted, with one grant more
  abbrev one_more : ById Seen
  one_more = (received (received_shape job live (received_by bytes grants job)) id (length (bytes id)) grantor grant.depth).shape.received

  granted_more : received_by bytes (with_grant grants id grantor job) job ≡ one_more
  granted_more =
      ap (λ hs. fold (with_taken (lengths bytes)) [] hs) (filter_both (λ h. h.grantee == job) grants (grant ∷ []) ∙ ap (λ b. given_to job grants ++ cond b (grant ∷ []) []) (eq-eqb grant.grantee job its.2))
      ∙ fold-append (with_taken (lengths bytes)) [] (given_to job grants) (grant ∷ [])
      ∙ (λ i. (received (received_shape job live (received_by bytes grants job)) (its.0 i) (length (bytes (its.0 i))) (its.1 i) grant.depth).shape.received)

  beside_more : (line : WorkLine) → noted_beside (beside_of line grants bytes job) (beside_of line grants bytes job).given one_more ≡ beside_of line (with_grant grants id grantor job) bytes job
  beside_more line = λ i. noted_beside (beside_of line grants bytes job) (map as_given (sym (given_still grants bytes id grantor job job other) i)) (sym granted_more i)

-- the row is shown what it was granted
pub row_receives : (node : ℕ) (line : WorkLine) (grants : List StandingGrant) (bytes : ObjectId → List ℕ) (row : Row) (contents : Contents) (id : ObjectId) (grantor : ℕ) → (grantor == row.job) ≡ false
    → IsShown row (beside_of line grants bytes row.job) contents
    → RowStep node row (beside_of line grants bytes row.job) contents (input.Received id (bytes id) (record { 0 = grantor }) (new_grant grants id grantor row.job).depth) (only reply.Ok)
    row (beside_of line (with_grant grants id grantor row.job) bytes row.job)
row_receives node line grants bytes row contents id grantor other h =
    let beside = beside_of line grants bytes row.job in
    let x = input.Received id (bytes id) (record { 0 = grantor }) (new_grant grants id grantor row.job).depth in
    let granted = one_more grants bytes id grantor row.job other in
    subst (λ b. RowStep node row beside contents x (only reply.Ok) row b) (beside_more grants bytes id grantor row.job other line)
    (note_taken node row beside contents h x beside.given granted refl refl refl (λ q k found. refl)
    (ap (λ t. kept (λ (seen : Seen). true) (λ seen. []) (with_entry t id (bytes id)) granted) h.received ∙ kept_with_more bytes beside.received id _))

-- and so is a store that isn't live
pub bare_receives : (node : ℕ) (grants : List StandingGrant) (bytes : ObjectId → List ℕ) (job : ℕ) (life : Life) (id : ObjectId) (grantor : ℕ) → (grantor == job) ≡ false
    → (view_step node (received_view job life bytes (received_by bytes grants job)) (input.Received id (bytes id) (record { 0 = grantor }) (new_grant grants id grantor job).depth)).view
    ≡ received_view job life bytes (received_by bytes (with_grant grants id grantor job) job)
bare_receives node grants bytes job life id grantor other =
    let table = received_by bytes grants job in
    let granted = one_more grants bytes id grantor job other in
    ap (λ t. record (received_view job life bytes granted) { contents = record { bytes = []; digests = []; received = t } }) (kept_with_more bytes table id _)
    ∙ ap (received_view job life bytes) (sym (granted_more grants bytes id grantor job other))

-- ---- grants that end, one after another

module _ (node : ℕ) (row : Row) where
  -- what is so of a step is so of the view after it
  seen_after : (before after : SharedTables) (contents : Contents) (x : Input) (view : View) → view.shape ≡ shape_of row before → view.order ≡ row.order → view.contents ≡ contents
      → RowStep node row before contents x (only reply.Ok) row after → IsSeen row after (view_step node view x).view
  seen_after before after contents x view shape order same t =
      subst (λ v. IsSeen row after (view_step node v x).view) (λ i. record { shape = sym shape i; order = sym order i; contents = sym same i })
      (record { shape = t.shape; order = t.order; shown = t.shown })

  abbrev told_beside : SharedTables → List StandingGrant → SharedTables
  told_beside beside ends = noted_beside beside (after_ends (shape_of row beside) ends).given (after_ends (shape_of row beside) ends).received

  note_ends : (beside : SharedTables) (contents : Contents) → IsShown row beside contents → (grant : StandingGrant) → RowStep node row beside contents (end_of_grant grant) (only reply.Ok) row (told_beside beside (grant ∷ []))
  note_ends beside contents h grant =
      let store = shape_of row beside in
      let after = (withdrawn store grant.id grant.grantor grant.depth).shape in
      note_taken node row beside contents h (end_of_grant grant) after.given after.received
      (ap done (withdrawn-is store grant.id grant.grantor grant.depth)) refl refl
      (λ q k found. withdrawn-own store grant.id grant.grantor grant.depth row.job h.kept.kept.shape.own_grants q (h.kept.kept.shape.each q k.copy (at-copies_found row.copies q k found)).own)
      (ap (λ t. kept (λ (seen : Seen). true) (λ seen. []) t after.received) h.received ∙ kept_of_fewer beside.bytes beside.received after.received (withdrawn-fewer store grant.id grant.grantor grant.depth))

  told_seen : (ends : List StandingGrant) (beside : SharedTables) (view : View) → IsSeen row beside view → IsSeen row (told_beside beside ends) (view_from node view (map end_of_grant ends))
  told_seen [] beside view h = h
  told_seen (grant ∷ ends) beside view h =
      let store = shape_of row beside in
      let mid = told_beside beside (grant ∷ []) in
      subst (λ s. IsSeen row (noted_beside beside (after_ends s ends).given (after_ends s ends).received) (view_from node (view_step node view (end_of_grant grant)).view (map end_of_grant ends)))
      (sym (withdrawn-is store grant.id grant.grantor grant.depth))
      (told_seen ends mid (view_step node view (end_of_grant grant)).view
      (seen_after beside mid view.contents (end_of_grant grant) view h.shape h.order refl (note_ends beside view.contents h.shown grant)))

-- all that a store is notified of the grants to its job that have ended
module _ (grants : List StandingGrant) (bytes : ObjectId → List ℕ) (test : StandingGrant → Bool) (are : AreGrants grants) where
  abbrev ends : ℕ → List StandingGrant
  ends job = filter (λ grant. grant.grantee == job) (grants_ended test grants)

  all_told : (store : Shape) → HasRest (lengths bytes) test grants store → T (is_sorted id_cmp store.received)
      → ((after_ends store (ends store.job)).given ≡ map as_given (grants_given store.job (grants_left test grants))) × ((after_ends store (ends store.job)).received ≡ received_by bytes (grants_left test grants) store.job)
  all_told store has sorted =
      let after = after_ends store (ends store.job) in
      let now = (ends_alike (lengths bytes) grants are test).of_each store has in
      let same = ap (λ (s : Shape). s.job) (response-is (ends store.job) store) in (
        now.given ∙ ap (λ n. map as_given (grants_given n (grants_left test grants))) same,
        taken_is (lengths bytes) (grants_left test grants) after now (true_T _ (response-sorted (ends store.job) store sorted)) ∙ ap (received_by bytes (grants_left test grants)) same,
      )

  granted_sorted : (job : ℕ) → T (is_sorted id_cmp (received_by bytes grants job))
  granted_sorted job = taken_sorted (lengths bytes) (given_to job grants) [] tt

  pub row_ends : (node : ℕ) (line : WorkLine) (row : Row) (view : View) → IsSeen row (beside_rest line test grants bytes row.job) view
      → IsSeen row (beside_of line (grants_left test grants) bytes row.job) (view_from node view (ends_to row.job (grants_ended test grants)))
  row_ends node line row view h =
      let beside = beside_rest line test grants bytes row.job in
      let response = all_told (shape_of row beside) (record { given = refl; taken = taken_shown (lengths bytes) row.job grants }) (granted_sorted row.job) in
      subst (λ b. IsSeen row b (view_from node view (ends_to row.job (grants_ended test grants)))) (λ i. noted_beside beside (response.0 i) (response.1 i)) (told_seen node row (ends row.job) beside view h)

  any_first : (job : ℕ) (id : ObjectId) → (id.job.0 == job) ≡ true → (hs : List StandingGrant) → has_grant (map as_given (grants_given job hs)) id ≡ list_any (is_first id) hs
  any_first job id mine [] = refl
  any_first job id mine (grant ∷ hs) =
      elim (grant.grantor == job) as (λ b. has_grant (map as_given (cond b (grant ∷ grants_given job hs) (grants_given job hs))) id ≡ ((same_id id grant.id && b) || list_any (is_first id) hs)) [
        | true ↦ (λ i. and_true (same_id id grant.id) i || any_first job id mine hs i)
        | false ↦ any_first job id mine hs ∙ ap (λ b. b || list_any (is_first id) hs) (and_false (same_id id grant.id))
      ]
      ∙ ap (λ n. (same_id id grant.id && grant.grantor == n) || list_any (is_first id) hs) (sym (numbers_equal id.job.0 job mine))
    where
      and_true : (b : Bool) → b ≡ (b && true)
      and_true true = refl
      and_true false = refl

      and_false : (b : Bool) → false ≡ (b && false)
      and_false true = refl
      and_false false = refl

  -- of an own object those that the job gave are left, but those that end by themselves
  pub first_left : (job : ℕ) (id : ObjectId) → (id.job.0 == job) ≡ true → list_all (is_well_hung job) (map as_given (filter (λ grant. not (test grant)) (grants_given job grants))) ≡ true
      → has_grant (map as_given (filter (λ grant. not (test grant)) (grants_given job grants))) id ≡ list_any (is_first id) (grants_left test grants)
  first_left job id mine hung =
      let given = map as_given (filter (λ grant. not (test grant)) (grants_given job grants)) in
      let store = record (received_shape job live (received_by bytes grants job)) { given = given } in
      let response = all_told store (record { given = refl; taken = taken_shown (lengths bytes) job grants }) (granted_sorted job) in
      sym (response-own (ends job) store job hung id (numbers_equal id.job.0 job mine)) ∙ ap (λ gs. has_grant gs id) response.0 ∙ any_first job id mine (grants_left test grants)

  module _ (node job : ℕ) (life : Life) where
    bare_end : (granted : ById Seen) (grant : StandingGrant)
        → (view_step node (received_view job life bytes granted) (end_of_grant grant)).view ≡ received_view job life bytes (withdrawn (received_shape job life granted) grant.id grant.grantor grant.depth).shape.received
    bare_end granted grant =
        let store = received_shape job life granted in
        let view = received_view job life bytes granted in
        let x = end_of_grant grant in
        let after = (withdrawn store grant.id grant.grantor grant.depth).shape in
        ap (λ s. view_after node view x (judge node view x) (done s)) (withdrawn-is store grant.id grant.grantor grant.depth ∙ ap (λ given. with_grants store given after.received) (withdrawn-none store grant.id grant.grantor grant.depth refl))
        ∙ ap (λ t. record (received_view job life bytes after.received) { contents = record { bytes = []; digests = []; received = t } })
        (kept_of_fewer bytes granted after.received (withdrawn-fewer store grant.id grant.grantor grant.depth))

    without_row_told : (hs : List StandingGrant) (granted : ById Seen) → view_from node (received_view job life bytes granted) (map end_of_grant hs) ≡ received_view job life bytes (after_ends (received_shape job life granted) hs).received
    without_row_told [] granted = refl
    without_row_told (grant ∷ hs) granted =
        let store = received_shape job life granted in
        let after = (withdrawn store grant.id grant.grantor grant.depth).shape in
        ap (λ v. view_from node v (map end_of_grant hs)) (bare_end granted grant)
        ∙ without_row_told hs after.received
        ∙ ap (λ s. received_view job life bytes (after_ends s hs).received)
        (sym (withdrawn-is store grant.id grant.grantor grant.depth ∙ ap (λ given. with_grants store given after.received) (withdrawn-none store grant.id grant.grantor grant.depth refl)))

    module _ (none : map as_given (filter (λ grant. not (test grant)) (grants_given job grants)) ≡ []) where
      response : ((after_ends (received_shape job life (received_by bytes grants job)) (ends job)).given ≡ map as_given (grants_given job (grants_left test grants)))
          × ((after_ends (received_shape job life (received_by bytes grants job)) (ends job)).received ≡ received_by bytes (grants_left test grants) job)
      response = all_told (received_shape job life (received_by bytes grants job)) (record { given = sym none; taken = taken_shown (lengths bytes) job grants }) (granted_sorted job)

      pub bare_ends : view_from node (received_view job life bytes (received_by bytes grants job)) (ends_to job (grants_ended test grants)) ≡ received_view job life bytes (received_by bytes (grants_left test grants) job)
      bare_ends = without_row_told (ends job) (received_by bytes grants job) ∙ ap (received_view job life bytes) response.1

      pub none_given : row_given_by (grants_left test grants) job ≡ []
      none_given = sym response.0 ∙ response-none (ends job) (received_shape job life (received_by bytes grants job)) refl

-- ---- what stands beside a row after the own step of the one that ends grants

module _ (grants : List StandingGrant) (bytes : ObjectId → List ℕ) (job : ℕ) where
  abbrev store : Shape
  store = record (received_shape job live (received_by bytes grants job)) { given = row_given_by grants job }

  rests : RestAlike (lengths bytes) grants store
  rests = rest_alike (lengths bytes) grants store (has_grants (lengths bytes) grants store refl refl)

  -- of another job, where nothing has changed
  pub rest_of_other : (line : WorkLine) (grantor : ℕ) (test : StandingGrant → Bool) → ((grant : StandingGrant) → test grant ≡ true → is_given_by grantor grant ≡ true) → (grantor == job) ≡ false → beside_of line grants bytes job ≡ beside_rest line test grants bytes job
  rest_of_other line grantor test own other = ap (λ given. record (beside_of line grants bytes job) { given = given }) (rests.other grantor test own other).given

  -- where a task of the job ended
  pub rest_of_task : (line : WorkLine) (task : TaskNo) → beside_ended job task (beside_of line grants bytes job) ≡ beside_rest line (is_of_task job task) grants bytes job
  rest_of_task line task = ap (λ given. record (beside_of line grants bytes job) { given = given }) (rests.task task).given

  -- where the job ended
  pub rest_of_job : map as_given (filter (λ grant. not (is_given_by job grant)) (grants_given job grants)) ≡ []
  rest_of_job = sym rests.job.given

-- ---- the notes of a step

pub ends_of : (job : ℕ) (hs : List StandingGrant) → only_of job (map withdrawn_here hs) ≡ ends_to job hs
ends_of job [] = refl
ends_of job (grant ∷ hs) =
    elim (grant.grantee == job) as (λ b. map (λ (x : JobInput). x.input) (cond b (withdrawn_here grant ∷ filter (λ x. x.job == job) (map withdrawn_here hs)) (filter (λ x. x.job == job) (map withdrawn_here hs)))
    ≡ map end_of_grant (cond b (grant ∷ filter (λ h. h.grantee == job) hs) (filter (λ h. h.grantee == job) hs))) [
      | true ↦ ap (λ xs. end_of_grant grant ∷ xs) (ends_of job hs)
      | false ↦ ends_of job hs
    ]

pub received_is : (bytes : ObjectId → List ℕ) (grants : List StandingGrant) (id : ObjectId) (grantor grantee : ℕ)
    → received_here bytes (new_grant grants id grantor grantee) ≡ record { job = grantee; input = input.Received id (bytes id) (record { 0 = grantor }) (new_grant grants id grantor grantee).depth }
received_is bytes grants id grantor grantee =
    let its = made_for (lengths bytes) grants grantor id grantee in
    λ i. record { job = its.2 i; input = input.Received (its.0 i) (bytes (its.0 i)) (record { 0 = its.1 i }) (new_grant grants id grantor grantee).depth }
