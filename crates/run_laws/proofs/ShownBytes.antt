-- Every grantee has the bytes that the object has in the store of its own job, and these stay.
use Rattle.std.proofs.Common.{◌≡◌, ℕ, Bool, true, false, not, cond, ◌==◌, List, [], ◌∷◌, ◌++◌, map, filter, reverse, slice_get, option_to_list, Option, Some, None, is_some, refl, sym, ap, subst, ◌∙◌, eq-eqb}
use Rattle.std.specs.Prelude.{if◌then◌else◌}
use Rattle.std.specs.Option.{option_map_or}
use Rattle.std.specs.List.{list_any}
use Rattle.std.proofs.lemmas.Bool.{eqb-true}
use Rattle.std.proofs.lemmas.List.{map-append, reverse-append}
use Rattle.std.proofs.lemmas.List.Elements.{filter-append}
use Rattle.obj_id.specs.declared.ids.ObjectId.{ObjectId}
use Rattle.obj_id.specs.declared.ids.JobNo.{JobNo}
use Rattle.obj_id.specs.declared.commands.Command.TheVariants as command
use Rattle.obj_id.specs.declared.commands.Reply.TheVariants as reply
use Rattle.obj_id.specs.Ids.{same_id}
use Rattle.store_facts.proofs.Ids.{same_id-equal, same_id-itself}
use Rattle.private_store.specs.declared.inputs.Input.{Input}
use Rattle.private_store.specs.declared.inputs.Input.TheVariants as input
use Rattle.private_store.specs.declared.schedules.Event.TheVariants as event
use Rattle.private_store.specs.declared.schedules.Step.{Step}
use Rattle.private_store.specs.declared.schedules.Step.TheVariants as steps
use Rattle.private_store.specs.declared.schedules.StepAnswer.{StepAnswer}
use Rattle.private_store.specs.declared.schedules.StepAnswer.TheVariants as answer
use Rattle.private_store.specs.declared.schedules.Traced.{Traced}
use Rattle.private_store.specs.rules.Tables.{at}
use Rattle.private_store.specs.rules.Shape.{Copy, Shape, Seen, Change}
use Rattle.private_store.specs.rules.Copies.{is_sealed}
use Rattle.private_store.specs.rules.Events.{grants_of, withdrawn, is_the_grant, grant_ended}
use Rattle.private_store.specs.laws.Invariants.{IsViewKept}
use Rattle.store_facts.proofs.BytesStay.{bytes_stay}
use Rattle.run_laws.proofs.StoresKept.{HasCome, come_more, come_kept, all_come}
use Rattle.private_store.specs.rules.Contents.{bytes_at}
use Rattle.private_store.specs.rules.Private.{Store, private_step, view_of}
use Rattle.private_store.specs.rules.Cluster.{Cluster, ClusterInput, at_node, deliver, cluster_from, no_cluster}
use Rattle.private_store.specs.rules.Grants.{StandingGrant, same_grant, ended_from, grants_left}
use Rattle.private_store.specs.rules.Commands.{grant_own, grant_foreign}
use Rattle.private_store.specs.rules.Step.{step}
use Rattle.private_store.specs.declared.inputs.Judged.TheVariants as judged
use Rattle.store_facts.proofs.Checks.{checked_has, needing_has}
use Rattle.run_laws.proofs.Halves.{HasHalves}
use Rattle.run_laws.proofs.HeldOnTo.{held, was_given}
use Rattle.run_laws.proofs.WhatIsSeen.{none_taken, some_taken}
use Rattle.private_store.specs.rules.Trace.{Given, ends, granted_bytes, grants_at, grants_step, own_input, notes, for_job, cluster_until, inputs_until}
use Rattle.store_facts.proofs.Runs.{inputs_now, cluster_until-step, cluster_from-append, EachPrivate}
use Rattle.store_facts.proofs.Tests.{true_false, none_some, some_value, both, both_left}
use Rattle.grants.specs.Table.{shows}
use Rattle.run_laws.specs.Ending.{stands}
use Rattle.run_laws.specs.Standing.{ArePrivate}
use Rattle.run_laws.specs.Held.{ShowsWhatIs, BytesStay}
use Rattle.run_laws.proofs.WhatEnds.{one_of, any_of, stands_filtered}
use Rattle.run_laws.proofs.ClusterInputs.{no_stores}
use Rattle.run_laws.proofs.Moving.{Stand}
use Rattle.run_laws.proofs.OverStores.{AllStores, Leads, step_leads, keep_all, each_both, notes_each, own_each}
use Rattle.run_laws.proofs.TakenBytes.{Has, own_has, withdrawn_has, received_has}
use Rattle.run_laws.proofs.Histories.{stand_until, stand_of, trace_private}

-- each store that knows an object has the own job's bytes of it
abbrev pub Showing : ℕ → List Traced → Type 0
Showing nodes before =
    (n j : ℕ) (id : ObjectId) (own grantee : Store) → slice_get (cluster_until nodes id.job.0 before).stores n ≡ Some own → slice_get (cluster_until nodes j before).stores n ≡ Some grantee
    → Has id (bytes_at own.contents.bytes id) grantee

module _ (nodes : ℕ) (before : List Traced) (s : Step) (a : StepAnswer) where
  abbrev C : ℕ → Cluster
  C j = cluster_until nodes j before

  abbrev known : ℕ → List ClusterInput
  known other = inputs_until nodes other before

  abbrev after : ℕ → Cluster
  after j = cluster_from (C j) (inputs_now nodes j (record { step = s; answer = a }) before)

  -- no node gets a store later
  none_comes : (n j : ℕ) → slice_get (C j).stores n ≡ None → (t : Store) → slice_get (after j).stores n ≡ Some t → ⊥
  none_comes n j none t e =
      let Q : ℕ → Store → Type 0 = λ m s. (m == n) ≡ true → ⊥ in
      let all : AllStores Q (C j) = λ m u f k. none_some u (sym none ∙ ap (slice_get (C j).stores) (sym (eqb-true m n k)) ∙ f) in
      keep_all Q (C j) j (option_to_list (own_input before s a) ++ notes nodes known before s a) all
      (each_both (Leads Q Q) (option_to_list (own_input before s a)) (notes nodes known before s a)
      (own_each (Leads Q Q) (λ m x o s q. q) (λ from to k damage m a s q. q) before s a)
      (notes_each (Leads Q Q) nodes known before s a (λ m h s q. q) (λ m h s q. q))) n t e (eq-eqb n n refl)

  -- a grantee has the bytes that the own job's store had before the step
  taken_shows : (n j : ℕ) (id : ObjectId) (own : Store) → slice_get (C id.job.0).stores n ≡ Some own → Showing nodes before → (grantee : Store) → slice_get (after j).stores n ≡ Some grantee → Has id (bytes_at own.contents.bytes id) grantee
  taken_shows n j id own is shows t e =
      let G = bytes_at own.contents.bytes id in
      let Q : ℕ → Store → Type 0 = λ m s. (m == n) ≡ true → Has id G s in
      let all : AllStores Q (C j) = λ m u f k. shows n j id own u is (ap (slice_get (C j).stores) (sym (eqb-true m n k)) ∙ f) in
      keep_all Q (C j) j (option_to_list (own_input before s a) ++ notes nodes known before s a) all
      (each_both (Leads Q Q) (option_to_list (own_input before s a)) (notes nodes known before s a)
      (own_each (Leads Q Q) (λ m x o s q k. own_has id G m s x o (q k)) (λ from to number damage m a s q k. own_has id G m s (input.Arrive a) refl (q k)) before s a)
      (notes_each (Leads Q Q) nodes known before s a (λ m h s q k. withdrawn_has id G m s h.id (record { 0 = h.grantor }) h.depth (q k))
      (λ m h s q k. received_has id G m s h.id _ (record { 0 = h.grantor }) h.depth (λ t. granted m h k t) (q k)))) n t e (eq-eqb n n refl)
    where
      -- a grant gives the bytes that the own job's store has
      granted : (m : ℕ) (h : StandingGrant) → (m == n) ≡ true → same_id id h.id ≡ true
          → option_map_or (λ store. bytes_at store.contents.bytes h.id) (slice_get (cluster_from (no_cluster h.id.job.0 nodes) (known h.id.job.0)).stores m) [] ≡ bytes_at own.contents.bytes id
      granted m h k t =
          let node : m ≡ n = eqb-true m n k in
          let ids : h.id ≡ id = sym (same_id-equal id h.id t) in
          (λ i. option_map_or (λ store. bytes_at store.contents.bytes (ids i)) (slice_get (cluster_from (no_cluster (ids i).job.0 nodes) (known (ids i).job.0)).stores (node i)) [])
          ∙ ap (λ o. option_map_or (λ store. bytes_at store.contents.bytes id) o []) is

-- ---- in the own job's store

abbrev Sealed : ObjectId → Store → Type 0
Sealed id s = option_map_or (λ c. is_sealed c.state) (at s.shape.copies id) false ≡ true

sealed_copy : (o : Option Copy) → option_map_or (λ c. is_sealed c.state) o false ≡ true → (c : Copy) × (o ≡ Some c) × (is_sealed c.state ≡ true)
sealed_copy None e = true_false e
sealed_copy (Some c) e = (c, refl, e)

stays_here : (id : ObjectId) (m : ℕ) (s : Store) (x : Input) → IsViewKept (view_of s) → Sealed id s → Sealed id (private_step m s x) → bytes_at (private_step m s x).contents.bytes id ≡ bytes_at s.contents.bytes id
stays_here id m s x kept was still =
    let c = sealed_copy (at s.shape.copies id) was in
    let d = sealed_copy (at (private_step m s x).shape.copies id) still in
    bytes_stay m (view_of s) kept.kept.shape kept.kept.filled id c.0 c.1 c.2 x d.0 d.1 d.2

withdrawn_copies : (store : Shape) (id : ObjectId) (grantor depth : ℕ) → (withdrawn store id grantor depth).shape.copies ≡ store.copies
withdrawn_copies store id grantor depth =
    elim (at store.received id) as (λ o. (option_map_or (λ seen. cond (list_any (is_the_grant grantor depth) seen.grants) (grant_ended store id grantor depth seen) store) o store).copies ≡ store.copies) [
      | None ↦ refl
      | Some seen ↦ elim (list_any (is_the_grant grantor depth) seen.grants) as (λ t. (cond t (grant_ended store id grantor depth seen) store).copies ≡ store.copies) [ true ↦ refl | false ↦ refl ]
    ]

module _ (nodes : ℕ) (before : List Traced) (s : Step) (a : StepAnswer) (n : ℕ) (id : ObjectId) (own : Store) (is : slice_get (cluster_until nodes id.job.0 before).stores n ≡ Some own) (was : Sealed id own) where
  abbrev D : Cluster
  D = cluster_until nodes id.job.0 before

  abbrev G : List ℕ
  G = bytes_at own.contents.bytes id

  abbrev Q : ℕ → Store → Type 0
  Q m s = HasCome id.job.0 m s × ((m == n) ≡ true → s ≡ own)

  abbrev R : ℕ → Store → Type 0
  R m s = HasCome id.job.0 m s × ((m == n) ≡ true → Sealed id s → bytes_at s.contents.bytes id ≡ G)

  weaker : (m : ℕ) (s : Store) → Q m s → R m s
  weaker m s q = (q.0, λ k t. ap (λ x. bytes_at x.contents.bytes id) (q.1 k))

  takes : (m : ℕ) (s : Store) (x : Input) → Q m s → R m (private_step m s x)
  takes m s x q = (
    come_more id.job.0 m s x q.0,
    λ k t. stays_here id m s x (come_kept id.job.0 m s q.0) (subst (Sealed id) (sym (q.1 k)) was) t ∙ ap (λ x. bytes_at x.contents.bytes id) (q.1 k),
  )

  input_takes : (x : ClusterInput) → Leads Q R x
  input_takes (at_node m x) = λ s q. takes m s x q
  input_takes (deliver from to number damage) = λ m a s q. takes m s (input.Arrive a) q

  note_keeps : (m : ℕ) (s : Store) (x : Input) → (private_step m s x).shape.copies ≡ s.shape.copies → R m s → R m (private_step m s x)
  note_keeps m s x same r = (
    come_more id.job.0 m s x r.0,
    λ k t.
        let t' : Sealed id s = sym (ap (λ table. option_map_or (λ c. is_sealed c.state) (at table id) false) same) ∙ t in
        stays_here id m s x (come_kept id.job.0 m s r.0) t' t ∙ r.1 k t',
  )

  abbrev first : Option Given → Cluster
  first o = cluster_from D (for_job id.job.0 (option_to_list o))

  by_own : (o : Option Given) → AllStores R (first o)
  by_own o =
      let all : AllStores Q D = λ m u f. (all_come id.job.0 nodes (inputs_until nodes id.job.0 before) m u f, λ k. some_value u own (sym f ∙ ap (slice_get D.stores) (eqb-true m n k) ∙ is)) in
      by_option all o
    where
      by_option : AllStores Q D → (o : Option Given) → AllStores R (first o)
      by_option all None = λ m u f. weaker m u (all m u f)
      by_option all (Some g) =
          elim (g.job == id.job.0) as (λ t. AllStores R (cluster_from D (map (λ g. g.input) (cond t (g ∷ []) [])))) [
            | true ↦ step_leads Q R weaker D g.input all (input_takes g.input)
            | false ↦ λ m u f. weaker m u (all m u f)
          ]

  split_job : (xs ys : List Given) → for_job id.job.0 (xs ++ ys) ≡ for_job id.job.0 xs ++ for_job id.job.0 ys
  split_job xs ys = ap (map (λ g. g.input)) (filter-append (λ g. g.job == id.job.0) xs ys) ∙ map-append (λ g. g.input) (filter (λ g. g.job == id.job.0) xs) (filter (λ g. g.job == id.job.0) ys)

  pub own_shows : (t : Store) → slice_get (after nodes before s a id.job.0).stores n ≡ Some t → Sealed id t → bytes_at t.contents.bytes id ≡ G
  own_shows t e sealed =
      let ns = notes nodes (λ other. inputs_until nodes other before) before s a in
      let o = own_input before s a in
      let all : AllStores R (cluster_from (first o) (for_job id.job.0 ns)) =
      keep_all R (first o) id.job.0 ns (by_own o)
      (notes_each (Leads R R) nodes (λ other. inputs_until nodes other before) before s a
      (λ m h s r. note_keeps m s (input.Withdrawn h.id (record { 0 = h.grantor }) h.depth) (withdrawn_copies s.shape h.id h.grantor h.depth) r) (λ m h s r. note_keeps m s (input.Received h.id (granted_bytes nodes m (λ other. inputs_until nodes other before) h.id) (record { 0 = h.grantor }) h.depth) refl r)) in
      (all n t (ap (λ c. slice_get c.stores n) (sym (ap (cluster_from D) (split_job (option_to_list o) ns) ∙ cluster_from-append D (for_job id.job.0 (option_to_list o)) (for_job id.job.0 ns))) ∙ e)).1 (eq-eqb n n refl) sealed

-- ---- grants that the step made

abbrev is_grant : Step → StepAnswer → Bool
is_grant (steps.At m (event.Call k session (command.Grant id target))) (answer.Response reply.Ok) = true
is_grant _ _ = false

left_stays : (h : StandingGrant) (grants : List StandingGrant) (b : Bool) (o : Option (StandingGrant → Bool)) → stands h (if b then option_map_or (λ test. grants_left test grants) o grants else grants) → stands h grants
left_stays h grants true None a = a
left_stays h grants true (Some test) a = (stands_filtered h (λ grant. not (list_any (same_grant grant) (ended_from test [] grants))) grants a).0
left_stays h grants false o a = a

-- only a Grant makes grants
was_there : (h : StandingGrant) (grants : List StandingGrant) (n : ℕ) (s : Step) (a : StepAnswer) → is_grant s a ≡ false → stands h (grants_step n grants s a) → stands h grants
was_there h grants n (steps.At m (event.Call k session (command.Grant id target))) (answer.Response reply.Ok) no_grant at = true_false (sym no_grant)
was_there h grants n (steps.At m (event.Call k session c)) (answer.Response reply.Ok) no_grant at = left_stays h grants (m == n) (ends (event.Call k session c)) at
was_there h grants n (steps.At m e) (answer.Response reply.Ok) no_grant at = left_stays h grants (m == n) (ends e) at
was_there h grants n (steps.At m e) a no_grant at = at
was_there h grants n (steps.Deliver k from to number damage) a no_grant at = at

grant_copies : (order : List ObjectId) (store : Shape) (session : ℕ) (id : ObjectId) (target : JobNo) → (step order store (judged.Call session (command.Grant id target))).shape.copies ≡ store.copies
grant_copies order store session id target =
    let P : Change → Type 0 = λ c. c.shape.copies ≡ store.copies in
    checked_has P store _ _ (λ r. refl)
    (elim (id.job.0 == store.job) as (λ b. P (cond b (grant_own store id target.0) (grant_foreign store id target.0))) [
      | true ↦ checked_has P store _ _ (λ r. refl) (needing_has P store _ _ _ refl (λ copy v. checked_has P store _ _ (λ r. refl) refl))
      | false ↦ checked_has P store _ _ (λ r. refl) (needing_has P store _ _ _ refl (λ grant o. checked_has P store _ _ (λ r. refl) refl))
    ])

-- of a grant no copy changes
abbrev CopiesAre : ObjectId → Option Copy → ℕ → ℕ → Store → Type 0
CopiesAre id o n m s = (m == n) ≡ true → at s.shape.copies id ≡ o

grant_keeps : (nodes : ℕ) (before : List Traced) (s : Step) (a : StepAnswer) (n : ℕ) (id : ObjectId) (own : Store) → slice_get (cluster_until nodes id.job.0 before).stores n ≡ Some own → is_grant s a ≡ true
    → (t : Store) → slice_get (after nodes before s a id.job.0).stores n ≡ Some t → at t.shape.copies id ≡ at own.shape.copies id
grant_keeps nodes before (steps.At m (event.Call k session (command.Grant q target))) (answer.Response reply.Ok) n id own is granting t e =
    let s = steps.At m (event.Call k session (command.Grant q target)) in
    let o = at own.shape.copies id in
    let Q : ℕ → Store → Type 0 = CopiesAre id o n in
    let D = cluster_until nodes id.job.0 before in
    let all : AllStores Q D = λ m u f k. ap (λ x. at x.shape.copies id) (some_value u own (sym f ∙ ap (slice_get D.stores) (eqb-true m n k) ∙ is)) in
    keep_all Q D id.job.0 (option_to_list (own_input before s (answer.Response reply.Ok)) ++ notes nodes (λ other. inputs_until nodes other before) before s (answer.Response reply.Ok)) all (
      λ u r k. ap (λ table. at table id) (grant_copies (view_of u).order u.shape session q target) ∙ r k,
      notes_each (Leads Q Q) nodes (λ other. inputs_until nodes other before) before s (answer.Response reply.Ok)
          (λ m h u q k. ap (λ table. at table id) (withdrawn_copies u.shape h.id h.grantor h.depth) ∙ q k) (λ m h u q k. q k),
    )
    n t e (eq-eqb n n refl)
grant_keeps nodes before (steps.At m (event.Call k session c)) (answer.Response reply.Ok) n id own is granting t e = true_false granting
grant_keeps nodes before (steps.At m e') (answer.Response reply.Ok) n id own is granting t e = true_false granting
grant_keeps nodes before (steps.At m e') a n id own is granting t e = true_false granting
grant_keeps nodes before (steps.Deliver k from to number damage) a n id own is granting t e = true_false granting

-- ---- one step later

-- the own job's copy is sealed while a grant stands
sealed_by : (nodes : ℕ) (history : List Traced) → Stand nodes history → (n : ℕ) (id : ObjectId) (own : Store) → slice_get (cluster_until nodes id.job.0 history).stores n ≡ Some own → (h : StandingGrant) → stands h (grants_at n history) → h.id ≡ id → Sealed id own
sealed_by nodes history stand n id own is h at ids =
    let is' : slice_get (cluster_until nodes h.id.job.0 history).stores n ≡ Some own = ap (λ i. slice_get (cluster_until nodes i.job.0 history).stores n) ids ∙ is in
    let fits = stand.fit n h.id.job.0 own is' in
    let kept = (come_kept h.id.job.0 n own (all_come h.id.job.0 nodes (inputs_until nodes h.id.job.0 history) n own is')).kept.shape in
    let k = held own.shape h kept fits.job (was_given (grants_at n history) (stand.table n) h at own.shape fits) in
    subst (λ i. Sealed i own) ids (ap (λ o. option_map_or (λ c. is_sealed c.state) o false) k.here ∙ k.sealed)

-- a store knows only objects of which a grant to its job stands
grant_to : (j : ℕ) (grants : List StandingGrant) (store : Shape) → HasHalves j grants store → (id : ObjectId) → is_some (at store.received id) ≡ true → list_any (shows id j) grants ≡ true
grant_to j grants store fits id knows =
    elim (list_any (shows id j) grants) as (λ t. list_any (shows id j) grants ≡ t → t ≡ true) [
      | true ↦ λ _. refl
      | false ↦ λ e. by_row (at store.received id) refl knows (fits.taken id ∙ none_taken (shows id j) grants e)
    ] refl
  where
    by_row : (o : Option Seen) → at store.received id ≡ o → is_some o ≡ true → grants_of store id ≡ [] → false ≡ true
    by_row None is k none = k
    by_row (Some seen) is k none = absurd (fits.known id seen is (sym (ap (λ o. option_map_or (λ seen. seen.grants) o []) is) ∙ none))

showing_step : (nodes : ℕ) (entry : Traced) (before : List Traced) → Stand nodes before → Stand nodes (entry ∷ before) → Showing nodes before → Showing nodes (entry ∷ before)
showing_step nodes entry before old new shows_old n j id own' grantee is' at' knows =
    let s = entry.step in
    let a = entry.answer in
    let own_after : slice_get (after nodes before s a id.job.0).stores n ≡ Some own' = ap (λ c. slice_get c.stores n) (sym (cluster_until-step nodes id.job.0 entry before)) ∙ is' in
    let grantee_after : slice_get (after nodes before s a j).stores n ≡ Some grantee = ap (λ c. slice_get c.stores n) (sym (cluster_until-step nodes j entry before)) ∙ at' in
    let h = one_of (shows id j) (grants_at n (entry ∷ before)) (grant_to j (grants_at n (entry ∷ before)) grantee.shape (new.fit n j grantee at') id knows) in
    let ids : h.0.id ≡ id = sym (same_id-equal id h.0.id (both_left (same_id id h.0.id) (h.0.grantee == j) h.2)) in
    let still : Sealed id own' = sealed_by nodes (entry ∷ before) new n id own' is' h.0 h.1 ids in
    elim (slice_get (cluster_until nodes id.job.0 before).stores n) as (λ o. slice_get (cluster_until nodes id.job.0 before).stores n ≡ o → bytes_at grantee.contents.received id ≡ bytes_at own'.contents.bytes id) [
      | None ↦ λ none. absurd (none_comes nodes before s a n id.job.0 none own' own_after)
      | Some own ↦ λ is.
          let was : Sealed id own =
          elim (is_grant s a) as (λ t. is_grant s a ≡ t → Sealed id own) [
            | true ↦ λ t. sym (ap (λ o. option_map_or (λ c. is_sealed c.state) o false) (grant_keeps nodes before s a n id own is t own' own_after)) ∙ still
            | false ↦ λ t. sealed_by nodes before old n id own is h.0 (was_there h.0 (grants_at n before) n s a t h.1) ids
          ] refl in
          taken_shows nodes before s a n j id own is shows_old grantee grantee_after knows ∙ sym (own_shows nodes before s a n id own is was own' own_after still)
    ] refl

pub showing_until : (nodes : ℕ) (history : List Traced) → ((j : ℕ) → EachPrivate nodes j history) → Showing nodes history
showing_until nodes [] h = λ n j id own grantee is to knows. true_false (sym (ap (λ x. is_some (at x.shape.received id)) (no_stores j nodes n grantee to)) ∙ knows)
showing_until nodes (entry ∷ before) h =
    showing_step nodes entry before (stand_until nodes before (λ j. (h j).0)) (stand_until nodes (entry ∷ before) h) (showing_until nodes before (λ j. (h j).0))

-- and each of them
known_by : (grants : List StandingGrant) (store : Shape) (h : StandingGrant) → stands h grants → HasHalves h.grantee grants store → is_some (at store.received h.id) ≡ true
known_by grants store h a fits = by_row (at store.received h.id) refl
  where
    by_row : (o : Option Seen) → at store.received h.id ≡ o → is_some o ≡ true
    by_row None is =
        absurd (some_taken (shows h.id h.grantee) grants (any_of (shows h.id h.grantee) h grants a (both (same_id h.id h.id) (h.grantee == h.grantee) (same_id-itself h.id) (eq-eqb h.grantee h.grantee refl)))
        (sym (fits.taken h.id) ∙ ap (λ o. option_map_or (λ seen. seen.grants) o []) is))
    by_row (Some seen) is = refl

pub shows_what_is : (nodes node : ℕ) (trace : List Traced) → ArePrivate nodes trace → ShowsWhatIs nodes node trace
shows_what_is nodes node trace h =
    let each = trace_private nodes trace h in
    let stand = stand_of nodes trace h in
    record {
      each = λ grant a own grantee is to.
          showing_until nodes (reverse trace) each node grant.grantee grant.id own grantee is to (known_by (grants_at node (reverse trace)) grantee.shape grant a (stand.fit node grant.grantee grantee to));
    }

pub granted_bytes_stay : (nodes node : ℕ) (trace : List Traced) (entry : Traced) → ArePrivate nodes (trace ++ entry ∷ []) → BytesStay nodes node trace entry
granted_bytes_stay nodes node trace entry h =
    let each : (j : ℕ) → EachPrivate nodes j (entry ∷ reverse trace) = λ j. subst (EachPrivate nodes j) (reverse-append trace (entry ∷ [])) (trace_private nodes (trace ++ entry ∷ []) h j) in
    let old = stand_until nodes (reverse trace) (λ j. (each j).0) in
    let new = stand_until nodes (entry ∷ reverse trace) each in
    record {
      each = λ grant a b own own' is is'.
          own_shows nodes (reverse trace) entry.step entry.answer node grant.id own is (sealed_by nodes (reverse trace) old node grant.id own is grant a refl) own'
          (ap (λ c. slice_get c.stores node) (sym (cluster_until-step nodes grant.id.job.0 entry (reverse trace))) ∙ is')
          (sealed_by nodes (entry ∷ reverse trace) new node grant.id own' is' grant b refl);
    }
