-- A world after one event more at a node.
use Rattle.std.proofs.Common.{◌≡◌, ◌≢◌, ℕ, Bool, true, false, cond, ◌==◌, ◌<◌, ◌||◌, List, [], ◌∷◌, ◌++◌, append-nil, length, map, filter, reverse, Option, Some, None, option_to_list, slice_get, slice_set, refl, sym, ap, subst, ◌∙◌, ⊎_elim}
use Rattle.std.specs.Prelude.{nat_le, not}
use Rattle.std.specs.Option.{option_map_or}
use Rattle.std.specs.List.{list_any, cons_option}
use Rattle.std.proofs.lemmas.Bool.{cases_eq}
use Rattle.std.proofs.lemmas.List.{reverse-append}
use Rattle.std.proofs.lemmas.List.Elements.{filter-append, filter_map-append}
use Rattle.obj_id.specs.declared.ids.ObjectId.{ObjectId}
use Rattle.obj_id.specs.declared.messages.Endpoint.TheVariants.{Node}
use Rattle.private_store.specs.declared.inputs.Input.{Input}
use Rattle.private_store.specs.declared.inputs.Input.TheVariants as input
use Rattle.private_store.specs.declared.schedules.Traced.{Traced}
use Rattle.private_store.specs.rules.Contents.{View, bytes_at}
use Rattle.private_store.specs.rules.Private.{Store, view_of, view_from, store_from, private_outcome}
use Rattle.private_store.specs.rules.Cluster.{Cluster, Sent, posted, responses_from, no_cluster, private_run}
use Rattle.private_store.specs.rules.Cluster.{Response as ToldTo}
use Rattle.private_store.specs.rules.Trace.{grants_at, is_out, out_after, granted_bytes, inputs_until, cluster_until, reply_of, replies_of, is_answered}
use Rattle.private_store.specs.rules.Shared.{is_admission, waiting}
use Rattle.private_store.specs.rules.Shared as shared
use Rattle.store_facts.proofs.Tests.{some_value}
use Rattle.store_facts.proofs.Runs.{inputs_now, responses_from-append}
use Rattle.store_facts.proofs.Stamped.{view_of_run}
use Rattle.job_admission.specs.Admissions.{Admissions, window_place_for, live_at}
use Rattle.std.specs.Map.{set_value}
use Rattle.private_store.specs.rules.Jobs.{same_job}
use Rattle.private_store.specs.declared.schedules.Event.TheVariants as event
use Rattle.obj_id.specs.declared.commands.Reply.{Reply}
use Rattle.obj_id.specs.declared.commands.Reply.TheVariants as reply
use Rattle.private_store.specs.declared.schedules.NodeEvent.TheVariants.{Own, Arrive}
use Rattle.owner_directory.specs.Locations.{locations_of}
use Rattle.world_core.specs.Logs.{sent_of}
use Rattle.private_store.specs.declared.schedules.NodeEvent.{NodeEvent}
use Rattle.private_store.specs.laws.NodeInputs.{JobInput, Before, wants_memory, own_here, own_due, inputs_to, grants_after}
use Rattle.node_core.specs.Hosted.{Hosted, Shows, ShowsAll}
use Rattle.node_core.specs.Steps.{NodeGiven, NodeStepFrom, IsGiven, before_of, is_taken, job_of, line_left, asked_now, admissions_after, live_jobs_after}
use Rattle.world_core.specs.Worlds.{Hosting, untaken, IsNodeAfter, IsJobAfter, IsAfter}
use Rattle.world_core.specs.WorldSteps.{HostingStep}
use Rattle.private_store.specs.laws.NodeInputs.{before_at}
use Rattle.world_core.proofs.Entries.{IsEntry}
use Rattle.world_core.proofs.Lines.{is_taken_queued, untaken_queued}
use Rattle.world_core.proofs.Clusters.{posts_from, own_of, own_posts, IsMovedBy, moved_by}
use Rattle.world_core.proofs.Places.{length-slice_set, slice_get-slice_set, slice_get-slice_set_other}
use Rattle.world_core.proofs.Numbers.{same_number}
use Rattle.world_core.proofs.Stores.{AreStamped, cluster_AreStamped, store_found}

-- ---- replies

one : (o : Option ToldTo) → cons_option o [] ≡ option_to_list o
one None = refl
one (Some t) = refl

-- the replies of a job with one more step are those of its private run on one step's inputs more
pub replies_more : (nodes job : ℕ) (entry : Traced) (history : List Traced)
    → filter is_answered (replies_of job (reverse history)) ≡ private_run job nodes (inputs_until nodes job history)
    → filter is_answered (option_to_list (reply_of job entry.step entry.answer)) ≡ responses_from (cluster_until nodes job history) (inputs_now nodes job entry history)
    → filter is_answered (replies_of job (reverse (entry ∷ history))) ≡ private_run job nodes (inputs_until nodes job (entry ∷ history))
replies_more nodes job entry history before now =
    ap (filter is_answered) (ap (replies_of job) (reverse-append (entry ∷ []) history) ∙ filter_map-append (λ e. reply_of job e.step e.answer) (reverse history) (entry ∷ []) ∙ ap (λ l. replies_of job (reverse history) ++ l) (one (reply_of job entry.step entry.answer)))
    ∙ filter-append is_answered (replies_of job (reverse history)) (option_to_list (reply_of job entry.step entry.answer))
    ∙ ap (λ l. l ++ filter is_answered (option_to_list (reply_of job entry.step entry.answer))) before
    ∙ ap (λ l. private_run job nodes (inputs_until nodes job history) ++ l) now
    ∙ sym (responses_from-append (no_cluster job nodes) (inputs_until nodes job history) (inputs_now nodes job entry history))

-- ---- admissions

-- the admissions after keep the node's memory
pub memory_stays : (a : Admissions) (e : NodeEvent) (response : Reply (List ℕ)) → (admissions_after a e response).memory ≡ a.memory
memory_stays a (Own (event.Admit job quota key)) reply.Ok =
    elim (window_place_for a quota.window) as (λ o. (option_map_or (λ offset. record a { greatest = job.0; live = a.live ++ (job, record { quota = quota; key = key; offset = offset; entered = 0 }) ∷ [] }) o a).memory ≡ a.memory) [ None ↦ refl | Some offset ↦ refl ]
memory_stays a (Own (event.Requota job quota)) reply.Ok =
    elim (live_at a job) as (λ o. (option_map_or (λ live. record a { live = set_value (same_job job) a.live (record live { quota = quota }) }) o a).memory ≡ a.memory) [ None ↦ refl | Some live ↦ refl ]
memory_stays a (Own (event.JobEnd job)) reply.Ok = refl
memory_stays a _ _ = refl

-- ---- the own input's job

abbrev IsOfJob : ℕ → Option JobInput → Type 0
IsOfJob job None = Unit {0}
IsOfJob job (Some x) = job ≡ x.job

unless_of : (job : ℕ) (x : Input) (t u : Bool) → IsOfJob job (cond t None (cond u (Some (record { job = job; input = x })) None))
unless_of job x true u = tt
unless_of job x false true = refl
unless_of job x false false = tt

own_is_of : (b : Before) (e : NodeEvent) (response : Reply (List ℕ)) → IsOfJob (job_of e) (own_here b e response)
own_is_of b (Own (event.Admit job quota key)) reply.Ok = refl
own_is_of b (Own (event.Admit job quota key)) _ = tt
own_is_of b (Own (event.Requota job quota)) reply.Ok = refl
own_is_of b (Own (event.Requota job quota)) _ = tt
own_is_of b (Own (event.JobEnd job)) reply.Ok = refl
own_is_of b (Own (event.JobEnd job)) _ = tt
own_is_of b (Own event.Take) response = tt
own_is_of b (Own (event.Finish job number a)) response = unless_of job.0 (input.Answer number a) (wants_memory response) (b.out job.0 number)
own_is_of b (Own (event.Call job session c)) response = unless_of job.0 (input.Call session c) (wants_memory response) true
own_is_of b (Arrive job a) response = unless_of job.0 (input.Arrive a) (wants_memory response) true

pub own_same : (b : Before) (e : NodeEvent) (response : Reply (List ℕ)) → wants_memory response ≡ false → own_due b e response ≡ own_here b e response
own_same b (Own (event.Finish job number a)) response n = sym (ap (λ t. cond t None (cond (b.out job.0 number) (Some (record { job = job.0; input = input.Answer number a })) None)) n)
own_same b (Own (event.Call job session c)) response n = sym (ap (λ t. cond t None (Some (record { job = job.0; input = input.Call session c }))) n)
own_same b (Arrive job a) response n = sym (ap (λ t. cond t None (Some (record { job = job.0; input = input.Arrive a }))) n)
own_same b (Own (event.Admit job quota key)) response n = refl
own_same b (Own (event.Requota job quota)) response n = refl
own_same b (Own (event.JobEnd job)) response n = refl
own_same b (Own event.Take) response n = refl

-- ---- what a node's step is over

-- the stores at a place, as its node shows them
module _ (nodes memory place : ℕ) (old : Hosting) (history : List Traced) (h : IsAfter nodes memory old history) (within : place < nodes)
    (before : Hosted) (found : slice_get old.nodes place ≡ Some before) where
  abbrev pub cluster : ℕ → Cluster
  cluster job = cluster_until nodes job history

  pub at_place : IsNodeAfter nodes memory place before history
  at_place = h.each_node place before found

  pub stamped : (job : ℕ) → AreStamped nodes (cluster job).stores
  stamped job = cluster_AreStamped nodes job (inputs_until nodes job history)

  pub here : (job : ℕ) → (store : Store) × (slice_get (cluster job).stores place ≡ Some store)
  here job = store_found nodes (cluster job).stores place (stamped job) within

  abbrev pub view_at : ℕ → View
  view_at job = view_of (here job).0

  pub shown : ShowsAll before view_at
  shown job = at_place.shows job (here job).0 (here job).1

  bytes_are : (id : ObjectId) → bytes_at (here id.job.0).0.contents.bytes id ≡ granted_bytes nodes place (λ other. inputs_until nodes other history) id
  bytes_are id = sym (ap (λ o. option_map_or (λ (store : Store). bytes_at store.contents.bytes id) o []) (here id.job.0).1)

  -- the trace and the node know the same of what was before
  pub before_same : before_of before view_at ≡ before_at nodes place history
  before_same = λ i. record { out = λ job number. at_place.out job number i; bytes = λ id. bytes_are id i; grants = at_place.grants i }

module _ (nodes memory place : ℕ) (e : NodeEvent) (given : NodeGiven) (old new : Hosting) (history : List Traced) (entry : Traced)
    (h : IsAfter nodes memory old history) (within : place < nodes) (m : HostingStep old place e given new) (n : wants_memory given.reply ≡ false)
    (k : IsEntry nodes memory place e given.reply (view_at nodes memory place old history h within m.before m.found) m.before.works.works m.before.admissions history entry) where
  abbrev v : ℕ → View
  v = view_at nodes memory place old history h within m.before m.found

  abbrev store : ℕ → Store
  store job = (here nodes memory place old history h within m.before m.found job).0

  there_is : (job : ℕ) → slice_get (cluster_until nodes job history).stores place ≡ Some (store job)
  there_is job = (here nodes memory place old history h within m.before m.found job).1

  abbrev b : Before
  b = before_at nodes place history

  b_same : before_of m.before v ≡ b
  b_same = before_same nodes memory place old history h within m.before m.found

  p : IsNodeAfter nodes memory place m.before history
  p = h.each_node place m.before m.found

  s : NodeStepFrom m.before v e given m.after
  s = m.steps.each v (shown nodes memory place old history h within m.before m.found)

  abbrev xs : ℕ → List Input
  xs job = inputs_to b e given.reply job

  moved : (job : ℕ) → IsMovedBy (cluster_until nodes job history) place (store job) (xs job) (cluster_until nodes job (entry ∷ history))
  moved job = subst (IsMovedBy (cluster_until nodes job history) place (store job) (xs job)) (sym (k.moves job)) (moved_by (cluster_until nodes job history) place (store job) (xs job) (there_is job))

  -- ---- views

  view_is : (job : ℕ) → view_from m.before.number (v job) (inputs_to (before_of m.before v) e given.reply job) ≡ view_of (store_from place (store job) (xs job))
  view_is job =
      (λ i. view_from (p.number i) (v job) (inputs_to (b_same i) e given.reply job))
      ∙ sym (view_of_run place (store job) (xs job) ((stamped nodes memory place old history h within m.before m.found job).each place (store job) (there_is job)))

  shows_here : (job : ℕ) (after : Store) → slice_get (cluster_until nodes job (entry ∷ history)).stores place ≡ Some after → Shows m.after job (view_of after)
  shows_here job after f =
      let same : after ≡ store_from place (store job) (xs job) = some_value after (store_from place (store job) (xs job)) (sym f ∙ (moved job).here) in
      subst (λ s. Shows m.after job (view_of s)) (sym same) (subst (Shows m.after job) (view_is job) (s.views job))

  -- ---- works

  asked_same : asked_now m.before.number v (own_here (before_of m.before v) e given.reply) ≡ asked_now place v (own_here b e given.reply)
  asked_same = λ i. asked_now (p.number i) v (own_here (b_same i) e given.reply)

  line_is : m.after.works.works ≡ line_left m.before.works.works e given.reply ++ asked_now place v (own_here b e given.reply)
  line_is = s.line ∙ ap (λ l. line_left m.before.works.works e given.reply ++ l) asked_same

  taken_more : (o : Option JobInput) (job number : ℕ) → is_taken (line_left m.before.works.works e given.reply ++ asked_now place v o) job number ≡ is_taken (line_left m.before.works.works e given.reply) job number
  taken_more None job number = ap (λ l. is_taken l job number) (append-nil (line_left m.before.works.works e given.reply))
  taken_more (Some x) job number = is_taken_queued (line_left m.before.works.works e given.reply) x.job _ job number

  untaken_more : (o : Option JobInput) → untaken (line_left m.before.works.works e given.reply ++ asked_now place v o)
      ≡ untaken (line_left m.before.works.works e given.reply) ++ option_map_or (λ x. map (λ w. record { job = x.job; number = w.number }) (private_outcome place (store x.job) x.input).works) o []
  untaken_more None = ap untaken (append-nil (line_left m.before.works.works e given.reply)) ∙ sym (append-nil (untaken (line_left m.before.works.works e given.reply)))
  untaken_more (Some x) = untaken_queued (line_left m.before.works.works e given.reply) x.job (private_outcome place (store x.job) x.input).works

  -- ---- nodes

  node_here : IsNodeAfter nodes memory place m.after (entry ∷ history)
  node_here = record {
    number = m.steps.number ∙ p.number;
    size = ap (λ a. a.memory) m.steps.admissions ∙ memory_stays m.before.admissions e given.reply ∙ p.size;
    lives = m.steps.lives ∙ (λ i. live_jobs_after (p.size i) (p.lives i) e given.reply) ∙ k.lives.lives_here (shared.lives_after memory place history);
    greatest = λ job z. k.lives.greatest job _ (p.greatest job z) ∙ ap (λ a. nat_le job a.greatest) (sym m.steps.admissions);
    shows = shows_here;
    grants = m.steps.grants ∙ ap (λ grants. grants_after grants e given.reply) p.grants ∙ sym k.tables.grants_here;
    waiting = ap untaken line_is ∙ untaken_more (own_here b e given.reply)
        ∙ (λ i. k.tables.left_here i ++ sym k.tables.asked_here i)
        ∙ ap (λ w. filter (λ asked. not (shared.leaves place asked entry.step entry.answer)) w ++ shared.asked_by nodes place history entry) p.waiting;
    out = λ job number. ap (λ l. is_taken l job number) line_is ∙ taken_more (own_here b e given.reply) job number ∙ k.tables.out_here job number
        ∙ ap (λ was. out_after place job number was entry.step entry.answer) (p.out job number);
  }

  node_there : (other : ℕ) (node : Hosted) → place ≢ other → IsNodeAfter nodes memory other node history → IsNodeAfter nodes memory other node (entry ∷ history)
  node_there other node apart q = record {
    number = q.number;
    size = q.size;
    lives = q.lives ∙ sym (k.lives.lives_there other apart (shared.lives_after memory other history));
    greatest = λ job z. ap (λ t. t || list_any (λ entry. is_admission other job entry.step entry.answer) history) (k.lives.admission_there other job apart) ∙ q.greatest job z;
    shows = λ job store f. q.shows job store (sym ((moved job).there other apart) ∙ f);
    grants = q.grants ∙ sym (k.tables.grants_there other apart (grants_at other history));
    waiting = q.waiting ∙ sym (k.tables.left_there other apart (waiting nodes other history))
        ∙ sym (append-nil (filter (λ asked. not (shared.leaves other asked entry.step entry.answer)) (waiting nodes other history)))
        ∙ ap (λ l. filter (λ asked. not (shared.leaves other asked entry.step entry.answer)) (waiting nodes other history) ++ l) (sym (k.tables.asked_there other apart));
    out = λ job number. q.out job number ∙ sym (k.tables.out_there other apart job number (is_out other job number history));
  }

  node_after : (other : ℕ) (node : Hosted) → slice_get new.nodes other ≡ Some node → IsNodeAfter nodes memory other node (entry ∷ history)
  node_after other node f = ⊎_elim
      (λ (same : place ≡ other).
      let is : node ≡ m.after = some_value node m.after (sym f ∙ ap (λ ns. slice_get ns other) m.nodes ∙ ap (slice_get (slice_set old.nodes place m.after)) (sym same) ∙ slice_get-slice_set old.nodes place m.before m.after m.found) in
      subst (λ n. IsNodeAfter nodes memory other n (entry ∷ history)) (sym is) (subst (λ p. IsNodeAfter nodes memory p m.after (entry ∷ history)) same node_here))
      (λ (apart : place ≢ other).
      node_there other node apart (h.each_node other node (sym (slice_get-slice_set_other old.nodes place other m.after (λ same. apart (sym same))) ∙ ap (λ ns. slice_get ns other) (sym m.nodes) ∙ f)))
      (cases_eq place other)

  -- ---- jobs

  given_is : IsGiven place v (own_here b e given.reply) given
  given_is =
      subst (λ o. IsGiven place v o given) (own_same b e given.reply n)
      (subst (λ n. IsGiven n v (own_due b e given.reply) given) p.number (subst (λ c. IsGiven m.before.number v (own_due c e given.reply) given) b_same s.response))

  sent_by : (job : ℕ) (sent : List Sent) (o : Option JobInput) → IsOfJob (job_of e) o → IsGiven place v o given
      → cond (job_of e == job) (sent ++ posted (Node place) given.posts) sent ≡ sent ++ posted (Node place) (posts_from place (store job) (own_of job o))
  sent_by job sent None of g = nothing (job_of e == job)
    where
      nothing : (t : Bool) → cond t (sent ++ posted (Node place) given.posts) sent ≡ sent ++ []
      nothing true = ap (λ posts. sent ++ posted (Node place) posts) g.posts
      nothing false = sym (append-nil sent)
  sent_by job sent (Some x) of g = ap (λ n. cond (n == job) (sent ++ posted (Node place) given.posts) sent) of ∙ by (x.job == job) refl
    where
      by : (t : Bool) → (x.job == job) ≡ t → cond t (sent ++ posted (Node place) given.posts) sent ≡ sent ++ posted (Node place) (posts_from place (store job) (cond t (x.input ∷ []) []))
      by false is = sym (append-nil sent)
      by true is =
          let same = same_number x.job job is in
          ap (λ posts. sent ++ posted (Node place) posts)
          (g.posts ∙ ap (λ j. (private_outcome place (store j) x.input).posts) same ∙ sym (append-nil (private_outcome place (store job) x.input).posts))

  job_is : (job : ℕ) → IsJobAfter nodes job (sent_of new.messages job) (locations_of new.tables (record { 0 = job })) (entry ∷ history)
  job_is job =
      let j = h.each_job job in
      record {
        messages = m.sent job
            ∙ sent_by job (sent_of old.messages job) (own_here b e given.reply) (own_is_of b e given.reply) given_is
            ∙ (λ i. j.messages i ++ posted (Node place) (sym (own_posts place job b e given.reply (store job)) i))
            ∙ sym (moved job).sent;
        locations = ap (λ t. locations_of t (record { 0 = job })) m.tables ∙ j.locations ∙ sym (moved job).locations;
        replies = replies_more nodes job entry history j.replies (k.replies job);
      }

  -- the world after the event
  pub after_event : IsAfter nodes memory new (entry ∷ history)
  after_event = record {
    count = ap length m.nodes ∙ length-slice_set old.nodes place m.after ∙ h.count;
    each_node = node_after;
    each_job = job_is;
    due = λ i. k.due i ∷ h.due i;
  }
