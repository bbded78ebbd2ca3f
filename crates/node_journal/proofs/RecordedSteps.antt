-- A node's step at its place in the history: the entry may come next, and what the node and its mail show then.
use Rattle.std.proofs.Common.{◌≡◌, ℕ, ◌+◌, ◌<◌, ◌==◌, Bool, true, false, cond, List, [], ◌∷◌, ◌++◌, append-nil, append_assoc, length, reverse, Some, None, Option, refl, sym, ap, subst, ◌∙◌, arith}
use Rattle.std.specs.Prelude.{if◌then◌else◌, is_some, nat_le, option_map, IfSome, ◌↔◌, Result, Ok, Err, OnOk, OnErr}
use Rattle.std.specs.Option.{option_to_list}
use Rattle.std.proofs.lemmas.Bool.Decides.{nat_tests}
use Rattle.std.proofs.lemmas.List.{reverse-append}
use Rattle.std.proofs.Math.Logic.{∥∥₁_elim, ∥∥₁_map}
use mathlib.Core.List.{IsPrefix}
use Rattle.obj_id.specs.declared.ids.JobNo.{JobNo}
use Rattle.obj_id.specs.declared.commands.Reply.{Reply}
use Rattle.obj_id.specs.declared.commands.Reply.TheVariants as reply
use Rattle.obj_id.specs.declared.messages.Arrival.{Arrival}
use Rattle.obj_id.specs.declared.messages.Endpoint.{Endpoint}
use Rattle.obj_id.specs.declared.messages.Endpoint.TheVariants as endpoint
use Rattle.obj_id.specs.declared.messages.DirectoryMessage.{DirectoryMessage}
use Rattle.obj_id.specs.declared.messages.Message.{Message}
use Rattle.obj_id.specs.declared.messages.Message.TheVariants as message
use Rattle.private_store.specs.declared.schedules.Event.{Event}
use Rattle.private_store.specs.declared.schedules.Event.TheVariants as event
use Rattle.private_store.specs.declared.schedules.NodeEvent.{NodeEvent}
use Rattle.private_store.specs.declared.schedules.NodeEvent.TheVariants.{Own, Arrive}
use Rattle.private_store.specs.declared.schedules.Traced.{Traced}
use Rattle.private_store.specs.rules.Cluster.{Sent, posted, arrival_of}
use Rattle.private_store.specs.rules.Directory.{directory_posts}
use Rattle.private_store.specs.rules.Private.{Post}
use Rattle.private_store.specs.rules.Trace.{cluster_until}
use Rattle.std.specs.Option.{option_map_or}
use Rattle.std.specs.Map.{lookup, set_value}
use Rattle.private_store.specs.rules.Contents.{View}
use Rattle.private_store.specs.rules.Jobs.{same_job}
use Rattle.private_store.specs.rules.Private.{view_of}
use Rattle.job_admission.specs.Admissions.{Admissions, entered, live_at, lives_of, window_of}
use Rattle.job_admission.specs.declared.Live.{Live}
use Rattle.store_facts.proofs.Tests.{some_value}
use Rattle.spill_work.specs.Line.{WorkLine}
use Rattle.spill_work.specs.declared.queue.Queued.{Queued}
use Rattle.owner_directory.specs.Locations.{DirectoryRows, Applies, locations_of}
use Rattle.node_core.specs.Hosted.{Hosted, Shows}
use Rattle.node_core.specs.Steps.{NodeGiven, NodeStep, is_taken, job_of, job_at}
use Rattle.world_core.specs.Worlds.{IsNew, IsNodeAfter, untaken}
use Rattle.world_core.specs.WorldSteps.{for_directory}
use Rattle.cluster_history.specs.Histories.{IsTableAfter, count_at, place_of}
use Rattle.cluster_history.specs.Rules.{GoesOn, MayFollow}
use Rattle.cluster_history.specs.Sending.{IsSentBy, IsMailOf, before_newest, sent_until, sent_before}
use Rattle.cluster_history.proofs.ForCallers.{node_now, event_follows, after_event, arrival_follows, after_arrival, directory_follows, after_directory, NodeGoesOn, DirectoryGoesOn, take_is_quiet, count_more, mail_of, first_sent, rest_is_mail, new_node_after}
use Rattle.node_journal.specs.declared.posts.Mail.{Mail}
use Rattle.node_journal.specs.declared.posts.Posted.{Posted}
use Rattle.node_journal.specs.Posts.{DeliversPost, PassesOn, directory_message_in, post_of, posts_left}
use Rattle.node_journal.specs.Recorded.{ComesAfter, IsRecorded, IsDirectoryRecorded, IsLastIn, event_entry, delivery_entry}

both₁ : {A B C : Type 0} → ∥ A ∥₁ → ∥ B ∥₁ → (A → B → C) → ∥ C ∥₁
both₁ a b f = ∥∥₁_elim a squash₁ (λ x. ∥∥₁_map b (f x))

-- ---- the newest entry

module _ (known between now : List Traced) (entry : Traced) (is : now ≡ (known ++ between) ++ entry ∷ []) where
  newest : reverse now ≡ entry ∷ reverse (known ++ between)
  newest = ap reverse is ∙ reverse-append (known ++ between) (entry ∷ [])

-- the entry is the last one
pub last_of : (nodes memory place : ℕ) (known seen now : List Traced) (entry : Traced) → GoesOn nodes memory place known seen now entry → IsLastIn entry now
last_of nodes memory place known seen now entry g = record { earlier = known ++ g.between; ends = g.log }

-- what the place itself knew comes before it
pub own_goes_on : (nodes memory place : ℕ) (known seen now : List Traced) (entry : Traced) → GoesOn nodes memory place known seen now entry → GoesOn nodes memory place known known now entry
own_goes_on nodes memory place known seen now entry g = record { between = g.between; log = g.log; none = g.none; after = (g.between, refl); grown = g.grown }

-- and so does all of which what was seen goes on
pub comes_after : (nodes memory place : ℕ) (known seen now : List Traced) (entry : Traced) → GoesOn nodes memory place known seen now entry → (earlier : List Traced) → IsPrefix earlier seen → ComesAfter earlier now
comes_after nodes memory place known seen now entry g earlier begins = record { before = known ++ g.between; entry = entry; log = g.log; begins = (begins.0 ++ g.after.0, sym (append_assoc earlier begins.0 g.after.0) ∙ (ap (λ rest. rest ++ g.after.0) begins.1 ∙ g.after.1)) }

-- the same, as the parts of a delivery are called
pub delivered_by : (nodes memory at : ℕ) (known now : List Traced) (job job' : JobNo) → job' ≡ job → (from from' : Endpoint) → from' ≡ from → (to to' : Endpoint) → to' ≡ to → (message message' : Message) → message' ≡ message
    → (sending sending' : List Traced) → sending' ≡ sending → (index index' : ℕ) → index' ≡ index → (whole whole' : Reply (List ℕ)) → whole' ≡ whole → GoesOn nodes memory at known sending' now (delivery_entry nodes job' from' to' message' sending' index' whole')
    → GoesOn nodes memory at known sending now (delivery_entry nodes job from to message sending index whole)
delivered_by nodes memory at known now job job' j from from' f to to' t message message' m sending sending' s index index' n whole whole' w =
    subst (λ (p : List Traced × Traced). GoesOn nodes memory at known p.0 now p.1) (λ i. (s i, delivery_entry nodes (j i) (f i) (t i) (m i) (s i) (n i) (w i)))

-- ---- what is sent for the job of the receipt

module _ (place : ℕ) (given : NodeGiven) (before after : List Sent) where
  if_of : (b : Bool) → b ≡ true → after ≡ (if b then before ++ posted (endpoint.Node place) given.posts else before) → after ≡ before ++ posted (endpoint.Node place) given.posts
  if_of true t is = is
  if_of false t is = absurd cc

  if_quiet : (b : Bool) → given.posts ≡ [] → after ≡ (if b then before ++ posted (endpoint.Node place) given.posts else before) → after ≡ before ++ posted (endpoint.Node place) given.posts
  if_quiet true quiet is = is
  if_quiet false quiet is = is ∙ sym (append-nil before) ∙ ap (λ l. before ++ posted (endpoint.Node place) l) (sym quiet)

  sent_for : (e : Event) (works : List Queued) (job : ℕ) → job ≡ job_at works (Own e) → (e ≡ event.Take → given.posts ≡ [])
      → after ≡ (if job_of (Own e) == job then before ++ posted (endpoint.Node place) given.posts else before) → after ≡ before ++ posted (endpoint.Node place) given.posts
  sent_for event.Take works job of quiet is = if_quiet (0 == job) (quiet refl) is
  sent_for (event.Admit j quota key) works job of quiet is = if_of (j.0 == job) (grind (arith, nat_tests)) is
  sent_for (event.Requota j quota) works job of quiet is = if_of (j.0 == job) (grind (arith, nat_tests)) is
  sent_for (event.JobEnd j) works job of quiet is = if_of (j.0 == job) (grind (arith, nat_tests)) is
  sent_for (event.Finish j number a) works job of quiet is = if_of (j.0 == job) (grind (arith, nat_tests)) is
  sent_for (event.Call j session c) works job of quiet is = if_of (j.0 == job) (grind (arith, nat_tests)) is

-- all that the newest entry sent is its mail
mail_now : (nodes job : ℕ) (from : Endpoint) (now history : List Traced) (entry : Traced) (posts : List Post) → reverse now ≡ entry ∷ history
    → (cluster_until nodes job (entry ∷ history)).sent ≡ (cluster_until nodes job history).sent ++ posted from posts → IsMailOf nodes job from now 0 posts
mail_now nodes job from now history entry posts is sent =
    mail_of nodes job from now posts
    (subst (λ l. (cluster_until nodes job l).sent ≡ (cluster_until nodes job (before_newest l)).sent ++ posted from posts) (sym is) sent)

-- ---- a node

module _ (nodes memory : ℕ) (node after : Hosted) (number count : ℕ) (place : ℕ × List Traced) (r : IsRecorded nodes memory node number count place) where
  -- an event
  module _ (e : Event) (response : Reply (List ℕ)) (given : NodeGiven) (s : NodeStep node (Own e) given after) (is : given.reply ≡ response) where
    pub event_may : (at : ℕ) → at ≡ number → (asked : Event) → asked ≡ e → (whole : Reply (List ℕ)) → whole ≡ response → (seen : List Traced) → MayFollow nodes memory place.0 place.1 seen (event_entry at asked whole)
    event_may at a asked b whole w seen =
        subst (λ k. MayFollow nodes memory k place.1 seen (event_entry at asked whole)) (sym r.stands)
        (subst (λ k. MayFollow nodes memory number place.1 seen (event_entry k asked whole)) (sym a)
        (subst (λ x. MayFollow nodes memory number place.1 seen (event_entry number x whole)) (sym b)
        (subst (λ y. MayFollow nodes memory number place.1 seen (event_entry number e y)) (is ∙ sym w)
        (event_follows nodes memory number r.within node place.1 r.shown after e given s seen))))

    module _ (seen now : List Traced) (g : GoesOn nodes memory number place.1 seen now (event_entry number e response)) where
      went : ∥ NodeGoesOn nodes memory number after (Own e) given (reverse (place.1 ++ g.between)) (event_entry number e response) ∥₁
      went = subst (λ y. ∥ NodeGoesOn nodes memory number after (Own e) given (reverse (place.1 ++ g.between)) (event_entry number e y) ∥₁) is
          (after_event nodes memory number r.within node place.1 r.shown after e given s g.between g.none g.grown)

      pub event_recorded : (next : ℕ) → next ≡ number → IsRecorded nodes memory after number (count + 1) (next, now)
      event_recorded next n = record {
        within = r.within;
        stands = n;
        counted = count_more nodes memory number place.1 seen now (event_entry number e response) g refl ∙ ap (λ k. k + 1) r.counted;
        shown = ∥∥₁_map went (λ w. subst (IsNodeAfter nodes memory number after) (sym (newest place.1 g.between now (event_entry number e response) g.log)) w.node);
      }

      pub event_mail : (works : List Queued) (job : ℕ) → job ≡ job_at works (Own e) → (posts : List Post) → given.posts ≡ posts → ∥ IsMailOf nodes job (endpoint.Node number) now 0 posts ∥₁
      event_mail works job of posts p =
          subst (λ ps. ∥ IsMailOf nodes job (endpoint.Node number) now 0 ps ∥₁) p
          (∥∥₁_elim went squash₁ (λ w.
          both₁ g.grown shown_now (λ grown shows.
          mail_now nodes job (endpoint.Node number) now (reverse (place.1 ++ g.between)) (event_entry number e response) given.posts (newest place.1 g.between now (event_entry number e response) g.log)
          (sent_for number given _ _ e works job of
          (λ t. take_is_quiet nodes memory number r.within node after given (reverse (place.1 ++ g.between)) grown shows (subst (λ x. NodeStep node (Own x) given after) t s))
          (w.sent job)))))
        where
          shown_now : ∥ IsNodeAfter nodes memory number node (reverse (place.1 ++ g.between)) ∥₁
          shown_now = node_now nodes memory number r.within node place.1 r.shown g.between g.none g.grown

  -- a message that arrives
  module _ (job : JobNo) (from : Endpoint) (message : Message) (a : Arrival) (response : Reply (List ℕ)) (given : NodeGiven) (s : NodeStep node (Arrive job a) given after) (is : given.reply ≡ response)
      (arrives : arrival_of from message ≡ Some a) (to : Endpoint) (here : to ≡ endpoint.Node number) (sending : List Traced) (index : ℕ) (there : ∥ IsSentBy nodes job.0 from to message sending index ∥₁) where
    at_node : IsSentBy nodes job.0 from to message sending index → IsSentBy nodes job.0 from (endpoint.Node number) message sending index
    at_node t = subst (λ p. IsSentBy nodes job.0 from p message sending index) here t

    entry_is : delivery_entry nodes job from (endpoint.Node number) message sending index given.reply ≡ delivery_entry nodes job from to message sending index response
    entry_is = ap (λ p. delivery_entry nodes job from p message sending index given.reply) (sym here) ∙ ap (delivery_entry nodes job from to message sending index) is

    pub arrival_may : (seen : List Traced) → IsPrefix sending seen → MayFollow nodes memory place.0 place.1 seen (delivery_entry nodes job from to message sending index response)
    arrival_may seen begins between none also g =
        ∥∥₁_elim there squash₁ (λ t.
        subst (λ k. MayFollow nodes memory k place.1 seen (delivery_entry nodes job from to message sending index response)) (sym r.stands)
        (subst (MayFollow nodes memory number place.1 seen) entry_is
        (arrival_follows nodes memory number r.within node place.1 r.shown after job from _ message a given s sending (at_node t) arrives seen begins))
        between none also g)

    module _ (now : List Traced) (g : GoesOn nodes memory number place.1 sending now (delivery_entry nodes job from to message sending index response)) where
      arrived_on : ∥ NodeGoesOn nodes memory number after (Arrive job a) given (reverse (place.1 ++ g.between)) (delivery_entry nodes job from to message sending index response) ∥₁
      arrived_on = ∥∥₁_elim there squash₁ (λ t.
          subst (λ entry. ∥ NodeGoesOn nodes memory number after (Arrive job a) given (reverse (place.1 ++ g.between)) entry ∥₁) entry_is
          (after_arrival nodes memory number r.within node place.1 r.shown after job from _ message a given s sending (at_node t) arrives g.between g.none g.after g.grown))

      pub arrival_recorded : (next : ℕ) → next ≡ number → IsRecorded nodes memory after number (count + 1) (next, now)
      arrival_recorded next n = record {
        within = r.within;
        stands = n;
        counted = count_more nodes memory number place.1 sending now (delivery_entry nodes job from to message sending index response) g (ap (place_of nodes) here) ∙ ap (λ k. k + 1) r.counted;
        shown = ∥∥₁_map arrived_on (λ w. subst (IsNodeAfter nodes memory number after) (sym (newest place.1 g.between now (delivery_entry nodes job from to message sending index response) g.log)) w.node);
      }

      pub arrival_mail : (of : ℕ) → of ≡ job.0 → (posts : List Post) → given.posts ≡ posts → ∥ IsMailOf nodes of (endpoint.Node number) now 0 posts ∥₁
      arrival_mail of own posts p =
          subst (λ ps. ∥ IsMailOf nodes of (endpoint.Node number) now 0 ps ∥₁) p
          (∥∥₁_map arrived_on (λ w.
          mail_now nodes of (endpoint.Node number) now (reverse (place.1 ++ g.between)) (delivery_entry nodes job from to message sending index response) given.posts
          (newest place.1 g.between now (delivery_entry nodes job from to message sending index response) g.log)
          (if_of number given _ _ (job.0 == of) (grind (arith, nat_tests)) (w.sent of))))

-- ---- the directory

is_for : (m : Message) → for_directory m ≡ directory_message_in m
is_for (message.ToDirectory d) = refl
is_for (message.Located id number entries) = refl
is_for (message.ToPeer m) = refl

pub told_some : {A : Type 0} (o : Option A) → is_some o ≡ true → (x : A) × (o ≡ Some x)
told_some (Some x) t = (x, refl)
told_some None t = absurd cc

-- what the directory is asked whether it is for it
pub is_told : (message asked : Message) (answer : Bool) → asked ≡ message → answer ≡ is_some (directory_message_in asked) → answer ≡ true → is_some (directory_message_in message) ≡ true
is_told message asked answer same is told = ap (λ m. is_some (directory_message_in m)) (sym same) ∙ (sym is ∙ told)

pub told_none : {A : Type 0} (o : Option A) → is_some o ≡ false → o ≡ None
told_none (Some x) t = absurd cc
told_none None t = refl

module _ (nodes memory : ℕ) (old new : DirectoryRows) (count : ℕ) (place : ℕ × List Traced) (r : IsDirectoryRecorded nodes old count place) (job : JobNo) (from to : Endpoint) (message : Message) (d : DirectoryMessage)
    (applies : Applies old new job d) (tells : directory_message_in message ≡ Some d) (here : to ≡ endpoint.Directory) (sending : List Traced) (index : ℕ) (there : ∥ IsSentBy nodes job.0 from to message sending index ∥₁) where
  at_directory : IsSentBy nodes job.0 from to message sending index → IsSentBy nodes job.0 from endpoint.Directory message sending index
  at_directory t = subst (λ p. IsSentBy nodes job.0 from p message sending index) here t

  abbrev entry : Traced
  entry = delivery_entry nodes job from endpoint.Directory message sending index reply.Ok

  pub directory_may : (seen : List Traced) → IsPrefix sending seen → MayFollow nodes memory place.0 place.1 seen entry
  directory_may seen begins between none also g =
      ∥∥₁_elim there squash₁ (λ t. ∥∥₁_elim r.shown squash₁ (λ shown.
      subst (λ k. MayFollow nodes memory k place.1 seen entry) (sym r.stands)
      (directory_follows nodes memory old new place.1 shown job from _ message d applies sending (at_directory t) (is_for message ∙ tells) seen begins)
      between none also g))

  module _ (now : List Traced) (g : GoesOn nodes memory nodes place.1 sending now entry) where
    passed : ∥ DirectoryGoesOn nodes memory new job (posted endpoint.Directory (directory_posts (locations_of old job) d)) (reverse (place.1 ++ g.between)) entry ∥₁
    passed = ∥∥₁_elim there squash₁ (λ t. ∥∥₁_elim r.shown squash₁ (λ shown.
        after_directory nodes memory old new place.1 shown job from _ message d applies sending (at_directory t) (is_for message ∙ tells) g.between g.none g.after g.grown))

    pub directory_recorded : (next : ℕ) → next ≡ nodes → IsDirectoryRecorded nodes new (count + 1) (next, now)
    directory_recorded next n = record {
      stands = n;
      counted = count_more nodes memory nodes place.1 sending now entry g refl ∙ ap (λ k. k + 1) r.counted;
      shown = ∥∥₁_map passed (λ w. subst (IsTableAfter nodes new) (sym (newest place.1 g.between now entry g.log)) w.tables);
    }

    -- what it answers was sent by that
    pub answer_sent : (post : Post) → directory_posts (locations_of old job) d ≡ post ∷ [] → ∥ IsSentBy nodes job.0 endpoint.Directory post.0 post.1 now 0 ∥₁
    answer_sent post is = ∥∥₁_map passed (λ w.
        first_sent nodes job.0 endpoint.Directory now 0 post []
        (mail_now nodes job.0 endpoint.Directory now (reverse (place.1 ++ g.between)) entry (post ∷ []) (newest place.1 g.between now entry g.log)
        (w.sent ∙ ap (λ ps. (cluster_until nodes job.0 (reverse (place.1 ++ g.between))).sent ++ posted endpoint.Directory ps) is)))

-- ---- a mail gives its next message

next_of : {L : Type 0} (old new : Mail L) (response : Option (Posted L)) → DeliversPost old response new → (p : Posted L) → response ≡ Some p → posts_left old ≡ post_of p ∷ posts_left new
next_of old new response d p is = d.posts ∙ ap (λ o. option_to_list (option_map post_of o) ++ posts_left new) is

module _ {L : Type 0} (nodes : ℕ) (old new : Mail L) (p : Posted L) (d : DeliversPost old (Some p) new) (log : List Traced) (index : ℕ) (m : ∥ IsMailOf nodes old.job.0 (endpoint.Node old.node) log index (posts_left old) ∥₁) where
  first : ∥ IsMailOf nodes old.job.0 (endpoint.Node old.node) log index (post_of p ∷ posts_left new) ∥₁
  first = subst (λ ps. ∥ IsMailOf nodes old.job.0 (endpoint.Node old.node) log index ps ∥₁) (next_of old new (Some p) d p refl) m

  -- it was sent by that step
  pub next_sent : ∥ IsSentBy nodes p.job.0 p.from p.to p.message log index ∥₁
  next_sent =
      subst (λ j. ∥ IsSentBy nodes j.0 p.from p.to p.message log index ∥₁) (sym d.sender.0)
      (subst (λ f. ∥ IsSentBy nodes old.job.0 f p.to p.message log index ∥₁) (sym d.sender.1)
      (∥∥₁_map first (λ f. first_sent nodes old.job.0 (endpoint.Node old.node) log index (post_of p) (posts_left new) f)))

  -- and the rest is the mail that is left
  pub next_left : ∥ IsMailOf nodes new.job.0 (endpoint.Node new.node) log (index + 1) (posts_left new) ∥₁
  next_left =
      subst (λ j. ∥ IsMailOf nodes j.0 (endpoint.Node new.node) log (index + 1) (posts_left new) ∥₁) (sym d.same.0)
      (subst (λ n. ∥ IsMailOf nodes old.job.0 (endpoint.Node n) log (index + 1) (posts_left new) ∥₁) (sym d.same.1)
      (∥∥₁_map first (λ f. rest_is_mail nodes old.job.0 (endpoint.Node old.node) log index (post_of p) (posts_left new) f)))

-- ---- the steps, as they are called

module _ (nodes memory : ℕ) (node after : Hosted) (number count : ℕ) (place : ℕ × List Traced) (r : IsRecorded nodes memory node number count place) (e : Event) (response : Reply (List ℕ)) (given : NodeGiven)
    (s : NodeStep node (Own e) given after) (is : given.reply ≡ response) (at : ℕ) (a : at ≡ number) (asked : Event) (b : asked ≡ e) (whole : Reply (List ℕ)) (w : whole ≡ response)
    (seen : List Traced) (next : ℕ × List Traced) (same : next.0 ≡ place.0) (g : GoesOn nodes memory place.0 place.1 seen next.1 (event_entry at asked whole)) where
  goes_on_as : GoesOn nodes memory number place.1 seen next.1 (event_entry number e response)
  goes_on_as =
      subst (λ k. GoesOn nodes memory k place.1 seen next.1 (event_entry number e response)) r.stands
      (subst (GoesOn nodes memory place.0 place.1 seen next.1) (λ i. event_entry (a i) (b i) (w i)) g)

  pub step_recorded : (number' count' : ℕ) → number' ≡ number → count' ≡ count + 1 → IsRecorded nodes memory after number' count' next
  step_recorded number' count' n k =
      let m : IsRecorded nodes memory after number (count + 1) next = event_recorded nodes memory node after number count place r e response given s is seen next.1 goes_on_as next.0 (same ∙ r.stands) in
      subst (λ x. IsRecorded nodes memory after x count' next) (sym n) (subst (λ x. IsRecorded nodes memory after number x next) (sym k) m)

  pub step_mail : (works : List Queued) (job : ℕ) → job ≡ job_at works (Own e) → (posts : List Post) → given.posts ≡ posts → (from : ℕ) → from ≡ number → (log : List Traced) → log ≡ next.1
      → ∥ IsMailOf nodes job (endpoint.Node from) log 0 posts ∥₁
  step_mail works job of posts p from f log l =
      subst (λ x. ∥ IsMailOf nodes job (endpoint.Node x) log 0 posts ∥₁) (sym f)
      (subst (λ x. ∥ IsMailOf nodes job (endpoint.Node number) x 0 posts ∥₁) (sym l)
      (event_mail nodes memory node after number count place r e response given s is seen next.1 goes_on_as works job of posts p))

module _ (nodes memory : ℕ) (node after : Hosted) (number count : ℕ) (place : ℕ × List Traced) (r : IsRecorded nodes memory node number count place)
    (job : JobNo) (from : Endpoint) (message : Message) (a : Arrival) (response : Reply (List ℕ)) (given : NodeGiven) (s : NodeStep node (Arrive job a) given after) (is : given.reply ≡ response)
    (arrives : arrival_of from message ≡ Some a) (to : Endpoint) (here : to ≡ endpoint.Node number) (sending : List Traced) (index : ℕ) (there : ∥ IsSentBy nodes job.0 from to message sending index ∥₁)
    (job' : JobNo) (b : job' ≡ job) (from' : Endpoint) (d : from' ≡ from) (to' : Endpoint) (o : to' ≡ to) (message' : Message) (m : message' ≡ message) (whole : Reply (List ℕ)) (w : whole ≡ response) where
  entry_as : delivery_entry nodes job' from' to' message' sending index whole ≡ delivery_entry nodes job from to message sending index response
  entry_as = λ i. delivery_entry nodes (b i) (d i) (o i) (m i) sending index (w i)

  pub delivery_may : (seen : List Traced) → IsPrefix sending seen → MayFollow nodes memory place.0 place.1 seen (delivery_entry nodes job' from' to' message' sending index whole)
  delivery_may seen begins =
      subst (MayFollow nodes memory place.0 place.1 seen) (sym entry_as)
      (arrival_may nodes memory node after number count place r job from message a response given s is arrives to here sending index there seen begins)

  module _ (next : ℕ × List Traced) (same : next.0 ≡ place.0) (g : GoesOn nodes memory place.0 place.1 sending next.1 (delivery_entry nodes job' from' to' message' sending index whole)) where
    delivered_as : GoesOn nodes memory number place.1 sending next.1 (delivery_entry nodes job from to message sending index response)
    delivered_as =
        subst (λ k. GoesOn nodes memory k place.1 sending next.1 (delivery_entry nodes job from to message sending index response)) r.stands
        (subst (GoesOn nodes memory place.0 place.1 sending next.1) entry_as g)

    pub delivery_recorded : (number' count' : ℕ) → number' ≡ number → count' ≡ count + 1 → IsRecorded nodes memory after number' count' next
    delivery_recorded number' count' n k =
        let t : IsRecorded nodes memory after number (count + 1) next =
        arrival_recorded nodes memory node after number count place r job from message a response given s is arrives to here sending index there next.1 delivered_as next.0 (same ∙ r.stands)
        in
        subst (λ x. IsRecorded nodes memory after x count' next) (sym n) (subst (λ x. IsRecorded nodes memory after number x next) (sym k) t)

    pub delivery_mail : (of : ℕ) → of ≡ job.0 → (posts : List Post) → given.posts ≡ posts → (at : ℕ) → at ≡ number → (log : List Traced) → log ≡ next.1 → ∥ IsMailOf nodes of (endpoint.Node at) log 0 posts ∥₁
    delivery_mail of own posts p at f log l =
        subst (λ x. ∥ IsMailOf nodes of (endpoint.Node x) log 0 posts ∥₁) (sym f)
        (subst (λ x. ∥ IsMailOf nodes of (endpoint.Node number) x 0 posts ∥₁) (sym l)
        (arrival_mail nodes memory node after number count place r job from message a response given s is arrives to here sending index there next.1 delivered_as of own posts p))

-- ---- a node at its seat

pub seated_recorded : (nodes memory : ℕ) (node : Hosted) (number count : ℕ) (place : ℕ × List Traced) → number < nodes → IsNew memory number node → count ≡ 0 → place ≡ (number, []) → IsRecorded nodes memory node number count place
seated_recorded nodes memory node number count place within new none at = record {
  within = within;
  stands = ap (λ p. p.0) at;
  counted = ap (λ (p : ℕ × List Traced). count_at nodes number p.1) at ∙ sym none;
  shown = subst (λ (p : ℕ × List Traced). ∥ IsNodeAfter nodes memory number node (reverse p.1) ∥₁) (sym at) ∣ new_node_after nodes memory number node new ∣₁;
}

-- ---- the directory, as it is called

pub if_some : {A : Type 0} (P : A → Type 0) (o : Option A) (x : A) → o ≡ Some x → IfSome o P → P x
if_some P o x is h = subst (λ q. IfSome q P) is h

module _ (nodes memory : ℕ) (old new : DirectoryRows) (count : ℕ) (place : ℕ × List Traced) (r : IsDirectoryRecorded nodes old count place) (job : JobNo) (from to : Endpoint) (message : Message)
    (tells : is_some (directory_message_in message) ≡ true) (answers : List Post) (passes : PassesOn old new job (directory_message_in message) answers) (here : to ≡ endpoint.Directory) (sending : List Traced) (index : ℕ)
    (there : ∥ IsSentBy nodes job.0 from to message sending index ∥₁) (job' : JobNo) (b : job' ≡ job) (from' : Endpoint) (d : from' ≡ from) (message' : Message) (m : message' ≡ message) (whole : Reply (List ℕ)) (w : whole ≡ reply.Ok) where
  told : (x : DirectoryMessage) × (directory_message_in message ≡ Some x)
  told = told_some (directory_message_in message) tells

  applied : Applies old new job told.0 × (answers ≡ directory_posts (locations_of old job) told.0)
  applied = subst (λ o. PassesOn old new job o answers) told.1 passes

  entry_to : delivery_entry nodes job' from' endpoint.Directory message' sending index whole ≡ delivery_entry nodes job from endpoint.Directory message sending index reply.Ok
  entry_to = λ i. delivery_entry nodes (b i) (d i) endpoint.Directory (m i) sending index (w i)

  pub take_may : (seen : List Traced) → IsPrefix sending seen → MayFollow nodes memory place.0 place.1 seen (delivery_entry nodes job' from' endpoint.Directory message' sending index whole)
  take_may seen begins =
      subst (MayFollow nodes memory place.0 place.1 seen) (sym entry_to)
      (directory_may nodes memory old new count place r job from to message told.0 applied.0 told.1 here sending index there seen begins)

  module _ (next : ℕ × List Traced) (same : next.0 ≡ place.0) (g : GoesOn nodes memory place.0 place.1 sending next.1 (delivery_entry nodes job' from' endpoint.Directory message' sending index whole)) where
    taken_as : GoesOn nodes memory nodes place.1 sending next.1 (delivery_entry nodes job from endpoint.Directory message sending index reply.Ok)
    taken_as =
        subst (λ k. GoesOn nodes memory k place.1 sending next.1 (delivery_entry nodes job from endpoint.Directory message sending index reply.Ok)) r.stands
        (subst (GoesOn nodes memory place.0 place.1 sending next.1) entry_to g)

    pub take_recorded : (count' : ℕ) → count' ≡ count + 1 → IsDirectoryRecorded nodes new count' next
    take_recorded count' k =
        subst (λ x. IsDirectoryRecorded nodes new x next) (sym k)
        (directory_recorded nodes memory old new count place r job from to message told.0 applied.0 told.1 here sending index there next.1 taken_as next.0 (same ∙ r.stands))

    pub take_sent : {L : Type 0} (p : Posted L) → answers ≡ post_of p ∷ [] → p.job ≡ job → p.from ≡ endpoint.Directory → (log : List Traced) → log ≡ next.1 → (first : ℕ) → first ≡ 0
        → ∥ IsSentBy nodes p.job.0 p.from p.to p.message log first ∥₁
    take_sent p is j f log l first z =
        subst (λ x. ∥ IsSentBy nodes x.0 p.from p.to p.message log first ∥₁) (sym j)
        (subst (λ x. ∥ IsSentBy nodes job.0 x p.to p.message log first ∥₁) (sym f)
        (subst (λ x. ∥ IsSentBy nodes job.0 endpoint.Directory p.to p.message x first ∥₁) (sym l)
        (subst (λ x. ∥ IsSentBy nodes job.0 endpoint.Directory p.to p.message next.1 x ∥₁) (sym z)
        (answer_sent nodes memory old new count place r job from to message told.0 applied.0 told.1 here sending index there next.1 taken_as (post_of p) (sym applied.1 ∙ is)))))

-- ---- a session that enters

-- a live job's count of sessions is in no window
lives_counted : (test : JobNo → Bool) (live : List (JobNo × Live)) (was new : Live) → lookup test live ≡ Some was → window_of new ≡ window_of was → lives_of (set_value test live new) ≡ lives_of live
lives_counted test [] was new found same = refl
lives_counted test (e ∷ es) was new found same =
    elim (test e.0) as (λ b. cond b (Some e.1) (lookup test es) ≡ Some was → lives_of (cond b ((e.0, new) ∷ es) (e ∷ set_value test es new)) ≡ lives_of (e ∷ es)) [
      | true ↦ λ f. ap (λ w. record { job = e.0.0; window = w } ∷ lives_of es) (same ∙ ap window_of (sym (some_value e.1 was f)))
      | false ↦ λ f. ap (λ l. record { job = e.0.0; window = window_of e.1 } ∷ l) (lives_counted test es was new f same)
    ] found

module _ (a : Admissions) (job : JobNo) where
  abbrev counted_in : Option Live → Admissions
  counted_in o = option_map_or (λ live. record a { live = set_value (same_job job) a.live (record live { entered = live.entered + 1 }) }) o a

  pub entered_memory : (entered a job).memory ≡ a.memory
  entered_memory = elim (live_at a job) as (λ o. (counted_in o).memory ≡ a.memory) [ None ↦ refl | Some live ↦ refl ]

  pub entered_greatest : (entered a job).greatest ≡ a.greatest
  entered_greatest = elim (live_at a job) as (λ o. (counted_in o).greatest ≡ a.greatest) [ None ↦ refl | Some live ↦ refl ]

  pub entered_lives : lives_of (entered a job).live ≡ lives_of a.live
  entered_lives =
      elim (live_at a job) as (λ o. live_at a job ≡ o → lives_of (counted_in o).live ≡ lives_of a.live) [
        | None ↦ λ _. refl
        | Some live ↦ λ is. lives_counted (same_job job) a.live live (record live { entered = live.entered + 1 }) is refl
      ] refl

pub shows_recorded : (nodes memory : ℕ) (old new : Hosted) (number count : ℕ) (place : ℕ × List Traced) → new.number ≡ old.number → new.admissions.memory ≡ old.admissions.memory
    → lives_of new.admissions.live ≡ lives_of old.admissions.live → new.admissions.greatest ≡ old.admissions.greatest → new.grants ≡ old.grants → new.works ≡ old.works
    → ((job : ℕ) (view : View) → Shows new job view ↔ Shows old job view) → IsRecorded nodes memory old number count place → IsRecorded nodes memory new number count place
shows_recorded nodes memory old new number count place n m l gr ga w views r = record {
  within = r.within;
  stands = r.stands;
  counted = r.counted;
  shown = ∥∥₁_map r.shown (λ q. record {
    number = n ∙ q.number;
    size = m ∙ q.size;
    lives = l ∙ q.lives;
    greatest = λ job z. q.greatest job z ∙ ap (nat_le job) (sym gr);
    shows = λ job store f. (views job (view_of store)).1 (q.shows job store f);
    grants = ga ∙ q.grants;
    waiting = ap (λ (works : WorkLine). untaken works.works) w ∙ q.waiting;
    out = λ job k. ap (λ (works : WorkLine). is_taken works.works job k) w ∙ q.out job k;
  });
}

pub part_same : {X E A : Type 0} (r : Result X E) (old new : Hosted) (a : Admissions) (part : Hosted → A) → part (record old { admissions = a }) ≡ part old → OnOk r (new ≡ record old { admissions = a }) → OnErr r (new ≡ old) → part new ≡ part old
part_same (Ok x) old new a part same ok err = ap part ok ∙ same
part_same (Err e) old new a part same ok err = ap part err
