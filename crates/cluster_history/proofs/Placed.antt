-- What a place may add to what it knows, and what it knows then.
use Rattle.std.proofs.Common.{◌≡◌, ℕ, ◌<◌, ◌+◌, ◌==◌, Bool, true, false, cond, List, [], ◌∷◌, ◌++◌, append-nil, append_assoc, length, reverse, Some, None, refl, sym, ap, subst, ◌∙◌, arith}
use Rattle.std.specs.Prelude.{if◌then◌else◌}
use Rattle.std.proofs.lemmas.List.{reverse-append}
use Rattle.std.proofs.Math.Logic.{∥∥₁_elim, ∥∥₁_map}
use mathlib.Core.List.{IsPrefix}
use Rattle.obj_id.specs.declared.ids.JobNo.{JobNo}
use Rattle.obj_id.specs.declared.messages.Arrival.{Arrival}
use Rattle.obj_id.specs.declared.messages.DirectoryMessage.{DirectoryMessage}
use Rattle.obj_id.specs.declared.messages.Endpoint.{Endpoint}
use Rattle.obj_id.specs.declared.messages.Endpoint.TheVariants.{Node, Directory}
use Rattle.obj_id.specs.declared.messages.Message.{Message}
use Rattle.private_store.specs.declared.schedules.Event.{Event}
use Rattle.private_store.specs.declared.schedules.NodeEvent.{NodeEvent}
use Rattle.private_store.specs.declared.schedules.NodeEvent.TheVariants.{Own, Arrive}
use Rattle.private_store.specs.declared.schedules.Step.TheVariants.{At, Deliver}
use Rattle.private_store.specs.declared.schedules.StepAnswer.TheVariants.{Response, HandedOver}
use Rattle.private_store.specs.declared.schedules.Traced.{Traced}
use Rattle.private_store.specs.rules.Cluster.{posted, arrival_of}
use Rattle.private_store.specs.rules.Directory.{directory_posts}
use Rattle.private_store.specs.rules.Trace.{cluster_until}
use Rattle.owner_directory.specs.Locations.{DirectoryRows, Applies, locations_of}
use Rattle.node_core.specs.Hosted.{Hosted}
use Rattle.node_core.specs.Steps.{NodeGiven, NodeStep}
use Rattle.world_core.specs.Logs.{message_in}
use Rattle.world_core.specs.Worlds.{IsNodeAfter}
use Rattle.world_core.specs.WorldSteps.{handed, for_directory}
use Rattle.cluster_history.specs.Histories.{stands_at, count_at, IsGrown, IsTableAfter}
use Rattle.cluster_history.specs.Rules.{MayFollow, GoesOn}
use Rattle.cluster_history.proofs.Adding.{count_append}
use Rattle.cluster_history.proofs.Carried.{node_carried, tables_carried, message_carried}
use Rattle.cluster_history.proofs.Going.{NodeGoesOn, event_goes_on, arrival_goes_on, DirectoryGoesOn, directory_goes_on}

both₁ : {A B C : Type 0} → ∥ A ∥₁ → ∥ B ∥₁ → (A → B → C) → ∥ C ∥₁
both₁ a b f = ∥∥₁_elim a squash₁ (λ x. ∥∥₁_map b (f x))

count_reverse : (nodes place : ℕ) (xs : List Traced) → count_at nodes place (reverse xs) ≡ count_at nodes place xs
count_reverse nodes place [] = refl
count_reverse nodes place (x ∷ xs) =
    ap (count_at nodes place) (reverse-append (x ∷ []) xs)
    ∙ omega (arith, count_append nodes place (reverse xs) (x ∷ []), count_append nodes place (x ∷ []) xs, count_reverse nodes place xs)

none_reversed : (nodes place : ℕ) (xs : List Traced) → count_at nodes place xs ≡ 0 → count_at nodes place (reverse xs) ≡ 0
none_reversed nodes place xs none = count_reverse nodes place xs ∙ none

pub prefix_trans : {A : Type 0} (xs ys zs : List A) → IsPrefix xs ys → IsPrefix ys zs → IsPrefix xs zs
prefix_trans xs ys zs p q = (p.0 ++ q.0, sym (append_assoc xs p.0 q.0) ∙ (ap (λ w. w ++ q.0) p.1 ∙ q.1))

-- a message that was sent stays where it stands
still_sent : (nodes memory job : ℕ) (sending log : List Traced) → IsPrefix sending log → (from to : Endpoint) (m : ℕ) (message : Message) → IsGrown nodes memory (reverse log)
    → message_in (cluster_until nodes job (reverse sending)).sent from to m ≡ Some message → message_in (cluster_until nodes job (reverse log)).sent from to m ≡ Some message
still_sent nodes memory job sending log begins from to m message grown there =
    let split : reverse log ≡ reverse begins.0 ++ reverse sending = ap reverse (sym begins.1) ∙ reverse-append sending begins.0 in
    subst (λ l. message_in (cluster_until nodes job l).sent from to m ≡ Some message) (sym split)
    (message_carried nodes memory job (reverse begins.0) (reverse sending) from to m message (subst (IsGrown nodes memory) split grown) there)

-- a history after more, read from its newest entry
reversed : (known between : List Traced) → reverse (known ++ between) ≡ reverse between ++ reverse known
reversed known between = reverse-append known between

grown_here : (nodes memory : ℕ) (known between : List Traced) → ∥ IsGrown nodes memory (reverse (known ++ between)) ∥₁ → ∥ IsGrown nodes memory (reverse between ++ reverse known) ∥₁
grown_here nodes memory known between g = subst (λ l. ∥ IsGrown nodes memory l ∥₁) (reversed known between) g

-- ---- a node

module _ (nodes memory place : ℕ) (within : place < nodes) (node : Hosted) (known : List Traced) (q : ∥ IsNodeAfter nodes memory place node (reverse known) ∥₁) where
  -- whatever the others added
  pub node_now : (between : List Traced) → count_at nodes place between ≡ 0 → ∥ IsGrown nodes memory (reverse (known ++ between)) ∥₁ → ∥ IsNodeAfter nodes memory place node (reverse (known ++ between)) ∥₁
  node_now between none g =
      both₁ (grown_here nodes memory known between g) q
      (λ grown was. subst (IsNodeAfter nodes memory place node) (sym (reversed known between))
      (node_carried nodes memory place within node (reverse between) (reverse known) grown (none_reversed nodes place between none) was))

  -- an event
  module _ (after : Hosted) (e : Event) (given : NodeGiven) (s : NodeStep node (Own e) given after) where
    pub event_follows : (seen : List Traced) → MayFollow nodes memory place known seen (record { step = At place e; answer = Response given.reply })
    event_follows seen between none also g =
        both₁ g (node_now between none g) (λ grown now. (event_goes_on nodes memory place within node after e given (reverse (known ++ between)) grown now s).grown)

    pub after_event : (between : List Traced) → count_at nodes place between ≡ 0 → ∥ IsGrown nodes memory (reverse (known ++ between)) ∥₁
        → ∥ NodeGoesOn nodes memory place after (Own e) given (reverse (known ++ between)) (record { step = At place e; answer = Response given.reply }) ∥₁
    after_event between none g =
        both₁ g (node_now between none g) (λ grown now. event_goes_on nodes memory place within node after e given (reverse (known ++ between)) grown now s)

  -- a message that arrives, once the step that sent it was seen
  module _ (after : Hosted) (job : JobNo) (from : Endpoint) (m : ℕ) (message : Message) (a : Arrival) (given : NodeGiven) (s : NodeStep node (Arrive job a) given after)
      (sending : List Traced) (there : message_in (cluster_until nodes job.0 (reverse sending)).sent from (Node place) m ≡ Some message) (is : arrival_of from message ≡ Some a) where
    pub arrival_follows : (seen : List Traced) → IsPrefix sending seen → MayFollow nodes memory place known seen (record { step = Deliver job from (Node place) m false; answer = handed message given.reply })
    arrival_follows seen begins between none also g =
        both₁ g (node_now between none g) (λ grown now.
        (arrival_goes_on nodes memory place within node after job from m message a given (reverse (known ++ between)) grown now s
        (still_sent nodes memory job.0 sending (known ++ between) (prefix_trans sending seen (known ++ between) begins also) from (Node place) m message grown there) is).grown)

    pub after_arrival : (between : List Traced) → count_at nodes place between ≡ 0 → IsPrefix sending (known ++ between) → ∥ IsGrown nodes memory (reverse (known ++ between)) ∥₁
        → ∥ NodeGoesOn nodes memory place after (Arrive job a) given (reverse (known ++ between)) (record { step = Deliver job from (Node place) m false; answer = handed message given.reply }) ∥₁
    after_arrival between none also g =
        both₁ g (node_now between none g) (λ grown now.
        arrival_goes_on nodes memory place within node after job from m message a given (reverse (known ++ between)) grown now s
        (still_sent nodes memory job.0 sending (known ++ between) also from (Node place) m message grown there) is)

-- ---- the directory

module _ (nodes memory : ℕ) (old new : DirectoryRows) (known : List Traced) (q : IsTableAfter nodes old (reverse known)) (job : JobNo) (from : Endpoint) (m : ℕ) (message : Message) (d : DirectoryMessage)
    (applies : Applies old new job d) (sending : List Traced) (there : message_in (cluster_until nodes job.0 (reverse sending)).sent from Directory m ≡ Some message) (is : for_directory message ≡ Some d) where
  tables_now : (between : List Traced) → count_at nodes nodes between ≡ 0 → IsGrown nodes memory (reverse (known ++ between)) → IsTableAfter nodes old (reverse (known ++ between))
  tables_now between none grown =
      subst (IsTableAfter nodes old) (sym (reversed known between))
      (tables_carried nodes memory old (reverse between) (reverse known) (subst (IsGrown nodes memory) (reversed known between) grown) (none_reversed nodes nodes between none) q)

  goes : (between : List Traced) → count_at nodes nodes between ≡ 0 → IsPrefix sending (known ++ between) → IsGrown nodes memory (reverse (known ++ between))
      → DirectoryGoesOn nodes memory new job (posted Directory (directory_posts (locations_of old job) d)) (reverse (known ++ between)) (record { step = Deliver job from Directory m false; answer = HandedOver message })
  goes between none also grown =
      directory_goes_on nodes memory old new job from m message d (reverse (known ++ between)) grown (tables_now between none grown) applies
      (still_sent nodes memory job.0 sending (known ++ between) also from Directory m message grown there) is

  pub directory_follows : (seen : List Traced) → IsPrefix sending seen → MayFollow nodes memory nodes known seen (record { step = Deliver job from Directory m false; answer = HandedOver message })
  directory_follows seen begins between none also g = ∥∥₁_map g (λ grown. (goes between none (prefix_trans sending seen (known ++ between) begins also) grown).grown)

  pub after_directory : (between : List Traced) → count_at nodes nodes between ≡ 0 → IsPrefix sending (known ++ between) → ∥ IsGrown nodes memory (reverse (known ++ between)) ∥₁
      → ∥ DirectoryGoesOn nodes memory new job (posted Directory (directory_posts (locations_of old job) d)) (reverse (known ++ between)) (record { step = Deliver job from Directory m false; answer = HandedOver message }) ∥₁
  after_directory between none also g = ∥∥₁_map g (goes between none also)
