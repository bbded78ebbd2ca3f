-- What a step at one place leaves of the others: a node, and the directory, show after it what they showed before.
use Rattle.std.proofs.Common.{◌≡◌, ◌≢◌, ℕ, zero, suc, ◌<◌, ◌==◌, Bool, true, false, List, [], ◌∷◌, ◌++◌, length, map, Some, slice_get, slice_set, refl, sym, ap, subst, ◌∙◌, ⊎_elim, ◌⊎◌, inl, inr, arith}
use Rattle.std.specs.Prelude.{if◌then◌else◌}
use Rattle.std.proofs.lemmas.Bool.Decides.{nat_tests}
use Rattle.obj_id.specs.declared.ids.JobNo.{JobNo}
use Rattle.obj_id.specs.declared.messages.Endpoint.{Endpoint}
use Rattle.obj_id.specs.declared.messages.Endpoint.TheVariants.{Node, Directory}
use Rattle.obj_id.specs.declared.messages.Message.{Message}
use Rattle.private_store.specs.declared.schedules.NodeEvent.{NodeEvent}
use Rattle.private_store.specs.declared.schedules.Step.{Step}
use Rattle.private_store.specs.declared.schedules.Step.TheVariants.{At, Deliver}
use Rattle.private_store.specs.declared.schedules.StepAnswer.{StepAnswer}
use Rattle.private_store.specs.declared.schedules.Traced.{Traced}
use Rattle.private_store.specs.rules.Trace.{cluster_until}
use Rattle.owner_directory.specs.Locations.{DirectoryRows, locations_of}
use Rattle.store_facts.proofs.Tests.{some_value}
use Rattle.node_core.specs.Hosted.{Hosted}
use Rattle.node_core.specs.Steps.{NodeGiven}
use Rattle.world_core.specs.Logs.{sent_of}
use Rattle.world_core.specs.Worlds.{Hosting, IsNodeAfter, IsJobAfter, IsAfter, is_within}
use Rattle.world_core.specs.WorldSteps.{HostingStep, IsDelivered, to_directory, past_directory, to_node, past_node, Delivers, nothing, delivered, WorldStep, at, delivers, wants, as_damaged}
use Rattle.world_core.proofs.ForCallers.{after_turn, length-slice_set, slice_get-slice_set, slice_get-slice_set_other, found_within}
use Rattle.cluster_history.specs.Histories.{place_of, stands_at, IsTableAfter}

-- two elements that are set apart from one another
pub slice_set_apart : {X : Type 0} (xs : List X) (i j : ℕ) (x y : X) → i ≢ j → slice_set (slice_set xs i x) j y ≡ slice_set (slice_set xs j y) i x
slice_set_apart [] i j x y apart = refl
slice_set_apart (z ∷ xs) zero zero x y apart = absurd (apart refl)
slice_set_apart (z ∷ xs) zero (suc j) x y apart = refl
slice_set_apart (z ∷ xs) (suc i) zero x y apart = refl
slice_set_apart (z ∷ xs) (suc i) (suc j) x y apart = ap (λ ys. z ∷ ys) (slice_set_apart xs i j x y (λ e. apart (ap (λ n. suc n) e)))

-- ---- a world with another node that shows the same

abbrev pub with_node : Hosting → ℕ → Hosted → Hosting
with_node world place node = record world { nodes = slice_set world.nodes place node }

module _ (nodes memory place : ℕ) (within : place < nodes) (node : Hosted) where
  there_was : (world : Hosting) (history : List Traced) → IsAfter nodes memory world history → (was : Hosted) × (slice_get world.nodes place ≡ Some was)
  there_was world history h = found_within world.nodes place (subst (λ n. place < n) (sym h.count) within)

  set_here : (world : Hosting) (history : List Traced) → IsAfter nodes memory world history → slice_get (slice_set world.nodes place node) place ≡ Some node
  set_here world history h = let was = there_was world history h in slice_get-slice_set world.nodes place was.0 node was.1

  -- the node there, or what it was
  each_with : (world : Hosting) (history : List Traced) → IsAfter nodes memory world history → IsNodeAfter nodes memory place node history
      → (other : ℕ) (found : Hosted) → slice_get (slice_set world.nodes place node) other ≡ Some found → (b : Bool) → (other == place) ≡ b → IsNodeAfter nodes memory other found history
  each_with world history h q other found f true is =
      let same : other ≡ place = grind (arith, nat_tests) in
      let it : node ≡ found = some_value node found (sym (set_here world history h) ∙ (ap (slice_get (slice_set world.nodes place node)) (sym same) ∙ f)) in
      subst (λ n. IsNodeAfter nodes memory other n history) it (subst (λ k. IsNodeAfter nodes memory k node history) (sym same) q)
  each_with world history h q other found f false is =
      let apart : other ≢ place = grind (arith, nat_tests) in
      h.each_node other found (sym (slice_get-slice_set_other world.nodes place other node apart) ∙ f)

  -- the world shows the same with it
  pub after_with_node : (world : Hosting) (history : List Traced) → IsAfter nodes memory world history → IsNodeAfter nodes memory place node history → IsAfter nodes memory (with_node world place node) history
  after_with_node world history h q = record {
    count = length-slice_set world.nodes place node ∙ h.count;
    each_node = λ other found f. each_with world history h q other found f (other == place) refl;
    each_job = h.each_job;
    due = h.due;
  }

  hosting_with : (old new : Hosting) (other : ℕ) (e : NodeEvent) (given : NodeGiven) → other ≢ place → HostingStep old other e given new → HostingStep (with_node old place node) other e given (with_node new place node)
  hosting_with old new other e given apart m = record {
    before = m.before;
    after = m.after;
    found = slice_get-slice_set_other old.nodes place other node apart ∙ m.found;
    steps = m.steps;
    nodes = ap (λ ns. slice_set ns place node) m.nodes ∙ slice_set_apart old.nodes other place m.after node apart;
    tables = m.tables;
    sent = m.sent;
  }

  delivered_with : (old new : Hosting) (job : JobNo) (from to : Endpoint) (m : Message) (response : StepAnswer) → place_of nodes to ≢ place
      → IsDelivered old job from m new to response → IsDelivered (with_node old place node) job from m (with_node new place node) to response
  delivered_with old new job from to m response apart (to_directory d is moves) =
      to_directory d is (record { nodes = ap (λ ns. slice_set ns place node) moves.nodes; tables = moves.tables; sent = moves.sent })
  delivered_with old new job from to m response apart (past_directory is same) = past_directory is (ap (λ w. with_node w place node) same)
  delivered_with old new job from to m response apart (to_node other given a is moves) = to_node other given a is (hosting_with old new other _ given apart moves)
  delivered_with old new job from to m response apart (past_node other found there is same) =
      past_node other found (slice_get-slice_set_other old.nodes place other node apart ∙ there) is (ap (λ w. with_node w place node) same)

  turn_with : (old new : Hosting) (step : Step) (response : StepAnswer) → stands_at nodes step ≢ place → WorldStep old new step response → WorldStep (with_node old place node) (with_node new place node) step response
  turn_with old new step response apart (at other e given moves) = at other e given (hosting_with old new other _ given apart moves)
  turn_with old new step response apart (wants s same) = wants s (ap (λ w. with_node w place node) same)
  turn_with old new step response apart (delivers job from to m damage answer (nothing none same)) = delivers job from to m damage _ (nothing none (ap (λ w. with_node w place node) same))
  turn_with old new step response apart (delivers job from to m damage answer (delivered sent t some k)) =
      delivers job from to m damage t (delivered sent t some (delivered_with old new job from to (as_damaged damage sent) t apart k))

  -- a step at another place
  pub node_stays : (old new : Hosting) (history : List Traced) (step : Step) (response : StepAnswer) → IsAfter nodes memory old history → is_within nodes step ≡ true → WorldStep old new step response
      → stands_at nodes step ≢ place → IsNodeAfter nodes memory place node history → IsNodeAfter nodes memory place node (record { step = step; answer = response } ∷ history)
  node_stays old new history step response h inside t apart q =
      let before : IsAfter nodes memory (with_node old place node) history = after_with_node old history h q in
      let after = after_turn nodes memory history (with_node old place node) (with_node new place node) step response before inside (turn_with old new step response apart t) in
      let now = after_turn nodes memory history old new step response h inside t in
      after.each_node place node (set_here new (record { step = step; answer = response } ∷ history) now)

-- ---- a world with another table of locations that shows the same

abbrev pub with_tables : Hosting → DirectoryRows → Hosting
with_tables world tables = record world { tables = tables }

module _ (nodes memory : ℕ) (tables : DirectoryRows) where
  pub after_with_tables : (world : Hosting) (history : List Traced) → IsAfter nodes memory world history → IsTableAfter nodes tables history → IsAfter nodes memory (with_tables world tables) history
  after_with_tables world history h q = record {
    count = h.count;
    each_node = h.each_node;
    each_job = λ job. (let j = h.each_job job in record { messages = j.messages; locations = q.each job; replies = j.replies });
    due = h.due;
  }

  hosting_beside : (old new : Hosting) (place : ℕ) (e : NodeEvent) (given : NodeGiven) → HostingStep old place e given new → HostingStep (with_tables old tables) place e given (with_tables new tables)
  hosting_beside old new place e given m = record { before = m.before; after = m.after; found = m.found; steps = m.steps; nodes = m.nodes; tables = refl; sent = m.sent }

  delivered_beside : (old new : Hosting) (job : JobNo) (from to : Endpoint) (m : Message) (response : StepAnswer) → place_of nodes to ≢ nodes
      → IsDelivered old job from m new to response → IsDelivered (with_tables old tables) job from m (with_tables new tables) to response
  delivered_beside old new job from to m response apart (to_directory d is moves) = absurd (apart refl)
  delivered_beside old new job from to m response apart (past_directory is same) = absurd (apart refl)
  delivered_beside old new job from to m response apart (to_node place given a is moves) = to_node place given a is (hosting_beside old new place _ given moves)
  delivered_beside old new job from to m response apart (past_node place found there is same) = past_node place found there is (ap (λ w. with_tables w tables) same)

  turn_beside : (old new : Hosting) (step : Step) (response : StepAnswer) → stands_at nodes step ≢ nodes → WorldStep old new step response → WorldStep (with_tables old tables) (with_tables new tables) step response
  turn_beside old new step response apart (at place e given moves) = at place e given (hosting_beside old new place _ given moves)
  turn_beside old new step response apart (wants s same) = wants s (ap (λ w. with_tables w tables) same)
  turn_beside old new step response apart (delivers job from to m damage answer (nothing none same)) = delivers job from to m damage _ (nothing none (ap (λ w. with_tables w tables) same))
  turn_beside old new step response apart (delivers job from to m damage answer (delivered sent t some k)) =
      delivers job from to m damage t (delivered sent t some (delivered_beside old new job from to (as_damaged damage sent) t apart k))

  -- a step at a node
  pub tables_stay : (old new : Hosting) (history : List Traced) (step : Step) (response : StepAnswer) → IsAfter nodes memory old history → is_within nodes step ≡ true → WorldStep old new step response
      → stands_at nodes step ≢ nodes → IsTableAfter nodes tables history → IsTableAfter nodes tables (record { step = step; answer = response } ∷ history)
  tables_stay old new history step response h inside t apart q =
      let after = after_turn nodes memory history (with_tables old tables) (with_tables new tables) step response (after_with_tables old history h q) inside (turn_beside old new step response apart t) in
      record { each = λ job. (after.each_job job).locations }
