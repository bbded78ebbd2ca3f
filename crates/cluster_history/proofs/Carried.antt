-- What a place shows after a history it shows after each longer one to which the other places alone added.
use Rattle.std.proofs.Common.{◌≡◌, ◌≢◌, ℕ, zero, suc, ◌<◌, ◌==◌, ◌&&◌, Bool, true, false, cond, List, [], ◌∷◌, ◌++◌, append-nil, append_assoc, length, map, filter, Some, None, slice_get, refl, sym, ap, subst, ◌∙◌, arith}
use Rattle.std.specs.Prelude.{if◌then◌else◌}
use Rattle.std.proofs.lemmas.Bool.Decides.{nat_tests}
use Rattle.std.proofs.lemmas.List.{map-append}
use Rattle.std.proofs.lemmas.List.Elements.{filter-append}
use Rattle.obj_id.specs.declared.ids.JobNo.{JobNo}
use Rattle.obj_id.specs.declared.messages.Endpoint.{Endpoint}
use Rattle.obj_id.specs.declared.messages.Message.{Message}
use Rattle.private_store.specs.declared.schedules.Step.{Step}
use Rattle.private_store.specs.declared.schedules.Step.TheVariants.{At, Deliver}
use Rattle.private_store.specs.declared.schedules.StepAnswer.{StepAnswer}
use Rattle.private_store.specs.declared.schedules.Traced.{Traced}
use Rattle.private_store.specs.rules.Cluster.{Sent, same_place, messages_between}
use Rattle.private_store.specs.rules.Trace.{cluster_until}
use Rattle.owner_directory.specs.Locations.{DirectoryRows}
use Rattle.node_core.specs.Hosted.{Hosted}
use Rattle.world_core.specs.Logs.{sent_of, message_in}
use Rattle.world_core.specs.Runs.{is_replied}
use Rattle.world_core.specs.Worlds.{Hosting, IsNodeAfter, IsAfter, is_within}
use Rattle.world_core.specs.WorldSteps.{IsDelivered, to_directory, past_directory, to_node, past_node, nothing, delivered, WorldStep, at, delivers, wants, as_damaged}
use Rattle.world_core.proofs.ForCallers.{after_turn}
use Rattle.cluster_history.specs.Histories.{stands_at, count_at, IsGrown, begun, goes_on, IsTableAfter}
use Rattle.cluster_history.proofs.Others.{node_stays, tables_stay}

-- ---- the worlds of a history

pub grown_world : (nodes memory : ℕ) (history : List Traced) → IsGrown nodes memory history → (world : Hosting) × IsAfter nodes memory world history
grown_world nodes memory history (begun world h) = (world, h)
grown_world nodes memory history (goes_on before old new step response g h inside replied t) = (new, after_turn nodes memory before old new step response h inside t)

-- the newest step
pub record LastStep (nodes memory : ℕ) (entry : Traced) (history : List Traced) : Type 0 where
  pub old : Hosting
  pub new : Hosting
  pub before : IsGrown nodes memory history
  pub after : IsAfter nodes memory old history
  pub inside : is_within nodes entry.step ≡ true
  pub replied : is_replied entry.step entry.answer ≡ true
  pub turn : WorldStep old new entry.step entry.answer

pub grown_last : (nodes memory : ℕ) (entry : Traced) (history : List Traced) → IsGrown nodes memory (entry ∷ history) → LastStep nodes memory entry history
grown_last nodes memory entry history (goes_on before old new step response g h inside replied t) = record { old = old; new = new; before = g; after = h; inside = inside; replied = replied; turn = t }

-- ---- entries of other places

pub none_here : (nodes place : ℕ) (entry : Traced) (more : List Traced) → count_at nodes place (entry ∷ more) ≡ 0 → (stands_at nodes entry.step ≢ place) × (count_at nodes place more ≡ 0)
none_here nodes place entry more none = by (stands_at nodes entry.step == place) refl none
  where
    by : (b : Bool) → (stands_at nodes entry.step == place) ≡ b → length (cond b (entry ∷ filter (λ (x : Traced). stands_at nodes x.step == place) more) (filter (λ (x : Traced). stands_at nodes x.step == place) more)) ≡ 0
        → (stands_at nodes entry.step ≢ place) × (count_at nodes place more ≡ 0)
    by true is n = absurd (omega (arith, n))
    by false is n = (grind (arith, nat_tests), n)

pub node_carried : (nodes memory place : ℕ) → place < nodes → (node : Hosted) (more history : List Traced) → IsGrown nodes memory (more ++ history) → count_at nodes place more ≡ 0
    → IsNodeAfter nodes memory place node history → IsNodeAfter nodes memory place node (more ++ history)
node_carried nodes memory place within node [] history g none q = q
node_carried nodes memory place within node (entry ∷ more) history g none q =
    let l = grown_last nodes memory entry (more ++ history) g in
    let n = none_here nodes place entry more none in
    node_stays nodes memory place within node l.old l.new (more ++ history) entry.step entry.answer l.after l.inside l.turn n.0
    (node_carried nodes memory place within node more history l.before n.1 q)

pub tables_carried : (nodes memory : ℕ) (tables : DirectoryRows) (more history : List Traced) → IsGrown nodes memory (more ++ history) → count_at nodes nodes more ≡ 0
    → IsTableAfter nodes tables history → IsTableAfter nodes tables (more ++ history)
tables_carried nodes memory tables [] history g none q = q
tables_carried nodes memory tables (entry ∷ more) history g none q =
    let l = grown_last nodes memory entry (more ++ history) g in
    let n = none_here nodes nodes entry more none in
    tables_stay nodes memory tables l.old l.new (more ++ history) entry.step entry.answer l.after l.inside l.turn n.0
    (tables_carried nodes memory tables more history l.before n.1 q)

-- ---- messages, of which none goes

slice_get-before : {X : Type 0} (xs ys : List X) (i : ℕ) (x : X) → slice_get xs i ≡ Some x → slice_get (xs ++ ys) i ≡ Some x
slice_get-before [] ys i x e = absurd cc
slice_get-before (z ∷ xs) ys zero x e = e
slice_get-before (z ∷ xs) ys (suc i) x e = slice_get-before xs ys i x e

pub between-append : (from to : Endpoint) (xs ys : List Sent) → messages_between from to (xs ++ ys) ≡ messages_between from to xs ++ messages_between from to ys
between-append from to xs ys =
    ap (map (λ (s : Sent). s.message)) (filter-append (λ (s : Sent). same_place from s.from && same_place to s.to) xs ys)
    ∙ map-append (λ (s : Sent). s.message) (filter (λ (s : Sent). same_place from s.from && same_place to s.to) xs) (filter (λ (s : Sent). same_place from s.from && same_place to s.to) ys)

pub message_in-append : (xs ys : List Sent) (from to : Endpoint) (m : ℕ) (message : Message) → message_in xs from to m ≡ Some message → message_in (xs ++ ys) from to m ≡ Some message
message_in-append xs ys from to zero message e = absurd cc
message_in-append xs ys from to (suc m) message e = ap (λ l. slice_get l m) (between-append from to xs ys) ∙ slice_get-before (messages_between from to xs) (messages_between from to ys) m message e

abbrev IsLonger : List Sent → List Sent → Type 0
IsLonger xs ys = (more : List Sent) × (ys ≡ xs ++ more)

longer_if : (xs ys more : List Sent) (b : Bool) → ys ≡ (if b then xs ++ more else xs) → IsLonger xs ys
longer_if xs ys more true e = (more, e)
longer_if xs ys more false e = ([], e ∙ sym (append-nil xs))

longer_same : (old new : Hosting) (job : ℕ) → new ≡ old → IsLonger (sent_of old.messages job) (sent_of new.messages job)
longer_same old new job same = ([], ap (λ (w : Hosting). sent_of w.messages job) same ∙ sym (append-nil (sent_of old.messages job)))

longer_delivered : (old new : Hosting) (job : JobNo) (from to : Endpoint) (m : Message) (response : StepAnswer) (other : ℕ) → IsDelivered old job from m new to response → IsLonger (sent_of old.messages other) (sent_of new.messages other)
longer_delivered old new job from to m response other (to_directory d is moves) = longer_if _ _ _ (job.0 == other) (moves.sent other)
longer_delivered old new job from to m response other (past_directory is same) = longer_same old new other same
longer_delivered old new job from to m response other (to_node place given a is moves) = longer_if _ _ _ (job.0 == other) (moves.sent other)
longer_delivered old new job from to m response other (past_node place found there is same) = longer_same old new other same

longer_turn : (old new : Hosting) (step : Step) (response : StepAnswer) (job : ℕ) → WorldStep old new step response → IsLonger (sent_of old.messages job) (sent_of new.messages job)
longer_turn old new step response job (at place e given moves) = longer_if _ _ _ _ (moves.sent job)
longer_turn old new step response job (wants s same) = longer_same old new job same
longer_turn old new step response job (delivers of from to m damage answer (nothing none same)) = longer_same old new job same
longer_turn old new step response job (delivers of from to m damage answer (delivered sent t some k)) = longer_delivered old new of from to (as_damaged damage sent) t job k

-- a message that was sent stays where it stands
pub message_carried : (nodes memory job : ℕ) (more history : List Traced) (from to : Endpoint) (m : ℕ) (message : Message) → IsGrown nodes memory (more ++ history)
    → message_in (cluster_until nodes job history).sent from to m ≡ Some message → message_in (cluster_until nodes job (more ++ history)).sent from to m ≡ Some message
message_carried nodes memory job [] history from to m message g e = e
message_carried nodes memory job (entry ∷ more) history from to m message g e =
    let l = grown_last nodes memory entry (more ++ history) g in
    let before = message_carried nodes memory job more history from to m message l.before e in
    let old = (l.after.each_job job).messages in
    let new = ((after_turn nodes memory (more ++ history) l.old l.new entry.step entry.answer l.after l.inside l.turn).each_job job).messages in
    let longer = longer_turn l.old l.new entry.step entry.answer job l.turn in
    ap (λ s. message_in s from to m) (sym new ∙ longer.1)
    ∙ message_in-append (sent_of l.old.messages job) longer.0 from to m message (ap (λ s. message_in s from to m) old ∙ before)
