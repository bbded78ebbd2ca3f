-- Two stores with the same own part, as their node shows them, have the same own part after the same input and send the
-- same, if a Grant is answered alike; and an input about grants of others' objects leaves the own part and sends nothing.
use Rattle.std.proofs.Common.{◌≡◌, ℕ, Bool, true, false, not, cond, ◌==◌, ◌&&◌, filter, subst, List, [], ◌∷◌, ◌++◌, flat_map, Some, None, refl, sym, ap, ◌∙◌, eq-eqb, T, arith}
use Rattle.std.specs.Prelude.{nat_lt, nat_le}
use Rattle.std.specs.Option.{option_map_or}
use Rattle.std.specs.List.{list_all}
use Rattle.std.proofs.lemmas.Bool.Decides.{nat_tests}
use Rattle.std.proofs.lemmas.List.Elements.{filter-append}
use Rattle.obj_id.specs.declared.ids.JobNo.{JobNo}
use Rattle.obj_id.specs.declared.ids.ObjectId.{ObjectId}
use Rattle.obj_id.specs.declared.commands.Command.TheVariants as command
use Rattle.obj_id.specs.declared.commands.Reply.{Reply}
use Rattle.obj_id.specs.declared.commands.Reply.TheVariants as reply
use Rattle.obj_id.specs.declared.messages.Arrival.TheVariants as arrival
use Rattle.obj_id.specs.declared.messages.PeerMessage.TheVariants as peer
use Rattle.obj_id.specs.declared.works.DeviceAnswer.TheVariants as device
use Rattle.obj_id.specs.declared.refusals.Refusal.{Refusal}
use Rattle.private_store.specs.declared.inputs.Input.{Input}
use Rattle.private_store.specs.declared.inputs.Input.TheVariants as input
use Rattle.private_store.specs.declared.inputs.Judged.{Judged}
use Rattle.private_store.specs.declared.inputs.Judged.TheVariants as judged
use Rattle.private_store.specs.declared.inputs.WorkVerdict.TheVariants as work
use Rattle.private_store.specs.declared.inputs.ChunkVerdict.TheVariants as chunk
use Rattle.private_store.specs.rules.Tables.{at}
use Rattle.private_store.specs.rules.Shape.{Copy, Shape, Change, Fetch, Phase, locating, sized, pulling, failed, Sending, add_location, remove_location, remove_source, free, end_job, locate, pull, chunks, not_here, GrantGiven, WorkInFlight}
use Rattle.private_store.specs.rules.Step.{step, reordered}
use Rattle.private_store.specs.rules.Contents.{View, judge, kept, keeps_digest, no_digest, brought, bytes_brought, digest_brought, bytes_answered, whole_reply}
use Rattle.private_store.specs.rules.Private.{posts_of, pull_posts, pull_of, chunk_posts, outcome, view_step}
use Rattle.private_store.specs.laws.Invariants.{IsViewKept}
use Rattle.store_facts.proofs.Filling.{resides, zeros}
use Rattle.store_facts.proofs.Tests.{and_left, and_right, true_T, true_false}
use Rattle.run_laws.proofs.OwnParts.{own_grants, own_part, own_change, HasOwn}
use Rattle.run_laws.proofs.OwnSteps.{is_plain, step_own}
use Rattle.run_laws.proofs.GrantInputs.{IsGrant, left, gave, grant_is}
use Rattle.run_laws.proofs.AsideSteps.{is_aside_input, step_aside}
use Rattle.run_laws.proofs.SettledViews.{IsSettled}

-- the own part as the node shows it
abbrev pub own_view : View → View
own_view view = record { shape = own_part view.shape; order = view.order; contents = record view.contents { received = [] } }

-- ---- what is read of a view is in its own part

judge_own : (node : ℕ) (view : View) (x : Input) → judge node (own_view view) x ≡ judge node view x
judge_own node view (input.Begin quota) = refl
judge_own node view (input.Requota quota) = refl
judge_own node view (input.Call session c) = refl
judge_own node view (input.Answer number (device.Bytes bytes)) = refl
judge_own node view (input.Answer number device.Done) = refl
judge_own node view (input.Answer number device.Failed) = refl
judge_own node view (input.Arrive (arrival.Located id number entries)) = refl
judge_own node view (input.Arrive (arrival.FromPeer from (peer.Pull id number n digest indexes))) = refl
judge_own node view (input.Arrive (arrival.FromPeer from (peer.Chunk id number index bytes))) = refl
judge_own node view (input.Arrive (arrival.FromPeer from (peer.NotHere id number))) = refl
judge_own node view (input.Received id bytes grantor depth) = refl
judge_own node view (input.Withdrawn id grantor depth) = refl
judge_own node view input.End = refl

bytes_own : (view : View) (x : Input) (y : Judged) (response : Reply ℕ) → bytes_brought (own_view view) x y response ≡ bytes_brought view x y response
bytes_own view (input.Call session (command.Write id offset bytes)) y reply.Ok = refl
bytes_own view (input.Call session c) y response = refl
bytes_own view (input.Answer number (device.Bytes bytes)) (judged.Answer m work.Fine) response = refl
bytes_own view (input.Answer number (device.Bytes bytes)) y response = refl
bytes_own view (input.Answer number d) y response = refl
bytes_own view (input.Arrive (arrival.FromPeer from (peer.Chunk id number index bytes))) (judged.Chunk a b c d chunk.Part) response = refl
bytes_own view (input.Arrive (arrival.FromPeer from (peer.Chunk id number index bytes))) (judged.Chunk a b c d chunk.Whole) response = refl
bytes_own view (input.Arrive (arrival.FromPeer from (peer.Chunk id number index bytes))) y response = refl
bytes_own view (input.Arrive a) y response = refl
bytes_own view x y response = refl

digest_own : (node : ℕ) (view : View) (x : Input) (response : Reply ℕ) → digest_brought node (own_view view) x response ≡ digest_brought node view x response
digest_own node view (input.Call session (command.Seal id)) reply.Ok = refl
digest_own node view (input.Call session c) response = refl
digest_own node view (input.Arrive (arrival.Located id number entries)) response = refl
digest_own node view (input.Arrive a) response = refl
digest_own node view x response = refl

pull_of_own : (view : View) (id : ObjectId) (copy : Copy) (fetch : Fetch) (phase : Phase) → pull_of (own_view view) id copy fetch phase ≡ pull_of view id copy fetch phase
pull_of_own view id copy fetch locating = refl
pull_of_own view id copy fetch (sized source) = refl
pull_of_own view id copy fetch (pulling source missing) = refl
pull_of_own view id copy fetch (failed fault) = refl

pull_posts_own : (view : View) (id : ObjectId) → pull_posts (own_view view) id ≡ pull_posts view id
pull_posts_own view id =
    elim (at view.shape.copies id) as (λ o. option_map_or (λ copy. option_map_or (λ fetch. pull_of (own_view view) id copy fetch fetch.phase) copy.fetch []) o []
    ≡ option_map_or (λ copy. option_map_or (λ fetch. pull_of view id copy fetch fetch.phase) copy.fetch []) o []) [
      | None ↦ refl
      | Some copy ↦ elim copy.fetch as (λ o. option_map_or (λ fetch. pull_of (own_view view) id copy fetch fetch.phase) o [] ≡ option_map_or (λ fetch. pull_of view id copy fetch fetch.phase) o []) [
        | None ↦ refl
        | Some fetch ↦ pull_of_own view id copy fetch fetch.phase
      ]
    ]

chunk_posts_own : (view : View) (x : Input) → chunk_posts (own_view view) x ≡ chunk_posts view x
chunk_posts_own view (input.Arrive (arrival.FromPeer from (peer.Pull id number n digest indexes))) = refl
chunk_posts_own view (input.Arrive a) = refl
chunk_posts_own view x = refl

posts_own : (node : ℕ) (view : View) (x : Input) (m : Sending) → posts_of node (own_view view) x m ≡ posts_of node view x m
posts_own node view x (add_location id) = refl
posts_own node view x (remove_location id) = refl
posts_own node view x (remove_source id source) = refl
posts_own node view x (free id) = refl
posts_own node view x end_job = refl
posts_own node view x (locate id number) = refl
posts_own node view x (pull id) = pull_posts_own view id
posts_own node view x (chunks id) = chunk_posts_own view x
posts_own node view x (not_here id) = refl

told_own : (node : ℕ) (view : View) (x : Input) → is_plain view.shape.job (judge node view x) ≡ true → bytes_answered (own_view view) x ≡ bytes_answered view x
told_own node view (input.Call session (command.Read id offset n)) plain = refl
told_own node view (input.Call session (command.Peek id offset n)) plain = true_false plain
told_own node view (input.Call session c) plain = refl
told_own node view x plain = refl

reply_own : (node : ℕ) (view : View) (x : Input) → is_plain view.shape.job (judge node view x) ≡ true → (response : Reply ℕ) → whole_reply (own_view view) x response ≡ whole_reply view x response
reply_own node view x plain (reply.Bytes n) = ap (λ bytes. reply.Bytes bytes) (told_own node view x plain)
reply_own node view x plain reply.Ok = refl
reply_own node view x plain (reply.Placed offset n) = refl
reply_own node view x plain (reply.Got n) = refl
reply_own node view x plain (reply.List mine granted) = refl
reply_own node view x plain (reply.Usage usage) = refl
reply_own node view x plain (reply.Work work) = refl
reply_own node view x plain reply.NoWork = refl
reply_own node view x plain (reply.Refused refusal) = refl

-- ---- inputs that a store's own part takes as the store does

module _ (node : ℕ) (view : View) (x : Input) (has : HasOwn view.shape) (plain : is_plain view.shape.job (judge node view x) ≡ true) where
  abbrev judgement : Judged
  judgement = judge node view x

  abbrev change : Change
  change = step view.order view.shape judgement

  abbrev after : View
  after = (view_step node view x).view

  own_outcome : view_step node (own_view view) x ≡ outcome node (own_view view) x judgement (own_change change)
  own_outcome =
      (λ i. outcome node (own_view view) x (judge_own node view x i) (step view.order (own_part view.shape) (judge_own node view x i)))
      ∙ ap (outcome node (own_view view) x judgement) (step_own view.order view.shape has judgement plain)

  view_made : (outcome node (own_view view) x judgement (own_change change)).view ≡ own_view after
  view_made = λ i. record {
    shape = own_part change.shape;
    order = after.order;
    contents = record {
      bytes = kept resides zeros (brought view.contents.bytes (bytes_own view x judgement change.reply i)) change.shape.copies;
      digests = kept keeps_digest (λ copy. no_digest) (brought view.contents.digests (digest_own node view x change.reply i)) change.shape.copies;
      received = [];
    };
  }

  plain_view : (view_step node (own_view view) x).view ≡ own_view after
  plain_view = ap (λ o. o.view) own_outcome ∙ view_made

  plain_posts : (view_step node (own_view view) x).posts ≡ (view_step node view x).posts
  plain_posts =
      ap (λ o. o.posts) own_outcome
      ∙ ap (λ u. flat_map (posts_of node u x) change.sent) view_made
      ∙ ap (λ f. flat_map f change.sent) (λ i m. posts_own node after x m i)

  plain_works : (view_step node (own_view view) x).works ≡ (view_step node view x).works
  plain_works = ap (λ o. o.works) own_outcome

  plain_reply : (view_step node (own_view view) x).reply ≡ (view_step node view x).reply
  plain_reply = ap (λ o. o.reply) own_outcome ∙ reply_own node view x plain change.reply

-- ---- inputs that leave the copies

-- no work in flight has a number that is still to come
none_new : (asked : ℕ) (works : List WorkInFlight) → T (list_all (λ work. nat_lt 0 work.number && nat_le work.number asked) works) → filter (λ work. nat_lt asked work.number) works ≡ []
none_new asked [] h = refl
none_new asked (w ∷ works) h =
    ap (λ b. cond b (w ∷ filter (λ work. nat_lt asked work.number) works) (filter (λ work. nat_lt asked work.number) works)) (old asked w.number (and_left (nat_lt 0 w.number && nat_le w.number asked) _ h))
    ∙ none_new asked works (and_right (nat_lt 0 w.number && nat_le w.number asked) _ h)
  where
    old : (asked n : ℕ) → T (nat_lt 0 n && nat_le n asked) → nat_lt asked n ≡ false
    old asked n h = let k = true_T (nat_le n asked) (and_right (nat_lt 0 n) (nat_le n asked) h) in grind (arith, nat_tests)

module _ (node : ℕ) (view : View) (x : Input) (settled : IsSettled view) where
  abbrev turn : Change
  turn = step view.order view.shape (judge node view x)

  module _ (copies : turn.shape.copies ≡ view.shape.copies) (silent : turn.sent ≡ []) (unused : turn.used ≡ None)
      (no_bytes : bytes_brought view x (judge node view x) turn.reply ≡ None) (no_digests : digest_brought node view x turn.reply ≡ None) where
    left_view : own_view (view_step node view x).view ≡ record (own_view view) { shape = own_part turn.shape }
    left_view =
        (λ i. record {
          shape = own_part turn.shape;
          order = reordered view.order (copies i) (unused i);
          contents = record {
            bytes = kept resides zeros (brought view.contents.bytes (no_bytes i)) (copies i);
            digests = kept keeps_digest (λ copy. no_digest) (brought view.contents.digests (no_digests i)) (copies i);
            received = [];
          };
        })
        ∙ (λ i. record { shape = own_part turn.shape; order = settled.order i; contents = record { bytes = settled.bytes i; digests = settled.digests i; received = [] } })

    left_posts : (view_step node view x).posts ≡ []
    left_posts = ap (flat_map (posts_of node (view_step node view x).view x)) silent

  left_works : IsViewKept view → turn.shape.works ≡ view.shape.works → (view_step node view x).works ≡ []
  left_works h same = ap (filter (λ work. nat_lt view.shape.works_asked work.number)) same ∙ none_new view.shape.works_asked view.shape.works (subst T (sym h.kept.shape.numbers_used) tt)

-- the inputs about grants of others' objects
abbrev pub is_aside_of : ℕ → Input → Bool
is_aside_of job (input.Call session (command.Grant id target)) = not (id.job.0 == job)
is_aside_of job (input.Call session (command.Withdraw id target)) = not (id.job.0 == job)
is_aside_of job (input.Call session (command.Peek id offset n)) = true
is_aside_of job (input.Call session command.List) = true
is_aside_of job (input.Received id bytes grantor depth) = true
is_aside_of job (input.Withdrawn id grantor depth) = true
is_aside_of job _ = false

-- nothing of the own part changes, nothing is sent, and no work is asked for
pub record StaysAside (node : ℕ) (view : View) (x : Input) : Type 0 where
  pub part : own_view (view_step node view x).view ≡ own_view view
  pub posts : (view_step node view x).posts ≡ []
  pub works : (view_step node view x).works ≡ []

module _ (node : ℕ) (view : View) (kept_view : IsViewKept view) (settled : IsSettled view) where
  abbrev has_own : HasOwn view.shape
  has_own = λ id copy e. eq-eqb id.job.0 view.shape.job (kept_view.kept.shape.each id copy e).own

  aside_by : (x : Input) → is_aside_input view.shape.job (judge node view x) ≡ true → bytes_brought view x (judge node view x) (step view.order view.shape (judge node view x)).reply ≡ None → digest_brought node view x (step view.order view.shape (judge node view x)).reply ≡ None → StaysAside node view x
  aside_by x aside no_bytes no_digests =
      let a = step_aside view.order view.shape kept_view.kept.shape has_own (judge node view x) aside in
      record {
        part = left_view node view x settled (ap (λ s. s.copies) a.own) a.silent a.unused no_bytes no_digests ∙ (λ i. record (own_view view) { shape = a.own i });
        posts = left_posts node view x settled (ap (λ s. s.copies) a.own) a.silent a.unused no_bytes no_digests;
        works = left_works node view x settled kept_view (ap (λ s. s.works) a.own);
      }

  pub stays_aside : (x : Input) → is_aside_of view.shape.job x ≡ true → StaysAside node view x
  stays_aside (input.Call session (command.Grant id target)) aside = aside_by (input.Call session (command.Grant id target)) aside refl refl
  stays_aside (input.Call session (command.Withdraw id target)) aside = aside_by (input.Call session (command.Withdraw id target)) aside refl refl
  stays_aside (input.Call session (command.Peek id offset n)) aside = aside_by (input.Call session (command.Peek id offset n)) aside refl refl
  stays_aside (input.Call session command.List) aside = aside_by (input.Call session command.List) aside refl refl
  stays_aside (input.Received id bytes grantor depth) aside = aside_by (input.Received id bytes grantor depth) aside refl refl
  stays_aside (input.Withdrawn id grantor depth) aside = aside_by (input.Withdrawn id grantor depth) aside refl refl
  stays_aside (input.Call session c) aside = true_false aside
  stays_aside x aside = true_false aside

-- ---- grants of own objects

-- the own part with one grant more
abbrev with_given : GrantGiven → Shape → Shape
with_given grant part = record part { given = part.given ++ grant ∷ [] }

own_given : (store : Shape) (grant : GrantGiven) → (grant.id.job.0 == store.job) ≡ true → own_part (record store { given = store.given ++ grant ∷ [] }) ≡ with_given grant (own_part store)
own_given store grant own = λ i. record (own_part store) { given = (filter-append (λ h. h.id.job.0 == store.job) store.given (grant ∷ []) ∙ ap (λ b. own_grants store.job store.given ++ cond b (grant ∷ []) []) own) i }

-- a Grant of an own object is refused, or its grant is in the own part
data IsGranted (node : ℕ) (view : View) (x : Input) (grant : GrantGiven) : Type 0 where
  refuses : (r : Refusal) → (view_step node view x).reply ≡ reply.Refused r → own_view (view_step node view x).view ≡ own_view view → (view_step node view x).posts ≡ [] → (view_step node view x).works ≡ [] → IsGranted node view x grant
  gives_it : (view_step node view x).reply ≡ reply.Ok → own_view (view_step node view x).view ≡ record (own_view view) { shape = with_given grant (own_part view.shape) } → (view_step node view x).posts ≡ [] → (view_step node view x).works ≡ [] → IsGranted node view x grant

module _ (node : ℕ) (view : View) (kept_view : IsViewKept view) (settled : IsSettled view) (session : ℕ) (id : ObjectId) (target : JobNo) (own : (id.job.0 == view.shape.job) ≡ true) where
  abbrev granting : Input
  granting = input.Call session (command.Grant id target)

  abbrev new : GrantGiven
  new = record { id = id; target = target.0; parent = None }

  granted_by : IsGrant view.shape id target.0 (turn node view granting settled) → IsGranted node view granting new
  granted_by (left r s t m u) =
      refuses r (ap (whole_reply view granting) t)
      (left_view node view granting settled (ap (λ z. z.copies) s) m u refl refl ∙ (λ i. record (own_view view) { shape = own_part (s i) })) (left_posts node view granting settled (ap (λ z. z.copies) s) m u refl refl) (left_works node view granting settled kept_view (ap (λ z. z.works) s))
  granted_by (gave below n s t m u) =
      gives_it (ap (whole_reply view granting) t)
      (left_view node view granting settled (ap (λ z. z.copies) s) m u refl refl
      ∙ (λ i. record (own_view view) { shape = own_part (s i) })
      ∙ (λ i. record (own_view view) { shape = own_part (record view.shape { given = view.shape.given ++ record { id = id; target = target.0; parent = n own i } ∷ [] }) })
      ∙ (λ i. record (own_view view) { shape = own_given view.shape new own i }))
      (left_posts node view granting settled (ap (λ z. z.copies) s) m u refl refl) (left_works node view granting settled kept_view (ap (λ z. z.works) s))

  is_granted_here : IsGranted node view granting new
  is_granted_here = granted_by (grant_is view.order view.shape session id target.0)

-- ---- two views

-- with the same own part before they have it after, send the same, and ask for the same works
pub record SameAfter (node : ℕ) (a b : View) (x : Input) : Type 0 where
  pub part : own_view (view_step node a x).view ≡ own_view (view_step node b x).view
  pub posts : (view_step node a x).posts ≡ (view_step node b x).posts
  pub works : (view_step node a x).works ≡ (view_step node b x).works

-- a command that grants
abbrev pub is_granting : Input → Bool
is_granting (input.Call session (command.Grant id target)) = true
is_granting _ = false

module _ (node : ℕ) (a b : View) (ka : IsViewKept a) (kb : IsViewKept b) (sa : IsSettled a) (sb : IsSettled b) (same : own_view a ≡ own_view b) where
  abbrev one_job : a.shape.job ≡ b.shape.job
  one_job = ap (λ v. v.shape.job) same

  plain_too : (x : Input) → is_plain a.shape.job (judge node a x) ≡ true → is_plain b.shape.job (judge node b x) ≡ true
  plain_too x plain =
      let judged_same : judge node a x ≡ judge node b x = sym (judge_own node a x) ∙ ap (λ v. judge node v x) same ∙ judge_own node b x in
      (λ i. is_plain (sym one_job i) (sym judged_same i)) ∙ plain

  plain_same : (x : Input) → is_plain a.shape.job (judge node a x) ≡ true → SameAfter node a b x
  plain_same x plain =
      let ha = has_own node a ka sa in
      let hb = has_own node b kb sb in
      record {
        part = sym (plain_view node a x ha plain) ∙ ap (λ v. (view_step node v x).view) same ∙ plain_view node b x hb (plain_too x plain);
        posts = sym (plain_posts node a x ha plain) ∙ ap (λ v. (view_step node v x).posts) same ∙ plain_posts node b x hb (plain_too x plain);
        works = sym (plain_works node a x ha plain) ∙ ap (λ v. (view_step node v x).works) same ∙ plain_works node b x hb (plain_too x plain);
      }

  -- and such an input is answered the same
  pub plain_told : (x : Input) → is_plain a.shape.job (judge node a x) ≡ true → (view_step node a x).reply ≡ (view_step node b x).reply
  plain_told x plain = sym (plain_reply node a x (has_own node a ka sa) plain) ∙ ap (λ v. (view_step node v x).reply) same ∙ plain_reply node b x (has_own node b kb sb) (plain_too x plain)

  aside_same : (x : Input) → is_aside_of a.shape.job x ≡ true → SameAfter node a b x
  aside_same x aside =
      let p = stays_aside node a ka sa x aside in
      let q = stays_aside node b kb sb x (ap (λ j. is_aside_of j x) (sym one_job) ∙ aside) in
      record { part = p.part ∙ same ∙ sym q.part; posts = p.posts ∙ sym q.posts; works = p.works ∙ sym q.works }

  granted_same : (session : ℕ) (id : ObjectId) (target : JobNo) → (id.job.0 == a.shape.job) ≡ true
      → (view_step node a (input.Call session (command.Grant id target))).reply ≡ (view_step node b (input.Call session (command.Grant id target))).reply → SameAfter node a b (input.Call session (command.Grant id target))
  granted_same session id target own replies =
      by (is_granted_here node a ka sa session id target own) (is_granted_here node b kb sb session id target (ap (λ j. id.job.0 == j) (sym one_job) ∙ own))
    where
      x : Input
      x = input.Call session (command.Grant id target)

      grant : GrantGiven
      grant = record { id = id; target = target.0; parent = None }

      differ : (r : Refusal) → ◌≡◌ {A = Reply (List ℕ)} (reply.Refused r) reply.Ok → ⊥
      differ r e = cc

      by : IsGranted node a x grant → IsGranted node b x grant → SameAfter node a b x
      by (refuses r t v m e) (refuses q u w n f) = record { part = v ∙ same ∙ sym w; posts = m ∙ sym n; works = e ∙ sym f }
      by (gives_it t v m e) (gives_it u w n f) = record { part = v ∙ (λ i. record (same i) { shape = with_given grant (same i).shape }) ∙ sym w; posts = m ∙ sym n; works = e ∙ sym f }
      by (refuses r t v m e) (gives_it u w n f) = absurd (differ r (sym t ∙ replies ∙ u))
      by (gives_it t v m e) (refuses q u w n f) = absurd (differ q (sym u ∙ sym replies ∙ t))

  by_owner : (session : ℕ) (id : ObjectId) (target : JobNo) → (view_step node a (input.Call session (command.Grant id target))).reply ≡ (view_step node b (input.Call session (command.Grant id target))).reply → SameAfter node a b (input.Call session (command.Grant id target))
  by_owner session id target replies =
      elim (id.job.0 == a.shape.job) as (λ t. (id.job.0 == a.shape.job) ≡ t → SameAfter node a b (input.Call session (command.Grant id target))) [
        | true ↦ λ own. granted_same session id target own replies
        | false ↦ λ foreign. aside_same (input.Call session (command.Grant id target)) (ap not foreign)
      ] refl

  by_keeper : (session : ℕ) (id : ObjectId) (target : JobNo) → SameAfter node a b (input.Call session (command.Withdraw id target))
  by_keeper session id target =
      elim (id.job.0 == a.shape.job) as (λ t. (id.job.0 == a.shape.job) ≡ t → SameAfter node a b (input.Call session (command.Withdraw id target))) [
        | true ↦ λ own. plain_same (input.Call session (command.Withdraw id target)) own
        | false ↦ λ foreign. aside_same (input.Call session (command.Withdraw id target)) (ap not foreign)
      ] refl

  pub same_after : (x : Input) → (is_granting x ≡ true → (view_step node a x).reply ≡ (view_step node b x).reply) → SameAfter node a b x
  same_after (input.Call session (command.Grant id target)) replies = by_owner session id target (replies refl)
  same_after (input.Call session (command.Withdraw id target)) replies = by_keeper session id target
  same_after (input.Call session (command.Peek id offset n)) replies = aside_same (input.Call session (command.Peek id offset n)) refl
  same_after (input.Call session command.List) replies = aside_same (input.Call session command.List) refl
  same_after (input.Call session c) replies = plain_same (input.Call session c) refl
  same_after (input.Received id bytes grantor depth) replies = aside_same (input.Received id bytes grantor depth) refl
  same_after (input.Withdrawn id grantor depth) replies = aside_same (input.Withdrawn id grantor depth) refl
  same_after (input.Arrive (arrival.Located id number entries)) replies = plain_same (input.Arrive (arrival.Located id number entries)) refl
  same_after (input.Arrive (arrival.FromPeer from (peer.Pull id number n digest indexes))) replies = plain_same (input.Arrive (arrival.FromPeer from (peer.Pull id number n digest indexes))) refl
  same_after (input.Arrive (arrival.FromPeer from (peer.Chunk id number index bytes))) replies = plain_same (input.Arrive (arrival.FromPeer from (peer.Chunk id number index bytes))) refl
  same_after (input.Arrive (arrival.FromPeer from (peer.NotHere id number))) replies = plain_same (input.Arrive (arrival.FromPeer from (peer.NotHere id number))) refl
  same_after x replies = plain_same x refl
