-- What ends at a moment of a trace, and which objects a job sees then.
use Rattle.std.proofs.Common.{◌≡◌, ◌≢◌, ℕ, ◌+◌, Bool, true, false, not, cond, ◌==◌, ◌&&◌, ◌||◌, inl, inr, List, [], ◌∷◌, ◌++◌, map, filter, reverse, Option, Some, None, refl, sym, ap, subst, ◌∙◌, eq-eqb}
use Rattle.std.specs.Prelude.{if◌then◌else◌, nat_lt}
use Rattle.std.specs.Option.{option_map_or}
use Rattle.std.specs.List.{list_any}
use Rattle.std.proofs.lemmas.Bool.{eqb-true}
use Rattle.obj_id.specs.declared.ids.ObjectId.{ObjectId}
use Rattle.obj_id.specs.declared.commands.Command.TheVariants as command
use Rattle.obj_id.specs.declared.commands.Reply.TheVariants as reply
use Rattle.obj_id.specs.declared.refusals.Refusal.{Refusal}
use Rattle.obj_id.specs.declared.refusals.Refusal.TheVariants.{NotGranted, NotAdmitted, BadSize, OutOfBounds}
use Rattle.obj_id.specs.Ids.{same_id}
use Rattle.private_store.specs.declared.inputs.Input.TheVariants as input
use Rattle.private_store.specs.declared.inputs.Judged.TheVariants as judged
use Rattle.private_store.specs.declared.schedules.Event.{Event}
use Rattle.private_store.specs.declared.schedules.Event.TheVariants as event
use Rattle.private_store.specs.declared.schedules.Traced.{Traced}
use Rattle.private_store.specs.rules.Cluster.{ClusterInput}
use Rattle.private_store.specs.rules.Limits.{most_bytes}
use Rattle.private_store.specs.rules.Tables.{at}
use Rattle.private_store.specs.rules.Shape.{Shape, Seen}
use Rattle.private_store.specs.rules.Change.{replied, checked, erasing}
use Rattle.private_store.specs.rules.Commands.{peek}
use Rattle.private_store.specs.rules.Events.{grants_of, is_live}
use Rattle.private_store.specs.rules.Step.{step}
use Rattle.private_store.specs.rules.Contents.{View, whole_reply}
use Rattle.private_store.specs.rules.Private.{Store, view_of}
use Rattle.private_store.specs.rules.Grants.{StandingGrant, same_grant, grants_left, grants_ended}
use Rattle.private_store.specs.rules.Trace.{ends, grants_at, grants_by, notes_by, withdrawn_note}
use Rattle.store_facts.proofs.Tests.{true_false, none_some, both_left, both_right, or_false_left, or_false_right, not_true, refuted}
use Rattle.grants.specs.Table.{AreGrants, shows, is_no_grantee, grant_may_stand, all_stand, is_hung}
use Rattle.store_facts.proofs.Checks.{checked-nil, checked-true, checked-false, needing-none, needing-some}
use Rattle.store_facts.proofs.Ids.{same_id-equal}
use Rattle.obj_id.specs.declared.commands.Reply.{Reply}
use Rattle.private_store.specs.declared.inputs.Input.{Input}
use Rattle.grants.proofs.ForCallers.{seen_where_led}
use Rattle.run_laws.specs.Ending.{stands, EndsThere}
use Rattle.run_laws.specs.Standing.{ArePrivate, is_hidden, SeesWhatIsLed}
use Rattle.grants.specs.Private.{as_taken}
use Rattle.run_laws.proofs.Halves.{HasHalves}
use Rattle.run_laws.proofs.WhatEnds.{ends_along, one_of}
use Rattle.run_laws.proofs.Histories.{stand_of}

-- ---- what ends

left_by : (grants : List StandingGrant) (e : Event) (test : StandingGrant → Bool) → ends e ≡ Some test → grants_by grants e ≡ grants_left test grants
left_by grants (event.Call job session (command.Grant id target)) test is = none_some test is
left_by grants (event.Call job session c) test is = ap (λ o. option_map_or (λ test. grants_left test grants) o grants) is
left_by grants e test is = ap (λ o. option_map_or (λ test. grants_left test grants) o grants) is

response_by : (nodes node : ℕ) (inputs : ℕ → List ClusterInput) (grants : List StandingGrant) (e : Event) (test : StandingGrant → Bool) → ends e ≡ Some test → notes_by nodes node inputs grants e ≡ map (withdrawn_note node) (grants_ended test grants)
response_by nodes node inputs grants (event.Call job session (command.Grant id target)) test is = none_some test is
response_by nodes node inputs grants (event.Call job session c) test is = ap (λ o. option_map_or (λ test. map (withdrawn_note node) (grants_ended test grants)) o []) is
response_by nodes node inputs grants e test is = ap (λ o. option_map_or (λ test. map (withdrawn_note node) (grants_ended test grants)) o []) is

pub ends_there : (nodes node : ℕ) (trace : List Traced) (e : Event) (test : StandingGrant → Bool) → ArePrivate nodes trace → ends e ≡ Some test → EndsThere nodes node (reverse trace) e test
ends_there nodes node trace e test h is =
    let grants = grants_at node (reverse trace) in
    let a = ends_along grants ((stand_of nodes trace h).table node) test in
    record {
      left = ap (λ b. if b then grants_by grants e else grants) (eq-eqb node node refl) ∙ left_by grants e test is ∙ a.left;
      response = λ inputs. response_by nodes node inputs grants e test is ∙ ap (map (withdrawn_note node)) a.response;
      elsewhere = λ other apart. ap (λ b. if b then grants_by (grants_at other (reverse trace)) e else grants_at other (reverse trace)) apart;
      along = a;
    }

-- ---- who sees what

-- nobody gives an object to its own job
pub not_home : (before hs : List StandingGrant) → all_stand before hs ≡ true → (h : StandingGrant) → stands h hs → (h.grantee == h.id.job.0) ≡ false
not_home before [] s h a = absurd a
not_home before (x ∷ hs) s h a =
    let grantee = not (is_no_grantee x.id x.grantor x.grantee) in
    let new = not (list_any (same_grant x) before) in
    let k : grantee ≡ true = both_left grantee new (both_left (grantee && new) (is_hung before x) (both_left (grant_may_stand before x) (all_stand (before ++ x ∷ []) hs) s)) in
    elim a [
      | inl is ↦ subst (λ y. (y.grantee == y.id.job.0) ≡ false) is (or_false_right (x.grantee == 0 || x.grantee == x.grantor) (x.grantee == x.id.job.0) (not_true (is_no_grantee x.id x.grantor x.grantee) k))
      | inr r ↦ not_home (before ++ x ∷ []) hs (both_right (grant_may_stand before x) (all_stand (before ++ x ∷ []) hs) s) h r
    ]

module _ (order : List ObjectId) (store : Shape) (live : is_live store ≡ true) (session : ℕ) (id : ObjectId) (offset n : ℕ) where
  peeked : (step order store (judged.Call session (command.Peek id offset n))).reply ≡ (peek store id offset n).reply
  peeked = ap (λ c. c.reply) (checked-false store (not (is_live store)) NotAdmitted [] (erasing store (peek store id offset n)) (ap not live) ∙ checked-nil store (erasing store (peek store id offset n)))

  -- of an object that is known the checks of numbers alone can refuse
  shown : (length : ℕ) (a b : Bool) → (checked store ((a, BadSize) ∷ (b, OutOfBounds) ∷ []) (replied store (reply.Bytes n))).reply ≡ reply.Refused NotGranted → ⊥
  unfolding checked
  shown length true b e = cc
  shown length false true e = cc
  shown length false false e = cc

  -- of any other a Peek is refused
  hides : at store.received id ≡ None → (peek store id offset n).reply ≡ reply.Refused NotGranted
  hides none = by_own (id.job.0 == store.job) refl
    where
      by_own : (t : Bool) → (id.job.0 == store.job) ≡ t → (peek store id offset n).reply ≡ reply.Refused NotGranted
      by_own true e = ap (λ c. c.reply) (checked-true store (id.job.0 == store.job) NotGranted [] _ e)
      by_own false e = ap (λ c. c.reply) (checked-false store (id.job.0 == store.job) NotGranted [] _ e ∙ checked-nil store _ ∙ needing-none store (at store.received id) NotGranted _ none)

  tells : (seen : Seen) → at store.received id ≡ Some seen → (id.job.0 == store.job) ≡ false → (peek store id offset n).reply ≡ reply.Refused NotGranted → ⊥
  tells seen is other e =
      shown seen.length (nat_lt most_bytes n) (nat_lt seen.length (offset + n))
      (sym (ap (λ c. c.reply) (checked-false store (id.job.0 == store.job) NotGranted [] _ other ∙ checked-nil store _ ∙ needing-some store (at store.received id) seen NotGranted _ is)) ∙ e)

pub none_taken : (p : StandingGrant → Bool) (grants : List StandingGrant) → list_any p grants ≡ false → map as_taken (filter p grants) ≡ []
none_taken p [] e = refl
none_taken p (h ∷ grants) e =
    ap (λ t. map as_taken (cond t (h ∷ filter p grants) (filter p grants))) (or_false_left (p h) (list_any p grants) e) ∙ none_taken p grants (or_false_right (p h) (list_any p grants) e)

pub some_taken : (p : StandingGrant → Bool) (grants : List StandingGrant) → list_any p grants ≡ true → map as_taken (filter p grants) ≢ []
some_taken p [] e = true_false e
some_taken p (h ∷ grants) e =
    elim (p h) as (λ t. t || list_any p grants ≡ true → map as_taken (cond t (h ∷ filter p grants) (filter p grants)) ≢ []) [
      | true ↦ λ f z. cc
      | false ↦ λ f. some_taken p grants f
    ] e

whole_refused : (view : View) (x : Input) (t : Reply ℕ) (r : Refusal) → whole_reply view x t ≡ reply.Refused r → t ≡ reply.Refused r
whole_refused view x reply.Ok r e = cc
whole_refused view x (reply.Placed offset n) r e = cc
whole_refused view x (reply.Got n) r e = cc
whole_refused view x (reply.Bytes n) r e = cc
whole_refused view x (reply.List own granted) r e = cc
whole_refused view x (reply.Usage usage) r e = cc
whole_refused view x (reply.Work work) r e = cc
whole_refused view x reply.NoWork r e = cc
whole_refused view x (reply.Refused refusal) r e = (let same : refusal ≡ r = cc in ap (λ q. reply.Refused q) same)

module _ (job : ℕ) (grants : List StandingGrant) (table : AreGrants grants) (store : Store) (fits : HasHalves job grants store.shape) (live : is_live store.shape ≡ true) where
  hidden_where : (node session : ℕ) (id : ObjectId) (offset n : ℕ) → is_hidden node store session id offset n → list_any (shows id job) grants ≡ false
  hidden_where node session id offset n e =
      elim (list_any (shows id job) grants) as (λ t. list_any (shows id job) grants ≡ t → t ≡ false) [
        | true ↦ λ t.
            let h = one_of (shows id job) grants t in
            let ids : id ≡ h.0.id = same_id-equal id h.0.id (both_left (same_id id h.0.id) (h.0.grantee == job) h.2) in
            let away : (id.job.0 == store.shape.job) ≡ false =
            refuted (id.job.0 == store.shape.job) (λ u.
            sym (not_home [] grants table.stand h.0 h.1) ∙ eq-eqb h.0.grantee h.0.id.job.0
            (eqb-true h.0.grantee job (both_right (same_id id h.0.id) (h.0.grantee == job) h.2) ∙ sym fits.job ∙ sym (eqb-true id.job.0 store.shape.job u) ∙ ap (λ i. i.job.0) ids)) in
            let asked = whole_refused (view_of store) (input.Call session (command.Peek id offset n)) _ NotGranted e in
            absurd (by_row (at store.shape.received id) refl t away (sym (peeked (view_of store).order store.shape live session id offset n) ∙ asked))
        | false ↦ λ t. refl
      ] refl
    where
      by_row : (o : Option Seen) → at store.shape.received id ≡ o → list_any (shows id job) grants ≡ true → (id.job.0 == store.shape.job) ≡ false → (peek store.shape id offset n).reply ≡ reply.Refused NotGranted → ⊥
      by_row None is t away asked = some_taken (shows id job) grants t (sym (fits.taken id) ∙ ap (λ o. option_map_or (λ seen. seen.grants) o []) is)
      by_row (Some seen) is t away asked = tells (view_of store).order store.shape live session id offset n seen is away asked

  hidden_there : (node session : ℕ) (id : ObjectId) (offset n : ℕ) → list_any (shows id job) grants ≡ false → is_hidden node store session id offset n
  hidden_there node session id offset n e =
      let none : grants_of store.shape id ≡ [] = fits.taken id ∙ none_taken (shows id job) grants e in
      ap (whole_reply (view_of store) (input.Call session (command.Peek id offset n)))
      (peeked (view_of store).order store.shape live session id offset n ∙ hides (view_of store).order store.shape live session id offset n (by_row (at store.shape.received id) refl none))
    where
      by_row : (o : Option Seen) → at store.shape.received id ≡ o → grants_of store.shape id ≡ [] → o ≡ None
      by_row None is none = refl
      by_row (Some seen) is none = absurd (fits.known id seen is (sym (ap (λ o. option_map_or (λ seen. seen.grants) o []) is) ∙ none))

pub sees_what_is_led : (nodes node : ℕ) (trace : List Traced) → ArePrivate nodes trace → SeesWhatIsLed nodes node trace
sees_what_is_led nodes node trace h =
    let stand = stand_of nodes trace h in
    record {
      led = seen_where_led (grants_at node (reverse trace)) (stand.table node);
      peeks = λ job store is live session id offset n. (
        hidden_where job (grants_at node (reverse trace)) (stand.table node) store (stand.fit node job store is) live node session id offset n,
        hidden_there job (grants_at node (reverse trace)) (stand.table node) store (stand.fit node job store is) live node session id offset n,
      );
    }
