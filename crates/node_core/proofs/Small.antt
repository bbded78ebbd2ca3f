-- The reply to a command has a frame, and who is notified of grants.
use Rattle.std.proofs.Common.{◌≡◌, ℕ, ◌==◌, ◌≤◌, Bool, true, false, cond, ◌||◌, ◌&&◌, not, List, [], ◌∷◌, length, map, Option, Some, None, is_some, refl, sym, ap, subst, ◌∙◌, arith}
use Rattle.std.specs.List.{list_all}
use Rattle.std.specs.Option.{option_map_or}
use Rattle.std.specs.Map.{lookup, keys_of}
use Rattle.std.proofs.lemmas.Bool.Decides.{nat_tests}
use Rattle.std.proofs.lemmas.List.{length-map}
use Rattle.obj_id.specs.declared.ids.JobNo.{JobNo}
use Rattle.obj_id.specs.declared.commands.Command.{Command}
use Rattle.obj_id.specs.declared.commands.Command.TheVariants as command
use Rattle.obj_id.specs.declared.commands.Reply.{Reply}
use Rattle.obj_id.specs.declared.commands.Reply.TheVariants as reply
use Rattle.obj_id.specs.declared.refusals.Refusal.TheVariants.{NotAdmitted}
use Rattle.private_store.specs.declared.inputs.Input.{Input}
use Rattle.private_store.specs.declared.inputs.Input.TheVariants as input
use Rattle.private_store.specs.declared.schedules.Event.{Event}
use Rattle.private_store.specs.declared.schedules.Event.TheVariants as event
use Rattle.private_store.specs.declared.schedules.NodeEvent.TheVariants.{Own}
use Rattle.private_store.specs.laws.Answers.{is_small_reply, AreGrantedWithin}
use Rattle.private_store.specs.rules.Contents.{View}
use Rattle.private_store.specs.rules.Grants.{StandingGrant, grants_ended}
use Rattle.private_store.specs.rules.Trace.{ends}
use Rattle.private_store.specs.rules.Jobs.{same_job}
use Rattle.private_store.specs.laws.Invariants.{IsViewKept}
use Rattle.private_store.specs.rules.Limits.{most_live_jobs}
use Rattle.private_store.specs.rules.Private.{view_step}
use Rattle.store_facts.proofs.AnswersAre.{answers_small}
use Rattle.store_facts.proofs.Tests.{both_left, both_right, none_some, true_false}
use Rattle.grants.specs.Private.{as_given}
use Rattle.grants.specs.Table.{AreGrants, given_by}
use Rattle.grants.proofs.ForCallers.{is_among, few_by, few_end, few_granted}
use Rattle.job_row.specs.Row.{Row}
use Rattle.node_core.specs.Foreseen.{grantees_in, grantees_of, AreTakers}
use Rattle.node_core.specs.GrantMoves.{moves_grants}
use Rattle.node_core.specs.Hosted.{Hosted, IsViewBy, ShowsAll, row_at, beside_at, bytes_here}
use Rattle.node_core.specs.Judged.{GivesFew, SeesFew, IsSmall}
use Rattle.node_core.specs.declared.outcome.Note.{Note}
use Rattle.node_core.specs.Outcomes.{inputs_noted, end_noted, received_noted}
use Rattle.node_core.specs.Steps.{JobJudged, NodeGiven, NodeStep}
use Rattle.node_core.proofs.Views.{view_is, response_refused, call_refuses}

-- ---- grantors are live

abbrev numbers : List (JobNo × Row) → List ℕ
numbers rows = map (λ (e : JobNo × Row). e.0.0) rows

has_number : (rows : List (JobNo × Row)) (n : ℕ) (row : Row) → lookup (same_job (record { 0 = n })) rows ≡ Some row → is_among (numbers rows) n ≡ true
has_number [] n row found = none_some row found
has_number (e ∷ rows) n row found = by (n == e.0.0) (e.0.0 == n) (grind (arith, nat_tests)) found (has_number rows n row)
  where
    by : (a b : Bool) → a ≡ b → cond a (Some e.1) (lookup (same_job (record { 0 = n })) rows) ≡ Some row → (lookup (same_job (record { 0 = n })) rows ≡ Some row → is_among (numbers rows) n ≡ true) → b || is_among (numbers rows) n ≡ true
    by true true is found rest = refl
    by false false is found rest = rest found
    by false true is found rest = refl
    by true false is found rest = absurd cc

-- no grant is of a grantor that gave none
none_given : (grants : List StandingGrant) (g : ℕ) → map as_given (given_by g grants) ≡ [] → list_all (λ (h : StandingGrant). not (h.grantor == g)) grants ≡ true
none_given [] g none = refl
none_given (h ∷ hs) g none = by (h.grantor == g) none (none_given hs g)
  where
    by : (b : Bool) → map as_given (cond b (h ∷ given_by g hs) (given_by g hs)) ≡ [] → (map as_given (given_by g hs) ≡ [] → list_all (λ (x : StandingGrant). not (x.grantor == g)) hs ≡ true) → not b && list_all (λ (x : StandingGrant). not (x.grantor == g)) hs ≡ true
    by true none rest = absurd cc
    by false none rest = rest none

module _ (numbers_live : List ℕ) where
  all_live : (hs : List StandingGrant) → ((g : ℕ) → is_among numbers_live g ≡ false → list_all (λ (h : StandingGrant). not (h.grantor == g)) hs ≡ true) → list_all (λ (h : StandingGrant). is_among numbers_live h.grantor) hs ≡ true
  all_live [] f = refl
  all_live (h ∷ hs) f = by (is_among numbers_live h.grantor) refl (all_live hs (λ g none. both_right (not (h.grantor == g)) (list_all (λ (x : StandingGrant). not (x.grantor == g)) hs) (f g none)))
    where
      by : (b : Bool) → is_among numbers_live h.grantor ≡ b → list_all (λ (x : StandingGrant). is_among numbers_live x.grantor) hs ≡ true → b && list_all (λ (x : StandingGrant). is_among numbers_live x.grantor) hs ≡ true
      by true e rest = rest
      by false e rest = let itself = both_left (not (h.grantor == h.grantor)) (list_all (λ (x : StandingGrant). not (x.grantor == h.grantor)) hs) (f h.grantor e) in absurd (grind (arith, nat_tests, itself))

module _ (node : Hosted) (v : ℕ → View) (shows : ShowsAll node v) where
  none_of : (g : ℕ) → is_among (numbers node.rows) g ≡ false → list_all (λ (h : StandingGrant). not (h.grantor == g)) node.grants ≡ true
  none_of g none = by (row_at node (record { 0 = g })) refl (shows g).by_row
    where
      by : (o : Option Row) → row_at node (record { 0 = g }) ≡ o → IsViewBy node.admissions.greatest (beside_at node g) g (v g) o → list_all (λ (h : StandingGrant). not (h.grantor == g)) node.grants ≡ true
      by (Some row) is r = true_false (sym none ∙ has_number node.rows g row is)
      by None is b = none_given node.grants g b.given

  few_shown : AreGrants node.grants → length (numbers node.rows) ≤ most_live_jobs → (job : ℕ) → is_some (row_at node (record { 0 = job })) ≡ true → AreGrantedWithin (v job).shape.received
  few_shown table few job live = by (row_at node (record { 0 = job })) refl (shows job).by_row live
    where
      by : (o : Option Row) → row_at node (record { 0 = job }) ≡ o → IsViewBy node.admissions.greatest (beside_at node job) job (v job) o → is_some o ≡ true → AreGrantedWithin (v job).shape.received
      by (Some row) is r live =
          subst AreGrantedWithin (sym (ap (λ s. s.received) r.shape))
          (few_granted (λ id. length (bytes_here node.rows id)) node.grants (numbers node.rows) job table (all_live (numbers node.rows) node.grants none_of) few (has_number node.rows job row is))
      by None is b live = true_false live

pub received_bound : (node : Hosted) → AreGrants node.grants → keys_of node.rows ≡ keys_of node.admissions.live → length node.admissions.live ≤ most_live_jobs → SeesFew node
received_bound node table jobs few v shows = few_shown node v shows table (less (length-map node.rows (λ (e : JobNo × Row). e.0.0)) (sym (length-map node.rows (λ (e : JobNo × Row). e.0)) ∙ ap length jobs ∙ length-map node.admissions.live (λ e. e.0)))
  where
    less : length (numbers node.rows) ≡ length node.rows → length node.rows ≡ length node.admissions.live → length (numbers node.rows) ≤ most_live_jobs
    less a b = omega (arith, a, b, few)

pub few_stand : (node : Hosted) → AreGrants node.grants → keys_of node.rows ≡ keys_of node.admissions.live → length node.admissions.live ≤ most_live_jobs → GivesFew node
few_stand node table jobs few v shows =
    let all = few_by (numbers node.rows) node.grants (all_live (numbers node.rows) node.grants (none_of node v shows)) table.few in
    let rows = length-map node.rows (λ (e : JobNo × Row). e.0.0) in
    let keys : length node.rows ≡ length node.admissions.live = sym (length-map node.rows (λ (e : JobNo × Row). e.0)) ∙ ap length jobs ∙ length-map node.admissions.live (λ e. e.0) in
    omega (arith, few, all, rows, keys)

-- of the grants that end each has one grantee
abbrev grantee_of : StandingGrant → JobNo
grantee_of grant = record { 0 = grant.grantee }

-- so at most as many are told of grants as stand, or one
pub few_told : (grants : List StandingGrant) (e : Event) → length grants ≤ 4096 → length (grantees_of grants e) ≤ 4096
few_told grants (event.Call job session (command.Grant id target)) few = omega arith
few_told grants e few = by (ends e)
  where
    by : (o : Option (StandingGrant → Bool)) → length (option_map_or (λ test. grantees_in (grants_ended test grants)) o []) ≤ 4096
    by None = omega arith
    by (Some test) =
        let less = few_end test grants in
        let same = length-map (grants_ended test grants) grantee_of in
        omega (arith, few, less, same)

-- ---- replies

module _ (node : Hosted) (few : SeesFew node) (v : ℕ → View) (shows : ShowsAll node v) (job : JobNo) (session : ℕ) (c : Command (List ℕ)) where
  abbrev x : Input
  x = input.Call session c

  small_call : is_small_reply (view_step node.number (v job.0) x).reply ≡ true
  small_call = by (row_at node job) refl (shows job.0).by_row
    where
      by : (o : Option Row) → row_at node job ≡ o → IsViewBy node.admissions.greatest (beside_at node job.0) job.0 (v job.0) o → is_small_reply (view_step node.number (v job.0) x).reply ≡ true
      by (Some row) is r =
          answers_small node.number (v job.0) x (subst IsViewKept (sym (view_is row (beside_at node job.0) job.0 (v job.0) r)) r.shown.kept) (few v shows job.0 (ap is_some is))
      by None is b =
          ap is_small_reply (sym (response_refused node.number node.admissions node.works node.grants job x refl node.rows is NotAdmitted
          (call_refuses node.number node.admissions node.works node.grants job session c) (v job.0) (shows job.0)).reply)

pub small : (old new : Hosted) (e : Event) (given : NodeGiven) → SeesFew old → NodeStep old (Own e) given new → IsSmall old e given.reply
small old new (event.Call job session c) given few steps v shows = ap is_small_reply (steps.each v shows).response.reply ∙ small_call old few v shows job session c
small old new (event.Admit job quota key) given few steps v shows = refl
small old new (event.Requota job quota) given few steps v shows = refl
small old new (event.JobEnd job) given few steps v shows = refl
small old new event.Take given few steps v shows = refl
small old new (event.Finish job number a) given few steps v shows = refl

-- ---- grantees

-- of what moves no grant nobody is notified
pub none_told : (grants : List StandingGrant) (e : Event) (response : Reply (List ℕ)) → moves_grants e ≡ false → AreTakers grants e response []
none_told grants (event.Call job session (command.EndTask task)) reply.Ok last = absurd cc
none_told grants (event.Call job session (command.Grant id target)) reply.Ok last = absurd cc
none_told grants (event.Call job session (command.Withdraw id target)) reply.Ok last = absurd cc
none_told grants (event.Call job session _) reply.Ok last = refl
none_told grants (event.Admit job quota key) reply.Ok last = refl
none_told grants (event.Requota job quota) reply.Ok last = refl
none_told grants (event.JobEnd job) reply.Ok last = absurd cc
none_told grants event.Take reply.Ok last = refl
none_told grants (event.Finish job number a) reply.Ok last = refl
none_told grants e _ last = refl

jobs_noted : (ns : List Note) → map (λ (note : Note). note.job) ns ≡ map (λ (x : JobJudged). record { 0 = x.job }) (inputs_noted ns)
jobs_noted [] = refl
jobs_noted (n ∷ ns) = ap (λ js. n.job ∷ js) (jobs_noted ns)

-- of the note of a new grant
pub grantee_noted : (notes : List Note) (grant : StandingGrant) (n : ℕ) → inputs_noted notes ≡ received_noted grant n ∷ [] → map (λ note. note.job) notes ≡ record { 0 = grant.grantee } ∷ []
grantee_noted notes grant n is = jobs_noted notes ∙ ap (map (λ (x : JobJudged). record { 0 = x.job })) is

-- of notes of ends
pub grantees_noted : (notes : List Note) (ended : List StandingGrant) → inputs_noted notes ≡ map end_noted ended → map (λ note. note.job) notes ≡ grantees_in ended
grantees_noted notes ended is = jobs_noted notes ∙ ap (map (λ (x : JobJudged). record { 0 = x.job })) is ∙ jobs_ended ended
  where
    jobs_ended : (hs : List StandingGrant) → map (λ (x : JobJudged). record { 0 = x.job }) (map end_noted hs) ≡ grantees_in hs
    jobs_ended [] = refl
    jobs_ended (h ∷ hs) = ap (λ js. record { 0 = h.grantee } ∷ js) (jobs_ended hs)
