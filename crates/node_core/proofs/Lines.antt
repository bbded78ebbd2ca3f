-- Works that a job asks for come last in the line: what the line is then, as the job's own step has it.
use Rattle.std.proofs.Common.{◌≡◌, ℕ, ◌+◌, ◌≤◌, true, false, cond, ◌&&◌, List, [], ◌∷◌, ◌++◌, filter, refl, sym, ap, ◌∙◌, arith}
use Rattle.std.specs.Prelude.{nat_lt, nat_le}
use Rattle.std.specs.List.{list_all}
use Rattle.std.proofs.lemmas.Bool.Decides.{nat_tests}
use Rattle.std.proofs.lemmas.List.{append-nil}
use Rattle.std.proofs.lemmas.List.Elements.{filter-append}
use Rattle.obj_id.specs.declared.ids.JobNo.{JobNo}
use Rattle.obj_id.specs.declared.ids.ObjectId.{ObjectId}
use Rattle.obj_id.specs.declared.works.WorkKind.{WorkKind}
use Rattle.obj_id.specs.declared.works.WorkKind.TheVariants.{Write, Read}
use Rattle.private_store.specs.rules.Shape.{WorkInFlight}
use Rattle.store_facts.proofs.Tests.{both_left, both_right}
use Rattle.spill_work.specs.Line.{WorkLine, works_of, used_by, numbered, numbered_works}
use Rattle.obj_id.specs.Works.{is_write}
use Rattle.room_commands.specs.Asked.{HasAsked}
use Rattle.node_core.specs.Steps.{queued}

-- a job that asked for nothing
pub asked_nothing : (line : WorkLine) (job : JobNo) → HasAsked line job line
asked_nothing line job = record {
  kind = Write;
  ids = [];
  works = sym (append-nil line.works);
  own_works = sym (append-nil (works_of line job));
}

-- the works whose numbers are above those used
abbrev pub above : ℕ → List WorkInFlight → List WorkInFlight
above used works = filter (λ work. nat_lt used work.number) works

pub above-used : (used : ℕ) (works : List WorkInFlight) → list_all (λ work. nat_lt 0 work.number && nat_le work.number used) works ≡ true → above used works ≡ []
above-used used [] h = refl
above-used used (w ∷ ws) h =
    let low : nat_le w.number used ≡ true = both_right (nat_lt 0 w.number) _ (both_left (nat_lt 0 w.number && nat_le w.number used) _ h) in
    let not_new : nat_lt used w.number ≡ false = grind (arith, nat_tests, low) in
    ap (λ b. cond b (w ∷ above used ws) (above used ws)) not_new ∙ above-used used ws (both_right (nat_lt 0 w.number && nat_le w.number used) _ h)

-- new numbers are above those used
above-numbered : (kind : WorkKind) (used last : ℕ) (ids : List ObjectId) → used ≤ last → above used (numbered_works kind last ids) ≡ numbered_works kind last ids
above-numbered kind used last [] h = refl
above-numbered kind used last (id ∷ ids) h =
    let new : nat_lt used (last + 1) ≡ true = grind (arith, nat_tests, h) in
    ap (λ b. cond b (record { number = last + 1; id = id; writes = is_write kind } ∷ above used (numbered_works kind (last + 1) ids)) (above used (numbered_works kind (last + 1) ids))) new
    ∙ ap (λ ws. record { number = last + 1; id = id; writes = is_write kind } ∷ ws) (above-numbered kind used (last + 1) ids (omega (arith, h)))

kind_again : (kind : WorkKind) → cond (is_write kind) Write Read ≡ kind
kind_again Write = refl
kind_again Read = refl

queued-numbered : (job : JobNo) (kind : WorkKind) (last : ℕ) (ids : List ObjectId) → queued job.0 (numbered_works kind last ids) ≡ numbered job kind last ids
queued-numbered job kind last [] = refl
queued-numbered job kind last (id ∷ ids) = λ i. record { asked = record { job = job; number = last + 1; id = id; kind = kind_again kind i }; taken = false } ∷ queued-numbered job kind (last + 1) ids i

-- what a job asked for now is what came last
pub asked_now_is : (old : WorkLine) (job : JobNo) (new : WorkLine) (h : HasAsked old job new)
    → list_all (λ work. nat_lt 0 work.number && nat_le work.number (used_by old job)) (works_of old job) ≡ true
    → new.works ≡ old.works ++ queued job.0 (above (used_by old job) (works_of new job))
asked_now_is old job new h kept =
    h.works ∙ ap (λ ws. old.works ++ ws) (sym (
    ap (λ ws. queued job.0 (above (used_by old job) ws)) h.own_works
    ∙ ap (queued job.0) (
    filter-append (λ work. nat_lt (used_by old job) work.number) (works_of old job) (numbered_works h.kind (used_by old job) h.ids)
    ∙ ap (λ ws. ws ++ above (used_by old job) (numbered_works h.kind (used_by old job) h.ids)) (above-used (used_by old job) (works_of old job) kept)
    ∙ above-numbered h.kind (used_by old job) (used_by old job) h.ids (omega (arith)))
    ∙ queued-numbered job h.kind (used_by old job) h.ids))
