-- What a step of any event says of a session's command.
use Rattle.std.proofs.Common.{◌≡◌, ℕ, true, false, List, Option, refl, sym, ap, subst, ◌∙◌}
use Rattle.obj_id.specs.declared.ids.JobNo.{JobNo}
use Rattle.obj_id.specs.declared.commands.Reply.{Reply}
use Rattle.private_store.specs.declared.inputs.Judged.{Judged}
use Rattle.private_store.specs.declared.schedules.Event.{Event}
use Rattle.private_store.specs.declared.schedules.Event.TheVariants as event
use Rattle.private_store.specs.declared.schedules.NodeEvent.TheVariants.{Own}
use Rattle.private_store.specs.laws.Answers.{wants_memory, is_small_reply}
use Rattle.spill_work.specs.declared.queue.Queued.{Queued}
use Rattle.node_core.specs.Judged.{IsCallJudged, IsSmallCall}
use Rattle.node_core.specs.Steps.{job_at}
use Rattle.node_journal.specs.declared.entries.Entry.{Entry}
use Rattle.node_journal.specs.Journals.{entry_for, event_name, is_call}
use Rattle.node_journal.specs.Witnesses.{IsCalledBy, Witness}

pub called_by : (works : List Queued) (e : Event) (response : Reply (List ℕ)) (w : Witness) (number : ℕ) (was : Option Judged) → w.job.0 ≡ job_at works (Own e) → w.entry ≡ entry_for number (event_name (Own e)) was response
    → w.asked ≡ e → w.whole ≡ response → IsCallJudged e was → (is_call e ≡ true → wants_memory response ≡ false) → IsCalledBy e response w
called_by works (event.Call job session c) response w number was of_job entry asked whole judged answered =
    let numbered : ℕ → JobNo = λ n. record { 0 = n } in (
      answered refl,
      record {
        of_job = ap numbered of_job;
        named = ap (λ (e : Entry). e.event) entry;
        input = ap (λ (e : Entry). e.input) entry ∙ judged;
        answer = ap (λ (e : Entry). e.reply) entry;
        asked = asked;
        whole = whole;
      },
    )
called_by works (event.Admit job quota key) response w number was of_job entry asked whole judged answered = tt
called_by works (event.Requota job quota) response w number was of_job entry asked whole judged answered = tt
called_by works (event.JobEnd job) response w number was of_job entry asked whole judged answered = tt
called_by works event.Take response w number was of_job entry asked whole judged answered = tt
called_by works (event.Finish job number' a) response w number was of_job entry asked whole judged answered = tt

-- the same of the answer and the witness of a step that was taken apart
pub called_apart : (works : List Queued) (e : Event) (response : Reply (List ℕ)) (w : Witness) (number : ℕ) (was : Option Judged) → w.job.0 ≡ job_at works (Own e) → w.entry ≡ entry_for number (event_name (Own e)) was response
    → w.asked ≡ e → w.whole ≡ response → IsCallJudged e was → (is_call e ≡ true → wants_memory response ≡ false) → (part : Reply (List ℕ)) → part ≡ response → (witness : Witness) → witness ≡ w → IsCalledBy e part witness
called_apart works e response w number was of_job entry asked whole judged answered part is witness of =
    subst (λ x. IsCalledBy e x witness) (sym is) (subst (IsCalledBy e response) (sym of) (called_by works e response w number was of_job entry asked whole judged answered))

pub small_call : (e : Event) (response : Reply (List ℕ)) → (is_call e ≡ true → is_small_reply response ≡ true) → IsSmallCall e response
small_call (event.Call job session c) response small = small refl
small_call (event.Admit job quota key) response small = refl
small_call (event.Requota job quota) response small = refl
small_call (event.JobEnd job) response small = refl
small_call event.Take response small = refl
small_call (event.Finish job number a) response small = refl
