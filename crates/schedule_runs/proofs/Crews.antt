-- The workers of a run: what they hand in, and what they keep, follows from the steps before.
use Rattle.std.proofs.Common.{◌≡◌, ℕ, ◌<◌, ◌==◌, Bool, true, false, if◌then◌else◌, List, ◌∷◌, length, find, Option, None, Some, Result, Ok, Err, IfOk, OnOk, slice_get, slice_set, get_or, refl, sym, ap, subst, ◌∙◌, arith}
use Rattle.std.specs.Option.{option_and_then}
use Rattle.std.proofs.lemmas.Bool.Decides.{nat_tests}
use Rattle.std.proofs.lemmas.Option.{slice_get-get_or}
use Rattle.obj_id.specs.declared.ids.JobNo.{JobNo}
use Rattle.obj_id.specs.declared.works.DeviceKey.{DeviceKey}
use Rattle.obj_id.specs.declared.works.DeviceAnswer.{DeviceAnswer}
use Rattle.obj_id.specs.declared.works.DeviceAnswer.TheVariants.{Done, Bytes, Failed}
use Rattle.store_facts.proofs.Tests.{false_true}
use Rattle.private_store.specs.declared.schedules.Event.TheVariants as event
use Rattle.private_store.specs.declared.schedules.Step.{Step}
use Rattle.private_store.specs.declared.schedules.Step.TheVariants.{At, Deliver}
use Rattle.private_store.specs.declared.schedules.StepAnswer.{StepAnswer}
use Rattle.private_store.specs.declared.schedules.Traced.{Traced}
use Rattle.schedule_text.specs.declared.line.FinishWord.{FinishWord}
use Rattle.schedule_text.specs.declared.line.FinishWord.TheVariants as outcome
use Rattle.spill_device.specs.Held.{Held, held_bytes_at, same_device_key}
use Rattle.world_core.proofs.ForCallers.{length-slice_set, slice_get-slice_set, slice_get-slice_set_other}
use Rattle.schedule_runs.specs.declared.workers.InService.{InService}
use Rattle.schedule_runs.specs.Workers.{Crew, IsCrewAfter, Calls, device_answer_due, bytes_after, bytes_put, call_answer, called, damaged_answer, device_bytes_of, handed_in, held_by, is_taken_at, noted, read_answer, crew_after_take, works_taken, written_for}
use Rattle.schedule_runs.proofs.Within.{hands_in}

-- ---- what is handed in

called_same : (f g : ℕ → DeviceKey → Option (List ℕ)) (node : ℕ) (o : Option InService) → ((key : DeviceKey) → f node key ≡ g node key) → called f node o ≡ called g node o
called_same f g node None h = refl
called_same f g node (Some t) h = ap (λ under. call_answer under t.work) (h t.work.key)

handed_same : (taken : List InService) (f g : ℕ → DeviceKey → Option (List ℕ)) (node : ℕ) (job : JobNo) (number : ℕ) (o : FinishWord) → ((key : DeviceKey) → f node key ≡ g node key)
    → handed_in taken f node job number o ≡ handed_in taken g node job number o
handed_same taken f g node job number outcome.Ok h = called_same f g node (find (is_taken_at node job number) taken) h
handed_same taken f g node job number outcome.Fail h = refl
handed_same taken f g node job number outcome.Damage h = ap damaged_answer (called_same f g node (find (is_taken_at node job number) taken) h)

module _ (nodes : ℕ) (crew : Crew) (history : List Traced) (is : IsCrewAfter nodes crew history) where
  pub handed_due : (node : ℕ) (job : JobNo) (number : ℕ) (o : FinishWord) → node < nodes → handed_in crew.taken (held_by crew.devices) node job number o ≡ device_answer_due history node job number o
  handed_due node job number o below =
      ap (λ taken. handed_in taken (held_by crew.devices) node job number o) is.kept
      ∙ handed_same (works_taken history) (held_by crew.devices) (device_bytes_of history) node job number o (λ key. is.holds node key below)

  -- ---- what is kept

  module _ (response : StepAnswer) where
    pub after_handing : (node : ℕ) (job : JobNo) (number : ℕ) (answer : DeviceAnswer) (new : Crew) → Calls crew node job number answer new
        → IsCrewAfter nodes (noted (At node (event.Finish job number answer)) response new) (record { step = At node (event.Finish job number answer); answer = response } ∷ history)
    after_handing node job number answer new calls =
        record {
          count = calls.count ∙ is.count;
          kept = ap (crew_after_take (At node (event.Finish job number answer)) response) (calls.kept ∙ is.kept);
          holds = λ place key below.
              calls.holds place key (subst (λ n. place < n) (sym is.count) below)
              ∙ ap (λ taken. bytes_after (bytes_put taken (At node (event.Finish job number answer)) place key) (held_by crew.devices place key)) is.kept
              ∙ ap (bytes_after (bytes_put (works_taken history) (At node (event.Finish job number answer)) place key)) (is.holds place key below);
        }

    put_none : (taken : List InService) (step : Step) (place : ℕ) (key : DeviceKey) → hands_in step ≡ false → bytes_put taken step place key ≡ None
    put_none taken (Deliver job from to m damage) place key h = refl
    put_none taken (At node (event.Admit job quota k)) place key h = refl
    put_none taken (At node (event.Requota job quota)) place key h = refl
    put_none taken (At node (event.JobEnd job)) place key h = refl
    put_none taken (At node event.Take) place key h = refl
    put_none taken (At node (event.Finish job number answer)) place key h = false_true h
    put_none taken (At node (event.Call job session c)) place key h = refl

    pub after_step : (step : Step) → hands_in step ≡ false → IsCrewAfter nodes (noted step response crew) (record { step = step; answer = response } ∷ history)
    after_step step apart =
        record {
          count = is.count;
          kept = ap (crew_after_take step response) is.kept;
          holds = λ place key below.
              is.holds place key below
              ∙ sym (ap (λ put. bytes_after put (device_bytes_of history place key)) (put_none (works_taken history) step place key apart));
        }

-- ---- a call of a device

pub nothing_called : (crew : Crew) (node : ℕ) (job : JobNo) (number : ℕ) → Calls crew node job number Failed crew
nothing_called crew node job number = record { kept = refl; count = refl; holds = λ place key below. refl }

-- what is put under a key for the answer that a device gave
put_by_answer : (under : Option (List ℕ)) (taken : List InService) (node : ℕ) (job : JobNo) (number : ℕ) (t : InService) (place : ℕ) (key : DeviceKey) → find (is_taken_at node job number) taken ≡ Some t
    → bytes_put taken (At node (event.Finish job number (call_answer under t.work))) place key ≡ (if node == place then written_for t.work key else None)
put_by_answer under taken node job number t place key found = by t.work.payload refl
  where
    put : DeviceAnswer → Option (List ℕ)
    put answer = bytes_put taken (At node (event.Finish job number answer)) place key

    none : (b c : Bool) (payload : Option (List ℕ)) → payload ≡ None → None ≡ (if b then (if c then payload else None) else None)
    none true true payload e = sym e
    none true false payload e = refl
    none false c payload e = refl

    read : (o : Option (List ℕ)) (n : ℕ) → put (read_answer o n) ≡ None
    read None n = refl
    read (Some bytes) n = fits (length bytes == n)
      where
        fits : (b : Bool) → put (if b then Bytes bytes else Failed) ≡ None
        fits true = refl
        fits false = refl

    by : (payload : Option (List ℕ)) → t.work.payload ≡ payload → put (call_answer under t.work) ≡ (if node == place then written_for t.work key else None)
    by (Some bytes) e =
        ap (λ p. put (elim p [ Some b ↦ Done | None ↦ read_answer under t.work.length ])) e
        ∙ ap (λ o. if node == place then option_and_then (λ x. written_for x.work key) o else None) found
    by None e =
        ap (λ p. put (elim p [ Some b ↦ Done | None ↦ read_answer under t.work.length ])) e
        ∙ read under t.work.length ∙ none (node == place) (same_device_key t.work.key key) t.work.payload e

-- the device of one node was called for a work that is kept
module _ (devices : List Held) (taken : List InService) (node : ℕ) (job : JobNo) (number : ℕ) (t : InService) (old new : Held) where
  pub device_called : find (is_taken_at node job number) taken ≡ Some t → slice_get devices node ≡ Some old
      → ((key : DeviceKey) → held_bytes_at new key ≡ bytes_after (written_for t.work key) (held_bytes_at old key))
      → Calls (record { devices = devices; taken = taken }) node job number (call_answer (held_bytes_at old t.work.key) t.work) (record { devices = slice_set devices node new; taken = taken })
  device_called found there holds =
      record {
        kept = refl;
        count = length-slice_set devices node new;
        holds = λ place key below.
            after place key (node == place) refl
            ∙ sym (ap (λ put. bytes_after put (held_by devices place key)) (put_by_answer (held_bytes_at old t.work.key) taken node job number t place key found));
      }
    where
      after : (place : ℕ) (key : DeviceKey) (same : Bool) → node == place ≡ same
          → held_by (slice_set devices node new) place key ≡ bytes_after (if node == place then written_for t.work key else None) (held_by devices place key)
      after place key true e =
          let is : node ≡ place = grind (arith, nat_tests, e) in
          let at : held_by (slice_set devices node new) node key ≡ bytes_after (written_for t.work key) (held_by devices node key)
          = ap (λ o. option_and_then (λ device. held_bytes_at device key) o) (slice_get-slice_set devices node old new there) ∙ holds key
          ∙ sym (ap (λ o. bytes_after (written_for t.work key) (option_and_then (λ device. held_bytes_at device key) o)) there) in
          subst (λ p. held_by (slice_set devices node new) p key ≡ bytes_after (if node == p then written_for t.work key else None) (held_by devices p key)) is
          (at ∙ sym (ap (λ b. bytes_after (if b then written_for t.work key else None) (held_by devices node key)) (ap (λ p. node == p) is ∙ e)))
      after place key false e =
          ap (λ o. option_and_then (λ device. held_bytes_at device key) o) (slice_get-slice_set_other devices node place new (λ same. grind (arith, nat_tests, same, e)))
          ∙ sym (ap (λ b. bytes_after (if b then written_for t.work key else None) (held_by devices place key)) e)

  -- the same, of a call that may want memory
  pub device_calls : {E : Type 0} (result : Result DeviceAnswer E) → find (is_taken_at node job number) taken ≡ Some t → node < length devices → old ≡ get_or devices node old
      → IfOk result (λ answer. answer ≡ call_answer (held_bytes_at old t.work.key) t.work)
      → OnOk result ((key : DeviceKey) → held_bytes_at new key ≡ bytes_after (written_for t.work key) (held_bytes_at old key))
      → IfOk result (λ answer. Calls (record { devices = devices; taken = taken }) node job number answer (record { devices = slice_set devices node new; taken = taken }))
  device_calls (Err e) found below is answers holds = tt
  device_calls (Ok answer) found below is answers holds =
      subst (λ a. Calls (record { devices = devices; taken = taken }) node job number a (record { devices = slice_set devices node new; taken = taken })) (sym answers)
      (device_called found (slice_get-get_or devices node old below ∙ ap (λ x. Some x) (sym is)) holds)
