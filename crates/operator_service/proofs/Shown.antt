-- What the operator is shown of live jobs and of a job's usage, as a line.
use Rattle.std.proofs.Common.{◌≡◌, ℕ, List, Result, Ok, Err, subst, sym, ◌∙◌}
use Rattle.std.specs.Prelude.{IfOk, IfErr}
use Rattle.obj_id.specs.declared.commands.Usage.{Usage}
use Rattle.obj_id.specs.declared.ids.JobNo.{JobNo}
use Rattle.obj_id.specs.declared.refusals.Refusal.{Refusal}
use Rattle.obj_id.specs.declared.refusals.Refusal.TheVariants.{NotAdmitted}
use Rattle.private_store.specs.declared.schedules.StepAnswer.TheVariants.{Response}
use Rattle.schedule_text.specs.declared.prefixes.Prefix.TheVariants.{Operator}
use Rattle.schedule_text.specs.Printing.{line_text}
use Rattle.node_gate.specs.declared.journaled.LiveJob.{LiveJob}
use Rattle.program_lines.specs.declared.control_lines.Look.{Look}
use Rattle.program_lines.specs.declared.control_lines.Look.TheVariants as look
use Rattle.node_housekeeping.specs.declared.open_sessions.CountedSessions.{CountedSessions}
use Rattle.operator_service.specs.Looks.{IsLookText, jobs_line, sessions_line, usage_reply}

module _ {S E : Type 0} (bytes : S → List ℕ) (are_live : ℕ → List LiveJob → Type 0) (is_usage : ℕ → JobNo → Result Usage Refusal → Type 0) (node at : ℕ) (here : at ≡ node) (asked : Look) (r : Result S E) where
  pub jobs_shown : asked ≡ look.Jobs → (jobs : List LiveJob) → are_live at jobs → IfOk r (λ line. bytes line ≡ jobs_line node jobs) → IfOk r (λ line. IsLookText are_live is_usage node asked (bytes line))
  jobs_shown is jobs shown made = by_result r made
    where
      by_result : (r : Result S E) → IfOk r (λ line. bytes line ≡ jobs_line node jobs) → IfOk r (λ line. IsLookText are_live is_usage node asked (bytes line))
      by_result (Ok line) made = subst (λ l. IsLookText are_live is_usage node l (bytes line)) (sym is) (record { jobs = jobs; shown = subst (λ n. are_live n jobs) here shown; is = made })
      by_result (Err e) made = tt

  pub usage_shown : (job : JobNo) → asked ≡ look.Usage job → (told : Result Usage Refusal) → is_usage at job told → IfErr told (λ refusal. refusal ≡ NotAdmitted) → IfOk r (λ line. bytes line ≡ line_text (Operator node) (Response (usage_reply told))) → IfOk r (λ line. IsLookText are_live is_usage node asked (bytes line))
  usage_shown job is told shown refused made = by_result r made
    where
      by_result : (r : Result S E) → IfOk r (λ line. bytes line ≡ line_text (Operator node) (Response (usage_reply told))) → IfOk r (λ line. IsLookText are_live is_usage node asked (bytes line))
      by_result (Ok line) made = subst (λ l. IsLookText are_live is_usage node l (bytes line)) (sym is) (record { told = told; shown = subst (λ n. is_usage n job told) here shown; refused = refused; is = made })
      by_result (Err e) made = tt

  pub sessions_shown : asked ≡ look.Sessions → (counted : CountedSessions) → counted.node ≡ at → IfOk r (λ line. bytes line ≡ sessions_line node counted.sessions) → IfOk r (λ line. IsLookText are_live is_usage node asked (bytes line))
  sessions_shown is counted of made = by_result r made
    where
      by_result : (r : Result S E) → IfOk r (λ line. bytes line ≡ sessions_line node counted.sessions) → IfOk r (λ line. IsLookText are_live is_usage node asked (bytes line))
      by_result (Ok line) made = subst (λ l. IsLookText are_live is_usage node l (bytes line)) (sym is) (record { counted = counted; at = of ∙ here; is = made })
      by_result (Err e) made = tt
