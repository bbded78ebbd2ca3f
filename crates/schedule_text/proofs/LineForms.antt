-- Lines that are too short, and lines of sessions.
use Rattle.std.proofs.Common.{◌≡◌, ℕ, ◌<◌, List, [], ◌∷◌, length, map, Option, Some, None, IfSome, Bor, refl, sym, ap, subst, ◌∙◌, arith}
use Rattle.obj_id.specs.declared.commands.Command.{Command}
use Rattle.private_store.specs.declared.schedules.Event.TheVariants as event
use Rattle.private_store.specs.declared.schedules.Step.TheVariants as «step»
use Rattle.schedule_text.specs.declared.line.Line.{Line}
use Rattle.schedule_text.specs.declared.line.Line.TheVariants as line
use Rattle.schedule_text.specs.declared.lines.Speaker.{Speaker}
use Rattle.schedule_text.specs.Fields.{Reads}
use Rattle.schedule_text.specs.Reading.{IsCall, IsCallLine, IsCommandText, IsSpeaker}

-- a session's line has four fields at least after its first word
pub Reads-short_call : (nodes : ℕ) (fields : List (Bor (List ℕ))) → length fields < 4 → Reads {X = Line} None (IsCallLine nodes (map (λ field. field.now) fields))
Reads-short_call nodes [] short = record { sound = tt; whole = λ x is. absurd is }
Reads-short_call nodes (a ∷ []) short = record { sound = tt; whole = λ x is. absurd is }
Reads-short_call nodes (a ∷ b ∷ []) short = record { sound = tt; whole = λ x is. absurd is }
Reads-short_call nodes (a ∷ b ∷ c ∷ []) short = record { sound = tt; whole = λ x is. absurd is }
Reads-short_call nodes (a ∷ b ∷ c ∷ d ∷ rest) short = absurd (omega arith)

-- a session's line, where its session is read
module _ (nodes : ℕ) (node job session word : List ℕ) (fields : List (List ℕ)) (found : Option Speaker) (speaker : Speaker)
    (speaks : Reads found (IsSpeaker nodes node job session)) (found_is : found ≡ Some speaker) where
  same_speaker : (x : Line) (is : IsCall nodes node job session word fields x) → is.speaker ≡ speaker
  same_speaker x is = let both = speaks.whole is.speaker is.speaks in cc

  same_command : (read : Option (Command (List ℕ))) → Reads read (IsCommandText speaker.at.job.0 word fields)
      → (x : Line) (is : IsCall nodes node job session word fields x) → read ≡ Some is.command
  same_command read commands x is =
      let P : Speaker → Type 0 = λ s. IsCommandText s.at.job.0 word fields is.command in
      commands.whole is.command (subst P (same_speaker x is) is.spelled)

  -- and its command isn't one
  pub Reads-no_command : (read : Option (Command (List ℕ))) → Reads read (IsCommandText speaker.at.job.0 word fields) → read ≡ None
      → Reads {X = Line} None (IsCall nodes node job session word fields)
  Reads-no_command read commands none = record {
    sound = tt;
    whole = λ x is. let some = same_command read commands x is in absurd (cc);
  }

  -- or is one
  pub Reads-call : (read : Option (Command (List ℕ))) (command : Command (List ℕ)) → Reads read (IsCommandText speaker.at.job.0 word fields) → read ≡ Some command
      → Reads (Some (line.Step («step».At speaker.at.node (event.Call speaker.at.job speaker.session command)))) (IsCall nodes node job session word fields)
  Reads-call read command commands some = record {
    sound =
        let P : Option Speaker → Type 0 = λ o. IfSome o (IsSpeaker nodes node job session) in
        let Q : Option (Command (List ℕ)) → Type 0 = λ o. IfSome o (IsCommandText speaker.at.job.0 word fields) in
        record { speaker = speaker; command = command; speaks = subst P found_is speaks.sound; spelled = subst Q some commands.sound; made = refl };
    whole = λ x is.
        let same = same_command read commands x is in
        let command_is : is.command ≡ command = cc in
        ap Some ((λ i. line.Step («step».At (sym (same_speaker x is) i).at.node (event.Call (sym (same_speaker x is) i).at.job (sym (same_speaker x is) i).session (sym command_is i)))) ∙ is.made);
  }
