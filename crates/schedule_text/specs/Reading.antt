-- Which step a line spells.
use Rattle.std.specs.Prelude.{◌≡◌, ℕ, ◌≤◌, ◌==◌, List, [], ◌∷◌, codes, replicate, true, false, Bool}
use Rattle.std.specs.Str.{bytes_eq}
use Rattle.obj_id.specs.declared.ids.JobNo.{JobNo}
use Rattle.obj_id.specs.declared.works.Quota.{Quota}
use Rattle.obj_id.specs.declared.works.JobKey.{JobKey}
use Rattle.obj_id.specs.declared.messages.Endpoint.{Endpoint}
use Rattle.obj_id.specs.declared.messages.Endpoint.TheVariants.{Node, Directory}
use Rattle.obj_id.specs.declared.commands.Kind.TheVariants.{Primary, Secondary}
use Rattle.obj_id.specs.declared.commands.Command.{Command}
use Rattle.obj_id.specs.declared.commands.Command.TheVariants as command
use Rattle.private_store.specs.declared.schedules.Event.TheVariants as event
use Rattle.private_store.specs.declared.schedules.Step.TheVariants as «step»
use Rattle.schedule_text.specs.declared.line.Line.{Line}
use Rattle.schedule_text.specs.declared.line.Line.TheVariants as line
use Rattle.schedule_text.specs.declared.line.FinishWord.{FinishWord}
use Rattle.command_kinds.specs.declared.command_kind.CommandKind.TheVariants as kinds
use Rattle.schedule_text.specs.declared.words.Word.{Word}
use Rattle.schedule_text.specs.declared.words.Word.TheVariants as word
use Rattle.schedule_text.specs.declared.words.Verb.{Verb}
use Rattle.schedule_text.specs.declared.words.Verb.TheVariants as verb
use Rattle.schedule_text.specs.declared.lines.JobAt.{JobAt}
use Rattle.schedule_text.specs.declared.lines.Speaker.{Speaker}
use Rattle.schedule_text.specs.Fields.{IsFieldMade, IsAlone, IsNumber, IsLongNumber, IsNode, IsJob, IsId1, IsIdNumber, IsIdJob, IsIdTask, IsIdSpan, IsIdBytes, IsTask1, fields_of}
use Rattle.schedule_text.specs.Words.{word_text, verb_text, outcome_text}

-- ---- commands

-- the command that a word and the fields after it spell, for the job that speaks, unless it carries bytes; no line has one that waits
abbrev pub IsPlainCommand : {P : Type 0} → ℕ → Word → List (List ℕ) → Command P → Type 0
IsPlainCommand job (word.Of kinds.Create) fields c = IsFieldMade (IsIdNumber job fields) (λ x. command.Create x.0 Primary x.1) c
IsPlainCommand job word.Copy fields c = IsFieldMade (IsIdNumber job fields) (λ x. command.Create x.0 Secondary x.1) c
IsPlainCommand job (word.Of kinds.Write) fields c = ⊥
IsPlainCommand job (word.Of kinds.Seal) fields c = IsFieldMade (IsId1 job fields) (λ x. command.Seal x) c
IsPlainCommand job (word.Of kinds.Get) fields c = IsFieldMade (IsId1 job fields) (λ x. command.Get x) c
IsPlainCommand job (word.Of kinds.Read) fields c = IsFieldMade (IsIdSpan job fields) (λ x. command.Read x.0.0 x.0.1 x.1) c
IsPlainCommand job (word.Of kinds.Release) fields c = IsFieldMade (IsId1 job fields) (λ x. command.Release x) c
IsPlainCommand job (word.Of kinds.Unpin) fields c = IsFieldMade (IsIdTask job fields) (λ x. command.Unpin x.0 x.1) c
IsPlainCommand job (word.Of kinds.Borrow) fields c = IsFieldMade (IsIdTask job fields) (λ x. command.Borrow x.0 x.1) c
IsPlainCommand job (word.Of kinds.GiveUp) fields c = IsFieldMade (IsIdTask job fields) (λ x. command.GiveUp x.0 x.1) c
IsPlainCommand job (word.Of kinds.Delete) fields c = IsFieldMade (IsId1 job fields) (λ x. command.Delete x) c
IsPlainCommand job (word.Of kinds.EndTask) fields c = IsFieldMade (IsTask1 fields) (λ x. command.EndTask x) c
IsPlainCommand job (word.Of kinds.Grant) fields c = IsFieldMade (IsIdJob job fields) (λ x. command.Grant x.0 x.1) c
IsPlainCommand job (word.Of kinds.Withdraw) fields c = IsFieldMade (IsIdJob job fields) (λ x. command.Withdraw x.0 x.1) c
IsPlainCommand job (word.Of kinds.Peek) fields c = IsFieldMade (IsIdSpan job fields) (λ x. command.Peek x.0.0 x.0.1 x.1) c
IsPlainCommand job (word.Of kinds.List) fields c = IsAlone fields command.List c
IsPlainCommand job (word.Of kinds.Usage) fields c = IsAlone fields command.Usage c
IsPlainCommand job (word.Of kinds.Leave) fields c = IsAlone fields command.Leave c
IsPlainCommand job (word.Of kinds.GetWait) fields c = ⊥
IsPlainCommand job (word.Of kinds.CreateWait) fields c = ⊥

-- and also if it carries bytes
abbrev pub IsCommand : ℕ → Word → List (List ℕ) → Command (List ℕ) → Type 0
IsCommand job (word.Of kinds.Write) fields c = IsFieldMade (IsIdBytes job fields) (λ x. command.Write x.0.0 x.0.1 x.1) c
IsCommand job word fields c = IsPlainCommand job word fields c

-- the same, with the word's field
pub record IsCommandText (job : ℕ) (field : List ℕ) (fields : List (List ℕ)) (c : Command (List ℕ)) : Type 0 where
  pub word : Word
  pub named : word_text word ≡ field
  pub spelled : IsCommand job word fields c

-- ---- steps

-- `NODE JOB`
abbrev pub IsJobAt : ℕ → List ℕ → List ℕ → JobAt → Type 0
IsJobAt nodes node job x = IsNode nodes node x.node × IsJob job x.job

-- `WINDOW DEVICE`
abbrev pub IsQuota : List ℕ → List ℕ → Quota → Type 0
IsQuota window device x = IsLongNumber window x.window × IsLongNumber device x.device

-- `NODE JOB WINDOW DEVICE`, each in its field
abbrev pub IsQuotaAt : ℕ → List ℕ → List ℕ → List ℕ → List ℕ → JobAt × Quota → Type 0
IsQuotaAt nodes node job window device x = IsJobAt nodes node job x.0 × IsQuota window device x.1

abbrev pub IsJobQuota : ℕ → List (List ℕ) → JobAt × Quota → Type 0
IsJobQuota nodes (node ∷ job ∷ window ∷ device ∷ []) x = IsQuotaAt nodes node job window device x
IsJobQuota nodes _ x = ⊥

-- `NODE JOB`, and nothing else
abbrev pub IsJobAlone : ℕ → List (List ℕ) → JobAt → Type 0
IsJobAlone nodes (node ∷ job ∷ []) x = IsJobAt nodes node job x
IsJobAlone nodes _ x = ⊥

-- `NODE`
abbrev pub IsNodeAlone : ℕ → List (List ℕ) → ℕ → Type 0
IsNodeAlone nodes (node ∷ []) x = IsNode nodes node x
IsNodeAlone nodes _ x = ⊥

-- `NODE JOB SESSION`: a session's job is at least 1
pub record IsSpeaker (nodes : ℕ) (node job session : List ℕ) (x : Speaker) : Type 0 where
  pub at : IsJobAt nodes node job x.at
  pub positive : 1 ≤ x.at.job.0
  pub numbered : IsNumber session x.session

-- `NODE JOB SESSION` and a command
pub record IsCall (nodes : ℕ) (node job session word : List ℕ) (fields : List (List ℕ)) (x : Line) : Type 0 where
  pub speaker : Speaker
  pub command : Command (List ℕ)
  pub speaks : IsSpeaker nodes node job session speaker
  pub spelled : IsCommandText speaker.at.job.0 word fields command
  pub made : line.Step («step».At speaker.at.node (event.Call speaker.at.job speaker.session command)) ≡ x

abbrev pub IsCallLine : ℕ → List (List ℕ) → Line → Type 0
IsCallLine nodes (node ∷ job ∷ session ∷ word ∷ fields) x = IsCall nodes node job session word fields x
IsCallLine nodes _ x = ⊥

-- `NUMBER` and `ok`, `fail` or `damage`
abbrev pub IsEnding : List ℕ → List ℕ → ℕ × FinishWord → Type 0
IsEnding number outcome x = IsLongNumber number x.0 × (outcome_text x.1 ≡ outcome)

-- `NODE JOB NUMBER` and the outcome, each in its field
abbrev pub IsEndingAt : ℕ → List ℕ → List ℕ → List ℕ → List ℕ → JobAt × (ℕ × FinishWord) → Type 0
IsEndingAt nodes node job number outcome x = IsJobAt nodes node job x.0 × IsEnding number outcome x.1

abbrev pub IsFinish : ℕ → List (List ℕ) → JobAt × (ℕ × FinishWord) → Type 0
IsFinish nodes (node ∷ job ∷ number ∷ outcome ∷ []) x = IsEndingAt nodes node job number outcome x
IsFinish nodes _ x = ⊥

-- `d` is the directory, and every other place a node
abbrev pub IsPlaceUnless : Bool → ℕ → List ℕ → Endpoint → Type 0
IsPlaceUnless true nodes field x = Directory ≡ x
IsPlaceUnless false nodes field x = IsFieldMade (IsNode nodes field) (λ node. Node node) x

abbrev pub IsPlace : ℕ → List ℕ → Endpoint → Type 0
IsPlace nodes field x = IsPlaceUnless (bytes_eq field (codes "d")) nodes field x

-- `FROM TO`
abbrev pub IsWay : ℕ → List ℕ → List ℕ → Endpoint × Endpoint → Type 0
IsWay nodes sender receiver x = IsPlace nodes sender x.0 × IsPlace nodes receiver x.1

-- `JOB M`
abbrev pub IsMessage : List ℕ → List ℕ → JobNo × ℕ → Type 0
IsMessage job number x = IsJob job x.0 × IsLongNumber number x.1

-- `JOB FROM TO M`
abbrev pub IsDelivery : ℕ → List ℕ → List ℕ → List ℕ → List ℕ → (Endpoint × Endpoint) × (JobNo × ℕ) → Type 0
IsDelivery nodes job sender receiver number x = IsWay nodes sender receiver x.0 × IsMessage job number x.1

abbrev pub IsDamageWord : List ℕ → Bool → Type 0
IsDamageWord field damaged = (field ≡ codes "damage") × (true ≡ damaged)

-- nothing more, or `damage`
abbrev pub IsDamage : List (List ℕ) → Bool → Type 0
IsDamage [] damaged = false ≡ damaged
IsDamage (field ∷ []) damaged = IsDamageWord field damaged
IsDamage _ damaged = ⊥

abbrev pub IsDeliveryLine : ℕ → List ℕ → List ℕ → List ℕ → List ℕ → List (List ℕ) → ((Endpoint × Endpoint) × (JobNo × ℕ)) × Bool → Type 0
IsDeliveryLine nodes job sender receiver number fields x = IsDelivery nodes job sender receiver number x.0 × IsDamage fields x.1

abbrev pub delivered : ((Endpoint × Endpoint) × (JobNo × ℕ)) × Bool → Line
delivered x = line.Step («step».Deliver x.0.1.0 x.0.0.0 x.0.0.1 x.0.1.1 x.1)

-- `JOB FROM TO M`, and perhaps `damage`
abbrev pub IsDeliver : ℕ → List (List ℕ) → ((Endpoint × Endpoint) × (JobNo × ℕ)) × Bool → Type 0
IsDeliver nodes (job ∷ sender ∷ receiver ∷ number ∷ fields) x = IsDeliveryLine nodes job sender receiver number fields x
IsDeliver nodes _ x = ⊥

-- the key of a job that a schedule admits
abbrev pub no_key : JobKey
no_key = record { 0 = replicate 32 0 }

-- what a line's first word and the fields after it spell
abbrev pub IsStep : ℕ → Verb → List (List ℕ) → Line → Type 0
IsStep nodes verb.Admit fields x = IsFieldMade (IsJobQuota nodes fields) (λ y. line.Step («step».At y.0.node (event.Admit y.0.job y.1 no_key))) x
IsStep nodes verb.Quota fields x = IsFieldMade (IsJobQuota nodes fields) (λ y. line.Step («step».At y.0.node (event.Requota y.0.job y.1))) x
IsStep nodes verb.End fields x = IsFieldMade (IsJobAlone nodes fields) (λ y. line.Step («step».At y.node (event.JobEnd y.job))) x
IsStep nodes verb.Cmd fields x = IsCallLine nodes fields x
IsStep nodes verb.Take fields x = IsFieldMade (IsNodeAlone nodes fields) (λ node. line.Step («step».At node event.Take)) x
IsStep nodes verb.Finish fields x = IsFieldMade (IsFinish nodes fields) (λ y. line.Finish y.0.node y.0.job y.1.0 y.1.1) x
IsStep nodes verb.Deliver fields x = IsFieldMade (IsDeliver nodes fields) delivered x

-- the same, with the first word's field
pub record IsStepText (nodes : ℕ) (field : List ℕ) (fields : List (List ℕ)) (x : Line) : Type 0 where
  pub verb : Verb
  pub named : verb_text verb ≡ field
  pub spelled : IsStep nodes verb fields x

abbrev pub IsStepLine : ℕ → List (List ℕ) → Line → Type 0
IsStepLine nodes [] x = ⊥
IsStepLine nodes (field ∷ fields) x = IsStepText nodes field fields x

-- ---- lines

-- an empty line says nothing, nor does a comment
abbrev pub is_skipped : List ℕ → Bool
is_skipped [] = true
is_skipped (first ∷ rest) = first == 35

abbrev pub IsLineUnless : Bool → ℕ → List ℕ → Line → Type 0
IsLineUnless true nodes text x = line.Skipped ≡ x
IsLineUnless false nodes text x = IsStepLine nodes (fields_of text) x

-- every other line spells a step by its fields
abbrev pub IsLine : ℕ → List ℕ → Line → Type 0
IsLine nodes text x = IsLineUnless (is_skipped text) nodes text x
