-- A line names no node that isn't there: each step that it spells is one of a world with as many nodes. And it spells no
-- answer of a device. A command is of a job.
use Rattle.std.proofs.Common.{◌≡◌, ℕ, ◌<◌, ◌≤◌, Bool, true, false, List, [], ◌∷◌, sym, ap, subst, ◌∙◌, arith}
use Rattle.std.specs.Prelude.{nat_le, nat_lt, not, ◌&&◌}
use Rattle.std.proofs.lemmas.Bool.Decides.{nat_tests}
use Rattle.obj_id.specs.declared.works.Quota.{Quota}
use Rattle.obj_id.specs.declared.ids.JobNo.{JobNo}
use Rattle.obj_id.specs.declared.messages.Endpoint.{Endpoint}
use Rattle.obj_id.specs.declared.messages.Endpoint.TheVariants.{Node, Directory}
use Rattle.private_store.specs.declared.schedules.Event.{Event}
use Rattle.private_store.specs.declared.schedules.Event.TheVariants as event
use Rattle.private_store.specs.declared.schedules.Step.TheVariants.{At, Deliver}
use Rattle.schedule_text.specs.declared.line.Line.{Line}
use Rattle.schedule_text.specs.declared.line.Line.TheVariants as line
use Rattle.schedule_text.specs.declared.line.FinishWord.{FinishWord}
use Rattle.schedule_text.specs.declared.lines.JobAt.{JobAt}
use Rattle.schedule_text.specs.declared.words.Verb.{Verb}
use Rattle.schedule_text.specs.declared.words.Verb.TheVariants as verb
use Rattle.schedule_text.specs.Fields.{fields_of}
use Rattle.schedule_text.specs.Reading.{IsJobQuota, IsJobAlone, IsNodeAlone, IsCallLine, IsFinish, IsPlaceUnless, IsDeliver, IsStep, IsStepLine, IsLine, IsLineUnless, is_skipped}

-- one of the nodes, or the directory
abbrev pub is_there : ℕ → Endpoint → Bool
is_there nodes (Node place) = nat_lt place nodes
is_there nodes Directory = true

-- whether it hands in a device's answer: no line says which answer
abbrev pub is_finish : Event → Bool
is_finish (event.Finish job number answer) = true
is_finish _ = false

-- of what a line says: the node of an event or a work, or the place to which a message is delivered; and the event hands
-- in no answer
abbrev pub line_within : ℕ → Line → Bool
line_within nodes (line.Step (At place e)) = not (is_finish e) && nat_lt place nodes
line_within nodes (line.Step (Deliver job from to m damage)) = is_there nodes to
line_within nodes (line.Finish node job number outcome) = nat_lt node nodes
line_within nodes line.Skipped = true

below : (node nodes : ℕ) → node < nodes → nat_lt node nodes ≡ true
below node nodes h = grind (arith, nat_tests, h)

quota_within : (nodes : ℕ) (fields : List (List ℕ)) (x : JobAt × Quota) → IsJobQuota nodes fields x → nat_lt x.0.node nodes ≡ true
quota_within nodes [] x h = absurd h
quota_within nodes (a ∷ []) x h = absurd h
quota_within nodes (a ∷ b ∷ []) x h = absurd h
quota_within nodes (a ∷ b ∷ c ∷ []) x h = absurd h
quota_within nodes (a ∷ b ∷ c ∷ d ∷ []) x h = below x.0.node nodes h.0.0.exists
quota_within nodes (a ∷ b ∷ c ∷ d ∷ e ∷ fields) x h = absurd h

job_within : (nodes : ℕ) (fields : List (List ℕ)) (x : JobAt) → IsJobAlone nodes fields x → nat_lt x.node nodes ≡ true
job_within nodes [] x h = absurd h
job_within nodes (a ∷ []) x h = absurd h
job_within nodes (a ∷ b ∷ []) x h = below x.node nodes h.0.exists
job_within nodes (a ∷ b ∷ c ∷ fields) x h = absurd h

node_within : (nodes : ℕ) (fields : List (List ℕ)) (x : ℕ) → IsNodeAlone nodes fields x → nat_lt x nodes ≡ true
node_within nodes [] x h = absurd h
node_within nodes (a ∷ []) x h = below x nodes h.exists
node_within nodes (a ∷ b ∷ fields) x h = absurd h

call_within : (nodes : ℕ) (fields : List (List ℕ)) (x : Line) → IsCallLine nodes fields x → line_within nodes x ≡ true
call_within nodes [] x h = absurd h
call_within nodes (a ∷ []) x h = absurd h
call_within nodes (a ∷ b ∷ []) x h = absurd h
call_within nodes (a ∷ b ∷ c ∷ []) x h = absurd h
call_within nodes (a ∷ b ∷ c ∷ d ∷ fields) x h = sym (ap (line_within nodes) h.made) ∙ below h.speaker.at.node nodes h.speaks.at.0.exists

finish_within : (nodes : ℕ) (fields : List (List ℕ)) (x : JobAt × (ℕ × FinishWord)) → IsFinish nodes fields x → nat_lt x.0.node nodes ≡ true
finish_within nodes [] x h = absurd h
finish_within nodes (a ∷ []) x h = absurd h
finish_within nodes (a ∷ b ∷ []) x h = absurd h
finish_within nodes (a ∷ b ∷ c ∷ []) x h = absurd h
finish_within nodes (a ∷ b ∷ c ∷ d ∷ []) x h = below x.0.node nodes h.0.0.exists
finish_within nodes (a ∷ b ∷ c ∷ d ∷ e ∷ fields) x h = absurd h

place_within : (is_directory : Bool) (nodes : ℕ) (field : List ℕ) (x : Endpoint) → IsPlaceUnless is_directory nodes field x → is_there nodes x ≡ true
place_within true nodes field x h = sym (ap (is_there nodes) h)
place_within false nodes field x h = sym (ap (is_there nodes) h.made) ∙ below h.part nodes h.spelled.exists

delivery_within : (nodes : ℕ) (fields : List (List ℕ)) (x : ((Endpoint × Endpoint) × (JobNo × ℕ)) × Bool) → IsDeliver nodes fields x → is_there nodes x.0.0.1 ≡ true
delivery_within nodes [] x h = absurd h
delivery_within nodes (a ∷ []) x h = absurd h
delivery_within nodes (a ∷ b ∷ []) x h = absurd h
delivery_within nodes (a ∷ b ∷ c ∷ []) x h = absurd h
delivery_within nodes (a ∷ b ∷ c ∷ d ∷ fields) x h = place_within _ nodes c x.0.0.1 h.0.0.1

step_within : (nodes : ℕ) (word : Verb) (fields : List (List ℕ)) (x : Line) → IsStep nodes word fields x → line_within nodes x ≡ true
step_within nodes verb.Admit fields x h = sym (ap (line_within nodes) h.made) ∙ quota_within nodes fields h.part h.spelled
step_within nodes verb.Quota fields x h = sym (ap (line_within nodes) h.made) ∙ quota_within nodes fields h.part h.spelled
step_within nodes verb.End fields x h = sym (ap (line_within nodes) h.made) ∙ job_within nodes fields h.part h.spelled
step_within nodes verb.Cmd fields x h = call_within nodes fields x h
step_within nodes verb.Take fields x h = sym (ap (line_within nodes) h.made) ∙ node_within nodes fields h.part h.spelled
step_within nodes verb.Finish fields x h = sym (ap (line_within nodes) h.made) ∙ finish_within nodes fields h.part h.spelled
step_within nodes verb.Deliver fields x h = sym (ap (line_within nodes) h.made) ∙ delivery_within nodes fields h.part h.spelled

fields_within : (nodes : ℕ) (fields : List (List ℕ)) (x : Line) → IsStepLine nodes fields x → line_within nodes x ≡ true
fields_within nodes [] x h = absurd h
fields_within nodes (field ∷ fields) x h = step_within nodes h.verb fields x h.spelled

-- one that isn't skipped
pub spelled_within : (nodes : ℕ) (text : List ℕ) (x : Line) → is_skipped text ≡ false → IsLine nodes text x → line_within nodes x ≡ true
spelled_within nodes text x speaks l = fields_within nodes (fields_of text) x (subst (λ skipped. IsLineUnless skipped nodes text x) speaks l)

-- ---- commands

-- whether a command is of a job
abbrev pub is_spoken : Line → Bool
is_spoken (line.Step (At place (event.Call job session c))) = nat_le 1 job.0
is_spoken _ = true

some_number : (n : ℕ) → 1 ≤ n → nat_le 1 n ≡ true
some_number n h = grind (arith, nat_tests, h)

call_spoken : (nodes : ℕ) (fields : List (List ℕ)) (x : Line) → IsCallLine nodes fields x → is_spoken x ≡ true
call_spoken nodes [] x h = absurd h
call_spoken nodes (a ∷ []) x h = absurd h
call_spoken nodes (a ∷ b ∷ []) x h = absurd h
call_spoken nodes (a ∷ b ∷ c ∷ []) x h = absurd h
call_spoken nodes (a ∷ b ∷ c ∷ d ∷ fields) x h = sym (ap is_spoken h.made) ∙ some_number h.speaker.at.job.0 h.speaks.positive

step_spoken : (nodes : ℕ) (word : Verb) (fields : List (List ℕ)) (x : Line) → IsStep nodes word fields x → is_spoken x ≡ true
step_spoken nodes verb.Admit fields x h = sym (ap is_spoken h.made)
step_spoken nodes verb.Quota fields x h = sym (ap is_spoken h.made)
step_spoken nodes verb.End fields x h = sym (ap is_spoken h.made)
step_spoken nodes verb.Cmd fields x h = call_spoken nodes fields x h
step_spoken nodes verb.Take fields x h = sym (ap is_spoken h.made)
step_spoken nodes verb.Finish fields x h = sym (ap is_spoken h.made)
step_spoken nodes verb.Deliver fields x h = sym (ap is_spoken h.made)

fields_spoken : (nodes : ℕ) (fields : List (List ℕ)) (x : Line) → IsStepLine nodes fields x → is_spoken x ≡ true
fields_spoken nodes [] x h = absurd h
fields_spoken nodes (field ∷ fields) x h = step_spoken nodes h.verb fields x h.spelled

pub spelled_spoken : (nodes : ℕ) (text : List ℕ) (x : Line) → is_skipped text ≡ false → IsLine nodes text x → is_spoken x ≡ true
spelled_spoken nodes text x speaks l = fields_spoken nodes (fields_of text) x (subst (λ skipped. IsLineUnless skipped nodes text x) speaks l)
