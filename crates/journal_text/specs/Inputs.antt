-- What the fields of an input say.
use Rattle.std.specs.Prelude.{◌≡◌, ℕ, ◌==◌, List, [], ◌∷◌, Bool, true, false}
use Rattle.obj_id.specs.declared.ids.ObjectId.{ObjectId}
use Rattle.obj_id.specs.declared.ids.JobNo.{JobNo}
use Rattle.obj_id.specs.declared.works.Quota.{Quota}
use Rattle.private_store.specs.declared.inputs.WorkVerdict.{WorkVerdict}
use Rattle.private_store.specs.declared.inputs.ChunkVerdict.{ChunkVerdict}
use Rattle.schedule_text.specs.Fields.{IsAlone, IsId1, IsIdNumber, IsLongNumber, IsFieldMade, IsNumber, IsObject, IsTarget}
use Rattle.schedule_text.specs.Reading.{IsQuota}
use Rattle.journal_text.specs.declared.entry.LineInput.{LineInput}
use Rattle.journal_text.specs.declared.entry.LineInput.TheVariants as input
use Rattle.journal_text.specs.declared.entry.Version.{Version}
use Rattle.journal_text.specs.declared.entry.Version.TheVariants.{One, Two, Three}
use Rattle.journal_text.specs.declared.words.InputWord.{InputWord}
use Rattle.journal_text.specs.declared.words.InputWord.TheVariants as word
use Rattle.journal_text.specs.Calls.{IsCallText}
use Rattle.journal_text.specs.Fields.{IsFetch, IsGrant}
use Rattle.journal_text.specs.Locations.{IsLocated}
use Rattle.journal_text.specs.Words.{chunk_verdict_text, input_word_text, match_text, work_verdict_text}

-- `WINDOW DEVICE`, and nothing else
abbrev pub IsQuotaAlone : List (List ℕ) → Quota → Type 0
IsQuotaAlone (window ∷ device ∷ []) x = IsQuota window device x
IsQuotaAlone _ x = ⊥

-- a change, which the earlier versions don't know
abbrev pub IsRequota : Version → List (List ℕ) → Quota → Type 0
IsRequota One fields x = ⊥
IsRequota Two fields x = ⊥
IsRequota Three fields x = IsQuotaAlone fields x

-- `NUMBER WORD`, of a device's answer
abbrev pub IsAnswerInput : List (List ℕ) → ℕ × WorkVerdict → Type 0
IsAnswerInput (number ∷ word ∷ []) x = IsLongNumber number x.0 × (work_verdict_text x.1 ≡ word)
IsAnswerInput _ x = ⊥

-- `INDEX FROM WORD`, each in its field
pub record IsPiece (index from word : List ℕ) (x : (ℕ × ℕ) × ChunkVerdict) : Type 0 where
  pub indexed : IsNumber index x.0.0
  pub sent : IsNumber from x.0.1
  pub judged : chunk_verdict_text x.1 ≡ word

-- and together
abbrev pub IsPieceFields : List (List ℕ) → (ℕ × ℕ) × ChunkVerdict → Type 0
IsPieceFields (index ∷ from ∷ word ∷ []) x = IsPiece index from word x
IsPieceFields _ x = ⊥

-- `ID NUMBER INDEX FROM WORD`
abbrev pub IsChunk : ℕ → List (List ℕ) → (ObjectId × ℕ) × ((ℕ × ℕ) × ChunkVerdict) → Type 0
IsChunk job (id ∷ number ∷ fields) x = IsFetch job id number x.0 × IsPieceFields fields x.1
IsChunk job _ x = ⊥

-- `ID NUMBER WORD`
abbrev pub IsPull : ℕ → List (List ℕ) → (ObjectId × ℕ) × Bool → Type 0
IsPull job (id ∷ number ∷ word ∷ []) x = IsFetch job id number x.0 × (match_text x.1 ≡ word)
IsPull job _ x = ⊥

-- `ID NUMBER FROM`
abbrev pub IsNotHere : ℕ → List (List ℕ) → (ObjectId × ℕ) × ℕ → Type 0
IsNotHere job (id ∷ number ∷ from ∷ []) x = IsFetch job id number x.0 × IsNumber from x.1
IsNotHere job _ x = ⊥

-- ---- grants

-- `ID LEN GRANTOR DEPTH`, each in its field
abbrev pub IsGrantToOf : ℕ → List ℕ → List ℕ → List ℕ → List ℕ → (ObjectId × ℕ) × (JobNo × ℕ) → Type 0
IsGrantToOf job id length grantor depth x = IsTarget job id length x.0 × IsGrant grantor depth x.1

-- and together
abbrev pub IsGrantTo : ℕ → List (List ℕ) → (ObjectId × ℕ) × (JobNo × ℕ) → Type 0
IsGrantTo job (id ∷ length ∷ grantor ∷ depth ∷ []) x = IsGrantToOf job id length grantor depth x
IsGrantTo job _ x = ⊥

-- `ID GRANTOR DEPTH`
abbrev pub IsGrantEnd : ℕ → List (List ℕ) → ObjectId × (JobNo × ℕ) → Type 0
IsGrantEnd job (id ∷ grantor ∷ depth ∷ []) x = IsObject job id x.0 × IsGrant grantor depth x.1
IsGrantEnd job _ x = ⊥

abbrev pub IsHandedTo : ℕ → List (List ℕ) → LineInput → Type 0
IsHandedTo job fields x = IsFieldMade (IsGrantTo job fields) (λ y. input.Received y.0.0 y.0.1 y.1.0 y.1.1) x

abbrev pub IsGrantEnded : ℕ → List (List ℕ) → LineInput → Type 0
IsGrantEnded job fields x = IsFieldMade (IsGrantEnd job fields) (λ y. input.Withdrawn y.0 y.1.0 y.1.1) x

-- version 1 doesn't tell grantor and depth: the object's job granted it itself
abbrev pub IsReceived : Version → ℕ → List (List ℕ) → LineInput → Type 0
IsReceived One job fields x = IsFieldMade (IsIdNumber job fields) (λ y. input.Received y.0 y.1 y.0.job 1) x
IsReceived Two job fields x = IsHandedTo job fields x
IsReceived Three job fields x = IsHandedTo job fields x

abbrev pub IsWithdrawn : Version → ℕ → List (List ℕ) → LineInput → Type 0
IsWithdrawn One job fields x = IsFieldMade (IsId1 job fields) (λ y. input.Withdrawn y y.job 1) x
IsWithdrawn Two job fields x = IsGrantEnded job fields x
IsWithdrawn Three job fields x = IsGrantEnded job fields x

-- ---- inputs

-- what a word and the fields after it spell, for the line's job
abbrev pub IsInputOf : Version → ℕ → InputWord → List (List ℕ) → LineInput → Type 0
IsInputOf version job word.Begin fields x = IsFieldMade (IsQuotaAlone fields) (λ y. input.Begin y) x
IsInputOf version job word.Quota fields x = IsFieldMade (IsRequota version fields) (λ y. input.Requota y) x
IsInputOf version job word.End fields x = IsAlone fields input.End x
IsInputOf version job word.Answer fields x = IsFieldMade (IsAnswerInput fields) (λ y. input.Answer y.0 y.1) x
IsInputOf version job word.Located fields x = IsFieldMade (IsLocated job fields) (λ y. input.Located y.0.0 y.0.1 y.1) x
IsInputOf version job word.Chunk fields x = IsFieldMade (IsChunk job fields) (λ y. input.Chunk y.0.0 y.0.1 y.1.0.0 y.1.0.1 y.1.1) x
IsInputOf version job word.Pull fields x = IsFieldMade (IsPull job fields) (λ y. input.Pull y.0.0 y.0.1 y.1) x
IsInputOf version job word.NotHere fields x = IsFieldMade (IsNotHere job fields) (λ y. input.NotHere y.0.0 y.0.1 y.1) x
IsInputOf version job word.Received fields x = IsReceived version job fields x
IsInputOf version job word.Withdrawn fields x = IsWithdrawn version job fields x

-- the same, with the word's field
pub record IsInputText (version : Version) (job : ℕ) (field : List ℕ) (fields : List (List ℕ)) (x : LineInput) : Type 0 where
  pub word : InputWord
  pub named : input_word_text word ≡ field
  pub spelled : IsInputOf version job word fields x

-- an input that begins with `s` is a session's: no word of another does
abbrev pub is_call_line : List ℕ → Bool
is_call_line [] = false
is_call_line (first ∷ rest) = first == 115

abbrev pub IsInputUnless : Bool → Version → ℕ → List ℕ → List (List ℕ) → LineInput → Type 0
IsInputUnless true version job field fields x = IsFieldMade (IsCallText job field fields) (λ y. input.Call y.0 y.1) x
IsInputUnless false version job field fields x = IsInputText version job field fields x

-- what a field and those after it spell
abbrev pub IsInputFrom : Version → ℕ → List ℕ → List (List ℕ) → LineInput → Type 0
IsInputFrom version job field fields x = IsInputUnless (is_call_line field) version job field fields x

abbrev pub IsInput : Version → ℕ → List (List ℕ) → LineInput → Type 0
IsInput version job [] x = ⊥
IsInput version job (field ∷ fields) x = IsInputFrom version job field fields x
