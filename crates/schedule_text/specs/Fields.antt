-- Fields: what each spells alone, and what a few of them spell together.
use Rattle.std.specs.Prelude.{◌≡◌, ℕ, ◌^◌, ◌<◌, ◌==◌, List, [], ◌∷◌, Option, Some, IfSome, decimal, slice_index}
use Rattle.std.specs.List.{slice_split}
use Rattle.obj_id.specs.Ids.{IsId, IsTask}
use Rattle.obj_id.specs.Texts.{IsIdText, IsTaskText}
use Rattle.obj_id.specs.declared.ids.ObjectId.{ObjectId}
use Rattle.obj_id.specs.declared.ids.TaskNo.{TaskNo}
use Rattle.obj_id.specs.declared.ids.JobNo.{JobNo}
use Rattle.schedule_text.specs.Printing.{bytes_text}

-- what is read is what is spelled, and nothing that is spelled is missed
pub record Reads {X : Type 0} (result : Option X) (IsSpelled : X → Type 0) : Type 0 where
  pub sound : IfSome result IsSpelled
  pub whole : (x : X) → IsSpelled x → result ≡ Some x

-- made of something that is spelled
pub record IsFieldMade {A X : Type 0} (IsSpelled : A → Type 0) (make : A → X) (x : X) : Type 0 where
  pub part : A
  pub spelled : IsSpelled part
  pub made : make part ≡ x

-- what stands between the spaces of a line
abbrev pub fields_of : List ℕ → List (List ℕ)
fields_of text = slice_split (λ byte. byte == 32) text

-- ---- one field

-- a number of 32 bits
pub record IsNumber (field : List ℕ) (number : ℕ) : Type 0 where
  pub fits : number < 2 ^ 32
  pub spelled : decimal number ≡ field

-- a number of 64 bits
pub record IsLongNumber (field : List ℕ) (number : ℕ) : Type 0 where
  pub fits : number < 2 ^ 64
  pub spelled : decimal number ≡ field

-- the number of a node, below the number of nodes
pub record IsNode (nodes : ℕ) (field : List ℕ) (node : ℕ) : Type 0 where
  pub exists : node < nodes
  pub spelled : IsNumber field node

-- any number, also that of no job
abbrev pub IsJob : List ℕ → JobNo → Type 0
IsJob field job = IsNumber field job.0

-- an object, as the job that speaks names it
pub record IsObject (job : ℕ) (field : List ℕ) (id : ObjectId) : Type 0 where
  pub is_id : IsId id
  pub spelled : IsIdText job id field

pub record IsTaskField (field : List ℕ) (task : TaskNo) : Type 0 where
  pub is_task : IsTask task
  pub spelled : IsTaskText task field

-- bytes, spelled as they are printed
pub record IsBytesField (field bytes : List ℕ) : Type 0 where
  pub are_bytes : (i : ℕ) → slice_index bytes i < 256
  pub spelled : bytes_text bytes ≡ field

-- ---- fields after the word of a command

-- `ID`
abbrev pub IsId1 : ℕ → List (List ℕ) → ObjectId → Type 0
IsId1 job (id ∷ []) x = IsObject job id x
IsId1 job _ x = ⊥

-- an object and a number, each in its field
abbrev pub IsTarget : ℕ → List ℕ → List ℕ → ObjectId × ℕ → Type 0
IsTarget job id number x = IsObject job id x.0 × IsNumber number x.1

-- `ID NUMBER`
abbrev pub IsIdNumber : ℕ → List (List ℕ) → ObjectId × ℕ → Type 0
IsIdNumber job (id ∷ number ∷ []) x = IsTarget job id number x
IsIdNumber job _ x = ⊥

-- `ID JOB`
abbrev pub IsIdJob : ℕ → List (List ℕ) → ObjectId × JobNo → Type 0
IsIdJob job (id ∷ other ∷ []) x = IsObject job id x.0 × IsJob other x.1
IsIdJob job _ x = ⊥

-- `ID TASK`
abbrev pub IsIdTask : ℕ → List (List ℕ) → ObjectId × TaskNo → Type 0
IsIdTask job (id ∷ task ∷ []) x = IsObject job id x.0 × IsTaskField task x.1
IsIdTask job _ x = ⊥

-- `ID OFF N`: where it begins, and how many
abbrev pub IsIdSpan : ℕ → List (List ℕ) → (ObjectId × ℕ) × ℕ → Type 0
IsIdSpan job (id ∷ offset ∷ count ∷ []) x = IsTarget job id offset x.0 × IsNumber count x.1
IsIdSpan job _ x = ⊥

-- `ID OFF HEX`
abbrev pub IsIdBytes : ℕ → List (List ℕ) → (ObjectId × ℕ) × List ℕ → Type 0
IsIdBytes job (id ∷ offset ∷ digits ∷ []) x = IsTarget job id offset x.0 × IsBytesField digits x.1
IsIdBytes job _ x = ⊥

-- `TASK`
abbrev pub IsTask1 : List (List ℕ) → TaskNo → Type 0
IsTask1 (task ∷ []) x = IsTaskField task x
IsTask1 _ x = ⊥

-- no field: the one thing that is meant
pub record IsAlone {X : Type 0} (fields : List (List ℕ)) (meant x : X) : Type 0 where
  pub none : fields ≡ []
  pub made : meant ≡ x
