-- Fields of a saved journal: marked numbers, where a line stands, and what several inputs share.
use Rattle.std.specs.Prelude.{◌≡◌, ℕ, ◌^◌, ◌<◌, ◌≤◌, List, ◌++◌, codes, decimal}
use Rattle.obj_id.specs.declared.ids.ObjectId.{ObjectId}
use Rattle.obj_id.specs.declared.ids.JobNo.{JobNo}
use Rattle.schedule_text.specs.Fields.{IsNumber, IsLongNumber, IsObject}
use Rattle.journal_text.specs.declared.entry.Address.{Address}

-- a number of 32 bits after a mark
pub record HasMark (mark field : List ℕ) (number : ℕ) : Type 0 where
  pub fits : number < 2 ^ 32
  pub spelled : mark ++ decimal number ≡ field

-- `#N`: a number of bytes, of 64 bits, in place of the bytes
pub record IsCount (field : List ℕ) (count : ℕ) : Type 0 where
  pub fits : count < 2 ^ 64
  pub spelled : codes "#" ++ decimal count ≡ field

-- `nNODE`
pub record IsNodeField (field : List ℕ) (node : ℕ) : Type 0 where
  pub exists : node < 8
  pub spelled : HasMark (codes "n") field node

-- `jJOB`
pub record IsJobField (field : List ℕ) (job : JobNo) : Type 0 where
  pub positive : 1 ≤ job.0
  pub spelled : HasMark (codes "j") field job.0

-- `nNODE jJOB K`, each in its field
pub record IsAddress (node job number : List ℕ) (x : Address) : Type 0 where
  pub at : IsNodeField node x.node
  pub named : IsJobField job x.job
  pub numbered : IsNumber number x.number

-- a number of 32 bits that is at least 1
pub record IsPositive (field : List ℕ) (number : ℕ) : Type 0 where
  pub positive : 1 ≤ number
  pub spelled : IsNumber field number

-- `GRANTOR DEPTH`, each in its field
abbrev pub IsGrant : List ℕ → List ℕ → JobNo × ℕ → Type 0
IsGrant grantor depth x = IsPositive grantor x.0.0 × IsPositive depth x.1

-- `ID NUMBER`, an object and the number of its fetch, each in its field
abbrev pub IsFetch : ℕ → List ℕ → List ℕ → ObjectId × ℕ → Type 0
IsFetch job id number x = IsObject job id x.0 × IsLongNumber number x.1
