-- Which entry a line spells, and which form the first line names.
use Rattle.std.specs.Prelude.{◌≡◌, ℕ, ◌==◌, List, [], ◌∷◌, ◌++◌, codes, Bool, true, false, if◌then◌else◌}
use Rattle.std.specs.List.{slice_split}
use Rattle.obj_id.specs.declared.commands.Reply.{Reply}
use Rattle.obj_id.specs.declared.commands.Reply.TheVariants as reply
use Rattle.schedule_text.specs.Fields.{fields_of}
use Rattle.journal_text.specs.declared.entry.Address.{Address}
use Rattle.journal_text.specs.declared.entry.Entry.{Entry}
use Rattle.journal_text.specs.declared.entry.LineInput.{LineInput}
use Rattle.journal_text.specs.declared.entry.LineInput.TheVariants as input
use Rattle.journal_text.specs.declared.entry.Version.{Version}
use Rattle.journal_text.specs.declared.entry.Version.TheVariants.{One, Two, Three}
use Rattle.journal_text.specs.Fields.{IsAddress}
use Rattle.journal_text.specs.Inputs.{IsInput}
use Rattle.journal_text.specs.Replies.{IsReply}

-- the first line
abbrev pub head_text : Version → List ℕ
head_text One = codes "journal 1"
head_text Two = codes "journal 2"
head_text Three = codes "journal 3"

-- `ok`, or a refusal
abbrev pub is_outcome : Reply ℕ → Bool
is_outcome reply.Ok = true
is_outcome (reply.Refused refusal) = true
is_outcome _ = false

-- what isn't a command has no other answer
abbrev pub is_fitting : LineInput → Reply ℕ → Bool
is_fitting (input.Call session command) reply = true
is_fitting _ reply = is_outcome reply

-- what the job's input was and what it was answered
pub record IsInputRead (version : Version) (job : ℕ) (fields answer : List (List ℕ)) (x : LineInput × Reply ℕ) : Type 0 where
  pub asked : IsInput version job fields x.0
  pub answered : IsReply version job answer x.1
  pub fitting : is_fitting x.0 x.1 ≡ true

-- the entry of an address
pub record IsEntryAt (version : Version) (address : Address) (fields answer : List (List ℕ)) (x : Entry) : Type 0 where
  pub at : address ≡ x.address
  pub said : IsInputRead version address.job.0 fields answer (x.input, x.reply)

-- `nNODE jJOB K`, the input and the answer
pub record IsEntryOf (version : Version) (node job number : List ℕ) (fields answer : List (List ℕ)) (x : Entry) : Type 0 where
  pub address : Address
  pub addressed : IsAddress node job number address
  pub spelled : IsEntryAt version address fields answer x

abbrev pub IsEntry : Version → List (List ℕ) → List (List ℕ) → Entry → Type 0
IsEntry version (node ∷ job ∷ number ∷ fields) answer x = IsEntryOf version node job number fields answer x
IsEntry version _ answer x = ⊥

-- one space stands on either side of the equals sign
pub record IsSpaced (version : Version) (front back : List ℕ) (x : Entry) : Type 0 where
  pub asked : List ℕ
  pub answer : List ℕ
  pub before : front ≡ asked ++ codes " "
  pub after : back ≡ codes " " ++ answer
  pub spelled : IsEntry version (fields_of asked) (fields_of answer) x

abbrev pub IsHalves : Version → List (List ℕ) → Entry → Type 0
IsHalves version (front ∷ back ∷ []) x = IsSpaced version front back x
IsHalves version _ x = ⊥

abbrev pub cut_at_equals : List ℕ → List (List ℕ)
cut_at_equals text = slice_split (λ byte. byte == 61) text

-- what stands after a space at the beginning
abbrev pub after_space : List ℕ → List ℕ
after_space [] = []
after_space (byte ∷ rest) = if byte == 32 then rest else []

-- the answer, as it stands in a line with one equals sign
abbrev pub answer_in : List (List ℕ) → List ℕ
answer_in (front ∷ back ∷ []) = after_space back
answer_in _ = []

abbrev pub answer_part : List ℕ → List ℕ
answer_part text = answer_in (cut_at_equals text)

-- the line, without its line feed: there is one equals sign
abbrev pub IsEntryLine : Version → List ℕ → Entry → Type 0
IsEntryLine version text x = IsHalves version (cut_at_equals text) x
