-- What the fields of an answer say.
use Rattle.std.specs.Prelude.{◌≡◌, ℕ, List, [], ◌∷◌}
use Rattle.obj_id.specs.declared.refusals.Refusal.{Refusal}
use Rattle.obj_id.specs.declared.commands.Usage.{Usage}
use Rattle.obj_id.specs.declared.commands.Reply.{Reply}
use Rattle.obj_id.specs.declared.commands.Reply.TheVariants as reply
use Rattle.obj_id.specs.Refusals.{name_of, number_of}
use Rattle.schedule_text.specs.Fields.{IsAlone, IsLongNumber, IsFieldMade, IsNumber}
use Rattle.journal_text.specs.declared.entry.Version.{Version}
use Rattle.journal_text.specs.declared.words.ReplyWord.{ReplyWord}
use Rattle.journal_text.specs.declared.words.ReplyWord.TheVariants as word
use Rattle.journal_text.specs.Fields.{IsCount}
use Rattle.journal_text.specs.Items.{IsListed}
use Rattle.journal_text.specs.Words.{reply_word_text}

-- `OFF EXT`
abbrev pub IsPlaced : List (List ℕ) → ℕ × ℕ → Type 0
IsPlaced (offset ∷ extent ∷ []) x = IsNumber offset x.0 × IsNumber extent x.1
IsPlaced _ x = ⊥

-- one number, and nothing else
abbrev pub IsNumberAlone : List (List ℕ) → ℕ → Type 0
IsNumberAlone (field ∷ []) x = IsNumber field x
IsNumberAlone _ x = ⊥

-- `#N`, and nothing else
abbrev pub IsCountAlone : List (List ℕ) → ℕ → Type 0
IsCountAlone (field ∷ []) x = IsCount field x
IsCountAlone _ x = ⊥

-- two numbers of 64 bits, each in its field
abbrev pub IsPair : List ℕ → List ℕ → ℕ × ℕ → Type 0
IsPair first second x = IsLongNumber first x.0 × IsLongNumber second x.1

-- copies and works
abbrev pub IsWorks : List (List ℕ) → ℕ × ℕ → Type 0
IsWorks (copies ∷ works ∷ []) x = IsPair copies works x
IsWorks _ x = ⊥

-- device bytes and what is used of them, and those
abbrev pub IsDevices : List (List ℕ) → (ℕ × ℕ) × (ℕ × ℕ) → Type 0
IsDevices (device ∷ used ∷ fields) x = IsPair device used x.0 × IsWorks fields x.1
IsDevices _ x = ⊥

-- a window and what is used of it, and those
abbrev pub IsWindows : List (List ℕ) → (ℕ × ℕ) × ((ℕ × ℕ) × (ℕ × ℕ)) → Type 0
IsWindows (window ∷ used ∷ fields) x = IsPair window used x.0 × IsDevices fields x.1
IsWindows _ x = ⊥

-- the six numbers
pub record IsUsage (fields : List (List ℕ)) (x : Usage) : Type 0 where
  pub spelled : IsWindows fields ((x.window, x.window_used), ((x.device, x.device_used), (x.copies, x.works)))

-- the items of a list, as an answer
abbrev pub IsListReply : Version → ℕ → List (List ℕ) → Reply ℕ → Type 0
IsListReply version job fields x = IsFieldMade (IsListed version job fields) (λ y. reply.List y.0 y.1) x

-- the number and the name are of one refusal
abbrev pub IsRefusal : List ℕ → List ℕ → Refusal → Type 0
IsRefusal number name x = IsNumber number (number_of x) × (name_of x ≡ name)

-- `N Name`
abbrev pub IsRefused : List (List ℕ) → Refusal → Type 0
IsRefused (number ∷ name ∷ []) x = IsRefusal number name x
IsRefused _ x = ⊥

-- what a word and the fields after it spell, for the line's job
abbrev pub IsReplyOf : Version → ℕ → ReplyWord → List (List ℕ) → Reply ℕ → Type 0
IsReplyOf version job word.Ok fields x = IsAlone fields reply.Ok x
IsReplyOf version job word.Placed fields x = IsFieldMade (IsPlaced fields) (λ y. reply.Placed y.0 y.1) x
IsReplyOf version job word.Got fields x = IsFieldMade (IsNumberAlone fields) (λ y. reply.Got y) x
IsReplyOf version job word.Bytes fields x = IsFieldMade (IsCountAlone fields) (λ y. reply.Bytes y) x
IsReplyOf version job word.List fields x = IsListReply version job fields x
IsReplyOf version job word.Usage fields x = IsFieldMade (IsUsage fields) (λ y. reply.Usage y) x
IsReplyOf version job word.Refused fields x = IsFieldMade (IsRefused fields) (λ y. reply.Refused y) x

-- the same, with the word's field
pub record IsReplyText (version : Version) (job : ℕ) (field : List ℕ) (fields : List (List ℕ)) (x : Reply ℕ) : Type 0 where
  pub word : ReplyWord
  pub named : reply_word_text word ≡ field
  pub spelled : IsReplyOf version job word fields x

abbrev pub IsReply : Version → ℕ → List (List ℕ) → Reply ℕ → Type 0
IsReply version job [] x = ⊥
IsReply version job (field ∷ fields) x = IsReplyText version job field fields x
