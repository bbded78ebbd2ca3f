-- The entries of a Located.
use Rattle.std.specs.Prelude.{◌≡◌, ℕ, ◌<◌, ◌==◌, List, [], ◌∷◌, length, slice_index}
use Rattle.std.specs.List.{slice_split}
use Rattle.hex.specs.Hex.{encode_lower}
use Rattle.obj_id.specs.declared.ids.ObjectId.{ObjectId}
use Rattle.obj_id.specs.declared.messages.Digest.{Digest}
use Rattle.obj_id.specs.declared.messages.Location.{Location}
use Rattle.schedule_text.specs.Fields.{IsNumber}
use Rattle.journal_text.specs.Each.{IsEach}
use Rattle.journal_text.specs.Fields.{IsFetch}

-- what stands between the colons of a field
abbrev pub parts_of : List ℕ → List (List ℕ)
parts_of field = slice_split (λ byte. byte == 58) field

-- 32 bytes
pub record IsDigest (digest : Digest) : Type 0 where
  pub digest_length : length digest.0 ≡ 32
  pub digest_bytes : (i : ℕ) → slice_index digest.0 i < 256

-- 64 digits in lower case
pub record IsDigestField (field : List ℕ) (digest : Digest) : Type 0 where
  pub is_digest : IsDigest digest
  pub spelled : encode_lower digest.0 ≡ field

-- node, length and digest, each in its part
pub record IsLocationOf (node length digest : List ℕ) (x : Location) : Type 0 where
  pub at : IsNumber node x.node
  pub long : IsNumber length x.length
  pub digested : IsDigestField digest x.digest

abbrev pub IsLocationParts : List (List ℕ) → Location → Type 0
IsLocationParts (node ∷ length ∷ digest ∷ []) x = IsLocationOf node length digest x
IsLocationParts _ x = ⊥

-- `NODE:LEN:DIGEST`
abbrev pub IsLocation : List ℕ → Location → Type 0
IsLocation field x = IsLocationParts (parts_of field) x

-- `ID NUMBER`, then each entry in a field of its own
abbrev pub IsLocated : ℕ → List (List ℕ) → (ObjectId × ℕ) × List Location → Type 0
IsLocated job (id ∷ number ∷ entries) x = IsFetch job id number x.0 × IsEach IsLocation entries x.1
IsLocated job _ x = ⊥
