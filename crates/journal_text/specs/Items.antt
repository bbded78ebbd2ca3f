-- The items of a list, as they are read.
use Rattle.std.specs.Prelude.{◌≡◌, ℕ, List, [], ◌∷◌, codes, Bool, true, false}
use Rattle.std.specs.Str.{bytes_eq}
use Rattle.obj_id.specs.declared.commands.OwnItem.{OwnItem}
use Rattle.obj_id.specs.declared.commands.GrantedItem.{GrantedItem}
use Rattle.schedule_text.specs.Fields.{IsFieldMade, IsNumber, IsObject}
use Rattle.schedule_text.specs.Printing.{kind_word, state_word}
use Rattle.journal_text.specs.declared.entry.Version.{Version}
use Rattle.journal_text.specs.declared.entry.Version.TheVariants.{One, Two, Three}
use Rattle.journal_text.specs.declared.items.Item.{Item}
use Rattle.journal_text.specs.declared.items.Item.TheVariants.{Own, Granted}
use Rattle.journal_text.specs.Each.{IsEach}
use Rattle.journal_text.specs.Fields.{IsPositive}
use Rattle.journal_text.specs.Locations.{parts_of}

-- ---- one item

-- ID, STATE, KIND and LEN, each in its part
pub record IsOwnItem (job : ℕ) (id state kind length : List ℕ) (x : OwnItem) : Type 0 where
  pub named : IsObject job id x.id
  pub stated : state_word x.state ≡ state
  pub kinded : kind_word x.kind ≡ kind
  pub long : IsNumber length x.length

-- `KIND:LEN` after ID and STATE
abbrev pub IsOwn : ℕ → List ℕ → List ℕ → List (List ℕ) → OwnItem → Type 0
IsOwn job id state (kind ∷ length ∷ []) x = IsOwnItem job id state kind length x
IsOwn job id state _ x = ⊥

-- ID and LEN, each in its part, of a grant that the object's job gave itself
pub record IsFirstGrantItem (job : ℕ) (id length : List ℕ) (x : GrantedItem) : Type 0 where
  pub named : IsObject job id x.id
  pub long : IsNumber length x.length
  pub first : 1 ≡ x.depth

-- ID, LEN and DEPTH, each in its part
pub record IsGrantedItem (job : ℕ) (id length depth : List ℕ) (x : GrantedItem) : Type 0 where
  pub named : IsObject job id x.id
  pub long : IsNumber length x.length
  pub deep : IsPositive depth x.depth

-- `LEN` after ID and `granted`
abbrev pub IsFirstGrant : ℕ → List ℕ → List (List ℕ) → GrantedItem → Type 0
IsFirstGrant job id (length ∷ []) x = IsFirstGrantItem job id length x
IsFirstGrant job id _ x = ⊥

-- `LEN:DEPTH` after ID and `granted`
abbrev pub IsGrantItem : ℕ → List ℕ → List (List ℕ) → GrantedItem → Type 0
IsGrantItem job id (length ∷ depth ∷ []) x = IsGrantedItem job id length depth x
IsGrantItem job id _ x = ⊥

-- version 1 doesn't tell the depth
abbrev pub IsGranted : Version → ℕ → List ℕ → List (List ℕ) → GrantedItem → Type 0
IsGranted One job id parts x = IsFirstGrant job id parts x
IsGranted Two job id parts x = IsGrantItem job id parts x
IsGranted Three job id parts x = IsGrantItem job id parts x

abbrev pub IsItemUnless : Bool → Version → ℕ → List ℕ → List ℕ → List (List ℕ) → Item → Type 0
IsItemUnless true version job id word parts x = IsFieldMade (IsGranted version job id parts) (λ y. Granted y) x
IsItemUnless false version job id word parts x = IsFieldMade (IsOwn job id word parts) (λ y. Own y) x

-- an id, a word and the parts after them: `granted` is no state
abbrev pub IsItemOf : Version → ℕ → List ℕ → List ℕ → List (List ℕ) → Item → Type 0
IsItemOf version job id word parts x = IsItemUnless (bytes_eq word (codes "granted")) version job id word parts x

abbrev pub IsItemParts : Version → ℕ → List (List ℕ) → Item → Type 0
IsItemParts version job (id ∷ word ∷ parts) x = IsItemOf version job id word parts x
IsItemParts version job _ x = ⊥

abbrev pub IsItem : Version → ℕ → List ℕ → Item → Type 0
IsItem version job field x = IsItemParts version job (parts_of field) x

-- ---- all items

-- the own items among them, in order
abbrev pub own_of : List Item → List OwnItem
own_of [] = []
own_of (Own x ∷ items) = x ∷ own_of items
own_of (Granted x ∷ items) = own_of items

-- and the granted ones
abbrev pub granted_of : List Item → List GrantedItem
granted_of [] = []
granted_of (Own x ∷ items) = granted_of items
granted_of (Granted x ∷ items) = x ∷ granted_of items

abbrev pub all_granted : List Item → Bool
all_granted [] = true
all_granted (Own x ∷ items) = false
all_granted (Granted x ∷ items) = all_granted items

-- no own item stands after a granted one
abbrev pub items_in_order : List Item → Bool
items_in_order [] = true
items_in_order (Own x ∷ items) = items_in_order items
items_in_order (Granted x ∷ items) = all_granted items

-- the two halves of a list
pub record IsSorted (items : List Item) (x : List OwnItem × List GrantedItem) : Type 0 where
  pub ordered : items_in_order items ≡ true
  pub own : own_of items ≡ x.0
  pub granted : granted_of items ≡ x.1

-- each field spells an item, own ones first
pub record IsListed (version : Version) (job : ℕ) (fields : List (List ℕ)) (x : List OwnItem × List GrantedItem) : Type 0 where
  pub items : List Item
  pub spelled : IsEach (IsItem version job) fields items
  pub sorted : IsSorted items x
