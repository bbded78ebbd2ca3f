-- The two halves of a list are found in one walk.
use Rattle.std.proofs.Common.{◌≡◌, ℕ, ◌+◌, ◌<◌, ◌≤◌, Bool, true, false, List, [], ◌∷◌, ◌++◌, Option, Some, None, IfSome, drop, get_or, length, refl, sym, ap, subst, ◌∙◌}
use Rattle.std.proofs.lemmas.List.{append_assoc, append-nil, at_drop_more, drop_all}
use Rattle.obj_id.specs.declared.commands.OwnItem.{OwnItem}
use Rattle.obj_id.specs.declared.commands.GrantedItem.{GrantedItem}
use Rattle.schedule_text.specs.Fields.{Reads}
use Rattle.journal_text.specs.declared.entry.Version.{Version}
use Rattle.journal_text.specs.declared.items.Item.{Item}
use Rattle.journal_text.specs.declared.items.Item.TheVariants.{Own, Granted}
use Rattle.journal_text.specs.Each.{IsEach}
use Rattle.journal_text.specs.Items.{IsItem, IsListed, IsSorted, all_granted, granted_of, items_in_order, own_of}

-- the order that the rest has to keep after those granted items
abbrev pub order_after : List GrantedItem → List Item → Bool
order_after [] rest = items_in_order rest
order_after (x ∷ xs) rest = all_granted rest

-- these are the halves of what stands before the rest
pub record IsSortedUpTo (items rest : List Item) (own : List OwnItem) (granted : List GrantedItem) : Type 0 where
  pub own_is : own ++ own_of rest ≡ own_of items
  pub granted_is : granted ++ granted_of rest ≡ granted_of items
  pub order_is : items_in_order items ≡ order_after granted rest

order-granted : (granted : List GrantedItem) (x : GrantedItem) (rest : List Item) → order_after granted (Granted x ∷ rest) ≡ order_after (granted ++ x ∷ []) rest
order-granted [] x rest = refl
order-granted (y ∷ ys) x rest = refl

order-end : (granted : List GrantedItem) → order_after granted [] ≡ true
order-end [] = refl
order-end (y ∷ ys) = refl

order-own : (granted : List GrantedItem) (x : OwnItem) (rest : List Item) → (granted ≡ [] → ⊥) → order_after granted (Own x ∷ rest) ≡ false
order-own [] x rest some = absurd (some refl)
order-own (y ∷ ys) x rest some = refl

module _ (items : List Item) (i : ℕ) (own : List OwnItem) (granted : List GrantedItem) (before : IsSortedUpTo items (drop i items) own granted) where
  module _ (d : Item) (inside : i < length items) where
    at : (x : Item) → get_or items i d ≡ x → IsSortedUpTo items (x ∷ drop (i + 1) items) own granted
    at x is =
        let P : List Item → Type 0 = λ rest. IsSortedUpTo items rest own granted in
        let Q : Item → Type 0 = λ y. IsSortedUpTo items (y ∷ drop (i + 1) items) own granted in
        subst Q is (subst P (at_drop_more (λ rest. rest) items i d inside) before)

    -- an own item, where none was granted
    pub IsSortedUpTo-own : (x : OwnItem) → get_or items i d ≡ Own x → granted ≡ [] → IsSortedUpTo items (drop (i + 1) items) (own ++ x ∷ []) granted
    IsSortedUpTo-own x is none = let here = at (Own x) is in record {
      own_is = append_assoc own (x ∷ []) (own_of (drop (i + 1) items)) ∙ here.own_is;
      granted_is = here.granted_is;
      order_is = here.order_is ∙ ap (λ g. order_after g (Own x ∷ drop (i + 1) items)) none ∙ sym (ap (λ g. order_after g (drop (i + 1) items)) none);
    }

    -- a granted item
    pub IsSortedUpTo-granted : (x : GrantedItem) → get_or items i d ≡ Granted x → IsSortedUpTo items (drop (i + 1) items) own (granted ++ x ∷ [])
    IsSortedUpTo-granted x is = let here = at (Granted x) is in record {
      own_is = here.own_is;
      granted_is = append_assoc granted (x ∷ []) (granted_of (drop (i + 1) items)) ∙ here.granted_is;
      order_is = here.order_is ∙ order-granted granted x (drop (i + 1) items);
    }

    -- an own item after a granted one
    pub Reads-disordered : (x : OwnItem) → get_or items i d ≡ Own x → (granted ≡ [] → ⊥) → Reads {X = List OwnItem × List GrantedItem} None (IsSorted items)
    Reads-disordered x is some = record {
      sound = tt;
      whole = λ y sorted. let order = (at (Own x) is).order_is ∙ order-own granted x (drop (i + 1) items) some in let ordered = sorted.ordered in absurd (cc);
    }

  pub Reads-sorted : length items ≤ i → Reads (Some (own, granted)) (IsSorted items)
  Reads-sorted end =
      let P : List Item → Type 0 = λ rest. IsSortedUpTo items rest own granted in
      let all = subst P (drop_all i items end) before in
      let own_is : own_of items ≡ own = sym all.own_is ∙ append-nil own in
      let granted_is : granted_of items ≡ granted = sym all.granted_is ∙ append-nil granted in
      record {
        sound = record { ordered = all.order_is ∙ order-end granted; own = own_is; granted = granted_is };
        whole = λ y sorted. (λ k. Some ((sym own_is ∙ sorted.own) k, (sym granted_is ∙ sorted.granted) k));
      }

-- a list of items is read as its fields are
module _ (version : Version) (job : ℕ) (fields : List (List ℕ)) (found : Option (List Item)) (reads : Reads found (IsEach (IsItem version job) fields)) where
  pub Reads-unlisted : found ≡ None → Reads {X = List OwnItem × List GrantedItem} None (IsListed version job fields)
  Reads-unlisted none = record {
    sound = tt;
    whole = λ x listed. let whole = reads.whole listed.items listed.spelled in absurd (cc);
  }

  pub Reads-listed : (items : List Item) → found ≡ Some items → (read : Option (List OwnItem × List GrantedItem)) → Reads read (IsSorted items) → Reads read (IsListed version job fields)
  Reads-listed items is None sorts = record {
    sound = tt;
    whole = λ x listed.
        let whole = reads.whole listed.items listed.spelled in
        let same : listed.items ≡ items = cc in
        sorts.whole x (subst (λ these. IsSorted these x) same listed.sorted);
  }
  Reads-listed items is (Some y) sorts = record {
    sound = let P : Option (List Item) → Type 0 = λ o. IfSome o (IsEach (IsItem version job) fields) in record { items = items; spelled = subst P is reads.sound; sorted = sorts.sound };
    whole = λ x listed.
        let whole = reads.whole listed.items listed.spelled in
        let same : listed.items ≡ items = cc in
        sorts.whole x (subst (λ these. IsSorted these x) same listed.sorted);
  }
