-- The text that is written of an answer spells it.
use Rattle.std.proofs.Common.{◌≡◌, ℕ, ◌<◌, ◌≤◌, ◌^◌, ◌&&◌, Bool, true, false, nat_le, bytes_eq, List, [], ◌∷◌, ◌++◌, map, refl, sym, ap, subst, ◌∙◌, arith, decimal, codes, append_assoc, append-nil}
use Rattle.std.proofs.lemmas.Bool.{and_parts}
use Rattle.std.proofs.lemmas.Bool.Decides.{nat_tests}
use Rattle.std.specs.List.{list_all}
use Rattle.obj_id.specs.Ids.{IsId}
use Rattle.obj_id.specs.Refusals.{name_of, number_of}
use Rattle.obj_id.specs.Texts.{id_text}
use Rattle.obj_id.specs.declared.commands.CopyState.{CopyState}
use Rattle.obj_id.specs.declared.commands.CopyState.TheVariants.{Created, Sealed, Restoring, Fetching, Away}
use Rattle.obj_id.specs.declared.commands.GrantedItem.{GrantedItem}
use Rattle.obj_id.specs.declared.commands.Kind.{Kind}
use Rattle.obj_id.specs.declared.commands.Kind.TheVariants.{Primary, Secondary}
use Rattle.obj_id.specs.declared.commands.OwnItem.{OwnItem}
use Rattle.obj_id.specs.declared.commands.Reply.{Reply}
use Rattle.obj_id.specs.declared.commands.Reply.TheVariants as reply
use Rattle.obj_id.specs.declared.refusals.Refusal.{Refusal}
use Rattle.obj_id.specs.declared.refusals.Refusal.TheVariants as refusal
use Rattle.schedule_text.specs.Printing.{granted_item_text, granted_items_text, kind_word, own_item_text, own_items_text, state_word}
use Rattle.journal_text.specs.declared.entry.Version.TheVariants.{Three}
use Rattle.journal_text.specs.declared.items.Item.{Item}
use Rattle.journal_text.specs.declared.items.Item.TheVariants.{Own, Granted}
use Rattle.journal_text.specs.declared.words.ReplyWord.TheVariants as word
use Rattle.journal_text.specs.Each.{IsEach}
use Rattle.journal_text.specs.Items.{IsItem, IsItemParts, IsItemUnless, IsSorted, all_granted, granted_of, items_in_order, own_of}
use Rattle.journal_text.specs.Locations.{parts_of}
use Rattle.journal_text.specs.Printing.{reply_text_without_payload, count_field, spaced_text}
use Rattle.journal_text.specs.Replies.{IsReply}
use Rattle.journal_text.specs.Writable.{FitGranted, FitOwn, FitsPositive, FitsReply}
use Rattle.journal_text.proofs.WrittenFields.{long, number, object, plain32, plain_count}
use Rattle.journal_text.proofs.PlainFields.{AllFields, AllFields-plain, Field, Field-append, Field-plain, Plain, Plain-decimal, Plain-id_text, cut_part, is_plain, last_part, spaced_text-more}

-- ---- refusals

-- each has a number of few digits, and a name that is one word
small : (r : Refusal) → (nat_le (number_of r) 24 && list_all is_plain (name_of r)) ≡ true
small refusal.NotAdmitted = refl
small refusal.BadId = refl
small refusal.Exists = refl
small refusal.Absent = refl
small refusal.NotSealed = refl
small refusal.AlreadySealed = refl
small refusal.BadSize = refl
small refusal.OutOfBounds = refl
small refusal.Full = refl
small refusal.Pending = refl
small refusal.NotHeld = refl
small refusal.Granted = refl
small refusal.NotGranted = refl
small refusal.DeviceFailed = refl
small refusal.Damaged = refl
small refusal.Busy = refl
small refusal.TooMany = refl
small refusal.Gone = refl
small refusal.NoMemory = refl
small refusal.Malformed = refl
small refusal.NoRoom = refl
small refusal.NotOwner = refl
small refusal.NotResident = refl
small refusal.Stale = refl

number_of-lt : (r : Refusal) → number_of r < 2 ^ 32
number_of-lt r =
    let test : nat_le (number_of r) 24 ≡ true = (and_parts (nat_le (number_of r) 24) (list_all is_plain (name_of r)) (small r)).0 in
    let most : number_of r ≤ 24 = grind (arith, nat_tests, test) in
    omega (arith, most)

-- ---- items

not_granted : (s : CopyState) → bytes_eq (state_word s) (codes "granted") ≡ false
not_granted Created = refl
not_granted Sealed = refl
not_granted Restoring = refl
not_granted Fetching = refl
not_granted Away = refl

Plain-state_word : (s : CopyState) → Plain (state_word s)
Plain-state_word Created = refl
Plain-state_word Sealed = refl
Plain-state_word Restoring = refl
Plain-state_word Fetching = refl
Plain-state_word Away = refl

Plain-kind_word : (k : Kind) → Plain (kind_word k)
Plain-kind_word Primary = refl
Plain-kind_word Secondary = refl

module _ (job : ℕ) where
  own_parts : (x : OwnItem) → IsId x.id → x.length < 2 ^ 32 → parts_of (own_item_text job x) ≡ id_text job x.id ∷ state_word x.state ∷ kind_word x.kind ∷ decimal x.length ∷ []
  own_parts x is fits =
      let i = id_text job x.id in
      let s = state_word x.state in
      let k = kind_word x.kind in
      let n = decimal x.length in
      ap parts_of (append_assoc (i ++ codes ":" ++ s ++ codes ":" ++ k) (codes ":") n ∙ append_assoc (i ++ codes ":" ++ s ++ codes ":") k (58 ∷ n)
      ∙ append_assoc (i ++ codes ":" ++ s) (codes ":") (k ++ (58 ∷ n)) ∙ append_assoc (i ++ codes ":") s (58 ∷ k ++ (58 ∷ n)) ∙ append_assoc i (codes ":") (s ++ (58 ∷ k ++ (58 ∷ n))))
      ∙ cut_part i (s ++ (58 ∷ k ++ (58 ∷ n))) (Plain-id_text job x.id is)
      ∙ ap (λ ps. i ∷ ps) (cut_part s (k ++ (58 ∷ n)) (Plain-state_word x.state)
      ∙ ap (λ ps. s ∷ ps) (cut_part k n (Plain-kind_word x.kind) ∙ ap (λ ps. k ∷ ps) (last_part n (plain32 x.length fits))))

  IsItem-own : (x : OwnItem) → IsId x.id → x.length < 2 ^ 32 → IsItem Three job (own_item_text job x) (Own x)
  IsItem-own x is fits =
      let P : List (List ℕ) → Type 0 = λ ps. IsItemParts Three job ps (Own x) in
      let Q : Bool → Type 0 = λ b. IsItemUnless b Three job (id_text job x.id) (state_word x.state) (kind_word x.kind ∷ decimal x.length ∷ []) (Own x) in
      subst P (sym (own_parts x is fits)) (subst Q (sym (not_granted x.state)) (record {
        part = x;
        spelled = record { named = object job x.id is; stated = refl; kinded = refl; long = number x.length fits };
        made = refl;
      }))

  granted_parts : (x : GrantedItem) → IsId x.id → x.length < 2 ^ 32 → FitsPositive x.depth → parts_of (granted_item_text job x) ≡ id_text job x.id ∷ codes "granted" ∷ decimal x.length ∷ decimal x.depth ∷ []
  granted_parts x is fits deep =
      let i = id_text job x.id in
      let n = decimal x.length in
      let d = decimal x.depth in
      ap parts_of (append_assoc (i ++ codes ":granted:" ++ n) (codes ":") d ∙ append_assoc (i ++ codes ":granted:") n (58 ∷ d) ∙ append_assoc i (codes ":granted:") (n ++ (58 ∷ d)))
      ∙ cut_part i (codes "granted" ++ (58 ∷ n ++ (58 ∷ d))) (Plain-id_text job x.id is)
      ∙ ap (λ ps. i ∷ ps) (cut_part (codes "granted") (n ++ (58 ∷ d)) refl
      ∙ ap (λ ps. codes "granted" ∷ ps) (cut_part n d (plain32 x.length fits) ∙ ap (λ ps. n ∷ ps) (last_part d (plain32 x.depth deep.1))))

  IsItem-granted : (x : GrantedItem) → IsId x.id → x.length < 2 ^ 32 → FitsPositive x.depth → IsItem Three job (granted_item_text job x) (Granted x)
  IsItem-granted x is fits deep =
      let P : List (List ℕ) → Type 0 = λ ps. IsItemParts Three job ps (Granted x) in
      subst P (sym (granted_parts x is fits deep)) (record {
        part = x;
        spelled = record { named = object job x.id is; long = number x.length fits; deep = record { positive = deep.0; spelled = number x.depth deep.1 } };
        made = refl;
      })

  Field-own : (x : OwnItem) → IsId x.id → x.length < 2 ^ 32 → Field (own_item_text job x)
  Field-own x is fits =
      let i = id_text job x.id in
      let s = state_word x.state in
      let k = kind_word x.kind in
      let n = decimal x.length in
      Field-append (i ++ codes ":" ++ s ++ codes ":" ++ k ++ codes ":") n
      (Field-append (i ++ codes ":" ++ s ++ codes ":" ++ k) (codes ":")
      (Field-append (i ++ codes ":" ++ s ++ codes ":") k
      (Field-append (i ++ codes ":" ++ s) (codes ":")
      (Field-append (i ++ codes ":") s (Field-append i (codes ":") (Field-plain i (Plain-id_text job x.id is)) refl) (Field-plain s (Plain-state_word x.state))) refl)
      (Field-plain k (Plain-kind_word x.kind))) refl)
      (Field-plain n (plain32 x.length fits))

  Field-granted : (x : GrantedItem) → IsId x.id → x.length < 2 ^ 32 → FitsPositive x.depth → Field (granted_item_text job x)
  Field-granted x is fits deep =
      let i = id_text job x.id in
      let n = decimal x.length in
      let d = decimal x.depth in
      Field-append (i ++ codes ":granted:" ++ n ++ codes ":") d
      (Field-append (i ++ codes ":granted:" ++ n) (codes ":")
      (Field-append (i ++ codes ":granted:") n (Field-append i (codes ":granted:") (Field-plain i (Plain-id_text job x.id is)) refl) (Field-plain n (plain32 x.length fits))) refl)
      (Field-plain d (plain32 x.depth deep.1))

  -- ---- lists

  item_fields : List OwnItem → List GrantedItem → List (List ℕ)
  item_fields own granted = map (own_item_text job) own ++ map (granted_item_text job) granted

  granted_spaced : (xs : List GrantedItem) → granted_items_text job xs ≡ spaced_text (map (granted_item_text job) xs)
  granted_spaced [] = refl
  granted_spaced (x ∷ xs) = ap (λ rest. 32 ∷ granted_item_text job x ++ rest) (granted_spaced xs)

  items_spaced : (own : List OwnItem) (granted : List GrantedItem) → own_items_text job own ++ granted_items_text job granted ≡ spaced_text (item_fields own granted)
  unfolding item_fields
  items_spaced [] granted = granted_spaced granted
  items_spaced (x ∷ xs) granted =
      ap (λ rest. 32 ∷ rest) (append_assoc (own_item_text job x) (own_items_text job xs) (granted_items_text job granted)
      ∙ ap (λ rest. own_item_text job x ++ rest) (items_spaced xs granted))

  items : List OwnItem → List GrantedItem → List Item
  items own granted = map (λ x. Own x) own ++ map (λ x. Granted x) granted

  IsEach-granted : (xs : List GrantedItem) → FitGranted xs → IsEach (IsItem Three job) (map (granted_item_text job) xs) (map (λ x. Granted x) xs)
  IsEach-granted [] h = tt
  IsEach-granted (x ∷ xs) h = (IsItem-granted x h.0 h.1 h.2, IsEach-granted xs h.3)

  IsEach-items : (own : List OwnItem) (granted : List GrantedItem) → FitOwn own → FitGranted granted → IsEach (IsItem Three job) (item_fields own granted) (items own granted)
  unfolding item_fields items
  IsEach-items [] granted ho hg = IsEach-granted granted hg
  IsEach-items (x ∷ xs) granted ho hg = (IsItem-own x ho.0 ho.1, IsEach-items xs granted ho.2 hg)

  AllFields-granted : (xs : List GrantedItem) → FitGranted xs → AllFields (map (granted_item_text job) xs)
  AllFields-granted [] h = tt
  AllFields-granted (x ∷ xs) h = (Field-granted x h.0 h.1 h.2, AllFields-granted xs h.3)

  AllFields-items : (own : List OwnItem) (granted : List GrantedItem) → FitOwn own → FitGranted granted → AllFields (item_fields own granted)
  unfolding item_fields
  AllFields-items [] granted ho hg = AllFields-granted granted hg
  AllFields-items (x ∷ xs) granted ho hg = (Field-own x ho.0 ho.1, AllFields-items xs granted ho.2 hg)

  all_granted-map : (xs : List GrantedItem) → all_granted (map (λ x. Granted x) xs) ≡ true
  all_granted-map [] = refl
  all_granted-map (x ∷ xs) = all_granted-map xs

  in_order-granted : (xs : List GrantedItem) → items_in_order (map (λ x. Granted x) xs) ≡ true
  in_order-granted [] = refl
  in_order-granted (x ∷ xs) = all_granted-map xs

  own_of-granted : (xs : List GrantedItem) → own_of (map (λ x. Granted x) xs) ≡ []
  own_of-granted [] = refl
  own_of-granted (x ∷ xs) = own_of-granted xs

  granted_of-granted : (xs : List GrantedItem) → granted_of (map (λ x. Granted x) xs) ≡ xs
  granted_of-granted [] = refl
  granted_of-granted (x ∷ xs) = ap (λ ys. x ∷ ys) (granted_of-granted xs)

  IsSorted-items : (own : List OwnItem) (granted : List GrantedItem) → IsSorted (items own granted) (own, granted)
  unfolding items
  IsSorted-items [] granted = record { ordered = in_order-granted granted; own = own_of-granted granted; granted = granted_of-granted granted }
  IsSorted-items (x ∷ xs) granted =
      let rest = IsSorted-items xs granted in
      record { ordered = rest.ordered; own = ap (λ ys. x ∷ ys) rest.own; granted = rest.granted }

  -- ---- answers

  -- the fields of an answer
  pub reply_fields : Reply ℕ → List ℕ × List (List ℕ)
  reply_fields reply.Ok = (codes "ok", [])
  reply_fields (reply.Placed offset extent) = (codes "placed", decimal offset ∷ decimal extent ∷ [])
  reply_fields (reply.Got n) = (codes "got", decimal n ∷ [])
  reply_fields (reply.Bytes count) = (codes "bytes", count_field count ∷ [])
  reply_fields (reply.List own granted) = (codes "list", item_fields own granted)
  reply_fields (reply.Usage u) = (codes "usage", decimal u.window ∷ decimal u.window_used ∷ decimal u.device ∷ decimal u.device_used ∷ decimal u.copies ∷ decimal u.works ∷ [])
  reply_fields (reply.Work work) = (codes "work", [])
  reply_fields reply.NoWork = (codes "none", [])
  reply_fields (reply.Refused r) = (codes "refused", decimal (number_of r) ∷ name_of r ∷ [])

  one : (f : List ℕ) → 32 ∷ f ≡ spaced_text (f ∷ [])
  one f = ap (λ rest. 32 ∷ rest) (sym (append-nil f))

  -- a text with a field more
  more : (word f : List ℕ) (fs : List (List ℕ)) (text : List ℕ) → text ≡ word ++ spaced_text fs → text ++ codes " " ++ f ≡ word ++ spaced_text (fs ++ (f ∷ []))
  more word f fs text e =
      append_assoc text (codes " ") f ∙ ap (λ t. t ++ (32 ∷ f)) e ∙ append_assoc word (spaced_text fs) (32 ∷ f) ∙ ap (λ t. word ++ t) (sym (spaced_text-more fs f))

  -- its text is these fields, with a space between them
  pub reply_text_without_payload-fields : (r : Reply ℕ) → reply_text_without_payload job r ≡ (reply_fields r).0 ++ spaced_text (reply_fields r).1
  unfolding reply_fields
  reply_text_without_payload-fields reply.Ok = refl
  reply_text_without_payload-fields (reply.Placed offset extent) =
      more (codes "placed") (decimal extent) (decimal offset ∷ []) (codes "placed " ++ decimal offset) (ap (λ rest. codes "placed" ++ rest) (one (decimal offset)))
  reply_text_without_payload-fields (reply.Got n) = ap (λ rest. codes "got" ++ rest) (one (decimal n))
  reply_text_without_payload-fields (reply.Bytes count) = ap (λ rest. codes "bytes" ++ rest) (one (count_field count))
  reply_text_without_payload-fields (reply.List own granted) = ap (λ rest. codes "list" ++ rest) (items_spaced own granted)
  reply_text_without_payload-fields (reply.Usage u) =
      let word = codes "usage" in
      let a = decimal u.window in
      let b = decimal u.window_used in
      let c = decimal u.device in
      let d = decimal u.device_used in
      let e = decimal u.copies in
      let f = decimal u.works in
      let t1 = codes "usage " ++ a in
      let t2 = t1 ++ codes " " ++ b in
      let t3 = t2 ++ codes " " ++ c in
      let t4 = t3 ++ codes " " ++ d in
      let t5 = t4 ++ codes " " ++ e in
      let e1 = ap (λ rest. word ++ rest) (one a) in
      let e2 = more word b (a ∷ []) t1 e1 in
      let e3 = more word c (a ∷ b ∷ []) t2 e2 in
      let e4 = more word d (a ∷ b ∷ c ∷ []) t3 e3 in
      let e5 = more word e (a ∷ b ∷ c ∷ d ∷ []) t4 e4 in
      more word f (a ∷ b ∷ c ∷ d ∷ e ∷ []) t5 e5
  reply_text_without_payload-fields (reply.Work work) = refl
  reply_text_without_payload-fields reply.NoWork = refl
  reply_text_without_payload-fields (reply.Refused r) =
      more (codes "refused") (name_of r) (decimal (number_of r) ∷ []) (codes "refused " ++ decimal (number_of r)) (ap (λ rest. codes "refused" ++ rest) (one (decimal (number_of r))))

  pub AllFields-reply : (r : Reply ℕ) → FitsReply r → Field (reply_fields r).0 × AllFields (reply_fields r).1
  unfolding reply_fields
  AllFields-reply reply.Ok h = (refl, tt)
  AllFields-reply (reply.Placed offset extent) h = (refl, AllFields-plain (reply_fields (reply.Placed offset extent)).1 (plain32 offset h.0, (plain32 extent h.1, tt)))
  AllFields-reply (reply.Got n) h = (refl, AllFields-plain (reply_fields (reply.Got n)).1 (plain32 n h, tt))
  AllFields-reply (reply.Bytes count) h = (refl, AllFields-plain (reply_fields (reply.Bytes count)).1 (plain_count count h, tt))
  AllFields-reply (reply.List own granted) h = (refl, AllFields-items own granted h.0 h.1)
  AllFields-reply (reply.Usage u) h =
      (refl, AllFields-plain (reply_fields (reply.Usage u)).1 (Plain-decimal u.window h.0, (Plain-decimal u.window_used h.1, (Plain-decimal u.device h.2, (Plain-decimal u.device_used h.3, (Plain-decimal u.copies h.4, (Plain-decimal u.works h.5, tt)))))))
  AllFields-reply (reply.Work work) h = absurd h
  AllFields-reply reply.NoWork h = absurd h
  AllFields-reply (reply.Refused r) h = (refl, AllFields-plain (reply_fields (reply.Refused r)).1 (plain32 (number_of r) (number_of-lt r), ((and_parts (nat_le (number_of r) 24) (list_all is_plain (name_of r)) (small r)).1, tt)))

  -- and they spell the answer
  pub IsReply-written : (r : Reply ℕ) → FitsReply r → IsReply Three job ((reply_fields r).0 ∷ (reply_fields r).1) r
  unfolding reply_fields
  IsReply-written reply.Ok h = record { word = word.Ok; named = refl; spelled = record { none = refl; made = refl } }
  IsReply-written (reply.Placed offset extent) h = record { word = word.Placed; named = refl; spelled = record { part = (offset, extent); spelled = (number offset h.0, number extent h.1); made = refl } }
  IsReply-written (reply.Got n) h = record { word = word.Got; named = refl; spelled = record { part = n; spelled = number n h; made = refl } }
  IsReply-written (reply.Bytes count) h = record { word = word.Bytes; named = refl; spelled = record { part = count; spelled = record { fits = h; spelled = refl }; made = refl } }
  IsReply-written (reply.List own granted) h = record { word = word.List; named = refl; spelled = record { part = (own, granted); spelled = record { items = items own granted; spelled = IsEach-items own granted h.0 h.1; sorted = IsSorted-items own granted }; made = refl } }
  IsReply-written (reply.Usage u) h = record { word = word.Usage; named = refl; spelled = record { part = u; spelled = record { spelled = ((long u.window h.0, long u.window_used h.1), ((long u.device h.2, long u.device_used h.3), (long u.copies h.4, long u.works h.5))) }; made = refl } }
  IsReply-written (reply.Work work) h = absurd h
  IsReply-written reply.NoWork h = absurd h
  IsReply-written (reply.Refused r) h = record { word = word.Refused; named = refl; spelled = record { part = r; spelled = (number (number_of r) (number_of-lt r), refl); made = refl } }
