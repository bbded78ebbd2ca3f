-- Messages are kept under the link that they went over and their number on it.
use Rattle.std.proofs.Common.{◌≡◌, ℕ, zero, suc, ◌≤◌, ◌==◌, Bool, true, false, cond, ◌&&◌, List, [], ◌∷◌, ◌++◌, append-nil, map, filter, length, slice_get, Some, None, refl, sym, ap, subst, ◌∙◌, arith, ◌+◌}
use Rattle.std.specs.Prelude.{unwrap_or}
use Rattle.std.specs.Map.{lookup}
use Rattle.std.proofs.lemmas.Bool.Decides.{nat_tests}
use Rattle.std.proofs.lemmas.List.{map-append}
use Rattle.std.proofs.lemmas.List.Elements.{filter-append}
use Rattle.indexmap.specs.IndexMap.{insert_entry}
use Rattle.indexmap.proofs.MapLemmas.{absent_from_lookup, insert_entry-absent}
use Rattle.obj_id.specs.declared.messages.Message.{Message}
use Rattle.obj_id.specs.declared.messages.Endpoint.{Endpoint}
use Rattle.obj_id.specs.declared.messages.Endpoint.TheVariants.{Node, Directory}
use Rattle.obj_id.specs.contracts.messages.EndpointPartialEq.TheImpl as place
use Rattle.private_store.specs.rules.Cluster.{Sent, same_place, messages_between}
use Rattle.store_facts.proofs.Tests.{both_left, both_right}
use Rattle.world_core.proofs.Numbers.{turned, same_number}
use Rattle.world_core.specs.declared.messages.Link.{Link}
use Rattle.world_core.specs.declared.messages.Numbered.{Numbered}
use Rattle.world_core.specs.contracts.messages.LinkPartialEq.TheImpl as link
use Rattle.world_core.specs.contracts.messages.NumberedPartialEq.TheImpl as numbered
use Rattle.world_core.specs.Logs.{same_link, same_numbered, message_in, count_over, sent_in, AreNumbered}

-- ---- links

place_eq : (a b : Endpoint) → (place.eq-value).it a b ≡ same_place a b
place_eq (Node a) (Node b) = refl
place_eq (Node a) Directory = refl
place_eq Directory (Node b) = refl
place_eq Directory Directory = refl

pub link_eq : (a b : Link) → (link.eq-value).it a b ≡ same_link a b
link_eq a b = λ i. place_eq a.from b.from i && place_eq a.to b.to i

pub number_eq : (a b : Numbered) → (numbered.eq-value).it a b ≡ same_numbered a b
number_eq a b = ap (λ t. t && (a.number == b.number)) (link_eq a.link b.link)

same_places : (a b : Endpoint) → same_place a b ≡ true → a ≡ b
same_places (Node a) (Node b) t = ap Node (same_number a b t)
same_places (Node a) Directory t = absurd cc
same_places Directory (Node b) t = absurd cc
same_places Directory Directory t = refl

turned_place : (a b : Endpoint) → same_place a b ≡ same_place b a
turned_place (Node a) (Node b) = turned a b
turned_place (Node a) Directory = refl
turned_place Directory (Node b) = refl
turned_place Directory Directory = refl

same_links : (a b : Link) → same_link a b ≡ true → a ≡ b
same_links a b t = λ i. record {
  from = same_places a.from b.from (both_left (same_place a.from b.from) (same_place a.to b.to) t) i;
  to = same_places a.to b.to (both_right (same_place a.from b.from) (same_place a.to b.to) t) i;
}

turned_link : (a b : Link) → same_link a b ≡ same_link b a
turned_link a b = λ i. turned_place a.from b.from i && turned_place a.to b.to i

-- ---- one message more

abbrev one_if : {X : Type 0} → Bool → X → List X
one_if t x = cond t (x ∷ []) []

between-push : (from to : Endpoint) (sent : List Sent) (x : Sent) → messages_between from to (sent ++ x ∷ []) ≡ messages_between from to sent ++ one_if (same_place from x.from && same_place to x.to) x.message
between-push from to sent x =
    ap (map (λ (s : Sent). s.message)) (filter-append (λ (s : Sent). same_place from s.from && same_place to s.to) sent (x ∷ []))
    ∙ map-append (λ (s : Sent). s.message) (filter (λ (s : Sent). same_place from s.from && same_place to s.to) sent) (one_if (same_place from x.from && same_place to x.to) x)
    ∙ ap (λ l. messages_between from to sent ++ l) (by (same_place from x.from && same_place to x.to))
  where
    by : (t : Bool) → map (λ (s : Sent). s.message) (one_if t x) ≡ one_if t x.message
    by true = refl
    by false = refl

-- where nothing was sent there is no message
pub none_in_none : (from to : Endpoint) (m : ℕ) → message_in [] from to m ≡ None
none_in_none from to zero = refl
none_in_none from to (suc m) = refl

not_first : (n : ℕ) → (zero == suc n) ≡ false
not_first n = grind (arith, nat_tests)

not_zero : (n : ℕ) → (suc n == zero) ≡ false
not_zero n = grind (arith, nat_tests)

both_next : (a b : ℕ) → (suc a == suc b) ≡ (a == b)
both_next a b = grind (arith, nat_tests)

slice_get-more : {X : Type 0} (xs : List X) (y : X) (i : ℕ) → slice_get (xs ++ y ∷ []) i ≡ cond (i == length xs) (Some y) (slice_get xs i)
slice_get-more [] y zero = refl
slice_get-more [] y (suc i) = ap (λ t. cond t (Some y) None) (sym (not_zero i))
slice_get-more (x ∷ xs) y zero = ap (λ t. cond t (Some y) (Some x)) (sym (not_first (length xs)))
slice_get-more (x ∷ xs) y (suc i) = slice_get-more xs y i ∙ ap (λ t. cond t (Some y) (slice_get xs i)) (sym (both_next i (length xs)))

message_in-push : (sent : List Sent) (x : Sent) (from to : Endpoint) (m : ℕ)
    → message_in (sent ++ x ∷ []) from to m ≡ cond (same_place from x.from && same_place to x.to) (cond (m == suc (count_over sent from to)) (Some x.message) (message_in sent from to m)) (message_in sent from to m)
message_in-push sent x from to zero = by (same_place from x.from && same_place to x.to)
  where
    by : (t : Bool) → None ≡ cond t (cond (zero == suc (count_over sent from to)) (Some x.message) None) None
    by true = ap (λ t. cond t (Some x.message) None) (sym (not_first (count_over sent from to)))
    by false = refl
message_in-push sent x from to (suc m) = ap (λ l. slice_get l m) (between-push from to sent x) ∙ by (same_place from x.from && same_place to x.to)
  where
    by : (t : Bool) → slice_get (messages_between from to sent ++ one_if t x.message) m
        ≡ cond t (cond (suc m == suc (count_over sent from to)) (Some x.message) (slice_get (messages_between from to sent) m)) (slice_get (messages_between from to sent) m)
    by true =
        slice_get-more (messages_between from to sent) x.message m
        ∙ ap (λ t. cond t (Some x.message) (slice_get (messages_between from to sent) m)) (sym (both_next m (count_over sent from to)))
    by false = ap (λ l. slice_get l m) (append-nil (messages_between from to sent))

length-more : {X : Type 0} (xs : List X) (y : X) → length (xs ++ y ∷ []) ≡ suc (length xs)
length-more [] y = refl
length-more (x ∷ xs) y = ap (λ n. suc n) (length-more xs y)

count_over-push : (sent : List Sent) (x : Sent) (from to : Endpoint) → count_over (sent ++ x ∷ []) from to ≡ cond (same_place from x.from && same_place to x.to) (suc (count_over sent from to)) (count_over sent from to)
count_over-push sent x from to = ap length (between-push from to sent x) ∙ by (same_place from x.from && same_place to x.to)
  where
    by : (t : Bool) → length (messages_between from to sent ++ one_if t x.message) ≡ cond t (suc (count_over sent from to)) (count_over sent from to)
    by true = length-more (messages_between from to sent) x.message
    by false = ap length (append-nil (messages_between from to sent))

-- ---- what is kept

module _ (kept : List (Numbered × Message)) (counts : List (Link × ℕ)) (h : AreNumbered kept counts) where
  pub found_by : (n : Numbered) → lookup ((numbered.eq-value).it n) kept ≡ message_in (sent_in kept) n.link.from n.link.to n.number
  found_by n = ap (λ test. lookup test kept) (λ i k. number_eq n k i) ∙ h.found n

  pub counted_by : (l : Link) → unwrap_or (lookup ((link.eq-value).it l) counts) 0 ≡ count_over (sent_in kept) l.from l.to
  counted_by l = ap (λ test. unwrap_or (lookup test counts) 0) (λ i k. link_eq l k i) ∙ h.counted l

  module _ (l : Link) (msg : Message) where
    abbrev sent : List Sent
    sent = sent_in kept

    abbrev x : Sent
    x = record { from = l.from; to = l.to; message = msg }

    abbrev next : ℕ
    next = suc (count_over sent l.from l.to)

    -- its number is free
    free : lookup ((numbered.eq-value).it (record { link = l; number = next })) kept ≡ None
    free = found_by (record { link = l; number = next }) ∙ past (messages_between l.from l.to sent)
      where
        past : {X : Type 0} (xs : List X) → slice_get xs (length xs) ≡ None
        past [] = refl
        past (x ∷ xs) = past xs

    module _ (more : List (Numbered × Message)) (new : List (Link × ℕ)) (is : more ≡ kept ++ (record { link = l; number = next }, msg) ∷ [])
        (found : (n : Numbered) → lookup ((numbered.eq-value).it n) more ≡ cond ((numbered.eq-value).it (record { link = l; number = next }) n) (Some msg) (lookup ((numbered.eq-value).it n) kept))
        (counted : (q : Link) → lookup ((link.eq-value).it q) new ≡ cond ((link.eq-value).it l q) (Some next) (lookup ((link.eq-value).it q) counts)) where
      sent_more : sent_in more ≡ sent ++ x ∷ []
      sent_more = ap sent_in is ∙ map-append (λ (e : Numbered × Message). record { from = e.0.link.from; to = e.0.link.to; message = e.1 }) kept ((record { link = l; number = next }, msg) ∷ [])

      found_more : (n : Numbered) → lookup (same_numbered n) more ≡ message_in (sent_in more) n.link.from n.link.to n.number
      found_more n =
          sym (ap (λ test. lookup test more) (λ i k. number_eq n k i))
          ∙ found n
          ∙ ap (λ t. cond t (Some msg) (lookup ((numbered.eq-value).it n) kept)) (number_eq (record { link = l; number = next }) n)
          ∙ by (same_link n.link l) refl
          ∙ sym (ap (λ s. message_in s n.link.from n.link.to n.number) sent_more ∙ message_in-push sent x n.link.from n.link.to n.number)
        where
          by : (t : Bool) → same_link n.link l ≡ t → cond (same_link l n.link && (next == n.number)) (Some msg) (lookup ((numbered.eq-value).it n) kept)
              ≡ cond (same_link n.link l) (cond (n.number == suc (count_over sent n.link.from n.link.to)) (Some msg) (message_in sent n.link.from n.link.to n.number)) (message_in sent n.link.from n.link.to n.number)
          by true t =
              (λ i. cond ((turned_link l n.link ∙ t) i && turned next n.number i) (Some msg) (found_by n i))
              ∙ ap (λ c. cond (n.number == suc c) (Some msg) (message_in sent n.link.from n.link.to n.number)) (ap (λ (q : Link). count_over sent q.from q.to) (sym (same_links n.link l t)))
              ∙ ap (λ t. cond t (cond (n.number == suc (count_over sent n.link.from n.link.to)) (Some msg) (message_in sent n.link.from n.link.to n.number)) (message_in sent n.link.from n.link.to n.number)) (sym t)
          by false t =
              (λ i. cond ((turned_link l n.link ∙ t) i && (next == n.number)) (Some msg) (found_by n i))
              ∙ ap (λ t. cond t (cond (n.number == suc (count_over sent n.link.from n.link.to)) (Some msg) (message_in sent n.link.from n.link.to n.number)) (message_in sent n.link.from n.link.to n.number)) (sym t)

      counted_more : (q : Link) → unwrap_or (lookup (same_link q) new) 0 ≡ count_over (sent_in more) q.from q.to
      counted_more q =
          sym (ap (λ test. unwrap_or (lookup test new) 0) (λ i k. link_eq q k i))
          ∙ ap (λ o. unwrap_or o 0) (counted q ∙ ap (λ t. cond t (Some next) (lookup ((link.eq-value).it q) counts)) (link_eq l q ∙ turned_link l q))
          ∙ by (same_link q l) refl
          ∙ sym (ap (λ s. count_over s q.from q.to) sent_more ∙ count_over-push sent x q.from q.to)
        where
          by : (t : Bool) → same_link q l ≡ t → unwrap_or (cond (same_link q l) (Some next) (lookup ((link.eq-value).it q) counts)) 0 ≡ cond (same_link q l) (suc (count_over sent q.from q.to)) (count_over sent q.from q.to)
          by true t =
              ap (λ t. unwrap_or (cond t (Some next) (lookup ((link.eq-value).it q) counts)) 0) t
              ∙ ap (λ (r : Link). suc (count_over sent r.from r.to)) (sym (same_links q l t))
              ∙ ap (λ t. cond t (suc (count_over sent q.from q.to)) (count_over sent q.from q.to)) (sym t)
          by false t =
              ap (λ t. unwrap_or (cond t (Some next) (lookup ((link.eq-value).it q) counts)) 0) t
              ∙ counted_by q
              ∙ ap (λ t. cond t (suc (count_over sent q.from q.to)) (count_over sent q.from q.to)) (sym t)

      numbered_more : AreNumbered more new
      numbered_more = record { found = found_more; counted = counted_more }

    -- a map of the messages, and one of the counts, after one message more
    abbrev IsPut : ℕ → List (Numbered × Message) → List (Link × ℕ) → Type 0
    IsPut number more new =
        (more ≡ insert_entry (numbered.eq-value).it kept (record { link = l; number = number }) msg)
        × ((n : Numbered) → lookup ((numbered.eq-value).it n) more ≡ cond ((numbered.eq-value).it (record { link = l; number = number }) n) (Some msg) (lookup ((numbered.eq-value).it n) kept))
        × ((q : Link) → lookup ((link.eq-value).it q) new ≡ cond ((link.eq-value).it l q) (Some number) (lookup ((link.eq-value).it q) counts))

    pub after_put : (count : ℕ) → count ≡ count_over sent l.from l.to → (more : List (Numbered × Message)) (new : List (Link × ℕ)) → IsPut (count + 1) more new → AreNumbered more new × (sent_in more ≡ sent ++ x ∷ [])
    after_put count is =
        let e : count + 1 ≡ next = omega (arith, is) in
        subst (λ n. (more : List (Numbered × Message)) (new : List (Link × ℕ)) → IsPut n more new → AreNumbered more new × (sent_in more ≡ sent ++ x ∷ [])) (sym e)
        (λ more new put.
        let last = put.0 ∙ insert_entry-absent (numbered.eq-value).it (record { link = l; number = next }) msg kept (absent_from_lookup ((numbered.eq-value).it (record { link = l; number = next })) kept free) in
        (numbered_more more new last put.1 put.2, sent_more more new last put.1 put.2))

-- no more went over a link than there are
pub count_within : (kept : List (Numbered × Message)) (from to : Endpoint) → count_over (sent_in kept) from to ≤ length kept
count_within [] from to = omega arith
count_within (e ∷ kept) from to = by (same_place from e.0.link.from && same_place to e.0.link.to) (count_within kept from to)
  where
    by : (t : Bool) → count_over (sent_in kept) from to ≤ length kept
        → length (map (λ (s : Sent). s.message) (cond t (record { from = e.0.link.from; to = e.0.link.to; message = e.1 } ∷ filter (λ (s : Sent). same_place from s.from && same_place to s.to) (sent_in kept)) (filter (λ (s : Sent). same_place from s.from && same_place to s.to) (sent_in kept)))) ≤ suc (length kept)
    by true h = omega (arith, h)
    by false h = omega (arith, h)
