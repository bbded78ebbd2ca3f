-- What a step sends has numbers.
use Rattle.std.proofs.Common.{◌≡◌, ℕ, suc, ◌+◌, ◌==◌, ◌&&◌, Bool, true, false, cond, List, [], ◌∷◌, ◌++◌, append_assoc, append-nil, length, length-append, map, filter, take, Some, None, slice_get, refl, sym, ap, subst, ◌∙◌, arith}
use Rattle.std.specs.Prelude.{if◌then◌else◌}
use Rattle.std.proofs.lemmas.Bool.Decides.{nat_tests}
use Rattle.std.proofs.lemmas.List.{map-append}
use Rattle.std.proofs.Math.Seq.{take-append_seam}
use Rattle.obj_id.specs.declared.messages.Endpoint.{Endpoint}
use Rattle.obj_id.specs.declared.messages.Endpoint.TheVariants.{Node, Directory}
use Rattle.private_store.specs.declared.schedules.Traced.{Traced}
use Rattle.private_store.specs.rules.Cluster.{Sent, same_place, messages_between, posted}
use Rattle.private_store.specs.rules.Private.{Post}
use Rattle.store_facts.proofs.Tests.{both}
use Rattle.world_core.specs.Logs.{message_in}
use Rattle.cluster_history.specs.Sending.{number_at, number_of, sent_until, sent_before, IsSentBy, IsMailOf}
use Rattle.cluster_history.proofs.Carried.{between-append}

same_itself : (place : Endpoint) → same_place place place ≡ true
same_itself (Node place) = grind (arith, nat_tests)
same_itself Directory = refl

slice_get-at : {X : Type 0} (xs ys : List X) (y : X) → slice_get (xs ++ y ∷ ys) (length xs) ≡ Some y
slice_get-at [] ys y = refl
slice_get-at (x ∷ xs) ys y = slice_get-at xs ys y

abbrev pub one_sent : Endpoint → Post → Sent
one_sent from post = record { from = from; to = post.0; message = post.1 }

between_one : (from : Endpoint) (post : Post) (rest : List Sent) → messages_between from post.0 (one_sent from post ∷ rest) ≡ post.1 ∷ messages_between from post.0 rest
between_one from post rest =
    ap (λ b. map (λ (s : Sent). s.message) (cond b (one_sent from post ∷ filter (λ (s : Sent). same_place from s.from && same_place post.0 s.to) rest) (filter (λ (s : Sent). same_place from s.from && same_place post.0 s.to) rest)))
    (both (same_place from from) (same_place post.0 post.0) (same_itself from) (same_itself post.0))

-- a message stands under its number
number_found : (sent before rest : List Sent) (from : Endpoint) (post : Post) (position : ℕ) → sent ≡ before ++ one_sent from post ∷ rest → length before ≡ position
    → message_in sent from post.0 (number_at sent from post.0 position) ≡ Some post.1
number_found sent before rest from post position is many =
    let taken : take position sent ≡ before = ap (λ n. take n sent) (sym many) ∙ ap (take (length before)) is ∙ take-append_seam before (one_sent from post ∷ rest) in
    let ways : messages_between from post.0 sent ≡ messages_between from post.0 before ++ post.1 ∷ messages_between from post.0 rest =
    ap (messages_between from post.0) is ∙ between-append from post.0 before (one_sent from post ∷ rest) ∙ ap (λ l. messages_between from post.0 before ++ l) (between_one from post rest)
    in
    ap (λ l. slice_get (messages_between from post.0 sent) (length (messages_between from post.0 l))) taken
    ∙ ap (λ l. slice_get l (length (messages_between from post.0 before))) ways
    ∙ slice_get-at (messages_between from post.0 before) (messages_between from post.0 rest) post.1

-- ---- a mail, message by message

module _ (nodes job : ℕ) (from : Endpoint) (log : List Traced) (index : ℕ) (post : Post) (left : List Post) (m : IsMailOf nodes job from log index (post ∷ left)) where
  pub first_sent : IsSentBy nodes job from post.0 post.1 log index
  first_sent =
      number_found (sent_until nodes job log) (sent_before nodes job log ++ posted from m.earlier) (posted from left) from post (length (sent_before nodes job log) + index)
      (m.sent ∙ ap (λ l. sent_before nodes job log ++ l) (map-append (λ (p : Post). one_sent from p) m.earlier (post ∷ left)) ∙ sym (append_assoc (sent_before nodes job log) (posted from m.earlier) (one_sent from post ∷ posted from left)))
      (length-append (sent_before nodes job log) (posted from m.earlier) ∙ ap (λ n. length (sent_before nodes job log) + n) (posted_many m.earlier ∙ m.count))
    where
      posted_many : (posts : List Post) → length (posted from posts) ≡ length posts
      posted_many [] = refl
      posted_many (p ∷ ps) = ap (λ n. suc n) (posted_many ps)

  pub rest_is_mail : IsMailOf nodes job from log (index + 1) left
  rest_is_mail = record {
    earlier = m.earlier ++ post ∷ [];
    count = length-append m.earlier (post ∷ []) ∙ ap (λ n. n + 1) m.count;
    sent = m.sent ∙ ap (λ l. sent_before nodes job log ++ posted from l) (sym (append_assoc m.earlier (post ∷ []) left));
  }

-- all of it
pub mail_of : (nodes job : ℕ) (from : Endpoint) (log : List Traced) (posts : List Post) → sent_until nodes job log ≡ sent_before nodes job log ++ posted from posts → IsMailOf nodes job from log 0 posts
mail_of nodes job from log posts is = record { earlier = []; count = refl; sent = is }
