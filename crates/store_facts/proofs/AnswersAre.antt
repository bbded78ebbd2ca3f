-- Every answer of a store: never NoMemory, the bytes that were asked for, and no more than a frame holds.
use Rattle.std.proofs.Common.{◌≡◌, ℕ, ◌+◌, ◌≤◌, ◌<◌, Bool, true, false, not, cond, ◌==◌, ◌&&◌, ◌||◌, nat_le, nat_lt, List, [], ◌∷◌, ◌++◌, length, map, take, drop, filter, Option, Some, None, is_some, unwrap_or, refl, sym, ap, subst, ◌∙◌, arith}
use Rattle.std.specs.Option.{option_map_or, option_and_then}
use Rattle.std.specs.List.{list_all}
use Rattle.std.specs.Ordering.{nat_cmp}
use Rattle.std.specs.FinMap.{find}
use Rattle.std.proofs.lemmas.Bool.{le-leb, ltb-false, ltb-true}
use Rattle.std.proofs.lemmas.List.{length-drop, length-take-le, length-map}
use Rattle.obj_id.specs.declared.ids.ObjectId.{ObjectId}
use Rattle.obj_id.specs.declared.commands.CopyState.{CopyState}
use Rattle.obj_id.specs.declared.commands.CopyState.TheVariants.{Created, Sealed, Restoring, Fetching, Away}
use Rattle.obj_id.specs.declared.commands.Command.TheVariants as command
use Rattle.obj_id.specs.declared.commands.Reply.{Reply}
use Rattle.obj_id.specs.declared.commands.Reply.TheVariants as reply
use Rattle.obj_id.specs.declared.messages.Arrival.TheVariants as arrival
use Rattle.obj_id.specs.declared.messages.PeerMessage.TheVariants as peer
use Rattle.private_store.specs.declared.inputs.Input.{Input}
use Rattle.private_store.specs.declared.inputs.Input.TheVariants as input
use Rattle.private_store.specs.declared.inputs.Judged.{Judged}
use Rattle.private_store.specs.declared.inputs.Judged.TheVariants as judged
use Rattle.private_store.specs.rules.Limits.{most_bytes, most_copies, greatest_depth, most_granted}
use Rattle.private_store.specs.rules.Tables.{ById, at, with_entry, without_entry}
use Rattle.private_store.specs.rules.Shape.{Copy, Shape, Fetch, Seen, GrantTaken, unbegun, Sending}
use Rattle.private_store.specs.rules.Commands.{holds_of, own_items, granted_items, oldest}
use Rattle.private_store.specs.rules.Step.{step}
use Rattle.private_store.specs.rules.Contents.{View, bytes_at, judge, bytes_answered, whole_reply}
use Rattle.private_store.specs.rules.Private.{view_step}
use Rattle.private_store.specs.laws.Invariants.{IsViewKept, are_held, has_extent}
use Rattle.private_store.specs.laws.Made.{Edit, receives, loses, IsReadAnswered, IsPeekAnswered, BytesAnswered, Response, response_ok, response_placed, response_got, response_bytes, response_list, response_usage, response_refused, is_silent, may_send}
use Rattle.private_store.specs.laws.Answers.{wants_memory, reply_without_payload, is_small_reply, AreGrantedWithin, may_receive, brings_within}
use Rattle.private_store.specs.rules.Copies.{is_sealed}
use Rattle.private_store.specs.laws.Listed.{AreSeenKept}
use Rattle.store_facts.proofs.EachStep.{step_made, input_keeps}
use Rattle.store_facts.proofs.ListsKept.{lost_seen}
use Rattle.store_facts.proofs.KeptLists.{all-filter}
use Rattle.store_facts.proofs.Rows.{put_rows, drop_rows}
use Rattle.std.specs.FinMap.Entries.{length-put, length_without}
use Rattle.obj_id.specs.Ids.{id_cmp}
use Rattle.store_facts.proofs.Ids.{id_cmp-IsTotalOrder}
use Rattle.private_store.specs.rules.Events.{received, grants_of, is_the_grant}
use Rattle.store_facts.proofs.Tests.{both, both_left, both_right, none_some, some_value, true_false, T_true}

-- whether the input is that another job granted an object
abbrev pub is_received : Judged → Bool
is_received (judged.Received id n grantor depth) = true
is_received _ = false

-- ---- none is NoMemory

told_wantless : {x : Judged} (store : Shape) (r : Reply ℕ) → Response x store r → wants_memory r ≡ false
told_wantless store r (response_refused refusal w) = w
told_wantless store r _ = refl

-- no step of any store answers so
pub never_wants : (order : List ObjectId) (store : Shape) (x : Judged) → wants_memory (step order store x).reply ≡ false
never_wants order store x = told_wantless store (step order store x).reply (step_made order store x).response

whole_wants : (view : View) (x : Input) (r : Reply ℕ) → wants_memory (whole_reply view x r) ≡ wants_memory r
whole_wants view x (reply.Refused refusal) = refl
whole_wants view x _ = refl

pub view_never_wants : (node : ℕ) (view : View) (x : Input) → wants_memory (view_step node view x).reply ≡ false
view_never_wants node view x = whole_wants view x (step view.order view.shape (judge node view x)).reply ∙ never_wants view.order view.shape (judge node view x)

-- ---- the bytes that were asked for

part_length : (bytes : List ℕ) (offset n m : ℕ) → length bytes ≡ m → nat_lt m (offset + n) ≡ false → length (take n (drop offset bytes)) ≡ n
part_length bytes offset n m e w = let d = length-drop offset bytes in let within : offset + n ≤ m = ltb-false m (offset + n) w in length-take-le n (drop offset bytes) (omega (arith, d, e, within))

-- a copy that a session holds has bytes here
held_copies : (copy : Copy) (session : ℕ) → (holds_of copy session == 0) ≡ false → are_held copy.holds ≡ true
held_copies copy session e = by_holds copy.holds e
  where
    by_holds : (holds : List (ℕ × ℕ)) → (unwrap_or (find nat_cmp session holds) 0 == 0) ≡ false → are_held holds ≡ true
    by_holds [] e = sym e
    by_holds (_ ∷ _) e = refl

sealed_extent : (state : CopyState) (fetch : Option Fetch) → is_sealed state ≡ true → has_extent state fetch ≡ true
sealed_extent Created fetch e = refl
sealed_extent Sealed fetch e = refl
sealed_extent Restoring fetch e = refl
sealed_extent Fetching fetch e = true_false e
sealed_extent Away fetch e = true_false e

read_length : (view : View) → IsViewKept view → (session : ℕ) (id : ObjectId) (offset n : ℕ) → IsReadAnswered view.shape session id offset n → length (take n (drop offset (bytes_at view.contents.bytes id))) ≡ n
read_length view h session id offset n t =
    let k = h.kept.shape.each id t.copy t.there in
    let here = k.resident ∙ sealed_extent t.copy.state t.copy.fetch (k.held (held_copies t.copy session t.held)) in
    part_length (bytes_at view.contents.bytes id) offset n t.copy.length ((h.kept.filled.each id t.copy t.there).bytes here) t.within

peek_length : (view : View) → IsViewKept view → (id : ObjectId) (offset n : ℕ) → IsPeekAnswered view.shape id offset n → length (take n (drop offset (bytes_at view.contents.received id))) ≡ n
peek_length view h id offset n t = part_length (bytes_at view.contents.received id) offset n t.seen.length (h.kept.filled.received id t.seen t.there) t.within

bytes_right : (node : ℕ) (view : View) (x : Input) (n : ℕ) → IsViewKept view → BytesAnswered view.shape (judge node view x) n → length (bytes_answered view x) ≡ n
bytes_right node view (input.Call session (command.Read id offset m)) n h b =
    ap (λ k. length (take k (drop offset (bytes_at view.contents.bytes id)))) b.0 ∙ read_length view h session id offset n b.1
bytes_right node view (input.Call session (command.Peek id offset m)) n h b =
    ap (λ k. length (take k (drop offset (bytes_at view.contents.received id)))) b.0 ∙ peek_length view h id offset n b.1
bytes_right node view (input.Arrive (arrival.Located id number entries)) n h b = absurd b
bytes_right node view (input.Arrive (arrival.FromPeer from (peer.Pull id number m digest indexes))) n h b = absurd b
bytes_right node view (input.Arrive (arrival.FromPeer from (peer.Chunk id number index bytes))) n h b = absurd b
bytes_right node view (input.Arrive (arrival.FromPeer from (peer.NotHere id number))) n h b = absurd b
bytes_right node view _ n h b = absurd b

told_whole : (node : ℕ) (view : View) (x : Input) (r : Reply ℕ) → IsViewKept view → Response (judge node view x) view.shape r → reply_without_payload (whole_reply view x r) ≡ r
told_whole node view x r h (response_bytes n b) = ap reply.Bytes (bytes_right node view x n h b)
told_whole node view x r h response_ok = refl
told_whole node view x r h (response_placed offset n) = refl
told_whole node view x r h (response_got id copy e) = refl
told_whole node view x r h response_list = refl
told_whole node view x r h response_usage = refl
told_whole node view x r h (response_refused refusal w) = refl

-- an answer without its contents is the answer of the step without contents
pub answers_whole : (node : ℕ) (view : View) (x : Input) → IsViewKept view → reply_without_payload (view_step node view x).reply ≡ (step view.order view.shape (judge node view x)).reply
answers_whole node view x h = told_whole node view x _ h (step_made view.order view.shape (judge node view x)).response

-- ---- no more than a frame holds

bytes_few : (store : Shape) (x : Judged) (n : ℕ) → BytesAnswered store x n → n ≤ most_bytes
bytes_few store (judged.Call session (command.Read id offset m)) n b = ltb-false most_bytes n b.1.few
bytes_few store (judged.Call session (command.Peek id offset m)) n b = ltb-false most_bytes n b.1.few
bytes_few store _ n b = absurd b

all_mapped : {X Y : Type 0} (p : Y → Bool) (f : X → Y) → ((x : X) → p (f x) ≡ true) → (xs : List X) → list_all p (map f xs) ≡ true
all_mapped p f h [] = refl
all_mapped p f h (x ∷ xs) = both (p (f x)) (list_all p (map f xs)) (h x) (all_mapped p f h xs)

shallow_items : (store : Shape) → AreGrantedWithin store.received → (id : ObjectId) → nat_le (option_map_or (λ (grant : GrantTaken). grant.depth) (oldest store id) 0) greatest_depth ≡ true
shallow_items store h id = by_seen (at store.received id) refl
  where
    first : Seen → Option GrantTaken
    first seen = elim seen.grants [ [] ↦ None | grant ∷ _ ↦ Some grant ]

    by_grants : (grants : List GrantTaken) → list_all (λ grant. nat_le grant.depth greatest_depth) grants ≡ true → nat_le (option_map_or (λ (grant : GrantTaken). grant.depth) (elim grants [ [] ↦ None | grant ∷ _ ↦ Some grant ]) 0) greatest_depth ≡ true
    by_grants [] e = refl
    by_grants (grant ∷ grants) e = both_left (nat_le grant.depth greatest_depth) (list_all (λ grant. nat_le grant.depth greatest_depth) grants) e

    by_seen : (o : Option Seen) → at store.received id ≡ o → nat_le (option_map_or (λ (grant : GrantTaken). grant.depth) (option_and_then (λ (seen : Seen). elim seen.grants [ [] ↦ None | grant ∷ _ ↦ Some grant ]) o) 0) greatest_depth ≡ true
    by_seen None e = refl
    by_seen (Some seen) e = by_grants seen.grants (h.shallow id seen e)

told_small : (node : ℕ) (view : View) (x : Input) (r : Reply ℕ) → IsViewKept view → AreGrantedWithin view.shape.received → Response (judge node view x) view.shape r → is_small_reply (whole_reply view x r) ≡ true
told_small node view x r h g (response_bytes n b) =
    le-leb (length (bytes_answered view x)) most_bytes (omega (arith, bytes_right node view x n h b, bytes_few view.shape (judge node view x) n b))
told_small node view x r h g response_list =
    let own = own_items view.shape in
    let granted = granted_items view.shape in
    both (nat_le (length own) most_copies) (nat_le (length granted) most_granted && list_all (λ i. nat_le i.depth greatest_depth) granted)
    (le-leb (length own) most_copies (subst (λ n. n ≤ most_copies) (sym (length-map view.shape.copies _)) h.kept.shape.most_copies))
    (both (nat_le (length granted) most_granted) (list_all (λ i. nat_le i.depth greatest_depth) granted)
    (le-leb (length granted) most_granted (subst (λ n. n ≤ most_granted) (sym (length-map view.shape.received _)) g.few))
    (all_mapped (λ i. nat_le i.depth greatest_depth) _ (λ e. shallow_items view.shape g e.0) view.shape.received))
told_small node view x r h g response_ok = refl
told_small node view x r h g (response_placed offset n) = refl
told_small node view x r h g (response_got id copy e) = refl
told_small node view x r h g response_usage = refl
told_small node view x r h g (response_refused refusal w) = refl

pub answers_small : (node : ℕ) (view : View) (x : Input) → IsViewKept view → AreGrantedWithin view.shape.received → is_small_reply (view_step node view x).reply ≡ true
answers_small node view x h g = told_small node view x _ h g (step_made view.order view.shape (judge node view x)).response

-- ---- what others granted stays within

abbrev are_shallow : List GrantTaken → Bool
are_shallow grants = list_all (λ grant. nat_le grant.depth greatest_depth) grants

put_size : (most : ℕ) (b : Bool) (n : ℕ) → n ≤ most → b || nat_lt n most ≡ true → cond b n (n + 1) ≤ most
put_size most true n h k = h
put_size most false n h k = let l : n < most = ltb-true n most k in omega (arith, l)

put_within : (received : ById Seen) (id : ObjectId) (seen : Seen) → AreSeenKept received → AreGrantedWithin received → is_some (at received id) || nat_lt (length received) most_granted ≡ true → are_shallow seen.grants ≡ true
    → AreGrantedWithin (with_entry received id seen)
put_within received id seen k h place t = record {
  few = subst (λ m. m ≤ most_granted) (sym (length-put id_cmp id_cmp-IsTotalOrder id seen received (T_true _ k.by_id))) (put_size most_granted (is_some (at received id)) (length received) h.few place);
  shallow = λ q s. put_rows (λ q o. o ≡ Some s → are_shallow s.grants ≡ true) received id seen (λ e. subst (λ y. are_shallow y.grants ≡ true) (some_value seen s e) t) (λ q _ e. h.shallow q s e) q;
}

drop_within : (received : ById Seen) (id : ObjectId) → AreSeenKept received → AreGrantedWithin received → AreGrantedWithin (without_entry received id)
drop_within received id k h = record {
  few = let l = length_without id_cmp id_cmp-IsTotalOrder id received (T_true _ k.by_id) in let f = h.few in less_by most_granted _ _ _ l f;
  shallow = λ q s. drop_rows (λ q o. o ≡ Some s → are_shallow s.grants ≡ true) received id (λ q e. none_some s e) (λ q e. h.shallow q s e) q;
}
  where
    less_by : (most a b n : ℕ) → a + b ≡ n → n ≤ most → b ≤ most
    less_by most a b n e h = omega (arith, e, h)

lost_within : (received : ById Seen) (id : ObjectId) (seen : Seen) (grants : List GrantTaken) → at received id ≡ Some seen → are_shallow grants ≡ true → AreSeenKept received → AreGrantedWithin received
    → AreGrantedWithin (option_map_or (λ left. with_entry received id left) (elim grants [ [] ↦ None | grant ∷ grants ↦ Some (record seen { grants = grant ∷ grants }) ]) (without_entry received id))
lost_within received id seen [] e t k h = drop_within received id k h
lost_within received id seen (grant ∷ grants) e t k h =
    put_within received id (record seen { grants = grant ∷ grants }) k h (ap (λ o. is_some o || nat_lt (length received) most_granted) e) t

grants_shallow : (store : Shape) (id : ObjectId) → AreGrantedWithin store.received → are_shallow (grants_of store id) ≡ true
grants_shallow store id h =
    elim (at store.received id) as (λ o. at store.received id ≡ o → are_shallow (option_map_or (λ (seen : Seen). seen.grants) o []) ≡ true) [ None ↦ λ _. refl | Some seen ↦ λ e. h.shallow id seen e ] refl

one_more_shallow : (grants : List GrantTaken) (grant : GrantTaken) → are_shallow grants ≡ true → nat_le grant.depth greatest_depth ≡ true → are_shallow (grants ++ grant ∷ []) ≡ true
one_more_shallow [] grant h t = both (nat_le grant.depth greatest_depth) true t refl
one_more_shallow (first ∷ grants) grant h t =
    both (nat_le first.depth greatest_depth) (are_shallow (grants ++ grant ∷ [])) (both_left (nat_le first.depth greatest_depth) (are_shallow grants) h) (one_more_shallow grants grant (both_right (nat_le first.depth greatest_depth) (are_shallow grants) h) t)

-- a grant that may come
received_within : (store : Shape) (id : ObjectId) (n : ℕ) (grantor : ℕ) (depth : ℕ) → may_receive store id depth ≡ true → AreSeenKept store.received → AreGrantedWithin store.received → AreGrantedWithin (received store id n grantor depth).shape.received
received_within store id n grantor depth may k h =
    let place = is_some (at store.received id) || nat_lt (length store.received) most_granted in
    put_within store.received id _ k h (both_right (nat_le depth greatest_depth) place may)
    (one_more_shallow (grants_of store id) (record { grantor = grantor; depth = depth }) (grants_shallow store id h) (both_left (nat_le depth greatest_depth) place may))

edit_within : {x : Judged} → is_received x ≡ false → (used : Option ObjectId) (store after : Shape) → Edit x used store after → AreSeenKept store.received × AreGrantedWithin store.received → AreSeenKept after.received × AreGrantedWithin after.received
edit_within other used store after (receives id n grantor depth is) h = true_false (sym other ∙ ap is_received is)
edit_within other used store after (loses id grantor depth seen e is) h =
    let left = filter (λ grant. not (is_the_grant grantor depth grant)) seen.grants in (
      lost_seen store.received id seen left h.0,
      lost_within store.received id seen left e (all-filter (λ grant. nat_le grant.depth greatest_depth) (λ grant. not (is_the_grant grantor depth grant)) seen.grants (h.1.shallow id seen e)) h.0 h.1,
    )
edit_within other used store after _ h = h

pub within_keeps : (order : List ObjectId) (store : Shape) (x : Judged) → brings_within store x ≡ true → AreSeenKept store.received → AreGrantedWithin store.received → AreGrantedWithin (step order store x).shape.received
within_keeps order store (judged.Received id n grantor depth) may k h = received_within store id n grantor.0 depth may k h
within_keeps order store x may k h = by_others x refl k h
  where
    by_others : (x : Judged) → is_received x ≡ false → AreSeenKept store.received → AreGrantedWithin store.received → AreGrantedWithin (step order store x).shape.received
    by_others x other k h = (input_keeps (λ s. AreSeenKept s.received × AreGrantedWithin s.received) order store x (edit_within other) (k, h)).1

pub unbegun_within : (job : ℕ) → AreGrantedWithin (unbegun job).received
unbegun_within job = record { few = omega arith; shallow = λ id seen e. none_some seen e }

-- ---- who is answered bytes

abbrev bytes_in : Reply ℕ → Option ℕ
bytes_in (reply.Bytes n) = Some n
bytes_in _ = None

told_bytes_are : {x : Judged} (store : Shape) (r : Reply ℕ) (n : ℕ) → Response x store r → bytes_in r ≡ Some n → BytesAnswered store x n
told_bytes_are {x} store r n (response_bytes m b) e = subst (BytesAnswered store x) (some_value m n e) b
told_bytes_are store r n response_ok e = none_some n e
told_bytes_are store r n (response_placed offset m) e = none_some n e
told_bytes_are store r n (response_got id copy h) e = none_some n e
told_bytes_are store r n response_list e = none_some n e
told_bytes_are store r n response_usage e = none_some n e
told_bytes_are store r n (response_refused refusal w) e = none_some n e

pub bytes_are_read : (order : List ObjectId) (store : Shape) (x : Judged) (n : ℕ) → (step order store x).reply ≡ reply.Bytes n → BytesAnswered store x n
bytes_are_read order store x n e = told_bytes_are store (step order store x).reply n (step_made order store x).response (ap bytes_in e)

-- ---- what is sent

nothing_sent : (p : Sending → Bool) (sent : List Sending) → ((m : Sending) → p m ≡ false) → list_all p sent ≡ true → sent ≡ []
nothing_sent p [] never h = refl
nothing_sent p (m ∷ sent) never h = true_false (sym (never m) ∙ both_left (p m) (list_all p sent) h)

silent_sends : (x : Judged) (m : Sending) → is_silent x ≡ true → may_send x m ≡ false
silent_sends (judged.Begin quota) m e = refl
silent_sends (judged.Requota quota) m e = refl
silent_sends (judged.Call session c) m e = true_false e
silent_sends (judged.Answer number verdict) m e = refl
silent_sends (judged.Located id number source) m e = refl
silent_sends (judged.Chunk id number index from verdict) m e = true_false e
silent_sends (judged.Pull id number matches) m e = true_false e
silent_sends (judged.NotHere id number from) m e = true_false e
silent_sends (judged.Received id n grantor depth) m e = refl
silent_sends (judged.Withdrawn id grantor depth) m e = refl
silent_sends judged.End m e = true_false e

pub sends_its_own : (order : List ObjectId) (store : Shape) (x : Judged) → list_all (may_send x) (step order store x).sent ≡ true
sends_its_own order store x = (step_made order store x).sent

pub silent_step : (order : List ObjectId) (store : Shape) (x : Judged) → is_silent x ≡ true → (step order store x).sent ≡ []
silent_step order store x e = nothing_sent (may_send x) (step order store x).sent (λ m. silent_sends x m e) (step_made order store x).sent
