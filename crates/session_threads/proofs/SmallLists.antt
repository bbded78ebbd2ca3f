-- The frame of a list.
use Rattle.std.proofs.Common.{◌≡◌, ◌≤◌, ℕ, ◌*◌, true, ◌&&◌, List, ◌∷◌, ◌++◌, length, flat_map, arith}
use Rattle.std.specs.Prelude.{nat_le, nat_lt}
use Rattle.std.specs.List.{list_all}
use Rattle.std.proofs.lemmas.Bool.Decides.{nat_tests}
use Rattle.std.proofs.lemmas.List.{length-append}
use Rattle.obj_id.specs.declared.commands.OwnItem.{OwnItem}
use Rattle.obj_id.specs.declared.commands.GrantedItem.{GrantedItem}
use Rattle.obj_id.specs.declared.commands.Reply.TheVariants as reply
use Rattle.private_store.specs.laws.Answers.{is_small_reply}
use Rattle.private_store.specs.rules.Frames.{be4, own_bytes, granted_bytes}
use Rattle.private_store.specs.rules.Limits.{most_copies, greatest_depth, most_granted}
use Rattle.store_facts.proofs.KeptLists.{all_weaker}
use Rattle.store_facts.proofs.Tests.{both, both_left, both_right}
use Rattle.wire_frames.specs.Writing.{is_reply_length, has_reply_frame}

within : (n most : ℕ) → nat_le n most ≡ true → n ≤ most
within n most t = grind (arith, nat_tests)

is_length : (n : ℕ) → 1 ≤ n → n ≤ 262144 → is_reply_length n ≡ true
is_length n low high = grind (arith, nat_tests)

byte_depth : (d : ℕ) → nat_le d greatest_depth ≡ true → nat_lt d 256 ≡ true
byte_depth d t = grind (arith, nat_tests)

-- the items of a small list fit
pub small_list : (own : List OwnItem) (granted : List GrantedItem) → length (flat_map own_bytes own) ≡ 34 * length own → length (flat_map granted_bytes granted) ≡ 33 * length granted
    → is_small_reply (reply.List own granted) ≡ true → has_reply_frame (reply.List own granted) ≡ true
small_list own granted eo eg small =
    let some = both_right (nat_le (length own) most_copies) (nat_le (length granted) most_granted && list_all (λ i. nat_le i.depth greatest_depth) granted) small in
    let few_own = within (length own) most_copies (both_left (nat_le (length own) most_copies) (nat_le (length granted) most_granted && list_all (λ i. nat_le i.depth greatest_depth) granted) small) in
    let few_granted = within (length granted) most_granted (both_left (nat_le (length granted) most_granted) (list_all (λ i. nat_le i.depth greatest_depth) granted) some) in
    let f = flat_map own_bytes own in
    let g = flat_map granted_bytes granted in
    let whole = length-append (be4 (length own) ++ f ++ be4 (length granted)) g in
    let front = length-append (be4 (length own) ++ f) (be4 (length granted)) in
    both _ (list_all (λ i. nat_lt i.depth 256) granted)
    (is_length (length (0x84 ∷ be4 (length own) ++ f ++ be4 (length granted) ++ g)) (omega arith) (omega (arith, whole, front, eo, eg, few_own, few_granted)))
    (all_weaker (λ i. nat_le i.depth greatest_depth) (λ i. nat_lt i.depth 256) granted (λ i t. byte_depth i.depth t)
    (both_right (nat_le (length granted) most_granted) (list_all (λ i. nat_le i.depth greatest_depth) granted) some))
