-- A list that is no longer than a store's has a frame.
use Rattle.std.proofs.Common.{◌≡◌, ◌≤◌, true, List, length, arith}
use Rattle.std.specs.Prelude.{All, nat_le}
use Rattle.std.specs.List.{AllPass, list_all}
use Rattle.std.proofs.lemmas.Bool.{le-leb}
use Rattle.std.proofs.lemmas.List.Sums.{list_all-from_AllPass}
use Rattle.obj_id.specs.declared.commands.OwnItem.{OwnItem}
use Rattle.obj_id.specs.declared.commands.GrantedItem.{GrantedItem}
use Rattle.obj_id.specs.declared.commands.Reply.TheVariants as reply
use Rattle.private_store.specs.rules.Limits.{most_copies, most_granted, greatest_depth}
use Rattle.store_facts.proofs.Tests.{both}
use Rattle.wire_frames.specs.Replies.{IsGrantedItemBytes, IsOwnItemBytes}
use Rattle.wire_frames.specs.Writing.{has_reply_frame}
use Rattle.wire_frames.proofs.ForCallers.{small_has_frame}

pub list_framed : (own : List OwnItem) (granted : List GrantedItem) → All IsOwnItemBytes own → All IsGrantedItemBytes granted → AllPass (λ i. nat_le i.depth greatest_depth) granted
    → length own ≤ 1024 → length granted ≤ 4032 → has_reply_frame (reply.List own granted) ≡ true
list_framed own granted own_are granted_are shallow few_own few_granted =
    small_has_frame (reply.List own granted)
    (record { own_count = omega (arith, few_own); granted_count = omega (arith, few_granted); own_items = own_are; granted_items = granted_are })
    (both (nat_le (length own) most_copies) _ (le-leb (length own) most_copies few_own)
    (both (nat_le (length granted) most_granted) _ (le-leb (length granted) most_granted few_granted) (list_all-from_AllPass (λ i. nat_le i.depth greatest_depth) granted shallow)))
