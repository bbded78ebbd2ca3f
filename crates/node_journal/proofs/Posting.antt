-- What the entry of a message tells of it.
use Rattle.std.proofs.Common.{◌≡◌, ℕ, ◌==◌, ◌&&◌, true, List, Option, Some, is_none, option_map, refl, sym, ap, subst, ◌∙◌, arith}
use Rattle.std.specs.Prelude.{unwrap_or}
use Rattle.std.proofs.lemmas.Bool.Decides.{nat_tests}
use Rattle.std.proofs.Math.Logic.{∥∥₁_elim}
use mathlib.Core.Bool.{Bool-set}
use Rattle.obj_id.specs.Ids.{same_id}
use Rattle.obj_id.specs.declared.ids.JobNo.{JobNo}
use Rattle.obj_id.specs.declared.commands.Reply.{Reply}
use Rattle.obj_id.specs.declared.commands.Reply.TheVariants as reply
use Rattle.obj_id.specs.declared.messages.Arrival.{Arrival}
use Rattle.obj_id.specs.declared.messages.Arrival.TheVariants as arrival
use Rattle.obj_id.specs.declared.messages.PeerMessage.TheVariants as peer
use Rattle.store_facts.proofs.Ids.{same_id-itself}
use Rattle.private_store.specs.declared.inputs.Input.TheVariants as input
use Rattle.private_store.specs.declared.inputs.Judged.{Judged}
use Rattle.private_store.specs.rules.Contents.{View, judge}
use Rattle.store_facts.proofs.Tests.{both}
use Rattle.node_core.specs.Hosted.{Hosted}
use Rattle.node_core.specs.Judged.{arrived, IsArrivalJudged}
use Rattle.node_journal.specs.Journals.{Journal, Tells}
use Rattle.node_journal.specs.Posts.{is_post_of, is_entered}

equal : (n : ℕ) → (n == n) ≡ true
equal n = grind (arith, nat_tests)

-- the word of a message is of it, whatever the view is
judged_of : (node : ℕ) (view : View) (a : Arrival) → is_post_of a (judge node view (input.Arrive a)) ≡ true
judged_of node view (arrival.Located id number entries) = both (same_id id id) (number == number) (same_id-itself id) (equal number)
judged_of node view (arrival.FromPeer from (peer.Pull id number size digest indexes)) = both (same_id id id) (number == number) (same_id-itself id) (equal number)
judged_of node view (arrival.FromPeer from (peer.Chunk id number index bytes)) =
    both (same_id id id) (number == number && (index == index && from == from)) (same_id-itself id)
    (both (number == number) (index == index && from == from) (equal number) (both (index == index) (from == from) (equal index) (equal from)))
judged_of node view (arrival.FromPeer from (peer.NotHere id number)) = both (same_id id id) (number == number && from == from) (same_id-itself id) (both (number == number) (from == from) (equal number) (equal from))

module _ (old : Hosted) (to : JobNo) (a : Arrival) (was : Option Judged) where
  by_view : (view : View) (response : Reply (List ℕ)) → option_map (judge old.number view) (arrived a response) ≡ was → is_entered a response was ≡ true
  by_view view reply.Ok is = subst (λ w. is_entered a reply.Ok w ≡ true) is (judged_of old.number view a)
  by_view view (reply.Placed o n) is = subst (λ w. is_none w ≡ true) is refl
  by_view view (reply.Got n) is = subst (λ w. is_none w ≡ true) is refl
  by_view view (reply.Bytes b) is = subst (λ w. is_none w ≡ true) is refl
  by_view view (reply.List own granted) is = subst (λ w. is_none w ≡ true) is refl
  by_view view (reply.Usage u) is = subst (λ w. is_none w ≡ true) is refl
  by_view view (reply.Work w) is = subst (λ w. is_none w ≡ true) is refl
  by_view view reply.NoWork is = subst (λ w. is_none w ≡ true) is refl
  by_view view (reply.Refused r) is = subst (λ w. is_none w ≡ true) is refl

  -- a node with a journal shows a view
  pub entry_is_of : (response : Reply (List ℕ)) (before : ℕ → Journal) → IsArrivalJudged old to a response was → ∥ Tells old before ∥₁ → is_entered a response was ≡ true
  entry_is_of response before is h = ∥∥₁_elim h (Bool-set _ _) (λ t. by_view (t.views to.0) response (is (t.views to.0) (t.shown to.0)))

-- a message is one arrival
pub one_arrival : (o : Option Arrival) (a b : Arrival) → o ≡ Some a → o ≡ Some b → a ≡ b
one_arrival o a b first second = ap (λ x. unwrap_or x a) (sym first ∙ second)
