-- A call that waits is tried again and again.
use Rattle.std.proofs.Common.{◌≡◌, ℕ, List, [], ◌∷◌, ◌++◌, Option, None, length, replicate, refl, sym, ap, ◌∙◌}
use Rattle.std.proofs.Math.Numerals.{suc-eq-add-one}
use Rattle.std.proofs.lemmas.List.{append_assoc, append-nil, replicate_more}
use Rattle.std.proofs.lemmas.List.Elements.{All-cons, All-nil}
use Rattle.obj_id.specs.declared.commands.Reply.{Reply}
use Rattle.obj_id.specs.declared.commands.Reply.TheVariants as reply
use Rattle.obj_id.specs.declared.refusals.Refusal.TheVariants.{Pending}
use Rattle.private_store.specs.declared.schedules.Event.{Event}
use Rattle.node_gate.specs.Actors.{ActsIf, HasTried}

module _ {T : Type 0} (called : Event → Reply (List ℕ) → T → Type 0) (e : Event) (before : List Event) where
  pub tried_never : HasTried called None e before before
  tried_never = record { earlier = []; pending = All-nil (called e (reply.Refused Pending)); between = before; tried = sym (append-nil before); acts = refl }

  pub tried_again : (now after : List Event) → HasTried called None e before now → after ≡ now ++ e ∷ [] → (receipt : T) → called e (reply.Refused Pending) receipt
      → HasTried called None e before after
  tried_again now after tried made receipt pending =
      record {
        earlier = receipt ∷ tried.earlier;
        pending = All-cons (called e (reply.Refused Pending)) receipt tried.earlier pending tried.pending;
        between = after;
        tried = made ∙ ap (λ (ls : List Event). ls ++ e ∷ []) (tried.acts ∙ tried.tried) ∙ append_assoc before (replicate (length tried.earlier) e) (e ∷ [])
            ∙ ap (λ (ls : List Event). before ++ ls) (replicate_more (length tried.earlier) e ∙ ap (λ n. replicate n e) (sym (suc-eq-add-one (length tried.earlier))));
        acts = refl;
      }

  pub tried_last : (given : Option T) (now after : List Event) → HasTried called None e before now → ActsIf given e now after → HasTried called given e before after
  tried_last given now after tried acts =
      record { earlier = tried.earlier; pending = tried.pending; between = now; tried = tried.acts ∙ tried.tried; acts = acts }
