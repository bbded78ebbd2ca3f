-- Which keys a step erases: none while each copy is there.
use Rattle.std.proofs.Common.{◌≡◌, Bool, true, false, cond, ◌&&◌, [], ◌∷◌, Option, Some, None, is_some, is_none, refl, sym, ap, subst, ◌∙◌, T}
use Rattle.std.specs.List.{list_all, cons_option}
use Rattle.std.specs.Ordering.{is_eq}
use Rattle.std.specs.Cmp.{tied_itself}
use Rattle.obj_id.specs.declared.ids.ObjectId.{ObjectId}
use Rattle.obj_id.specs.Ids.{same_id}
use Rattle.private_store.specs.rules.Tables.{ById, at}
use Rattle.private_store.specs.rules.Shape.{Copy}
use Rattle.private_store.specs.rules.Change.{keys_gone}
use Rattle.store_facts.proofs.Ids.{id_cmp-IsTotalOrder}
use Rattle.store_facts.proofs.Tests.{and_left, and_right}

both : (a b : Bool) → T a → T b → T (a && b)
both true b h k = k
both false b h k = absurd h

-- each entry of a table is found in it
found_more : (es table : ById Copy) (f : ObjectId × Copy) → T (list_all (λ e. is_some (at table e.0)) es) → T (list_all (λ e. is_some (at (f ∷ table) e.0)) es)
found_more [] table f h = tt
found_more (e ∷ es) table f h =
    both (is_some (at (f ∷ table) e.0)) _ (here (same_id e.0 f.0) (and_left (is_some (at table e.0)) _ h)) (found_more es table f (and_right (is_some (at table e.0)) _ h))
  where
    here : (b : Bool) → T (is_some (at table e.0)) → T (is_some (cond b (Some f.1) (at table e.0)))
    here true k = tt
    here false k = k

pub all_found : (table : ById Copy) → T (list_all (λ e. is_some (at table e.0)) table)
all_found [] = tt
all_found (e ∷ es) =
    both (is_some (at (e ∷ es) e.0)) _
    (subst T (sym (ap (λ r. is_some (cond (is_eq r) (Some e.1) (at es e.0))) (tied_itself id_cmp-IsTotalOrder e.0))) tt)
    (found_more es es e (all_found es))

-- no key is erased where each copy is there
pub keys_none : (before after : ById Copy) → T (list_all (λ e. is_some (at after e.0)) before) → keys_gone before after ≡ []
keys_none [] after h = refl
keys_none (e ∷ es) after h = one (at after e.0) (and_left _ _ h) ∙ keys_none es after (and_right (is_some (at after e.0)) _ h)
  where
    one : (o : Option Copy) → T (is_some o) → cons_option (cond (is_none o) e.1.backed None) (keys_gone es after) ≡ keys_gone es after
    one None k = absurd k
    one (Some copy) k = refl
