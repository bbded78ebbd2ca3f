-- The private store with stamps moves as its view does: stamps, and the order of use that a node shows,
-- say the same.
use Rattle.std.proofs.Common.{◌≡◌, ℕ, ◌+◌, ◌<◌, true, false, cond, List, [], ◌∷◌, Option, Some, None, is_some, unwrap_or, refl, sym, ap, subst, ◌∙◌, T, MatchOption, arith}
use Rattle.std.specs.FinMap.{is_sorted}
use Rattle.std.specs.Ordering.{eq_by_cmp}
use Rattle.obj_id.specs.declared.ids.ObjectId.{ObjectId}
use Rattle.private_store.specs.declared.inputs.Input.{Input}
use Rattle.obj_id.specs.Ids.{id_cmp}
use Rattle.private_store.specs.rules.Tables.{ById, at}
use Rattle.private_store.specs.rules.Step.{is_used}
use Rattle.private_store.specs.rules.Contents.{judge}
use Rattle.private_store.specs.rules.Private.{Store, view_of, view_step, private_outcome, private_step, restamped, by_stamp, no_store, store_from, view_from, private_replies, view_replies}
use Rattle.store_facts.proofs.Ids.{id_cmp-IsAntisymmetric, id_cmp-IsTotalOrder}
use Rattle.store_facts.proofs.Stamps.{AllBelow, IsStepped, by_stamp-restamped, find-map, is_sorted-map}
use Rattle.store_facts.proofs.Sound.{step_sound}

-- copies and stamps by id, each copy with a stamp, and no stamp of an input to come
pub record IsStamped (store : Store) : Type 0 where
  pub copies_in_order : T (is_sorted id_cmp store.shape.copies)
  pub stamps_in_order : T (is_sorted id_cmp store.stamps)
  pub below : AllBelow store.count store.stamps
  pub stamped : (id : ObjectId) → is_some (at store.shape.copies id) ≡ true → is_some (at store.stamps id) ≡ true

stepped : (node : ℕ) (store : Store) (x : Input) → IsStamped store → IsStepped store.count (private_outcome node store x).used store.stamps (private_outcome node store x).view.shape.copies
stepped node store x h =
    let k = (step_sound store.shape h.copies_in_order (by_stamp store.stamps) (judge node (view_of store) x)).is in
    record {
      below = h.below;
      old_sorted = h.stamps_in_order;
      new_sorted = k.in_order;
      had = λ id e u. h.stamped id (k.had id e u);
      there = k.there;
    }

-- the order by stamp, afterwards, is the view's order
pub view_of_step : (node : ℕ) (store : Store) (x : Input) → IsStamped store → view_of (private_step node store x) ≡ (view_step node (view_of store) x).view
view_of_step node store x h =
    let o = private_outcome node store x in
    let e : by_stamp (restamped store.count o.used store.stamps o.view.shape.copies) ≡ o.view.order =
    by_stamp-restamped store.count o.used store.stamps o.view.shape.copies (stepped node store x h) in
    λ i. record { shape = o.view.shape; order = e i; contents = o.view.contents }

unwrap_below : (n : ℕ) (o : Option ℕ) → MatchOption o (Unit {0}) (λ s. s < n) → unwrap_or o 0 < n + 1
unwrap_below n None h = omega arith
unwrap_below n (Some s) h = omega (arith, h)

find_below : (n : ℕ) (stamps : ById ℕ) (id : ObjectId) → AllBelow n stamps → MatchOption (at stamps id) (Unit {0}) (λ s. s < n)
find_below n [] id h = tt
find_below n (e ∷ es) id h =
    elim (eq_by_cmp id_cmp id e.0) as (λ b. MatchOption (cond b (Some e.1) (at es id)) (Unit {0}) (λ s. s < n)) [ true ↦ h.0 | false ↦ find_below n es id h.1 ]

restamped_below : {X : Type 0} (n : ℕ) (used : Option ObjectId) (stamps : ById ℕ) (copies : ById X) → AllBelow n stamps → AllBelow (n + 1) (restamped n used stamps copies)
restamped_below n used stamps [] h = tt
restamped_below n used stamps (e ∷ es) h = (
  elim (is_used used e.0) as (λ b. cond b n (unwrap_or (at stamps e.0) 0) < n + 1) [
    | true ↦ omega arith
    | false ↦ unwrap_below n (at stamps e.0) (find_below n stamps e.0 h)
  ],
  restamped_below n used stamps es h,
)

-- and it stays a store
pub private_step_IsStamped : (node : ℕ) (store : Store) (x : Input) → IsStamped store → IsStamped (private_step node store x)
private_step_IsStamped node store x h =
    let o = private_outcome node store x in
    let k = stepped node store x h in
    let stamp : ObjectId → ℕ = λ q. cond (is_used o.used q) store.count (unwrap_or (at store.stamps q) 0) in
    record {
      copies_in_order = k.new_sorted;
      stamps_in_order = subst T (sym (is_sorted-map id_cmp-IsTotalOrder id_cmp-IsAntisymmetric stamp o.view.shape.copies)) k.new_sorted;
      below = restamped_below store.count o.used store.stamps o.view.shape.copies h.below;
      stamped = λ id e. ap is_some (find-map id_cmp-IsTotalOrder id_cmp-IsAntisymmetric stamp id o.view.shape.copies)
          ∙ ap (λ b. is_some (cond b (Some (stamp id)) None)) e;
    }

-- a store that was never admitted
pub no_store_IsStamped : (job : ℕ) → IsStamped (no_store job)
no_store_IsStamped job = record { copies_in_order = tt; stamps_in_order = tt; below = tt; stamped = λ id e. absurd (subst T (sym e) tt) }

-- over a list of inputs too
pub view_of_run : (node : ℕ) (store : Store) (xs : List Input) → IsStamped store → view_of (store_from node store xs) ≡ view_from node (view_of store) xs
view_of_run node store [] h = refl
view_of_run node store (x ∷ xs) h =
    view_of_run node (private_step node store x) xs (private_step_IsStamped node store x h)
    ∙ ap (λ view. view_from node view xs) (view_of_step node store x h)

-- and so the replies are the same
pub replies_of_run : (node : ℕ) (store : Store) (xs : List Input) → IsStamped store → private_replies node store xs ≡ view_replies node (view_of store) xs
replies_of_run node store [] h = refl
replies_of_run node store (x ∷ xs) h =
    ap (λ rs. (private_outcome node store x).reply ∷ rs)
    (replies_of_run node (private_step node store x) xs (private_step_IsStamped node store x h)
    ∙ ap (λ view. view_replies node view xs) (view_of_step node store x h))
