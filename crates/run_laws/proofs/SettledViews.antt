-- After a step the contents and the order of use are those of the copies that are there, so that a step which changes no
-- copy leaves them.
use Rattle.std.proofs.Common.{◌≡◌, ℕ, Bool, true, false, not, cond, ◌&&◌, List, [], ◌∷◌, ◌++◌, map, filter, option_to_list, Option, Some, None, is_some, unwrap_or, refl, sym, ap, subst, ◌∙◌, T, MatchOption}
use Rattle.std.specs.FinMap.{is_sorted}
use Rattle.std.specs.FinMap.Entries.{below_all}
use Rattle.std.proofs.lemmas.List.{append-nil}
use Rattle.std.proofs.lemmas.List.Elements.{filter-append}
use Rattle.obj_id.specs.declared.ids.ObjectId.{ObjectId}
use Rattle.obj_id.specs.Ids.{id_cmp, same_id}
use Rattle.store_facts.proofs.Ids.{same_id-equal, same_id-itself}
use Rattle.private_store.specs.declared.inputs.Input.{Input}
use Rattle.private_store.specs.rules.Tables.{ById, at}
use Rattle.private_store.specs.rules.Step.{step, is_used, reordered}
use Rattle.private_store.specs.rules.Contents.{View, kept, keeps_digest, no_digest, judge, brought, bytes_brought, digest_brought}
use Rattle.private_store.specs.rules.Private.{Store, view_of, view_step, view_from, private_step, no_store, store_from}
use Rattle.private_store.specs.laws.Invariants.{IsViewKept}
use Rattle.store_facts.proofs.Filling.{below_none, kept_row, at-kept, resides, zeros}
use Rattle.store_facts.proofs.Sound.{step_sound}
use Rattle.store_facts.proofs.Stamped.{IsStamped, private_step_IsStamped, no_store_IsStamped, view_of_step, view_of_run}
use Rattle.store_facts.proofs.StepsKept.{view_keeps, no_store_kept}
use Rattle.store_facts.proofs.Tests.{none_some, both, both_left, and_left, and_right}
use Rattle.run_laws.proofs.StoresKept.{HasCome}

-- ---- tables that are kept twice

-- each of these entries is found in the table
abbrev AllAt : {X : Type 0} → ById X → ById X → Type 0
AllAt table [] = Unit {0}
AllAt table (e ∷ es) = (at table e.0 ≡ Some e.1) × AllAt table es

module _ {X : Type 0} where
  found_more : (e : ObjectId × X) (es xs : ById X) → T (below_all id_cmp e.0 es) → AllAt es xs → AllAt (e ∷ es) xs
  found_more e es [] below all = tt
  found_more e es (x ∷ xs) below all = (
    elim (same_id x.0 e.0) as (λ b. same_id x.0 e.0 ≡ b → cond b (Some e.1) (at es x.0) ≡ Some x.1) [
      | true ↦ λ t. none_some x.1 (sym (below_none e.0 es below) ∙ ap (at es) (sym (same_id-equal x.0 e.0 t)) ∙ all.0)
      | false ↦ λ _. all.0
    ] refl,
    found_more e es xs below all.1,
  )

  all_found : (es : ById X) → T (is_sorted id_cmp es) → AllAt es es
  all_found [] h = tt
  all_found (e ∷ es) h = (
    ap (λ b. cond b (Some e.1) (at es e.0)) (same_id-itself e.0),
    found_more e es es (and_left (below_all id_cmp e.0 es) (is_sorted id_cmp es) h) (all_found es (and_right (below_all id_cmp e.0 es) (is_sorted id_cmp es) h)),
  )

  module _ {Y : Type 0} (test : X → Bool) (default : X → Y) (table : ById Y) (es : ById X) (sorted : T (is_sorted id_cmp es)) where
    abbrev once : ById Y
    once = kept test default table es

    again : (xs : ById X) → AllAt es xs → kept test default once xs ≡ kept test default table xs
    again [] all = refl
    again (x ∷ xs) all =
        let f : ObjectId × X → ObjectId × Y = λ e. (e.0, unwrap_or (at once e.0) (default e.1)) in
        let g : ObjectId × X → ObjectId × Y = λ e. (e.0, unwrap_or (at table e.0) (default e.1)) in
        elim (test x.1) as (λ b. test x.1 ≡ b → map f (cond b (x ∷ filter (λ e. test e.1) xs) (filter (λ e. test e.1) xs)) ≡ map g (cond b (x ∷ filter (λ e. test e.1) xs) (filter (λ e. test e.1) xs))) [
          | true ↦ λ t.
              let row : at once x.0 ≡ Some (unwrap_or (at table x.0) (default x.1)) =
              at-kept test default table es sorted x.0 ∙ ap (kept_row test default table x.0) all.0 ∙ ap (λ b. cond b (Some (unwrap_or (at table x.0) (default x.1))) None) t in
              λ i. (x.0, unwrap_or (row i) (default x.1)) ∷ again xs all.1 i
          | false ↦ λ _. again xs all.1
        ] refl

    kept_twice : kept test default once es ≡ once
    kept_twice = again es (all_found es sorted)

-- ---- an order that is reordered twice

filter_once : {X : Type 0} (p q : X → Bool) (xs : List X) → ((x : X) → q x ≡ true → p x ≡ true) → filter p (filter q xs) ≡ filter q xs
filter_once p q [] implied = refl
filter_once p q (x ∷ xs) implied =
    elim (q x) as (λ b. q x ≡ b → filter p (cond b (x ∷ filter q xs) (filter q xs)) ≡ cond b (x ∷ filter q xs) (filter q xs)) [
      | true ↦ λ t. ap (λ b. cond b (x ∷ filter p (filter q xs)) (filter p (filter q xs))) (implied x t) ∙ ap (λ l. x ∷ l) (filter_once p q xs implied)
      | false ↦ λ _. filter_once p q xs implied
    ] refl

reordered_twice : {X : Type 0} (order : List ObjectId) (copies : ById X) (used : Option ObjectId) → MatchOption used (Unit {0}) (λ id. is_some (at copies id) ≡ true) → reordered (reordered order copies used) copies None ≡ reordered order copies used
reordered_twice order copies used there =
    let p : ObjectId → Bool = λ id. is_some (at copies id) && true in
    let q : ObjectId → Bool = λ id. is_some (at copies id) && not (is_used used id) in
    append-nil (filter p (filter q order ++ option_to_list used))
    ∙ filter-append p (filter q order) (option_to_list used)
    ∙ (λ i. filter_once p q order (λ id t. both (is_some (at copies id)) true (both_left (is_some (at copies id)) (not (is_used used id)) t) refl) i ++ last used there i)
  where
    last : (o : Option ObjectId) → MatchOption o (Unit {0}) (λ id. is_some (at copies id) ≡ true) → filter (λ id. is_some (at copies id) && true) (option_to_list o) ≡ option_to_list o
    last None h = refl
    last (Some id) h = ap (λ b. cond (b && true) (id ∷ []) []) h

-- ---- views

pub record IsSettled (view : View) : Type 0 where
  pub bytes : kept resides zeros view.contents.bytes view.shape.copies ≡ view.contents.bytes
  pub digests : kept keeps_digest (λ copy. no_digest) view.contents.digests view.shape.copies ≡ view.contents.digests
  pub order : reordered view.order view.shape.copies None ≡ view.order

step_settled : (node : ℕ) (view : View) (x : Input) → IsViewKept view → IsSettled (view_step node view x).view
step_settled node view x h =
    let y = judge node view x in
    let c = step view.order view.shape y in
    let k = (step_sound view.shape (subst T (sym h.kept.shape.by_id) tt) view.order y).is in
    record {
      bytes = kept_twice resides zeros (brought view.contents.bytes (bytes_brought view x y c.reply)) c.shape.copies k.in_order;
      digests = kept_twice keeps_digest (λ copy. no_digest) (brought view.contents.digests (digest_brought node view x c.reply)) c.shape.copies k.in_order;
      order = reordered_twice view.order c.shape.copies c.used k.there;
    }

from_settled : (node : ℕ) (view : View) (xs : List Input) → IsViewKept view → IsSettled view → IsSettled (view_from node view xs)
from_settled node view [] h s = s
from_settled node view (x ∷ xs) h s = from_settled node (view_step node view x).view xs (view_keeps node view x h) (step_settled node view x h)

pub come_settled : (job node : ℕ) (s : Store) → HasCome job node s → IsSettled (view_of s)
come_settled job node s c =
    subst (λ x. IsSettled (view_of x)) (sym c.1)
    (subst IsSettled (sym (view_of_run node (no_store job) c.0 (no_store_IsStamped job)))
    (from_settled node (view_of (no_store job)) c.0 (no_store_kept job) (record { bytes = refl; digests = refl; order = refl })))

-- ---- and stamps

from_stamped : (node : ℕ) (s : Store) (xs : List Input) → IsStamped s → IsStamped (store_from node s xs)
from_stamped node s [] h = h
from_stamped node s (x ∷ xs) h = from_stamped node (private_step node s x) xs (private_step_IsStamped node s x h)

pub come_step : (job node : ℕ) (s : Store) (x : Input) → HasCome job node s → view_of (private_step node s x) ≡ (view_step node (view_of s) x).view
come_step job node s x c = view_of_step node s x (subst IsStamped (sym c.1) (from_stamped node (no_store job) c.0 (no_store_IsStamped job)))
