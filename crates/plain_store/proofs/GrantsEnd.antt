-- A grant of what others granted ends.
use Rattle.std.proofs.Common.{◌≡◌, ℕ, Bool, true, false, not, if◌then◌else◌, List, [], ◌∷◌, filter, Option, Some, None, refl, sym, ap, ◌∙◌}
use Rattle.std.specs.List.{list_any}
use Rattle.std.specs.Option.{option_map_or}
use Rattle.obj_id.specs.declared.ids.ObjectId.{ObjectId}
use Rattle.private_store.specs.rules.Tables.{at, with_entry, without_entry}
use Rattle.private_store.specs.rules.Shape.{GrantTaken, Seen}
use Rattle.private_store.specs.rules.Replay.{ReplayState}
use Rattle.private_store.specs.rules.Events.{grant_ended, is_child_of, is_the_grant, withdrawn, without_grant}
use Rattle.plain_store.specs.Granted.{forgotten, with_other_grants, store_with_seen, without_hanging, without_seen}

abbrev some_left : List GrantTaken → Bool
some_left [] = false
some_left (_ ∷ _) = true

any-filter : (q : GrantTaken → Bool) (hs : List GrantTaken) → list_any q hs ≡ some_left (filter q hs)
any-filter q [] = refl
any-filter q (h ∷ hs) = by (q h) refl (any-filter q hs)
  where
    by : (b : Bool) → q h ≡ b → list_any q hs ≡ some_left (filter q hs) → list_any q (h ∷ hs) ≡ some_left (filter q (h ∷ hs))
    by true e later = rw e refl
    by false e later = rw e later

module _ (seen : Seen) (grantor depth : ℕ) where
  abbrev other : GrantTaken → Bool
  other grant = not (is_the_grant grantor depth grant)

  left_none : filter other seen.grants ≡ [] → without_grant seen grantor depth ≡ None
  left_none e = rw (e, without_grant) refl

  left_some : (h : GrantTaken) (t : List GrantTaken) → filter other seen.grants ≡ h ∷ t → without_grant seen grantor depth ≡ Some (record seen { grants = h ∷ t })
  left_some h t e = rw (e, without_grant) refl

  -- what is left, by whether another grant stands
  pub without_grant-is : without_grant seen grantor depth ≡ (if list_any other seen.grants then Some (with_other_grants seen grantor depth) else None)
  without_grant-is = by (filter other seen.grants) refl (any-filter other seen.grants)
    where
      by : (l : List GrantTaken) → filter other seen.grants ≡ l → list_any other seen.grants ≡ some_left l → without_grant seen grantor depth ≡ (if list_any other seen.grants then Some (with_other_grants seen grantor depth) else None)
      by [] e any = left_none e ∙ sym (ap (λ b. if b then Some (with_other_grants seen grantor depth) else None) any)
      by (h ∷ t) e any = left_some h t e ∙ ap (λ l. Some (record seen { grants = l })) (sym e) ∙ sym (ap (λ b. if b then Some (with_other_grants seen grantor depth) else None) any)

  module _ (replay_state : ReplayState) (id : ObjectId) where
    by_left : (b : Bool) (o : Option Seen) → o ≡ (if b then Some (with_other_grants seen grantor depth) else None)
        → without_hanging (if b then store_with_seen replay_state id (with_other_grants seen grantor depth) else without_seen replay_state id) id grantor
        ≡ record replay_state { shape = record replay_state.shape { received = option_map_or (λ left. with_entry replay_state.shape.received id left) o (without_entry replay_state.shape.received id); given = filter (λ grant. not (is_child_of id grantor grant)) replay_state.shape.given } }
    by_left true o e = ap (λ o. record replay_state { shape = record replay_state.shape { received = option_map_or (λ left. with_entry replay_state.shape.received id left) o (without_entry replay_state.shape.received id); given = filter (λ grant. not (is_child_of id grantor grant)) replay_state.shape.given } }) (sym e)
    by_left false o e = ap (λ o. record replay_state { shape = record replay_state.shape { received = option_map_or (λ left. with_entry replay_state.shape.received id left) o (without_entry replay_state.shape.received id); given = filter (λ grant. not (is_child_of id grantor grant)) replay_state.shape.given } }) (sym e)

    -- the grant that stands is forgotten, and what hangs on it ends
    pub grant-ends : at replay_state.shape.received id ≡ Some seen → list_any (is_the_grant grantor depth) seen.grants ≡ true
        → without_hanging (forgotten replay_state id grantor depth) id grantor ≡ record replay_state { shape = (withdrawn replay_state.shape id grantor depth).shape }
    grant-ends found there =
        ap (λ o. without_hanging (option_map_or (λ (s : Seen).
        if list_any (λ grant. not (is_the_grant grantor depth grant)) s.grants then store_with_seen replay_state id (with_other_grants s grantor depth) else without_seen replay_state id) o replay_state) id grantor) found
        ∙ by_left (list_any other seen.grants) (without_grant seen grantor depth) without_grant-is
        ∙ sym (ap (λ b. record replay_state { shape = if b then grant_ended replay_state.shape id grantor depth seen else replay_state.shape }) there)
        ∙ sym (ap (λ o. record replay_state { shape = option_map_or (λ (s : Seen). if list_any (is_the_grant grantor depth) s.grants then grant_ended replay_state.shape id grantor depth s else replay_state.shape) o replay_state.shape }) found)

    -- a look-up that finds the object
    pub grant-forgotten : (t left : Seen) → at replay_state.shape.received id ≡ Some seen → list_any other seen.grants ≡ true → Some t ≡ at replay_state.shape.received id → left ≡ with_other_grants t grantor depth
        → store_with_seen replay_state id left ≡ forgotten replay_state id grantor depth
    grant-forgotten t left found any again is =
        let same : t ≡ seen = cc in
        ap (store_with_seen replay_state id) (is ∙ ap (λ (s : Seen). with_other_grants s grantor depth) same)
        ∙ sym (ap (λ b. if b then store_with_seen replay_state id (with_other_grants seen grantor depth) else without_seen replay_state id) any)
        ∙ sym (ap (λ o. option_map_or (λ (s : Seen).
        if list_any (λ grant. not (is_the_grant grantor depth grant)) s.grants then store_with_seen replay_state id (with_other_grants s grantor depth) else without_seen replay_state id) o replay_state) found)
