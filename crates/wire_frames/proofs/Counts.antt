-- A list of items has no more items than their bytes.
use Rattle.std.proofs.Common.{◌≤◌, ℕ, List, [], ◌∷◌, ◌++◌, length, flat_map, arith, length-append}
use Rattle.obj_id.specs.Ids.{id_bytes}
use Rattle.obj_id.specs.declared.commands.OwnItem.{OwnItem}
use Rattle.obj_id.specs.declared.commands.GrantedItem.{GrantedItem}
use Rattle.private_store.specs.rules.Frames.{be4, granted_bytes, kind_byte, own_bytes, state_byte}

items_below : {A : Type 0} (f : A → List ℕ) → ((x : A) → 1 ≤ length (f x)) → (xs : List A) → length xs ≤ length (flat_map f xs)
items_below f some [] = omega arith
items_below f some (x ∷ xs) = omega (arith, some x, items_below f some xs, length-append (f x) (flat_map f xs))

pub own_items_below : (xs : List OwnItem) → length xs ≤ length (flat_map own_bytes xs)
own_items_below xs = items_below own_bytes (λ x. omega (arith, length-append (id_bytes x.id) (state_byte x.state ∷ kind_byte x.kind ∷ be4 x.length))) xs

pub granted_items_below : (xs : List GrantedItem) → length xs ≤ length (flat_map granted_bytes xs)
granted_items_below xs = items_below granted_bytes (λ x. omega (arith, length-append (id_bytes x.id ++ be4 x.length) (x.depth ∷ []))) xs
