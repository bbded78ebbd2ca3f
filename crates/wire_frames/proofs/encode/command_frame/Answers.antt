use Rattle.std.proofs.Common.{◌<◌, ◌≤◌, ◌∷◌, ◌++◌, ℕ, List, length, subst, arith, length-append}
use Rattle.std.specs.Prelude.{IsTrue, nat_le}
use Rattle.std.proofs.lemmas.Bool.{and_parts, leb-true}
use Rattle.obj_id.specs.Ids.{id_bytes}
use Rattle.private_store.specs.rules.Frames.{be4, command_body, is_command_length}
use Rattle.wire_frames.proofs.encode.command_frame.Goals as goal

fits_after : (kind : ℕ) (front bytes : List ℕ) → IsTrue (is_command_length (length ((kind ∷ front) ++ bytes))) → length bytes < 65600
fits_after kind front bytes h =
    let n = length ((kind ∷ front) ++ bytes) in
    let most : n ≤ 65600 = leb-true n 65600 (and_parts (nat_le 1 n) (nat_le n 65600) h).1 in
    omega (arith, length-append front bytes)

pub write-requires : goal.write-requires
write-requires c =
    let whole = subst (λ x. IsTrue (is_command_length (length (command_body x)))) c.in-Write.is c.requires in
    rw c.as_slice.ensures (fits_after 3 (id_bytes c.in-Write.id ++ be4 c.in-Write.offset) c.in-Write.bytes whole)
