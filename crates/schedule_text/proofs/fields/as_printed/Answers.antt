use Rattle.std.proofs.Common.{rules, ◌≡◌, ℕ, ◌<◌, get_or, IsTrue}
use Rattle.hex.specs.Hex.{encode_lower}
use Rattle.schedule_text.proofs.BytesFields.{Reads-printed, Reads-unprinted}
use Rattle.schedule_text.proofs.fields.as_printed.Goals as goal

pub returns-in_ok-from_vec : goal.returns-in_ok-from_vec
returns-in_ok-from_vec c =
    let same = c.in_ok-is_printed.ensures.same.0 (search rules) in
    let are_bytes : (i : ℕ) → get_or c.args.bytes.items i 0 < 256 = rw c.deref.ensures.value at c.is_printed.ensures.bytes in
    let printed : encode_lower c.args.bytes.items ≡ c.args.field.now = rw c.deref.ensures.value at same.1 in
    rw c.in_ok-from_vec.ensures.ok (Reads-printed c.args.field.now c.args.bytes.items c.requires.decoded c.requires.other are_bytes printed same.0)

pub returns-else-branch : goal.returns-else-branch
returns-else-branch c =
    Reads-unprinted c.args.field.now c.args.bytes.items c.requires.decoded c.requires.other (λ some printed.
    let no : IsTrue c.in_ok-is_printed.field-0 = c.in_ok-is_printed.ensures.same.1 (some, (rw c.deref.ensures.value printed)) in
    cc (no, c.if-branch.false))
