use Rattle.std.proofs.Common.{◌≡◌, Ok, ap, ◌∙◌, sym}
use Rattle.hex.proofs.HexLemmas.{decode_sized-encode_lower}
use Rattle.hex.specs.Hex.{decode_sized, encode_lower}
use Rattle.obj_id.proofs.IdBytes.{bytes-id_bytes, length-id_bytes}
use Rattle.obj_id.specs.Ids.{id_bytes}
use Rattle.obj_id.proofs.ids.ObjectId.read_full.Goals as goal

pub returns-in_default-clause-read : goal.returns-in_default-clause-read
returns-in_default-clause-read c id is spelled =
    let decoded : c.from_hex.result ≡ Ok (id_bytes id) =
    c.from_hex.ensures ∙ ap (λ text. decode_sized text 28) (sym spelled) ∙ decode_sized-encode_lower (id_bytes id) 28 (length-id_bytes id is) (bytes-id_bytes id is) in
    cc (c.in_default.is)

pub returns-then-not-is_lower_case-clause-read : goal.returns-then-not-is_lower_case-clause-read
returns-then-not-is_lower_case-clause-read c id is spelled =
    let decoded : c.from_hex.result ≡ Ok (id_bytes id) =
    c.from_hex.ensures ∙ ap (λ text. decode_sized text 28) (sym spelled) ∙ decode_sized-encode_lower (id_bytes id) 28 (length-id_bytes id is) (bytes-id_bytes id is) in
    let same : c.in-Ok.bytes ≡ id_bytes id = cc (c.in-Ok.is) in
    let lower = c.is_lower_case.ensures.1 (ap encode_lower same ∙ spelled) in
    cc (c.if-not-is_lower_case.true)

pub returns-clause-read : goal.returns-clause-read
returns-clause-read c id is spelled =
    let decoded : c.from_hex.result ≡ Ok (id_bytes id) =
    c.from_hex.ensures ∙ ap (λ text. decode_sized text 28) (sym spelled) ∙ decode_sized-encode_lower (id_bytes id) 28 (length-id_bytes id is) (bytes-id_bytes id is) in
    let same : c.in-Ok.bytes ≡ id_bytes id = cc (c.in-Ok.is) in
    c.from_bytes.ensures.read id is (sym same)
