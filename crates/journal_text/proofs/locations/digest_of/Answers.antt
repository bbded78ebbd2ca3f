use Rattle.std.proofs.Common.{◌≡◌, Ok, Some, ap, ◌∙◌, sym}
use Rattle.hex.proofs.HexLemmas.{decode_sized-encode_lower}
use Rattle.hex.specs.Hex.{decode_sized, encode_lower}
use Rattle.journal_text.proofs.locations.digest_of.Goals as goal

pub returns-in_default-clause-read : goal.returns-in_default-clause-read
returns-in_default-clause-read c digest is spelled =
    let decoded : c.from_hex.result ≡ Ok digest.0 =
    c.from_hex.ensures ∙ ap (λ text. decode_sized text 32) (sym spelled) ∙ decode_sized-encode_lower digest.0 32 is.digest_length is.digest_bytes in
    cc (c.in_default.is)

pub returns-then-not-is_lower_case-clause-read : goal.returns-then-not-is_lower_case-clause-read
returns-then-not-is_lower_case-clause-read c digest is spelled =
    let decoded : c.from_hex.result ≡ Ok digest.0 =
    c.from_hex.ensures ∙ ap (λ text. decode_sized text 32) (sym spelled) ∙ decode_sized-encode_lower digest.0 32 is.digest_length is.digest_bytes in
    let same : c.in-Ok.bytes ≡ digest.0 = cc (c.in-Ok.is) in
    let lower = c.is_lower_case.ensures.1 (ap encode_lower same ∙ spelled) in
    cc (c.if-not-is_lower_case.true)

pub returns-clause-read : goal.returns-clause-read
returns-clause-read c digest is spelled =
    let decoded : c.from_hex.result ≡ Ok digest.0 =
    c.from_hex.ensures ∙ ap (λ text. decode_sized text 32) (sym spelled) ∙ decode_sized-encode_lower digest.0 32 is.digest_length is.digest_bytes in
    let same : c.in-Ok.bytes ≡ digest.0 = cc (c.in-Ok.is) in
    ap (λ bytes. Some (record { 0 = bytes })) same
