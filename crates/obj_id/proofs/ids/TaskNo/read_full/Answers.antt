use Rattle.std.proofs.Common.{◌≡◌, Ok, ap, ◌∙◌, sym}
use Rattle.hex.proofs.HexLemmas.{decode_sized-encode_lower}
use Rattle.hex.specs.Hex.{decode_sized, encode_lower}
use Rattle.obj_id.proofs.ids.TaskNo.read_full.Goals as goal

pub returns-in_default-clause-read : goal.returns-in_default-clause-read
returns-in_default-clause-read c task is spelled =
    let decoded : c.from_hex.result ≡ Ok task.0 =
    c.from_hex.ensures ∙ ap (λ text. decode_sized text 20) (sym spelled) ∙ decode_sized-encode_lower task.0 20 is.task_length is.task_bytes in
    cc (c.in_default.is)

pub returns-then-not-is_lower_case-clause-read : goal.returns-then-not-is_lower_case-clause-read
returns-then-not-is_lower_case-clause-read c task is spelled =
    let decoded : c.from_hex.result ≡ Ok task.0 =
    c.from_hex.ensures ∙ ap (λ text. decode_sized text 20) (sym spelled) ∙ decode_sized-encode_lower task.0 20 is.task_length is.task_bytes in
    let same : c.in-Ok.bytes ≡ task.0 = cc (c.in-Ok.is) in
    let lower = c.is_lower_case.ensures.1 (ap encode_lower same ∙ spelled) in
    cc (c.if-not-is_lower_case.true)

pub returns-clause-read : goal.returns-clause-read
returns-clause-read c task is spelled =
    let decoded : c.from_hex.result ≡ Ok task.0 =
    c.from_hex.ensures ∙ ap (λ text. decode_sized text 20) (sym spelled) ∙ decode_sized-encode_lower task.0 20 is.task_length is.task_bytes in
    let same : c.in-Ok.bytes ≡ task.0 = cc (c.in-Ok.is) in
    λ i. Ok (record { 0 = same i })
