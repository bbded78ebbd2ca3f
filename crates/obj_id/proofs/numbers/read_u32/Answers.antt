use Rattle.std.proofs.Common.{◌≡◌, Some, sym, ap, ◌∙◌, arith}
use Rattle.std.specs.Result.{result_ok}
use Rattle.obj_id.proofs.PrintedNumbers.{printed_parses, spelled_as_printed}
use Rattle.obj_id.proofs.numbers.read_u32.Goals as goal

pub returns-in_err-number-clause-read : goal.returns-in_err-number-clause-read
returns-in_err-number-clause-read c number fits is =
    let both = printed_parses 32 c.args.text.now (omega arith) number c.parse.result c.parse.ensures.value.0 fits is in
    let read : c.ok.result ≡ Some number = c.ok.ensures.value ∙ ap result_ok both.0 in
    cc (c.in_err-number.was)

pub returns-then-starts_as_printed-clause-printed : goal.returns-then-starts_as_printed-clause-printed
returns-then-starts_as_printed-clause-printed c =
    let read : result_ok c.parse.result ≡ Some c.in_ok-number.number = sym c.ok.ensures.value ∙ c.in_ok-number.was in
    spelled_as_printed 32 c.args.text.now (omega arith) c.in_ok-number.number c.parse.result c.parse.ensures.value.0 read (sym c.starts_as_printed.ensures ∙ c.if-starts_as_printed.true)

pub returns-then-starts_as_printed-clause-read : goal.returns-then-starts_as_printed-clause-read
returns-then-starts_as_printed-clause-read c number fits is =
    let both = printed_parses 32 c.args.text.now (omega arith) number c.parse.result c.parse.ensures.value.0 fits is in
    let read : c.ok.result ≡ Some number = c.ok.ensures.value ∙ ap result_ok both.0 in
    cc (c.in_ok-number.was)

pub returns-else-starts_as_printed-clause-read : goal.returns-else-starts_as_printed-clause-read
returns-else-starts_as_printed-clause-read c number fits is =
    let both = printed_parses 32 c.args.text.now (omega arith) number c.parse.result c.parse.ensures.value.0 fits is in
    cc (both.1, c.starts_as_printed.ensures, c.if-starts_as_printed.false)
