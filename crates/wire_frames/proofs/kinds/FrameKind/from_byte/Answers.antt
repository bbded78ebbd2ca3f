use Rattle.std.proofs.Common.{rules, ◌≡◌, ◌+◌, ◌-◌, Some, subst, sym, ap, ◌∙◌, arith}
use Rattle.std.specs.Prelude.{IfSome, slice_get}
use Rattle.store_facts.proofs.Ids.{option_copied-item}
use Rattle.wire_frames.specs.Kinds.{command_byte}
use Rattle.wire_frames.proofs.KindTables.{all_kinds, byte_at}
use Rattle.wire_frames.proofs.kinds.FrameKind.from_byte.Goals as goal

looked_up : (c : goal.In_ok-kind) → slice_get all_kinds (c.args.byte - 2) ≡ Some c.in_ok-kind.kind
looked_up c =
    let place : c.from.result ≡ c.args.byte - 2 = search rules in
    sym (c.copied.ensures ∙ option_copied-item all_kinds c.from.result c.get.result c.get.ensures.lookup ∙ ap (slice_get all_kinds) place) ∙ c.in_ok-kind.was

pub returns-clause-found : goal.returns-clause-found
returns-clause-found c =
    let byte : 2 + (c.args.byte - 2) ≡ c.args.byte = omega (arith, c.in_ok-index.ensures.0) in
    subst (λ o. IfSome o (λ k. command_byte k ≡ 2 + (c.args.byte - 2))) (looked_up c) (byte_at (c.args.byte - 2)) ∙ byte
