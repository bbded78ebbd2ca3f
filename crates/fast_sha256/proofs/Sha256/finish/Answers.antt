use Rattle.std.proofs.Common.{◌≡◌, ℕ, ◌++◌, ◌+◌, ◌-◌, ◌*◌, ◌/◌, ◌%◌, ◌^◌, length, drop, take, length-append, length-drop, arith, inl, inr, ap, ◌∙◌}
use Rattle.std.proofs.lemmas.Bool.{cases_lt}
use Rattle.std.proofs.lemmas.List.{take_all}
use Rattle.sha2.specs.Sha256.{digest_bytes, hash_after, initial_hash_256, padded_message, sha256}
use Rattle.fast_sha256.proofs.Messages.{Holds_length, Holds_state, Holds_whole, is_padded}
use Rattle.fast_sha256.proofs.Sha256.finish.Goals as goal

pub returns : goal.returns
unfolding sha256
returns c = λ message held.
    let rest = c.args.rest.now in
    let w : ℕ = length rest / 64 * 64 in
    let tail = drop w rest in
    let last = c.padded-last.result in
    let whole : length message % 64 ≡ 0 = Holds_whole c.args.self message held in
    let bits : (c.args.self.length + length rest) % 2 ^ 64 * 8 % 2 ^ 64 ≡ length (message ++ rest) * 8 % 2 ^ 64 =
    omega (arith, length-append message rest, Holds_length c.args.self message held) in
    let long : length tail ≡ length rest % 64 = omega (arith, length-drop w rest) in
    let all_of_it : take (length rest - w) tail ≡ tail = take_all (length rest - w) tail (omega (arith, length-drop w rest)) in
    let one = rw all_of_it at c.padded-last.ensures.one in
    let two = rw all_of_it at c.padded-last.ensures.two in
    let same : length (take (length rest - w) tail) ≡ length tail = ap length all_of_it in
    let is : (message ++ take w rest) ++ take c.padded_length.result last ≡ padded_message (message ++ rest) =
    elim (cases_lt (length tail) 56) [
      | inl short ↦
          let end : c.padded_length.result ≡ 64 = c.padded_length.ensures.one (omega arith) in
          rw end (is_padded message rest last (55 - length tail) _ 64 whole bits (omega arith) (one short))
      | inr short ↦
          let end : c.padded_length.result ≡ 128 = c.padded_length.ensures.two (omega arith) in
          rw end (is_padded message rest last (119 - length tail) _ 128 whole bits (omega arith) (two short))
    ] in
    let held_all = c.update_blocks-2.ensures _ (c.update_blocks.ensures message held) in
    c.bytes_of.ensures ∙ ap (λ h. digest_bytes h 8) (Holds_state _ _ held_all ∙ ap (λ m. hash_after initial_hash_256 m (length m / 64)) is)
