use Rattle.std.proofs.Common.{◌≡◌, ◌∷◌, drop, take, sym, ap, ◌∙◌}
use Rattle.std.proofs.Math.Seq.{take-length}
use Rattle.wire_frames.specs.Filled.{filled_item}
use Rattle.wire_frames.specs.Reading.{fed_by}
use Rattle.wire_frames.proofs.Finishing.{fed-whole_frame, rest_taken}
use Rattle.wire_frames.proofs.reader.read_after.Goals as goal

pub returns-clause-fed : goal.returns-clause-fed
returns-clause-fed c =
    let kept = c.args.kept.now.items in
    let following = c.args.following.now in
    let f = c.in_ok-items.field-0 in
    let whole : c.in_ok-body.body ≡ kept = c.in_ok-body.ensures.front ∙ ap (λ n. take n kept) c.len.ensures.value ∙ take-length kept in
    let body : c.advance.new.self ≡ drop 5 kept = c.advance.ensures ∙ ap (drop 5) whole in
    let first : c.shared.result ≡ filled_item c.args.said (drop 5 kept) = c.shared.ensures ∙ ap (filled_item c.args.said) body in
    let items : c.insert.new.list.items ≡ filled_item c.args.said (drop 5 kept) ∷ f.items.items =
    c.in_ok-insert.ensures.items ∙ ap (λ xs. c.shared.result ∷ xs) c.reserve.ensures.items ∙ ap (λ x. x ∷ f.items.items) first in
    let left : c.in_ok-left.left.items ≡ drop f.used following = c.in_ok-left.ensures ∙ rest_taken following f.used in
    fed-whole_frame c.args.said kept following f.items.items f.faulty (drop f.used following) c.requires c.in_ok-items.ensures.stream
    ∙ ap (λ xs. fed_by xs f.faulty (drop f.used following)) (sym items)
    ∙ ap (λ rest. fed_by c.insert.new.list.items f.faulty rest) (sym left)
