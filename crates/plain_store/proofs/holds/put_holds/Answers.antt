use Rattle.std.proofs.Common.{◌∙◌, sym, ap, subst, arith}
use Rattle.plain_store.specs.Sessions.{IsHoldPlace}
use Rattle.plain_store.proofs.SessionPuts.{put-same, put-new}
use Rattle.plain_store.proofs.holds.put_holds.Goals as goal
use Rattle.plain_store.proofs.holds.put_holds.Goals.{else-place-len-via-then-place-len+else-index-session, else-place-len-via-else-place-len}

pub returns-then-index-session : goal.returns-then-index-session
returns-then-index-session c =
    let p = subst (λ holds. IsHoldPlace holds c.args.session c.place_of-place.result) c.deref.ensures.value c.place_of-place.ensures in
    sym (put-same c.args.session c.args.count c.args.holds.now.items c.place_of-place.result c.index.result.now p.below
    (omega (arith, c.if-place-len.true, c.len.ensures)) (ap (λ e. e.0) (sym c.index.ensures) ∙ c.if-index-session.true))

pub returns : goal.returns
returns c =
    let p = subst (λ holds. IsHoldPlace holds c.args.session c.place_of-place.result) c.deref.ensures.value c.place_of-place.ensures in
    let put = put-new c.args.session c.args.count c.args.holds.now.items c.place_of-place.result in
    c.in_ok-insert.ensures.items
    ∙ sym (elim c.else-place-len.branch [
      | else-place-len-via-then-place-len+else-index-session w ↦ put w.index.result.now p.below p.within (λ lt. let stops = p.stops w.index.result.now lt in let at = ap (λ e. e.0) w.index.ensures in omega (arith, stops, at, w.if-index-session.false))
      | else-place-len-via-else-place-len w ↦ put (0, 0) p.below p.within (λ lt. absurd (omega (arith, lt, w.if-place-len.false, c.len.ensures)))
    ])
