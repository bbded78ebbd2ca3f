use Rattle.std.proofs.Common.{◌≡◌, ◌*◌, IsTrue, length, flat_map, subst, sym, ap, ◌∙◌}
use Rattle.private_store.specs.laws.Answers.{is_small_reply}
use Rattle.private_store.specs.rules.Frames.{own_bytes, granted_bytes}
use Rattle.wire_frames.specs.Writing.{has_reply_frame}
use Rattle.session_threads.proofs.SmallLists.{small_list}
use Rattle.session_threads.proofs.frames.framed.Goals as goal

pub returns-in-List-clause-frame : goal.returns-in-List-clause-frame
returns-in-List-clause-frame c =
    let own = subst (λ l. length (flat_map own_bytes l) ≡ 34 * length l) c.as_slice.ensures c.own_items_fit.ensures in
    let granted = subst (λ l. length (flat_map granted_bytes l) ≡ 33 * length l) c.as_slice-in-List.ensures c.granted_items_fit.ensures in
    subst (λ r. IsTrue (has_reply_frame r)) (sym c.in-List.is)
    (small_list c.in-List.own c.in-List.granted own granted (ap is_small_reply (sym c.in-List.is) ∙ c.requires))
