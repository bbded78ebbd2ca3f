use Rattle.std.proofs.Common.{is_some, refl, sym, ap, subst, ◌∙◌}
use Rattle.std.specs.List.Sorted.{IsPermutation}
use Rattle.job_region.specs.Region.{without}
use Rattle.store_facts.proofs.Tests.{true_false}
use Rattle.room_commands.proofs.Placements.{left_without, place_without}
use Rattle.job_row.proofs.ForCallers.{gone}
use Rattle.room_commands.proofs.Rooms.{same_place}
use Rattle.room_commands.proofs.room.place_of_victims.Goals as goal

pub returns-in_default-clause-ok : goal.returns-in_default-clause-ok
returns-in_default-clause-ok c beside contents h makes =
    let row = c.args.row.now in
    let permuted = subst (λ ids. IsPermutation (gone c.copies.result.now ids) c.in_ok-gone.gone.items) c.as_slice.ensures c.in_ok-gone.ensures.permutation in
    let left = ap (λ gs. without gs row.window.placed) c.deref.ensures.value ∙ left_without row c.copies.result.now c.copies.ensures.copies c.args.victims c.in_ok-gone.gone.items permuted in
    let none = place_without row c.args.len c.args.victims c.deref.result.now left c.window.result.now c.window.ensures c.fits_without.result c.fits_without.ensures ∙ c.in_default.is in
    true_false (sym (ap is_some none) ∙ ap is_some (same_place row beside contents h c.args.len c.args.victims makes c.copies.ensures.placed) ∙ makes.place)

pub returns-clause-place : goal.returns-clause-place
returns-clause-place c line =
    let row = c.args.row.now in
    let permuted = subst (λ ids. IsPermutation (gone c.copies.result.now ids) c.in_ok-gone.gone.items) c.as_slice.ensures c.in_ok-gone.ensures.permutation in
    let leaves = left_without row c.copies.result.now c.copies.ensures.copies c.args.victims c.in_ok-gone.gone.items permuted in
    let left = ap (λ gs. without gs row.window.placed) c.deref.ensures.value ∙ leaves in
    let place = place_without row c.args.len c.args.victims c.deref.result.now left c.window.result.now c.window.ensures c.fits_without.result c.fits_without.ensures ∙ c.in-Some.is in
    (refl, refl, c.requires, record { gone = leaves; rising = c.in_ok-gone.ensures.rising; first = place })
