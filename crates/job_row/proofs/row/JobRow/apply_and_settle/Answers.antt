use Rattle.std.proofs.Common.{refl, sym, ap, subst, ◌∙◌}
use Rattle.std.specs.Prelude.{option_to_list}
use Rattle.std.specs.Option.{option_and_then}
use Rattle.private_store.specs.rules.Tables.{at}
use Rattle.private_store.specs.rules.Copies.{extent_of}
use Rattle.job_region.specs.Region.{Region, without}
use Rattle.row_copy.specs.CopyViews.{CopyView}
use Rattle.job_row.specs.Entries.{changed}
use Rattle.job_row.specs.InSync.{is_in_sync}
use Rattle.row_copy.specs.Marks.{marked_by}
use Rattle.job_row.specs.Row.{Row, place_of, ArePlaced}
use Rattle.job_row.proofs.FollowsCopies.{changed_but, removed_but, others_followed, one_stays}
use Rattle.job_row.proofs.FreedPlaces.{left_placed, slice_is}
use Rattle.row_copy.proofs.ForCallers.{marked_lies}
use Rattle.job_row.proofs.Places.{changed_placed, now_placed}
use Rattle.job_row.proofs.Settling.{none_over, one_over, copies_kept, copies_over}
use Rattle.job_row.proofs.row.JobRow.apply_and_settle.Goals as goal

pub settle-settled-requires : goal.settle-settled-requires
settle-settled-requires c k found = c.requires.can k (ap (λ (r : Row). at r.copies c.args.id.now) (sym c.self.view_is) ∙ found)

pub invariant_of-self : goal.invariant_of-self
invariant_of-self c =
    let ch = changed (marked_by c.args.mark) c.self.inside.copies c.args.id.now in
    let lies = marked_lies c.args.mark c.requires.lies in
    let kept = none_over ch c.args.id.now (sym c.settle-settled.ensures.removed ∙ c.in_default.is) in
    let same = c.settle-settled.ensures.copies ∙ copies_kept ch c.args.id.now kept in (
      now_placed c.self.inside.window.placed c.self.inside.copies c.self.invariant.0 (marked_by c.args.mark) lies c.args.id.now c.settle-settled.new.self same,
      one_stays (marked_by c.args.mark) c.args.id.now c.self.inside.copies c.settle-settled.new.self same c.settle-settled.result.eviction_info c.settle-settled.ensures.eviction_info
          c.self.inside.order c.set_info.new.self c.set_info.ensures.infos lies c.self.invariant.1,
    )

pub returns-in_default-clause-placed : goal.returns-in_default-clause-placed
returns-in_default-clause-placed c =
    subst (λ (r : Row). ArePlaced r.window.placed (place_of (changed (marked_by c.args.mark) r.copies c.args.id.now))) c.self.view_is
    (changed_placed c.self.inside.window.placed c.self.inside.copies c.self.invariant.0 (marked_by c.args.mark) (marked_lies c.args.mark c.requires.lies) c.args.id.now)

pub invariant_of-self-in_err-number : goal.invariant_of-self-in_err-number
invariant_of-self-in_err-number c =
    let ch = changed (marked_by c.args.mark) c.self.inside.copies c.args.id.now in
    let lies = marked_lies c.args.mark c.requires.lies in
    let one = one_over ch c.args.id.now c.in-Some.copy (sym c.settle-settled.ensures.removed ∙ c.in-Some.is) in
    let left = c.settle-settled.ensures.copies ∙ copies_over ch c.args.id.now one.1 in
    let gone = slice_is c.extent-gone.result c.as_slice.result.now c.as_slice.ensures ∙ ap option_to_list (c.extent-gone.ensures ∙ ap (λ (k : CopyView). extent_of k.copy) c.in-Some.copy-is ∙ sym (ap (option_and_then (λ (k : CopyView). extent_of k.copy)) one.0)) in
    let window = c.give_back_all.ensures ∙ ap (λ gs. record c.self.inside.window { placed = without gs c.self.inside.window.placed }) gone in (
      subst (λ (w : Region). ArePlaced w.placed (place_of c.settle-settled.new.self)) (sym window)
          (subst (λ t. ArePlaced (without (option_to_list (place_of ch c.args.id.now)) c.self.inside.window.placed) (place_of t)) (sym left)
          (left_placed c.self.inside.window.placed ch (changed_placed c.self.inside.window.placed c.self.inside.copies c.self.invariant.0 (marked_by c.args.mark) lies c.args.id.now) c.args.id.now)),
      c.forget.ensures.infos (is_in_sync c.settle-settled.new.self)
          (others_followed c.args.id.now c.self.inside.copies c.settle-settled.new.self
          (λ q apart. removed_but ch c.settle-settled.new.self c.args.id.now left q apart ∙ changed_but (marked_by c.args.mark) c.self.inside.copies ch c.args.id.now refl q apart) c.self.inside.order c.self.invariant.1),
    )

pub returns-in_err-number-clause-placed : goal.returns-in_err-number-clause-placed
returns-in_err-number-clause-placed c =
    subst (λ (r : Row). ArePlaced r.window.placed (place_of (changed (marked_by c.args.mark) r.copies c.args.id.now))) c.self.view_is
    (changed_placed c.self.inside.window.placed c.self.inside.copies c.self.invariant.0 (marked_by c.args.mark) (marked_lies c.args.mark c.requires.lies) c.args.id.now)

pub invariant_of-self-2 : goal.invariant_of-self-2
invariant_of-self-2 c =
    let ch = changed (marked_by c.args.mark) c.self.inside.copies c.args.id.now in
    let lies = marked_lies c.args.mark c.requires.lies in
    let one = one_over ch c.args.id.now c.in-Some.copy (sym c.settle-settled.ensures.removed ∙ c.in-Some.is) in
    let left = c.settle-settled.ensures.copies ∙ copies_over ch c.args.id.now one.1 in
    let gone = slice_is c.extent-gone.result c.as_slice.result.now c.as_slice.ensures ∙ ap option_to_list (c.extent-gone.ensures ∙ ap (λ (k : CopyView). extent_of k.copy) c.in-Some.copy-is ∙ sym (ap (option_and_then (λ (k : CopyView). extent_of k.copy)) one.0)) in
    let window = c.give_back_all.ensures ∙ ap (λ gs. record c.self.inside.window { placed = without gs c.self.inside.window.placed }) gone in (
      subst (λ (w : Region). ArePlaced w.placed (place_of c.settle-settled.new.self)) (sym window)
          (subst (λ t. ArePlaced (without (option_to_list (place_of ch c.args.id.now)) c.self.inside.window.placed) (place_of t)) (sym left)
          (left_placed c.self.inside.window.placed ch (changed_placed c.self.inside.window.placed c.self.inside.copies c.self.invariant.0 (marked_by c.args.mark) lies c.args.id.now) c.args.id.now)),
      c.forget.ensures.infos (is_in_sync c.settle-settled.new.self)
          (others_followed c.args.id.now c.self.inside.copies c.settle-settled.new.self
          (λ q apart. removed_but ch c.settle-settled.new.self c.args.id.now left q apart ∙ changed_but (marked_by c.args.mark) c.self.inside.copies ch c.args.id.now refl q apart) c.self.inside.order c.self.invariant.1),
    )

pub returns-clause-placed : goal.returns-clause-placed
returns-clause-placed c =
    subst (λ (r : Row). ArePlaced r.window.placed (place_of (changed (marked_by c.args.mark) r.copies c.args.id.now))) c.self.view_is
    (changed_placed c.self.inside.window.placed c.self.inside.copies c.self.invariant.0 (marked_by c.args.mark) (marked_lies c.args.mark c.requires.lies) c.args.id.now)
