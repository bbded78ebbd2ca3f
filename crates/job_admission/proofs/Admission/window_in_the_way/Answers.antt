use Rattle.std.proofs.Common.{map, ap, sym, ◌∙◌}
use Rattle.std.specs.Prelude.{find}
use Rattle.std.specs.List.{list_all}
use Rattle.private_store.specs.laws.Invariants.{is_placed}
use Rattle.job_admission.specs.Admissions.{Admissions, window_of, windows}
use Rattle.job_admission.proofs.Search.{is_in_the_way}
use Rattle.job_admission.proofs.AllKept.{values_placed, windows-values}
use Rattle.job_admission.proofs.Admission.window_in_the_way.Goals as goal

pub loop-live-init : goal.loop-live-init
loop-live-init c =
    let values = c.into_iter-live-iterator.ensures.into_iter_gives ∙ c.values-live-items.ensures.rest in
    record {
      rest = ap (λ lives. find (is_in_the_way c.args.bytes) (map window_of lives)) values
          ∙ ap (find (is_in_the_way c.args.bytes)) (windows-values c.self.inside.live.entries)
          ∙ ap (λ a. find (is_in_the_way c.args.bytes) (windows a.live)) c.self.view_is;
      placed = ap (list_all (λ live. is_placed c.args.self.now.memory (window_of live))) values
          ∙ ap (λ (a : Admissions). list_all (λ live. is_placed a.memory (window_of live)) (map (λ e. e.1) c.self.inside.live.entries)) (sym c.self.view_is)
          ∙ values_placed c.self.inside.memory c.self.inside.greatest c.self.inside.live.entries c.self.invariant.each;
    }
