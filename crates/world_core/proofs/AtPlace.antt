-- A node of a world, found by its place, and what a step of it leaves of what was sent.
use Rattle.std.proofs.Common.{◌≡◌, ℕ, ◌<◌, length, Some, slice_get, slice_set, refl, sym, ap, subst, ◌∙◌}
use Rattle.std.specs.Prelude.{Result, Ok, Err, OnErr, get_or}
use Rattle.std.proofs.lemmas.Option.{slice_get_read}
use Rattle.store_facts.proofs.Tests.{some_value}
use Rattle.node_core.specs.Hosted.{Hosted}
use Rattle.world_core.specs.Worlds.{Hosting}

-- what holds whatever comes, holds on an error
pub always_err : {A E P : Type 0} (r : Result A E) → P → OnErr r P
always_err (Ok x) h = tt
always_err (Err e) h = h

-- the world as it is kept, which shows the old one, and its node at the place
module _ (kept old : Hosting) (shown_as : kept ≡ old) (place : ℕ) (before : Hosted) (within : place < length old.nodes) (read : before ≡ get_or kept.nodes place before) where
  pub found_at : slice_get old.nodes place ≡ Some before
  found_at =
      ap (λ (w : Hosting). slice_get w.nodes place) (sym shown_as)
      ∙ slice_get_read kept.nodes (length kept.nodes) place before refl (subst (λ (w : Hosting). place < length w.nodes) (sym shown_as) within) read

  -- what is so of that node is so of each that is found there
  pub of_found : (P : Hosted → Type 0) → P before → (node : Hosted) → slice_get old.nodes place ≡ Some node → P node
  of_found P h node is = subst P (some_value before node (sym found_at ∙ is)) h

  pub nodes_with : (after : Hosted) → slice_set kept.nodes place after ≡ slice_set old.nodes place after
  nodes_with after = ap (λ (w : Hosting). slice_set w.nodes place after) shown_as
