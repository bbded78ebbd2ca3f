-- The laws at every moment of a trace.
use Rattle.std.proofs.Common.{◌≡◌, ℕ, List, [], ◌∷◌, ◌++◌, append_assoc, sym, subst, ◌∙◌}
use Rattle.private_store.specs.declared.schedules.Traced.{Traced}
use Rattle.run_laws.specs.Standing.{ArePrivate}
use Rattle.run_laws.specs.Moments.{AtEachMoment}
use Rattle.run_laws.proofs.Lengths.{have_grants}
use Rattle.run_laws.proofs.Beginnings.{beginning_private}
use Rattle.run_laws.proofs.WhatIsSeen.{ends_there, sees_what_is_led}
use Rattle.run_laws.proofs.HeldOnTo.{holds_on}
use Rattle.run_laws.proofs.ShownBytes.{shows_what_is, granted_bytes_stay}

pub each_moment : (nodes : ℕ) (trace : List Traced) → ArePrivate nodes trace → AtEachMoment nodes trace
each_moment nodes trace h = record {
  table = λ node before after is. have_grants nodes node before (until before after is);
  seen = λ node before after is. sees_what_is_led nodes node before (until before after is);
  ended = λ node before after is e test ending. ends_there nodes node before e test (until before after is) ending;
  held = λ node before after is. holds_on nodes node before (until before after is);
  shown = λ node before after is. shows_what_is nodes node before (until before after is);
  stay = λ node before after entry is. granted_bytes_stay nodes node before entry (until (before ++ entry ∷ []) after (append_assoc before (entry ∷ []) after ∙ is));
}
  where
    until : (before after : List Traced) → before ++ after ≡ trace → ArePrivate nodes before
    until before after is = beginning_private nodes before after (subst (ArePrivate nodes) (sym is) h)
