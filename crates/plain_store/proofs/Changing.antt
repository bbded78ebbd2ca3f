-- A store with other copies, and what is lent of one.
use Rattle.std.proofs.Common.{◌≡◌, ap, inl, inr, refl, Option, Some, None, MutBor}
use Rattle.std.specs.Option.{ghost_name_of}
use borrow.Follows.Closed.{read_of}
use Rattle.private_store.specs.rules.Tables.{ById}
use Rattle.private_store.specs.rules.Shape.{Copy}
use Rattle.private_store.specs.rules.Replay.{ReplayState}

abbrev pub with_copies : ReplayState → ById Copy → ReplayState
with_copies replay_state copies = record replay_state { shape = record replay_state.shape { copies = copies } }

-- a lender that ends alike in both cases
pub lent : {D E : Type 0} (o : Option (MutBor E)) (F G : E → D) (v u : D) → ((x : MutBor E) → o ≡ Some x → (w : E) → F w ≡ G w) → (o ≡ None → v ≡ u)
    → read_of (ghost_name_of o) F v ≡ read_of (ghost_name_of o) G u
lent None F G v u some none = ap inr (none refl)
lent (Some x) F G v u some none = ap (λ H. inl (x.ghost_name, H)) (λ i w. some x refl w i)
