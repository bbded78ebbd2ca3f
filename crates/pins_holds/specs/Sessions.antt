-- The holds on one copy: how many each session has, by rising session.
use Rattle.std.specs.Prelude.{ℕ, ◌+◌, ◌==◌, if◌then◌else◌, List, fold, unwrap_or}
use Rattle.std.specs.Ordering.{nat_cmp}
use Rattle.std.specs.FinMap.{find, put}
use Rattle.obj_id.specs.declared.commands.CopyState.TheVariants.{Sealed}
use Rattle.private_store.specs.rules.Marks.{without_session}
use Rattle.private_store.specs.laws.Invariants.{AreHoldsKept}

-- how many the session has
abbrev pub count_of : List (ℕ × ℕ) → ℕ → ℕ
count_of holds session = unwrap_or (find nat_cmp session holds) 0

-- n holds of the session, where none means no entry
abbrev pub with_count : List (ℕ × ℕ) → ℕ → ℕ → List (ℕ × ℕ)
with_count holds session n = if n == 0 then without_session holds session else put nat_cmp session n holds

-- how many all sessions have
abbrev pub sessions_total : List (ℕ × ℕ) → ℕ
sessions_total holds = fold (λ n e. n + e.1) 0 holds

-- sessions rise, each has a hold at least, and all together at most 64: what a sealed copy keeps
abbrev pub AreHolds : List (ℕ × ℕ) → Type 0
AreHolds holds = AreHoldsKept Sealed holds
