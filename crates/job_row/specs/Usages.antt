-- What Usage tells of a row.
use Rattle.std.specs.Prelude.{ℕ, ◌-◌, ◌^◌, min, sum_by}
use Rattle.private_store.specs.rules.Tables.{ById}
use Rattle.row_copy.specs.CopyViews.{CopyView}

-- the sum over all copies, as far as 64 bits have room for their number
abbrev pub total : (CopyView → ℕ) → ById CopyView → ℕ
total bytes table = min (sum_by (λ e. bytes e.1) table) (2 ^ 64 - 1)
