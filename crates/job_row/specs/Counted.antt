-- What copies take of the window and of the device, as it is counted.
use Rattle.std.specs.Prelude.{ℕ, ◌+◌, ◌-◌, ◌^◌, ◌<◌, ◌≤◌, min, sum_by}
use Rattle.private_store.specs.rules.Tables.{ById}
use Rattle.job_row.specs.declared.footprint.Footprint.{Footprint}
use Rattle.row_copy.specs.CopyViews.{CopyView}
use Rattle.row_copy.specs.Usages.{window_bytes, device_bytes}

-- a number, as far as 64 bits have room for it
abbrev pub capped : ℕ → ℕ
capped n = min n (2 ^ 64 - 1)

-- what no copy takes
abbrev pub nothing : Footprint
nothing = record { window = 0; device = 0 }

-- what one copy takes
abbrev pub footprint_by : CopyView → Footprint
footprint_by kept = record { window = capped (window_bytes kept); device = capped (device_bytes kept) }

-- the sum over all copies
abbrev pub capped_sum : (CopyView → ℕ) → ById CopyView → ℕ
capped_sum bytes table = sum_by (λ e. capped (bytes e.1)) table

-- what all of them take
abbrev pub footprint_of : ById CopyView → Footprint
footprint_of table = record { window = capped_sum window_bytes table; device = capped_sum device_bytes table }

-- with the one part in place of the other
abbrev pub exchanged : Footprint → Footprint → Footprint → Footprint
exchanged taken before after =
    record { window = taken.window - before.window + after.window; device = taken.device - before.device + after.device }

-- what is exchanged is part of it, and the sums stay small
pub record CanExchange (taken before after : Footprint) : Type 0 where
  pub window : before.window ≤ taken.window
  pub device : before.device ≤ taken.device
  pub window_fits : taken.window + after.window < 2 ^ 128
  pub device_fits : taken.device + after.device < 2 ^ 128
