-- Fields that begin with a mark.
use Rattle.std.proofs.Common.{◌≢◌, ℕ, List, [], ◌∷◌, None, sym}
use Rattle.schedule_text.specs.Fields.{Reads}
use Rattle.journal_text.specs.Fields.{IsCount, HasMark}

-- a field without the mark is no marked number
pub Reads-unmarked : (mark : ℕ) (field : List ℕ) → ((rest : List ℕ) → field ≢ mark ∷ rest) → Reads {X = ℕ} None (HasMark (mark ∷ []) field)
Reads-unmarked mark field unmarked = record { sound = tt; whole = λ n is. absurd (unmarked _ (sym is.spelled)) }

-- nor is one without `#` a number of bytes
pub Reads-uncounted : (field : List ℕ) → ((rest : List ℕ) → field ≢ 35 ∷ rest) → Reads {X = ℕ} None (IsCount field)
Reads-uncounted field unmarked = record { sound = tt; whole = λ n is. absurd (unmarked _ (sym is.spelled)) }
