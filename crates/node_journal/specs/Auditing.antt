-- Which receipts are counted as missing.
use Rattle.std.specs.Prelude.{Bool, true, false}
use Rattle.node_journal.specs.declared.entries.Agreement.{Agreement}
use Rattle.node_journal.specs.declared.entries.Agreement.TheVariants.{Yes, No, Folded}

-- the journal says that the entry isn't there
abbrev pub is_no : Agreement → Bool
is_no Yes = false
is_no No = true
is_no Folded = false
