-- What a step gives, as the private step has it.
use Rattle.row_steps.specs.declared.outcome.RowOutcome.{RowOutcome}
use Rattle.row_steps.specs.Erased.{keys_of}
use Rattle.row_steps.specs.Shown.{RowGiven}

abbrev pub row_given_of : RowOutcome → RowGiven
row_given_of o = record { reply = o.reply; posts = o.messages; erased = keys_of o.erase }
